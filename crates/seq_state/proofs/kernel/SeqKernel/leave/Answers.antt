use Rattle.kernel_invariant.specs.kernel_rules.proofs.{◌<◌, subst, sym, ◌∙◌, ap, arith, Limits}
use Rattle.{seq_state.specs.state_of, seq_state.specs.maps_of, seq_state.specs.Maps.Maps, seq_state.proofs.TimeLemmas.leave_done}
use Rattle.{seq_state.proofs.TimeLemmas.leave_whole}
use Rattle.seq_state.proofs.MapLemmas as maps
use Rattle.seq_state.proofs.kernel.SeqKernel.leave.Goals as goal

pub returns : goal.returns
returns c =
    let e = ap (λ (l : Limits). l.cores) (maps.limits_of c.args.self.now (maps_of c.self.inside) c.self.view_is) in
    let stands = c.self.invariant.cores c.from.result (omega arith) in
    let is = c.core-value.ensures ∙ ap (λ (t : Maps). (state_of t).core c.args.core) (sym c.self.view_is) in
    rw (← c.self.view_is) (leave_done (maps_of c.self.inside) c.write_at.new.map.items c.args.core c.from.result c.from-at.result
    c.core-value.result.now c.returns.result c.self.invariant c.number.ensures.range (c.from.ensures ∙ c.number-2.ensures.value)
    (c.from-at.ensures ∙ c.number.ensures.value)
    (record { here = c.write_at.ensures.here stands; others = c.write_at.ensures.others }) is c.returns.ensures)

pub invariant_of-self : goal.invariant_of-self
invariant_of-self c =
    let e = ap (λ (l : Limits). l.cores) (maps.limits_of c.args.self.now (maps_of c.self.inside) c.self.view_is) in
    let stands = c.self.invariant.cores c.from.result (omega arith) in
    let is = c.core-value.ensures ∙ ap (λ (t : Maps). (state_of t).core c.args.core) (sym c.self.view_is) in
    let core = subst (λ (t : Maps). c.args.core < (state_of t).limits.cores) (sym c.self.view_is) c.requires in
    leave_whole (maps_of c.self.inside) c.write_at.new.map.items c.args.core c.from.result c.from-at.result
    c.core-value.result.now c.returns.result c.self.invariant c.number.ensures.range core (c.from.ensures ∙ c.number-2.ensures.value)
    (c.from-at.ensures ∙ c.number.ensures.value)
    (record { here = c.write_at.ensures.here stands; others = c.write_at.ensures.others }) is c.returns.ensures
