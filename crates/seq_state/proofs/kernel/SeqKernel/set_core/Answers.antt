use Rattle.kernel_invariant.specs.kernel_rules.proofs.{◌<◌, sym, ◌∙◌, ap, subst, arith, Limits, core_names}
use Rattle.{seq_state.specs.state_of, seq_state.specs.maps_of, seq_state.specs.Maps.Maps}
use Rattle.seq_state.proofs.MapLemmas as maps
use Rattle.seq_state.proofs.SetterLemmas as setters
use Rattle.seq_state.proofs.kernel.SeqKernel.set_core.Goals as goal

pub standing-requires : goal.standing-requires
standing-requires c =
    let e = ap (λ (l : Limits). l.cores) (maps.limits_of c.args.self.now (maps_of c.self.inside) c.self.view_is) in
    c.self.invariant.cores c.from-key.result (omega arith)

pub recount-requires-clause-some : goal.recount-requires-clause-some
recount-requires-clause-some c =
    let core = subst (λ (t : Maps). c.args.core < (state_of t).limits.cores) (sym c.self.view_is) c.requires.machine in
    setters.core_some (maps_of c.self.inside) c.args.core c.names_of_core-old.result c.self.invariant core
    (c.names_of_core-old.ensures ∙ ap core_names (maps.core_reads (maps_of c.self.inside) c.args.core c.from-key.result
    c.standing.result.now (omega arith) c.standing.ensures))

pub recount-requires-clause-room : goal.recount-requires-clause-room
recount-requires-clause-room c = setters.has_room (maps_of c.self.inside) c.self.invariant

pub returns : goal.returns
returns c =
    let e = ap (λ (l : Limits). l.cores) (maps.limits_of c.args.self.now (maps_of c.self.inside) c.self.view_is) in
    let stands = c.self.invariant.cores c.from-key.result (omega arith) in
    let same = c.requires.inside ∙ ap (λ (t : Maps). ((state_of t).core c.args.core).inside) (sym c.self.view_is)
    ∙ maps.is_inside_of (maps_of c.self.inside) c.args.core in
    rw (← c.self.view_is)
    (setters.core_written (maps_of c.self.inside) c.write_at.new.map.items c.recount.new.counts.items c.args.core c.from-key.result
    c.args.value (omega arith) (record { here = c.write_at.ensures.here stands; others = c.write_at.ensures.others }) same)

pub invariant_of-self : goal.invariant_of-self
invariant_of-self c =
    let e = ap (λ (l : Limits). l.cores) (maps.limits_of c.args.self.now (maps_of c.self.inside) c.self.view_is) in
    let core = subst (λ (t : Maps). c.args.core < (state_of t).limits.cores) (sym c.self.view_is) c.requires.machine in
    let stands = c.self.invariant.cores c.from-key.result (omega arith) in
    let same = c.requires.inside ∙ ap (λ (t : Maps). ((state_of t).core c.args.core).inside) (sym c.self.view_is)
    ∙ maps.is_inside_of (maps_of c.self.inside) c.args.core in
    setters.cores_whole (maps_of c.self.inside) c.write_at.new.map.items c.args.core c.from-key.result c.args.value
    c.recount.new.counts.items c.names_of_core-old.result c.names_of_core.result c.self.invariant core
    (omega arith) (record { here = c.write_at.ensures.here stands; others = c.write_at.ensures.others }) same
    (record { counts = c.recount.ensures.counts; all = c.recount.ensures.all })
    (c.names_of_core-old.ensures ∙ ap core_names (maps.core_reads (maps_of c.self.inside) c.args.core c.from-key.result
    c.standing.result.now (omega arith) c.standing.ensures))
    c.names_of_core.ensures
