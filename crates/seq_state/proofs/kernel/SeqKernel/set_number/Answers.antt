use Rattle.kernel_invariant.specs.kernel_rules.proofs.{◌∙◌, ap, arith, number_names}
use Rattle.{seq_state.specs.number_of, seq_state.specs.maps_of, seq_state.proofs.Same.same_by}
use Rattle.seq_state.proofs.SetLemmas as sets
use Rattle.seq_state.proofs.SetterLemmas as setters
use Rattle.seq_state.proofs.kernel.SeqKernel.set_number.Goals as goal

pub standing-requires : goal.standing-requires
standing-requires c = c.self.invariant.numbers c.from-key.result (omega arith)

pub recount-requires-clause-some : goal.recount-requires-clause-some
recount-requires-clause-some c = setters.number_some (maps_of c.self.inside) c.args.number c.names_of_number-old.result
    c.self.invariant (omega arith) (c.names_of_number-old.ensures ∙ ap number_names (setters.number_stood (maps_of c.self.inside)
    c.args.number c.from-key.result c.standing.result.now c.from-key.ensures c.standing.ensures))

pub recount-requires-clause-room : goal.recount-requires-clause-room
recount-requires-clause-room c = setters.has_room (maps_of c.self.inside) c.self.invariant

pub returns-then-number-lt64-clause-machine : goal.returns-then-number-lt64-clause-machine
returns-then-number-lt64-clause-machine c =
    let stands = c.self.invariant.numbers c.from-key.result (omega arith) in
    rw (← c.self.view_is) (same_by _ _ (setters.number_written (maps_of c.self.inside) c.write_at.new.map.items c.recount.new.counts.items
    c.args.number c.from-key.result c.args.value c.from-key.ensures
    (record { here = c.write_at.ensures.here stands; others = c.write_at.ensures.others })))

pub returns-then-number-lt64-clause-exact : goal.returns-then-number-lt64-clause-exact
returns-then-number-lt64-clause-exact c = λ _.
    let stands = c.self.invariant.numbers c.from-key.result (omega arith) in
    rw (← c.self.view_is) (setters.number_written (maps_of c.self.inside) c.write_at.new.map.items c.recount.new.counts.items
    c.args.number c.from-key.result c.args.value c.from-key.ensures
    (record { here = c.write_at.ensures.here stands; others = c.write_at.ensures.others }))

pub invariant_of-self : goal.invariant_of-self
invariant_of-self c =
    let stands = c.self.invariant.numbers c.from-key.result (omega arith) in
    setters.numbers_whole (maps_of c.self.inside) c.write_at.new.map.items c.args.number c.from-key.result c.args.value
    c.recount.new.counts.items c.names_of_number-old.result c.names_of_number.result c.self.invariant (omega arith)
    c.from-key.ensures (record { here = c.write_at.ensures.here stands; others = c.write_at.ensures.others })
    (record { counts = c.recount.ensures.counts; all = c.recount.ensures.all })
    (c.names_of_number-old.ensures ∙ ap number_names (setters.number_stood (maps_of c.self.inside)
    c.args.number c.from-key.result c.standing.result.now c.from-key.ensures c.standing.ensures))
    c.names_of_number.ensures

pub returns-else-number-lt64-clause-machine : goal.returns-else-number-lt64-clause-machine
returns-else-number-lt64-clause-machine c =
    rw (← c.self.view_is) (sets.numbers_past (maps_of c.self.inside) c.args.number (number_of c.args.value) (omega arith))

pub returns-else-number-lt64-clause-exact : goal.returns-else-number-lt64-clause-exact
returns-else-number-lt64-clause-exact c = λ below. absurd (omega arith)
