use Rattle.kernel_invariant.specs.kernel_rules.proofs.{◌∙◌, ap, arith, Limits, place_names}
use Rattle.{seq_state.specs.place_held, seq_state.specs.maps_of, seq_state.proofs.Same.same_by}
use Rattle.seq_state.proofs.MapLemmas as maps
use Rattle.seq_state.proofs.SetLemmas as sets
use Rattle.seq_state.proofs.SetterLemmas as setters
use Rattle.seq_state.proofs.kernel.SeqKernel.set_place.Goals as goal

pub standing-requires : goal.standing-requires
standing-requires c = c.self.invariant.places c.place_key-key.result (omega arith)

pub recount-requires-clause-some : goal.recount-requires-clause-some
recount-requires-clause-some c = setters.place_some (maps_of c.self.inside) c.args.node c.args.index c.names_of_place-old.result
    c.self.invariant (omega arith) c.requires (c.names_of_place-old.ensures ∙ ap place_names (setters.place_stood (maps_of c.self.inside)
    c.args.node c.args.index c.place_key-key.result c.standing.result.now c.requires c.place_key-key.ensures c.standing.ensures))

pub recount-requires-clause-room : goal.recount-requires-clause-room
recount-requires-clause-room c = setters.has_room (maps_of c.self.inside) c.self.invariant

pub returns-then-number-self-clause-machine : goal.returns-then-number-self-clause-machine
returns-then-number-self-clause-machine c =
    let stands = c.self.invariant.places c.place_key-key.result (omega arith) in
    rw (← c.self.view_is) (same_by _ _ (setters.place_written (maps_of c.self.inside) c.write_at.new.map.items c.recount.new.counts.items
    c.args.node c.args.index c.place_key-key.result c.args.place c.requires c.place_key-key.ensures
    (record { here = c.write_at.ensures.here stands; others = c.write_at.ensures.others })))

pub returns-then-number-self-clause-exact : goal.returns-then-number-self-clause-exact
returns-then-number-self-clause-exact c = λ _.
    let stands = c.self.invariant.places c.place_key-key.result (omega arith) in
    rw (← c.self.view_is) (setters.place_written (maps_of c.self.inside) c.write_at.new.map.items c.recount.new.counts.items
    c.args.node c.args.index c.place_key-key.result c.args.place c.requires c.place_key-key.ensures
    (record { here = c.write_at.ensures.here stands; others = c.write_at.ensures.others }))

pub invariant_of-self : goal.invariant_of-self
invariant_of-self c =
    let stands = c.self.invariant.places c.place_key-key.result (omega arith) in
    setters.places_whole (maps_of c.self.inside) c.write_at.new.map.items c.args.node c.args.index c.place_key-key.result c.args.place
    c.recount.new.counts.items c.names_of_place-old.result c.names_of_place.result c.self.invariant (omega arith) c.requires
    c.place_key-key.ensures (record { here = c.write_at.ensures.here stands; others = c.write_at.ensures.others })
    (record { counts = c.recount.ensures.counts; all = c.recount.ensures.all })
    (c.names_of_place-old.ensures ∙ ap place_names (setters.place_stood (maps_of c.self.inside)
    c.args.node c.args.index c.place_key-key.result c.standing.result.now c.requires c.place_key-key.ensures c.standing.ensures))
    c.names_of_place.ensures

pub returns-else-number-self-clause-machine : goal.returns-else-number-self-clause-machine
returns-else-number-self-clause-machine c =
    rw (← c.self.view_is) (sets.places_past (maps_of c.self.inside) c.args.node c.args.index (place_held c.args.place) (omega arith))

pub returns-else-number-self-clause-exact : goal.returns-else-number-self-clause-exact
returns-else-number-self-clause-exact c = λ below.
    let e = ap (λ (l : Limits). l.frames) (maps.limits_of c.args.self.now (maps_of c.self.inside) c.self.view_is) in
    absurd (omega arith)
