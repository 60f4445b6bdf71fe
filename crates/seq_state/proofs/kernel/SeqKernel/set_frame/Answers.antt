use Rattle.seq_state.specs.{Limits, frame_names, frame_of, NamesFew, maps_of}
use Rattle.{std.proofs.Common.◌∙◌, std.proofs.Common.ap, std.proofs.Common.arith, seq_state.proofs.Same.same_by}
use Rattle.seq_state.proofs.MapLemmas as maps
use Rattle.seq_state.proofs.SetLemmas as sets
use Rattle.seq_state.proofs.SetterLemmas as setters
use Rattle.seq_state.proofs.kernel.SeqKernel.set_frame.Goals as goal

pub standing-requires : goal.standing-requires
standing-requires c =
    sets.stands (NamesFew c.number-key.result) _ (c.self.invariant.frames c.number-key.result (omega arith))

pub recount-requires-clause-some : goal.recount-requires-clause-some
recount-requires-clause-some c = setters.frame_some (maps_of c.self.inside) c.args.frame c.names_of_frame-old.result
    c.self.invariant (omega arith) (c.names_of_frame-old.ensures.names ∙ ap frame_names (setters.frame_stood (maps_of c.self.inside)
    c.args.frame c.number-key.result c.standing.result.now c.number-key.ensures.value c.standing.ensures))

pub recount-requires-clause-room : goal.recount-requires-clause-room
recount-requires-clause-room c = setters.has_room (maps_of c.self.inside) c.self.invariant

pub returns-then-key-self-clause-machine : goal.returns-then-key-self-clause-machine
returns-then-key-self-clause-machine c =
    let stands = sets.stands (NamesFew c.number-key.result) _ (c.self.invariant.frames c.number-key.result (omega arith)) in
    rw (← c.self.view_is) (same_by _ _ (setters.frame_written (maps_of c.self.inside) c.write_at.new.map.items c.recount.new.counts.items
    c.args.frame c.number-key.result c.args.value c.number-key.ensures.value
    (record { here = c.write_at.ensures.here stands; others = c.write_at.ensures.others })))

pub returns-then-key-self-clause-exact : goal.returns-then-key-self-clause-exact
returns-then-key-self-clause-exact c = λ _.
    let stands = sets.stands (NamesFew c.number-key.result) _ (c.self.invariant.frames c.number-key.result (omega arith)) in
    rw (← c.self.view_is) (setters.frame_written (maps_of c.self.inside) c.write_at.new.map.items c.recount.new.counts.items
    c.args.frame c.number-key.result c.args.value c.number-key.ensures.value
    (record { here = c.write_at.ensures.here stands; others = c.write_at.ensures.others }))

pub invariant_of-self : goal.invariant_of-self
invariant_of-self c =
    let stands = sets.stands (NamesFew c.number-key.result) _ (c.self.invariant.frames c.number-key.result (omega arith)) in
    setters.frames_whole (maps_of c.self.inside) c.write_at.new.map.items c.args.frame c.number-key.result c.args.value
    c.recount.new.counts.items c.names_of_frame-old.result c.names_of_frame.result c.self.invariant (omega arith)
    c.number-key.ensures.value (record { here = c.write_at.ensures.here stands; others = c.write_at.ensures.others })
    c.names_of_frame.ensures.most (record { counts = c.recount.ensures.counts; all = c.recount.ensures.all })
    (c.names_of_frame-old.ensures.names ∙ ap frame_names (setters.frame_stood (maps_of c.self.inside)
    c.args.frame c.number-key.result c.standing.result.now c.number-key.ensures.value c.standing.ensures))
    c.names_of_frame.ensures.names

pub returns-else-key-self-clause-machine : goal.returns-else-key-self-clause-machine
returns-else-key-self-clause-machine c =
    rw (← c.self.view_is) (sets.frames_past (maps_of c.self.inside) c.args.frame (frame_of c.args.value) (omega arith))

pub returns-else-key-self-clause-exact : goal.returns-else-key-self-clause-exact
returns-else-key-self-clause-exact c = λ below.
    let e = ap (λ (l : Limits). l.frames) (maps.limits_of c.args.self.now (maps_of c.self.inside) c.self.view_is) in
    absurd (omega arith)
