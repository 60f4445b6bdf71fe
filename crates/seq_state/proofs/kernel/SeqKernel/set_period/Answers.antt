use Rattle.std.proofs.Common.{◌≤◌, sym, subst}
use Rattle.seq_state.specs.{Maps.Maps, Kernel.maps_of}
use Rattle.seq_state.proofs.SetLemmas as sets
use Rattle.seq_state.proofs.SetterLemmas as setters
use Rattle.seq_state.proofs.kernel.SeqKernel.set_period.Goals as goal

pub returns-in-PlaceOf : goal.returns-in-PlaceOf
returns-in-PlaceOf c =
    let r = rw c.in-PlaceOf.is at c.requires.index in
    rw (← c.self.view_is, c.in-PlaceOf.is) (sets.place_graces_set (maps_of c.self.inside) c.write_at.new.map.items c.in-PlaceOf.node
    c.in-PlaceOf.index c.place_key.result c.args.period c.self.invariant r c.place_key.ensures
    (record { here = c.write_at.ensures.here; others = c.write_at.ensures.others }))

pub returns-in-FrameOf : goal.returns-in-FrameOf
returns-in-FrameOf c =
    rw (← c.self.view_is, c.in-FrameOf.is) (sets.frame_graces_set (maps_of c.self.inside) c.write_at-in-FrameOf.new.map.items
    c.in-FrameOf.frame c.number.result c.args.period c.self.invariant c.number.ensures.value
    (record { here = c.write_at-in-FrameOf.ensures.here; others = c.write_at-in-FrameOf.ensures.others }))

pub returns-in-NumberOf : goal.returns-in-NumberOf
returns-in-NumberOf c =
    rw (← c.self.view_is, c.in-NumberOf.is) (sets.number_graces_set (maps_of c.self.inside) c.write_at-in-NumberOf.new.map.items
    c.in-NumberOf.number c.from.result c.args.period c.self.invariant c.from.ensures
    (record { here = c.write_at-in-NumberOf.ensures.here; others = c.write_at-in-NumberOf.ensures.others }))

pub invariant_of-self : goal.invariant_of-self
invariant_of-self c =
    let r = rw c.in-PlaceOf.is at c.requires.index in
    let begun = subst (λ (t : Maps). c.args.period.began ≤ t.clock) (sym c.self.view_is) c.requires.begun in
    setters.place_graces_whole (maps_of c.self.inside) c.write_at.new.map.items c.in-PlaceOf.node
    c.in-PlaceOf.index c.place_key.result c.args.period c.self.invariant r c.place_key.ensures
    (record { here = c.write_at.ensures.here; others = c.write_at.ensures.others }) begun

pub invariant_of-self-in-FrameOf : goal.invariant_of-self-in-FrameOf
invariant_of-self-in-FrameOf c =
    let begun = subst (λ (t : Maps). c.args.period.began ≤ t.clock) (sym c.self.view_is) c.requires.begun in
    setters.frame_graces_whole (maps_of c.self.inside) c.write_at-in-FrameOf.new.map.items
    c.in-FrameOf.frame c.number.result c.args.period c.self.invariant c.number.ensures.value
    (record { here = c.write_at-in-FrameOf.ensures.here; others = c.write_at-in-FrameOf.ensures.others }) begun

pub invariant_of-self-in-NumberOf : goal.invariant_of-self-in-NumberOf
invariant_of-self-in-NumberOf c =
    let begun = subst (λ (t : Maps). c.args.period.began ≤ t.clock) (sym c.self.view_is) c.requires.begun in
    setters.number_graces_whole (maps_of c.self.inside) c.write_at-in-NumberOf.new.map.items
    c.in-NumberOf.number c.from.result c.args.period c.self.invariant c.from.ensures
    (record { here = c.write_at-in-NumberOf.ensures.here; others = c.write_at-in-NumberOf.ensures.others }) begun
