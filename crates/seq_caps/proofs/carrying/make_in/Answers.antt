use Rattle.{seq_lookups.specs.seq_state.specs.Maps.state_of, seq_caps.proofs.Made.comp_made_of}
use Rattle.seq_caps.proofs.carrying.make_in.Goals as goal

pub returns-in-Some-fourth : goal.returns-in-Some-fourth
returns-in-Some-fourth c = λ core r t b may at_is.
    let has = rw c.in-Comp.is at may in
    rw c.in-Comp.is (comp_made_of (state_of c.args.k.now) core r c.args.frame t b c.in-Comp.table c.in-Comp.pages c.in-Comp.live
    c.args.looked.now c.in-Some-third.table c.in-Some-fourth.pages c.args.at c.hold_comp.new.k c.frame-in-Some-fourth.result
    c.frame-in-Some-fourth-2.result c.epoch_after-epoch.result c.in-Some-third.is c.in-Some-fourth.is at_is
    c.frame-in-Some-fourth.ensures c.frame-in-Some-fourth-2.ensures (c.epoch_after-epoch.ensures has.1.0.1) c.hold_comp.ensures)
