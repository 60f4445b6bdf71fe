use Rattle.seq_lookups.specs.seq_state.proofs.{◌≡◌, ◌∙◌, ap, state_of}
use Rattle.{seq_lookups.specs.seq_state.specs.kernel_rules.specs.State.Core, seq_time.specs.Left.run_by, seq_time.proofs.GoingOn.gone_on}
use Rattle.seq_time.proofs.switching.go_on.Goals as goal

pub returns : goal.returns
returns c =
    let s = state_of c.args.k.now in
    let thread : c.core-old.result.now.thread ≡ (s.core c.args.core).thread = ap (λ (k : Core). k.thread) c.core-old.ensures in
    let tcap : c.core-old.result.now.tcap ≡ (s.core c.args.core).tcap = ap (λ (k : Core). k.tcap) c.core-old.ensures in
    gone_on s (state_of c.leave.new.k) (state_of c.set_frame.new.self) (state_of c.set_frame-2.new.self) (state_of c.set_core.new.self)
    c.args.core c.args.h c.args.q _ _ _ c.requires.idle
    (c.running-idle.ensures ∙ ap (λ f. run_by (s.frame f) _) thread)
    c.running-taken.ensures
    (ap (λ (k : Core). record k { thread = c.args.h; tcap = c.args.q }) c.core-old.ensures)
    (rw (thread, tcap) at c.leave.ensures)
    (rw thread at c.set_frame.ensures.machine)
    c.set_frame-2.ensures.machine
    c.set_core.ensures
