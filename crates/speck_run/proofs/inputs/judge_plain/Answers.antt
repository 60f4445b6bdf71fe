use Rattle.std.proofs.Common.{subst, sym, arith}
use Rattle.{load_maker.specs.script_reader.specs.Readings.lists_of, plain_run.specs.Plain.AreRunnable}
use Rattle.speck_run.proofs.inputs.judge_plain.Goals as goal

pub plain-requires-clause-can_run : goal.plain-requires-clause-can_run
plain-requires-clause-can_run c =
    let small = c.requires in
    let runnable : AreRunnable (lists_of c.in-Ok.script.lists.items) = λ k d below.
    (c.in-Ok.ensures.script.limits k d below, (let few = c.in-Ok.ensures.calls k d below in omega arith)) in
    subst (λ ls. AreRunnable (lists_of ls)) (sym c.deref.ensures.value) runnable
