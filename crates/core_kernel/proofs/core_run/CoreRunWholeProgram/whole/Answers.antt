use Rattle.core_kernel.proofs.RunSteps.{run_begun}
use Rattle.core_kernel.proofs.core_run.CoreRunWholeProgram.whole.Goals as goal

pub invariant_of-steps : goal.invariant_of-steps
invariant_of-steps g c =
    run_begun c.args.self.now (g.W.TurnWords.program c.args.words) c.args.call _ c.requires.ready c.requires.begins c.requires.fresh
