use Rattle.told_run.proofs.Steps.{tells_one}
use Rattle.told_run.proofs.moves.tell_step.Goals as goal

pub returns-clause-goes : goal.returns-clause-goes
returns-clause-goes g c =
    tells_one g.W.Watcher.has_seen record { machine = c.args.kernel.now; watcher = c.args.watcher.now }
    record { machine = c.step_told.new.self; watcher = c.tell.new.self }
    c.args.core c.in-Some.made c.requires.setting c.step_told.ensures.setup c.in-Some.ensures.tells c.in_ok-tell.ensures
