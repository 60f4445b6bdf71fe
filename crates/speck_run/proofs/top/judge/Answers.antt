use Rattle.speck_run.proofs.Due.{answer_of_load}
use Rattle.speck_run.proofs.top.judge.Goals as goal

pub returns-in-Some-number_after-clause-due : goal.returns-in-Some-number_after-clause-due
returns-in-Some-number_after-clause-due g c =
    answer_of_load c.args.words.now c.in-Some-number_after.number c.in-Some-number_after.ensures
    _ _ _ _ c.answer_load.result c.answer_load.ensures.status c.answer_load.ensures.text
