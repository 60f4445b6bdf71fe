use Rattle.{std.proofs.Common.Err, std.proofs.Common.refl, std.proofs.Common.ap, speck_run.specs.declared.top.Status.TheVariants.ReadFault}
use Rattle.{speck_run.specs.declared.top.Status.TheVariants.TooLong, speck_run.specs.Top.read_line, speck_run.specs.Top.long_line}
use Rattle.{speck_run.proofs.Due.answer_due, speck_run.proofs.Due.answer_of_input}
use Rattle.speck_run.proofs.top.judge_command.Goals as goal

pub returns-in-Ok-clause-due : goal.returns-in-Ok-clause-due
returns-in-Ok-clause-due g c =
    answer_of_input c.args.words.now _ _ _ _ c.in-Some.command c.in-Ok.bytes.items c.deref.result.now c.judge_input.result
    c.in-Some.ensures c.in-Ok.ensures.all c.in-Ok.ensures.small c.deref.ensures.value c.judge_input.ensures.due

pub returns-in-Err-Failed-clause-due : goal.returns-in-Err-Failed-clause-due
returns-in-Err-Failed-clause-due g c =
    answer_due _ ReadFault read_line c.line-in-Err-Failed.result (
      record { command = c.in-Some.command; asks = c.in-Some.ensures },
      c.in-Err-Failed.ensures.failed (ap Err c.in-Err-Failed.field-0-is),
      refl,
    )
    c.line-in-Err-Failed.ensures.status c.line-in-Err-Failed.ensures.text

pub returns-in-Err-TooLong-clause-due : goal.returns-in-Err-TooLong-clause-due
returns-in-Err-TooLong-clause-due g c =
    answer_due _ TooLong long_line c.line-in-Err-TooLong.result (
      record { command = c.in-Some.command; asks = c.in-Some.ensures },
      c.in-Err-TooLong.ensures.long (ap Err c.in-Err-TooLong.field-0-is),
      refl,
    )
    c.line-in-Err-TooLong.ensures.status c.line-in-Err-TooLong.ensures.text
