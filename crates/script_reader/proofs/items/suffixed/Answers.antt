use Rattle.{std.proofs.Common.◌∙◌, std.proofs.Common.sym, script_reader.proofs.Suffixes.suffixed_is}
use Rattle.script_reader.proofs.items.suffixed.Goals as goal

pub returns-then-is_digits-clause-value : goal.returns-then-is_digits-clause-value
returns-then-is_digits-clause-value c = suffixed_is c.args.word.now c.in_ok-last.digits.now c.in_ok-last.last.now
    c.in_ok-how.how c.in_ok-last.ensures.cases.0 (sym c.in_ok-how.ensures) (sym c.is_digits.ensures ∙ c.if-is_digits.true)
