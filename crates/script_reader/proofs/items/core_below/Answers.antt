use Rattle.std.proofs.Common.{◌<◌, ◌≤◌, ap, ◌∙◌, Ok, arith}
use Rattle.script_reader.proofs.Suffixes.{below_some, not_below, past_cores}
use Rattle.script_reader.proofs.items.core_below.Goals as goal

pub returns-then-number-from-clause-value : goal.returns-then-number-from-clause-value
returns-then-number-from-clause-value c =
    let lt : c.in-Some.number < c.args.cores = omega arith in
    ap Ok c.new.ensures ∙ below_some c.args.digits.now c.in-Some.number c.args.cores c.requires.digits c.in-Some.ensures lt

pub returns-else-number-from-clause-value : goal.returns-else-number-from-clause-value
returns-else-number-from-clause-value c =
    let le : c.args.cores ≤ c.in-Some.number = omega arith in
    not_below c.args.digits.now c.in-Some.number c.args.cores c.requires.digits c.in-Some.ensures le

pub returns-in-None-clause-value : goal.returns-in-None-clause-value
returns-in-None-clause-value c = past_cores c.args.digits.now c.args.cores c.requires.digits c.in-None.ensures c.requires.cores
