use Rattle.std.proofs.Common.{IfOk, Result, Ok, Err, sym, subst, ap, ◌∙◌}
use Rattle.{script_printer.specs.Law.IsWithin, load_maker.proofs.Within.made_within}
use Rattle.load_maker.proofs.script.load_script.Goals as goal

-- what holds of a value of an answer
if_ok : {X E : Type 0} (P Q : X → Type 0) (r : Result X E) → ((x : X) → P x → Q x) → IfOk r P → IfOk r Q
if_ok P Q (Ok x) f h = f x h
if_ok P Q (Err e) f h = h

pub returns-clause-reads : goal.returns-clause-reads
returns-clause-reads c =
    let made = c.in_ok-script.ensures.value in
    if_ok _ _ c.print.result (λ text says. says (subst IsWithin (sym made) (made_within c.args.number)) ∙ ap Ok made) c.print.ensures.read
