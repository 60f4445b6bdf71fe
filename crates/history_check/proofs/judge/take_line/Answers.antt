use Rattle.call_judge.specs.same_changes.specs.kernel_laws.proofs.{◌≡◌, ◌+◌, ◌∙◌, Some, IfOk, sym, subst, eqb-true, eqb-false}
use Rattle.history_check.proofs.Lines.{ok_map, one_mark, whole_call, other_number}
use Rattle.{history_check.specs.seen_of, history_check.specs.JudgesLine, marked_history.specs.declared.marks.Said.Said}
use Rattle.marked_history.specs.declared.marks.Why.TheVariants as why
use Rattle.history_check.proofs.judge.take_line.Goals as goal

pub returns-in-One-clause-exact : goal.returns-in-One-clause-exact
returns-in-One-clause-exact c =
    let j = c.args.judge.now in
    let j' = c.take_mark.new.judge in
    subst (λ (s : Said). IfOk c.take_mark.result (λ w. JudgesLine j s w j')) (sym c.in-One.is)
    (ok_map c.take_mark.result (λ w judged. one_mark j j' c.in-One.mark w judged) c.take_mark.ensures.exact)

pub returns-then-is_next-clause-exact : goal.returns-then-is_next-clause-exact
returns-then-is_next-clause-exact c =
    let j = c.args.judge.now in
    let j' = c.take_marks.new.judge in
    let is : c.in-Whole.index ≡ (seen_of j.seen.items c.in-Whole.core).entered + 1 = eqb-true _ _ (sym c.is_next.ensures ∙ c.if-is_next.true) in
    subst (λ (s : Said). IfOk c.take_marks.result (λ w. JudgesLine j s w j')) (sym c.in-Whole.is)
    (ok_map c.take_marks.result
    (λ w judged. whole_call j j' c.in-Whole.core c.in-Whole.index c.in-Whole.call c.in-Whole.reply w is judged)
    c.take_marks.ensures.exact)

pub returns-else-is_next-clause-exact : goal.returns-else-is_next-clause-exact
returns-else-is_next-clause-exact c =
    let j = c.args.judge.now in
    let other : ¬ (c.in-Whole.index ≡ (seen_of j.seen.items c.in-Whole.core).entered + 1) =
    eqb-false _ _ (sym c.is_next.ensures ∙ c.if-is_next.false) in
    subst (λ (s : Said). JudgesLine j s (Some why.Marks) j) (sym c.in-Whole.is)
    (other_number j j c.in-Whole.core c.in-Whole.index c.in-Whole.call c.in-Whole.reply other)
