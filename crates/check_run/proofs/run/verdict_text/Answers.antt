use Rattle.std.proofs.Common.{◌≡◌, IfOk, sym, subst, string_bytes}
use Rattle.{marked_history.specs.declared.marks.Verdict.Verdict, check_run.specs.Texts.illegal_text, check_run.specs.Texts.verdict_text}
use Rattle.check_run.proofs.run.verdict_text.Goals as goal

pub returns-in-Illegal : goal.returns-in-Illegal
returns-in-Illegal c =
    let r = c.illegal_text.result in
    subst (λ (v : Verdict). IfOk r (λ text. string_bytes text ≡ verdict_text v)) (sym c.in-Illegal.is)
    (subst (λ word. IfOk r (λ text. string_bytes text ≡ illegal_text c.in-Illegal.line word)) c.why_word.ensures c.illegal_text.ensures)
