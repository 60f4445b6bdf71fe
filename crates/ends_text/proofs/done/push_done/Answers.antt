use Rattle.std.proofs.Common.{◌≡◌, ◌++◌, ◌∙◌, ℕ, List, ap, append_assoc, string_bytes, codes}
use Rattle.ends_text.specs.Lines.{op_word, answer_text, call_text}
use Rattle.ends_text.proofs.done.push_done.Goals as goal

pub returns : goal.returns
returns c =
    let d = c.args.done.now in
    let old : List ℕ = string_bytes c.args.text.now in
    let front : List ℕ → List ℕ = λ word. call_text c.args.core c.args.index word d.ask.number in
    let answer : List ℕ = answer_text d.answer in
    c.in_ok-push_str.ensures.bytes
    ∙ ap (λ (x : List ℕ). x ++ codes "\n") (c.in_ok-push_answer.ensures ∙ ap (λ (x : List ℕ). x ++ answer) c.in_ok-push_call.ensures)
    ∙ append_assoc (old ++ front c.op_word-word.result.now) answer (codes "\n")
    ∙ append_assoc old (front c.op_word-word.result.now) (answer ++ codes "\n")
    ∙ ap (λ (word : List ℕ). old ++ (front word ++ (answer ++ codes "\n"))) c.op_word-word.ensures
