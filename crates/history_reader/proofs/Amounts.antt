-- A given history has no more lines than its bytes have words.
use Rattle.std.proofs.Common.{◌≡◌, ℕ, ◌+◌, ◌≤◌, List, length, IfOk, Result, Ok, Err, ap, arith, inl, inr, slice_get, ok_or, option_and_then}
use Rattle.history_reader.specs.{line_word, History_draft, no_history, line_behind, lines_from, History, history_of}
use Rattle.line_reader.proofs.{lines_keep, judged_is, read_is, bind_ok, then_ok, at_line_ok, few_rows}
use Rattle.line_reader.specs.{declared.cause.Cause.Cause, declared.cause.Cause.TheVariants.S2, declared.cause.Cause.TheVariants.S7}
use Rattle.history_reader.specs.{declared.lines.LineWord.LineWord, declared.reading.GivenHistory.GivenHistory, Lines.said_by}
use Rattle.history_reader.specs.{Inputs.is_empty, Inputs.head_line, Inputs.with_said, Inputs.given_line, Inputs.line_by, Inputs.line_step}
use Rattle.{script_reader.specs.is_whole, script_reader.specs.draft_behind, script_reader.specs.meaning_at, line_reader.specs.Row}
use Rattle.{line_reader.specs.rows_of, line_reader.specs.Gives, script_tokens.specs.words_of, script_tokens.specs.ending_of}
use Rattle.{std.proofs.lemmas.Bool.cases_Bool, std.proofs.lemmas.List.length_push, line_reader.specs.declared.cause.ReadFault.ReadFault}
use Rattle.{history_reader.specs.Inputs.history_at, history_reader.specs.Inputs.history_view}
use Rattle.history_reader.specs.declared.lines.LineWord.TheVariants as known

not_ok : (c : Cause) (e : History_draft) → Err c ≡ Ok e → ⊥
not_ok c e is = cc

few_head : (d e : History_draft) (words : List (List ℕ)) → head_line d words ≡ Ok e → length e.lines ≤ length d.lines + 1
unfolding head_line
few_head d e words is =
    elim (cases_Bool (is_empty d.lines)) [
      | inl none ↦
          let b = bind_ok (draft_behind d.script words) (λ script. Ok (record d { script = script })) e (rw none at is) in
          let same = ap (λ (x : History_draft). length x.lines) (judged_is (record d { script = b.0 }) e b.2) in
          omega (arith, same)
      | inr some ↦ absurd (not_ok S7 e (rw some at is))
    ]

few_given : (d e : History_draft) (number : ℕ) (words : List (List ℕ)) (w : LineWord) → given_line d number words w ≡ Ok e
    → length e.lines ≤ length d.lines + 1
unfolding given_line
few_given d e number words w is =
    elim (cases_Bool (is_whole d.script.head.section)) [
      | inl whole ↦
          let b = bind_ok (said_by d.script.head.version d.script.head.cores words w) (λ said. Ok (with_said d number said)) e
          (rw whole at is) in
          let same = ap (λ (x : History_draft). length x.lines) (judged_is (with_said d number b.0) e b.2) in
          omega (arith, same, length_push d.lines (record { number = number; said = b.0 }))
      | inr before ↦ absurd (not_ok S7 e (rw before at is))
    ]

few_by : (d e : History_draft) (number : ℕ) (words : List (List ℕ)) (w : LineWord) → line_by d number words w ≡ Ok e
    → length e.lines ≤ length d.lines + 1
few_by d e number words known.Head is = few_head d e words is
few_by d e number words w is = few_given d e number words w is

few_line : (d e : History_draft) (number : ℕ) (words : List (List ℕ)) → line_behind d number words ≡ Ok e
    → length e.lines ≤ length d.lines + 1
unfolding line_behind
few_line d e number words is =
    let b = bind_ok (ok_or (option_and_then line_word (slice_get words 0)) S2) (λ w. line_by d number words w) e is in
    few_by d e number words b.0 b.2

few_from : (n : ℕ) (d e : History_draft) (rows : List Row) → lines_from d rows ≡ Ok e → length d.lines ≤ n → length e.lines ≤ n + length rows
few_from = lines_keep line_step (λ n (x : History_draft). length x.lines ≤ n)
    (λ n d e number words is h. omega (arith, few_line d e number words (at_line_ok number (line_behind d number words) e is), h))

-- what is read has no more lines than bytes
pub few_read : (source : List ℕ) (r : Result GivenHistory ReadFault)
    → Gives history_view r (history_of source) → IfOk r (λ h. length (words_of source) ≤ length source)
    → IfOk r (λ h. length h.lines.items ≤ length source)
unfolding history_of
few_read source (Ok h) gives words =
    let rows = rows_of (words_of source) in
    let b = then_ok (lines_from no_history rows) (λ d. history_at d (ending_of source)) (history_view h) gives in
    let few : length b.0.lines ≤ 0 + length rows = few_from 0 no_history b.0 rows b.1 (omega arith) in
    let m = then_ok (meaning_at b.0.script (ending_of source)) (λ m. Ok (record { setup = m.setup; lines = b.0.lines })) (history_view h) b.2 in
    let same = ap (λ (x : History). length x.lines) (read_is (record { setup = m.0.setup; lines = b.0.lines }) (history_view h) m.2) in
    omega (arith, few, same, few_rows (words_of source), words)
few_read source (Err e) gives words = tt
