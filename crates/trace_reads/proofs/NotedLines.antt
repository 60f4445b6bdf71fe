-- Comments after lines: they have no words, and end the lines.
use Rattle.std.proofs.Common.{◌≡◌, ℕ, ◌+◌, true, false, List, [], ◌∷◌, ◌++◌, length, refl, ap, ◌∙◌, arith, append_assoc, count_by, codes}
use Rattle.std.proofs.Common.{length-append, suc}
use Rattle.trace_lines.specs.script_tokens.specs.{is_feed, spans, first_fault}
use Rattle.trace_lines.specs.script_printer.proofs.{both_left, both_right}
use Rattle.trace_lines.specs.script_printer.proofs.Spans.{are_printed, printed_no_feed, printed_fault, printed_count, IsEnd, feed_ends}
use Rattle.trace_lines.specs.{Traces.line_end}

-- the rest of a comment has no words
comment_spans : (line here : ℕ) (bs rest : List ℕ) → are_printed bs ≡ true
    → spans line here true (bs ++ 10 ∷ rest) ≡ spans (line + 1) (here + length bs + 1) false rest
comment_spans line here [] rest h =
    let n : here + 1 ≡ here + length {A = ℕ} [] + 1 = omega arith in
    ap (λ k. spans (line + 1) k false rest) n
comment_spans line here (b ∷ bs) rest h =
    let n : here + 1 + length bs + 1 ≡ here + suc (length bs) + 1 = omega arith in
    let more : spans line (here + 1) true (bs ++ 10 ∷ rest) ≡ spans (line + 1) (here + suc (length bs) + 1) false rest =
    comment_spans line (here + 1) bs rest (both_right _ _ h) ∙ ap (λ k. spans (line + 1) k false rest) n in
    rw (printed_no_feed b (both_left _ _ h)) more

-- what a comment, or nothing, puts after a line's words ends the line
pub note_ends : (note : List ℕ) → are_printed note ≡ true → IsEnd (line_end note)
note_ends [] h = feed_ends
note_ends (s ∷ steps) h =
    let bs : List ℕ = s ∷ steps in
    let hash : List ℕ = codes " # " in
    let joins : (rest : List ℕ) → line_end bs ++ rest ≡ hash ++ (bs ++ 10 ∷ rest) =
    λ rest. ap (λ t. hash ++ t) (append_assoc bs (10 ∷ []) rest) in
    record {
      some = omega arith;
      no_word = λ line here rest.
          let n : here + 1 + 1 + 1 + length bs + 1 ≡ here + length (line_end bs) = omega (arith, length-append bs (10 ∷ [])) in
          ap (spans line here false) (joins rest) ∙ comment_spans line (here + 1 + 1 + 1) bs rest h
          ∙ ap (λ k. spans (line + 1) k false rest) n;
      no_fault = λ line rest le.
          ap (first_fault line) (joins rest) ∙ printed_fault line hash (bs ++ 10 ∷ rest) le refl ∙ printed_fault line bs (10 ∷ rest) le h
          ∙ feed_ends.no_fault line rest le;
      one_feed = λ rest.
          ap (count_by is_feed) (joins rest) ∙ printed_count hash (bs ++ 10 ∷ rest) refl ∙ printed_count bs (10 ∷ rest) h
          ∙ feed_ends.one_feed rest;
    }
