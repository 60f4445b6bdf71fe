-- Lines that are marks of a history, one a line, are legal.
use Rattle.marked_laws.specs.kernel_history.specs.kernel_rules.proofs.{◌≡◌, ℕ, suc, ◌+◌, List, [], ◌∷◌, ◌++◌, length, reverse, refl, sym}
use Rattle.marked_laws.specs.kernel_history.specs.kernel_rules.proofs.{ap, subst, ◌∙◌, arith, reverse-append, length-reverse, Setting}
use Rattle.marked_laws.specs.marked_history.specs.{IsHistory, MayFollow, marks_of, decisions, AreHistory, AreLegal}
use Rattle.marked_laws.specs.marked_history.specs.{declared.marks.Mark.Mark, declared.marks.Said.TheVariants.One, declared.marks.Line.Line}
use Rattle.trace_reads.specs.Texts.{mark_lines}

-- a mark as the line of a number
abbrev line_at : Mark → ℕ → Line
line_at m number = record { number = number; said = One m }

-- marks with the newest first, as lines
abbrev newest_lines : ℕ → List Mark → List Line
newest_lines n [] = []
newest_lines n (m ∷ marks) = line_at m (n + length marks) ∷ newest_lines n marks

mark_lines_push : (n : ℕ) (marks : List Mark) (m : Mark)
    → mark_lines n (marks ++ m ∷ []) ≡ mark_lines n marks ++ line_at m (n + length marks) ∷ []
mark_lines_push n [] m =
    let count : n ≡ n + length {A = Mark} [] = omega arith in
    ap (λ (i : ℕ). line_at m i ∷ []) count
mark_lines_push n (k ∷ marks) m =
    let count : n + 1 + length marks ≡ n + suc (length marks) = omega arith in
    ap (λ (ls : List Line). line_at k n ∷ ls) (mark_lines_push (n + 1) marks m
    ∙ ap (λ (i : ℕ). mark_lines (n + 1) marks ++ line_at m i ∷ []) count)

newest_first : (n : ℕ) (marks : List Mark) → reverse (mark_lines n (reverse marks)) ≡ newest_lines n marks
newest_first n [] = refl
newest_first n (m ∷ marks) =
    let more = mark_lines n (reverse marks) in
    ap (λ (ms : List Mark). reverse (mark_lines n ms)) (reverse-append (m ∷ []) marks)
    ∙ ap reverse (mark_lines_push n (reverse marks) m)
    ∙ reverse-append more (line_at m (n + length (reverse marks)) ∷ [])
    ∙ ap (λ (i : ℕ). line_at m (n + i) ∷ reverse more) (length-reverse marks)
    ∙ ap (λ (ls : List Line). line_at m (n + length marks) ∷ ls) (newest_first n marks)

newest_marks : (n : ℕ) (marks : List Mark) → marks_of (newest_lines n marks) ≡ marks
newest_marks n [] = refl
newest_marks n (m ∷ marks) = ap (λ (ms : List Mark). m ∷ ms) (newest_marks n marks)

newest_history : (setting : Setting) (n : ℕ) (marks : List Mark) → IsHistory setting marks → AreHistory setting (newest_lines n marks)
newest_history setting n [] h = tt
newest_history setting n (m ∷ marks) h =
    let follows : MayFollow setting (marks_of (newest_lines n marks)) m =
    subst (λ (ms : List Mark). MayFollow setting ms m) (sym (newest_marks n marks)) h.1 in
    (newest_history setting n marks h.0, record { numbered = tt; marks = (follows, tt) })

pub lines_legal : (setting : Setting) (n : ℕ) (marks : List Mark) (decided : ℕ) → IsHistory setting marks → decisions marks ≡ decided
    → AreLegal setting (mark_lines n (reverse marks)) decided
lines_legal setting n marks decided h count =
    let same = newest_first n marks in
    record {
      history = subst (AreHistory setting) (sym same) (newest_history setting n marks h);
      count = sym count ∙ ap decisions (sym (newest_marks n marks)) ∙ ap (λ (ls : List Line). decisions (marks_of ls)) (sym same);
    }
