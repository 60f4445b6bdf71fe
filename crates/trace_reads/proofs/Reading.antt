-- The text of a trace is read as the given history of its marks.
use Rattle.marked_laws.specs.kernel_history.proofs.{◌≡◌, ℕ, ◌+◌, ◌≤◌, true, List, [], ◌∷◌, ◌++◌, length, map, All, Ok, refl, sym, ap, subst}
use Rattle.marked_laws.specs.kernel_history.proofs.{◌∙◌, arith, append_assoc, reverse, Result, append-nil, map-append, Setting}
use Rattle.check_run.specs.history_reader.specs.{History, History_draft, no_history, lines_from, history_of}
use Rattle.trace_lines.specs.script_printer.proofs.{are_lines, rows_from, both_left, both_right}
use Rattle.trace_lines.specs.script_reader.specs.{Draft_of, no_draft, draft_from, Meaning}
use Rattle.trace_lines.specs.{Told, line_end, trace_text}
use Rattle.trace_lines.specs.line_reader.specs.{rows_of, and_then, First_fault}
use Rattle.trace_lines.specs.script_tokens.specs.{line_count, words_of, ending_of}
use Rattle.marked_laws.specs.marked_history.specs.{declared.marks.Mark.Mark, declared.marks.Said.TheVariants.One, declared.marks.Line.Line}
use Rattle.trace_lines.specs.script_printer.proofs.Spans.{lines_onto, Ended, ended_onto, words_in, AreEnded, feed_ends, IsScanned}
use Rattle.trace_lines.specs.script_printer.proofs.Spans.{ended_few, ended_scanned, plain, plain_words}
use Rattle.trace_lines.specs.script_printer.proofs.CallWords.{spaced_onto}
use Rattle.trace_reads.proofs.NotedLines.{note_ends}
use Rattle.trace_reads.proofs.Told.{Marked, mark_text, marked_text, marks_in, notes_of, notes_marks, notes_printed, notes_are_printed}
use Rattle.trace_reads.proofs.HeadRows.{head_lines, head_onto, head_length, head_are_lines, IsHeadOf, headed_draft, head_rows}
use Rattle.{marked_laws.specs.kernel_history.proofs.IsSetting, std.proofs.lemmas.List.Elements.All-head}
use Rattle.{std.proofs.lemmas.List.Elements.All-tail, marked_laws.specs.kernel_history.specs.Trace.Trace}
use Rattle.trace_lines.specs.script_printer.specs.Printing.{setup_lines}
use Rattle.{marked_laws.specs.Marks.marks_of, check_run.specs.history_reader.specs.Inputs.history_at, reply_reads.specs.spaced}
use Rattle.{trace_reads.specs.Texts.mark_lines, trace_reads.specs.Texts.history_told, trace_reads.proofs.Told.told_is}
use Rattle.{trace_reads.proofs.MarkLines.mark_words, trace_reads.proofs.MarkLines.MarkReads}

-- ---- lines with their words

-- the lines of marks, as their words
abbrev worded_line : Marked → Ended
worded_line l = record { words = mark_words l.mark; ending = line_end l.note }

abbrev worded : List Marked → List Ended
worded lines = map worded_line lines

-- the text of plain lines before that of others
plain_onto : (lines : List (List (List ℕ))) (more : List Ended) → lines_onto lines [] ++ ended_onto more ≡ ended_onto (plain lines ++ more)
plain_onto [] more = refl
plain_onto (ws ∷ lines) more =
    let rest = lines_onto lines [] in
    ap (λ t. t ++ ended_onto more) (sym (spaced_onto ws (10 ∷ rest)))
    ∙ append_assoc (spaced ws) (10 ∷ rest) (ended_onto more)
    ∙ ap (λ t. spaced ws ++ 10 ∷ t) (plain_onto lines more)
    ∙ spaced_onto ws (10 ∷ ended_onto (plain lines ++ more))

-- the text of lines of marks, each of which is its words
worded_onto : (s : Draft_of) (lines : List Marked) → All (MarkReads s) (marks_in lines) → marked_text lines ≡ ended_onto (worded lines)
worded_onto s [] all = refl
worded_onto s (l ∷ lines) all =
    let one : MarkReads s l.mark = All-head (MarkReads s) l.mark (marks_in lines) all in
    let rest = marked_text lines in
    append_assoc (mark_text l.mark) (line_end l.note) rest
    ∙ ap (λ t. t ++ (line_end l.note ++ rest)) one.text
    ∙ ap (λ t. spaced (mark_words l.mark) ++ (line_end l.note ++ t))
    (worded_onto s lines (All-tail (MarkReads s) l.mark (marks_in lines) all))
    ∙ spaced_onto (mark_words l.mark) (line_end l.note ++ ended_onto (worded lines))

-- they have words, and comments of printed characters
plain_then : (lines : List (List (List ℕ))) (more : List Ended) → are_lines lines ≡ true → AreEnded more → AreEnded (plain lines ++ more)
plain_then [] more h k = k
plain_then (ws ∷ lines) more h k = (both_left _ _ h, feed_ends, plain_then lines more (both_right _ _ h) k)

worded_ended : (s : Draft_of) (lines : List Marked) → All (MarkReads s) (marks_in lines) → notes_printed lines ≡ true
    → AreEnded (worded lines)
worded_ended s [] all h = tt
worded_ended s (l ∷ lines) all h =
    let one : MarkReads s l.mark = All-head (MarkReads s) l.mark (marks_in lines) all in (
      one.line,
      note_ends l.note (both_left _ _ h),
      worded_ended s lines (All-tail (MarkReads s) l.mark (marks_in lines) all) (both_right _ _ h),
    )

worded_words : (lines : List Marked) → words_in (worded lines) ≡ map mark_words (marks_in lines)
worded_words [] = refl
worded_words (l ∷ lines) = ap (λ (ls : List (List (List ℕ))). mark_words l.mark ∷ ls) (worded_words lines)

all_words : (head : List (List (List ℕ))) (lines : List Marked)
    → words_in (plain head ++ worded lines) ≡ head ++ map mark_words (marks_in lines)
all_words head lines =
    map-append (λ (l : Ended). l.words) (plain head) (worded lines)
    ∙ ap (λ ls. ls ++ words_in (worded lines)) (plain_words head) ∙ ap (λ ls. head ++ ls) (worded_words lines)

-- ---- marks are read one after another

-- a draft with lines of a history
abbrev drafted : Draft_of → List Line → History_draft
drafted s lines = record { script = s; lines = lines }

abbrev given : ℕ → Mark → Line
given number m = record { number = number; said = One m }

marks_from : (s : Draft_of) (n : ℕ) (before : List Line) (marks : List Mark) → All (MarkReads s) marks
    → lines_from (drafted s before) (rows_from n (map mark_words marks)) ≡ Ok (drafted s (before ++ mark_lines n marks))
marks_from s n before [] all = ap (λ (ls : List Line). Ok (drafted s ls)) (sym (append-nil before))
marks_from s n before (m ∷ marks) all =
    let one : MarkReads s m = All-head (MarkReads s) m marks all in
    rw (one.read before n)
    (marks_from s (n + 1) (before ++ given n m ∷ []) marks (All-tail (MarkReads s) m marks all)
    ∙ ap (λ (ls : List Line). Ok (drafted s ls)) (append_assoc before (given n m ∷ []) (mark_lines (n + 1) marks)))

-- ---- the whole

-- what a script's head and lines say as a history
abbrev history_as : List Line → Meaning → History
history_as lines m = record { setup = m.setup; lines = lines }

module _ (v : ℕ) (setup : Setting) (t : Trace) (some : 1 ≤ v) (most : v ≤ 3) (within : IsSetting setup)
    (d : Draft_of) (head : IsHeadOf v setup some most within d) (read : draft_from no_draft (rows_from 1 (head_lines v setup)) ≡ Ok d)
    (all : All (MarkReads d) (reverse (marks_of t))) where
  all_in : All (MarkReads d) (marks_in (notes_of t).lines)
  all_in = subst (All (MarkReads d)) (sym (notes_marks t)) all

  abbrev lines : List Ended
  lines = plain (head_lines v setup) ++ worded (notes_of t).lines

  text_is : trace_text v setup t ≡ ended_onto lines
  text_is =
      ap (λ (w : Told). w.lines) (told_is (setup_lines v setup) t)
      ∙ ap (λ ts. ts ++ marked_text (notes_of t).lines) (head_onto v setup)
      ∙ ap (λ ts. lines_onto (head_lines v setup) [] ++ ts) (worded_onto d (notes_of t).lines all_in)
      ∙ plain_onto (head_lines v setup) (worded (notes_of t).lines)

  are : AreEnded lines
  are = plain_then (head_lines v setup) (worded (notes_of t).lines) (head_are_lines v setup some most within)
      (worded_ended d (notes_of t).lines all_in (notes_are_printed t).lines)

  words_are : words_in lines ≡ head_lines v setup ++ map mark_words (reverse (marks_of t))
  words_are =
      all_words (head_lines v setup) (notes_of t).lines
      ∙ ap (λ (ms : List Mark). head_lines v setup ++ map mark_words ms) (notes_marks t)

  draft_is : lines_from no_history (rows_from 1 (words_in lines))
      ≡ Ok (drafted d (mark_lines (setup.cores + 6) (reverse (marks_of t))))
  draft_is =
      let n : 1 + length (head_lines v setup) ≡ setup.cores + 6 = omega (arith, head_length v setup within) in
      ap (λ ls. lines_from no_history (rows_from 1 ls)) words_are
      ∙ head_rows v setup d (map mark_words (reverse (marks_of t))) read
      ∙ ap (λ k. lines_from (headed_draft d) (rows_from k (map mark_words (reverse (marks_of t))))) n
      ∙ marks_from d (setup.cores + 6) [] (reverse (marks_of t)) all

  pub text_read : line_count (trace_text v setup t) ≤ 20000 → history_of (trace_text v setup t) ≡ Ok (history_told setup t)
  unfolding history_of
  text_read few =
      let source = ended_onto lines in
      let scanned : IsScanned source (words_in lines) =
      ended_scanned lines are (ended_few lines are (subst (λ ts. line_count ts ≤ 20000) text_is few)) in
      let told : History_draft = drafted d (mark_lines (setup.cores + 6) (reverse (marks_of t))) in
      let rows : lines_from no_history (rows_of (words_of source)) ≡ Ok told =
      ap (λ rs. lines_from no_history rs) scanned.rows ∙ draft_is in
      ap history_of text_is
      ∙ ap (λ (r : Result History_draft First_fault). and_then r (λ e. history_at e (ending_of source))) rows
      ∙ ap (λ e. history_at told e) scanned.ending
      ∙ ap (λ (r : Result Meaning First_fault). and_then r (λ m. Ok (history_as told.lines m))) (head.ends (line_count source))
