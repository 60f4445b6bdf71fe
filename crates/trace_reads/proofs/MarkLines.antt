-- The line of each mark is its words, and is read as that mark.
use Rattle.marked_laws.specs as low
use low.kernel_history.proofs.{◌≡◌, ℕ, ◌≤◌, ◌<◌, true, if◌then◌else◌, List, [], ◌∷◌, ◌++◌, Option, Some, Ok, Err, refl}
use low.kernel_history.proofs.{sym, ap, ◌∙◌, arith, append_assoc, codes, Result, and_from, Call, Reply}
use Rattle.trace_lines.specs.script_reader.specs.{line_of, line_by, may_stand, core_line, order_line, is_whole, no_head, Draft_of}
use low.kernel_history.specs.kernel_rules.specs.{decimal, ok_or, call_text, with_one, reply_text}
use Rattle.check_run.specs.history_reader.specs.{reply_of, line_word, line_behind}
use Rattle.trace_lines.specs.script_printer.proofs.{is_text, is_line, Spans.line_texts}
use Rattle.trace_lines.specs.line_reader.specs.{declared.cause.Cause.Cause, declared.cause.Cause.TheVariants.S2}
use Rattle.trace_lines.specs.line_reader.specs.{declared.cause.Cause.TheVariants.S7, Causes.◌>>=◌, Arguments.is_word, Arguments.word_at}
use Rattle.trace_lines.specs.call_reader.specs.{declared.first_words.FirstWord.FirstWord, FirstWords.first_word, CallLines.call_line}
use Rattle.trace_lines.specs.script_reader.specs.{declared.head.Head.Head, declared.head.Line.Line, Heads.goes_on}
use Rattle.trace_lines.specs.script_printer.proofs.{NumberWords.number_text, NumberWords.core_back}
use Rattle.trace_lines.specs.script_printer.proofs.{CallWords.call_is_line, CallReading.call_back}
use low.kernel_history.specs.spk_nums.specs.Verbs.{call_words}
use low.marked_history.specs.{declared.marks.Mark.Mark, declared.marks.Mark.TheVariants.Enter, declared.marks.Mark.TheVariants.Decide}
use low.marked_history.specs.{declared.marks.Mark.TheVariants.Return, declared.marks.Said.TheVariants.One}
use Rattle.check_run.specs.history_reader.specs.Lines.{call_in, enter_line, decide_line, return_line, said_by}
use Rattle.reply_reads.specs.{spaced, reply_words}
use Rattle.trace_lines.specs.script_printer.specs.{IsCallWithin}
use Rattle.{trace_lines.specs.line_reader.specs.Arguments.end_at, trace_lines.specs.call_reader.specs.OneLine.verb_in}
use Rattle.{trace_lines.specs.call_reader.specs.OneLine.verb_at, trace_lines.specs.script_reader.specs.declared.head.Section.Section}
use Rattle.{check_run.specs.history_reader.specs.Inputs.given_line, trace_reads.proofs.Told.mark_text}
use low.{marked_history.specs.declared.marks.Line.Line as Given}

-- ---- the words of a call are read as the call

no_head_line : (r : Result Head Cause) (c : Call) → goes_on r ≡ Ok (Line.Call c) → ⊥
no_head_line (Ok h) c e = cc
no_head_line (Err x) c e = cc

-- the call of a line that says one
abbrev call_said : Call → Result Line Cause → Call
call_said other (Ok (Line.Call c)) = c
call_said other (Ok (Line.Head h)) = other
call_said other (Err x) = other

call_line_is : (r : Result Call Cause) (c : Call) → (r >>= λ call. Ok (Line.Call call)) ≡ Ok (Line.Call c) → r ≡ Ok c
call_line_is (Ok x) c e = ap Ok (ap (call_said c) e)
call_line_is (Err x) c e = absurd cc

-- the head of a script of this version, in the list of a core
abbrev listing : ℕ → Head
listing v = record no_head { section = Section.List; version = v }

-- a line that says a call has a word of a call, and that call's arguments
by_first : (v : ℕ) (words : List (List ℕ)) (c : Call) (o : Option FirstWord)
    → (ok_or o S2 >>= λ word. if may_stand Section.List word then line_by (listing v) words word else Err S7) ≡ Ok (Line.Call c)
    → (verb_in o >>= λ verb. call_line v words verb) ≡ Ok c
unfolding line_by
by_first v words c (Some FirstWord.Core) e = absurd (no_head_line (core_line (listing v) words) c e)
by_first v words c (Some FirstWord.Order) e = absurd (no_head_line (order_line (listing v) words) c e)
by_first v words c (Some (FirstWord.Call verb)) e = call_line_is (call_line v words verb) c e
by_first v words c _ e = absurd cc

from_line : (v : ℕ) (words : List (List ℕ)) (c : Call) → line_of (listing v) words ≡ Ok (Line.Call c) → call_in v words ≡ Ok c
unfolding line_of call_in verb_at word_at
from_line v [] c e = absurd cc
from_line v (w ∷ ws) c e = by_first v (w ∷ ws) c (first_word v w) e

call_read : (v : ℕ) (c : Call) → 1 ≤ v → IsCallWithin v c → call_in v (call_words c) ≡ Ok c
call_read v c some within = from_line v (call_words c) c (call_back (listing v) c refl some within)

-- ---- marks

-- the words of the line of a mark
abbrev pub mark_words : Mark → List (List ℕ)
mark_words (Enter c call) = codes "enter" ∷ decimal c ∷ call_words call
mark_words (Decide c r) = codes "decide" ∷ decimal c ∷ reply_words r
mark_words (Return c) = codes "return" ∷ decimal c ∷ []

-- after this head, the line of a mark is these words, and says that mark
pub record MarkReads (s : Draft_of) (m : Mark) : Type 0 where
  pub text : mark_text m ≡ spaced (mark_words m)
  pub line : is_line (mark_words m) ≡ true
  pub read : (lines : List Given) (number : ℕ) → line_behind (record { script = s; lines = lines }) number (mark_words m)
      ≡ Ok (record { script = s; lines = lines ++ record { number = number; said = One m } ∷ [] })

spaced_two : (w v : List ℕ) (ws : List (List ℕ)) → is_line ws ≡ true → spaced (w ∷ v ∷ ws) ≡ w ++ 32 ∷ (v ++ 32 ∷ spaced ws)
spaced_two w v [] h = absurd cc
spaced_two w v (x ∷ xs) h = refl

after_core : (w : List ℕ) (c : ℕ) (tail : List ℕ) → with_one w c ++ codes " " ++ tail ≡ w ++ 32 ∷ (decimal c ++ 32 ∷ tail)
after_core w c tail = simp append_assoc

two_line : (w v : List ℕ) (ws : List (List ℕ)) → is_text w ≡ true → is_text v ≡ true → is_line ws ≡ true → is_line (w ∷ v ∷ ws) ≡ true
two_line w v ws hw hv h = and_from _ _ hw (and_from _ _ hv (line_texts ws h))

module _ (s : Draft_of) (whole : is_whole s.head.section ≡ true) (some : 1 ≤ s.head.version) (few : s.head.cores ≤ 8) where
  enter_read : (c : ℕ) (call : Call) → c < s.head.cores → IsCallWithin s.head.version call → (lines : List Given) (number : ℕ)
      → line_behind (record { script = s; lines = lines }) number (mark_words (Enter c call))
      ≡ Ok (record { script = s; lines = lines ++ record { number = number; said = One (Enter c call) } ∷ [] })
  unfolding line_behind line_word is_word given_line said_by enter_line
  enter_read c call below within lines number =
      rw (
        whole,
        core_back (mark_words (Enter c call)) 1 s.head.cores c refl below few,
        call_read s.head.version call some within,
      ) refl

  decide_read : (c : ℕ) (r : Reply) → c < s.head.cores → reply_of s.head.cores (reply_words r) ≡ Ok r → (lines : List Given) (number : ℕ)
      → line_behind (record { script = s; lines = lines }) number (mark_words (Decide c r))
      ≡ Ok (record { script = s; lines = lines ++ record { number = number; said = One (Decide c r) } ∷ [] })
  unfolding line_behind line_word is_word given_line said_by decide_line
  decide_read c r below is lines number =
      rw (whole, core_back (mark_words (Decide c r)) 1 s.head.cores c refl below few, is) refl

  return_read : (c : ℕ) → c < s.head.cores → (lines : List Given) (number : ℕ)
      → line_behind (record { script = s; lines = lines }) number (mark_words (Return c))
      ≡ Ok (record { script = s; lines = lines ++ record { number = number; said = One (Return c) } ∷ [] })
  unfolding line_behind line_word is_word given_line said_by return_line end_at
  return_read c below lines number =
      rw (whole, core_back (mark_words (Return c)) 1 s.head.cores c refl below few) refl

  pub enter_reads : (c : ℕ) (call : Call) → c < s.head.cores → IsCallWithin s.head.version call → MarkReads s (Enter c call)
  enter_reads c call below within =
      let words : is_line (call_words call) ≡ true = call_is_line s.head.version call within in
      record {
        text = after_core (codes "enter") c (call_text call)
            ∙ sym (spaced_two (codes "enter") (decimal c) (call_words call) words);
        line = two_line (codes "enter") (decimal c) (call_words call) refl (number_text c (omega arith)) words;
        read = enter_read c call below within;
      }

  pub decide_reads : (c : ℕ) (r : Reply) → c < s.head.cores → reply_text r ≡ spaced (reply_words r) → is_line (reply_words r) ≡ true
      → reply_of s.head.cores (reply_words r) ≡ Ok r → MarkReads s (Decide c r)
  decide_reads c r below text words is =
      record {
        text = ap (λ t. with_one (codes "decide") c ++ codes " " ++ t) text
            ∙ after_core (codes "decide") c (spaced (reply_words r))
            ∙ sym (spaced_two (codes "decide") (decimal c) (reply_words r) words);
        line = two_line (codes "decide") (decimal c) (reply_words r) refl (number_text c (omega arith)) words;
        read = decide_read c r below is;
      }

  pub return_reads : (c : ℕ) → c < s.head.cores → MarkReads s (Return c)
  return_reads c below =
      record {
        text = refl;
        line = and_from (is_text (codes "return")) _ refl (and_from _ _ (number_text c (omega arith)) refl);
        read = return_read c below;
      }
