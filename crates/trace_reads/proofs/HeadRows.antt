-- The lines of the head are read as the head of a given history, as they are read in a script.
use Rattle.marked_laws.specs.kernel_history.specs.kernel_rules.proofs as low
use low.{◌≡◌, ℕ, zero, suc, ◌+◌, ◌≤◌, ◌<◌, Bool, true, false, List, [], ◌∷◌, ◌++◌, length, replicate, All, Some, Ok, Err, refl, sym, ap}
use low.{◌∙◌, arith, slice_get, Result, if◌then◌else◌, option_and_then, append-nil, Grant, Item, Setting, IsSetting}
use Rattle.trace_lines.specs.script_reader.specs.{is_whole, Draft_of, Meaning, no_draft, draft_behind, draft_from, setting_of, meaning_of}
use Rattle.trace_lines.specs.script_reader.specs.{meaning_at, BelowCores}
use Rattle.check_run.specs.history_reader.specs.{line_word, History_draft, no_history, line_behind, lines_from}
use Rattle.trace_lines.specs.script_printer.specs.{setup_lines, list_lines, printed, IsCallWithin}
use Rattle.trace_lines.specs.line_reader.specs.{◌>>=◌, First_fault, at_line, and_then}
use Rattle.trace_lines.specs.script_printer.proofs.{are_lines, rows_from}
use Rattle.std.proofs.{lemmas.List.length-replicate, lemmas.List.Elements.All-nil, lemmas.List.Elements.All-replicate}
use Rattle.trace_lines.specs.script_tokens.specs.declared.scanning.Ending.TheVariants.{Whole}
use Rattle.trace_lines.specs.line_reader.specs.{declared.cause.Cause.Cause, declared.cause.Cause.TheVariants.S7, Arguments.is_word}
use Rattle.trace_lines.specs.call_reader.specs.{FirstWords.first_word, Versions.most_calls}
use Rattle.trace_lines.specs.script_printer.proofs.Spans.{lines_onto}
use Rattle.trace_lines.specs.script_printer.proofs.HeadLines.{speck_words, cores_words, frames_words, calls_words, epochs_words}
use Rattle.trace_lines.specs.script_printer.proofs.ReadingLines.{grants_then, lists_then, script_lines, script_says}
use Rattle.trace_lines.specs.script_printer.proofs.{PrintedLines.printed_onto, PrintedLines.script_are_lines, LineCounts.grants_length}
use Rattle.check_run.specs.history_reader.specs.{Lines.is_numbered, Inputs.head_line, declared.lines.LineWord.LineWord}

-- the lines of a head
abbrev pub head_lines : ℕ → Setting → List (List (List ℕ))
head_lines v s = speck_words v ∷ cores_words s.cores ∷ frames_words s.frames
    ∷ grants_then s.grants (calls_words s.calls ∷ epochs_words s.epochs ∷ [])

-- the script that it is the head of, without calls
abbrev pub bare : ℕ → Setting → Meaning
bare v s = record { version = v; setup = s; lists = replicate s.cores []; order = [] }

no_lists : (core n : ℕ) → lists_then core (replicate n []) [] ≡ []
no_lists core zero = refl
no_lists core (suc n) = no_lists (core + 1) n

no_list_lines : (core n : ℕ) → list_lines core (replicate n []) ≡ []
no_list_lines core zero = refl
no_list_lines core (suc n) = no_list_lines (core + 1) n

bare_lines : (v : ℕ) (s : Setting) → script_lines (bare v s) ≡ head_lines v s
bare_lines v s =
    ap (λ (ls : List (List (List ℕ))). speck_words v ∷ cores_words s.cores ∷ frames_words s.frames
    ∷ grants_then s.grants (calls_words s.calls ∷ epochs_words s.epochs ∷ ls)) (no_lists 0 s.cores)

-- the text of a head is its lines
pub head_onto : (v : ℕ) (s : Setting) → setup_lines v s ≡ lines_onto (head_lines v s) []
unfolding printed
head_onto v s =
    let nothing : list_lines 0 (replicate s.cores []) ++ [] ≡ [] =
    append-nil (list_lines 0 (replicate s.cores [])) ∙ no_list_lines 0 s.cores in
    sym (append-nil (setup_lines v s))
    ∙ ap (λ t. setup_lines v s ++ t) (sym nothing)
    ∙ printed_onto (bare v s)
    ∙ ap (λ ls. lines_onto ls []) (bare_lines v s)

pub head_length : (v : ℕ) (s : Setting) → IsSetting s → length (head_lines v s) ≡ s.cores + 5
head_length v s within =
    omega (arith, within.granted, grants_length s.grants (calls_words s.calls ∷ epochs_words s.epochs ∷ []))

-- the fault of an end after line 0, where the head is not whole
abbrev not_whole : First_fault
not_whole = record { line = 1; cause = S7 }

-- what was read, or another where it is none
abbrev meaning_or : Meaning → Result Meaning First_fault → Meaning
meaning_or other (Ok m) = m
meaning_or other (Err f) = other

abbrev draft_or : Draft_of → Result Draft_of First_fault → Draft_of
draft_or other (Ok d) = d
draft_or other (Err f) = other

module _ (v : ℕ) (s : Setting) (some : 1 ≤ v) (most : v ≤ 3) (within : IsSetting s) where
  lists_empty : All (All (IsCallWithin v)) (replicate s.cores [])
  lists_empty = All-replicate (All (IsCallWithin v)) s.cores [] (All-nil (IsCallWithin v))

  no_items : BelowCores s.cores []
  no_items = All-nil (λ (item : Item). item.core < s.cores)

  pub head_are_lines : are_lines (head_lines v s) ≡ true
  head_are_lines =
      ap are_lines (sym (bare_lines v s))
      ∙ script_are_lines (bare v s) some most within (length-replicate s.cores []) lists_empty no_items

  -- the head is whole, and its version and setup are those
  pub record IsHeadOf (d : Draft_of) : Type 0 where
    pub whole : is_whole d.head.section ≡ true
    pub version : d.head.version ≡ v
    pub setup : setting_of d.head ≡ s
    pub ends : (lines : ℕ) → meaning_at d (Whole lines) ≡ Ok (bare v s)

  -- the draft that the lines of a head lead to
  pub record Headed : Type 0 where
    pub draft : Draft_of
    pub read : draft_from no_draft (rows_from 1 (head_lines v s)) ≡ Ok draft
    pub head : IsHeadOf draft

  whole_head : (d : Draft_of) (whole : Bool) → is_whole d.head.section ≡ whole
      → (if whole then Ok (meaning_of d) else Err not_whole) ≡ Ok (bare v s) → IsHeadOf d
  whole_head d false is e = absurd cc
  whole_head d true is e =
      let same : meaning_of d ≡ bare v s = ap (meaning_or (bare v s)) e in
      record {
        whole = is;
        version = ap (λ (m : Meaning). m.version) same;
        setup = ap (λ (m : Meaning). m.setup) same;
        ends = λ lines. rw is (ap Ok same);
      }

  headed_by : (r : Result Draft_of First_fault) → draft_from no_draft (rows_from 1 (head_lines v s)) ≡ r
      → and_then r (λ d. meaning_at d (Whole 0)) ≡ Ok (bare v s) → Headed
  headed_by (Ok d) is e = record { draft = d; read = is; head = whole_head d (is_whole d.head.section) refl e }
  headed_by (Err f) is e = absurd cc

  pub headed : s.calls ≤ most_calls v → Headed
  headed limit =
      let says : and_then (draft_from no_draft (rows_from 1 (head_lines v s))) (λ d. meaning_at d (Whole 0)) ≡ Ok (bare v s) =
      ap (λ (ls : List (List (List ℕ))). and_then (draft_from no_draft (rows_from 1 ls)) (λ d. meaning_at d (Whole 0)))
      (sym (bare_lines v s))
      ∙ (script_says (bare v s) some most within limit (length-replicate s.cores []) lists_empty no_items (omega arith)).says 1 0 in
      headed_by (draft_from no_draft (rows_from 1 (head_lines v s))) refl says

-- ---- the lines of the head in a given history

-- a head, before the lines of a history
abbrev pub headed_draft : Draft_of → History_draft
headed_draft d = record { script = d; lines = [] }

-- each line begins with a word of the head
abbrev AreHeads : List (List (List ℕ)) → Type 0
AreHeads [] = Unit {0}
AreHeads (ws ∷ lines) = (option_and_then line_word (slice_get ws 0) ≡ Some LineWord.Head) × AreHeads lines

grants_are_heads : (gs : List Grant) (lines : List (List (List ℕ))) → AreHeads lines → AreHeads (grants_then gs lines)
unfolding line_word is_word is_numbered first_word
grants_are_heads [] lines h = h
grants_are_heads (g ∷ gs) lines h = (refl, grants_are_heads gs lines h)

head_are_heads : (v : ℕ) (s : Setting) → AreHeads (head_lines v s)
unfolding line_word is_word is_numbered first_word
head_are_heads v s =
    let limits : AreHeads (calls_words s.calls ∷ epochs_words s.epochs ∷ []) = (refl, (refl, tt)) in
    (refl, (refl, (refl, grants_are_heads s.grants (calls_words s.calls ∷ epochs_words s.epochs ∷ []) limits)))

-- what a line of the head leads to
head_behind : (d : Draft_of) (number : ℕ) (ws : List (List ℕ)) (r : Result Draft_of Cause)
    → option_and_then line_word (slice_get ws 0) ≡ Some LineWord.Head → draft_behind d ws ≡ r
    → line_behind (headed_draft d) number ws ≡ (r >>= λ more. Ok (headed_draft more))
unfolding line_behind head_line
head_behind d number ws r first is = rw (first, is) refl

head_next : (d e : Draft_of) (n : ℕ) (ws : List (List ℕ)) (lines more : List (List (List ℕ))) (r : Result Draft_of Cause)
    → option_and_then line_word (slice_get ws 0) ≡ Some LineWord.Head → draft_behind d ws ≡ r
    → ((f : Draft_of) → draft_from f (rows_from (n + 1) lines) ≡ Ok e
    → lines_from (headed_draft f) (rows_from (n + 1) (lines ++ more))
    ≡ lines_from (headed_draft e) (rows_from (n + 1 + length lines) more))
    → and_then (at_line n r) (λ f. draft_from f (rows_from (n + 1) lines)) ≡ Ok e
    → and_then (at_line n (line_behind (headed_draft d) n ws)) (λ f. lines_from f (rows_from (n + 1) (lines ++ more)))
    ≡ lines_from (headed_draft e) (rows_from (n + suc (length lines)) more)
head_next d e n ws lines more (Err c) first one behind is = absurd cc
head_next d e n ws lines more (Ok f) first one behind is =
    let count : n + 1 + length lines ≡ n + suc (length lines) = omega arith in
    ap (λ (r : Result History_draft Cause). and_then (at_line n r) (λ g. lines_from g (rows_from (n + 1) (lines ++ more))))
    (head_behind d n ws (Ok f) first one)
    ∙ behind f is
    ∙ ap (λ k. lines_from (headed_draft e) (rows_from k more)) count

head_from : (d e : Draft_of) (n : ℕ) (lines more : List (List (List ℕ))) → AreHeads lines → draft_from d (rows_from n lines) ≡ Ok e
    → lines_from (headed_draft d) (rows_from n (lines ++ more))
    ≡ lines_from (headed_draft e) (rows_from (n + length lines) more)
head_from d e n [] more heads is =
    let same : d ≡ e = ap (draft_or d) is in
    let count : n ≡ n + length {A = List (List ℕ)} [] = omega arith in
    λ i. lines_from (headed_draft (same i)) (rows_from (count i) more)
head_from d e n (ws ∷ lines) more heads is =
    head_next d e n ws lines more (draft_behind d ws) heads.0 refl
    (λ f leads. head_from f e (n + 1) lines more heads.1 leads) is

-- the lines of a head lead to its draft
pub head_rows : (v : ℕ) (s : Setting) (d : Draft_of) (more : List (List (List ℕ)))
    → draft_from no_draft (rows_from 1 (head_lines v s)) ≡ Ok d
    → lines_from no_history (rows_from 1 (head_lines v s ++ more))
    ≡ lines_from (headed_draft d) (rows_from (1 + length (head_lines v s)) more)
head_rows v s d more is = head_from no_draft d 1 (head_lines v s) more (head_are_heads v s) is
