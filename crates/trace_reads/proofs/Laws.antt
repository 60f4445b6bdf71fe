-- The text of a trace is read as its marks, and that of a legal trace is found legal.
use Rattle.marked_laws.specs as low
use low.kernel_history.proofs.{◌≡◌, ℕ, ◌+◌, ◌≤◌, ◌<◌, List, [], ◌∷◌, length, All, Option, Some, None, Ok, Err, refl, sym, ap, subst, ◌∙◌}
use low.kernel_history.proofs.{arith, reverse, Result, reverse-append, Setting, IsSetting, Call, Reply, Step, decisions_of, IsLegal}
use low.{with_enter, with_decide, with_return, marks_of}
use Rattle.std.proofs.lemmas.List.Elements.{All-nil, All-cons, All-head, All-tail, All-append}
use low.marked_history.specs.{declared.marks.Mark.Mark, declared.marks.Mark.TheVariants.Enter, declared.marks.Mark.TheVariants.Decide}
use low.marked_history.specs.{declared.marks.Mark.TheVariants.Return, declared.marks.Verdict.TheVariants.Legal, Verdicts.AreLegal}
use Rattle.reply_reads.proofs.{Texts.reply_spaced, Texts.reply_is_line, Reading.reply_read, Legal.decided_within}
use Rattle.trace_reads.specs.Texts.{history_told, EntersWithin, DecidesWithin, IsStepWithin}
use Rattle.trace_reads.proofs.{MarkLines.MarkReads, MarkLines.enter_reads, MarkLines.decide_reads, MarkLines.return_reads}
use Rattle.trace_reads.proofs.{HeadRows.IsHeadOf, HeadRows.Headed, HeadRows.headed, Reading.text_read, Verdicts.lines_legal}
use Rattle.{check_run.specs.history_reader.specs.History, check_run.specs.history_reader.specs.history_of}
use Rattle.{trace_lines.specs.line_reader.specs.Lines.First_fault, trace_lines.specs.script_reader.specs.Readings.Draft_of}
use Rattle.{trace_lines.specs.script_printer.specs.IsCallWithin, marked_laws.proofs.Marks.legal_marks}
use Rattle.{trace_lines.specs.Traces.trace_text, check_run.specs.Texts.verdict_text, check_run.specs.Checked.IsJudged}
use Rattle.{reply_reads.specs.Laws.IsReplyWithin, trace_reads.specs.Laws.MarksRead, trace_reads.specs.Laws.TracesAreLegal}
use low.{kernel_history.specs.Trace.Trace, marked_history.proofs.Verdicts.one_verdict}

-- ---- marks in range are read

all_reverse : {X : Type 0} (P : X → Type 0) (xs : List X) → All P xs → All P (reverse xs)
all_reverse P [] h = h
all_reverse P (x ∷ xs) h = subst (All P) (sym (reverse-append (x ∷ []) xs))
    (All-append P (reverse xs) (x ∷ []) (all_reverse P xs (All-tail P x xs h)) (All-cons P x [] (All-head P x xs h) (All-nil P)))

module _ (v : ℕ) (setup : Setting) (some : 1 ≤ v) (most : v ≤ 3) (within : IsSetting setup)
    (d : Draft_of) (head : IsHeadOf v setup some most within d) where
  cores : d.head.cores ≡ setup.cores
  cores = ap (λ (s : Setting). s.cores) head.setup

  some_version : 1 ≤ d.head.version
  some_version = omega (arith, some, head.version)

  few_cores : d.head.cores ≤ 8
  few_cores = omega (arith, within.most_cores, cores)

  entry_reads : (o : Option Call) (c : ℕ) (marks : List Mark) → c < setup.cores → EntersWithin v o → All (MarkReads d) marks
      → All (MarkReads d) (with_enter o c marks)
  entry_reads None c marks below h all = all
  entry_reads (Some call) c marks below h all =
      All-cons (MarkReads d) (Enter c call) marks (enter_reads d head.whole some_version few_cores c call
      (omega (arith, below, cores)) (subst (λ n. IsCallWithin n call) (sym head.version) h)) all

  decision_reads : (o : Option Reply) (c : ℕ) (marks : List Mark) → c < setup.cores → DecidesWithin setup.cores o → All (MarkReads d) marks
      → All (MarkReads d) (with_decide o c marks)
  decision_reads None c marks below h all = all
  decision_reads (Some r) c marks below h all =
      let fits : IsReplyWithin d.head.cores r = subst (λ n. IsReplyWithin n r) (sym cores) h in
      All-cons (MarkReads d) (Decide c r) marks (decide_reads d head.whole some_version few_cores c r
      (omega (arith, below, cores)) (reply_spaced r) (reply_is_line d.head.cores few_cores r fits)
      (reply_read d.head.cores few_cores r fits)) all

  response_reads : (o : Option Reply) (c : ℕ) (marks : List Mark) → c < setup.cores → All (MarkReads d) marks
      → All (MarkReads d) (with_return o c marks)
  response_reads None c marks below all = all
  response_reads (Some r) c marks below all =
      All-cons (MarkReads d) (Return c) marks
      (return_reads d head.whole some_version few_cores c (omega (arith, below, cores))) all

  marks_are_read : (t : Trace) → All (IsStepWithin v setup.cores) t → All (MarkReads d) (marks_of t)
  marks_are_read [] all = All-nil (MarkReads d)
  marks_are_read (e ∷ t) all =
      let here : IsStepWithin v setup.cores e = All-head (IsStepWithin v setup.cores) e t all in
      response_reads e.returns e.core (with_decide e.decides e.core (with_enter e.enters e.core (marks_of t))) here.core
      (decision_reads e.decides e.core (with_enter e.enters e.core (marks_of t)) here.core here.reply
      (entry_reads e.enters e.core (marks_of t) here.core here.call
      (marks_are_read t (All-tail (IsStepWithin v setup.cores) e t all))))

pub marks_read : MarksRead
marks_read v setup t is all =
    let whole : Headed v setup is.some_version is.most_versions is.within = headed v setup is.some_version is.most_versions is.within is.limit in
    text_read v setup t is.some_version is.most_versions is.within whole.draft whole.head whole.read
    (all_reverse (MarkReads whole.draft) (marks_of t)
    (marks_are_read v setup is.some_version is.most_versions is.within whole.draft whole.head t all)) is.lines

-- ---- and legal

-- the steps of a legal trace are of cores of the machine, and decide replies in range
legal_step : (setup : Setting) → IsSetting setup → (t : Trace) (e : Step) → IsLegal setup (e ∷ t)
    → (o : Option Reply) → e.decides ≡ o → DecidesWithin setup.cores o
legal_step setup lim t e legal None is = tt
legal_step setup lim t e legal (Some r) is = decided_within setup lim t e legal r is

legal_steps : (v : ℕ) (setup : Setting) → IsSetting setup → (t : Trace) → IsLegal setup t → All (λ (e : Step). EntersWithin v e.enters) t
    → All (IsStepWithin v setup.cores) t
legal_steps v setup lim [] legal all = All-nil (IsStepWithin v setup.cores)
legal_steps v setup lim (e ∷ t) legal all =
    let call : EntersWithin v e.enters = All-head (λ (e : Step). EntersWithin v e.enters) e t all in
    All-cons (IsStepWithin v setup.cores) e t
    (record { core = legal.1.is_core; call = call; reply = legal_step setup lim t e legal e.decides refl })
    (legal_steps v setup lim t legal.0 (All-tail (λ (e : Step). EntersWithin v e.enters) e t all))

-- what was read, or another where it is none
abbrev history_or : History → Result History First_fault → History
history_or other (Ok h) = h
history_or other (Err f) = other

pub traces_are_legal : TracesAreLegal
traces_are_legal v setup t is legal calls =
    let n = length (decisions_of t) in
    let read : history_of (trace_text v setup t) ≡ Ok (history_told setup t) =
    marks_read v setup t is (legal_steps v setup is.within t legal calls) in
    let verdict : AreLegal setup (history_told setup t).lines n =
    lines_legal setup (setup.cores + 6) (marks_of t) n (legal_marks setup t legal).history (legal_marks setup t legal).decided in
    record {
      read = read;
      verdict = verdict;
      checked = record {
        history = history_told setup t;
        read = read;
        judged = record { verdict = Legal n; is_verdict = verdict; text = refl };
      };
      alone = λ written checked.
          let same : checked.history ≡ history_told setup t = ap (history_or (history_told setup t)) (sym checked.read ∙ read) in
          let judged : IsJudged (history_told setup t) written = subst (λ (h : History). IsJudged h written) same checked.judged in
          judged.text ∙ ap verdict_text (one_verdict setup (history_told setup t).lines judged.verdict (Legal n) judged.is_verdict verdict);
    }
