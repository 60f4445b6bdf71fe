-- Where a line stands, the judge there, and what is told of it.
use Rattle.open_calls.specs.kernel_rules.proofs.{◌≡◌, ℕ, ◌+◌, ◌^◌, ◌<◌, ◌≤◌, List, [], ◌∷◌, ◌++◌, reverse, take, drop, length, get_or}
use Rattle.open_calls.specs.kernel_rules.proofs.{if◌then◌else◌, refl, sym, ◌∙◌, ap, subst, arith, append_assoc, inr, eq-eqb, reverse-append}
use Rattle.open_calls.specs.kernel_rules.proofs.{length-append, length-reverse, length-take-le, drop_more, Setting, IsSetting, Call, Reply}
use Rattle.open_calls.specs.kernel_rules.proofs.{Limits, Phase, Out, Open, Decided, alone}
use Rattle.marked_history.specs.{events_of, phase, state, marks_of, entered, AreHistory, SaidFits, LinesFit}
use Rattle.check_run.specs.history_check.specs.{at_of, seen_of, IsJudge, HasCome, BreaksAfter}
use Rattle.open_calls.specs.seq_state.proofs.{limits_stay, state_of}
use Rattle.std.proofs.lemmas.List.Elements.{All-nil, All-cons, All-append, All-get_or, All-take}
use Rattle.open_calls.specs.{declared.outlooks.Outlook.Outlook, Leads.names_text, Outlooks.IsOutlook, Outlooks.IsOutlookWhere}
use Rattle.marked_history.specs.{declared.marks.Mark.Mark, declared.marks.Mark.TheVariants.Enter, declared.marks.Mark.TheVariants.Decide}
use Rattle.marked_history.specs.{declared.marks.Mark.TheVariants.Return, declared.marks.Said.Said, declared.marks.Said.TheVariants.One}
use Rattle.marked_history.specs.{declared.marks.Said.TheVariants.Whole as whole_line, declared.marks.Line.Line, declared.marks.Why.Why}
use Rattle.check_run.specs.history_check.specs.{declared.judge.Judge.Judge, declared.seen.Seen.Seen, Judging.no_one, Judging.AtFits}
use Rattle.history_options.specs.{declared.forms.Form.Form, declared.forms.Place.Place, declared.forms.Place.TheVariants.Without}
use Rattle.history_options.specs.{declared.forms.Place.TheVariants.Done, declared.forms.Place.TheVariants.During, Forms.core_of}
use Rattle.history_options.specs.{Forms.place_of, Forms.marks_at, Forms.lines_at, Forms.CanDecide, Forms.DecidesAt, Replies.replies_of}
use Rattle.history_options.specs.{Texts.said_line, Options.AreOptions, Options.AddsOptions, Advice.out_text, Advice.done_text}
use Rattle.history_options.specs.{Advice.finding_text, Advice.found_text, Advice.IsAdviceAt, Advice.place_after, Advice.Adds}
use Rattle.history_options.specs.{Advice.AddsCallAdvice, Advice.AddsAdvice, Told.TellsBreak, Told.IsHistoryTold}
use Rattle.{std.proofs.lemmas.List.take-append-drop, marked_history.specs.declared.marks.Verdict.TheVariants.Illegal}
use Rattle.{marked_history.proofs.Running.histories_run, check_run.specs.Texts.verdict_text}
use Rattle.{check_run.specs.history_check.proofs.Lines.few_entered}
use Rattle.history_options.specs.declared.forms.Form.TheVariants as form

-- ---- lines with one more

pub fit_more : (cores : ℕ) (before : List Line) (line : Line) (lines : List Line) → LinesFit cores before → SaidFits cores line.said
    → lines ≡ before ++ line ∷ [] → LinesFit cores lines
fit_more cores before line lines fit said is = subst (LinesFit cores) (sym is)
    (All-append (λ (l : Line). SaidFits cores l.said) before (line ∷ []) fit
    (All-cons (λ (l : Line). SaidFits cores l.said) line [] said (All-nil (λ (l : Line). SaidFits cores l.said))))

pub few_more : (before : List Line) (line : Line) (lines : List Line) → length before + 1 < 2 ^ 32 → lines ≡ before ++ line ∷ []
    → length lines < 2 ^ 32
few_more before line lines few is = omega (arith, few, ap (λ (ls : List Line). length ls) is, length-append before (line ∷ []))

pub fit_at : (cores : ℕ) (marks : List Mark) (before : List Line) (c : ℕ) (call : Call) (f : Form) (lines : List Line)
    → LinesFit cores before → CanDecide cores marks c call f → lines ≡ lines_at before c call f → LinesFit cores lines
fit_at cores marks before c call form.Decided lines fit can is = subst (LinesFit cores) (sym is) fit
fit_at cores marks before c call (form.Whole i) lines fit can is =
    fit_more cores before (record { number = 0; said = One (Enter c call) }) lines fit (can.is_core, can.in_limits) is

pub few_at : (before : List Line) (c : ℕ) (call : Call) (f : Form) (lines : List Line) → length before + 1 < 2 ^ 32
    → lines ≡ lines_at before c call f → length lines < 2 ^ 32
few_at before c call form.Decided lines few is = omega (arith, few, ap (λ (ls : List Line). length ls) is)
few_at before c call (form.Whole i) lines few is = few_more before (record { number = 0; said = One (Enter c call) }) lines few is

-- ---- the judge where the call is open

-- the entry of a call that is made whole goes on with a history
pub come_at : (setting : Setting) (before : List Line) (c : ℕ) (call : Call) (f : Form) (lines : List Line) (j : Judge)
    → lines ≡ lines_at before c call f → AreHistory setting (reverse before)
    → CanDecide setting.cores (marks_of (reverse before)) c call f
    → (AreHistory setting (reverse lines) → HasCome setting (marks_of (reverse lines)) j)
    → HasCome setting (marks_at (marks_of (reverse before)) c call f) j
come_at setting before c call form.Decided lines j is history can come =
    subst (λ (ls : List Line). AreHistory setting (reverse ls) → HasCome setting (marks_of (reverse ls)) j) is come history
come_at setting before c call (form.Whole i) lines j is history can come =
    let entry : Line = record { number = 0; said = One (Enter c call) } in
    let turned : reverse lines ≡ entry ∷ reverse before =
    ap (λ (ls : List Line). reverse ls) is ∙ reverse-append before (entry ∷ []) in
    subst (λ (ls : List Line). AreHistory setting ls → HasCome setting (marks_of ls) j) turned come (
      history,
      record {
        numbered = tt;
        marks = (record { machine = (can.is_core, can.in_limits); order = can.stands; held_up = tt; permitted = tt }, tt);
      },
    )

pub core_there : (setting : Setting) (marks : List Mark) (j : Judge) (c : ℕ) → HasCome setting marks j → c < setting.cores
    → c < (state_of j.kernel).limits.cores
core_there setting marks j c come below =
    subst (λ (l : Limits). c < l.cores) (sym (come.kernel.limits ∙ limits_stay setting (events_of marks))) below

pub most_cores : (setting : Setting) (cores : ℕ) → IsSetting setting → cores ≡ setting.cores → cores ≤ 8
most_cores setting cores lim is = omega (arith, lim.most_cores, is)

pub outlook_there : (setting : Setting) → IsSetting setting → (marks : List Mark) (j : Judge) (c : ℕ) (call : Call) (found : Outlook)
    → HasCome setting marks j → phase marks c ≡ Open call → IsOutlookWhere j.kernel c call found → IsOutlook (state setting marks) c call found
outlook_there setting lim marks j c call found come opens look =
    look setting lim (events_of marks) (histories_run setting marks come.history) opens come.kernel

-- ---- what is told of a call

pub call_advice : (setting : Setting) (before : List Line) (number c : ℕ) (call : Call) (f : Form) (found : Outlook) (replies : List Reply)
    (old mid new : List ℕ)
    → IsOutlook (state setting (marks_at (marks_of (reverse before)) c call f)) c call found
    → mid ≡ old ++ found_text c call found → replies ≡ replies_of setting.cores found.alone found.told
    → AddsOptions setting before number c call f replies mid new → AddsCallAdvice setting before number c call f old new
call_advice setting before number c call f found replies old mid new look head are added =
    let s = state setting (marks_at (marks_of (reverse before)) c call f) in
    record {
      more = finding_text c call (names_text s c call) (alone s c call) ++ added.options;
      tells = record {
        options = added.options;
        are = subst (λ (rs : List Reply). AreOptions setting before number c call f rs added.options)
            (are ∙ (λ i. replies_of setting.cores (look.alone_reply i) (look.number_told i))) added.are;
        is_text = refl;
      };
      added = added.added ∙ ap (λ (x : List ℕ). x ++ added.options) head ∙ append_assoc old (found_text c call found) added.options
          ∙ (λ i. old ++ (finding_text c call (look.names i) (look.alone_reply i) ++ added.options));
    }

-- ---- where a line stands

said_core : (cores : ℕ) (said : Said) → SaidFits cores said → core_of said < cores
said_core cores (One (Enter c call)) fits = fits.0
said_core cores (One (Decide c r)) fits = fits
said_core cores (One (Return c)) fits = fits
said_core cores (whole_line c i call r) fits = fits.0

place_decides : (cores : ℕ) (marks : List Mark) (said : Said) (next : ℕ) (p : Phase) → SaidFits cores said → phase marks (core_of said) ≡ p
    → AtFits (at_of p) → DecidesAt cores marks (core_of said) (place_of said (at_of p) next)
place_decides cores marks said next (Open call) fits is open_fits = record {
  is_core = said_core cores said fits;
  in_limits = open_fits;
  stands = tt;
  opens = is;
}
place_decides cores marks said next (Decided call r) fits is open_fits = tt
place_decides cores marks (One m) next Out fits is open_fits = tt
place_decides cores marks (whole_line c i call r) next Out fits is open_fits = record {
  is_core = fits.0;
  in_limits = fits.1;
  stands = is;
  opens = ap (λ b. if b then Open call else phase marks c) (eq-eqb c c refl);
}

module _ (setting : Setting) (before : List Line) (line : Line) (j : Judge) (seen : Seen) (next : ℕ)
    (come : HasCome setting (marks_of (reverse before)) j)
    (here : seen_of j.seen.items (core_of line.said) ≡ seen) (more : next ≡ seen.entered + 1) where
  pub place_is : place_of line.said seen.at next ≡ place_after before line
  place_is =
      let c = core_of line.said in
      let is_at : seen.at ≡ at_of (phase (marks_of (reverse before)) c) = ap (λ (x : Seen). x.at) (sym here) ∙ come.cores c in
      let count : next ≡ entered (marks_of (reverse before)) c + 1 =
      more ∙ ap (λ n. n + 1) (ap (λ (x : Seen). x.entered) (sym here) ∙ come.entered c) in
      λ i. place_of line.said (is_at i) (count i)

  pub place_can : IsJudge j → IsSetting setting → SaidFits setting.cores line.said
      → DecidesAt setting.cores (marks_of (reverse before)) (core_of line.said) (place_of line.said seen.at next)
  place_can judge lim fits =
      let c = core_of line.said in
      let marks = marks_of (reverse before) in
      let low : c < length j.seen.items = omega (arith, said_core setting.cores line.said fits, lim.most_cores, judge.eight) in
      let open_fits : AtFits (at_of (phase marks c)) =
      subst AtFits (come.cores c) (All-get_or (λ (x : Seen). AtFits x.at) j.seen.items c no_one low judge.fit) in
      subst (DecidesAt setting.cores marks c) (sym place_is)
      (place_decides setting.cores marks line.said (entered marks c + 1) (phase marks c) fits refl open_fits)

pub room : (before : List Line) (c : ℕ) → length before + 1 < 2 ^ 32 → entered (marks_of (reverse before)) c + 1 < 2 ^ 64
room before c few = omega (arith, few, few_entered (reverse before) c, length-reverse before)

-- ---- what is told at a place

pub decides_now : (cores : ℕ) (marks : List Mark) (c : ℕ) (place : Place) (call : Call) (f : Form) → place ≡ During call f
    → DecidesAt cores marks c place → CanDecide cores marks c call f
decides_now cores marks c place call f is decides = subst (DecidesAt cores marks c) is decides

advice_so : (setting : Setting) (before : List Line) (line : Line) (place : Place) (old new : List ℕ) → place ≡ place_after before line
    → Adds (IsAdviceAt setting before line.number (core_of line.said) place) old new → AddsAdvice setting before line old new
advice_so setting before line place old new is adds =
    subst (λ (p : Place). Adds (IsAdviceAt setting before line.number (core_of line.said) p) old new) is adds

pub out_so : (setting : Setting) (before : List Line) (line : Line) (place : Place) (next : ℕ) (old new : List ℕ)
    → place ≡ place_after before line → place ≡ Without next → new ≡ old ++ out_text (core_of line.said) next
    → AddsAdvice setting before line old new
out_so setting before line place next old new here is text =
    advice_so setting before line (Without next) old new (sym is ∙ here)
    (record { more = out_text (core_of line.said) next; tells = refl; added = text })

pub done_so : (setting : Setting) (before : List Line) (line : Line) (place : Place) (old new : List ℕ)
    → place ≡ place_after before line → place ≡ Done → new ≡ old ++ done_text (core_of line.said) → AddsAdvice setting before line old new
done_so setting before line place old new here is text =
    advice_so setting before line Done old new (sym is ∙ here)
    (record { more = done_text (core_of line.said); tells = refl; added = text })

pub during_so : (setting : Setting) (before : List Line) (line : Line) (place : Place) (call : Call) (f : Form) (old new : List ℕ)
    → place ≡ place_after before line → place ≡ During call f
    → AddsCallAdvice setting before line.number (core_of line.said) call f old new → AddsAdvice setting before line old new
during_so setting before line place call f old new here is adds =
    advice_so setting before line (During call f) old new (sym is ∙ here) adds

-- ---- what is told of lines

pub break_so : (setting : Setting) (before : List Line) (line : Line) (w : Why) (first mid last : List ℕ)
    → first ≡ verdict_text (Illegal line.number w) → mid ≡ first ++ said_line line.said → AddsAdvice setting before line mid last
    → TellsBreak setting before line w last
break_so setting before line w first mid last head said adds = record {
  advice = adds.more;
  is_advice = adds.tells;
  is_text = adds.added ∙ ap (λ (x : List ℕ). x ++ adds.more) (said ∙ ap (λ (x : List ℕ). x ++ said_line line.said) head)
      ∙ append_assoc (verdict_text (Illegal line.number w)) (said_line line.said) adds.more;
}

pub few_before : (lines before : List Line) (i : ℕ) → i < length lines → before ≡ take i lines → length before + 1 ≤ length lines
few_before lines before i lt is = omega (arith, lt, ap (λ (ls : List Line). length ls) is, length-take-le i lines (omega (arith, lt)))

pub fit_before : (cores : ℕ) (lines before : List Line) (i : ℕ) → before ≡ take i lines → LinesFit cores lines → LinesFit cores before
fit_before cores lines before i is fit = subst (LinesFit cores) (sym is) (All-take (λ (l : Line). SaidFits cores l.said) i lines fit)

pub fit_there : (cores : ℕ) (lines : List Line) (line : Line) (i : ℕ) → i < length lines → line ≡ get_or lines i line → LinesFit cores lines
    → SaidFits cores line.said
fit_there cores lines line i lt is fit = subst (λ (l : Line). SaidFits cores l.said) (sym is)
    (All-get_or (λ (l : Line). SaidFits cores l.said) lines i line lt fit)

pub history_before : (setting : Setting) (lines before : List Line) (i : ℕ) (w : Why) → before ≡ take i lines
    → BreaksAfter setting lines i w → AreHistory setting (reverse before)
history_before setting lines before i w is breaks = subst (λ (ls : List Line). AreHistory setting (reverse ls)) (sym is) breaks.history

pub break_told : (setting : Setting) (lines before : List Line) (line : Line) (i : ℕ) (w : Why) (text : List ℕ) → before ≡ take i lines
    → line ≡ get_or lines i line → BreaksAfter setting lines i w → TellsBreak setting before line w text → IsHistoryTold setting lines text
break_told setting lines before line i w text is here breaks told = inr record {
  before = take i lines;
  line = line;
  rest = drop (i + 1) lines;
  why = w;
  are = sym (take-append-drop i lines) ∙ ap (λ (ls : List Line). take i lines ++ ls) (drop_more lines i line breaks.within)
      ∙ ap (λ (l : Line). take i lines ++ l ∷ drop (i + 1) lines) (sym here);
  history = breaks.history;
  breaks = breaks.breaks line here;
  told = subst (λ (ls : List Line). TellsBreak setting ls line w text) is told;
}
