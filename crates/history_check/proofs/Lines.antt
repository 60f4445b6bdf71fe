-- A judge takes a line, and line by line it comes to the verdict.
use Rattle.call_judge.specs.seq_state.specs.kernel_rules.proofs.{◌≡◌, ℕ, ◌+◌, ◌^◌, ◌<◌, ◌≤◌, ◌==◌, Bool, true, false, List, [], ◌∷◌, ◌++◌}
use Rattle.call_judge.specs.seq_state.specs.kernel_rules.proofs.{reverse, take}
use Rattle.call_judge.specs.seq_state.specs.kernel_rules.proofs.{drop, length, get_or, Option, Some, None, Result, Ok, Err, IfOk, refl, sym}
use Rattle.call_judge.specs.seq_state.specs.kernel_rules.proofs.{ap, subst, ◌∙◌}
use Rattle.call_judge.specs.seq_state.specs.kernel_rules.proofs.{inl, inr, if◌then◌else◌, arith, take_more, take_all, drop_more}
use Rattle.call_judge.specs.seq_state.specs.kernel_rules.proofs.{reverse-append}
use Rattle.call_judge.specs.seq_state.specs.kernel_rules.proofs.{length-reverse, length-take-le, Setting, IsSetting, Call, Reply, Limits}
use Rattle.marked_history.specs.{events_of, MayFollow, IsOfMachine, said_marks, marks_of, entered, decisions, AreHistory, SaidFits}
use Rattle.marked_history.specs.{LinesFit, Misnumbered, Numbered, AreLegal}
use Rattle.history_check.specs.{seen_of, IsJudge, HasCome, JudgesMark, JudgesLine}
use Rattle.marked_history.specs.{declared.marks.Mark.Mark, declared.marks.Mark.TheVariants.Enter, declared.marks.Mark.TheVariants.Decide}
use Rattle.marked_history.specs.{declared.marks.Mark.TheVariants.Return, declared.marks.Said.Said, declared.marks.Said.TheVariants.One}
use Rattle.marked_history.specs.{declared.marks.Said.TheVariants.Whole, declared.marks.Line.Line, declared.marks.Why.Why, Verdicts.BreakAt}
use Rattle.history_check.specs.Judging.{HasRoom, RoomFor, MarkFound, call_marks, MarksFound, JudgesOthers, JudgesMarks, LineFound, CallFits}
use Rattle.{call_judge.specs.seq_state.proofs.limits_stay, call_judge.specs.seq_state.proofs.state_of}
use Rattle.{std.proofs.lemmas.List.take-append-drop}
use Rattle.{std.proofs.lemmas.List.Elements.All-get_or, history_check.specs.declared.judge.Judge.Judge, history_check.specs.Judging.core_of}
use Rattle.marked_history.specs.declared.marks.Why.TheVariants as why

pub ok_map : {A E : Type 0} {P Q : A → Type 0} (r : Result A E) → ((a : A) → P a → Q a) → IfOk r P → IfOk r Q
ok_map (Ok a) f p = f a p
ok_map (Err e) f p = tt

-- ---- the three marks of a call made whole

module _ (j : Judge) (c : ℕ) (r : Reply) where
  pub decision_breaks : (j1 : Judge) (w : Why) → JudgesMark j (Decide c r) (Some w) j1 → JudgesOthers j c r (Some w) j1
  decision_breaks j1 w one setting lim marks come room lt = inl (one setting lim marks come room lt)

  pub return_found : (j1 j2 : Judge) (found : Option Why) → JudgesMark j (Decide c r) None j1 → JudgesMark j1 (Return c) found j2
      → JudgesOthers j c r found j2
  return_found j1 j2 found one two setting lim marks come room lt =
      let decided : HasCome setting (Decide c r ∷ marks) j1 = one setting lim marks come room lt in
      so setting marks found decided.history.1 (two setting lim (Decide c r ∷ marks) decided tt lt)
    where
      so : (setting : Setting) (marks : List Mark) (found : Option Why) → MayFollow setting marks (Decide c r)
          → MarkFound setting (Decide c r ∷ marks) (Return c) found j2 → MarksFound setting marks (Decide c r ∷ Return c ∷ []) found j2
      so setting marks None f left = record { follow = (f, (left.history.1, tt)); come = left }
      so setting marks (Some w) f breaks = inr (f, inl breaks)

module _ (j : Judge) (c : ℕ) (call : Call) (r : Reply) where
  pub entry_breaks : (j1 : Judge) (w : Why) → JudgesMark j (Enter c call) (Some w) j1 → JudgesMarks j c call r (Some w) j1
  entry_breaks j1 w one setting lim marks come room fit = inl (one setting lim marks come (room.entries c) fit)

  pub others_found : (j1 j2 : Judge) (found : Option Why) → JudgesMark j (Enter c call) None j1 → JudgesOthers j1 c r found j2
      → JudgesMarks j c call r found j2
  others_found j1 j2 found one others setting lim marks come room fit =
      let entered : HasCome setting (Enter c call ∷ marks) j1 = one setting lim marks come (room.entries c) fit in
      so setting marks found entered.history.1 (others setting lim (Enter c call ∷ marks) entered room.decisions fit.0)
    where
      so : (setting : Setting) (marks : List Mark) (found : Option Why) → MayFollow setting marks (Enter c call)
          → MarksFound setting (Enter c call ∷ marks) (Decide c r ∷ Return c ∷ []) found j2
          → MarksFound setting marks (call_marks c call r) found j2
      so setting marks None f taken = record { follow = (f, taken.follow); come = taken.come }
      so setting marks (Some w) f breaks = inr (f, breaks)

-- ---- a line

room_for : (marks : List Mark) (m : Mark) → HasRoom marks → RoomFor marks m
room_for marks (Enter c call) room = room.entries c
room_for marks (Decide c r) room = room.decisions
room_for marks (Return c) room = tt

pub one_mark : (j j' : Judge) (m : Mark) (found : Option Why) → JudgesMark j m found j' → JudgesLine j (One m) found j'
one_mark j j' m found judged setting lim marks come room fit =
    so setting marks found (judged setting lim marks come (room_for marks m room) fit)
  where
    so : (setting : Setting) (marks : List Mark) (found : Option Why) → MarkFound setting marks m found j'
        → LineFound setting marks (One m) found j'
    so setting marks None next = record { follows = record { numbered = tt; marks = (next.history.1, tt) }; come = next }
    so setting marks (Some w) breaks = Numbered tt (inl breaks)

module _ (j j' : Judge) (c i : ℕ) (call : Call) (r : Reply) where
  pub whole_call : (found : Option Why) → i ≡ (seen_of j.seen.items c).entered + 1 → JudgesMarks j c call r found j'
      → JudgesLine j (Whole c i call r) found j'
  whole_call found is judged setting lim marks come room fit =
      so setting marks found (is ∙ ap (λ n. n + 1) (come.entered c)) (judged setting lim marks come room fit)
    where
      so : (setting : Setting) (marks : List Mark) (found : Option Why) → i ≡ entered marks c + 1
          → MarksFound setting marks (call_marks c call r) found j' → LineFound setting marks (Whole c i call r) found j'
      so setting marks None is taken = record { follows = record { numbered = is; marks = taken.follow }; come = taken.come }
      so setting marks (Some w) is breaks = Numbered is breaks

  pub other_number : (i ≡ (seen_of j.seen.items c).entered + 1 → ⊥) → JudgesLine j (Whole c i call r) (Some why.Marks) j'
  other_number other setting lim marks come room fit = Misnumbered (λ is. other (is ∙ ap (λ n. n + 1) (sym (come.entered c))))

pub call_fits : (cores : ℕ) (said : Said) → SaidFits cores said → CallFits said
call_fits cores (One (Enter c call)) fit = fit.1
call_fits cores (One (Decide c r)) fit = tt
call_fits cores (One (Return c)) fit = tt
call_fits cores (Whole c i call r) fit = fit.1

-- A core that the machine does not have makes no mark.
pub beyond : (setting : Setting) (marks : List Mark) (j : Judge) (m : Mark) → HasCome setting marks j
    → (state_of j.kernel).limits.cores ≤ core_of m → IsOfMachine setting.cores m → ⊥
beyond setting marks j m come past machine = omega (arith, past, cores, within m machine)
  where
    cores : (state_of j.kernel).limits.cores ≡ setting.cores
    cores = ap (λ (l : Limits). l.cores) (come.kernel.limits ∙ limits_stay setting (events_of marks))

    within : (n : Mark) → IsOfMachine setting.cores n → core_of n < setting.cores
    within (Enter c call) is = is.0
    within (Decide c r) is = is
    within (Return c) is = is

-- ---- room

entered_more : (marks : List Mark) (m : Mark) (c : ℕ) → entered (m ∷ marks) c ≤ entered marks c + 1
entered_more marks (Enter d call) c = by_core (c == d)
  where
    by_core : (b : Bool) → (if b then entered marks c + 1 else entered marks c) ≤ entered marks c + 1
    by_core true = omega arith
    by_core false = omega arith
entered_more marks (Decide d r) c = omega arith
entered_more marks (Return d) c = omega arith

decisions_more : (marks : List Mark) (m : Mark) → decisions (m ∷ marks) ≤ decisions marks + 1
decisions_more marks (Enter d call) = omega arith
decisions_more marks (Decide d r) = omega arith
decisions_more marks (Return d) = omega arith

pub few_entered : (lines : List Line) (c : ℕ) → entered (marks_of lines) c ≤ length lines
few_entered [] c = omega arith
few_entered (l ∷ lines) c = omega (arith, by_said l.said, few_entered lines c)
  where
    by_said : (said : Said) → entered (reverse (said_marks said) ++ marks_of lines) c ≤ entered (marks_of lines) c + 1
    by_said (One m) = entered_more (marks_of lines) m c
    by_said (Whole d i call r) = entered_more (marks_of lines) (Enter d call) c

few_decided : (lines : List Line) → decisions (marks_of lines) ≤ length lines
few_decided [] = omega arith
few_decided (l ∷ lines) = omega (arith, by_said l.said, few_decided lines)
  where
    by_said : (said : Said) → decisions (reverse (said_marks said) ++ marks_of lines) ≤ decisions (marks_of lines) + 1
    by_said (One m) = decisions_more (marks_of lines) m
    by_said (Whole d i call r) = omega arith

-- ---- line by line

-- The first i lines are a history, and the judge has come to its end.
pub record Goes (setting : Setting) (lines : List Line) (i : ℕ) (j : Judge) : Type 0 where
  pub history : AreHistory setting (reverse (take i lines))
  pub come : HasCome setting (marks_of (reverse (take i lines))) j
  pub judge : IsJudge j

pub one_line : (lines : List Line) (i : ℕ) (d : Line) → i < length lines → reverse (take (i + 1) lines) ≡ get_or lines i d ∷ reverse (take i lines)
one_line lines i d lt = ap reverse (take_more lines i d lt) ∙ reverse-append (take i lines) (get_or lines i d ∷ [])

pub room_at : (setting : Setting) (lines : List Line) (i : ℕ) → i < length lines → length lines < 2 ^ 32
    → HasRoom (marks_of (reverse (take i lines)))
room_at setting lines i lt few = record {
  entries = λ c. omega (arith, few_entered (reverse (take i lines)) c, long, lt, few);
  decisions = omega (arith, few_decided (reverse (take i lines)), long, lt, few);
}
  where
    long : length (reverse (take i lines)) ≡ i
    long = length-reverse (take i lines) ∙ length-take-le i lines (omega (arith, lt))

module _ (setting : Setting) (lim : IsSetting setting) (lines : List Line) (i : ℕ) (d : Line) (lt : i < length lines)
    (few : length lines < 2 ^ 32) (fit : LinesFit setting.cores lines) (j j' : Judge) (goes : Goes setting lines i j) where
  found_at : (found : Option Why) → JudgesLine j (get_or lines i d).said found j'
      → LineFound setting (marks_of (reverse (take i lines))) (get_or lines i d).said found j'
  found_at found judged = judged setting lim (marks_of (reverse (take i lines))) goes.come (room_at setting lines i lt few)
      (All-get_or (λ (x : Line). SaidFits setting.cores x.said) lines i d lt fit)

  pub goes_on : d ≡ get_or lines i d → IsJudge j' → JudgesLine j d.said None j' → Goes setting lines (i + 1) j'
  goes_on is judge judged =
      let taken = found_at None (subst (λ (x : Line). JudgesLine j x.said None j') is judged) in
      record {
        history = subst (AreHistory setting) (sym (one_line lines i d lt)) (goes.history, taken.follows);
        come = subst (λ ls. HasCome setting (marks_of ls) j') (sym (one_line lines i d lt)) taken.come;
        judge = judge;
      }

  pub breaks_at : (w : Why) → d ≡ get_or lines i d → JudgesLine j d.said (Some w) j' → BreakAt setting lines d.number w
  breaks_at w is judged = subst (λ (x : Line). BreakAt setting lines x.number w) (sym is) here
    where
      here : BreakAt setting lines (get_or lines i d).number w
      here = record {
        before = take i lines;
        line = get_or lines i d;
        rest = drop (i + 1) lines;
        are = sym (take-append-drop i lines) ∙ ap (λ ls. take i lines ++ ls) (drop_more lines i d lt);
        is_number = refl;
        history = goes.history;
        breaks = found_at (Some w) (subst (λ (x : Line). JudgesLine j x.said (Some w) j') is judged);
      }

pub all_legal : (setting : Setting) (lines : List Line) (i : ℕ) (j : Judge) → Goes setting lines i j → length lines ≤ i
    → AreLegal setting lines j.decided
all_legal setting lines i j goes le = record {
  history = subst (λ ls. AreHistory setting (reverse ls)) (take_all i lines le) goes.history;
  count = goes.come.decided ∙ ap (λ ls. decisions (marks_of (reverse ls))) (take_all i lines le);
}
