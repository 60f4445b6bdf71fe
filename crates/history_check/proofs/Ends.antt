-- A judge comes to the end of lines that are a history.
use Rattle.call_judge.specs.same_changes.specs.kernel_laws.proofs.{◌≡◌, ℕ, ◌+◌, ◌^◌, ◌<◌, ◌≤◌, List, [], ◌∷◌, ◌++◌, reverse, take, length}
use Rattle.call_judge.specs.same_changes.specs.kernel_laws.proofs.{get_or, Option, Some, None, sym, subst, ◌∙◌, inl, inr, take_all, Setting}
use Rattle.call_judge.specs.same_changes.specs.kernel_laws.proofs.{IsSetting}
use Rattle.marked_history.specs.{MayFollow, said_marks, marks_of, AllFollow, LineFollows, AreHistory, MarkBreaks, FirstBreaks, LineBreaks}
use Rattle.marked_history.specs.{Misnumbered, Numbered, SaidFits, LinesFit}
use Rattle.history_check.specs.{IsJudge, HasCome, JudgesLine, BreaksAfter}
use Rattle.std.proofs.{lemmas.List.get_or_default, lemmas.List.Elements.All-get_or}
use Rattle.marked_history.specs.{declared.marks.Mark.Mark, declared.marks.Said.Said, declared.marks.Line.Line, declared.marks.Why.Why}
use Rattle.history_check.specs.{declared.judge.Judge.Judge, Judging.LineFound}
use Rattle.history_check.proofs.Lines.{Goes, one_line, room_at}
use Rattle.marked_history.specs.declared.marks.Why.TheVariants as why

-- ---- what follows does not break

mark_follows : (setting : Setting) (before : List Mark) (m : Mark) (w : Why) → MayFollow setting before m → MarkBreaks setting before m w → ⊥
mark_follows setting before m why.Marks f b = b f.order
mark_follows setting before m why.Race f b = b.1 f.held_up
mark_follows setting before m why.Reply f b = b.2 f.permitted

all_follow : (setting : Setting) (before marks : List Mark) (w : Why) → AllFollow setting before marks → FirstBreaks setting before marks w → ⊥
all_follow setting before [] w f b = absurd b
all_follow setting before (m ∷ marks) w f (inl b) = mark_follows setting before m w f.0 b
all_follow setting before (m ∷ marks) w f (inr b) = all_follow setting (m ∷ before) marks w f.1 b.1

line_follows : (setting : Setting) (before : List Mark) (said : Said) (w : Why) → LineFollows setting before said
    → LineBreaks setting before said w → ⊥
line_follows setting before said why.Marks f (Misnumbered other) = other f.numbered
line_follows setting before said w f (Numbered is b) = all_follow setting before (said_marks said) w f.marks b

come_of : (setting : Setting) (marks : List Mark) (said : Said) (found : Option Why) (j : Judge) → LineFound setting marks said found j
    → LineFollows setting marks said → HasCome setting (reverse (said_marks said) ++ marks) j
come_of setting marks said None j taken follows = taken.come
come_of setting marks said (Some w) j breaks follows = absurd (line_follows setting marks said w follows breaks)

-- ---- line by line

-- If the first i lines are a history, the judge has come to its end.
pub record Comes (setting : Setting) (lines : List Line) (i : ℕ) (j : Judge) : Type 0 where
  pub judge : IsJudge j
  pub come : AreHistory setting (reverse (take i lines)) → HasCome setting (marks_of (reverse (take i lines))) j

pub comes_on : (setting : Setting) → IsSetting setting → (lines : List Line) (i : ℕ) (d : Line) → i < length lines → length lines < 2 ^ 32
    → LinesFit setting.cores lines → (j j' : Judge) → Comes setting lines i j → (found : Option Why) → d ≡ get_or lines i d → IsJudge j'
    → JudgesLine j d.said found j' → Comes setting lines (i + 1) j'
comes_on setting lim lines i d lt few fit j j' comes found is judge judged = record {
  judge = judge;
  come = λ h.
      let both = subst (AreHistory setting) (one_line lines i d lt) h in
      subst (λ ls. HasCome setting (marks_of ls) j') (sym (one_line lines i d lt))
      (come_of setting (marks_of (reverse (take i lines))) (get_or lines i d).said found j'
      (subst (λ (x : Line). JudgesLine j x.said found j') is judged setting lim (marks_of (reverse (take i lines))) (comes.come both.0)
      (room_at setting lines i lt few) (All-get_or (λ (x : Line). SaidFits setting.cores x.said) lines i d lt fit)) both.1);
}

pub comes_all : (setting : Setting) (lines : List Line) (i : ℕ) (j : Judge) → Comes setting lines i j → length lines ≤ i
    → AreHistory setting (reverse lines) → HasCome setting (marks_of (reverse lines)) j
comes_all setting lines i j comes le = subst (λ ls. AreHistory setting (reverse ls) → HasCome setting (marks_of (reverse ls)) j)
    (take_all i lines le) comes.come

-- ---- the place at which lines are no history any more

pub breaks_after : (setting : Setting) → IsSetting setting → (lines : List Line) (i : ℕ) (d : Line) → i < length lines → length lines < 2 ^ 32
    → LinesFit setting.cores lines → (j j' : Judge) → Goes setting lines i j → (w : Why) → d ≡ get_or lines i d
    → JudgesLine j d.said (Some w) j' → BreaksAfter setting lines i w
breaks_after setting lim lines i d lt few fit j j' goes w is judged = record {
  within = lt;
  history = goes.history;
  breaks = λ line here.
      subst (λ (x : Line). LineBreaks setting (marks_of (reverse (take i lines))) x.said w)
      (get_or_default lines i d line lt ∙ sym here)
      (subst (λ (x : Line). JudgesLine j x.said (Some w) j') is judged setting lim (marks_of (reverse (take i lines))) goes.come
      (room_at setting lines i lt few) (All-get_or (λ (x : Line). SaidFits setting.cores x.said) lines i d lt fit));
}
