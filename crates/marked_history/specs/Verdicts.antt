-- What is found of the lines of a text. Lines that came before are listed with the newest first, as marks are.
use Rattle.std.specs.Prelude.{◌≡◌, ◌<◌, ◌⊎◌, ◌==◌, ◌+◌, ◌∷◌, ◌++◌, if◌then◌else◌}
use Rattle.kernel_rules.specs.{ℕ, All, List, [], reverse, Setting, InLimits}
use Rattle.marked_history.specs.{declared.marks.Mark.Mark, declared.marks.Mark.TheVariants.Enter, declared.marks.Mark.TheVariants.Decide}
use Rattle.marked_history.specs.{declared.marks.Mark.TheVariants.Return, declared.marks.Said.Said, declared.marks.Said.TheVariants.One}
use Rattle.marked_history.specs.{declared.marks.Said.TheVariants.Whole, declared.marks.Line.Line, declared.marks.Why.Why}
use Rattle.marked_history.specs.{declared.marks.Verdict.Verdict, declared.marks.Verdict.TheVariants.Legal}
use Rattle.marked_history.specs.{declared.marks.Verdict.TheVariants.Illegal, Histories.IsOfMachine, Histories.IsInOrder, Histories.IsHeldUp}
use Rattle.marked_history.specs.{Histories.IsPermitted, Histories.MayFollow, Histories.IsHistory}

-- ---- the marks of lines

-- The marks of a line, in the order in which it stands for them.
abbrev pub said_marks : Said → List Mark
said_marks (One m) = m ∷ []
said_marks (Whole c i call r) = Enter c call ∷ Decide c r ∷ Return c ∷ []

-- The marks of lines, the newest first.
abbrev pub marks_of : List Line → List Mark
marks_of [] = []
marks_of (l ∷ lines) = reverse (said_marks l.said) ++ marks_of lines

-- How many calls a core has entered.
abbrev pub entered : List Mark → ℕ → ℕ
entered [] c = 0
entered (Enter d call ∷ marks) c = if c == d then entered marks c + 1 else entered marks c
entered (Decide d r ∷ marks) c = entered marks c
entered (Return d ∷ marks) c = entered marks c

-- How many calls are decided.
abbrev pub decisions : List Mark → ℕ
decisions [] = 0
decisions (Enter d call ∷ marks) = decisions marks
decisions (Decide d r ∷ marks) = decisions marks + 1
decisions (Return d ∷ marks) = decisions marks

-- A call that a line stands for whole has the number of its core's next call.
abbrev pub IsNumbered : List Mark → Said → Type 0
IsNumbered marks (One m) = Unit {0}
IsNumbered marks (Whole c i call r) = i ≡ entered marks c + 1

-- ---- lines of a machine

-- A line says marks of cores of a machine with so many, and calls within their limits.
abbrev pub SaidFits : ℕ → Said → Type 0
SaidFits cores (One m) = IsOfMachine cores m
SaidFits cores (Whole c i call r) = (c < cores) × InLimits call

-- So all lines do.
abbrev pub LinesFit : ℕ → List Line → Type 0
LinesFit cores lines = All (λ (l : Line). SaidFits cores l.said) lines

-- ---- lines that are a history

-- The marks, in order, may follow: each those before it.
abbrev pub AllFollow : Setting → List Mark → List Mark → Type 0
AllFollow setting before [] = Unit {0}
AllFollow setting before (m ∷ marks) = MayFollow setting before m × AllFollow setting (m ∷ before) marks

-- A line may follow.
pub record LineFollows (setting : Setting) (before : List Mark) (said : Said) : Type 0 where
  pub numbered : IsNumbered before said
  pub marks : AllFollow setting before (said_marks said)

-- Lines are a history where each may follow those before it.
abbrev pub AreHistory : Setting → List Line → Type 0
AreHistory setting [] = Unit {0}
AreHistory setting (l ∷ lines) = AreHistory setting lines × LineFollows setting (marks_of lines) l.said

-- ---- why no history goes on

-- Why a mark may not follow: its core's order comes first, then who holds it up, then the call relation.
abbrev pub MarkBreaks : Setting → List Mark → Mark → Why → Type 0
MarkBreaks setting before m Why.Marks = IsInOrder before m → ⊥
MarkBreaks setting before m Why.Race = IsInOrder before m × (IsHeldUp before m → ⊥)
MarkBreaks setting before m Why.Reply = IsInOrder before m × IsHeldUp before m × (IsPermitted setting before m → ⊥)

-- The first of the marks, in order, that may not follow, and why.
abbrev pub FirstBreaks : Setting → List Mark → List Mark → Why → Type 0
FirstBreaks setting before [] w = ⊥
FirstBreaks setting before (m ∷ marks) w = MarkBreaks setting before m w
    ⊎ (MayFollow setting before m × FirstBreaks setting (m ∷ before) marks w)

-- Why a line may not follow: a wrong number is one of its core's marks.
pub data LineBreaks (setting : Setting) (before : List Mark) (said : Said) : Why → Type 0 where
  Misnumbered : (IsNumbered before said → ⊥) → LineBreaks setting before said Why.Marks
  Numbered : {w : Why} → IsNumbered before said → FirstBreaks setting before (said_marks said) w → LineBreaks setting before said w

-- ---- the verdict

-- The lines are a history with so many decisions.
pub record AreLegal (setting : Setting) (lines : List Line) (decided : ℕ) : Type 0 where
  pub history : AreHistory setting (reverse lines)
  pub count : decided ≡ decisions (marks_of (reverse lines))

-- The line of this number is the first that no history goes on with: the lines before it are one.
pub record BreakAt (setting : Setting) (lines : List Line) (number : ℕ) (w : Why) : Type 0 where
  pub before : List Line
  pub line : Line
  pub rest : List Line
  pub are : lines ≡ before ++ line ∷ rest
  pub is_number : number ≡ line.number
  pub history : AreHistory setting (reverse before)
  pub breaks : LineBreaks setting (marks_of (reverse before)) line.said w

-- The verdict on lines, in the order written.
abbrev pub IsVerdict : Setting → List Line → Verdict → Type 0
IsVerdict setting lines (Legal decided) = AreLegal setting lines decided
IsVerdict setting lines (Illegal number w) = BreakAt setting lines number w
