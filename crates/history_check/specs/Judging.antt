-- What it means that a judge has come to a place of a history.
use Rattle.std.specs.Prelude.{◌≡◌, ◌≢◌, ◌<◌, ◌^◌, ◌+◌, ◌==◌, ◌&&◌, ◌∷◌, ◌++◌}
use Rattle.call_judge.specs.seq_state.specs.{not, ℕ, Bool, true, false, List, [], reverse, length, get_or}
use Rattle.call_judge.specs.seq_state.specs.{Option, Some, None, IsTrue, All, Setting, IsSetting, InLimits, Call, Reply, Phase, Out, Open}
use Rattle.call_judge.specs.seq_state.specs.{Decided, is_in}
use Rattle.marked_history.specs.{phase, state, HasMet, IsOfMachine, IsHistory, said_marks, entered, decisions, AllFollow, MarkBreaks}
use Rattle.marked_history.specs.{FirstBreaks, SaidFits, LineBreaks, LineFollows}
use Rattle.marked_history.specs.{declared.marks.Mark.Mark, declared.marks.Mark.TheVariants.Enter, declared.marks.Mark.TheVariants.Decide}
use Rattle.marked_history.specs.{declared.marks.Mark.TheVariants.Return, declared.marks.Said.Said, declared.marks.Said.TheVariants.One}
use Rattle.marked_history.specs.{declared.marks.Said.TheVariants.Whole, declared.marks.Why.Why}
use Rattle.history_check.specs.{declared.seen.At.At, declared.seen.Seen.Seen, declared.judge.Judge.Judge}
use Rattle.{call_judge.specs.seq_state.specs.Represents, call_judge.specs.seq_plans.specs.Refusals.Decides}

-- ---- cores

-- Where a core is, by its phase.
abbrev pub at_of : Phase → At
at_of Out = At.Out
at_of (Open call) = At.Open call
at_of (Decided call r) = At.Decided

-- Whether a core is in a call.
abbrev pub is_inside : At → Bool
is_inside At.Out = false
is_inside (At.Open call) = true
is_inside At.Decided = true

-- A core that has entered no call.
abbrev pub no_one : Seen
no_one = record { at = At.Out; entered = 0 }

-- What is seen of a core; one past the list has entered no call.
abbrev pub seen_of : List Seen → ℕ → Seen
seen_of seen c = get_or seen c no_one

-- Another core than c is seen in a call.
pub record IsAnotherSeen (seen : List Seen) (c : ℕ) : Type 0 where
  pub core : ℕ
  pub other : core ≢ c
  pub inside : IsTrue (is_inside (seen_of seen core).at)

-- The call of a core that is in it is within its limits.
abbrev pub AtFits : At → Type 0
AtFits At.Out = Unit {0}
AtFits (At.Open call) = InLimits call
AtFits At.Decided = Unit {0}

-- A judge that is used: it sees eight cores, and their calls are within their limits.
pub record IsJudge (j : Judge) : Type 0 where
  pub eight : length j.seen.items ≡ 8
  pub fit : All (λ (s : Seen). AtFits s.at) j.seen.items

-- Whether core c is the one that is alone.
abbrev pub is_alone : Option ℕ → ℕ → Bool
is_alone None c = false
is_alone (Some d) c = c == d

-- The core that is alone after core c has entered a call: that core, unless another is in a call.
abbrev pub alone_after : Bool → ℕ → Option ℕ
alone_after true c = None
alone_after false c = Some c

-- ---- a judge after marks

-- The judge has come to the end of these marks: they are a history; its kernel represents the state that they leave; it sees where each
-- core is, and how many calls it has entered; a core that is in a call has met another one since it entered it, unless it is the one
-- that is alone; and the decisions are counted.
pub record HasCome (setting : Setting) (marks : List Mark) (j : Judge) : Type 0 where
  pub history : IsHistory setting marks
  pub kernel : Represents j.kernel (state setting marks)
  pub cores : (c : ℕ) → (seen_of j.seen.items c).at ≡ at_of (phase marks c)
  pub entered : (c : ℕ) → (seen_of j.seen.items c).entered ≡ entered marks c
  pub met : (c : ℕ) → IsTrue (is_in (phase marks c)) → Decides (not (is_alone j.alone c)) (HasMet marks c)
  pub decided : j.decided ≡ decisions marks

-- There is room to count one more entry of each core, and one more decision.
pub record HasRoom (marks : List Mark) : Type 0 where
  pub entries : (c : ℕ) → entered marks c + 1 < 2 ^ 64
  pub decisions : decisions marks + 1 < 2 ^ 32

-- There is room to count this mark.
abbrev pub RoomFor : List Mark → Mark → Type 0
RoomFor marks (Enter c call) = entered marks c + 1 < 2 ^ 64
RoomFor marks (Decide c r) = decisions marks + 1 < 2 ^ 32
RoomFor marks (Return c) = Unit {0}

-- ---- what is found of a mark, and of a line

-- The mark may follow, and the judge has come to its end; or why it may not.
abbrev pub MarkFound : Setting → List Mark → Mark → Option Why → Judge → Type 0
MarkFound setting marks m None j = HasCome setting (m ∷ marks) j
MarkFound setting marks m (Some w) j = MarkBreaks setting marks m w

-- So it is of each machine and each history to whose end the judge had come, if the mark is of that machine.
abbrev pub JudgesMark : Judge → Mark → Option Why → Judge → Type 0
JudgesMark j m found j' = (setting : Setting) → IsSetting setting → (marks : List Mark) → HasCome setting marks j → RoomFor marks m
    → IsOfMachine setting.cores m → MarkFound setting marks m found j'

-- The marks of a call made whole, in order.
abbrev pub call_marks : ℕ → Call → Reply → List Mark
call_marks c call r = Enter c call ∷ Decide c r ∷ Return c ∷ []

-- Marks, in order, may follow, and the judge has come to their end.
pub record MarksTaken (setting : Setting) (before marks : List Mark) (j : Judge) : Type 0 where
  pub follow : AllFollow setting before marks
  pub come : HasCome setting (reverse marks ++ before) j

-- So it is, or why the first of them that may not follow may not.
abbrev pub MarksFound : Setting → List Mark → List Mark → Option Why → Judge → Type 0
MarksFound setting before marks None j = MarksTaken setting before marks j
MarksFound setting before marks (Some w) j = FirstBreaks setting before marks w

-- So it is of a decision and the return after it, and of the three marks.
abbrev pub JudgesOthers : Judge → ℕ → Reply → Option Why → Judge → Type 0
JudgesOthers j c r found j' = (setting : Setting) → IsSetting setting → (marks : List Mark) → HasCome setting marks j
    → decisions marks + 1 < 2 ^ 32 → c < setting.cores → MarksFound setting marks (Decide c r ∷ Return c ∷ []) found j'

abbrev pub JudgesMarks : Judge → ℕ → Call → Reply → Option Why → Judge → Type 0
JudgesMarks j c call r found j' = (setting : Setting) → IsSetting setting → (marks : List Mark) → HasCome setting marks j → HasRoom marks
    → IsOfMachine setting.cores (Enter c call) → MarksFound setting marks (call_marks c call r) found j'

-- The line may follow, and the judge has come to its end.
pub record LineTaken (setting : Setting) (marks : List Mark) (said : Said) (j : Judge) : Type 0 where
  pub follows : LineFollows setting marks said
  pub come : HasCome setting (reverse (said_marks said) ++ marks) j

abbrev pub LineFound : Setting → List Mark → Said → Option Why → Judge → Type 0
LineFound setting marks said None j = LineTaken setting marks said j
LineFound setting marks said (Some w) j = LineBreaks setting marks said w

abbrev pub JudgesLine : Judge → Said → Option Why → Judge → Type 0
JudgesLine j said found j' = (setting : Setting) → IsSetting setting → (marks : List Mark) → HasCome setting marks j → HasRoom marks
    → SaidFits setting.cores said → LineFound setting marks said found j'

-- A mark enters a call within its limits, if it enters one.
abbrev pub MarkFits : Mark → Type 0
MarkFits (Enter c call) = InLimits call
MarkFits (Decide c r) = Unit {0}
MarkFits (Return c) = Unit {0}

-- The call of a line is within its limits, if it has one.
abbrev pub CallFits : Said → Type 0
CallFits (One m) = MarkFits m
CallFits (Whole c i call r) = InLimits call

-- ---- cores of marks, and who holds a call up

-- The core of a mark.
abbrev pub core_of : Mark → ℕ
core_of (Enter c call) = c
core_of (Decide c r) = c
core_of (Return c) = c

-- Whether a reply says nothing of other cores, or what it says is so: another core was met, or that one is in a call.
abbrev pub is_held_up : Option ℕ → List Seen → ℕ → Reply → Bool
is_held_up alone seen c Reply.Raced = not (is_alone alone c)
is_held_up alone seen c (Reply.Busy d) = not (d == c) && is_inside (seen_of seen d).at
is_held_up alone seen c r = true
