-- When marks are a history. Marks are listed with the newest first.
use Rattle.std.specs.Prelude.{◌≡◌, ◌≢◌, ◌<◌, ◌⊎◌, ◌==◌, ◌∷◌}
use Rattle.kernel_rules.specs.{ℕ, Bool, true, false, List, [], IsTrue, Setting, InLimits, Call, Reply}
use Rattle.kernel_rules.specs.{MayReply, Event, Enters, Decides, Returns, after, Phase, Out, Open, Decided, is_in, is_decided, phase_of}
use Rattle.marked_history.specs.declared.marks.Mark.TheVariants.{Enter, Decide, Return}
use Rattle.{kernel_rules.specs.State.State, marked_history.specs.declared.marks.Mark.Mark}

-- ---- what marks leave

-- The events with the decision of a core's call in this phase: a decision is of the call that is open.
abbrev pub with_decision : Phase → ℕ → Reply → List Event → List Event
with_decision Out c r events = events
with_decision (Open call) c r events = Decides c call r ∷ events
with_decision (Decided call q) c r events = events

-- The events with that of one more mark.
abbrev pub with_mark : List Event → Mark → List Event
with_mark events (Enter c call) = Enters c call ∷ events
with_mark events (Decide c r) = with_decision (phase_of events c) c r events
with_mark events (Return c) = Returns c ∷ events

-- The events of marks, as the sequential kernel has them.
abbrev pub events_of : List Mark → List Event
events_of [] = []
events_of (m ∷ marks) = with_mark (events_of marks) m

-- Whether a core is out of a call, in one that is open, or in one that is decided.
abbrev pub phase : List Mark → ℕ → Phase
phase marks c = phase_of (events_of marks) c

-- The state that marks leave: after each entry, decision and return by the sequential kernel, from the start state on.
abbrev pub state : Setting → List Mark → State
state setting marks = after setting (events_of marks)

-- ---- each core's marks go enter, decide, return

-- A call can be decided in this phase: it is open.
abbrev pub CanBeDecided : Phase → Type 0
CanBeDecided Out = ⊥
CanBeDecided (Open call) = Unit {0}
CanBeDecided (Decided call q) = ⊥

-- A core that is out enters, an open call is decided, and a decided one returns.
abbrev pub IsInOrder : List Mark → Mark → Type 0
IsInOrder marks (Enter c call) = phase marks c ≡ Out
IsInOrder marks (Decide c r) = CanBeDecided (phase marks c)
IsInOrder marks (Return c) = IsTrue (is_decided (phase marks c))

-- ---- who is in a call

-- Core d is another than c, and in a call.
pub record IsOther (marks : List Mark) (c d : ℕ) : Type 0 where
  pub other : d ≢ c
  pub inside : IsTrue (is_in (phase marks d))

-- Another core than c is in a call.
pub record IsAnotherIn (marks : List Mark) (c : ℕ) : Type 0 where
  pub core : ℕ
  pub is : IsOther marks c core

-- Whether a core enters a call by the mark.
abbrev pub enters : Mark → ℕ → Bool
enters (Enter d call) c = c == d
enters (Decide d r) c = false
enters (Return d) c = false

-- What is said, where this is not so.
abbrev pub Unless : Bool → Type 0 → Type 0
Unless true Said = ⊥
Unless false Said = Said

-- At some moment since core c entered a call last, another core was in a call: after one of the marks from that entry on.
abbrev pub HasMet : List Mark → ℕ → Type 0
HasMet [] c = ⊥
HasMet (m ∷ marks) c = IsAnotherIn (m ∷ marks) c ⊎ Unless (enters m c) (HasMet marks c)

-- A call of core c may be held up by another core so: it loses a race to one that it has met, and is held up by one in a call now.
abbrev pub MayBeHeldUp : List Mark → ℕ → Reply → Type 0
MayBeHeldUp marks c Reply.Raced = HasMet marks c
MayBeHeldUp marks c (Reply.Busy d) = IsOther marks c d
MayBeHeldUp marks c r = Unit {0}

-- A decision is held up so, if it says that it is.
abbrev pub IsHeldUp : List Mark → Mark → Type 0
IsHeldUp marks (Enter c call) = Unit {0}
IsHeldUp marks (Decide c r) = MayBeHeldUp marks c r
IsHeldUp marks (Return c) = Unit {0}

-- ---- what the sequential kernel permits

-- The open call may be decided so in this state.
abbrev pub MayDecideIn : Phase → State → ℕ → Reply → Type 0
MayDecideIn Out s c r = ⊥
MayDecideIn (Open call) s c r = MayReply s c call r
MayDecideIn (Decided call q) s c r = ⊥

-- A decision is permitted by the call relation.
abbrev pub IsPermitted : Setting → List Mark → Mark → Type 0
IsPermitted setting marks (Enter c call) = Unit {0}
IsPermitted setting marks (Decide c r) = MayDecideIn (phase marks c) (state setting marks) c r
IsPermitted setting marks (Return c) = Unit {0}

-- ---- histories

-- A mark is of a core of the machine, and enters a call within its limits.
abbrev pub IsOfMachine : ℕ → Mark → Type 0
IsOfMachine cores (Enter c call) = (c < cores) × InLimits call
IsOfMachine cores (Decide c r) = c < cores
IsOfMachine cores (Return c) = c < cores

-- A mark may follow others.
pub record MayFollow (setting : Setting) (marks : List Mark) (m : Mark) : Type 0 where
  pub machine : IsOfMachine setting.cores m
  pub order : IsInOrder marks m
  pub held_up : IsHeldUp marks m
  pub permitted : IsPermitted setting marks m

-- Marks are a history where each may follow those before it.
abbrev pub IsHistory : Setting → List Mark → Type 0
IsHistory setting [] = Unit {0}
IsHistory setting (m ∷ marks) = IsHistory setting marks × MayFollow setting marks m
