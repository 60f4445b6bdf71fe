-- The state of the sequential kernel. Its parts are functions of numbers, so no bounds stand here.
use Rattle.std.specs.Prelude.{ℕ, ◌-◌, Bool, List, [], ◌∷◌, Option, None, ◌==◌, if◌then◌else◌}
use Rattle.spk_nums.specs.{Capability.Capability, declared.translations.Translation.Translation}

-- A place of a node is free, holds a capability, or is quiescing: what it held is removed, but calls in progress may still use it.
pub data Place : Type 0 where
  Free : Place
  Holds : Capability → Place
  Quiescing : Capability → Place

-- A component: the frames of its table and of its pages, its liveness number, and the epoch in which it was made.
pub record CompFields : Type 0 where
  pub table : ℕ
  pub pages : ℕ
  pub number : ℕ
  pub epoch : ℕ

-- A thread: the frames of the components that it is in, the newest first, and the core on which it runs, unless it is idle.
pub record ThreadFields : Type 0 where
  pub stack : List ℕ
  pub runs_on : Option ℕ

-- A temporal capability: its budget in ticks, and its list of qualities, each a scheduler and a number.
pub record TcapFields : Type 0 where
  pub budget : ℕ
  pub qualities : List (ℕ × ℕ)

-- A kernel frame is blank, or holds an object with its fields; the places of nodes stand apart.
pub data Object : Type 0 where
  Blank : Object
  Table : Object
  Leaf : Object
  Pages : Object
  Pleaf : Object
  Comp : CompFields → Object
  Thread : ThreadFields → Object
  Tcap : TcapFields → Object

-- A frame is untyped, a user frame, or a kernel frame.
pub data Frame : Type 0 where
  Untyped : Frame
  User : Frame
  Kernel : Object → Frame

-- A liveness number was never used, or is live in an epoch for the component of a frame, or is dead after its last epoch.
pub data Liveness : Type 0 where
  Unused : Liveness
  Live : ℕ → ℕ → Liveness
  Dead : ℕ → Liveness

-- A core: whether it is in a call, the frames of its current thread and temporal capability, its cached translations, the
-- ticks that it has spent, those of them that it has had back, and those that it owes, how many of its calls were counted, and the
-- scheduler and the number with which time was granted to it at boot.
pub record Core : Type 0 where
  pub inside : Bool
  pub thread : ℕ
  pub tcap : ℕ
  pub cached : List Translation
  pub spent : ℕ
  pub back : ℕ
  pub owed : ℕ
  pub counted : ℕ
  pub grant : ℕ × ℕ

-- The ticks that a core has spent and has not had back.
abbrev pub outstanding : Core → ℕ
outstanding k = k.spent - k.back

-- The grace period of what was removed: `waits` are the cores still in the call in which the removal met them; of a core in
-- `not_passed` no call entered after the removal has returned; a core in `unflushed` has decided no flush since the removal;
-- of one in `flush_unknown` no flush decided after the removal has returned.
pub record Grace : Type 0 where
  pub waits : ℕ → Bool
  pub not_passed : ℕ → Bool
  pub unflushed : ℕ → Bool
  pub flush_unknown : ℕ → Bool

-- What has a grace period: a place, by its node and index, a frame, or a liveness number.
pub data Thing : Type 0 where
  PlaceOf : ℕ → ℕ → Thing
  FrameOf : ℕ → Thing
  NumberOf : ℕ → Thing

-- The machine's numbers of cores and frames, and the limits on the calls of a core and on the epochs of a liveness number.
pub record Limits : Type 0 where
  pub cores : ℕ
  pub frames : ℕ
  pub calls : ℕ
  pub epochs : ℕ

-- The state of the kernel.
pub record State : Type 0 where
  pub place : ℕ → ℕ → Place
  pub frame : ℕ → Frame
  pub number : ℕ → Liveness
  pub core : ℕ → Core
  pub grace : Thing → Grace
  pub limits : Limits

-- The function with another value at one number.
abbrev pub put : {A : Type 0} → (ℕ → A) → ℕ → A → ℕ → A
put f i x j = if j == i then x else f j

-- The state with another place.
abbrev pub with_place : State → ℕ → ℕ → Place → State
with_place s f i p = record s { place = put s.place f (put (s.place f) i p) }

-- The state with another frame.
abbrev pub with_frame : State → ℕ → Frame → State
with_frame s f x = record s { frame = put s.frame f x }

-- The state with another liveness number.
abbrev pub with_number : State → ℕ → Liveness → State
with_number s l x = record s { number = put s.number l x }

-- The state with another core.
abbrev pub with_core : State → ℕ → Core → State
with_core s c x = record s { core = put s.core c x }

-- The state with other grace periods.
abbrev pub with_grace : State → (Thing → Grace) → State
with_grace s g = record s { grace = g }

-- The fields of the component in a frame; those of no component where it has none.
abbrev pub comp_in : Frame → CompFields
comp_in (Kernel (Comp k)) = k
comp_in _ = record { table = 0; pages = 0; number = 0; epoch = 0 }

-- The fields of the thread in a frame; those of no thread where it has none.
abbrev pub thread_in : Frame → ThreadFields
thread_in (Kernel (Thread t)) = t
thread_in _ = record { stack = []; runs_on = None }

-- The fields of the temporal capability in a frame; those of none where it has none.
abbrev pub tcap_in : Frame → TcapFields
tcap_in (Kernel (Tcap q)) = q
tcap_in _ = record { budget = 0; qualities = [] }

-- The first number of a list, or 0.
abbrev pub first_of_stack : List ℕ → ℕ
first_of_stack [] = 0
first_of_stack (f ∷ fs) = f

-- The current thread of a core.
abbrev pub thread_of : State → ℕ → ThreadFields
thread_of s c = thread_in (s.frame (s.core c).thread)

-- The component that a core works in: the one on top of its current thread's stack.
abbrev pub comp_of : State → ℕ → CompFields
comp_of s c = comp_in (s.frame (first_of_stack (thread_of s c).stack))
