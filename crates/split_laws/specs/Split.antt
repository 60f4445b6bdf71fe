-- Worlds that are split: nothing crosses, not even a gate. Of the others a world sees no more than when they enter calls, return and flush.
use Rattle.std.specs.Prelude.{◌≡◌, ◌<◌, ◌+◌, if◌then◌else◌, ◌∷◌, ◌++◌}
use Rattle.world_laws.specs.kernel_rules.specs.{ℕ, Bool, true, not, List, [], Some, Capability}
use Rattle.world_laws.specs.kernel_rules.specs.{Setting, IsSetting, Call, Retype, Map, Touch, Flush, PageFlags, Page, Reply, Translation}
use Rattle.world_laws.specs.kernel_rules.specs.{CompFields, ThreadFields, Comp, Thread, Kernel, Thing, PlaceOf, FrameOf, NumberOf}
use Rattle.world_laws.specs.kernel_rules.specs.{frame_names, number_names, core_names, sum_below, times, node_refs, refs, usable, alone}
use Rattle.world_laws.specs.kernel_rules.specs.{Event, Enters, Decides, Returns, Open, after, phase_of, IsRun, Make}
use Rattle.same_changes.specs.seq_state.specs.{Make as make_call, State, HasIndex, SameGrace}
use Rattle.{world_laws.specs.LeadsTo, world_laws.specs.works_in, world_laws.specs.counted_if, std.specs.List.AllByRecursion}

-- A world: its frames and its liveness numbers. All others are on the other side.
pub record World : Type 0 where
  pub frame : ℕ → Bool
  pub number : ℕ → Bool

-- Nothing crosses, whatever its rights: what a place has for any core, also what was removed and still serves a call, leads to frames on
-- the place's side; a component has its table, its pages and its number on its side, and a thread its stack; a core's thread and temporal
-- capability are on one side, and so are the pages and the frame of a translation.
pub record IsSplit (w : World) (s : State) : Type 0 where
  pub places : (f i d g : ℕ) (k : Capability) → usable s d (record { node = f; index = i }) ≡ Some k → LeadsTo k.kind k g
      → w.frame g ≡ w.frame f
  pub comps : (f : ℕ) (k : CompFields) → s.frame f ≡ Kernel (Comp k)
      → (w.frame k.table ≡ w.frame f) × (w.frame k.pages ≡ w.frame f) × (w.number k.number ≡ w.frame f)
  pub stacks : (f : ℕ) (t : ThreadFields) → s.frame f ≡ Kernel (Thread t) → AllByRecursion (λ g. w.frame g ≡ w.frame f) t.stack
  pub cores : (c : ℕ) → c < s.limits.cores → w.frame (s.core c).tcap ≡ w.frame (s.core c).thread
  pub cached : (c : ℕ) → c < s.limits.cores
      → AllByRecursion (λ (x : Translation). w.frame x.frame ≡ w.frame x.pages) (s.core c).cached

-- The rest, as a world of its own: it is split where the world is.
abbrev pub others : World → World
others w = record { frame = λ f. not (w.frame f); number = λ l. not (w.number l) }

abbrev pub SplitBothWays : Type 0
SplitBothWays = (w : World) (s : State) → IsSplit w s → IsSplit (others w) s

-- The side on which a core works: whether the component in which it works is in the world.
abbrev pub side : World → State → ℕ → Bool
side w s c = w.frame (works_in s c)

-- A component that is made takes a number of this side.
abbrev pub MakesOwn : World → Bool → Call → Type 0
MakesOwn w b (make_call (Make.Comp table pages live) r f t at) = w.number live ≡ b
MakesOwn w b call = Unit {0}

-- Each component that is made after `before` takes a number of its core's side.
abbrev pub KeepsNumbers : World → Setting → List Event → List Event → Type 0
KeepsNumbers w setting [] before = Unit {0}
KeepsNumbers w setting (Enters c call ∷ later) before = KeepsNumbers w setting later before
KeepsNumbers w setting (Decides c call r ∷ later) before =
    KeepsNumbers w setting later before × MakesOwn w (side w (after setting (later ++ before)) c) call
KeepsNumbers w setting (Returns c ∷ later) before = KeepsNumbers w setting later before

-- In every run, what is split stays so, whatever any core does, where each component that is made takes a number of its side.
abbrev pub SplitForGood : Type 0
SplitForGood = (setting : Setting) → IsSetting setting → (before later : List Event) → IsRun setting (later ++ before)
    → (w : World) → IsSplit w (after setting before) → KeepsNumbers w setting later before → IsSplit w (after setting (later ++ before))

-- ---- non-interference of decisions

-- Whether a thing is of the world.
abbrev pub is_of : World → Thing → Bool
is_of w (PlaceOf f i) = w.frame f
is_of w (FrameOf f) = w.frame f
is_of w (NumberOf l) = w.number l

-- Two states are one for a world: for its frames, places, numbers and their grace periods, as far as the machine has any, and for the cores
-- on its threads. Of the other cores they agree that they are others, and whether each is in a call.
pub record AgreeIn (w : World) (s t : State) : Type 0 where
  pub limits : s.limits ≡ t.limits
  pub frame : (f : ℕ) → w.frame f ≡ true → s.frame f ≡ t.frame f
  pub place : (f i : ℕ) → w.frame f ≡ true → i < 64 → s.place f i ≡ t.place f i
  pub number : (l : ℕ) → w.number l ≡ true → s.number l ≡ t.number l
  pub grace : (x : Thing) → is_of w x ≡ true → HasIndex x → SameGrace s.limits.cores (s.grace x) (t.grace x)
  pub thread : (c : ℕ) → c < s.limits.cores → w.frame (s.core c).thread ≡ w.frame (t.core c).thread
  pub core : (c : ℕ) → c < s.limits.cores → w.frame (s.core c).thread ≡ true → s.core c ≡ t.core c
  pub inside : (c : ℕ) → c < s.limits.cores → (s.core c).inside ≡ (t.core c).inside

-- The reply of a call that is hushed: `raced`, by which it does nothing. But a flush stays, and so does a call past its core's limit.
abbrev pub hushed_reply : Call → Reply → Reply
hushed_reply Flush (Reply.Ok v) = Reply.Ok v
hushed_reply call Reply.CallsSpent = Reply.CallsSpent
hushed_reply call r = Reply.Raced

-- The later events of a run, in which each call of a core that works outside the world is hushed.
abbrev pub hushed : World → Setting → List Event → List Event → List Event
hushed w setting [] before = []
hushed w setting (Enters c call ∷ later) before = Enters c call ∷ hushed w setting later before
hushed w setting (Decides c call r ∷ later) before =
    Decides c call (if side w (after setting (later ++ before)) c then r else hushed_reply call r) ∷ hushed w setting later before
hushed w setting (Returns c ∷ later) before = Returns c ∷ hushed w setting later before

-- What the cores that work inside are told after `before`: their decisions with the replies, the newest first.
abbrev pub told_inside : World → Setting → List Event → List Event → List Event
told_inside w setting [] before = []
told_inside w setting (Enters c call ∷ later) before = told_inside w setting later before
told_inside w setting (Decides c call r ∷ later) before =
    if side w (after setting (later ++ before)) c then Decides c call r ∷ told_inside w setting later before
    else told_inside w setting later before
told_inside w setting (Returns c ∷ later) before = told_inside w setting later before

-- A call is refused for what a frame is that it names by its number, for the references to it, or for who may still use it: only where the
-- frame is on this side.
abbrev pub TellsOwn : (ℕ → Bool) → Bool → Call → Reply → Type 0
TellsOwn w b (Retype r f k) Reply.FrameKind = w f ≡ b
TellsOwn w b (Retype r f k) (Reply.Referenced n) = w f ≡ b
TellsOwn w b (Retype r f k) (Reply.Quiescing e) = w f ≡ b
TellsOwn w b (Retype r f k) (Reply.Unflushed e) = w f ≡ b
TellsOwn w b (Retype r f k) Reply.NotEmpty = w f ≡ b
TellsOwn w b (make_call what r f t at) Reply.FrameKind = w f ≡ b
TellsOwn w b (Map p v r f flags) Reply.FrameKind = w f ≡ b
TellsOwn w b call r = Unit {0}

-- Each call after `before` of a core that works inside is refused so only for a frame inside. The relation of calls lets a call be refused
-- for its frame also where that is not in the range that the call names.
abbrev pub TellsInside : World → Setting → List Event → List Event → Type 0
TellsInside w setting [] before = Unit {0}
TellsInside w setting (Enters c call ∷ later) before = TellsInside w setting later before
TellsInside w setting (Decides c call r ∷ later) before =
    TellsInside w setting later before × (side w (after setting (later ++ before)) c ≡ true → TellsOwn w.frame true call r)
TellsInside w setting (Returns c ∷ later) before = TellsInside w setting later before

-- The first reply in order is so: in every state that a run reaches and in which a world is split, a call that is answered with it is
-- refused so only for a frame of its core's side.
abbrev pub FirstTellsOwn : Type 0
FirstTellsOwn = (setting : Setting) → IsSetting setting → (events : List Event) → IsRun setting events
    → (c : ℕ) (call : Call) → phase_of events c ≡ Open call
    → (w : World) → IsSplit w (after setting events)
    → TellsOwn w.frame (side w (after setting events) c) call (alone (after setting events) c call)

-- In every run from where a world is split, hush the calls of all cores outside: it is a run, it leaves the world the same, and the cores
-- inside are told the same.
abbrev pub OthersAreSilent : Type 0
OthersAreSilent = (setting : Setting) → IsSetting setting → (before later : List Event) → IsRun setting (later ++ before)
    → (w : World) → IsSplit w (after setting before) → KeepsNumbers w setting later before → TellsInside w setting later before
    → IsRun setting (hushed w setting later before ++ before)
    × AgreeIn w (after setting (later ++ before)) (after setting (hushed w setting later before ++ before))
    × (told_inside w setting (hushed w setting later before) before ≡ told_inside w setting later before)

-- ---- what replies tell, and what a core may touch

-- The references to a frame from the world alone: from the places and objects of its frames, from its cores and from its numbers.
abbrev pub refs_inside : World → State → ℕ → ℕ
refs_inside w s f =
    sum_below (λ g. counted_if (w.frame g) (node_refs s f g)) s.limits.frames
    + sum_below (λ g. counted_if (w.frame g) (times f (frame_names (s.frame g)))) s.limits.frames
    + sum_below (λ c. counted_if (w.frame (s.core c).thread) (times f (core_names (s.core c)))) s.limits.cores
    + sum_below (λ l. counted_if (w.number l) (times f (number_names (s.number l)))) 64

-- In every state that a run reaches and in which a world is split, all references to a frame of the world are from the world.
abbrev pub RefersInside : Type 0
RefersInside = (setting : Setting) → IsSetting setting → (events : List Event) → IsRun setting events
    → (w : World) → IsSplit w (after setting events) → (f : ℕ) → w.frame f ≡ true
    → refs (after setting events) f ≡ refs_inside w (after setting events) f

-- In every run, where a world is split, `running e` names a core that works on the side of the core that it is told.
abbrev pub RepliesTell : Type 0
RepliesTell = (setting : Setting) → IsSetting setting → (events : List Event) (c e : ℕ) (call : Call)
    → IsRun setting (Decides c call (Reply.Running e) ∷ events)
    → (w : World) → IsSplit w (after setting events) → side w (after setting events) e ≡ side w (after setting events) c

-- In every run, where a world is split, a touch answers a frame of the side of its core.
abbrev pub TouchesOwn : Type 0
TouchesOwn = (setting : Setting) → IsSetting setting → (events : List Event) (c v f : ℕ) (flags : PageFlags)
    → IsRun setting (Decides c (Touch v) (Reply.Ok (Page f flags)) ∷ events)
    → (w : World) → IsSplit w (after setting events) → w.frame f ≡ side w (after setting events) c
