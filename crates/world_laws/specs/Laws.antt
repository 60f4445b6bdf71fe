-- Laws of sealed worlds, each the contract of a function of this crate.
use Rattle.std.specs.Prelude.{◌≡◌, ◌⊎◌, ◌∷◌, ◌++◌}
use Rattle.authority_laws.specs.kernel_rules.specs.{ℕ, Bool, true, false, List, drop, Setting, IsSetting, Capability}
use Rattle.authority_laws.specs.kernel_rules.specs.{Call, Kind, Value, Reply, thread_in, thread_of, first_of_stack, only, to_use, Found}
use Rattle.authority_laws.specs.kernel_rules.specs.{named, Event, Decides, after, IsRun}
use Rattle.authority_laws.specs.{Part, PlaceIs, FrameIs, StackIs, RunsIs, BudgetIs, ListIs, OwnBy, SamePart}
use Rattle.world_laws.specs.Worlds.{works_in, lives_at, gates, OnlyGates, IsSealed, AreApart, LeavesAlone}
use Rattle.{authority_laws.specs.spk_nums.specs.declared.replies.Reply.TheVariants.Ok, authority_laws.specs.kernel_rules.specs.State.State}

-- In every run, a decision of a core that works outside a sealed world leaves it alone.
abbrev pub OutsideLeaves : Type 0
OutsideLeaves = (setting : Setting) → IsSetting setting → (events : List Event) (c : ℕ) (call : Call) (r : Reply)
    → IsRun setting (Decides c call r ∷ events)
    → (w : ℕ → Bool) → IsSealed w gates (after setting events) → w (works_in (after setting events) c) ≡ false
    → LeavesAlone w (after setting events) (after setting (Decides c call r ∷ events)) c

-- And it leaves it sealed. So does each event that is no decision.
abbrev pub SealsStay : Type 0
SealsStay = (setting : Setting) → IsSetting setting → (events : List Event) (c : ℕ) (call : Call) (r : Reply)
    → IsRun setting (Decides c call r ∷ events)
    → (w : ℕ → Bool) (crosses : Kind → Bool) → OnlyGates crosses → IsSealed w crosses (after setting events)
    → w (works_in (after setting events) c) ≡ false → IsSealed w crosses (after setting (Decides c call r ∷ events))

-- Since `before`, a call of a core that worked inside the world was carried out.
pub record ActsInside (setting : Setting) (w : ℕ → Bool) (before later : List Event) : Type 0 where
  pub since : List Event
  pub more : List Event
  pub core : ℕ
  pub call : Call
  pub value : Value
  pub is_part : later ≡ more ++ (Decides core call (Ok value) ∷ since)
  pub inside : w (works_in (after setting (since ++ before)) core) ≡ true

-- A sealed world is sealed at the end of each part of a run, or a core that worked inside has carried out a call in this part.
abbrev pub OpenedFromInside : Type 0
OpenedFromInside = (setting : Setting) → IsSetting setting → (before later : List Event) → IsRun setting (later ++ before)
    → (w : ℕ → Bool) (crosses : Kind → Bool) → OnlyGates crosses → IsSealed w crosses (after setting before)
    → IsSealed w crosses (after setting (later ++ before)) ⊎ ActsInside setting w before later

-- Two worlds that only gates join, or nothing, stay so, whatever any core does.
abbrev pub ApartForGood : Type 0
ApartForGood = (setting : Setting) → IsSetting setting → (before later : List Event) → IsRun setting (later ++ before)
    → (w : ℕ → Bool) (crosses : Kind → Bool) → OnlyGates crosses → AreApart w crosses (after setting before)
    → AreApart w crosses (after setting (later ++ before))

-- How a core comes to work in a set of frames: by a gate to a component in it that lives; by returning into one that stands below on its
-- stack; or by going on as a thread whose top is one.
abbrev pub EntersBy : Call → (ℕ → Bool) → State → ℕ → Type 0
EntersBy (Call.Call g) w s c =
    (k : Capability) × (named s c g (to_use (only Kind.Gate)) ≡ Found k) × (w k.frame ≡ true) × (lives_at s k.frame ≡ true)
EntersBy Call.Ret w s c = w (first_of_stack (drop 1 (thread_of s c).stack)) ≡ true
EntersBy (Call.Switch h q) w s c =
    (k : Capability) × (named s c h (to_use (only Kind.Thread)) ≡ Found k)
    × (w (first_of_stack (thread_in (s.frame k.frame)).stack) ≡ true)
EntersBy _ w s c = ⊥

-- In every run, a core that works outside a set of frames, and inside after its decision, has come in so.
abbrev pub EnteredBy : Type 0
EnteredBy = (setting : Setting) → IsSetting setting → (events : List Event) (c : ℕ) (call : Call) (r : Reply)
    → IsRun setting (Decides c call r ∷ events) → (w : ℕ → Bool) → w (works_in (after setting events) c) ≡ false
    → w (works_in (after setting (Decides c call r ∷ events)) c) ≡ true → EntersBy call w (after setting events) c

-- A part of the state is of a world.
abbrev pub IsOf : (ℕ → Bool) → Part → Type 0
IsOf w (PlaceIs f i) = w f ≡ true
IsOf w (FrameIs f) = w f ≡ true
IsOf w (StackIs f) = w f ≡ true
IsOf w (RunsIs f) = w f ≡ true
IsOf w (BudgetIs f) = w f ≡ true
IsOf w (ListIs f) = w f ≡ true
IsOf w _ = ⊥

-- In every run, of a sealed world a decision of a core that works outside changes at most what is this core's own: its thread's stack by
-- `call` and `ret`, where that runs by `switch`, the budget of its temporal capability by `tick`.
abbrev pub LentAlone : Type 0
LentAlone = (setting : Setting) → IsSetting setting → (events : List Event) (c : ℕ) (call : Call) (r : Reply)
    → IsRun setting (Decides c call r ∷ events)
    → (w : ℕ → Bool) → IsSealed w gates (after setting events) → w (works_in (after setting events) c) ≡ false
    → (x : Part) → IsOf w x
    → SamePart (after setting events) (after setting (Decides c call r ∷ events)) x ⊎ OwnBy call (after setting events) c x

-- A component of a sealed world that lives does so at the end of each part of a run, or a core that worked inside has carried out a call
-- in this part.
abbrev pub DiesByItsOwn : Type 0
DiesByItsOwn = (setting : Setting) → IsSetting setting → (before later : List Event) → IsRun setting (later ++ before)
    → (w : ℕ → Bool) → IsSealed w gates (after setting before)
    → (f : ℕ) → w f ≡ true → lives_at (after setting before) f ≡ true
    → (lives_at (after setting (later ++ before)) f ≡ true) ⊎ ActsInside setting w before later
