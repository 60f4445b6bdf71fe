-- The plain kernel as contracts see it: lists by number, and the state that they stand for.
use Rattle.std.specs.Prelude.{◌≡◌, ◌<◌, ◌≤◌, ◌^◌, ◌+◌, ◌-◌, ◌*◌, if◌then◌else◌}
use Rattle.kernel_invariant.specs.kernel_rules.specs.{ℕ, false, ltb as nat_lt, List, []}
use Rattle.kernel_invariant.specs.kernel_rules.specs.{length, get_or, slice_get, Bool, Option, Some, None, IsSome, IsSomeAnd, frame_names}
use Rattle.kernel_invariant.specs.kernel_rules.specs.{refs}
use Rattle.seq_state.specs.{declared.parts.Place.Place, declared.parts.Frame.Frame, declared.parts.Liveness.Liveness}
use Rattle.seq_state.specs.{declared.parts.Core.Core, declared.times.Times.Times, declared.times.Period.Period, Parts.place_held}
use Rattle.seq_state.specs.{Parts.frame_of, Parts.number_of, Parts.core_of, Times.no_period, Times.times_at, Times.grace_by, Times.TimesFit}
use Rattle.kernel_invariant.specs.kernel_rules.specs.State as state

-- The lists, each with the item of a key at that position; the times of the cores and the clock; the count of the references
-- to each frame; and the limits. The key of place i of node f is 64 f + i.
pub record Maps : Type 0 where
  pub places : List Place
  pub frames : List Frame
  pub numbers : List Liveness
  pub cores : List Core
  pub place_graces : List Period
  pub frame_graces : List Period
  pub number_graces : List Period
  pub times : List Times
  pub clock : ℕ
  pub counts : List ℕ
  pub limits : state.Limits

-- The count of a frame's references.
abbrev pub count_at : List ℕ → ℕ → ℕ
count_at ns f = get_or ns f 0

-- What a map has at a key.
abbrev pub at : {X : Type 0} → List X → ℕ → Option X
at es k = slice_get es k

-- A map has each key below n.
abbrev pub HasKeys : {X : Type 0} → ℕ → List X → Type 0
HasKeys n es = (k : ℕ) → k < n → IsSome (at es k)

-- A map has each key below n, with a value that fits the key.
abbrev pub HasAll : {X : Type 0} → ℕ → List X → (ℕ → X → Type 0) → Type 0
HasAll n es P = (k : ℕ) → k < n → IsSomeAnd (at es k) (P k)

-- The machine's numbers and limits are within its bounds.
pub record LimitsFit (l : state.Limits) : Type 0 where
  pub some_core : 1 ≤ l.cores
  pub most_cores : l.cores ≤ 8
  pub least_frames : 4 + 2 * l.cores ≤ l.frames
  pub most_frames : l.frames ≤ 512
  pub most_calls : l.calls ≤ 2 ^ 40 - 1
  pub some_epoch : 1 ≤ l.epochs
  pub most_epochs : l.epochs < 2 ^ 16

-- The place in a map, or a free one.
abbrev pub place_or_free : Option Place → state.Place
place_or_free None = state.Free
place_or_free (Some p) = place_held p

-- The frame in a map, or an untyped one.
abbrev pub frame_or_untyped : Option Frame → state.Frame
frame_or_untyped None = state.Untyped
frame_or_untyped (Some x) = frame_of x

-- The liveness number in a map, or an unused one.
abbrev pub number_or_unused : Option Liveness → state.Liveness
number_or_unused None = state.Unused
number_or_unused (Some x) = number_of x

-- A core that the machine does not have.
abbrev pub no_core : state.Core
no_core = record {
  inside = false;
  thread = 0;
  tcap = 0;
  cached = [];
  spent = 0;
  back = 0;
  owed = 0;
  counted = 0;
  grant = (0, 0);
}

-- The core in a map, or none.
abbrev pub core_or_none : Option Core → state.Core
core_or_none None = no_core
core_or_none (Some x) = core_of x

-- The grace period in a map, or none.
abbrev pub period_or_none : Option Period → Period
period_or_none None = no_period
period_or_none (Some p) = p

-- Whether a core is in a call.
abbrev pub is_inside : Maps → ℕ → Bool
is_inside t c = (core_or_none (at t.cores c)).inside

-- The grace period that began at a time.
abbrev pub grace_from : Maps → Period → state.Grace
grace_from t p = grace_by (is_inside t) t.times p

-- What a map has at a place.
abbrev pub at_place : {X : Type 0} → List X → ℕ → ℕ → Option X
at_place es f i = if nat_lt i 64 then at es (64 * f + i) else None

-- When the grace period of a thing began.
abbrev pub period_of : Maps → state.Thing → Period
period_of t (state.PlaceOf f i) = period_or_none (at_place t.place_graces f i)
period_of t (state.FrameOf f) = period_or_none (at t.frame_graces f)
period_of t (state.NumberOf l) = period_or_none (at t.number_graces l)

-- The grace period of a thing.
abbrev pub grace_in : Maps → state.Thing → state.Grace
grace_in t x = grace_from t (period_of t x)

-- The state that the maps stand for, with nothing at a key that does not stand. What it has past the machine's frames and cores
-- is that of no machine: two states are compared by what the machine has (`SameState`).
unfoldable pub state_of : Maps → state.State
state_of t = record {
  place = λ f i. place_or_free (at_place t.places f i);
  frame = λ f. frame_or_untyped (at t.frames f);
  number = λ l. number_or_unused (at t.numbers l);
  core = λ c. core_or_none (at t.cores c);
  grace = grace_in t;
  limits = t.limits;
}

-- The grace period at a key began by now.
abbrev pub HasBegun : ℕ → ℕ → Period → Type 0
HasBegun clock k p = p.began ≤ clock

-- What a frame has names at most 16 frames.
abbrev pub NamesFew : ℕ → Frame → Type 0
NamesFew k x = length (frame_names (frame_of x)) ≤ 16

-- Each place, frame, liveness number, core and thing of the machine has its key, no time lies ahead, and the references to each
-- frame are counted. Nothing is said of further keys.
pub record IsWhole (t : Maps) : Type 0 where
  pub fits : LimitsFit t.limits
  pub places : HasKeys (64 * t.limits.frames) t.places
  pub frames : HasAll t.limits.frames t.frames NamesFew
  pub numbers : HasKeys 64 t.numbers
  pub cores : HasKeys t.limits.cores t.cores
  pub place_graces : HasAll (64 * t.limits.frames) t.place_graces (HasBegun t.clock)
  pub frame_graces : HasAll t.limits.frames t.frame_graces (HasBegun t.clock)
  pub number_graces : HasAll 64 t.number_graces (HasBegun t.clock)
  pub times_of_all : length t.times ≡ 8
  pub times : (c : ℕ) → c < 8 → TimesFit t.clock (times_at t.times c)
  pub all_counted : length t.counts ≡ 512
  pub counts : (f : ℕ) → f < 512 → count_at t.counts f ≡ refs (state_of t) f
