-- Endpoint histories: the steps that cores make at endpoints, the newest first.
use Rattle.std.specs.Prelude.{◌≡◌, ◌≢◌, ℕ, ◌+◌, ◌==◌, List, [], ◌∷◌, ◌++◌, if◌then◌else◌, Option, Some, None, Ok}
use Rattle.async_ends.specs.{declared.asks.Look.Look, declared.endpoint.EndOp.EndOp, declared.endpoint.EndOp.TheVariants.Send}
use Rattle.async_ends.specs.{declared.endpoint.EndOp.TheVariants.Recv, Looks.reached}

-- A send is one step: it adds one to the count. A receive begins with a load of the count; where that is 0 it has taken nothing, else it
-- goes on to a compare, which takes the count that was loaded, or misses: it finds another one and takes nothing. The step with which
-- a call begins has the look that led to the frame.
pub data EndStep : Type 0 where
  Added : Look → EndStep
  Loaded : Look → ℕ → EndStep
  Took : ℕ → EndStep
  Missed : ℕ → EndStep

-- Core c made this step at the frame's endpoint.
pub record Event : Type 0 where
  pub core : ℕ
  pub frame : ℕ
  pub step : EndStep

abbrev pub event : ℕ → ℕ → EndStep → Event
event c f step = record { core = c; frame = f; step = step }

-- What a step makes of its frame's count.
abbrev pub count_by : EndStep → ℕ → ℕ
count_by (Added l) n = n + 1
count_by (Loaded l k) n = n
count_by (Took k) n = 0
count_by (Missed k) n = n

-- The count of frame f: the sends there since the last receive that took some.
abbrev pub untaken : List Event → ℕ → ℕ
untaken [] f = 0
untaken (e ∷ h) f = if e.frame == f then count_by e.step (untaken h f) else untaken h f

abbrev pub sends_in : EndStep → ℕ
sends_in (Added l) = 1
sends_in _ = 0

abbrev pub takes_in : EndStep → ℕ
takes_in (Took k) = k
takes_in _ = 0

-- All sends to frame f.
abbrev pub sent_to : List Event → ℕ → ℕ
sent_to [] f = 0
sent_to (e ∷ h) f = (if e.frame == f then sends_in e.step else 0) + sent_to h f

-- All that receives at frame f took.
abbrev pub taken_at : List Event → ℕ → ℕ
taken_at [] f = 0
taken_at (e ∷ h) f = (if e.frame == f then takes_in e.step else 0) + taken_at h f

-- A receive in progress: its frame, and the count that it has loaded.
pub record Receiving : Type 0 where
  pub frame : ℕ
  pub seen : ℕ

abbrev pub receive_at : ℕ → ℕ → Receiving
receive_at f seen = record { frame = f; seen = seen }

-- The receive in progress after a step at frame f: only a load of some leaves one.
abbrev pub going : ℕ → EndStep → Option Receiving
going f (Loaded l k) = if k == 0 then None else Some (receive_at f k)
going f _ = None

-- Core c's receive in progress.
abbrev pub receiving : List Event → ℕ → Option Receiving
receiving [] c = None
receiving (e ∷ h) c = if e.core == c then going e.frame e.step else receiving h c

-- Core c, between calls, begins one at frame f, to which its look has led.
pub record MayBegin (h : List Event) (c f : ℕ) (op : EndOp) (l : Look) : Type 0 where
  pub between : receiving h c ≡ None
  pub leads : reached op l.reply ≡ Ok f

-- Core c's receive at frame f finds another count than the one that it has loaded.
pub record MayMiss (h : List Event) (c f found : ℕ) : Type 0 where
  pub seen : ℕ
  pub receives : receiving h c ≡ Some (receive_at f seen)
  pub count : found ≡ untaken h f
  pub another : found ≢ seen

-- Core c may make this step at frame f after this history. A receive takes the count exactly where its compare finds the one that it
-- has loaded, and misses exactly where it finds another.
abbrev pub MayDo : List Event → ℕ → ℕ → EndStep → Type 0
MayDo h c f (Added l) = MayBegin h c f Send l
MayDo h c f (Loaded l k) = MayBegin h c f Recv l × (k ≡ untaken h f)
MayDo h c f (Took k) = (receiving h c ≡ Some (receive_at f k)) × (k ≡ untaken h f)
MayDo h c f (Missed k) = MayMiss h c f k

-- Each event may follow those before it.
abbrev pub IsLegal : List Event → Type 0
IsLegal [] = Unit {0}
IsLegal (e ∷ h) = IsLegal h × MayDo h e.core e.frame e.step

-- Core c's events, in order.
abbrev pub events_by : List Event → ℕ → List Event
events_by [] c = []
events_by (e ∷ h) c = if e.core == c then events_by h c ++ e ∷ [] else events_by h c

-- None of the events is core c's.
abbrev pub AreOfOthers : ℕ → List Event → Type 0
AreOfOthers c [] = Unit {0}
AreOfOthers c (e ∷ h) = (e.core ≢ c) × AreOfOthers c h

-- The newer history begins with the older one, and goes on by events of other cores than c.
pub record ExtendsByOthers (c : ℕ) (older newer : List Event) : Type 0 where
  pub since : List Event
  pub begins : newer ≡ since ++ older
  pub apart : AreOfOthers c since

-- The step sends, or takes some.
abbrev pub Moves : EndStep → Type 0
Moves (Added l) = Unit {0}
Moves (Loaded l k) = ⊥
Moves (Took k) = Unit {0}
Moves (Missed k) = ⊥

-- After core c's newest event, another core sent to frame f or took some there.
pub record WasCrossed (h : List Event) (c f : ℕ) : Type 0 where
  pub since : List Event
  pub other : Event
  pub older : List Event
  pub whole : h ≡ since ++ other ∷ older
  pub apart : AreOfOthers c since
  pub another : other.core ≢ c
  pub there : other.frame ≡ f
  pub moves : Moves other.step

abbrev pub CrossedBefore : List Event → ℕ → ℕ → EndStep → Type 0
CrossedBefore h c f (Missed k) = WasCrossed h c f
CrossedBefore h c f _ = Unit {0}

-- Each receive that missed was crossed by another core after its load, which is its core's newest event before.
abbrev pub AreCrossed : List Event → Type 0
AreCrossed [] = Unit {0}
AreCrossed (e ∷ h) = AreCrossed h × CrossedBefore h e.core e.frame e.step
