-- Origins that go on with the steps of a trace.
use Rattle.std.specs.Prelude.{◌≡◌, ◌<◌, ◌^◌}
use Rattle.told_run.specs.lone_kernel.specs.kernel_history.specs.{ℕ, List, [], Option, Some, None, slice_get}
use Rattle.told_run.specs.lone_kernel.specs.kernel_history.specs.{set as slice_set, Setting, InLimits, Call, Reply, Enters, Decides}
use Rattle.told_run.specs.lone_kernel.specs.kernel_history.specs.{Returns, Phase, Out, Decided, phase, events_of}
use Rattle.told_run.specs.lone_kernel.specs.core_invariant.specs.{Trace, Open}
use Rattle.origin_lines.specs.confinement.specs.{StandsFor, Takes}
use Rattle.{origin_lines.specs.confinement.specs.Known.Known, origin_lines.specs.origin_rules.specs.Chains.decided}

-- The origins, and each core's open call.
pub record Tracked : Type 0 where
  pub origins : Known
  pub opened : List (Option Call)

-- A core enters a call, if it does.
abbrev pub EntersBy : Tracked → ℕ → Option Call → Tracked → Type 0
EntersBy w c None w' = w' ≡ w
EntersBy w c (Some call) w' = Takes w.origins (Enters c call) w'.origins × (w'.opened ≡ slice_set w.opened c (Some call))

-- Its open call is decided; one that is not within its limits is left open.
abbrev pub DecidesOpen : Tracked → ℕ → Call → Reply → Tracked → Type 0
DecidesOpen w c call r w' =
    InLimits call → Takes w.origins (Decides c call r) w'.origins × (w'.opened ≡ slice_set w.opened c None)

abbrev pub DecidesIn : Tracked → ℕ → Option (Option Call) → Reply → Tracked → Type 0
DecidesIn w c None r w' = w' ≡ w
DecidesIn w c (Some None) r w' = w' ≡ w
DecidesIn w c (Some (Some call)) r w' = DecidesOpen w c call r w'

-- Its call is decided, if it is.
abbrev pub DecidesBy : Tracked → ℕ → Option Reply → Tracked → Type 0
DecidesBy w c None w' = w' ≡ w
DecidesBy w c (Some r) w' = DecidesIn w c (slice_get w.opened c) r w'

-- It returns, if it does.
abbrev pub LeavesBy : Tracked → ℕ → Option Reply → Tracked → Type 0
LeavesBy w c None w' = w' ≡ w
LeavesBy w c (Some r) w' = Takes w.origins (Returns c) w'.origins × (w'.opened ≡ slice_set w.opened c None)

-- The open call of a core in a phase.
abbrev pub open_call : Phase → Option Call
open_call Out = None
open_call (Open call) = Some call
open_call (Decided call r) = None

-- The origins stand for the events of a trace, and the open calls are its.
pub record Tracks (setup : Setting) (t : Trace) (w : Tracked) : Type 0 where
  pub stands : StandsFor setup (events_of t) w.origins
  pub opened : (c : ℕ) → c < 8 → slice_get w.opened c ≡ Some (open_call (phase t c))

-- So it is after each trace of fewer than 2^32 decisions, if it was before the first step.
abbrev pub has_tracked : Setting → Tracked → Trace → Tracked → Type 0
has_tracked setup first t last = Tracks setup [] first → decided (events_of t) < 2 ^ 32 → Tracks setup t last
