-- How far a look-up goes: to what a core may use itself, or to all that places show, be it removed or not.
use Rattle.std.specs.Prelude.{◌%◌, ◌&&◌, if◌then◌else◌}
use Rattle.seq_state.specs.kernel_rules.specs.{ℕ, leb as nat_le, Option, Some, None, Capability, Place, Free}
use Rattle.seq_state.specs.kernel_rules.specs.{Holds, Quiescing, Slot, Named, found, not_found, Target, Under, InRoot, place_at, usable}
use Rattle.seq_state.specs.kernel_rules.specs.{reached, linked, slot_in, root_slot}
use Rattle.seq_plans.specs.{declared.reaching.Aim.Aim, declared.reaching.Reach.Reach, declared.reaching.Reach.TheVariants.Own}
use Rattle.{seq_state.specs.kernel_rules.specs.State.State, seq_plans.specs.declared.reaching.Reach.TheVariants.Wide}

-- What a name has led to.
abbrev pub named_of : Option Capability → Named
named_of None = not_found
named_of (Some k) = found k

-- Where a place is asked for, by what the name of its table's root has led to.
abbrev pub target_of : Aim → Target
target_of (Aim.Under root n) = Under (named_of root) n
target_of (Aim.InRoot root i) = InRoot (named_of root) i

-- The capability that a place shows: what it holds, and what it held where that is quiescing.
abbrev pub shown_in : Place → Option Capability
shown_in Free = None
shown_in (Holds k) = Some k
shown_in (Quiescing k) = Some k

-- The slot to which a target leads, where a root entry leads on though its link is removed.
abbrev pub shown_slot : State → Target → Option Slot
shown_slot s (Under table n) = if table.found
    && nat_le n 4095 then slot_in (linked (shown_in (place_at s (root_slot table.frame n)))) (n % 64) else None
shown_slot s (InRoot table i) = if table.found && nat_le i 63 then Some record { node = table.frame; index = i } else None

-- What core c finds at a slot, by its own reach or by the wide one.
abbrev pub usable_by : Reach → State → ℕ → Slot → Option Capability
usable_by Own s c at = usable s c at
usable_by Wide s c at = shown_in (place_at s at)

-- The slot of a target, by core c's own reach or by the wide one.
abbrev pub reached_by : Reach → State → ℕ → Target → Option Slot
reached_by Own s c target = reached s c target
reached_by Wide s c target = shown_slot s target
