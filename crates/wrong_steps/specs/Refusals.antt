-- A wrong refusal leaves the count that its call has acquired.
use Rattle.std.specs.Prelude.{◌≡◌}
use Rattle.kernel_history.specs.{[], pos, None, whole_copy, Reply, RepresentCounts, IsLegal, Out, phase, state_after, last_left}
use Rattle.kernel_history.specs.{two_cores, enters, goes, loads, returns, done}
use Rattle.act_states.specs.{pin_move, pinned_at, settle_move, AtLoad, fill_move, took_fill}
use Rattle.wrong_steps.specs.Acts.{acts, fill, copying}
use Rattle.{kernel_history.specs.Trace.Trace, act_states.specs.stage_pins.specs.declared.pin.Pin.TheVariants.AtCompare}

-- Core 0 copies the table's capability to place 20, and has acquired its count of frame 0, to which there are 2 references.
unfoldable pub acquired_count : Trace
acquired_count =
    goes 0 (pin_move (AtCompare 0 0 (pos 2) 0)) (goes 0 (pin_move (AtLoad 0 0))
    (loads 0 1 20 (loads 0 1 1 (loads 0 0 0 (enters 0 (whole_copy 1 1 20) [])))))

-- Core 1 fills the place, and returns.
unfoldable pub filled_meanwhile : Trace
filled_meanwhile = returns 1 done (acts 1 (fill_move fill) (took_fill fill) (copying 1 acquired_count))

-- It commits the count without a change.
abbrev pub gives_back : Trace → Trace
gives_back t = goes 0 (settle_move (record { pin = pinned_at 0 0 (pos 2) 0; change = pos 0; stamp = None })) t

-- Wrong: after a refusal it has nothing to store.
abbrev pub settles : Reply → Trace → Trace
settles (Reply.Ok v) t = gives_back t
settles _ t = t

-- Core 0 has lost the race, and returns.
unfoldable pub left_held : Trace
left_held = returns 0 Reply.Raced (settles Reply.Raced (acts 0 (fill_move fill) (took_fill fill) filled_meanwhile))

pub record RefusalsHold : Type 0 where
  pub legal : IsLegal two_cores left_held
  pub out : (phase left_held 0 ≡ Out) × (phase left_held 1 ≡ Out)
  pub refused : RepresentCounts (last_left two_cores left_held) (state_after two_cores left_held) → ⊥
