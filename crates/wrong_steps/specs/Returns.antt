-- A wrong return keeps the reference to the component that it leaves.
use Rattle.std.specs.Prelude.{◌≡◌}
use Rattle.kernel_history.specs.{ℕ, ℤ, [], pos, None, cap_of, Gate, Ret, word_of_entry, Held, EntryAt, LiveAt, ClockAt, LoadOf}
use Rattle.kernel_history.specs.{CompareOf, AddOf, RepresentCounts, IsLegal, Out, phase, state_after, last_left, two_cores, enters, goes}
use Rattle.kernel_history.specs.{decides, loads, returns, done, Kind}
use Rattle.act_states.specs.{pin_move, pinned_at, settle_move, AtLoad}
use Rattle.{kernel_history.specs.spk_nums.specs.declared.calls.Call.TheVariants.Call, kernel_history.specs.Trace.Trace}
use Rattle.{act_states.specs.stage_pins.specs.declared.pin.Pin.TheVariants.AtCompare}

-- Core 0 acquires its count of frame 3, which is n, and commits it with a change.
abbrev pub acquires : ℕ → Trace → Trace
acquires n t = goes 0 (pin_move (AtCompare 3 0 (pos n) 0)) (goes 0 (pin_move (AtLoad 3 0)) t)

abbrev pub commits : ℕ → ℤ → Trace → Trace
commits n change t = goes 0 (settle_move (record { pin = pinned_at 3 0 (pos n) 0; change = change; stamp = None })) t

-- Core 0 puts a gate to the component of frame 3 into place 20. There are 4 references to the frame, and then 5.
unfoldable pub gate_step : Trace
gate_step =
    decides 0 (CompareOf (EntryAt 1 20) 0 (word_of_entry (Held (cap_of Kind.Gate 3 1)))) done
    (acquires 4 (loads 0 1 20 (loads 0 1 1 (loads 0 1 3 (loads 0 0 0 (enters 0 (Gate 3 1 20) []))))))

-- It calls through the gate, whose component is entered once more: 6 references.
unfoldable pub call_step : Trace
call_step =
    decides 0 (LoadOf (LiveAt 0)) done
    (acquires 5 (loads 0 1 20 (loads 0 0 0 (enters 0 (Call 20) (returns 0 done (commits 4 (pos 1) gate_step))))))

-- It returns from the component, of which the state has 5 references then. Wrong: the count is committed without a change.
unfoldable pub ret_step : Trace
ret_step = decides 0 (AddOf ClockAt 1) done (acquires 6 (enters 0 Ret (returns 0 done (commits 5 (pos 1) call_step))))

abbrev pub change_of_return : ℤ
change_of_return = pos 0

unfoldable pub kept : Trace
kept = returns 0 done (commits 6 change_of_return ret_step)

pub record ReturnsKeep : Type 0 where
  pub legal : IsLegal two_cores kept
  pub out : (phase kept 0 ≡ Out) × (phase kept 1 ≡ Out)
  pub refused : RepresentCounts (last_left two_cores kept) (state_after two_cores kept) → ⊥
