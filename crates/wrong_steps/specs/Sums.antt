-- A wrong sweep adds up the count words of a frame as it finds them, one after another, and freezes none. Three cores show it: one sweeps,
-- one copies a capability to the frame, and one removes the first.
use Rattle.std.specs.Prelude.{◌≡◌, ◌+ℤ◌, ◌∷◌}
use Rattle.act_states.specs.{ℕ, ℤ, pos, negsuc, [], Option, Some, None, whole_copy, cap_of, Setting, Call, Remove, Retype}
use Rattle.act_states.specs.{Make as make_call, Reply, StageEnd, word_of_entry, Held, count_of_word, Word, EntryAt, FrameAt, CountAt}
use Rattle.act_states.specs.{CoreAt, ClockAt, Move, LoadOf, CompareOf, StoreOf, AddOf, word_of, pin_move, pin_end, pinned_at, settle_move}
use Rattle.act_states.specs.{AtLoad, Pinned, move_at, Load, Kind, FrameKind}
use Rattle.kernel_history.specs.{count_in, IsLegal, last_left, done}
use Rattle.{kernel_history.specs.Trace.Trace, act_states.specs.stage_pins.specs.declared.pin.Pin.TheVariants.AtCompare}
use Rattle.{act_states.specs.stage_sweep.specs.Freeze.sum_refuses, kernel_history.specs.spk_nums.specs.declared.calls.Make.Make}

-- Frame 10 is the first untyped one.
unfoldable pub three_cores : Setting
three_cores = record {
  cores = 3;
  frames = 32;
  grants =
      record { budget = 100; sched = 0; quality = 1 } ∷ record { budget = 100; sched = 0; quality = 1 }
      ∷ record { budget = 100; sched = 0; quality = 1 } ∷ [];
  calls = 4194304;
  epochs = 65535;
}

-- One more step of core c, which finds what was left, and the events at it.
abbrev pub there : Trace → Word → ℕ
there t w = last_left three_cores t w

abbrev pub steps : ℕ → Move → Option Call → Option Reply → Option Reply → Trace → Trace
steps c m k d r t = record { core = c; move = m; found = there t (word_of m); enters = k; decides = d; returns = r } ∷ t

abbrev pub enters : ℕ → Call → Trace → Trace
enters c k t = steps c (StoreOf (CoreAt c) 1) (Some k) None None t

abbrev pub goes : ℕ → Move → Trace → Trace
goes c m t = steps c m None None None t

abbrev pub decides : ℕ → Move → Reply → Trace → Trace
decides c m r t = steps c m None (Some r) None t

abbrev pub returns : ℕ → Reply → Trace → Trace
returns c r t = steps c (StoreOf (CoreAt c) 2) None None (Some r) t

abbrev pub loads : ℕ → ℕ → ℕ → Trace → Trace
loads c f i t = goes c (LoadOf (EntryAt f i)) t

-- The word of a place that names the table of frame 10, and what a core c commits of its count of that frame, which was 0.
abbrev pub table_word : ℕ
table_word = word_of_entry (Held (cap_of Kind.Table 10 0))

abbrev pub commits : ℕ → ℤ → Option ℕ → Trace → Trace
commits c change stamp t =
    goes c (settle_move (record { pin = pinned_at 10 c (pos 0) 0; change = change; stamp = stamp })) t

-- Core 1 types frame 10, and makes a table of it in place 20: its own count of the frame is 1.
unfoldable pub typed : Trace
typed = decides 1 (CompareOf (FrameAt 10) 0 2) done (loads 1 1 0 (loads 1 0 0 (enters 1 (Retype 0 10 FrameKind.Kernel) [])))

unfoldable pub made : Trace
made =
    returns 1 done (commits 1 (pos 1) None (decides 1 (CompareOf (EntryAt 1 20) 0 table_word) done
    (loads 1 1 20 (loads 1 1 1 (loads 1 1 0 (loads 1 0 0 (enters 1 (make_call Make.Table 0 10 1 20) (returns 1 done typed))))))))

-- Wrong: a count word is loaded, and not frozen then.
abbrev pub sum_move : ℕ → Move
sum_move d = move_at 10 1 d Load

-- Core 1 begins to retype the frame to untyped, and takes the count of core 0.
unfoldable pub begun : Trace
begun = goes 1 (sum_move 0) (loads 1 1 0 (loads 1 0 0 (enters 1 (Retype 0 10 FrameKind.Untyped) made)))

-- Core 0 copies the table's capability to place 21, if it can acquire its count,
unfoldable pub looking : Trace
looking = loads 0 1 21 (loads 0 1 1 (loads 0 1 20 (loads 0 0 0 (enters 0 (whole_copy 20 1 21) begun))))

abbrev pub copies : StageEnd Pinned → Trace → Trace
copies StageEnd.Going t =
    returns 0 done (commits 0 (pos 1) None (decides 0 (CompareOf (EntryAt 1 21) 0 table_word) done
    (goes 0 (pin_move (AtCompare 10 0 (pos 0) 0)) (goes 0 (pin_move (AtLoad 10 0)) t))))
copies (StageEnd.Decided r) t = t
copies (StageEnd.Done pin) t = t
copies (StageEnd.Refuse r) t = returns 0 r (decides 0 (pin_move (AtLoad 10 0)) r t)

unfoldable pub copied : Trace
copied = copies (pin_end (AtLoad 10 0) (there looking (CountAt 10 0))) looking

-- and core 2 removes what place 20 holds.
unfoldable pub removed : Trace
removed =
    returns 2 done (commits 2 (negsuc 0) (Some 1) (decides 2 (AddOf ClockAt 1) done
    (loads 2 1 20 (loads 2 1 1 (loads 2 0 0 (enters 2 (Remove 1 20) copied))))))

-- Core 1 takes the counts of cores 1 and 2.
unfoldable pub summed : Trace
summed = goes 1 (sum_move 2) (goes 1 (sum_move 1) removed)

-- The sum of the counts that it has found.
abbrev pub found_sum : ℤ
found_sum = count_in (count_of_word (there made (CountAt 10 0)))
    +ℤ (count_in (count_of_word (there removed (CountAt 10 1))) +ℤ count_in (count_of_word (there removed (CountAt 10 2))))

-- No core is waited for, so it draws and is carried out, beside the copy.
unfoldable pub untyped : Trace
untyped = decides 1 (AddOf ClockAt 1) done summed

pub record SweepsSum : Type 0 where
  pub legal : IsLegal three_cores summed
  pub passes : sum_refuses found_sum ≡ None
  pub refused : IsLegal three_cores untyped → ⊥
