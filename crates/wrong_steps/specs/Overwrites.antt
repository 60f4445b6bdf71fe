-- A wrong acquisition of a count stores in place of its compare: it overwrites what a sweep has frozen.
use Rattle.std.specs.Prelude.{◌≡◌}
use Rattle.kernel_history.specs.{ℕ, pos, true, [], None, whole_copy, cap_of, Retype, Make as make_call, StageEnd, word_of_entry, Held}
use Rattle.kernel_history.specs.{word_of_count, EntryAt, FrameAt, CountAt, Move, LoadOf, CompareOf, StoreOf, RepresentCounts, IsLegal, Out}
use Rattle.kernel_history.specs.{phase, state_after, last_left, two_cores, there, enters, goes, decides, loads, returns, done, Kind}
use Rattle.act_states.specs.{pin_move, pinned_at, compare_end, settle_move, unheld, acquired, Pin, AtLoad, Pinned, move_at, Compare}
use Rattle.kernel_history.specs.spk_nums.specs.{declared.replies.Reply.TheVariants.Referenced, declared.calls.Make.Make}
use Rattle.{kernel_history.specs.FrameKind, kernel_history.specs.Trace.Trace}
use Rattle.{act_states.specs.stage_pins.specs.declared.pin.Pin.TheVariants.AtCompare}

-- The word of a place that names the table of frame 8, and what core c commits of its count of that frame, which was 0.
abbrev pub table_word : ℕ
table_word = word_of_entry (Held (cap_of Kind.Table 8 0))

abbrev pub commits : ℕ → Trace → Trace
commits c t = goes c (settle_move (record { pin = pinned_at 8 c (pos 0) 0; change = pos 1; stamp = None })) t

-- Core 0 types frame 8, and makes a table of it in place 20: its own count of the frame is 1.
unfoldable pub typed : Trace
typed = decides 0 (CompareOf (FrameAt 8) 0 2) done (loads 0 1 0 (loads 0 0 0 (enters 0 (Retype 0 8 FrameKind.Kernel) [])))

unfoldable pub made : Trace
made =
    returns 0 done (commits 0 (decides 0 (CompareOf (EntryAt 1 20) 0 table_word) done
    (loads 0 1 20 (loads 0 1 1 (loads 0 1 0 (loads 0 0 0 (enters 0 (make_call Make.Table 0 8 1 20) (returns 0 done typed))))))))

-- Core 1 is copying the table's capability to place 21, and has loaded its count of the frame.
unfoldable pub copying : Trace
copying =
    goes 1 (pin_move (AtLoad 8 1)) (loads 1 1 21 (loads 1 1 1 (loads 1 1 20 (loads 1 0 0 (enters 1 (whole_copy 20 1 21) made)))))

-- Core 0 would retype the frame to untyped: it freezes both counts, and is refused, since their sum is 1.
unfoldable pub frozen_counts : Trace
frozen_counts =
    decides 0 (move_at 8 0 1 (Compare (pos 0) 0)) (Referenced 1) (goes 0 (LoadOf (CountAt 8 1))
    (goes 0 (move_at 8 0 0 (Compare (pos 1) 0)) (goes 0 (LoadOf (CountAt 8 0))
    (loads 0 1 0 (loads 0 0 0 (enters 0 (Retype 0 8 FrameKind.Untyped) copying))))))

-- Wrong: the acquired word is stored, whatever stands there, and the count is acquired.
abbrev pub acquire_move : Pin → Move
acquire_move (AtLoad frame core) = pin_move (AtLoad frame core)
acquire_move (AtCompare frame core count stamp) = StoreOf (CountAt frame core) (word_of_count (acquired core count stamp))

abbrev pub acquire_end : ℕ → StageEnd Pinned
acquire_end found = compare_end true (pinned_at 8 1 (pos 0) 0)

-- Core 1 goes on with its copy, if it has acquired its count.
abbrev pub copies : StageEnd Pinned → Trace → Trace
copies StageEnd.Going t = t
copies (StageEnd.Decided r) t = t
copies (StageEnd.Done pin) t =
    returns 1 done (commits 1 (decides 1 (CompareOf (EntryAt 1 21) 0 table_word) done (goes 1 (acquire_move (AtCompare 8 1 (pos 0) 0)) t)))
copies (StageEnd.Refuse r) t = returns 1 r (decides 1 (acquire_move (AtCompare 8 1 (pos 0) 0)) r t)

unfoldable pub copied : Trace
copied = copies (acquire_end (there frozen_counts (CountAt 8 1))) frozen_counts

-- Core 0 gives the counts back as it has found them, and returns.
unfoldable pub given_back : Trace
given_back =
    returns 0 (Referenced 1) (goes 0 (StoreOf (CountAt 8 1) (word_of_count (unheld (pos 0) 0)))
    (goes 0 (StoreOf (CountAt 8 0) (word_of_count (unheld (pos 1) 0))) copied))

pub record AcquisitionsOverwrite : Type 0 where
  pub legal : IsLegal two_cores given_back
  pub out : (phase given_back 0 ≡ Out) × (phase given_back 1 ≡ Out)
  pub refused : RepresentCounts (last_left two_cores given_back) (state_after two_cores given_back) → ⊥
