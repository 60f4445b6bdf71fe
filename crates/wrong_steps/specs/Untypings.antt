-- A wrong retype to untyped skips the flush word of a core.
use Rattle.std.specs.Prelude.{◌≡◌, ◌+◌, if◌then◌else◌}
use Rattle.kernel_history.specs.{ℕ, [], ltb as nat_lt, true, Option, Some, None, cap_of, Remove, Retype, Flush}
use Rattle.kernel_history.specs.{Make as make_call, word_of_entry, Held, EntryAt, FrameAt, FlushAt, ClockAt, LoadOf, CompareOf, StoreOf}
use Rattle.kernel_history.specs.{AddOf, IsLegal, two_cores, there, enters, goes, decides, loads, returns, done, Kind, FrameKind}
use Rattle.act_states.specs.{quiet_move, quiet_next, quiet_refuses, Quiet, AtCore, AtFlush}
use Rattle.{kernel_history.specs.Trace.Trace, kernel_history.specs.spk_nums.specs.declared.calls.Make.Make}

-- Wrong: after the flush word of a core that of the next one is passed over.
abbrev pub wrong_next : ℕ → Quiet → Option Quiet
wrong_next cores (AtCore stamp core at page) = quiet_next cores (AtCore stamp core at page)
wrong_next cores (AtFlush stamp at) = if nat_lt (at + 2) cores then Some (AtFlush stamp (at + 2)) else None

-- Core 0 makes pages of frame 8,
unfoldable pub typed : Trace
typed = decides 0 (CompareOf (FrameAt 8) 0 2) done (loads 0 1 0 (loads 0 0 0 (enters 0 (Retype 0 8 FrameKind.Kernel) [])))

unfoldable pub made : Trace
made =
    decides 0 (CompareOf (EntryAt 1 20) 0 (word_of_entry (Held (cap_of Kind.Pages 8 0)))) done
    (loads 0 1 20 (loads 0 1 1 (loads 0 1 0 (loads 0 0 0 (enters 0 (make_call Make.Pages 0 8 1 20) (returns 0 done typed))))))

-- removes them, at the time 1,
unfoldable pub removed : Trace
removed = decides 0 (AddOf ClockAt 1) done (loads 0 1 20 (loads 0 1 1 (loads 0 0 0 (enters 0 (Remove 1 20) (returns 0 done made)))))

-- and flushes, which core 1 does not.
unfoldable pub flushed : Trace
flushed =
    returns 0 done (goes 0 (StoreOf (FlushAt 0) 2) (decides 0 (LoadOf ClockAt) done (enters 0 Flush (returns 0 done removed))))

-- Its retype of the frame to untyped loads the words of core 1 and of its own flush,
unfoldable pub scanned : Trace
scanned =
    goes 0 (quiet_move (AtFlush 1 0)) (goes 0 (quiet_move (AtCore 1 0 1 true))
    (loads 0 1 0 (loads 0 0 0 (enters 0 (Retype 0 8 FrameKind.Untyped) flushed))))

-- and as no word refuses, and none is left by the wrong step, it draws and is carried out.
unfoldable pub untyped : Trace
untyped = decides 0 (AddOf ClockAt 1) done scanned

pub record RetypesSkip : Type 0 where
  pub legal : IsLegal two_cores scanned
  pub passes : quiet_refuses (AtFlush 1 0) (there flushed (FlushAt 0)) ≡ None
  pub over : wrong_next 2 (AtFlush 1 0) ≡ None
  pub refused : IsLegal two_cores untyped → ⊥
