-- A wrong flush stores no stamp: a core that waits for it waits on.
use Rattle.kernel_history.specs.{ℕ, true, Option, Some, None, Retype, Flush, Reply, FlushAt, IsLegal, two_cores, there, enters, goes}
use Rattle.kernel_history.specs.{decides, loads, returns, done, FrameKind}
use Rattle.act_states.specs.{quiet_move, quiet_refuses, AtCore, AtFlush}
use Rattle.act_states.specs.stage_quiet.specs.{stamp_of_clock, flush_move}
use Rattle.act_states.specs.stage_quiet.specs.declared.flush_mark.FlushMark.TheVariants.{AtLoad, AtStore}
use Rattle.act_states.specs.{declared.work.Tail.Tail, declared.work.Tail.TheVariants.Nothing, declared.work.Tail.TheVariants.StoreFlush}
use Rattle.{kernel_history.specs.Trace.Trace, wrong_steps.specs.Untypings.removed}

-- Wrong: a flush has nothing to store when it is decided.
abbrev pub leaves : ℕ → Tail
leaves stamp = Nothing

-- It stores what it has left.
abbrev pub stores : Tail → Trace → Trace
stores (StoreFlush core stamp) t = goes core (flush_move (AtStore core stamp)) t
stores _ t = t

-- Core 0 has removed the pages of frame 8, at the time 1. It flushes, and its flush is carried out.
unfoldable pub flushed : Trace
flushed =
    returns 0 done (stores (leaves (stamp_of_clock 2)) (decides 0 (flush_move (AtLoad 0)) done (enters 0 Flush (returns 0 done removed))))

-- It retypes the frame to untyped, and scans the word of core 1.
unfoldable pub scanned : Trace
scanned = goes 0 (quiet_move (AtCore 1 0 1 true)) (loads 0 1 0 (loads 0 0 0 (enters 0 (Retype 0 8 FrameKind.Untyped) flushed)))

-- It is refused where its own flush word refuses.
abbrev pub judges : Option Reply → Trace → Trace
judges None t = t
judges (Some r) t = decides 0 (quiet_move (AtFlush 1 0)) r t

unfoldable pub waits_on : Trace
waits_on = judges (quiet_refuses (AtFlush 1 0) (there scanned (FlushAt 0))) scanned

pub record FlushesForget : Type 0 where
  pub legal : IsLegal two_cores scanned
  pub refused : IsLegal two_cores waits_on → ⊥
