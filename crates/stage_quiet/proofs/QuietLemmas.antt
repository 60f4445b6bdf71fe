-- The scans and the steps of a removal and of a flush stay on the words of the machine, whatever words are found.
use Rattle.std.proofs.Common.{◌≡◌, ◌≢◌, ℕ, ◌+◌, ◌==◌, ◌<◌, ◌≤◌, ◌^◌, Bool, true, false, nat_lt, Option, Some, None, IfSome, if◌then◌else◌}
use Rattle.stage_quiet.specs.{stamp_of_clock, drawn_stamp, QuietFits, quiet_move, first_other, next_other, flush_scan, core_scan}
use Rattle.stage_quiet.specs.{quiet_scan, quiet_next, quiet_refuses, scan_after, quiet_after, CloseFits, close_move, close_at, close_after}
use Rattle.stage_quiet.specs.{Flushing.FlushMarkFits, Flushing.flush_after, declared.quiet.Quiet.Quiet}
use Rattle.stage_quiet.specs.{declared.quiet.Quiet.TheVariants.AtCore, declared.quiet.Quiet.TheVariants.AtFlush, declared.close.Close.Close}
use Rattle.{std.proofs.Common.refl, std.proofs.Common.arith, std.proofs.Common.ltb-true, stage_quiet.specs.flush_move, word_map.specs.Shape}
use Rattle.{word_map.specs.IsIn, word_map.specs.word_of, word_map.specs.spk_nums.specs.declared.replies.Reply.Reply}
use Rattle.{stage_quiet.specs.declared.flush_mark.FlushMark.FlushMark}

-- the next step of a scan is on a word of the machine
pub quiet_is_in : (s : Shape) (q : Quiet) → QuietFits s q → IsIn s (word_of (quiet_move q))
quiet_is_in s (AtCore stamp core at page) h = h.0
quiet_is_in s (AtFlush stamp at) h = h

-- neither the first nor the next other core is the one that scans
first_differs : (core : ℕ) (b : Bool) → (core == 0) ≡ b → first_other core ≢ core
first_differs core b is = grind arith

next_differs : (core at : ℕ) → at ≢ core → next_other core at ≢ core
next_differs core at h = grind arith

flush_scan_fits : (s : Shape) (page : Bool) (stamp : ℕ) → 0 < s.cores → IfSome (flush_scan page stamp) (QuietFits s)
flush_scan_fits s true stamp h = h
flush_scan_fits s false stamp h = tt

core_scan_fits : (s : Shape) (there : Bool) (stamp core at : ℕ) (page : Bool) → there ≡ nat_lt at s.cores
    → at ≢ core → 0 < s.cores → IfSome (core_scan there stamp core at page) (QuietFits s)
core_scan_fits s true stamp core at page is other some = (ltb-true at s.cores (cc), other)
core_scan_fits s false stamp core at page is other some = flush_scan_fits s page stamp some

stamped_fits : (s : Shape) (none : Bool) (stamp core : ℕ) (page : Bool) → core < s.cores
    → IfSome (if none then None else core_scan (nat_lt (first_other core) s.cores) stamp core (first_other core) page) (QuietFits s)
stamped_fits s true stamp core page h = tt
stamped_fits s false stamp core page h =
    core_scan_fits s _ stamp core (first_other core) page refl (first_differs core _ refl) (omega (arith, h))

-- a scan begins on a core of the machine
pub quiet_scan_fits : (s : Shape) (stamp core : ℕ) (page : Bool)
    → core < s.cores → IfSome (quiet_scan stamp core s.cores page) (QuietFits s)
quiet_scan_fits s stamp core page h = stamped_fits s (stamp == 0) stamp core page h

-- where it goes on it is on a core of the machine
pub next_fits : (s : Shape) (q : Quiet) → QuietFits s q → IfSome (quiet_next s.cores q) (QuietFits s)
next_fits s (AtCore stamp core at page) h =
    core_scan_fits s _ stamp core (next_other core at) page refl (next_differs core at h.1) (omega arith)
next_fits s (AtFlush stamp at) h = grind arith

scan_after_fits : (s : Shape) (q : Quiet) (r : Option Reply) (next : Option Quiet)
    → QuietFits s q → IfSome next (QuietFits s) → QuietFits s (scan_after q r next)
scan_after_fits s q (Some r) next h n = h
scan_after_fits s q None (Some q2) h n = n
scan_after_fits s q None None h n = h

pub quiet_after_fits : (s : Shape) (q : Quiet) (found : ℕ) → QuietFits s q → QuietFits s (quiet_after s.cores q found)
quiet_after_fits s q found h = scan_after_fits s q (quiet_refuses q found) (quiet_next s.cores q) h (next_fits s q h)

-- each step of a removal is on a word of the machine
pub close_is_in : (s : Shape) (c : Close) → CloseFits s c → IsIn s (word_of (close_move c))
close_is_in s (Close.AtCompare node entry word core) h = h
close_is_in s (Close.AtDraw node entry) h = tt
close_is_in s (Close.AtStore node entry stamp) h = (h.0, h.1)

-- a drawn stamp is within its range, and is the clock itself where that is
pub drawn_in_range : (clock : ℕ) → (1 ≤ drawn_stamp clock) × (drawn_stamp clock < 2 ^ 43)
drawn_in_range clock = omega arith

pub drawn_same : (clock : ℕ) → 1 ≤ clock → clock < 2 ^ 43 → drawn_stamp clock ≡ clock
drawn_same clock some small = omega arith

-- the stamp of a clock is within its range, and is the clock itself where that is
pub stamp_in_range : (clock : ℕ) → stamp_of_clock clock < 2 ^ 43
stamp_in_range clock = omega arith

pub stamp_same : (clock : ℕ) → clock < 2 ^ 43 → stamp_of_clock clock ≡ clock
stamp_same clock small = omega arith

close_compared_fits : (s : Shape) (b : Bool) (node entry word core : ℕ)
    → (node < s.frames) × (entry < 64) → CloseFits s (close_at b node entry word core)
close_compared_fits s true node entry word core h = h
close_compared_fits s false node entry word core h = h

pub close_after_fits : (s : Shape) (c : Close) (found : ℕ) → CloseFits s c → CloseFits s (close_after c found)
close_after_fits s (Close.AtCompare node entry word core) found h = close_compared_fits s (found == word) node entry word core h
close_after_fits s (Close.AtDraw node entry) found h = (h.0, h.1, (drawn_in_range found).0)
close_after_fits s (Close.AtStore node entry stamp) found h = h

-- each step of the noting of a flush is on a word of the machine
pub flush_is_in : (s : Shape) (m : FlushMark) → FlushMarkFits s m → IsIn s (word_of (flush_move m))
flush_is_in s (FlushMark.AtLoad core) h = tt
flush_is_in s (FlushMark.AtStore core stamp) h = h

pub flush_after_fits : (s : Shape) (m : FlushMark) (found : ℕ) → FlushMarkFits s m → FlushMarkFits s (flush_after m found)
flush_after_fits s (FlushMark.AtLoad core) found h = h
flush_after_fits s (FlushMark.AtStore core stamp) found h = h
