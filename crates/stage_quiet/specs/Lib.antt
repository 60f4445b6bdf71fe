pub mod Clocks
pub mod Scan
pub mod Removal
pub mod Flushing
-- The names that are used most outside of this library.
pub use Rattle.stage_quiet.specs.Clocks.{drawn_stamp, stamp_of_clock}
pub use Rattle.stage_quiet.specs.Flushing.{flush_move}
pub use Rattle.stage_quiet.specs.Removal.{close_move, close_after, close_end, CloseFits, close_compared, close_at}
pub use Rattle.stage_quiet.specs.Scan.{quiet_after, quiet_end, quiet_scan, QuietFits, quiet_move, core_scan, scan_after, scan_end, next_other, quiet_next, first_other}
pub use Rattle.stage_quiet.specs.Scan.{flush_scan, quiet_refuses, core_refuses, flush_refuses}
