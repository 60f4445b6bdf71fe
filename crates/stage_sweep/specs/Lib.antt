-- What the crates above name through this one.
pub use Rattle.stage_look.specs.spk_nums
pub use Rattle.stage_look.specs.entry_words
pub use Rattle.stage_pins.specs.frame_words
pub use Rattle.tcap_words
pub use Rattle.stage_look.specs.word_map
pub use Rattle.stage_look
pub use Rattle.stage_pins
pub use Rattle.stage_quiet
-- Its own.
pub mod Counters
pub mod CountLists
pub mod Emptiness
pub mod Freeze
pub mod Release
-- The names that are used most outside of this library.
pub use Rattle.stage_sweep.specs.Counters.{latest_stamp, sum_of_counts}
pub use Rattle.stage_sweep.specs.Emptiness.{loads_of, may_be_cached, empty_refuses, entry_refuses}
pub use Rattle.stage_sweep.specs.Freeze.{swept_of, end_by, at_after, move_at, frozen, sweep_end, empty_next, kept_with, sweep_after, sweep_kept, sweep_refuses}
pub use Rattle.stage_sweep.specs.Freeze.{frozen_at, scan_goes, scan_next, sum_refuses, sweep_next, AtFits, SweepFits, compare_next, compare_refuses, frozen_if}
pub use Rattle.stage_sweep.specs.Freeze.{load_next, load_refuses, refusal_of, refuses_at, sweep_move}
pub use Rattle.stage_sweep.specs.Release.{released, thaw_of, ThawFits}
unfoldable pub use Rattle.stage_sweep.specs.Counters.{counters_of}
