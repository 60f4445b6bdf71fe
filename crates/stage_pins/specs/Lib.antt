-- What the crates above name through this one.
pub use Rattle.frame_words
-- Its own.
pub mod Counts
pub mod Acquire
pub mod Commit
pub mod Held
pub mod HeldCells
-- The names that are used most outside of this library.
pub use Rattle.stage_pins.specs.Acquire.{pin_end, pin_after, pin_move, pinned_at, compare_end, PinFits, load_end, after_load, end_by_hold}
pub use Rattle.stage_pins.specs.Commit.{settle_move, settled_word}
pub use Rattle.stage_pins.specs.Counts.{unheld, later, acquired, changed}
pub use Rattle.stage_pins.specs.Held.{stamp_of_change, AllFit, commit_of, AcquiredFits, pushed}
