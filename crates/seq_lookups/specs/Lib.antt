-- What the crates above name through this one.
pub use Rattle.seq_state.specs.spk_nums
pub use Rattle.seq_state
-- Its own.
pub mod Judged
pub mod Places
pub mod Carried
pub mod Ranges
-- The names that are used most outside of this library.
pub use Rattle.seq_lookups.specs.{Carried.IsCarriedOut, Ranges.IsInRange}
