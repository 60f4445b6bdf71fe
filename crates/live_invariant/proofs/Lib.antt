pub mod Numbers
pub mod KillCalls
pub mod Kills
pub mod Killed
pub mod KillStarts
-- The names that are used most outside of this library.
pub use Rattle.live_invariant.proofs.Numbers.{comp_is, one_of_many}
