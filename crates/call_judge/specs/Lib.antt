-- What the crates above name through this one.
pub use Rattle.plain_kernel.specs.seq_state
pub use Rattle.plain_kernel.specs.seq_plans
pub use Rattle.plain_kernel.specs.same_changes
pub use Rattle.plain_kernel
-- Its own.
pub mod Judged
pub mod Putting
-- The names that are used most outside of this library.
pub use Rattle.call_judge.specs.Judged.{IsJudged}
