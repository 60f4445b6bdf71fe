-- What the crates above name through this one.
pub use Rattle.seq_lookups.specs.spk_nums
pub use Rattle.call_plans
pub use Rattle.seq_plans
pub use Rattle.seq_lookups
-- Its own.
pub mod Own
pub mod Holding
