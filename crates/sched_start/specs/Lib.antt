-- What the crates above name through this one.
pub use Rattle.sched_reader.specs.sched_rules
-- Its own.
pub mod Owing
-- The names that are used most outside of this library.
pub use Rattle.sched_start.specs.Owing.{IsNoTick}
