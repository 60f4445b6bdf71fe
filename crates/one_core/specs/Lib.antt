-- What the crates above name through this one.
pub use Rattle.sched_run
pub use Rattle.sched_run.specs.sched_reader
-- Its own.
pub mod Scheduled
