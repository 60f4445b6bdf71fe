-- What the crates above name through this one.
pub use Rattle.fixed_prio.specs.sched_laws
pub use Rattle.fixed_prio
pub use Rattle.sched_reader
-- Its own.
pub mod Made
