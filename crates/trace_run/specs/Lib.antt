-- What the crates above name through this one.
pub use Rattle.told_run.specs.lone_kernel
pub use Rattle.trace_lines
-- Its own.
pub mod Written
pub mod GivenTrace
