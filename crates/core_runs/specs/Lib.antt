-- What the crates above name through this one.
pub use Rattle.core_kernel
-- Its own.
pub mod Runs
pub mod Whole
pub mod TakenSteps
-- The names that are used most outside of this library.
pub use Rattle.core_runs.specs.Runs.{RunnerValue, MakesCalls}
pub use Rattle.core_runs.specs.Whole.{IsList, decided, AreMade, decisions_below, numbered}
