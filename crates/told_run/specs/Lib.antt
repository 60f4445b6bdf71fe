-- What the crates above name through this one.
pub use Rattle.lone_kernel
-- Its own.
pub mod Watching
pub mod GivenWatched
-- The names that are used most outside of this library.
pub use Rattle.told_run.specs.Watching.{GoesByItems, IsNext, RunsCoresOut}
