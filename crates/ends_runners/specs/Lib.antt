pub mod Looks
pub mod Meets
pub mod Runs
pub mod Runners
pub mod Tallies
-- The names that are used most outside of this library.
pub use Rattle.ends_runners.specs.{Looks.looks_in, Meets.AreOf, Meets.HasGathered, Meets.HasSpread, Meets.HaveMet, Runners.IsReady}
pub use Rattle.ends_runners.specs.{Runners.asks_of, Runs.EndRunnerValue, Runs.MakesAsks, Runs.AwaitsEnds, Runs.look_call, Tallies.sends_by}
pub use Rattle.ends_runners.specs.{Tallies.sends_among}
