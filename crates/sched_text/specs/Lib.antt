pub mod Fitting
-- The names that are used most outside of this library.
pub use Rattle.sched_text.specs.Fitting.{RunsFit}
