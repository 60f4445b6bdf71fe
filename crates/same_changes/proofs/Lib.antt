pub mod Agreeing
pub mod Reaching
pub mod EditsAgree
pub mod Alike
pub mod TimeRules
pub mod CapabilityRules
pub mod MemoryRules
pub mod EveryCall
pub mod InRange
-- The names that are used most outside of this library.
pub use Rattle.same_changes.proofs.EveryCall.{changes_same, twins}
pub use Rattle.same_changes.proofs.Reaching.{Twins, TwinsOn, RootGood, comp_same, core_below, fit_below, is_some_kind, named_same, reached_same}
