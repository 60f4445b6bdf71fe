-- What the crates above name through this one.
pub use Rattle.state_laws.specs.spk_nums
pub use Rattle.state_laws.specs.kernel_rules
pub use Rattle.state_laws.specs.kernel_invariant
pub use Rattle.state_laws.specs.found_stays
pub use Rattle.state_laws.specs.kernel_laws
pub use Rattle.state_laws
pub use Rattle.call_names
-- Its own.
pub mod Authority
pub mod Graces
-- The names that are used most outside of this library.
pub use Rattle.authority_laws.specs.Authority.{CoreIs, Part, SamePart, OwnBy, FrameIs, PlaceIs, NumberIs, BudgetIs, ListIs, RunsIs, StackIs, IsUnderOne, MayUse, Stays}
pub use Rattle.authority_laws.specs.Authority.{IsUnder, Over, bare_of}
