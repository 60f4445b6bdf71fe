-- Look-ups.
pub mod Lookups
pub mod Findings
pub mod Next
-- Acquiring and committing.
pub mod ActBares
pub mod DueLists
pub mod Acquiring
pub mod ActHolds
-- What a decision makes of the counts acquired.
pub mod CountChanges
pub mod CapChanges
-- The counts of each act.
pub mod PutCounts
pub mod LinkCounts
pub mod MakingCounts
pub mod CompCounts
pub mod KillingCounts
pub mod StackCounts
pub mod SwitchCounts
pub mod SweepCounts
-- The names that are used most outside of this library.
pub use Rattle.count_invariant.proofs.{Acquiring.plan_leads, Acquiring.goes_by, Acquiring.knows_next, Acquiring.next_holds, Acquiring.one_apart}
pub use Rattle.count_invariant.proofs.{CapChanges.counts_commit, CapChanges.counts_sum, CapChanges.dues_of, CompCounts.IsCompCall}
pub use Rattle.count_invariant.proofs.{CompCounts.comp_changes, CompCounts.comp_argument, CompCounts.makes_comp_on, CompCounts.number_footprint}
pub use Rattle.count_invariant.proofs.{CountChanges.dues_commit, CountChanges.dues_sum, Findings.found_named, Findings.own_is}
pub use Rattle.count_invariant.proofs.{Findings.way_gone, Lookups.footprint_way, Lookups.Arrives, Lookups.Shows}
pub use Rattle.count_invariant.proofs.{MakingCounts.argument_footprint, MakingCounts.blank_left, Next.ANameLeft, Next.NoneLeft, Next.Rest}
pub use Rattle.count_invariant.proofs.{Next.next_name, Next.rest_of, Next.next_end}
