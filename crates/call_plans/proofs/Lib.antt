pub mod CallsGoBy
pub mod Lives
pub mod AfterNames
pub mod Roots
pub mod StepsOfPlans
pub mod RootedTargets
pub mod FewNames
-- The names that are used most outside of this library.
pub use Rattle.call_plans.proofs.{AfterNames.outcome_left, AfterNames.leads_by, AfterNames.left_may, AfterNames.Begins, AfterNames.next_may}
pub use Rattle.call_plans.proofs.{AfterNames.before, AfterNames.left_begins, CallsGoBy.calls_go, FewNames.few_names, RootedTargets.rooted}
