pub mod Searching
pub mod Deciding
pub mod SameReplies
pub mod OneOfCauses
pub mod ByPlan
pub mod Resolved
pub mod FoundAll
pub mod MayBeCarried
pub mod Stepped
-- The names that are used most outside of this library.
pub use Rattle.seq_plans.proofs.Stepped.{carried_out, cause_refused, look_refused}
