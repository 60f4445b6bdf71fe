-- What the crates above name through this one.
pub use Rattle.seq_caps.specs.call_plans
pub use Rattle.seq_caps.specs.seq_plans
pub use Rattle.seq_caps.specs.seq_lookups
pub use Rattle.seq_caps.specs.seq_lookups.specs.seq_state.specs.kernel_rules
pub use Rattle.seq_caps.specs.seq_lookups.specs.seq_state.specs.kernel_invariant
pub use Rattle.seq_caps.specs.seq_lookups.specs.seq_state
pub use Rattle.same_changes.specs.kernel_laws
pub use Rattle.same_changes
-- Its own.
pub mod Step
pub mod Families
-- The names that are used most outside of this library.
pub use Rattle.plain_kernel.specs.Step.{IsReached, StepsExactly}
