-- What the crates above name through this one.
pub use Rattle.plain_kernel.specs.seq_state.specs.kernel_rules
pub use Rattle.plain_kernel.specs.seq_state.specs.kernel_invariant
pub use Rattle.plain_kernel.specs.seq_state
pub use Rattle.plain_kernel.specs.call_plans
-- Its own.
pub mod Leads
pub mod Told
pub mod Outlooks
-- The names that are used most outside of this library.
pub use Rattle.open_calls.specs.Leads.{names_text}
