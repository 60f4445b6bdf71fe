-- What the crates above name through this one.
pub use Rattle.found_stays.specs.spk_nums
pub use Rattle.found_stays.specs.kernel_rules
pub use Rattle.found_stays.specs.kernel_invariant
pub use Rattle.found_stays
-- Its own.
pub mod Laws
pub mod Causes
pub mod Nodes
-- The names that are used most outside of this library.
pub use Rattle.kernel_laws.specs.{Causes.leads, Causes.used_at, Causes.leads_as, Causes.tcap_named, Laws.decided_ticks, Laws.grants_sum}
pub use Rattle.kernel_laws.specs.{Nodes.leads_to}
