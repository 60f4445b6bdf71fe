-- What the crates above name through this one.
pub use Rattle.kernel_history.specs.spk_nums
pub use Rattle.kernel_history.specs.kernel_rules
pub use Rattle.kernel_history
-- Its own.
pub mod Plainly
-- The names that are used most outside of this library.
pub use Rattle.one_core_laws.specs.Plainly.{IsPlain}
