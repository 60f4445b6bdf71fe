-- What the crates above name through this one.
pub use Rattle.kernel_rules.specs.spk_nums
pub use Rattle.kernel_rules
-- Its own.
pub mod Names
-- The names that are used most outside of this library.
pub use Rattle.call_names.specs.Names.{IsName}
