-- What the crates above name through this one.
pub use Rattle.kernel_laws.specs.spk_nums
pub use Rattle.kernel_laws.specs.kernel_rules
pub use Rattle.kernel_laws.specs.kernel_invariant
pub use Rattle.kernel_laws.specs.found_stays
pub use Rattle.kernel_laws
-- Its own.
pub mod Lives
pub mod Cached
pub mod Looking
pub mod Rights
-- The names that are used most outside of this library.
pub use Rattle.state_laws.specs.{Cached.Stands, Cached.Answers, Cached.Begins, Lives.IsCompOf}
