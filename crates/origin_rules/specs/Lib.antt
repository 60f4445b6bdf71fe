-- What the crates above name through this one.
pub use Rattle.kernel_invariant
-- Its own.
pub mod Chains
pub mod Derived
-- The names that are used most outside of this library.
pub use Rattle.origin_rules.specs.Chains.{decided, Put, origin_of, is_own, Origin, ChainValue, chain_of, puts, puts_by}
pub use Rattle.origin_rules.specs.Derived.{Gives, HasChain}
