-- What the crates above name through this one.
pub use Rattle.pair_invariant
