-- What the crates above name through this one.
pub use Rattle.call_judge.specs.seq_state.specs.kernel_invariant
pub use Rattle.origin_rules
pub use Rattle.call_judge.specs.seq_state
-- Its own.
pub mod Known
pub mod Links
-- The names that are used most outside of this library.
pub use Rattle.confinement.specs.Known.{Takes, StandsFor, chain_known}
pub use Rattle.confinement.specs.Links.{IsBelow, chain_from, Table, places_left}
