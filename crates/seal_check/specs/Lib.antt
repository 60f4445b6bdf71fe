-- What the crates above name through this one.
pub use Rattle.seq_lookups.specs.seq_state.specs.kernel_invariant
pub use Rattle.world_laws
-- Its own.
pub mod Holding
pub mod Sealing
-- The names that are used most outside of this library.
pub use Rattle.seal_check.specs.Sealing.{is_in}
