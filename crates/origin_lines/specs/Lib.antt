-- What the crates above name through this one.
pub use Rattle.confinement.specs.kernel_invariant
pub use Rattle.confinement.specs.origin_rules
pub use Rattle.confinement.specs.seq_state
pub use Rattle.confinement
-- Its own.
pub mod Lines
-- The names that are used most outside of this library.
pub use Rattle.origin_lines.specs.Lines.{TellsOrigins}
