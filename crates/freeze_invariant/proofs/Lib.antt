-- What such a call knows of its rule, and how it is refused.
pub mod UntypeCalls
pub mod Refusing
-- The mark of the frame, and the freezing of its counters.
pub mod Marking
pub mod Counters
pub mod Continuing
pub mod FrameQuiet
pub mod OneMore
pub mod Freezes
-- The scans.
pub mod FrameScans
pub mod FrameCores
pub mod FrameFlushes
-- The names that are used most outside of this library.
pub use Rattle.freeze_invariant.proofs.Counters.{sweeping, untyping_by}
