pub mod Acts
pub mod EditParts
pub mod DecidedParts
pub mod Causes
-- The names that are used most outside of this library.
pub use Rattle.authority_laws.proofs.Acts.{By, EachBy, InRange, InNode, IsGiven, LedTo, used_at}
pub use Rattle.authority_laws.proofs.DecidedParts.{decided_from}
