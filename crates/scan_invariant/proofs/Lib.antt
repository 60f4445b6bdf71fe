-- Scanning.
pub mod Scans
pub mod CoreScans
pub mod FlushScans
pub mod ScanSteps
-- The names that are used most outside of this library.
pub use Rattle.scan_invariant.proofs.Scans.{AtCores, AtFlushes, ScanBegins, scan_begins, scan_none}
