-- The laws, one concern a file.
pub mod Places
pub mod Lives
pub mod Pages
pub mod Frames
pub mod Sweeping
pub mod CountSteps
pub mod CountHolds
pub mod HeldCounts
pub mod AcquiredCounts
pub mod FrozenCounts
pub mod DrawnStamps
pub mod SettledCounts
pub mod CountsTold
pub mod StampsTold
pub mod Sums
pub mod Ready
pub mod Invocations
pub mod Threads
-- The record of all of them.
pub mod Histories
