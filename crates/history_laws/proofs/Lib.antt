-- What laws of traces say of their newest steps, and steps that keep the discipline.
pub mod Traces
pub mod Disciplined
-- Worked examples, which the checker computes.
pub mod Calls
pub mod Frames
pub mod Counts
pub mod Objects
pub mod Time
