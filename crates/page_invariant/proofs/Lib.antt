pub mod Flushes
pub mod TouchCalls
pub mod Touches
