pub mod Calls
pub mod Known
pub mod Heads
pub mod Lines
pub mod Races
pub mod Apart
