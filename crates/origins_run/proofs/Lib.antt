pub mod Deciding
pub mod Stepping
