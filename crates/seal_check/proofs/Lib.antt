pub mod Reached
pub mod Frees
pub mod Seals
