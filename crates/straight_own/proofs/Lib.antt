pub mod Timing
pub mod Touching
pub mod Sets
