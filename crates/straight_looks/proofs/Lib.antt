pub mod Fitting
pub mod Steps
pub mod Leaving
pub mod Looking
pub mod Sets
