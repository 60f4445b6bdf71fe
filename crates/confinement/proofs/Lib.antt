pub mod Chains
pub mod Tables
pub mod Putting
pub mod Standing
