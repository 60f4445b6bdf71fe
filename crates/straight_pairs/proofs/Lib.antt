pub mod Naming
pub mod Taking
pub mod Sharing
pub mod Sets
