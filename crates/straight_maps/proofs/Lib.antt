pub mod Placing
pub mod Scanning
pub mod Mapping
pub mod Growing
pub mod Sets
