pub mod Entries
pub mod Storing
pub mod Sets
