pub mod Walks
pub mod NoPower
