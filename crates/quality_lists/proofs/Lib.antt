pub mod Merges
pub mod Equality
pub mod Ranks
pub mod Covering
