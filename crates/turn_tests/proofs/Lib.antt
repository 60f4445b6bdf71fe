pub mod Calls
pub mod Scores
pub mod Wins
pub mod Tickets
pub mod Zips
pub mod Kept
pub mod Pairs
