pub mod Lowest
pub mod Outcomes
