pub mod Mapping
pub mod Outcomes
