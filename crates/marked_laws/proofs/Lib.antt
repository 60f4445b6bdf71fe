pub mod Events
pub mod Races
pub mod Marks
