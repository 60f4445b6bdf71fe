pub mod Feet
pub mod Sound
pub mod Views
