pub mod Zips
pub mod Lanes
pub mod Numbered
pub mod Wholes
