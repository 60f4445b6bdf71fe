pub mod Clearing
pub mod Made
