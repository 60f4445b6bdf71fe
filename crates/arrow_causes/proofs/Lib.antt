pub mod Puts
pub mod Holders
pub mod Lines
pub mod Busy
pub mod Entries
pub mod Waiting
