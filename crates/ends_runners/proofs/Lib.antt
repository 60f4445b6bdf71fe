pub mod Looks
pub mod Runs
pub mod Telling
pub mod Sends
