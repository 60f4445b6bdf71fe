pub mod Gets
pub mod Words
pub mod Chains
pub mod Calls
