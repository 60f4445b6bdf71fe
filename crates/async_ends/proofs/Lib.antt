pub mod Histories
pub mod Steps
pub mod Totals
pub mod Along
pub mod Made
pub mod Closing
pub mod Asked
pub mod Refused
