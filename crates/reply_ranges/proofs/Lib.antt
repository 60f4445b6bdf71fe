pub mod Tidy
pub mod Values
pub mod Replies
