pub mod Tallies
pub mod ReplyWords
pub mod Told
pub mod Parts
