pub mod Owed
pub mod Tickless
pub mod Taken
