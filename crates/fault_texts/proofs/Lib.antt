pub mod Appended
pub mod BadBytes
pub mod Misfits
pub mod Telling
pub mod Under
