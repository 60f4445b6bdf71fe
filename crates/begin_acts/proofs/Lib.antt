pub mod Frames
pub mod OtherMakes
pub mod Searching
