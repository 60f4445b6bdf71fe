pub mod Cores
pub mod Marks
pub mod Lines
pub mod Ends
