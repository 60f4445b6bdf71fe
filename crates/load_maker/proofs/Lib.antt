pub mod Repeats
pub mod Within
