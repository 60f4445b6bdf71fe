pub mod Finish
