pub mod Searching
pub mod Stacks
