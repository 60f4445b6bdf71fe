-- The names that most files use.
pub mod Common
pub mod Stacks
pub mod Texts
