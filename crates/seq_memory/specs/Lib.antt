pub mod Own
pub mod Retyped
