pub mod Staged
pub mod Wholes
pub mod Naming
