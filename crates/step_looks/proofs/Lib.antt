pub mod Looked
pub mod Nexts
