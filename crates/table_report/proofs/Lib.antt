pub mod Nodes
pub mod Lines
pub mod Counted
pub mod ShownObjects
pub mod Determined
