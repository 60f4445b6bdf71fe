pub mod Falling
pub mod Pinning
pub mod Filling
pub mod Copying
pub mod Removing
pub mod Sets
