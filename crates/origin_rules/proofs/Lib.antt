pub mod Placed
pub mod EachChain
pub mod Falling
