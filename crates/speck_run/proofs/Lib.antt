pub mod ByItems
pub mod Finish
pub mod OneWord
pub mod Accepted
pub mod Due
pub mod Explaining
pub mod ByCores
pub mod Endings
