pub mod Alike
pub mod Calling
pub mod ToGo
pub mod Taking
pub mod Coming
pub mod Going
