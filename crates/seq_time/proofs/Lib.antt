pub mod Alike
pub mod Delegating
pub mod GoingOn
pub mod Switched
