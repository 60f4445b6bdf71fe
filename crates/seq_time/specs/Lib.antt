pub mod Own
pub mod Left
