pub mod Coming
pub mod Making
