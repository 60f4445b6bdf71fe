pub mod WordTexts
pub mod Objects
