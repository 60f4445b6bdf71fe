pub mod Cores
pub mod WordTexts
mod Amounts
