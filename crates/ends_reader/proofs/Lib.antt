pub mod InputSteps
pub mod Amounts
