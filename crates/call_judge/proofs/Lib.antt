pub mod SameMay
pub mod EveryMay
pub mod JudgedRules
pub mod CarriedOut
pub mod Beyond
pub mod Reached
