pub mod LookingFits
pub mod Fitting
pub mod Landing
pub mod CoreFitting
pub mod Begun
