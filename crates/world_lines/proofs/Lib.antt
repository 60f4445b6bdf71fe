pub mod Putting
pub mod Numbers
pub mod TellsLaw
