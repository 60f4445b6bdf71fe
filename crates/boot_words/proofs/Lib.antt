-- The start.
pub mod StartRefs
pub mod Fillings
pub mod BootRepresents
