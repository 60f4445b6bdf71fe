-- What the crates above name through this one.
pub use Rattle.machine_image
-- Its own.
pub mod Kinds
pub mod Parts
