-- What the crates above name through this one.
pub use Rattle.step_lands
