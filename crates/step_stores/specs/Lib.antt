-- What the crates above name through this one.
pub use Rattle.step_lands.specs.act_states
pub use Rattle.step_lands.specs.call_stages
pub use Rattle.step_lands
