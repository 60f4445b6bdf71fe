-- What the crates above name through this one.
pub use Rattle.straight_acts.specs.core_words
pub use Rattle.step_looks.specs.act_states
pub use Rattle.step_looks.specs.call_stages
-- Its own.
pub mod Stepping
pub mod Straight
pub mod Naming
