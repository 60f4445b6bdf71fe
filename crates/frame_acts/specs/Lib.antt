-- What the crates above name through this one.
pub use Rattle.act_counts.specs.act_states
pub use Rattle.act_counts
