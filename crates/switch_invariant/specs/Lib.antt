-- What the crates above name through this one.
pub use Rattle.thread_invariant.specs.live_invariant
pub use Rattle.thread_invariant
