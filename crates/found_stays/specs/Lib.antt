-- What the crates above name through this one.
pub use Rattle.kernel_invariant.specs.spk_nums
pub use Rattle.kernel_invariant.specs.kernel_rules
pub use Rattle.kernel_invariant
