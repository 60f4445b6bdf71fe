-- What the crates above name through this one.
pub use Rattle.trace_laws.specs.boot_words
pub use Rattle.trace_laws.specs.spk_nums
pub use Rattle.trace_laws.specs.entry_words
pub use Rattle.trace_laws.specs.frame_words
pub use Rattle.trace_laws.specs.tcap_words
pub use Rattle.trace_laws.specs.word_map
pub use Rattle.trace_laws.specs.kernel_rules
pub use Rattle.trace_laws.specs.kernel_invariant
pub use Rattle.trace_laws.specs.found_stays
pub use Rattle.trace_laws.specs.kernel_history
pub use Rattle.trace_laws
