-- What the crates above name through this one.
pub use Rattle.count_invariant.specs.quality_lists.specs.spk_nums
pub use Rattle.count_invariant.specs.tcap_words
pub use Rattle.count_invariant.specs.word_map
pub use Rattle.count_invariant.specs.kernel_laws.specs.kernel_rules
pub use Rattle.count_invariant.specs.kernel_laws
pub use Rattle.count_invariant.specs.kernel_history
pub use Rattle.count_invariant.specs.trace_laws
pub use Rattle.count_invariant.specs.stage_pins
pub use Rattle.count_invariant.specs.stage_tcap
pub use Rattle.count_invariant.specs.act_states
pub use Rattle.count_invariant.specs.call_stages
pub use Rattle.count_invariant.specs.core_invariant
pub use Rattle.count_invariant.specs.kept_facts
pub use Rattle.count_invariant.specs.step_ways
