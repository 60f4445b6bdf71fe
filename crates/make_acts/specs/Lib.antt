-- What the crates above name through this one.
pub use Rattle.act_counts.specs.spk_nums
pub use Rattle.act_counts.specs.entry_words
pub use Rattle.act_counts.specs.frame_words
pub use Rattle.act_counts.specs.tcap_words
pub use Rattle.act_counts.specs.word_map
pub use Rattle.act_counts.specs.kernel_rules
pub use Rattle.act_counts.specs.call_plans
pub use Rattle.act_counts.specs.stage_look
pub use Rattle.act_counts.specs.stage_pins
pub use Rattle.act_counts.specs.stage_quiet
pub use Rattle.act_counts.specs.stage_thread
pub use Rattle.act_counts.specs.stage_sweep
pub use Rattle.act_counts.specs.stage_tcap
pub use Rattle.act_counts.specs.act_states
pub use Rattle.act_counts
