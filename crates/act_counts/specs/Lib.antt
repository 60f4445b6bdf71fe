-- What the crates above name through this one.
pub use Rattle.act_states.specs.spk_nums
pub use Rattle.act_states.specs.entry_words
pub use Rattle.act_states.specs.frame_words
pub use Rattle.act_states.specs.tcap_words
pub use Rattle.act_states.specs.word_map
pub use Rattle.act_states.specs.kernel_rules
pub use Rattle.act_states.specs.call_plans
pub use Rattle.act_states.specs.stage_look
pub use Rattle.act_states.specs.stage_pins
pub use Rattle.act_states.specs.stage_quiet
pub use Rattle.act_states.specs.stage_thread
pub use Rattle.act_states.specs.stage_sweep
pub use Rattle.act_states.specs.stage_tcap
pub use Rattle.act_states
