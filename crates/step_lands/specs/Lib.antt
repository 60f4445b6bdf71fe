-- What the crates above name through this one.
pub use Rattle.call_stages.specs.spk_nums
pub use Rattle.call_stages.specs.entry_words
pub use Rattle.call_stages.specs.frame_words
pub use Rattle.call_stages.specs.tcap_words
pub use Rattle.call_stages.specs.word_map
pub use Rattle.call_stages.specs.kernel_rules
pub use Rattle.call_stages.specs.call_plans
pub use Rattle.call_stages.specs.stage_look
pub use Rattle.call_stages.specs.stage_pins
pub use Rattle.call_stages.specs.stage_quiet
pub use Rattle.call_stages.specs.stage_thread
pub use Rattle.call_stages.specs.stage_sweep
pub use Rattle.call_stages.specs.stage_tcap
pub use Rattle.call_stages.specs.act_states
pub use Rattle.call_stages
-- Its own.
pub mod Standing
