-- What the crates above name through this one.
pub use Rattle.step_starts.specs.entry_words
pub use Rattle.step_starts.specs.frame_words
pub use Rattle.step_starts.specs.tcap_words
pub use Rattle.step_starts.specs.word_map
pub use Rattle.step_starts.specs.kernel_rules
pub use Rattle.step_starts.specs.call_plans
pub use Rattle.step_starts.specs.stage_look
pub use Rattle.step_starts.specs.stage_pins
pub use Rattle.step_starts.specs.stage_quiet
pub use Rattle.step_starts.specs.stage_thread
pub use Rattle.step_starts.specs.stage_sweep
pub use Rattle.step_starts.specs.stage_tcap
pub use Rattle.step_starts.specs.act_states
pub use Rattle.step_starts.specs.call_stages
pub use Rattle.step_starts.specs.step_lands
pub use Rattle.step_starts
pub use Rattle.call_fits
