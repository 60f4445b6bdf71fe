-- What the crates above name through this one.
pub use Rattle.step_lands.specs.spk_nums
pub use Rattle.step_lands.specs.entry_words
pub use Rattle.step_lands.specs.frame_words
pub use Rattle.step_lands.specs.tcap_words
pub use Rattle.step_lands.specs.word_map
pub use Rattle.step_lands.specs.kernel_rules
pub use Rattle.step_lands.specs.call_plans
pub use Rattle.step_lands.specs.stage_look
pub use Rattle.step_lands.specs.stage_pins
pub use Rattle.step_lands.specs.stage_quiet
pub use Rattle.step_lands.specs.stage_thread
pub use Rattle.step_lands.specs.stage_sweep
pub use Rattle.step_lands.specs.stage_tcap
pub use Rattle.step_lands.specs.act_states
pub use Rattle.step_lands.specs.call_stages
pub use Rattle.step_lands
pub use Rattle.begin_acts
