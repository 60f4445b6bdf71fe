-- What the crates above name through this one.
pub use Rattle.work_invariant.specs.boot_words.specs.spk_nums
pub use Rattle.work_invariant.specs.boot_words.specs.entry_words
pub use Rattle.work_invariant.specs.boot_words.specs.frame_words
pub use Rattle.work_invariant.specs.boot_words.specs.tcap_words
pub use Rattle.work_invariant.specs.boot_words.specs.word_map
pub use Rattle.work_invariant.specs.boot_words.specs.kernel_rules
pub use Rattle.call_fits.specs.call_stages.specs.kernel_invariant
pub use Rattle.work_invariant.specs.found_stays
pub use Rattle.work_invariant.specs.kernel_laws
pub use Rattle.work_invariant.specs.state_laws
pub use Rattle.work_invariant.specs.boot_words.specs.kernel_history
pub use Rattle.work_invariant.specs.trace_laws
pub use Rattle.call_fits.specs.call_stages.specs.call_plans
pub use Rattle.call_fits.specs.call_stages.specs.stage_look
pub use Rattle.call_fits.specs.call_stages.specs.stage_pins
pub use Rattle.call_fits.specs.call_stages.specs.stage_quiet
pub use Rattle.call_fits.specs.call_stages.specs.stage_thread
pub use Rattle.call_fits.specs.call_stages.specs.stage_sweep
pub use Rattle.call_fits.specs.call_stages.specs.stage_tcap
pub use Rattle.call_fits.specs.call_stages.specs.act_states
pub use Rattle.call_fits.specs.call_stages
pub use Rattle.work_invariant.specs.core_invariant
pub use Rattle.work_invariant.specs.kept_facts
pub use Rattle.work_invariant.specs.step_ways
pub use Rattle.work_invariant.specs.count_invariant
pub use Rattle.work_invariant.specs.place_invariant
pub use Rattle.work_invariant.specs.comp_invariant
pub use Rattle.work_invariant.specs.pair_invariant
pub use Rattle.work_invariant.specs.share_invariant
pub use Rattle.work_invariant.specs.live_invariant
pub use Rattle.work_invariant.specs.thread_invariant
pub use Rattle.work_invariant.specs.switch_invariant
-- Its own.
pub mod Made
pub mod Decided
pub mod Theorems
pub mod Phases
-- The names that are used most outside of this library.
pub use Rattle.flight.specs.{Decided.is_decided_in, Decided.is_decided_at, Made.IsMade, Made.cores_after, Made.ready_after, Made.turned}
pub use Rattle.flight.specs.{Made.stepping_core, Made.core_after, Made.MayStep, Made.IsMadeStep, Made.step_of, Theorems.found_by}
