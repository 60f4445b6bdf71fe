-- What the crates above name through this one.
pub use Rattle.kept_facts.specs.quality_lists
pub use Rattle.kept_facts.specs.boot_words
pub use Rattle.kept_facts.specs.kernel_laws
pub use Rattle.kept_facts.specs.found_stays
pub use Rattle.kept_facts.specs.trace_laws
pub use Rattle.kept_facts.specs.stage_look
pub use Rattle.kept_facts.specs.stage_pins
pub use Rattle.kept_facts.specs.stage_quiet
pub use Rattle.kept_facts.specs.stage_thread
pub use Rattle.kept_facts.specs.stage_sweep
pub use Rattle.kept_facts.specs.stage_tcap
pub use Rattle.kept_facts.specs.act_states
pub use Rattle.kept_facts.specs.call_stages
pub use Rattle.kept_facts.specs.act_fits
pub use Rattle.kept_facts.specs.core_invariant
pub use Rattle.kept_facts
