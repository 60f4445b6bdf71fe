-- Traces, step by step.
pub mod Idle
pub mod Small
-- A legal trace is a run.
pub mod Opens
-- What calls have found stays.
pub mod Stays
pub mod Carries
-- Grace periods and stamps.
pub mod GraceSets
pub mod GraceSteps
pub mod Times
pub mod Waiting
pub mod Awaits
-- Laws.
pub mod AloneCalls
-- The names that are used most outside of this library.
pub use Rattle.trace_laws.proofs.{AloneCalls.refused_first, AloneCalls.ok_first, AloneCalls.nobody_waits, Awaits.awaits_are, Carries.was_stays}
pub use Rattle.trace_laws.proofs.{Carries.was_now, Carries.carries_own, Carries.was_before, GraceSteps.cases_bool, Opens.open_inj, Opens.opens}
pub use Rattle.trace_laws.proofs.{Small.last_small, Stays.sound_of, Stays.opened_is, Stays.stays_in_other, Stays.guarded_usable}
pub use Rattle.trace_laws.proofs.{Stays.relies_reached, Waiting.later_passed, Waiting.out_passed, Waiting.may_wait}
