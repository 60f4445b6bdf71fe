-- Changes and what is known of them.
pub mod Facts
pub mod GraceChanges
pub mod Ends
pub mod FrameTurns
pub mod Releases
-- Soundness of reached states.
pub mod Sound
pub mod SoundSteps
pub mod SoundRemovals
pub mod SoundCalls
pub mod Edited
pub mod SoundEdits
pub mod SoundStart
pub mod SoundRuns
-- References.
pub mod Sums
pub mod Refs
pub mod RefsLaw
-- The names that are used most outside of this library.
pub use Rattle.kernel_invariant.proofs.Edited.{Calm, AreLater, Each, found_by, after_ok, is_bare, Known, Tested, later_number}
pub use Rattle.kernel_invariant.proofs.Ends.{ends_by_rule, MayEnd}
pub use Rattle.kernel_invariant.proofs.Facts.{none_some, some_inj, named_fit, suits, outcome_from, ChangesFrom, named_good, then_parts, or_found, held_facts, some_none}
pub use Rattle.kernel_invariant.proofs.Facts.{none_parts, not_not, usable_good, when_not, vacant_facts, Suits}
pub use Rattle.kernel_invariant.proofs.FrameTurns.{is_typed, TurnsIn, decided_turns}
pub use Rattle.kernel_invariant.proofs.GraceChanges.{flushed_by, grace_is}
pub use Rattle.kernel_invariant.proofs.Refs.{grace_refs, frame_refs, RefsBy, place_refs, number_refs}
pub use Rattle.kernel_invariant.proofs.Releases.{begins_typed}
pub use Rattle.kernel_invariant.proofs.Sound.{put_all, only_is, IsSound, IsObjectGood, IsStack, AreComps, WaitsForAll}
pub use Rattle.kernel_invariant.proofs.SoundCalls.{IsOpen, blank_by, untyped_by, within_by}
pub use Rattle.kernel_invariant.proofs.SoundRemovals.{frames_no_place, unnamed, below_by}
pub use Rattle.kernel_invariant.proofs.SoundRuns.{opened, limits_stay, open_is, runs_sound, open_limits, inside_is, phase_other, phase_own, decided_opened}
pub use Rattle.kernel_invariant.proofs.SoundStart.{choose, past_three}
pub use Rattle.kernel_invariant.proofs.SoundSteps.{place_all, free_holds, holds_inj, holds_quiescing, free_quiescing, quiescing_holds}
pub use Rattle.kernel_invariant.proofs.Sums.{times_cons, sum_one, times_first, sum_same}
