use Rattle.seq_lookups.specs.seq_state.specs.{◌≡◌, ◌<◌, ℕ, true, false, found, has_frame}
use Rattle.seal_check.specs.Sealing.{is_in}
use Rattle.seal_check.proofs.sealed.is_range_free.Given as goal

abbrev pub invariant-frames : goal.invariant-frames
invariant-frames l = (f : ℕ) → f < l.frame → has_frame (found l.range) f ≡ true → is_in l.world f ≡ false
