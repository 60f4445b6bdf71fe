use Rattle.seq_lookups.specs.seq_state.specs.{◌≡◌, ◌<◌, ℕ, false, state_of}
use Rattle.seal_check.specs.Sealing.{is_in, IsFrameFree}
use Rattle.seal_check.proofs.sealed.is_all_fine.Given as goal

abbrev pub invariant-frames : goal.invariant-frames
invariant-frames l = (f : ℕ) → f < l.frame → is_in l.world f ≡ false → IsFrameFree (state_of l.k) (is_in l.world) f
