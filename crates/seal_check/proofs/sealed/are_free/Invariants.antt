use Rattle.seq_lookups.specs.seq_state.specs.{◌<◌, ℕ, state_of}
use Rattle.seal_check.specs.Sealing.{is_in, IsPlaceFree}
use Rattle.seal_check.proofs.sealed.are_free.Given as goal

abbrev pub invariant-places : goal.invariant-places
invariant-places l = (i : ℕ) → i < l.index → IsPlaceFree (state_of l.k) (is_in l.world) (record { node = l.node; index = i })
