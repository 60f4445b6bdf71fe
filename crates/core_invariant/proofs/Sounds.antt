-- The limits of the state after a trace are those of the setup.
use Rattle.kernel_history.proofs.{◌≡◌, ◌∙◌, ap, Setting, start, state_after, events_of, state_is}
use Rattle.{act_fits.specs.kernel_invariant.proofs.SoundRuns.limits_stay, kernel_history.specs.Trace.Trace}

pub limits_of : (setup : Setting) (t : Trace) → (state_after setup t).limits ≡ (start setup).limits
limits_of setup t = ap (λ s. s.limits) (state_is setup t) ∙ limits_stay setup (events_of t)
