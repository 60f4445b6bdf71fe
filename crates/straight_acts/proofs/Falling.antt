-- A call that is left to the step machine.
use Rattle.std.proofs.Common.{◌≡◌, ℕ, Option, Some, refl, subst}
use Rattle.straight_looks.specs.step_starts.specs as low
use low.act_states.specs.declared.own.Own.{Own}
use low.call_stages.specs.View.{Core}
use low.call_stages.specs.Cores.{absorbed, told_of_step}
use low.call_stages.specs.Fits.{IsCore}
use low.call_stages.specs.declared.stages.ActiveCall.{ActiveCall}
use low.call_stages.specs.declared.stages.Absorbed.{Absorbed}
use Rattle.straight_looks.specs.Outcomes.{Fell}

-- it stands where it stood before the step that has found this word
pub fell : (own : Own) (active : Option ActiveCall) (a : ActiveCall) (b c : Core) (told : Absorbed) (w : ℕ)
    → active ≡ Some a → b ≡ record { own = own; active = Some a } → IsCore b → c ≡ absorbed b w → told ≡ told_of_step b w
    → Fell own active c told w
fell own active a b c told w stands is fits goes tells = record {
  core = rw (goes, is, stands) refl;
  told = rw (tells, is, stands) refl;
  fits = rw stands (subst IsCore is fits);
  in_call = rw stands refl;
}
