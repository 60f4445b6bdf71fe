-- The authority of one step of a legal trace.
use Rattle.std.specs.Prelude.{◌≡◌, ◌⊎◌, ◌∷◌}
use Rattle.kernel_history.specs.{Setting, IsSetting, Step, state_after, state_before, IsLegal}
use Rattle.world_laws.specs.authority_laws.specs.{Part, CoreIs, IsUnderOne, OwnBy, SamePart}
use Rattle.{kernel_history.specs.Trace.Trace, isolation_laws.specs.Carried.CarriesOut}

-- The step changes a part by a call that it carries out: the part is its core's own and the call is for it, or it lies under a capability
-- that one of the call's names led the core to, in the state in which the call is decided.
pub record ChangesBy (setup : Setting) (t : Trace) (e : Step) (x : Part) : Type 0 where
  pub done : CarriesOut t e
  pub may : OwnBy done.call (state_before setup t e) e.core x ⊎ IsUnderOne done.call (state_before setup t e) e.core x

-- Each part of the state that a step changes is its core itself, or is changed so.
abbrev pub HasAuthority : Setting → Trace → Step → Type 0
HasAuthority setup t e = (x : Part)
    → SamePart (state_after setup t) (state_after setup (e ∷ t)) x ⊎ ((x ≡ CoreIs e.core) ⊎ ChangesBy setup t e x)

-- So it is of each step of a legal trace.
abbrev pub StepsHaveAuthority : Type 0
StepsHaveAuthority = (setup : Setting) → IsSetting setup → (t : Trace) (e : Step) → IsLegal setup (e ∷ t) → HasAuthority setup t e
