-- Sealed worlds along legal traces.
use Rattle.std.specs.Prelude.{◌≡◌, ◌⊎◌, ◌∷◌, ◌++◌}
use Rattle.kernel_history.specs.{ℕ, Bool, true, false, Setting, IsSetting, Kind, State, Step, state_after}
use Rattle.world_laws.specs.{works_in, lives_at, gates, OnlyGates, IsSealed, AreApart, LeavesAlone, EntersBy, IsOf, ticks_in, RunsAcross}
use Rattle.world_laws.specs.authority_laws.specs.{Part, OwnBy, SamePart}
use Rattle.{kernel_history.specs.state_before, kernel_history.specs.IsLegal, kernel_history.specs.Trace.Trace}
use Rattle.{isolation_laws.specs.Carried.CarriesOut, isolation_laws.specs.Carried.CarriedOutBy}

-- The step carries out a call, and this part is its core's own, which the call is for.
pub record LendsTo (setup : Setting) (t : Trace) (e : Step) (x : Part) : Type 0 where
  pub done : CarriesOut t e
  pub own : OwnBy done.call (state_before setup t e) e.core x

-- The step leaves a world alone but for the thread and the temporal capability on which its core runs, and of these it changes only what
-- a call that it carries out is for.
pub record SparesWorld (setup : Setting) (w : ℕ → Bool) (t : Trace) (e : Step) : Type 0 where
  pub alone : LeavesAlone w (state_after setup t) (state_after setup (e ∷ t)) e.core
  pub lent : (x : Part) → IsOf w x → SamePart (state_after setup t) (state_after setup (e ∷ t)) x ⊎ LendsTo setup t e x

-- So it leaves each world that is sealed before it and outside of which its core works.
abbrev pub SparesWorlds : Setting → Trace → Step → Type 0
SparesWorlds setup t e = (w : ℕ → Bool) → IsSealed w gates (state_after setup t) → w (works_in (state_after setup t) e.core) ≡ false
    → SparesWorld setup w t e

-- The step carries out a call by which its core comes to work in a set of frames.
pub record ComesIn (setup : Setting) (w : ℕ → Bool) (t : Trace) (e : Step) : Type 0 where
  pub done : CarriesOut t e
  pub by : EntersBy done.call w (state_before setup t e) e.core

-- A step before which its core works outside a set of frames, and inside after it, is one by which the core comes in so.
abbrev pub EntersWorlds : Setting → Trace → Step → Type 0
EntersWorlds setup t e = (w : ℕ → Bool) → w (works_in (state_after setup t) e.core) ≡ false
    → w (works_in (state_after setup (e ∷ t)) e.core) ≡ true → ComesIn setup w t e

-- A core works inside a world.
abbrev pub WorksInside : (ℕ → Bool) → State → ℕ → Type 0
WorksInside w s c = w (works_in s c) ≡ true

-- Worlds over the steps u, made after t. One that is sealed before them is sealed after them, and a component of it that lives does so
-- after them, or one of the steps carries out a call of a core that works inside. Two worlds that only gates join, or nothing, stay so,
-- whatever any core does; and each has as many ticks after the steps as before, or one of these carries out a call of a core that runs
-- across.
pub record WorldsStay (setup : Setting) (u t : Trace) : Type 0 where
  pub sealed : (w : ℕ → Bool) (crosses : Kind → Bool) → OnlyGates crosses → IsSealed w crosses (state_after setup t)
      → IsSealed w crosses (state_after setup (u ++ t)) ⊎ CarriedOutBy (WorksInside w) setup u t
  pub living : (w : ℕ → Bool) → IsSealed w gates (state_after setup t) → (f : ℕ) → w f ≡ true → lives_at (state_after setup t) f ≡ true
      → (lives_at (state_after setup (u ++ t)) f ≡ true) ⊎ CarriedOutBy (WorksInside w) setup u t
  pub apart : (w : ℕ → Bool) (crosses : Kind → Bool) → OnlyGates crosses → AreApart w crosses (state_after setup t)
      → AreApart w crosses (state_after setup (u ++ t))
  pub ticks : (w : ℕ → Bool) (crosses : Kind → Bool) → OnlyGates crosses → AreApart w crosses (state_after setup t)
      → (ticks_in w (state_after setup (u ++ t)) ≡ ticks_in w (state_after setup t)) ⊎ CarriedOutBy (RunsAcross w) setup u t

-- These hold of each step, and of each stretch of steps, of a legal trace.
abbrev pub StepsSpareWorlds : Type 0
StepsSpareWorlds = (setup : Setting) → IsSetting setup → (t : Trace) (e : Step) → IsLegal setup (e ∷ t) → SparesWorlds setup t e

abbrev pub StepsEnterWorlds : Type 0
StepsEnterWorlds = (setup : Setting) → IsSetting setup → (t : Trace) (e : Step) → IsLegal setup (e ∷ t) → EntersWorlds setup t e

abbrev pub StretchesKeepWorlds : Type 0
StretchesKeepWorlds = (setup : Setting) → IsSetting setup → (u t : Trace) → IsLegal setup (u ++ t) → WorldsStay setup u t
