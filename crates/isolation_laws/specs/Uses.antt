-- What follows from the laws of steps and of stretches by their words alone: so these refuse laws that say nothing.
use Rattle.std.specs.Prelude.{◌≡◌, ◌≢◌, ◌∷◌, ◌++◌}
use Rattle.kernel_history.specs.{ℕ, Bool, true, false, [], None, Setting, Kind, State, Step, state_after, state_before}
use Rattle.world_laws.specs.{works_in, lives_at, gates, OnlyGates, IsSealed, AreApart, ticks_in, RunsAcross}
use Rattle.world_laws.specs.authority_laws.specs.{Part, CoreIs, SamePart}
use Rattle.kernel_history.specs.Trace.{Trace}
use Rattle.isolation_laws.specs.{Authority.HasAuthority, Worlds.SparesWorlds, Worlds.EntersWorlds, Worlds.WorksInside, Worlds.WorldsStay}

-- A step that has authority and decides nothing changes no part but its core.
abbrev pub UndecidedChangeNothing : Type 0
UndecidedChangeNothing = (setup : Setting) (t : Trace) (e : Step) → HasAuthority setup t e → e.decides ≡ None
    → (x : Part) → x ≢ CoreIs e.core → SamePart (state_after setup t) (state_after setup (e ∷ t)) x

-- A step that spares worlds changes no place of a sealed world outside of which its core works.
abbrev pub SparedPlacesStay : Type 0
SparedPlacesStay = (setup : Setting) (t : Trace) (e : Step) → SparesWorlds setup t e
    → (w : ℕ → Bool) → IsSealed w gates (state_after setup t) → w (works_in (state_after setup t) e.core) ≡ false
    → (f i : ℕ) → w f ≡ true → (state_after setup (e ∷ t)).place f i ≡ (state_after setup t).place f i

-- A step that enters worlds as the law says, and decides nothing, brings its core into no set of frames.
abbrev pub UndecidedStayOut : Type 0
UndecidedStayOut = (setup : Setting) (t : Trace) (e : Step) → EntersWorlds setup t e → e.decides ≡ None
    → (w : ℕ → Bool) → w (works_in (state_after setup t) e.core) ≡ false → w (works_in (state_after setup (e ∷ t)) e.core) ≡ true → ⊥

-- Of none of the steps u, made after t, this is so: of the state in which the step decides, if it does, and of its core.
abbrev pub NoneOf : (State → ℕ → Type 0) → Setting → Trace → Trace → Type 0
NoneOf P setup [] t = Unit {0}
NoneOf P setup (e ∷ u) t = NoneOf P setup u t × (P (state_before setup (u ++ t) e) e.core → ⊥)

-- Where worlds stay, and no core that makes a step works inside one that is sealed, it stays sealed, and its components live. Where the
-- world and the rest are apart, and no core that makes a step runs across, each keeps its ticks.
pub record StayOf (setup : Setting) (w : ℕ → Bool) (crosses : Kind → Bool) (u t : Trace) : Type 0 where
  pub sealed : IsSealed w crosses (state_after setup t) → NoneOf (WorksInside w) setup u t → IsSealed w crosses (state_after setup (u ++ t))
  pub living : IsSealed w gates (state_after setup t) → NoneOf (WorksInside w) setup u t → (f : ℕ) → w f ≡ true
      → lives_at (state_after setup t) f ≡ true → lives_at (state_after setup (u ++ t)) f ≡ true
  pub apart : AreApart w crosses (state_after setup t) → AreApart w crosses (state_after setup (u ++ t))
  pub ticks : AreApart w crosses (state_after setup t) → NoneOf (RunsAcross w) setup u t
      → ticks_in w (state_after setup (u ++ t)) ≡ ticks_in w (state_after setup t)

abbrev pub WorldsStayAlone : Type 0
WorldsStayAlone = (setup : Setting) (u t : Trace) → WorldsStay setup u t → (w : ℕ → Bool) (crosses : Kind → Bool) → OnlyGates crosses
    → StayOf setup w crosses u t
