-- What follows from the laws of steps and of stretches by their words alone.
use Rattle.kernel_history.proofs.{◌≡◌, inl, inr, ℕ, sym, ◌∙◌, subst, [], ◌∷◌, ◌++◌, Some, None, Setting, Reply, State, Step, state_before}
use Rattle.isolation_laws.specs.{CarriedOutBy, WorksInside}
use Rattle.isolation_laws.specs.Uses.{UndecidedChangeNothing, SparedPlacesStay, UndecidedStayOut, NoneOf, WorldsStayAlone}
use Rattle.{kernel_history.specs.Trace.Trace, world_laws.specs.Time.RunsAcross, isolation_laws.specs.Worlds.ComesIn}

none_some : (r : Reply) → None ≡ Some r → ⊥
none_some r q = cc

pub undecided_change_nothing : UndecidedChangeNothing
undecided_change_nothing setup t e law none x other = elim (law x) [
  | inl same ↦ same
  | inr (inl core) ↦ absurd (other core)
  | inr (inr change) ↦ absurd (none_some (Reply.Ok change.done.value) (sym none ∙ change.done.decides))
]

pub spared_places_stay : SparedPlacesStay
spared_places_stay setup t e law w sealed out f i of = (law w sealed out).alone.place f i of

pub undecided_stay_out : UndecidedStayOut
undecided_stay_out setup t e law none w out inside =
    let comes : ComesIn setup w t e = law w out inside in
    none_some (Reply.Ok comes.done.value) (sym none ∙ comes.done.decides)

-- None of the steps is one that is of such a core.
none_at : (P : State → ℕ → Type 0) (setup : Setting) (more since t : Trace) (e : Step) → NoneOf P setup (more ++ (e ∷ since)) t
    → P (state_before setup (since ++ t) e) e.core → ⊥
none_at P setup [] since t e none = none.1
none_at P setup (x ∷ more) since t e none = none_at P setup more since t e none.0

none_carried : (P : State → ℕ → Type 0) (setup : Setting) (u t : Trace) → NoneOf P setup u t → CarriedOutBy P setup u t → ⊥
none_carried P setup u t none by =
    none_at P setup by.more by.since t by.step (subst (λ v. NoneOf P setup v t) by.is_part none) by.holds

pub worlds_stay_alone : WorldsStayAlone
worlds_stay_alone setup u t law w crosses only = record {
  sealed = λ sealed none. elim (law.sealed w crosses only sealed) [
    | inl stays ↦ stays
    | inr by ↦ absurd (none_carried (WorksInside w) setup u t none by)
  ];
  living = λ sealed none f of lives. elim (law.living w sealed f of lives) [
    | inl stays ↦ stays
    | inr by ↦ absurd (none_carried (WorksInside w) setup u t none by)
  ];
  apart = λ apart. law.apart w crosses only apart;
  ticks = λ apart none. elim (law.ticks w crosses only apart) [
    | inl same ↦ same
    | inr by ↦ absurd (none_carried (RunsAcross w) setup u t none by)
  ];
}
