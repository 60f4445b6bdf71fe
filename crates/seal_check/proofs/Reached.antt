-- In every state that a run reaches, what a core may use stands in a place of the machine, and what some core may use, one of the
-- machine's may.
use Rattle.world_laws.specs.kernel_laws.proofs.{◌≡◌, inl, inr, ℕ, ◌<◌, ◌≤◌, Bool, true, false, refl, sym, ◌∙◌, ap, subst, arith, List, []}
use Rattle.world_laws.specs.kernel_laws.proofs.{◌∷◌, Option, Some, None, IsTrue, ◌==◌, if◌then◌else◌, false≢true, Setting, IsSetting}
use Rattle.world_laws.specs.kernel_laws.proofs.{Capability, Place, Free, Holds, Quiescing, Untyped, PlaceOf, Limits, State, start}
use Rattle.world_laws.specs.kernel_laws.proofs.{start_cap, plain_cap, place_with, Slot, usable, usable_in, is_node, Event, Enters, Decides}
use Rattle.world_laws.specs.kernel_laws.proofs.{Returns, after, phase_of, is_in, is_open, IsRun, waits_inside, some_inj, none_some, IsSound}
use Rattle.world_laws.specs.kernel_laws.proofs.{opened, open_is, limits_stay, inside_is, runs_sound, phase_own, phase_other, Kind}
use Rattle.seq_lookups.specs.seq_state.specs.kernel_rules.specs.{start_place, phase_by, core_of, MayFollow}
use Rattle.seq_lookups.specs.seq_state.specs.kernel_invariant.proofs.{free_quiescing, holds_quiescing, choose}
use Rattle.{std.proofs.lemmas.Bool.cases_eq, std.proofs.lemmas.Bool.cases_lt, world_laws.specs.state_laws.proofs.Kept.decided_kept}

pub not_at_start : (setting : Setting) (f i : ℕ) (k : Capability) → start_place setting f i ≡ Quiescing k → ⊥
not_at_start setting f i k =
    choose (λ p. p ≡ Quiescing k → ⊥) (f == 0) _ _
    (λ e. choose (λ p. p ≡ Quiescing k → ⊥) (i == 0) _ _
    (λ q is. holds_quiescing (plain_cap Kind.Link 1) k is) (λ q is. free_quiescing k is))
    λ e. choose (λ p. p ≡ Quiescing k → ⊥) (f == 1) _ _
    (λ q. cap_not (start_cap setting i)) (λ q is. free_quiescing k is)
  where
    cap_not : (o : Option Capability) → place_with o ≡ Quiescing k → ⊥
    cap_not None is = free_quiescing k is
    cap_not (Some j) is = holds_quiescing j k is

-- What a place holds stands in the machine.
pub held_within : (setting : Setting) → IsSetting setting → (events : List Event) → IsRun setting events → (f i : ℕ) (k : Capability)
    → (after setting events).place f i ≡ Holds k → (f < setting.frames) × (i < 64)
held_within setting lim events run f i k is = elim (cases_lt f setting.frames) [
  | inl low ↦ (low, node.1)
  | inr past ↦ absurd (false≢true (ap is_node (sym (sound.beyond f
      (subst (λ (l : Limits). l.frames ≤ f) (sym (limits_stay setting events)) past))) ∙ node.0))
]
  where
    sound : IsSound (after setting events) (opened events)
    sound = runs_sound setting lim events run

    node : IsTrue (is_node ((after setting events).frame f)) × (i < 64)
    node = sound.bare f i k is

-- And so does what was removed.
removed_within : (setting : Setting) → IsSetting setting → (events : List Event) → IsRun setting events → (f i : ℕ) (k : Capability)
    → (after setting events).place f i ≡ Quiescing k → (f < setting.frames) × (i < 64)
removed_within setting lim [] run f i k is = absurd (not_at_start setting f i k is)
removed_within setting lim (Enters c call ∷ events) run f i k is = removed_within setting lim events run.0 f i k is
removed_within setting lim (Returns c ∷ events) run f i k is = removed_within setting lim events run.0 f i k is
removed_within setting lim (Decides c call r ∷ events) run f i k is =
    elim ((decided_kept (after setting events) (opened events) c call r
    (open_is setting lim events c run.0 (ap is_open run.1.is_open)) run.1.permitted).quiescing f i k is) [
      | inl was ↦ removed_within setting lim events run.0 f i k was
      | inr held ↦ held_within setting lim events run.0 f i k held
    ]

-- A core that is in a call is one of the machine's.
in_core : (setting : Setting) (events : List Event) → IsRun setting events → (d : ℕ) → is_in (phase_of events d) ≡ true → d < setting.cores
in_core setting [] run d e = absurd (false≢true e)
in_core setting (Enters c call ∷ events) run d e = elim (cases_eq d c) [
  | inl same ↦ subst (λ n. n < setting.cores) (sym same) run.1.is_core
  | inr other ↦ in_core setting events run.0 d (sym (ap is_in (phase_other (Enters c call) events d other)) ∙ e)
]
in_core setting (Returns c ∷ events) run d e = elim (cases_eq d c) [
  | inl same ↦ absurd (false≢true (sym (ap is_in (phase_own (Returns c) events d same)) ∙ e))
  | inr other ↦ in_core setting events run.0 d (sym (ap is_in (phase_other (Returns c) events d other)) ∙ e)
]
in_core setting (Decides c call r ∷ events) run d e = elim (cases_eq d c) [
  | inl same ↦ in_core setting events run.0 d (ap (λ n. is_in (phase_of events n)) same ∙ ap is_in run.1.is_open)
  | inr other ↦ in_core setting events run.0 d (sym (ap is_in (phase_other (Decides c call r) events d other)) ∙ e)
]

-- What core d may use at a place of the machine, one of the machine's cores may use.
pub record UsedWithin (setting : Setting) (s : State) (f i : ℕ) (k : Capability) : Type 0 where
  pub frame : f < setting.frames
  pub index : i < 64
  pub core : ℕ
  pub is_core : core < setting.cores
  pub used : usable s core (record { node = f; index = i }) ≡ Some k

module _ (setting : Setting) (lim : IsSetting setting) (events : List Event) (run : IsRun setting events) (f i d : ℕ) (k : Capability) where
  abbrev s : State
  s = after setting events

  by_wait : (j : Capability) (b : Bool) → (if b then Some j else None) ≡ Some k → (b ≡ true) × (j ≡ k)
  by_wait j true q = (refl, some_inj j k q)
  by_wait j false q = absurd (none_some k q)

  by_place : (p : Place) → s.place f i ≡ p → usable_in p ((s.grace (PlaceOf f i)).waits d) ≡ Some k → UsedWithin setting s f i k
  by_place Free is e = absurd (none_some k e)
  by_place (Holds j) is e =
      let at : (f < setting.frames) × (i < 64) = held_within setting lim events run f i j is in
      let some = lim.some_core in
      record {
        frame = at.0;
        index = at.1;
        core = 0;
        is_core = omega (arith, some);
        used = ap (λ p. usable_in p ((s.grace (PlaceOf f i)).waits 0)) is ∙ e;
      }
  by_place (Quiescing j) is e =
      let at : (f < setting.frames) × (i < 64) = removed_within setting lim events run f i j is in
      let w : ((s.grace (PlaceOf f i)).waits d ≡ true) × (j ≡ k) = by_wait j ((s.grace (PlaceOf f i)).waits d) e in
      record {
        frame = at.0;
        index = at.1;
        core = d;
        is_core = in_core setting events run d (sym (inside_is setting events run d) ∙ waits_inside setting events (PlaceOf f i) d w.0);
        used = ap (λ p. usable_in p ((s.grace (PlaceOf f i)).waits d)) is ∙ e;
      }

  pub used_within : usable s d (record { node = f; index = i }) ≡ Some k → UsedWithin setting s f i k
  used_within e = by_place (s.place f i) refl e
