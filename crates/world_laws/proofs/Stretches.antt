-- Sealed worlds over parts of runs.
use Rattle.authority_laws.specs.kernel_laws.proofs.{◌≡◌, ◌⊎◌, inl, inr, ℕ, Bool, true, false, not, refl, ◌∙◌, ap, List, [], ◌∷◌, ◌++◌}
use Rattle.authority_laws.specs.kernel_laws.proofs.{true≢false, Setting, IsSetting, Kind, Call, Tick, Reply, State, owed_by, state_by}
use Rattle.authority_laws.specs.kernel_laws.proofs.{Event, Enters, Decides, Returns, after, IsRun, opened}
use Rattle.world_laws.specs.{works_in, lives_at, gates, OnlyGates, IsSealed, AreApart}
use Rattle.world_laws.specs.Laws.{ActsInside, OpenedFromInside, ApartForGood, DiesByItsOwn}
use Rattle.world_laws.proofs.{Outside.sealed_for_gates, Leaving.opened_call, Leaving.outside, Leaving.outside_leaves}
use Rattle.world_laws.proofs.{Sealing.sealed_entered, Sealing.sealed_returned, Sealing.sealed_counted, Sealing.sealed_owed}
use Rattle.world_laws.proofs.{Sealing.sealed_outside, Sealing.sealed_inside, Sealing.seals_stay}
use Rattle.authority_laws.specs.spk_nums.specs.declared.replies.Reply.TheVariants as reply

-- From s to t a world stays sealed, and none of its components dies.
record Lasts (w : ℕ → Bool) (crosses : Kind → Bool) (s t : State) : Type 0 where
  sealed : IsSealed w crosses t
  life : (f : ℕ) → w f ≡ true → lives_at s f ≡ true → lives_at t f ≡ true

-- An event more after the part.
more_acts : (setting : Setting) (w : ℕ → Bool) (before later : List Event) (e : Event) → ActsInside setting w before later
    → ActsInside setting w before (e ∷ later)
more_acts setting w before later e h = record {
  since = h.since;
  more = e ∷ h.more;
  core = h.core;
  call = h.call;
  value = h.value;
  is_part = ap (λ es. e ∷ es) h.is_part;
  inside = h.inside;
}

-- A refusal leaves a world as it was.
owed_lives : (s : State) (c : ℕ) (call : Call) (f : ℕ) → lives_at (owed_by s c call) f ≡ lives_at s f
owed_lives s c (Tick n) f = refl
owed_lives s c _ f = refl

module _ (setting : Setting) (lim : IsSetting setting) (w : ℕ → Bool) (crosses : Kind → Bool)
    (only : OnlyGates crosses) (before : List Event) (start : IsSealed w crosses (after setting before)) where
  module _ (c : ℕ) (call : Call) (later : List Event) (h : Lasts w crosses (after setting before) (after setting (later ++ before))) where
    abbrev s : State
    s = after setting (later ++ before)

    by_outside : (r : Reply) → IsRun setting (Decides c call r ∷ (later ++ before)) → w (works_in s c) ≡ false
        → Lasts w crosses (after setting before) (state_by s c call r)
    by_outside r run out = record {
      sealed = seals_stay setting lim (later ++ before) c call r run w crosses only h.sealed out;
      life = λ f of lives. (outside_leaves setting lim (later ++ before) c call r run w (sealed_for_gates w crosses s only h.sealed) out).life f of ∙ h.life f of lives;
    }

    by_inside : (r : Reply) → w (works_in s c) ≡ true
        → Lasts w crosses (after setting before) (state_by s c call r) ⊎ ActsInside setting w before (Decides c call r ∷ later)
    by_inside (reply.Ok v) inside =
        inr (record { since = later; more = []; core = c; call = call; value = v; is_part = refl; inside = inside })
    by_inside reply.CallsSpent inside = inl h
    by_inside reply.Raced inside = inl (record {
      sealed = sealed_counted w crosses (owed_by s c call) c (sealed_owed w crosses s c call h.sealed);
      life = λ f of lives. owed_lives s c call f ∙ h.life f of lives;
    })
    by_inside (reply.Busy d) inside = inl (record {
      sealed = sealed_counted w crosses (owed_by s c call) c (sealed_owed w crosses s c call h.sealed);
      life = λ f of lives. owed_lives s c call f ∙ h.life f of lives;
    })
    by_inside _ inside = inl (record { sealed = sealed_counted w crosses s c h.sealed; life = h.life })

    by_side : (r : Reply) → IsRun setting (Decides c call r ∷ (later ++ before)) → (b : Bool) → w (works_in s c) ≡ b
        → Lasts w crosses (after setting before) (state_by s c call r) ⊎ ActsInside setting w before (Decides c call r ∷ later)
    by_side r run true is = by_inside r is
    by_side r run false is = inl (by_outside r run is)

  part_of : (later : List Event) → IsRun setting (later ++ before)
      → Lasts w crosses (after setting before) (after setting (later ++ before)) ⊎ ActsInside setting w before later
  part_of [] run = inl (record { sealed = start; life = λ f of lives. lives })
  part_of (Enters c call ∷ later) run = elim (part_of later run.0) [
    | inl h ↦ inl (record { sealed = sealed_entered w crosses (after setting (later ++ before)) c h.sealed; life = h.life })
    | inr acts ↦ inr (more_acts setting w before later (Enters c call) acts)
  ]
  part_of (Returns c ∷ later) run = elim (part_of later run.0) [
    | inl h ↦ inl (record { sealed = sealed_returned w crosses (after setting (later ++ before)) c h.sealed; life = h.life })
    | inr acts ↦ inr (more_acts setting w before later (Returns c) acts)
  ]
  part_of (Decides c call r ∷ later) run = elim (part_of later run.0) [
    | inl h ↦ by_side c call later h r run (w (works_in (after setting (later ++ before)) c)) refl
    | inr acts ↦ inr (more_acts setting w before later (Decides c call r) acts)
  ]

pub opened_from_inside : OpenedFromInside
opened_from_inside setting lim before later run w crosses only sealed =
    elim (part_of setting lim w crosses only before sealed later run) [
      | inl h ↦ inl h.sealed
      | inr acts ↦ inr acts
    ]

pub dies_by_its_own : DiesByItsOwn
dies_by_its_own setting lim before later run w sealed f of lives = elim (part_of setting lim w gates (λ k e. e) before sealed later run) [
  | inl h ↦ inl (h.life f of lives)
  | inr acts ↦ inr acts
]

-- ---- two worlds

not_false : (b : Bool) → not b ≡ false → b ≡ true
not_false true e = refl
not_false false e = absurd (true≢false e)

module _ (setting : Setting) (lim : IsSetting setting) (events : List Event) (c : ℕ) (call : Call) (r : Reply)
    (run : IsRun setting (Decides c call r ∷ events)) where
  abbrev now : State
  now = after setting events

  -- a core works outside u, of which v has the rest
  by_rest : (u v : ℕ → Bool) (crosses : Kind → Bool) → OnlyGates crosses → ((f : ℕ) → v f ≡ false → u f ≡ true)
      → u (works_in now c) ≡ false → IsSealed u crosses now → IsSealed v crosses now
      → IsSealed u crosses (after setting (Decides c call r ∷ events)) × IsSealed v crosses (after setting (Decides c call r ∷ events))
  by_rest u v crosses only rest out inner outer =
      let narrow = sealed_for_gates u crosses now only inner in
      let open_call = opened_call setting lim events c call r run u narrow out in
      let works = outside setting lim events c call r run u narrow out in (
        sealed_outside u now c (opened events) open_call works call r run.1.permitted crosses inner,
        sealed_inside u now c (opened events) open_call works call r run.1.permitted v crosses rest outer,
      )

  decided_apart : (w : ℕ → Bool) (crosses : Kind → Bool) → OnlyGates crosses → AreApart w crosses now → (b : Bool)
      → w (works_in now c) ≡ b → AreApart w crosses (after setting (Decides c call r ∷ events))
  decided_apart w crosses only h false is =
      let p = by_rest w (λ f. not (w f)) crosses only (λ f e. not_false (w f) e) is h.inside h.outside in
      record { inside = p.0; outside = p.1 }
  decided_apart w crosses only h true is =
      let p = by_rest (λ f. not (w f)) w crosses only (λ f e. ap not e) (ap not is) h.outside h.inside in
      record { inside = p.1; outside = p.0 }

pub apart_for_good : ApartForGood
apart_for_good setting lim before [] run w crosses only h = h
apart_for_good setting lim before (Enters c call ∷ later) run w crosses only h =
    let a = apart_for_good setting lim before later run.0 w crosses only h in
    record {
      inside = sealed_entered w crosses (after setting (later ++ before)) c a.inside;
      outside = sealed_entered (λ f. not (w f)) crosses (after setting (later ++ before)) c a.outside;
    }
apart_for_good setting lim before (Returns c ∷ later) run w crosses only h =
    let a = apart_for_good setting lim before later run.0 w crosses only h in
    record {
      inside = sealed_returned w crosses (after setting (later ++ before)) c a.inside;
      outside = sealed_returned (λ f. not (w f)) crosses (after setting (later ++ before)) c a.outside;
    }
apart_for_good setting lim before (Decides c call r ∷ later) run w crosses only h =
    decided_apart setting lim (later ++ before) c call r run w crosses only
    (apart_for_good setting lim before later run.0 w crosses only h) (w (works_in (after setting (later ++ before)) c)) refl
