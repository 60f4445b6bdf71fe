-- The count and the component of a call that kills.
use Rattle.step_ways.proofs.{◌≡◌, refl, ℕ, true, false, sym, ◌∙◌, [], ◌∷◌, ◌++◌, ap, subst, IsTrue, ◌||◌, eq-eqb, Capability, Kind, Call}
use Rattle.step_ways.proofs.{named_by, State, counts_references, raises_clock, footprint_frames, is_one_of, First, at_place, plan_for}
use Rattle.step_ways.proofs.{Leads, LeadsIn, KillingAt, Due, untypes, List, negsuc, Close, Draw}
use Rattle.step_ways.specs.act_states.specs.{Kill, killing_dues}
use Rattle.{plan_ways.specs.kernel_history.specs.Discipline.changes_numbers, plan_ways.proofs.InFootprint.footprint_found}
use Rattle.{step_ways.specs.core_invariant.specs.Acting.KillsBy, count_invariant.proofs.MakingCounts.no_due}

-- The call that kills a component.
pub record IsKill (call : Call) (ks : List Capability) (f : ℕ) : Type 0 where
  pub name : ℕ
  pub comp : Capability
  pub call_is : call ≡ Kill name
  pub found_is : ks ≡ comp ∷ []
  pub kind : comp.kind ≡ Kind.Comp
  pub frame : f ≡ comp.frame

pub kill_of : (call : Call) (ks : List Capability) (f : ℕ) → KillsBy call ks f → IsKill call ks f
kill_of (Kill name) (comp ∷ []) f is =
    record { name = name; comp = comp; call_is = refl; found_is = refl; kind = is.kind; frame = is.frame }
kill_of (Kill name) [] f is = absurd is
kill_of (Kill name) (comp ∷ k ∷ ks) f is = absurd is
kill_of call ks f is = absurd is

-- It changes references and liveness numbers, and raises the clock.
pub kill_counts : (call : Call) (ks : List Capability) (f : ℕ) → KillsBy call ks f → IsTrue (counts_references call)
kill_counts call ks f is = subst (λ x. IsTrue (counts_references x)) (sym (kill_of call ks f is).call_is) refl

pub kill_numbers : (call : Call) (ks : List Capability) (f : ℕ) → KillsBy call ks f → changes_numbers call ≡ true
kill_numbers call ks f is = ap changes_numbers (kill_of call ks f is).call_is

pub kill_raises : (call : Call) (ks : List Capability) (f : ℕ) → KillsBy call ks f → IsTrue (raises_clock call)
kill_raises call ks f is = subst (λ x. IsTrue (raises_clock x)) (sym (kill_of call ks f is).call_is) refl

-- It makes no frame untyped.
pub kill_types : (call : Call) (ks : List Capability) (f : ℕ) → KillsBy call ks f → untypes call ≡ false
kill_types call ks f is = ap untypes (kill_of call ks f is).call_is

-- The component is in its footprint.
pub kill_footprint : (s : State) (c : ℕ) (call : Call) (ks : List Capability) (f : ℕ) → KillsBy call ks f
    → Leads (LeadsIn s c) (plan_for call).names [] ks → is_one_of f (footprint_frames s c call) ≡ true
kill_footprint s c call ks f kills leads =
    let is = kill_of call ks f kills in
    footprint_found s c call ks leads First is.comp (ap (λ xs. at_place xs First) is.found_is) f
    (ap (λ (k : Kind). is_one_of f (named_by k is.comp.frame)) is.kind ∙ ap (λ b. b || false)
    (eq-eqb is.comp.frame f (sym is.frame)))

only_due : (f : ℕ) (xs : List Due) (d : Due) (rest : List Due) → record { frame = f; change = negsuc 0 } ∷ [] ≡ xs ++ d ∷ rest → d.frame ≡ f
only_due f [] d rest is = sym (ap (λ (x : Due). x.frame) (head_same _ _ _ _ is))
  where
    head_same : (x y : Due) (xs ys : List Due) → x ∷ xs ≡ y ∷ ys → x ≡ y
    head_same x y xs ys h = cc
only_due f (x ∷ xs) d rest is = absurd (no_due xs d rest (tail_same _ _ _ _ is))
  where
    tail_same : (x y : Due) (xs ys : List Due) → x ∷ xs ≡ y ∷ ys → xs ≡ ys
    tail_same x y xs ys h = cc

-- The count that a killing changes is that of the component's frame.
pub killing_due : (f : ℕ) (at : KillingAt) (xs : List Due) (d : Due) (rest : List Due) → killing_dues f at ≡ xs ++ d ∷ rest → d.frame ≡ f
killing_due f (Close life word) xs d rest is = only_due f xs d rest is
killing_due f (Draw life word) xs d rest is = only_due f xs d rest is
killing_due f _ xs d rest is = absurd (no_due xs d rest is)
