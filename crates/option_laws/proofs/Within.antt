-- What a run's states name is of the machine: cores that are in a call, and frames with references.
use Rattle.reply_ranges.specs.kernel_laws.proofs.{◌≡◌, ◌≢◌, ◌<◌, ◌≤◌, ◌==◌, ℕ, Bool, false, IsTrue, List, [], ◌∷◌, refl, sym, ◌∙◌, ap}
use Rattle.reply_ranges.specs.kernel_laws.proofs.{subst, arith, inl, inr, cond, suc, zero, false≢true, ne_eqb, Setting, Kind, Place, Free}
use Rattle.reply_ranges.specs.kernel_laws.proofs.{Holds, Quiescing, Frame, Untyped, Kernel, Comp, Thread, State, Liveness, Unused, Live}
use Rattle.reply_ranges.specs.kernel_laws.proofs.{Dead, named_by, place_names, frame_names, number_names, core_names, sum_below, times}
use Rattle.reply_ranges.specs.kernel_laws.proofs.{node_refs, refs, fits, Event, Enters, Decides, Returns, is_in, phase_of, IsRun}
use Rattle.reply_ranges.specs.kernel_laws.proofs.{times_cons, IsStack, IsSound, IsObjectGood, phase_own, phase_other}
use Rattle.{std.proofs.lemmas.Bool.cases_eq, reply_ranges.specs.kernel_invariant.proofs.Sound.AreComps}

-- ---- cores

pub core_within : (setting : Setting) (events : List Event) → IsRun setting events → (d : ℕ) → IsTrue (is_in (phase_of events d))
    → d < setting.cores
core_within setting [] run d inside = absurd (false≢true inside)
core_within setting (Enters c call ∷ events) run d inside = elim (cases_eq d c) [
  | inl same ↦ subst (λ (x : ℕ). x < setting.cores) (sym same) run.1.is_core
  | inr other ↦ core_within setting events run.0 d (sym (ap is_in (phase_other (Enters c call) events d other)) ∙ inside)
]
core_within setting (Returns c ∷ events) run d inside = elim (cases_eq d c) [
  | inl same ↦ absurd (false≢true (sym (ap is_in (phase_own (Returns c) events d same)) ∙ inside))
  | inr other ↦ core_within setting events run.0 d (sym (ap is_in (phase_other (Returns c) events d other)) ∙ inside)
]
core_within setting (Decides c call r ∷ events) run d inside = elim (cases_eq d c) [
  | inl same ↦ core_within setting events run.0 d (ap (λ (n : ℕ). is_in (phase_of events n)) same ∙ ap is_in run.1.is_open)
  | inr other ↦ core_within setting events run.0 d (sym (ap is_in (phase_other (Decides c call r) events d other)) ∙ inside)
]

-- ---- frames

sum_none : (f : ℕ → ℕ) (n : ℕ) → ((i : ℕ) → i < n → f i ≡ 0) → sum_below f n ≡ 0
unfolding sum_below
sum_none f zero none = refl
sum_none f (suc n) none = let p = sum_none f n (λ i h. none i (omega arith)) in let q = none n (omega arith) in omega (arith, p, q)

module _ (s : State) (o : ℕ → Bool) (sound : IsSound s o) (f : ℕ) (past : s.limits.frames ≤ f) where
  -- What is named as no untyped frame is not f.
  other : (k : Kind) (g : ℕ) → fits k Untyped ≡ false → IsTrue (fits k (s.frame g)) → g ≢ f
  other k g none fit same =
      false≢true (sym none ∙ sym (ap (fits k) (sound.beyond f past)) ∙ sym (ap (λ (h : ℕ). fits k (s.frame h)) same) ∙ fit)

  more : (g : ℕ) (fs : List ℕ) → g ≢ f → times f fs ≡ 0 → times f (g ∷ fs) ≡ 0
  more g fs apart none =
      let first = times_cons f g fs in
      let nothing : cond {A = ℕ} (g == f) 1 0 ≡ 0 = ap (λ (b : Bool). cond {A = ℕ} b 1 0) (ne_eqb g f apart) in
      omega (arith, first, nothing, none)

  by_kind : (k : Kind) (g : ℕ) → IsTrue (fits k (s.frame g)) → times f (named_by k g) ≡ 0
  by_kind Kind.Range g fit = refl
  by_kind Kind.Table g fit = more g [] (other Kind.Table g refl fit) refl
  by_kind Kind.Leaf g fit = more g [] (other Kind.Leaf g refl fit) refl
  by_kind Kind.Pages g fit = more g [] (other Kind.Pages g refl fit) refl
  by_kind Kind.Pleaf g fit = more g [] (other Kind.Pleaf g refl fit) refl
  by_kind Kind.Comp g fit = more g [] (other Kind.Comp g refl fit) refl
  by_kind Kind.Gate g fit = more g [] (other Kind.Gate g refl fit) refl
  by_kind Kind.Thread g fit = more g [] (other Kind.Thread g refl fit) refl
  by_kind Kind.Tcap g fit = more g [] (other Kind.Tcap g refl fit) refl
  by_kind Kind.Link g fit = more g [] (other Kind.Link g refl fit) refl
  by_kind Kind.Page g fit = more g [] (other Kind.Page g refl fit) refl

  by_place : (p : Place) (g i : ℕ) → s.place g i ≡ p → times f (place_names p) ≡ 0
  by_place Free g i is = refl
  by_place (Holds k) g i is = by_kind k.kind k.frame (sound.held g i k is).fit
  by_place (Quiescing k) g i is = refl

  by_comps : (fs : List ℕ) → AreComps s fs → times f fs ≡ 0
  by_comps [] are = refl
  by_comps (g ∷ fs) are = more g fs (other Kind.Comp g refl are.0) (by_comps fs are.1)

  by_stack : (fs : List ℕ) → IsStack s fs → times f fs ≡ 0
  by_stack [] is = absurd is
  by_stack (g ∷ fs) is = more g fs (other Kind.Comp g refl is.0) (by_comps fs is.1)

  by_object : (x : Frame) → IsObjectGood s x → times f (frame_names x) ≡ 0
  by_object (Kernel (Comp k)) good =
      more k.table (k.pages ∷ []) (other Kind.Table k.table refl good.0) (more k.pages [] (other Kind.Pages k.pages refl good.1) refl)
  by_object (Kernel (Thread t)) good = by_stack t.stack good
  by_object _ good = refl

  by_number : (x : Liveness) (l : ℕ) → s.number l ≡ x → times f (number_names x) ≡ 0
  by_number Unused l is = refl
  by_number (Live e g) l is = more g [] (other Kind.Comp g refl (sound.numbers l e g is).0) refl
  by_number (Dead e) l is = refl

  by_core : (c : ℕ) → c < s.limits.cores → times f (core_names (s.core c)) ≡ 0
  by_core c low =
      let fit = sound.cores c low in
      more (s.core c).thread ((s.core c).tcap ∷ []) (other Kind.Thread (s.core c).thread refl fit.0)
      (more (s.core c).tcap [] (other Kind.Tcap (s.core c).tcap refl fit.1) refl)

  by_node : (g : ℕ) → node_refs s f g ≡ 0
  unfolding node_refs
  by_node g = sum_none (λ i. times f (place_names (s.place g i))) 64 (λ i low. by_place (s.place g i) g i refl)

  pub unnamed_past : refs s f ≡ 0
  unfolding refs
  unnamed_past =
      let places = sum_none (node_refs s f) s.limits.frames (λ g low. by_node g) in
      let objects = sum_none (λ g. times f (frame_names (s.frame g))) s.limits.frames (λ g low. by_object (s.frame g) (sound.objects g)) in
      let cores = sum_none (λ c. times f (core_names (s.core c))) s.limits.cores by_core in
      let numbers = sum_none (λ l. times f (number_names (s.number l))) 64 (λ l low. by_number (s.number l) l refl) in
      omega (arith, places, objects, cores, numbers)
