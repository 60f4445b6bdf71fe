-- A delegation writes the temporal capability that it gives to at once, with its new budget and its new list.
use Rattle.seq_lookups.specs.seq_state.specs.kernel_rules.proofs.{arith, ◌≡◌, ◌≢◌, ℕ, ◌+◌, ◌-◌, ◌==◌, Bool, true, false, if◌then◌else◌}
use Rattle.seq_lookups.specs.seq_state.specs.kernel_rules.proofs.{refl, sym, ap, ◌∙◌}
use Rattle.seq_lookups.specs.seq_state.specs.kernel_rules.proofs.{List, Option, Some, None, unwrap_or, ne_eqb, eq-eqb, put, Object, Blank}
use Rattle.seq_lookups.specs.seq_state.specs.kernel_rules.proofs.{Frame, Untyped}
use Rattle.seq_lookups.specs.seq_state.specs.kernel_rules.proofs.{User, Kernel, with_frame, tcap_in, with_tcap, tcap_at, moved}
use Rattle.seq_lookups.specs.seq_state.specs.kernel_rules.proofs.{with_qualities}
use Rattle.seq_lookups.specs.seq_state.proofs.{State, SameState, same_grace_by, same_then, same_frame}
use Rattle.std.specs.Prelude.{SomeIff}

-- A budget and then a list, in an object.
again_in : (x : Object) (n : ℕ) (l : List (ℕ × ℕ))
    → with_tcap (with_tcap (Kernel x) (record (tcap_in (Kernel x)) { budget = n }))
    (record (tcap_in (with_tcap (Kernel x) (record (tcap_in (Kernel x)) { budget = n }))) { qualities = l })
    ≡ with_tcap (Kernel x) (record { budget = n; qualities = l })
again_in Blank n l = refl
again_in _ n l = refl

-- A budget and then a list, in a frame.
again : (x : Frame) (n : ℕ) (l : List (ℕ × ℕ))
    → with_tcap (with_tcap x (record (tcap_in x) { budget = n }))
    (record (tcap_in (with_tcap x (record (tcap_in x) { budget = n }))) { qualities = l })
    ≡ with_tcap x (record { budget = n; qualities = l })
again Untyped n l = refl
again User n l = refl
again (Kernel x) n l = again_in x n l

-- Two writes of one frame are the second.
twice : (f : ℕ → Frame) (b g : ℕ) (x y : Frame) → put (put f b x) b y g ≡ put f b y g
twice f b g x y = by_test (g == b)
  where
    by_test : (t : Bool) → (if t then y else if t then x else f g) ≡ (if t then y else f g)
    by_test true = refl
    by_test false = refl

pub delegated : (s t1 t2 : State) (a b m : ℕ) (l : List (ℕ × ℕ)) (A B : Frame) → a ≢ b
    → A ≡ with_tcap (s.frame a) (record (tcap_at s a) { budget = (tcap_at s a).budget - m })
    → B ≡ with_tcap (s.frame b) (record { budget = (tcap_at s b).budget + m; qualities = l })
    → SameState t1 (with_frame s a A) → SameState t2 (with_frame t1 b B) → SameState t2 (with_qualities (moved s a b m) b l)
delegated s t1 t2 a b m l A B apart first second one two =
    let n = (tcap_at s b).budget + m in
    let A' = with_tcap (s.frame a) (record (tcap_at s a) { budget = (tcap_at s a).budget - m }) in
    let other : b ≢ a = λ e. apart (sym e) in
    let kept : put s.frame a A' b ≡ s.frame b = ap (λ t. if t then A' else s.frame b) (ne_eqb b a other) in
    let budget : Frame → Frame = λ x. with_tcap x (record (tcap_in x) { budget = n }) in
    let list : Frame → Frame = λ x. with_tcap x (record (tcap_in x) { qualities = l }) in
    let here : (moved s a b m).frame b ≡ budget (s.frame b) = ap (λ t. if t then budget (put s.frame a A' b) else put s.frame a A' b)
    (eq-eqb b b refl) ∙ ap budget kept in
    let last : list ((moved s a b m).frame b) ≡ B = ap list here ∙ again (s.frame b) n l ∙ sym second in
    same_then t2 (with_frame (with_frame s a A) b B) (with_qualities (moved s a b m) b l)
    (same_then t2 (with_frame t1 b B) (with_frame (with_frame s a A) b B) two (same_frame t1 (with_frame s a A) b B one))
    (record {
      limits = refl;
      place = λ f i _ _. refl;
      frame = λ g _. ap (λ x. put (put s.frame a x) b B g) first ∙ sym (twice (put s.frame a A') b g (budget (put s.frame a A' b)) B)
          ∙ ap (λ x. put (moved s a b m).frame b x g) (sym last);
      number = λ i _. refl;
      core = λ c _. refl;
      grace = λ x _. same_grace_by s.limits.cores (s.grace x) (s.grace x) refl;
    })

-- A list that is there exactly where a fact holds, where it holds.
pub there : {A P : Type 0} (o : Option A) (other x : A) → SomeIff o P x → P → unwrap_or o other ≡ x
there (Some y) other x h holds = grind (arith, h, holds)
there None other x h holds = grind (arith, h, holds)
