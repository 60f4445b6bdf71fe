-- A node whose places are free one after the other.
use Rattle.seq_lookups.specs.seq_state.specs.kernel_rules.proofs.{◌≡◌, inl, inr, ℕ, ◌+◌, ◌&&◌, ◌==◌, ltb as nat_lt, if◌then◌else◌, Bool}
use Rattle.seq_lookups.specs.seq_state.specs.kernel_rules.proofs.{true, false, refl}
use Rattle.seq_lookups.specs.seq_state.specs.kernel_rules.proofs.{sym, ◌∙◌, ap, subst, arith, lt-ltb, le-ltb, eq-eqb, ne_eqb, true≢false}
use Rattle.seq_lookups.specs.seq_state.specs.kernel_rules.proofs.{false≢true, put}
use Rattle.seq_lookups.specs.seq_state.specs.kernel_rules.proofs.{Place, Free, Grace, Thing, PlaceOf, FrameOf, NumberOf, with_place}
use Rattle.seq_lookups.specs.seq_state.specs.kernel_rules.proofs.{no_grace, same_thing}
use Rattle.seq_lookups.specs.seq_state.specs.kernel_rules.proofs.{cleared, put_same, put_other}
use Rattle.seq_lookups.specs.seq_state.specs.{State, IsThing, SameState, with_grace_of}
use Rattle.{std.proofs.lemmas.Bool.cases_eq, std.proofs.lemmas.Bool.cases_lt, seq_lookups.specs.seq_state.proofs.same_grace_by}
use Rattle.{seq_lookups.specs.seq_state.proofs.same_then}
use Rattle.{seq_lookups.specs.seq_state.proofs.Same.same_place, seq_lookups.specs.seq_state.proofs.Same.same_grace_of}

-- Whether a thing is one of the first n places of a node.
abbrev pub is_place_below : ℕ → ℕ → Thing → Bool
is_place_below f n (PlaceOf g i) = g == f && nat_lt i n
is_place_below f n (FrameOf g) = false
is_place_below f n (NumberOf l) = false

-- The state in which the first n places of a node are free, without a grace period.
abbrev pub cleared_to : State → ℕ → ℕ → State
cleared_to s f n = record s {
  place = put s.place f (λ i. if nat_lt i n then Free else s.place f i);
  grace = λ x. if is_place_below f n x then no_grace else s.grace x;
}

-- The row of a node, at another of its places and elsewhere.
in_node : (s : State) (f : ℕ) (row : ℕ → Place) (g i : ℕ) → g ≡ f → put s.place f row g i ≡ row i
in_node s f row g i e = ap (λ (r : ℕ → Place). r i) (put_same s.place f row g e)

pub begins : (s : State) (f : ℕ) → SameState s (cleared_to s f 0)
begins s f = record {
  limits = refl;
  place = λ g i _ _. elim (cases_eq g f) [
    | inl e ↦ ap (λ h. s.place h i) e ∙ sym (ap (λ b. if b then Free else s.place f i) (le-ltb i 0 (omega arith)))
        ∙ sym (in_node s f _ g i e)
    | inr ne ↦ sym (ap (λ (r : ℕ → Place). r i) (put_other s.place f _ g ne))
  ];
  frame = λ g _. refl;
  number = λ l _. refl;
  core = λ c _. refl;
  grace = λ x _. same_grace_by s.limits.cores (s.grace x) _ (graces x);
}
  where
    graces : (x : Thing) → s.grace x ≡ (if is_place_below f 0 x then no_grace else s.grace x)
    graces (PlaceOf g i) = elim (cases_eq g f) [
      | inl e ↦ sym (ap (λ b. if b && nat_lt i 0 then no_grace else s.grace (PlaceOf g i)) (eq-eqb g f e)
          ∙ ap (λ b. if b then no_grace else s.grace (PlaceOf g i)) (le-ltb i 0 (omega arith)))
      | inr ne ↦ sym (ap (λ b. if b && nat_lt i 0 then no_grace else s.grace (PlaceOf g i)) (ne_eqb g f ne))
    ]
    graces (FrameOf g) = refl
    graces (NumberOf l) = refl

-- One place more.
one_more : (s : State) (f n : ℕ)
    → SameState (with_grace_of (with_place (cleared_to s f n) f n Free) (PlaceOf f n) no_grace) (cleared_to s f (n + 1))
one_more s f n = record {
  limits = refl;
  place = λ g i _ _. places g i;
  frame = λ g _. refl;
  number = λ l _. refl;
  core = λ c _. refl;
  grace = λ x _. same_grace_by s.limits.cores _ _ (graces x);
}
  where
    old : ℕ → Place
    old = λ i. if nat_lt i n then Free else s.place f i

    row : (i : ℕ) → put ((cleared_to s f n).place f) n Free i ≡ (if nat_lt i (n + 1) then Free else s.place f i)
    row i = elim (cases_eq i n) [
      | inl e ↦ put_same ((cleared_to s f n).place f) n Free i e
          ∙ sym (ap (λ b. if b then Free else s.place f i) (lt-ltb i (n + 1) (omega arith)))
      | inr ne ↦ put_other ((cleared_to s f n).place f) n Free i ne ∙ in_node s f old f i refl ∙ (elim (cases_lt i n) [
        | inl lt ↦ ap (λ b. if b then Free else s.place f i) (lt-ltb i n lt ∙ sym (lt-ltb i (n + 1) (omega arith)))
        | inr ge ↦ ap (λ b. if b then Free else s.place f i) (le-ltb i n ge ∙ sym (le-ltb i (n + 1) (omega arith)))
      ])
    ]

    places : (g i : ℕ) → put (cleared_to s f n).place f (put ((cleared_to s f n).place f) n Free) g i ≡ (cleared_to s f (n + 1)).place g i
    places g i = elim (cases_eq g f) [
      | inl e ↦ ap (λ (r : ℕ → Place). r i) (put_same (cleared_to s f n).place f _ g e) ∙ row i ∙ sym (in_node s f _ g i e)
      | inr ne ↦ ap (λ (r : ℕ → Place). r i)
          (put_other (cleared_to s f n).place f _ g ne ∙ put_other s.place f _ g ne ∙ sym (put_other s.place f _ g ne))
    ]

    chosen : (a b d : Bool) (g : Grace) → (b ≡ true → d ≡ true) → (b ≡ false → d ≡ a)
        → (if b then no_grace else (if a then no_grace else g)) ≡ (if d then no_grace else g)
    chosen a true d g at_n apart = sym (ap (λ x. if x then no_grace else g) (at_n refl))
    chosen a false d g at_n apart = sym (ap (λ x. if x then no_grace else g) (apart refl))

    both : (i : ℕ) → (b : Bool) → (i == n) ≡ b → (b ≡ true → nat_lt i (n + 1) ≡ true) × (b ≡ false → nat_lt i (n + 1) ≡ nat_lt i n)
    both i b is = elim (cases_eq i n) [
      | inl e ↦ (λ _. lt-ltb i (n + 1) (omega arith), λ apart. absurd (true≢false (sym (eq-eqb i n e) ∙ is ∙ apart)))
      | inr ne ↦ (
        λ at_n. absurd (false≢true (sym (ne_eqb i n ne) ∙ is ∙ at_n)),
        λ _. elim (cases_lt i n) [
          | inl lt ↦ lt-ltb i (n + 1) (omega arith) ∙ sym (lt-ltb i n lt)
          | inr ge ↦ le-ltb i (n + 1) (omega arith) ∙ sym (le-ltb i n ge)
        ],
      )
    ]

    graces : (x : Thing) → (if same_thing x (PlaceOf f n) then no_grace else (cleared_to s f n).grace x) ≡ (cleared_to s f (n + 1)).grace x
    graces (PlaceOf g i) = here (g == f)
      where
        here : (t : Bool) → (if t && i == n then no_grace else (if t && nat_lt i n then no_grace else s.grace (PlaceOf g i)))
            ≡ (if t && nat_lt i (n + 1) then no_grace else s.grace (PlaceOf g i))
        here true = let b = both i (i == n) refl in chosen (nat_lt i n) (i == n) (nat_lt i (n + 1)) (s.grace (PlaceOf g i)) b.0 b.1
        here false = refl
    graces (FrameOf g) = refl
    graces (NumberOf l) = refl

freed_more : (s t u v : State) (f n : ℕ) → SameState t (cleared_to s f n) → SameState u (with_place t f n Free)
    → SameState v (with_grace_of u (PlaceOf f n) no_grace) → SameState v (cleared_to s f (n + 1))
freed_more s t u v f n here placed graced =
    let moved = same_then u (with_place t f n Free) (with_place (cleared_to s f n) f n Free)
    placed (same_place t (cleared_to s f n) f n Free here) in
    let freed = same_grace_of u (with_place (cleared_to s f n) f n Free) (PlaceOf f n)
    no_grace no_grace (same_grace_by s.limits.cores no_grace no_grace refl) moved in
    same_then v (with_grace_of u (PlaceOf f n) no_grace) (cleared_to s f (n + 1)) graced
    (same_then (with_grace_of u (PlaceOf f n) no_grace)
    (with_grace_of (with_place (cleared_to s f n) f n Free) (PlaceOf f n) no_grace) (cleared_to s f (n + 1))
    freed (one_more s f n))

pub goes_on : (s t u v : State) (f n i : ℕ) (g : Grace) → i ≡ n → g ≡ no_grace
    → SameState t (cleared_to s f n) → SameState u (with_place t f i Free)
    → SameState v (with_grace_of u (PlaceOf f i) g) → SameState v (cleared_to s f (n + 1))
goes_on s t u v f n i g is none here placed graced =
    freed_more s t u v f n here (subst (λ m. SameState u (with_place t f m Free)) is placed)
    (subst (λ m. SameState v (with_grace_of u (PlaceOf f m) no_grace)) is
    (subst (λ h. SameState v (with_grace_of u (PlaceOf f i) h)) none graced))

pub ends : (s t : State) (f : ℕ) → SameState t (cleared_to s f 64) → SameState t (cleared s f)
ends s t f same = same_then t (cleared_to s f 64) (cleared s f) same record {
  limits = refl;
  place = λ g i _ small. elim (cases_eq g f) [
    | inl e ↦ in_node s f _ g i e ∙ ap (λ b. if b then Free else s.place f i) (lt-ltb i 64 small) ∙ sym (in_node s f (λ i. Free) g i e)
    | inr ne ↦ ap (λ (r : ℕ → Place). r i) (put_other s.place f _ g ne ∙ sym (put_other s.place f (λ i. Free) g ne))
  ];
  frame = λ g _. refl;
  number = λ l _. refl;
  core = λ c _. refl;
  grace = λ x is. same_grace_by s.limits.cores _ _ (graces x is);
}
  where
    graces : (x : Thing) → IsThing s.limits x → (cleared_to s f 64).grace x ≡ (cleared s f).grace x
    graces (PlaceOf g i) is = here (g == f)
      where
        here : (t : Bool) → (if t && nat_lt i 64 then no_grace else s.grace (PlaceOf g i)) ≡ (if t then no_grace else s.grace (PlaceOf g i))
        here true = ap (λ b. if b then no_grace else s.grace (PlaceOf g i)) (lt-ltb i 64 is.1)
        here false = refl
    graces (FrameOf g) is = refl
    graces (NumberOf l) is = refl
