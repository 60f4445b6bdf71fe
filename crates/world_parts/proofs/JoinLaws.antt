-- How partitions are joined.
use Rattle.std.proofs.Common.{◌≡◌, ◌≢◌, ◌⊎◌, inl, inr, ℕ, ◌<◌, ◌≤◌, Bool, refl, sym, ◌∙◌, ap, subst, arith}
use Rattle.std.proofs.Common.{if◌then◌else◌, List, length, Some, None, slice_get, get_or, option_map, eq-eqb, ne_eqb}
use Rattle.world_parts.specs.Partitions.{or_own, moved, IsPartition, Respects}
use Rattle.{world_parts.specs.world_in, world_parts.specs.IsParts, world_parts.specs.Joins, std.proofs.lemmas.Bool.cases_eq}
use Rattle.{std.proofs.lemmas.Bool.cases_lt, std.proofs.lemmas.Option.slice_get-get_or, std.proofs.lemmas.Option.slice_get_past}

moved_here : (from to r : ℕ) → r ≡ from → moved from to r ≡ to
moved_here from to r is = ap (λ b. if b then to else r) (eq-eqb r from is)

moved_other : (from to r : ℕ) → r ≢ from → moved from to r ≡ r
moved_other from to r other = ap (λ b. if b then to else r) (ne_eqb r from other)

-- The world of b goes over to that of a, which begins earlier.
module _ (world : ℕ → ℕ) (is : IsPartition world) (a b : ℕ) (less : world a < world b) where
  abbrev new : ℕ → ℕ
  new f = moved (world b) (world a) (world f)

  new_a : (f : ℕ) → world f ≡ world a → new f ≡ world a
  new_a f e = moved_other (world b) (world a) (world f) (λ q. let same : world a ≡ world b = sym e ∙ q in omega (arith, same, less)) ∙ e

  new_b : (f : ℕ) → world f ≡ world b → new f ≡ world a
  new_b f e = moved_here (world b) (world a) (world f) e

  pub moved_partition : IsPartition new
  moved_partition = record {
    least = λ f. elim (cases_eq (world f) (world b)) [
      | inl same ↦ let l = is.least f in let n = new_b f same in omega (arith, l, n, same, less)
      | inr other ↦ let l = is.least f in let n = moved_other (world b) (world a) (world f) other in omega (arith, l, n)
    ];
    of_least = λ f. elim (cases_eq (world f) (world b)) [
      | inl same ↦ ap new (new_b f same) ∙ new_a (world a) (is.of_least a) ∙ sym (new_b f same)
      | inr other ↦ ap new (moved_other (world b) (world a) (world f) other) ∙ ap (moved (world b) (world a)) (is.of_least f)
    ];
  }

  side : (w : ℕ → Bool) → w a ≡ w b → Respects world w → (f : ℕ) → w f ≡ w (new f)
  side w same respects f = elim (cases_eq (world f) (world b)) [
    | inl e ↦ respects f b e ∙ sym same ∙ respects a (world a) (sym (is.of_least a)) ∙ ap w (sym (new_b f e))
    | inr other ↦ respects f (world f) (sym (is.of_least f)) ∙ ap w (sym (moved_other (world b) (world a) (world f) other))
  ]

  pub moved_joins : (Held : ℕ → ℕ → Type 0) → ((f g : ℕ) → Held f g → ((f ≡ a) × (g ≡ b)) ⊎ ((f ≡ b) × (g ≡ a)))
      → (Held a b ⊎ Held b a) → Joins Held world new
  moved_joins Held are has = record {
    keeps = λ f g e. ap (moved (world b) (world a)) e;
    joins = λ f g h _ _. elim (are f g h) [
      | inl e ↦ ap new e.0 ∙ new_a a refl ∙ sym (new_b b refl) ∙ ap new (sym e.1)
      | inr e ↦ ap new e.0 ∙ new_b b refl ∙ sym (new_a a refl) ∙ ap new (sym e.1)
    ];
    only = λ w sides respects f g e.
        let same : w a ≡ w b = elim has [
          | inl h ↦ sides a b h
          | inr h ↦ sym (sides b a h)
        ] in
        side w same respects f ∙ ap w e ∙ sym (side w same respects g);
  }

-- Nothing is joined.
pub joins_none : (Held : ℕ → ℕ → Type 0) (world : ℕ → ℕ) → ((f g : ℕ) → Held f g → f < 512 → g < 512 → world f ≡ world g)
    → Joins Held world world
joins_none Held world are = record { keeps = λ f g e. e; joins = are; only = λ w sides respects. respects }

-- What a list says after one number came in place of another.
world_moved : (xs ys : List ℕ) (from to : ℕ) → length xs ≡ 512 → from < 512
    → ((f : ℕ) → slice_get ys f ≡ option_map (moved from to) (slice_get xs f)) → (f : ℕ) → moved from to (world_in xs f) ≡ world_in ys f
world_moved xs ys from to size low moves f = elim (cases_lt f 512) [
  | inl below ↦
      let is : slice_get xs f ≡ Some (get_or xs f f) = slice_get-get_or xs f f (omega (arith, size, below)) in
      ap (moved from to) (ap (or_own f) is) ∙ sym (ap (or_own f) (moves f ∙ ap (option_map (moved from to)) is))
  | inr past ↦
      let none : slice_get xs f ≡ None = slice_get_past xs f (omega (arith, size, past)) in
      ap (moved from to) (ap (or_own f) none) ∙ moved_other from to f (λ e. omega (arith, e, low, past))
      ∙ sym (ap (or_own f) (moves f ∙ ap (option_map (moved from to)) none))
]

-- The list after the world of b went over to that of a.
module _ (xs ys : List ℕ) (parts : IsParts xs) (a b p q : ℕ) (in_b : b < 512) (is_p : p ≡ world_in xs a) (is_q : q ≡ world_in xs b)
    (less : p < q) (size : length ys ≡ 512) (moves : (f : ℕ) → slice_get ys f ≡ option_map (moved q p) (slice_get xs f)) where
  later : world_in xs a < world_in xs b
  later = omega (arith, less, is_p, is_q)

  low : q < 512
  low = let l = parts.partition.least b in omega (arith, l, is_q, in_b)

  same : (f : ℕ) → moved (world_in xs b) (world_in xs a) (world_in xs f) ≡ world_in ys f
  same f = ap (λ n. moved n (world_in xs a) (world_in xs f)) (sym is_q) ∙ ap (λ n. moved q n (world_in xs f)) (sym is_p)
      ∙ world_moved xs ys q p parts.size low moves f

  pub parts_after : IsParts ys
  parts_after = record {
    size = size;
    partition = subst IsPartition (λ i f. same f i) (moved_partition (world_in xs) parts.partition a b later);
  }

  pub joined_after : (Held : ℕ → ℕ → Type 0) → ((f g : ℕ) → Held f g → ((f ≡ a) × (g ≡ b)) ⊎ ((f ≡ b) × (g ≡ a)))
      → (Held a b ⊎ Held b a) → Joins Held (world_in xs) (world_in ys)
  joined_after Held are has = subst (Joins Held (world_in xs)) (λ i f. same f i)
      (moved_joins (world_in xs) parts.partition a b later Held are has)

-- Two frames of one world are joined, and so are two of which one is past 511.
pub joined_before : (world : ℕ → ℕ) (a b : ℕ) → world a ≡ world b → Joins (λ f g. (f ≡ a) × (g ≡ b)) world world
joined_before world a b same = joins_none (λ f g. (f ≡ a) × (g ≡ b)) world (λ f g h _ _. ap world h.0 ∙ same ∙ ap world (sym h.1))

pub joined_past : (world : ℕ → ℕ) (a b : ℕ) → (512 ≤ a) ⊎ (512 ≤ b) → Joins (λ f g. (f ≡ a) × (g ≡ b)) world world
joined_past world a b past = joins_none (λ f g. (f ≡ a) × (g ≡ b)) world (λ f g h low high.
    let one : f ≡ a = h.0 in
    let other : g ≡ b = h.1 in
    absurd (elim past [
      | inl x ↦ omega (arith, one, x, low)
      | inr x ↦ omega (arith, other, x, high)
    ]))

-- One joining after another.
pub joins_then : (H K : ℕ → ℕ → Type 0) (old mid new : ℕ → ℕ) → Joins H old mid → Joins K mid new
    → Joins (λ f g. H f g ⊎ K f g) old new
joins_then H K old mid new a b = record {
  keeps = λ f g e. b.keeps f g (a.keeps f g e);
  joins = λ f g h low high. elim h [
    | inl x ↦ b.keeps f g (a.joins f g x low high)
    | inr x ↦ b.joins f g x low high
  ];
  only = λ w sides respects. b.only w (λ f g h. sides f g (inr h)) (a.only w (λ f g h. sides f g (inl h)) respects);
}

-- The same said otherwise.
pub joins_as : (H K : ℕ → ℕ → Type 0) (old new : ℕ → ℕ) → ((f g : ℕ) → H f g → K f g)
    → ((f g : ℕ) → K f g → f < 512 → g < 512 → H f g) → Joins H old new → Joins K old new
joins_as H K old new there back a = record {
  keeps = a.keeps;
  joins = λ f g h low high. a.joins f g (back f g h low high) low high;
  only = λ w sides respects. a.only w (λ f g h. sides f g (there f g h)) respects;
}
