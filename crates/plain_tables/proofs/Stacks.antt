-- Lists read one item more at a time.
use Rattle.table_lines.specs.kernel_history.proofs.{◌≡◌, ℕ, ◌+◌, ◌≤◌, ◌<◌, ◌++◌, List, [], ◌∷◌, Some, refl, sym, ap, ◌∙◌, subst, arith}
use Rattle.table_lines.specs.kernel_history.proofs.{length, take, reverse, append-nil, get_or, slice_get, flat_map, take_more, take_all}
use Rattle.table_lines.specs.kernel_history.proofs.{times, times_append}
use Rattle.plain_tables.proofs.Common.{Adds, adds_piece}
use Rattle.std.proofs.{lemmas.List.length-reverse, lemmas.Grind.flat_map-append, lemmas.Option.slice_get_within}
use Rattle.{std.proofs.lemmas.Option.get_or_from_slice_get, seq_lookups.specs.seq_state.proofs.StackLemmas.times_reverse}

pub next_item : {A : Type 0} (xs : List A) (h : ℕ) (x : A) → slice_get xs h ≡ Some x → take (h + 1) xs ≡ take h xs ++ x ∷ []
next_item {A = A} xs h x is =
    let below : h < length xs = slice_get_within xs h x is in
    take_more xs h x below ∙ ap (λ y. take h xs ++ y ∷ []) (get_or_from_slice_get xs h x x is)

-- All items, where as many are read as there are.
all_items : {A : Type 0} (xs : List A) (h n : ℕ) → h ≡ n → n ≡ length xs → take h xs ≡ xs
all_items {A = A} xs h n all is = let few : length xs ≤ h = omega arith in take_all h xs few

-- ---- as names

pub adds_begin : (old xs : List ℕ) → Adds old old (λ f. times f (take 0 xs))
adds_begin old xs = record { counts = λ f. let none : times f (take 0 xs) ≡ 0 = refl in omega (arith, none) }

pub adds_next : (begun mid new xs : List ℕ) (h x : ℕ) → slice_get xs h ≡ Some x → Adds begun mid (λ f. times f (take h xs))
    → new ≡ mid ++ x ∷ []
    → Adds begun new (λ f. times f (take (h + 1) xs))
adds_next begun mid new xs h x read p is = record {
  counts = λ f.
      let a = p.counts f in
      let b = (adds_piece mid new (x ∷ []) is).counts f in
      let d : times f (take (h + 1) xs) ≡ times f (take h xs ++ x ∷ []) = ap (times f) (next_item xs h x read) in
      let e = times_append f (take h xs) (x ∷ []) in
      omega (arith, a, b, d, e);
}

pub adds_stack : (begun new s : List ℕ) (h n : ℕ) → h ≡ n → n ≡ length s → Adds begun new (λ f. times f (take h (reverse s)))
    → Adds begun new (λ f. times f s)
adds_stack begun new s h n all is p = record {
  counts = λ f.
      let a = p.counts f in
      let b : times f (take h (reverse s)) ≡ times f (reverse s) =
      ap (times f) (all_items (reverse s) h n all (is ∙ sym (length-reverse s))) in
      let d = times_reverse f s in
      omega (arith, a, b, d);
}

-- ---- as text

pub text_begin : {A : Type 0} (g : A → List ℕ) (xs : List A) → flat_map g (take 0 xs) ≡ []
text_begin g xs = refl

pub text_next : {A : Type 0} (g : A → List ℕ) (xs : List A) (h : ℕ) (x : A) → slice_get xs h ≡ Some x
    → flat_map g (take (h + 1) xs) ≡ flat_map g (take h xs) ++ g x
text_next {A = A} g xs h x read =
    ap (flat_map g) (next_item xs h x read) ∙ flat_map-append g (take h xs) (x ∷ [])
    ∙ ap (λ t. flat_map g (take h xs) ++ t) (append-nil (g x))

pub text_all : {A : Type 0} (g : A → List ℕ) (xs : List A) (h n : ℕ) (new begun : List ℕ) → h ≡ n → n ≡ length xs
    → new ≡ begun ++ flat_map g (take h xs) → new ≡ begun ++ flat_map g xs
text_all {A = A} g xs h n new begun all is p = p ∙ ap (λ ys. begun ++ flat_map g ys) (all_items xs h n all is)

pub stack_all : (g : ℕ → List ℕ) (s : List ℕ) (h n : ℕ) (new begun : List ℕ) → h ≡ n → n ≡ length s
    → new ≡ begun ++ flat_map g (take h (reverse s)) → new ≡ begun ++ flat_map g (reverse s)
stack_all g s h n new begun all is p = text_all g (reverse s) h n new begun all (is ∙ sym (length-reverse s)) p
