-- The origins of places, after one is set.
use Rattle.call_judge.specs.same_changes.specs.kernel_laws.proofs as low
use low.{◌≡◌, ◌≢◌, inl, inr, ℕ, zero, suc, ◌+◌, ◌*◌, ◌%◌, ◌<◌, ◌≤◌, ◌==◌, ◌&&◌, Bool, true, false, ltb as nat_lt, if◌then◌else◌, refl, sym}
use low.{◌∙◌, ap, subst, arith, List, [], ◌∷◌, ◌++◌, length, set, slice_get, Option, Some, None, IsSome, is_some, option_map, eq-eqb}
use low.{ne_eqb, eqb-true, ltb-true, false≢true, Slot, some_inj, none_some}
use Rattle.call_judge.specs.seq_state.proofs.{Lists.set_here, Lists.set_apart, Lists.push_here, Lists.push_apart, Lists.push_longer}
use Rattle.call_judge.specs.seq_state.proofs.{MapLemmas.at_place_is}
use Rattle.confinement.specs.{declared.table.Kept.Kept, declared.table.Head.Head, Links.origin_in, Links.origin_at, Links.GoOn, Links.Begin}
use Rattle.confinement.specs.{Links.IsTable, Links.StartsAll, Links.IsHeadSet, Links.origin_at_start, Links.put_origin, Links.PutsIn}
use Rattle.confinement.proofs.Chains.{below_then, pushed_on, pushed_origin, new_chain}
use Rattle.{confinement.specs.Table, confinement.specs.chain_from, confinement.specs.IsBelow, std.proofs.lemmas.Bool.cases_eq}
use Rattle.{std.proofs.lemmas.Bool.and_parts, origin_rules.specs.Origin, origin_rules.specs.Put, std.proofs.lemmas.Option.slice_get_past}
use Rattle.{std.proofs.lemmas.Option.slice_get_within, std.proofs.Math.Nat.mul-add-mod_self_left}
use Rattle.{call_judge.specs.seq_state.specs.Maps.at_place}

-- ---- heads

some_here : {X : Type 0} (o : Option X) → IsSome o → (h : X) → option_map (λ x. h) o ≡ Some h
some_here None has h = absurd (false≢true has)
some_here (Some x) has h = refl

-- An item that is written.
pub written : (xs : List Head) (key : ℕ) (h : Head) → key < length xs → IsHeadSet xs key h (set xs key h)
written xs key h below k = elim (cases_eq k key) [
  | inl e ↦
      ap (slice_get (set xs key h)) e ∙ set_here xs key h below ∙ sym (some_at xs key below)
      ∙ ap (λ n. option_map (λ x. h) (slice_get xs n)) (sym e)
      ∙ ap (λ b. if b then option_map (λ x. h) (slice_get xs k) else slice_get xs k) (sym (eq-eqb k key e))
  | inr ne ↦
      set_apart xs key k h ne ∙ ap (λ b. if b then option_map (λ x. h) (slice_get xs k) else slice_get xs k) (sym (ne_eqb k key ne))
]
  where
    some_at : (xs : List Head) (n : ℕ) → n < length xs → option_map (λ x. h) (slice_get xs n) ≡ Some h
    some_at [] n below = absurd (omega (arith, below))
    some_at (x ∷ xs) zero below = refl
    some_at (x ∷ xs) (suc n) below = some_at xs n (omega (arith, below))

-- Past the end nothing is.
pub unwritten : (xs : List Head) (key : ℕ) (h : Head) → length xs ≤ key → IsHeadSet xs key h xs
unwritten xs key h past k = elim (cases_eq k key) [
  | inl e ↦
      let none : slice_get xs k ≡ None = ap (slice_get xs) e ∙ slice_get_past xs key past in
      none ∙ ap (option_map (λ x. h)) (sym none)
      ∙ ap (λ b. if b then option_map (λ x. h) (slice_get xs k) else slice_get xs k) (sym (eq-eqb k key e))
  | inr ne ↦ ap (λ b. if b then option_map (λ x. h) (slice_get xs k) else slice_get xs k) (sym (ne_eqb k key ne))
]

-- ---- the heads of the start

pub first_more : (xs : List Head) (n : ℕ) (h : Head) → length xs ≡ n → h ≡ record { first = None; start = n % 64 } → StartsAll n xs
    → StartsAll (n + 1) (xs ++ h ∷ [])
first_more xs n h long is all k below = elim (cases_eq k n) [
  | inl e ↦
      ap (slice_get (xs ++ h ∷ [])) e ∙ push_here xs h n long ∙ ap Some is
      ∙ ap (λ m. Some (record { first = None; start = m % 64 })) (sym e)
  | inr ne ↦ push_apart xs h n k long ne ∙ all k (omega (arith, below, ne))
]

pub first_begin : (n : ℕ) (xs : List Head) → length xs ≡ n → StartsAll n xs → Begin 0 xs
first_begin n xs long all k h is =
    let below : k < length xs = slice_get_within xs k h is in
    let same : record { first = None; start = k % 64 } ≡ h = some_inj _ h (sym (all k (omega (arith, below, long))) ∙ is) in
    subst (λ (x : Head). IsBelow x.first 0) same tt

pub first_origin : (frames : ℕ) (xs : List Head) → StartsAll (64 * frames) xs → (f i : ℕ) → f < frames → i < 64
    → option_map (origin_in []) (at_place xs f i) ≡ Some (origin_at_start i)
first_origin frames xs all f i f_below i_below =
    ap (option_map (origin_in [])) (at_place_is xs f i (64 * f + i) i_below refl ∙ all (64 * f + i) (omega (arith, f_below, i_below)))
    ∙ ap (λ m. Some (record { links = []; start = m })) (mul-add-mod_self_left 64 f i ∙ small)
  where
    small : i % 64 ≡ i
    small = omega (arith, i_below)

-- ---- a put

-- A table whose links have one more, and one of whose heads begins there.
pub record IsPut (t : Table) (y : Kept) (at : Slot) (h : Head) (t' : Table) : Type 0 where
  pub kept : t'.kept ≡ t.kept ++ y ∷ []
  pub heads : IsHeadSet t.heads (64 * at.node + at.index) h t'.heads
  pub first : h.first ≡ Some (length t.kept)
  pub rest : IsBelow y.rest (length t.kept)

reads : (t t' : Table) (y : Kept) (at : Slot) (h : Head) → IsPut t y at h t' → at.index < 64 → (f i : ℕ) → i < 64
    → at_place t'.heads f i
    ≡ (if f == at.node && i == at.index then option_map (λ x. h) (at_place t.heads f i) else at_place t.heads f i)
reads t t' y at h put small f i below = elim (cases_eq f at.node) [
  | inl e ↦ elim (cases_eq i at.index) [
    | inl d ↦
        let k : 64 * f + i ≡ 64 * at.node + at.index = λ j. 64 * e j + d j in
        at_place_is t'.heads f i (64 * f + i) below refl ∙ put.heads (64 * f + i)
        ∙ ap (λ b. if b then option_map (λ x. h) (slice_get t.heads (64 * f + i)) else slice_get t.heads (64 * f + i))
        (eq-eqb (64 * f + i) (64 * at.node + at.index) k)
        ∙ ap (option_map (λ x. h)) (sym (at_place_is t.heads f i (64 * f + i) below refl))
        ∙ ap (λ b. if b then option_map (λ x. h) (at_place t.heads f i) else at_place t.heads f i)
        (sym (ap (λ b. b && i == at.index) (eq-eqb f at.node e) ∙ eq-eqb i at.index d))
    | inr ne ↦ apart (λ e d. ne d)
  ]
  | inr ne ↦ apart (λ e d. ne e)
]
  where
    not_both : (f ≡ at.node → i ≡ at.index → ⊥) → (f == at.node && i == at.index) ≡ false
    not_both off = elim (cases_eq f at.node) [
      | inl e ↦ ap (λ b. b && i == at.index) (eq-eqb f at.node e) ∙ ne_eqb i at.index (λ d. off e d)
      | inr ne ↦ ap (λ b. b && i == at.index) (ne_eqb f at.node ne)
    ]

    apart : (f ≡ at.node → i ≡ at.index → ⊥) → at_place t'.heads f i
        ≡ (if f == at.node && i == at.index then option_map (λ x. h) (at_place t.heads f i) else at_place t.heads f i)
    apart off =
        let ne : 64 * f + i ≢ 64 * at.node + at.index = λ e. off (omega (arith, e, below, small)) (omega (arith, e, below, small)) in
        at_place_is t'.heads f i (64 * f + i) below refl ∙ put.heads (64 * f + i)
        ∙ ap (λ b. if b then option_map (λ x. h) (slice_get t.heads (64 * f + i)) else slice_get t.heads (64 * f + i))
        (ne_eqb (64 * f + i) (64 * at.node + at.index) ne)
        ∙ sym (at_place_is t.heads f i (64 * f + i) below refl)
        ∙ ap (λ b. if b then option_map (λ x. h) (at_place t.heads f i) else at_place t.heads f i) (sym (not_both off))

-- It is a table again.
pub put_table : (t t' : Table) (y : Kept) (at : Slot) (h : Head) → IsTable t → IsPut t y at h t' → IsTable t'
put_table t t' y at h is put = record {
  goes_on = subst GoOn (sym put.kept) (pushed_on t.kept y is.goes_on put.rest);
  begins = λ k x has. subst (λ (xs : List Kept). IsBelow x.first (length xs)) (sym put.kept)
      (subst (λ n. IsBelow x.first n) (sym longer) (by_place k x (k == 64 * at.node + at.index) (sym (put.heads k) ∙ has)));
}
  where
    longer : length (t.kept ++ y ∷ []) ≡ length t.kept + 1
    longer = push_longer t.kept y (length t.kept) refl

    begins_here : IsBelow h.first (length t.kept + 1)
    begins_here = subst (λ r. IsBelow r (length t.kept + 1)) (sym put.first) (omega arith)

    by_old : (x : Head) (o : Option Head) → option_map (λ z. h) o ≡ Some x → IsBelow x.first (length t.kept + 1)
    by_old x None e = absurd (none_some x e)
    by_old x (Some z) e = subst (λ (q : Head). IsBelow q.first (length t.kept + 1)) (some_inj h x e) begins_here

    by_place : (k : ℕ) (x : Head) (b : Bool)
        → (if b then option_map (λ z. h) (slice_get t.heads k) else slice_get t.heads k) ≡ Some x
        → IsBelow x.first (length t.kept + 1)
    by_place k x true e = by_old x (slice_get t.heads k) e
    by_place k x false e = below_then x.first (length t.kept) (length t.kept + 1) (is.begins k x e) (omega arith)

module _ (t : Table) (y : Kept) (is : IsTable t) where
  -- The origins of places that have not changed.
  same_origin : (o : Option Head) → ((h : Head) → o ≡ Some h → IsBelow h.first (length t.kept))
      → option_map (origin_in (t.kept ++ y ∷ [])) o ≡ option_map (origin_in t.kept) o
  same_origin None begins = refl
  same_origin (Some h) begins = ap Some (pushed_origin t.kept y is.goes_on h (begins h refl))

  placed : (f i : ℕ) → i < 64 → (h : Head) → at_place t.heads f i ≡ Some h → IsBelow h.first (length t.kept)
  placed f i below h has = is.begins (64 * f + i) h (sym (at_place_is t.heads f i (64 * f + i) below refl) ∙ has)

  -- The origin of what is put.
  new_origin : (h parent : Head) (d : ℕ) (p : Put) → h.first ≡ Some (length t.kept) → h.start ≡ parent.start
      → IsBelow y.rest (length t.kept) → y.rest ≡ parent.first → y.link ≡ record { decision = d; what = p.what }
      → origin_in (t.kept ++ y ∷ []) h ≡ put_origin d p.what (origin_in t.kept parent)
  new_origin h parent d p first start below rest link =
      let begun : chain_from (t.kept ++ y ∷ []) (length (t.kept ++ y ∷ [])) h.first
      ≡ y.link ∷ chain_from t.kept (length t.kept) y.rest =
      ap (chain_from (t.kept ++ y ∷ []) (length (t.kept ++ y ∷ []))) first ∙ new_chain t.kept y is.goes_on below in
      let chain : chain_from (t.kept ++ y ∷ []) (length (t.kept ++ y ∷ [])) h.first
      ≡ record { decision = d; what = p.what } ∷ chain_from t.kept (length t.kept) parent.first =
      begun ∙ (λ j. link j ∷ chain_from t.kept (length t.kept) (rest j)) in
      λ j. record { links = chain j; start = start j }

map_some : (f : Head → Origin) (x : Option Head) (h : Head) (o : Origin) → option_map f x ≡ Some o → x ≡ Some h → f h ≡ o
map_some f x h o e is = some_inj (f h) o (ap (option_map f) (sym is) ∙ e)

has_head : (f : Head → Origin) (o : Option Head) → IsSome (option_map f o) → IsSome o
has_head f None has = has
has_head f (Some h) has = refl

at_small : (xs : List Head) (f i : ℕ) → IsSome (at_place xs f i) → i < 64
at_small xs f i has = by_test (nat_lt i 64) refl has
  where
    by_test : (b : Bool) → nat_lt i 64 ≡ b → IsSome (if b then slice_get xs (64 * f + i) else None) → i < 64
    by_test true is has = ltb-true i 64 is
    by_test false is has = absurd (false≢true has)

-- The chain of a place begins at a link that there is.
pub begins_below : (t : Table) → IsTable t → (f i : ℕ) (h : Head) → Some h ≡ at_place t.heads f i → IsBelow h.first (length t.kept)
begins_below t is f i h has =
    let small : i < 64 = at_small t.heads f i (ap is_some (sym has)) in
    is.begins (64 * f + i) h (sym (at_place_is t.heads f i (64 * f + i) small refl) ∙ sym has)

-- And the decision's place has it before the origin of its parent, as that was.
pub put_exact : (t t' : Table) (y : Kept) (h parent : Head) (d : ℕ) (p : Put) → IsTable t → IsPut t y p.at h t'
    → Some parent ≡ at_place t.heads p.parent.node p.parent.index
    → y.rest ≡ parent.first → y.link ≡ record { decision = d; what = p.what } → h.start ≡ parent.start
    → PutsIn t d p t'
put_exact t t' y h parent d p is put from rest link start o was has f i below =
    (λ j. option_map (origin_in (put.kept j)) (reads t t' y p.at h put small f i below j))
    ∙ by_test (f == p.at.node && i == p.at.index) refl
  where
    small : p.at.index < 64
    small = at_small t.heads p.at.node p.at.index (has_head (origin_in t.kept) (at_place t.heads p.at.node p.at.index) has)

    origin : origin_in (t.kept ++ y ∷ []) h ≡ put_origin d p.what o
    origin = new_origin t y is h parent d p put.first start put.rest rest link
        ∙ ap (put_origin d p.what)
        (map_some (origin_in t.kept) (at_place t.heads p.parent.node p.parent.index) parent o was (sym from))

    here : (f == p.at.node && i == p.at.index) ≡ true → IsSome (at_place t.heads f i)
    here e =
        let both = and_parts (f == p.at.node) (i == p.at.index) e in
        let g : f ≡ p.at.node = eqb-true f p.at.node both.0 in
        let j : i ≡ p.at.index = eqb-true i p.at.index both.1 in
        subst (λ n. IsSome (at_place t.heads n i)) (sym g)
        (subst (λ n. IsSome (at_place t.heads p.at.node n)) (sym j) (has_head (origin_in t.kept) _ has))

    by_test : (b : Bool) → (f == p.at.node && i == p.at.index) ≡ b
        → option_map (origin_in (t.kept ++ y ∷ []))
        (if b then option_map (λ x. h) (at_place t.heads f i) else at_place t.heads f i)
        ≡ (if b then Some (put_origin d p.what o) else option_map (origin_in t.kept) (at_place t.heads f i))
    by_test true e =
        ap (option_map (origin_in (t.kept ++ y ∷ []))) (some_here (at_place t.heads f i) (here e) h) ∙ ap Some origin
    by_test false e = same_origin t y is (at_place t.heads f i) (placed t y is f i below)

-- ---- the start

pub start_table : (kept : List Kept) (heads : List Head) (n : ℕ) → kept ≡ [] → length heads ≡ n → StartsAll n heads
    → IsTable (record { kept = kept; heads = heads })
start_table kept heads n none long all =
    subst (λ (xs : List Kept). IsTable (record { kept = xs; heads = heads })) (sym none)
    (record { goes_on = λ k x is. absurd (none_some x is); begins = first_begin n heads long all })

pub start_origins : (kept : List Kept) (heads : List Head) (frames : ℕ) → kept ≡ [] → StartsAll (64 * frames) heads
    → (f i : ℕ) → f < frames → i < 64 → origin_at (record { kept = kept; heads = heads }) f i ≡ Some (origin_at_start i)
start_origins kept heads frames none all f i f_below i_below =
    ap (λ (xs : List Kept). option_map (origin_in xs) (at_place heads f i)) none ∙ first_origin frames heads all f i f_below i_below
