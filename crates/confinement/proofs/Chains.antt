-- Chains of links that are shared.
use Rattle.call_judge.specs.same_changes.specs.kernel_laws.proofs as low
use low.{◌≡◌, inl, inr, ℕ, zero, suc, ◌+◌, ◌<◌, ◌≤◌, refl, sym, ◌∙◌, ap, subst, arith, List, [], ◌∷◌, ◌++◌, length, slice_get, append_assoc}
use low.{Option, Some, None, some_inj}
use Rattle.confinement.specs.{declared.table.Kept.Kept, declared.table.Head.Head, Links.list_of, Links.GoOn, Links.origin_in}
use Rattle.{confinement.specs.chain_from, confinement.specs.IsBelow, confinement.specs.places_left, std.proofs.lemmas.Bool.cases_eq}
use Rattle.{std.proofs.lemmas.Option.slice_get_within, call_judge.specs.seq_state.proofs.Lists.push_here}
use Rattle.{call_judge.specs.seq_state.proofs.Lists.push_apart}
use Rattle.{call_judge.specs.seq_state.proofs.Lists.push_longer, origin_rules.specs.declared.chains.ChainLink.ChainLink}

-- Two lists are one that are made alike of what is there.
list_alike : (f g : Kept → List ChainLink) (o : Option Kept) → ((x : Kept) → o ≡ Some x → f x ≡ g x) → list_of f o ≡ list_of g o
list_alike f g None same = refl
list_alike f g (Some x) same = same x refl

pub below_then : (r : Option ℕ) (k n : ℕ) → IsBelow r k → k ≤ n → IsBelow r n
below_then None k n below most = tt
below_then (Some j) k n below most = omega (arith, below, most)

none_from : (kept : List Kept) (n : ℕ) → chain_from kept n None ≡ []
none_from kept zero = refl
none_from kept (suc n) = refl

-- Any bound past its first link is enough for a chain.
pub enough : (kept : List Kept) → GoOn kept → (a b : ℕ) (r : Option ℕ) → IsBelow r a → IsBelow r b
    → chain_from kept a r ≡ chain_from kept b r
enough kept on a b None p q = none_from kept a ∙ sym (none_from kept b)
enough kept on zero b (Some k) p q = absurd (omega (arith, p))
enough kept on (suc a) zero (Some k) p q = absurd (omega (arith, q))
enough kept on (suc a) (suc b) (Some k) p q =
    list_alike (λ x. x.link ∷ chain_from kept a x.rest) (λ x. x.link ∷ chain_from kept b x.rest) (slice_get kept k)
    (λ x is. ap (λ xs. x.link ∷ xs) (enough kept on a b x.rest (below_then x.rest k a (on k x is) (omega (arith, p)))
    (below_then x.rest k b (on k x is) (omega (arith, q)))))

-- A chain is its first link, and the chain at which that goes on.
pub chain_step : (kept : List Kept) → GoOn kept → (k : ℕ) (x : Kept) → slice_get kept k ≡ Some x
    → chain_from kept (length kept) (Some k) ≡ x.link ∷ chain_from kept (length kept) x.rest
chain_step kept on k x is = by_bound (length kept) (slice_get_within kept k x is)
  where
    by_bound : (n : ℕ) → k < n → chain_from kept n (Some k) ≡ x.link ∷ chain_from kept n x.rest
    by_bound zero below = absurd (omega (arith, below))
    by_bound (suc n) below = ap (list_of (λ y. y.link ∷ chain_from kept n y.rest)) is
        ∙ ap (λ xs. x.link ∷ xs) (enough kept on n (suc n) x.rest (below_then x.rest k n (on k x is) (omega (arith, below)))
        (below_then x.rest k (suc n) (on k x is) (omega (arith, below))))

-- One link more leaves all chains.
pushed_from : (kept : List Kept) (y : Kept) → GoOn kept → (n : ℕ) (r : Option ℕ) → IsBelow r (length kept)
    → chain_from (kept ++ y ∷ []) n r ≡ chain_from kept n r
pushed_from kept y on zero r below = refl
pushed_from kept y on (suc n) None below = refl
pushed_from kept y on (suc n) (Some k) below =
    ap (list_of (λ x. x.link ∷ chain_from (kept ++ y ∷ []) n x.rest))
    (push_apart kept y (length kept) k refl (λ e. omega (arith, below, e)))
    ∙ list_alike (λ x. x.link ∷ chain_from (kept ++ y ∷ []) n x.rest) (λ x. x.link ∷ chain_from kept n x.rest) (slice_get kept k)
    (λ x is. ap (λ xs. x.link ∷ xs)
    (pushed_from kept y on n x.rest (below_then x.rest k (length kept) (on k x is) (omega (arith, below)))))

pub pushed_on : (kept : List Kept) (y : Kept) → GoOn kept → IsBelow y.rest (length kept) → GoOn (kept ++ y ∷ [])
pushed_on kept y on below k x is = elim (cases_eq k (length kept)) [
  | inl e ↦
      let same : y ≡ x = some_inj y x (sym (push_here kept y k (sym e)) ∙ is) in
      subst (λ (z : Kept). IsBelow z.rest k) same (subst (λ n. IsBelow y.rest n) (sym e) below)
  | inr ne ↦ on k x (sym (push_apart kept y (length kept) k refl ne) ∙ is)
]

-- So it leaves all origins.
pub pushed_chain : (kept : List Kept) (y : Kept) → GoOn kept → (r : Option ℕ) → IsBelow r (length kept)
    → chain_from (kept ++ y ∷ []) (length (kept ++ y ∷ [])) r ≡ chain_from kept (length kept) r
pushed_chain kept y on r below =
    let longer : length (kept ++ y ∷ []) ≡ length kept + 1 = push_longer kept y (length kept) refl in
    pushed_from kept y on (length (kept ++ y ∷ [])) r below
    ∙ enough kept on (length (kept ++ y ∷ [])) (length kept) r
    (below_then r (length kept) (length (kept ++ y ∷ [])) below (omega (arith, longer))) below

pub pushed_origin : (kept : List Kept) (y : Kept) → GoOn kept → (h : Head) → IsBelow h.first (length kept)
    → origin_in (kept ++ y ∷ []) h ≡ origin_in kept h
pushed_origin kept y on h below = ap (λ xs. record { links = xs; start = h.start }) (pushed_chain kept y on h.first below)

-- The new link's chain is the link, and the chain at which it goes on.
pub new_chain : (kept : List Kept) (y : Kept) → GoOn kept → IsBelow y.rest (length kept)
    → chain_from (kept ++ y ∷ []) (length (kept ++ y ∷ [])) (Some (length kept)) ≡ y.link ∷ chain_from kept (length kept) y.rest
new_chain kept y on below =
    chain_step (kept ++ y ∷ []) (pushed_on kept y on below) (length kept) y (push_here kept y (length kept) refl)
    ∙ ap (λ xs. y.link ∷ xs) (pushed_chain kept y on y.rest below)

-- One link more of a chain is read.
pub walks_on : (kept : List Kept) → GoOn kept → (first : Option ℕ) (at : ℕ) (x : Kept) (old new : List ChainLink)
    → slice_get kept at ≡ Some x → new ≡ old ++ x.link ∷ []
    → old ++ chain_from kept (length kept) (Some at) ≡ chain_from kept (length kept) first
    → new ++ chain_from kept (length kept) x.rest ≡ chain_from kept (length kept) first
walks_on kept on first at x old new is more before =
    ap (λ xs. xs ++ chain_from kept (length kept) x.rest) more
    ∙ append_assoc old (x.link ∷ []) (chain_from kept (length kept) x.rest)
    ∙ ap (λ xs. old ++ xs) (sym (chain_step kept on at x is)) ∙ before

pub fewer_left : (r : Option ℕ) (k : ℕ) → IsBelow r k → places_left r < k + 1
fewer_left None k below = omega arith
fewer_left (Some j) k below = omega (arith, below)
