-- Joinings one after another, in the order of frames and places.
use Rattle.kernel_history.proofs.{◌≡◌, ◌⊎◌, inl, inr, ℕ, ◌+◌, ◌<◌, true, false, refl, sym, ◌∙◌, ap, subst, arith, List, Option}
use Rattle.kernel_history.proofs.{Some, None, false≢true, Capability, Kind, found, has_frame}
use Rattle.world_parts.specs.{HasField, Reaches, IsHeldBelow, AreWith, Joins, world_in}
use Rattle.world_parts.specs.{Sight.Sight, Led.HoldsBelow, Led.HoldsFrame, Led.InRange}
use Rattle.world_parts.proofs.JoinLaws.{joins_none, joins_then, joins_as}
use Rattle.{std.proofs.lemmas.Bool.cases_lt, seal_check.specs.world_laws.specs.Worlds.LeadsTo, seal_check.specs.Holding.holds}

-- ---- a range

abbrev pub RangeBelow : Capability → ℕ → ℕ → ℕ → ℕ → Type 0
RangeBelow k node n f g = (f ≡ node) × ((has_frame (found k) g ≡ true) × (g < n))

pub range_none : (k : Capability) (node : ℕ) (world : ℕ → ℕ) → Joins (RangeBelow k node 0) world world
range_none k node world = joins_none (RangeBelow k node 0) world (λ f g h _ _. let below : g < 0 = h.1.1 in absurd (omega (arith, below)))

-- Frame n of a range.
abbrev pub RangeAt : Capability → ℕ → ℕ → ℕ → ℕ → Type 0
RangeAt k node n f g = (f ≡ node) × ((has_frame (found k) g ≡ true) × (g ≡ n))

pub range_one : (k : Capability) (node n : ℕ) (old new : ℕ → ℕ) → Joins (λ f g. (f ≡ node) × (g ≡ n)) old new
    → has_frame (found k) n ≡ true → Joins (RangeAt k node n) old new
range_one k node n old new a has = joins_as (λ f g. (f ≡ node) × (g ≡ n)) (RangeAt k node n) old new
    (λ f g h. (h.0, (subst (λ x. has_frame (found k) x ≡ true) (sym h.1) has, h.1))) (λ f g h _ _. (h.0, h.1.1)) a

pub range_not : (k : Capability) (node n : ℕ) (world : ℕ → ℕ) → has_frame (found k) n ≡ false → Joins (RangeAt k node n) world world
range_not k node n world none = joins_none (RangeAt k node n) world
    (λ f g h _ _. absurd (false≢true (sym none ∙ ap (λ x. has_frame (found k) x) (sym h.1.1) ∙ h.1.0)))

pub range_more : (k : Capability) (node n : ℕ) (old mid new : ℕ → ℕ) → Joins (RangeBelow k node n) old mid
    → Joins (RangeAt k node n) mid new → Joins (RangeBelow k node (n + 1)) old new
range_more k node n old mid new a b =
    joins_as (λ f g. RangeBelow k node n f g ⊎ RangeAt k node n f g) (RangeBelow k node (n + 1)) old new there back
    (joins_then (RangeBelow k node n) (RangeAt k node n) old mid new a b)
  where
    there : (f g : ℕ) → RangeBelow k node n f g ⊎ RangeAt k node n f g → RangeBelow k node (n + 1) f g
    there f g (inl h) = let below : g < n = h.1.1 in (h.0, (h.1.0, omega (arith, below)))
    there f g (inr h) = let same : g ≡ n = h.1.1 in (h.0, (h.1.0, omega (arith, same)))

    back : (f g : ℕ) → RangeBelow k node (n + 1) f g → f < 512 → g < 512 → RangeBelow k node n f g ⊎ RangeAt k node n f g
    back f g h _ _ = elim (cases_lt g n) [
      | inl low ↦ inl (h.0, (h.1.0, low))
      | inr high ↦ let below : g < n + 1 = h.1.1 in inr (h.0, (h.1.0, omega (arith, below, high)))
    ]

pub range_all : (k : Capability) (node : ℕ) (old new : ℕ → ℕ) → Joins (RangeBelow k node 512) old new
    → Joins (λ f g. (f ≡ node) × (has_frame (found k) g ≡ true)) old new
range_all k node old new a = joins_as (RangeBelow k node 512) (λ f g. (f ≡ node) × (has_frame (found k) g ≡ true)) old new
    (λ f g h. (h.0, h.1.0)) (λ f g h _ low. (h.0, (h.1, low))) a

-- The same range again.
pub range_again : (k : Capability) (before : Option Capability) (node : ℕ) (least : List ℕ) → AreWith least node before
    → ((g : ℕ) → has_frame (found k) g ≡ true → InRange before g)
    → Joins (λ f g. (f ≡ node) × (has_frame (found k) g ≡ true)) (world_in least) (world_in least)
range_again k before node least are same = joins_none (λ f g. (f ≡ node) × (has_frame (found k) g ≡ true)) (world_in least)
    (λ f g h low high. ap (world_in least) h.0 ∙ are g (subst (λ n. n < 512) h.0 low) high (same g h.1))

-- ---- a place

-- A capability that is no range leads to its own frame.
pub led_other : (j : Kind) (k : Capability) (node : ℕ) (old new : ℕ → ℕ) → (j ≡ Kind.Range → ⊥)
    → Joins (λ f g. (f ≡ node) × (g ≡ k.frame)) old new → Joins (λ f g. (f ≡ node) × LeadsTo j k g) old new
led_other Kind.Range k node old new other a = absurd (other refl)
led_other _ k node old new other a = a

pub cap_free : (k : Capability) (node : ℕ) (world : ℕ → ℕ) → holds k ≡ false
    → Joins (λ f g. (f ≡ node) × ((holds k ≡ true) × LeadsTo k.kind k g)) world world
cap_free k node world free = joins_none (λ f g. (f ≡ node) × ((holds k ≡ true) × LeadsTo k.kind k g)) world
    (λ f g h _ _. absurd (false≢true (sym free ∙ h.1.0)))

pub cap_led : (k : Capability) (node : ℕ) (old new : ℕ → ℕ) → holds k ≡ true
    → Joins (λ f g. (f ≡ node) × LeadsTo k.kind k g) old new → Joins (λ f g. (f ≡ node) × ((holds k ≡ true) × LeadsTo k.kind k g)) old new
cap_led k node old new held a =
    joins_as (λ f g. (f ≡ node) × LeadsTo k.kind k g) (λ f g. (f ≡ node) × ((holds k ≡ true) × LeadsTo k.kind k g)) old new
    (λ f g h. (h.0, (held, h.1))) (λ f g h _ _. (h.0, h.1.1)) a

pub held_none : (node : ℕ) (world : ℕ → ℕ) → Joins (λ f g. (f ≡ node) × Reaches None g) world world
held_none node world = joins_none (λ f g. (f ≡ node) × Reaches None g) world (λ f g h _ _. absurd h.1)

-- ---- what was joined last

pub with_none : (least : List ℕ) (node : ℕ) → AreWith least node None
with_none least node g low high never = absurd never

pub with_next : (held before next : Option Capability) (node : ℕ) (old new : List ℕ) → AreWith old node before
    → Joins (λ f g. (f ≡ node) × Reaches held g) (world_in old) (world_in new)
    → ((g : ℕ) → InRange next g → Reaches held g ⊎ InRange before g) → AreWith new node next
with_next held before next node old new are joined from g low high in_next = elim (from g in_next) [
  | inl reached ↦ joined.joins node g (refl, reached) low high
  | inr was ↦ joined.keeps node g (are g low high was)
]

-- ---- the places of a node

abbrev pub PlacesBelow : Sight → ℕ → ℕ → ℕ → ℕ → Type 0
PlacesBelow x node n f g = (f ≡ node) × HoldsBelow x node n g

pub places_none : (x : Sight) (node : ℕ) (world : ℕ → ℕ) → Joins (PlacesBelow x node 0) world world
places_none x node world = joins_none (PlacesBelow x node 0) world
    (λ f g h _ _. let below : h.1.0 < 0 = h.1.1 in absurd (omega (arith, below)))

abbrev pub PlaceAt : Sight → ℕ → ℕ → ℕ → ℕ → Type 0
PlaceAt x node n f g = (f ≡ node) × Reaches (x.held node n) g

pub places_more : (x : Sight) (node n : ℕ) (old mid new : ℕ → ℕ) → Joins (PlacesBelow x node n) old mid
    → Joins (PlaceAt x node n) mid new → Joins (PlacesBelow x node (n + 1)) old new
places_more x node n old mid new a b =
    joins_as (λ f g. PlacesBelow x node n f g ⊎ PlaceAt x node n f g) (PlacesBelow x node (n + 1)) old new there back
    (joins_then (PlacesBelow x node n) (PlaceAt x node n) old mid new a b)
  where
    there : (f g : ℕ) → PlacesBelow x node n f g ⊎ PlaceAt x node n f g → PlacesBelow x node (n + 1) f g
    there f g (inl h) = let below : h.1.0 < n = h.1.1 in (h.0, (h.1.0, omega (arith, below), h.1.2))
    there f g (inr h) = (h.0, (n, omega arith, h.1))

    back : (f g : ℕ) → PlacesBelow x node (n + 1) f g → f < 512 → g < 512 → PlacesBelow x node n f g ⊎ PlaceAt x node n f g
    back f g h _ _ = elim (cases_lt h.1.0 n) [
      | inl low ↦ inl (h.0, (h.1.0, low, h.1.2))
      | inr high ↦
          let below : h.1.0 < n + 1 = h.1.1 in
          let same : h.1.0 ≡ n = omega (arith, below, high) in
          inr (h.0, subst (λ i. Reaches (x.held node i) g) same h.1.2)
    ]

-- ---- a frame

either : (node : ℕ) (P Q : ℕ → Type 0) (old mid new : ℕ → ℕ) → Joins (λ f g. (f ≡ node) × P g) old mid
    → Joins (λ f g. (f ≡ node) × Q g) mid new → Joins (λ f g. (f ≡ node) × (P g ⊎ Q g)) old new
either node P Q old mid new a b =
    joins_as (λ f g. ((f ≡ node) × P g) ⊎ ((f ≡ node) × Q g)) (λ f g. (f ≡ node) × (P g ⊎ Q g)) old new there
    (λ f g h _ _. split f g h.0 h.1)
    (joins_then (λ f g. (f ≡ node) × P g) (λ f g. (f ≡ node) × Q g) old mid new a b)
  where
    there : (f g : ℕ) → ((f ≡ node) × P g) ⊎ ((f ≡ node) × Q g) → (f ≡ node) × (P g ⊎ Q g)
    there f g (inl h) = (h.0, inl h.1)
    there f g (inr h) = (h.0, inr h.1)

    split : (f g : ℕ) → f ≡ node → P g ⊎ Q g → ((f ≡ node) × P g) ⊎ ((f ≡ node) × Q g)
    split f g e (inl h) = inl (e, h)
    split f g e (inr h) = inr (e, h)

pub frame_both : (x : Sight) (node : ℕ) (old mid new : ℕ → ℕ) → Joins (λ f g. (f ≡ node) × HasField (x.comp node) g) old mid
    → Joins (PlacesBelow x node 64) mid new → Joins (λ f g. (f ≡ node) × HoldsFrame x node g) old new
frame_both x node = either node (HasField (x.comp node)) (HoldsBelow x node 64)

pub fields_none : (node : ℕ) (world : ℕ → ℕ) → Joins (λ f g. (f ≡ node) × HasField None g) world world
fields_none node world = joins_none (λ f g. (f ≡ node) × HasField None g) world (λ f g h _ _. absurd h.1)

pub fields_comp : (node : ℕ) (k : ℕ × ℕ) (old mid new : ℕ → ℕ) → Joins (λ f g. (f ≡ node) × (g ≡ k.0)) old mid
    → Joins (λ f g. (f ≡ node) × (g ≡ k.1)) mid new → Joins (λ f g. (f ≡ node) × HasField (Some k) g) old new
fields_comp node k = either node (λ g. g ≡ k.0) (λ g. g ≡ k.1)

-- ---- the frames

pub frames_none : (x : Sight) (world : ℕ → ℕ) → Joins (IsHeldBelow x 0) world world
frames_none x world = joins_none (IsHeldBelow x 0) world (λ f g h _ _. let below : f < 0 = h.0 in absurd (omega (arith, below)))

pub frames_more : (x : Sight) (n : ℕ) (old mid new : ℕ → ℕ) → Joins (IsHeldBelow x n) old mid
    → Joins (λ f g. (f ≡ n) × HoldsFrame x n g) mid new → Joins (IsHeldBelow x (n + 1)) old new
frames_more x n old mid new a b =
    joins_as (λ f g. IsHeldBelow x n f g ⊎ ((f ≡ n) × HoldsFrame x n g)) (IsHeldBelow x (n + 1)) old new there back
    (joins_then (IsHeldBelow x n) (λ f g. (f ≡ n) × HoldsFrame x n g) old mid new a b)
  where
    there : (f g : ℕ) → IsHeldBelow x n f g ⊎ ((f ≡ n) × HoldsFrame x n g) → IsHeldBelow x (n + 1) f g
    there f g (inl h) = let below : f < n = h.0 in (omega (arith, below), h.1)
    there f g (inr h) = let same : f ≡ n = h.0 in (omega (arith, same), subst (λ m. HoldsFrame x m g) (sym same) h.1)

    back : (f g : ℕ) → IsHeldBelow x (n + 1) f g → f < 512 → g < 512 → IsHeldBelow x n f g ⊎ ((f ≡ n) × HoldsFrame x n g)
    back f g h _ _ = elim (cases_lt f n) [
      | inl low ↦ inl (low, h.1)
      | inr high ↦
          let below : f < n + 1 = h.0 in
          let same : f ≡ n = omega (arith, below, high) in
          inr (same, subst (λ m. HoldsFrame x m g) same h.1)
    ]
