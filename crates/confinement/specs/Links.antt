-- Links that chains share: each link has the place of the one at which its chain goes on.
use Rattle.std.specs.Prelude.{◌≡◌, ◌<◌, ◌+◌, ◌%◌, ◌==◌, ◌&&◌, if◌then◌else◌, ◌∷◌}
use Rattle.call_judge.specs.seq_state.specs.{ℕ, zero, suc, List, [], length, slice_get, Option, Some}
use Rattle.call_judge.specs.seq_state.specs.{None, IsSome, option_map, at_place}
use Rattle.origin_rules.specs.{Origin, Put, declared.chains.Step.Step, declared.chains.ChainLink.ChainLink}
use Rattle.confinement.specs.{declared.puts.Put.Put as Found, declared.table.Kept.Kept, declared.table.Head.Head}

-- The links, and where the chain of each place begins.
pub record Table : Type 0 where
  pub kept : List Kept
  pub heads : List Head

-- A list made of what is there, if it is.
abbrev pub list_of : {A B : Type 0} → (A → List B) → Option A → List B
list_of f None = []
list_of f (Some x) = f x

-- The chain of at most n links that begins at the link in this place.
abbrev pub chain_from : List Kept → ℕ → Option ℕ → List ChainLink
chain_from kept zero first = []
chain_from kept (suc n) None = []
chain_from kept (suc n) (Some k) = list_of (λ x. x.link ∷ chain_from kept n x.rest) (slice_get kept k)

-- The origin of a place whose chain begins so, and of place i of frame f; None past the machine's places.
abbrev pub origin_in : List Kept → Head → Origin
origin_in kept h = record { links = chain_from kept (length kept) h.first; start = h.start }

abbrev pub origin_at : Table → ℕ → ℕ → Option Origin
origin_at t f i = option_map (origin_in t.kept) (at_place t.heads f i)

-- A place, if there is one, comes before place n; and how many places are left from there on.
abbrev pub IsBelow : Option ℕ → ℕ → Type 0
IsBelow None n = Unit {0}
IsBelow (Some k) n = k < n

abbrev pub places_left : Option ℕ → ℕ
places_left None = 0
places_left (Some k) = k + 1

-- Each link's chain goes on at an earlier link.
abbrev pub GoOn : List Kept → Type 0
GoOn kept = (k : ℕ) (x : Kept) → slice_get kept k ≡ Some x → IsBelow x.rest k

-- Each chain begins at a link that there is.
abbrev pub Begin : ℕ → List Head → Type 0
Begin n heads = (k : ℕ) (h : Head) → slice_get heads k ≡ Some h → IsBelow h.first n

pub record IsTable (t : Table) : Type 0 where
  pub goes_on : GoOn t.kept
  pub begins : Begin (length t.kept) t.heads

-- The first n places have no link, and each its own index.
abbrev pub StartsAll : ℕ → List Head → Type 0
StartsAll n heads = (k : ℕ) → k < n → slice_get heads k ≡ Some record { first = None; start = k % 64 }

-- The place has this head, if there is such a place; all others are as before.
abbrev pub IsHeadSet : List Head → ℕ → Head → List Head → Type 0
IsHeadSet old key h new = (k : ℕ) → slice_get new k ≡ (if k == key then option_map (λ x. h) (slice_get old k) else slice_get old k)

-- At the start the origin of a place is the capability itself.
abbrev pub origin_at_start : ℕ → Origin
origin_at_start i = record { links = []; start = i }

-- That of what a decision puts from a parent.
abbrev pub put_origin : ℕ → Step → Origin → Origin
put_origin d what o = record { links = record { decision = d; what = what } ∷ o.links; start = o.start }

-- What was found that a call puts.
abbrev pub put_of : Found → Put
put_of p = record { at = p.at; what = p.what; parent = p.parent }

-- Where the parent and the place are the machine's, the place has the decision before the parent's origin, and all other places keep
-- theirs.
abbrev pub PutsIn : Table → ℕ → Put → Table → Type 0
PutsIn t d p t' = (o : Origin) → origin_at t p.parent.node p.parent.index ≡ Some o → IsSome (origin_at t p.at.node p.at.index)
    → (f i : ℕ) → i < 64
    → origin_at t' f i ≡ (if f == p.at.node && i == p.at.index then Some (put_origin d p.what o) else origin_at t f i)

-- Where a decision puts nothing, all is as before.
abbrev pub PutsBy : Table → ℕ → Option Put → Table → Type 0
PutsBy t d None t' = t' ≡ t
PutsBy t d (Some p) t' = PutsIn t d p t'
