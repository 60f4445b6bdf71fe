-- Where a world is split, so is the rest.
use Rattle.same_changes.specs.kernel_laws.proofs.{◌≡◌, Bool, not, ap, List, [], ◌∷◌, Translation}
use Rattle.{std.specs.List.AllByRecursion, split_laws.specs.Split.SplitBothWays}

all_not : {A : Type 0} (p q : A → Bool) (xs : List A) → AllByRecursion (λ x. p x ≡ q x) xs → AllByRecursion (λ x. not (p x) ≡ not (q x)) xs
all_not p q [] h = tt
all_not p q (x ∷ xs) h = (ap not h.0, all_not p q xs h.1)

pub split_both_ways : SplitBothWays
split_both_ways w s h = record {
  places = λ f i d g k e leads. ap not (h.places f i d g k e leads);
  comps = λ f k e. let c = h.comps f k e in (ap not c.0, ap not c.1, ap not c.2);
  stacks = λ f t e. all_not w.frame (λ g. w.frame f) t.stack (h.stacks f t e);
  cores = λ c below. ap not (h.cores c below);
  cached = λ c below. all_not (λ (x : Translation). w.frame x.frame) (λ x. w.frame x.pages) (s.core c).cached (h.cached c below);
}
