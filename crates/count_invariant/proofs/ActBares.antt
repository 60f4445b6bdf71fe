-- An act that acquires counts, and a call that commits them, keep no word without a mark.
use Rattle.step_ways.proofs.{◌≡◌, ℕ, List, Option, None, ◌∙◌, ap, Word, Acquired, Holding, holds_counts, holds_act, AsBefore, as_none}
use Rattle.{step_ways.proofs.counts_bare, step_ways.specs.act_states.specs.declared.work.Act.Act as ActOf}
use Rattle.{step_ways.specs.core_invariant.proofs.Keepings.act_bare}

pub acquired_bares : (h h' : Holding) (act : ActOf) (xs ys : List Acquired) (w : Word) → h ≡ holds_act act (holds_counts None xs)
    → h' ≡ holds_act act (holds_counts None ys) → AsBefore h h' w
acquired_bares h h' act xs ys w before after = as_none h h' w
    (λ f i. ap (λ k. k.bare f i) before ∙ act_bare act (holds_counts None xs) f i ∙ counts_bare None xs f i)
    (λ f i. ap (λ k. k.bare f i) after ∙ act_bare act (holds_counts None ys) f i ∙ counts_bare None ys f i)

pub committed_bares : (h h' : Holding) (fate : Option (Option ℕ)) (xs ys : List Acquired) (w : Word) → h ≡ holds_counts fate xs
    → h' ≡ holds_counts fate ys → AsBefore h h' w
committed_bares h h' fate xs ys w before after = as_none h h' w
    (λ f i. ap (λ k. k.bare f i) before ∙ counts_bare fate xs f i) (λ f i. ap (λ k. k.bare f i) after ∙ counts_bare fate ys f i)
