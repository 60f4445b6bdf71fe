-- What is kept without a mark: what the words settle to where a step leaves what is kept, or where no core keeps a word.
use Rattle.act_fits.specs.act_states.proofs.{◌≡◌, ◌≢◌, ◌<◌, ℕ, zero, suc, List, [], ◌∷◌, true, Option, Some, None, arith, refl, sym, ◌∙◌}
use Rattle.act_fits.specs.act_states.proofs.{ap, inl, inr, Word, EntryAt, put, put_same}
use Rattle.core_invariant.specs.{Core, holds_counts, bare_value, holds, held_by}
use Rattle.core_invariant.specs.Holding.{Holding, kept_or, kept_below}
use Rattle.{act_fits.specs.act_states.proofs.put_other, act_fits.specs.act_states.proofs.Acquired, std.proofs.lemmas.Bool.cases_eq}

-- A word that no core keeps settles to itself.
pub none_kept : (n : ℕ) (held : ℕ → Holding) (f i x : ℕ) → ((d : ℕ) → (held d).bare f i ≡ None) → kept_below n held f i x ≡ x
unfolding kept_below
none_kept zero held f i x none = refl
none_kept (suc n) held f i x none = ap (λ o. kept_or o (kept_below n held f i x)) (none n) ∙ none_kept n held f i x none

-- One that a single core keeps settles to what this has still to store.
pub own_kept : (n : ℕ) (held : ℕ → Holding) (f i x v d : ℕ) → d < n → (held d).bare f i ≡ Some v
    → ((b : ℕ) → b ≢ d → (held b).bare f i ≡ None) → kept_below n held f i x ≡ v
unfolding kept_below
own_kept zero held f i x v d below own others = absurd (omega (arith, below))
own_kept (suc n) held f i x v d below own others = elim (cases_eq n d) [
  | inl same ↦ ap (λ (b : ℕ). kept_or ((held b).bare f i) (kept_below n held f i x)) same ∙ ap
      (λ o. kept_or o (kept_below n held f i x)) own
  | inr other ↦ ap (λ o. kept_or o (kept_below n held f i x)) (others n other)
      ∙ own_kept n held f i x v d (omega (arith, below, other)) own others
]

same_kept : (n : ℕ) (held held' : ℕ → Holding) (f i x : ℕ) → ((d : ℕ) → (held' d).bare f i ≡ (held d).bare f i)
    → kept_below n held' f i x ≡ kept_below n held f i x
unfolding kept_below
same_kept zero held held' f i x same = refl
same_kept (suc n) held held' f i x same =
    ap (λ o. kept_or o (kept_below n held' f i x)) (same n) ∙ ap (kept_or ((held n).bare f i)) (same_kept n held held' f i x same)

-- Where each core keeps of a word what it kept, the word settles to what it did.
pub same_value : (held held' : ℕ → Holding) (w : Word) (x : ℕ)
    → ((f i : ℕ) → w ≡ EntryAt f i → (d : ℕ) → (held' d).bare f i ≡ (held d).bare f i) → bare_value held' w x ≡ bare_value held w x
same_value held held' (EntryAt f i) x same = same_kept 8 held held' f i x (same f i refl)
same_value held held' _ x same = refl

-- Where no core keeps any, each settles to itself.
pub none_value : (held : ℕ → Holding) (w : Word) (x : ℕ) → ((f i d : ℕ) → (held d).bare f i ≡ None) → bare_value held w x ≡ x
none_value held (EntryAt f i) x none = none_kept 8 held f i x (none f i)
none_value held _ x none = refl

-- A word that no core keeps without a mark.
abbrev pub IsNotKept : (ℕ → Holding) → Word → Type 0
IsNotKept held w = (f i : ℕ) → w ≡ EntryAt f i → (d : ℕ) → (held d).bare f i ≡ None

pub free_value : (held : ℕ → Holding) (w : Word) (x : ℕ) → IsNotKept held w → bare_value held w x ≡ x
free_value held (EntryAt f i) x free = none_kept 8 held f i x (free f i refl)
free_value held _ x free = refl

-- Counts are marked, so no word is kept without a mark beside them.
pub counts_bare : (fate : Option (Option ℕ)) (xs : List Acquired) (f i : ℕ) → (holds_counts fate xs).bare f i ≡ None
counts_bare fate [] f i = refl
counts_bare fate (x ∷ xs) f i = counts_bare fate xs f i

-- The other cores keep what they kept, and so does this one.
pub core_bare : (cores : ℕ → Core) (c : ℕ) (after : Core) (f i : ℕ) → (holds after).bare f i ≡ (holds (cores c)).bare f i → (d : ℕ)
    → (held_by (put cores c after) d).bare f i ≡ (held_by cores d).bare f i
core_bare cores c after f i same d = elim (cases_eq d c) [
  | inl own ↦ ap (λ k. (holds k).bare f i) (put_same cores c after d own) ∙ same ∙ ap (λ (b : ℕ). (held_by cores b).bare f i) (sym own)
  | inr other ↦ ap (λ k. (holds k).bare f i) (put_other cores c after d other)
]

-- After a step its core keeps without a mark what it kept, but for the word of the step, which it has given back; and where it has marked
-- the first word of a frame of which it keeps a word still, it holds that still.
pub record AsBefore (before after : Holding) (w : Word) : Type 0 where
  pub there : (f i : ℕ) → EntryAt f i ≢ w → after.bare f i ≡ before.bare f i
  pub here : (f i : ℕ) → EntryAt f i ≡ w → after.bare f i ≡ None
  pub head : (f i v : ℕ) → after.bare f i ≡ Some v → before.marks (EntryAt f 0) ≡ true → after.marks (EntryAt f 0) ≡ true

none_some : (v : ℕ) → None ≡ Some v → ⊥
none_some v h = cc

-- It keeps none, before and after.
pub as_none : (before after : Holding) (w : Word) → ((f i : ℕ) → before.bare f i ≡ None) → ((f i : ℕ) → after.bare f i ≡ None)
    → AsBefore before after w
as_none before after w none none' = record {
  there = λ f i apart. none' f i ∙ sym (none f i);
  here = λ f i same. none' f i;
  head = λ f i v is. absurd (none_some v (sym (none' f i) ∙ is));
}
