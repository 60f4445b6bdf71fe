-- Taking the items of a line, one after another.
use Rattle.std.proofs.Common.{◌≡◌, ℕ, ◌+◌, ◌<◌, List, [], ◌∷◌, ◌++◌, length, get_or, drop, Ok, refl, sym, ap, subst, ◌∙◌, lt-ltb}
use Rattle.script_reader.specs.{item_of, items_of, BelowCores}
use Rattle.std.proofs.{lemmas.List.drop_more, lemmas.List.Elements.All-push}
use Rattle.{spk_nums.specs.declared.steps.Item.Item, script_tokens.specs.declared.token.Token.Token, line_reader.specs.Arguments.texts}

-- the items so far, and what the words that follow still give in a script of this version
pub record Adds (version cores : ℕ) (old : List Item) (words : List Token) (i : ℕ) (order : List Item) : Type 0 where
  pub value : items_of version cores order (texts (drop i words)) ≡ items_of version cores old (texts words)
  pub below : BelowCores cores old → BelowCores cores order

cut : (words : List Token) (i : ℕ) (d : Token) → i < length words
    → texts (drop i words) ≡ (get_or words i d).text.now ∷ texts (drop (i + 1) words)
cut words i d lt = ap texts (drop_more words i d lt)

pub adds_more : (version cores : ℕ) (old : List Item) (words : List Token) (i : ℕ) (order more : List Item) (d : Token) (item : Item)
    → i < length words → Ok item ≡ item_of version cores (get_or words i d).text.now
    → item.core < cores → length order < 200000 → more ≡ order ++ item ∷ []
    → Adds version cores old words i order → Adds version cores old words (i + 1) more
adds_more version cores old words i order more d item lt e below few new a =
    let rest = texts (drop (i + 1) words) in
    let step : items_of version cores order ((get_or words i d).text.now ∷ rest) ≡ items_of version cores (order ++ item ∷ []) rest =
    rw (sym e, lt-ltb (length order) 200000 few) refl in
    record {
      value = ap (λ o. items_of version cores o rest) new ∙ sym step ∙ ap (items_of version cores order) (sym (cut words i d lt)) ∙ a.value;
      below = λ h. subst (BelowCores cores) (sym new) (All-push (λ (x : Item). x.core < cores) order item (a.below h) below);
    }
