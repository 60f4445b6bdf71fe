-- What a pair takes from the word of its step, where that is the one expected.
use Rattle.std.proofs.Common.{◌≡◌, ◌==◌, ℕ, nat_lt, true, false, Option, Some, None, refl, ap, ◌∙◌}
use Rattle.spk_nums.specs.declared.replies.Reply.TheVariants.{Ok}
use Rattle.spk_nums.specs.declared.replies.Value.{Value}
use Rattle.spk_nums.specs.declared.replies.Value.TheVariants.{Nothing}
use Rattle.spk_nums.specs.declared.steps.StageEnd.TheVariants.{Going}
use Rattle.straight_looks.specs.step_starts.specs as low
use low.stage_tcap.specs.Heads.{head}
use low.stage_tcap.specs.Pairs.{amount_of, end_at, noted_by, pair_after, pair_end}
use low.stage_tcap.specs.declared.pair.Pair.{Pair}
use low.stage_tcap.specs.declared.pair.PairAt.{PairAt}
use low.stage_tcap.specs.declared.pair.PairAt.TheVariants.{LoadA, MarkA, ListA, LoadB, ListB, CompareB, AgainB, StoreList, StoreB, StoreA}
use low.tcap_words.specs.Head.{head_of_word, word_of_head}
use low.tcap_words.specs.Quality.{quality_of_word}
use low.tcap_words.specs.declared.head_word.HeadWord.{HeadWord}
use low.tcap_words.specs.declared.quality_word.QualityWord.{QualityWord}
use Rattle.straight_pairs.specs.Taking.{DecidesTo, GoesTo, IsList, IsUnmarked}

-- a head that no core has marked
pub is_unmarked : (w : ℕ) (h : HeadWord) → head_of_word w ≡ Some h → h.mark ≡ None → IsUnmarked w h
is_unmarked w h shown none = record { shown = shown; unmarked = none }

as_head : (h : HeadWord) → h.mark ≡ None → h ≡ head h.budget h.version
as_head h none = ap (λ (m : Option ℕ). record h { mark = m }) none

-- the load of head A, the compare that marks it, and the load of head B
pub loads_a : (p q : Pair) (w : ℕ) (h : HeadWord) → p.at ≡ LoadA → IsUnmarked w h → q ≡ record p { head_a = h; at = MarkA } → GoesTo p w q
loads_a p q w h is u now = record {
  ends = rw (is, u.shown, u.unmarked) refl;
  after =
      now ∙ (ap (λ (x : HeadWord). record p { head_a = x; at = MarkA }) (as_head h u.unmarked) ∙ rw (is, u.shown, u.unmarked) refl);
}

pub loads_b : (p q : Pair) (w : ℕ) (h : HeadWord) → p.at ≡ LoadB → IsUnmarked w h → q ≡ record p { head_b = h; at = ListB 1 } → GoesTo p w q
loads_b p q w h is u now = record {
  ends = rw (is, u.shown, u.unmarked) refl;
  after =
      now ∙ (ap (λ (x : HeadWord). record p { head_b = x; at = ListB 1 }) (as_head h u.unmarked) ∙ rw (is, u.shown, u.unmarked) refl);
}

pub marks_a : (p q : Pair) (w : ℕ) → p.at ≡ MarkA → (w == word_of_head p.head_a) ≡ true
    → nat_lt p.head_a.budget (amount_of p.what) ≡ false → q ≡ record p { at = ListA 1 } → GoesTo p w q
marks_a p q w is same enough now = record { ends = rw (is, same, enough) refl; after = rw (now, is, same, enough) refl }

-- the load of a word of a list
pub list_a : (at : PairAt) (entry : ℕ) → at ≡ ListA entry → IsList at
list_a at entry is = rw is tt

pub list_b : (at : PairAt) (entry : ℕ) → at ≡ ListB entry → IsList at
list_b at entry is = rw is tt

pub passes_on : (p q : Pair) (w : ℕ) → pair_end p w ≡ Going → q ≡ pair_after p w → GoesTo p w q
passes_on p q w ends after = record { ends = ends; after = after }

pub reads_on : (p q : Pair) (w : ℕ) (v : QualityWord) → IsList p.at → quality_of_word w ≡ Some v → q ≡ pair_after p w → GoesTo p w q
reads_on p q w v list shown after = record { ends = by p.at list; after = after }
  where
    by : (at : PairAt) → IsList at → end_at (noted_by p w) at w ≡ Going
    by LoadA list = absurd list
    by MarkA list = absurd list
    by (ListA entry) list = rw shown refl
    by LoadB list = absurd list
    by (ListB entry) list = rw shown refl
    by CompareB list = absurd list
    by (AgainB r) list = absurd list
    by (StoreList entry) list = absurd list
    by StoreB list = absurd list
    by (StoreA moved x) list = absurd list

-- the step that decides
pub compares_b : (p q : Pair) (w : ℕ) → p.at ≡ CompareB → (w == word_of_head p.head_b) ≡ true → q ≡ pair_after p w
    → DecidesTo p w Nothing q
compares_b p q w is same after = record { ends = rw (is, same) refl; after = after }

pub again_b : (p q : Pair) (w : ℕ) (v : Value) → p.at ≡ AgainB (Ok v) → (w == word_of_head p.head_b) ≡ true → q ≡ pair_after p w
    → DecidesTo p w v q
again_b p q w v is same after = record { ends = rw (is, same) refl; after = after }
