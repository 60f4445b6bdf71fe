-- What a pair takes from the word of its step.
use Rattle.std.specs.Prelude.{◌≡◌, ℕ, Option, Some, None}
use Rattle.spk_nums.specs.declared.replies.Reply.TheVariants.{Ok}
use Rattle.spk_nums.specs.declared.replies.Value.{Value}
use Rattle.spk_nums.specs.declared.steps.StageEnd.TheVariants.{Decided, Going}
use Rattle.straight_looks.specs.step_starts.specs as low
use low.stage_tcap.specs.Pairs.{pair_after, pair_end}
use low.stage_tcap.specs.declared.pair.Pair.{Pair}
use low.stage_tcap.specs.declared.pair.PairAt.{PairAt}
use low.stage_tcap.specs.declared.pair.PairAt.TheVariants.{ListA, ListB}
use low.tcap_words.specs.Head.{head_of_word}
use low.tcap_words.specs.declared.head_word.HeadWord.{HeadWord}

-- a pair goes on with this word to that pair
pub record GoesTo (p : Pair) (w : ℕ) (q : Pair) : Type 0 where
  pub ends : pair_end p w ≡ Going
  pub after : q ≡ pair_after p w

-- it is decided by this word with this value, and that pair says what is still to be stored
pub record DecidesTo (p : Pair) (w : ℕ) (v : Value) (q : Pair) : Type 0 where
  pub ends : pair_end p w ≡ Decided (Ok v)
  pub after : q ≡ pair_after p w

-- a word is that of a head which no core has marked
pub record IsUnmarked (w : ℕ) (h : HeadWord) : Type 0 where
  pub shown : head_of_word w ≡ Some h
  pub unmarked : h.mark ≡ None

-- a pair stands before the load of a word of a list
abbrev pub IsList : PairAt → Type 0
IsList (ListA entry) = Unit {0}
IsList (ListB entry) = Unit {0}
IsList _ = ⊥
