-- Each reply has its number below 25, and the word of that number.
use Rattle.std.proofs.Common.{◌≡◌, ℕ, suc, ◌<◌, cond, eqb, List, [], ◌∷◌, refl, sym, ap, ◌∙◌, arith, slice_index_or, codes}
use Rattle.spk_nums.specs.declared.replies.Reply.TheVariants.{NoSlot}
use Rattle.spk_nums.specs.Names.{reply_code, reply_word}
use Rattle.{spk_nums.specs.declared.replies.Reply.Reply, load_summary.specs.Laws.IsCounted}
use lib.Pointwise.{pointwise}

-- the words of the numbers, from 0 on
unfoldable the_words : List (List ℕ)
the_words = codes "ok" ∷ codes "no-slot" ∷ codes "empty" ∷ codes "wrong-cap" ∷ codes "occupied" ∷ codes "quiescing"
    ∷ codes "unflushed" ∷ codes "frame-kind" ∷ codes "out-of-range" ∷ codes "referenced" ∷ codes "not-empty" ∷ codes "dead" ∷ codes "deep"
    ∷ codes "bottom" ∷ codes "running" ∷ codes "short" ∷ codes "unlike" ∷ codes "too-many" ∷ codes "same"
    ∷ codes "epochs-spent" ∷ codes "raced" ∷ codes "busy" ∷ codes "fault" ∷ codes "calls-spent" ∷ codes "no-right" ∷ []

unfoldable word_numbered : ℕ → List ℕ
word_numbered n = slice_index_or the_words n []

-- where a word stands first in a list of words
place_in : List (List ℕ) → List ℕ → ℕ
place_in [] w = 0
place_in (x ∷ xs) w = cond (pointwise eqb x w) 0 (suc (place_in xs w))

unfoldable number_worded : List ℕ → ℕ
number_worded w = place_in the_words w

numbered : (r : Reply) → reply_word r ≡ word_numbered (reply_code r)
unfolding word_numbered the_words
numbered NoSlot = refl
numbered _ = refl

worded : (r : Reply) → number_worded (reply_word r) ≡ reply_code r
unfolding number_worded the_words place_in
worded NoSlot = refl
worded _ = refl

below : (r : Reply) → reply_code r < 25
below NoSlot = omega arith
below _ = omega arith

pub counted_once : (r : Reply) → IsCounted r
counted_once r = record {
  below = below r;
  word = λ s e. numbered r ∙ ap word_numbered e ∙ sym (numbered s);
  apart = λ s e. sym (worded r) ∙ ap number_worded e ∙ worded s;
}
