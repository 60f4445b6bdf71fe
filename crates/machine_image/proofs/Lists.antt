-- What is left of each list of an image, after its first number.
use Rattle.std.proofs.Common.{◌≡◌, ℕ, ◌+◌, ◌<◌, ap, sym, subst, List, [], ◌∷◌, Option, Some, None}
use Rattle.word_map.specs.{EntryAt, CountAt, Shape}
use Rattle.machine_image.specs.Views.{word_at, under, numbered, held_from, counts_from, stacked, stack_from, listed, pairs_from}
use Rattle.machine_image.proofs.Left.{none_left, passes, gives}
use Rattle.{tcap_words.specs.quality_of_word, tcap_words.specs.stack_of_word, spk_nums.specs.Capability.Capability}
use Rattle.{frame_words.specs.Count.count_of_word, frame_words.specs.declared.count_word.CountWord.CountWord}

module _ (shape : Shape) (words : List ℕ) (f : ℕ) where
  pub held_ends : (n : ℕ) → n ≡ 4096 → held_from shape words f n ≡ []
  unfolding held_from
  held_ends n e = subst (λ m. held_from shape words f m ≡ []) (sym e) (none_left (λ m. numbered m (under shape words f m)) 4096)

  pub held_passes : (n : ℕ) → n < 4096 → under shape words f n ≡ None → held_from shape words f n ≡ held_from shape words f (n + 1)
  unfolding held_from
  held_passes n l e = passes (λ m. numbered m (under shape words f m)) n 4096 l (ap (numbered n) e)

  pub held_gives : (n : ℕ) (k : Capability) → n < 4096 → under shape words f n ≡ Some k
      → held_from shape words f n ≡ (n, k) ∷ held_from shape words f (n + 1)
  unfolding held_from
  held_gives n k l e = gives (λ m. numbered m (under shape words f m)) n 4096 (n, k) l (ap (numbered n) e)

  abbrev count_word : ℕ → Option CountWord
  count_word c = count_of_word (word_at shape words (CountAt f c))

  pub counts_end : (c : ℕ) → c ≡ shape.cores → counts_from shape words f c ≡ []
  unfolding counts_from
  counts_end c e = subst (λ d. counts_from shape words f d ≡ []) (sym e) (none_left count_word shape.cores)

  pub counts_pass : (c : ℕ) → c < shape.cores → count_word c ≡ None → counts_from shape words f c ≡ counts_from shape words f (c + 1)
  unfolding counts_from
  counts_pass c l e = passes count_word c shape.cores l e

  pub counts_give : (c : ℕ) (v : CountWord) → c < shape.cores → count_word c ≡ Some v
      → counts_from shape words f c ≡ v ∷ counts_from shape words f (c + 1)
  unfolding counts_from
  counts_give c v l e = gives count_word c shape.cores v l e

  abbrev on_stack : ℕ → Option ℕ
  on_stack h = stacked (stack_of_word (word_at shape words (EntryAt f (1 + h))))

  pub stack_ends : (h : ℕ) → h ≡ 16 → stack_from shape words f h ≡ []
  unfolding stack_from
  stack_ends h e = subst (λ g. stack_from shape words f g ≡ []) (sym e) (none_left on_stack 16)

  pub stack_passes : (h : ℕ) → h < 16 → on_stack h ≡ None → stack_from shape words f h ≡ stack_from shape words f (h + 1)
  unfolding stack_from
  stack_passes h l e = passes on_stack h 16 l e

  pub stack_gives : (h k : ℕ) → h < 16 → on_stack h ≡ Some k → stack_from shape words f h ≡ k ∷ stack_from shape words f (h + 1)
  unfolding stack_from
  stack_gives h k l e = gives on_stack h 16 k l e

  abbrev in_list : ℕ → Option (ℕ × ℕ)
  in_list j = listed (quality_of_word (word_at shape words (EntryAt f (1 + j))))

  pub pairs_end : (j : ℕ) → j ≡ 8 → pairs_from shape words f j ≡ []
  unfolding pairs_from
  pairs_end j e = subst (λ i. pairs_from shape words f i ≡ []) (sym e) (none_left in_list 8)

  pub pairs_pass : (j : ℕ) → j < 8 → in_list j ≡ None → pairs_from shape words f j ≡ pairs_from shape words f (j + 1)
  unfolding pairs_from
  pairs_pass j l e = passes in_list j 8 l e

  pub pairs_give : (j : ℕ) (q : ℕ × ℕ) → j < 8 → in_list j ≡ Some q → pairs_from shape words f j ≡ q ∷ pairs_from shape words f (j + 1)
  unfolding pairs_from
  pairs_give j q l e = gives in_list j 8 q l e
