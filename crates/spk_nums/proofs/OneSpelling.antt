-- What one spelling of each value says of a word that was read.
use Rattle.std.proofs.Common.{ℕ, ◌≡◌, ◌∙◌, sym, ap, Option, Some, None, IfSome}
use Rattle.spk_nums.specs.Spelling.{IsOneSpelling}

-- the value read is within its ranges, and its word is that word
pub spelling_spells : {V : Type 0} {fits : V → Type 0} {word_of : V → ℕ} {of_word : ℕ → Option V}
    → IsOneSpelling fits word_of of_word → (o : Option V) (w : ℕ) → o ≡ of_word w → IfSome o (λ v. fits v × (word_of v ≡ w))
spelling_spells laws (Some v) w h = laws.spells w v (sym h)
spelling_spells laws None w h = tt

-- a value with that word, within its ranges, is the one read
pub spelling_reads : {V : Type 0} {fits : V → Type 0} {word_of : V → ℕ} {of_word : ℕ → Option V}
    → IsOneSpelling fits word_of of_word → (o : Option V) (w : ℕ) → o ≡ of_word w → (v : V) → fits v → word_of v ≡ w → o ≡ Some v
spelling_reads {of_word = of_word} laws o w h v in_range same = h ∙ ap of_word (sym same) ∙ laws.reads v in_range

-- two values with one word are one
pub same_value : {V : Type 0} {fits : V → Type 0} {word_of : V → ℕ} {of_word : ℕ → Option V}
    → IsOneSpelling fits word_of of_word → (v u : V) → fits v → fits u → word_of v ≡ word_of u → v ≡ u
same_value {of_word = of_word} laws v u v_fits u_fits same =
    let both : Some v ≡ Some u = sym (laws.reads v v_fits) ∙ ap of_word same ∙ laws.reads u u_fits in
    cc
