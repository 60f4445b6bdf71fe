-- The mark stands under its word.
use Rattle.std.proofs.Common.{◌≡◌, ℕ, zero, suc, ◌+◌, List, [], ◌∷◌, ◌++◌, length, All, refl, sym, ◌∙◌, ap, arith, append_assoc, append-nil}
use Rattle.std.proofs.Common.{length-append, codes, IsAscii}
use Rattle.fault_texts.specs.{words_text, blanks, blanks_text}
use Rattle.{std.proofs.lemmas.Str.utf8_lossy-IsUtf8, std.proofs.lemmas.Str.IsUtf8-from_ascii, std.proofs.lemmas.List.Elements.All-head}
use Rattle.{std.proofs.lemmas.List.Elements.All-tail, fault_texts.specs.Pieces.word_text, fault_texts.specs.Marks.IsUnder}

-- a word is told as it stands
own_text : (word : List ℕ) → IsAscii word → word_text word ≡ word
own_text word ascii = utf8_lossy-IsUtf8 word (IsUtf8-from_ascii word ascii)

blanks_sum : (m n : ℕ) → blanks (m + n) ≡ blanks m ++ blanks n
blanks_sum m zero = let none : m + zero ≡ m = omega arith in ap (λ (k : ℕ). blanks k) none ∙ sym (append-nil (blanks m))
blanks_sum m (suc n) =
    let next : m + suc n ≡ suc (m + n) = omega arith in
    ap (λ (k : ℕ). blanks k) next ∙ ap (λ (x : List ℕ). x ++ codes " ") (blanks_sum m n)
    ∙ append_assoc (blanks m) (blanks n) (codes " ")

blank_first : (n : ℕ) → codes " " ++ blanks n ≡ blanks (suc n)
blank_first zero = refl
blank_first (suc n) = ap (λ (x : List ℕ). x ++ codes " ") (blank_first n)

-- as many spaces as characters
blank_words : (before : List (List ℕ)) → All IsAscii before → blanks_text before ≡ blanks (length (words_text before))
blank_words [] all = refl
blank_words (w ∷ ws) all =
    let own : length (word_text w) ≡ length w = ap length (own_text w (All-head IsAscii w ws all)) in
    let both : length (word_text w ++ words_text ws) ≡ length (word_text w) + length (words_text ws) =
    length-append (word_text w) (words_text ws) in
    let whole : suc (length w) + length (words_text ws) ≡ suc (length (word_text w ++ words_text ws)) = omega (arith, own, both) in
    ap (λ (x : List ℕ). (codes " " ++ blanks (length w)) ++ x) (blank_words ws (All-tail IsAscii w ws all))
    ∙ ap (λ (x : List ℕ). x ++ blanks (length (words_text ws))) (blank_first (length w))
    ∙ sym (blanks_sum (suc (length w)) (length (words_text ws)))
    ∙ ap (λ (k : ℕ). blanks k) whole

pub under : (before : List (List ℕ)) (word : List ℕ) (after : List (List ℕ)) → All IsAscii before → IsAscii word
    → IsUnder before word after
under before word after all ascii = record {
  front = (codes " " ++ words_text before) ++ codes " ";
  shown =
      ap (λ (x : List ℕ). x ++ codes "\n")
      (sym (append_assoc (codes " " ++ words_text before) (codes " " ++ word_text word) (words_text after))
      ∙ ap (λ (x : List ℕ). x ++ words_text after)
      (sym (append_assoc (codes " " ++ words_text before) (codes " ") (word_text word))
      ∙ ap (λ (x : List ℕ). ((codes " " ++ words_text before) ++ codes " ") ++ x) (own_text word ascii)));
  mark =
      let n = length (words_text before) in
      let whole : length (words_text before ++ codes " ") ≡ length (words_text before) + 1 =
      length-append (words_text before) (codes " ") in
      let more : suc (suc (length (words_text before))) ≡ suc (length (words_text before ++ codes " ")) = omega (arith, whole) in
      ap (λ (x : List ℕ). (codes " " ++ x) ++ codes " ^\n") (blank_words before all)
      ∙ ap (λ (x : List ℕ). x ++ codes " ^\n") (blank_first n)
      ∙ sym (append_assoc (blanks (suc n)) (codes " ") (codes "^\n"))
      ∙ ap (λ (k : ℕ). blanks k ++ codes "^\n") more;
}
