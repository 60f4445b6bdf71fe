-- Where the mark stands.
use Rattle.std.specs.Prelude.{◌≡◌, ◌++◌, List, ◌∷◌, ℕ, length, codes}
use Rattle.fault_texts.specs.Pieces.{words_text, blanks, shown_text, mark_text}

-- As many characters stand before the mark as before the word under which it stands.
pub record IsUnder (before : List (List ℕ)) (word : List ℕ) (after : List (List ℕ)) : Type 0 where
  pub front : List ℕ
  pub shown : shown_text before (word ∷ after) ≡ front ++ word ++ words_text after ++ codes "\n"
  pub mark : mark_text before ≡ blanks (length front) ++ codes "^\n"
