-- The texts of the words from a place on, and up to a place.
use Rattle.std.proofs.Common.{◌≡◌, ℕ, ◌-◌, List, length, take, drop, sym, ap, ◌∙◌}
use Rattle.std.proofs.lemmas.List.{take_rest, take-map, drop-map}
use Rattle.{script_tokens.specs.declared.token.Token.Token, line_reader.specs.Arguments.texts}

pub texts_before : (words : List Token) (place : ℕ) → texts (take place words) ≡ take place (texts words)
texts_before words place = sym (take-map (λ (t : Token). t.text.now) place words)

pub texts_from : (words : List Token) (place : ℕ) → texts (take (length words - place) (drop place words)) ≡ drop place (texts words)
texts_from words place = ap texts (take_rest words place) ∙ sym (drop-map (λ (t : Token). t.text.now) place words)
