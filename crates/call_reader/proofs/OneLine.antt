-- The words that were cut are those of the bytes, so their call is that of the bytes.
use Rattle.std.proofs.Common.{◌≡◌, ℕ, List, [], ◌∷◌, map, Result, refl, sym, ◌∙◌, ap}
use Rattle.script_tokens.specs.{Word, views, words_of, ending_of}
use Rattle.{spk_nums.specs.declared.calls.Call.Call, script_tokens.specs.declared.token.Token.Token}
use Rattle.{script_tokens.specs.declared.scanning.Ending.Ending, line_reader.specs.declared.cause.Cause.Cause}
use Rattle.{line_reader.specs.Arguments.texts, call_reader.specs.OneLine.call_by, call_reader.specs.OneLine.call_of}

-- the texts of tokens are those of the words that they are
texts_of_views : (ts : List Token) → map (λ (w : Word). w.text) (views ts) ≡ texts ts
texts_of_views [] = refl
texts_of_views (t ∷ ts) = ap (λ l. t.text.now ∷ l) (texts_of_views ts)

pub called_by : (source : List ℕ) (ts : List Token) (e : Ending) (r : Result Call Cause) → views ts ≡ words_of source
    → e ≡ ending_of source → r ≡ call_by (texts ts) e → call_of source ≡ r
called_by source ts e r words ends is =
    let texts_are : map (λ (w : Word). w.text) (words_of source) ≡ texts ts = ap (map (λ (w : Word). w.text)) (sym words) ∙ texts_of_views ts in
    (λ i. call_by (texts_are i) (sym ends i)) ∙ sym is
