-- The first word that does not fit is found word by word.
use Rattle.std.proofs.Common.{◌≡◌, ℕ, zero, suc, ◌+◌, ◌<◌, ◌≤◌, true, false, List, [], ◌∷◌, length, drop, refl, sym, ◌∙◌, ap, arith}
use Rattle.fault_texts.specs.{misfit_from, first_misfit}
use Rattle.line_forms.specs.{declared.context.Context.Context, Fitting.fits}
use Rattle.{std.proofs.lemmas.List.drop_all, script_tokens.specs.declared.token.Token.Token, line_reader.specs.Arguments.texts}

-- the word at a place, and those after it
cut : (ts : List Token) (at : ℕ) → at < length ts → (t : Token) × (drop at ts ≡ t ∷ drop (at + 1) ts)
cut [] at low = absurd (omega (arith, low))
cut (t ∷ ts) zero low = (t, refl)
cut (t ∷ ts) (suc at) low =
    let rest = cut ts at (omega (arith, low)) in
    let next : suc at + 1 ≡ suc (at + 1) = omega arith in
    (rest.0, rest.1 ∙ ap (λ (k : ℕ). rest.0 ∷ drop k (t ∷ ts)) (sym next))

module _ (context : Context) (words : List Token) (at : ℕ) where
  from : List Token → ℕ
  from ts = misfit_from context (texts words) at (texts ts)

  pub misfit_more : at < length words → fits context (texts words) at ≡ true
      → misfit_from context (texts words) at (texts (drop at words)) ≡ first_misfit context (texts words)
      → misfit_from context (texts words) (at + 1) (texts (drop (at + 1) words)) ≡ first_misfit context (texts words)
  unfolding from
  misfit_more low fine before =
      let step : from (drop at words) ≡ misfit_from context (texts words) (at + 1) (texts (drop (at + 1) words)) =
      ap from (cut words at low).1 ∙ rw fine refl in
      sym step ∙ before

  pub misfit_here : at < length words → fits context (texts words) at ≡ false
      → misfit_from context (texts words) at (texts (drop at words)) ≡ first_misfit context (texts words)
      → at ≡ first_misfit context (texts words)
  unfolding from
  misfit_here low bad before =
      let step : from (drop at words) ≡ at = ap from (cut words at low).1 ∙ rw bad refl in
      sym step ∙ before

  pub misfit_end : length words ≤ at → misfit_from context (texts words) at (texts (drop at words)) ≡ first_misfit context (texts words)
      → at ≡ first_misfit context (texts words)
  unfolding from
  misfit_end past before = sym (ap from (drop_all at words past)) ∙ before
