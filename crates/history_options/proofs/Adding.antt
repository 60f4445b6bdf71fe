-- Texts and lists of replies, one piece after another.
use Rattle.open_calls.specs.kernel_rules.proofs.{◌≡◌, ℕ, suc, ◌+◌, ◌<◌, ◌≤◌, List, [], ◌∷◌, ◌++◌, Bool, length, drop, get_or, append_assoc}
use Rattle.open_calls.specs.kernel_rules.proofs.{append-nil, refl, sym, ◌∙◌, ap, subst, arith, drop_more, Setting, Call, Reply}
use Rattle.history_options.specs.{core_replies, below_replies}
use Rattle.history_options.specs.{declared.forms.Form.Form, Forms.with_form, Options.GoesOn, Options.option_of, Options.AreOptions}
use Rattle.{std.proofs.lemmas.List.drop_all, marked_history.specs.declared.marks.Line.Line, history_options.specs.Options.AddsOptions}

-- four texts after one another
pub four_more : (old a b c d first second third fourth : List ℕ) → first ≡ old ++ a → second ≡ first ++ b → third ≡ second ++ c
    → fourth ≡ third ++ d → fourth ≡ old ++ (a ++ b ++ c ++ d)
four_more old a b c d first second third fourth p q r s =
    s ∙ ap (λ (x : List ℕ). x ++ d) (r ∙ ap (λ (x : List ℕ). x ++ c) (q ∙ ap (λ (x : List ℕ). x ++ b) p))
    ∙ ap (λ (x : List ℕ). x ++ c ++ d) (append_assoc old a b)
    ∙ ap (λ (x : List ℕ). x ++ d) (append_assoc old (a ++ b) c)
    ∙ append_assoc old (a ++ b ++ c) d

-- those of one core more
pub cores_more : (n : ℕ) (old all new : List Reply) → all ≡ old ++ below_replies n → new ≡ all ++ core_replies n
    → new ≡ old ++ below_replies (n + 1)
cores_more n old all new before push =
    let next : suc n ≡ n + 1 = omega arith in
    push ∙ ap (λ (x : List Reply). x ++ core_replies n) before ∙ append_assoc old (below_replies n) (core_replies n)
    ∙ ap (λ (k : ℕ). old ++ below_replies k) next

module _ (setting : Setting) (before : List Line) (number c : ℕ) (call : Call) (form : Form) (replies : List Reply) (old : List ℕ) where
  -- with what is due of the replies from the one at i on, the text has what is due of all
  abbrev pub Adding : ℕ → List ℕ → Type 0
  Adding i text = (rest : List ℕ) → AreOptions setting before number c call form (drop i replies) rest
      → AddsOptions setting before number c call form replies old (text ++ rest)

  pub adding_more : (i : ℕ) (d : Reply) (goes : Bool) (text new : List ℕ) → i < length replies → d ≡ get_or replies i d
      → GoesOn setting before number (with_form c call form d) goes → new ≡ text ++ option_of goes (with_form c call form d)
      → Adding i text → Adding (i + 1) new
  adding_more i d goes text new lt is so push adding rest are =
      let here : d ∷ drop (i + 1) replies ≡ drop i replies =
      ap (λ (x : Reply). x ∷ drop (i + 1) replies) is ∙ sym (drop_more replies i d lt) in
      let option = option_of goes (with_form c call form d) in
      let all = subst (λ (rs : List Reply). AreOptions setting before number c call form rs (option ++ rest)) here
      (goes, rest, so, are, refl) in
      subst (AddsOptions setting before number c call form replies old)
      (sym (append_assoc text option rest) ∙ ap (λ (x : List ℕ). x ++ rest) (sym push)) (adding _ all)

  pub adding_end : (i : ℕ) (text : List ℕ) → length replies ≤ i → Adding i text
      → AddsOptions setting before number c call form replies old text
  adding_end i text past adding =
      subst (AddsOptions setting before number c call form replies old) (append-nil text)
      (adding [] (subst (λ (rs : List Reply). AreOptions setting before number c call form rs []) (sym (drop_all i replies past)) refl))
