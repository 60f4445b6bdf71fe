-- Numbers that are drawn, and things drawn one after another.
use Rattle.std.proofs.Common.{◌≡◌, ℕ, zero, suc, ◌+◌, ◌*◌, ◌/◌, ◌%◌, ◌^◌, ◌<◌, List, [], ◌∷◌, ◌++◌, length, All, refl, sym, ap, ◌∙◌, arith}
use Rattle.std.proofs.{Math.Nat.add-mul-mod_self_left, Math.Nat.div-add-mod, lemmas.Nat.mod_below, lemmas.List.Elements.All-nil}
use Rattle.{std.proofs.Common.append_assoc, std.proofs.Common.append-nil, load_maker.specs.below, load_maker.specs.repeated}
use Rattle.{std.proofs.lemmas.List.Elements.All-cons, load_maker.specs.Draws.Draw, load_maker.specs.Draws.behind}

-- what is left of a sum is what is left of it where a part was cut before
pub cut_before : (p q m : ℕ) → (p % m + q) % m ≡ (p + q) % m
cut_before p q m =
    let whole : m * (p / m) + p % m ≡ p = div-add-mod p m in
    let same : p % m + q + m * (p / m) ≡ p + q = omega (arith, whole) in
    sym (add-mul-mod_self_left (p % m + q) m (p / m)) ∙ ap (λ k. k % m) same

-- a drawn number is in its range
pub below_range : (m x : ℕ) → 0 < m → (below m x).0 < m
unfolding below
below_range m x some = mod_below (behind x / 2 ^ 33) m some

-- one more is drawn after those drawn
repeated_suc : {A : Type 0} (n : ℕ) (d : Draw A) (x : ℕ)
    → repeated (suc n) d x ≡ ((repeated n d x).0 ++ (d (repeated n d x).1).0 ∷ [], (d (repeated n d x).1).1)
unfolding repeated
repeated_suc zero d x = refl
repeated_suc (suc n) d x = ap (λ p. ((d x).0 ∷ p.0, p.1)) (repeated_suc n d (d x).1)

-- so many were drawn, and stand after the first items
pub record Drawn {A : Type 0} (d : Draw A) (first : List A) (from n : ℕ) (items : List A) (at : ℕ) : Type 0 where
  pub all : items ≡ first ++ (repeated n d from).0
  pub goes_on : at ≡ (repeated n d from).1

pub drawn_none : {A : Type 0} (d : Draw A) (first : List A) (from : ℕ) → Drawn d first from 0 first from
unfolding repeated
drawn_none d first from = record { all = sym (append-nil first); goes_on = refl }

pub drawn_more : {A : Type 0} (d : Draw A) (first : List A) (from n : ℕ) (items new : List A) (at : ℕ) (one : A) (next : ℕ)
    → Drawn d first from n items at → new ≡ items ++ one ∷ [] → one ≡ (d at).0 → next ≡ (d at).1 → Drawn d first from (n + 1) new next
drawn_more d first from n items new at one next h more_is is goes =
    let more : n + 1 ≡ suc n = omega arith in
    let step = ap (λ k. repeated k d from) more ∙ repeated_suc n d from in
    let last : one ≡ (d (repeated n d from).1).0 = is ∙ ap (λ x. (d x).0) h.goes_on in
    record {
      all =
          more_is ∙ ap (λ xs. xs ++ one ∷ []) h.all
          ∙ append_assoc first (repeated n d from).0 (one ∷ [])
          ∙ ap (λ y. first ++ ((repeated n d from).0 ++ y ∷ [])) last
          ∙ ap (λ p. first ++ p.0) (sym step);
      goes_on = goes ∙ ap (λ x. (d x).1) h.goes_on ∙ ap (λ p. p.1) (sym step);
    }

-- ---- what holds of all that are drawn

pub repeated_all : {A : Type 0} (P : A → Type 0) (d : Draw A) → ((x : ℕ) → P (d x).0) → (n x : ℕ) → All P (repeated n d x).0
unfolding repeated
repeated_all P d each zero x = All-nil P
repeated_all P d each (suc n) x = All-cons P (d x).0 (repeated n d (d x).1).0 (each x) (repeated_all P d each n (d x).1)

pub repeated_length : {A : Type 0} (d : Draw A) (n x : ℕ) → length (repeated n d x).0 ≡ n
unfolding repeated
repeated_length d zero x = refl
repeated_length d (suc n) x = ap suc (repeated_length d n (d x).1)
