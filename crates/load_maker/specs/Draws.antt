-- Numbers drawn one after another, each from the one before.
use Rattle.std.specs.Prelude.{ℕ, zero, suc, ◌+◌, ◌*◌, ◌/◌, ◌%◌, ◌^◌, List, [], ◌∷◌}

-- the number after a number
unfoldable pub behind : ℕ → ℕ
behind x = (x * 6364136223846793005 + 1442695040888963407) % 2 ^ 64

-- a way to draw: from the number at which drawing stands, what is drawn, and the number at which drawing then stands
abbrev pub Draw : Type 0 → Type 0
Draw A = ℕ → A × ℕ

-- a number below m
unfoldable pub below : ℕ → Draw ℕ
below m x = ((behind x / 2 ^ 33) % m, behind x)

-- nothing more is drawn
abbrev pub done : {A : Type 0} → A → Draw A
done a x = (a, x)

-- one is drawn, and then another that goes by what the first was
infixl 10 ◌>>=◌
abbrev pub ◌>>=◌ : {A B : Type 0} → Draw A → (A → Draw B) → Draw B
(d >>= f) x = f (d x).0 (d x).1

-- so many are drawn, one after another
unfoldable pub repeated : {A : Type 0} → ℕ → Draw A → Draw (List A)
repeated zero d = done []
repeated (suc n) d = do
  first ← d
  rest ← repeated n d
  done (first ∷ rest)
