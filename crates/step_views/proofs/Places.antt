-- The name of a word by its place.
use Rattle.kernel_history.proofs.{◌≡◌, ℕ, ◌+◌, ◌*◌, ◌/◌, ◌<◌, ◌≤◌, ◌∙◌, sym, ap, arith, Word, Shape, IsShape, IsIn, place_of, has_places}
use Rattle.step_views.specs.{declared.names.WordName.WordName, Names.named, Names.IsNamed}
use Rattle.{std.proofs.Math.Nat.mul-le-mul_left, kernel_history.specs.word_map.specs.Places.core_words}

-- the word of a place is the one that has this name
pub only_named : (s : Shape) (name : WordName) (place : ℕ) (w : Word) → IsShape s → IsNamed s name place → IsIn s w
    → place_of s w ≡ place → named name ≡ w
only_named s name place w is h is_in there = (has_places s is).distinct (named name) w h.is_in is_in (h.is_there ∙ sym there)

-- a place after the rows of the cores is past all of them
pub record IsPast (s : Shape) (place row cores : ℕ) : Type 0 where
  pub rows : row * cores ≡ core_words s * s.cores
  pub past : core_words s * s.cores ≤ place

pub after_rows : (s : Shape) (place row cores : ℕ) → row ≡ core_words s → cores ≡ s.cores → 0 < row → cores ≤ place / row
    → IsPast s place row cores
after_rows s place row cores is same least past =
    let rows : row * cores ≤ row * (place / row) = mul-le-mul_left row past in
    let all : row * cores ≡ core_words s * s.cores = ap (λ n. n * cores) is ∙ ap (λ n. core_words s * n) same in
    record { rows = all; past = omega arith }
