use Rattle.std.specs.Prelude.{◌≡◌, ℕ, ◌-◌, ◌≤◌, List, ◌++◌, length, take, drop, replicate}
use Rattle.std.proofs.Common.{sym, ap, ◌∙◌, arith}
use Rattle.std.proofs.lemmas.List.{length-take-le, take-append-drop}

-- an array of `room` cells holds a list in its first `len` cells, and the cells after them are blank
pub record IsListed {A : Type 0} (blank : A) (room len : ℕ) (cells : List A) : Type 0 where
  pub most : len ≤ room
  pub whole : length cells ≡ room
  pub rest : drop len cells ≡ replicate (room - len) blank

-- the cells that hold a list: its items, then blanks up to the room
abbrev pub padded : {A : Type 0} → A → ℕ → List A → List A
padded blank room xs = xs ++ replicate (room - length xs) blank

-- the list that an array holds gives the array's cells back
pub padded-listed : {A : Type 0} (blank : A) (room len : ℕ) (cells : List A)
    → IsListed blank room len cells → padded blank room (take len cells) ≡ cells
padded-listed blank room len cells h =
    let n : length (take len cells) ≡ len = length-take-le len cells (omega (arith, h.most, h.whole)) in
    ap (λ k. take len cells ++ replicate (room - k) blank) n ∙ ap (λ ys. take len cells ++ ys) (sym h.rest) ∙ take-append-drop len cells

-- and its length back
pub length-listed : {A : Type 0} (blank : A) (room len : ℕ) (cells : List A) → IsListed blank room len cells → length (take len cells) ≡ len
length-listed blank room len cells h = length-take-le len cells (omega (arith, h.most, h.whole))
