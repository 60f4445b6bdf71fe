use Rattle.std.specs.Prelude.{◌≡◌, ℕ, ◌<◌, ◌≤◌, ◌^◌, List, [], ◌∷◌, length, take, Bool, ◌&&◌, nat_lt, nat_le}
use Rattle.std.specs.List.{list_all}
use Rattle.spk_nums.specs.Listed.{IsListed, padded, padded-listed, length-listed}
use Rattle.spk_nums.specs.declared.qualities.Qualities.TheInside.{Inside}

-- a pair is in range: a scheduler below 64, a quality from 1 to 16,777,215
abbrev pub PairFits : ℕ × ℕ → Type 0
PairFits p = (p.0 < 64) × (1 ≤ p.1) × (p.1 < 2 ^ 24)

-- each scheduler of the list is above s
abbrev pub IsAbove : ℕ → List (ℕ × ℕ) → Type 0
IsAbove s [] = Unit {0}
IsAbove s (x ∷ xs) = (s < x.0) × IsAbove s xs

-- a list of qualities: each pair in range, schedulers strictly ascending
abbrev pub IsQualityList : List (ℕ × ℕ) → Type 0
IsQualityList [] = Unit {0}
IsQualityList (x ∷ xs) = PairFits x × IsAbove x.0 xs × IsQualityList xs

-- whether a pair may be appended: there is room, it is in range, and its scheduler is above all others
abbrev pub takes_pair : List (ℕ × ℕ) → ℕ × ℕ → Bool
takes_pair xs p =
    nat_lt (length xs) 8 && (nat_lt p.0 64 && (nat_le 1 p.1 && (nat_lt p.1 16777216 && list_all (λ (x : ℕ × ℕ). nat_lt x.0 p.0) xs)))

-- the pairs that the cells hold
abbrev pub qualities_of : Inside → List (ℕ × ℕ)
qualities_of a = take a.len a.cells

pub record AreQualities (a : Inside) : Type 0 where
  pub listed : IsListed (0, 0) 8 a.len a.cells
  pub sorted : IsQualityList (take a.len a.cells)

-- the cells that hold a list of pairs
abbrev pub quality_cells : List (ℕ × ℕ) → Inside
quality_cells xs = record { cells = padded (0, 0) 8 xs; len = length xs }

pub quality_cells-back : (a : Inside) → AreQualities a → quality_cells (qualities_of a) ≡ a
quality_cells-back a h =
    let same : padded (0, 0) 8 (take a.len a.cells) ≡ a.cells = padded-listed (0, 0) 8 a.len a.cells h.listed in
    let n : length (take a.len a.cells) ≡ a.len = length-listed (0, 0) 8 a.len a.cells h.listed in
    λ i. record { cells = same i; len = n i }
