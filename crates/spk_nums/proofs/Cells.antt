use Rattle.std.proofs.Common.{◌≡◌, ℕ, ◌+◌, ◌-◌, ◌<◌, Bool, true, false, ◌&&◌, List, [], ◌∷◌, ◌++◌}
use Rattle.std.proofs.Common.{length, take, drop, replicate, refl, sym, ap, ◌∙◌, arith, nat_lt, nat_le}
use Rattle.std.specs.Prelude.{slice_set}
use Rattle.std.specs.List.{list_all}
use Rattle.std.proofs.lemmas.List.{drop-drop, drop-set-lt, drop-replicate, length-set, take_more_set}
use borrow.Author.Tests.{ltb-true, leb-true}
use Rattle.spk_nums.specs.Listed.{IsListed, length-listed}
use Rattle.spk_nums.specs.Qualities.{AreQualities, IsAbove, IsQualityList, PairFits, takes_pair}
use Rattle.spk_nums.specs.declared.qualities.Qualities.TheInside.{Inside}

-- an item put into the first blank cell leaves the cells after it blank
pub added : {A : Type 0} (blank : A) (room len at : ℕ) (cells : List A) (x : A) → at ≡ len → len < room → IsListed blank room len cells
    → IsListed blank room (len + 1) (slice_set cells at x)
added blank room len at cells x is small h = rw is record {
  most = omega (arith, small);
  whole = length-set cells len x ∙ h.whole;
  rest = drop-set-lt (len + 1) cells len x (omega arith) ∙ sym (drop-drop 1 len cells) ∙ ap (drop 1) h.rest
      ∙ drop-replicate 1 (room - len) blank ∙ ap (λ k. replicate k blank) (omega (arith, small));
}

-- each scheduler of the list is below n
abbrev pub IsBelow : ℕ → List (ℕ × ℕ) → Type 0
IsBelow n [] = Unit {0}
IsBelow n (x ∷ xs) = (x.0 < n) × IsBelow n xs

above_more : (s : ℕ) (xs : List (ℕ × ℕ)) (p : ℕ × ℕ) → IsAbove s xs → s < p.0 → IsAbove s (xs ++ p ∷ [])
above_more s [] p h below = (below, tt)
above_more s (x ∷ xs) p h below = (h.0, above_more s xs p h.1 below)

-- a pair in range and above all others keeps a list of qualities sorted
pub appended : (xs : List (ℕ × ℕ)) (p : ℕ × ℕ) → IsQualityList xs → PairFits p → IsBelow p.0 xs → IsQualityList (xs ++ p ∷ [])
appended [] p h fits below = (fits, tt, tt)
appended (x ∷ xs) p h fits below = (h.0, above_more x.0 xs p h.1 below.0, appended xs p h.2 fits below.1)

-- what the test of a pair tells
pub record MayAppend (xs : List (ℕ × ℕ)) (p : ℕ × ℕ) : Type 0 where
  pub room : length xs < 8
  pub fits : PairFits p
  pub below : IsBelow p.0 xs

both : (a b : Bool) → (a && b) ≡ true → (a ≡ true) × (b ≡ true)
both true b h = (refl, h)
both false b h = absurd (cc)

all_below : (xs : List (ℕ × ℕ)) (n : ℕ) → list_all (λ (x : ℕ × ℕ). nat_lt x.0 n) xs ≡ true → IsBelow n xs
all_below [] n h = tt
all_below (x ∷ xs) n h = let b = both (nat_lt x.0 n) (list_all (λ (x : ℕ × ℕ). nat_lt x.0 n) xs) h in
    (ltb-true x.0 n b.0, all_below xs n b.1)

pub taken : (xs : List (ℕ × ℕ)) (p : ℕ × ℕ) → takes_pair xs p ≡ true → MayAppend xs p
taken xs p h =
    let a = both (nat_lt (length xs) 8) _ h in
    let b = both (nat_lt p.0 64) _ a.1 in
    let c = both (nat_le 1 p.1) _ b.1 in
    let d = both (nat_lt p.1 16777216) _ c.1 in
    record {
      room = ltb-true (length xs) 8 a.0;
      fits =
          (ltb-true p.0 64 b.0, leb-true 1 p.1 c.0, ltb-true p.1 16777216 d.0);
      below = all_below xs p.0 d.1;
    }

-- a pair that may be appended keeps the cells of a list of qualities
pub filled : (a : Inside) (at : ℕ) (p : ℕ × ℕ) → at ≡ a.len → AreQualities a → takes_pair (take a.len a.cells) p ≡ true
    → AreQualities record { cells = slice_set a.cells at p; len = a.len + 1 }
filled a at p is h test =
    let may = taken (take a.len a.cells) p test in
    let n : length (take a.len a.cells) ≡ a.len = length-listed (0, 0) 8 a.len a.cells h.listed in
    let room : a.len < 8 = omega (arith, n, may.room) in
    record {
      listed = added (0, 0) 8 a.len at a.cells p is room h.listed;
      sorted = rw (is, take_more_set a.cells a.len p (omega (arith, room, h.listed.whole))) (appended _ p h.sorted may.fits may.below);
    }
