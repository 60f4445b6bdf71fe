-- Lists of count words keep their counts within their ranges.
use Rattle.std.proofs.Common.{◌≡◌, ℕ, ◌+◌, ◌<◌, ◌≤◌, List, [], ◌∷◌, ◌++◌, length, take, get_or, zero, suc, None, arith, slice_set}
use Rattle.stage_sweep.specs.{Counters.CountsFit, CountLists.AreCounts, CountLists.blank_count}
use Rattle.{std.proofs.Common.slice_get, std.proofs.Common.get_or-take, std.proofs.lemmas.Option.slice_get_past}
use Rattle.{std.proofs.lemmas.List.take_more_set, stage_look.specs.spk_nums.specs.Listed.length-listed}
use Rattle.{stage_look.specs.spk_nums.proofs.Cells.added}
use Rattle.{stage_pins.specs.frame_words.specs.Count.NumberFits, stage_pins.specs.frame_words.specs.declared.count_word.CountWord.CountWord}
use Rattle.{stage_sweep.specs.declared.count_words.CountWords.TheInside.Inside}

counts_more : (xs : List CountWord) (v : CountWord) → CountsFit xs → NumberFits v.count → CountsFit (xs ++ v ∷ [])
counts_more [] v h n = (n, tt)
counts_more (x ∷ xs) v h n = (h.0, counts_more xs v h.1 n)

-- a count word put into the first unused cell is added to the list
pub filled : (a : Inside) (at : ℕ) (v : CountWord) → at ≡ a.len → a.len < 8 → AreCounts a
    → NumberFits v.count → AreCounts record { cells = slice_set a.cells at v; len = a.len + 1 }
filled a at v is room h n = record {
  listed = added blank_count 8 a.len at a.cells v is room h.listed;
  fit = rw (is, take_more_set a.cells a.len v (omega (arith, room, h.listed.whole))) (counts_more _ v h.fit n);
}

one_fits : (xs : List CountWord) (k : ℕ) (d : CountWord) → k < length xs → CountsFit xs → NumberFits (get_or xs k d).count
one_fits [] k d below h = absurd (omega (arith, below))
one_fits (x ∷ xs) zero d below h = h.0
one_fits (x ∷ xs) (suc k) d below h = one_fits xs k d (omega (arith, below)) h.1

-- each count of the list in some cells is within its range
pub cell_fits : (a : Inside) (k : ℕ) (d : CountWord) → k < a.len → AreCounts a → NumberFits (get_or a.cells k d).count
cell_fits a k d below h =
    let n : length (take a.len a.cells) ≡ a.len = length-listed blank_count 8 a.len a.cells h.listed in
    let at : get_or (take a.len a.cells) k d ≡ get_or a.cells k d = get_or-take a.len a.cells k d below in
    rw at at (one_fits (take a.len a.cells) k d (omega (arith, below, n)) h.fit)

-- past the list's end there is none
pub past_none : (a : Inside) (k : ℕ) → a.len ≤ k → AreCounts a → slice_get (take a.len a.cells) k ≡ None
past_none a k past h =
    let n : length (take a.len a.cells) ≡ a.len = length-listed blank_count 8 a.len a.cells h.listed in
    slice_get_past (take a.len a.cells) k (omega (arith, past, n))
