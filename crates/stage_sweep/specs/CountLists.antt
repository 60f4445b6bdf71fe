use Rattle.std.specs.Prelude.{◌≡◌, pos, List, length, take}
use Rattle.stage_look.specs.spk_nums.specs.Listed.{IsListed, padded, padded-listed, length-listed}
use Rattle.stage_sweep.specs.{Counters.CountsFit, declared.count_words.CountWords.TheInside.Inside}
use Rattle.{stage_pins.specs.frame_words.specs.declared.count_word.CountWord.CountWord, stage_pins.specs.Counts.unheld}

-- an unused cell
abbrev pub blank_count : CountWord
blank_count = unheld (pos 0) 0

-- the count words that the cells hold
abbrev pub counts_of : Inside → List CountWord
counts_of a = take a.len a.cells

pub record AreCounts (a : Inside) : Type 0 where
  pub listed : IsListed blank_count 8 a.len a.cells
  pub fit : CountsFit (take a.len a.cells)

-- the cells that hold a list of count words
abbrev pub count_cells : List CountWord → Inside
count_cells xs = record { cells = padded blank_count 8 xs; len = length xs }

pub count_cells-back : (a : Inside) → AreCounts a → count_cells (counts_of a) ≡ a
count_cells-back a h =
    let same : padded blank_count 8 (take a.len a.cells) ≡ a.cells = padded-listed blank_count 8 a.len a.cells h.listed in
    let n : length (take a.len a.cells) ≡ a.len = length-listed blank_count 8 a.len a.cells h.listed in
    λ i. record { cells = same i; len = n i }
