-- The counts that a call has acquired as a list.
use Rattle.std.specs.Prelude.{◌≡◌, pos, List, length, take}
use Rattle.word_map.specs.spk_nums.specs.Listed.{IsListed, padded, padded-listed, length-listed}
use Rattle.stage_pins.specs.{Counts.unheld, declared.held.Acquired.Acquired, declared.held.AcquiredCounts.TheInside.Inside}

-- an unused cell
abbrev pub blank_count : Acquired
blank_count = record { pin = record { frame = 0; core = 0; word = unheld (pos 0) 0 }; change = pos 0 }

-- the counts that the cells hold
abbrev pub counts_of : Inside → List Acquired
counts_of a = take a.len a.cells

-- the cells after the counts are unused
abbrev pub AreCounts : Inside → Type 0
AreCounts a = IsListed blank_count 4 a.len a.cells

-- the cells that hold a list of counts
abbrev pub count_cells : List Acquired → Inside
count_cells xs = record { cells = padded blank_count 4 xs; len = length xs }

pub count_cells-back : (a : Inside) → AreCounts a → count_cells (counts_of a) ≡ a
count_cells-back a h =
    let same : padded blank_count 4 (take a.len a.cells) ≡ a.cells = padded-listed blank_count 4 a.len a.cells h in
    let n : length (take a.len a.cells) ≡ a.len = length-listed blank_count 4 a.len a.cells h in
    λ i. record { cells = same i; len = n i }
