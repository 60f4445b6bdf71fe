-- A stack of at most 16 frames, the newest first, in cells that have the oldest first.
use Rattle.std.specs.Prelude.{◌≡◌, ℕ, List, length, take, reverse}
use Rattle.std.proofs.{Common.ap, Common.◌∙◌, lemmas.List.reverse-reverse}
use Rattle.kernel_invariant.specs.spk_nums.specs.Listed.{IsListed, padded, padded-listed, length-listed}
use Rattle.seq_state.specs.declared.stack.Stack.TheInside.{Inside}

-- The frames that the cells hold, the newest first.
abbrev pub stacked : Inside → List ℕ
stacked a = reverse (take a.len a.cells)

-- The cells hold up to 16 frames, and are blank after them.
abbrev pub IsStack : Inside → Type 0
IsStack a = IsListed 0 16 a.len a.cells

-- The cells that hold a list of frames.
abbrev pub stack_cells : List ℕ → Inside
stack_cells xs = record { cells = padded 0 16 (reverse xs); len = length (reverse xs) }

pub stack_cells-back : (a : Inside) → IsStack a → stack_cells (stacked a) ≡ a
stack_cells-back a h =
    let again : reverse (reverse (take a.len a.cells)) ≡ take a.len a.cells = reverse-reverse (take a.len a.cells) in
    let same : padded 0 16 (reverse (reverse (take a.len a.cells))) ≡ a.cells =
    ap (padded 0 16) again ∙ padded-listed 0 16 a.len a.cells h in
    let n : length (reverse (reverse (take a.len a.cells))) ≡ a.len = ap length again ∙ length-listed 0 16 a.len a.cells h in
    λ i. record { cells = same i; len = n i }
