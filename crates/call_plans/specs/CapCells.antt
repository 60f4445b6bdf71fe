-- The capabilities to which the names of a call have led, as a list.
use Rattle.std.specs.Prelude.{◌≡◌}
use Rattle.kernel_invariant.specs.kernel_rules.specs.{List, length, take, Capability, cap_of, Range}
use Rattle.kernel_invariant.specs.spk_nums.specs.Listed.{IsListed, padded, padded-listed, length-listed}
use Rattle.call_plans.specs.declared.found.Caps.TheInside.{Inside}

-- an unused cell
abbrev pub blank_cap : Capability
blank_cap = cap_of Range 0 0

-- the capabilities that the cells hold
abbrev pub caps_of : Inside → List Capability
caps_of a = take a.len a.cells

abbrev pub AreCaps : Inside → Type 0
AreCaps a = IsListed blank_cap 4 a.len a.cells

-- the cells that hold a list of capabilities
abbrev pub cap_cells : List Capability → Inside
cap_cells xs = record { cells = padded blank_cap 4 xs; len = length xs }

pub cap_cells-back : (a : Inside) → AreCaps a → cap_cells (caps_of a) ≡ a
cap_cells-back a h =
    let same : padded blank_cap 4 (take a.len a.cells) ≡ a.cells = padded-listed blank_cap 4 a.len a.cells h in
    let n : length (take a.len a.cells) ≡ a.len = length-listed blank_cap 4 a.len a.cells h in
    λ i. record { cells = same i; len = n i }
