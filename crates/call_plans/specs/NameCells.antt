-- The names of a plan as a list.
use Rattle.std.specs.Prelude.{◌≡◌, List, length, take}
use Rattle.kernel_invariant.specs.spk_nums.specs.Listed.{IsListed, padded, padded-listed, length-listed}
use Rattle.call_plans.specs.{declared.plans.Name.Name, declared.plans.Wanted.TheVariants.Any, declared.plans.Names.TheInside.Inside}

-- an unused cell
abbrev pub blank_name : Name
blank_name = record { number = 0; wanted = Any; needs = record { 0 = 0 } }

-- the names that the cells hold
abbrev pub names_of : Inside → List Name
names_of a = take a.len a.cells

abbrev pub AreNames : Inside → Type 0
AreNames a = IsListed blank_name 4 a.len a.cells

-- the cells that hold a list of names
abbrev pub name_cells : List Name → Inside
name_cells xs = record { cells = padded blank_name 4 xs; len = length xs }

pub name_cells-back : (a : Inside) → AreNames a → name_cells (names_of a) ≡ a
name_cells-back a h =
    let same : padded blank_name 4 (take a.len a.cells) ≡ a.cells = padded-listed blank_name 4 a.len a.cells h in
    let n : length (take a.len a.cells) ≡ a.len = length-listed blank_name 4 a.len a.cells h in
    λ i. record { cells = same i; len = n i }
