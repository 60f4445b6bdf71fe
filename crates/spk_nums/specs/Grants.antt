use Rattle.std.specs.Prelude.{◌≡◌, List, length, take}
use Rattle.spk_nums.specs.Listed.{IsListed, padded, padded-listed, length-listed}
use Rattle.spk_nums.specs.declared.grants.Grant.{Grant}
use Rattle.spk_nums.specs.declared.grants.Grants.TheInside.{Inside}

-- an unused cell
abbrev pub blank_grant : Grant
blank_grant = record { budget = 0; sched = 0; quality = 0 }

-- the grants that the cells hold
abbrev pub grants_of : Inside → List Grant
grants_of a = take a.len a.cells

abbrev pub AreGrants : Inside → Type 0
AreGrants a = IsListed blank_grant 8 a.len a.cells

-- the cells that hold a list of grants
abbrev pub grant_cells : List Grant → Inside
grant_cells xs = record { cells = padded blank_grant 8 xs; len = length xs }

pub grant_cells-back : (a : Inside) → AreGrants a → grant_cells (grants_of a) ≡ a
grant_cells-back a h =
    let same : padded blank_grant 8 (take a.len a.cells) ≡ a.cells = padded-listed blank_grant 8 a.len a.cells h in
    let n : length (take a.len a.cells) ≡ a.len = length-listed blank_grant 8 a.len a.cells h in
    λ i. record { cells = same i; len = n i }
