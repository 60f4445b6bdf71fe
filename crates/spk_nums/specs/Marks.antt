use Rattle.std.specs.Prelude.{ℕ, ◌+◌, ◌-◌, ◌<◌, ◌==◌, nat_lt, Option, Some, None, if◌then◌else◌}

-- a mark is none, or that of a core
abbrev pub MarkFits : Option ℕ → Type 0
MarkFits None = Unit {0}
MarkFits (Some core) = core < 8

-- a mark's number in a word: 0 for none, else the core's number plus 1
abbrev pub number_of_mark : Option ℕ → ℕ
number_of_mark None = 0
number_of_mark (Some core) = core + 1

-- the mark of a number, where there is such a core
abbrev pub mark_of_number : ℕ → Option (Option ℕ)
mark_of_number n = if n == 0 then Some None else if nat_lt n 9 then Some (Some (n - 1)) else None
