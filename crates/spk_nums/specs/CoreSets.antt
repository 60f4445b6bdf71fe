use Rattle.std.specs.Prelude.{ℕ, Bool, ◌==◌}
use Rattle.std.specs.Int.{bit_at}
use Rattle.spk_nums.specs.declared.core_set.CoreSet.{CoreSet}

-- whether a set of cores, bit c for core c, has a core
abbrev pub has_core : CoreSet → ℕ → Bool
has_core set core = bit_at set.0 core == 1
