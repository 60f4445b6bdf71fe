use Rattle.std.specs.Prelude.{ℕ, ◌^◌}
use Rattle.spk_nums.specs.declared.kinds.Kind.{Kind}
use Rattle.spk_nums.specs.declared.kinds.Kind.TheVariants.{Range, Gate, Page}

-- the least number of a capability of a kind: a gate's epoch counts from 1
abbrev pub least_arg : Kind → ℕ
least_arg Gate = 1
least_arg _ = 0

-- the end of the numbers of a capability of a kind: frames of a range, epochs of a gate, flags of a page, else 0 alone
abbrev pub end_of_arg : Kind → ℕ
end_of_arg Range = 2 ^ 24
end_of_arg Gate = 2 ^ 16
end_of_arg Page = 4
end_of_arg _ = 1
