-- The rights of a capability, as numbers, bit 0 to copy it, bit 1 to use it; and what a copy and a part keep of them.
use Rattle.std.specs.Prelude.{ℕ, Bool, ◌==◌}
use Rattle.std.specs.Int.RustNames.{bit_and}
use Rattle.spk_nums.specs.Capability.{Capability}
use Rattle.spk_nums.specs.declared.calls.Call.{Call}
use Rattle.spk_nums.specs.declared.calls.Call.TheVariants.{Copy}
use Rattle.spk_nums.specs.declared.kinds.Kind.{Kind}
use Rattle.spk_nums.specs.declared.kinds.Kind.TheVariants.{Range, Link, Page}

-- neither right, the right to copy, the right to use, and both
abbrev pub neither : ℕ
neither = 0

abbrev pub right_to_copy : ℕ
right_to_copy = 1

abbrev pub right_to_use : ℕ
right_to_use = 2

abbrev pub both : ℕ
both = 3

-- whether all the rights that are needed are among these
abbrev pub has_rights : ℕ → ℕ → Bool
has_rights rights needs = bit_and rights needs == needs

-- the least rights of a capability of a kind: a link and a page have both
abbrev pub least_rights : Kind → ℕ
least_rights Link = both
least_rights Page = both
least_rights _ = neither

-- the rights that a capability of a kind keeps: those of its own that are among these; a link and a page keep both
abbrev pub kept_rights : Kind → ℕ → ℕ → ℕ
kept_rights Link own these = own
kept_rights Page own these = own
kept_rights _ own these = bit_and own these

-- the capability with those of its rights that are among these
abbrev pub kept : Capability → ℕ → Capability
kept cap these = record cap { rights = kept_rights cap.kind cap.rights these }

-- the range of n frames from f on, with the rights of the range that it is a part of
abbrev pub part_of : Capability → ℕ → ℕ → Capability
part_of range f n = record { kind = Range; frame = f; arg = n; rights = range.rights }

-- a copy that keeps both rights
abbrev pub whole_copy : ℕ → ℕ → ℕ → Call
whole_copy a t b = Copy a t b (record { 0 = both })
