use Rattle.std.specs.Prelude.{ℕ}
use Rattle.spk_nums.specs.declared.kinds.Kind.{Kind}

-- a capability as contracts see it: its kind, the frame that it names, its number, and its rights: bit 0 to copy it, bit 1 to use it
pub record Capability : Type 0 where
  pub kind : Kind
  pub frame : ℕ
  pub arg : ℕ
  pub rights : ℕ

-- the capability of this kind, on this frame, with this number and both rights
abbrev pub cap_of : Kind → ℕ → ℕ → Capability
cap_of kind frame arg = record { kind = kind; frame = frame; arg = arg; rights = 3 }
