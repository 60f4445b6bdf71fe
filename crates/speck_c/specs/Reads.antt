-- How C reads the parts of a finished machine.
use Rattle.std.specs.Prelude.{◌≡◌, ℕ, Option, Some, None, Result, Ok, Err}
use Rattle.final_parts.specs.machine_image.specs.Views.{ImageOf}
use Rattle.final_parts.specs.{Kinds.fault_code, declared.parts.NoPart.NoPart}

module _ {P : Type 0} where
  -- The part is written, and 0 answered; or the number of why there is none, and nothing is written.
  abbrev pub Reads : Result P NoPart → P → ℕ → P → Type 0
  Reads (Ok p) old answer now = (answer ≡ 0) × (now ≡ p)
  Reads (Err e) old answer now = (answer ≡ fault_code e) × (now ≡ old)

  -- The same of a finished machine, where one is held; else 254 is answered.
  abbrev pub ReadsFrom : Option ImageOf → (ImageOf → Result P NoPart) → P → ℕ → P → Type 0
  ReadsFrom None part old answer now = (answer ≡ 254) × (now ≡ old)
  ReadsFrom (Some i) part old answer now = Reads (part i) old answer now
