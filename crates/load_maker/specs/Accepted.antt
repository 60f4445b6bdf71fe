-- What holds of the script of every number.
use Rattle.std.specs.Prelude.{◌≡◌, ℕ, All, Ok}
use Rattle.{script_reader.specs.AtMost, script_reader.specs.script_of, spk_nums.specs.CallLimits.InLimits}
use Rattle.{script_printer.specs.Law.IsWithin, load_maker.specs.Loads.script_made, load_maker.specs.Loads.load_text}

-- the script of a number is within the limits, so is each of its calls, no list has more than 503 of them, and its text says it
pub record IsAccepted (n : ℕ) : Type 0 where
  pub within : IsWithin (script_made n)
  pub limits : All (All InLimits) (script_made n).lists
  pub few : All (AtMost 503) (script_made n).lists
  pub reads : script_of (load_text n) ≡ Ok (script_made n)
