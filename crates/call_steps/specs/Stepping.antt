-- How many steps a call has made.
use Rattle.std.specs.Prelude.{ℕ, Option, Some, None}
use Rattle.step_looks.specs.call_stages.specs.declared.stages.ActiveCall.{ActiveCall}

-- how many steps the call of a core has made, if the core is in one
abbrev pub steps_made : Option ActiveCall → Option ℕ
steps_made None = None
steps_made (Some a) = Some a.steps
