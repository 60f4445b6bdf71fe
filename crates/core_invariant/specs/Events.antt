-- What a core tells of its step, as the events of the step.
use Rattle.act_fits.specs.act_states.specs.{Option, Some, None, Reply}
use Rattle.act_fits.specs.call_stages.specs.declared.stages.Absorbed.{Absorbed}
use Rattle.act_fits.specs.call_stages.specs.declared.stages.Absorbed.TheVariants.{Going, Decided, Returned}

-- The reply that a core's step decides, and the one that it returns, as told.
abbrev pub decided_in : Absorbed → Option Reply
decided_in Going = None
decided_in (Decided r) = Some r
decided_in (Returned r) = None

abbrev pub returned_in : Absorbed → Option Reply
returned_in Going = None
returned_in (Decided r) = None
returned_in (Returned r) = Some r
