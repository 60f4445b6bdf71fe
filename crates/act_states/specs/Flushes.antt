-- The act that drops the translations which its core has cached.
use Rattle.stage_tcap.specs.{None, ℕ, Ok, Nothing as nothing}
use Rattle.stage_sweep.specs.stage_quiet.specs.Flushing.{flush_after}
use Rattle.stage_sweep.specs.stage_quiet.specs.declared.flush_mark.FlushMark.{FlushMark}
use Rattle.stage_sweep.specs.stage_quiet.specs.declared.flush_mark.FlushMark.TheVariants.{AtLoad, AtStore}
use Rattle.act_states.specs.{declared.own.OwnChange.TheVariants.Empties, declared.refusals.Refusal.TheVariants.Raced}
use Rattle.act_states.specs.{declared.work.Act.TheVariants.Flush as flush_act, declared.work.Tail.TheVariants.StoreFlush}
use Rattle.act_states.specs.{declared.work.Work.TheVariants.Act, declared.work.WorkStep.WorkStep, declared.work.WorkStep.TheVariants.Goes}
use Rattle.act_states.specs.{declared.work.WorkStep.TheVariants.Changes, WorkSteps.refuse}

-- the translations of a core are dropped
abbrev pub flushes : ℕ → WorkStep
flushes core = Goes (Act (flush_act core))

-- the load of the clock decides: the core has no translation from then on, and the stamp of its last flush is still to be stored
abbrev pub flushed_to : FlushMark → WorkStep
flushed_to (AtLoad core) = refuse Raced
flushed_to (AtStore core stamp) = Changes (Ok nothing) Empties None (StoreFlush core stamp)

abbrev pub took_flush : ℕ → ℕ → WorkStep
took_flush core found = flushed_to (flush_after (AtLoad core) found)
