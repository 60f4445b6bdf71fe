-- What a script with tasks after it comes to on a machine of one core.
use Rattle.std.specs.Prelude.{◌≡◌, ◌∷◌, ◌++◌}
use Rattle.core_kernel.specs.flight_laws.specs.core_invariant.specs.{ℕ, List, [], Ok, HasCalls, Trace}
use Rattle.sched_start.specs.sched_rules.specs.{Progress, Step, at_first, turns_of, calls_of, IsSchedule}
use Rattle.sched_run.specs.sched_reader.specs.{Input, input_of}
use Rattle.{core_kernel.specs.flight_laws.specs.Histories.IsHistory, one_core_laws.specs.Plainly.IsPlain}
use Rattle.{sched_start.specs.sched_rules.specs.Texts.schedule_text, sched_run.specs.sched_laws.specs.Charging.TurnsCharge}
use Rattle.{sched_run.specs.fixed_prio.specs.Machines.after_calls, sched_run.specs.Made.calls_in}

-- Where the schedule of an input begins: in the state after the script's calls.
abbrev pub begins_at : Input → Progress
begins_at input = at_first (after_calls input.script.setup (calls_in input.script)) input.tasks

-- There is one history of the machine that has the script's calls and then those of the turns, and nothing else. Its replies are the
-- sequential kernel's. The turns are those of the schedule that begins in the state after the script's calls, the ticks of each are
-- exactly those charged, or given back, in it, and the text is that of the turns.
pub record SchedTrace (input : Input) (text : List ℕ) : Type 0 where
  pub trace : Trace
  pub history : IsHistory input.script.setup trace
  pub steps : List Step
  pub calls : HasCalls ((calls_in input.script ++ calls_of steps) ∷ []) trace
  pub plain : IsPlain input.script.setup trace
  pub schedule : IsSchedule input.rule (begins_at input) steps
  pub charges : TurnsCharge input.rule (begins_at input) steps
  pub is_text : text ≡ schedule_text (turns_of steps) input.tasks

-- The bytes are a script with tasks after it, and the text is that of its schedule.
pub record IsSchedText (source text : List ℕ) : Type 0 where
  pub input : Input
  pub is_input : input_of source ≡ Ok input
  pub is_text : SchedTrace input text
