-- What the command `sched` writes.
use Rattle.std.specs.Prelude.{◌≡◌, ◌++◌}
use Rattle.fixed_prio.specs.seq_state.specs.{ℕ, List, Result, Ok, Setting, Call}
use Rattle.fixed_prio.specs.sched_rules.specs.{Step, at_first, turns_of, calls_of as calls_of_turns, IsSchedule}
use Rattle.{sched_reader.specs.Input, sched_reader.specs.input_of, sched_reader.specs.script_reader.specs.Meaning}
use Rattle.{sched_reader.specs.script_reader.specs.calls_of, line_reader.specs.declared.cause.ReadFault.ReadFault}
use Rattle.{line_reader.specs.Lines.Fails, fixed_prio.specs.sched_rules.specs.Texts.schedule_text, fixed_prio.specs.Machines.after_calls}

-- The calls of the script: those of core 0.
abbrev pub calls_in : Meaning → List Call
calls_in script = calls_of script.lists 0

-- From the state after the script's calls the turns are the scheduler's, a machine has made the script's calls and then those of the
-- turns, and the text is that of the turns.
pub record IsMade (input : Input) (made : List Call) (written : List ℕ) : Type 0 where
  pub steps : List Step
  pub schedule : IsSchedule input.rule (at_first (after_calls input.script.setup (calls_in input.script)) input.tasks) steps
  pub calls : made ≡ calls_in input.script ++ calls_of_turns steps
  pub text : written ≡ schedule_text (turns_of steps) input.tasks

-- The text that bytes come to, on a machine that was booted with this and has made these calls: the bytes are a script with tasks after it,
-- and the text is its.
pub record IsSchedMade (source : List ℕ) (setup : Setting) (made : List Call) (written : List ℕ) : Type 0 where
  pub input : Input
  pub read : input_of source ≡ Ok input
  pub booted : setup ≡ input.script.setup
  pub is_made : IsMade input made written

-- The fault of bytes that are no such script: their first one, unless memory has run out.
abbrev pub IsSchedFault : List ℕ → ReadFault → Type 0
IsSchedFault source e = Fails e (input_of source)
