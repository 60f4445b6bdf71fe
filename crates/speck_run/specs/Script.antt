-- What a command takes, a script or another input, what is none, and what the command makes of it.
use Rattle.std.specs.Prelude.{◌≡◌}
use Rattle.trace_run.specs.lone_kernel.specs.core_invariant.specs.{ℕ, List, Result, Ok, Err, list_of}
use Rattle.explain_run.specs.check_run.specs.history_reader.specs.{History, history_of}
use Rattle.one_core.specs.sched_reader.specs.{Input as Sched_input, input_of as sched_input_of}
use Rattle.load_maker.specs.script_reader.specs.{Meaning, script_of}
use Rattle.load_maker.specs.script_reader.specs.line_reader.specs.{declared.cause.Cause.Cause, Lines.First_fault}
use Rattle.explain_run.specs.ends_reader.specs.Inputs.{Input, input_of}
use Rattle.speck_run.specs.declared.words.Command.TheVariants.{Replay, Trace, Draw, Run, Plain, Print, Ends, Sched, Check, Origins, Worlds}
use Rattle.{trace_run.specs.lone_kernel.specs.kernel_history.specs.Text.plain_text, ends_run.specs.core_runs.specs.TakenSteps.TakenSteps}
use Rattle.{trace_run.specs.lone_kernel.specs.GivenSteps.GivenSteps, trace_run.specs.GivenTrace.GivenTrace}
use Rattle.{draw_run.specs.GivenDrawing.GivenDrawing, origins_run.specs.GivenOrigins.GivenOrigins}
use Rattle.{explain_run.specs.check_run.specs.Checked.IsJudged}
use Rattle.{explain_run.specs.Explained.IsExplained, load_maker.specs.script_printer.specs.Printing.printed}
use Rattle.{one_core.specs.Scheduled.SchedTrace}
use Rattle.{speck_run.specs.Worlds.GivenWorlds, speck_run.specs.declared.words.Command.Command}
use Rattle.{speck_run.specs.declared.words.Command.TheVariants.Explain, speck_run.specs.Ends.EndsText}

-- The bytes are this script.
abbrev pub IsScript : List ℕ → Meaning → Type 0
IsScript bytes script = script_of bytes ≡ Ok script

-- The bytes are no script, and this is their first fault: its line and its cause.
abbrev pub IsFirstFault : List ℕ → ℕ → Cause → Type 0
IsFirstFault bytes line cause = script_of bytes ≡ Err (record { line = line; cause = cause })

-- The bytes are such as this reading takes.
pub record IsTaken {I : Type 0} (read : List ℕ → Result I First_fault) (bytes : List ℕ) : Type 0 where
  pub input : I
  pub is_input : read bytes ≡ Ok input

-- The bytes are such, and the text is this of what was read.
pub record IsMade {I : Type 0} (read : List ℕ → Result I First_fault) (Is : I → List ℕ → Type 0) (bytes text : List ℕ) : Type 0 where
  pub input : I
  pub is_input : read bytes ≡ Ok input
  pub is_text : Is input text

-- What a command takes: `ends` a script with endpoint calls, `sched` one with tasks, `check` a given history, `explain` any bytes, each
-- other a script.
abbrev pub InputOf : Command → Type 0
InputOf Ends = Input
InputOf Sched = Sched_input
InputOf Check = History
InputOf (Explain reading) = List ℕ
InputOf command = Meaning

-- What bytes are under a command, or their first fault.
abbrev pub read_by : (command : Command) → List ℕ → Result (InputOf command) First_fault
read_by Ends bytes = input_of bytes
read_by Sched bytes = sched_input_of bytes
read_by Check bytes = history_of bytes
read_by (Explain reading) bytes = Ok bytes
read_by command bytes = script_of bytes

-- What a command makes of what it takes: `replay` the text of given steps, `trace` that of each of them, `draw` the picture of a page,
-- `run` the text of taken ones, `plain` that of its calls made alone, `print` the printed form, `ends` that of lists and of endpoint
-- calls after them, `sched` that of the schedule of its tasks, `check` that of the verdict, `origins` the origins after given steps,
-- `worlds` the worlds that are then apart, `explain` what is told of what another command would read.
abbrev pub IsAnswer : (command : Command) → InputOf command → List ℕ → Type 0
IsAnswer Replay script text = GivenSteps script.setup script.lists script.order text
IsAnswer Trace script text = GivenTrace script.version script.setup script.lists script.order text
IsAnswer (Draw page) script text = GivenDrawing page script.setup script.lists script.order text
IsAnswer Run script text = TakenSteps script.setup script.lists text
IsAnswer Plain script text = text ≡ plain_text script.setup (list_of script.lists)
IsAnswer Print script text = text ≡ printed script
IsAnswer Ends input text = EndsText input.script.setup input.script.lists input.asks text
IsAnswer Sched input text = SchedTrace input text
IsAnswer Check history text = IsJudged history text
IsAnswer Origins script text = GivenOrigins script.setup script.lists script.order text
IsAnswer Worlds script text = GivenWorlds script.setup script.lists script.order text
IsAnswer (Explain reading) bytes text = IsExplained reading bytes text

-- The command makes calls by threads, and asks the gate.
abbrev pub UsesThreads : Command → Type 0
UsesThreads Run = Unit {0}
UsesThreads Ends = Unit {0}
UsesThreads command = ⊥

-- The bytes are such as the command takes.
abbrev pub AreInput : Command → List ℕ → Type 0
AreInput command bytes = IsTaken (read_by command) bytes

-- The bytes are none that the command takes, and this is their first fault.
abbrev pub IsFaultOf : Command → List ℕ → ℕ → Cause → Type 0
IsFaultOf command bytes line cause = read_by command bytes ≡ Err (record { line = line; cause = cause })

-- What a command makes of bytes.
abbrev pub MadeBy : Command → List ℕ → List ℕ → Type 0
MadeBy command bytes text = IsMade (read_by command) (IsAnswer command) bytes text
