-- What `explain` writes, beside what the command that it names writes of the same bytes.
use Rattle.std.specs.Prelude.{◌≡◌, ◌++◌, ℕ, List}
use Rattle.speck_run.specs.declared.words.Command.TheVariants.{Print, Ends, Sched, Check, Explain}
use Rattle.speck_run.specs.Script.{MadeBy, AreInput, IsFaultOf}
use Rattle.{load_maker.specs.script_reader.specs.line_reader.specs.declared.cause.Cause.Cause}
use Rattle.{explain_run.specs.history_options.specs.marked_history.specs.declared.marks.Verdict.TheVariants.Legal}
use Rattle.{explain_run.specs.check_run.specs.Texts.verdict_text, explain_run.specs.Explained.accepted_text}
use Rattle.{explain_run.specs.line_forms.specs.declared.context.Reading.Reading, speck_run.specs.declared.words.Command.Command}
use Rattle.{speck_run.specs.Top.script_line}

-- The command that reads such bytes.
abbrev pub named : Reading → Command
named Reading.Script = Print
named Reading.Ends = Ends
named Reading.Sched = Sched
named Reading.History = Check

-- The text begins so.
pub record BeginsWith (front text : List ℕ) : Type 0 where
  pub rest : List ℕ
  pub is : text ≡ front ++ rest

-- Of bytes that the command refuses, what is explained begins with the line that the command writes of them.
pub record IsOfFault (r : Reading) (bytes text : List ℕ) : Type 0 where
  pub begins : (line : ℕ) (cause : Cause) → IsFaultOf (named r) bytes line cause → BeginsWith (script_line line cause) text

-- Of a given history: first what `check` writes of it, and of a legal one that alone.
pub record TellsVerdict (bytes text : List ℕ) : Type 0 where
  pub verdict : List ℕ
  pub made : MadeBy Check bytes verdict
  pub begins : BeginsWith verdict text
  pub alone : (decided : ℕ) → verdict ≡ verdict_text (Legal decided) → text ≡ verdict

-- Of bytes that it takes: that they are taken; of a given history the verdict.
abbrev pub TellsTaken : Reading → List ℕ → List ℕ → Type 0
TellsTaken Reading.History bytes text = TellsVerdict bytes text
TellsTaken r bytes text = text ≡ accepted_text r

-- What `explain` makes of bytes goes by what the command that it names makes of them.
pub record GoesByCommand (r : Reading) (bytes text : List ℕ) : Type 0 where
  pub refused : IsOfFault r bytes text
  pub taken : AreInput (named r) bytes → TellsTaken r bytes text
