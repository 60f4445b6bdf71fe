-- The theorem on the summary of given steps.
use Rattle.trace_run.specs.lone_kernel.specs as low
use Rattle.std.specs.Prelude.{◌≡◌}
use low.core_invariant.specs.{ℕ, List, string_bytes, Call, Item, Setting, Trace, state_after, decisions_of, HasCalls, Follows}
use Rattle.speck_run.specs.{declared.summary.Summed.Summed, declared.summary.Summed.TheVariants.Done}
use Rattle.speck_run.specs.{declared.summary.Summed.TheVariants.NoScript, Script.IsScript, Script.IsFirstFault}
use low.{kernel_rules.specs.Laws.ticks, flight.specs.Made.ready_after, flight_laws.specs.Histories.IsHistory}
use Rattle.{load_maker.specs.script_reader.specs.Readings.Meaning, load_summary.specs.Summaries.summary_text}

-- There is one trace that is a history of the machine, has the calls of the lists once and in order, and follows the order; and the
-- text is the summary of its decisions, with the total of the ticks in the state that it leaves.
pub record GivenSummary (setup : Setting) (lists : List (List Call)) (items : List Item) (text : List ℕ) : Type 0 where
  pub trace : Trace
  pub history : IsHistory setup trace
  pub calls : HasCalls lists trace
  pub order : Follows (ready_after setup) lists items trace
  pub is_text : text ≡ summary_text (decisions_of trace) (ticks (state_after setup trace))

-- The bytes are a script, and the text is the summary of its steps.
pub record IsSummaryOf (bytes text : List ℕ) : Type 0 where
  pub script : Meaning
  pub is_script : IsScript bytes script
  pub is_text : GivenSummary script.setup script.lists script.order text

-- What became of bytes that were to be summed up.
abbrev pub IsSummedUp : List ℕ → Summed → Type 0
IsSummedUp bytes (Done text) = IsSummaryOf bytes (string_bytes text)
IsSummedUp bytes (NoScript line cause) = IsFirstFault bytes line cause
