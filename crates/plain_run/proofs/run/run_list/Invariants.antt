use Rattle.plain_tables.specs.kernel_history.specs.{◌≡◌, string_bytes, State}
use Rattle.{plain_kernel.specs.Step.IsReached, plain_run.proofs.PlainRuns.Midway}
use Rattle.plain_run.proofs.run.run_list.Given as goal

abbrev pub invariant-calls : goal.invariant-calls
invariant-calls l = record {
  index : l.index ≡ l.call-index;
  mid : (s : State) → IsReached l.setup l.initial.kernel s → Midway l.setup s l.core l.calls (string_bytes l.initial.text) l.call-index
      l.kernel (string_bytes l.text);
}
