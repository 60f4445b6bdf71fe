use Rattle.plain_tables.specs.kernel_history.specs.{map, string_bytes, list_of}
use Rattle.plain_run.specs.Plain.{RunsLists}
use Rattle.plain_run.proofs.run.run_lists.Given as goal

abbrev pub invariant-cores : goal.invariant-cores
invariant-cores l = RunsLists l.setup l.initial.kernel l.kernel (list_of (map (λ v. v.items) l.lists)) l.core
    (string_bytes l.initial.text) (string_bytes l.text)
