use Rattle.{std.proofs.Common.◌≡◌, std.proofs.Common.◌++◌, std.proofs.Common.string_bytes, table_report.specs.Shown.cores_text}
use Rattle.table_report.proofs.rest.push_cores.Given as goal

abbrev pub invariant-cores : goal.invariant-cores
invariant-cores l = string_bytes l.text ≡ string_bytes l.initial.text ++ cores_text l.ends l.core
