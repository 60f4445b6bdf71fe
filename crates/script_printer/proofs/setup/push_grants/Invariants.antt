use Rattle.std.proofs.Common.{◌≡◌, ◌++◌, take, string_bytes, flat_map}
use Rattle.script_printer.specs.Printing.{grant_line}
use Rattle.script_printer.proofs.setup.push_grants.Given as goal

abbrev pub invariant-loop-grant : goal.invariant-loop-grant
invariant-loop-grant l = string_bytes l.text ≡ string_bytes l.initial.text ++ flat_map grant_line (take l.grant-index l.grants)
