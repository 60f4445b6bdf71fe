use Rattle.plain_tables.proofs.Common.{◌≡◌, ◌++◌, take, reverse, string_bytes, flat_map, number}
use Rattle.plain_tables.proofs.objects.push_stack.Given as goal

abbrev pub invariant-heights : goal.invariant-heights
invariant-heights l = string_bytes l.text ≡ string_bytes l.initial.text ++ flat_map number (take l.height (reverse l.stack))
