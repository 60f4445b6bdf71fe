use Rattle.plain_tables.proofs.Common.{◌≡◌, ◌++◌, take, string_bytes, flat_map, quality_line}
use Rattle.plain_tables.proofs.objects.push_qualities.Given as goal

abbrev pub invariant-pairs : goal.invariant-pairs
invariant-pairs l = string_bytes l.text ≡ string_bytes l.initial.text ++ flat_map quality_line (take l.at l.qualities)
