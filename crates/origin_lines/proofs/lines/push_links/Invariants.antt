use Rattle.std.proofs.Common.{◌≡◌, ◌++◌, take, string_bytes, flat_map}
use Rattle.origin_lines.specs.Lines.{link_text}
use Rattle.origin_lines.proofs.lines.push_links.Given as goal

abbrev pub invariant-links : goal.invariant-links
invariant-links l = string_bytes l.text ≡ string_bytes l.initial.text ++ flat_map link_text (take l.link-index l.links)
