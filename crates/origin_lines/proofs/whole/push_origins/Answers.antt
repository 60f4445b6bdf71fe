use Rattle.{std.specs.Prelude.string_bytes, origin_lines.proofs.Telling.tells}
use Rattle.origin_lines.proofs.whole.push_origins.Goals as goal

pub returns : goal.returns
returns c = tells c.args.origins.now (string_bytes c.args.text.now) (string_bytes c.push_nodes.new.text) c.in_ok-push_nodes.ensures
