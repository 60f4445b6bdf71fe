use Rattle.{std.specs.Prelude.string_bytes, world_lines.proofs.TellsLaw.tells_worlds}
use Rattle.world_lines.proofs.whole.push_worlds.Goals as goal

pub returns : goal.returns
returns c =
    tells_worlds c.args.image.now c.in_ok-table.table (string_bytes c.args.text.now) (string_bytes c.push_all_worlds.new.text)
    (string_bytes c.push_all_gates.new.text) c.in_ok-table.ensures.finest c.in_ok-table.ensures.table c.in_ok-push_all_worlds.ensures
    c.in_ok-push_all_gates.ensures
