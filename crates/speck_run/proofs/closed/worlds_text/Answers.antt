use Rattle.{std.proofs.Common.[], std.proofs.Common.subst, std.proofs.Common.string_bytes, world_lines.specs.Telling.TellsWorlds}
use Rattle.speck_run.proofs.closed.worlds_text.Goals as goal

pub returns : goal.returns
returns c =
    subst (λ m. TellsWorlds m [] (string_bytes c.push_worlds.new.text)) c.image_of.ensures
    (subst (λ old. TellsWorlds c.image_of.result old (string_bytes c.push_worlds.new.text)) c.new-text.ensures.bytes
    c.in_ok-push_worlds.ensures)
