use Rattle.{std.specs.Prelude.string_bytes, fault_texts.proofs.Appended.space_more}
use Rattle.fault_texts.proofs.pieces.push_spaces.Goals as goal

pub loop-at-preserved : goal.loop-at-preserved
loop-at-preserved c =
    space_more c.loop-at.at _ (string_bytes c.loop-at.text) (string_bytes c.push_str.new.self) c.loop-at.invariant
    c.in_ok-push_str.ensures.bytes
