use Rattle.std.proofs.Common.{sym, ◌∙◌, arith}
use Rattle.machine_image.proofs.Lists.{held_ends, held_passes, held_gives}
use Rattle.machine_image.proofs.nodes.Held.step.Goals as goal

pub returns-in-Some : goal.returns-in-Some
returns-in-Some c =
    sym c.numbers.invariant.left ∙ held_gives _ _ _ c.numbers.self-inside.at c.in-Some.cap (omega arith) (sym c.cap_under.ensures ∙ c.in-Some.is)

pub numbers-preserved : goal.numbers-preserved
numbers-preserved c = record {
  left =
      sym (held_passes _ _ _ c.numbers.self-inside.at (omega arith) (sym c.cap_under.ensures ∙ c.in-None.is))
      ∙ c.numbers.invariant.left;
  size = c.numbers.invariant.size;
  frame_in = c.numbers.invariant.frame_in;
  within = omega arith;
}

pub returns : goal.returns
returns c =
    let ended = held_ends _ _ _ c.numbers.self-inside.at (omega (arith, c.numbers.invariant.within)) in
    (sym c.numbers.invariant.left ∙ ended, ended)
