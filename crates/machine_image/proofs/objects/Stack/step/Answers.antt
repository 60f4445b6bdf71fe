use Rattle.std.proofs.Common.{sym, ap, ◌∙◌, arith}
use Rattle.machine_image.proofs.Lists.{stack_ends, stack_passes, stack_gives}
use Rattle.{tcap_words.specs.Stack.stack_of_word, machine_image.specs.Views.stacked}
use Rattle.machine_image.proofs.objects.Stack.step.Goals as goal

pub returns-in-Some : goal.returns-in-Some
returns-in-Some c =
    sym c.heights.invariant.left ∙ stack_gives _ _ _ c.heights.self-inside.at c.in-Some.comp (omega arith) (ap (λ w. stacked (stack_of_word w)) (sym c.entry_word.ensures) ∙ (sym c.stacked.ensures ∙ c.in-Some.is))

pub heights-preserved : goal.heights-preserved
heights-preserved c = record {
  left =
      sym (stack_passes _ _ _ c.heights.self-inside.at (omega arith) (ap (λ w. stacked (stack_of_word w)) (sym c.entry_word.ensures) ∙ (sym c.stacked.ensures ∙ c.in-None.is)))
      ∙ c.heights.invariant.left;
  size = c.heights.invariant.size;
  frame_in = c.heights.invariant.frame_in;
  within = omega arith;
}

pub returns : goal.returns
returns c =
    let ended = stack_ends _ _ _ c.heights.self-inside.at (omega (arith, c.heights.invariant.within)) in
    (sym c.heights.invariant.left ∙ ended, ended)
