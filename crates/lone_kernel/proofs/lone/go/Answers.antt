use Rattle.{std.proofs.Common.refl, lone_kernel.proofs.OneStep.makes_turn}
use Rattle.lone_kernel.proofs.lone.go.Goals as goal

pub returns : goal.returns
returns c = record {
  goes = makes_turn _ _ _ _ _ _ _ _ _ _ c.next_op-op.ensures.step c.perform-found.ensures.found c.perform-found.ensures.left c.told.ensures
      c.absorb_to.ensures.told c.absorb_to.ensures.state refl c.decisions_in.ensures refl;
  fits = c.absorb_to.ensures.fits;
  fewer = c.absorb_to.ensures.fewer;
  step = c.next_op-op.ensures.step;
  below = c.next_op-op.ensures.below;
  found = c.perform-found.ensures.found;
}
