use Rattle.seq_lookups.specs.seq_state.proofs.{refl, sym, ◌∙◌, state_of, same_by}
use Rattle.seq_memory.proofs.Stacks.{one_item, no_item}
use Rattle.seq_memory.proofs.retyping.release_stack.Goals as goal

pub returns-in-Some : goal.returns-in-Some
returns-in-Some c = rw (one_item c.args.stack.now c.in-Some.frame c.requires c.in-Some.ensures) c.begin.ensures

pub returns-in_default : goal.returns-in_default
returns-in_default c =
    rw (no_item c.args.stack.now (sym c.in_default.is ∙ c.top.ensures)) (same_by (state_of c.args.k.now) (state_of c.args.k.now) refl)
