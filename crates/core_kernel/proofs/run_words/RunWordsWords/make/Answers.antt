use Rattle.std.proofs.Common.{◌≡◌, Some, sym, subst}
use Rattle.call_steps.specs.core_words.specs.Due.{due_of}
use Rattle.core_kernel.proofs.RunSteps.{next_due, due_inside, same_size, run_on}
use Rattle.core_kernel.proofs.run_words.RunWordsWords.make.Goals as goal

pub make-requires : goal.make-requires
make-requires g c =
    let p = g.W.TurnWords.program c.self.inside.words in
    let due = subst (λ w. due_of (g.W.TurnWords.program w).state ≡ Some c.args.op) (sym c.self.view_is) c.requires.due in record {
      next = next_due p.state c.args.op due;
      inside = due_inside p.state c.args.op c.self.invariant.fits due;
      size = same_size p.state;
    }

pub invariant_of-self : goal.invariant_of-self
invariant_of-self g c =
    let p = g.W.TurnWords.program c.self.inside.words in
    let due = subst (λ w. due_of (g.W.TurnWords.program w).state ≡ Some c.args.op) (sym c.self.view_is) c.requires.due in
    run_on p (g.W.TurnWords.program c.make.new.self) c.args.op c.make.result _ _ c.self.invariant due c.make.ensures.goes
    c.make.ensures.told

pub returns-clause-fits : goal.returns-clause-fits
returns-clause-fits g c = (invariant_of-self g c).fits
