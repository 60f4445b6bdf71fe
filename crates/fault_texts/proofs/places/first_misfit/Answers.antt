use Rattle.std.proofs.Common.{◌∙◌, sym, arith}
use Rattle.fault_texts.proofs.Misfits.{misfit_more, misfit_here, misfit_end}
use Rattle.fault_texts.proofs.places.first_misfit.Goals as goal

pub returns-then-not-fits-clause-value : goal.returns-then-not-fits-clause-value
returns-then-not-fits-clause-value c =
    misfit_here c.args.context.now c.args.words.now c.words.at c.words-test.true (sym c.fits.ensures ∙ c.if-not-fits.true)
    c.words.invariant.value

pub words-preserved : goal.words-preserved
words-preserved c = record {
  value =
      misfit_more c.args.context.now c.args.words.now c.words.at c.words-test.true (sym c.fits.ensures ∙ c.if-not-fits.false)
      c.words.invariant.value;
  within = omega (arith, c.words-test.true);
}

pub returns-clause-value : goal.returns-clause-value
returns-clause-value c =
    misfit_end c.args.context.now c.args.words.now c.words.at c.words-test.false c.words.invariant.value
