use Rattle.std.proofs.Common.{◌≡◌, ◌-◌, ◌≤◌, drop, length}
use Rattle.{fault_texts.specs.misfit_from, fault_texts.specs.first_misfit, line_reader.specs.Arguments.texts}
use Rattle.fault_texts.proofs.places.first_misfit.Given as goal

abbrev pub invariant-words : goal.invariant-words
invariant-words l = record {
  value : misfit_from l.context (texts l.words) l.at (texts (drop l.at l.words)) ≡ first_misfit l.context (texts l.words);
  within : l.at ≤ length l.words;
}

abbrev pub decreases-words : goal.decreases-words
decreases-words l = length l.words - l.at
