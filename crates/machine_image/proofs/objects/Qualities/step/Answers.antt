use Rattle.std.proofs.Common.{sym, ap, ◌∙◌, arith}
use Rattle.machine_image.proofs.Lists.{pairs_end, pairs_pass, pairs_give}
use Rattle.{tcap_words.specs.Quality.quality_of_word, machine_image.specs.Views.listed}
use Rattle.machine_image.proofs.objects.Qualities.step.Goals as goal

pub returns-in-Some : goal.returns-in-Some
returns-in-Some c =
    sym c.places.invariant.left ∙ pairs_give _ _ _ c.places.self-inside.at c.in-Some.pair (omega arith) (ap (λ w. listed (quality_of_word w)) (sym c.entry_word.ensures) ∙ (sym c.listed.ensures ∙ c.in-Some.is))

pub places-preserved : goal.places-preserved
places-preserved c = record {
  left =
      sym (pairs_pass _ _ _ c.places.self-inside.at (omega arith) (ap (λ w. listed (quality_of_word w)) (sym c.entry_word.ensures) ∙ (sym c.listed.ensures ∙ c.in-None.is)))
      ∙ c.places.invariant.left;
  size = c.places.invariant.size;
  frame_in = c.places.invariant.frame_in;
  within = omega arith;
}

pub returns : goal.returns
returns c =
    let ended = pairs_end _ _ _ c.places.self-inside.at (omega (arith, c.places.invariant.within)) in
    (sym c.places.invariant.left ∙ ended, ended)
