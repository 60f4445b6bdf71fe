use Rattle.std.proofs.Common.{sym, ap, ◌∙◌, arith}
use Rattle.machine_image.proofs.Lists.{counts_end, counts_pass, counts_give}
use Rattle.{frame_words.specs.Count.count_of_word, word_map.specs.Word.CountAt, machine_image.specs.Views.word_at}
use Rattle.machine_image.proofs.image.Counts.step.Goals as goal

pub returns-in-Some : goal.returns-in-Some
returns-in-Some c =
    sym c.cores.invariant.left ∙ counts_give _ _ _ c.cores.self-inside.at c.in-Some.count (omega arith) (ap (λ d. count_of_word (word_at c.cores.self-inside.layout c.cores.self-inside.words.now (CountAt c.cores.self-inside.frame d))) (sym c.new.ensures) ∙ ap count_of_word (sym c.count_word.ensures) ∙ (sym c.unpack.ensures.value ∙ c.in-Some.is))

pub cores-preserved : goal.cores-preserved
cores-preserved c = record {
  left =
      sym (counts_pass _ _ _ c.cores.self-inside.at (omega arith) (ap (λ d. count_of_word (word_at c.cores.self-inside.layout c.cores.self-inside.words.now (CountAt c.cores.self-inside.frame d))) (sym c.new.ensures) ∙ ap count_of_word (sym c.count_word.ensures) ∙ (sym c.unpack.ensures.value ∙ c.in-None.is)))
      ∙ c.cores.invariant.left;
  size = c.cores.invariant.size;
  frame_in = c.cores.invariant.frame_in;
  within = omega arith;
}

pub returns : goal.returns
returns c =
    let ended = counts_end _ _ _ c.cores.self-inside.at (omega (arith, c.cores.invariant.within)) in
    (sym c.cores.invariant.left ∙ ended, ended)
