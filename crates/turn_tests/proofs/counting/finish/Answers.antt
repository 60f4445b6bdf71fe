use Rattle.std.proofs.Common.{◌<◌, ◌∙◌, length, arith}
use Rattle.turn_tests.proofs.{Scores.counts_scores, Wins.wins_score}
use Rattle.{std.proofs.lemmas.List.get_or_default, turn_tests.specs.Counter.counter_steps}
use Rattle.turn_tests.proofs.counting.finish.Goals as goal

pub returns : goal.returns
returns c =
    let end = c.in_ok-words.ensures in
    let count = end.word_count in
    let inside : 0 < length c.in_ok-words.words.items = omega arith in
    let word = c.index.ensures ∙ get_or_default c.in_ok-words.words.items 0 c.index.result.now 0 inside ∙ end.word 0 in
    counts_scores counter_steps (λ p. p.wins) wins_score c.args.table.start end.trace end.sound c.requires.counts c.index.result.now word
    c.in_ok-words.programs.items end.program end.program_count
