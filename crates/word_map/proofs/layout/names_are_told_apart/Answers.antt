use Rattle.std.proofs.Common.{◌≡◌, ◌∙◌, ap}
use Rattle.{word_map.specs.Word.same_word, word_map.proofs.WordLemmas.same_same, word_map.proofs.WordLemmas.same_word-true}
use Rattle.word_map.proofs.layout.names_are_told_apart.Goals as goal

pub returns : goal.returns
returns c = λ w u. (same_word-true w u, λ (same : w ≡ u). ap (λ v. same_word v u) same ∙ same_same u)
