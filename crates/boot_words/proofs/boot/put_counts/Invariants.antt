use Rattle.kernel_history.specs.{ℕ, ◌<◌, CountAt}
use Rattle.boot_words.specs.{Fills, IsRight}
use Rattle.boot_words.proofs.boot.put_counts.Given as goal

abbrev pub invariant-counts : goal.invariant-counts
invariant-counts l = record {
  fills : Fills l.setup l.initial.words l.words;
  right : (c : ℕ) → c < l.core → IsRight l.setup l.words (CountAt l.frame c);
}
