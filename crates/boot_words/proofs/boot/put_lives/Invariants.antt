use Rattle.{kernel_history.specs.ℕ, kernel_history.specs.◌<◌, kernel_history.specs.LiveAt, boot_words.specs.Fills, boot_words.specs.IsRight}
use Rattle.boot_words.proofs.boot.put_lives.Given as goal

abbrev pub invariant-numbers : goal.invariant-numbers
invariant-numbers l = record {
  fills : Fills l.setup l.initial.words l.words;
  right : (i : ℕ) → i < l.number → IsRight l.setup l.words (LiveAt i);
}
