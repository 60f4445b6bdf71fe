use Rattle.kernel_history.specs.{ℕ, ◌<◌, EntryAt}
use Rattle.boot_words.specs.{Fills, IsRight}
use Rattle.boot_words.proofs.boot.put_entries.Given as goal

abbrev pub invariant-entries : goal.invariant-entries
invariant-entries l = record {
  fills : Fills l.setup l.initial.words l.words;
  right : (i : ℕ) → i < l.entry → IsRight l.setup l.words (EntryAt l.frame i);
}
