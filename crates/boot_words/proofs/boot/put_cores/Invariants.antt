use Rattle.{std.proofs.Common.ℕ, std.proofs.Common.◌<◌, boot_words.specs.Filling.Fills, boot_words.specs.Filling.IsCoreRight}
use Rattle.boot_words.proofs.boot.put_cores.Given as goal

abbrev pub invariant-cores : goal.invariant-cores
invariant-cores l = record {
  fills : Fills l.setup l.initial.words l.words;
  right : (c : ℕ) → c < l.core → IsCoreRight l.setup l.words c;
}
