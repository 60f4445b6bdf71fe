use Rattle.kernel_history.proofs.{ap, ◌∙◌, EntryAt, place_of}
use Rattle.boot_words.proofs.Fillings.{puts}
use Rattle.boot_words.proofs.boot.put_entry.Goals as goal

pub returns : goal.returns
returns c =
    puts c.args.setup.now c.requires.limits c.args.words.now (EntryAt c.args.frame c.args.entry) c.requires.size c.requires.is_in _ _
    (c.entry_at-at.ensures.place ∙ ap (λ s. place_of s (EntryAt c.args.frame c.args.entry)) c.requires.shape) cc
