use Rattle.kernel_history.proofs.{ap, ◌∙◌, FlushAt, place_of}
use Rattle.boot_words.proofs.Fillings.{puts}
use Rattle.boot_words.proofs.boot.put_flush.Goals as goal

pub returns : goal.returns
returns c =
    puts c.args.setup.now c.requires.limits c.args.words.now (FlushAt c.args.core) c.requires.size c.requires.is_in _ _
    (c.flush_at-at.ensures.place ∙ ap (λ s. place_of s (FlushAt c.args.core)) c.requires.shape) cc
