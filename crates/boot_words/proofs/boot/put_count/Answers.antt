use Rattle.kernel_history.proofs.{ap, ◌∙◌, CountAt, place_of}
use Rattle.boot_words.proofs.Fillings.{puts}
use Rattle.boot_words.proofs.boot.put_count.Goals as goal

pub returns : goal.returns
returns c =
    puts c.args.setup.now c.requires.limits c.args.words.now (CountAt c.args.frame c.args.core) c.requires.size c.requires.is_in _ _
    (c.count_at-at.ensures.place ∙ ap (λ s. place_of s (CountAt c.args.frame c.args.core)) c.requires.shape) cc
