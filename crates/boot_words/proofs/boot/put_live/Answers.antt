use Rattle.kernel_history.proofs.{ap, ◌∙◌, LiveAt, place_of}
use Rattle.boot_words.proofs.Fillings.{puts}
use Rattle.boot_words.proofs.boot.put_live.Goals as goal

pub returns : goal.returns
returns c =
    puts c.args.setup.now c.requires.limits c.args.words.now (LiveAt c.args.number) c.requires.size c.requires.is_in _ _
    (c.live_at-at.ensures.place ∙ ap (λ s. place_of s (LiveAt c.args.number)) c.requires.shape) cc
