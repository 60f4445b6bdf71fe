use Rattle.kernel_history.proofs.{ap, ◌∙◌, FrameAt, place_of}
use Rattle.boot_words.proofs.Fillings.{puts}
use Rattle.boot_words.proofs.boot.put_frame.Goals as goal

pub returns : goal.returns
returns c =
    puts c.args.setup.now c.requires.limits c.args.words.now (FrameAt c.args.frame) c.requires.size c.requires.is_in _ _
    (c.frame_at-at.ensures.place ∙ ap (λ s. place_of s (FrameAt c.args.frame)) c.requires.shape) cc
