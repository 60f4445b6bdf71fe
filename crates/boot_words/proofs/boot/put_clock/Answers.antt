use Rattle.kernel_history.proofs.{ap, ◌∙◌, refl, ClockAt, place_of}
use Rattle.boot_words.proofs.Fillings.{puts}
use Rattle.boot_words.proofs.boot.put_clock.Goals as goal

pub returns : goal.returns
returns c =
    puts c.args.setup.now c.requires.limits c.args.words.now (ClockAt) c.requires.size tt _ _
    (c.clock_at-at.ensures.place ∙ ap (λ s. place_of s (ClockAt)) c.requires.shape) refl
