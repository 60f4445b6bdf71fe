use Rattle.kernel_history.specs.word_map.specs.Word.{LiveAt}
use Rattle.boot_words.proofs.Fillings.{fills_both, frame_kept, core_kept, all_right}
use Rattle.boot_words.proofs.boot.put_all.Goals as goal

pub returns-clause-right : goal.returns-clause-right
returns-clause-right c =
    let setup = c.args.setup.now in
    let fills = fills_both setup c.put_cores.new.words c.put_lives.new.words
    c.put_clock.new.words c.put_lives.ensures.fills c.put_clock.ensures.fills in
    let all = fills_both setup c.put_frames.new.words c.put_cores.new.words c.put_clock.new.words c.put_cores.ensures.fills fills in
    all_right setup c.put_clock.new.words
    (λ f h. frame_kept setup c.put_frames.new.words c.put_clock.new.words f all h (c.put_frames.ensures.right f h))
    (λ d h. core_kept setup c.put_cores.new.words c.put_clock.new.words d fills h (c.put_cores.ensures.right d h))
    (λ l h. c.put_clock.ensures.fills.kept (LiveAt l) h (c.put_lives.ensures.right l h))
    c.put_clock.ensures.right
