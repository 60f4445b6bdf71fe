use Rattle.std.proofs.Common.{inl, inr, arith, sym, subst}
use Rattle.boot_words.proofs.Fillings.{fills_both, frame_kept}
use Rattle.{std.proofs.lemmas.Bool.cases_eq, boot_words.specs.Filling.IsFrameRight}
use Rattle.boot_words.proofs.boot.put_frames.Goals as goal

pub frames-preserved : goal.frames-preserved
frames-preserved c = record {
  fills = fills_both c.args.setup.now c.args.words.now c.frames.words
      c.put_whole_frame.new.words c.frames.invariant.fills c.put_whole_frame.ensures.fills;
  right = λ f h. elim (cases_eq f c.frames.frame) [
    | inl last ↦ subst (IsFrameRight c.args.setup.now c.put_whole_frame.new.words) (sym last)
        (subst (IsFrameRight c.args.setup.now c.put_whole_frame.new.words) c.new.ensures c.put_whole_frame.ensures.right)
    | inr before ↦ frame_kept c.args.setup.now c.frames.words c.put_whole_frame.new.words f
        c.put_whole_frame.ensures.fills (omega arith) (c.frames.invariant.right f (omega arith))
  ];
}

pub returns-clause-right : goal.returns-clause-right
returns-clause-right c = λ f h. c.frames.invariant.right f (omega arith)
