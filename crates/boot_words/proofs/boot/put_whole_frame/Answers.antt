use Rattle.kernel_history.specs.{EntryAt, FrameAt}
use Rattle.boot_words.proofs.boot.put_whole_frame.Goals as goal

pub returns-clause-right : goal.returns-clause-right
returns-clause-right c =
    let f = c.args.frame in
    record {
      entries = λ i h. c.put_counts.ensures.fills.kept (EntryAt f i) (c.requires.is_in, h)
          (c.put_frame.ensures.fills.kept (EntryAt f i) (c.requires.is_in, h) (c.put_entries.ensures.right i h));
      kind = c.put_counts.ensures.fills.kept (FrameAt f) c.requires.is_in c.put_frame.ensures.right;
      counts = c.put_counts.ensures.right;
    }
