-- What the wrong retype makes is no history: the frame is not flushed by core 1.
use Rattle.kernel_history.proofs.{refl, word_of_entry, flush_of_word, word_of_frame, holds_nothing, sum_below, node_refs, refs, IsLegal}
use Rattle.kernel_history.proofs.{two_cores, may_follow, carried_out, not_permitted, FrameKind, Make, Call}
use Rattle.kernel_history.specs.frame_words.specs.Core.{word_of_core}
use Rattle.wrong_steps.specs.Untypings.{typed, made, removed, flushed, scanned, untyped, RetypesSkip}

typed_legal : IsLegal two_cores typed
unfolding two_cores typed word_of_entry word_of_frame
typed_legal = (
  (((tt, may_follow refl refl (refl, tt) tt tt), may_follow refl refl tt tt tt), may_follow refl refl tt tt tt),
  may_follow refl refl tt (carried_out {k = Call.Retype 0 8 FrameKind.Kernel} refl (refl, (refl, refl)) refl) tt,
)

made_legal : IsLegal two_cores made
unfolding two_cores typed made word_of_entry
made_legal = (
  (
    (
      (
        (
          (
            (typed_legal, may_follow refl refl tt tt (record { call = Call.Retype 0 8 FrameKind.Kernel; was_decided = refl })),
            may_follow refl refl (refl, tt) tt tt,
          ),
          may_follow refl refl tt tt tt,
        ),
        may_follow refl refl tt tt tt,
      ),
      may_follow refl refl tt tt tt,
    ),
    may_follow refl refl tt tt tt,
  ),
  may_follow refl refl tt (carried_out {k = Call.Make Make.Pages 0 8 1 20} refl (refl, (refl, refl)) refl) tt,
)

pub removed_legal : IsLegal two_cores removed
unfolding two_cores typed made removed word_of_entry
removed_legal = (
  (
    (
      (
        (
          (made_legal, may_follow refl refl tt tt (record { call = Call.Make Make.Pages 0 8 1 20; was_decided = refl })),
          may_follow refl refl (refl, tt) tt tt,
        ),
        may_follow refl refl tt tt tt,
      ),
      may_follow refl refl tt tt tt,
    ),
    may_follow refl refl tt tt tt,
  ),
  may_follow refl refl tt (carried_out {k = Call.Remove 1 20} refl (refl, (refl, refl)) refl) tt,
)

flushed_legal : IsLegal two_cores flushed
unfolding two_cores typed made removed flushed
flushed_legal = (
  (
    (
      (
        (removed_legal, may_follow refl refl tt tt (record { call = Call.Remove 1 20; was_decided = refl })),
        may_follow refl refl (refl, tt) tt tt,
      ),
      may_follow refl refl tt (carried_out {k = Call.Flush} refl (refl, (refl, refl)) refl) tt,
    ),
    may_follow refl refl tt tt tt,
  ),
  may_follow refl refl tt tt (record { call = Call.Flush; was_decided = refl }),
)

scanned_legal : IsLegal two_cores scanned
unfolding two_cores typed made removed flushed scanned word_of_entry word_of_core
scanned_legal = (
  (
    (
      ((flushed_legal, may_follow refl refl (refl, tt) tt tt), may_follow refl refl tt tt tt),
      may_follow refl refl tt tt tt,
    ),
    may_follow refl refl tt tt tt,
  ),
  may_follow refl refl tt tt tt,
)

pub retypes_skip : RetypesSkip
unfolding two_cores typed made removed flushed scanned untyped flush_of_word holds_nothing sum_below node_refs refs
retypes_skip = record {
  legal = scanned_legal;
  passes = refl;
  over = refl;
  refused = λ legal. not_permitted (Call.Retype 0 8 FrameKind.Untyped) refl legal.1.decides (λ may. may.1.1);
}
