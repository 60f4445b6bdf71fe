-- What the wrong retype makes is no history: a count word is still frozen.
use Rattle.kernel_history.proofs.{◌<◌, refl, sym, ap, arith, is_some, false≢true, word_of_entry, word_of_count, count_of_word}
use Rattle.kernel_history.proofs.{word_of_frame, sum_below, node_refs, refs, RepresentCounts, IsLegal, hold_mark, state_after, last_left}
use Rattle.kernel_history.proofs.{two_cores, may_follow, carried_out, FrameKind, Call}
use Rattle.wrong_steps.specs.Clearings.{made_user, counts_frozen, left_frozen, RetypesLeaveCounts}

made_legal : IsLegal two_cores made_user
unfolding two_cores made_user word_of_entry word_of_frame
made_legal = (
  (((tt, may_follow refl refl (refl, tt) tt tt), may_follow refl refl tt tt tt), may_follow refl refl tt tt tt),
  may_follow refl refl tt (carried_out {k = Call.Retype 0 8 FrameKind.User} refl (refl, (refl, refl)) refl) tt,
)

frozen_legal : IsLegal two_cores counts_frozen
unfolding two_cores made_user counts_frozen word_of_entry word_of_frame word_of_count sum_below node_refs refs
frozen_legal = (
  (
    (
      (
        (
          (
            (
              (
                (
                  (made_legal, may_follow refl refl tt tt (record { call = Call.Retype 0 8 FrameKind.User; was_decided = refl })),
                  may_follow refl refl (refl, tt) tt tt,
                ),
                may_follow refl refl tt tt tt,
              ),
              may_follow refl refl tt tt tt,
            ),
            may_follow refl refl tt tt tt,
          ),
          may_follow refl refl tt tt tt,
        ),
        may_follow refl refl tt tt tt,
      ),
      may_follow refl refl tt tt tt,
    ),
    may_follow refl refl tt tt tt,
  ),
  may_follow refl refl tt tt tt,
)

left_legal : IsLegal two_cores left_frozen
unfolding two_cores made_user counts_frozen left_frozen word_of_entry word_of_frame sum_below node_refs refs
left_legal = (
  (
    (frozen_legal, may_follow refl refl tt (carried_out {k = Call.Retype 0 8 FrameKind.Untyped} refl (refl, (refl, refl)) refl) tt),
    may_follow refl refl tt tt tt,
  ),
  may_follow refl refl tt tt (record { call = Call.Retype 0 8 FrameKind.Untyped; was_decided = refl }),
)

still_frozen : RepresentCounts (last_left two_cores left_frozen) (state_after two_cores left_frozen) → ⊥
unfolding two_cores made_user counts_frozen left_frozen word_of_count count_of_word sum_below node_refs refs
still_frozen counts =
    let frame : 8 < 32 = omega arith in
    let word : 0 < 2 = omega arith in
    false≢true (sym (ap (λ h. is_some (hold_mark h)) ((counts 8 frame).unheld 0 0 word)))

pub retypes_leave_counts : RetypesLeaveCounts
unfolding two_cores made_user counts_frozen left_frozen
retypes_leave_counts = record { legal = left_legal; out = (refl, refl); refused = still_frozen }
