-- What the wrong acquisition makes is no history: the counts sum to one reference less than stands.
use Rattle.kernel_history.proofs.{◌≡◌, ◌<◌, inl, inr, refl, arith, whole_copy, word_of_entry, word_of_count, count_of_word, word_of_frame}
use Rattle.kernel_history.proofs.{sum_below, node_refs, refs, RepresentCounts, IsLegal, state_after, last_left, two_cores, may_follow}
use Rattle.kernel_history.proofs.{carried_out, FrameKind, Make, Call}
use Rattle.wrong_steps.specs.Overwrites.{typed, made, copying, frozen_counts, copied, given_back, AcquisitionsOverwrite}

typed_legal : IsLegal two_cores typed
unfolding two_cores typed word_of_entry word_of_frame
typed_legal = (
  (((tt, may_follow refl refl (refl, tt) tt tt), may_follow refl refl tt tt tt), may_follow refl refl tt tt tt),
  may_follow refl refl tt (carried_out {k = Call.Retype 0 8 FrameKind.Kernel} refl (refl, (refl, refl)) refl) tt,
)

made_legal : IsLegal two_cores made
unfolding two_cores typed made word_of_entry word_of_count
made_legal = (
  (
    (
      (
        (
          (
            (
              (
                (typed_legal, may_follow refl refl tt tt (record { call = Call.Retype 0 8 FrameKind.Kernel; was_decided = refl })),
                may_follow refl refl (refl, tt) tt tt,
              ),
              may_follow refl refl tt tt tt,
            ),
            may_follow refl refl tt tt tt,
          ),
          may_follow refl refl tt tt tt,
        ),
        may_follow refl refl tt tt tt,
      ),
      may_follow refl refl tt (carried_out {k = Call.Make Make.Table 0 8 1 20} refl (refl, (refl, refl)) refl) tt,
    ),
    may_follow refl refl tt tt tt,
  ),
  may_follow refl refl tt tt (record { call = Call.Make Make.Table 0 8 1 20; was_decided = refl }),
)

copying_legal : IsLegal two_cores copying
unfolding two_cores typed made copying word_of_entry word_of_count sum_below node_refs refs
copying_legal = (
  (
    (
      (((made_legal, may_follow refl refl (refl, omega arith) tt tt), may_follow refl refl tt tt tt), may_follow refl refl tt tt tt),
      may_follow refl refl tt tt tt,
    ),
    may_follow refl refl tt tt tt,
  ),
  may_follow refl refl tt tt tt,
)

frozen_legal : IsLegal two_cores frozen_counts
unfolding two_cores typed made copying frozen_counts word_of_entry word_of_count sum_below node_refs refs
frozen_legal = (
  (
    (
      (
        (((copying_legal, may_follow refl refl (refl, tt) tt tt), may_follow refl refl tt tt tt), may_follow refl refl tt tt tt),
        may_follow refl refl tt tt tt,
      ),
      may_follow refl refl tt tt tt,
    ),
    may_follow refl refl tt tt tt,
  ),
  may_follow refl refl tt (record {
    call = Call.Retype 0 8 FrameKind.Untyped;
    is_open = refl;
    permitted = (refl, inr (inr (inr (inl (refl, refl)))));
    justified = tt;
  }) tt,
)

copied_legal : IsLegal two_cores copied
unfolding two_cores typed made copying frozen_counts copied word_of_entry word_of_count
copied_legal = (
  (
    (
      (frozen_legal, may_follow refl refl tt tt tt),
      may_follow refl refl tt (carried_out {k = whole_copy 20 1 21} refl (refl, (refl, refl)) refl) tt,
    ),
    may_follow refl refl tt tt tt,
  ),
  may_follow refl refl tt tt (record { call = whole_copy 20 1 21; was_decided = refl }),
)

given_legal : IsLegal two_cores given_back
unfolding two_cores typed made copying frozen_counts copied given_back word_of_count
given_legal = (
  ((copied_legal, may_follow refl refl tt tt tt), may_follow refl refl tt tt tt),
  may_follow refl refl tt tt (record { call = Call.Retype 0 8 FrameKind.Untyped; was_decided = refl }),
)

-- The count words sum to 1, and there are 2 references.
one_too_few : RepresentCounts (last_left two_cores given_back) (state_after two_cores given_back) → ⊥
unfolding two_cores typed made copying frozen_counts copied given_back word_of_entry word_of_count count_of_word sum_below node_refs refs
one_too_few counts =
    let frame : 8 < 32 = omega arith in
    let sum : 1 ≡ 2 = (counts 8 frame).sum in
    omega (arith, sum)

pub acquisitions_overwrite : AcquisitionsOverwrite
unfolding two_cores typed made copying frozen_counts copied given_back
acquisitions_overwrite = record { legal = given_legal; out = (refl, refl); refused = one_too_few }
