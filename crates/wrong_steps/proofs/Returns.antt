-- What the wrong return makes is no history: its words do not represent the references.
use Rattle.kernel_history.proofs.{◌≡◌, ◌<◌, refl, arith, word_of_entry, word_of_count, count_of_word, word_of_live, sum_below, node_refs}
use Rattle.kernel_history.proofs.{refs, RepresentCounts, IsLegal, state_after, last_left, two_cores, may_follow, carried_out, Call}
use Rattle.wrong_steps.specs.Returns.{gate_step, call_step, ret_step, kept, ReturnsKeep}

gate_legal : IsLegal two_cores gate_step
unfolding two_cores gate_step word_of_entry word_of_count sum_below node_refs refs
gate_legal = (
  (
    (
      (
        (
          (((tt, may_follow refl refl (refl, tt) tt tt), may_follow refl refl tt tt tt), may_follow refl refl tt tt tt),
          may_follow refl refl tt tt tt,
        ),
        may_follow refl refl tt tt tt,
      ),
      may_follow refl refl tt tt tt,
    ),
    may_follow refl refl tt tt tt,
  ),
  may_follow refl refl tt (carried_out {k = Call.Gate 3 1 20} refl (refl, (refl, refl)) refl) tt,
)

call_legal : IsLegal two_cores call_step
unfolding two_cores gate_step call_step word_of_entry word_of_count word_of_live sum_below node_refs refs
call_legal = (
  (
    (
      (
        (
          (
            (
              (gate_legal, may_follow refl refl tt tt tt),
              may_follow refl refl tt tt (record { call = Call.Gate 3 1 20; was_decided = refl }),
            ),
            may_follow refl refl (refl, tt) tt tt,
          ),
          may_follow refl refl tt tt tt,
        ),
        may_follow refl refl tt tt tt,
      ),
      may_follow refl refl tt tt tt,
    ),
    may_follow refl refl tt tt tt,
  ),
  may_follow refl refl tt (carried_out {k = Call.Call 20} refl (refl, (refl, refl)) refl) tt,
)

ret_legal : IsLegal two_cores ret_step
unfolding two_cores gate_step call_step ret_step word_of_entry word_of_count sum_below node_refs refs
ret_legal = (
  (
    (
      (
        (
          (call_legal, may_follow refl refl tt tt tt),
          may_follow refl refl tt tt (record { call = Call.Call 20; was_decided = refl }),
        ),
        may_follow refl refl (refl, tt) tt tt,
      ),
      may_follow refl refl tt tt tt,
    ),
    may_follow refl refl tt tt tt,
  ),
  may_follow refl refl tt (carried_out {k = Call.Ret} refl (refl, (refl, refl)) refl) tt,
)

kept_legal : IsLegal two_cores kept
unfolding two_cores gate_step call_step ret_step kept word_of_count
kept_legal = (
  (ret_legal, may_follow refl refl tt tt tt),
  may_follow refl refl tt tt (record { call = Call.Ret; was_decided = refl }),
)

-- The count word says 6, and the references are 5.
one_too_many : RepresentCounts (last_left two_cores kept) (state_after two_cores kept) → ⊥
unfolding two_cores gate_step call_step ret_step kept word_of_entry word_of_count count_of_word sum_below node_refs refs
one_too_many counts =
    let frame : 3 < 32 = omega arith in
    let sum : 6 ≡ 5 = (counts 3 frame).sum in
    omega (arith, sum)

pub returns_keep : ReturnsKeep
unfolding two_cores gate_step call_step ret_step kept
returns_keep = record { legal = kept_legal; out = (refl, refl); refused = one_too_many }
