-- What the wrong refusal makes is no history: its words do not represent the references.
use Rattle.kernel_history.proofs.{◌<◌, inl, refl, sym, ap, arith, is_some, false≢true, whole_copy, word_of_entry, word_of_count}
use Rattle.kernel_history.proofs.{count_of_word, sum_below, node_refs, refs, RepresentCounts, IsLegal, hold_mark, state_after, last_left}
use Rattle.kernel_history.proofs.{two_cores, may_follow, carried_out}
use Rattle.wrong_steps.specs.Refusals.{acquired_count, filled_meanwhile, left_held, RefusalsHold}

acquired_legal : IsLegal two_cores acquired_count
unfolding two_cores acquired_count word_of_entry word_of_count sum_below node_refs refs
acquired_legal = (
  (
    (
      (((tt, may_follow refl refl (refl, omega arith) tt tt), may_follow refl refl tt tt tt), may_follow refl refl tt tt tt),
      may_follow refl refl tt tt tt,
    ),
    may_follow refl refl tt tt tt,
  ),
  may_follow refl refl tt tt tt,
)

filled_legal : IsLegal two_cores filled_meanwhile
unfolding two_cores acquired_count filled_meanwhile word_of_entry
filled_legal = (
  (
    (
      (
        (
          ((acquired_legal, may_follow refl refl (refl, omega arith) tt tt), may_follow refl refl tt tt tt),
          may_follow refl refl tt tt tt,
        ),
        may_follow refl refl tt tt tt,
      ),
      may_follow refl refl tt tt tt,
    ),
    may_follow refl refl tt (carried_out {k = whole_copy 0 1 20} refl (refl, (refl, refl)) refl) tt,
  ),
  may_follow refl refl tt tt (record { call = whole_copy 0 1 20; was_decided = refl }),
)

held_legal : IsLegal two_cores left_held
unfolding two_cores acquired_count filled_meanwhile left_held word_of_entry
held_legal = (
  (
    filled_legal,
    may_follow refl refl tt (record {
      call = whole_copy 1 1 20;
      is_open = refl;
      permitted = (refl, tt);
      justified = record {
        at = inl (refl, refl);
        reads = refl;
        own = 0;
        has_read = refl;
        changed = λ e. omega (arith, e);
      };
    }) tt,
  ),
  may_follow refl refl tt tt (record { call = whole_copy 1 1 20; was_decided = refl }),
)

still_held : RepresentCounts (last_left two_cores left_held) (state_after two_cores left_held) → ⊥
unfolding two_cores acquired_count filled_meanwhile left_held word_of_entry word_of_count count_of_word sum_below node_refs refs
still_held counts =
    let frame : 0 < 32 = omega arith in
    let word : 0 < 2 = omega arith in
    false≢true (sym (ap (λ h. is_some (hold_mark h)) ((counts 0 frame).unheld 0 0 word)))

pub refusals_hold : RefusalsHold
unfolding two_cores acquired_count filled_meanwhile left_held
refusals_hold = record { legal = held_legal; out = (refl, refl); refused = still_held }
