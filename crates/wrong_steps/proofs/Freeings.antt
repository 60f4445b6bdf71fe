-- What the wrong removal makes is no history: the place is filled while core 1 may still use what stood there.
use Rattle.kernel_history.proofs.{refl, arith, whole_copy, word_of_entry, entry_of_word, IsLegal, two_cores, may_follow, carried_out}
use Rattle.wrong_steps.specs.Freeings.{freed, looked_up, filled_at_once, RemovalsFree}
use Rattle.{kernel_history.proofs.not_permitted, kernel_history.proofs.Call, kernel_history.specs.Scenes.range_word}

freed_legal : IsLegal two_cores freed
unfolding two_cores range_word freed word_of_entry
freed_legal = (
  (
    (
      (
        (
          (
            (
              (((tt, may_follow refl refl (refl, tt) tt tt), may_follow refl refl tt tt tt), may_follow refl refl (refl, tt) tt tt),
              may_follow refl refl tt tt tt,
            ),
            may_follow refl refl tt tt tt,
          ),
          may_follow refl refl tt tt tt,
        ),
        may_follow refl refl tt tt tt,
      ),
      may_follow refl refl tt (carried_out {k = Call.Remove 1 0} refl (refl, (refl, refl)) refl) tt,
    ),
    may_follow refl refl tt tt tt,
  ),
  may_follow refl refl tt tt (record { call = Call.Remove 1 0; was_decided = refl }),
)

looked_legal : IsLegal two_cores looked_up
unfolding two_cores range_word freed looked_up word_of_entry
looked_legal = (
  (
    (((freed_legal, may_follow refl refl (refl, omega arith) tt tt), may_follow refl refl tt tt tt), may_follow refl refl tt tt tt),
    may_follow refl refl tt tt tt,
  ),
  may_follow refl refl tt tt tt,
)

pub removals_free : RemovalsFree
unfolding two_cores range_word freed looked_up filled_at_once word_of_entry entry_of_word
removals_free = record {
  legal = looked_legal;
  refused = λ legal. not_permitted (whole_copy 1 1 0) refl legal.1.decides (λ may. may.1.1);
}
