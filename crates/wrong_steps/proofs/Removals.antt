-- What the wrong removal makes is no history.
use Rattle.kernel_history.proofs.{refl, word_of_entry, entry_of_word, two_cores, may_follow, carried_out, not_permitted, Call}
use Rattle.wrong_steps.specs.Removals.{drawn, looking, found_after, RemovalsDrawFirst}

pub removals_draw_first : RemovalsDrawFirst
unfolding two_cores drawn looking found_after word_of_entry entry_of_word
removals_draw_first = record {
  legal = (
    (
      (
        (
          (((tt, may_follow refl refl (refl, tt) tt tt), may_follow refl refl tt tt tt), may_follow refl refl tt tt tt),
          may_follow refl refl tt tt tt,
        ),
        may_follow refl refl tt (carried_out {k = Call.Remove 1 0} refl (refl, (refl, refl)) refl) tt,
      ),
      may_follow refl refl (refl, tt) tt tt,
    ),
    may_follow refl refl tt tt tt,
  );
  refused = λ legal. not_permitted (Call.Look 0) refl legal.1.decides (λ may. may.1.1);
}
