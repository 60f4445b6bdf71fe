-- What the wrong touch makes is no history.
use Rattle.kernel_history.proofs.{refl, false≢true, word_of_entry, entry_of_word, two_cores, neither, none, may_follow, not_permitted, Call}
use Rattle.wrong_steps.specs.Touches.{entered_touch, touched, TouchesFindNoSlot}

pub touches_find_no_slot : TouchesFindNoSlot
unfolding two_cores entered_touch touched word_of_entry entry_of_word
touches_find_no_slot = record {
  legal = (tt, may_follow refl refl (refl, tt) tt tt);
  refused = λ legal. not_permitted (Call.Touch 0) refl legal.1.decides (λ may. neither false≢true none may.1);
}
