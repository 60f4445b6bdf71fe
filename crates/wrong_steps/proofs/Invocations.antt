-- What the wrong call through a gate makes is no history.
use Rattle.kernel_history.proofs.{refl, word_of_entry, comp_of_word, word_of_count, word_of_live, sum_below, node_refs, refs, IsLegal}
use Rattle.kernel_history.proofs.{two_cores, may_follow, carried_out, not_permitted, Call}
use Rattle.wrong_steps.specs.Invocations.{gated, calling, killed, entered_dead, CallsLookBefore}
use Rattle.{kernel_history.specs.frame_words.specs.Comp.word_of_comp, wrong_steps.proofs.Unanswered.no_answer}

pub gated_legal : IsLegal two_cores gated
unfolding two_cores gated word_of_entry word_of_comp
gated_legal = (
  (
    (
      (
        (((tt, may_follow refl refl (refl, tt) tt tt), may_follow refl refl tt tt tt), may_follow refl refl tt tt tt),
        may_follow refl refl tt tt tt,
      ),
      may_follow refl refl tt tt tt,
    ),
    may_follow refl refl tt tt tt,
  ),
  may_follow refl refl tt (carried_out {k = Call.Gate 3 1 20} refl (refl, (refl, refl)) refl) tt,
)

calling_legal : IsLegal two_cores calling
unfolding two_cores gated calling word_of_entry word_of_live word_of_count sum_below node_refs refs
calling_legal = (
  (
    (
      (
        (
          (gated_legal, may_follow refl refl tt tt (record { call = Call.Gate 3 1 20; was_decided = refl })),
          may_follow refl refl (refl, tt) tt tt,
        ),
        may_follow refl refl tt tt tt,
      ),
      may_follow refl refl tt tt tt,
    ),
    may_follow refl refl tt tt tt,
  ),
  may_follow refl refl tt tt tt,
)

killed_legal : IsLegal two_cores killed
unfolding two_cores gated calling killed word_of_entry
killed_legal = (
  (((calling_legal, may_follow refl refl (refl, tt) tt tt), may_follow refl refl tt tt tt), may_follow refl refl tt tt tt),
  may_follow refl refl tt (carried_out {k = Call.Kill 3} refl (refl, (refl, refl)) refl) tt,
)

pub calls_look_before : CallsLookBefore
unfolding two_cores gated calling killed entered_dead word_of_entry word_of_comp comp_of_word
calls_look_before = record {
  legal = killed_legal;
  refused = λ legal. not_permitted (Call.Call 20) refl legal.1.decides (λ may. no_answer may.1);
}
