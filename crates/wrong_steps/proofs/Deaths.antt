-- What the wrong kill makes is no history: the component is not dead before the kill is decided.
use Rattle.kernel_history.proofs.{refl, true≢false, false≢true, word_of_entry, word_of_live, live_of_word, IsLegal, two_cores, neither}
use Rattle.kernel_history.proofs.{none, may_follow, not_permitted, Call}
use Rattle.wrong_steps.specs.{Invocations.gated, Deaths.killing, Deaths.calling, Deaths.refused_dead, Deaths.KillsShow}
use Rattle.{kernel_history.specs.frame_words.specs.Comp.word_of_comp, wrong_steps.proofs.Invocations.gated_legal}

killing_legal : IsLegal two_cores killing
unfolding two_cores gated killing word_of_entry word_of_comp word_of_live
killing_legal = (
  (
    (
      (
        (
          (
            (gated_legal, may_follow refl refl tt tt (record { call = Call.Gate 3 1 20; was_decided = refl })),
            may_follow refl refl (refl, tt) tt tt,
          ),
          may_follow refl refl tt tt tt,
        ),
        may_follow refl refl tt tt tt,
      ),
      may_follow refl refl tt tt tt,
    ),
    may_follow refl refl tt tt tt,
  ),
  may_follow refl refl tt tt tt,
)

calling_legal : IsLegal two_cores calling
unfolding two_cores gated killing calling word_of_entry word_of_comp
calling_legal = (
  (((killing_legal, may_follow refl refl (refl, tt) tt tt), may_follow refl refl tt tt tt), may_follow refl refl tt tt tt),
  may_follow refl refl tt tt tt,
)

pub kills_show : KillsShow
unfolding two_cores gated killing calling refused_dead word_of_live live_of_word
kills_show = record {
  legal = calling_legal;
  refused = λ legal. not_permitted (Call.Call 20) refl legal.1.decides (λ may. neither (λ lost. true≢false lost.1)
      (neither none (neither (λ deep. false≢true deep.0) (neither (λ dead. false≢true dead.0) none))) may.1);
}
