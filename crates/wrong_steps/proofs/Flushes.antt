-- What the wrong flush makes is no history: the core that is waited for has flushed.
use Rattle.kernel_history.proofs.{refl, false≢true, word_of_entry, flush_of_word, rule_of, holds_nothing, sum_below, node_refs, refs}
use Rattle.kernel_history.proofs.{RuleMay, IsLegal, state_after, two_cores, neither, none, may_follow, carried_out, not_permitted}
use Rattle.kernel_history.proofs.{FrameKind, Call, Reply}
use Rattle.kernel_history.specs.frame_words.specs.{word_of_core, word_of_flush}
use Rattle.wrong_steps.specs.Untypings.{typed, made, removed}
use Rattle.wrong_steps.specs.Flushes.{flushed, scanned, waits_on, FlushesForget}
use Rattle.wrong_steps.proofs.Untypings.{removed_legal}

flushed_legal : IsLegal two_cores flushed
unfolding two_cores typed made removed flushed
flushed_legal = (
  (
    (
      (removed_legal, may_follow refl refl tt tt (record { call = Call.Remove 1 20; was_decided = refl })),
      may_follow refl refl (refl, tt) tt tt,
    ),
    may_follow refl refl tt (carried_out {k = Call.Flush} refl (refl, (refl, refl)) refl) tt,
  ),
  may_follow refl refl tt tt (record { call = Call.Flush; was_decided = refl }),
)

scanned_legal : IsLegal two_cores scanned
unfolding two_cores typed made removed flushed scanned word_of_entry word_of_core
scanned_legal = (
  (((flushed_legal, may_follow refl refl (refl, tt) tt tt), may_follow refl refl tt tt tt), may_follow refl refl tt tt tt),
  may_follow refl refl tt tt tt,
)

-- No cause of the retype is that core 0 has not flushed.
not_waited : RuleMay (state_after two_cores scanned) 0 (rule_of (state_after two_cores scanned) 0 (Call.Retype 0 8 FrameKind.Untyped))
    (Reply.Unflushed 0) → ⊥
unfolding two_cores typed made removed flushed scanned holds_nothing sum_below node_refs refs
not_waited = neither none
    (neither (λ outside. false≢true outside.0) (neither (λ untyped. false≢true untyped.0) (neither (λ stands. false≢true stands.0)
    (neither none (neither (λ waits. false≢true waits.flush_unknown) (neither (λ full. false≢true full.0) none))))))

pub flushes_forget : FlushesForget
unfolding two_cores typed made removed flushed scanned waits_on word_of_entry word_of_core word_of_flush flush_of_word holds_nothing
    sum_below node_refs refs
flushes_forget = record {
  legal = scanned_legal;
  refused = λ legal. not_permitted (Call.Retype 0 8 FrameKind.Untyped) refl legal.1.decides (λ may. not_waited may.1);
}
