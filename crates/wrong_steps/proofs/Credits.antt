-- What the wrong transfer makes is no history: a budget has more ticks than the state gives it.
use Rattle.kernel_history.proofs.{◌≡◌, ℕ, ◌<◌, ◌≤◌, inl, inr, refl, ap, arith, Option, Some, None, CoreEnd, word_of_entry, word_of_head}
use Rattle.kernel_history.proofs.{head_of_word, HeadWord, Represent, IsLegal, state_after, last_left, two_cores, may_follow, carried_out}
use Rattle.wrong_steps.specs.Credits.{credited, ticked, kept_credit, TransfersKeep}
use Rattle.{kernel_history.proofs.Call, act_states.specs.Amount, act_states.specs.head}

credited_legal : IsLegal two_cores credited
unfolding two_cores credited word_of_entry word_of_head
credited_legal = (
  (
    (
      (
        (((tt, may_follow refl refl (refl, tt) tt tt), may_follow refl refl tt tt tt), may_follow refl refl tt tt tt),
        may_follow refl refl tt tt tt,
      ),
      may_follow refl refl tt tt tt,
    ),
    may_follow refl refl tt tt tt,
  ),
  may_follow refl refl tt tt tt,
)

ticked_legal : IsLegal two_cores ticked
unfolding two_cores credited ticked word_of_entry word_of_head
ticked_legal = let least : 1 ≤ 1000000 = omega arith in (
  (
    ((credited_legal, may_follow refl refl (refl, least) tt tt), may_follow refl refl tt tt tt),
    may_follow refl refl tt (carried_out {k = Call.Tick 1} {v = Amount 1} refl (refl, (refl, refl)) refl) tt,
  ),
  may_follow refl refl tt tt (record { call = Call.Tick 1; was_decided = refl }),
)

kept_legal : IsLegal two_cores kept_credit
unfolding two_cores credited ticked kept_credit word_of_entry word_of_head head_of_word
kept_legal = (
  (
    ticked_legal,
    may_follow refl refl tt (record {
      call = Call.Transfer 13 12 10;
      is_open = refl;
      permitted = (refl, tt);
      justified = record {
        at = inr (tt, refl);
        reads = refl;
        own = word_of_head (head 100 0);
        has_read = refl;
        changed = λ e. omega (arith, e);
      };
    }) tt,
  ),
  may_follow refl refl tt tt (record { call = Call.Transfer 13 12 10; was_decided = refl }),
)

abbrev budget_in : Option HeadWord → ℕ
budget_in None = 0
budget_in (Some h) = h.budget

-- The word says 110 ticks, and the state has 100.
other_budget : (end : ℕ → CoreEnd) → Represent (last_left two_cores kept_credit) end (state_after two_cores kept_credit) → ⊥
unfolding two_cores credited ticked kept_credit word_of_head head_of_word
other_budget end represents =
    let frame : 6 < 32 = omega arith in
    let budget : 110 ≡ 100 = ap budget_in (represents.objects 6 frame).head in
    omega (arith, budget)

pub transfers_keep : TransfersKeep
unfolding two_cores credited ticked kept_credit
transfers_keep = record { legal = kept_legal; out = (refl, refl); refused = other_budget }
