-- What the wrong sweep makes is no history: a capability to the frame stands.
use Rattle.kernel_history.proofs.{◌≡◌, ◌∷◌, true, Some, refl, sym, ◌∙◌, subst, arith, whole_copy, Call, Value, Reply, word_of_entry}
use Rattle.kernel_history.proofs.{word_of_count, count_of_word, word_of_frame, MayReply, rule_of, holds_nothing, sum_below, node_refs, refs}
use Rattle.kernel_history.proofs.{MayDecide, IsLegal, Step, Phase, state_before, ways, may_follow, FrameKind, Make}
use Rattle.kernel_history.specs.{Legal.DecidesBy, Trace.Trace, Trace.Open}
use Rattle.kernel_history.proofs.Computed.{has_stepped, has_reached}
use Rattle.wrong_steps.specs.Sums.{three_cores, typed, made, begun, looking, copied, removed, summed, untyped, SweepsSum}

-- An open call is carried out at a step that has reached the places of its way.
carried : {t : Trace} {e : Step} {p : Phase} {v : Value} (k : Call) → p ≡ Open k
    → MayReply (state_before three_cores t e) e.core k (Reply.Ok v)
    → has_stepped (e ∷ t) e.core (ways (state_before three_cores t e) e.core (rule_of (state_before three_cores t e) e.core k)) ≡ true
    → MayDecide three_cores t e (Some (Reply.Ok v)) p
carried {t} {e} {p} {v} k is may stepped = record {
  call = k;
  is_open = is;
  permitted = may;
  justified = has_reached (e ∷ t) e.core (ways (state_before three_cores t e) e.core (rule_of (state_before three_cores t e) e.core k))
      stepped;
}

same_call : (j k : Call) → Open j ≡ Open k → k ≡ j
same_call j k same = cc

-- A decision that the call relation does not permit is not legal.
refused_by : {t : Trace} {e : Step} {r : Reply} {p : Phase} (k : Call) → p ≡ Open k → DecidesBy three_cores t e r p
    → (MayReply (state_before three_cores t e) e.core k r → ⊥) → ⊥
refused_by {t} {e} {r} {p} k is decides not = not (subst (λ j. MayReply (state_before three_cores t e) e.core j r)
    (same_call k decides.call (sym is ∙ decides.is_open)) decides.permitted)

typed_legal : IsLegal three_cores typed
unfolding three_cores typed word_of_entry word_of_frame
typed_legal = (
  (((tt, may_follow refl refl (refl, tt) tt tt), may_follow refl refl tt tt tt), may_follow refl refl tt tt tt),
  may_follow refl refl tt (carried (Call.Retype 0 10 FrameKind.Kernel) refl (refl, (refl, refl)) refl) tt,
)

made_legal : IsLegal three_cores made
unfolding three_cores typed made word_of_entry word_of_count
made_legal = (
  (
    (
      (
        (
          (
            (
              (
                (typed_legal, may_follow refl refl tt tt (record { call = Call.Retype 0 10 FrameKind.Kernel; was_decided = refl })),
                may_follow refl refl (refl, tt) tt tt,
              ),
              may_follow refl refl tt tt tt,
            ),
            may_follow refl refl tt tt tt,
          ),
          may_follow refl refl tt tt tt,
        ),
        may_follow refl refl tt tt tt,
      ),
      may_follow refl refl tt (carried (Call.Make Make.Table 0 10 1 20) refl (refl, (refl, refl)) refl) tt,
    ),
    may_follow refl refl tt tt tt,
  ),
  may_follow refl refl tt tt (record { call = Call.Make Make.Table 0 10 1 20; was_decided = refl }),
)

begun_legal : IsLegal three_cores begun
unfolding three_cores typed made begun word_of_entry word_of_count sum_below node_refs refs
begun_legal = (
  (((made_legal, may_follow refl refl (refl, tt) tt tt), may_follow refl refl tt tt tt), may_follow refl refl tt tt tt),
  may_follow refl refl tt tt tt,
)

looking_legal : IsLegal three_cores looking
unfolding three_cores typed made begun looking word_of_entry
looking_legal = (
  (
    (((begun_legal, may_follow refl refl (refl, omega arith) tt tt), may_follow refl refl tt tt tt), may_follow refl refl tt tt tt),
    may_follow refl refl tt tt tt,
  ),
  may_follow refl refl tt tt tt,
)

copied_legal : IsLegal three_cores copied
unfolding three_cores typed made begun looking copied word_of_entry word_of_count count_of_word sum_below node_refs refs
copied_legal = (
  (
    (
      ((looking_legal, may_follow refl refl tt tt tt), may_follow refl refl tt tt tt),
      may_follow refl refl tt (carried (whole_copy 20 1 21) refl (refl, (refl, refl)) refl) tt,
    ),
    may_follow refl refl tt tt tt,
  ),
  may_follow refl refl tt tt (record { call = whole_copy 20 1 21; was_decided = refl }),
)

removed_legal : IsLegal three_cores removed
unfolding three_cores typed made begun looking copied removed word_of_entry word_of_count count_of_word sum_below node_refs refs
removed_legal = (
  (
    (
      (
        (((copied_legal, may_follow refl refl (refl, tt) tt tt), may_follow refl refl tt tt tt), may_follow refl refl tt tt tt),
        may_follow refl refl tt tt tt,
      ),
      may_follow refl refl tt (carried (Call.Remove 1 20) refl (refl, (refl, refl)) refl) tt,
    ),
    may_follow refl refl tt tt tt,
  ),
  may_follow refl refl tt tt (record { call = Call.Remove 1 20; was_decided = refl }),
)

summed_legal : IsLegal three_cores summed
unfolding three_cores typed made begun looking copied removed summed word_of_count count_of_word sum_below node_refs refs
summed_legal = ((removed_legal, may_follow refl refl tt tt tt), may_follow refl refl tt tt tt)

pub sweeps_sum : SweepsSum
unfolding three_cores typed made begun looking copied removed summed untyped word_of_count count_of_word holds_nothing sum_below node_refs
    refs
sweeps_sum = record {
  legal = summed_legal;
  passes = refl;
  refused = λ legal. refused_by (Call.Retype 0 10 FrameKind.Untyped) refl legal.1.decides (λ may. may.1.1);
}
