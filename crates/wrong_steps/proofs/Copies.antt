-- What the wrong copies make is no history.
use Rattle.kernel_history.proofs.{◌≡◌, ◌≤◌, [], refl, sym, ap, arith, whole_copy, Call, word_of_entry, IsLegal, two_cores, may_follow}
use Rattle.wrong_steps.specs.Copies.{copied_once, copied_twice, lost, tried, CopiesOverwrite, RetriesGoOn}
use Rattle.{kernel_history.proofs.carried_out, kernel_history.proofs.not_permitted, kernel_history.specs.spk_nums.specs.Bounds.bound_of}
use Rattle.{kernel_history.proofs.Computed.some_call, wrong_steps.specs.Acts.copying, wrong_steps.proofs.Unanswered.no_answer}

both_copying : IsLegal two_cores (copying 1 (copying 0 []))
unfolding two_cores word_of_entry
both_copying = (
  (
    (
      (
        (
          (
            (
              (
                ((tt, may_follow refl refl (refl, omega arith) tt tt), may_follow refl refl tt tt tt),
                may_follow refl refl tt tt tt,
              ),
              may_follow refl refl tt tt tt,
            ),
            may_follow refl refl tt tt tt,
          ),
          may_follow refl refl (refl, omega arith) tt tt,
        ),
        may_follow refl refl tt tt tt,
      ),
      may_follow refl refl tt tt tt,
    ),
    may_follow refl refl tt tt tt,
  ),
  may_follow refl refl tt tt tt,
)

pub copies_overwrite : CopiesOverwrite
unfolding two_cores copied_once copied_twice word_of_entry
copies_overwrite = record {
  legal = (both_copying, may_follow refl refl tt (carried_out {k = whole_copy 0 1 20} refl (refl, (refl, refl)) refl) tt);
  refused = λ legal. not_permitted (whole_copy 0 1 20) refl legal.1.decides (λ may. no_answer may.1);
}

-- Seventeen steps are past the bound of a copy on two cores.
too_many : (k : Call) → k ≡ whole_copy 0 1 20 → 17 ≤ bound_of k 2 → ⊥
too_many k is steps = let bound : bound_of k 2 ≡ 16 = ap (λ k. bound_of k 2) is in omega (arith, bound, steps)

lost_legal : IsLegal two_cores lost
unfolding two_cores lost word_of_entry
lost_legal = (both_copying, may_follow refl refl tt (carried_out {k = whole_copy 0 1 20} refl (refl, (refl, refl)) refl) tt)

pub retries_go_on : RetriesGoOn
unfolding two_cores lost tried word_of_entry
retries_go_on = record {
  legal = (
    (
      (
        (
          (
            (
              (
                (
                  (
                    (((lost_legal, may_follow refl refl tt tt tt), may_follow refl refl tt tt tt), may_follow refl refl tt tt tt),
                    may_follow refl refl tt tt tt,
                  ),
                  may_follow refl refl tt tt tt,
                ),
                may_follow refl refl tt tt tt,
              ),
              may_follow refl refl tt tt tt,
            ),
            may_follow refl refl tt tt tt,
          ),
          may_follow refl refl tt tt tt,
        ),
        may_follow refl refl tt tt tt,
      ),
      may_follow refl refl tt tt tt,
    ),
    may_follow refl refl tt tt tt,
  );
  refused = λ keeps. too_many keeps.1.call (some_call keeps.1.call (whole_copy 0 1 20) (sym keeps.1.is_of)) keeps.1.steps;
}
