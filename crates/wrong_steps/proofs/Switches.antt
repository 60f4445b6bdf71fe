-- What the wrong switch makes is no history: the word of the old thread says another depth than its stack has.
use Rattle.kernel_history.proofs.{◌≡◌, ℕ, ◌<◌, refl, ap, arith, Option, Some, None, CoreEnd, word_of_entry, word_of_frame, word_of_live}
use Rattle.kernel_history.proofs.{word_of_stack, word_of_thread, thread_of_word, ThreadWord, Idle, Running, Claimed, Represent, IsLegal}
use Rattle.kernel_history.proofs.{state_after, last_left, two_cores, may_follow, carried_out, FrameKind, Make, Call}
use Rattle.wrong_steps.specs.Switches.{called, blank, marked, made_thread, claimed, mixed, SwitchesMixDepths}
use Rattle.{wrong_steps.specs.Invocations.gated, wrong_steps.proofs.Invocations.gated_legal}

called_legal : IsLegal two_cores called
unfolding two_cores gated called word_of_entry word_of_live word_of_thread word_of_stack
called_legal = (
  (
    (
      (
        (
          (
            (gated_legal, may_follow refl refl tt tt (record { call = Call.Gate 3 1 20; was_decided = refl })),
            may_follow refl refl (refl, tt) tt tt,
          ),
          may_follow refl refl tt tt tt,
        ),
        may_follow refl refl tt tt tt,
      ),
      may_follow refl refl tt (carried_out {k = Call.Call 20} refl (refl, (refl, refl)) refl) tt,
    ),
    may_follow refl refl tt tt tt,
  ),
  may_follow refl refl tt tt tt,
)

blank_legal : IsLegal two_cores blank
unfolding two_cores gated called blank word_of_entry word_of_frame
blank_legal = (
  (
    (
      (
        (called_legal, may_follow refl refl tt tt (record { call = Call.Call 20; was_decided = refl })),
        may_follow refl refl (refl, tt) tt tt,
      ),
      may_follow refl refl tt tt tt,
    ),
    may_follow refl refl tt tt tt,
  ),
  may_follow refl refl tt (carried_out {k = Call.Retype 0 8 FrameKind.Kernel} refl (refl, (refl, refl)) refl) tt,
)

marked_legal : IsLegal two_cores marked
unfolding two_cores gated called blank marked word_of_entry word_of_frame word_of_thread word_of_stack
marked_legal = (
  (
    (
      (
        (
          (
            (
              (
                (
                  (
                    (blank_legal, may_follow refl refl tt tt (record { call = Call.Retype 0 8 FrameKind.Kernel; was_decided = refl })),
                    may_follow refl refl (refl, tt) tt tt,
                  ),
                  may_follow refl refl tt tt tt,
                ),
                may_follow refl refl tt tt tt,
              ),
              may_follow refl refl tt tt tt,
            ),
            may_follow refl refl tt tt tt,
          ),
          may_follow refl refl tt tt tt,
        ),
        may_follow refl refl tt tt tt,
      ),
      may_follow refl refl tt tt tt,
    ),
    may_follow refl refl tt tt tt,
  ),
  may_follow refl refl tt tt tt,
)

made_legal : IsLegal two_cores made_thread
unfolding two_cores gated called blank marked made_thread word_of_entry word_of_frame
made_legal = (
  (marked_legal, may_follow refl refl tt (carried_out {k = Call.Make (Make.Thread 3) 0 8 1 21} refl (refl, (refl, refl)) refl) tt),
  may_follow refl refl tt tt tt,
)

claimed_legal : IsLegal two_cores claimed
unfolding two_cores gated called blank marked made_thread claimed word_of_entry word_of_thread word_of_stack
claimed_legal = (
  (
    (
      (
        (
          (
            (
              (
                (
                  (
                    (
                      made_legal,
                      may_follow refl refl tt tt (record { call = Call.Make (Make.Thread 3) 0 8 1 21; was_decided = refl }),
                    ),
                    may_follow refl refl (refl, tt) tt tt,
                  ),
                  may_follow refl refl tt tt tt,
                ),
                may_follow refl refl tt tt tt,
              ),
              may_follow refl refl tt tt tt,
            ),
            may_follow refl refl tt tt tt,
          ),
          may_follow refl refl tt tt tt,
        ),
        may_follow refl refl tt tt tt,
      ),
      may_follow refl refl tt tt tt,
    ),
    may_follow refl refl tt tt tt,
  ),
  may_follow refl refl tt tt tt,
)

mixed_legal : IsLegal two_cores mixed
unfolding two_cores gated called blank marked made_thread claimed mixed word_of_thread
mixed_legal = (
  (
    (
      (claimed_legal, may_follow refl refl tt (carried_out {k = Call.Switch 21 12} refl (refl, (refl, refl)) refl) tt),
      may_follow refl refl tt tt tt,
    ),
    may_follow refl refl tt tt tt,
  ),
  may_follow refl refl tt tt (record { call = Call.Switch 21 12; was_decided = refl }),
)

abbrev depth_in : Option ThreadWord → ℕ
depth_in None = 0
depth_in (Some (Idle depth)) = depth
depth_in (Some (Running core depth)) = depth
depth_in (Some (Claimed core depth)) = depth

-- The word says depth 1, and the stack has 2.
other_depth : (end : ℕ → CoreEnd) → Represent (last_left two_cores mixed) end (state_after two_cores mixed) → ⊥
unfolding two_cores gated called blank marked made_thread claimed mixed word_of_thread thread_of_word
other_depth end represents =
    let frame : 4 < 32 = omega arith in
    let depth : 1 ≡ 2 = ap depth_in (represents.objects 4 frame).runs in
    omega (arith, depth)

pub switches_mix_depths : SwitchesMixDepths
unfolding two_cores gated called blank marked made_thread claimed mixed
switches_mix_depths = record { legal = mixed_legal; out = (refl, refl); refused = other_depth }
