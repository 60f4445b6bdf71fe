-- Worked traces that the laws of frames refuse: frames that are made untyped though a call has read them, or holds a count of them, or a
-- capability refers to them.
use Rattle.kernel_history.proofs.{◌≡◌, inl, zero, suc, ◌<◌, [], ◌∷◌, refl, arith, take, drop, Nothing, holds_nothing, sum_below, node_refs}
use Rattle.kernel_history.proofs.{refs, Blank, Leaf, Untyped, User, Kernel, word_of_entry, entry_of_word, word_of_count, count_of_word}
use Rattle.kernel_history.proofs.{KeepsDiscipline, IsLegal, two_cores, may_follow, carried_out, FrameKind, Make, Call}
use Rattle.history_laws.specs.{AtEachStep, OfEachStretch, LookedNodesStay, ReadNodesStay, CountedFramesStay, UntypedFramesAreUnused}
use Rattle.history_laws.specs.{Frames.GoesOn, Scenes.count_word, Scenes.leaf_made, Scenes.leaf_read, Scenes.leaf_untyped}
use Rattle.history_laws.specs.{Scenes.count_acquired, Scenes.counted_untyped, Scenes.leaf_one_untyped, Refusals.FramesRefuse}
use Rattle.history_laws.proofs.Traces.{newest, since, breaks}
use Rattle.history_laws.proofs.Disciplined.{none_some, disciplined_by, go_disciplined}

-- the leaf

made_legal : IsLegal two_cores leaf_made
unfolding two_cores leaf_made word_of_entry
made_legal = (
  (
    (
      (
        (
          (
            (
              (
                ((tt, may_follow refl refl (refl, tt) tt tt), may_follow refl refl tt tt tt),
                may_follow refl refl tt (carried_out {k = Call.Retype 0 8 FrameKind.Kernel} refl (refl, (refl, refl)) refl) tt,
              ),
              may_follow refl refl tt tt (record { call = Call.Retype 0 8 FrameKind.Kernel; was_decided = refl }),
            ),
            may_follow refl refl (refl, tt) tt tt,
          ),
          may_follow refl refl tt tt tt,
        ),
        may_follow refl refl tt tt tt,
      ),
      may_follow refl refl tt tt tt,
    ),
    may_follow refl refl tt (carried_out {k = Call.Make Make.Leaf 0 8 1 20} refl (refl, (refl, refl)) refl) tt,
  ),
  may_follow refl refl tt tt (record { call = Call.Make Make.Leaf 0 8 1 20; was_decided = refl }),
)

read_legal : IsLegal two_cores leaf_read
unfolding two_cores leaf_made leaf_read word_of_entry
read_legal = (
  (
    (
      (
        (
          ((made_legal, may_follow refl refl (refl, tt) tt tt), may_follow refl refl tt tt tt),
          may_follow refl refl tt tt tt,
        ),
        may_follow refl refl tt (carried_out {k = Call.Remove 1 20} refl (refl, (refl, refl)) refl) tt,
      ),
      may_follow refl refl tt tt (record { call = Call.Remove 1 20; was_decided = refl }),
    ),
    may_follow refl refl (refl, tt) tt tt,
  ),
  may_follow refl refl tt tt tt,
)

untyped_legal : IsLegal two_cores leaf_untyped
unfolding two_cores leaf_made leaf_read leaf_untyped word_of_entry sum_below node_refs refs holds_nothing
untyped_legal = (
  ((read_legal, may_follow refl refl (refl, tt) tt tt), may_follow refl refl tt tt tt),
  may_follow refl refl tt (carried_out {k = Call.Retype 0 8 FrameKind.Untyped} refl (refl, (refl, refl)) refl) tt,
)

-- No word of a leaf that has just been made carries a mark.
made_disciplined : KeepsDiscipline two_cores leaf_made
unfolding two_cores leaf_made word_of_entry entry_of_word
made_disciplined = go_disciplined two_cores 1 leaf_made (
  go_disciplined two_cores 5 (drop 2 leaf_made) (
    go_disciplined two_cores 2 (drop 8 leaf_made) tt refl,
    disciplined_by ((8, Kernel Blank) ∷ []) refl refl (tt, (λ i d is. absurd (none_some d is))),
  )
      refl,
  disciplined_by ((8, Kernel Leaf) ∷ []) refl refl (tt, (λ i d is. absurd (none_some d is))),
)
    refl

read_disciplined : KeepsDiscipline two_cores leaf_read
unfolding two_cores leaf_made leaf_read word_of_entry entry_of_word
read_disciplined = go_disciplined two_cores 3 leaf_read
    (go_disciplined two_cores 3 (drop 4 leaf_read) made_disciplined refl, disciplined_by [] refl refl tt)
    refl

untyped_disciplined : KeepsDiscipline two_cores leaf_untyped
unfolding two_cores leaf_made leaf_read leaf_untyped word_of_entry entry_of_word sum_below node_refs refs holds_nothing
untyped_disciplined = (
  go_disciplined two_cores 2 (drop 1 leaf_untyped) read_disciplined refl,
  disciplined_by ((8, Untyped) ∷ []) refl refl (tt, (λ i d is. absurd (none_some d is))),
)

-- Core 1's steps are none of core 0, whose call goes on.
goes_on : GoesOn (take 3 leaf_untyped) (drop 3 leaf_untyped) 0 8
unfolding leaf_untyped
goes_on = (((tt, λ same. absurd (other same)), λ same. absurd (other same)), λ same. absurd (other same))
  where
    other : suc zero ≡ zero → ⊥
    other same = omega (arith, same)

looked_refused : OfEachStretch (LookedNodesStay two_cores) leaf_untyped → ⊥
unfolding two_cores leaf_made leaf_read leaf_untyped word_of_entry entry_of_word sum_below node_refs refs holds_nothing
looked_refused law =
    let same : Untyped ≡ Kernel Leaf =
    since (LookedNodesStay two_cores) 3 leaf_untyped law 0 (Call.Retype 0 8 FrameKind.User) refl 8 0 0 refl (inl refl) refl goes_on in
    cc

read_refused : OfEachStretch (ReadNodesStay two_cores) leaf_untyped → ⊥
unfolding two_cores leaf_made leaf_read leaf_untyped word_of_entry entry_of_word sum_below node_refs refs holds_nothing
read_refused law =
    let same : Untyped ≡ Kernel Leaf = since (ReadNodesStay two_cores) 3 leaf_untyped law 8
    (record {
      call = Call.Retype 0 8 FrameKind.User;
      is_open = refl;
      apart = refl;
      node = refl;
      entry = 0;
      on = refl;
      by_read = refl;
    })
    refl goes_on in
    cc

-- the count

acquired_legal : IsLegal two_cores count_acquired
unfolding two_cores count_acquired count_word word_of_entry word_of_count
acquired_legal = (
  (
    (
      (
        ((tt, may_follow refl refl (refl, tt) tt tt), may_follow refl refl tt tt tt),
        may_follow refl refl tt (carried_out {k = Call.Retype 0 8 FrameKind.User} refl (refl, (refl, refl)) refl) tt,
      ),
      may_follow refl refl tt tt (record { call = Call.Retype 0 8 FrameKind.User; was_decided = refl }),
    ),
    may_follow refl refl (refl, tt) tt tt,
  ),
  may_follow refl refl tt tt tt,
)

counted_legal : IsLegal two_cores counted_untyped
unfolding two_cores count_acquired counted_untyped count_word word_of_entry word_of_count sum_below node_refs refs
counted_legal = (
  ((acquired_legal, may_follow refl refl (refl, tt) tt tt), may_follow refl refl tt tt tt),
  may_follow refl refl tt (carried_out {k = Call.Retype 0 8 FrameKind.Untyped} refl (refl, (refl, refl)) refl) tt,
)

acquired_disciplined : KeepsDiscipline two_cores count_acquired
unfolding two_cores count_acquired count_word word_of_entry entry_of_word word_of_count count_of_word sum_below node_refs refs
acquired_disciplined = go_disciplined two_cores 3 count_acquired (
  go_disciplined two_cores 2 (drop 4 count_acquired) tt refl,
  disciplined_by ((8, User) ∷ []) refl refl (tt, (λ i d is. absurd (none_some d is))),
)
    refl

counted_disciplined : KeepsDiscipline two_cores counted_untyped
unfolding two_cores count_acquired counted_untyped count_word word_of_entry entry_of_word word_of_count sum_below node_refs refs
counted_disciplined = (
  go_disciplined two_cores 2 (drop 1 counted_untyped) acquired_disciplined refl,
  disciplined_by ((8, Untyped) ∷ []) refl refl (tt, (λ i d is. absurd (none_some d is))),
)

counted_refused : AtEachStep (CountedFramesStay two_cores) counted_untyped → ⊥
unfolding two_cores count_acquired counted_untyped count_word word_of_count count_of_word
counted_refused law =
    let below : 0 < 2 = omega arith in
    let own : 0 ≡ 1 = newest (CountedFramesStay two_cores) counted_untyped law 8
    (record { range = 0; value = Nothing; decides = refl; call = refl }) 0 below 0 refl in
    omega (arith, own)

-- A frame to which a link refers.
unused_refused : AtEachStep (UntypedFramesAreUnused two_cores) leaf_one_untyped → ⊥
unfolding two_cores leaf_one_untyped sum_below node_refs refs
unused_refused law =
    let none : 1 ≡ 0 = (newest (UntypedFramesAreUnused two_cores) leaf_one_untyped law 1
    (record { range = 0; value = Nothing; decides = refl; call = refl })).none in
    omega (arith, none)

pub frames_refuse : FramesRefuse
unfolding two_cores leaf_made leaf_read leaf_untyped count_acquired counted_untyped count_word word_of_entry entry_of_word word_of_count
    sum_below node_refs refs holds_nothing
frames_refuse = record {
  looked_nodes_stay =
      breaks (OfEachStretch (LookedNodesStay two_cores)) leaf_untyped untyped_legal refl refl untyped_disciplined looked_refused;
  read_nodes_stay = breaks (OfEachStretch (ReadNodesStay two_cores)) leaf_untyped untyped_legal refl refl untyped_disciplined read_refused;
  counted_frames_stay =
      breaks (AtEachStep (CountedFramesStay two_cores)) counted_untyped counted_legal refl refl counted_disciplined counted_refused;
  untyped_frames_are_unused = unused_refused;
}
