-- Worked examples of several cores, each a list of events with the replies that the relation permits there.
use Rattle.kernel_rules.proofs.{inl, inr, refl, ℕ, arith, List, [], ◌∷◌, whole_copy, cap_of, Setting, PageFlags, Call, Nothing, Cap, Reply}
use Rattle.kernel_rules.proofs.{sum_below, node_refs, refs, holds_nothing, MayReply, Event, Enters, Decides, Returns, after, Kind}
use Rattle.kernel_rules.proofs.{FrameKind, Make}

two_cores : Setting
two_cores = record {
  cores = 2;
  frames = 32;
  grants = record { budget = 100; sched = 0; quality = 1 } ∷ record { budget = 100; sched = 0; quality = 1 } ∷ [];
  calls = 4194304;
  epochs = 65535;
}

-- Each decision of a list of events, the newest first, is permitted in the state that those before it leave.
abbrev Permitted : List Event → Type 0
Permitted [] = Unit {0}
Permitted (Enters c k ∷ events) = Permitted events
Permitted (Decides c k r ∷ events) = Permitted events × MayReply (after two_cores events) c k r
Permitted (Returns c ∷ events) = Permitted events

-- A whole call of core c, after these events.
abbrev whole : ℕ → Call → Reply → List Event → List Event
whole c k r before = Returns c ∷ Decides c k r ∷ Enters c k ∷ before

abbrev done : Reply
done = Reply.Ok Nothing

abbrev range : Reply
range = Reply.Ok (Cap (cap_of Kind.Range 8 24))

abbrev flags : ℕ → PageFlags
flags w = record { 0 = w }

-- Both cores are ready to fill a place; the first wins, and the second has lost a race.
race : Permitted (Returns 1 ∷ Returns 0 ∷ Decides 1 (whole_copy 0 1 20) Reply.Raced
    ∷ Decides 0 (whole_copy 0 1 20) done ∷ Enters 1 (whole_copy 0 1 20) ∷ Enters 0 (whole_copy 0 1 20) ∷ [])
unfolding two_cores
race = ((tt, (refl, (refl, refl))), (refl, tt))

-- One after the other, the second finds the place occupied.
in_turn : Permitted (whole 1 (whole_copy 0 1 20) Reply.Occupied (whole 0 (whole_copy 0 1 20) done []))
unfolding two_cores
in_turn = ((tt, (refl, (refl, refl))), (refl, inr (inr (inl refl))))

-- A removed place is filled again only when the core that was in a call at its removal has returned.
removal_waits : Permitted (
    whole 0 (whole_copy 0 1 20) done (
    Returns 1 ∷ Decides 1 (Call.Look 0) range
    ∷ whole 0 (whole_copy 0 1 20) (Reply.Quiescing 1) (
    whole 0 (Call.Remove 1 20) done (
    Enters 1 (Call.Look 0)
    ∷ whole 0 (whole_copy 0 1 20) done []))))
unfolding two_cores
removal_waits = (
  (
    (
      ((tt, (refl, (refl, refl))), (refl, (refl, refl))),
      (refl, inr (inr (inl (record { is_core = omega arith; other = λ e. omega (arith, e); is_inside = refl; not_passed = refl })))),
    ),
    (refl, (refl, refl)),
  ),
  (refl, (refl, refl)),
)

-- A core that entered after the removal may be told to be waited for, too.
removal_may_wait : Permitted (
    whole 0 (whole_copy 0 1 20) done (
    Returns 1 ∷ Decides 1 (Call.Look 0) range
    ∷ whole 0 (whole_copy 0 1 20) (Reply.Quiescing 1) (
    Enters 1 (Call.Look 0)
    ∷ whole 0 (Call.Remove 1 20) done (whole 0 (whole_copy 0 1 20) done []))))
unfolding two_cores
removal_may_wait = (
  (
    (
      ((tt, (refl, (refl, refl))), (refl, (refl, refl))),
      (refl, inr (inr (inl (record { is_core = omega arith; other = λ e. omega (arith, e); is_inside = refl; not_passed = refl })))),
    ),
    (refl, (refl, refl)),
  ),
  (refl, (refl, refl)),
)

-- A call that had looked a capability up before it was removed still copies it.
still_copies : Permitted (
    whole 1 (Call.Look 21) range (
    Returns 1 ∷ Decides 1 (whole_copy 20 1 21) done
    ∷ whole 0 (Call.Remove 1 20) done (
    Enters 1 (whole_copy 20 1 21)
    ∷ whole 0 (whole_copy 0 1 20) done [])))
unfolding two_cores
still_copies = ((((tt, (refl, (refl, refl))), (refl, (refl, refl))), (refl, (refl, refl))), (refl, (refl, refl)))

-- Core 0's page table with one leaf, and a user frame.
abbrev with_pages : List Event
with_pages =
    whole 0 (Call.Retype 0 9 FrameKind.User) done
    (whole 0 (Call.Grow 2 0 20) done (whole 0 (Call.Make Make.Pleaf 0 8 1 20) done (whole 0 (Call.Retype 0 8 FrameKind.Kernel) done [])))

-- A retype that finds the frame's count pinned is held up; then the frame is referenced.
pinned : Permitted (
    whole 0 (Call.Retype 0 9 FrameKind.Untyped) (Reply.Referenced 1) (
    Returns 1 ∷ Decides 1 (Call.Map 2 0 0 9 (flags 0)) done
    ∷ whole 0 (Call.Retype 0 9 FrameKind.Untyped) (Reply.Busy 1) (
    Enters 1 (Call.Map 2 0 0 9 (flags 0))
    ∷ with_pages)))
unfolding two_cores sum_below node_refs refs holds_nothing
pinned = (
  ((((((tt, (refl, (refl, refl))), (refl, (refl, refl))), (refl, (refl, refl))), (refl, (refl, refl))), (refl, tt)), (refl, (refl, refl))),
  (refl, inr (inr (inr (inl (refl, refl))))),
)

-- A mapping that finds the frame marked is held up; then the retype is carried out.
marked : Permitted (
    Returns 0 ∷ Decides 0 (Call.Retype 0 9 FrameKind.Untyped) done
    ∷ whole 1 (Call.Map 2 0 0 9 (flags 0)) (Reply.Busy 0) (
    Enters 0 (Call.Retype 0 9 FrameKind.Untyped)
    ∷ with_pages))
unfolding two_cores sum_below node_refs refs holds_nothing
marked = (
  (((((tt, (refl, (refl, refl))), (refl, (refl, refl))), (refl, (refl, refl))), (refl, (refl, refl))), (refl, tt)),
  (refl, (refl, refl)),
)

-- A frame that one core has mapped and the other unmapped is retyped when both have flushed.
flushed_by_both : Permitted (
    whole 0 (Call.Retype 0 9 FrameKind.Untyped) done (
    whole 0 Call.Flush done (
    whole 1 Call.Flush done (
    whole 1 (Call.Unmap 2 0) done (
    whole 0 (Call.Map 2 0 0 9 (flags 0)) done
    with_pages)))))
unfolding two_cores sum_below node_refs refs holds_nothing
flushed_by_both = (
  (
    (
      (
        (((((tt, (refl, (refl, refl))), (refl, (refl, refl))), (refl, (refl, refl))), (refl, (refl, refl))), (refl, (refl, refl))),
        (refl, (refl, refl)),
      ),
      (refl, (refl, refl)),
    ),
    (refl, (refl, refl)),
  ),
  (refl, (refl, refl)),
)
