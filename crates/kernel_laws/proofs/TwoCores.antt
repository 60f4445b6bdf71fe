-- Worked examples of two cores: what the relation permits while both are in a call.
use Rattle.found_stays.specs.kernel_rules.proofs.{◌≡◌, inl, inr, refl, ℕ, arith, true, false, List, [], ◌∷◌, whole_copy, Setting}
use Rattle.found_stays.specs.kernel_rules.proofs.{Capability, cap_of, Call, Nothing, Cap, Reply, Holds, PlaceOf, FrameOf, sum_below}
use Rattle.found_stays.specs.kernel_rules.proofs.{node_refs, refs, holds_nothing, MayReply, Event, Enters, Decides, Returns, after, Kind}
use Rattle.found_stays.specs.kernel_rules.proofs.{FrameKind, Make}

two_cores : Setting
two_cores = record {
  cores = 2;
  frames = 32;
  grants = record { budget = 100; sched = 0; quality = 1 } ∷ record { budget = 100; sched = 0; quality = 1 } ∷ [];
  calls = 4194304;
  epochs = 65535;
}

done : Reply
done = Reply.Ok Nothing

range : Capability
range = cap_of Kind.Range 8 24

-- A whole call of core c after these events.
whole : ℕ → Call → Reply → List Event → List Event
whole c k r before = Returns c ∷ Decides c k r ∷ Enters c k ∷ before

-- What is permitted where core c enters a call after these events.
abbrev Permits : List Event → ℕ → Call → Reply → Type 0
Permits before c k r = MayReply (after two_cores (Enters c k ∷ before)) c k r

-- The call that core 1 is in.
abbrev copies : Call
copies = whole_copy 20 1 21

-- Core 0 fills place 20; core 1 enters a call; core 0 removes the place.
removed_meanwhile : List Event
removed_meanwhile = whole 0 (Call.Remove 1 20) done (Enters 1 copies ∷ whole 0 (whole_copy 0 1 20) done [])

-- A call that was in progress when the place was removed may still copy what it held,
still_serves : MayReply (after two_cores removed_meanwhile) 1 copies done
unfolding two_cores done whole removed_meanwhile
still_serves = (refl, (refl, refl))

-- and then holds it,
holds_it : (after two_cores (Returns 1 ∷ Decides 1 copies done ∷ removed_meanwhile)).place 1 21 ≡ Holds range
unfolding two_cores done range whole removed_meanwhile
holds_it = refl

-- but it may also find the place empty.
or_empty : MayReply (after two_cores removed_meanwhile) 1 copies Reply.Empty
unfolding two_cores done whole removed_meanwhile
or_empty = (refl, inl refl)

-- Core 0 may not fill the place again while core 1 is still in that call,
not_yet : Permits removed_meanwhile 0 (whole_copy 0 1 20) done → ⊥
unfolding two_cores done whole removed_meanwhile
not_yet may = may.1.1

-- and is told that it waits for core 1.
waits_for_one : Permits removed_meanwhile 0 (whole_copy 0 1 20) (Reply.Quiescing 1)
unfolding two_cores done whole removed_meanwhile
waits_for_one = (
  refl,
  inr (inr (inl (record { is_core = omega arith; other = λ e. omega (arith, e); is_inside = refl; not_passed = refl }))),
)

-- Once core 1 has returned, the place is free.
free_then : Permits (Returns 1 ∷ Decides 1 copies done ∷ removed_meanwhile) 0 (whole_copy 0 1 20) done
unfolding two_cores done range whole removed_meanwhile
free_then = (refl, (refl, refl))

-- Core 0 fills and removes place 20, then core 1 enters a call.
entered_later : List Event
entered_later = Enters 1 copies ∷ whole 0 (Call.Remove 1 20) done (whole 0 (whole_copy 0 1 20) done [])

-- A core that entered after the removal does not keep the place from being filled,
later_free : Permits entered_later 0 (whole_copy 0 1 20) done
unfolding two_cores done whole entered_later
later_free = (refl, (refl, refl))

-- but as none of its calls has returned since, the refusal is permitted too.
later_refused : Permits entered_later 0 (whole_copy 0 1 20) (Reply.Quiescing 1)
unfolding two_cores done whole entered_later
later_refused = (
  refl,
  inr (inr (inl (record { is_core = omega arith; other = λ e. omega (arith, e); is_inside = refl; not_passed = refl }))),
)

-- What was removed is gone for a call that entered later.
gone : MayReply (after two_cores entered_later) 1 copies done → ⊥
unfolding two_cores done whole entered_later
gone may = may.1.1

-- Core 0 makes a component of liveness number 1, and kills it while core 1 is in a call.
killed_meanwhile : List Event
killed_meanwhile =
    whole 0 (Call.Kill 20) done
    (Enters 1 (Call.Look 20)
    ∷ whole 0 (Call.Retype 0 9 FrameKind.Kernel) done
    (whole 0 (Call.Make (Make.Comp 1 2 1) 0 8 1 20) done
    (whole 0 (Call.Retype 0 8 FrameKind.Kernel) done [])))

-- The number is not taken again while core 1 is still in that call,
number_not_yet : Permits killed_meanwhile 0 (Call.Make (Make.Comp 1 2 1) 0 9 1 21) done → ⊥
unfolding two_cores done whole killed_meanwhile
number_not_yet may = may.1.1

-- and is once core 1 has returned.
number_then : Permits (Returns 1 ∷ Decides 1 (Call.Look 20) Reply.Empty ∷ killed_meanwhile) 0 (Call.Make (Make.Comp 1 2 1) 0 9 1 21) done
unfolding two_cores done whole killed_meanwhile
number_then = (refl, (refl, refl))

-- A refusal stands by its own cause: a target that is held may be `occupied`, also where a name before it leads to nothing.
own_cause : Permits (whole 0 (whole_copy 0 1 20) done []) 0 (whole_copy 63 1 20) Reply.Occupied
unfolding two_cores done whole
own_cause = (refl, inr (inr (inl refl)))

-- Core 1, which waited, returns and enters again: it is out of the removal's way, but no call that it entered since has returned.
entered_again : List Event
entered_again = Enters 1 copies ∷ Returns 1 ∷ Decides 1 copies done ∷ removed_meanwhile

again_free : Permits entered_again 0 (whole_copy 0 1 20) done
unfolding two_cores done range whole removed_meanwhile entered_again
again_free = (refl, (refl, refl))

again_refused : Permits entered_again 0 (whole_copy 0 1 20) (Reply.Quiescing 1)
unfolding two_cores done range whole removed_meanwhile entered_again
again_refused = (
  refl,
  inr (inr (inl (record { is_core = omega arith; other = λ e. omega (arith, e); is_inside = refl; not_passed = refl }))),
)

-- Once such a call has returned, the refusal is not permitted any more.
passed_by : List Event
passed_by = Enters 1 copies ∷ whole 1 (Call.Look 0) (Reply.Ok (Cap range)) (Returns 1 ∷ Decides 1 copies done ∷ removed_meanwhile)

not_refused : ((after two_cores passed_by).grace (PlaceOf 1 20)).not_passed 1 ≡ false
unfolding two_cores done range whole removed_meanwhile passed_by
not_refused = refl

-- Core 0 maps a page and unmaps it, and flushes; core 1 decides a flush that has not returned.
flushed_just_now : List Event
flushed_just_now =
    Decides 1 Call.Flush done
    ∷ Enters 1 Call.Flush
    ∷ whole 0 Call.Flush done
    (whole 0 (Call.Unmap 2 0) done
    (whole 0 (Call.Map 2 0 0 9 (record { 0 = 0 })) done
    (whole 0 (Call.Retype 0 9 FrameKind.User) done
    (whole 0 (Call.Grow 2 0 20) done
    (whole 0 (Call.Make Make.Pleaf 0 8 1 20) done
    (whole 0 (Call.Retype 0 8 FrameKind.Kernel) done []))))))

-- The frame may be retyped, for both have flushed; but core 1 may also be found not to have,
retype_free : Permits flushed_just_now 0 (Call.Retype 0 9 FrameKind.Untyped) done
unfolding two_cores done whole flushed_just_now sum_below node_refs refs holds_nothing
retype_free = (refl, (refl, refl))

retype_refused : ((after two_cores flushed_just_now).grace (FrameOf 9)).flush_unknown 1 ≡ true
unfolding two_cores done whole flushed_just_now
retype_refused = refl

-- until its flush has returned.
flush_known : ((after two_cores (Returns 1 ∷ flushed_just_now)).grace (FrameOf 9)).flush_unknown 1 ≡ false
unfolding two_cores done whole flushed_just_now
flush_known = refl

-- A table that is not there does not keep the target's number from being too large.
own_number : Permits [] 0 (whole_copy 0 63 4096) Reply.NoSlot
unfolding two_cores
own_number = (refl, inr (inr (inl refl)))
