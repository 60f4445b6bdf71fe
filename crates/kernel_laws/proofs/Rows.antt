-- Worked examples of calls made alone, which the checker computes.
use Rattle.found_stays.specs.kernel_rules.specs.{◌≡◌, refl, ℕ, zero, suc, ◌+◌, true, false, take, List, [], ◌∷◌, whole_copy, Capability}
use Rattle.found_stays.specs.kernel_rules.specs.{cap_of, Setting, Grant, Call, Nothing, Cap, Page, Amount, Reply, PlaceOf, start, plain_cap}
use Rattle.found_stays.specs.kernel_rules.specs.{sum_below, node_refs, refs, holds_nothing, tcap_at, plain_reply, plain_step, plain_replies}
use Rattle.found_stays.specs.kernel_rules.specs.{plain_steps, PageFlags, Kind, FrameKind, Make}
use Rattle.found_stays.specs.spk_nums.specs.declared.replies.Value.TheVariants.{Preempts, Stays}
use Rattle.found_stays.specs.kernel_rules.specs.State.{State}

-- A grant of ticks, with one scheduler and its quality.
abbrev grant : ℕ → ℕ → ℕ → Grant
grant budget sched quality = record { budget = budget; sched = sched; quality = quality }

-- A machine of two cores and 32 frames with these grants and limits.
abbrev machine : Grant → Grant → ℕ → ℕ → Setting
machine g h calls epochs = record { cores = 2; frames = 32; grants = g ∷ h ∷ []; calls = calls; epochs = epochs }

-- Two cores with 100 ticks each.
abbrev two_cores : State
two_cores = start (machine (grant 100 0 1) (grant 100 0 1) 4194304 65535)

abbrev done : Reply
done = Reply.Ok Nothing

abbrev range_of : ℕ → ℕ → Capability
range_of f n = cap_of Kind.Range f n

-- A name has no slot past the leaves of its table or past 4,095, and is empty where nothing is held.
look_up : plain_replies two_cores 0 (Call.Look 0 ∷ Call.Look 63 ∷ Call.Look 64 ∷ Call.Look 4096 ∷ [])
    ≡ Reply.Ok (Cap (range_of 8 24)) ∷ Reply.Empty ∷ Reply.NoSlot ∷ Reply.NoSlot ∷ []
look_up = refl

-- A table grows by a leaf: until then its numbers have no slot, and after the leaf's removal they have none again. The leaf
-- keeps its entries, and its frame can't be retyped while it is referenced, nor made again.
leaves_grow : plain_replies two_cores 0 (
    whole_copy 0 1 64
    ∷ Call.Retype 0 8 FrameKind.Kernel
    ∷ Call.Make Make.Leaf 0 8 1 20
    ∷ Call.Grow 1 1 20
    ∷ whole_copy 0 1 64
    ∷ Call.Look 64
    ∷ Call.Retype 0 8 FrameKind.Untyped
    ∷ Call.Shrink 1 1
    ∷ Call.Look 64
    ∷ Call.Make Make.Leaf 0 8 1 21
    ∷ Call.Grow 1 1 20
    ∷ Call.Look 64
    ∷ [])
    ≡ Reply.NoSlot ∷ done ∷ done ∷ done ∷ done ∷ Reply.Ok (Cap (range_of 8 24)) ∷ Reply.Referenced 2 ∷ done ∷ Reply.NoSlot
    ∷ Reply.FrameKind ∷ done ∷ Reply.Ok (Cap (range_of 8 24)) ∷ []
unfolding sum_below node_refs refs holds_nothing
leaves_grow = refl

-- A killed component is not called again, and a thread inside it may return, and do nothing else.
killing : plain_replies two_cores 0 (
    Call.Gate 3 1 20
    ∷ Call.Call 20
    ∷ Call.Kill 3
    ∷ Call.Call 20
    ∷ Call.Look 0
    ∷ Call.Ret
    ∷ Call.Ret
    ∷ Call.Kill 3
    ∷ [])
    ≡ done ∷ done ∷ done ∷ Reply.Dead ∷ Reply.Dead ∷ done ∷ Reply.Bottom ∷ Reply.Dead ∷ []
killing = refl

-- Ticks are charged as far as the budget goes, and the rest is owed; a transfer moves what is there.
charging : plain_replies (start (machine (grant 5 0 1) (grant 100 0 1) 4194304 65535)) 0
    (Call.Tick 8 ∷ Call.Transfer 13 12 10 ∷ Call.Tick 0 ∷ Call.Transfer 12 13 50 ∷ [])
    ≡ Reply.Ok (Amount 5) ∷ done ∷ Reply.Ok (Amount 3) ∷ Reply.Short 7 ∷ []
charging = refl

-- The same call, so many times.
times_over : ℕ → Call → List Call → List Call
times_over zero c rest = rest
times_over (suc n) c rest = c ∷ times_over n c rest

-- The same reply, so many times.
replies_over : ℕ → Reply → List Reply → List Reply
replies_over zero r rest = rest
replies_over (suc n) r rest = r ∷ replies_over n r rest

-- A thread is in sixteen components at most, and in one at least.
depths : plain_replies two_cores 0 (Call.Gate 3 1 20 ∷ times_over 16 (Call.Call 20) (times_over 16 Call.Ret []))
    ≡ replies_over 16 done (Reply.Deep ∷ replies_over 15 done (Reply.Bottom ∷ []))
unfolding times_over replies_over
depths = refl

-- Where the ticks of a grant and of a transfer end.
charged_calls : List Call
charged_calls = Call.Tick 8 ∷ Call.Transfer 13 12 10 ∷ Call.Tick 0 ∷ Call.Transfer 12 13 50 ∷ []

poor : State
poor = start (machine (grant 5 0 1) (grant 100 0 1) 4194304 65535)

charged_ends : (tcap_at (plain_steps poor 0 charged_calls) 6).budget ≡ 7
unfolding charged_calls poor
charged_ends = refl

moved_ends : (tcap_at (plain_steps poor 0 charged_calls) 7).budget ≡ 90
unfolding charged_calls poor
moved_ends = refl

spent_ends : ((plain_steps poor 0 charged_calls).core 0).spent ≡ 8
unfolding charged_calls poor
spent_ends = refl

owed_ends : ((plain_steps poor 0 charged_calls).core 0).owed ≡ 0
unfolding charged_calls poor
owed_ends = refl

-- A delegation gives its target the merged list, and no power to preempt what either part could not.
delegated_calls : List Call
delegated_calls =
    Call.Test 12 13
    ∷ Call.Test 13 12
    ∷ Call.Retype 0 8 FrameKind.Kernel
    ∷ Call.Make (Make.Tcap 0 5) 0 8 1 20
    ∷ Call.Delegate 12 20 10
    ∷ Call.Test 12 20
    ∷ Call.Test 20 12
    ∷ Call.Delegate 13 20 4
    ∷ Call.Test 13 20
    ∷ Call.Transfer 12 20 1
    ∷ Call.Delegate 12 12 1
    ∷ Call.Delegate 12 20 91
    ∷ []

two_schedulers : State
two_schedulers = start (machine (grant 100 0 1) (grant 100 1 7) 4194304 65535)

delegating : plain_replies two_schedulers 0 delegated_calls
    ≡ Reply.Ok Preempts ∷ Reply.Ok Preempts ∷ done ∷ done ∷ done ∷ Reply.Ok Preempts ∷ Reply.Ok Stays ∷ done ∷ Reply.Ok Stays
    ∷ Reply.Unlike ∷ Reply.Same ∷ Reply.Short 90 ∷ []
unfolding delegated_calls two_schedulers
delegating = refl

delegated_ends : tcap_at (plain_steps two_schedulers 0 delegated_calls) 8
    ≡ record { budget = 14; qualities = (0, 5) ∷ (1, 7) ∷ [] }
unfolding delegated_calls two_schedulers
delegated_ends = refl

-- Seven delegations of no ticks, each from a temporal capability of a scheduler of its own: i from 2 on, n in all.
each_delegates : ℕ → ℕ → List Call → List Call
each_delegates i zero rest = rest
each_delegates i (suc n) rest =
    Call.Retype 0 (7 + i) FrameKind.Kernel
    ∷ Call.Make (Make.Tcap i 9) 0 (7 + i) 1 (19 + i)
    ∷ Call.Delegate (19 + i) 20 0
    ∷ each_delegates (i + 1) n rest

-- A list names eight schedulers at most; a temporal capability without budget preempts none.
eight_schedulers : plain_replies (plain_steps two_schedulers 0 delegated_calls) 0
    (each_delegates 2 7 (Call.Test 21 12 ∷ Call.Test 12 21 ∷ []))
    ≡ replies_over 20 done (Reply.TooMany ∷ Reply.Ok Stays ∷ Reply.Ok Preempts ∷ [])
unfolding delegated_calls two_schedulers each_delegates replies_over
eight_schedulers = refl

eight_ends : tcap_at (plain_steps (plain_steps two_schedulers 0 delegated_calls) 0 (each_delegates 2 7 [])) 8
    ≡ record { budget = 14; qualities = (0, 5) ∷ (1, 7) ∷ (2, 9) ∷ (3, 9) ∷ (4, 9) ∷ (5, 9) ∷ (6, 9) ∷ (7, 9) ∷ [] }
unfolding delegated_calls two_schedulers each_delegates
eight_ends = refl

-- Kinds, ranges and running threads; and a leaf that is no longer linked still has its entry.
kinds : plain_replies two_cores 0 (
    whole_copy 0 3 20
    ∷ Call.Retype 0 3 FrameKind.User
    ∷ Call.Retype 0 8 FrameKind.User
    ∷ Call.Retype 0 8 FrameKind.Kernel
    ∷ Call.Switch 5 12
    ∷ Call.Switch 4 12
    ∷ Call.Retype 0 9 FrameKind.Kernel
    ∷ Call.Make Make.Leaf 0 9 1 20
    ∷ Call.Grow 1 1 20
    ∷ whole_copy 0 1 64
    ∷ Call.Shrink 1 1
    ∷ Call.Remove 1 20
    ∷ Call.Retype 0 9 FrameKind.Untyped
    ∷ [])
    ≡ Reply.WrongCap ∷ Reply.OutOfRange ∷ done ∷ Reply.FrameKind ∷ Reply.Running 1 ∷ Reply.Running 0
    ∷ replies_over 6 done (Reply.NotEmpty ∷ [])
unfolding sum_below node_refs refs holds_nothing replies_over
kinds = refl

-- A liveness number is taken again once it is dead, as far as its epochs go; a component's references end with its frame.
one_epoch : State
one_epoch = start (machine (grant 100 0 1) (grant 100 0 1) 4194304 1)

epoch_calls : List Call
epoch_calls =
    Call.Retype 0 8 FrameKind.Kernel
    ∷ Call.Make (Make.Comp 1 2 1) 0 8 1 20
    ∷ Call.Retype 0 9 FrameKind.Kernel
    ∷ Call.Make (Make.Comp 1 2 1) 0 9 1 21
    ∷ Call.Kill 20
    ∷ Call.Kill 20
    ∷ Call.Make (Make.Comp 1 2 1) 0 9 1 21
    ∷ Call.Remove 1 20
    ∷ Call.Retype 0 8 FrameKind.Untyped
    ∷ []

epochs : plain_replies one_epoch 0 epoch_calls
    ≡ done ∷ done ∷ done ∷ Reply.Occupied ∷ done ∷ Reply.Dead ∷ Reply.EpochsSpent ∷ done ∷ done ∷ []
unfolding sum_below node_refs refs holds_nothing one_epoch epoch_calls
epochs = refl

table_refs_end : refs (plain_steps one_epoch 0 epoch_calls) 0 ≡ 2
unfolding sum_below node_refs refs holds_nothing one_epoch epoch_calls
table_refs_end = refl

pages_refs_end : refs (plain_steps one_epoch 0 epoch_calls) 2 ≡ 2
unfolding sum_below node_refs refs holds_nothing one_epoch epoch_calls
pages_refs_end = refl

-- A core makes as many calls as its limit, and the other core its own.
two_calls : State
two_calls = start (machine (grant 100 0 1) (grant 100 0 1) 2 65535)

spent_calls : plain_replies two_calls 0 (Call.Look 0 ∷ Call.Look 1 ∷ Call.Look 2 ∷ [])
    ≡ Reply.Ok (Cap (range_of 8 24)) ∷ Reply.Ok (Cap (plain_cap Kind.Table 0)) ∷ Reply.CallsSpent ∷ []
unfolding two_calls
spent_calls = refl

other_core : plain_reply (plain_steps two_calls 0 (Call.Look 0 ∷ Call.Look 1 ∷ Call.Look 2 ∷ [])) 1 (Call.Look 2)
    ≡ Reply.Ok (Cap (plain_cap Kind.Pages 2))
unfolding two_calls
other_core = refl

-- The calls that make a page table with one leaf, and a user frame.
with_pages : List Call → List Call
with_pages rest =
    Call.Retype 0 8 FrameKind.Kernel
    ∷ Call.Make Make.Pleaf 0 8 1 20
    ∷ Call.Grow 2 0 20
    ∷ Call.Retype 0 9 FrameKind.User
    ∷ rest

flags : ℕ → PageFlags
flags w = record { 0 = w }

-- A mapped frame is referenced; an unmapped one is still translated until each core has flushed.
unmapping : plain_replies two_cores 0 (with_pages (
    Call.Map 2 0 0 9 (flags 1)
    ∷ Call.Retype 0 9 FrameKind.Untyped
    ∷ Call.Unmap 2 0
    ∷ Call.Retype 0 9 FrameKind.Untyped
    ∷ Call.Flush
    ∷ Call.Retype 0 9 FrameKind.Untyped
    ∷ Call.Retype 0 9 FrameKind.Untyped
    ∷ []))
    ≡ replies_over 5 done (Reply.Referenced 1 ∷ done ∷ Reply.Unflushed 0 ∷ done ∷ Reply.Unflushed 1 ∷ Reply.Unflushed 1 ∷ [])
unfolding sum_below node_refs refs holds_nothing with_pages flags replies_over
unmapping = refl

flushed_by_both : plain_reply
    (plain_step
    (plain_steps two_cores 0 (with_pages (
    Call.Map 2 0 0 9 (flags 1)
    ∷ Call.Unmap 2 0
    ∷ Call.Flush
    ∷ [])))
    1 Call.Flush)
    0 (Call.Retype 0 9 FrameKind.Untyped)
    ≡ done
unfolding sum_below node_refs refs holds_nothing with_pages flags
flushed_by_both = refl

-- A cached translation is answered until the core flushes, and the page is not mapped again until all have flushed.
touching : plain_replies two_cores 0 (with_pages (
    Call.Map 2 0 0 9 (flags 1)
    ∷ Call.Touch 0
    ∷ Call.Unmap 2 0
    ∷ Call.Touch 0
    ∷ Call.Flush
    ∷ Call.Touch 0
    ∷ Call.Map 2 0 0 9 (flags 1)
    ∷ []))
    ≡ replies_over 5 done (Reply.Ok (Page 9 (flags 1)) ∷ done ∷ Reply.Ok (Page 9 (flags 1)) ∷ done ∷ Reply.Fault ∷ Reply.Unflushed 1 ∷ [])
unfolding sum_below node_refs refs holds_nothing with_pages flags replies_over
touching = refl

-- A place that was removed alone is free at once.
refilling : plain_replies two_cores 0 (whole_copy 0 1 20 ∷ Call.Remove 1 20 ∷ Call.Look 20 ∷ whole_copy 0 1 20 ∷ whole_copy 0 1 20 ∷ [])
    ≡ done ∷ done ∷ Reply.Empty ∷ done ∷ Reply.Occupied ∷ []
refilling = refl

-- A gate has its component's own epoch: where the liveness number lives again for another component, it leads nowhere.
gate_calls : List Call
gate_calls =
    Call.Retype 0 8 FrameKind.Kernel
    ∷ Call.Make (Make.Comp 1 2 1) 0 8 1 20
    ∷ Call.Gate 20 1 22
    ∷ Call.Kill 20
    ∷ Call.Retype 0 9 FrameKind.Kernel
    ∷ Call.Make (Make.Comp 1 2 1) 0 9 1 21
    ∷ Call.Gate 21 1 23
    ∷ Call.Look 22
    ∷ Call.Look 23
    ∷ Call.Call 22
    ∷ Call.Call 23
    ∷ Call.Ret
    ∷ []

gate_of : ℕ → ℕ → Capability
gate_of f epoch = cap_of Kind.Gate f epoch

epochs_of_gates : plain_replies two_cores 0 gate_calls
    ≡ replies_over 7 done (Reply.Ok (Cap (gate_of 8 1)) ∷ Reply.Ok (Cap (gate_of 9 2)) ∷ Reply.Dead ∷ done ∷ done ∷ [])
unfolding gate_calls gate_of replies_over
epochs_of_gates = refl

-- A leaf whose entry was removed and that is made anew has no grace period left.
remade_calls : List Call
remade_calls =
    Call.Retype 0 9 FrameKind.Kernel
    ∷ Call.Make Make.Leaf 0 9 1 20
    ∷ Call.Grow 1 1 20
    ∷ whole_copy 0 1 64
    ∷ Call.Remove 1 64
    ∷ Call.Shrink 1 1
    ∷ Call.Remove 1 20
    ∷ Call.Retype 0 9 FrameKind.Untyped
    ∷ Call.Retype 0 9 FrameKind.Kernel
    ∷ Call.Make Make.Leaf 0 9 1 21
    ∷ []

remaking : plain_replies two_cores 0 remade_calls ≡ replies_over 10 done []
unfolding sum_below node_refs refs holds_nothing remade_calls replies_over
remaking = refl

no_grace_left : ((plain_steps two_cores 0 remade_calls).grace (PlaceOf 9 0)).not_passed 1 ≡ false
unfolding sum_below node_refs refs holds_nothing remade_calls
no_grace_left = refl

grace_before : ((plain_steps two_cores 0 (take 9 remade_calls)).grace (PlaceOf 9 0)).not_passed 1 ≡ true
unfolding sum_below node_refs refs holds_nothing remade_calls
grace_before = refl
