-- Each reply, in a state in which the call relation permits it and in one in which it does not. The checker computes both.
use Rattle.kernel_rules.proofs.{◌⊎◌, inl, inr, refl, ℕ, arith, zero, suc, ◌+◌, List, [], ◌∷◌, whole_copy, Setting, Grant, PageFlags, Call}
use Rattle.kernel_rules.proofs.{Nothing, Reply, start, sum_below, node_refs, refs, entered, holds_nothing, MayReply, plain_steps, FrameKind}
use Rattle.{kernel_rules.proofs.Make, entry_words.specs.spk_nums.specs.Rights.right_to_copy, kernel_rules.specs.State.State}

-- Neither of two stands, none of three, and so on.
neither : {A B : Type 0} → (A → ⊥) → (B → ⊥) → A ⊎ B → ⊥
neither a b (inl x) = a x
neither a b (inr y) = b y

-- Nothing stands of a cause that no call gives.
none : ⊥ → ⊥
none x = x

grant : ℕ → ℕ → Grant
grant sched quality = record { budget = 100; sched = sched; quality = quality }

-- Two cores and 32 frames, with these qualities of core 1's grant and these limits.
machine : ℕ → ℕ → ℕ → ℕ → Setting
machine sched quality calls epochs =
    record { cores = 2; frames = 32; grants = grant 0 1 ∷ grant sched quality ∷ []; calls = calls; epochs = epochs }

-- Core 0 is in a call, after these calls of it.
behind : List Call → State
behind calls = entered (plain_steps (start (machine 0 1 4194304 65535)) 0 calls) 0

at_start : State
at_start = behind []

done : Reply
done = Reply.Ok Nothing

copies : MayReply at_start 0 (whole_copy 0 1 20) done
unfolding grant machine behind at_start done
copies = (refl, (refl, refl))

copies_nothing : MayReply at_start 0 (whole_copy 63 1 20) done → ⊥
unfolding grant machine behind at_start done
copies_nothing may = may.1.1

no_slot : MayReply at_start 0 (Call.Look 64) Reply.NoSlot
unfolding grant machine behind at_start
no_slot = (refl, inl refl)

has_slot : MayReply at_start 0 (Call.Look 63) Reply.NoSlot → ⊥
unfolding grant machine behind at_start
has_slot may = neither (λ x. absurd (cc)) none may.1

is_empty : MayReply at_start 0 (Call.Look 63) Reply.Empty
unfolding grant machine behind at_start
is_empty = (refl, inl refl)

is_held : MayReply at_start 0 (Call.Look 0) Reply.Empty → ⊥
unfolding grant machine behind at_start
is_held may = neither (λ x. absurd (cc)) none may.1

no_table : MayReply at_start 0 (whole_copy 0 3 20) Reply.WrongCap
unfolding grant machine behind at_start
no_table = (refl, inr (inl refl))

is_table : MayReply at_start 0 (whole_copy 0 1 20) Reply.WrongCap → ⊥
unfolding grant machine behind at_start
is_table may = neither (λ x. absurd (cc)) (neither (λ x. absurd (cc)) (neither none none)) may.1

-- A copy of the range that may be copied, and not used.
copied_range : List Call
copied_range = Call.Copy 0 1 20 (record { 0 = right_to_copy }) ∷ []

lacks_right : MayReply (behind copied_range) 0 (Call.Retype 20 8 FrameKind.User) Reply.NoRight
unfolding grant machine behind copied_range
lacks_right = (refl, inl (refl, refl))

has_right : MayReply (behind copied_range) 0 (whole_copy 20 1 21) Reply.NoRight → ⊥
unfolding grant machine behind copied_range
has_right may = neither (λ x. let lacks = x.1 in absurd (cc)) (neither (λ x. let lacks = x.1 in absurd (cc)) (neither none none)) may.1

is_occupied : MayReply at_start 0 (whole_copy 0 1 2) Reply.Occupied
unfolding grant machine behind at_start
is_occupied = (refl, inr (inr (inl refl)))

is_vacant : MayReply at_start 0 (whole_copy 0 1 20) Reply.Occupied → ⊥
unfolding grant machine behind at_start
is_vacant may = neither none (neither none (neither (λ x. absurd (cc)) none)) may.1

-- Core 1 is in a call in which core 0 fills a place and removes it; core 0 is in a further call.
removed_meanwhile : State
removed_meanwhile = entered (plain_steps (entered (start (machine 0 1 4194304 65535)) 1) 0 (whole_copy 0 1 20 ∷ Call.Remove 1 20 ∷ [])) 0

waits : MayReply removed_meanwhile 0 (whole_copy 0 1 20) (Reply.Quiescing 1)
unfolding grant machine removed_meanwhile
waits = (refl, inr (inr (inl (record { is_core = omega arith; other = λ e. omega (arith, e); is_inside = refl; not_passed = refl }))))

waits_for_none : MayReply (behind (whole_copy 0 1 20 ∷ Call.Remove 1 20 ∷ [])) 0 (whole_copy 0 1 20) (Reply.Quiescing 1) → ⊥
unfolding grant machine behind
waits_for_none may = neither none (neither none (neither (λ x. let inside = x.is_inside in absurd (cc)) none)) may.1

flags : PageFlags
flags = record { 0 = 1 }

-- A page table with one leaf, and a user frame.
with_pages : List Call → List Call
with_pages rest =
    Call.Retype 0 8 FrameKind.Kernel ∷ Call.Make Make.Pleaf 0 8 1 20 ∷ Call.Grow 2 0 20 ∷ Call.Retype 0 9 FrameKind.User ∷ rest

is_unflushed : MayReply (behind (with_pages (Call.Map 2 0 0 9 flags ∷ Call.Unmap 2 0 ∷ Call.Flush ∷ [])))
    0 (Call.Map 2 0 0 9 flags) (Reply.Unflushed 1)
unfolding grant machine behind flags with_pages
is_unflushed = (refl, inr (inr (inl (record { is_core = omega arith; flush_unknown = refl }))))

is_flushed : MayReply (behind (with_pages (Call.Map 2 0 0 9 flags ∷ Call.Unmap 2 0 ∷ Call.Flush ∷ [])))
    0 (Call.Map 2 0 0 9 flags) (Reply.Unflushed 0) → ⊥
unfolding grant machine behind flags with_pages
is_flushed may = neither none (neither none
    (neither (λ x. let unknown = x.flush_unknown in absurd (cc)) (neither (λ x. absurd (cc)) (neither (λ x. absurd (cc)) none)))) may.1

is_untyped : MayReply at_start 0 (Call.Retype 0 8 FrameKind.Untyped) Reply.FrameKind
unfolding grant machine behind at_start sum_below node_refs refs holds_nothing
is_untyped = (refl, inr (inr (inl (refl, refl))))

may_be_typed : MayReply at_start 0 (Call.Retype 0 8 FrameKind.User) Reply.FrameKind → ⊥
unfolding grant machine behind at_start
may_be_typed may = neither none (neither (λ x. absurd (cc)) (neither (λ x. absurd (cc)) none)) may.1

is_outside : MayReply at_start 0 (Call.Retype 0 3 FrameKind.User) Reply.OutOfRange
unfolding grant machine behind at_start
is_outside = (refl, inr (inl (refl, refl)))

is_in_range : MayReply at_start 0 (Call.Retype 0 8 FrameKind.User) Reply.OutOfRange → ⊥
unfolding grant machine behind at_start
is_in_range may = neither none (neither (λ x. absurd (cc)) (neither (λ x. absurd (cc)) none)) may.1

-- A leaf, whose capability is its one reference.
with_leaf : State
with_leaf = behind (Call.Retype 0 8 FrameKind.Kernel ∷ Call.Make Make.Leaf 0 8 1 20 ∷ [])

is_referenced : MayReply with_leaf 0 (Call.Retype 0 8 FrameKind.Untyped) (Reply.Referenced 1)
unfolding grant machine behind with_leaf sum_below node_refs refs holds_nothing
is_referenced = (refl, inr (inr (inr (inl (refl, refl)))))

is_referenced_once : MayReply with_leaf 0 (Call.Retype 0 8 FrameKind.Untyped) (Reply.Referenced 2) → ⊥
unfolding grant machine behind with_leaf sum_below node_refs refs holds_nothing
is_referenced_once may =
    neither none (neither (λ x. absurd (cc)) (neither (λ x. absurd (cc))
    (neither (λ x. let k = x.1 in absurd (cc)) (neither none (neither none (neither (λ x. absurd (cc)) none))))))
    may.1

-- A leaf that has an entry, and has lost its link and its capability.
with_entry : List Call
with_entry =
    Call.Retype 0 9 FrameKind.Kernel ∷ Call.Make Make.Leaf 0 9 1 20
    ∷ Call.Grow 1 1 20 ∷ whole_copy 0 1 64 ∷ Call.Shrink 1 1 ∷ Call.Remove 1 20 ∷ []

is_not_empty : MayReply (behind with_entry) 0 (Call.Retype 0 9 FrameKind.Untyped) Reply.NotEmpty
unfolding grant machine behind with_entry sum_below node_refs refs holds_nothing
is_not_empty = (refl, inr (inr (inr (inr (inr (inr (inl (refl, refl))))))))

is_bare : MayReply with_leaf 0 (Call.Retype 0 8 FrameKind.Untyped) Reply.NotEmpty → ⊥
unfolding grant machine behind with_leaf sum_below node_refs refs holds_nothing
is_bare may =
    neither none (neither (λ x. absurd (cc)) (neither (λ x. absurd (cc))
    (neither (λ x. let k = x.1 in absurd (cc)) (neither none (neither none (neither (λ x. absurd (cc)) none))))))
    may.1

is_dead : MayReply (behind (Call.Kill 3 ∷ [])) 0 (Call.Kill 3) Reply.Dead
unfolding grant machine behind
is_dead = (refl, inr (inr (inl (refl, refl))))

is_live : MayReply at_start 0 (Call.Kill 3) Reply.Dead → ⊥
unfolding grant machine behind at_start
is_live may = neither (λ x. let dead = x.1 in absurd (cc)) (neither none (neither (λ x. absurd (cc)) none)) may.1

is_dead_inside : MayReply (behind (Call.Kill 3 ∷ [])) 0 (Call.Look 0) Reply.Dead
unfolding grant machine behind
is_dead_inside = (refl, inl (refl, refl))

is_live_inside : MayReply at_start 0 (Call.Look 0) Reply.Dead → ⊥
unfolding grant machine behind at_start
is_live_inside may = neither (λ x. let dead = x.1 in absurd (cc)) (neither none none) may.1

is_out_of_it : MayReply (behind (Call.Kill 3 ∷ [])) 0 Call.Flush Reply.Dead → ⊥
unfolding grant machine behind
is_out_of_it may = neither (λ x. let asks = x.0 in absurd (cc)) none may.1

-- A gate, called so many times.
deep_in : ℕ → List Call
deep_in zero = []
deep_in (suc n) = Call.Call 20 ∷ deep_in n

is_deep : MayReply (behind (Call.Gate 3 1 20 ∷ deep_in 15)) 0 (Call.Call 20) Reply.Deep
unfolding grant machine behind deep_in
is_deep = (refl, inr (inl (refl, refl)))

is_not_deep : MayReply (behind (Call.Gate 3 1 20 ∷ deep_in 14)) 0 (Call.Call 20) Reply.Deep → ⊥
unfolding grant machine behind deep_in
is_not_deep may = neither none (neither (λ x. absurd (cc)) (neither (λ x. absurd (cc)) none)) may.1

is_bottom : MayReply at_start 0 Call.Ret Reply.Bottom
unfolding grant machine behind at_start
is_bottom = (refl, inl (refl, refl))

is_not_bottom : MayReply (behind (Call.Gate 3 1 20 ∷ deep_in 1)) 0 Call.Ret Reply.Bottom → ⊥
unfolding grant machine behind deep_in
is_not_bottom may = neither (λ x. absurd (cc)) none may.1

is_running : MayReply at_start 0 (Call.Switch 5 12) (Reply.Running 1)
unfolding grant machine behind at_start
is_running = (refl, inr (inr (inl (refl, refl))))

runs_elsewhere : MayReply at_start 0 (Call.Switch 5 12) (Reply.Running 0) → ⊥
unfolding grant machine behind at_start
runs_elsewhere may = neither none (neither none (neither (λ x. let e = x.1 in absurd (cc)) none)) may.1

is_short : MayReply at_start 0 (Call.Transfer 12 13 101) (Reply.Short 100)
unfolding grant machine behind at_start
is_short = (refl, inr (inr (inr (inl (refl, refl)))))

is_not_short : MayReply at_start 0 (Call.Transfer 12 13 100) (Reply.Short 100) → ⊥
unfolding grant machine behind at_start
is_not_short may = neither none
    (neither none (neither (λ x. absurd (cc)) (neither (λ x. absurd (cc)) (neither (λ x. absurd (cc)) none)))) may.1

-- A second scheduler.
two_schedulers : State
two_schedulers = entered (start (machine 1 7 4194304 65535)) 0

is_unlike : MayReply two_schedulers 0 (Call.Transfer 12 13 1) Reply.Unlike
unfolding grant machine two_schedulers
is_unlike = (refl, inr (inr (inr (inr (inl (refl, refl))))))

is_alike : MayReply at_start 0 (Call.Transfer 12 13 1) Reply.Unlike → ⊥
unfolding grant machine behind at_start
is_alike may = neither none (neither none (neither (λ x. absurd (cc)) (neither (λ x. absurd (cc)) (neither (λ x. absurd (cc)) none)))) may.1

gets_finer : MayReply two_schedulers 0 (Call.Replenish 13 0) Reply.Unlike
unfolding grant machine two_schedulers
gets_finer = (refl, inr (inl (refl, refl)))

gets_no_finer : MayReply two_schedulers 0 (Call.Replenish 12 0) Reply.Unlike → ⊥
unfolding grant machine two_schedulers
gets_no_finer may = neither none (neither (λ x. absurd (cc)) (neither (λ x. absurd (cc)) none)) may.1

-- A core that has spent 30 ticks.
has_spent : State
has_spent = behind (Call.Tick 30 ∷ [])

has_less : MayReply has_spent 0 (Call.Replenish 12 31) (Reply.Short 30)
unfolding grant machine behind has_spent
has_less = (refl, inr (inr (inl (refl, refl))))

has_enough : MayReply has_spent 0 (Call.Replenish 12 30) (Reply.Short 30) → ⊥
unfolding grant machine behind has_spent
has_enough may = neither none (neither (λ x. absurd (cc)) (neither (λ x. absurd (cc)) none)) may.1

-- From i on, so many temporal capabilities, each of a scheduler of its own, that delegate to the one of place 20.
each_delegates : ℕ → ℕ → List Call
each_delegates i zero = []
each_delegates i (suc n) =
    Call.Retype 0 (9 + i) FrameKind.Kernel
    ∷ Call.Make (Make.Tcap (suc i) 9) 0 (9 + i) 1 (21 + i)
    ∷ Call.Delegate (21 + i) 20 0
    ∷ each_delegates (suc i) n

all_delegate : ℕ → State
all_delegate n = behind (Call.Retype 0 8 FrameKind.Kernel ∷ Call.Make (Make.Tcap 0 9) 0 8 1 20 ∷ each_delegates 0 n)

is_one_too_many : MayReply (all_delegate 8) 0 (Call.Delegate 28 20 0) Reply.TooMany
unfolding grant machine behind all_delegate each_delegates
is_one_too_many = (refl, inr (inr (inr (inr (inl (refl, refl))))))

is_room_for_one : MayReply (all_delegate 7) 0 (Call.Delegate 12 20 0) Reply.TooMany → ⊥
unfolding grant machine behind all_delegate each_delegates
is_room_for_one may =
    neither none (neither none (neither (λ x. absurd (cc)) (neither (λ x. absurd (cc)) (neither (λ x. absurd (cc)) none)))) may.1

is_same : MayReply at_start 0 (Call.Test 12 12) Reply.Same
unfolding grant machine behind at_start
is_same = (refl, inr (inr (inl (refl, refl))))

is_another : MayReply at_start 0 (Call.Test 12 13) Reply.Same → ⊥
unfolding grant machine behind at_start
is_another may = neither none (neither none (neither (λ x. absurd (cc)) none)) may.1

-- A component of liveness number 1, which is killed, and a blank frame; liveness numbers have so many epochs.
killed : ℕ → State
killed epochs = entered (plain_steps (start (machine 0 1 4194304 epochs)) 0 (
    Call.Retype 0 8 FrameKind.Kernel ∷ Call.Make (Make.Comp 1 2 1) 0 8 1 20 ∷ Call.Kill 20 ∷ Call.Retype 0 9 FrameKind.Kernel ∷ [])) 0

are_epochs_spent : MayReply (killed 1) 0 (Call.Make (Make.Comp 1 2 1) 0 9 1 21) Reply.EpochsSpent
unfolding grant machine killed
are_epochs_spent = (refl, inr (inr (inr (inr (inr (inr (inr (inr (inr (inl (refl, refl)))))))))))

is_epoch_left : MayReply (killed 2) 0 (Call.Make (Make.Comp 1 2 1) 0 9 1 21) Reply.EpochsSpent → ⊥
unfolding grant machine killed
is_epoch_left may =
    neither none (neither none (neither none (neither none (neither none
    (neither (λ x. absurd (cc))
    (neither (λ x. absurd (cc)) (neither (λ x. absurd (cc)) (neither none (neither (λ x. absurd (cc)) none)))))))))
    may.1

-- A core that may make no call.
no_calls : State
no_calls = entered (start (machine 0 1 0 65535)) 0

-- `raced` and `busy` are permitted of each call that is counted; what justifies them is said of the steps of the call.
may_be_raced : MayReply at_start 0 (whole_copy 0 1 20) Reply.Raced
unfolding grant machine behind at_start
may_be_raced = (refl, _)

not_raced : MayReply no_calls 0 (whole_copy 0 1 20) Reply.Raced → ⊥
unfolding grant machine no_calls
not_raced may = let spent = may.0 in absurd (cc)

may_be_busy : MayReply at_start 0 (whole_copy 0 1 20) (Reply.Busy 1)
unfolding grant machine behind at_start
may_be_busy = (refl, _)

not_busy : MayReply no_calls 0 (whole_copy 0 1 20) (Reply.Busy 1) → ⊥
unfolding grant machine no_calls
not_busy may = let spent = may.0 in absurd (cc)

is_fault : MayReply at_start 0 (Call.Touch 0) Reply.Fault
unfolding grant machine behind at_start
is_fault = (refl, inl (refl, inl refl))

is_mapped : MayReply (behind (with_pages (Call.Map 2 0 0 9 flags ∷ []))) 0 (Call.Touch 0) Reply.Fault → ⊥
unfolding grant machine behind flags with_pages
is_mapped may = neither (λ x. neither (λ y. absurd (cc)) (λ y. absurd (cc)) x.1) none may.1

are_calls_spent : MayReply no_calls 0 (Call.Look 0) Reply.CallsSpent
unfolding grant machine no_calls
are_calls_spent = refl

are_calls_left : MayReply at_start 0 (Call.Look 0) Reply.CallsSpent → ⊥
unfolding grant machine behind at_start
are_calls_left may = absurd (cc)
