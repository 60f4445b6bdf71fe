-- Worked examples, which the checker computes, of what is easily forgotten: what an invocation may be refused with where its name
-- leads to no gate, what waits for flushes, and what a core does whose component was killed.
use Rattle.kernel_rules.specs.{◌≡◌, ◌⊎◌, refl, Bool, true, false, IsTrue, List, [], ◌∷◌, None, Call, Value, Nothing, Cap, Amount, Reply}
use Rattle.kernel_rules.specs.{Kind, FrameKind, Make, Pages, Thread, Kernel, plain_cap, start, sum_below, node_refs, refs, entered}
use Rattle.kernel_rules.specs.{returned, holds_nothing, MayReply, state_by, plain_reply, plain_replies, plain_steps}
use Rattle.std.proofs.Common.{inl, inr, true≢false}
use Rattle.{std.proofs.lemmas.Bool.false≢true, kernel_rules.specs.State.State}

-- One core with 100 ticks, and 32 frames, of which 6 is the first that is untyped.
abbrev one_core : State
one_core =
    start (record {
      cores = 1;
      frames = 32;
      grants = record { budget = 100; sched = 0; quality = 1 } ∷ [];
      calls = 4194304;
      epochs = 65535;
    })

abbrev done : Reply
done = Reply.Ok Nothing

-- Core 0's call may be decided with this reply at the start.
abbrev Permits : Call → Reply → Type 0
Permits k r = MayReply (entered one_core 0) 0 k r

neither : {A B C : Type 0} → (A → ⊥) → (B → ⊥) → (C → ⊥) → A ⊎ (B ⊎ (C ⊎ ⊥)) → ⊥
neither a b c (inl x) = a x
neither a b c (inr (inl x)) = b x
neither a b c (inr (inr (inl x))) = c x
neither a b c (inr (inr (inr x))) = x

-- The component lives, so `dead` is for want of another.
neither_dead : {A B : Type 0} → (B → ⊥) → (A × (true ≡ false)) ⊎ B → ⊥
neither_dead rule (inl x) = true≢false x.1
neither_dead rule (inr y) = rule y

-- Where nothing is held, an invocation may find that, and nothing else: neither a dead component nor a deep thread.
nothing_to_call : Permits (Call.Call 63) Reply.Empty
nothing_to_call = (refl, inl refl)

nothing_is_not_dead : Permits (Call.Call 63) Reply.Dead → ⊥
nothing_is_not_dead may = neither_dead (neither (λ n. n) (λ deep. false≢true deep.0) (λ dead. false≢true dead.0)) may.1

nothing_is_not_wrong : Permits (Call.Call 63) Reply.WrongCap → ⊥
nothing_is_not_wrong may = neither (λ n. n) (λ deep. false≢true deep.0) (λ dead. false≢true dead.0) may.1

nothing_is_not_called : Permits (Call.Call 63) done → ⊥
nothing_is_not_called may = may.1.1

-- A range is no gate, so it is the wrong capability, and not dead.
range_is_wrong : Permits (Call.Call 0) Reply.WrongCap
range_is_wrong = (refl, inl refl)

range_is_not_dead : Permits (Call.Call 0) Reply.Dead → ⊥
range_is_not_dead may = neither_dead (neither (λ n. n) (λ deep. false≢true deep.0) (λ dead. false≢true dead.0)) may.1

range_is_not_empty : Permits (Call.Call 0) Reply.Empty → ⊥
range_is_not_empty may = neither (λ held. false≢true (sym held)) (λ deep. false≢true deep.0) (λ dead. false≢true dead.0) may.1
  where
    sym : {b c : Bool} → b ≡ c → c ≡ b
    sym e = cc

-- A frame beyond the machine's is out of the range, and of no kind.
beyond_the_machine : Permits (Call.Retype 0 32 FrameKind.Untyped) Reply.OutOfRange
beyond_the_machine = (refl, inr (inl (refl, refl)))

beyond_no_kind : Permits (Call.Retype 0 32 FrameKind.Untyped) Reply.FrameKind → ⊥
unfolding sum_below node_refs refs holds_nothing
beyond_no_kind may = by_cause may.1
  where
    by_range : Reply.FrameKind ≡ Reply.OutOfRange → ⊥
    by_range e = cc

    by_cause : {A B C D : Type 0}
        → ⊥ ⊎ ((A × (Reply.FrameKind ≡ Reply.OutOfRange))
        ⊎ ((IsTrue false × B) ⊎ ((IsTrue false × C) ⊎ (⊥ ⊎ (⊥ ⊎ ((IsTrue false × D) ⊎ ⊥)))))) → ⊥
    by_cause (inl x) = x
    by_cause (inr (inl x)) = by_range x.1
    by_cause (inr (inr (inl x))) = false≢true x.0
    by_cause (inr (inr (inr (inl x)))) = false≢true x.0
    by_cause (inr (inr (inr (inr (inl x))))) = x
    by_cause (inr (inr (inr (inr (inr (inl x)))))) = x
    by_cause (inr (inr (inr (inr (inr (inr (inl x))))))) = false≢true x.0
    by_cause (inr (inr (inr (inr (inr (inr (inr x))))))) = x

-- An entry of a root of pages is filled again only after a flush.
unlinked : plain_replies one_core 0 (
    Call.Retype 0 6 FrameKind.Kernel
    ∷ Call.Make Make.Pleaf 0 6 1 20
    ∷ Call.Grow 2 0 20
    ∷ Call.Shrink 2 0
    ∷ Call.Grow 2 0 20
    ∷ Call.Flush
    ∷ Call.Grow 2 0 20
    ∷ [])
    ≡ done ∷ done ∷ done ∷ done ∷ Reply.Unflushed 0 ∷ done ∷ done ∷ []
unlinked = refl

-- The frame of a leaf of pages is retyped only after a flush, also where it was never linked.
never_linked : plain_replies one_core 0 (
    Call.Retype 0 6 FrameKind.Kernel
    ∷ Call.Make Make.Pleaf 0 6 1 20
    ∷ Call.Remove 1 20
    ∷ Call.Retype 0 6 FrameKind.Untyped
    ∷ Call.Flush
    ∷ Call.Retype 0 6 FrameKind.Untyped
    ∷ [])
    ≡ done ∷ done ∷ done ∷ Reply.Unflushed 0 ∷ done ∷ done ∷ []
unfolding sum_below node_refs refs holds_nothing
never_linked = refl

-- A root of pages and a thread are made of blank frames.
makes : List Call
makes =
    Call.Retype 0 6 FrameKind.Kernel
    ∷ Call.Make Make.Pages 0 6 1 20
    ∷ Call.Retype 0 7 FrameKind.Kernel
    ∷ Call.Make (Make.Thread 3) 0 7 1 21
    ∷ []

made : plain_replies one_core 0 makes ≡ done ∷ done ∷ done ∷ done ∷ []
unfolding makes
made = refl

pages_made : (plain_steps one_core 0 makes).frame 6 ≡ Kernel Pages
unfolding makes
pages_made = refl

thread_made : (plain_steps one_core 0 makes).frame 7 ≡ Kernel (Thread (record { stack = 3 ∷ []; runs_on = None }))
unfolding makes
thread_made = refl

-- A core that kills the component in which it works goes on to flush and to charge ticks alone: a return is at the bottom, and every other
-- call is dead before its names are judged.
killed : List Call
killed =
    Call.Kill 3
    ∷ Call.Look 0
    ∷ Call.Look 63
    ∷ Call.Touch 0
    ∷ Call.Flush
    ∷ Call.Ret
    ∷ Call.Tick 5
    ∷ []

locked_out : plain_replies one_core 0 killed
    ≡ done ∷ Reply.Dead ∷ Reply.Dead ∷ Reply.Dead ∷ done ∷ Reply.Bottom ∷ Reply.Ok (Amount 5) ∷ []
unfolding killed
locked_out = refl

-- Two cores with 100 ticks each, in one component.
abbrev two_cores : State
two_cores =
    start (record {
      cores = 2;
      frames = 32;
      grants = record { budget = 100; sched = 0; quality = 1 } ∷ record { budget = 100; sched = 0; quality = 1 } ∷ [];
      calls = 4194304;
      epochs = 65535;
    })

-- A core gives back what it has spent, and no more; core 1 gives back nothing of it.
spends : List Call
spends = Call.Tick 10 ∷ Call.Replenish 12 11 ∷ Call.Replenish 12 4 ∷ Call.Replenish 13 7 ∷ Call.Replenish 13 6 ∷ []

given : plain_replies two_cores 0 spends ≡ Reply.Ok (Amount 10) ∷ Reply.Short 10 ∷ done ∷ Reply.Short 6 ∷ done ∷ []
unfolding spends
given = refl

none_of_others : plain_reply (plain_steps two_cores 0 spends) 1 (Call.Replenish 12 1) ≡ Reply.Short 0
unfolding spends
none_of_others = refl

-- Two cores with time of two schedulers: neither puts its own into the other's capability, before it has delegated there.
abbrev two_kinds : State
two_kinds =
    start (record {
      cores = 2;
      frames = 32;
      grants = record { budget = 100; sched = 0; quality = 5 } ∷ record { budget = 100; sched = 1; quality = 5 } ∷ [];
      calls = 4194304;
      epochs = 65535;
    })

no_better : plain_replies two_kinds 0 (Call.Replenish 13 0 ∷ Call.Delegate 12 13 0 ∷ Call.Replenish 13 0 ∷ [])
    ≡ Reply.Unlike ∷ done ∷ done ∷ []
no_better = refl

-- The state after core 1 has entered a call, and core 0 one that kills the component of both.
abbrev kill_decided : State
kill_decided = state_by (entered (entered two_cores 1) 0) 0 (Call.Kill 3) done

-- A call in progress when the component is killed may end, and may be refused as dead; the next one is refused.
in_progress_may_end : MayReply kill_decided 1 (Call.Look 3) (Reply.Ok (Cap (plain_cap Kind.Comp 3)))
in_progress_may_end = (refl, (refl, refl))

in_progress_may_be_dead : MayReply kill_decided 1 (Call.Look 3) Reply.Dead
in_progress_may_be_dead = (refl, inl (refl, refl))

next_is_dead : plain_reply (returned kill_decided 1) 1 (Call.Look 3) ≡ Reply.Dead
next_is_dead = refl

next_does_not_end : (v : Value) → MayReply (entered (returned kill_decided 1) 1) 1 (Call.Look 3) (Reply.Ok v) → ⊥
next_does_not_end v may = false≢true may.1.0
