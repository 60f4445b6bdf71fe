-- Flushes that are decided and still to be stored. What a core holds stands for nothing at a flush word, but there: so where a step
-- leaves what it stands for at its core's flush word, the core has its last flush stored if it had before.
use Rattle.kept_facts.specs.core_invariant.proofs as low
use low.{Tail, Quiesce, StoreFlush, Push, Pop, Release, Work, Acquire, ActiveCall, Stage, Undecided, Decided, holds_counts, flushing_in}
use low.{phase_at, KnowsAt, is_done, holds_act, holds_tail, holds_work, holds_at, holds_shared, Pair, PairAt, LoadA, Trace, Phase, Out}
use low.{Open, Reply, Call, Setting, Acquired, AtCompare, ◌≡◌, ℕ, ◌≤◌, Bool, true, false, if◌then◌else◌, List, [], ◌∷◌, Option, Some, None}
use low.{◌⊎◌, inl, inr, arith, refl, sym, ◌∙◌, ap, subst, false≢true, same_same, FlushAt, Act as act_work, IfSome, Freezing.release_flush}
use low.{Keepings.IsApart, Keepings.all_beside, Keepings.act_beside, Keepings.plain_spared}
use Rattle.kept_facts.specs.act_states.specs.{Close, Push as PushOf, Pop as PopOf, declared.work.Tail.TheVariants.Share}
use Rattle.kept_facts.specs.core_invariant.specs.{is_flushing, holds_stage, Holding.Holding, Holding.holds_drawn, Knows.flushes_tail}
use Rattle.kept_facts.specs.act_states.specs.{declared.work.Act.Act as ActOf, phases_of}
use Rattle.kept_facts.specs.core_invariant.specs.{Invariant.holds_push, Invariant.holds_pop}
use Rattle.kept_facts.specs.kernel_history.specs.Trace.{Decided as Decided_phase}

counts_flush : (fate : Option (Option ℕ)) (xs : List Acquired) (c : ℕ) → (holds_counts fate xs).stands (FlushAt c) ≡ 0
counts_flush fate [] c = refl
counts_flush fate (x ∷ xs) c = counts_flush fate xs c

drawn_flush : (close : Close) (h : Holding) (c : ℕ) → (holds_drawn close h).stands (FlushAt c) ≡ h.stands (FlushAt c)
drawn_flush (AtCompare node entry word core) h c = refl
drawn_flush _ h c = refl

shared_flush : (p : Pair) (at : PairAt) (h : Holding) (c : ℕ) → (holds_shared p at h).stands (FlushAt c) ≡ h.stands (FlushAt c)
shared_flush p LoadA h c = refl
shared_flush p _ h c = refl

act_flush : (act : ActOf) (h : Holding) (c : ℕ) → (holds_act act h).stands (FlushAt c) ≡ h.stands (FlushAt c)
act_flush act h c =
    (all_beside (phases_of act).keeps h (FlushAt c) (act_beside act (FlushAt c) apart (plain_spared act (FlushAt c) refl))).1
  where
    apart : IsApart (FlushAt c)
    apart = record { entries = λ f i. refl; frames = λ f. refl; numbers = λ l. refl }

work_flush : (work : Work) (h : Holding) (c : ℕ) → (holds_work work h).stands (FlushAt c) ≡ h.stands (FlushAt c)
work_flush (Acquire pin change act) h c = act_flush act h c
work_flush (act_work act) h c = act_flush act h c
work_flush _ h c = refl

push_flush : (p : PushOf) (h : Holding) (c : ℕ) → (holds_push p h).stands (FlushAt c) ≡ h.stands (FlushAt c)
push_flush (PushOf.AtStack f core depth comp) h c = refl
push_flush (PushOf.AtThread f core depth) h c = refl

pop_flush : (p : PopOf) (h : Holding) (c : ℕ) → (holds_pop p h).stands (FlushAt c) ≡ h.stands (FlushAt c)
pop_flush (PopOf.AtThread f core depth) h c = refl
pop_flush (PopOf.AtStack f depth) h c = refl

tail_flush : (tail : Tail) (h : Holding) (c : ℕ) → flushes_tail tail ≡ false → (holds_tail tail h).stands (FlushAt c) ≡ h.stands (FlushAt c)
tail_flush (Quiesce close) h c none = drawn_flush close h c
tail_flush (Release release) h c none = (release_flush release h c).1
tail_flush (Push push) h c none = push_flush push h c
tail_flush (Pop pop) h c none = pop_flush pop h c
tail_flush (Share p) h c none = shared_flush p p.at h c
tail_flush (StoreFlush by stamp) h c none = absurd (false≢true (sym none))
tail_flush tail h c none = refl

stage_flush : (stage : Stage) (h : Holding) (c : ℕ) → is_flushing stage ≡ false
    → (holds_stage stage h).stands (FlushAt c) ≡ h.stands (FlushAt c)
stage_flush (Undecided work) h c none = work_flush work h c
stage_flush (Decided r drawn tail) h c none = tail_flush tail h c none
stage_flush _ h c none = refl

-- A flush that is still to be stored has a stamp.
some_flush : (setup : Setting) (t : Trace) (c table : ℕ) (a : ActiveCall) (stage : Stage) (h : Holding) → KnowsAt setup t c table a stage
    → is_flushing stage ≡ true → 1 ≤ (holds_stage stage h).stands (FlushAt c)
some_flush setup t c table a (Decided r drawn (StoreFlush by stamp)) h knows is =
    subst (λ (d : ℕ). 1 ≤ (holds_tail (StoreFlush by stamp) h).stands (FlushAt d)) knows.core
    (subst (λ (n : ℕ). 1 ≤ n) (sym (ap (λ b. if b then stamp else h.stands (FlushAt by)) (same_same (FlushAt by)))) knows.some)
some_flush setup t c table a _ h knows is = absurd (false≢true is)

-- Where what a core holds stands for the same at its flush word, and it has no flush to store, it had none.
pub still_flushed : (setup : Setting) (t : Trace) (c table : ℕ) (a : ActiveCall) (stage' : Stage) (counts' : List Acquired)
    → KnowsAt setup t c table a a.stage
    → (holds_at stage' counts').stands (FlushAt c) ≡ (holds_at a.stage a.counts).stands (FlushAt c)
    → is_flushing stage' ≡ false → is_flushing a.stage ≡ false
still_flushed setup t c table a stage' counts' knows same none = by (is_flushing a.stage) refl
  where
    by : (b : Bool) → is_flushing a.stage ≡ b → b ≡ false
    by false is = refl
    by true is =
        let some = some_flush setup t c table a a.stage (holds_counts (is_done a.stage) a.counts) knows is in
        let zero : (holds_at stage' counts').stands (FlushAt c) ≡ 0 =
        stage_flush stage' (holds_counts (is_done stage') counts') c none ∙ counts_flush (is_done stage') counts' c in
        absurd (none_some (subst (λ (n : ℕ). 1 ≤ n) (sym same ∙ zero) some))
      where
        none_some : 1 ≤ 0 → ⊥
        none_some h = omega (arith, h)

-- A core that is in no call, or in one that is not decided, has none.
pub none_flushing : (active : Option ActiveCall) (p : Phase) → IfSome active (λ a. p ≡ phase_at a.call a.stage)
    → (p ≡ Out) ⊎ ((call : Call) × (p ≡ Open call)) → flushing_in active ≡ false
none_flushing None p at undecided = refl
none_flushing (Some a) p at undecided = by a.stage refl
  where
    none : (r : Reply) → p ≡ Decided_phase a.call r → ⊥
    none r is = elim undecided [ inl out ↦ out_no (sym out ∙ is) | inr in_call ↦ open_no in_call.0 (sym in_call.1 ∙ is) ]
      where
        out_no : Out ≡ Decided_phase a.call r → ⊥
        out_no h = cc

        open_no : (call : Call) → Open call ≡ Decided_phase a.call r → ⊥
        open_no call h = cc

    by : (stage : Stage) → a.stage ≡ stage → is_flushing a.stage ≡ false
    by (Decided r drawn tail) is = absurd (none r (at ∙ ap (phase_at a.call) is))
    by _ is = ap is_flushing is

-- A call that is not decided has none.
pub open_flushed : (call : Call) (stage : Stage) → phase_at call stage ≡ Open call → is_flushing stage ≡ false
open_flushed call (Decided r drawn tail) opens = absurd (cc)
open_flushed call _ opens = refl
