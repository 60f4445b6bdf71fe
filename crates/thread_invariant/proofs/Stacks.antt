-- The stores of a push and of a pop are good.
use Rattle.live_invariant.specs as low
use low.step_ways.proofs.{◌≡◌, ◌≢◌, ◌⊎◌, inl, inr, ℕ, ◌+◌, ◌-◌, ◌≤◌, ◌^◌, ◌<◌, ◌==◌, ◌&&◌, Bool, true, false, if◌then◌else◌, List, Option}
use low.step_ways.proofs.{Some, None, arith, refl, sym, ◌∙◌, ap, subst, eqb-true, eq-eqb, ne_eqb, Setting, IsSetting, Reply, EntryAt}
use low.step_ways.proofs.{word_of_stack, ThreadFits, word_of_thread, thread_of_word, Running, Acquired, ThreadFields, Kernel, Thread}
use low.step_ways.proofs.{thread_mark, mark_in_frame, Trace, Nothing, Push, Pop, Decided, ActiveCall, StageFits, GoesOn, went_with, Core}
use low.step_ways.proofs.{Holding, holds_counts, done_by, Invariant, AsBefore, counts_bare, is_active, GoodTook}
use low.core_invariant.specs.{Holding.keeps_bare, Knows.KnowsPush, Knows.KnowsPop}
use low.{act_states.specs.Push as PushOf, act_states.specs.Pop as PopOf, stage_thread.specs.push_move, stage_thread.specs.pop_move}
use low.{call_stages.specs.Tails.pushed_on, call_stages.specs.Tails.popped_on}
use Rattle.{thread_invariant.proofs.Stores.stack_good}
use Rattle.live_invariant.specs.tcap_words.proofs.StackLemmas as stacks
use Rattle.live_invariant.specs.tcap_words.proofs.ThreadLemmas as threads
use Rattle.live_invariant.specs.stage_thread.specs.declared.stack.Pop.TheVariants as pop

-- A word that is kept, and another.
pub kept_here : (f i x : ℕ) (h : Holding) → (keeps_bare f i x h).bare f i ≡ Some x
kept_here f i x h = ap (λ b. if b && i == i then Some x else h.bare f i) (eq-eqb f f refl)
    ∙ ap (λ b. if b then Some x else h.bare f i) (eq-eqb i i refl)

pub kept_there : (f i x : ℕ) (h : Holding) (g j : ℕ) → EntryAt g j ≢ EntryAt f i → (keeps_bare f i x h).bare g j ≡ h.bare g j
kept_there f i x h g j apart = by (g == f) (j == i) refl refl
  where
    by : (b d : Bool) → (g == f) ≡ b → (j == i) ≡ d → (if g == f && j == i then Some x else h.bare g j) ≡ h.bare g j
    by false d frame index = ap (λ b. if b && j == i then Some x else h.bare g j) frame
    by true false frame index = ap (λ b. if b && j == i then Some x else h.bare g j) frame
        ∙ ap (λ b. if b then Some x else h.bare g j) index
    by true true frame index = absurd (apart (ap (λ (n : ℕ). EntryAt n j) (eqb-true g f frame) ∙ ap (EntryAt f) (eqb-true j i index)))

-- A word that is kept is this one, or another that was kept.
pub kept_is : (f i x : ℕ) (h : Holding) (g j v : ℕ) → (keeps_bare f i x h).bare g j ≡ Some v
    → ((g ≡ f) × (j ≡ i) × (v ≡ x)) ⊎ (h.bare g j ≡ Some v)
kept_is f i x h g j v kept = by (g == f) (j == i) refl refl
  where
    same_value : (n m : ℕ) → Some n ≡ Some m → m ≡ n
    same_value n m h = cc

    by : (b d : Bool) → (g == f) ≡ b → (j == i) ≡ d → ((g ≡ f) × (j ≡ i) × (v ≡ x)) ⊎ (h.bare g j ≡ Some v)
    by false d frame index = inr (sym (ap (λ b. if b && j == i then Some x else h.bare g j) frame) ∙ kept)
    by true false frame index = inr (sym (ap (λ b. if b && j == i then Some x else h.bare g j) frame
        ∙ ap (λ b. if b then Some x else h.bare g j) index) ∙ kept)
    by true true frame index = inl (
      eqb-true g f frame,
      eqb-true j i index,
      same_value x v (sym (ap (λ b. if b && j == i then Some x else h.bare g j) frame
          ∙ ap (λ b. if b then Some x else h.bare g j) index) ∙ kept),
    )

same_frame : (f i g j : ℕ) → EntryAt g j ≡ EntryAt f i → g ≡ f
same_frame f i g j h = cc

same_index : (f i g j : ℕ) → EntryAt g j ≡ EntryAt f i → j ≡ i
same_index f i g j h = cc

-- The word of a step is given back, and what else is kept stays.
given : (f i x : ℕ) (h : Holding) → ((g j : ℕ) → EntryAt g j ≡ EntryAt f i → h.bare g j ≡ None)
    → AsBefore (keeps_bare f i x h) h (EntryAt f i)
given f i x h none = record { there = λ g j apart. sym (kept_there f i x h g j apart); here = none; head = λ g j v kept mark. mark }

-- Beside one word more of the same frame.
one_more : (f i x k y : ℕ) (fate : Option (Option ℕ)) (xs : List Acquired) → i ≢ k → (g j : ℕ) → EntryAt g j ≡ EntryAt f i
    → (keeps_bare f k y (holds_counts fate xs)).bare g j ≡ None
one_more f i x k y fate xs other g j h =
    kept_there f k y (holds_counts fate xs) g j (λ same. other (sym (same_index f i g j h) ∙ same_index f k g j same)) ∙
    counts_bare fate xs g j

-- The words of a stack carry no mark.
bare_thread : (core depth : ℕ) → ThreadFits (Running core depth) → (k : ThreadFields)
    → mark_in_frame (Kernel (Thread k)) 0 (word_of_thread (Running core depth)) ≡ None
bare_thread core depth fits k = ap thread_mark (threads.spelling.reads (Running core depth) fits)

bare_place : (i v : ℕ) → i ≢ 0 → (k : ThreadFields) → mark_in_frame (Kernel (Thread k)) i v ≡ None
bare_place i v some k = ap (λ b. if b then thread_mark (thread_of_word v) else None) (ne_eqb i 0 some)

module _ (setup : Setting) (setting : IsSetting setup) (cores : ℕ → Core) (t : Trace) (stands : Invariant setup cores t) (c : ℕ)
    (here : c < setup.cores)
    (a : ActiveCall) (active : (cores c).active ≡ Some a) (r : Reply) (drawn : Option ℕ) where
  abbrev rest : Holding
  rest = holds_counts (done_by r drawn) a.counts

  core_small : (core : ℕ) → core ≡ c → core < 8
  core_small core own = let below : c < setup.cores = here in let most = setting.most_cores in omega (arith, own, below, most)

  pub push_good : (x : PushOf) → a.stage ≡ Decided r drawn (Push x) → KnowsPush c a.call x
      → GoodTook setup cores t c (push_move x) (GoesOn (went_with a a.counts (Decided r drawn (pushed_on x))))
  push_good (PushOf.AtStack f core depth comp) is has =
      let fits = subst (StageFits (cores c).own.layout) is (is_active setup setting cores t stands c here a active).stage in
      let h : Holding = keeps_bare f 0 (word_of_thread (Running core (depth + 1))) rest in
      stack_good setup setting cores t stands c here a active r drawn (Push (PushOf.AtStack f core depth comp))
      (Push (PushOf.AtThread f core depth)) is f (depth + 1) (word_of_stack (record { 0 = Some comp })) has.stack.threads
      (stacks.spelling.small (record { 0 = Some comp }) has.small)
      (bare_place (depth + 1) (word_of_stack (record { 0 = Some comp })) (λ none. omega (arith, none)))
      (kept_here f (depth + 1) (word_of_stack (record { 0 = Some comp })) h) (λ w. (refl, refl)) (λ w. (refl, refl))
      (given f (depth + 1) (word_of_stack (record { 0 = Some comp })) h
      (one_more f (depth + 1) 0 0 (word_of_thread (Running core (depth + 1))) (done_by r drawn) a.counts (λ none. omega (arith, none))))
      (λ u. has.stack)
  push_good (PushOf.AtThread f core depth) is has =
      let fits = subst (StageFits (cores c).own.layout) is (is_active setup setting cores t stands c here a active).stage in
      let thread_fits : ThreadFits (Running core (depth + 1)) =
      (core_small core has.core, (omega arith, (let most = fits.2 in omega (arith, most)))) in
      stack_good setup setting cores t stands c here a active r drawn (Push (PushOf.AtThread f core depth)) Nothing is f 0
      (word_of_thread (Running core (depth + 1))) has.threads (threads.spelling.small (Running core (depth + 1)) thread_fits)
      (bare_thread core (depth + 1) thread_fits) (kept_here f 0 (word_of_thread (Running core (depth + 1))) rest)
      (λ w. (refl, refl)) (λ w. (refl, refl))
      (given f 0 (word_of_thread (Running core (depth + 1))) rest (λ g j h. counts_bare (done_by r drawn) a.counts g j))
      (λ u. tt)

  pub pop_good : (x : PopOf) → a.stage ≡ Decided r drawn (Pop x) → KnowsPop c a.call x
      → GoodTook setup cores t c (pop_move x) (GoesOn (went_with a a.counts (Decided r drawn (popped_on x))))
  pop_good (pop.AtThread f core depth) is has =
      let fits = subst (StageFits (cores c).own.layout) is (is_active setup setting cores t stands c here a active).stage in
      let some = fits.1 in
      let thread_fits : ThreadFits (Running core (depth - 1)) =
      (core_small core has.core, (omega (arith, some), (let most = fits.2 in omega (arith, most)))) in
      let h : Holding = keeps_bare f depth (word_of_stack (record { 0 = None })) rest in
      stack_good setup setting cores t stands c here a active r drawn (Pop (pop.AtThread f core depth)) (Pop (pop.AtStack f depth)) is f 0
      (word_of_thread (Running core (depth - 1))) has.threads (threads.spelling.small (Running core (depth - 1)) thread_fits)
      (bare_thread core (depth - 1) thread_fits) (kept_here f 0 (word_of_thread (Running core (depth - 1))) h)
      (λ w. (refl, refl)) (λ w. (refl, refl))
      (given f 0 (word_of_thread (Running core (depth - 1))) h
      (one_more f 0 0 depth (word_of_stack (record { 0 = None })) (done_by r drawn) a.counts (λ none. omega (arith, none, some))))
      (λ u. has.threads)
  pop_good (pop.AtStack f depth) is has =
      let fits = subst (StageFits (cores c).own.layout) is (is_active setup setting cores t stands c here a active).stage in
      let some = fits.1 in
      stack_good setup setting cores t stands c here a active r drawn (Pop (pop.AtStack f depth)) Nothing is f depth
      (word_of_stack (record { 0 = None })) has (stacks.spelling.small (record { 0 = None }) tt)
      (bare_place depth (word_of_stack (record { 0 = None })) (λ none. omega (arith, none, some)))
      (kept_here f depth (word_of_stack (record { 0 = None })) rest) (λ w. (refl, refl)) (λ w. (refl, refl))
      (given f depth (word_of_stack (record { 0 = None })) rest (λ g j h. counts_bare (done_by r drawn) a.counts g j))
      (λ u. tt)
