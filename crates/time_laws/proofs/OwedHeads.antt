-- What the head of a temporal capability shows that a core has marked in a call that is decided: the mark, and the budget but for the ticks
-- that the call has still to store there.
use Rattle.flight.specs.kept_facts.proofs.{◌≡◌, inl, inr, ℕ, ◌<◌, Bool, true, false, if◌then◌else◌, Option, Some, None, IsTrue, arith, refl}
use Rattle.flight.specs.kept_facts.proofs.{sym, ◌∙◌, ap, subst, false≢true, same_same, Setting, IsSetting, Call, Reply, HeadFits}
use Rattle.flight.specs.kept_facts.proofs.{word_of_head, head_of_word, HeadWord, spelling, EntryAt, State, changes_budgets, Trace, phase}
use Rattle.flight.specs.kept_facts.proofs.{state_after, last_left, cases_word, same_word-other, AtCompare, AtDraw, AtStore, marked, debited}
use Rattle.flight.specs.kept_facts.proofs.{credited, amount_of, Pair, PairAt, Tail, Quiesce, Release, Push, Pop, StoreRunning, StoreIdle}
use Rattle.flight.specs.kept_facts.proofs.{Stage, Enter, Living, Undecided, Decided, Leave, ActiveCall, Core, holds_release, Holding, keeps}
use Rattle.flight.specs.kept_facts.proofs.{holds_counts, HeadIs, KnowsTail, KnowsAt, CallIs, phase_at, KnowsStoresAt, holds_head}
use Rattle.flight.specs.kept_facts.proofs.{holds_shared, holds_tail, is_done, holds_at, holds_in, holds, Invariant, release_entry, is_tcap}
use Rattle.flight.specs.core_invariant.specs.{nothing, holds_idle, StoresA, holds_heads, StoresB}
use Rattle.history_laws.specs.{Owes, state_of_decision, MarkedHeadsSay}
use Rattle.flight.specs.thread_invariant.proofs.{counts_apart, holder_below, own_thread}
use Rattle.flight.specs.{cores_after, IsMade}
use Rattle.time_laws.proofs.{MarkedHeads.node_no_tcap, MarkedHeads.thread_no_tcap, MarkedHeads.same_frame, ShareTails.OwesFirst}
use Rattle.time_laws.proofs.{ShareTails.OwesAt, ShareTails.OwesTail, ShareTails.OwesStage, ShareTails.OwesIn, OwedTails.made_owes}
use Rattle.{flight.specs.stage_tcap.specs.Heads.relisted, flight.specs.act_states.specs.declared.work.Tail.TheVariants.Share}
use Rattle.{flight.specs.pair_invariant.proofs.ShareSteps.marked_says, flight.proofs.Made.made_stands}
use Rattle.flight.specs.kernel_history.specs.Trace as history
use Rattle.flight.specs.stage_tcap.specs.declared.pair.PairAt.TheVariants as pair
use Rattle.flight.specs.stage_thread.specs.declared.stack.Push.TheVariants as push
use Rattle.flight.specs.stage_thread.specs.declared.stack.Pop.TheVariants as pop

-- The word is a head with the core's mark, and stands for another that the core has still to store, which owes this.
record IsOwedHead (setup : Setting) (t : Trace) (s : State) (r : Reply) (call : Call) (f d : ℕ) (h : Holding) : Type 0 where
  head : HeadWord
  left : HeadWord
  raw : last_left setup t (EntryAt f 0) ≡ word_of_head (marked d head)
  fits : HeadFits head
  stands : h.stands (EntryAt f 0) ≡ word_of_head left
  left_fits : HeadFits left
  owes : Owes s d r call f head.budget left.budget

module _ (setup : Setting) (setting : IsSetting setup) (cores : ℕ → Core) (t : Trace) (stands : Invariant setup cores t) (f d : ℕ)
    (tcap : IsTrue (is_tcap ((state_after setup t).frame f))) (below : d < setup.cores) (decided_in : State) where
  abbrev s : State
  s = state_after setup t

  abbrev IsFree : Holding → Type 0
  IsFree h = h.marks (EntryAt f 0) ≡ false

  abbrev Tells : Reply → Call → Holding → Type 0
  Tells r call h = h.marks (EntryAt f 0) ≡ true → IsOwedHead setup t decided_in r call f d h

  none : (r : Reply) (call : Call) (h : Holding) → IsFree h → Tells r call h
  none r call h free is = absurd (false≢true (sym free ∙ is))

  -- an entry of a frame that has no temporal capability
  beside : (h : Holding) (g j x : ℕ) → IsFree h → is_tcap (s.frame g) ≡ false → IsFree (keeps (EntryAt g j) x h)
  beside h g j x free not = elim (cases_word (EntryAt f 0) (EntryAt g j)) [
    | inl same ↦ absurd (false≢true (sym not ∙ ap (λ (n : ℕ). is_tcap (s.frame n)) (sym (same_frame f 0 g j same)) ∙ tcap))
    | inr other ↦ ap (λ b. if b then true else h.marks (EntryAt f 0)) (same_word-other (EntryAt f 0) (EntryAt g j) other) ∙ free
  ]

  -- a head that stands for another
  head_at : (r : Reply) (call : Call) (g core : ℕ) (old new : HeadWord) (h : Holding) → core ≡ d
      → last_left setup t (EntryAt g 0) ≡ word_of_head (marked core old) → HeadFits old → HeadFits new
      → Owes decided_in d r call g old.budget new.budget → Tells r call h → Tells r call (keeps (EntryAt g 0) (word_of_head new) h)
  head_at r call g core old new h own raw old_fits new_fits owes rest is = elim (cases_word (EntryAt f 0) (EntryAt g 0)) [
    | inl same ↦ record {
      head = old;
      left = new;
      raw = ap (last_left setup t) same ∙ raw ∙ ap (λ (c : ℕ). word_of_head (marked c old)) own;
      fits = old_fits;
      stands = ap (λ w. (keeps (EntryAt g 0) (word_of_head new) h).stands w) same
          ∙ ap (λ b. if b then word_of_head new else h.stands (EntryAt g 0)) (same_same (EntryAt g 0));
      left_fits = new_fits;
      owes = subst (λ (n : ℕ). Owes decided_in d r call n old.budget new.budget) (sym (same_frame f 0 g 0 same)) owes;
    }
    | inr other ↦
        (let apart = same_word-other (EntryAt f 0) (EntryAt g 0) other in
        let told = rest (sym (ap (λ b. if b then true else h.marks (EntryAt f 0)) apart) ∙ is) in
        record {
          head = told.head;
          left = told.left;
          raw = told.raw;
          fits = told.fits;
          stands = ap (λ b. if b then word_of_head new else h.stands (EntryAt f 0)) apart ∙ told.stands;
          left_fits = told.left_fits;
          owes = told.owes;
        })
  ]

  debited_fits : (h : HeadWord) (ticks : ℕ) → HeadFits h → HeadFits (debited h ticks)
  debited_fits h ticks has = (let low = has.0 in omega (arith, low), tt, has.2)

  credited_fits : (g : Bool) (h : HeadWord) (ticks : ℕ) → HeadFits h → HeadFits (credited (relisted g h) ticks)
  credited_fits true h ticks has = (omega arith, tt, omega arith)
  credited_fits false h ticks has = (omega arith, tt, has.2)

  -- the head of the first, which is less the ticks or as it was found
  first_less : (r : Reply) (call : Call) (p : Pair) (h : Holding) → StoresA setup t p → p.core ≡ d → OwesFirst decided_in d r call p
      → IsFree h → Tells r call (holds_head p true h)
  first_less r call p h has core owes free =
      head_at r call p.a p.core p.head_a (debited p.head_a (amount_of p.what)) h core has.raw has.fits
      (debited_fits p.head_a (amount_of p.what) has.fits) owes (none r call h free)

  first_same : (r : Reply) (call : Call) (p : Pair) (h : Holding) → StoresA setup t p → p.core ≡ d
      → ((g shown : ℕ) → Owes decided_in d r call g shown shown) → IsFree h → Tells r call (holds_head p false h)
  first_same r call p h has core owes free =
      head_at r call p.a p.core p.head_a p.head_a h core has.raw has.fits has.fits (owes p.a p.head_a.budget) (none r call h free)

  -- the heads of both
  both : (r : Reply) (call : Call) (p : Pair) (h : Holding) → StoresB setup t d call p → p.core ≡ d
      → OwesAt decided_in d r call p pair.StoreB → IsFree h → Tells r call (holds_heads p h)
  both r call p h has core owes free =
      head_at r call p.b p.core p.head_b (credited (relisted p.grows p.head_b) (amount_of p.what)) (holds_head p true h) core has.raw has.fits
      (credited_fits p.grows p.head_b (amount_of p.what) has.fits) owes.1 (first_less r call p h has.a core owes.0 free)

  shared : (r : Reply) (call : Call) (p : Pair) (at : PairAt) (h : Holding) → KnowsStoresAt setup t d call p at → p.core ≡ d
      → OwesAt decided_in d r call p at → IsFree h → Tells r call (holds_shared p at h)
  shared r call p (pair.StoreList n) h has core owes free = λ is.
      let told = both r call p h has.2 core owes free is in
      record {
        head = told.head;
        left = told.left;
        raw = told.raw;
        fits = told.fits;
        stands = told.stands;
        left_fits = told.left_fits;
        owes = told.owes;
      }
  shared r call p pair.StoreB h has core owes free = both r call p h has core owes free
  shared r call p (pair.StoreA true v) h has core owes free = first_less r call p h has core owes free
  shared r call p (pair.StoreA false v) h has core owes free = first_same r call p h has core owes free
  shared r call p _ h has core owes free = absurd has

  own_no_tcap : (g : ℕ) → g ≡ (s.core d).thread → is_tcap (s.frame g) ≡ false
  own_no_tcap g own = ap (λ (n : ℕ). is_tcap (s.frame n)) own ∙ ap is_tcap (own_thread setup setting t stands.legal d below)

  module _ (a : ActiveCall) where
    by_tail : (r : Reply) (tail : Tail) (h : Holding) → KnowsTail setup t d a.call a.counts tail
        → (changes_budgets a.call ≡ true → OwesTail decided_in d r a.call tail) → IsFree h → Tells r a.call (holds_tail tail h)
    by_tail r (Quiesce (AtCompare n index word by)) h has owes free = absurd has
    by_tail r (Quiesce (AtDraw n index)) h has owes free = absurd has
    by_tail r (Quiesce (AtStore n index x)) h has owes free =
        none r a.call (holds_tail (Quiesce (AtStore n index x)) h) (beside h n index 0 free (node_no_tcap (s.frame n) has.relies.node))
    by_tail r (Release x) h has owes free = none r a.call (holds_release x h) ((release_entry x h f 0).0 ∙ free)
    by_tail r (Push (push.AtThread g core depth)) h has owes free = none r a.call (holds_tail (Push (push.AtThread g core depth)) h) free
    by_tail r (Pop (pop.AtThread g core depth)) h has owes free = none r a.call (holds_tail (Pop (pop.AtThread g core depth)) h) free
    by_tail r (Share p) h has owes free = shared r a.call p p.at h has.at has.core (owes has.budgets) free
    by_tail r (StoreRunning g core depth old old_depth) h has owes free =
        none r a.call (holds_tail (StoreRunning g core depth old old_depth) h)
        (beside (holds_idle old old_depth h) g 0 0 (beside h old 0 0 free (thread_no_tcap (s.frame old) has.rest.thread.thread))
        (own_no_tcap g has.own))
    by_tail r (StoreIdle g depth) h has owes free =
        none r a.call (holds_idle g depth h) (beside h g 0 0 free (thread_no_tcap (s.frame g) has.thread.thread))
    by_tail r tail h has owes free = none r a.call (holds_tail tail h) free

    by_stage : (call : Call) (r : Reply) (table : ℕ) (stage : Stage) → phase t d ≡ history.Decided call r
        → phase t d ≡ phase_at a.call stage → KnowsAt setup t d table a stage
        → (changes_budgets a.call ≡ true → OwesStage decided_in d a.call stage)
        → Tells r call (holds_at stage a.counts)
    by_stage call r table Enter is at knows owes = absurd knows
    by_stage call r table (Living alive) is at knows owes = absurd (unlike (sym is ∙ at))
      where
        unlike : history.Decided call r ≡ history.Open a.call → ⊥
        unlike h = cc
    by_stage call r table (Undecided work) is at knows owes = absurd (unlike (sym is ∙ at))
      where
        unlike : history.Decided call r ≡ history.Open a.call → ⊥
        unlike h = cc
    by_stage call r table (Decided x drawn tail) is at knows owes =
        subst (λ (k : Call). Tells r k (holds_at (Decided x drawn tail) a.counts)) (same_call (sym at ∙ is))
        (subst (λ (y : Reply). Tells y a.call (holds_at (Decided x drawn tail) a.counts)) (same_reply (sym at ∙ is))
        (by_tail x tail (holds_counts (is_done (Decided x drawn tail)) a.counts) knows owes
        (counts_apart (is_done (Decided x drawn tail)) a.counts f 0)))
      where
        same_call : history.Decided a.call x ≡ history.Decided call r → a.call ≡ call
        same_call h = cc

        same_reply : history.Decided a.call x ≡ history.Decided call r → x ≡ r
        same_reply h = cc
    by_stage call r table (Leave x n) is at knows owes =
        none r call (holds_counts None a.counts) (counts_apart None a.counts f 0)

  by_call : (call : Call) (r : Reply) (table : ℕ) (o : Option ActiveCall) → phase t d ≡ history.Decided call r → CallIs setup t d table o
      → OwesIn decided_in d o → Tells r call (holds_in o)
  by_call call r table None is at owes = none r call nothing refl
  by_call call r table (Some a) is at owes = by_stage a call r table a.stage is at.phase at.knows owes

pub marked_heads_say : (setup : Setting) → IsSetting setup → (t : Trace) → IsMade setup t → MarkedHeadsSay setup t
marked_heads_say setup setting t made f q d call r is mark decided = record {
  shown = told.head.budget;
  shows = record { version = told.head.version; says = ap head_of_word told.raw ∙ spelling.reads (marked d told.head) fits };
  owes = subst (λ (n : ℕ). Owes (state_of_decision setup t d) d r call f told.head.budget n) budget told.owes;
}
  where
    stands : Invariant setup (cores_after setup t) t
    stands = made_stands setup setting t made

    below : d < setup.cores
    below = holder_below setup setting (cores_after setup t) t stands d f 0 mark

    told : IsOwedHead setup t (state_of_decision setup t d) r call f d (holds (cores_after setup t d))
    told = by_call setup setting (cores_after setup t) t stands f d (subst (λ x. IsTrue (is_tcap x)) (sym is) refl) below
        (state_of_decision setup t d) call r (cores_after setup t d).own.table (cores_after setup t d).active decided
        (stands.each d below).active (made_owes setup setting t made d) ((stands.marks (EntryAt f 0) d).owned mark)

    fits : HeadFits (marked d told.head)
    fits = (told.fits.0, (let most = setting.most_cores in omega (arith, most, below)), told.fits.2)

    same_head : (v u : HeadWord) → Some v ≡ Some u → v ≡ u
    same_head v u h = cc

    says : HeadIs q (Some told.left)
    says = subst (HeadIs q) (ap head_of_word told.stands ∙ spelling.reads told.left told.left_fits)
        (marked_says setup setting (cores_after setup t) t stands f q is d mark)

    budget : told.left.budget ≡ q.budget
    budget = ap (λ v. v.budget) (same_head _ _ says.says)
