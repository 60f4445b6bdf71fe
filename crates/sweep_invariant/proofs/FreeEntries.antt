-- No core holds or keeps a word of the object in a frame to which nothing refers, and for which no other core waits: who holds one, relies
-- on its frame.
use Rattle.freeze_invariant.specs.step_ways.proofs as low
use low.{◌≡◌, ◌≢◌, inl, inr, ℕ, zero, suc, ◌<◌, ◌≤◌, ◌==◌, ◌&&◌, Bool, true, false, List, [], ◌∷◌, Option, Some, None, arith, refl, sym}
use low.{◌∙◌, ap, subst, false≢true, ne_eqb, Setting, IsSetting, Capability, Call, Pair, PairAt, LoadA, MarkA, ListA, LoadB, ListB}
use low.{CompareB, AgainB, StoreList, StoreB, StoreA, Acquired, EntryAt, State, FrameOf, refs, times, IsGuarded, marked_by, Trace, Open}
use low.{phase, state_after, last_left, Plan, AtCompare, AtDraw, AtStore, Switching, SwitchAt, Tail, Quiesce}
use low.{Release, Push, Pop, StoreRunning, StoreIdle, Work, Lookup, Read, Scan, Acquire, ActiveCall, Stage, Enter}
use low.{Living, Undecided, Decided, Leave, Core, Holding, holds_counts, settled, settled_by, KnowsAct, KnowsAt, KnowsTail, KnowsWork}
use low.{CallIs, phase_at, KnowsStoresAt, Invariant, holds, held_by, holds_act, holds_in, holds_share, holds_shared, holds_tail, holds_work}
use low.{is_done, holds_switching, slot_relies, release_entry, limits_of, claimed_by, if◌then◌else◌, Remove, Share, Switch, Act as act_work}
use low.{plan_for}
use Rattle.freeze_invariant.specs.core_invariant.specs.{holds_heads, KnowsClose, KnowsStore, holds_stage}
use Rattle.freeze_invariant.specs.act_states.specs.{AtStack, Close, Push as PushOf, Pop as PopOf}
use Rattle.std.proofs.lemmas.Bool.{cases_eq, cases_lt}
use Rattle.freeze_invariant.specs.kept_facts.specs.kernel_laws.proofs.{core_names, times_first}
use Rattle.freeze_invariant.specs.stage_thread.specs.declared.claim.Claim.TheVariants.{AtLoad, AtCompare as claim_compare}
use Rattle.freeze_invariant.specs.kernel_invariant.proofs.SoundRemovals.{unnamed}
use Rattle.freeze_invariant.specs.act_states.specs.{declared.work.Act.Act as ActOf, declared.work.Tail.TheVariants.Share as share_tail}
use Rattle.freeze_invariant.specs.core_invariant.specs.Holding.{holds_drawn, kept_below, kept_or}
use Rattle.freeze_invariant.specs.core_invariant.specs.Invariant.{holds_pop, holds_push}
use Rattle.freeze_invariant.specs.kept_facts.proofs.Exclusive.{exclusive_unmarked}
use Rattle.freeze_invariant.specs.core_invariant.proofs.Keepings.{all_beside, entry_beside}
use Rattle.freeze_invariant.specs.core_invariant.specs.Frozen.{holds_all}
use Rattle.freeze_invariant.specs.act_states.specs.{phases_of, Phases.close_keeps}

none_some : (x : ℕ) → None ≡ Some x → ⊥
none_some x h = cc

-- One word more is held, of another frame.
keep_other : (g j : ℕ) (rest : Bool) (f i : ℕ) → g ≢ f → (if f == g && i == j then true else rest) ≡ rest
keep_other g j rest f i other = ap (λ b. if b && i == j then true else rest) (ne_eqb f g (λ same. other (sym same)))

pub counts_entry : (fate : Option (Option ℕ)) (xs : List Acquired) (f i : ℕ) → (holds_counts fate xs).marks (EntryAt f i) ≡ false
counts_entry fate [] f i = refl
counts_entry fate (x ∷ xs) f i = counts_entry fate xs f i

module _ (f i : ℕ) where
  abbrev Same : Holding → Holding → Type 0
  Same h k = h.marks (EntryAt f i) ≡ k.marks (EntryAt f i)

  push_entry : (p : PushOf) (h : Holding) → Same (holds_push p h) h
  push_entry (PushOf.AtStack g core depth comp) h = refl
  push_entry (PushOf.AtThread g core depth) h = refl

  pop_entry : (p : PopOf) (h : Holding) → Same (holds_pop p h) h
  pop_entry (PopOf.AtThread g core depth) h = refl
  pop_entry (PopOf.AtStack g depth) h = refl

  share_entry : (p : Pair) (at : PairAt) (h : Holding) → p.a ≢ f → Same (holds_share p at h) h
  share_entry p LoadA h other = refl
  share_entry p MarkA h other = refl
  share_entry p (ListA n) h other = keep_other p.a 0 (h.marks (EntryAt f i)) f i other
  share_entry p LoadB h other = keep_other p.a 0 (h.marks (EntryAt f i)) f i other
  share_entry p (ListB n) h other = keep_other p.a 0 (h.marks (EntryAt f i)) f i other
  share_entry p CompareB h other = keep_other p.a 0 (h.marks (EntryAt f i)) f i other
  share_entry p (AgainB r) h other = keep_other p.a 0 (h.marks (EntryAt f i)) f i other
  share_entry p (StoreList n) h other = refl
  share_entry p StoreB h other = refl
  share_entry p (StoreA moved v) h other = refl

  switch_entry : (m : Switching) (at : SwitchAt) (h : Holding) → m.old ≢ f → claimed_by at ≢ f
      → Same (holds_switching m at h) h
  switch_entry m (SwitchAt.Claim (AtLoad g core)) h old new = refl
  switch_entry m (SwitchAt.Claim (claim_compare g core depth)) h old new = refl
  switch_entry m (SwitchAt.Claim (AtStack g depth)) h old new = keep_other g 0 (h.marks (EntryAt f i)) f i new
  switch_entry m (SwitchAt.LoadTable to) h old new = keep_other to.thread 0 (h.marks (EntryAt f i)) f i new
  switch_entry m (SwitchAt.LoadPages to table) h old new = keep_other to.thread 0 (h.marks (EntryAt f i)) f i new
  switch_entry m (SwitchAt.Leave to table pages) h old new = keep_other to.thread 0 (h.marks (EntryAt f i)) f i new
  switch_entry m (SwitchAt.Draw to table pages) h old new =
      keep_other to.thread 0 (if f == m.old && i == 0 then true else h.marks (EntryAt f i)) f i new
      ∙ keep_other m.old 0 (h.marks (EntryAt f i)) f i old

module _ (setup : Setting) (setting : IsSetting setup) (cores : ℕ → Core) (t : Trace) (stands : Invariant setup cores t) (f : ℕ)
    (zero_refs : refs (state_after setup t) f ≡ 0) where
  abbrev s : State
  s = state_after setup t

  -- no core works on it
  pub no_thread : (d : ℕ) → d < setup.cores → (s.core d).thread ≢ f
  no_thread d below same =
      let none : times f (core_names (s.core d)) ≡ 0 =
      (unnamed s f zero_refs).cores d
      (subst (λ (n : ℕ). d < n) (sym (ap (λ l. l.cores) (limits_of setup t))) below) in
      let one : 1 ≤ times f (f ∷ (s.core d).tcap ∷ []) = times_first f ((s.core d).tcap ∷ []) in
      let at : times f (f ∷ (s.core d).tcap ∷ []) ≡ 0 = ap (λ n. times f (n ∷ (s.core d).tcap ∷ [])) (sym same) ∙ none in
      omega (arith, one, at)

  module _ (d : ℕ) (here : d < setup.cores) (waits_not : (s.grace (FrameOf f)).waits d ≡ false) where
    apart : (g : ℕ) → IsGuarded s d g → g ≢ f
    apart g (inl some) same = let r : refs s g ≡ refs s f = ap (refs s) same in omega (arith, some, r, zero_refs)
    apart g (inr waits) same = false≢true (sym waits_not ∙ sym (ap (λ (n : ℕ). (s.grace (FrameOf n)).waits d) same) ∙ waits)

    module _ (i : ℕ) where
      closed_entry : (call : Call) → phase t d ≡ Open call → (plan : Plan) (found : List Capability) (close : Close) (cap : Capability)
          → KnowsClose setup t d call plan found close cap → (h : Holding) → Same f i (holds_all (close_keeps close cap) h) h
      closed_entry call is_open plan found (AtCompare node index word by) cap knows h = refl
      closed_entry call is_open plan found (AtDraw node index) cap knows h =
          keep_other node index (h.marks (EntryAt f i)) f i
          (apart node (slot_relies setup setting t stands.legal d call is_open knows.target
          (record { node = node; index = index }) knows.way).guarded)
      closed_entry call is_open plan found (AtStore node index at) cap knows h = refl

      stored_entry : (call : Call) (close : Close) → KnowsStore setup t d call close → (h : Holding) → Same f i (holds_drawn close h) h
      stored_entry call (AtCompare node index word by) knows h = refl
      stored_entry call (AtDraw node index) knows h = refl
      stored_entry call (AtStore node index at) knows h =
          keep_other node index (h.marks (EntryAt f i)) f i (apart node knows.relies.guarded)

      act_entry : (call : Call) → phase t d ≡ Open call → (plan : Plan) (found : List Capability) (upto : ℕ) (act : ActOf)
          → KnowsAct setup t d call plan found upto act → (h : Holding) → Same f i (holds_act act h) h
      act_entry call is_open plan found upto (Remove close cap) knows h = closed_entry call is_open plan found close cap knows h
      act_entry call is_open plan found upto (Share p) knows h = share_entry f i p p.at h (apart p.a knows.tcap_a.guarded)
      act_entry call is_open plan found upto (Switch m) knows h =
          switch_entry f i m m.at h (λ same. no_thread d here (sym knows.leaves.thread ∙ same))
          (apart (claimed_by m.at) knows.thread.guarded)
      act_entry call is_open plan found upto act knows h =
          (all_beside (phases_of act).keeps h (EntryAt f i) (entry_beside act f i tt)).0

      heads_entry : (p : Pair) (h : Holding) → p.a ≢ f → p.b ≢ f → Same f i (holds_heads p h) h
      heads_entry p h first second = keep_other p.b 0 (if f == p.a && i == 0 then true else h.marks (EntryAt f i)) f i second
          ∙ keep_other p.a 0 (h.marks (EntryAt f i)) f i first

      shared_entry : (call : Call) (p : Pair) (at : PairAt) → KnowsStoresAt setup t d call p at → (h : Holding) → p.a ≢ f
          → Same f i (holds_shared p at h) h
      shared_entry call p LoadA knows h other = refl
      shared_entry call p MarkA knows h other = refl
      shared_entry call p (ListA n) knows h other = refl
      shared_entry call p LoadB knows h other = refl
      shared_entry call p (ListB n) knows h other = refl
      shared_entry call p CompareB knows h other = refl
      shared_entry call p (AgainB r) knows h other = refl
      shared_entry call p (StoreList n) knows h other = heads_entry p h other (apart p.b knows.2.tcap.guarded)
      shared_entry call p StoreB knows h other = heads_entry p h other (apart p.b knows.tcap.guarded)
      shared_entry call p (StoreA moved v) knows h other = keep_other p.a 0 (h.marks (EntryAt f i)) f i other

      tail_entry : (call : Call) (counts : List Acquired) (tail : Tail) → KnowsTail setup t d call counts tail → (h : Holding)
          → Same f i (holds_tail tail h) h
      tail_entry call counts (Quiesce close) knows h = stored_entry call close knows h
      tail_entry call counts (Release x) knows h = (release_entry x h f i).0
      tail_entry call counts (Push p) knows h = push_entry f i p h
      tail_entry call counts (Pop p) knows h = pop_entry f i p h
      tail_entry call counts (share_tail p) knows h = shared_entry call p p.at knows.at h (apart p.a knows.tcap_a.guarded)
      tail_entry call counts (StoreRunning g core depth old old_depth) knows h =
          keep_other g 0 (if f == old && i == 0 then true else h.marks (EntryAt f i)) f i (λ same. no_thread d here (sym knows.own ∙ same))
          ∙ keep_other old 0 (h.marks (EntryAt f i)) f i (apart old knows.rest.thread.guarded)
      tail_entry call counts (StoreIdle g depth) knows h = keep_other g 0 (h.marks (EntryAt f i)) f i (apart g knows.thread.guarded)
      tail_entry call counts tail knows h = refl

      work_entry : (table : ℕ) (a : ActiveCall) → phase t d ≡ Open a.call → (work : Work) → KnowsWork setup t d table a work → (h : Holding)
          → Same f i (holds_work work h) h
      work_entry table a is_open (Lookup look) knows h = refl
      work_entry table a is_open (Read comp look) knows h = refl
      work_entry table a is_open (Scan q act) knows h = refl
      work_entry table a is_open (Acquire pin change act) knows h = act_entry a.call is_open (plan_for a.call) a.found setup.cores act
          knows.knows h
      work_entry table a is_open (act_work act) knows h = act_entry a.call is_open (plan_for a.call) a.found setup.cores act knows.knows h

      stage_entry : (table : ℕ) (a : ActiveCall) (stage : Stage) → phase t d ≡ phase_at a.call stage → KnowsAt setup t d table a stage
          → (h : Holding) → Same f i (holds_stage stage h) h
      stage_entry table a Enter at knows h = absurd knows
      stage_entry table a (Living alive) at knows h = refl
      stage_entry table a (Undecided work) at knows h = work_entry table a at work knows.knows h
      stage_entry table a (Decided r drawn tail) at knows h = tail_entry a.call a.counts tail knows h
      stage_entry table a (Leave r x) at knows h = refl

      core_entry : (o : Option ActiveCall) → CallIs setup t d (cores d).own.table o → (holds_in o).marks (EntryAt f i) ≡ false
      core_entry None is = refl
      core_entry (Some a) is = stage_entry (cores d).own.table a a.stage is.phase is.knows (holds_counts (is_done a.stage) a.counts)
          ∙ counts_entry (is_done a.stage) a.counts f i

      pub unheld_entry : (holds (cores d)).marks (EntryAt f i) ≡ false
      unheld_entry = core_entry (cores d).active (stands.each d here).active

  -- so no word of it carries a mark, where core c, for which alone its grace period may wait, holds none
  module _ (c : ℕ) (quiet : (d : ℕ) → d < setup.cores → d ≢ c → (s.grace (FrameOf f)).waits d ≡ false)
      (own : (i : ℕ) → (holds (cores c)).marks (EntryAt f i) ≡ false) where
    held_none : (d i : ℕ) → (holds (cores d)).marks (EntryAt f i) ≡ false
    held_none d i = elim (cases_eq d c) [
      | inl same ↦ ap (λ (n : ℕ). (holds (cores n)).marks (EntryAt f i)) same ∙ own i
      | inr other ↦ elim (cases_lt d setup.cores) [
        | inl here ↦ unheld_entry d here (quiet d here other) i
        | inr past ↦ ap (λ o. (holds_in o).marks (EntryAt f i)) (stands.away d past).idle
      ]
    ]

    pub entry_unmarked : (i : ℕ) → marked_by setup t (EntryAt f i) ≡ None
    entry_unmarked i = by (marked_by setup t (EntryAt f i)) refl
      where
        by : (o : Option ℕ) → marked_by setup t (EntryAt f i) ≡ o → o ≡ None
        by None is = refl
        by (Some d) is = absurd (false≢true (sym (held_none d i) ∙ (stands.marks (EntryAt f i) d).owned is))

    -- none keeps a word of it without a mark
    none_kept : (d i : ℕ) → (held_by cores d).bare f i ≡ None
    none_kept d i = by ((held_by cores d).bare f i) refl
      where
        by : (o : Option ℕ) → (held_by cores d).bare f i ≡ o → o ≡ None
        by None is = refl
        by (Some v) is =
            let l = stands.exclusive d f i v is in
            absurd (no_thread d l.core (exclusive_unmarked setup cores t stands d f i l (held_none d 0)).thread)

    -- and each settles to what it is
    pub entry_settles : (i : ℕ) → settled setup (held_by cores) t (EntryAt f i) ≡ last_left setup t (EntryAt f i)
    unfolding kept_below
    entry_settles i = ap (λ o. settled_by o (held_by cores) (EntryAt f i) (last_left setup t (EntryAt f i))) (entry_unmarked i)
        ∙ none_below 8
      where
        none_below : (n : ℕ) → kept_below n (held_by cores) f i (last_left setup t (EntryAt f i)) ≡ last_left setup t (EntryAt f i)
        none_below zero = refl
        none_below (suc n) =
            ap (λ o. kept_or o (kept_below n (held_by cores) f i (last_left setup t (EntryAt f i))))
            (none_kept n i) ∙ none_below n
