-- Who may have marked a word of a thread: the core that runs the thread, or one that has claimed the thread while it was idle. So no word
-- of a running thread carries the mark of another core.
use Rattle.live_invariant.specs.step_ways.proofs as low
use low.{◌≡◌, ◌≢◌, ◌⊎◌, ◌<◌, inl, inr, ℕ, zero, suc, Bool, true, false, if◌then◌else◌, List, [], ◌∷◌, length, Option, Some, None, IsTrue}
use low.{arith, refl, sym, ◌∙◌, ap, subst, false≢true, ne_eqb, Setting, IsSetting, Call, word_of_thread, thread_of_word, Idle, Running}
use low.{Word, EntryAt, Frame, Kernel, Table, Leaf, Pages, Pleaf, Thread, Tcap, PlaceOf, State, thread_in, thread_of, fits, Relies}
use low.{is_node, mark_in_frame, thread_mark, marked_by, thread_value, stamp, Trace, Open, phase, state_after, last_left, cases_word}
use low.{same_word-other, same_same, Acquired, AtCompare, AtDraw, AtStore, Pair, PairAt, Switching, SwitchAt, Tail, Quiesce}
use low.{Release, Push, Pop, StoreRunning, StoreIdle, Work, Lookup, Read, Scan, Acquire, Act}
use low.{Stage, Enter, Living, Undecided, Decided, Leave, ActiveCall, Core, holds_release, Holding, keeps, holds_counts, settled_by}
use low.{holds_switching, IsFrameWord, KnowsAct, KnowsWork, KnowsTail, KnowsAt, CallIs, phase_at, KnowsStoresAt, holds_act, holds_share}
use low.{holds_shared, holds_head, holds_work, holds_tail, is_done, holds_at, holds_in, holds, held_by, Invariant, slot_relies}
use low.{release_entry, runs_on_own, Remove as remove_act, Share as share_act, Switch as switch_act, plan_for, Kind}
use Rattle.live_invariant.specs.core_invariant.specs.{nothing, holds_idle, holds_heads, Claim}
use Rattle.live_invariant.specs.act_states.specs.{declared.work.Tail.TheVariants.Share, declared.work.Act.Act as ActOf}
use Rattle.{std.proofs.lemmas.Bool.cases_lt, thread_invariant.proofs.OwnStack.own_thread}
use Rattle.live_invariant.specs.core_invariant.proofs.Keepings.{all_beside, entry_beside}
use Rattle.live_invariant.specs.act_states.specs.{phases_of}
use Rattle.live_invariant.specs.tcap_words.proofs.ThreadLemmas as threads
use Rattle.live_invariant.specs.stage_thread.specs.declared.stack.Push.TheVariants as push
use Rattle.live_invariant.specs.stage_thread.specs.declared.stack.Pop.TheVariants as pop

pub counts_apart : (fate : Option (Option ℕ)) (xs : List Acquired) (f i : ℕ) → (holds_counts fate xs).marks (EntryAt f i) ≡ false
counts_apart fate [] f i = refl
counts_apart fate (x ∷ xs) f i = counts_apart fate xs f i

-- Whether a frame has a thread: it is then none of a node, and of no temporal capability.
abbrev is_thread : Frame → Bool
is_thread (Kernel (Thread k)) = true
is_thread _ = false

node_no_thread : (x : Frame) → IsTrue (is_node x) → is_thread x ≡ false
node_no_thread (Kernel Table) node = refl
node_no_thread (Kernel Leaf) node = refl
node_no_thread (Kernel Pages) node = refl
node_no_thread (Kernel Pleaf) node = refl
node_no_thread _ node = absurd (false≢true node)

tcap_no_thread : (x : Frame) → IsTrue (fits Kind.Tcap x) → is_thread x ≡ false
tcap_no_thread (Kernel (Tcap q)) fit = refl
tcap_no_thread _ fit = absurd (false≢true fit)

-- A word that is to be stored says that a thread is idle.
pub record SaysIdle (x : ℕ) : Type 0 where
  pub depth : ℕ
  pub is : x ≡ word_of_thread (Idle depth)

unlike : (depth d n : ℕ) → word_of_thread (Running d n) ≡ word_of_thread (Idle depth) → ⊥
unfolding word_of_thread
unlike depth d n same = omega (arith, same)

not_running : (x c n : ℕ) → SaysIdle x → thread_of_word x ≡ Some (Running c n) → ⊥
not_running x c n idle says = unlike idle.depth c n ((threads.spelling.spells x (Running c n) says).1 ∙ idle.is)

module _ (setup : Setting) (setting : IsSetting setup) (cores : ℕ → Core) (t : Trace) (stands : Invariant setup cores t) (d f i : ℕ) where
  -- the frame has no thread, or the word is to be that of an idle one, or the core runs the thread
  abbrev Claims : Holding → Type 0
  Claims h = (is_thread ((state_after setup t).frame f) ≡ false)
      ⊎ (SaysIdle (h.stands (EntryAt f i)) ⊎ (f ≡ ((state_after setup t).core d).thread))

  abbrev Claimed : Holding → Type 0
  Claimed h = h.marks (EntryAt f i) ≡ true → Claims h

  none : (h : Holding) → h.marks (EntryAt f i) ≡ false → Claimed h
  none h free is = absurd (false≢true (sym free ∙ is))

  over : (h : Holding) (w : Word) (x : ℕ) → Claimed h → (EntryAt f i ≡ w → Claims (keeps w x h)) → Claimed (keeps w x h)
  over h w x below here is = elim (cases_word (EntryAt f i) w) [
    | inl same ↦ here same
    | inr other ↦ (let apart = same_word-other (EntryAt f i) w other in
        subst (λ (n : ℕ). (is_thread ((state_after setup t).frame f) ≡ false) ⊎ (SaysIdle n ⊎ (f ≡ ((state_after setup t).core d).thread)))
        (sym (ap (λ b. if b then x else h.stands (EntryAt f i)) apart))
        (below (sym (ap (λ b. if b then true else h.marks (EntryAt f i)) apart) ∙ is)))
  ]

  same_frame : (g j : ℕ) → EntryAt f i ≡ EntryAt g j → f ≡ g
  same_frame g j h = cc

  -- an entry of a frame that has no thread
  no_thread : (h : Holding) (g j x : ℕ) → Claimed h → is_thread ((state_after setup t).frame g) ≡ false → Claimed (keeps (EntryAt g j) x h)
  no_thread h g j x below not = over h (EntryAt g j) x below
      (λ same. inl (ap (λ (n : ℕ). is_thread ((state_after setup t).frame n)) (same_frame g j same) ∙ not))

  -- a word that is no entry
  apart : (h g : Holding) → h.marks (EntryAt f i) ≡ g.marks (EntryAt f i) → g.marks (EntryAt f i) ≡ false → Claimed h
  apart h g same free = none h (same ∙ free)

  idle : (h : Holding) (g depth : ℕ) → Claimed h → Claimed (holds_idle g depth h)
  idle h g depth below = over h (EntryAt g 0) (word_of_thread (Idle depth)) below (λ same. inr (inl (record {
    depth = depth;
    is = ap (λ w. (keeps (EntryAt g 0) (word_of_thread (Idle depth)) h).stands w) same
        ∙ ap (λ b. if b then word_of_thread (Idle depth) else h.stands (EntryAt g 0)) (same_same (EntryAt g 0));
  })))

  runs : (h : Holding) (g x : ℕ) → Claimed h → g ≡ ((state_after setup t).core d).thread → Claimed (keeps (EntryAt g 0) x h)
  runs h g x below own = over h (EntryAt g 0) x below (λ same. inr (inr (same_frame g 0 same ∙ own)))

  switching : (m : Switching) (at : SwitchAt) (h : Holding) → m.old ≡ ((state_after setup t).core d).thread → Claimed h
      → Claimed (holds_switching m at h)
  switching m (SwitchAt.Claim (Claim.AtLoad g core)) h own below = below
  switching m (SwitchAt.Claim (Claim.AtCompare g core depth)) h own below = below
  switching m (SwitchAt.Claim (Claim.AtStack g depth)) h own below = idle h g depth below
  switching m (SwitchAt.LoadTable to) h own below = idle h to.thread to.depth below
  switching m (SwitchAt.LoadPages to table) h own below = idle h to.thread to.depth below
  switching m (SwitchAt.Leave to table pages) h own below = idle h to.thread to.depth below
  switching m (SwitchAt.Draw to table pages) h own below =
      idle (keeps (EntryAt m.old 0) (word_of_thread (Running m.core m.old_depth)) h) to.thread to.depth
      (runs h m.old (word_of_thread (Running m.core m.old_depth)) below own)

  shares : (p : Pair) (at : PairAt) (h : Holding) → is_thread ((state_after setup t).frame p.a) ≡ false → Claimed h
      → Claimed (holds_share p at h)
  shares p PairAt.LoadA h not below = below
  shares p PairAt.MarkA h not below = below
  shares p (PairAt.ListA n) h not below = no_thread h p.a 0 _ below not
  shares p PairAt.LoadB h not below = no_thread h p.a 0 _ below not
  shares p (PairAt.ListB n) h not below = no_thread h p.a 0 _ below not
  shares p PairAt.CompareB h not below = no_thread h p.a 0 _ below not
  shares p (PairAt.AgainB r) h not below = no_thread h p.a 0 _ below not
  shares p (PairAt.StoreList n) h not below = below
  shares p PairAt.StoreB h not below = below
  shares p (PairAt.StoreA moved v) h not below = below

  heads : (p : Pair) (h : Holding) → is_thread ((state_after setup t).frame p.a) ≡ false
      → is_thread ((state_after setup t).frame p.b) ≡ false
      → Claimed h → Claimed (holds_heads p h)
  heads p h not_a not_b below = no_thread (holds_head p true h) p.b 0 _ (no_thread h p.a 0 _ below not_a) not_b

  shared : (call : Call) (p : Pair) (at : PairAt) (h : Holding) → is_thread ((state_after setup t).frame p.a) ≡ false
      → KnowsStoresAt setup t d call p at → Claimed h → Claimed (holds_shared p at h)
  shared call p PairAt.LoadA h not has below = below
  shared call p PairAt.MarkA h not has below = below
  shared call p (PairAt.ListA n) h not has below = below
  shared call p PairAt.LoadB h not has below = below
  shared call p (PairAt.ListB n) h not has below = below
  shared call p PairAt.CompareB h not has below = below
  shared call p (PairAt.AgainB r) h not has below = below
  shared call p (PairAt.StoreList n) h not has below =
      heads p h not (tcap_no_thread ((state_after setup t).frame p.b) has.2.tcap.tcap) below
  shared call p PairAt.StoreB h not has below = heads p h not (tcap_no_thread ((state_after setup t).frame p.b) has.tcap.tcap) below
  shared call p (PairAt.StoreA moved v) h not has below = no_thread h p.a 0 _ below not

  node : (n : ℕ) → Relies (state_after setup t) d n → is_thread ((state_after setup t).frame n) ≡ false
  node n relies = node_no_thread ((state_after setup t).frame n) relies.node

  module _ (a : ActiveCall) where
    by_act : (act : ActOf) (h : Holding) → phase t d ≡ Open a.call → KnowsAct setup t d a.call (plan_for a.call) a.found setup.cores act
        → h.marks (EntryAt f i) ≡ false → Claimed (holds_act act h)
    by_act (remove_act (AtCompare n index word by) cap) h opens has free = none h free
    by_act (remove_act (AtDraw n index) cap) h opens has free = no_thread h n index _ (none h free)
        (node n (slot_relies setup setting t stands.legal d a.call opens has.target (record { node = n; index = index }) has.way))
    by_act (remove_act (AtStore n index x) cap) h opens has free = none h free
    by_act (share_act p) h opens has free = shares p p.at h (tcap_no_thread ((state_after setup t).frame p.a) has.tcap_a.tcap) (none h free)
    by_act (switch_act m) h opens has free = switching m m.at h has.leaves.thread (none h free)
    by_act act h opens has free =
        apart (holds_act act h) h (all_beside (phases_of act).keeps h (EntryAt f i) (entry_beside act f i tt)).0 free

    by_tail : (tail : Tail) (h : Holding) → KnowsTail setup t d a.call a.counts tail → h.marks (EntryAt f i) ≡ false
        → Claimed (holds_tail tail h)
    by_tail (Quiesce (AtCompare n index word by)) h has free = absurd has
    by_tail (Quiesce (AtDraw n index)) h has free = absurd has
    by_tail (Quiesce (AtStore n index x)) h has free = no_thread h n index _ (none h free) (node n has.relies)
    by_tail (Release x) h has free = apart (holds_release x h) h (release_entry x h f i).0 free
    by_tail (Push (push.AtThread g core depth)) h has free = none (holds_tail (Push (push.AtThread g core depth)) h) free
    by_tail (Pop (pop.AtThread g core depth)) h has free = none (holds_tail (Pop (pop.AtThread g core depth)) h) free
    by_tail (Share p) h has free =
        shared a.call p p.at h (tcap_no_thread ((state_after setup t).frame p.a) has.tcap_a.tcap) has.at (none h free)
    by_tail (StoreRunning g core depth old old_depth) h has free =
        runs (holds_idle old old_depth h) g _ (idle h old old_depth (none h free)) has.own
    by_tail (StoreIdle g depth) h has free = idle h g depth (none h free)
    by_tail tail h has free = none (holds_tail tail h) free

    by_work : (table : ℕ) (work : Work) → phase t d ≡ Open a.call → KnowsWork setup t d table a work
        → Claimed (holds_work work (holds_counts None a.counts))
    by_work table (Lookup look) opens has = none (holds_counts None a.counts) (counts_apart None a.counts f i)
    by_work table (Read c look) opens has = none (holds_counts None a.counts) (counts_apart None a.counts f i)
    by_work table (Scan q act) opens has = none (holds_counts None a.counts) (counts_apart None a.counts f i)
    by_work table (Acquire pin change act) opens has =
        by_act act (holds_counts None a.counts) opens has.knows (counts_apart None a.counts f i)
    by_work table (Act act) opens has = by_act act (holds_counts None a.counts) opens has.knows (counts_apart None a.counts f i)

    by_stage : (table : ℕ) (stage : Stage) → phase t d ≡ phase_at a.call stage → KnowsAt setup t d table a stage
        → Claimed (holds_at stage a.counts)
    by_stage table Enter at knows = absurd knows
    by_stage table (Living alive) at knows = none (holds_counts None a.counts) (counts_apart None a.counts f i)
    by_stage table (Undecided work) at knows = by_work table work at knows.knows
    by_stage table (Decided r drawn tail) at knows =
        by_tail tail (holds_counts (is_done (Decided r drawn tail)) a.counts) knows
        (counts_apart (is_done (Decided r drawn tail)) a.counts f i)
    by_stage table (Leave r x) at knows = none (holds_counts None a.counts) (counts_apart None a.counts f i)

  by_call : (table : ℕ) (o : Option ActiveCall) → CallIs setup t d table o → Claimed (holds_in o)
  by_call table None at = none nothing refl
  by_call table (Some a) at = by_stage a table a.stage at.phase at.knows

  pub claims : marked_by setup t (EntryAt f i) ≡ Some d → Claims (holds (cores d))
  claims mark = elim (cases_lt d setup.cores) [
    | inl below ↦ by_call (cores d).own.table (cores d).active (stands.each d below).active ((stands.marks (EntryAt f i) d).owned mark)
    | inr past ↦ absurd (false≢true (sym (ap (λ o. (holds_in o).marks (EntryAt f i)) (stands.away d past).idle)
        ∙ (stands.marks (EntryAt f i) d).owned mark))
  ]

  pub holder_below : marked_by setup t (EntryAt f i) ≡ Some d → d < setup.cores
  holder_below mark = elim (cases_lt d setup.cores) [
    | inl below ↦ below
    | inr past ↦ absurd (false≢true (sym (ap (λ o. (holds_in o).marks (EntryAt f i)) (stands.away d past).idle)
        ∙ (stands.marks (EntryAt f i) d).owned mark))
  ]

-- No word above the first of a thread carries a mark.
unmarked_above : (x : Frame) (h v : ℕ) → is_thread x ≡ true → mark_in_frame x (suc h) v ≡ None
unmarked_above (Kernel (Thread k)) h v is =
    ap (λ b. if b then thread_mark (thread_of_word v) else None) (ne_eqb (suc h) 0 (λ same. omega (arith, same)))
unmarked_above _ h v is = absurd (false≢true is)

module _ (setup : Setting) (setting : IsSetting setup) (cores : ℕ → Core) (t : Trace) (stands : Invariant setup cores t) (c : ℕ)
    (here : c < setup.cores) where
  abbrev s : State
  s = state_after setup t

  abbrev thread : ℕ
  thread = ((state_after setup t).core c).thread

  own : s.frame ((state_after setup t).core c).thread ≡ Kernel (Thread (thread_of s c))
  own = own_thread setup setting t stands.legal c here

  same_core : (x y : ℕ) → Some x ≡ Some y → x ≡ y
  same_core x y h = cc

  -- the word of a thread that runs on the core does not stand for an idle one
  not_idle : (d : ℕ) → marked_by setup t (EntryAt ((state_after setup t).core c).thread 0) ≡ Some d
      → SaysIdle ((holds (cores d)).stands (EntryAt ((state_after setup t).core c).thread 0)) → ⊥
  not_idle d mark idle =
      not_running ((holds (cores d)).stands (EntryAt thread 0)) c (length (thread_of s c).stack) idle
      (subst (λ x. IsFrameWord s.limits.frames x (s.place thread 0) (stamp setup t (PlaceOf thread 0)) 0
      ((holds (cores d)).stands (EntryAt thread 0))) own
      (subst (λ o. IsFrameWord s.limits.frames (s.frame thread) (s.place thread 0) (stamp setup t (PlaceOf thread 0)) 0
      (settled_by o (held_by cores) (EntryAt thread 0) (last_left setup t (EntryAt thread 0)))) mark (stands.words (EntryAt thread 0)))
      ∙ ap (λ o. Some (thread_value o (length (thread_of s c).stack))) (runs_on_own setup setting cores t stands c here))

  first_unmarked : (holds (cores c)).marks (EntryAt ((state_after setup t).core c).thread 0) ≡ false
      → (o : Option ℕ) → marked_by setup t (EntryAt ((state_after setup t).core c).thread 0) ≡ o
      → marked_by setup t (EntryAt ((state_after setup t).core c).thread 0) ≡ None
  first_unmarked mine None free = free
  first_unmarked mine (Some d) mark = absurd (elim (claims setup setting cores t stands d thread 0 mark) [
    | inl not ↦ false≢true (sym not ∙ ap is_thread own)
    | inr (inl idle) ↦ not_idle d mark idle
    | inr (inr theirs) ↦
        (let same = same_core d c (sym (runs_on_own setup setting cores t stands d
        (holder_below setup setting cores t stands d thread 0 mark))
        ∙ ap (λ (g : ℕ). (thread_in (s.frame g)).runs_on) (sym theirs) ∙ runs_on_own setup setting cores t stands c here) in
        false≢true (sym mine ∙ (stands.marks (EntryAt thread 0) c).owned (mark ∙ ap (λ (n : ℕ). Some n) same)))
  ])

  pub thread_unmarked : (i : ℕ) → (holds (cores c)).marks (EntryAt ((state_after setup t).core c).thread i) ≡ false
      → marked_by setup t (EntryAt ((state_after setup t).core c).thread i) ≡ None
  thread_unmarked zero mine = first_unmarked mine (marked_by setup t (EntryAt thread 0)) refl
  thread_unmarked (suc h) mine = unmarked_above (s.frame thread) h (last_left setup t (EntryAt thread (suc h))) (ap is_thread own)
