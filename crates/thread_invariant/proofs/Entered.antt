-- The load of the number's word by which a core enters a component: where it shows the component live in the gate's epoch, the call is
-- decided, and the component stands on top of the core's stack.
use Rattle.live_invariant.specs.step_ways.proofs.{min, ◌≡◌, ◌≢◌, ◌⊎◌, inl, inr, ℕ, suc, pos, ◌+ℤ◌, max, length, ◌+◌, ◌-◌, ◌^◌, ◌<◌, ◌≤◌}
use Rattle.live_invariant.specs.step_ways.proofs.{◌==◌, Bool, true, false, if◌then◌else◌, List, [], ◌∷◌, Option, Some, None, arith, refl}
use Rattle.live_invariant.specs.step_ways.proofs.{sym, ◌∙◌, ap, subst, eqb-true, eq-eqb, Setting, IsSetting, Reply, live_of_word, CompWord}
use Rattle.live_invariant.specs.step_ways.proofs.{LiveWord, word_of_stack, ThreadFits, word_of_thread, Running, Word, EntryAt, CountAt}
use Rattle.live_invariant.specs.step_ways.proofs.{LiveAt, ClockAt, Move, LoadOf, word_of, told_of, CompFields, ThreadFields, Comp, Thread}
use Rattle.live_invariant.specs.step_ways.proofs.{Kernel, Thing, PlaceOf, FrameOf, NumberOf, Grace, State, first_of_stack, comp_in, comp_of}
use Rattle.live_invariant.specs.step_ways.proofs.{thread_of, Found, IsFoundAnd, times, refs, is_live_in, MayReply, change_of, changed}
use Rattle.live_invariant.specs.step_ways.proofs.{counted, ends_by, flushes_by, same_thing, new_grace, times_cons, live_mark, marked_by}
use Rattle.live_invariant.specs.step_ways.proofs.{at_height, ends_in, flushes_in, begins_at, ends_at, flushes_at, stamp, Step, Trace, Open}
use Rattle.live_invariant.specs.step_ways.proofs.{phase, state_after, state_decided_in, last_left, ok_first, last_left-there, later}
use Rattle.live_invariant.specs.step_ways.proofs.{stamp_of_change, Invoking, InvokingAt, Own, Works, Tail, Push, Act, own_changed}
use Rattle.live_invariant.specs.step_ways.proofs.{own_decided, Stage, Undecided, Decided, ActiveCall, landed, Core, Holding, holds_counts}
use Rattle.live_invariant.specs.step_ways.proofs.{WordIs, KnowsUndecided, WorksIn, holds_at, holds_in, holds, times_of, Invariant}
use Rattle.live_invariant.specs.step_ways.proofs.{counts_bare, IsUntimed, plain_begins, plain_stamp, plain_flush, marks_own, carry_marks}
use Rattle.live_invariant.specs.step_ways.proofs.{word_stays, due_of, begins_in as begins_then, Invoke as invoke_act, spares_kept, inner}
use Rattle.live_invariant.specs.step_ways.proofs.{next_at, decides_changing, GoodTook, not_spent, spares_none, same_marks, does, Value}
use Rattle.live_invariant.specs.act_states.specs.{begins_in, invoking_dues, took_invoking_at, invoking_at, enters_if, enters_live}
use Rattle.live_invariant.specs.core_invariant.specs.{HasLoadedComp, KnowsInvoking, keeps_bare}
use Rattle.live_invariant.specs.count_invariant.proofs.{counts_commit, counts_sum, dues_of}
use Rattle.live_invariant.specs.kept_facts.proofs.{exclusive_kept, last_small}
use Rattle.live_invariant.specs.act_states.specs.declared.invocations.InvokingAt.TheVariants.{LoadTable, LoadPages, LoadComp, LoadLive}
use Rattle.thread_invariant.proofs.{EntryMarks.counts_apart, CompWords.holds_comp, CompWords.comp_below, Heights.at_top, Heights.beside_top}
use Rattle.thread_invariant.proofs.{Invokes.knows_at, Invokes.looking, Invokes.says, Invokes.lives_so, Invokes.dead_good}
use Rattle.thread_invariant.proofs.{Invokes.closing_good, Invokes.load_table_good, Invokes.load_pages_good, Invokes.load_comp_good}
use Rattle.thread_invariant.proofs.{OwnStack.own_thread, Restacks.IsRestack, Restacks.frame_away, Restacks.core_now, Restacks.limits}
use Rattle.thread_invariant.proofs.{Restacks.whose, Restacks.refs_now, Restacks.grows, Restacks.alike, Restacks.restack_words}
use Rattle.thread_invariant.proofs.{Restacks.restack_exclusive, Stacked.stacked, Stacks.kept_here, Stacks.kept_there, Stacks.kept_is}
use Rattle.{live_invariant.specs.act_states.specs.Nothing as no_value, std.specs.List.list_any}
use Rattle.{live_invariant.specs.act_states.specs.Taking.took_invoking, live_invariant.specs.act_states.specs.Invocations.invoking_move}
use Rattle.{live_invariant.specs.count_invariant.proofs.StackCounts.invoke_threads, live_invariant.proofs.Numbers.shows_some}
use Rattle.{live_invariant.specs.kernel_rules.specs.Edits.Push as push_edit}
use Rattle.live_invariant.specs.tcap_words.proofs.StackLemmas as stacks
use Rattle.live_invariant.specs.tcap_words.proofs.ThreadLemmas as threads
use Rattle.live_invariant.specs.stage_thread.specs.declared.stack.Push.TheVariants as push
use Rattle.thread_invariant.proofs.InvokeCalls as calls

comp_no_thread : (k : CompFields) (u : ThreadFields) → Kernel (Comp k) ≡ Kernel (Thread u) → ⊥
comp_no_thread k u h = cc

module _ (setup : Setting) (setting : IsSetting setup) (cores : ℕ → Core) (t : Trace) (stands : Invariant setup cores t) (c : ℕ)
    (here : c < setup.cores)
    (a : ActiveCall) (active : (cores c).active ≡ Some a) (m : Invoking) (stage_is : a.stage ≡ Undecided (Act (invoke_act m)))
    (has : KnowsUndecided setup t c (cores c).own.table a (Act (invoke_act m))) (table pages : ℕ) (life : CompWord)
    (is : m.at ≡ LoadLive table pages life) (g : ℕ)
    (shown : live_of_word (last_left setup t (LiveAt life.number)) ≡ Some (LiveWord.Live m.epoch g)) where
  abbrev s : State
  s = state_after setup t

  abbrev k : CompFields
  k = comp_in (s.frame m.comp)

  abbrev knows : KnowsInvoking s c a.call a.found m
  knows = has.knows.knows

  abbrev r : Reply
  r = Reply.Ok Value.Nothing

  abbrev move : Move
  move = LoadOf (LiveAt life.number)

  abbrev found : ℕ
  found = last_left setup t (LiveAt life.number)

  abbrev old : List ℕ
  old = (thread_of s c).stack

  abbrev fs : List ℕ
  fs = m.comp ∷ (thread_of s c).stack

  abbrev thread_word : ℕ
  thread_word = word_of_thread (Running m.core (m.depth + 1))

  abbrev place_word : ℕ
  place_word = word_of_stack (record { 0 = Some m.comp })

  abbrev tail : Tail
  tail = Push (push.AtStack m.thread m.core m.depth m.comp)

  abbrev stage : Stage
  stage = Decided r None tail

  abbrev deeper : ℕ
  deeper = min (m.depth + 1) (2 ^ 8 - 1)

  abbrev own' : Own
  own' = own_decided (own_changed (cores c).own (Works m.comp table pages deeper)) r

  abbrev after : Core
  after = record { own = own'; active = Some (next_at a a.found stage) }

  abbrev e : Step
  e = inner setup setting cores t stands c here a active move (Some r) None

  abbrev s' : State
  s' = state_after setup (e ∷ t)

  is_open : phase t c ≡ Open a.call
  is_open = calls.is_open setup setting cores t stands c here a active m stage_is has

  now_loaded : HasLoadedComp (comp_in (s.frame m.comp)) (LoadLive table pages life)
  now_loaded = knows_at setup setting cores t stands c here a active m stage_is has (LoadLive table pages life) is

  unmarked : marked_by setup t (LiveAt life.number) ≡ None
  unmarked = ap live_mark shown

  lives : is_live_in (s.number (comp_in (s.frame m.comp)).number) m.epoch ≡ true
  lives = lives_so setup setting cores t stands c here a active m stage_is has table pages life is (Some (LiveWord.Live m.epoch g)) shown
      refl ∙ eq-eqb m.epoch m.epoch refl

  change : change_of s c a.call ≡ Found (does c s no_value (push_edit m.comp ∷ []))
  change = calls.by_life setup setting cores t stands c here a active m stage_is has true lives

  abbrev graces : Thing → Grace
  graces x = if list_any (same_thing x) [] then new_grace s x else s.grace x

  now : s' ≡ stacked s c fs graces
  now = ap (λ p. state_decided_in p r s c) is_open ∙ ap (λ y. counted (changed s y) c) change

  none_begins : (x : Thing) → begins_at setup t e x ≡ false
  none_begins x = ap (λ p. begins_then (Some r) p s c x) is_open ∙ ap (λ y. begins_in y x) change

  none_ends : (x : Thing) → ends_at t e x ≡ false
  none_ends x = ap (λ p. ends_in (Some r) p x) is_open
      ∙ ap (λ y. ends_by y x) (calls.is setup setting cores t stands c here a active m stage_is has).call_is

  no_flush : flushes_at t e ≡ false
  no_flush = ap (flushes_in (Some r)) is_open
      ∙ ap flushes_by (calls.is setup setting cores t stands c here a active m stage_is has).call_is

  plain : IsUntimed setup t e
  plain = record {
    begins = none_begins;
    ends = none_ends;
    flushes = no_flush;
    apart = λ d. refl;
    same = last_left-there setup ClockAt e t (λ h. cc);
  }

  -- its stack has one component more
  deep_is : m.depth + 1 ≡ length fs
  deep_is = let same = knows.on.depth in omega (arith, same)

  low : m.depth < 16
  low = (calls.fits setup setting cores t stands c here a active m stage_is has).most_depth

  comp_small : m.comp < 512
  comp_small =
      let below = comp_below setup setting cores t stands m.comp knows.comp.comp in
      let most = setting.most_frames in
      omega (arith, below, most)

  held_before : holds (cores c) ≡ holds_counts None a.counts
  held_before = ap holds_in active ∙ ap (λ stage. holds_at stage a.counts) stage_is

  abbrev rest : Holding
  rest = holds_counts (Some None) a.counts

  abbrev beside : Holding
  beside = keeps_bare m.thread 0 thread_word rest

  at_own : (x : Option ℕ → Type 0) (i : ℕ) → x ((holds after).bare m.thread i) → x ((holds after).bare (s.core c).thread i)
  at_own x i = subst (λ (n : ℕ). x ((holds after).bare n i)) knows.on.thread

  apart_first : EntryAt m.thread 0 ≢ EntryAt m.thread (m.depth + 1)
  apart_first h = let zero = same_index m.thread 0 (m.depth + 1) h in omega (arith, zero)
    where
      same_index : (f i j : ℕ) → EntryAt f i ≡ EntryAt f j → i ≡ j
      same_index f i j h = cc

  keeps_first : (holds after).bare m.thread 0 ≡ Some thread_word
  keeps_first = kept_there m.thread (m.depth + 1) place_word beside m.thread 0 apart_first ∙ kept_here m.thread 0 thread_word rest

  keeps_place : (holds after).bare m.thread (suc m.depth) ≡ Some place_word
  keeps_place = subst (λ (n : ℕ). (holds after).bare m.thread n ≡ Some place_word) next
      (kept_here m.thread (m.depth + 1) place_word beside)
    where
      next : m.depth + 1 ≡ suc m.depth
      next = omega arith

  only_kept : (f i v : ℕ) → (holds after).bare f i ≡ Some v
      → (f ≡ (s.core c).thread) × (((i ≡ 0) × (v ≡ thread_word)) ⊎ ((i ≡ suc m.depth) × (v ≡ place_word)))
  only_kept f i v kept = elim (kept_is m.thread (m.depth + 1) place_word beside f i v kept) [
    | inl at ↦ (at.0 ∙ knows.on.thread, inr ((let same = at.1 in omega (arith, same)), at.2))
    | inr below ↦ elim (kept_is m.thread 0 thread_word rest f i v below) [
      | inl at ↦ (at.0 ∙ knows.on.thread, inl (at.1, at.2))
      | inr none ↦ absurd (none_some v (sym (counts_bare (Some None) a.counts f i) ∙ none))
    ]
  ]
    where
      none_some : (v : ℕ) → None ≡ Some v → ⊥
      none_some v h = cc

  thread_fits : ThreadFits (Running m.core (m.depth + 1))
  thread_fits = (
    (let own = knows.core in let below : c < setup.cores = here in let most = setting.most_cores in omega (arith, own, below, most)),
    (omega arith, (let most = low in omega (arith, most))),
  )

  restack : IsRestack setup t e c after fs m.depth graces
  restack = record {
    now = now;
    some = omega arith;
    heights = λ h other. beside_top m.comp old h (λ same. other (same ∙ sym knows.on.depth));
    thread_word = thread_word;
    place_word = place_word;
    kept_thread = subst (λ (n : ℕ). (holds after).bare n 0 ≡ Some thread_word) knows.on.thread keeps_first;
    kept_place = subst (λ (n : ℕ). (holds after).bare n (suc m.depth) ≡ Some place_word) knows.on.thread keeps_place;
    only = only_kept;
    says_thread = threads.spelling.reads (Running m.core (m.depth + 1)) thread_fits
        ∙ ap (λ (d : ℕ). Some (Running d (m.depth + 1))) knows.core ∙ ap (λ (n : ℕ). Some (Running c n)) deep_is;
    says_place = stacks.spelling.reads (record { 0 = Some m.comp }) comp_small
        ∙ ap (λ (o : Option ℕ). Some (record { 0 = o })) (sym (ap (at_height fs) knows.on.depth ∙ at_top m.comp old));
    places = λ f i. plain_stamp setup t e plain (PlaceOf f i);
    numbers = λ l. plain_stamp setup t e plain (NumberOf l);
    flushes = plain_flush setup t e plain;
  }

  still : (w : Word) → (holds after).marks w ≡ (holds (cores c)).marks w
  still w = same_marks (Some None) None a.counts w ∙ sym (ap (λ h. h.marks w) held_before)

  none_kept : (f i : ℕ) → (holds (cores c)).bare f i ≡ None
  none_kept f i = ap (λ h. h.bare f i) held_before ∙ counts_bare None a.counts f i

  none_marked : (f i : ℕ) → (holds (cores c)).marks (EntryAt f i) ≡ false
  none_marked f i = ap (λ h. h.marks (EntryAt f i)) held_before ∙ counts_apart None a.counts f i

  no_entry : (f i : ℕ) → LiveAt life.number ≢ EntryAt f i
  no_entry f i h = cc

  no_count : (f d : ℕ) → CountAt f d ≢ LiveAt life.number
  no_count f d h = cc

  -- the core works in the component
  not_thread : m.comp ≢ (s.core c).thread
  not_thread same = comp_no_thread k (thread_of s c) (sym (holds_comp setup setting cores t stands m.comp knows.comp.comp)
      ∙ ap s.frame same ∙ own_thread setup setting t stands.legal c here)

  comp_now : comp_of s' c ≡ comp_in (s.frame m.comp)
  comp_now = ap (λ u. comp_in (s'.frame (first_of_stack u.stack)))
      (whose setup setting cores t stands c here a active move r after fs m.depth graces restack)
      ∙ ap comp_in (frame_away setup setting cores t stands c here a active move r after fs m.depth graces restack m.comp not_thread)

  works : WorksIn own' s' c
  works =
      let was_in = (stands.each c here).works in
      let core = core_now setup setting cores t stands c here a active move r after fs m.depth graces restack in
      let stack = whose setup setting cores t stands c here a active move r after fs m.depth graces restack in
      record {
        thread = was_in.thread ∙ ap (λ x. x.thread) (sym core);
        depth = (let same = deep_is in let most = low in omega (arith, same, most)) ∙ ap (λ u. length u.stack) (sym stack);
        comp = ap (λ u. first_of_stack u.stack) (sym stack);
        table = now_loaded.0 ∙ ap (λ x. x.table) (sym comp_now);
        pages = now_loaded.1 ∙ ap (λ x. x.pages) (sym comp_now);
        tcap = was_in.tcap ∙ ap (λ x. x.tcap) (sym core);
        cached = was_in.cached ∙ ap (λ x. x.cached) (sym core);
        owed = was_in.owed ∙ ap (λ x. x.owed) (sym core);
        spent = was_in.spent ∙ ap (λ x. x.spent) (sym core);
        back = was_in.back ∙ ap (λ x. x.back) (sym core);
        grant = was_in.grant ∙ ap (λ x. x.grant) (sym core);
        made = (let own = was_in.made in let more : (s'.core c).counted ≡ (s.core c).counted + 1 = ap (λ x. x.counted) core in
            omega (arith, own, more));
      }

  -- it takes a reference to the component
  few : length (dues_of (pos 1) (m.comp ∷ [])) ≤ 1
  few = omega arith

  none_drawn : later 0 None < 2 ^ 43
  none_drawn = omega arith

  dues_are : dues_of (pos 1) (m.comp ∷ []) ≡ Rattle.std.proofs.Common.map due_of a.counts
  dues_are = ap (invoking_dues m.comp) (sym is) ∙ has.knows.all

  more_refs : (f : ℕ) → refs s' f ≡ refs s f + times f (m.comp ∷ [])
  more_refs f =
      let all = refs_now setup setting cores t stands c here a active move r after fs m.depth graces restack f in
      let top = times_cons f m.comp old in
      let alone = times_cons f m.comp [] in
      omega (arith, all, top, alone)

  max_zero : (n : ℕ) → n ≡ max n 0
  max_zero n = omega arith

  kept : (f : ℕ) → times f (m.comp ∷ []) ≡ 0 → (refs s' f ≡ refs s f) × (stamp setup (e ∷ t) (FrameOf f) ≡ stamp setup t (FrameOf f))
  kept f none = ((let more = more_refs f in omega (arith, more, none)), plain_stamp setup t e plain (FrameOf f))

  changes : (f : ℕ) → times f (m.comp ∷ []) ≡ 1 → (pos (refs s' f) ≡ pos (refs s f) +ℤ pos 1)
      × (stamp setup (e ∷ t) (FrameOf f) ≡ max (stamp setup t (FrameOf f)) (later 0 (stamp_of_change (pos 1) None)))
  changes f one = (
    ap (λ (n : ℕ). pos n) (let more = more_refs f in omega (arith, more, one)),
    plain_stamp setup t e plain (FrameOf f) ∙ max_zero (stamp setup t (FrameOf f)),
  )

  commits : (w : Word) → (holds_counts None a.counts).marks w ≡ true
      → WordIs s' (times_of setup (e ∷ t)) w ((holds_counts (Some None) a.counts).stands w)
  commits = counts_commit setup setting cores t stands c here a active (pos 1) None none_drawn (m.comp ∷ []) few dues_are move r
      after still (λ f d. (ap (λ h. h.marks (CountAt f d)) held_before, ap (λ h. h.stands (CountAt f d)) held_before)) (λ f d. refl)
      (alike setup setting cores t stands c here a active move r after fs m.depth graces restack) unmarked unmarked no_count

  held : (w : Word) → marked_by setup t w ≡ Some c → WordIs s' (times_of setup (e ∷ t)) w ((holds after).stands w)
  held w mark = commits w (sym (ap (λ h. h.marks w) held_before) ∙ (stands.marks w c).owned mark)

  number_said : WordIs s' (times_of setup (e ∷ t)) (LiveAt life.number) found
  number_said = word_stays s s' (times_of setup t) (times_of setup (e ∷ t)) (LiveAt life.number) found
      (record { number = ap (λ x. x.number life.number) now; stamp = plain_stamp setup t e plain (NumberOf life.number) })
      (says setup setting cores t stands c here a active m stage_is has table pages life is unmarked)

  permitted : MayReply s c a.call r
  permitted = (
    not_spent setup (cores c) t c (stands.each c here) (calls.room setup setting cores t stands c here a active m stage_is has),
    (has.acts, subst (λ y. IsFoundAnd y (λ z. z.value ≡ Value.Nothing)) (sym change) refl),
  )

  pub entered_good : GoodTook setup cores t c move (landed a (enters_if m table pages true))
  entered_good lands =
      let marks = carry_marks setup cores t e after still
      (alike setup setting cores t stands c here a active move r after fs m.depth graces restack) unmarked unmarked stands.marks in
      decides_changing setup setting cores t stands c here a active move r own' stage
      (record { core = refl; layout = refl; limit = refl; epochs = refl; exit = refl })
      (last_small setup setting t stands.legal (LiveAt life.number))
      (looking setup setting cores t stands c here a active m stage_is has table pages life is).of_call lands
      (calls.opens setup setting cores t stands c here a active m stage_is has) refl
      (marks_own setup cores t e after (λ w there. still w) stands.marks marks)
      (λ d mark other. refl)
      (plain_begins setup t e plain) (spares_kept setup t e refl) (inr (spares_none setup t e (λ f. none_ends (FrameOf f))))
      (let more = grows setup setting cores t stands c here a active move r after fs m.depth graces restack in omega (arith, more))
      works marks
      (restack_words setup setting cores t stands c here a active move r
      after fs m.depth graces restack still none_kept none_marked no_entry
      unmarked
      unmarked number_said held)
      (restack_exclusive setup setting cores t stands c here a active move r after fs m.depth graces restack still none_kept none_marked
      no_entry
      unmarked
      unmarked)
      (exclusive_kept cores e refl)
      (counts_sum setup setting cores t stands c here a active (pos 1) None none_drawn (m.comp ∷ []) few dues_are move r
      after still
      (λ f d. (ap (λ h. h.marks (CountAt f d)) held_before, ap (λ h. h.stands (CountAt f d)) held_before)) (λ f d. refl)
      (alike setup setting cores t stands c here a active move r after fs m.depth graces restack) unmarked unmarked no_count
      (ap (λ l. l.cores) (limits setup setting cores t stands c here a active move r after fs m.depth graces restack)) kept changes)
      (record {
        call = a.call;
        is_open = is_open;
        permitted = permitted;
        justified = calls.gone setup setting cores t stands c here a active m stage_is has e refl refl;
      })
      (λ is_alone. ok_first s c a.call Value.Nothing permitted)
      (record {
        stack = record { threads = invoke_threads a.call a.found m knows.invokes; core = knows.core };
        small = comp_small;
      })

-- A step by which a core enters a component is good.
module _ (setup : Setting) (setting : IsSetting setup) (cores : ℕ → Core) (t : Trace) (stands : Invariant setup cores t) (c : ℕ)
    (here : c < setup.cores)
    (a : ActiveCall) (active : (cores c).active ≡ Some a) (m : Invoking) (stage_is : a.stage ≡ Undecided (Act (invoke_act m)))
    (has : KnowsUndecided setup t c (cores c).own.table a (Act (invoke_act m))) where
  module _ (table pages : ℕ) (life : CompWord) (is : m.at ≡ LoadLive table pages life) where
    abbrev there : ℕ
    there = last_left setup t (LiveAt life.number)

    abbrev Ends : Option LiveWord → Type 0
    Ends o = GoodTook setup cores t c (LoadOf (LiveAt life.number)) (landed a (enters_live m table pages o))

    by_epoch : (epoch f : ℕ) → live_of_word (last_left setup t (LiveAt life.number)) ≡ Some (LiveWord.Live epoch f)
        → (same : Bool) → (epoch == m.epoch) ≡ same
        → GoodTook setup cores t c (LoadOf (LiveAt life.number)) (landed a (enters_if m table pages same))
    by_epoch epoch f shown true same = entered_good setup setting cores t stands c here a active m stage_is has table pages life is f
        (shown ∙ ap (λ (n : ℕ). Some (LiveWord.Live n f)) (eqb-true epoch m.epoch same))
    by_epoch epoch f shown false other = dead_good setup setting cores t stands c here a active m stage_is has table pages life is
        (Some (LiveWord.Live epoch f)) shown refl other

    by_number : (v : LiveWord) → live_of_word (last_left setup t (LiveAt life.number)) ≡ Some v → Ends (Some v)
    by_number LiveWord.Free shown =
        dead_good setup setting cores t stands c here a active m stage_is has table pages life is (Some LiveWord.Free) shown refl refl
    by_number (LiveWord.Live epoch f) shown = by_epoch epoch f shown (epoch == m.epoch) refl
    by_number (LiveWord.Closing epoch d) shown =
        closing_good setup setting cores t stands c here a active m stage_is has table pages life is d (ap live_mark shown)
    by_number (LiveWord.Dead epoch x) shown =
        dead_good setup setting cores t stands c here a active m stage_is has table pages life is (Some (LiveWord.Dead epoch x)) shown refl
        refl

    by_word : (o : Option LiveWord) → live_of_word (last_left setup t (LiveAt life.number)) ≡ o → Ends o
    by_word None shown = absurd (shows_some ((state_after setup t).number life.number) (stamp setup t (NumberOf life.number))
        (live_of_word (last_left setup t (LiveAt life.number)))
        (says setup setting cores t stands c here a active m stage_is has table pages life is (ap live_mark shown)) shown)
    by_word (Some v) shown = by_number v shown

    load_live_good : Ends (live_of_word (last_left setup t (LiveAt life.number)))
    load_live_good = by_word (live_of_word (last_left setup t (LiveAt life.number))) refl

  pub invoking_good : GoodTook setup cores t c (invoking_move m)
      (landed a (took_invoking m (told_of (invoking_move m) (last_left setup t (word_of (invoking_move m))))))
  invoking_good = by m.at refl
    where
      by : (at : InvokingAt) → m.at ≡ at
          → GoodTook setup cores t c (invoking_at m.comp at)
          (landed a (took_invoking_at m at (told_of (invoking_at m.comp at) (last_left setup t (word_of (invoking_at m.comp at))))))
      by LoadTable is = load_table_good setup setting cores t stands c here a active m stage_is has is
      by (LoadPages table) is = load_pages_good setup setting cores t stands c here a active m stage_is has table is
      by (LoadComp table pages) is = load_comp_good setup setting cores t stands c here a active m stage_is has table pages is
      by (LoadLive table pages life) is = load_live_good table pages life is
