-- The draw of a stamp by which a core leaves a component: the call is decided, and the component below stands on top of the core's stack.
-- The reference to the component that is left is released at the stamp.
use Rattle.live_invariant.specs.step_ways.proofs.{◌≡◌, ◌≢◌, ◌⊎◌, inl, inr, ℕ, suc, pos, negsuc, ◌+ℤ◌, max, length, ◌+◌, ◌-◌, ◌^◌, ◌<◌, ◌≤◌}
use Rattle.live_invariant.specs.step_ways.proofs.{◌==◌, ◌||◌, true, false, if◌then◌else◌, List, [], ◌∷◌, Option, Some, None, IsTrue, arith}
use Rattle.live_invariant.specs.step_ways.proofs.{refl, sym, ◌∙◌, ap, subst, eq-eqb, ne_eqb, false≢true, Setting, IsSetting, Reply}
use Rattle.live_invariant.specs.step_ways.proofs.{word_of_stack, ThreadFits, word_of_thread, Running, Word, EntryAt, CountAt, ClockAt, Move}
use Rattle.live_invariant.specs.step_ways.proofs.{AddOf, word_of, told_of, CompFields, ThreadFields, Comp, Thread, Kernel, Thing, PlaceOf}
use Rattle.live_invariant.specs.step_ways.proofs.{FrameOf, NumberOf, Grace, State, first_of_stack, comp_in, comp_of, thread_of, Found}
use Rattle.live_invariant.specs.step_ways.proofs.{IsFoundAnd, frames_of, times, refs, MayReply, change_of, changed, counted, ends_by}
use Rattle.live_invariant.specs.step_ways.proofs.{flushes_by, same_thing, new_grace, times_cons, changes_threads, raises_clock, marked_by}
use Rattle.live_invariant.specs.step_ways.proofs.{at_height, ends_in, flushes_in, begins_at, ends_at, flushes_at, stamp, clock, flush_of}
use Rattle.live_invariant.specs.step_ways.proofs.{flush_stored, Step, Trace, Open, phase, state_after, state_decided_in, last_left}
use Rattle.live_invariant.specs.step_ways.proofs.{ok_first, stamp-begins, stamp-kept, flush_stored-own, flush_stored-other, drawn_stamp}
use Rattle.live_invariant.specs.step_ways.proofs.{later, stamp_of_change, ReturningAt, Own, Works, Tail, Pop, Act, own_changed, own_decided}
use Rattle.live_invariant.specs.step_ways.proofs.{Stage, Undecided, Decided, ActiveCall, landed, Core, Holding, holds_counts, WordIs}
use Rattle.live_invariant.specs.step_ways.proofs.{due_of, KnowsUndecided, WorksIn, holds_in, holds, times_of, Invariant, counts_bare}
use Rattle.live_invariant.specs.step_ways.proofs.{exclusive_elsewhere, marks_own, carry_marks, take, drop, begins_in as begins_then}
use Rattle.live_invariant.specs.step_ways.proofs.{Return as return_act, open_flushed, spares_other, inner, next_at, GoodTook, not_spent}
use Rattle.live_invariant.specs.step_ways.proofs.{spares_none, same_marks, clock_small, does, Value}
use Rattle.live_invariant.specs.core_invariant.specs.{KeepsTime, flushing_in, HasLoadedBelow, KnowsReturning, keeps_bare}
use Rattle.live_invariant.specs.act_states.specs.{begins_in, returning_dues, took_returning_at, returning_at, Nothing as no_value}
use Rattle.live_invariant.specs.count_invariant.proofs.{counts_commit, counts_sum, dues_of}
use Rattle.live_invariant.specs.kernel_history.proofs.{flush_of-own, Pop as pop_edit}
use Rattle.std.proofs.{lemmas.Bool.cases_eq, Math.IntN.pos-+ℤ-pos, Math.IntN.+ℤ_assoc, Math.IntN.+ℤ_invr, Math.IntN.+ℤ_idr}
use Rattle.live_invariant.specs.act_states.specs.declared.invocations.ReturningAt.TheVariants.{LoadBelow, LoadTable, LoadPages, Draw}
use Rattle.live_invariant.specs.act_states.specs.Invocations.{returning_move, left_to}
use Rattle.live_invariant.specs.step_ways.proofs.{Draws.raised, OwnChanges.decides_timed}
use Rattle.thread_invariant.proofs.{EntryMarks.counts_apart, CompWords.holds_comp, Heights.above_top, Heights.beside_top, Returns.opens}
use Rattle.thread_invariant.proofs.{Returns.is_open, Returns.room, Returns.return_fits, Returns.deep, Returns.change, Returns.nothing_gone}
use Rattle.thread_invariant.proofs.{Returns.return_held, Returns.loaded_at, Returns.load_below_good, Returns.load_table_good}
use Rattle.thread_invariant.proofs.{Returns.load_pages_good, OwnStack.own_thread, OwnStack.split_stack, Restacks.IsRestack}
use Rattle.thread_invariant.proofs.{Restacks.frame_away, Restacks.core_now, Restacks.limits, Restacks.whose, Restacks.refs_now}
use Rattle.thread_invariant.proofs.{Restacks.grows, Restacks.alike, Restacks.restack_words, Restacks.restack_exclusive, Stacked.stacked}
use Rattle.thread_invariant.proofs.{Stacks.kept_here, Stacks.kept_there, Stacks.kept_is}
use Rattle.{std.specs.List.list_any, live_invariant.specs.act_states.specs.declared.invocations.Returning.Returning}
use Rattle.{live_invariant.specs.act_states.specs.Taking.took_returning}
use Rattle.live_invariant.specs.tcap_words.proofs.StackLemmas as stacks
use Rattle.live_invariant.specs.tcap_words.proofs.ThreadLemmas as threads
use Rattle.live_invariant.specs.stage_thread.specs.declared.stack.Pop.TheVariants as pop

comp_no_thread : (k : CompFields) (u : ThreadFields) → Kernel (Comp k) ≡ Kernel (Thread u) → ⊥
comp_no_thread k u h = cc

-- A count that falls by one.
one_less : (m n : ℕ) → n + 1 ≡ m → pos n ≡ pos m +ℤ negsuc 0
one_less m n is = sym (ap (λ (k : ℕ). pos k +ℤ negsuc 0) (sym is) ∙ ap (λ z. z +ℤ negsuc 0) (sym (pos-+ℤ-pos n 1)) ∙ +ℤ_assoc (pos n)
    (pos 1) (negsuc 0) ∙ ap (λ z. pos n +ℤ z) (+ℤ_invr (pos 1)) ∙ +ℤ_idr (pos n))

-- How often a frame is named alone.
once : (f : ℕ) → times f (f ∷ []) ≡ 1
once f = times_cons f f [] ∙ ap (λ b. (if b then 1 else 0) + 0) (eq-eqb f f refl)

never : (g f : ℕ) → g ≢ f → times g (f ∷ []) ≡ 0
never g f other = times_cons g f [] ∙ ap (λ b. (if b then 1 else 0) + 0) (ne_eqb f g (λ h. other (sym h)))

module _ (setup : Setting) (setting : IsSetting setup) (cores : ℕ → Core) (t : Trace) (stands : Invariant setup cores t) (c : ℕ)
    (here : c < setup.cores)
    (a : ActiveCall) (active : (cores c).active ≡ Some a) (m : Returning) (stage_is : a.stage ≡ Undecided (Act (return_act m)))
    (has : KnowsUndecided setup t c (cores c).own.table a (Act (return_act m))) (comp table pages : ℕ)
    (is : m.at ≡ Draw comp table pages) (now_at : ℕ) (drawn_is : now_at ≡ clock setup t) where
  abbrev s : State
  s = state_after setup t

  abbrev x : ℕ
  x = clock setup t

  abbrev knows : KnowsReturning s c a.call m
  knows = has.knows.knows

  abbrev r : Reply
  r = Reply.Ok Value.Nothing

  abbrev move : Move
  move = AddOf ClockAt 1

  abbrev old : List ℕ
  old = (thread_of s c).stack

  abbrev fs : List ℕ
  fs = drop 1 (thread_of s c).stack

  abbrev height : ℕ
  height = m.depth - 1

  abbrev thread_word : ℕ
  thread_word = word_of_thread (Running m.core (m.depth - 1))

  abbrev place_word : ℕ
  place_word = word_of_stack (record { 0 = None })

  abbrev tail : Tail
  tail = Pop (pop.AtThread m.thread m.core m.depth)

  abbrev stage : Stage
  stage = Decided r (Some now_at) tail

  abbrev own' : Own
  own' = own_decided (own_changed (cores c).own (Works comp table pages (m.depth - 1))) r

  abbrev after : Core
  after = record { own = own'; active = Some (next_at a a.found stage) }

  abbrev e : Step
  e = inner setup setting cores t stands c here a active move (Some r) None

  abbrev s' : State
  s' = state_after setup (e ∷ t)

  opened : phase t c ≡ Open a.call
  opened = is_open setup setting cores t stands c here a active m stage_is has

  two : 2 ≤ length (thread_of s c).stack
  two = deep setup setting cores t stands c here a active m stage_is has

  split : (thread_of s c).stack ≡ m.top ∷ drop 1 (thread_of s c).stack
  split = split_stack (thread_of s c).stack (let some = two in omega (arith, some))
      ∙ ap (λ (f : ℕ). f ∷ drop 1 (thread_of s c).stack) (sym knows.top)

  length_is : length (drop 1 (thread_of s c).stack) + 1 ≡ length (thread_of s c).stack
  length_is = let all : length (thread_of s c).stack ≡ length (m.top ∷ drop 1 (thread_of s c).stack) = ap length split in
      omega (arith, all)

  some_depth : 2 ≤ m.depth
  some_depth = (return_fits setup setting cores t stands c here a active m stage_is has).some_depth

  most_depth : m.depth ≤ 16
  most_depth = (return_fits setup setting cores t stands c here a active m stage_is has).most_depth

  depth_now : m.depth - 1 ≡ length (drop 1 (thread_of s c).stack)
  depth_now = let same = knows.on.depth in let one = length_is in let some = some_depth in omega (arith, same, one, some)

  loaded : HasLoadedBelow s c (Draw comp table pages)
  loaded = loaded_at setup setting cores t stands c here a active m stage_is has (Draw comp table pages) is

  changes_so : change_of s c a.call ≡ Found (does c s no_value (pop_edit ∷ []))
  changes_so = change setup setting cores t stands c here a active m stage_is has

  abbrev things : List Thing
  things = frames_of (take 1 (thread_of s c).stack)

  abbrev graces : Thing → Grace
  graces y = if list_any (same_thing y) things then new_grace s y else s.grace y

  now : s' ≡ stacked s c fs graces
  now = ap (λ p. state_decided_in p r s c) opened ∙ ap (λ y. counted (changed s y) c) changes_so

  things_are : frames_of (take 1 (thread_of s c).stack) ≡ FrameOf m.top ∷ []
  things_are = ap (λ st. frames_of (take 1 st)) split

  begins : (y : Thing) → begins_at setup t e y ≡ list_any (same_thing y) (FrameOf m.top ∷ [])
  begins y = ap (λ p. begins_then (Some r) p s c y) opened ∙ ap (λ z. begins_in z y) changes_so
      ∙ ap (list_any (same_thing y)) things_are

  none_ends : (y : Thing) → ends_at t e y ≡ false
  none_ends y = ap (λ p. ends_in (Some r) p y) opened ∙ ap (λ z. ends_by z y) knows.call_is

  no_flush : flushes_at t e ≡ false
  no_flush = ap (flushes_in (Some r)) opened ∙ ap flushes_by knows.call_is

  stamp_begins : (y : Thing) → list_any (same_thing y) (FrameOf m.top ∷ []) ≡ true → stamp setup (e ∷ t) y ≡ x
  stamp_begins y at = stamp-begins setup e t y (begins y ∙ at)

  stamp_stays : (y : Thing) → list_any (same_thing y) (FrameOf m.top ∷ []) ≡ false → stamp setup (e ∷ t) y ≡ stamp setup t y
  stamp_stays y at = stamp-kept setup e t y (begins y ∙ at) (none_ends y)

  the_frame : list_any (same_thing (FrameOf m.top)) (FrameOf m.top ∷ []) ≡ true
  the_frame = ap (λ b. b || false) (eq-eqb m.top m.top refl)

  a_frame : (f : ℕ) → f ≢ m.top → list_any (same_thing (FrameOf f)) (FrameOf m.top ∷ []) ≡ false
  a_frame f other = ap (λ b. b || false) (ne_eqb f m.top other)

  stored_same : (d : ℕ) → flush_stored (e ∷ t) d ≡ flush_stored t d
  stored_same d = elim (cases_eq d c) [
    | inl own ↦ flush_stored-own d e t own
    | inr other ↦ flush_stored-other d e t other
  ]

  held_before : holds (cores c) ≡ holds_counts None a.counts
  held_before = ap holds_in active ∙ return_held setup setting cores t stands c here a active m stage_is has

  abbrev rest : Holding
  rest = holds_counts (Some (Some now_at)) a.counts

  abbrev beside : Holding
  beside = keeps_bare m.thread m.depth place_word rest

  apart_place : EntryAt m.thread m.depth ≢ EntryAt m.thread 0
  apart_place h = let zero = same_index m.thread m.depth 0 h in let some = some_depth in omega (arith, zero, some)
    where
      same_index : (f i j : ℕ) → EntryAt f i ≡ EntryAt f j → i ≡ j
      same_index f i j h = cc

  place_index : m.depth ≡ suc (m.depth - 1)
  place_index = let some = some_depth in omega (arith, some)

  keeps_first : (holds after).bare m.thread 0 ≡ Some thread_word
  keeps_first = kept_here m.thread 0 thread_word beside

  keeps_place : (holds after).bare m.thread (suc (m.depth - 1)) ≡ Some place_word
  keeps_place = subst (λ (n : ℕ). (holds after).bare m.thread n ≡ Some place_word) place_index
      (kept_there m.thread 0 thread_word beside m.thread m.depth apart_place ∙ kept_here m.thread m.depth place_word rest)

  none_some : (v : ℕ) → None ≡ Some v → ⊥
  none_some v h = cc

  only_kept : (f i v : ℕ) → (holds after).bare f i ≡ Some v
      → (f ≡ (s.core c).thread) × (((i ≡ 0) × (v ≡ thread_word)) ⊎ ((i ≡ suc (m.depth - 1)) × (v ≡ place_word)))
  only_kept f i v kept = elim (kept_is m.thread 0 thread_word beside f i v kept) [
    | inl at ↦ (at.0 ∙ knows.on.thread, inl (at.1, at.2))
    | inr below ↦ elim (kept_is m.thread m.depth place_word rest f i v below) [
      | inl at ↦ (at.0 ∙ knows.on.thread, inr (at.1 ∙ place_index, at.2))
      | inr none ↦ absurd (none_some v (sym (counts_bare (Some (Some now_at)) a.counts f i) ∙ none))
    ]
  ]

  thread_fits : ThreadFits (Running m.core (m.depth - 1))
  thread_fits = (
    (let own = knows.core in let below : c < setup.cores = here in let most = setting.most_cores in omega (arith, own, below, most)),
    ((let some = some_depth in omega (arith, some)), (let most = most_depth in omega (arith, most))),
  )

  restack : IsRestack setup t e c after fs height graces
  restack = record {
    now = now;
    some = (let same = depth_now in let some = some_depth in omega (arith, same, some));
    heights = λ h other. sym (beside_top m.top fs h (λ same. other (same ∙ sym depth_now))) ∙ ap (λ st. at_height st h) (sym split);
    thread_word = thread_word;
    place_word = place_word;
    kept_thread = subst (λ (n : ℕ). (holds after).bare n 0 ≡ Some thread_word) knows.on.thread keeps_first;
    kept_place = subst (λ (n : ℕ). (holds after).bare n (suc (m.depth - 1)) ≡ Some place_word) knows.on.thread keeps_place;
    only = only_kept;
    says_thread = threads.spelling.reads (Running m.core (m.depth - 1)) thread_fits
        ∙ ap (λ (d : ℕ). Some (Running d (m.depth - 1))) knows.core ∙ ap (λ (n : ℕ). Some (Running c n)) depth_now;
    says_place = stacks.spelling.reads (record { 0 = None }) tt
        ∙ ap (λ (o : Option ℕ). Some (record { 0 = o }))
        (sym (above_top fs (m.depth - 1) (let same = depth_now in omega (arith, same))));
    places = λ f i. stamp_stays (PlaceOf f i) refl;
    numbers = λ l. stamp_stays (NumberOf l) refl;
    flushes = stored_same;
  }

  still : (w : Word) → (holds after).marks w ≡ (holds (cores c)).marks w
  still w = same_marks (Some (Some now_at)) None a.counts w ∙ sym (ap (λ h. h.marks w) held_before)

  none_kept : (f i : ℕ) → (holds (cores c)).bare f i ≡ None
  none_kept f i = ap (λ h. h.bare f i) held_before ∙ counts_bare None a.counts f i

  none_marked : (f i : ℕ) → (holds (cores c)).marks (EntryAt f i) ≡ false
  none_marked f i = ap (λ h. h.marks (EntryAt f i)) held_before ∙ counts_apart None a.counts f i

  no_entry : (f i : ℕ) → ClockAt ≢ EntryAt f i
  no_entry f i h = cc

  no_count : (f d : ℕ) → CountAt f d ≢ ClockAt
  no_count f d h = cc

  -- the core works in the component below
  not_thread : comp ≢ (s.core c).thread
  not_thread same = comp_no_thread (comp_in (s.frame comp)) (thread_of s c)
      (sym (holds_comp setup setting cores t stands comp loaded.0.comp.comp)
      ∙ ap s.frame same ∙ own_thread setup setting t stands.legal c here)

  comp_now : comp_of s' c ≡ comp_in (s.frame comp)
  comp_now = ap (λ u. comp_in (s'.frame (first_of_stack u.stack)))
      (whose setup setting cores t stands c here a active move r after fs height graces restack)
      ∙ ap (λ (f : ℕ). comp_in (s'.frame f)) (sym loaded.0.is)
      ∙ ap comp_in (frame_away setup setting cores t stands c here a active move r after fs height graces restack comp not_thread)

  works : WorksIn own' s' c
  works =
      let was_in = (stands.each c here).works in
      let core = core_now setup setting cores t stands c here a active move r after fs height graces restack in
      let stack = whose setup setting cores t stands c here a active move r after fs height graces restack in
      record {
        thread = was_in.thread ∙ ap (λ k. k.thread) (sym core);
        depth = depth_now ∙ ap (λ u. length u.stack) (sym stack);
        comp = loaded.0.is ∙ ap (λ u. first_of_stack u.stack) (sym stack);
        table = loaded.1 ∙ ap (λ k. k.table) (sym comp_now);
        pages = loaded.2 ∙ ap (λ k. k.pages) (sym comp_now);
        tcap = was_in.tcap ∙ ap (λ k. k.tcap) (sym core);
        cached = was_in.cached ∙ ap (λ k. k.cached) (sym core);
        owed = was_in.owed ∙ ap (λ k. k.owed) (sym core);
        spent = was_in.spent ∙ ap (λ k. k.spent) (sym core);
        back = was_in.back ∙ ap (λ k. k.back) (sym core);
        grant = was_in.grant ∙ ap (λ k. k.grant) (sym core);
        made = (let own = was_in.made in let more : (s'.core c).counted ≡ (s.core c).counted + 1 = ap (λ k. k.counted) core in
            omega (arith, own, more));
      }

  -- it releases the reference to the top
  few : length (dues_of (negsuc 0) (m.top ∷ [])) ≤ 1
  few = omega arith

  drawn_small : later 0 (Some now_at) < 2 ^ 43
  drawn_small = let low = clock_small setup setting cores t stands in let same = drawn_is in omega arith

  dues_are : dues_of (negsuc 0) (m.top ∷ []) ≡ Rattle.std.proofs.Common.map due_of a.counts
  dues_are = ap (returning_dues m.top) (sym is) ∙ has.knows.all

  falls : (f : ℕ) → refs s' f + times f (m.top ∷ []) ≡ refs s f
  falls f =
      let all = refs_now setup setting cores t stands c here a active move r after fs height graces restack f in
      let was : times f (thread_of s c).stack ≡ times f (m.top ∷ drop 1 (thread_of s c).stack) = ap (times f) split in
      let top = times_cons f m.top (drop 1 (thread_of s c).stack) in
      let alone = times_cons f m.top [] in
      omega (arith, all, was, top, alone)

  kept : (f : ℕ) → times f (m.top ∷ []) ≡ 0 → (refs s' f ≡ refs s f) × (stamp setup (e ∷ t) (FrameOf f) ≡ stamp setup t (FrameOf f))
  kept f none = ((let less = falls f in omega (arith, less, none)), stamp_stays (FrameOf f) (a_frame f apart))
    where
      apart : f ≢ m.top
      apart same = let one : times f (m.top ∷ []) ≡ 1 = ap (λ (n : ℕ). times n (m.top ∷ [])) same ∙ once m.top in
          omega (arith, one, none)

  changes : (f : ℕ) → times f (m.top ∷ []) ≡ 1 → (pos (refs s' f) ≡ pos (refs s f) +ℤ negsuc 0)
      × (stamp setup (e ∷ t) (FrameOf f) ≡ max (stamp setup t (FrameOf f)) (later 0 (stamp_of_change (negsuc 0) (Some now_at))))
  changes f one = (
    one_less (refs s f) (refs s' f) (let less = falls f in omega (arith, less, one)),
    ap (λ (n : ℕ). stamp setup (e ∷ t) (FrameOf n)) its ∙ stamp_begins (FrameOf m.top) the_frame
        ∙ latest (stamp setup t (FrameOf f)) (stands.graces (FrameOf f)).past,
  )
    where
      its : f ≡ m.top
      its = elim (cases_eq f m.top) [
        | inl same ↦ same
        | inr other ↦ absurd (let none = never f m.top other in omega (arith, one, none))
      ]

      latest : (y : ℕ) → y < x → x ≡ max y (max 0 now_at)
      latest y past = let same = drawn_is in omega (arith, past, same)

  commits : (w : Word) → (holds_counts None a.counts).marks w ≡ true
      → WordIs s' (times_of setup (e ∷ t)) w ((holds_counts (Some (Some now_at)) a.counts).stands w)
  commits = counts_commit setup setting cores t stands c here a active (negsuc 0) (Some now_at) drawn_small (m.top ∷ []) few
      dues_are move r after still
      (λ f d. (ap (λ h. h.marks (CountAt f d)) held_before, ap (λ h. h.stands (CountAt f d)) held_before)) (λ f d. refl)
      (alike setup setting cores t stands c here a active move r after fs height graces restack) refl refl no_count

  held : (w : Word) → marked_by setup t w ≡ Some c → WordIs s' (times_of setup (e ∷ t)) w ((holds after).stands w)
  held w mark = commits w (sym (ap (λ h. h.marks w) held_before) ∙ (stands.marks w c).owned mark)

  clock_now : clock setup (e ∷ t) ≡ clock setup t + 1
  clock_now = raised setup setting cores t stands c here a active r stage ((cores c).own.made + 1)

  time : KeepsTime setup t e
  time = record {
    rises = (let b = clock_now in omega arith);
    draws = λ y at. (refl, (let b = clock_now in omega arith));
    flushes = λ at. absurd (false≢true (sym no_flush ∙ at));
  }

  permitted : MayReply s c a.call r
  permitted = (
    not_spent setup (cores c) t c (stands.each c here) (room setup setting cores t stands c here a active m stage_is has),
    (has.acts, subst (λ y. IsFoundAnd y (λ z. z.value ≡ Value.Nothing)) (sym changes_so) refl),
  )

  left_good : GoodTook setup cores t c move (landed a (left_to m comp table pages now_at))
  left_good lands =
      let marks = carry_marks setup cores t e after still
      (alike setup setting cores t stands c here a active move r after fs height graces restack) refl refl stands.marks in
      let low = clock_small setup setting cores t stands in
      decides_timed setup setting cores t stands c here a active move r own' stage
      (record { core = refl; layout = refl; limit = refl; epochs = refl; exit = refl })
      (subst (λ (n : ℕ). n < 2 ^ 64) (sym clock_now) (omega arith))
      (record { moves = (subst (λ y. IsTrue (raises_clock y)) (sym knows.call_is) refl, refl); footprint = inl tt }) lands
      (opens setup setting cores t stands c here a active m stage_is has) refl
      (marks_own setup cores t e after (λ w there. still w) stands.marks marks)
      (λ d mark other. absurd (none_some d mark))
      time
      (let d = stands.draws in let b = clock_now in
      let more = grows setup setting cores t stands c here a active move r after fs height graces restack in omega (arith, d, b, more))
      (λ done. flush_stored-own c e t refl
      ∙ (stands.each c here).flushed (ap flushing_in active ∙ open_flushed a.call a.stage
      (opens setup setting cores t stands c here a active m stage_is has)) ∙ sym
      (flush_of-own c e t refl ∙ ap (λ b. if b then clock setup t else flush_of t c) no_flush))
      (spares_other setup t e (λ f i h. no_entry f i h)) (inr (spares_none setup t e (λ f. none_ends (FrameOf f))))
      works marks
      (restack_words setup setting cores t stands c here a active move r after fs height graces restack still none_kept none_marked no_entry
      refl
      refl tt held)
      (restack_exclusive setup setting cores t stands c here a active move r after fs height graces restack still none_kept none_marked
      no_entry
      refl refl)
      (exclusive_elsewhere cores e (λ f i h. no_entry f i h))
      (counts_sum setup setting cores t stands c here a active (negsuc 0) (Some now_at) drawn_small (m.top ∷ []) few dues_are
      move r
      after still (λ f d. (ap (λ h. h.marks (CountAt f d)) held_before, ap (λ h. h.stands (CountAt f d)) held_before)) (λ f d. refl)
      (alike setup setting cores t stands c here a active move r after fs height graces restack) refl refl no_count
      (ap (λ l. l.cores) (limits setup setting cores t stands c here a active move r after fs height graces restack)) kept changes)
      (record {
        call = a.call;
        is_open = opened;
        permitted = permitted;
        justified = nothing_gone setup setting cores t stands c here a active m stage_is has e;
      })
      (λ is_alone. ok_first s c a.call Value.Nothing permitted)
      (record { threads = ap changes_threads knows.call_is; core = knows.core })

-- A step by which a core leaves a component is good.
pub returning_good : (setup : Setting) → IsSetting setup
    → (cores : ℕ → Core) (t : Trace) → Invariant setup cores t → (c : ℕ) → c < setup.cores
    → (a : ActiveCall) → (cores c).active ≡ Some a → (m : Returning) → a.stage ≡ Undecided (Act (return_act m))
    → KnowsUndecided setup t c (cores c).own.table a (Act (return_act m))
    → GoodTook setup cores t c (returning_move m)
    (landed a (took_returning m (told_of (returning_move m) (last_left setup t (word_of (returning_move m))))))
returning_good setup setting cores t stands c here a active m stage_is has = by m.at refl
  where
    drawn : drawn_stamp (clock setup t) ≡ clock setup t
    drawn = let low = clock_small setup setting cores t stands in let some = stands.some_time in omega arith

    by : (at : ReturningAt) → m.at ≡ at
        → GoodTook setup cores t c (returning_at m.thread m.depth at)
        (landed a (took_returning_at m at (told_of (returning_at m.thread m.depth at)
        (last_left setup t (word_of (returning_at m.thread m.depth at))))))
    by LoadBelow is = load_below_good setup setting cores t stands c here a active m stage_is has is
    by (LoadTable comp) is = load_table_good setup setting cores t stands c here a active m stage_is has comp is
    by (LoadPages comp table) is = load_pages_good setup setting cores t stands c here a active m stage_is has comp table is
    by (Draw comp table pages) is =
        left_good setup setting cores t stands c here a active m stage_is has comp table pages is (drawn_stamp (clock setup t)) drawn
