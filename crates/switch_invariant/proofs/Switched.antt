-- The draw of a stamp by which a core switches: the call is decided, and the core goes on as the thread that it has claimed, with the
-- temporal capability. The references to what it leaves are released at the stamp.
use Rattle.thread_invariant.specs.step_ways.proofs.{IsSome, ◌≡◌, ◌≢◌, ◌⊎◌, inl, inr, ℕ, zero, suc, ◌+ℤ◌, map, length, ◌+◌, ◌*◌, ◌^◌, ◌<◌}
use Rattle.thread_invariant.specs.step_ways.proofs.{◌≤◌, ◌==◌, ◌||◌, Bool, true, false, if◌then◌else◌, List, [], ◌∷◌, Option, Some, None}
use Rattle.thread_invariant.specs.step_ways.proofs.{IsTrue, arith, refl, sym, ◌∙◌, ap, subst, eq-eqb, false≢true, InLimits, Capability}
use Rattle.thread_invariant.specs.step_ways.proofs.{Setting, IsSetting, Reply, ThreadFits, word_of_thread, thread_of_word, Idle, Running}
use Rattle.thread_invariant.specs.step_ways.proofs.{Word, EntryAt, FrameAt, CountAt, CoreAt, FlushAt, LiveAt, ClockAt, same_word, Move}
use Rattle.thread_invariant.specs.step_ways.proofs.{AddOf, same_same, Slot, CompFields, Frame, ThreadFields, Comp, Thread, Kernel, Thing}
use Rattle.thread_invariant.specs.step_ways.proofs.{PlaceOf, FrameOf, NumberOf, Grace, State, first_of_stack, comp_in, comp_of, thread_in}
use Rattle.thread_invariant.specs.step_ways.proofs.{thread_of, put, fits, Found, IsFoundAnd, frames_of, times, refs, MayReply, rule_of}
use Rattle.thread_invariant.specs.step_ways.proofs.{change_of, changed, counted, ends_by, flushes_by, same_thing, new_grace, grace_refs}
use Rattle.thread_invariant.specs.step_ways.proofs.{opened, sum_one, events_of, IsInFootprint, HasReached, marked_by, mark_in_frame}
use Rattle.thread_invariant.specs.step_ways.proofs.{frame_value, thread_value, ends_in, flushes_in, begins_at, ends_at, flushes_at, stamp}
use Rattle.thread_invariant.specs.step_ways.proofs.{clock, flush_of, flush_stored, Step, Trace, Open, WasAt, phase, state_after}
use Rattle.thread_invariant.specs.step_ways.proofs.{state_decided_in, last_left, own_left, way_to, ways, ok_first, was_stays, cases_word}
use Rattle.thread_invariant.specs.step_ways.proofs.{same_word-other, opened_is, stamp-begins, stamp-kept, flush_stored-own}
use Rattle.thread_invariant.specs.step_ways.proofs.{flush_stored-other, LeadsIn, own_pages, leads_by, later, own_changed, Own, Switching}
use Rattle.thread_invariant.specs.step_ways.proofs.{Tail, StoreRunning, Act, own_decided, Stage, Undecided, Decided, ActiveCall, landed}
use Rattle.thread_invariant.specs.step_ways.proofs.{Core, Holding, holds_counts, settled, IsFrameWord, IsThreadWord, WordIs, HasFound}
use Rattle.thread_invariant.specs.step_ways.proofs.{due_of, KnowsUndecided, own_in, WorksIn, holds, holds_in, held_by, times_of, counted_in}
use Rattle.thread_invariant.specs.step_ways.proofs.{SumIs, Invariant, claimed_by, counts_bare, plain_exit, decided-inside, own_kept}
use Rattle.thread_invariant.specs.step_ways.proofs.{exclusive_elsewhere, exclusive_none, ReadsAlike, SameFor, StaysSaid, word_stays}
use Rattle.thread_invariant.specs.step_ways.proofs.{marks_own, carry_marks, holds_switching, begins_in as begins_then, Claimed as ClaimedOf}
use Rattle.thread_invariant.specs.step_ways.proofs.{Switch as switch_act, open_flushed, spares_other, inner, next_at, GoodTook, not_spent}
use Rattle.thread_invariant.specs.step_ways.proofs.{spares_none, same_marks, clock_small, Want, own as own_of_access, does, plan_for, Kind}
use Rattle.thread_invariant.specs.kept_facts.specs.kernel_laws.proofs.{begins_in, edited, begun, IfFound, outcome_from}
use Rattle.thread_invariant.specs.kept_facts.specs.kernel_laws.proofs.{Switch as CallSwitch, Nothing as no_value}
use Rattle.thread_invariant.specs.count_invariant.proofs.{dues_commit, dues_sum, own_is, found_named, way_gone}
use Rattle.thread_invariant.specs.core_invariant.specs.{KeepsTime, flushing_in, is_claimed, KnowsRunning}
use Rattle.std.proofs.{lemmas.Bool.cases_eq, lemmas.List.Elements.All-nil}
use Rattle.thread_invariant.specs.kernel_rules.specs.{Edits.Switch as switch_edit, Laws.released}
use Rattle.thread_invariant.specs.kernel_invariant.proofs.{Refs.RefsBy, Refs.rule_refs, RefsLaw.counted_refs}
use Rattle.thread_invariant.specs.act_states.specs.{Switches.switched, Switches.SwitchAtFits, declared.own.OwnChange.TheVariants.Switches}
use Rattle.thread_invariant.specs.step_ways.proofs.{Draws.raised, OwnChanges.decides_timed}
use Rattle.thread_invariant.proofs.{CompWords.holds_comp, OwnStack.own_thread}
use Rattle.switch_invariant.proofs.Switchings.{switched_to, frame_new, frame_old, frame_away, core_new, core_away, AreApart, takes}
use Rattle.switch_invariant.proofs.Switchings.{releases, all_dues, frames_kept, frames_changed}
use Rattle.switch_invariant.proofs.ThreadWords.{idle_value, none_some, same_value, thread_is}
use Rattle.switch_invariant.proofs.Tops.{apart_own, apart_tcap, is_idle, to_tcap}
use Rattle.{thread_invariant.specs.step_ways.proofs.Value, std.specs.List.list_any}
use Rattle.{thread_invariant.specs.tcap_words.specs.Thread.DepthFits, thread_invariant.specs.kernel_history.proofs.Steps.flush_of-own}
use Rattle.{thread_invariant.specs.kept_facts.proofs.WordFrames.carry_words, thread_invariant.specs.trace_laws.proofs.Carries.open_inside}
use Rattle.{thread_invariant.specs.plan_ways.proofs.Ways.all_ways}
use Rattle.{thread_invariant.specs.act_states.specs.declared.switches.SwitchAt.TheVariants.Draw}
use Rattle.{thread_invariant.specs.core_invariant.specs.Threads.HasRoots}
use Rattle.{thread_invariant.specs.count_invariant.proofs.SwitchCounts.was_here, switch_invariant.proofs.Words.marked_says}
use Rattle.thread_invariant.specs.tcap_words.proofs.ThreadLemmas as words
use Rattle.switch_invariant.proofs.Calls as calls

comp_no_thread : (k : CompFields) (u : ThreadFields) → Kernel (Comp k) ≡ Kernel (Thread u) → ⊥
comp_no_thread k u h = cc

module _ (setup : Setting) (setting : IsSetting setup) (cores : ℕ → Core) (t : Trace) (stands : Invariant setup cores t) (c : ℕ)
    (here : c < setup.cores)
    (a : ActiveCall) (active : (cores c).active ≡ Some a) (m : Switching) (stage_is : a.stage ≡ Undecided (Act (switch_act m)))
    (has : KnowsUndecided setup t c (cores c).own.table a (Act (switch_act m))) (to : ClaimedOf) (table pages : ℕ)
    (is : m.at ≡ Draw to table pages) (now_at : ℕ) (drawn_is : now_at ≡ clock setup t) where
  abbrev s : State
  s = state_after setup t

  abbrev x : ℕ
  x = clock setup t

  abbrev r : Reply
  r = Reply.Ok Value.Nothing

  abbrev move : Move
  move = AddOf ClockAt 1

  abbrev f : ℕ
  f = to.thread

  abbrev old : ℕ
  old = (s.core c).thread

  abbrev p : ℕ
  p = (s.core c).tcap

  abbrev running_word : ℕ
  running_word = word_of_thread (Running m.core to.depth)

  abbrev idle_word : ℕ
  idle_word = word_of_thread (Idle m.old_depth)

  abbrev tail : Tail
  tail = StoreRunning to.thread m.core to.depth m.old m.old_depth

  abbrev stage : Stage
  stage = Decided r (Some now_at) tail

  abbrev own' : Own
  own' = own_decided (own_changed (cores c).own (Switches to.thread to.depth to.comp table pages m.tcap)) r

  abbrev after : Core
  after = record { own = own'; active = Some (next_at a a.found stage) }

  abbrev e : Step
  e = inner setup setting cores t stands c here a active move (Some r) None

  abbrev s' : State
  s' = state_after setup (e ∷ t)

  is_open : phase t c ≡ Open a.call
  is_open = calls.is_open setup setting cores t stands c here a active m stage_is has

  call_so : a.call ≡ CallSwitch
      (calls.is_switch setup setting cores t stands c here a active m stage_is has).name
      (calls.is_switch setup setting cores t stands c here a active m stage_is has).other
  call_so = (calls.is_switch setup setting cores t stands c here a active m stage_is has).call_is

  roots : HasRoots s c to table pages
  roots = calls.known_at setup setting cores t stands c here a active m stage_is has (Draw to table pages) is

  -- the thread is claimed, and so idle
  claimed_is : claimed_by m.at ≡ to.thread
  claimed_is = ap claimed_by is

  fit : IsTrue (fits Kind.Thread (s.frame to.thread))
  fit = subst (λ (g : ℕ). IsTrue (fits Kind.Thread (s.frame g))) claimed_is has.knows.knows.thread.thread

  new_is : s.frame to.thread ≡ Kernel (Thread (thread_in (s.frame to.thread)))
  new_is = thread_is (s.frame to.thread) fit

  old_is : s.frame (s.core c).thread ≡ Kernel (Thread (thread_of s c))
  old_is = own_thread setup setting t stands.legal c here

  runs_none : (thread_in (s.frame to.thread)).runs_on ≡ None
  runs_none = subst (λ (g : ℕ). (thread_in (s.frame g)).runs_on ≡ None) claimed_is
      (is_idle setup setting cores t stands c here a active m stage_is has (ap is_claimed is)).none

  old_same : m.old ≡ (s.core c).thread
  old_same = has.knows.knows.leaves.thread

  apart : to.thread ≢ (s.core c).thread
  apart same = apart_own setup setting cores t stands c here a active m stage_is has (ap is_claimed is) (claimed_is ∙ same ∙ sym old_same)

  all_away : AreApart to.thread (s.core c).thread m.tcap (s.core c).tcap
  all_away =
      let tcap = to_tcap setup setting cores t stands c here a active m stage_is has in
      let own_tcap = subst (λ (g : ℕ). IsTrue (fits Kind.Tcap (s.frame g))) has.knows.knows.leaves.tcap
      (calls.own_tcap setup setting cores t stands c here a active m stage_is has) in
      let own = subst (λ (g : ℕ). IsTrue (fits Kind.Thread (s.frame g))) old_same
      (calls.own_thread setup setting cores t stands c here a active m stage_is has) in
      let away = apart_tcap setup setting cores t stands c here a active m stage_is has in
      record {
        new_old = apart;
        new_to = away to.thread m.tcap fit tcap;
        new_from = away to.thread (s.core c).tcap fit own_tcap;
        old_to = away (s.core c).thread m.tcap own tcap;
        old_from = away (s.core c).thread (s.core c).tcap own own_tcap;
      }

  -- its change
  changes_so : change_of s c a.call ≡ Found (does c s no_value (switch_edit to.thread m.tcap ∷ []))
  changes_so =
      let call = calls.is_switch setup setting cores t stands c here a active m stage_is has in
      calls.by_runs setup setting cores t stands c here a active m stage_is has None
      (ap (λ (g : ℕ). (thread_in (s.frame g)).runs_on) claimed_is ∙ runs_none)
      ∙ ap (λ (g : ℕ). Found (does c s no_value (switch_edit g call.tcap.frame ∷ []))) (sym call.thread_is ∙ claimed_is)
      ∙ ap (λ (g : ℕ). Found (does c s no_value (switch_edit to.thread g ∷ []))) (sym call.tcap_is)

  abbrev same_tcap : Bool
  same_tcap = m.tcap == (s.core c).tcap

  abbrev things : List Thing
  things = frames_of (releases (m.tcap == (s.core c).tcap) (s.core c).thread (s.core c).tcap)

  abbrev graces : Thing → Grace
  graces y = if list_any (same_thing y) things then new_grace s y else s.grace y

  now : s' ≡ switched_to s c to.thread m.tcap graces
  now = ap (λ q. state_decided_in q r s c) is_open ∙ ap (λ y. counted (changed s y) c) changes_so

  new_frame : (g : ℕ) → g ≡ to.thread → s'.frame g ≡ Kernel (Thread (record (thread_in (s.frame to.thread)) { runs_on = Some c }))
  new_frame g same = ap (λ y. y.frame g) now ∙ frame_new s c to.thread m.tcap graces old_is new_is apart g same

  old_frame : (g : ℕ) → g ≡ (s.core c).thread → s'.frame g ≡ Kernel (Thread (record (thread_of s c) { runs_on = None }))
  old_frame g same = ap (λ y. y.frame g) now ∙ frame_old s c to.thread m.tcap graces old_is new_is apart g same

  away_frame : (g : ℕ) → g ≢ to.thread → g ≢ (s.core c).thread → s'.frame g ≡ s.frame g
  away_frame g other another = ap (λ y. y.frame g) now ∙ frame_away s c to.thread m.tcap graces old_is new_is apart g other another

  core_now : s'.core c ≡ record (s.core c) { thread = to.thread; tcap = m.tcap; counted = (s.core c).counted + 1 }
  core_now = ap (λ y. y.core c) now ∙ core_new s c to.thread m.tcap graces old_is new_is apart

  others_now : (d : ℕ) → d ≢ c → s'.core d ≡ s.core d
  others_now d other = ap (λ y. y.core d) now ∙ core_away s c to.thread m.tcap graces old_is new_is apart d other

  limits : s'.limits ≡ s.limits
  limits = ap (λ y. y.limits) now

  -- which of the frames it is
  abbrev Which : ℕ → Type 0
  Which g = (g ≡ to.thread) ⊎ ((g ≡ (s.core c).thread) ⊎ ((g ≢ to.thread) × (g ≢ (s.core c).thread)))

  which : (g : ℕ) → Which g
  which g = elim (cases_eq g to.thread) [
    | inl same ↦ inl same
    | inr other ↦ elim (cases_eq g (s.core c).thread) [
      | inl same ↦ inr (inl same)
      | inr another ↦ inr (inr (other, another))
    ]
  ]

  alike : ReadsAlike setup t e
  alike (EntryAt g i) = by (which g)
    where
      by : Which g → mark_in_frame (s'.frame g) i (last_left setup (e ∷ t) (EntryAt g i))
          ≡ mark_in_frame (s.frame g) i (last_left setup (e ∷ t) (EntryAt g i))
      by (inl same) = ap (λ y. mark_in_frame y i (last_left setup (e ∷ t) (EntryAt g i))) (new_frame g same)
          ∙ sym (ap (λ y. mark_in_frame y i (last_left setup (e ∷ t) (EntryAt g i))) (ap s.frame same ∙ new_is))
      by (inr (inl same)) = ap (λ y. mark_in_frame y i (last_left setup (e ∷ t) (EntryAt g i))) (old_frame g same)
          ∙ sym (ap (λ y. mark_in_frame y i (last_left setup (e ∷ t) (EntryAt g i))) (ap s.frame same ∙ old_is))
      by (inr (inr others)) = ap (λ y. mark_in_frame y i (last_left setup (e ∷ t) (EntryAt g i))) (away_frame g others.0 others.1)
  alike (FrameAt g) = refl
  alike (CountAt g d) = refl
  alike (CoreAt d) = refl
  alike (FlushAt d) = refl
  alike (LiveAt l) = refl
  alike ClockAt = refl

  -- the stamps
  begins : (y : Thing) → begins_at setup t e y ≡ list_any (same_thing y) things
  begins y = ap (λ q. begins_then (Some r) q s c y) is_open ∙ ap (λ z. begins_in z y) changes_so

  none_ends : (y : Thing) → ends_at t e y ≡ false
  none_ends y = ap (λ q. ends_in (Some r) q y) is_open ∙ ap (λ z. ends_by z y) call_so

  no_flush : flushes_at t e ≡ false
  no_flush = ap (flushes_in (Some r)) is_open ∙ ap flushes_by call_so

  stamp_begins : (y : Thing) → list_any (same_thing y) things ≡ true → stamp setup (e ∷ t) y ≡ x
  stamp_begins y at = stamp-begins setup e t y (begins y ∙ at)

  stamp_stays : (y : Thing) → list_any (same_thing y) things ≡ false → stamp setup (e ∷ t) y ≡ stamp setup t y
  stamp_stays y at = stamp-kept setup e t y (begins y ∙ at) (none_ends y)

  no_place : (b : Bool) (g i : ℕ) → list_any (same_thing (PlaceOf g i)) (frames_of (releases b (s.core c).thread (s.core c).tcap)) ≡ false
  no_place true g i = refl
  no_place false g i = refl

  no_number : (b : Bool) (l : ℕ) → list_any (same_thing (NumberOf l)) (frames_of (releases b (s.core c).thread (s.core c).tcap)) ≡ false
  no_number true l = refl
  no_number false l = refl

  stored_same : (d : ℕ) → flush_stored (e ∷ t) d ≡ flush_stored t d
  stored_same d = elim (cases_eq d c) [
    | inl own ↦ flush_stored-own d e t own
    | inr other ↦ flush_stored-other d e t other
  ]

  one_more : (s'.core c).counted ≡ (s.core c).counted + 1
  one_more = ap (λ k. k.counted) core_now

  grows : counted_in setup s + 1 ≤ counted_in setup s'
  grows =
      let sum = sum_one (λ d. (s.core d).counted) (λ d. (s'.core d).counted) setup.cores c here
      (λ d other. ap (λ k. k.counted) (others_now d other)) in
      let more = one_more in
      omega (arith, sum, more)

  -- what it holds
  abbrev rest : Holding
  rest = holds_counts None a.counts

  abbrev done : Holding
  done = holds_counts (Some (Some now_at)) a.counts

  abbrev new_at : Word
  new_at = EntryAt to.thread 0

  abbrev old_at : Word
  old_at = EntryAt m.old 0

  held_is : holds (cores c) ≡ holds_switching m (Draw to table pages) (holds_counts None a.counts)
  held_is = ap holds_in active ∙ calls.held_at setup setting cores t stands c here a active m stage_is has (Draw to table pages) is

  marks_before : (w : Word)
      → (holds (cores c)).marks w ≡ (if same_word w new_at then true else if same_word w old_at then true else rest.marks w)
  marks_before w = ap (λ h. h.marks w) held_is

  still : (w : Word) → (holds after).marks w ≡ (holds (cores c)).marks w
  still w = ap (λ b. if same_word w new_at then true else if same_word w old_at then true else b)
      (same_marks (Some (Some now_at)) None a.counts w)
      ∙ sym (marks_before w)

  none_before : (g i : ℕ) → (holds (cores c)).bare g i ≡ None
  none_before = calls.none_kept setup setting cores t stands c here a active m stage_is has

  none_after : (g i : ℕ) → (holds after).bare g i ≡ None
  none_after = counts_bare (Some (Some now_at)) a.counts

  new_mark : marked_by setup t (EntryAt to.thread 0) ≡ Some c
  new_mark = (stands.marks new_at c).kept (marks_before new_at
      ∙ ap (λ b. if b then true else if same_word new_at old_at then true else rest.marks new_at) (same_same new_at))

  -- the depths
  fits_in_shape : DepthFits to.depth
  fits_in_shape = (subst (SwitchAtFits (cores c).own.layout) is
      (calls.fits_in setup setting cores t stands c here a active m stage_is has).at).0.depth

  old_fits : DepthFits m.old_depth
  old_fits = (calls.fits_in setup setting cores t stands c here a active m stage_is has).old_depth

  core_is : m.core ≡ c
  core_is = has.knows.knows.leaves.core

  small_core : m.core < 8
  small_core = let below : c < setup.cores = here in let most = setting.most_cores in let own = core_is in omega (arith, below, most, own)

  idle_says : thread_of_word (word_of_thread (Idle to.depth)) ≡ Some (thread_value (thread_in (s.frame to.thread)).runs_on
      (length (thread_in (s.frame to.thread)).stack))
  idle_says = ap thread_of_word (sym (ap (λ h. h.stands new_at) held_is
      ∙ ap (λ b. if b then word_of_thread (Idle to.depth) else if same_word new_at old_at then word_of_thread (Running m.core m.old_depth)
      else rest.stands new_at) (same_same new_at)))
      ∙ marked_says setup setting cores t stands to.thread fit 0 c new_mark

  depth_is : length (thread_in (s.frame to.thread)).stack ≡ to.depth
  depth_is = (idle_value (thread_in (s.frame to.thread)).runs_on (length (thread_in (s.frame to.thread)).stack) to.depth
      (same_value _ _ (sym idle_says ∙ words.spelling.reads (Idle to.depth) fits_in_shape))).1

  -- what is said of words that the core does not hold
  said : (w : Word) → SameFor s s' (times_of setup t) (times_of setup (e ∷ t)) w → StaysSaid setup cores t e w
  said w same = word_stays s s' (times_of setup t) (times_of setup (e ∷ t)) w (settled setup (held_by cores) t w) same

  abbrev Says : Frame → ℕ → ℕ → ℕ → Type 0
  Says y g i v = IsFrameWord s'.limits.frames y (s'.place g i) (stamp setup (e ∷ t) (PlaceOf g i)) i v

  abbrev SaysBefore : Frame → ℕ → ℕ → ℕ → Type 0
  SaysBefore y g i v = IsFrameWord s.limits.frames y (s.place g i) (stamp setup t (PlaceOf g i)) i v

  -- a word above the first of a thread shows its stack, which stays
  above : (k : ThreadFields) (o : Option ℕ) (i v : ℕ) → i ≢ 0 → IsThreadWord k i v → IsThreadWord (record k { runs_on = o }) i v
  above k o zero v not says = absurd (not refl)
  above k o (suc h) v not says = says

  thread_word : (k : ThreadFields) (o : Option ℕ) (g i : ℕ)
      → s.frame g ≡ Kernel (Thread k) → s'.frame g ≡ Kernel (Thread (record k { runs_on = o }))
      → i ≢ 0 → StaysSaid setup cores t e (EntryAt g i)
  thread_word k o g i was will not before =
      subst (λ y. Says y g i (settled setup (held_by cores) t (EntryAt g i))) (sym will)
      (above k o i (settled setup (held_by cores) t (EntryAt g i)) not
      (subst (λ y. SaysBefore y g i (settled setup (held_by cores) t (EntryAt g i))) was before))

  old_mark : marked_by setup t (EntryAt m.old 0) ≡ Some c
  old_mark = (stands.marks old_at c).kept (marks_before old_at ∙ by (same_word old_at new_at) (same_word old_at old_at) (same_same old_at))
    where
      by : (b d : Bool) → d ≡ true → (if b then true else if d then true else rest.marks old_at) ≡ true
      by true d same = refl
      by false d same = ap (λ z. if z then true else rest.marks old_at) same

  entry_stays : (g i : ℕ) → marked_by setup t (EntryAt g i) ≢ Some c → Which g → StaysSaid setup cores t e (EntryAt g i)
  entry_stays g i free (inl same) = thread_word (thread_in (s.frame to.thread)) (Some c) g i (ap s.frame same ∙ new_is) (new_frame g same)
      (λ first. free (ap (λ (n : ℕ). marked_by setup t (EntryAt g n)) first
      ∙ ap (λ (n : ℕ). marked_by setup t (EntryAt n 0)) same ∙ new_mark))
  entry_stays g i free (inr (inl same)) = thread_word (thread_of s c) None g i (ap s.frame same ∙ old_is) (old_frame g same)
      (λ first. free (ap (λ (n : ℕ). marked_by setup t (EntryAt g n)) first
      ∙ ap (λ (n : ℕ). marked_by setup t (EntryAt n 0)) (same ∙ sym old_same) ∙ old_mark))
  entry_stays g i free (inr (inr others)) = said (EntryAt g i) (record {
    frames = ap (λ l. l.frames) limits;
    frame = away_frame g others.0 others.1;
    place = ap (λ y. y.place g i) now;
    stamp = stamp_stays (PlaceOf g i) (no_place same_tcap g i);
  })

  frame_stays : (g : ℕ) → Which g → StaysSaid setup cores t e (FrameAt g)
  frame_stays g (inl same) before = before ∙ ap (λ y. Some (frame_value y)) (ap s.frame same ∙ new_is)
      ∙ ap (λ y. Some (frame_value y)) (sym (new_frame g same))
  frame_stays g (inr (inl same)) before = before ∙ ap (λ y. Some (frame_value y)) (ap s.frame same ∙ old_is)
      ∙ ap (λ y. Some (frame_value y)) (sym (old_frame g same))
  frame_stays g (inr (inr others)) before = before ∙ ap (λ y. Some (frame_value y)) (sym (away_frame g others.0 others.1))

  stays : (w : Word) → w ≢ ClockAt → marked_by setup t w ≢ Some c → StaysSaid setup cores t e w
  stays (EntryAt g i) there free = entry_stays g i free (which g)
  stays (FrameAt g) there free = frame_stays g (which g)
  stays (CountAt g d) there free = said (CountAt g d) tt
  stays (CoreAt d) there free = said (CoreAt d) (record {
    inside = decided-inside (Some r) (phase t c) s c d;
    exit = plain_exit t e refl d;
  })
  stays (FlushAt d) there free = said (FlushAt d) (stored_same d)
  stays (LiveAt l) there free =
      said (LiveAt l) (record { number = ap (λ y. y.number l) now; stamp = stamp_stays (NumberOf l) (no_number same_tcap l) })
  stays ClockAt there free = absurd (there refl)

  -- what is said of those that it holds
  new_fits : ThreadFits (Running m.core to.depth)
  new_fits = (small_core, fits_in_shape)

  new_says : WordIs s' (times_of setup (e ∷ t)) (EntryAt to.thread 0) (word_of_thread (Running m.core to.depth))
  new_says = subst (λ y. Says y to.thread 0 running_word) (sym (new_frame to.thread refl))
      (words.spelling.reads (Running m.core to.depth) new_fits ∙ ap (λ (d : ℕ). Some (Running d to.depth)) core_is
      ∙ ap (λ (n : ℕ). Some (Running c n)) (sym depth_is))

  old_says : WordIs s' (times_of setup (e ∷ t)) (EntryAt m.old 0) (word_of_thread (Idle m.old_depth))
  old_says = subst (λ y. Says y m.old 0 idle_word) (sym (old_frame m.old old_same))
      (words.spelling.reads (Idle m.old_depth) old_fits ∙ ap (λ (n : ℕ). Some (Idle n)) has.knows.knows.leaves.depth)

  -- the dues of the counts
  dues_are : all_dues (m.tcap == (s.core c).tcap) to.thread (s.core c).thread m.tcap (s.core c).tcap ≡ map due_of a.counts
  dues_are = ap (λ (g : ℕ). all_dues (m.tcap == g) to.thread (s.core c).thread m.tcap g) (sym has.knows.knows.leaves.tcap)
      ∙ ap (λ (g : ℕ). all_dues (m.tcap == m.old_tcap) to.thread g m.tcap m.old_tcap) (sym old_same)
      ∙ calls.dues_at setup setting cores t stands c here a active m stage_is has (Draw to table pages) is

  drawn_small : later 0 (Some now_at) < 2 ^ 43
  drawn_small = let low = clock_small setup setting cores t stands in let same = drawn_is in omega (arith, low, same)

  -- the references
  balance : (g : ℕ) → refs s' g + times g (releases same_tcap (s.core c).thread (s.core c).tcap)
      ≡ refs s g + times g (takes same_tcap to.thread m.tcap)
  balance g = ap (λ y. refs y g + times g (releases same_tcap (s.core c).thread (s.core c).tcap)) now
      ∙ by same_tcap (by_rule g)
    where
      by_rule : (g : ℕ) → refs (edited c s (switch_edit to.thread m.tcap))
          g + times g (released (does c s no_value (switch_edit to.thread m.tcap ∷ [])).begins)
          ≡ refs s g + times g (does c s no_value (switch_edit to.thread m.tcap ∷ [])).takes
      by_rule = subst (λ z. IfFound z (RefsBy s)) changes_so
          (outcome_from (RefsBy s) s c (rule_of s c a.call)
          (rule_refs s (opened (events_of t)) c
          (record {
            sound = calls.sound setup setting cores t stands c here a active m stage_is has;
            is = opened_is t c a.call is_open;
          }) a.call
          (subst (λ z. InLimits z) (sym call_so) tt)))

      by : (b : Bool) → refs (edited c s (switch_edit to.thread m.tcap)) g + times
          g (released (frames_of (releases b (s.core c).thread (s.core c).tcap)))
          ≡ refs s g + times g (takes b to.thread m.tcap)
          → refs (switched_to s c to.thread m.tcap graces) g + times g (releases b (s.core c).thread (s.core c).tcap)
          ≡ refs s g + times g (takes b to.thread m.tcap)
      by true moved =
          let one = counted_refs (begun s things (edited c s (switch_edit to.thread m.tcap))) c g in
          let two = grace_refs (edited c s (switch_edit to.thread m.tcap)) graces g in
          omega (arith, moved, one, two)
      by false moved =
          let one = counted_refs (begun s things (edited c s (switch_edit to.thread m.tcap))) c g in
          let two = grace_refs (edited c s (switch_edit to.thread m.tcap)) graces g in
          omega (arith, moved, one, two)

  past : (g : ℕ) → stamp setup t (FrameOf g) < x
  past g = (stands.graces (FrameOf g)).past

  no_count : (g d : ℕ) → CountAt g d ≢ ClockAt
  no_count g d h = cc

  counts_before : (g d : ℕ) → ((holds (cores c)).marks (CountAt g d) ≡ (holds_counts None a.counts).marks (CountAt g d))
      × ((holds (cores c)).stands (CountAt g d) ≡ (holds_counts None a.counts).stands (CountAt g d))
  counts_before g d = (ap (λ h. h.marks (CountAt g d)) held_is, ap (λ h. h.stands (CountAt g d)) held_is)

  sums_now : (g : ℕ) → SumIs setup (held_by (put cores c after)) (e ∷ t) g
  sums_now = dues_sum setup setting cores t stands c here a active (Some now_at) drawn_small
      (all_dues (m.tcap == (s.core c).tcap) to.thread (s.core c).thread m.tcap (s.core c).tcap) dues_are move r after still
      counts_before (λ g d. refl) alike refl refl no_count (ap (λ l. l.cores) limits)
      (frames_kept (refs s) (refs s') (λ g. stamp setup t (FrameOf g))
      (λ g. stamp setup (e ∷ t) (FrameOf g)) x now_at to.thread (s.core c).thread
      m.tcap (s.core c).tcap all_away drawn_is past same_tcap refl balance
      (λ g at. stamp_begins (FrameOf g) at) (λ g at. stamp_stays (FrameOf g) at))
      (frames_changed (refs s) (refs s') (λ g. stamp setup t (FrameOf g))
      (λ g. stamp setup (e ∷ t) (FrameOf g)) x now_at to.thread (s.core c).thread
      m.tcap (s.core c).tcap all_away drawn_is past same_tcap refl balance
      (λ g at. stamp_begins (FrameOf g) at) (λ g at. stamp_stays (FrameOf g) at))

  commits : (w : Word) → (holds_counts None a.counts).marks w ≡ true
      → WordIs s' (times_of setup (e ∷ t)) w ((holds_counts (Some (Some now_at)) a.counts).stands w)
  commits = dues_commit setup setting cores t stands c here a active (Some now_at) drawn_small
      (all_dues (m.tcap == (s.core c).tcap) to.thread (s.core c).thread m.tcap (s.core c).tcap) dues_are move r after still
      counts_before (λ g d. refl) alike refl refl no_count

  held_now : (w : Word) → marked_by setup t w ≡ Some c → WordIs s' (times_of setup (e ∷ t)) w ((holds after).stands w)
  held_now w mark = elim (cases_word w new_at) [
    | inl same ↦ subst (λ v. WordIs s' (times_of setup (e ∷ t)) v ((holds after).stands v)) (sym same)
        (subst (WordIs s' (times_of setup (e ∷ t)) new_at)
        (sym (ap (λ b. if b then running_word else if same_word new_at old_at then idle_word else done.stands new_at) (same_same new_at)))
        new_says)
    | inr other ↦ elim (cases_word w old_at) [
      | inl same ↦ subst (λ v. WordIs s' (times_of setup (e ∷ t)) v ((holds after).stands v)) (sym same)
          (subst (WordIs s' (times_of setup (e ∷ t)) old_at)
          (sym (ap (λ b. if b then running_word else if same_word old_at old_at then idle_word else done.stands old_at)
          (same_word-other old_at new_at (λ h. other (same ∙ h)))
          ∙ ap (λ b. if b then idle_word else done.stands old_at) (same_same old_at))) old_says)
      | inr another ↦ subst (WordIs s' (times_of setup (e ∷ t)) w)
          (sym (ap (λ b. if b then running_word else if same_word w old_at then idle_word else done.stands w)
          (same_word-other w new_at other)
          ∙ ap (λ b. if b then idle_word else done.stands w) (same_word-other w old_at another)))
          (commits w (sym (ap (λ b. if b then true else if same_word w old_at then true else rest.marks w) (same_word-other w new_at other)
          ∙ ap (λ b. if b then true else rest.marks w) (same_word-other w old_at another)) ∙ sym (marks_before w)
          ∙ (stands.marks w c).owned mark))
    ]
  ]

  -- the core works on the thread, in the component at its top
  whose : thread_of s' c ≡ record (thread_in (s.frame to.thread)) { runs_on = Some c }
  whose = ap (λ k. thread_in (s'.frame k.thread)) core_now ∙ ap thread_in (new_frame to.thread refl)

  not_new : to.comp ≢ to.thread
  not_new same = comp_no_thread (comp_in (s.frame to.comp)) (thread_in (s.frame to.thread))
      (sym (holds_comp setup setting cores t stands to.comp roots.has_table.top.comp.comp) ∙ ap s.frame same ∙ new_is)

  not_old : to.comp ≢ (s.core c).thread
  not_old same = comp_no_thread (comp_in (s.frame to.comp)) (thread_of s c)
      (sym (holds_comp setup setting cores t stands to.comp roots.has_table.top.comp.comp) ∙ ap s.frame same ∙ old_is)

  comp_now : comp_of s' c ≡ comp_in (s.frame to.comp)
  comp_now = ap (λ u. comp_in (s'.frame (first_of_stack u.stack))) whose
      ∙ ap (λ (g : ℕ). comp_in (s'.frame g)) roots.has_table.top.top
      ∙ ap comp_in (away_frame to.comp not_new not_old)

  works : WorksIn own' s' c
  works =
      let was_in = (stands.each c here).works in
      record {
        thread = ap (λ k. k.thread) (sym core_now);
        depth = sym depth_is ∙ ap (λ u. length u.stack) (sym whose);
        comp = sym roots.has_table.top.top ∙ ap (λ u. first_of_stack u.stack) (sym whose);
        table = sym roots.has_table.table ∙ ap (λ k. k.table) (sym comp_now);
        pages = sym roots.pages ∙ ap (λ k. k.pages) (sym comp_now);
        tcap = ap (λ k. k.tcap) (sym core_now);
        cached = was_in.cached ∙ ap (λ k. k.cached) (sym core_now);
        owed = was_in.owed ∙ ap (λ k. k.owed) (sym core_now);
        spent = was_in.spent ∙ ap (λ k. k.spent) (sym core_now);
        back = was_in.back ∙ ap (λ k. k.back) (sym core_now);
        grant = was_in.grant ∙ ap (λ k. k.grant) (sym core_now);
        made = (let own = was_in.made in let more = one_more in omega (arith, own, more));
      }

  clock_now : clock setup (e ∷ t) ≡ clock setup t + 1
  clock_now = raised setup setting cores t stands c here a active r stage ((cores c).own.made + 1)

  time : KeepsTime setup t e
  time = record {
    rises = (let b = clock_now in omega (arith, b));
    draws = λ y at. (refl, (let b = clock_now in omega (arith, b)));
    flushes = λ at. absurd (false≢true (sym no_flush ∙ at));
  }

  permitted : MayReply s c a.call r
  permitted = (
    not_spent setup (cores c) t c (stands.each c here) (calls.room setup setting cores t stands c here a active m stage_is has),
    (has.acts, subst (λ y. IsFoundAnd y (λ z. z.value ≡ Value.Nothing)) (sym changes_so) refl),
  )

  -- the places of its names are gone
  gone : HasReached (e ∷ t) c (ways s c (rule_of s c a.call))
  gone = all_ways s c (own_pages s c) (e ∷ t) (plan_for a.call) (rule_of s c a.call) a.found
      (calls.by_plan setup setting cores t stands c here a active m stage_is has)
      (leads_by (λ n wanted k. HasFound setup t c (own_in (cores c).own.table n) wanted k)
      (λ n wanted k. LeadsIn s c n wanted k × HasReached (e ∷ t) c (way_to s c (own_of_access s c n)))
      own_gone (plan_for a.call).names [] a.found has.names)
      (subst (λ y. HasReached (e ∷ t) c (ways s c y))
      (sym (calls.left setup setting cores t stands c here a active m stage_is has
      ∙ ap (λ o. calls.left_rule setup setting cores t stands c here a active m stage_is has o)
      (ap (λ (g : ℕ). (thread_in (s.frame g)).runs_on) claimed_is ∙ runs_none)))
      (All-nil (λ (y : Slot). IsSome (own_left (e ∷ t) c (EntryAt y.node y.index)))))
    where
      own_gone : (n : ℕ) (wanted : Want) (k : Capability) → HasFound setup t c (own_in (cores c).own.table n) wanted k
          → LeadsIn s c n wanted k × HasReached (e ∷ t) c (way_to s c (own_of_access s c n))
      own_gone n wanted k had = (
        found_named setup t c (cores c).own.table n wanted k (stands.each c here).works.table had,
        subst (λ y. HasReached (e ∷ t) c (way_to s c y)) (own_is s c (cores c).own.table n (stands.each c here).works.table)
            (way_gone setup t (e ∷ t) c (own_in (cores c).own.table n) had.at had.way.reached
            (λ b d h. own_kept t e c refl refl _ (had.way.stepped b d h))),
      )

  -- what is still to be stored
  footprint_at : (g : ℕ) → IsInFootprint c a.call (EntryAt g 0) s → WasAt (IsInFootprint c a.call (EntryAt g 0)) setup (e ∷ t) c
  footprint_at g footprint = was_stays (IsInFootprint c a.call (EntryAt g 0)) setup t e c (λ own. refl)
      (was_here (IsInFootprint c a.call (EntryAt g 0)) setup t c a.call is_open footprint)

  known : KnowsRunning setup (e ∷ t) c a.call to.thread m.core m.old
  known = record {
    core = core_is;
    own = ap (λ k. k.thread) (sym core_now);
    footprint = footprint_at to.thread (subst (λ (g : ℕ). IsInFootprint c a.call (EntryAt g 0) s) claimed_is
        (calls.footprint setup setting cores t stands c here a active m stage_is has));
    apart = λ same. apart (same ∙ old_same);
    rest = record {
      threads = calls.threads_change setup setting cores t stands c here a active m stage_is has;
      footprint = footprint_at m.old (calls.footprint_own setup setting cores t stands c here a active m stage_is has);
      thread = record {
        thread = subst (λ y. IsTrue (fits Kind.Thread y)) (sym (old_frame m.old old_same)) refl;
        guarded = inr waits;
      };
    };
  }
    where
      released_it : (b : Bool)
          → list_any (same_thing (FrameOf (s.core c).thread)) (frames_of (releases b (s.core c).thread (s.core c).tcap)) ≡ true
      released_it true = ap (λ b. b || false) (eq-eqb old old refl)
      released_it false = ap (λ b. b || (old == p || false)) (eq-eqb old old refl)

      waits : IsTrue ((s'.grace (FrameOf m.old)).waits c)
      waits = subst (λ (g : ℕ). IsTrue ((s'.grace (FrameOf g)).waits c)) (sym old_same)
          (subst (λ y. IsTrue ((y.grace (FrameOf (s.core c).thread)).waits c)) (sym now)
          (subst (λ b. IsTrue ((if b then new_grace s (FrameOf (s.core c).thread) else s.grace (FrameOf (s.core c).thread)).waits c))
          (sym (released_it same_tcap)) in_call))
        where
          in_call : IsTrue ((new_grace s (FrameOf (s.core c).thread)).waits c)
          in_call = open_inside setup t c a.call is_open

  pub switched_good : GoodTook setup cores t c move (landed a (switched m to table pages now_at))
  switched_good lands =
      let marks = carry_marks setup cores t e after still alike refl refl stands.marks in
      let low = clock_small setup setting cores t stands in
      decides_timed setup setting cores t stands c here a active move r own' stage
      (record { core = refl; layout = refl; limit = refl; epochs = refl; exit = refl })
      (subst (λ (n : ℕ). n < 2 ^ 64) (sym clock_now) (omega (arith, low)))
      (record { moves = (calls.raises setup setting cores t stands c here a active m stage_is has, refl); footprint = inl tt }) lands
      (calls.opens setup setting cores t stands c here a active m stage_is has) refl
      (marks_own setup cores t e after (λ w there. still w) stands.marks marks)
      (λ d mark other. absurd (none_some d mark))
      time
      (let d = stands.draws in let b = clock_now in let more = grows in omega (arith, d, b, more))
      (λ finished. flush_stored-own c e t refl
      ∙ (stands.each c here).flushed (ap flushing_in active ∙ open_flushed a.call a.stage
      (calls.opens setup setting cores t stands c here a active m stage_is has)) ∙ sym
      (flush_of-own c e t refl ∙ ap (λ b. if b then clock setup t else flush_of t c) no_flush))
      (spares_other setup t e (λ g i h. no_entry g i h)) (inr (spares_none setup t e (λ g. none_ends (FrameOf g))))
      works marks
      (carry_words setup cores t e after still alike refl refl (λ g i. none_after g i ∙ sym (none_before g i)) (λ y. refl) stays tt held_now
      stands.words)
      (exclusive_none setup (e ∷ t) c after none_after)
      (exclusive_elsewhere cores e (λ g i h. no_entry g i h))
      sums_now
      (record { call = a.call; is_open = is_open; permitted = permitted; justified = gone })
      (λ is_alone. ok_first s c a.call Value.Nothing permitted)
      known
    where
      no_entry : (g i : ℕ) → ClockAt ≢ EntryAt g i
      no_entry g i h = cc
