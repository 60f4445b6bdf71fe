-- The decision of a call that makes an object: the compare of its target, where it is won, makes the frame that object, and puts its
-- capability there.
use Rattle.place_invariant.specs.step_ways.proofs.{Want, counts_bare, may_keep, not_exclusive_value, not_exclusive_word, All, ◌≡◌, List}
use Rattle.place_invariant.specs.step_ways.proofs.{Bool, true, false, Some, None, refl, ℕ, ◌<◌, ◌^◌, ◌==◌, arith, ◌≢◌, ◌+◌, sym, ◌&&◌, []}
use Rattle.place_invariant.specs.step_ways.proofs.{◌∷◌, ap, ◌∙◌, subst, ◌≤◌, IsTrue, ◌⊎◌, inl, inr, max, map, ◌+ℤ◌, ne_eqb, eqb-true}
use Rattle.place_invariant.specs.step_ways.proofs.{false≢true, Capability, Setting, IsSetting, left_if, Kind, entry_of_word, EntryFits}
use Rattle.place_invariant.specs.step_ways.proofs.{word_of_entry, Held, frame_of_word, word_of_frame, same_same, left_of, word_of, Move}
use Rattle.place_invariant.specs.step_ways.proofs.{CompareOf, told_of, EntryAt, Word, same_word, ClockAt, FrameAt, CountAt, CoreAt, FlushAt}
use Rattle.place_invariant.specs.step_ways.proofs.{LiveAt, IsSound, opened, put_same, put_other, events_of, Slot, own, rule_of, change_of}
use Rattle.place_invariant.specs.step_ways.proofs.{changed, counted, MayReply, ends_by, flushes_by, is_blank, calls_counted, refs}
use Rattle.place_invariant.specs.step_ways.proofs.{place_names, times, is_node, Found, IsFoundAnd, Blank, Kernel, State, put, comp_of}
use Rattle.place_invariant.specs.step_ways.proofs.{thread_in, thread_of, first_of_stack, Object, FrameOf, with_frame, Thing, NumberOf}
use Rattle.place_invariant.specs.step_ways.proofs.{comp_in, Holds, PlaceOf, with_place, ok_first, decided-inside, cases_word}
use Rattle.place_invariant.specs.step_ways.proofs.{same_word-other, sound_of, last_left-there, stamp-kept, HasReached, marked_by}
use Rattle.place_invariant.specs.step_ways.proofs.{frame_mark, mark_of, entry_mark, mark_in_frame, frame_value, stamp, ends_in, flushes_in}
use Rattle.place_invariant.specs.step_ways.proofs.{Trace, Open, phase, state_after, Step, last_left, state_decided_in, way_to, ways}
use Rattle.place_invariant.specs.step_ways.proofs.{leads_by, LeadsIn, own_pages, CapNames, object_dues, Due, Making, MakingAt, Mark, Store}
use Rattle.place_invariant.specs.step_ways.proofs.{Unmark, Act, landed, Core, ActiveCall, Stage, Undecided, Decided, calm_counted}
use Rattle.place_invariant.specs.step_ways.proofs.{plain_exit, counted_rises, counts, own_kept, counted_refs, limits_of, ReadsAlike}
use Rattle.place_invariant.specs.step_ways.proofs.{StaysSaid, word_stays, SameFor, holds_counts, settled_by, settled, keeps, AreDuesApart}
use Rattle.place_invariant.specs.step_ways.proofs.{HasFound, own_in, phase_at, due_of, KnowsUndecided, KnowsUnmark, WorksIn, MayFill}
use Rattle.place_invariant.specs.step_ways.proofs.{holds_at, holds_in, Invariant, holds, held_by, holds_making, times_of, SumIs, counted_in}
use Rattle.place_invariant.specs.step_ways.proofs.{PlaceIs, IsFrameWord, WordIs, later, stamp_of_change, if◌then◌else◌, pos}
use Rattle.place_invariant.specs.step_ways.proofs.{fits as fits_kind, begins_in as begins_then, Load as making_load, spares_node, next_at}
use Rattle.place_invariant.specs.step_ways.proofs.{IsOfCall, core_in_call, inner, call_is, IsMarked, place_reads, IsUnmarked, node_mark}
use Rattle.place_invariant.specs.step_ways.proofs.{GoodTook, not_spent, same_marks, decides_writing, plan_for, Reply}
use Rattle.place_invariant.specs.act_states.specs.{begins_in, made_dues, object_kind, Nothing, published, took_making_at, object_names}
use Rattle.place_invariant.specs.act_states.specs.{last_word, MakingFits, made, making_at}
use Rattle.place_invariant.specs.count_invariant.proofs.{found_named, own_is, way_gone, dues_commit, dues_sum}
use Rattle.place_invariant.specs.core_invariant.specs.{KnowsMakingAt, Make as make_act, KnowsMaking, HasStored}
use Rattle.place_invariant.specs.found_stays.proofs.{slot_is, place_here, place_there, comp_fit}
use Rattle.place_invariant.specs.kept_facts.proofs.{node_keeps_none, BeginsNone, same_works}
use Rattle.std.proofs.lemmas.List.Elements.{All-nil, All-cons, All-head, All-tail}
use Rattle.place_invariant.specs.act_states.specs.{Taking.took_making, Objects.object_cap, Objects.one_more as due_one, Makings.making_move}
use Rattle.place_invariant.specs.kept_facts.proofs.{Calm.none_flush, CountSums.times_here, CountSums.times_there}
use Rattle.place_invariant.specs.count_invariant.proofs.MakingCounts.{made_changes, made_types, made_argument}
use Rattle.place_invariant.proofs.{Fills.node_word, ObjectMakes.new_object, ObjectMakes.ready_place, ObjectMakes.readied, ObjectMakes.makes}
use Rattle.frame_invariant.proofs.NewObjects.{made_value, made_fits, made_cap, made_caps, cap_names, made_ends, SaysNew, says_new, bare_new}
use Rattle.frame_invariant.proofs.NewObjects.{PlaceReady, place_ready, ready_there, word_new, new_refs}
use Rattle.frame_invariant.proofs.Makes.{load_good, mark_good, store_good, put_lost, put_of_call}
use Rattle.{place_invariant.proofs.vacant_slot, place_invariant.proofs.vacant_here, std.proofs.lemmas.Bool.cases_eq}
use Rattle.{place_invariant.specs.kernel_invariant.proofs.Refs.place_refs, place_invariant.specs.kernel_rules.specs.Edits.is_place_of}
use Rattle.{place_invariant.specs.call_plans.proofs.AfterNames.before, place_invariant.specs.plan_ways.proofs.Ways.all_ways}
use Rattle.{place_invariant.specs.act_states.specs.declared.makings.MakingAt.TheVariants.Fill as making_fill}
use Rattle.{place_invariant.proofs.ObjectMakes.made_is, place_invariant.proofs.Vacancy.IsVacant, frame_invariant.proofs.Beyond.free_beyond}
use Rattle.{frame_invariant.proofs.MakeCalls.IsObjectCall}
use Rattle.place_invariant.specs.entry_words.proofs.Spelling as entries
use Rattle.place_invariant.specs.frame_words.proofs.FrameLemmas as frames
use Rattle.place_invariant.specs.kernel_invariant.proofs.Sums as sums
use Rattle.frame_invariant.proofs.MakeCalls as calls

-- Each frame of a list without repetition occurs once, and no other does.
named_not : (f : ℕ) (fs : List ℕ) → All (λ d. f ≢ d.frame) (map due_one fs) → times f fs ≡ 0
named_not f [] apart = refl
named_not f (g ∷ fs) apart =
    times_there f g fs (λ h. All-head (λ d. f ≢ d.frame) (due_one g) (map due_one fs) apart (sym h))
    ∙ named_not f fs (All-tail (λ d. f ≢ d.frame) (due_one g) (map due_one fs) apart)

others_each : (P : ℕ → Type 0) (g : ℕ) (fs : List ℕ) → All (λ d. g ≢ d.frame) (map due_one fs)
    → All (λ d. (d.frame ≢ g) → P d.frame) (map due_one fs) → All (λ d. P d.frame) (map due_one fs)
others_each P g [] others rest = All-nil (λ d. P d.frame)
others_each P g (f ∷ fs) others rest =
    All-cons (λ d. P d.frame) (due_one f) (map due_one fs)
    (All-head (λ d. (d.frame ≢ g) → P d.frame) (due_one f) (map due_one fs) rest
    (λ h. All-head (λ d. g ≢ d.frame) (due_one f) (map due_one fs) others (sym h)))
    (others_each P g fs (All-tail (λ d. g ≢ d.frame) (due_one f) (map due_one fs) others)
    (All-tail (λ d. (d.frame ≢ g) → P d.frame) (due_one f) (map due_one fs) rest))

named_once : (P : ℕ → Type 0) (fs : List ℕ) → AreDuesApart (map due_one fs) → ((f : ℕ) → times f fs ≡ 1 → P f)
    → All (λ d. P d.frame) (map due_one fs)
named_once P [] apart each = All-nil (λ d. P d.frame)
named_once P (g ∷ fs) apart each =
    All-cons (λ d. P d.frame) (due_one g) (map due_one fs)
    (each g (let here = times_here g g fs refl in let none = named_not g fs apart.0 in omega (arith, here, none)))
    (others_each P g fs apart.0 (named_once (λ f. (f ≢ g) → P f) fs apart.1
    (λ f once other. each f (times_there f g fs (λ h. other (sym h)) ∙ once))))

change_is_one : (P : Due → Type 0) (fs : List ℕ) → All (λ d. P (due_one d.frame)) (map due_one fs) → All P (map due_one fs)
change_is_one P [] all = All-nil P
change_is_one P (f ∷ fs) all = All-cons P (due_one f) (map due_one fs)
    (All-head (λ d. P (due_one d.frame)) (due_one f) (map due_one fs) all)
    (change_is_one P fs (All-tail (λ d. P (due_one d.frame)) (due_one f) (map due_one fs) all))

module _ (setup : Setting) (setting : IsSetting setup) (cores : ℕ → Core) (t : Trace) (stands : Invariant setup cores t) (c : ℕ)
    (here : c < setup.cores)
    (a : ActiveCall) (active : (cores c).active ≡ Some a) (m : Making) (stage_is : a.stage ≡ Undecided (Act (make_act m)))
    (has : KnowsUndecided setup t c (cores c).own.table a (Act (make_act m))) (word : ℕ) (at_is : m.at ≡ making_fill word) where
  abbrev s : State
  s = state_after setup t

  abbrev f : ℕ
  f = m.frame

  abbrev node : ℕ
  node = m.fill.node

  abbrev index : ℕ
  index = m.fill.entry

  abbrev k : Capability
  k = m.fill.cap

  abbrev knows : KnowsMaking setup t c a.call (plan_for a.call) a.found setup.cores m
  knows = has.knows.knows

  abbrev was : ℕ
  was = last_left setup t (EntryAt node index)

  abbrev new : ℕ
  new = word_of_entry (Held k)

  abbrev put_it : Move
  put_it = CompareOf (EntryAt node index) m.fill.word new

  abbrev slot : Slot
  slot = record { node = node; index = index }

  abbrev made_word : ℕ
  made_word = word_of_frame (made m.object)

  abbrev object : Object
  object = new_object m.object

  held : holds_in (Some a) ≡ keeps (FrameAt f) word (holds_counts None a.counts)
  held = ap (λ stage. holds_at stage a.counts) stage_is ∙ ap (λ x. holds_making f x (holds_counts None a.counts)) at_is

  stored : HasStored setup t f m.object word (last_word m.object + 1)
  stored = subst (KnowsMakingAt setup t c f m.object) at_is knows.at

  dues_are : object_dues m.object f ≡ map due_of a.counts
  dues_are = ap (made_dues m.object f) (sym at_is) ∙ has.knows.all

  opens : phase_at a.call a.stage ≡ Open a.call
  opens = ap (phase_at a.call) stage_is

  is_open : phase t c ≡ Open a.call
  is_open = (call_is setup setting cores t stands c here a active).phase ∙ opens

  blank : s.frame f ≡ Kernel Blank
  blank = calls.blank setup setting cores t stands c here a active m stage_is has word held stored.says

  own_mark : marked_by setup t (FrameAt f) ≡ Some c
  own_mark = calls.own_mark setup setting cores t stands c here a active m stage_is has word held stored.says

  apart : f ≢ node
  apart = calls.apart setup setting cores t stands c here a active m stage_is has word held stored.says

  no_mark : (i : ℕ) → marked_by setup t (EntryAt f i) ≡ None
  no_mark = calls.no_mark setup setting cores t stands c here a active m stage_is has word held stored.says

  below : f < s.limits.frames
  below = calls.below setup setting cores t stands c here a active m stage_is has

  in_node : IsTrue (is_node (s.frame node))
  in_node = calls.in_node setup setting cores t stands c here a active m stage_is has

  small_index : index < 64
  small_index = (calls.fits_in setup setting cores t stands c here a active m stage_is has).fill.entry

  of_call : IsOfCall setup t c a.call put_it
  of_call = put_of_call setup setting cores t stands c here a active m stage_is has word at_is

  fits_in : MakingFits (cores c).own.layout m
  fits_in = calls.fits_in setup setting cores t stands c here a active m stage_is has

  few_frames : s.limits.frames ≤ 512
  few_frames =
      let most = setting.most_frames in let limit : s.limits.frames ≡ setup.frames = ap (λ l. l.frames) (limits_of setup t) in
      omega (arith, most, limit)

  -- every word of the frame says what the object is
  word_says : (i : ℕ) → SaysNew m.object i (last_left setup t (EntryAt f i))
  word_says i = says_new m.object i (last_left setup t (EntryAt f i)) fits_in.object.pair
      (calls.small_names setup setting cores t stands c here a active m stage_is has)
      (λ low. stored.stored i (omega (arith, low))) (λ past. free_beyond setup setting i past t stands.legal f)

  fits : EntryFits (Held k)
  fits = subst (λ x. EntryFits (Held x)) (sym knows.cap) (made_cap m.object f
      (let few = few_frames in let low = below in omega (arith, few, low)))

  new_says : entry_of_word new ≡ Some (Held k)
  new_says = entries.spelling.reads (Held k) fits

  module _ (equal : (was == m.fill.word) ≡ true) where
    abbrev e : Step
    e = inner setup setting cores t stands c here a active put_it (Some (Reply.Ok Nothing)) None

    abbrev s' : State
    s' = state_after setup (e ∷ t)

    abbrev stage : Stage
    stage = Decided (Reply.Ok Nothing) None (Unmark f made_word)

    abbrev count : ℕ
    count = (cores c).own.made + calls_counted (Reply.Ok Nothing)

    abbrev after : Core
    after = core_in_call (cores c) count (next_at a a.found stage)

    abbrev framed : State
    framed = with_frame (readied m.object s f) f (Kernel object)

    abbrev filled : State
    filled = with_place framed node index (Holds (object_cap m.object f))

    leaves_it : left_of put_it was ≡ new
    leaves_it = ap (λ b. left_if b was new) equal

    same : was ≡ m.fill.word
    same = eqb-true was m.fill.word equal

    unmarked : IsUnmarked setup t node index
    unmarked = by_read (place_reads setup cores t stands node index in_node small_index)
      where
        may : MayFill setup t c (PlaceOf node index) setup.cores (entry_of_word was)
        may = subst (MayFill setup t c (PlaceOf node index) setup.cores) (sym (ap entry_of_word same)) knows.spot.vacant

        by_read : IsMarked setup t node index ⊎ IsUnmarked setup t node index → IsUnmarked setup t node index
        by_read (inl m) = absurd (subst (MayFill setup t c (PlaceOf node index) setup.cores) m.says may)
        by_read (inr p) = p

    empty : IsVacant s c node index
    empty = vacant_here setup setting cores t stands c here a active opens has.names node index m.fill.word knows.spot small_index
        (calls.leaf setup setting cores t stands c here a active m stage_is has) same

    change_is : change_of s c a.call ≡ Found (makes (readied m.object s f) f object (object_kind m.object) slot)
    change_is = calls.by_blank setup setting cores t stands c here a active m stage_is has
        (vacant_slot s c (calls.target setup setting cores t stands c here a active m stage_is has) slot
        (calls.reached_is setup setting cores t stands c here a active m stage_is has) empty.vacant) true (ap is_blank blank)
        ∙ ap Found (made_is c s m.object f slot)

    now : s' ≡ counted filled c
    now = ap (λ p. state_decided_in p (Reply.Ok Nothing) s c) is_open ∙ ap (λ x. counted (changed s x) c) change_is

    limits : s'.limits ≡ s.limits
    limits = ap (λ x. x.limits) now

    -- what the frames are
    frame_here : (g : ℕ) → g ≡ f → s'.frame g ≡ Kernel object
    frame_here g same = ap (λ x. x.frame g) now ∙ put_same s.frame f (Kernel object) g same

    frame_there : (g : ℕ) → g ≢ f → s'.frame g ≡ s.frame g
    frame_there g other = ap (λ x. x.frame g) now ∙ put_other s.frame f (Kernel object) g other

    was_blank : (g : ℕ) → g ≡ f → s.frame g ≡ Kernel Blank
    was_blank g same = ap s.frame same ∙ blank

    -- a frame with an object is another one
    object_kept : (g : ℕ) (j : Kind) → IsTrue (fits_kind j (s.frame g)) → fits_kind j (Kernel Blank) ≡ false → s'.frame g ≡ s.frame g
    object_kept g j fit none = frame_there g (λ same. false≢true (sym none ∙ sym (ap (fits_kind j) (was_blank g same)) ∙ fit))

    -- what the places are
    place_target : s'.place node index ≡ Holds (object_cap m.object f)
    place_target = ap (λ x. x.place node index) now ∙ place_here framed node index (Holds (object_cap m.object f)) node index refl refl

    away : (g i : ℕ) → EntryAt g i ≢ EntryAt node index → (g == node && i == index) ≡ false
    away g i other = by (g == node && i == index) refl
      where
        by : (b : Bool) → (g == node && i == index) ≡ b → (g == node && i == index) ≡ false
        by true is = let at = slot_is g node i index is in
            absurd (other (ap (λ (x : ℕ). EntryAt x i) at.0 ∙ ap (λ (x : ℕ). EntryAt node x) at.1))
        by false is = is

    place_away : (g i : ℕ) → EntryAt g i ≢ EntryAt node index → s'.place g i ≡ ready_place m.object s f g i
    place_away g i other = ap (λ x. x.place g i) now
        ∙ place_there framed node index (Holds (object_cap m.object f)) g i (away g i other)

    place_made : (g i : ℕ) → g ≡ f → PlaceReady m.object (s'.place g i)
    place_made g i same = subst (PlaceReady m.object) (sym (place_away g i (λ h. apart (sym same ∙ same_node g i node index h))))
        (place_ready m.object s f g i same)
      where
        same_node : (g i h j : ℕ) → EntryAt g i ≡ EntryAt h j → g ≡ h
        same_node g i h j is = cc

    place_kept : (g i : ℕ) → g ≢ f → EntryAt g i ≢ EntryAt node index → s'.place g i ≡ s.place g i
    place_kept g i other there = place_away g i there ∙ ready_there m.object s f g i other

    -- its times
    begins_none : BeginsNone setup t e
    begins_none = record {
      begins = λ x. ap (λ p. begins_then (Some (Reply.Ok Nothing)) p s c x) is_open ∙ ap (λ y. begins_in y x) change_is;
      flushes = ap (flushes_in (Some (Reply.Ok Nothing))) is_open
          ∙ ap flushes_by (calls.is setup setting cores t stands c here a active m stage_is has).call_is;
      apart = λ d. refl;
      same = refl;
    }

    stamp_kept : (x : Thing) → is_place_of f x ≡ false → stamp setup (e ∷ t) x ≡ stamp setup t x
    stamp_kept x other = stamp-kept setup e t x (begins_none.begins x) (ap (λ p. ends_in (Some (Reply.Ok Nothing)) p x) is_open
        ∙ ap (λ y. ends_by y x) call.call_is ∙ made_ends call.what call.name f call.root call.slot x other)
      where
        call : IsObjectCall a.call a.found m
        call = calls.is setup setting cores t stands c here a active m stage_is has

    -- the calls that were counted
    one_more : (s'.core c).counted ≡ (s.core c).counted + 1
    one_more = ap (λ y. (y.core c).counted) now ∙ ap (λ j. j.counted)
        (put_same s.core c (record (s.core c) { counted = (s.core c).counted + 1 }) c refl)

    count_is : count ≡ (s'.core c).counted
    count_is = let own = (stands.each c here).works.made in let more = one_more in omega arith

    own_stays : s'.core c ≡ counts (s.core c) (s'.core c).inside (s'.core c).counted
    own_stays = subst (λ y. y.core c ≡ counts (s.core c) (y.core c).inside (y.core c).counted) (sym now) (calm_counted s c).own

    core_below : c < s.limits.cores
    core_below = subst (λ (n : ℕ). c < n) (sym (ap (λ l. l.cores) (limits_of setup t))) here

    sound : IsSound s (opened (events_of t))
    sound = sound_of setup setting t stands.legal

    works : WorksIn (record (cores c).own { made = count }) s' c
    works = same_works s s' c (cores c).own (record (cores c).own { made = count })
        (ap thread_in (object_kept (s.core c).thread Kind.Thread (sound.cores c core_below).0 refl))
        (ap comp_in (object_kept (first_of_stack (thread_of s c).stack) Kind.Comp
        (comp_fit s (opened (events_of t)) c sound core_below) refl))
        own_stays
        (ap (λ (m : ℕ). record (cores c).own { made = m }) count_is) (stands.each c here).works

    rises : counted_in setup s ≤ counted_in setup s'
    rises = subst (λ y. counted_in setup s ≤ counted_in setup y) (sym now) (counted_rises setup s (counted s c) c (calm_counted s c))

    -- each word reads as before
    kept_left : (g i : ℕ) → g ≡ f → last_left setup (e ∷ t) (EntryAt g i) ≡ last_left setup t (EntryAt f i)
    kept_left g i same = last_left-there setup (EntryAt g i) e t (λ h. apart (sym same ∙ same_node g i node index h))
        ∙ ap (λ (h : ℕ). last_left setup t (EntryAt h i)) same
      where
        same_node : (g i h j : ℕ) → EntryAt g i ≡ EntryAt h j → g ≡ h
        same_node g i h j is = cc

    alike : ReadsAlike setup t e
    alike (EntryAt g i) = elim (cases_eq g f) [
      | inl same ↦ ap (λ x. mark_in_frame x i (last_left setup (e ∷ t) (EntryAt g i))) (frame_here g same)
          ∙ ap (mark_in_frame (Kernel object) i) (kept_left g i same)
          ∙ bare_new m.object i (last_left setup t (EntryAt f i)) (word_says i)
          ∙ ap (λ x. mark_in_frame x i (last_left setup (e ∷ t) (EntryAt g i))) (sym (was_blank g same))
      | inr other ↦ ap (λ x. mark_in_frame x i (last_left setup (e ∷ t) (EntryAt g i))) (frame_there g other)
    ]
    alike (FrameAt g) = refl
    alike (CountAt g d) = refl
    alike (CoreAt d) = refl
    alike (FlushAt d) = refl
    alike (LiveAt l) = refl
    alike ClockAt = refl

    -- what is said of each other word stays
    said : (w : Word) → SameFor s s' (times_of setup t) (times_of setup (e ∷ t)) w → StaysSaid setup cores t e w
    said w same = word_stays s s' (times_of setup t) (times_of setup (e ∷ t)) w (settled setup (held_by cores) t w) same

    -- a word of the frame says what the object is
    made_says : (g i : ℕ) → g ≡ f → StaysSaid setup cores t e (EntryAt g i)
    made_says g i same before =
        subst (λ x. IsFrameWord s'.limits.frames x (s'.place g i) (stamp setup (e ∷ t) (PlaceOf g i)) i
        (settled setup (held_by cores) t (EntryAt g i))) (sym (frame_here g same))
        (word_new m.object s'.limits.frames (s'.place g i) (stamp setup (e ∷ t) (PlaceOf g i)) i
        (settled setup (held_by cores) t (EntryAt g i)) (place_made g i same) (subst (SaysNew m.object i) (sym settled_is) (word_says i)))
      where
        settled_is : settled setup (held_by cores) t (EntryAt g i) ≡ last_left setup t (EntryAt f i)
        settled_is = ap (λ (h : ℕ). settled setup (held_by cores) t (EntryAt h i)) same
            ∙ ap (λ o. settled_by o (held_by cores) (EntryAt f i) (last_left setup t (EntryAt f i))) (no_mark i)
            ∙ not_exclusive_value setup cores t stands f (ap may_keep blank) i (last_left setup t (EntryAt f i))

    stays : (w : Word) → w ≢ EntryAt node index → marked_by setup t w ≢ Some c → StaysSaid setup cores t e w
    stays (EntryAt g i) there free = elim (cases_eq g f) [
      | inl same ↦ made_says g i same
      | inr other ↦ said (EntryAt g i) (record {
        frames = ap (λ l. l.frames) limits;
        frame = frame_there g other;
        place = place_kept g i other there;
        stamp = stamp_kept (PlaceOf g i) (ne_eqb g f other);
      })
    ]
    stays (FrameAt g) there free = said (FrameAt g) (frame_there g (λ same. free (ap (λ (x : ℕ). marked_by setup t (FrameAt x)) same
        ∙ own_mark)))
    stays (CountAt g d) there free = said (CountAt g d) tt
    stays (CoreAt d) there free = said (CoreAt d) (record {
      inside = decided-inside (Some (Reply.Ok Nothing)) (phase t c) s c d;
      exit = plain_exit t e refl d;
    })
    stays (FlushAt d) there free = said (FlushAt d) (none_flush setup t e begins_none d)
    stays (LiveAt l) there free = said (LiveAt l) (record { number = ap (λ x. x.number l) now; stamp = stamp_kept (NumberOf l) refl })
    stays ClockAt there free = λ h. tt

    -- the word of the target
    word_now : WordIs s' (times_of setup (e ∷ t)) (EntryAt node index) new
    word_now = node_word s'.limits.frames (s'.frame node)
        (s'.place node index) (stamp setup (e ∷ t) (PlaceOf node index)) index new
        (subst (λ x. IsTrue (is_node x)) (sym (frame_there node (λ h. apart (sym h)))) in_node)
        (subst (λ p. PlaceIs s'.limits.frames p (stamp setup (e ∷ t) (PlaceOf node index)) (entry_of_word new)) (sym place_target) (
          new_says ∙ ap (λ x. Some (Held x)) knows.cap,
          subst (λ n. CapNames n (object_cap m.object f)) (sym (ap (λ l. l.frames) limits)) (made_caps m.object s.limits.frames f below),
        ))

    bare_now : mark_of s (EntryAt node index) (left_of put_it was) ≡ None
    bare_now = ap (mark_in_frame (s.frame node) index) leaves_it ∙ node_mark (s.frame node) index new in_node ∙ ap entry_mark new_says

    -- what the core holds
    holds_is : holds (cores c) ≡ keeps (FrameAt f) word (holds_counts None a.counts)
    holds_is = ap holds_in active ∙ held

    same_held : (w : Word) → (holds_at stage a.counts).marks w ≡ (holds_in (Some a)).marks w
    same_held w = ap (λ b. if same_word w (FrameAt f) then true else b) (same_marks (Some None) None a.counts w)
        ∙ sym (ap (λ h. h.marks w) held)

    still : (w : Word) → (holds after).marks w ≡ (holds (cores c)).marks w
    still w = same_held w ∙ ap (λ o. (holds_in o).marks w) (sym active)

    before_count : (g d : ℕ) → ((holds (cores c)).marks (CountAt g d) ≡ (holds_counts None a.counts).marks (CountAt g d))
        × ((holds (cores c)).stands (CountAt g d) ≡ (holds_counts None a.counts).stands (CountAt g d))
    before_count g d = (ap (λ h. h.marks (CountAt g d)) holds_is, ap (λ h. h.stands (CountAt g d)) holds_is)

    no_count : (g d : ℕ) → CountAt g d ≢ EntryAt node index
    no_count g d h = cc

    none_small : 0 < 2 ^ 43
    none_small = omega arith

    max_zero : (n : ℕ) → n ≡ max n 0
    max_zero n = omega arith

    commits : (w : Word) → marked_by setup t w ≡ Some c → WordIs s' (times_of setup (e ∷ t)) w ((holds_at stage a.counts).stands w)
    commits w own = elim (cases_word w (FrameAt f)) [
      | inl same ↦ subst (λ v. WordIs s' (times_of setup (e ∷ t)) v ((holds_at stage a.counts).stands v)) (sym same)
          (ap (λ b. frame_of_word (if b then made_word else (holds_counts (Some None) a.counts).stands (FrameAt f))) (same_same (FrameAt f))
          ∙ frames.spelling.reads (made m.object) (made_fits m.object) ∙ ap (λ v. Some v) (sym (made_value m.object))
          ∙ ap (λ x. Some (frame_value x)) (sym (frame_here f refl)))
      | inr other ↦ subst (WordIs s' (times_of setup (e ∷ t)) w)
          (sym (ap (λ b. if b then made_word else (holds_counts (Some None) a.counts).stands w) (same_word-other w (FrameAt f) other)))
          (dues_commit setup setting cores t stands c here a active None none_small (object_dues m.object f) dues_are
          put_it (Reply.Ok Nothing) after still before_count (λ g d. refl) alike
          unmarked.mark bare_now no_count w
          (sym (ap (λ h. h.marks w) holds_is
          ∙ ap (λ b. if b then true else (holds_counts None a.counts).marks w) (same_word-other w (FrameAt f) other))
          ∙ (stands.marks w c).owned own))
    ]

    -- the references
    nothing_held : (i : ℕ) (j : Capability) → s.place f i ≡ Holds j → ⊥
    nothing_held i j is = false≢true (sym (ap is_node blank) ∙ ((sound_of setup setting t stands.legal).bare f i j is).0)

    target_kept : framed.place node index ≡ s.place node index
    target_kept = ready_there m.object s f node index (λ h. apart (sym h))

    grows : (g : ℕ) → refs s' g ≡ refs s g + times g (f ∷ object_names m.object)
    grows g =
        let z : refs s' g ≡ refs filled g = ap (λ x. refs x g) now ∙ counted_refs filled c g in
        let p = place_refs framed node index (Holds (object_cap m.object f)) g
        (calls.node_below setup setting cores t stands c here a active m stage_is has) small_index in
        let q : times g (place_names (framed.place node index)) ≡ 0 = ap (λ p. times g (place_names p)) target_kept
        ∙ ap (times g) empty.names in
        let r = new_refs m.object s f g below blank nothing_held in
        let u : times g (place_names (Holds (object_cap m.object f))) ≡ times g (f ∷ []) = ap (times g) (cap_names m.object f) in
        let v = sums.times_cons g f (object_names m.object) in
        let w = sums.times_cons g f [] in
        omega (arith, z, p, q, r, u, v, w)

    -- each by one
    abbrev Grows : ℕ → Type 0
    Grows g = (pos (refs s' g) ≡ pos (refs s g) +ℤ pos 1)
        × (stamp setup (e ∷ t) (FrameOf g) ≡ max (stamp setup t (FrameOf g)) (later 0 (stamp_of_change (pos 1) None)))

    grows_one : (g : ℕ) → times g (f ∷ object_names m.object) ≡ 1 → Grows g
    grows_one g one = (
      ap (λ (n : ℕ). pos n) (let more = grows g in omega (arith, more, one)),
      stamp_kept (FrameOf g) refl ∙ max_zero (stamp setup t (FrameOf g)),
    )

    sums_are : (g : ℕ) → SumIs setup (held_by (put cores c after)) (e ∷ t) g
    sums_are = dues_sum setup setting cores t stands c here a active None none_small (object_dues m.object f) dues_are
        put_it (Reply.Ok Nothing) after still before_count (λ g d. refl) alike unmarked.mark
        bare_now no_count (ap (λ l. l.cores) limits)
        (λ g none. (
          (let more = grows g in let zero_times = named_not g (f ∷ object_names m.object) none in omega (arith, more, zero_times)),
          stamp_kept (FrameOf g) refl,
        ))
        (change_is_one (λ d. (pos (refs s' d.frame) ≡ pos (refs s d.frame) +ℤ d.change)
        × (stamp setup (e ∷ t) (FrameOf d.frame) ≡ max (stamp setup t (FrameOf d.frame)) (later 0 (stamp_of_change d.change None))))
        (f ∷ object_names m.object)
        (named_once Grows (f ∷ object_names m.object)
        (calls.counts_apart setup setting cores t stands c here a active m stage_is has blank) grows_one))

    -- the reply
    permitted : MayReply s c a.call (Reply.Ok Nothing)
    permitted = (
      not_spent setup (cores c) t c (stands.each c here) (calls.room setup setting cores t stands c here a active m stage_is has),
      (has.acts, subst (λ x. IsFoundAnd x (λ y. y.value ≡ Nothing)) (sym change_is) refl),
    )

    gone : HasReached (e ∷ t) c (ways s c (rule_of s c a.call))
    gone = all_ways s c (own_pages s c) (e ∷ t) (plan_for a.call) (rule_of s c a.call) a.found
        (calls.by_plan setup setting cores t stands c here a active m stage_is has)
        (leads_by (λ n wanted q. HasFound setup t c (own_in (cores c).own.table n) wanted q)
        (λ n wanted q. LeadsIn s c n wanted q × HasReached (e ∷ t) c (way_to s c (own s c n)))
        own_gone (plan_for a.call).names [] a.found has.names)
        (subst (λ x. HasReached (e ∷ t) c (ways s c x)) (sym (calls.left setup setting cores t stands c here a active m stage_is has))
        (subst (λ target. HasReached (e ∷ t) c (way_to s c target))
        (sym (calls.target_is setup setting cores t stands c here a active m stage_is has))
        (way_gone setup t (e ∷ t) c knows.spot.target slot knows.spot.way.reached
        (λ n d h. own_kept t e c refl refl _ (knows.spot.way.stepped n d h)))))
      where
        table_is : (cores c).own.table ≡ (comp_of s c).table
        table_is = (stands.each c here).works.table

        own_gone : (n : ℕ) (wanted : Want) (q : Capability) → HasFound setup t c (own_in (cores c).own.table n) wanted q
            → LeadsIn s c n wanted q × HasReached (e ∷ t) c (way_to s c (own s c n))
        own_gone n wanted q had = (
          found_named setup t c (cores c).own.table n wanted q table_is had,
          subst (λ x. HasReached (e ∷ t) c (way_to s c x)) (own_is s c (cores c).own.table n table_is)
              (way_gone setup t (e ∷ t) c (own_in (cores c).own.table n) had.at had.way.reached
              (λ m d h. own_kept t e c refl refl _ (had.way.stepped m d h))),
        )

    unmarks : KnowsUnmark a.call f made_word
    unmarks = record {
      changes = made_changes a.call a.found m knows.makes;
      argument = made_argument a.call a.found m knows.makes;
      bare = ap frame_mark (frames.spelling.reads (made m.object) (made_fits m.object));
      small = frames.spelling.small (made m.object) (made_fits m.object);
    }

    pub put_won : GoodTook setup cores t c put_it (landed a (published m word true))
    put_won lands = decides_writing setup setting cores t stands c here a active put_it count (Reply.Ok Nothing) a.found stage
        unmarked.mark bare_now (subst (λ (n : ℕ). n < 2 ^ 64) (sym leaves_it) (entries.spelling.small (Held k) fits)) of_call lands opens
        refl
        same_held
        (λ g i. counts_bare (Some None) a.counts g i ∙ sym (ap (λ h. h.bare g i) held ∙ counts_bare None a.counts g i))
        (not_exclusive_word setup cores t stands node index (node_keeps_none (s.frame node) in_node))
        alike begins_none (spares_node setup t e node index refl in_node)
        (inl (made_types a.call a.found m knows.makes)) rises works stays
        (subst (WordIs s' (times_of setup (e ∷ t)) (EntryAt node index)) (sym leaves_it) word_now) commits sums_are
        (record { call = a.call; is_open = is_open; permitted = permitted; justified = gone })
        (λ is_alone. ok_first s c a.call Nothing permitted)
        unmarks

  put_good : GoodTook setup cores t c put_it (landed a (published m word (was == m.fill.word)))
  put_good = by_test (was == m.fill.word) refl
    where
      by_test : (equal : Bool) → (was == m.fill.word) ≡ equal → GoodTook setup cores t c put_it (landed a (published m word equal))
      by_test true is = put_won is
      by_test false is = put_lost setup setting cores t stands c here a active m stage_is has word at_is is

-- A step of a making is good.
pub making_good : (setup : Setting) → IsSetting setup → (cores : ℕ → Core) (t : Trace) → Invariant setup cores t → (c : ℕ) → c < setup.cores
    → (a : ActiveCall) → (cores c).active ≡ Some a → (m : Making)
    → a.stage ≡ Undecided (Act (make_act m))
    → KnowsUndecided setup t c (cores c).own.table a (Act (make_act m))
    → GoodTook setup cores t c (making_move m) (landed a (took_making m
    (told_of (making_move m) (last_left setup t (word_of (making_move m))))))
making_good setup setting cores t stands c here a active m stage_is has = by m.at refl
  where
    by : (at : MakingAt) → m.at ≡ at
        → GoodTook setup cores t c (making_at m.frame m.object m.core m.fill at) (landed a (took_making_at m at
        (told_of (making_at m.frame m.object m.core m.fill at)
        (last_left setup t (word_of (making_at m.frame m.object m.core m.fill at))))))
    by making_load at_is = load_good setup setting cores t stands c here a active m stage_is has at_is
    by (Mark word) at_is = mark_good setup setting cores t stands c here a active m stage_is has word at_is
    by (Store word n) at_is = store_good setup setting cores t stands c here a active m stage_is has word n at_is
    by (making_fill word) at_is = put_good setup setting cores t stands c here a active m stage_is has word at_is
