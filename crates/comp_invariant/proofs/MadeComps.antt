-- The decision of a call that makes a component: the compare of its target, where it is won, makes the frame the component, its number live
-- for it, and puts its capability there.
use Rattle.scan_invariant.specs.step_ways.proofs.{Want, All, ◌≡◌, Bool, true, false, Some, None, refl, ℕ, ◌<◌, ◌^◌, arith, ◌≢◌, ◌+◌, sym}
use Rattle.scan_invariant.specs.step_ways.proofs.{◌&&◌, [], ◌∷◌, ap, ◌∙◌, subst, ◌≤◌, IsTrue, ◌⊎◌, inl, inr, max, map, ◌+ℤ◌, Option, ◌++◌}
use Rattle.scan_invariant.specs.step_ways.proofs.{zero, suc, ne_eqb, eqb-true, false≢true, Capability, Setting, IsSetting, left_if, Kind}
use Rattle.scan_invariant.specs.step_ways.proofs.{entry_of_word, EntryFits, word_of_entry, Held, frame_of_word, word_of_frame, same_same}
use Rattle.scan_invariant.specs.step_ways.proofs.{left_of, word_of, Move, CompareOf, told_of, EntryAt, Word, same_word, ClockAt, FrameAt}
use Rattle.scan_invariant.specs.step_ways.proofs.{CountAt, CoreAt, FlushAt, LiveAt, frame_refs, IsSound, opened, put_same, put_other}
use Rattle.scan_invariant.specs.step_ways.proofs.{events_of, Slot, own, rule_of, change_of, changed, counted, MayReply, ends_by, flushes_by}
use Rattle.scan_invariant.specs.step_ways.proofs.{calls_counted, refs, place_names, times, frame_names, is_node, Found, IsFoundAnd}
use Rattle.scan_invariant.specs.step_ways.proofs.{first_of, Blank, Kernel, State, put, comp_of, thread_in, thread_of, first_of_stack}
use Rattle.scan_invariant.specs.step_ways.proofs.{Object, FrameOf, with_frame, Thing, NumberOf, comp_in, Holds, PlaceOf, with_place, Live}
use Rattle.scan_invariant.specs.step_ways.proofs.{Liveness, Comp, CompFields, ok_first, decided-inside, cases_word, same_word-other}
use Rattle.scan_invariant.specs.step_ways.proofs.{sound_of, last_left-there, stamp-kept, HasReached, marked_by, frame_mark, mark_of}
use Rattle.scan_invariant.specs.step_ways.proofs.{entry_mark, mark_in_frame, live_mark, frame_value, stamp, ends_in, flushes_in, Trace}
use Rattle.scan_invariant.specs.step_ways.proofs.{Open, phase, state_after, Step, last_left, state_decided_in, way_to, ways, leads_by}
use Rattle.scan_invariant.specs.step_ways.proofs.{LeadsIn, own_pages, CapNames, Due, StoreLive, Act, landed, Core, ActiveCall, Stage}
use Rattle.scan_invariant.specs.step_ways.proofs.{Undecided, Decided, calm_counted, plain_exit, counted_rises, counts, own_kept}
use Rattle.scan_invariant.specs.step_ways.proofs.{counted_refs, limits_of, ReadsAlike, StaysSaid, word_stays, SameFor, holds_counts}
use Rattle.scan_invariant.specs.step_ways.proofs.{settled_by, settled, keeps, AreDuesApart, HasFound, own_in, phase_at, due_of}
use Rattle.scan_invariant.specs.step_ways.proofs.{KnowsUndecided, WorksIn, MayFill, KnowsComp, KnowsCompAt, untypes, holds_at, holds_in}
use Rattle.scan_invariant.specs.step_ways.proofs.{Invariant, holds, held_by, times_of, SumIs, counted_in, holds_comp, PlaceIs, IsFrameWord}
use Rattle.scan_invariant.specs.step_ways.proofs.{WordIs, NumberIs, later, stamp_of_change, comp_dues, comp_due_list, CompMaking, CompAt}
use Rattle.scan_invariant.specs.step_ways.proofs.{Quiet, AtCore, AtFlush, quiet_end, quiet_after, live_of_word, word_of_live, LiveWord}
use Rattle.scan_invariant.specs.step_ways.proofs.{comp_of_word, counts_bare, may_keep, not_exclusive_value, not_exclusive_word}
use Rattle.scan_invariant.specs.step_ways.proofs.{if◌then◌else◌, pos, List, ◌==◌, ◌||◌, fits as fits_kind, begins_in as begins_then}
use Rattle.scan_invariant.specs.step_ways.proofs.{MakeComp as comp_act, spares_node, next_at, IsOfCall, core_in_call, inner, call_is}
use Rattle.scan_invariant.specs.step_ways.proofs.{IsMarked, place_reads, IsUnmarked, node_mark, GoodTook, not_spent, same_marks}
use Rattle.scan_invariant.specs.step_ways.proofs.{decides_writing, plain_cap, does, plan_for, Reply}
use Rattle.scan_invariant.specs.act_states.specs.{begins_in, CompMakingFits, quiet_move, Nothing, comp_cap, took_comp_at, number_scanned}
use Rattle.scan_invariant.specs.act_states.specs.{comp_published, comp_at, CompFits, Component as component_edit}
use Rattle.scan_invariant.specs.count_invariant.proofs.{found_named, own_is, way_gone, dues_commit, dues_sum, IsCompCall, comp_changes}
use Rattle.scan_invariant.specs.count_invariant.proofs.{comp_argument, number_footprint}
use Rattle.state_laws.specs.kernel_rules.specs.{epoch_of, waits_of, is_live, number_names, with_number, Fill as fill_edit}
use Rattle.state_laws.specs.found_stays.proofs.{slot_is, place_here, place_there, comp_fit}
use Rattle.scan_invariant.specs.place_invariant.proofs.{vacant_slot, vacant_here, none_waits}
use Rattle.scan_invariant.specs.kept_facts.proofs.{BeginsNone, node_keeps_none, same_works}
use Rattle.scan_invariant.specs.core_invariant.specs.{MayTake, KnowsLive}
use Rattle.state_laws.specs.kernel_invariant.proofs.{place_refs, number_refs}
use Rattle.std.proofs.lemmas.List.Elements.{All-nil, All-cons, All-head, All-tail}
use Rattle.scan_invariant.specs.act_states.specs.Comps.{component, comp_move}
use Rattle.scan_invariant.specs.act_states.specs.declared.comps.CompAt.TheVariants.{Load, Mark, LoadLive, Scan, Close, Store, Fill}
use Rattle.scan_invariant.specs.kept_facts.proofs.{Calm.none_flush, CountSums.times_here, CountSums.times_there}
use Rattle.scan_invariant.specs.place_invariant.proofs.{Fills.node_word, Vacancy.IsVacant}
use Rattle.comp_invariant.proofs.CompNumbers.{free_number, dead_number, load_live_good, scan_step_good}
use Rattle.comp_invariant.proofs.CompStores.{held_fill, at_fill, frame_marked, frame_stands, number_marked, number_stands, put_of_call}
use Rattle.comp_invariant.proofs.CompStores.{put_lost, close_good, store_good}
use Rattle.comp_invariant.proofs.CompMarks.{load_good, mark_good}
use Rattle.{std.proofs.lemmas.Bool.cases_eq, scan_invariant.specs.frame_words.specs.Live.LiveFits}
use Rattle.{scan_invariant.specs.trace_laws.proofs.GraceSteps.cases_bool, scan_invariant.specs.call_plans.proofs.AfterNames.before}
use Rattle.{scan_invariant.specs.plan_ways.proofs.Ways.all_ways, scan_invariant.specs.act_states.specs.Taking.took_comp}
use Rattle.{scan_invariant.specs.act_states.specs.declared.comps.LastEpoch.LastEpoch}
use Rattle.{scan_invariant.specs.core_invariant.specs.Words.IsCompWord, scan_invariant.specs.count_invariant.proofs.CompCounts.comp_numbers}
use Rattle.{comp_invariant.proofs.UnusedNumbers.unused_waits}
use Rattle.scan_invariant.specs.entry_words.proofs.Spelling as entries
use Rattle.scan_invariant.specs.frame_words.proofs.FrameLemmas as frames
use Rattle.state_laws.specs.kernel_invariant.proofs.Sums as sums
use Rattle.state_laws.specs.spk_nums.specs.declared.kinds.Obj.TheVariants as obj
use Rattle.scan_invariant.specs.entry_words.specs.declared.entry.Entry.TheVariants as entry
use Rattle.scan_invariant.specs.act_states.specs.declared.refusals.Refusal.TheVariants as refusal
use Rattle.scan_invariant.specs.step_ways.proofs.Counting as counting
use Rattle.comp_invariant.proofs.CompCalls as calls
use Rattle.state_laws.specs.kernel_rules.specs.Rules as rules
use Rattle.scan_invariant.specs.frame_words.proofs.CompLemmas as comps
use Rattle.scan_invariant.specs.frame_words.proofs.LiveLemmas as lives_words

abbrev due_by : ℕ → ℕ → Due
due_by f n = record { frame = f; change = pos n }

-- A number that may be taken: its last epoch, and that nobody waits for it.
record IsTaken (s : State) (c l last : ℕ) : Type 0 where
  dead : is_live (s.number l) ≡ false
  last_is : epoch_of (s.number l) ≡ last
  names : number_names (s.number l) ≡ []
  waits : waits_of s c (NumberOf l) ≡ None

module _ (setup : Setting) (setting : IsSetting setup) (cores : ℕ → Core) (t : Trace) (stands : Invariant setup cores t) (c : ℕ)
    (here : c < setup.cores)
    (a : ActiveCall) (active : (cores c).active ≡ Some a) (m : CompMaking) (stage_is : a.stage ≡ Undecided (Act (comp_act m)))
    (has : KnowsUndecided setup t c (cores c).own.table a (Act (comp_act m)))
    (word : ℕ) (last : LastEpoch) (at_is : m.at ≡ Fill word last) where
  abbrev s : State
  s = state_after setup t

  abbrev f : ℕ
  f = m.frame

  abbrev node : ℕ
  node = m.fill.node

  abbrev index : ℕ
  index = m.fill.entry

  abbrev k : Capability
  k = m.fill.cap

  abbrev knows : KnowsComp setup t c a.call (plan_for a.call) a.found setup.cores m
  knows = has.knows.knows

  abbrev was : ℕ
  was = last_left setup t (EntryAt node index)

  abbrev new : ℕ
  new = word_of_entry (Held k)

  abbrev put_it : Move
  put_it = CompareOf (EntryAt node index) m.fill.word new

  abbrev slot : Slot
  slot = record { node = node; index = index }

  abbrev made_word : ℕ
  made_word = word_of_frame component

  abbrev l : ℕ
  l = m.number

  abbrev epoch : ℕ
  epoch = last.epoch + 1

  abbrev fields : CompFields
  fields = record { table = m.table; pages = m.pages; number = l; epoch = epoch }

  abbrev object : Object
  object = Comp fields

  abbrev lives : Liveness
  lives = Live epoch f

  abbrev live_now : ℕ
  live_now = word_of_live (LiveWord.Live epoch f)

  abbrev names : List ℕ
  names = f ∷ f ∷ m.table ∷ m.pages ∷ []

  held : holds_in (Some a) ≡ keeps (LiveAt l) last.word (keeps (FrameAt f) word (holds_counts None a.counts))
  held = held_fill setup setting cores t stands c here a active m stage_is has word last at_is

  filled_so : KnowsCompAt setup t c m (Fill word last)
  filled_so = at_fill setup setting cores t stands c here a active m stage_is has word last at_is

  marks_frame : (holds (cores c)).marks (FrameAt f) ≡ true
  marks_frame = frame_marked setup setting cores t stands c here a active m stage_is has word last held filled_so.0

  stands_frame : (holds (cores c)).stands (FrameAt f) ≡ word
  stands_frame = frame_stands setup setting cores t stands c here a active m stage_is has word last held filled_so.0

  marks_number : (holds (cores c)).marks (LiveAt l) ≡ true
  marks_number = number_marked setup setting cores t stands c here a active m stage_is has word last held filled_so.0

  stands_number : (holds (cores c)).stands (LiveAt l) ≡ last.word
  stands_number = number_stands setup setting cores t stands c here a active m stage_is has word last held filled_so.0

  number_mark : marked_by setup t (LiveAt l) ≡ Some c
  number_mark = calls.number_mark setup setting cores t stands c here a active m stage_is has last.word marks_number stands_number

  number_says : NumberIs (s.number l) (stamp setup t (NumberOf l)) (live_of_word last.word)
  number_says = calls.number_says setup setting cores t stands c here a active m stage_is has last.word marks_number stands_number

  dues_are : comp_due_list m ≡ map due_of a.counts
  dues_are = ap (comp_dues m) (sym at_is) ∙ has.knows.all

  opens : phase_at a.call a.stage ≡ Open a.call
  opens = ap (phase_at a.call) stage_is

  is_open : phase t c ≡ Open a.call
  is_open = (call_is setup setting cores t stands c here a active).phase ∙ opens

  blank : s.frame f ≡ Kernel Blank
  blank = calls.blank setup setting cores t stands c here a active m stage_is has word marks_frame stands_frame filled_so.0

  own_mark : marked_by setup t (FrameAt f) ≡ Some c
  own_mark = calls.own_mark setup setting cores t stands c here a active m stage_is has word marks_frame stands_frame filled_so.0

  apart : f ≢ node
  apart = calls.apart setup setting cores t stands c here a active m stage_is has word marks_frame stands_frame filled_so.0

  no_mark : (i : ℕ) → marked_by setup t (EntryAt f i) ≡ None
  no_mark = calls.no_mark setup setting cores t stands c here a active m stage_is has word marks_frame stands_frame filled_so.0

  below : f < s.limits.frames
  below = calls.below setup setting cores t stands c here a active m stage_is has

  in_node : IsTrue (is_node (s.frame node))
  in_node = calls.in_node setup setting cores t stands c here a active m stage_is has

  small_index : index < 64
  small_index = (calls.fits_in setup setting cores t stands c here a active m stage_is has).fill.entry

  of_call : IsOfCall setup t c a.call put_it
  of_call = put_of_call setup setting cores t stands c here a active m stage_is has word last at_is

  fits_in : CompMakingFits (cores c).own.layout m
  fits_in = calls.fits_in setup setting cores t stands c here a active m stage_is has

  few_frames : s.limits.frames ≤ 512
  few_frames =
      let most = setting.most_frames in let limit : s.limits.frames ≡ setup.frames = ap (λ l. l.frames) (limits_of setup t) in
      omega (arith, most, limit)

  epoch_small : epoch < 2 ^ 16
  epoch_small = let low = filled_so.1.more in let most = fits_in.epochs in omega (arith, low, most)

  life_fits : CompFits (record { number = l; epoch = epoch })
  life_fits = (fits_in.number, omega arith, epoch_small)

  live_fits : LiveFits (LiveWord.Live epoch f)
  live_fits = (omega arith, epoch_small, (let few = few_frames in let low = below in omega (arith, few, low)))

  -- every word of the frame says what the component is
  word_says : (i : ℕ) → IsCompWord fields i (last_left setup t (EntryAt f i))
  word_says zero = filled_so.2.stored 0 (omega arith)
  word_says (suc zero) = filled_so.2.stored 1 (omega arith)
  word_says (suc (suc zero)) = ap comp_of_word (filled_so.2.stored 2 (omega arith))
      ∙ comps.spelling.reads (record { number = l; epoch = epoch }) life_fits
  word_says (suc (suc (suc i))) = tt

  fits : EntryFits (Held k)
  fits = subst (λ x. EntryFits (Held x)) (sym knows.cap) (let few = few_frames in
      let low = below in (omega (arith, few, low), omega arith, omega arith, omega arith, omega arith))

  new_says : entry_of_word new ≡ Some (Held k)
  new_says = entries.spelling.reads (Held k) fits

  module _ (equal : (was == m.fill.word) ≡ true) where
    abbrev e : Step
    e = inner setup setting cores t stands c here a active put_it (Some (Reply.Ok Nothing)) None

    abbrev s' : State
    s' = state_after setup (e ∷ t)

    abbrev stage : Stage
    stage = Decided (Reply.Ok Nothing) None (StoreLive l live_now f made_word)

    abbrev count : ℕ
    count = (cores c).own.made + calls_counted (Reply.Ok Nothing)

    abbrev after : Core
    after = core_in_call (cores c) count (next_at a a.found stage)

    abbrev framed : State
    framed = with_frame (with_number s l lives) f (Kernel object)

    abbrev filled : State
    filled = with_place framed node index (Holds (comp_cap f))

    leaves_it : left_of put_it was ≡ new
    leaves_it = ap (λ b. left_if b was new) equal

    same : was ≡ m.fill.word
    same = eqb-true was m.fill.word equal

    unmarked : IsUnmarked setup t node index
    unmarked = by_read (place_reads setup cores t stands node index in_node small_index)
      where
        may : MayFill setup t c (PlaceOf node index) setup.cores (entry_of_word was)
        may = subst (MayFill setup t c (PlaceOf node index) setup.cores) (sym (ap entry_of_word same)) knows.spot.vacant

        by_read : IsMarked setup t node index ⊎ IsUnmarked setup t node index → IsUnmarked setup t node index
        by_read (inl m) = absurd (subst (MayFill setup t c (PlaceOf node index) setup.cores) m.says may)
        by_read (inr p) = p

    empty : IsVacant s c node index
    empty = vacant_here setup setting cores t stands c here a active opens has.names node index m.fill.word knows.spot small_index
        (calls.leaf setup setting cores t stands c here a active m stage_is has) same

    -- the number may be taken
    abbrev thing : Thing
    thing = NumberOf l

    may_take : (o : Option LiveWord) → MayTake setup t c l last.epoch setup.cores o → NumberIs (s.number l) (stamp setup t thing) o
        → IsTaken s c l last.epoch
    may_take None may says = absurd may
    may_take (Some LiveWord.Free) may says =
        let unused = free_number (s.number l) (stamp setup t thing) (Some LiveWord.Free) says refl in record {
          dead = ap is_live unused;
          last_is = ap epoch_of unused ∙ may;
          names = ap number_names unused;
          waits = none_waits s c thing (λ d low other. elim (cases_bool ((s.grace thing).waits d)) [
            | inl is ↦ absurd (unused_waits setup setting t stands.legal l d unused is)
            | inr none ↦ none
          ]);
        }
    may_take (Some (LiveWord.Live d g)) may says = absurd may
    may_take (Some (LiveWord.Closing d g)) may says = absurd may
    may_take (Some (LiveWord.Dead d x)) may says =
        let died = dead_number (s.number l) (stamp setup t thing) d x (Some (LiveWord.Dead d x)) says refl in record {
          dead = ap is_live died.dead;
          last_is = ap epoch_of died.dead ∙ may.0;
          names = ap number_names died.dead;
          waits = none_waits s c thing (λ d low other. may.1.passed d
              (let same : s.limits.cores ≡ setup.cores = ap (λ y. y.cores) (limits_of setup t) in
              omega (arith, low, same)) other died.same);
        }

    takes : IsTaken s c l last.epoch
    takes = may_take (live_of_word last.word) filled_so.1.may number_says

    not_spent_yet : (epoch_of (s.number l) == s.limits.epochs) ≡ false
    not_spent_yet = ne_eqb (epoch_of (s.number l)) s.limits.epochs
        (let low = filled_so.1.more in let same = calls.epochs_are setup setting cores t stands c here a active m stage_is has in
        let was_last = takes.last_is in λ h. omega (arith, low, same, was_last, h))

    taken_none : calls.taken setup setting cores t stands c here a active m stage_is has ≡ None
    taken_none =
        ap (λ b. first_of (if b then Some Reply.Occupied else None) (first_of (waits_of s c thing)
        (first_of (if epoch_of (s.number l) == s.limits.epochs then Some Reply.EpochsSpent else None) None))) takes.dead
        ∙ ap (λ o. first_of o (first_of (if epoch_of (s.number l) == s.limits.epochs then Some Reply.EpochsSpent else None) None))
        takes.waits
        ∙ ap (λ b. first_of (if b then Some Reply.EpochsSpent else None) None) not_spent_yet

    change_is : change_of s c a.call ≡ Found (does c s Nothing (component_edit f fields ∷ fill_edit slot (plain_cap Kind.Comp f) ∷ []))
    change_is = calls.by_taken setup setting cores t stands c here a active m stage_is has
        (vacant_slot s c (calls.target setup setting cores t stands c here a active m stage_is has) slot
        (calls.reached_is setup setting cores t stands c here a active m stage_is has) empty.vacant) blank None taken_none
        ∙ ap (λ (n : ℕ). Found (does c s Nothing (component_edit f
        (record { table = m.table; pages = m.pages; number = l; epoch = n + 1 }) ∷ fill_edit slot (plain_cap Kind.Comp f) ∷ [])))
        takes.last_is

    now : s' ≡ counted filled c
    now = ap (λ p. state_decided_in p (Reply.Ok Nothing) s c) is_open ∙ ap (λ x. counted (changed s x) c) change_is

    limits : s'.limits ≡ s.limits
    limits = ap (λ x. x.limits) now

    -- what the frames are
    frame_here : (g : ℕ) → g ≡ f → s'.frame g ≡ Kernel object
    frame_here g same = ap (λ x. x.frame g) now ∙ put_same s.frame f (Kernel object) g same

    frame_there : (g : ℕ) → g ≢ f → s'.frame g ≡ s.frame g
    frame_there g other = ap (λ x. x.frame g) now ∙ put_other s.frame f (Kernel object) g other

    was_blank : (g : ℕ) → g ≡ f → s.frame g ≡ Kernel Blank
    was_blank g same = ap s.frame same ∙ blank

    -- a frame with an object is another one
    object_kept : (g : ℕ) (j : Kind) → IsTrue (fits_kind j (s.frame g)) → fits_kind j (Kernel Blank) ≡ false → s'.frame g ≡ s.frame g
    object_kept g j fit none = frame_there g (λ same. false≢true (sym none ∙ sym (ap (fits_kind j) (was_blank g same)) ∙ fit))

    -- what the places are
    place_target : s'.place node index ≡ Holds (comp_cap f)
    place_target = ap (λ x. x.place node index) now ∙ place_here framed node index (Holds (comp_cap f)) node index refl refl

    away : (g i : ℕ) → EntryAt g i ≢ EntryAt node index → (g == node && i == index) ≡ false
    away g i other = by (g == node && i == index) refl
      where
        by : (b : Bool) → (g == node && i == index) ≡ b → (g == node && i == index) ≡ false
        by true is = let at = slot_is g node i index is in
            absurd (other (ap (λ (x : ℕ). EntryAt x i) at.0 ∙ ap (λ (x : ℕ). EntryAt node x) at.1))
        by false is = is

    place_away : (g i : ℕ) → EntryAt g i ≢ EntryAt node index → s'.place g i ≡ s.place g i
    place_away g i other = ap (λ x. x.place g i) now
        ∙ place_there framed node index (Holds (comp_cap f)) g i (away g i other)

    -- what the numbers are
    number_here : s'.number l ≡ lives
    number_here = ap (λ x. x.number l) now ∙ put_same s.number l lives l refl

    number_there : (k : ℕ) → k ≢ l → s'.number k ≡ s.number k
    number_there k other = ap (λ x. x.number k) now ∙ put_other s.number l lives k other

    -- its times
    begins_none : BeginsNone setup t e
    begins_none = record {
      begins = λ x. ap (λ p. begins_then (Some (Reply.Ok Nothing)) p s c x) is_open ∙ ap (λ y. begins_in y x) change_is;
      flushes = ap (flushes_in (Some (Reply.Ok Nothing))) is_open
          ∙ ap flushes_by (calls.is setup setting cores t stands c here a active m stage_is has).call_is;
      apart = λ d. refl;
      same = refl;
    }

    stamp_kept : (x : Thing) → stamp setup (e ∷ t) x ≡ stamp setup t x
    stamp_kept x = stamp-kept setup e t x (begins_none.begins x) (ap (λ p. ends_in (Some (Reply.Ok Nothing)) p x) is_open
        ∙ ap (λ y. ends_by y x) (calls.is setup setting cores t stands c here a active m stage_is has).call_is)

    -- the calls that were counted
    one_more : (s'.core c).counted ≡ (s.core c).counted + 1
    one_more = ap (λ y. (y.core c).counted) now ∙ ap (λ j. j.counted)
        (put_same s.core c (record (s.core c) { counted = (s.core c).counted + 1 }) c refl)

    count_is : count ≡ (s'.core c).counted
    count_is = let own = (stands.each c here).works.made in let more = one_more in omega arith

    own_stays : s'.core c ≡ counts (s.core c) (s'.core c).inside (s'.core c).counted
    own_stays = subst (λ y. y.core c ≡ counts (s.core c) (y.core c).inside (y.core c).counted) (sym now) (calm_counted s c).own

    core_below : c < s.limits.cores
    core_below = subst (λ (n : ℕ). c < n) (sym (ap (λ l. l.cores) (limits_of setup t))) here

    sound : IsSound s (opened (events_of t))
    sound = sound_of setup setting t stands.legal

    works : WorksIn (record (cores c).own { made = count }) s' c
    works = same_works s s' c (cores c).own (record (cores c).own { made = count })
        (ap thread_in (object_kept (s.core c).thread Kind.Thread (sound.cores c core_below).0 refl))
        (ap comp_in (object_kept (first_of_stack (thread_of s c).stack) Kind.Comp
        (comp_fit s (opened (events_of t)) c sound core_below) refl))
        own_stays
        (ap (λ (m : ℕ). record (cores c).own { made = m }) count_is) (stands.each c here).works

    rises : counted_in setup s ≤ counted_in setup s'
    rises = subst (λ y. counted_in setup s ≤ counted_in setup y) (sym now) (counted_rises setup s (counted s c) c (calm_counted s c))

    -- each word reads as before
    kept_left : (g i : ℕ) → g ≡ f → last_left setup (e ∷ t) (EntryAt g i) ≡ last_left setup t (EntryAt f i)
    kept_left g i same = last_left-there setup (EntryAt g i) e t (λ h. apart (sym same ∙ same_node g i node index h))
        ∙ ap (λ (h : ℕ). last_left setup t (EntryAt h i)) same
      where
        same_node : (g i h j : ℕ) → EntryAt g i ≡ EntryAt h j → g ≡ h
        same_node g i h j is = cc

    alike : ReadsAlike setup t e
    alike (EntryAt g i) = elim (cases_eq g f) [
      | inl same ↦ ap (λ x. mark_in_frame x i (last_left setup (e ∷ t) (EntryAt g i))) (frame_here g same)
          ∙ ap (λ x. mark_in_frame x i (last_left setup (e ∷ t) (EntryAt g i))) (sym (was_blank g same))
      | inr other ↦ ap (λ x. mark_in_frame x i (last_left setup (e ∷ t) (EntryAt g i))) (frame_there g other)
    ]
    alike (FrameAt g) = refl
    alike (CountAt g d) = refl
    alike (CoreAt d) = refl
    alike (FlushAt d) = refl
    alike (LiveAt l) = refl
    alike ClockAt = refl

    -- what is said of each other word stays
    said : (w : Word) → SameFor s s' (times_of setup t) (times_of setup (e ∷ t)) w → StaysSaid setup cores t e w
    said w same = word_stays s s' (times_of setup t) (times_of setup (e ∷ t)) w (settled setup (held_by cores) t w) same

    -- a word of the frame says what the object is
    made_says : (g i : ℕ) → g ≡ f → StaysSaid setup cores t e (EntryAt g i)
    made_says g i same before =
        subst (λ x. IsFrameWord s'.limits.frames x (s'.place g i) (stamp setup (e ∷ t) (PlaceOf g i)) i
        (settled setup (held_by cores) t (EntryAt g i))) (sym (frame_here g same))
        (subst (IsCompWord fields i) (sym settled_is) (word_says i))
      where
        settled_is : settled setup (held_by cores) t (EntryAt g i) ≡ last_left setup t (EntryAt f i)
        settled_is = ap (λ (h : ℕ). settled setup (held_by cores) t (EntryAt h i)) same
            ∙ ap (λ o. settled_by o (held_by cores) (EntryAt f i) (last_left setup t (EntryAt f i))) (no_mark i)
            ∙ not_exclusive_value setup cores t stands f (ap may_keep blank) i (last_left setup t (EntryAt f i))

    stays : (w : Word) → w ≢ EntryAt node index → marked_by setup t w ≢ Some c → StaysSaid setup cores t e w
    stays (EntryAt g i) there free = elim (cases_eq g f) [
      | inl same ↦ made_says g i same
      | inr other ↦ said (EntryAt g i) (record {
        frames = ap (λ l. l.frames) limits;
        frame = frame_there g other;
        place = place_away g i there;
        stamp = stamp_kept (PlaceOf g i);
      })
    ]
    stays (FrameAt g) there free = said (FrameAt g) (frame_there g (λ same. free (ap (λ (x : ℕ). marked_by setup t (FrameAt x)) same
        ∙ own_mark)))
    stays (CountAt g d) there free = said (CountAt g d) tt
    stays (CoreAt d) there free = said (CoreAt d) (record {
      inside = decided-inside (Some (Reply.Ok Nothing)) (phase t c) s c d;
      exit = plain_exit t e refl d;
    })
    stays (FlushAt d) there free = said (FlushAt d) (none_flush setup t e begins_none d)
    stays (LiveAt k) there free = elim (cases_eq k l) [
      | inl same ↦ absurd (free (ap (λ (x : ℕ). marked_by setup t (LiveAt x)) same ∙ number_mark))
      | inr other ↦ said (LiveAt k) (record { number = number_there k other; stamp = stamp_kept (NumberOf k) })
    ]
    stays ClockAt there free = λ h. tt

    -- the word of the target
    word_now : WordIs s' (times_of setup (e ∷ t)) (EntryAt node index) new
    word_now = node_word s'.limits.frames (s'.frame node)
        (s'.place node index) (stamp setup (e ∷ t) (PlaceOf node index)) index new
        (subst (λ x. IsTrue (is_node x)) (sym (frame_there node (λ h. apart (sym h)))) in_node)
        (subst (λ p. PlaceIs s'.limits.frames p (stamp setup (e ∷ t) (PlaceOf node index)) (entry_of_word new)) (sym place_target) (
          new_says ∙ ap (λ x. Some (Held x)) knows.cap,
          subst (λ n. CapNames n (comp_cap f)) (sym (ap (λ l. l.frames) limits)) (let low = below in omega (arith, low)),
        ))

    bare_now : mark_of s (EntryAt node index) (left_of put_it was) ≡ None
    bare_now = ap (mark_in_frame (s.frame node) index) leaves_it ∙ node_mark (s.frame node) index new in_node ∙ ap entry_mark new_says

    -- what the core holds
    holds_is : holds (cores c) ≡ keeps (LiveAt l) last.word (keeps (FrameAt f) word (holds_counts None a.counts))
    holds_is = ap holds_in active ∙ held

    same_held : (w : Word) → (holds_at stage a.counts).marks w ≡ (holds_in (Some a)).marks w
    same_held w = ap (λ b. if same_word w (LiveAt l) then true else (if same_word w (FrameAt f) then true else b))
        (same_marks (Some None) None a.counts w)
        ∙ sym (ap (λ h. h.marks w) held)

    still : (w : Word) → (holds after).marks w ≡ (holds (cores c)).marks w
    still w = same_held w ∙ ap (λ o. (holds_in o).marks w) (sym active)

    before_count : (g d : ℕ) → ((holds (cores c)).marks (CountAt g d) ≡ (holds_counts None a.counts).marks (CountAt g d))
        × ((holds (cores c)).stands (CountAt g d) ≡ (holds_counts None a.counts).stands (CountAt g d))
    before_count g d = (ap (λ h. h.marks (CountAt g d)) holds_is, ap (λ h. h.stands (CountAt g d)) holds_is)

    no_count : (g d : ℕ) → CountAt g d ≢ EntryAt node index
    no_count g d h = cc

    none_small : 0 < 2 ^ 43
    none_small = omega arith

    max_zero : (n : ℕ) → n ≡ max n 0
    max_zero n = omega arith

    commits : (w : Word) → marked_by setup t w ≡ Some c → WordIs s' (times_of setup (e ∷ t)) w ((holds_at stage a.counts).stands w)
    commits w own = elim (cases_word w (LiveAt l)) [
      | inl same ↦ subst (λ v. WordIs s' (times_of setup (e ∷ t)) v ((holds_at stage a.counts).stands v)) (sym same) live_says
      | inr apart_from ↦ elim (cases_word w (FrameAt f)) [
        | inl same ↦ subst (λ v. WordIs s' (times_of setup (e ∷ t)) v ((holds_at stage a.counts).stands v)) (sym same)
            (ap (λ b. frame_of_word (if b then made_word else (holds_counts (Some None) a.counts).stands (FrameAt f)))
            (same_same (FrameAt f))
            ∙ frames.spelling.reads component (tt, omega arith)
            ∙ ap (λ x. Some (frame_value x)) (sym (frame_here f refl)))
        | inr other ↦ subst (WordIs s' (times_of setup (e ∷ t)) w)
            (sym (ap (λ b. if b then live_now else (keeps (FrameAt f) made_word (holds_counts (Some None) a.counts)).stands w)
            (same_word-other w (LiveAt l) apart_from)
            ∙ ap (λ b. if b then made_word else (holds_counts (Some None) a.counts).stands w) (same_word-other w (FrameAt f) other)))
            (dues_commit setup setting cores t stands c here a active None none_small (comp_due_list m) dues_are
            put_it (Reply.Ok Nothing) after still before_count (λ g d. refl) alike
            unmarked.mark bare_now no_count w
            (sym (ap (λ h. h.marks w) holds_is
            ∙ ap (λ b. if b then true else (keeps (FrameAt f) word (holds_counts None a.counts)).marks w)
            (same_word-other w (LiveAt l) apart_from)
            ∙ ap (λ b. if b then true else (holds_counts None a.counts).marks w) (same_word-other w (FrameAt f) other))
            ∙ (stands.marks w c).owned own))
      ]
    ]
      where
        live_says : NumberIs (s'.number l) (stamp setup (e ∷ t) (NumberOf l)) (live_of_word ((holds_at stage a.counts).stands (LiveAt l)))
        live_says = subst (λ p. NumberIs p (stamp setup (e ∷ t) (NumberOf l))
            (live_of_word ((holds_at stage a.counts).stands (LiveAt l)))) (sym number_here)
            (ap (λ b. live_of_word (if b then live_now else (keeps (FrameAt f) made_word (holds_counts (Some None) a.counts)).stands
            (LiveAt l))) (same_same (LiveAt l)) ∙ lives_words.spelling.reads (LiveWord.Live epoch f) live_fits)

    -- the references
    grows : (g : ℕ) → refs s' g ≡ refs s g + times g names
    grows g =
        let z : refs s' g ≡ refs filled g = ap (λ x. refs x g) now ∙ counted_refs filled c g in
        let p = place_refs framed node index (Holds (comp_cap f)) g
        (calls.node_below setup setting cores t stands c here a active m stage_is has) small_index in
        let q : times g (place_names (framed.place node index)) ≡ 0 = ap (times g) empty.names in
        let r = frame_refs (with_number s l lives) f (Kernel object) g below in
        let n = number_refs s l lives g fits_in.number in
        let w0 : times g (frame_names (s.frame f)) ≡ 0 = ap (λ x. times g (frame_names x)) blank in
        let w1 : times g (number_names (s.number l)) ≡ 0 = ap (times g) takes.names in
        let v0 = sums.times_cons g f (f ∷ m.table ∷ m.pages ∷ []) in
        let v1 = sums.times_cons g f (m.table ∷ m.pages ∷ []) in
        let v2 = sums.times_cons g f [] in
        omega (arith, z, p, q, r, n, w0, w1, v0, v1, v2)

    abbrev Grows : Due → Type 0
    Grows d = (pos (refs s' d.frame) ≡ pos (refs s d.frame) +ℤ d.change)
        × (stamp setup (e ∷ t) (FrameOf d.frame) ≡ max (stamp setup t (FrameOf d.frame)) (later 0 (stamp_of_change d.change None)))

    grows_by : (g n : ℕ) → times g names ≡ n → later 0 (stamp_of_change (pos n) None) ≡ 0 → Grows (due_by g n)
    grows_by g n many none = (
      ap (λ (x : ℕ). pos x) (let more = grows g in omega (arith, more, many)),
      stamp_kept (FrameOf g) ∙ max_zero (stamp setup t (FrameOf g)) ∙ ap (max (stamp setup t (FrameOf g))) (sym none),
    )

    differ : AreDuesApart (comp_due_list m)
    differ = calls.counts_apart setup setting cores t stands c here a active m stage_is has blank

    not_table : f ≢ m.table
    not_table = All-head (λ d. f ≢ d.frame) (due_by m.table 1) (due_by m.pages 1 ∷ []) differ.0

    not_pages : f ≢ m.pages
    not_pages = All-head (λ d. f ≢ d.frame) (due_by m.pages 1) []
        (All-tail (λ d. f ≢ d.frame) (due_by m.table 1) (due_by m.pages 1 ∷ []) differ.0)

    not_both : m.table ≢ m.pages
    not_both = All-head (λ d. m.table ≢ d.frame) (due_by m.pages 1) [] differ.1.0

    times_none : (g : ℕ) → g ≢ f → g ≢ m.table → g ≢ m.pages → times g names ≡ 0
    times_none g one two three =
        times_there g f (f ∷ m.table ∷ m.pages ∷ []) (λ h. one (sym h)) ∙ times_there g f (m.table ∷ m.pages ∷ []) (λ h. one (sym h))
        ∙ times_there g m.table (m.pages ∷ []) (λ h. two (sym h)) ∙ times_there g m.pages [] (λ h. three (sym h))

    twice : times f names ≡ 2
    twice =
        let a = times_here f f (f ∷ m.table ∷ m.pages ∷ []) refl in
        let b = times_here f f (m.table ∷ m.pages ∷ []) refl in
        let d = times_there f m.table (m.pages ∷ []) (λ h. not_table (sym h)) in
        let g = times_there f m.pages [] (λ h. not_pages (sym h)) in
        omega (arith, a, b, d, g)

    once_table : times m.table names ≡ 1
    once_table =
        let a = times_there m.table f (f ∷ m.table ∷ m.pages ∷ []) not_table in
        let b = times_there m.table f (m.table ∷ m.pages ∷ []) not_table in
        let d = times_here m.table m.table (m.pages ∷ []) refl in
        let g = times_there m.table m.pages [] (λ h. not_both (sym h)) in
        omega (arith, a, b, d, g)

    once_pages : times m.pages names ≡ 1
    once_pages =
        let a = times_there m.pages f (f ∷ m.table ∷ m.pages ∷ []) not_pages in
        let b = times_there m.pages f (m.table ∷ m.pages ∷ []) not_pages in
        let d = times_there m.pages m.table (m.pages ∷ []) not_both in
        let g = times_here m.pages m.pages [] refl in
        omega (arith, a, b, d, g)

    all_grow : All Grows (comp_due_list m)
    all_grow =
        All-cons Grows (due_by f 2) (due_by m.table 1 ∷ due_by m.pages 1 ∷ []) (grows_by f 2 twice refl)
        (All-cons Grows (due_by m.table 1) (due_by m.pages 1 ∷ []) (grows_by m.table 1 once_table refl)
        (All-cons Grows (due_by m.pages 1) [] (grows_by m.pages 1 once_pages refl) (All-nil Grows)))

    sums_are : (g : ℕ) → SumIs setup (held_by (put cores c after)) (e ∷ t) g
    sums_are = dues_sum setup setting cores t stands c here a active None none_small (comp_due_list m) dues_are
        put_it (Reply.Ok Nothing) after still before_count (λ g d. refl) alike unmarked.mark
        bare_now no_count (ap (λ l. l.cores) limits)
        (λ g none. (
          (let more = grows g in
              let zero_times = times_none g (All-head (λ d. g ≢ d.frame) (due_by f 2) (due_by m.table 1 ∷ due_by m.pages 1 ∷ []) none)
              (All-head (λ d. g ≢ d.frame) (due_by m.table 1) (due_by m.pages 1 ∷ []) (All-tail (λ d. g ≢ d.frame) (due_by f 2)
              (due_by m.table 1 ∷ due_by m.pages 1 ∷ []) none))
              (All-head (λ d. g ≢ d.frame) (due_by m.pages 1) [] (All-tail (λ d. g ≢ d.frame) (due_by m.table 1) (due_by m.pages 1 ∷ [])
              (All-tail (λ d. g ≢ d.frame) (due_by f 2) (due_by m.table 1 ∷ due_by m.pages 1 ∷ []) none))) in
              omega (arith, more, zero_times)),
          stamp_kept (FrameOf g),
        ))
        all_grow

    -- the reply
    permitted : MayReply s c a.call (Reply.Ok Nothing)
    permitted = (
      not_spent setup (cores c) t c (stands.each c here) (calls.room setup setting cores t stands c here a active m stage_is has),
      (has.acts, subst (λ x. IsFoundAnd x (λ y. y.value ≡ Nothing)) (sym change_is) refl),
    )

    gone : HasReached (e ∷ t) c (ways s c (rule_of s c a.call))
    gone = all_ways s c (own_pages s c) (e ∷ t) (plan_for a.call) (rule_of s c a.call) a.found
        (calls.by_plan setup setting cores t stands c here a active m stage_is has)
        (leads_by (λ n wanted q. HasFound setup t c (own_in (cores c).own.table n) wanted q)
        (λ n wanted q. LeadsIn s c n wanted q × HasReached (e ∷ t) c (way_to s c (own s c n)))
        own_gone (plan_for a.call).names [] a.found has.names)
        (subst (λ x. HasReached (e ∷ t) c (ways s c x)) (sym (calls.left setup setting cores t stands c here a active m stage_is has))
        (subst (λ target. HasReached (e ∷ t) c (way_to s c target))
        (sym (calls.target_is setup setting cores t stands c here a active m stage_is has))
        (way_gone setup t (e ∷ t) c knows.spot.target slot knows.spot.way.reached
        (λ n d h. own_kept t e c refl refl _ (knows.spot.way.stepped n d h)))))
      where
        table_is : (cores c).own.table ≡ (comp_of s c).table
        table_is = (stands.each c here).works.table

        own_gone : (n : ℕ) (wanted : Want) (q : Capability) → HasFound setup t c (own_in (cores c).own.table n) wanted q
            → LeadsIn s c n wanted q × HasReached (e ∷ t) c (way_to s c (own s c n))
        own_gone n wanted q had = (
          found_named setup t c (cores c).own.table n wanted q table_is had,
          subst (λ x. HasReached (e ∷ t) c (way_to s c x)) (own_is s c (cores c).own.table n table_is)
              (way_gone setup t (e ∷ t) c (own_in (cores c).own.table n) had.at had.way.reached
              (λ m d h. own_kept t e c refl refl _ (had.way.stepped m d h))),
        )

    gives_live : KnowsLive setup (e ∷ t) c a.call l live_now f made_word
    gives_live =
        let of : IsCompCall a.call a.found m = calls.is setup setting cores t stands c here a active m stage_is has in record {
          numbers = comp_numbers a.call a.found m of;
          footprint = inl (number_footprint a.call a.found m of s' c);
          bare = ap live_mark (lives_words.spelling.reads (LiveWord.Live epoch f) live_fits);
          small = lives_words.spelling.small (LiveWord.Live epoch f) live_fits;
          unmark = record {
            changes = comp_changes a.call a.found m of;
            argument = comp_argument a.call a.found m of;
            bare = ap frame_mark (frames.spelling.reads component (tt, omega arith));
            small = frames.spelling.small component (tt, omega arith);
          };
        }

    pub put_won : GoodTook setup cores t c put_it (landed a (comp_published m word last true))
    put_won lands = decides_writing setup setting cores t stands c here a active put_it count (Reply.Ok Nothing) a.found stage
        unmarked.mark bare_now (subst (λ (n : ℕ). n < 2 ^ 64) (sym leaves_it) (entries.spelling.small (Held k) fits)) of_call lands opens
        refl
        same_held
        (λ g i. counts_bare (Some None) a.counts g i ∙ sym (ap (λ h. h.bare g i) held ∙ counts_bare None a.counts g i))
        (not_exclusive_word setup cores t stands node index (node_keeps_none (s.frame node) in_node))
        alike begins_none (spares_node setup t e node index refl in_node)
        (inl (ap untypes (calls.is setup setting cores t stands c here a active m stage_is has).call_is)) rises works stays
        (subst (WordIs s' (times_of setup (e ∷ t)) (EntryAt node index)) (sym leaves_it) word_now) commits sums_are
        (record { call = a.call; is_open = is_open; permitted = permitted; justified = gone })
        (λ is_alone. ok_first s c a.call Nothing permitted)
        gives_live

  put_good : GoodTook setup cores t c put_it (landed a (comp_published m word last (was == m.fill.word)))
  put_good = by_test (was == m.fill.word) refl
    where
      by_test : (equal : Bool) → (was == m.fill.word) ≡ equal
          → GoodTook setup cores t c put_it (landed a (comp_published m word last equal))
      by_test true is = put_won is
      by_test false is = put_lost setup setting cores t stands c here a active m stage_is has word last at_is is

-- A step of the making of a component is good.
pub comp_good : (setup : Setting) → IsSetting setup → (cores : ℕ → Core) (t : Trace) → Invariant setup cores t → (c : ℕ) → c < setup.cores
    → (a : ActiveCall) → (cores c).active ≡ Some a → (m : CompMaking)
    → a.stage ≡ Undecided (Act (comp_act m))
    → KnowsUndecided setup t c (cores c).own.table a (Act (comp_act m))
    → GoodTook setup cores t c (comp_move m) (landed a (took_comp m
    (told_of (comp_move m) (last_left setup t (word_of (comp_move m))))))
comp_good setup setting cores t stands c here a active m stage_is has = by m.at refl
  where
    held_at : (at : CompAt) → m.at ≡ at → holds_in (Some a) ≡ holds_comp m at (holds_counts None a.counts)
    held_at at at_is = ap (λ stage. holds_at stage a.counts) stage_is ∙ ap (λ x. holds_comp m x (holds_counts None a.counts)) at_is

    dues_at : (at : CompAt) → m.at ≡ at → comp_dues m at ≡ map due_of a.counts
    dues_at at at_is = ap (comp_dues m) (sym at_is) ∙ has.knows.all

    knows_at : (at : CompAt) → m.at ≡ at → KnowsCompAt setup t c m at
    knows_at at at_is = subst (KnowsCompAt setup t c m) at_is has.knows.knows.at

    scans : (word : ℕ) (last : LastEpoch) (q : Quiet) → m.at ≡ Scan word last q
        → GoodTook setup cores t c (quiet_move q) (landed a (number_scanned m word last
        (quiet_after m.cores q (told_of (quiet_move q) (last_left setup t (word_of (quiet_move q)))))
        (quiet_end m.cores q (told_of (quiet_move q) (last_left setup t (word_of (quiet_move q)))))))
    scans word last (AtCore x by at page) at_is =
        let known = knows_at (Scan word last (AtCore x by at page)) at_is in
        scan_step_good setup setting cores t stands c here a active m stage_is has word (held_at _ at_is) known.0 (dues_at _ at_is)
        last x by at page at_is known.1
    scans word last (AtFlush x at) at_is = absurd (knows_at (Scan word last (AtFlush x at)) at_is).1

    by : (at : CompAt) → m.at ≡ at
        → GoodTook setup cores t c (comp_at m at) (landed a (took_comp_at m at
        (told_of (comp_at m at) (last_left setup t (word_of (comp_at m at))))))
    by Load at_is = load_good setup setting cores t stands c here a active m stage_is has at_is
    by (Mark word) at_is = mark_good setup setting cores t stands c here a active m stage_is has word at_is
    by (LoadLive word) at_is = load_live_good setup setting cores t stands c here a active m stage_is has word (held_at _ at_is)
        (knows_at (LoadLive word) at_is) (dues_at _ at_is)
    by (Scan word last q) at_is = scans word last q at_is
    by (Close word last) at_is = close_good setup setting cores t stands c here a active m stage_is has word last at_is
    by (Store word last n) at_is = store_good setup setting cores t stands c here a active m stage_is has word last n at_is
    by (Fill word last) at_is = put_good setup setting cores t stands c here a active m stage_is has word last at_is
