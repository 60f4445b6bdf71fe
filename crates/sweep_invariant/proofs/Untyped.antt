-- The draw of a retype to untyped: the call is carried out, and the frame is untyped from then on. Nothing referred to it, and nobody
-- waited for it; its grace period is ended, and the references of its object are released.
use Rattle.freeze_invariant.specs.kept_facts.proofs.{Want, IsSome, ◌≡◌, ◌≢◌, inl, inr, ℕ, pos, negsuc, ◌+ℤ◌, max, length, ◌+◌, ◌^◌, ◌<◌}
use Rattle.freeze_invariant.specs.kept_facts.proofs.{◌≤◌, Bool, true, false, List, [], ◌∷◌, Option, Some, None, arith, refl, sym, ◌∙◌, ap}
use Rattle.freeze_invariant.specs.kept_facts.proofs.{subst, eq-eqb, eqb-true, ne_eqb, false≢true, Capability, Setting, IsSetting, Reply}
use Rattle.freeze_invariant.specs.kept_facts.proofs.{CountFits, count_of_word, word_of_count, FrameFits, frame_of_word, word_of_frame}
use Rattle.freeze_invariant.specs.kept_facts.proofs.{CountWord, FrameWord, Word, EntryAt, FrameAt, CountAt, CoreAt, FlushAt, LiveAt}
use Rattle.freeze_invariant.specs.kept_facts.proofs.{ClockAt, same_word, AddOf, Untyped, Thing, PlaceOf, FrameOf, NumberOf, State, put}
use Rattle.freeze_invariant.specs.kept_facts.proofs.{comp_in, thread_in, with_frame, Slot, own, Change, Found, IsFoundAnd, frames_of}
use Rattle.freeze_invariant.specs.kept_facts.proofs.{is_empty, frame_names, times, refs, MayReply, rule_of, ends_by, flushes_by, changed}
use Rattle.freeze_invariant.specs.kept_facts.proofs.{change_of, counted, same_thing, new_grace, calls_counted, frame_refs, grace_refs}
use Rattle.freeze_invariant.specs.kept_facts.proofs.{opened, put_same, put_other, counters, count_in, count_sum, events_of, HasReached}
use Rattle.freeze_invariant.specs.kept_facts.proofs.{marked_by, mark_of, mark_in_frame, frame_value, ends_in, flushes_in, begins_at}
use Rattle.freeze_invariant.specs.kept_facts.proofs.{ends_at, flushes_at, stamp, clock, flush_stored, Step, Trace, Open, phase, state_after}
use Rattle.freeze_invariant.specs.kept_facts.proofs.{state_decided_in, last_left, own_left, way_to, ways, ok_first, decided-inside}
use Rattle.freeze_invariant.specs.kept_facts.proofs.{cases_word, same_word-other, sound_of, stamp-begins, stamp-kept, flush_stored-own}
use Rattle.freeze_invariant.specs.kept_facts.proofs.{flush_stored-other, last_left-there, drawn_stamp, later, unheld, Acquired}
use Rattle.freeze_invariant.specs.kept_facts.proofs.{latest_stamp, thaw_of, own_pages, LeadsIn, leads_by, release_of, Untyping, Due, Act}
use Rattle.freeze_invariant.specs.kept_facts.proofs.{Stage, Undecided, Decided, ActiveCall, landed, Core, holds_release, holds_thaw}
use Rattle.freeze_invariant.specs.kept_facts.proofs.{Holding, holds_counts, settled_by, settled, WordIs, HasFound, KnowsUndecided, WorksIn}
use Rattle.freeze_invariant.specs.kept_facts.proofs.{own_in, holds, held_by, times_of, counted_in, count_shown, SumIs, Invariant, names_of}
use Rattle.freeze_invariant.specs.kept_facts.proofs.{counts_bare, calm_counted, plain_exit, counted_refs, release_entry, limits_of}
use Rattle.freeze_invariant.specs.kept_facts.proofs.{HoldsSwept, release_swept, ReadsAlike, StaysSaid, own_settled, word_stays, own_kept}
use Rattle.freeze_invariant.specs.kept_facts.proofs.{phase_at, IsFrameWord, frame_mark, first_of_stack, thread_of, stamp_of_change}
use Rattle.freeze_invariant.specs.kept_facts.proofs.{loads_of, if◌then◌else◌, All, residue, begins_in as begins_then, Untype as untype_act}
use Rattle.freeze_invariant.specs.kept_facts.proofs.{Release as release_tail, counts as calm_counts, same_works, counted_grows, no_refs}
use Rattle.freeze_invariant.specs.kept_facts.proofs.{does, plan_for, Value}
use Rattle.freeze_invariant.specs.core_invariant.proofs.{Swept, stamp_in, thaws_own, newest_of, release_away, release_bare, release_frame}
use Rattle.freeze_invariant.specs.core_invariant.proofs.{thaw_all, thaw_from}
use Rattle.freeze_invariant.specs.kernel_rules.specs.{retypes, begins_in, no_grace, begun, Nothing as no_value}
use Rattle.freeze_invariant.specs.core_invariant.specs.{is_frozen, KnowsSwept, ThawsFrame}
use Rattle.freeze_invariant.specs.count_invariant.proofs.{own_is, found_named, way_gone}
use Rattle.freeze_invariant.specs.step_ways.proofs.{GoodTook, clock_small, same_marks}
use Rattle.freeze_invariant.specs.act_states.specs.{typed, owned_dues}
use Rattle.freeze_invariant.specs.kernel_history.proofs.{all_counters, stamp-ends}
use Rattle.std.proofs.{lemmas.Bool.cases_eq, lemmas.List.Elements.All-nil, Math.IntN.pos-+ℤ-pos, Math.IntN.+ℤ_assoc, Math.IntN.+ℤ_invr}
use Rattle.freeze_invariant.specs.act_states.specs.{declared.untypings.UntypingAt.TheVariants.Draw, Taking.drawn_untyped}
use Rattle.freeze_invariant.specs.core_invariant.proofs.Freezing.{IsFrozenWord, frozen_word}
use Rattle.freeze_invariant.specs.kept_facts.proofs.Swept.{frame_says, release_counter, stamp_is}
use Rattle.freeze_invariant.specs.kept_facts.proofs.FrozenSums.{cleared_sum, counters_length}
use Rattle.freeze_invariant.specs.count_invariant.proofs.CountChanges.{spared_commit, spared_sum}
use Rattle.freeze_invariant.specs.place_invariant.proofs.Removals.{frame_none, frame_some}
use Rattle.freeze_invariant.specs.place_invariant.proofs.Vacancy.{none_unflushed, none_waits}
use Rattle.sweep_invariant.proofs.Emptied.{acquired_all, acquired_away, count_word, due_each, due_none, looked_empty}
use Rattle.sweep_invariant.proofs.FreeEntries.{counts_entry, entry_unmarked, no_thread}
use Rattle.sweep_invariant.proofs.OwnedFrames.{Differ, OwnedApart, names_differ, owned_apart}
use Rattle.{std.specs.List.list_any, std.proofs.Math.IntN.+ℤ_idr}
use Rattle.{freeze_invariant.specs.act_states.specs.declared.untypings.Release.Release}
use Rattle.{freeze_invariant.specs.kernel_invariant.proofs.SoundRemovals.frames_no_place}
use Rattle.{freeze_invariant.specs.found_stays.proofs.Stays.comp_named, freeze_invariant.specs.plan_ways.proofs.Ways.all_ways}
use Rattle.{freeze_invariant.proofs.UntypeCalls.typed_is}
use Rattle.freeze_invariant.specs.spk_nums.specs.declared.kinds.FrameKind.TheVariants as kind
use Rattle.freeze_invariant.specs.frame_words.proofs.CountLemmas as counts
use Rattle.freeze_invariant.specs.frame_words.proofs.FrameLemmas as frames
use Rattle.freeze_invariant.specs.step_ways.proofs.Draws as drawing
use Rattle.freeze_invariant.proofs.UntypeCalls as calls

-- A count that falls by one.
one_less : (m n : ℕ) → n + 1 ≡ m → pos n ≡ pos m +ℤ negsuc 0
one_less m n is = sym (ap (λ (k : ℕ). pos k +ℤ negsuc 0) (sym is) ∙ ap (λ z. z +ℤ negsuc 0) (sym (pos-+ℤ-pos n 1)) ∙ +ℤ_assoc (pos n)
    (pos 1) (negsuc 0) ∙ ap (λ z. pos n +ℤ z) (+ℤ_invr (pos 1)) ∙ +ℤ_idr (pos n))

-- What is held of the frame's counters does not depend on whether they are cleared.
thaw_marks : (w : Swept) (h : Holding) (q : Word) → (holds_thaw (thaw_of w true) h).marks q ≡ (holds_thaw (thaw_of w false) h).marks q
thaw_marks w h q = (thaw_all w true h q).0 ∙ frozen_same q ∙ sym (thaw_all w false h q).0
  where
    frozen_same : (u : Word) → (if is_frozen (thaw_from w true) u then true else h.marks u)
        ≡ (if is_frozen (thaw_from w false) u then true else h.marks u)
    frozen_same (EntryAt f i) = refl
    frozen_same _ = refl

thaw_beside : (w : Swept) (clear : Bool) (h g : Holding) (q : Word) → h.marks q ≡ g.marks q
    → (holds_thaw (thaw_of w clear) h).marks q ≡ (holds_thaw (thaw_of w clear) g).marks q
thaw_beside w clear h g q same =
    (thaw_all w clear h q).0 ∙ ap (λ b. if is_frozen (thaw_from w clear) q then true else b) same ∙ sym (thaw_all w clear g q).0

-- A counter that is cleared, and the word of an untyped frame.
clear_fits : CountFits (unheld (pos 0) 0)
clear_fits = (tt, (omega arith), (omega arith))

clear_reads : count_of_word (word_of_count (unheld (pos 0) 0)) ≡ Some (unheld (pos 0) 0)
clear_reads = counts.spelling.reads (unheld (pos 0) 0) clear_fits

bare_fits : FrameFits (typed kind.Untyped)
bare_fits = (tt, (omega arith))

bare_reads : frame_of_word (word_of_frame (typed kind.Untyped)) ≡ Some (typed kind.Untyped)
bare_reads = frames.spelling.reads (typed kind.Untyped) bare_fits

module _ (setup : Setting) (setting : IsSetting setup) (cores : ℕ → Core) (t : Trace) (stands : Invariant setup cores t) (c : ℕ)
    (here : c < setup.cores)
    (a : ActiveCall) (active : (cores c).active ≡ Some a) (f core word : ℕ) (w : Swept)
    (stage_is : a.stage ≡ Undecided (Act (untype_act (record { frame = f; core = core; at = Draw word w }))))
    (has : KnowsUndecided setup t c (cores c).own.table a (Act (untype_act (record { frame = f; core = core; at = Draw word w })))) where
  abbrev s : State
  s = state_after setup t

  abbrev m : Untyping
  m = record { frame = f; core = core; at = Draw word w }

  abbrev thing : Thing
  thing = FrameOf f

  abbrev x : ℕ
  x = clock setup t

  abbrev r : Reply
  r = Reply.Ok Value.Nothing

  abbrev ds : List Due
  ds = owned_dues w.owned

  abbrev fs : List ℕ
  fs = frame_names (s.frame f)

  knows : KnowsSwept setup t c f word w
  knows = has.knows.knows.at

  opens : phase_at a.call a.stage ≡ Open a.call
  opens = calls.opens setup setting cores t stands c here a active m stage_is has

  is_open : phase t c ≡ Open a.call
  is_open = calls.is_open setup setting cores t stands c here a active m stage_is has

  -- what it holds
  held_before : holds (cores c) ≡ holds_release (release_of f word w false) (holds_counts None a.counts)
  held_before = calls.holds_is setup setting cores t stands c here a active m stage_is has (Draw word w) refl

  settles : (q : Word) → (holds (cores c)).marks q ≡ true → settled setup (held_by cores) t q ≡ (holds (cores c)).stands q
  settles q is = ap (λ o. settled_by o (held_by cores) q (last_left setup t q)) ((stands.marks q c).kept is)

  swept : HoldsSwept (holds (cores c)) f word w.words
  swept = subst (λ h. HoldsSwept h f word w.words) (sym held_before) (release_swept f word w (holds_counts None a.counts) knows.frame)

  shown : knows.shown ≡ frame_value (s.frame f)
  shown = same_value knows.shown (frame_value (s.frame f)) (sym knows.met.says
      ∙ frame_says setup cores t stands c f word w.words (holds (cores c)) settles swept knows.kept)
    where
      same_value : (y z : FrameWord) → Some y ≡ Some z → y ≡ z
      same_value y z h = cc

  -- nothing refers to the frame, and nobody else waits for it
  zero_refs : refs s f ≡ 0
  zero_refs =
      no_refs setup cores t stands c f word w.words (holds (cores c)) settles swept knows.kept knows.swept.frozen setting

  since : stamp setup t thing ≡ latest_stamp w.words
  since = stamp_is setup cores t stands c f word w.words (holds (cores c)) settles swept knows.kept knows.swept.frozen

  below_cores : (d : ℕ) → d < s.limits.cores → d < setup.cores
  below_cores d low = subst (λ (n : ℕ). d < n) (ap (λ l. l.cores) (limits_of setup t)) low

  quiet : (d : ℕ) → d < setup.cores → d ≢ c → (s.grace thing).waits d ≡ false
  quiet d below other = knows.swept.quiet.passed d below other since

  own_free : (j : ℕ) → (holds (cores c)).marks (EntryAt f j) ≡ false
  own_free j = ap (λ h. h.marks (EntryAt f j)) held_before
      ∙ (release_entry (release_of f word w false) (holds_counts None a.counts) f j).0 ∙ counts_entry None a.counts f j

  unmarked : (i : ℕ) → marked_by setup t (EntryAt f i) ≡ None
  unmarked = entry_unmarked setup setting cores t stands f zero_refs c quiet own_free

  -- its object is empty, and names what is due
  whole : loads_of (frame_value (s.frame f)).object
      ≤ loads_of knows.shown.object
  whole = let same = ap (λ y. loads_of y.object) shown in omega (arith, same)

  empty : is_empty s f (s.frame f) ≡ true
  empty = looked_empty s f (loads_of knows.shown.object) w.owned whole knows.swept.looked

  differ : Differ f (names_of w.owned.first w.owned.second)
  differ = subst (Differ f) (sym knows.names)
      (names_differ s (opened (events_of t)) (sound_of setup setting t stands.legal) f
      (loads_of knows.shown.object) w.owned whole knows.swept.looked)

  apart : OwnedApart f ds
  apart = owned_apart f w.owned.first w.owned.second differ

  away : All (λ (y : Acquired). y.pin.frame ≢ f) a.counts
  away = acquired_all (λ g. g ≢ f) a.counts (subst (All (λ (d : Due). d.frame ≢ f)) has.knows.all apart.own)

  -- the change
  abbrev change : Change
  change = does c s no_value (retypes f kind.Untyped ∷ [])

  is_change : change_of s c a.call ≡ Found change
  is_change = calls.by_causes setup setting cores t stands c here a active m stage_is has None None None None None
      (calls.kind_none setup setting cores t stands c here a active m stage_is has (typed_is (s.frame f) knows.shown shown knows.met.kind))
      (calls.refs_none setup setting cores t stands c here a active m stage_is has zero_refs)
      (none_waits s c thing (λ d low other. quiet d (below_cores d low) other))
      (none_unflushed s thing (λ d low. knows.swept.quiet.flushed d (below_cores d low) since))
      (ap (λ b. if Rattle.std.specs.Prelude.not b then Some Reply.NotEmpty else None) empty)

  abbrev untyped : State
  untyped = counted (begun s change.begins change.next) c

  abbrev made : ℕ
  made = (cores c).own.made + calls_counted r

  core_below : c < s.limits.cores
  core_below = subst (λ (n : ℕ). c < n) (sym (ap (λ l. l.cores) (limits_of setup t))) here

  -- the stage is that after the draw
  module _ (now_at : ℕ) (drawn_is : now_at ≡ x) where
    abbrev x_after : Release
    x_after = release_of f (word_of_frame (typed kind.Untyped)) w true

    abbrev stage : Stage
    stage = Decided r (Some now_at) (release_tail x_after)

    abbrev e : Step
    e = drawing.e setup setting cores t stands c here a active r stage made

    abbrev after : Core
    after = drawing.after setup setting cores t stands c here a active r stage made

    abbrev s' : State
    s' = state_after setup (e ∷ t)

    now : s' ≡ untyped
    now = ap (λ p. state_decided_in p r s c) is_open ∙ ap (λ y. counted (changed s y) c) is_change

    frame_now : s'.frame f ≡ Untyped
    frame_now = ap (λ y. y.frame f) now ∙ put_same s.frame f Untyped f refl

    frames_now : (g : ℕ) → g ≢ f → s'.frame g ≡ s.frame g
    frames_now g other = ap (λ y. y.frame g) now ∙ put_other s.frame f Untyped g other

    limits : s'.limits ≡ s.limits
    limits = ap (λ y. y.limits) now

    -- no word of the frame carries a mark, and none does where it is untyped
    alike : ReadsAlike setup t e
    alike (EntryAt g i) = elim (cases_eq g f) [
      | inl same ↦
          let left : last_left setup (e ∷ t) (EntryAt g i) ≡ last_left setup t (EntryAt g i) =
          last_left-there setup (EntryAt g i) e t (λ h. no_entry g i h) in
          ap (λ y. mark_in_frame y i (last_left setup (e ∷ t) (EntryAt g i))) (ap s'.frame same ∙ frame_now)
          ∙ sym (ap (mark_of s (EntryAt g i)) left ∙ ap (λ (n : ℕ). marked_by setup t (EntryAt n i)) same ∙ unmarked i)
      | inr other ↦ ap (λ y. mark_in_frame y i (last_left setup (e ∷ t) (EntryAt g i))) (frames_now g other)
    ]
      where
        no_entry : (g i : ℕ) → EntryAt g i ≢ ClockAt
        no_entry g i h = cc
    alike (FrameAt g) = refl
    alike (CountAt g d) = refl
    alike (CoreAt d) = refl
    alike (FlushAt d) = refl
    alike (LiveAt l) = refl
    alike ClockAt = refl

    begins : (y : Thing) → begins_at setup t e y ≡ list_any (same_thing y) (frames_of fs)
    begins y = ap (λ p. begins_then (Some r) p s c y) is_open ∙ ap (λ z. begins_in z y) is_change

    ends : (y : Thing) → ends_at t e y ≡ same_thing y thing
    ends y = ap (λ p. ends_in (Some r) p y) is_open
        ∙ ap (λ z. ends_by z y) (calls.is setup setting cores t stands c here a active m stage_is has).call_is

    no_flush : flushes_at t e ≡ false
    no_flush = ap (flushes_in (Some r)) is_open
        ∙ ap flushes_by (calls.is setup setting cores t stands c here a active m stage_is has).call_is

    -- it names itself nowhere
    own_times : times f fs ≡ 0
    own_times = ap (times f) (sym knows.names) ∙ due_none f w.owned.first w.owned.second (turned ds apart.own)
      where
        turned : (xs : List Due) → All (λ (d : Due). d.frame ≢ f) xs → All (λ (d : Due). f ≢ d.frame) xs
        turned xs h k d at = λ same. h k d at (sym same)

    stamp_own : stamp setup (e ∷ t) thing ≡ 0
    stamp_own = stamp-ends setup e t thing (begins thing ∙ frame_none f fs own_times) (ends thing ∙ eq-eqb f f refl)

    stamp_named : (g : ℕ) → times g fs ≡ 1 → stamp setup (e ∷ t) (FrameOf g) ≡ x
    stamp_named g one = stamp-begins setup e t (FrameOf g)
        (begins (FrameOf g) ∙ frame_some g fs (λ none. absurd (omega (arith, one, none))))

    stamp_stays : (g : ℕ) → g ≢ f → times g fs ≡ 0 → stamp setup (e ∷ t) (FrameOf g) ≡ stamp setup t (FrameOf g)
    stamp_stays g other none =
        stamp-kept setup e t (FrameOf g) (begins (FrameOf g) ∙ frame_none g fs none) (ends (FrameOf g) ∙ ne_eqb g f other)

    stamp_place : (g i : ℕ) → stamp setup (e ∷ t) (PlaceOf g i) ≡ stamp setup t (PlaceOf g i)
    stamp_place g i = stamp-kept setup e t (PlaceOf g i) (begins (PlaceOf g i) ∙ frames_no_place g i fs) (ends (PlaceOf g i))

    no_number : (l : ℕ) (gs : List ℕ) → list_any (same_thing (NumberOf l)) (frames_of gs) ≡ false
    no_number l [] = refl
    no_number l (g ∷ gs) = no_number l gs

    stamp_number : (l : ℕ) → stamp setup (e ∷ t) (NumberOf l) ≡ stamp setup t (NumberOf l)
    stamp_number l = stamp-kept setup e t (NumberOf l) (begins (NumberOf l) ∙ no_number l fs) (ends (NumberOf l))

    -- what the core has counted
    one_counted : ((counted s c).core c).counted ≡ (s.core c).counted + 1
    one_counted = ap (λ k. k.counted) (put_same s.core c (record (s.core c) { counted = (s.core c).counted + 1 }) c refl)

    one_more : (s'.core c).counted ≡ (s.core c).counted + 1
    one_more = ap (λ y. (y.core c).counted) now ∙ one_counted

    counts_are : made ≡ (s'.core c).counted
    counts_are = let own = (stands.each c here).works.made in let more = one_more in omega arith

    own_stays : s'.core c ≡ calm_counts (s.core c) (s'.core c).inside (s'.core c).counted
    own_stays = subst (λ y. y.core c ≡ calm_counts (s.core c) (y.core c).inside (y.core c).counted) (sym now) (calm_counted s c).own

    own_comp : first_of_stack (thread_of s c).stack ≢ f
    own_comp same =
        let some = comp_named s (opened (events_of t)) c (sound_of setup setting t stands.legal) core_below in
        let is : refs s (first_of_stack (thread_of s c).stack) ≡ refs s f =
        ap (refs s) same in
        let none = zero_refs in
        omega (arith, some, is, none)

    works : WorksIn (record (cores c).own { made = made }) s' c
    works = same_works s s' c (cores c).own (record (cores c).own { made = made })
        (ap thread_in (frames_now (s.core c).thread (no_thread setup setting cores t stands f zero_refs c here)))
        (ap comp_in (frames_now (first_of_stack (thread_of s c).stack)
        own_comp))
        own_stays (ap (λ (n : ℕ). record (cores c).own { made = n }) counts_are) (stands.each c here).works

    grows : counted_in setup s + 1 ≤ counted_in setup s'
    grows = subst (λ y. counted_in setup s + 1 ≤ counted_in setup y) (sym now)
        (counted_grows setup s (counted s c) c (calm_counted s c) here one_counted)

    stored_same : (d : ℕ) → flush_stored (e ∷ t) d ≡ flush_stored t d
    stored_same d = elim (cases_eq d c) [
      | inl own ↦ flush_stored-own d e t own
      | inr other ↦ flush_stored-other d e t other
    ]

    -- all words but the clock and those that the call holds say what they said
    frame_held : marked_by setup t (FrameAt f) ≡ Some c
    frame_held = (stands.marks (FrameAt f) c).kept swept.marks

    stays : (q : Word) → q ≢ ClockAt → marked_by setup t q ≢ Some c → StaysSaid setup cores t e q
    stays (EntryAt g i) no_clock bare = elim (cases_eq g f) [
      | inl same ↦ λ is. subst (λ y. IsFrameWord s'.limits.frames y (s'.place g i)
          (stamp setup (e ∷ t) (PlaceOf g i)) i (settled setup (held_by cores) t (EntryAt g i))) (sym (ap s'.frame same ∙ frame_now)) tt
      | inr other ↦ word_stays s s' (times_of setup t) (times_of setup (e ∷ t))
          (EntryAt g i) (settled setup (held_by cores) t (EntryAt g i))
          (record {
            frames = ap (λ l. l.frames) limits;
            frame = frames_now g other;
            place = ap (λ y. y.place g i) now;
            stamp = stamp_place g i;
          })
    ]
    stays (FrameAt g) no_clock bare = elim (cases_eq g f) [
      | inl same ↦ absurd (bare (ap (λ (n : ℕ). marked_by setup t (FrameAt n)) same ∙ frame_held))
      | inr other ↦ word_stays s s' (times_of setup t) (times_of setup (e ∷ t)) (FrameAt g) (settled setup (held_by cores) t (FrameAt g))
          (frames_now g other)
    ]
    stays (CountAt g d) no_clock bare =
        word_stays s s' (times_of setup t) (times_of setup (e ∷ t)) (CountAt g d) (settled setup (held_by cores) t (CountAt g d))
        tt
    stays (CoreAt d) no_clock bare =
        word_stays s s' (times_of setup t) (times_of setup (e ∷ t)) (CoreAt d) (settled setup (held_by cores) t (CoreAt d))
        (record { inside = decided-inside (Some r) (phase t c) s c d; exit = plain_exit t e refl d })
    stays (FlushAt d) no_clock bare =
        word_stays s s' (times_of setup t) (times_of setup (e ∷ t)) (FlushAt d)
        (settled setup (held_by cores) t (FlushAt d)) (stored_same d)
    stays (LiveAt l) no_clock bare =
        word_stays s s' (times_of setup t) (times_of setup (e ∷ t)) (LiveAt l) (settled setup (held_by cores) t (LiveAt l))
        (record { number = ap (λ y. y.number l) now; stamp = stamp_number l })
    stays ClockAt no_clock bare = absurd (no_clock refl)

    -- the call holds what it held
    held_after : holds after ≡ holds_release x_after (holds_counts (Some (Some now_at)) a.counts)
    held_after = refl

    still : (q : Word) → (holds after).marks q ≡ (holds (cores c)).marks q
    still q = ap (λ b. if same_word q (FrameAt f) then true else b)
        (thaw_beside w true (holds_counts (Some (Some now_at)) a.counts) (holds_counts None a.counts) q
        (same_marks (Some (Some now_at)) None a.counts q) ∙ thaw_marks w (holds_counts None a.counts) q)
        ∙ sym (ap (λ h. h.marks q) held_before)

    thaws : (clear : Bool) → ThawsFrame f (thaw_of w clear)
    thaws clear = subst (λ (n : ℕ). ThawsFrame n (thaw_of w clear)) knows.frame (thaws_own w clear)

    before_count : (g d : ℕ) → g ≢ f → ((holds (cores c)).marks (CountAt g d) ≡ (holds_counts None a.counts).marks (CountAt g d))
        × ((holds (cores c)).stands (CountAt g d) ≡ (holds_counts None a.counts).stands (CountAt g d))
    before_count g d other =
        let same = release_away (release_of f word w false) (holds_counts None a.counts) g d (thaws false) other in (
          ap (λ h. h.marks (CountAt g d)) held_before ∙ same.0,
          ap (λ h. h.stands (CountAt g d)) held_before ∙ same.1,
        )

    after_count : (g d : ℕ) → g ≢ f → (holds after).stands (CountAt g d) ≡ (holds_counts (Some (Some now_at)) a.counts).stands (CountAt g d)
    after_count g d other = (release_away x_after (holds_counts (Some (Some now_at)) a.counts) g d (thaws true) other).1

    -- a counter of the frame is cleared
    own_counter : (d : ℕ) → d < length w.words → (marked_by setup t (CountAt f d) ≡ Some c)
        × ((holds after).stands (CountAt f d) ≡ word_of_count (unheld (pos 0) 0))
    own_counter d below = (
      (stands.marks (CountAt f d) c).kept (swept.counts d below).0,
      (release_counter f (word_of_frame (typed kind.Untyped)) w true (holds_counts (Some (Some now_at)) a.counts) d knows.frame below).1,
    )

    no_count : (g d : ℕ) → CountAt g d ≢ ClockAt
    no_count g d h = cc

    -- references
    falls : (g : ℕ) → refs s' g + times g fs ≡ refs s g
    falls g =
        let one = frame_refs s f Untyped g (calls.below setup setting cores t stands c here a active m stage_is has) in
        let two = grace_refs (with_frame s f Untyped) (λ y. if same_thing y thing then no_grace else s.grace y) g in
        let three = grace_refs change.next (λ y. if list_any (same_thing y) (frames_of fs) then new_grace s y else change.next.grace y) g in
        let four = counted_refs (begun s change.begins change.next) c g in
        let five : refs s' g ≡ refs untyped g = ap (λ y. refs y g) now in
        let none : times g (frame_names Untyped) ≡ 0 = refl in
        omega (arith, one, two, three, four, five, none)

    drawn_small : later 0 (Some now_at) < 2 ^ 43
    drawn_small = let low = clock_small setup setting cores t stands in let is = drawn_is in omega arith

    kept : (g : ℕ) → g ≢ f → All (λ (d : Due). g ≢ d.frame) ds
        → (refs s' g ≡ refs s g) × (stamp setup (e ∷ t) (FrameOf g) ≡ stamp setup t (FrameOf g))
    kept g other not_due =
        let none : times g fs ≡ 0 = ap (times g) (sym knows.names) ∙ due_none g w.owned.first w.owned.second not_due in
        ((let less = falls g in omega (arith, less, none)), stamp_stays g other none)

    changes : All (λ (d : Due). (pos (refs s' d.frame) ≡ pos (refs s d.frame) +ℤ d.change)
        × (stamp setup (e ∷ t) (FrameOf d.frame) ≡ max (stamp setup t (FrameOf d.frame))
        (later 0 (stamp_of_change d.change (Some now_at))))) ds
    changes = due_each (λ (d : Due). (pos (refs s' d.frame) ≡ pos (refs s d.frame) +ℤ d.change)
        × (stamp setup (e ∷ t) (FrameOf d.frame) ≡ max (stamp setup t (FrameOf d.frame))
        (later 0 (stamp_of_change d.change (Some now_at))))) f w.owned.first w.owned.second differ
        (λ g once.
        let one : times g fs ≡ 1 = ap (times g) (sym knows.names) ∙ once in (
          one_less (refs s g) (refs s' g) (let less = falls g in omega (arith, less, one)),
          stamp_named g one ∙ latest (stamp setup t (FrameOf g)) (stands.graces (FrameOf g)).past,
        ))
      where
        latest : (y : ℕ) → y < x → x ≡ max y (max 0 now_at)
        latest y past = let is = drawn_is in omega (arith, past, is)

    -- sums
    own_shown : (d : ℕ) → d < length w.words → count_shown setup (held_by (put cores c after)) (e ∷ t) f d ≡ Some (unheld (pos 0) 0)
    own_shown d below = ap count_of_word (own_settled setup cores t e after still alike refl refl (CountAt f d) (no_count f d)
        (own_counter d below).0 ∙ (own_counter d below).1) ∙ clear_reads

    own_refs : refs s' f ≡ 0
    own_refs = let less = falls f in let none = zero_refs in omega (arith, less, none)

    -- all counters of the frame are held, so all are cleared
    counter_below : (d : ℕ) → d < setup.cores → d < length w.words
    counter_below d below = let all = knows.swept.frozen.all ∙ counters_length setup.cores in omega (arith, all, below)

    abbrev own_counts : ℕ → Option CountWord
    own_counts = count_shown setup (held_by (put cores c after)) (e ∷ t) f

    cleared : (count_sum own_counts (counters setup.cores) ≡ pos 0) × (newest_of own_counts (counters setup.cores) ≡ 0)
    cleared = cleared_sum own_counts (counters setup.cores)
        (all_counters (λ (d : ℕ). (count_in (own_counts d) ≡ pos 0) × (stamp_in (own_counts d) ≡ 0)) setup.cores
        (λ d below. let is = own_shown d (counter_below d below) in (ap count_in is, ap stamp_in is)))

    counters_now : counters s'.limits.cores ≡ counters setup.cores
    counters_now = ap (λ l. counters l.cores) (limits ∙ limits_of setup t)

    own_sum : SumIs setup (held_by (put cores c after)) (e ∷ t) f
    own_sum = record {
      sum = ap residue (ap (count_sum own_counts) counters_now ∙ cleared.0) ∙ ap (λ (n : ℕ). residue (pos n)) (sym own_refs);
      newest = ap (newest_of own_counts) counters_now ∙ cleared.1 ∙ sym stamp_own;
    }

    sums : (g : ℕ) → SumIs setup (held_by (put cores c after)) (e ∷ t) g
    sums g = elim (cases_eq g f) [
      | inl same ↦ subst (SumIs setup (held_by (put cores c after)) (e ∷ t)) (sym same) own_sum
      | inr other ↦ spared_sum setup setting cores t stands c here a active (Some now_at) drawn_small ds has.knows.all
          (λ (n : ℕ). n ≢ f) away (AddOf ClockAt 1) r after still before_count after_count alike refl
          refl no_count (ap (λ l. l.cores) limits) kept changes g other
    ]

    -- each word that the call holds stands for what is now
    frame_word_now : WordIs s' (times_of setup (e ∷ t)) (FrameAt f) ((holds after).stands (FrameAt f))
    frame_word_now = ap frame_of_word (release_frame x_after (holds_counts (Some (Some now_at)) a.counts)).1 ∙ bare_reads
        ∙ ap (λ y. Some (frame_value y)) (sym frame_now)

    counter_now : (d : ℕ) → d < length w.words → WordIs s' (times_of setup (e ∷ t)) (CountAt f d) ((holds after).stands (CountAt f d))
    counter_now d below = record {
      count = pos 0;
      stamp = 0;
      says = ap count_of_word (own_counter d below).1 ∙ clear_reads;
    }

    held_now : (q : Word) → marked_by setup t q ≡ Some c → WordIs s' (times_of setup (e ∷ t)) q ((holds after).stands q)
    held_now q mark = elim (cases_word q (FrameAt f)) [
      | inl is ↦ subst (λ v. WordIs s' (times_of setup (e ∷ t)) v ((holds after).stands v)) (sym is) frame_word_now
      | inr other ↦ not_frame other
    ]
      where
        held : (holds (cores c)).marks q ≡ true
        held = (stands.marks q c).owned mark

        counted_word : is_frozen (thaw_from w false) q ≡ false → q ≢ FrameAt f → (holds_counts None a.counts).marks q ≡ true
        counted_word free other = sym (ap (λ h. h.marks q) held_before
            ∙ ap (λ b. if b then true else (holds_thaw (thaw_of w false) (holds_counts None a.counts)).marks q)
            (same_word-other q (FrameAt f) other)
            ∙ (thaw_all w false (holds_counts None a.counts) q).0
            ∙ ap (λ b. if b then true else (holds_counts None a.counts).marks q) free) ∙ held

        commits : (g d : ℕ) → q ≡ CountAt g d → (holds_counts None a.counts).marks q ≡ true
            → WordIs s' (times_of setup (e ∷ t)) q ((holds after).stands q)
        commits g d at is =
            let other : g ≢ f = (λ same. false≢true (sym (acquired_away None f d a.counts away)
            ∙ ap (λ (n : ℕ). (holds_counts None a.counts).marks (CountAt n d)) (sym same)
            ∙ ap (holds_counts None a.counts).marks (sym at) ∙ is)) in
            subst (WordIs s' (times_of setup (e ∷ t)) q)
            (ap (holds_counts (Some (Some now_at)) a.counts).stands at ∙ sym (after_count g d other) ∙ ap (holds after).stands (sym at))
            (spared_commit setup setting cores t stands c here a active (Some now_at) drawn_small ds has.knows.all
            (λ (n : ℕ). n ≢ f) away (AddOf ClockAt 1) r after still before_count after_count alike
            refl refl no_count q is)

        not_frame : q ≢ FrameAt f → WordIs s' (times_of setup (e ∷ t)) q ((holds after).stands q)
        not_frame other = by (is_frozen (thaw_from w false) q) refl
          where
            by : (b : Bool) → is_frozen (thaw_from w false) q ≡ b → WordIs s' (times_of setup (e ∷ t)) q ((holds after).stands q)
            by true is =
                let found : IsFrozenWord (thaw_from w false) q = frozen_word (thaw_from w false) q is in
                let at : q ≡ CountAt f found.d = found.word ∙ ap (λ (n : ℕ). CountAt n found.d) knows.frame in
                subst (λ v. WordIs s' (times_of setup (e ∷ t)) v ((holds after).stands v)) (sym at) (counter_now found.d found.below)
            by false is =
                let marks = counted_word is other in
                let at = count_word a.counts q marks in
                commits at.0 at.1 at.2 marks

    -- the counters of the frame are held by the core
    spares : (g : ℕ) → ends_at t e (FrameOf g) ≡ true → All (λ (k : ℕ). marked_by setup t (CountAt g k) ≡ Some c) (counters setup.cores)
    spares g is =
        let same : g ≡ f = eqb-true g f (sym (ends (FrameOf g)) ∙ is) in
        subst (λ (n : ℕ). All (λ (k : ℕ). marked_by setup t (CountAt n k) ≡ Some c) (counters setup.cores)) (sym same)
        (all_counters (λ (k : ℕ). marked_by setup t (CountAt f k) ≡ Some c) setup.cores
        (λ k below. (own_counter k (counter_below k below)).0))

    -- the places of the name are gone
    gone : HasReached (e ∷ t) c (ways s c (rule_of s c a.call))
    gone = all_ways s c (own_pages s c) (e ∷ t) (plan_for a.call) (rule_of s c a.call) a.found
        (calls.by_plan setup setting cores t stands c here a active m stage_is has)
        (leads_by (λ n wanted q. HasFound setup t c (own_in (cores c).own.table n) wanted q)
        (λ n wanted q. LeadsIn s c n wanted q × HasReached (e ∷ t) c (way_to s c (own s c n)))
        own_gone (plan_for a.call).names [] a.found has.names)
        (subst (λ y. HasReached (e ∷ t) c (ways s c y))
        (sym (calls.left setup setting cores t stands c here a active m stage_is has))
        (All-nil (λ (y : Slot). IsSome (own_left (e ∷ t) c (EntryAt y.node y.index)))))
      where
        own_gone : (n : ℕ) (wanted : Want) (q : Capability) → HasFound setup t c (own_in (cores c).own.table n) wanted q
            → LeadsIn s c n wanted q × HasReached (e ∷ t) c (way_to s c (own s c n))
        own_gone n wanted q had = (
          found_named setup t c (cores c).own.table n wanted q (stands.each c here).works.table had,
          subst (λ y. HasReached (e ∷ t) c (way_to s c y)) (own_is s c (cores c).own.table n (stands.each c here).works.table)
              (way_gone setup t (e ∷ t) c (own_in (cores c).own.table n) had.at had.way.reached
              (λ m d h. own_kept t e c refl refl _ (had.way.stepped m d h))),
        )

    permitted : MayReply s c a.call r
    permitted = (
      calls.unspent setup setting cores t stands c here a active m stage_is has,
      (has.acts, subst (λ y. IsFoundAnd y (λ z. z.value ≡ Value.Nothing)) (sym is_change) refl),
    )

    draw_at : GoodTook setup cores t c (AddOf ClockAt 1) (landed a (drawn_untyped f w now_at))
    draw_at lands = drawing.draws_on setup setting cores t stands c here a active r stage made
        (calls.untype_raises a.call a.found f (calls.is setup setting cores t stands c here a active m stage_is has)) lands still
        (λ g i. release_bare x_after (holds_counts (Some (Some now_at)) a.counts) g i ∙ counts_bare (Some (Some now_at)) a.counts g i
        ∙ sym (ap (λ h. h.bare g i) held_before ∙ release_bare (release_of f word w false) (holds_counts None a.counts) g i
        ∙ counts_bare None a.counts g i))
        opens refl alike (inr spares) grows works
        no_flush stays held_now sums
        (record { call = a.call; is_open = is_open; permitted = permitted; justified = gone })
        (λ is_alone. ok_first s c a.call Value.Nothing permitted) (
          record {
            changes = calls.untype_changes a.call a.found f (calls.is setup setting cores t stands c here a active m stage_is has);
            argument = calls.untype_argument a.call a.found f (calls.is setup setting cores t stands c here a active m stage_is has);
            bare = ap frame_mark bare_reads;
            small = frames.spelling.small (typed kind.Untyped) bare_fits;
          },
          record {
            range = (calls.is setup setting cores t stands c here a active m stage_is has).name;
            retypes = (calls.is setup setting cores t stands c here a active m stage_is has).call_is;
            counting = calls.untype_counts a.call a.found f (calls.is setup setting cores t stands c here a active m stage_is has);
            thaws = thaws true;
            apart = away;
          },
        )

  drawn : drawn_stamp x ≡ x
  drawn = let low = clock_small setup setting cores t stands in let some = stands.some_time in omega arith

  pub untyped_good : GoodTook setup cores t c (AddOf ClockAt 1) (landed a (drawn_untyped f w (drawn_stamp x)))
  untyped_good = draw_at (drawn_stamp x) drawn
