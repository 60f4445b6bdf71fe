-- A removal draws its stamp and is decided: what its target held is removed, the reference is released, and the grace periods of both
-- begin at the stamp.
use Rattle.count_invariant.specs.step_ways.proofs.{Want, counts_bare, ◌≡◌, ◌≢◌, ◌⊎◌, inl, inr, ℕ, pos, negsuc, ◌+ℤ◌, max, length, ◌≤◌, ◌+◌}
use Rattle.count_invariant.specs.step_ways.proofs.{◌^◌, ◌<◌, ◌==◌, ◌&&◌, ◌||◌, ◌∷◌, [], Bool, true, false, List, Option, Some, None, arith}
use Rattle.count_invariant.specs.step_ways.proofs.{refl, sym, ◌∙◌, ap, subst, IsTrue, if◌then◌else◌, eq-eqb, ne_eqb, false≢true, Capability}
use Rattle.count_invariant.specs.step_ways.proofs.{Setting, IsSetting, Call, Shrink, Unmap, Reply, Entry, EntryFits, word_of_entry}
use Rattle.count_invariant.specs.step_ways.proofs.{entry_of_word, Word, EntryAt, FrameAt, CountAt, CoreAt, FlushAt, LiveAt, ClockAt}
use Rattle.count_invariant.specs.step_ways.proofs.{same_word, AddOf, word_of, told_of, same_same, Place, Free, Holds, Quiescing, Thing}
use Rattle.count_invariant.specs.step_ways.proofs.{PlaceOf, FrameOf, NumberOf, Grace, State, comp_of, with_place, Slot, Target, Under}
use Rattle.count_invariant.specs.step_ways.proofs.{InRoot, found, own, place_at, held_in, reached, Found, IsFoundAnd, Does, and_then}
use Rattle.count_invariant.specs.step_ways.proofs.{or_refuse, outcome, frames_of, named_by, times, refs, MayReply, rule_of, ends_by}
use Rattle.count_invariant.specs.step_ways.proofs.{flushes_by, changed, change_of, counted, same_thing, new_grace, calls_counted, is_node}
use Rattle.count_invariant.specs.step_ways.proofs.{IsGuarded, Relies, put_same, Step, Trace, Out, Open, WasAt, phase, state_after}
use Rattle.count_invariant.specs.step_ways.proofs.{state_decided_in, last_left, way_to, ways, wide_ways, IsInFootprint, is_slot_in}
use Rattle.count_invariant.specs.step_ways.proofs.{HasReached, marked_by, ends_in, flushes_in, begins_at, ends_at, flushes_at, stamp, clock}
use Rattle.count_invariant.specs.step_ways.proofs.{flush_stored, is_in, ok_first, was_now, was_stays, decided-inside, cases_word}
use Rattle.count_invariant.specs.step_ways.proofs.{same_word-other, stamp-begins, stamp-kept, flush_stored-own, flush_stored-other}
use Rattle.count_invariant.specs.step_ways.proofs.{AtCompare, AtDraw, AtStore, drawn_stamp, of_kind, plan_for, GoesBy, own_pages}
use Rattle.count_invariant.specs.step_ways.proofs.{rule_after, names_after, Leads, LeadsIn, NextName, NextHeld, next_of, leads_by}
use Rattle.count_invariant.specs.step_ways.proofs.{outcome_left, later, Act, Nothing, Quiesce, Undecided, Decided, ActiveCall, StageFits}
use Rattle.count_invariant.specs.step_ways.proofs.{HasRoom, GoesOn, landed, went_with, Core, Holding, holds_counts, settled_by, settled}
use Rattle.count_invariant.specs.step_ways.proofs.{PlaceIs, WordIs, HasFound, KnowsUndecided, own_in, phase_at, holds_at, holds_in, holds}
use Rattle.count_invariant.specs.step_ways.proofs.{held_by, times_of, Invariant, plain_exit, own_kept, slot_relies, limits_of, SameFor}
use Rattle.count_invariant.specs.step_ways.proofs.{ReadsAlike, StaysSaid, word_stays, Stage, begins_in as begins_then, inside_is}
use Rattle.count_invariant.specs.step_ways.proofs.{Remove as remove_act, Answers, call_is, inner_works, is_active, GoodTook, not_spent}
use Rattle.count_invariant.specs.step_ways.proofs.{clock_small, same_marks, does, Kind, Value}
use Rattle.count_invariant.proofs.{plan_leads, goes_by, counts_commit, counts_sum, own_is, found_named, way_gone, footprint_way, Rest}
use Rattle.count_invariant.proofs.{ANameLeft, NoneLeft, rest_of, next_name}
use Rattle.count_invariant.specs.act_states.specs.{Remove, begins_in, Close, removes_by, close_move, close_end, close_after, took_close}
use Rattle.count_invariant.specs.act_states.specs.{cap_dues, Nothing as no_value}
use Rattle.count_invariant.specs.kept_facts.proofs.{IsCalm, reads_alike, counted_grows, Calm.calm_core, CountSums.removed_refs}
use Rattle.count_invariant.specs.kernel_laws.specs.found_stays.proofs.{slot_is, place_here, place_there}
use Rattle.std.proofs.{lemmas.Bool.cases_eq, Math.IntN.pos-+ℤ-pos, Math.IntN.+ℤ_assoc, Math.IntN.+ℤ_invr, Math.IntN.+ℤ_idr}
use Rattle.count_invariant.specs.boot_words.specs.kernel_rules.specs.{State.with_grace, Edits.Remove as remove_edit}
use Rattle.count_invariant.specs.plan_ways.proofs.Ways.{next_on_way, all_ways}
use Rattle.count_invariant.proofs.Acquiring.{removal_places, removal_raises, removal_types}
use Rattle.place_invariant.proofs.{Closings.close_good, Closings.store_at, Fills.node_word, Fills.target_way}
use Rattle.{std.specs.List.list_any, count_invariant.specs.entry_words.proofs.Spelling.spelling}
use Rattle.{count_invariant.specs.call_plans.specs.PlanOf.a_root, count_invariant.specs.plan_ways.specs.Laws.NextPlace}
use Rattle.{count_invariant.specs.act_fits.proofs.DuesFit.cap_one, count_invariant.specs.core_invariant.specs.Knows.KnowsStore}
use Rattle.{count_invariant.specs.step_ways.proofs.Places.node_says}
use Rattle.count_invariant.specs.kernel_laws.specs.kernel_rules.specs.Rules as rules
use Rattle.count_invariant.specs.kernel_laws.specs.kernel_invariant.proofs.Sums as sums
use Rattle.count_invariant.specs.step_ways.proofs.Draws as drawing

-- What a call takes away at its target: what is left of its rule after its names removes what the target holds.
pub record TakesAway (s : State) (c : ℕ) (call : Call) (ks : List Capability) (target : Target) : Type 0 where
  pub rule : rule_after (rule_of s c call) ks ≡ rules.Held target (λ at k. Does [] no_value (remove_edit at k ∷ []))
  pub ends : (x : Thing) → ends_by call x ≡ false
  pub flushes : flushes_by call ≡ false

target_in : (p q : Target) → NextHeld p ≡ NextHeld q → p ≡ q
target_in p q is = cc

-- It is what its rule takes away there: a line a call that removes.
takes_by : (s : State) (c : ℕ) (target : Target) (call : Call) (ks : List Capability)
    → Leads (LeadsIn s c) (plan_for call).names [] ks → names_after (plan_for call).names ks ≡ []
    → next_of (plan_for call) ks ≡ NextHeld target → removes_by call ≡ true → TakesAway s c call ks target
takes_by s c target (Remove u b) (j ∷ []) lead none next is =
    subst (λ place. TakesAway s c (Remove u b) (j ∷ []) place) (target_in (Under (found j) b) target next)
    (record { rule = refl; ends = λ x. refl; flushes = refl })
takes_by s c target (Remove u b) [] lead none next is = absurd (not_none none)
  where
    not_none : of_kind Kind.Table u ∷ [] ≡ [] → ⊥
    not_none h = cc
takes_by s c target (Remove u b) (j ∷ k ∷ ks) lead none next is = absurd lead.1
takes_by s c target (Shrink u i) (j ∷ []) lead none next is =
    subst (λ place. TakesAway s c (Shrink u i) (j ∷ []) place) (target_in (InRoot (found j) i) target next)
    (record { rule = refl; ends = λ x. refl; flushes = refl })
takes_by s c target (Shrink u i) [] lead none next is = absurd (not_none none)
  where
    not_none : a_root u ∷ [] ≡ [] → ⊥
    not_none h = cc
takes_by s c target (Shrink u i) (j ∷ k ∷ ks) lead none next is = absurd lead.1
takes_by s c target (Unmap p v) (j ∷ []) lead none next is =
    subst (λ place. TakesAway s c (Unmap p v) (j ∷ []) place) (target_in (Under (found j) v) target next)
    (record { rule = refl; ends = λ x. refl; flushes = refl })
takes_by s c target (Unmap p v) [] lead none next is = absurd (not_none none)
  where
    not_none : of_kind Kind.Pages p ∷ [] ≡ [] → ⊥
    not_none h = cc
takes_by s c target (Unmap p v) (j ∷ k ∷ ks) lead none next is = absurd lead.1
takes_by s c target call ks lead none next is = absurd (false≢true is)

-- The outcome of what is left of such a rule, where its target holds k.
takes_it : (s : State) (c : ℕ) (target : Target) (at : Slot) (k : Capability) → reached s c target ≡ Some at → place_at s at ≡ Holds k
    → outcome s c (rules.Held target (λ at k. Does [] no_value (remove_edit at k ∷ []))) ≡ Found (does c s no_value (remove_edit at k ∷ []))
takes_it s c target at k reached_at holds_k =
    ap (λ x. and_then x λ p. outcome s c (Does [] no_value (remove_edit p.0 p.1 ∷ [])))
    (ap (λ o. and_then (or_refuse o Reply.NoSlot) λ at. and_then (or_refuse (held_in (place_at s at)) Reply.Empty) λ k. Found (at, k))
    reached_at
    ∙ ap (λ p. and_then (or_refuse (held_in p) Reply.Empty) λ k. Found (at, k)) holds_k)

-- A word that says what it holds is that of a place that holds it.
pub holds_place : (n : ℕ) (p : Place) (r : ℕ) (o : Option Entry) (k : Capability) → PlaceIs n p r o → o ≡ Some (Entry.Held k) → p ≡ Holds k
holds_place n Free r o k is shows = absurd (not_held (sym is ∙ shows))
  where
    not_held : Some Entry.Free ≡ Some (Entry.Held k) → ⊥
    not_held h = cc
holds_place n (Holds j) r o k is shows = ap Holds (cap_same (sym is.0 ∙ shows))
  where
    cap_same : Some (Entry.Held j) ≡ Some (Entry.Held k) → j ≡ k
    cap_same h = cc
holds_place n (Quiescing j) r o k is shows = absurd (not_held (sym is.says ∙ shows))
  where
    not_held : Some (Entry.Quiescing r) ≡ Some (Entry.Held k) → ⊥
    not_held h = cc

-- Of a list of frames, which things are among them.
no_place : (g i : ℕ) (fs : List ℕ) → list_any (same_thing (PlaceOf g i)) (frames_of fs) ≡ false
no_place g i [] = refl
no_place g i (f ∷ fs) = no_place g i fs

no_number : (l : ℕ) (fs : List ℕ) → list_any (same_thing (NumberOf l)) (frames_of fs) ≡ false
no_number l [] = refl
no_number l (f ∷ fs) = no_number l fs

times_later : (f g : ℕ) (gs : List ℕ) → f ≢ g → times f (g ∷ gs) ≡ times f gs
times_later f g gs other =
    let all : times f (g ∷ gs) ≡ 0 + times f gs = sums.times_cons f g gs ∙ ap (λ b. (if b then 1 else 0) + times f gs)
    (ne_eqb g f (λ h. other (sym h))) in
    omega arith

pub frame_none : (f : ℕ) (fs : List ℕ) → times f fs ≡ 0 → list_any (same_thing (FrameOf f)) (frames_of fs) ≡ false
frame_none f [] none = refl
frame_none f (g ∷ gs) none = elim (cases_eq f g) [
  | inl same ↦ absurd (let one : times f (g ∷ gs) ≡ 1 + times f gs = sums.times_cons f g gs ∙ ap (λ b. (if b then 1 else 0) + times f gs)
      (eq-eqb g f (sym same)) in omega arith)
  | inr other ↦ ap (λ b. b || list_any (same_thing (FrameOf f)) (frames_of gs)) (ne_eqb f g other)
      ∙ frame_none f gs (let rest = times_later f g gs other in omega arith)
]

either : (b : Bool) → (true || b) ≡ true
either b = refl

pub frame_some : (f : ℕ) (fs : List ℕ) → times f fs ≢ 0 → list_any (same_thing (FrameOf f)) (frames_of fs) ≡ true
frame_some f [] some = absurd (some refl)
frame_some f (g ∷ gs) some = elim (cases_eq f g) [
  | inl same ↦ ap (λ b. b || list_any (same_thing (FrameOf f)) (frames_of gs)) (eq-eqb f g same)
  | inr other ↦ ap (λ b. b || list_any (same_thing (FrameOf f)) (frames_of gs)) (ne_eqb f g other)
      ∙ frame_some f gs (λ none. some (times_later f g gs other ∙ none))
]

-- What is now of an open call is at a moment of it.
was_here : (P : State → Type 0) (setup : Setting) (t : Trace) (c : ℕ) (call : Call) → phase t c ≡ Open call → P (state_after setup t)
    → WasAt P setup t c
was_here P setup [] c call is now = absurd (not_out is)
  where
    not_out : Out ≡ Open call → ⊥
    not_out h = cc
was_here P setup (e ∷ t) c call is now = was_now P setup t e c now

-- A count that falls by one.
one_less : (m n : ℕ) → n + 1 ≡ m → pos n ≡ pos m +ℤ negsuc 0
one_less m n is = sym (ap (λ (k : ℕ). pos k +ℤ negsuc 0) (sym is) ∙ ap (λ z. z +ℤ negsuc 0) (sym (pos-+ℤ-pos n 1)) ∙ +ℤ_assoc (pos n)
    (pos 1) (negsuc 0) ∙ ap (λ z. pos n +ℤ z) (+ℤ_invr (pos 1)) ∙ +ℤ_idr (pos n))

module _ (setup : Setting) (setting : IsSetting setup) (cores : ℕ → Core) (t : Trace) (stands : Invariant setup cores t) (c : ℕ)
    (here : c < setup.cores)
    (a : ActiveCall) (active : (cores c).active ≡ Some a) (node index : ℕ) (cap : Capability)
    (stage_is : a.stage ≡ Undecided (Act (remove_act (AtDraw node index) cap)))
    (has : KnowsUndecided setup t c (cores c).own.table a (Act (remove_act (AtDraw node index) cap)))
    (takes : TakesAway (state_after setup t) c a.call a.found has.knows.knows.target) where
  abbrev s : State
  s = state_after setup t

  abbrev slot : Slot
  slot = record { node = node; index = index }

  abbrev at : Word
  at = EntryAt node index

  abbrev x : ℕ
  x = clock setup t

  abbrev r : Reply
  r = Reply.Ok Value.Nothing

  abbrev fs : List ℕ
  fs = named_by cap.kind cap.frame

  abbrev counts : Option (Option ℕ) → Holding
  counts finished = holds_counts finished a.counts

  opens : phase_at a.call a.stage ≡ Open a.call
  opens = ap (phase_at a.call) stage_is

  is_open : phase t c ≡ Open a.call
  is_open = (call_is setup setting cores t stands c here a active).phase ∙ opens

  room : (cores c).own.made < (cores c).own.limit
  room = subst (HasRoom (cores c).own.made (cores c).own.limit) stage_is (is_active setup setting cores t stands c here a active).room

  table_is : (cores c).own.table ≡ (comp_of s c).table
  table_is = (stands.each c here).works.table

  leads : Leads (LeadsIn s c) (plan_for a.call).names [] a.found
  leads = plan_leads setup setting cores t stands c here a active has.names

  by_plan : GoesBy (own_pages s c) (plan_for a.call) (rule_of s c a.call)
  by_plan = goes_by setup setting cores t stands c here a active has.names

  fits : StageFits (cores c).own.layout (Undecided (Act (remove_act (AtDraw node index) cap)))
  fits = subst (StageFits (cores c).own.layout) stage_is (is_active setup setting cores t stands c here a active).stage

  relies : Relies s c node
  relies = slot_relies setup setting t stands.legal c a.call is_open has.knows.knows.target slot has.knows.knows.way

  -- what it holds: the entry that it has closed, which stands for what the place holds, and its counts
  before : (w : Word) → ((holds (cores c)).marks w ≡ (if same_word w at then true else (counts None).marks w))
      × ((holds (cores c)).stands w ≡ (if same_word w at then word_of_entry (Entry.Held cap) else (counts None).stands w))
  before w = (
    ap (λ h. h.marks w) (ap holds_in active ∙ ap (λ stage. holds_at stage a.counts) stage_is),
    ap (λ h. h.stands w) (ap holds_in active ∙ ap (λ stage. holds_at stage a.counts) stage_is),
  )

  own_mark : marked_by setup t at ≡ Some c
  own_mark = (stands.marks at c).kept ((before at).0 ∙ ap (λ b. if b then true else (counts None).marks at) (same_same at))

  stood_for : settled setup (held_by cores) t at ≡ word_of_entry (Entry.Held cap)
  stood_for = ap (λ o. settled_by o (held_by cores) at (last_left setup t at)) own_mark ∙ (before at).1
      ∙ ap (λ b. if b then word_of_entry (Entry.Held cap) else (counts None).stands at) (same_same at)

  held_cap : s.place node index ≡ Holds cap
  held_cap = holds_place s.limits.frames (s.place node index) (stamp setup t (PlaceOf node index))
      (entry_of_word (word_of_entry (Entry.Held cap))) cap
      (node_says s.limits.frames (s.frame node) (s.place node index) (stamp setup t (PlaceOf node index)) index
      (word_of_entry (Entry.Held cap)) relies.node fits.0.1
      (subst (WordIs s (times_of setup t) at) stood_for (stands.words at)))
      (spelling.reads (Entry.Held cap) has.knows.knows.fits)

  change : change_of s c a.call ≡ Found (does c s no_value (remove_edit slot cap ∷ []))
  change = outcome_left s c (own_pages s c) (plan_for a.call) (rule_of s c a.call) a.found by_plan leads ∙ ap (outcome s c) takes.rule
      ∙ takes_it s c has.knows.knows.target slot cap has.knows.knows.way.reached held_cap

  abbrev things : List Thing
  things = PlaceOf node index ∷ frames_of fs

  abbrev graces : Thing → Grace
  graces y = if list_any (same_thing y) things then new_grace s y else s.grace y

  abbrev removed : State
  removed = counted (with_grace (with_place s node index (Quiescing cap)) graces) c

  abbrev made : ℕ
  made = (cores c).own.made + calls_counted r

  -- the stage is that after the draw
  module _ (now_at : ℕ) (drawn_is : now_at ≡ x) where
    abbrev stage : Stage
    stage = Decided r (Some now_at) (Quiesce (AtStore node index now_at))

    abbrev e : Step
    e = drawing.e setup setting cores t stands c here a active r stage made

    abbrev after : Core
    after = drawing.after setup setting cores t stands c here a active r stage made

    abbrev s' : State
    s' = state_after setup (e ∷ t)

    now : s' ≡ removed
    now = ap (λ p. state_decided_in p r s c) is_open ∙ ap (λ y. counted (changed s y) c) change

    calm : IsCalm s s' c
    calm = subst (λ y. IsCalm s y c) (sym now) (calm_core s removed c _ refl (λ g. refl) (λ l. refl) refl refl (omega arith))

    alike : ReadsAlike setup t e
    alike = reads_alike setup t e calm.frame

    begins : (y : Thing) → begins_at setup t e y ≡ list_any (same_thing y) things
    begins y = ap (λ p. begins_then (Some r) p s c y) is_open ∙ ap (λ z. begins_in z y) change

    ends : (y : Thing) → ends_at t e y ≡ false
    ends y = ap (λ p. ends_in (Some r) p y) is_open ∙ takes.ends y

    no_flush : flushes_at t e ≡ false
    no_flush = ap (flushes_in (Some r)) is_open ∙ takes.flushes

    stamp_begins : (y : Thing) → list_any (same_thing y) things ≡ true → stamp setup (e ∷ t) y ≡ x
    stamp_begins y is = stamp-begins setup e t y (begins y ∙ is)

    stamp_stays : (y : Thing) → list_any (same_thing y) things ≡ false → stamp setup (e ∷ t) y ≡ stamp setup t y
    stamp_stays y is = stamp-kept setup e t y (begins y ∙ is) (ends y)

    one_more : (s'.core c).counted ≡ (s.core c).counted + 1
    one_more = ap (λ y. (y.core c).counted) now ∙ ap (λ k. k.counted)
        (put_same s.core c (record (s.core c) { counted = (s.core c).counted + 1 }) c refl)

    counts_are : made ≡ (s'.core c).counted
    counts_are = let own = (stands.each c here).works.made in let more = one_more in omega arith

    -- the place that was removed, and any other
    by_slot : (g i : ℕ) (same_slot : Bool) → (g == node && i == index) ≡ same_slot
        → ((g ≡ node) × (i ≡ index)) ⊎ ((g == node && i == index) ≡ false)
    by_slot g i true is = inl (slot_is g node i index is)
    by_slot g i false is = inr is

    there : (g i : ℕ) → (g == node && i == index) ≡ false → s'.place g i ≡ s.place g i
    there g i apart = ap (λ y. y.place g i) now ∙ place_there s node index (Quiescing cap) g i apart

    here_now : s'.place node index ≡ Quiescing cap
    here_now = ap (λ y. y.place node index) now ∙ place_here s node index (Quiescing cap) node index refl refl

    itself : list_any (same_thing (PlaceOf node index)) things ≡ true
    itself = ap (λ b. (b && index == index) || list_any (same_thing (PlaceOf node index)) (frames_of fs)) (eq-eqb node node refl)
        ∙ ap (λ b. b || list_any (same_thing (PlaceOf node index)) (frames_of fs)) (eq-eqb index index refl)

    apart_place : (g i : ℕ) → (g == node && i == index) ≡ false → list_any (same_thing (PlaceOf g i)) things ≡ false
    apart_place g i is = ap (λ b. b || list_any (same_thing (PlaceOf g i)) (frames_of fs)) is ∙ no_place g i fs

    -- all words but the clock and those that the call holds say what they said
    same_entry : (g i : ℕ) → marked_by setup t (EntryAt g i) ≢ Some c
        → SameFor s s' (times_of setup t) (times_of setup (e ∷ t)) (EntryAt g i)
    same_entry g i bare = elim (by_slot g i (g == node && i == index) refl) [
      | inl is ↦ absurd (bare (ap (λ (y : ℕ). marked_by setup t (EntryAt y i)) is.0 ∙ ap (λ (y : ℕ). marked_by setup t (EntryAt node y))
          is.1 ∙ own_mark))
      | inr other ↦ record {
        frames = ap (λ l. l.frames) calm.limits;
        frame = calm.frame g;
        place = there g i other;
        stamp = stamp_stays (PlaceOf g i) (apart_place g i other);
      }
    ]

    stored_same : (d : ℕ) → flush_stored (e ∷ t) d ≡ flush_stored t d
    stored_same d = elim (cases_eq d c) [
      | inl own ↦ flush_stored-own d e t own
      | inr other ↦ flush_stored-other d e t other
    ]

    same : (w : Word) → w ≢ ClockAt → marked_by setup t w ≢ Some c → SameFor s s' (times_of setup t) (times_of setup (e ∷ t)) w
    same (EntryAt g i) no_clock bare = same_entry g i bare
    same (FrameAt f) no_clock bare = calm.frame f
    same (CountAt f d) no_clock bare = tt
    same (CoreAt d) no_clock bare = record { inside = decided-inside (Some r) (phase t c) s c d; exit = plain_exit t e refl d }
    same (FlushAt d) no_clock bare = stored_same d
    same (LiveAt l) no_clock bare = record { number = calm.number l; stamp = stamp_stays (NumberOf l) (no_number l fs) }
    same ClockAt no_clock bare = absurd (no_clock refl)

    stays : (w : Word) → w ≢ ClockAt → marked_by setup t w ≢ Some c → StaysSaid setup cores t e w
    stays w no_clock bare = word_stays s s' (times_of setup t) (times_of setup (e ∷ t)) w (settled setup (held_by cores) t w)
        (same w no_clock bare)

    -- the entry stands for the quiescing one
    small : x < 2 ^ 43
    small = clock_small setup setting cores t stands

    stored_fits : EntryFits (Entry.Quiescing now_at)
    stored_fits = let low = small in let is = drawn_is in omega arith

    entry_now : WordIs s' (times_of setup (e ∷ t)) at (word_of_entry (Entry.Quiescing now_at))
    entry_now = node_word s'.limits.frames (s'.frame node)
        (s'.place node index) (stamp setup (e ∷ t) (PlaceOf node index)) index
        (word_of_entry (Entry.Quiescing now_at))
        (subst (λ y. IsTrue (is_node y)) (sym (calm.frame node)) relies.node)
        (subst (λ p. PlaceIs s'.limits.frames p (stamp setup (e ∷ t) (PlaceOf node index))
        (entry_of_word (word_of_entry (Entry.Quiescing now_at)))) (sym here_now)
        (record {
          drawn = (let some = stands.some_time in let is = stamp_begins (PlaceOf node index) itself in omega arith);
          says = spelling.reads (Entry.Quiescing now_at) stored_fits ∙ ap (λ (n : ℕ). Some (Entry.Quiescing n))
              (drawn_is ∙ sym (stamp_begins (PlaceOf node index) itself));
        }))

    -- what it makes of the counts
    still : (w : Word) → (holds after).marks w ≡ (holds (cores c)).marks w
    still w = ap (λ b. if same_word w at then true else b) (same_marks (Some (Some now_at)) None a.counts w) ∙ sym (before w).0

    few : length (cap_dues cap (negsuc 0)) ≤ 1
    few = cap_one cap.kind cap.frame cap.arg (negsuc 0)

    node_below : node < s.limits.frames
    node_below = subst (λ (n : ℕ). node < n) (ap (λ y. y.frames) (stands.each c here).shape ∙ sym
        (ap (λ l. l.frames) (limits_of setup t))) fits.0.0

    core_below : c < s.limits.cores
    core_below = subst (λ (n : ℕ). c < n) (sym (ap (λ l. l.cores) (limits_of setup t))) here

    falls : (f : ℕ) → refs s' f + times f fs ≡ refs s f
    falls f = ap (λ y. refs y f + times f fs) now ∙ removed_refs s c node index cap graces node_below fits.0.1 held_cap f

    drawn_small : later 0 (Some now_at) < 2 ^ 43
    drawn_small = let low = small in let is = drawn_is in omega arith

    no_count : (f d : ℕ) → CountAt f d ≢ ClockAt
    no_count f d h = cc

    kept : (f : ℕ) → times f fs ≡ 0 → (refs s' f ≡ refs s f) × (stamp setup (e ∷ t) (FrameOf f) ≡ stamp setup t (FrameOf f))
    kept f none = ((let less = falls f in omega arith), stamp_stays (FrameOf f) (frame_none f fs none))

    not_zero : (n : ℕ) → n ≡ 1 → n ≢ 0
    not_zero n one none = omega arith

    changes : (f : ℕ) → times f fs ≡ 1
        → (pos (refs s' f) ≡ pos (refs s f) +ℤ negsuc 0) × (stamp setup (e ∷ t) (FrameOf f) ≡ max (stamp setup t (FrameOf f))
        (later 0 (Some now_at)))
    changes f one = (
      one_less (refs s f) (refs s' f) (let less = falls f in omega arith),
      stamp_begins (FrameOf f) (frame_some f fs (not_zero (times f fs) one)) ∙ latest (stamp setup t (FrameOf f))
          (stands.graces (FrameOf f)).past,
    )
      where
        latest : (y : ℕ) → y < x → x ≡ max y (max 0 now_at)
        latest y past = let is = drawn_is in omega arith

    commits : (w : Word) → (counts None).marks w ≡ true → WordIs s' (times_of setup (e ∷ t)) w ((counts (Some (Some now_at))).stands w)
    commits = counts_commit setup setting cores t stands c here a active (negsuc 0) (Some now_at) drawn_small fs few
        has.knows.all (AddOf ClockAt 1) r after still
        (λ f d. before (CountAt f d)) (λ f d. refl) alike refl refl no_count

    held_now : (w : Word) → marked_by setup t w ≡ Some c → WordIs s' (times_of setup (e ∷ t)) w ((holds after).stands w)
    held_now w mark = elim (cases_word w at) [
      | inl is ↦ subst (λ v. WordIs s' (times_of setup (e ∷ t)) v ((holds after).stands v)) (sym is)
          (subst (WordIs s' (times_of setup (e ∷ t)) at) (sym (ap
          (λ b. if b then word_of_entry (Entry.Quiescing now_at) else (counts (Some (Some now_at))).stands at) (same_same at)))
          entry_now)
      | inr other ↦ subst (WordIs s' (times_of setup (e ∷ t)) w)
          (sym (ap (λ b. if b then word_of_entry (Entry.Quiescing now_at) else (counts (Some (Some now_at))).stands w)
          (same_word-other w at other)))
          (commits w (sym (ap (λ b. if b then true else (counts None).marks w) (same_word-other w at other)) ∙ sym (before w).0 ∙
          (stands.marks w c).owned mark))
    ]

    -- all places of the call's ways are gone
    gone : HasReached (e ∷ t) c (ways s c (rule_of s c a.call))
    gone = all_ways s c (own_pages s c) (e ∷ t) (plan_for a.call) (rule_of s c a.call) a.found by_plan
        (leads_by (λ n wanted q. HasFound setup t c (own_in (cores c).own.table n) wanted q)
        (λ n wanted q. LeadsIn s c n wanted q × HasReached (e ∷ t) c (way_to s c (own s c n)))
        own_gone (plan_for a.call).names [] a.found has.names)
        (subst (λ y. HasReached (e ∷ t) c (ways s c y)) (sym takes.rule)
        (way_gone setup t (e ∷ t) c has.knows.knows.target slot has.knows.knows.way.reached
        (λ n d h. own_kept t e c refl refl _ (has.knows.knows.way.stepped n d h))))
      where
        own_gone : (n : ℕ) (wanted : Want) (q : Capability) → HasFound setup t c (own_in (cores c).own.table n) wanted q
            → LeadsIn s c n wanted q × HasReached (e ∷ t) c (way_to s c (own s c n))
        own_gone n wanted q had = (
          found_named setup t c (cores c).own.table n wanted q table_is had,
          subst (λ y. HasReached (e ∷ t) c (way_to s c y)) (own_is s c (cores c).own.table n table_is)
              (way_gone setup t (e ∷ t) c (own_in (cores c).own.table n) had.at had.way.reached
              (λ m d h. own_kept t e c refl refl _ (had.way.stepped m d h))),
        )

    permitted : MayReply s c a.call r
    permitted = (
      not_spent setup (cores c) t c (stands.each c here) room,
      (
        has.acts,
        subst (λ y. IsFoundAnd y (λ z. z.value ≡ Value.Nothing))
            (sym change) refl,
      ),
    )

    -- the core still relies on the node: where its last reference is released, the core is among those that are waited for
    own_waits : (s.core c).inside ≡ true
    own_waits = inside_is setup t c ∙ ap is_in is_open

    guarded : IsGuarded s' c node
    guarded = elim (cases_eq (times node fs) 0) [
      | inl none ↦ elim relies.guarded [
        | inl some ↦ inl (let less = falls node in omega arith)
        | inr waits ↦ inr (ap (λ y. (y.grace (FrameOf node)).waits c) now ∙ ap
            (λ b. (if b then new_grace s (FrameOf node) else s.grace (FrameOf node)).waits c) (frame_none node fs none) ∙ waits)
      ]
      | inr some ↦ inr (ap (λ y. (y.grace (FrameOf node)).waits c) now ∙ ap
          (λ b. (if b then new_grace s (FrameOf node) else s.grace (FrameOf node)).waits c) (frame_some node fs some) ∙ own_waits)
    ]

    on_way : is_slot_in (wide_ways s c (rule_of s c a.call)) node index ≡ true
    on_way = next_on_way s c (own_pages s c) (plan_for a.call) (rule_of s c a.call) a.found by_plan leads has.knows.knows.target node index
        (subst (λ y. NextPlace s c y has.knows.knows.target) (sym has.knows.knows.next) refl)
        (target_way s c has.knows.knows.target slot has.knows.knows.way.reached)

    draw_at : GoodTook setup cores t c (AddOf ClockAt 1) (landed a
        (Answers Value.Nothing (Some now_at) (Quiesce (AtStore node index now_at))))
    draw_at lands = drawing.draws_on setup setting cores t stands c here a active r stage made
        (removal_raises a.call has.knows.knows.removes) lands still
        (λ f i. counts_bare (Some (Some now_at)) a.counts f i ∙ sym (ap (λ h. h.bare f i)
        (ap holds_in active ∙ ap (λ stage. holds_at stage a.counts) stage_is) ∙ counts_bare None a.counts f i))
        opens refl alike (inl (removal_types a.call has.knows.knows.removes))
        (counted_grows setup s s' c calm here one_more)
        (inner_works setup setting cores t stands c here a active (AddOf ClockAt 1) (Some r) None made calm counts_are)
        no_flush stays held_now
        (counts_sum setup setting cores t stands c here a active (negsuc 0) (Some now_at) drawn_small fs few has.knows.all
        (AddOf ClockAt 1) r after still
        (λ f d. before (CountAt f d)) (λ f d. refl) alike refl refl no_count (ap (λ l. l.cores) calm.limits) kept changes)
        (record { call = a.call; is_open = is_open; permitted = permitted; justified = gone })
        (λ is_alone. ok_first s c a.call Value.Nothing permitted)
        (record {
          relies = record { node = subst (λ y. IsTrue (is_node y)) (sym (calm.frame node)) relies.node; guarded = guarded };
          footprint = was_stays (IsInFootprint c a.call at) setup t e c (λ own. refl)
              (was_here (IsInFootprint c a.call at) setup t c a.call is_open (footprint_way s c a.call node index on_way));
          places = removal_places a.call has.knows.knows.removes;
        })

  drawn : drawn_stamp x ≡ x
  drawn = let low = clock_small setup setting cores t stands in let some = stands.some_time in omega arith

  pub draw_good : GoodTook setup cores t c (AddOf ClockAt 1) (landed a
      (Answers Value.Nothing (Some (drawn_stamp x)) (Quiesce (AtStore node index (drawn_stamp x)))))
  draw_good = draw_at (drawn_stamp x) drawn

-- The step of a removal.
pub remove_good : (setup : Setting) → IsSetting setup → (cores : ℕ → Core) (t : Trace) → Invariant setup cores t → (c : ℕ) → c < setup.cores
    → (a : ActiveCall) → (cores c).active ≡ Some a
    → (close : Close) (cap : Capability) → a.stage ≡ Undecided (Act (remove_act close cap))
    → KnowsUndecided setup t c (cores c).own.table a (Act (remove_act close cap))
    → GoodTook setup cores t c (close_move close)
    (landed a (took_close cap (close_after close (told_of (close_move close) (last_left setup t (word_of (close_move close)))))
    (close_end close (told_of (close_move close) (last_left setup t (word_of (close_move close)))))))
remove_good setup setting cores t stands c here a active (AtCompare node index word by) cap is has =
    close_good setup setting cores t stands c here a active node index word by cap is has
remove_good setup setting cores t stands c here a active (AtStore node index x) cap is has = absurd has.knows.knows
remove_good setup setting cores t stands c here a active (AtDraw node index) cap is has =
    draw_good setup setting cores t stands c here a active node index cap is has
    (takes_by (state_after setup t) c has.knows.knows.target a.call a.found
    (plan_leads setup setting cores t stands c here a active has.names)
    none_left
    has.knows.knows.next
    has.knows.knows.removes)
  where
    none_left : names_after (plan_for a.call).names a.found ≡ []
    none_left = by (rest_of (plan_for a.call) a.found)
      where
        not_held : (n : ℕ) (wanted : Want) (target : Target) → NextName n wanted ≡ NextHeld target → ⊥
        not_held n wanted target h = cc

        by : Rest (plan_for a.call) a.found → names_after (plan_for a.call).names a.found ≡ []
        by (ANameLeft name rest is) =
            absurd (not_held _ _ has.knows.knows.target (sym (next_name (plan_for a.call) a.found name rest is) ∙ has.knows.knows.next))
        by (NoneLeft none) = none

-- The store of a decided removal.
pub store_good : (setup : Setting) → IsSetting setup → (cores : ℕ → Core) (t : Trace) → Invariant setup cores t → (c : ℕ) → c < setup.cores
    → (a : ActiveCall) → (cores c).active ≡ Some a
    → (r : Reply) (drawn : Option ℕ) (close : Close) → a.stage ≡ Decided r drawn (Quiesce close) → KnowsStore setup t c a.call close
    → GoodTook setup cores t c (close_move close) (GoesOn (went_with a a.counts (Decided r drawn Nothing)))
store_good setup setting cores t stands c here a active r drawn (AtStore node index x) is has =
    store_at setup setting cores t stands c here a active node index r drawn x is has
store_good setup setting cores t stands c here a active r drawn _ is has = absurd has
