-- The filling compare of a copy is good: it is lost to another core, or the place is free and takes the capability.
use Rattle.count_invariant.specs as low
use low.step_ways.proofs.{Want, not_exclusive_word, ◌≡◌, ◌≢◌, ◌⊎◌, inl, inr, not, ℕ, pos, length, ◌≤◌, ◌+◌, ◌^◌, ◌/◌, ◌<◌, ◌==◌, ◌&&◌}
use low.step_ways.proofs.{leb as nat_le, if◌then◌else◌, ◌∷◌, [], Bool, true, false, List, Option, Some, None, arith, refl, sym, ◌∙◌, ap}
use low.step_ways.proofs.{subst, IsTrue, ◌+ℤ◌, max, option_to_list, eqb-true, eqb-false, eq-eqb, false≢true, Capability, Setting, IsSetting}
use low.step_ways.proofs.{Call, Copy, Shrink, Unmap, Retype, Gate, Grow, Ret, Transfer, Delegate, Test, Entry, Held, EntryFits}
use low.step_ways.proofs.{word_of_entry, entry_of_word, Word, EntryAt, CountAt, Move, CompareOf, left_of, left_if, Place, comp_of, comp_in}
use low.step_ways.proofs.{Holds, Frame, Kernel, Table, Leaf, Pages, Pleaf, Thing, PlaceOf, FrameOf, State, with_place, User, Slot, found}
use low.step_ways.proofs.{Target, Under, InRoot, place_at, usable_in, root_slot, reached, own, has_frame, outside, is_frame, Cause}
use low.step_ways.proofs.{first_cause, first_of, Found, IsFoundAnd, Does, and_then, or_refuse, unless, not_vacant, outcome, MayReply}
use low.step_ways.proofs.{rule_of, ends_by, flushes_by, changed, change_of, counted, calls_counted, is_node, put_same, Step, Trace, Open}
use low.step_ways.proofs.{phase, state_after, state_decided_in, last_left, way_to, ways, wide_ways, target_of, changes_places}
use low.step_ways.proofs.{changes_in_frame, is_slot_in, HasReached, ok_first, entry_mark, mark_in_frame, mark_of, marked_by, ends_in}
use low.step_ways.proofs.{flushes_in, stamp, CapNames, of_kind, plan_for, GoesBy, own_pages, calls_go, leads_by, outcome_left, rule_after}
use low.step_ways.proofs.{names_after, Leads, LeadsIn, NextName, NextFree, next_of, Act, Undecided, Decided, ActiveCall, put_by, reads_of}
use low.step_ways.proofs.{page_cap, named_by, times, refs, IsUntimed, plain_stamp, limits_of, holds_counts, landed, Core, StageFits}
use low.step_ways.proofs.{HasRoom, PlaceIs, IsFrameWord, WordIs, HasFound, ReadIs, MayFill, KnowsUndecided, own_in, phase_at, holds_at}
use low.step_ways.proofs.{holds_in, holds, times_of, Invariant, own_kept, slot_relies, spares_node, Make as make_call, Part, Replenish}
use low.step_ways.proofs.{Free as Vacant, Quiescing as Removed, plain_cap, Vacant as to_be_free, does, begins_in as begins_then}
use low.step_ways.proofs.{Fill as fill_act, Nothing as no_tail, same_marks, IsOfCall, next_at, core_in_call, inner, call_is, is_active}
use low.step_ways.proofs.{IsMarked, IsUnmarked, node_mark, place_reads, GoodTook, ticks_at, not_spent, refuses_raced, Kind, Reply}
use low.boot_words.specs.kernel_rules.specs.{◌%◌, kept, right_to_copy, cap_of, Remove, Tick, Kill, Flush, Map, Touch, Switch, linked}
use low.boot_words.specs.kernel_rules.specs.{slot_in, begins_in, Look, Nothing, part_of, is_user, not_user, has_frames, beyond}
use Rattle.count_invariant.proofs.{counts_commit, counts_sum, plan_leads, footprint_way, own_is, found_named, way_gone, Rest, ANameLeft}
use Rattle.count_invariant.proofs.{NoneLeft, rest_of, next_name}
use low.act_states.specs.{filled_if, fill_move, cap_dues, gate_if, gate_to}
use low.kernel_history.specs.{capability_in, root_passed, wide_way_to, IsSlot, led_to}
use low.kept_facts.proofs.{node_keeps_none, reads_alike, IsCalm}
use low.kernel_laws.specs.found_stays.proofs.{slot_is, place_here, place_there}
use low.plan_ways.proofs.Ways.{next_on_way, target_is, all_ways}
use low.{boot_words.specs.kernel_rules.specs.Fill as fill_edit, plan_ways.specs.NextPlace, plan_ways.specs.IsTargetOf}
use low.{quality_lists.specs.spk_nums.specs.declared.calls.Call.TheVariants.Call as call_gate}
use low.{entry_words.specs.declared.entry.Entry.TheVariants.Free, entry_words.specs.declared.entry.Entry.TheVariants.Quiescing}
use low.{entry_words.proofs.Spelling.spelling, call_plans.specs.PlanOf.any_cap, act_states.specs.declared.fills.Fill.Fill}
use low.{act_states.specs.Fills.FillFits, act_fits.proofs.DuesFit.cap_one, kept_facts.proofs.Calm.calm_core}
use low.{kept_facts.proofs.CountSums.fill_refs, step_ways.proofs.Writes.writes_entry, core_invariant.specs.Components.IsRead}
use low.{core_invariant.specs.Reaching.HasUser}
use Rattle.{count_invariant.proofs.Lookups.slot_right, count_invariant.proofs.Lookups.slot_one, place_invariant.proofs.Vacancy.IsVacant}
use Rattle.{place_invariant.proofs.Vacancy.vacant_by}

-- What a call puts at its target: what is left of its rule after its names fills the target with k, where no own cause stands, and it
-- changes
-- places alone.
record Puts (s : State) (c : ℕ) (call : Call) (ks : List Capability) (target : Target) (k : Capability) : Type 0 where
  causes : List Cause
  calm : first_cause s c causes ≡ None
  rule : rule_after (rule_of s c call) ks ≡ to_be_free target (λ at. Does causes Nothing (fill_edit at k ∷ []))
  places : changes_places call ≡ true
  ends : (x : Thing) → ends_by call x ≡ false
  flushes : flushes_by call ≡ false

-- The outcome of what is left of such a rule, where its target is free.
puts_it : (s : State) (c : ℕ) (target : Target) (k : Capability) (causes : List Cause) → first_cause s c causes ≡ None → (at : Slot)
    → reached s c target ≡ Some at
    → not_vacant s c (PlaceOf at.node at.index) (place_at s at) ≡ None
    → outcome s c (to_be_free target (λ at. Does causes Nothing (fill_edit at k ∷ []))) ≡ Found (does c s Nothing (fill_edit at k ∷ []))
puts_it s c target k causes calm at reached_at free =
    ap (λ x. and_then x λ at. outcome s c (Does causes Nothing (fill_edit at k ∷ [])))
    (ap (λ o. and_then (or_refuse o Reply.NoSlot) λ at. unless (not_vacant s c (PlaceOf at.node at.index) (place_at s at)) at) reached_at
    ∙ ap (λ o. unless o at) free)
    ∙ ap (λ o. unless o (does c s Nothing (fill_edit at k ∷ []))) calm

-- A word that says that it is free is that of a free place.
free_place : (n : ℕ) (p : Place) (r : ℕ) (o : Option Entry) → PlaceIs n p r o → o ≡ Some Free → p ≡ Vacant
free_place n Vacant r o is free = refl
free_place n (Holds k) r o is free = absurd (not_free k (sym is.0 ∙ free))
  where
    not_free : (k : Capability) → Some (Held k) ≡ Some Free → ⊥
    not_free k h = cc
free_place n (Removed k) r o is free = absurd (not_free r (sym is.says ∙ free))
  where
    not_free : (r : ℕ) → Some (Quiescing r) ≡ Some Free → ⊥
    not_free r h = cc

-- The word of a place of a node.
pub node_word : (n : ℕ) (x : Frame) (p : Place) (r i v : ℕ) → IsTrue (is_node x) → PlaceIs n p r (entry_of_word v)
    → IsFrameWord n x p r i v
node_word n (Kernel Table) p r i v node h = λ below. h
node_word n (Kernel Leaf) p r i v node h = λ below. h
node_word n (Kernel Pages) p r i v node h = λ below. h
node_word n (Kernel Pleaf) p r i v node h = λ below. h
node_word n _ p r i v node h = absurd (false≢true node)

-- A call that changes places changes those of nodes.
pub changes_node : (call : Call) (x : Frame) → changes_places call ≡ true → IsTrue (is_node x) → IsTrue (changes_in_frame call x)
changes_node call (Kernel Table) places node = places
changes_node call (Kernel Leaf) places node = places
changes_node call (Kernel Pages) places node = places
changes_node call (Kernel Pleaf) places node = places
changes_node call _ places node = absurd (false≢true node)

-- A slot that is reached under a number is on the way.
leads_like : (p : Place) (waits b : Bool) (i : ℕ) (at : Slot) → (if b then slot_in (linked (usable_in p waits)) i else None) ≡ Some at
    → (if b then slot_in (linked (capability_in p)) i else None) ≡ Some at
leads_like (Removed k) false true i at h = absurd (cc)
leads_like _ _ _ i at h = h

pub target_way : (s : State) (c : ℕ) (target : Target) (at : Slot) → reached s c target ≡ Some at
    → is_slot_in (wide_way_to s target) at.node at.index ≡ true
target_way s c (Under table n) at is =
    slot_right (root_passed (Under table n)) (option_to_list (led_to s (Under table n))) at.node at.index
    (ap (λ o. is_slot_in (option_to_list o) at.node at.index)
    (leads_like (place_at s (root_slot table.frame n)) ((s.grace (PlaceOf table.frame (n / 64))).waits c) (table.found && nat_le n 4095)
    (n % 64) at is)
    ∙ slot_one at.node at.index)
target_way s c (InRoot table i) at is =
    slot_right (root_passed (InRoot table i)) (option_to_list (led_to s (InRoot table i))) at.node at.index
    (ap (λ o. is_slot_in (option_to_list o) at.node at.index) is ∙ slot_one at.node at.index)

module _ (setup : Setting) (setting : IsSetting setup) (cores : ℕ → Core) (t : Trace) (stands : Invariant setup cores t) (c : ℕ)
    (here : c < setup.cores)
    (a : ActiveCall) (node index word : ℕ) (k : Capability) (active : (cores c).active ≡ Some a)
    (stage_is : a.stage ≡ Undecided (Act (fill_act (record { node = node; entry = index; word = word; cap = k }))))
    (has : KnowsUndecided setup t c (cores c).own.table a (Act (fill_act (record { node = node; entry = index; word = word; cap = k }))))
    (puts : Puts (state_after setup t) c a.call a.found has.knows.knows.target k) where
  abbrev s : State
  s = state_after setup t

  abbrev slot : Slot
  slot = record { node = node; index = index }

  abbrev was : ℕ
  was = last_left setup t (EntryAt node index)

  fits : EntryFits (Held k)
  fits = has.knows.knows.fits

  opens : phase_at a.call a.stage ≡ Open a.call
  opens = ap (phase_at a.call) stage_is

  held_is : holds_in (Some a) ≡ holds_counts None a.counts
  held_is = ap (λ s. holds_at s a.counts) stage_is

  room : (cores c).own.made < (cores c).own.limit
  room = subst (HasRoom (cores c).own.made (cores c).own.limit) stage_is (is_active setup setting cores t stands c here a active).room

  is_open : phase t c ≡ Open a.call
  is_open = (call_is setup setting cores t stands c here a active).phase ∙ opens

  table_is : (cores c).own.table ≡ (comp_of s c).table
  table_is = (stands.each c here).works.table

  goes_by : GoesBy (own_pages s c) (plan_for a.call) (rule_of s c a.call)
  goes_by = calls_go s c a.call

  leads : Leads (LeadsIn s c) (plan_for a.call).names [] a.found
  leads = leads_by (λ n wanted q. HasFound setup t c (own_in (cores c).own.table n) wanted q) (LeadsIn s c)
      (λ n wanted q had. found_named setup t c (cores c).own.table n wanted q table_is had) (plan_for a.call).names [] a.found has.names

  fits_in : FillFits (cores c).own.layout (record { node = node; entry = index; word = word; cap = k })
  fits_in = subst (StageFits (cores c).own.layout) stage_is (is_active setup setting cores t stands c here a active).stage

  in_node : IsTrue (is_node (s.frame node))
  in_node = (slot_relies setup setting t stands.legal c a.call is_open has.knows.knows.target slot has.knows.knows.way).node

  target_slot : target_of s c (rule_of s c a.call) ≡ Some slot
  target_slot = subst (λ x. IsTargetOf s c x (target_of s c (rule_of s c a.call))) has.knows.knows.next
      (target_is s c (own_pages s c) (plan_for a.call) (rule_of s c a.call) a.found goes_by leads)
      ∙ has.knows.knows.way.reached

  -- the compare is one of the call, on a place of its way
  abbrev compare : Move
  compare = CompareOf (EntryAt node index) word (word_of_entry (Held k))

  on_way : is_slot_in (wide_ways s c (rule_of s c a.call)) node index ≡ true
  on_way = next_on_way s c (own_pages s c) (plan_for a.call) (rule_of s c a.call) a.found goes_by leads has.knows.knows.target node index
      (subst (λ x. NextPlace s c x has.knows.knows.target) (sym has.knows.knows.next) refl)
      (target_way s c has.knows.knows.target slot has.knows.knows.way.reached)

  of_call : IsOfCall setup t c a.call compare
  of_call = record {
    moves = changes_node a.call (s.frame node) puts.places in_node;
    footprint = inl
        (footprint_way s c a.call node index on_way);
  }

  -- lost
  lost : (was == word) ≡ false → GoodTook setup cores t c compare (landed a (filled_if false))
  lost other =
      refuses_raced setup setting cores t stands c here a active opens held_is room compare
      (record { of_call = of_call; kept = kept; apart = λ d. refl }) (ap ticks_at stage_is)
      (record {
        at = inl (subst (λ o. IsSlot o node index) (sym target_slot) (refl, refl));
        reads = eq-eqb (left_of compare was) was kept;
        own = word;
        has_read = has.knows.knows.own;
        changed = eqb-false was word other;
      })
    where
      kept : left_of compare was ≡ was
      kept = ap (λ b. left_if b was (word_of_entry (Held k))) other

  -- won
  module _ (equal : (was == word) ≡ true) where
    same : was ≡ word
    same = eqb-true was word equal

    leaves : left_of compare was ≡ word_of_entry (Held k)
    leaves = ap (λ b. left_if b was (word_of_entry (Held k))) equal

    abbrev new : ℕ
    new = word_of_entry (Held k)

    abbrev e : Step
    e = inner setup setting cores t stands c here a active compare (Some (Reply.Ok Nothing)) None

    may : MayFill setup t c (PlaceOf node index) setup.cores (entry_of_word was)
    may = subst (MayFill setup t c (PlaceOf node index) setup.cores) (sym (ap entry_of_word same)) has.knows.knows.vacant

    unmarked : IsUnmarked setup t node index
    unmarked = by_read (place_reads setup cores t stands node index in_node fits_in.entry)
      where
        by_read : IsMarked setup t node index ⊎ IsUnmarked setup t node index → IsUnmarked setup t node index
        by_read (inl m) = absurd (subst (MayFill setup t c (PlaceOf node index) setup.cores) m.says may)
        by_read (inr p) = p

    empty : IsVacant s c node index
    empty = vacant_by setup t c node index (ap (λ l. l.cores) (limits_of setup t)) setup.frames (entry_of_word was) unmarked.says may

    change : change_of s c a.call ≡ Found (does c s Nothing (fill_edit slot k ∷ []))
    change = outcome_left s c (own_pages s c) (plan_for a.call) (rule_of s c a.call) a.found goes_by leads ∙ ap (outcome s c) puts.rule
        ∙ puts_it s c has.knows.knows.target k puts.causes puts.calm slot has.knows.knows.way.reached empty.vacant

    now : state_after setup (e ∷ t) ≡ counted (with_place s node index (Holds k)) c
    now = ap (λ p. state_decided_in p (Reply.Ok Nothing) s c) is_open ∙ ap (λ x. counted (changed s x) c) change

    calm : IsCalm s (state_after setup (e ∷ t)) c
    calm = subst (λ x. IsCalm s x c) (sym now) (calm_core s (counted (with_place s node index (Holds k)) c) c _ refl (λ g. refl)
        (λ l. refl) refl refl (omega arith))

    plain : IsUntimed setup t e
    plain = record {
      begins = λ x. ap (λ p. begins_then (Some (Reply.Ok Nothing)) p s c x) is_open ∙ ap (λ y. begins_in y x) change;
      ends = λ x. ap (λ p. ends_in (Some (Reply.Ok Nothing)) p x) is_open ∙ puts.ends x;
      flushes = ap (flushes_in (Some (Reply.Ok Nothing))) is_open ∙ puts.flushes;
      apart = λ d. refl;
      same = refl;
    }

    counts : (cores c).own.made + calls_counted (Reply.Ok Nothing) ≡ ((state_after setup (e ∷ t)).core c).counted
    counts =
        let made = (stands.each c here).works.made in
        let x : ((state_after setup (e ∷ t)).core c).counted ≡ ((counted (with_place s node index (Holds k)) c).core c).counted = ap
        (λ y. (y.core c).counted) now in
        let y : ((counted (with_place s node index (Holds k)) c).core c).counted ≡ (s.core c).counted + 1 =
        ap (λ z. z.counted) (put_same s.core c (record (s.core c) { counted = (s.core c).counted + 1 }) c refl) in
        omega arith

    -- a slot is the target's, or its place is as it was
    by_slot : (g i : ℕ) (same_slot : Bool) → (g == node && i == index) ≡ same_slot
        → ((g ≡ node) × (i ≡ index)) ⊎ ((g == node && i == index) ≡ false)
    by_slot g i true is = inl (slot_is g node i index is)
    by_slot g i false is = inr is

    there : (g i : ℕ) → (g == node && i == index) ≡ false → (state_after setup (e ∷ t)).place g i ≡ s.place g i
    there g i apart = ap (λ x. x.place g i) now ∙ place_there s node index (Holds k) g i apart

    here_now : (g i : ℕ) → g ≡ node → i ≡ index → (state_after setup (e ∷ t)).place g i ≡ Holds k
    here_now g i gs is = ap (λ x. x.place g i) now ∙ place_here s node index (Holds k) g i gs is

    elsewhere : (g i : ℕ) → EntryAt g i ≢ EntryAt node index → (state_after setup (e ∷ t)).place g i ≡ s.place g i
    elsewhere g i apart = elim (by_slot g i (g == node && i == index) refl) [
      | inl is ↦ absurd (apart (ap (λ (x : ℕ). EntryAt x i) is.0 ∙ ap (λ (x : ℕ). EntryAt node x) is.1))
      | inr other ↦ there g i other
    ]

    new_says : entry_of_word new ≡ Some (Held k)
    new_says = spelling.reads (Held k) fits

    word_now : WordIs (state_after setup (e ∷ t)) (times_of setup (e ∷ t)) (EntryAt node index) new
    word_now = node_word (state_after setup (e ∷ t)).limits.frames ((state_after setup (e ∷ t)).frame node)
        ((state_after setup (e ∷ t)).place node index)
        (stamp setup (e ∷ t) (PlaceOf node index)) index new
        (subst (λ x. IsTrue (is_node x)) (sym (calm.frame node)) in_node)
        (subst (λ p. PlaceIs (state_after setup (e ∷ t)).limits.frames p (stamp setup (e ∷ t) (PlaceOf node index)) (entry_of_word new))
        (sym (here_now node index refl refl)) (
          new_says,
          subst (λ n. CapNames n k) (ap (λ x. x.frames) (stands.each c here).shape ∙ sym
              (ap (λ l. l.frames) (calm.limits ∙ limits_of setup t))) fits_in.cap,
        ))

    -- all places of the call's ways are gone
    gone : HasReached (e ∷ t) c (ways s c (rule_of s c a.call))
    gone = all_ways s c (own_pages s c) (e ∷ t) (plan_for a.call) (rule_of s c a.call) a.found goes_by
        (leads_by (λ n wanted q. HasFound setup t c (own_in (cores c).own.table n) wanted q)
        (λ n wanted q. LeadsIn s c n wanted q × HasReached (e ∷ t) c (way_to s c (own s c n)))
        own_gone (plan_for a.call).names [] a.found has.names)
        (subst (λ x. HasReached (e ∷ t) c (ways s c x)) (sym puts.rule)
        (way_gone setup t (e ∷ t) c has.knows.knows.target slot has.knows.knows.way.reached
        (λ n d h. own_kept t e c refl refl _ (has.knows.knows.way.stepped n d h))))
      where
        own_gone : (n : ℕ) (wanted : Want) (q : Capability) → HasFound setup t c (own_in (cores c).own.table n) wanted q
            → LeadsIn s c n wanted q × HasReached (e ∷ t) c (way_to s c (own s c n))
        own_gone n wanted q had = (
          found_named setup t c (cores c).own.table n wanted q table_is had,
          subst (λ x. HasReached (e ∷ t) c (way_to s c x)) (own_is s c (cores c).own.table n table_is)
              (way_gone setup t (e ∷ t) c (own_in (cores c).own.table n) had.at had.way.reached
              (λ m d h. own_kept t e c refl refl _ (had.way.stepped m d h))),
        )

    permitted : MayReply s c a.call (Reply.Ok Nothing)
    permitted = (
      not_spent setup (cores c) t c (stands.each c here) room,
      (has.acts, subst (λ x. IsFoundAnd x (λ y. y.value ≡ Nothing)) (sym change) refl),
    )

    -- what it makes of the counts
    abbrev after : Core
    after = core_in_call (cores c) ((cores c).own.made + calls_counted (Reply.Ok Nothing))
        (next_at a a.found (Decided (Reply.Ok Nothing) None no_tail))

    bare_now : mark_of s (EntryAt node index) (left_of compare was) ≡ None
    bare_now = ap (mark_in_frame (s.frame node) index) leaves ∙ node_mark (s.frame node) index new in_node ∙ ap entry_mark new_says

    no_count : (f d : ℕ) → CountAt f d ≢ EntryAt node index
    no_count f d h = cc

    few : length (cap_dues k (pos 1)) ≤ 1
    few = cap_one k.kind k.frame k.arg (pos 1)

    node_below : node < s.limits.frames
    node_below = subst (λ (n : ℕ). node < n) (ap (λ x. x.frames) (stands.each c here).shape ∙ sym
        (ap (λ l. l.frames) (limits_of setup t))) fits_in.node

    core_below : c < s.limits.cores
    core_below = subst (λ (n : ℕ). c < n) (sym (ap (λ l. l.cores) (limits_of setup t))) here

    grows : (f : ℕ) → refs (state_after setup (e ∷ t)) f ≡ refs s f + times f (named_by k.kind k.frame)
    grows f = ap (λ x. refs x f) now ∙ fill_refs s c node index k node_below fits_in.entry empty.names f

    one_more : ((state_after setup (e ∷ t)).core c).counted ≡ (s.core c).counted + 1
    one_more =
        let made = (stands.each c here).works.made in
        let same = counts in
        omega arith

    none_small : 0 < 2 ^ 43
    none_small = omega arith

    max_zero : (n : ℕ) → n ≡ max n 0
    max_zero n = omega arith

    grows_one : (f : ℕ) → times f (named_by k.kind k.frame) ≡ 1 → pos (refs (state_after setup (e ∷ t)) f) ≡ pos (refs s f) +ℤ pos 1
    grows_one f one = ap (λ (n : ℕ). pos n) (let more = grows f in sum_is (refs s f) (refs (state_after setup (e ∷ t)) f) (omega arith))
      where
        sum_is : (x y : ℕ) → y ≡ x + 1 → y ≡ x + 1
        sum_is x y h = h

    before : holds (cores c) ≡ holds_counts None a.counts
    before = ap holds_in active ∙ held_is

    before_count : (f d : ℕ) → ((holds (cores c)).marks (CountAt f d) ≡ (holds_counts None a.counts).marks (CountAt f d))
        × ((holds (cores c)).stands (CountAt f d) ≡ (holds_counts None a.counts).stands (CountAt f d))
    before_count f d = (ap (λ h. h.marks (CountAt f d)) before, ap (λ h. h.stands (CountAt f d)) before)

    still : (w : Word) → (holds after).marks w ≡ (holds (cores c)).marks w
    still w = same_marks (Some None) None a.counts w ∙ sym (ap (λ h. h.marks w) before)

    own_marked : (w : Word) → marked_by setup t w ≡ Some c → (holds_counts None a.counts).marks w ≡ true
    own_marked w is = sym (ap (λ h. h.marks w) before) ∙ (stands.marks w c).owned is

    won : GoodTook setup cores t c compare (landed a (filled_if true))
    won lands = writes_entry setup setting cores t stands c here a active compare node index
        ((cores c).own.made + calls_counted (Reply.Ok Nothing)) (Reply.Ok Nothing) a.found (Decided (Reply.Ok Nothing) None no_tail)
        refl unmarked.mark bare_now
        (subst (λ (n : ℕ). n < 2 ^ 64) (sym leaves) (spelling.small (Held k) fits))
        of_call lands opens refl refl (not_exclusive_word setup cores t stands node index (node_keeps_none (s.frame node) in_node))
        calm plain (spares_node setup t e node index refl in_node) counts elsewhere
        (subst (WordIs (state_after setup (e ∷ t)) (times_of setup (e ∷ t)) (EntryAt node index)) (sym leaves) word_now)
        held_is (λ w own. counts_commit setup setting cores t stands c here a active (pos 1) None none_small
        (named_by k.kind k.frame) few has.knows.all compare
        (Reply.Ok Nothing) after still before_count (λ f d. refl) (reads_alike setup t e calm.frame) unmarked.mark bare_now no_count w
        (own_marked w own))
        (counts_sum setup setting cores t stands c here a active (pos 1) None none_small (named_by k.kind k.frame) few
        has.knows.all compare
        (Reply.Ok Nothing) after still before_count (λ f d. refl) (reads_alike setup t e calm.frame) unmarked.mark bare_now no_count
        (ap (λ l. l.cores) calm.limits)
        (λ f none. ((let more = grows f in omega arith), plain_stamp setup t e plain (FrameOf f)))
        (λ f one. (grows_one f one, plain_stamp setup t e plain (FrameOf f) ∙ max_zero (stamp setup t (FrameOf f)))))
        (record { call = a.call; is_open = is_open; permitted = permitted; justified = gone })
        (λ is_alone. ok_first s c a.call Nothing permitted)
        tt

  -- the compare
  compare_good : GoodTook setup cores t c compare (landed a (filled_if (was == word)))
  compare_good = by_test (was == word) refl
    where
      by_test : (equal : Bool) → (was == word) ≡ equal → GoodTook setup cores t c compare (landed a (filled_if equal))
      by_test true is = won is
      by_test false is = lost is

target_in : (p q : Target) → NextFree p ≡ NextFree q → p ≡ q
target_in p q is = cc

cap_same : (k j : Capability) → Some k ≡ Some j → k ≡ j
cap_same k j is = cc

-- A gate carries the epoch of its component, which the call has read.
gate_is : (s : State) (c : ℕ) (comp q : Capability) (read : Option ℕ) → IsRead s c comp.frame read → gate_to (Some comp) read ≡ Some q
    → cap_of Kind.Gate comp.frame (comp_in (s.frame comp.frame)).epoch ≡ q
gate_is s c comp q read has puts =
    ap (λ (n : ℕ). cap_of Kind.Gate comp.frame n) has.has_life.epoch
    ∙ by (nat_le 1 has.life.epoch) (ap (gate_to (Some comp)) (sym has.epoch) ∙ puts)
  where
    by : (some : Bool) → gate_if some comp.frame has.life.epoch ≡ Some q
        → cap_of Kind.Gate comp.frame has.life.epoch ≡ q
    by true h = cap_same (cap_of Kind.Gate comp.frame has.life.epoch) q h
    by false h = absurd (cc)

-- A map has no cause against it, where the range has its frame, which is a user frame.
maps_calm : (s : State) (c f : ℕ) (range : Capability) → has_frame (found range) f ≡ true → s.frame f ≡ User
    → first_cause s c (outside (found range) f ∷ not_user s f ∷ []) ≡ None
maps_calm s c f range has user =
    ap (λ b. first_of (if not b then Some Reply.OutOfRange else None) (first_cause s c (not_user s f ∷ []))) has
    ∙ ap (λ x. first_of (if is_frame s f && not (is_user x) then Some Reply.FrameKind else None) None) user ∙ by (is_frame s f)
  where
    by : (b : Bool) → first_of (if b && false then Some Reply.FrameKind else None) None ≡ None
    by true = refl
    by false = refl

-- A part has no cause against it, where the range has its frames.
part_calm : (s : State) (c f n : ℕ) (range : Capability) → has_frames (found range) f n ≡ true
    → first_cause s c (beyond (found range) f n ∷ []) ≡ None
part_calm s c f n range has = ap (λ b. first_of (if not b then Some Reply.OutOfRange else None) None) has

-- A frame that the call maps is a user frame.
abbrev MapsUser : State → Call → Type 0
MapsUser s (Map p v r f w) = s.frame f ≡ User
MapsUser s call = Unit {0}

maps_user : (setup : Setting) (t : Trace) (c : ℕ) (call : Call) → HasUser setup t c call → MapsUser (state_after setup t) call
maps_user setup t c (Map p v r f w) has = has.user
maps_user setup t c call has = tt

-- What a call puts at its target is what its rule puts there: a line a call that fills.
puts_by : (s : State) (c : ℕ) (target : Target) (q : Capability) (call : Call) (ks : List Capability)
    → Leads (LeadsIn s c) (plan_for call).names [] ks → names_after (plan_for call).names ks ≡ []
    → next_of (plan_for call) ks ≡ NextFree target → (read : Option ℕ) → ReadIs s c (reads_of call ks) read → put_by call ks read ≡ Some q
    → MapsUser s call → Puts s c call ks target q
puts_by s c target q (Copy a u b rights) (k ∷ j ∷ []) lead none next read has_read puts user =
    subst (λ (q : Capability). Puts s c (Copy a u b rights) (k ∷ j ∷ []) target q) (cap_same (kept k rights.0) q puts)
    (subst (λ p. Puts s c (Copy a u b rights) (k ∷ j ∷ []) p (kept k rights.0)) (target_in (Under (found j) b) target next)
    (record {
      causes = [];
      calm = refl;
      rule = refl;
      places = refl;
      ends = λ x. refl;
      flushes = refl;
    }))
puts_by s c target q (Copy a u b rights) [] lead none next read has_read puts user = absurd (not_none none)
  where
    not_none : any_cap right_to_copy a ∷ of_kind Kind.Table u ∷ [] ≡ [] → ⊥
    not_none h = cc
puts_by s c target q (Copy a u b rights) (k ∷ []) lead none next read has_read puts user = absurd (not_none none)
  where
    not_none : of_kind Kind.Table u ∷ [] ≡ [] → ⊥
    not_none h = cc
puts_by s c target q (Copy a u b rights) (k ∷ j ∷ i ∷ ks) lead none next read has_read puts user = absurd lead.1.1
puts_by s c target q (Grow u i l) (k ∷ j ∷ []) lead none next read has_read puts user =
    subst (λ (q : Capability). Puts s c (Grow u i l) (k ∷ j ∷ []) target q) (cap_same (plain_cap Kind.Link j.frame) q puts)
    (subst (λ p. Puts s c (Grow u i l) (k ∷ j ∷ []) p (plain_cap Kind.Link j.frame)) (target_in (InRoot (found k) i) target next)
    (record { causes = []; calm = refl; rule = refl; places = refl; ends = λ x. refl; flushes = refl }))
puts_by s c target q (Grow u i l) [] lead none next read has_read puts user = absurd (cc)
puts_by s c target q (Grow u i l) (k ∷ []) lead none next read has_read puts user = absurd (cc)
puts_by s c target q (Grow u i l) (k ∷ j ∷ h ∷ ks) lead none next read has_read puts user = absurd lead.1.1
puts_by s c target q (Look a) ks lead none next read has_read puts user = absurd (cc)
puts_by s c target q (Remove u b) ks lead none next read has_read puts user = absurd (cc)
puts_by s c target q (Shrink u i) ks lead none next read has_read puts user = absurd (cc)
puts_by s c target q (Map p v r f w) (k ∷ j ∷ []) lead none next read has_read puts user = by (has_frame (found j) f) refl puts
  where
    by : (has : Bool) → has_frame (found j) f ≡ has → (if has then Some (page_cap f w) else None) ≡ Some q
        → Puts s c (Map p v r f w) (k ∷ j ∷ []) target q
    by true has is = subst (λ (q : Capability). Puts s c (Map p v r f w) (k ∷ j ∷ []) target q) (cap_same (page_cap f w) q is)
        (subst (λ p2. Puts s c (Map p v r f w) (k ∷ j ∷ []) p2 (page_cap f w)) (target_in (Under (found k) v) target next)
        (record {
          causes = outside (found j) f ∷ not_user s f ∷ [];
          calm = maps_calm s c f j has user;
          rule = refl;
          places = refl;
          ends = λ x. refl;
          flushes = refl;
        }))
    by false has is = absurd (cc)
puts_by s c target q (Map p v r f w) [] lead none next read has_read puts user = absurd (cc)
puts_by s c target q (Map p v r f w) (k ∷ []) lead none next read has_read puts user = absurd (cc)
puts_by s c target q (Map p v r f w) (k ∷ j ∷ h ∷ ks) lead none next read has_read puts user = absurd lead.1.1
puts_by s c target q (Unmap p v) ks lead none next read has_read puts user = absurd (cc)
puts_by s c target q (Retype r f k) ks lead none next read has_read puts user = absurd (cc)
puts_by s c target q (make_call what r f u b) ks lead none next read has_read puts user = absurd (cc)
puts_by s c target q (Tick n) ks lead none next read has_read puts user = absurd (cc)
puts_by s c target q (Gate n u b) (k ∷ j ∷ []) lead none next read has_read puts user =
    subst (λ (q : Capability). Puts s c (Gate n u b) (k ∷ j ∷ []) target q) (gate_is s c k q read has_read puts)
    (subst (λ p. Puts s c (Gate n u b) (k ∷ j ∷ []) p
    (cap_of Kind.Gate k.frame (comp_in (s.frame k.frame)).epoch)) (target_in (Under (found j) b) target next)
    (record {
      causes = [];
      calm = refl;
      rule = refl;
      places = refl;
      ends = λ x. refl;
      flushes = refl;
    }))
puts_by s c target q (Gate n u b) [] lead none next read has_read puts user = absurd (not_none none)
  where
    not_none : of_kind Kind.Comp n ∷ of_kind Kind.Table u ∷ [] ≡ [] → ⊥
    not_none h = cc
puts_by s c target q (Gate n u b) (k ∷ []) lead none next read has_read puts user = absurd (not_none none)
  where
    not_none : of_kind Kind.Table u ∷ [] ≡ [] → ⊥
    not_none h = cc
puts_by s c target q (Touch v) ks lead none next read has_read puts user = absurd (cc)
puts_by s c target q (Gate n u b) (k ∷ j ∷ i ∷ ks) lead none next read has_read puts user = absurd lead.1.1
puts_by s c target q Flush ks lead none next read has_read puts user = absurd (cc)
puts_by s c target q (Kill n) ks lead none next read has_read puts user = absurd (cc)
puts_by s c target q (call_gate n) ks lead none next read has_read puts user = absurd (cc)
puts_by s c target q Ret ks lead none next read has_read puts user = absurd (cc)
puts_by s c target q (Replenish x m) ks lead none next read has_read puts user = absurd (cc)
puts_by s c target q (Transfer x y m) ks lead none next read has_read puts user = absurd (cc)
puts_by s c target q (Delegate x y m) ks lead none next read has_read puts user = absurd (cc)
puts_by s c target q (Test x y) ks lead none next read has_read puts user = absurd (cc)
puts_by s c target q (Switch x y) ks lead none next read has_read puts user = absurd (cc)
puts_by s c target q (Part r f n u b) (k ∷ j ∷ []) lead none next read has_read puts user = by (has_frames (found k) f n) refl puts
  where
    by : (has : Bool) → has_frames (found k) f n ≡ has → (if has then Some (part_of k f n) else None) ≡ Some q
        → Puts s c (Part r f n u b) (k ∷ j ∷ []) target q
    by true has is = subst (λ (q : Capability). Puts s c (Part r f n u b) (k ∷ j ∷ []) target q) (cap_same (part_of k f n) q is)
        (subst (λ p. Puts s c (Part r f n u b) (k ∷ j ∷ []) p (part_of k f n)) (target_in (Under (found j) b) target next)
        (record {
          causes = beyond (found k) f n ∷ [];
          calm = part_calm s c f n k has;
          rule = refl;
          places = refl;
          ends = λ x. refl;
          flushes = refl;
        }))
    by false has is = absurd (cc)
puts_by s c target q (Part r f n u b) [] lead none next read has_read puts user = absurd (cc)
puts_by s c target q (Part r f n u b) (k ∷ []) lead none next read has_read puts user = absurd (cc)
puts_by s c target q (Part r f n u b) (k ∷ j ∷ h ∷ ks) lead none next read has_read puts user = absurd lead.1.1

module _ (setup : Setting) (setting : IsSetting setup) (cores : ℕ → Core) (t : Trace) (stands : Invariant setup cores t) (c : ℕ)
    (here : c < setup.cores)
    (a : ActiveCall) (fill : Fill) (active : (cores c).active ≡ Some a) (stage_is : a.stage ≡ Undecided (Act (fill_act fill)))
    (has : KnowsUndecided setup t c (cores c).own.table a (Act (fill_act fill))) where
  none_left : names_after (plan_for a.call).names a.found ≡ []
  none_left = by (rest_of (plan_for a.call) a.found)
    where
      not_free : (n : ℕ) (wanted : Want) (target : Target) → NextName n wanted ≡ NextFree target → ⊥
      not_free n wanted target h = cc

      by : Rest (plan_for a.call) a.found → names_after (plan_for a.call).names a.found ≡ []
      by (ANameLeft name rest is) =
          absurd (not_free _ _ has.knows.knows.target (sym (next_name (plan_for a.call) a.found name rest is) ∙ has.knows.knows.next))
      by (NoneLeft none) = none

  pub fill_good : GoodTook setup cores t c (fill_move fill) (landed a
      (filled_if (last_left setup t (EntryAt fill.node fill.entry) == fill.word)))
  fill_good = compare_good setup setting cores t stands c here a fill.node fill.entry fill.word fill.cap active stage_is has
      (puts_by (state_after setup t) c has.knows.knows.target fill.cap a.call a.found
      (plan_leads setup setting cores t stands c here a active has.names)
      none_left
      has.knows.knows.next
      has.knows.knows.read has.knows.knows.has_read has.knows.knows.puts
      (maps_user setup t c a.call has.knows.knows.user))
