-- Worked traces whose last decision the call relation permits, and no step of its call justifies; and a trace that follows no order
-- of its one item. The checker computes what holds of each.
use Rattle.kernel_history.specs.{◌≡◌, ℕ, zero, suc, ◌<◌, ◌==◌, ◌&&◌, ◌||◌, ◌++◌, cond, Bool, true, false, List, [], ◌∷◌, length, Option}
use Rattle.kernel_history.specs.{Some, None, refl, IsTrue, is_some, whole_copy, Call, How, Return, Value, Reply, word_of_entry}
use Rattle.kernel_history.specs.{entry_of_word, EntryAt, CoreAt, ClockAt, Move, LoadOf, CompareOf, StoreOf, Slot, same_thing, Thing}
use Rattle.kernel_history.specs.{PlaceOf, FrameOf, NumberOf, MayReply, rule_of, ways, IsRemoved, IsJustified, DecidesBy, MayDecide, IsLegal}
use Rattle.kernel_history.specs.{AreOf, MakesOne, Stretch, FollowsCores, IsIdle, Follows, Step, Phase, phase, state_before, WasBefore}
use Rattle.kernel_history.specs.{two_cores, there, decides, goes, range_word, done, ready_to_look}
use Rattle.kernel_rules.proofs.{inl, inr, arith, sym, ◌∙◌, ap, subst, append_assoc, append-nil, and_from, eq-eqb, eqb-true, false≢true}
use Rattle.std.proofs.lemmas.List.Elements.{All-nil, All-cons, All-head, All-tail}
use Rattle.kernel_history.specs.{Order.GoesThrough, Order.GoesUntilReady, Trace.Trace, Trace.Open, Scenes.mark_word, Scenes.named}
use Rattle.kernel_history.specs.{Scenes.half_named, Scenes.marked_beside, Scenes.name_removed, Scenes.other_enters, Scenes.clock_raised}
use Rattle.kernel_history.specs.{Scenes.target_read, Scenes.removed, Scenes.filled, Scenes.fills_again, Scenes.between, Scenes.both_look}
use Rattle.kernel_history.specs.{Refusals.deciding, Refusals.Unjustified, Refusals.JustificationRefuses, Refusals.OrderRefuses}
use Rattle.kernel_history.proofs.Computed.{neither, none, may_follow, is_within, keeps_bounds, is_in_it, keeps_footprints, has_stepped}
use Rattle.{kernel_rules.specs.One, kernel_rules.specs.Ready, kernel_rules.specs.Decide, std.specs.List.list_any}
use Rattle.{std.proofs.lemmas.Bool.and_parts, frame_words.specs.Core.word_of_core, kernel_history.proofs.Computed.has_reached}

abbrev slot : ℕ → ℕ → Slot
slot f i = record { node = f; index = i }

open_call : (j k : Call) → Open j ≡ Open k → k ≡ j
open_call j k same = cc

-- A decision of an open call that is not justified is not legal.
unjustified : (c : ℕ) (m : Move) (k : Call) (r : Reply) (t : Trace) → IsLegal two_cores (goes c m t)
    → is_in_it two_cores (goes c m t) ≡ true → is_within 2 (goes c m t) ≡ true → phase t c ≡ Open k
    → MayReply (state_before two_cores t (deciding c m r t)) c k r
    → (IsJustified two_cores t (deciding c m r t) k r → ⊥) → Unjustified c m k r t
unjustified c m k r t legal footprint within is may not = record {
  legal = legal;
  footprint = keeps_footprints two_cores (goes c m t) footprint;
  within = keeps_bounds 2 (goes c m t) within;
  is_open = is;
  permitted = may;
  unjustified = not;
  refused = λ legal. not (subst (λ j. IsJustified two_cores t (deciding c m r t) j r)
      (open_call k legal.1.decides.call (sym is ∙ legal.1.decides.is_open)) legal.1.decides.justified);
}

-- A decision that the call relation does not permit is not legal.
pub not_permitted : {t : Trace} {e : Step} {r : Reply} {p : Phase} (k : Call) → p ≡ Open k → DecidesBy two_cores t e r p
    → (MayReply (state_before two_cores t e) e.core k r → ⊥) → ⊥
not_permitted {t} {e} {r} {p} k is decides not = not (subst (λ j. MayReply (state_before two_cores t e) e.core j r)
    (open_call k decides.call (sym is ∙ decides.is_open)) decides.permitted)

-- An open call may be carried out where it has stepped on the places of its way.
pub carried_out : {c : ℕ} {m : Move} {k : Call} {v : Value} {t : Trace} → phase t c ≡ Open k
    → MayReply (state_before two_cores t (deciding c m (Reply.Ok v) t)) c k (Reply.Ok v)
    → has_stepped (decides c m (Reply.Ok v) t) c (ways (state_before two_cores t (deciding c m (Reply.Ok v) t)) c
    (rule_of (state_before two_cores t (deciding c m (Reply.Ok v) t)) c k)) ≡ true
    → MayDecide two_cores t (deciding c m (Reply.Ok v) t) (Some (Reply.Ok v)) (phase t c)
carried_out {c} {m} {k} {v} {t} is may stepped = record {
  call = k;
  is_open = is;
  permitted = may;
  justified = has_reached (decides c m (Reply.Ok v) t) c (ways (state_before two_cores t (deciding c m (Reply.Ok v) t)) c
      (rule_of (state_before two_cores t (deciding c m (Reply.Ok v) t)) c k)) stepped;
}

-- the traces are legal

pub named_legal : IsLegal two_cores named
unfolding two_cores named word_of_entry
named_legal = (
  (((tt, may_follow refl refl (refl, omega arith) tt tt), may_follow refl refl tt tt tt), may_follow refl refl tt tt tt),
  may_follow refl refl tt tt tt,
)

half_legal : IsLegal two_cores half_named
unfolding two_cores half_named word_of_entry
half_legal = (((tt, may_follow refl refl (refl, omega arith) tt tt), may_follow refl refl tt tt tt), may_follow refl refl tt tt tt)

beside_legal : IsLegal two_cores marked_beside
unfolding two_cores mark_word named marked_beside word_of_entry
beside_legal = ((named_legal, may_follow refl refl (refl, omega arith) tt tt), may_follow refl refl tt tt tt)

name_legal : IsLegal two_cores name_removed
unfolding two_cores range_word mark_word named name_removed word_of_entry
name_legal = ((named_legal, may_follow refl refl (refl, tt) tt tt), may_follow refl refl tt tt tt)

other_legal : IsLegal two_cores other_enters
unfolding two_cores named other_enters word_of_entry word_of_core
other_legal = ((named_legal, may_follow refl refl tt tt tt), may_follow refl refl (refl, tt) tt tt)

clock_legal : IsLegal two_cores clock_raised
unfolding two_cores named clock_raised word_of_entry
clock_legal = (((named_legal, may_follow refl refl tt tt tt), may_follow refl refl (refl, tt) tt tt), may_follow refl refl tt tt tt)

target_legal : IsLegal two_cores target_read
unfolding two_cores target_read word_of_entry
target_legal = (
  (
    (((tt, may_follow refl refl (refl, omega arith) tt tt), may_follow refl refl tt tt tt), may_follow refl refl tt tt tt),
    may_follow refl refl tt tt tt,
  ),
  may_follow refl refl tt tt tt,
)

removed_legal : IsLegal two_cores removed
unfolding two_cores removed word_of_entry
removed_legal = (
  (
    (((tt, may_follow refl refl (refl, tt) tt tt), may_follow refl refl tt tt tt), may_follow refl refl tt tt tt),
    may_follow refl refl tt tt tt,
  ),
  may_follow refl refl tt (carried_out {k = Call.Remove 1 13} refl (refl, (refl, refl)) refl) tt,
)

filled_legal : IsLegal two_cores filled
unfolding two_cores range_word removed filled word_of_entry
filled_legal = (
  (
    (
      (
        (
          (removed_legal, may_follow refl refl tt tt (record { call = Call.Remove 1 13; was_decided = refl })),
          may_follow refl refl (refl, omega arith) tt tt,
        ),
        may_follow refl refl tt tt tt,
      ),
      may_follow refl refl tt tt tt,
    ),
    may_follow refl refl tt tt tt,
  ),
  may_follow refl refl tt (carried_out {k = whole_copy 0 1 13} refl (refl, (refl, refl)) refl) tt,
)

again_legal : IsLegal two_cores fills_again
unfolding two_cores range_word removed filled fills_again word_of_entry
again_legal = (
  (
    (
      (filled_legal, may_follow refl refl tt tt (record { call = whole_copy 0 1 13; was_decided = refl })),
      may_follow refl refl (refl, tt) tt tt,
    ),
    may_follow refl refl (refl, omega arith) tt tt,
  ),
  may_follow refl refl tt tt tt,
)

between_legal : IsLegal two_cores between
unfolding two_cores between word_of_entry
between_legal = (
  (
    (
      (
        (
          (
            ((tt, may_follow refl refl (refl, tt) tt tt), may_follow refl refl (refl, tt) tt tt),
            may_follow refl refl tt tt tt,
          ),
          may_follow refl refl tt (carried_out {k = Call.Look 0} refl (refl, (refl, refl)) refl) tt,
        ),
        may_follow refl refl tt tt (record { call = Call.Look 0; was_decided = refl }),
      ),
      may_follow refl refl tt tt tt,
    ),
    may_follow refl refl tt (carried_out {k = Call.Look 0} refl (refl, (refl, refl)) refl) tt,
  ),
  may_follow refl refl tt tt (record { call = Call.Look 0; was_decided = refl }),
)

-- An `ok` off its way.

ok_off : IsJustified two_cores half_named (deciding 0 (CompareOf (EntryAt 1 20) 0 range_word) done half_named) (whole_copy 0 1 20) done → ⊥
unfolding two_cores half_named
ok_off reached = let inside : 1 < 6 = omega arith in false≢true (reached 1 (slot 0 0) inside)

ok_off_target : IsJustified two_cores named (deciding 0 (LoadOf (EntryAt 0 0)) done named) (whole_copy 0 1 20) done → ⊥
unfolding two_cores named
ok_off_target reached = let inside : 5 < 6 = omega arith in false≢true (reached 5 (slot 0 0) inside)

-- A `raced` for a place that core 1 finds free, as it has read it.

free_read : (own : ℕ) → Some 0 ≡ Some own → 0 ≡ own
free_read own h = cc

no_race : IsJustified two_cores target_read (deciding 1 (LoadOf (EntryAt 1 20)) Reply.Raced target_read) (whole_copy 0 1 20) Reply.Raced → ⊥
unfolding two_cores target_read word_of_entry
no_race lost = let same : 0 ≡ lost.own = free_read lost.own lost.has_read in lost.changed same

-- A `quiescing` for a place that was not removed at a moment of its call: it waits for no place that it asks for.

again_waits : Step
again_waits = deciding 0 (LoadOf (EntryAt 1 13)) (Reply.Quiescing 1) fills_again

or_false : (b : Bool) → (b || false) ≡ true → b ≡ true
or_false true h = refl
or_false false h = h

never_removed : (x : Thing) → IsTrue (list_any (same_thing x) (PlaceOf 1 13 ∷ []))
    → WasBefore (IsRemoved x) two_cores fills_again again_waits → ⊥
unfolding two_cores range_word removed filled fills_again again_waits word_of_entry
never_removed (FrameOf f) asked was = false≢true asked
never_removed (NumberOf l) asked was = false≢true asked
never_removed (PlaceOf f i) asked was =
    let at = and_parts (f == 1) _ (or_false _ asked) in
    let same : PlaceOf f i ≡ PlaceOf 1 13 = ap (λ (n : ℕ). PlaceOf n i) (eqb-true f 1 at.0) ∙ ap (PlaceOf 1) (eqb-true i 13 at.1) in
    place (subst (λ x. WasBefore (IsRemoved x) two_cores fills_again again_waits) same was)
  where
    place : WasBefore (IsRemoved (PlaceOf 1 13)) two_cores fills_again again_waits → ⊥
    place = neither none (neither none (neither none none))

no_waiting : IsJustified two_cores fills_again again_waits (whole_copy 0 1 13) (Reply.Quiescing 1) → ⊥
unfolding two_cores range_word removed filled fills_again again_waits word_of_entry
no_waiting waits = never_removed waits.thing waits.asked waits.was_removed

pub justification_refuses : JustificationRefuses
unfolding two_cores range_word mark_word named half_named marked_beside name_removed other_enters clock_raised target_read removed filled
    fills_again again_waits word_of_entry entry_of_word word_of_core
justification_refuses = record {
  ok_off_the_way = unjustified 0 (CompareOf (EntryAt 1 20) 0 range_word) (whole_copy 0 1 20) done half_named
      (half_legal, may_follow refl refl tt tt tt) refl refl refl (refl, (refl, refl)) ok_off;
  ok_off_its_target = unjustified 0 (LoadOf (EntryAt 0 0)) (whole_copy 0 1 20) done named
      (named_legal, may_follow refl refl tt tt tt) refl refl refl (refl, (refl, refl)) ok_off_target;
  busy_beside_the_way = unjustified 0 (LoadOf (EntryAt 1 21)) (whole_copy 0 1 20) (Reply.Busy 1) marked_beside
      (beside_legal, may_follow refl refl tt tt tt) refl refl refl (refl, tt) (λ held. false≢true (held.on_way refl));
  raced_for_a_name = unjustified 0 (LoadOf (EntryAt 1 0)) (whole_copy 0 1 20) Reply.Raced name_removed
      (name_legal, may_follow refl refl tt tt tt) refl refl refl (refl, tt)
      (λ lost. neither (λ target. let place : 20 ≡ 0 = target.1 in omega (arith, place)) (λ head. head.0) lost.at);
  raced_for_a_core = unjustified 0 (LoadOf (CoreAt 1)) (whole_copy 0 1 20) Reply.Raced other_enters
      (other_legal, may_follow refl refl tt tt tt) refl refl refl (refl, tt) (λ lost. lost.at);
  raced_for_the_clock = unjustified 0 (LoadOf ClockAt) (whole_copy 0 1 20) Reply.Raced clock_raised
      (clock_legal, may_follow refl refl tt tt tt) refl refl refl (refl, tt) (λ lost. lost.at);
  raced_for_nothing = unjustified 1 (LoadOf (EntryAt 1 20)) (whole_copy 0 1 20) Reply.Raced target_read
      (target_legal, may_follow refl refl tt tt tt) refl refl refl (refl, tt) no_race;
  waits_for_nothing = unjustified 0 (LoadOf (EntryAt 1 13)) (whole_copy 0 1 13) (Reply.Quiescing 1) fills_again
      (again_legal, may_follow refl refl tt tt tt) refl refl refl
      (refl, inr (inr (inl (record { is_core = omega arith; other = λ e. omega (arith, e); is_inside = refl; not_passed = refl }))))
      no_waiting;
}

-- the order

-- The oldest steps of a trace, up to the first that is not of core c.
abbrev first_own : ℕ → Trace → Trace
first_own c [] = []
first_own c (e ∷ t) = cond (e.core == c && length (first_own c t) == length t) (e ∷ t) (first_own c t)

all_own : (c : ℕ) (t : Trace) → AreOf c t → first_own c t ≡ t
all_own c [] own = refl
all_own c (e ∷ t) own = ap (λ b. cond b (e ∷ t) (first_own c t)) (and_from _ _ (eq-eqb e.core c (All-head (λ e. e.core ≡ c) e t own))
    (eq-eqb _ _ (ap length (all_own c t (All-tail (λ e. e.core ≡ c) e t own)))))

-- They end with each oldest part whose steps are all of core c.
part_own : (c : ℕ) (s m : Trace) → AreOf c m → (r : Trace) × (first_own c (s ++ m) ≡ r ++ m)
part_own c [] m own = ([], all_own c m own)
part_own c (e ∷ s) m own = by (e.core == c && length (first_own c (s ++ m)) == length (s ++ m)) (part_own c s m own)
  where
    by : (b : Bool) → (r : Trace) × (first_own c (s ++ m) ≡ r ++ m)
        → (r : Trace) × (cond b (e ∷ (s ++ m)) (first_own c (s ++ m)) ≡ r ++ m)
    by true rest = (e ∷ s, refl)
    by false rest = rest

-- What each core does to the end of its list comes after.
after_items : (lists : List (List Call)) (n : ℕ) (t u : Trace) → FollowsCores lists n t u → (s : Trace) × (u ≡ s ++ t)
after_items lists zero t u is = ([], is)
after_items lists (suc n) t u cores = let rest = after_items lists n t cores.0 cores.1 in
    (cores.2.steps ++ rest.0, cores.2.adds ∙ ap (λ (m : Trace). cores.2.steps ++ m) rest.1 ∙ sym (append_assoc cores.2.steps rest.0 t))

-- A list of one thing that ends with these has one of them.
single : (r : Trace) (e last : Step) (rest : Trace) → e ∷ [] ≡ r ++ (last ∷ rest) → (e ≡ last) × (rest ≡ [])
single [] e last rest is = (cc, cc)
single (x ∷ []) e last rest is = absurd (cc)
single (x ∷ y ∷ r) e last rest is = absurd (cc)

no_part : (r : Trace) (last : Step) (rest : Trace) → [] ≡ r ++ (last ∷ rest) → ⊥
no_part [] last rest is = cc
no_part (x ∷ r) last rest is = cc

-- The oldest step of the trace: core 0 enters its look.
abbrev entry : Step
entry = record {
  core = 0;
  move = StoreOf (CoreAt 0) 1;
  found = there [] (CoreAt 0);
  enters = Some (Call.Look 0);
  decides = None;
  returns = None;
}

oldest_own : entry ∷ [] ≡ first_own 0 between
unfolding two_cores between
oldest_own = refl

oldest_other : [] ≡ first_own 1 between
unfolding two_cores between
oldest_other = refl

-- Steps of core 0 with which the trace begins are this one alone.
begins : (steps : Trace) (last : Step) (s m : Trace) → m ≡ last ∷ (steps ++ []) → AreOf 0 (last ∷ steps) → between ≡ s ++ m
    → (entry ≡ last) × (steps ++ [] ≡ [])
begins steps last s m adds own is =
    let part = part_own 0 s m (subst (AreOf 0) (sym (adds ∙ ap (λ (xs : Trace). last ∷ xs) (append-nil steps))) own) in
    single part.0 entry last (steps ++ [])
    (oldest_own ∙ ap (first_own 0) is ∙ part.1 ∙ ap (λ (m : Trace). part.0 ++ m) adds)

-- It has no event that an item waits for,
no_event : (event : Step → Option Reply) → event entry ≡ None → (s m : Trace) → GoesThrough event 0 [] m → between ≡ s ++ m → ⊥
no_event event none s m goes is = let first = begins goes.steps goes.last s m goes.adds goes.own is in
    false≢true (sym (ap (λ (o : Option Reply). is_some o) none) ∙ ap (λ e. is_some (event e)) first.0 ∙ goes.ends)

-- and core 0 is not ready after it.
no_ready : (s m : Trace) → GoesUntilReady ready_to_look 0 [] m → between ≡ s ++ m → ⊥
no_ready s m goes is =
    let first = begins goes.steps goes.last s m goes.adds goes.own is in
    let same : m ≡ entry ∷ [] = goes.adds ∙ ap (λ (e : Step). e ∷ (goes.steps ++ [])) (sym first.0)
    ∙ ap (λ (t : Trace). entry ∷ t) first.1 in
    false≢true (sym (ap (λ t. ready_to_look t 0) same) ∙ goes.ends)

-- No step of core 1 comes first.
no_first : (s m : Trace) → MakesOne 1 [] m → between ≡ s ++ m → ⊥
no_first s m makes is =
    let own = All-cons (λ e. e.core ≡ 1) makes.step [] makes.own (All-nil (λ e. e.core ≡ 1)) in
    let part = part_own 1 s m (subst (AreOf 1) (sym makes.adds) own) in
    no_part part.0 makes.step [] (oldest_other ∙ ap (first_own 1) is ∙ part.1 ∙ ap (λ (m : Trace). part.0 ++ m) makes.adds)

-- An order of one item of a core that has a call: what the item leads to ends the trace.
by_item : (c : ℕ) (how : How) → (IsIdle both_look [] c → ⊥)
    → ((s m : Trace) → Stretch ready_to_look how c [] m → between ≡ s ++ m → ⊥)
    → Follows ready_to_look both_look (record { core = c; how = how } ∷ []) between → ⊥
by_item c how busy refused follows =
    let after = after_items both_look (length both_look) follows.ordered between follows.by_cores in
    neither (λ stays. busy stays.0)
    (λ moves. refused after.0 follows.by_items.0 moves.1 (after.1 ∙ ap (λ (m : Trace). after.0 ++ m) follows.by_items.2)) follows.by_items.1

first_busy : IsIdle both_look [] 0 → ⊥
first_busy idle = let none : [] ≡ Call.Look 0 ∷ [] = idle.finished in cc

second_busy : IsIdle both_look [] 1 → ⊥
second_busy idle = let none : [] ≡ Call.Look 0 ∷ [] = idle.finished in cc

has_looked : (c : ℕ) → c < 2 → IsIdle both_look between c
unfolding two_cores between
has_looked zero below = record { out = refl; finished = refl }
has_looked (suc zero) below = record { out = refl; finished = refl }
has_looked (suc (suc c)) below = absurd (omega (arith, below))

pub order_refuses : OrderRefuses
order_refuses = record {
  legal = between_legal;
  calls = has_looked;
  one = by_item 1 One second_busy no_first;
  ready = by_item 0 Ready first_busy (λ s m goes is. neither (λ now. false≢true now.0) (λ later. no_ready s m later.1 is) goes);
  decide = by_item 0 Decide first_busy
      (λ s m goes is. neither (λ now. now.0) (λ later. no_event (λ e. e.decides) refl s m later.1 is) goes);
  return = by_item 0 Return first_busy (λ s m goes is. no_event (λ e. e.returns) refl s m goes is);
}
