-- A frame that nothing names, and for which a core does not wait, rests where the core's call is carried out: it stays, with what its
-- places hold, or it is made untyped.
use Rattle.trace_laws.specs.kernel_history.proofs as low
use low.{◌≡◌, ◌≢◌, ◌⊎◌, inl, inr, ℕ, ◌<◌, ◌≤◌, ◌+◌, ◌-◌, ◌==◌, ◌&&◌, leb as nat_le, Bool, true, false, arith, refl, sym, ◌∙◌, ap, subst}
use low.{if◌then◌else◌, IsTrue, [], ◌∷◌, Option, Some, None, false≢true, Capability, part_of, Setting, IsSetting, Kind, FrameKind, Make}
use low.{Call, Look, Copy, Remove as remove_call, Grow, Shrink, Retype, Map, Unmap, Touch, Flush, Gate, Kill, Ret, Switch, Tick, Transfer}
use low.{Delegate, Test, Part, Replenish, Translation, Reply, Place, Free, Holds, Quiescing, Object, Blank, Comp, Thread, Tcap, Frame}
use low.{Untyped, Kernel, FrameOf, State, put, with_place, with_frame, comp_of, thread_in, Live, named_by, core_names, times, refs}
use low.{plain_cap, Want, to_use, Slot, Named, found, Under, InRoot, reached, only, Nothing, Change, does, Judged, Found, named, vacant}
use low.{epoch_of, Fill, with_thread, running, with_budget, tcap_at, moved, translation_of, rule_of, change_of, changed, owed_by, state_by}
use low.{counted, Value, IsGuarded, IfFound, put_same, put_other, MayFollow, IsLegal, Step, Phase, Out, Decided, phase, after_enter, state_after}
use low.{state_entered, state_decided, state_returned, state_before, entered_events}
use Rattle.trace_laws.specs.kernel_invariant.proofs.{only_is, IsOpen, blank_by, untyped_by, unnamed, times_first, times_cons, ChangesFrom}
use Rattle.trace_laws.specs.kernel_invariant.proofs.{outcome_from, some_inj, none_some, suits, named_good, vacant_facts, held_facts}
use Rattle.trace_laws.specs.kernel_invariant.proofs.{is_typed, opened}
use Rattle.trace_laws.specs.kernel_rules.specs.{kept, with_number, root, Refused, held, make_node, make_rule, not_taken, cleared}
use Rattle.trace_laws.specs.kernel_rules.specs.{retype_rule, touch_by, switch_to}
use Rattle.trace_laws.specs.found_stays.proofs.{core_same_refs, name_parts, usable_guarded}
use Rattle.trace_laws.specs.spk_nums.specs.declared.calls.Call.TheVariants.{Make as make_call, Call as call_gate}
use Rattle.trace_laws.specs.kernel_history.specs.Trace.{Trace, Open}
use Rattle.{std.proofs.lemmas.Bool.cases_eq, trace_laws.specs.kernel_rules.specs.Edits.Remove}
use Rattle.{trace_laws.specs.found_stays.proofs.Stays.reached_relies, trace_laws.proofs.Opens.opens}

-- From s to t the frame f rests.
pub record Rests (s t : State) (f : ℕ) : Type 0 where
  pub frame : t.frame f ≡ s.frame f
  pub place : (i : ℕ) → t.place f i ≡ s.place f i

abbrev pub RestsOr : State → State → ℕ → Type 0
RestsOr s t f = (t.frame f ≡ Untyped) ⊎ Rests s t f

pub rests_same : (s : State) (f : ℕ) → Rests s s f
rests_same s f = record { frame = refl; place = λ i. refl }

pub rests_then : (s t u : State) (f : ℕ) → Rests s t f → Rests t u f → Rests s u f
rests_then s t u f a b = record { frame = b.frame ∙ a.frame; place = λ i. b.place i ∙ a.place i }

frame_rests : (s : State) (f g : ℕ) (y : Frame) → g ≢ f → Rests s (with_frame s g y) f
frame_rests s f g y other = record { frame = put_other s.frame g y f (λ same. other (sym same)); place = λ i. refl }

place_rests : (s : State) (f g j : ℕ) (p : Place) → g ≢ f → Rests s (with_place s g j p) f
place_rests s f g j p other = record {
  frame = refl;
  place = λ i. ap (λ r. r i) (put_other s.place g (put (s.place g) j p) f (λ same. other (sym same)));
}

cleared_rests : (s : State) (f g : ℕ) → g ≢ f → Rests s (cleared s g) f
cleared_rests s f g other = record {
  frame = refl;
  place = λ i. ap (λ r. r i) (put_other s.place g (λ j. Free) f (λ same. other (sym same)));
}

made_rests : (s : State) (f g : ℕ) (object : Object) (k : Kind) (at : Slot) → g ≢ f → at.node ≢ f
    → Rests s (with_place (with_frame s g (Kernel object)) at.node at.index (Holds (plain_cap k g))) f
made_rests s f g object k at other away =
    rests_then s (with_frame s g (Kernel object)) _ f (frame_rests s f g (Kernel object) other)
    (place_rests (with_frame s g (Kernel object)) f at.node at.index _ away)

root_names : (k : Kind) (f : ℕ) → root k ≡ true → named_by k f ≡ f ∷ []
root_names Kind.Range f is = absurd (false≢true is)
root_names _ f is = refl

module _ (s : State) (o : ℕ → Bool) (d : ℕ) (h : IsOpen s o d) (f : ℕ) (typed : IsTrue (is_typed (s.frame f))) (zero : refs s f ≡ 0)
    (none : (s.grace (FrameOf f)).waits d ≡ false) where
  abbrev RestsBy : Change → Type 0
  RestsBy change = RestsOr s change.next f

  -- what the core may use is another frame
  away : (g : ℕ) → IsGuarded s d g → g ≢ f
  away g (inl some) same = let r : refs s g ≡ refs s f = ap (refs s) same in omega (arith, some, r, zero)
  away g (inr waits) same = false≢true (sym none ∙ ap (λ n. (s.grace (FrameOf n)).waits d) (sym same) ∙ waits)

  named_away : (n : ℕ) (wanted : Want) (k : Capability) → named s d n wanted ≡ Found k → named_by k.kind k.frame ≡ k.frame ∷ []
      → k.frame ≢ f
  named_away n wanted k is names =
      let parts = name_parts s d n wanted k is in
      away k.frame (usable_guarded s o d h.sound h.is parts.0 k names
      (parts.3 ∙ ap (λ (j : Capability). Some j) (suits wanted parts.2 k parts.4).is))

  only_away : (n : ℕ) (wanted : Kind) (k : Capability) → ((g : ℕ) → named_by wanted g ≡ g ∷ []) → named s d n (to_use (only wanted))
      ≡ Found k
      → k.frame ≢ f
  only_away n wanted k names is = named_away n (to_use (only wanted)) k is
      (ap (λ (j : Kind). named_by j k.frame) (only_is wanted k.kind (named_good s o d n (to_use (only wanted)) k h.sound h.is is).1)
      ∙ names k.frame)

  root_away : (n : ℕ) (k : Capability) → named s d n (to_use root) ≡ Found k → k.frame ≢ f
  root_away n k is = named_away n (to_use root) k is (root_names k.kind k.frame (named_good s o d n (to_use root) k h.sound h.is is).1)

  under_away : (table : Named) (n : ℕ) (at : Slot) → reached s d (Under table n) ≡ Some at → at.node ≢ f
  under_away table n at is = away at.node (reached_relies s o d h.sound h.is table n at is).guarded

  entry_away : (table : Named) (i : ℕ) (at : Slot) → table.frame ≢ f → reached s d (InRoot table i) ≡ Some at → at.node ≢ f
  entry_away table i at other is = by (table.found && nat_le i 63) is
    where
      by : (b : Bool) → (if b then Some (record { node = table.frame; index = i }) else None) ≡ Some at → at.node ≢ f
      by true is same = other (ap (λ (x : Slot). x.node) (some_inj (record { node = table.frame; index = i }) at is) ∙ same)
      by false is same = none_some at is

  fill_under : (table : Named) (n : ℕ) (at : Slot) (k : Capability) → vacant s d (Under table n) ≡ Found at
      → RestsBy (does d s Nothing (Fill at k ∷ []))
  fill_under table n at k is =
      inr (place_rests s f at.node at.index (Holds k) (under_away table n at (vacant_facts s d (Under table n) at is).0))

  remove_under : (table : Named) (n : ℕ) (at : Slot) (k : Capability) → held s d (Under table n) ≡ Found (at, k)
      → RestsBy (does d s Nothing (Remove at k ∷ []))
  remove_under table n at k is =
      inr (place_rests s f at.node at.index (Quiescing k) (under_away table n at (held_facts s d (Under table n) at k is).0))

  nothing_rests : (v : Value) → RestsBy (does d s v [])
  nothing_rests v = inr (rests_same s f)

  -- a blank frame and an untyped one are other frames
  blank_away : (g : ℕ) → s.frame g ≡ Kernel Blank → g ≢ f
  blank_away g blank same = false≢true (sym (ap is_typed (ap s.frame (sym same) ∙ blank)) ∙ typed)

  untyped_away : (g : ℕ) → s.frame g ≡ Untyped → g ≢ f
  untyped_away g untyped same = false≢true (sym (ap is_typed (ap s.frame (sym same) ∙ untyped)) ∙ typed)

  -- and so are the thread and the temporal capability of the core
  below : d < s.limits.cores
  below = (h.sound.inside d h.is).1

  core_unnamed : times f (core_names (s.core d)) ≡ 0
  core_unnamed = (unnamed s f zero).cores d below

  thread_away : (s.core d).thread ≢ f
  thread_away same =
      let one = times_first f ((s.core d).tcap ∷ []) in
      let at : times f (f ∷ (s.core d).tcap ∷ []) ≡ 0 = ap (λ n. times f (n ∷ (s.core d).tcap ∷ [])) (sym same) ∙ core_unnamed in
      omega (arith, one, at)

  tcap_away : (s.core d).tcap ≢ f
  tcap_away same =
      let one = times_first f [] in
      let all = times_cons f (s.core d).thread (f ∷ []) in
      let at : times f ((s.core d).thread ∷ f ∷ []) ≡ 0 = ap (λ n. times f ((s.core d).thread ∷ n ∷ [])) (sym same) ∙ core_unnamed in
      omega (arith, one, all, at)

  node_rests : (object : Object) (k : Kind) (r g t b : ℕ) → ChangesFrom RestsBy s d (make_node s object k r g t b)
  node_rests object k r g t b = λ range e table v at w calm.
      let other = blank_away g (blank_by s o d r g range [] h e calm).1 in
      let there = under_away (found table) b at (vacant_facts s d (Under (found table) b) at w).0 in
      inr (rests_then s (cleared s g) _ f (cleared_rests s f g other)
      (made_rests (cleared s g) f g object k at other there))

  make_rests : (what : Make) (r g t b : ℕ) → ChangesFrom RestsBy s d (make_rule s what r g t b)
  make_rests Make.Table r g t b = node_rests _ Kind.Table r g t b
  make_rests Make.Leaf r g t b = node_rests _ Kind.Leaf r g t b
  make_rests Make.Pages r g t b = node_rests _ Kind.Pages r g t b
  make_rests Make.Pleaf r g t b = node_rests _ Kind.Pleaf r g t b
  make_rests (Make.Thread comp) r g t b = λ range e table v k j at w calm.
      inr (made_rests s f g _ Kind.Thread at (blank_away g (blank_by s o d r g range [] h e calm).1)
      (under_away (found table) b at (vacant_facts s d (Under (found table) b) at w).0))
  make_rests (Make.Tcap sched quality) r g t b = λ range e table v at w calm.
      inr (made_rests s f g _ Kind.Tcap at (blank_away g (blank_by s o d r g range [] h e calm).1)
      (under_away (found table) b at (vacant_facts s d (Under (found table) b) at w).0))
  make_rests (Make.Comp x y l) r g t b = λ range e table v own_table a own_pages k at w calm.
      let taken : State = with_number s l (Live (epoch_of (s.number l) + 1) g) in
      let made = made_rests taken f g
      (Comp (record { table = own_table.frame; pages = own_pages.frame; number = l; epoch = epoch_of (s.number l) + 1 })) Kind.Comp at
      (blank_away g (blank_by s o d r g range (not_taken s l) h e calm).1)
      (under_away (found table) b at (vacant_facts s d (Under (found table) b) at w).0) in
      inr (record { frame = made.frame; place = made.place })

  retype_rests : (r g : ℕ) (k : FrameKind) → ChangesFrom RestsBy s d (retype_rule s r g k)
  retype_rests r g FrameKind.User = λ range e calm.
      inr (frame_rests s f g _ (untyped_away g (untyped_by s o d r g range h e calm).1))
  retype_rests r g FrameKind.Kernel = λ range e calm.
      inr (frame_rests s f g _ (untyped_away g (untyped_by s o d r g range h e calm).1))
  retype_rests r g FrameKind.Untyped = λ range e calm. elim (cases_eq g f) [
    | inl same ↦ inl (put_same s.frame g Untyped f (sym same))
    | inr other ↦ inr (record { frame = put_other s.frame g Untyped f (λ same. other (sym same)); place = λ i. refl })
  ]

  touch_rests : (pages v : ℕ) (t : Option Translation) → ChangesFrom RestsBy s d (touch_by pages v t)
  touch_rests pages v None = λ mapping e calm. inr (record { frame = refl; place = λ i. refl })
  touch_rests pages v (Some t) = λ calm. inr (rests_same s f)

  switch_rests : (j : Named) (q : ℕ) (e : Option ℕ) → j.frame ≢ f → ChangesFrom RestsBy s d (switch_to j q e)
  switch_rests j q None other = λ calm.
      let idle : State = running s (s.core d).thread None in
      let first = frame_rests s f (s.core d).thread
      (with_thread (s.frame (s.core d).thread) (record (thread_in (s.frame (s.core d).thread)) { runs_on = None })) thread_away in
      let second = frame_rests idle f j.frame
      (with_thread (idle.frame j.frame) (record (thread_in (idle.frame j.frame)) { runs_on = Some d })) other in
      inr (record { frame = second.frame ∙ first.frame; place = λ i. refl })
  switch_rests j q (Some e) other = λ calm.
      let idle : State = running s (s.core d).thread None in
      let first = frame_rests s f (s.core d).thread
      (with_thread (s.frame (s.core d).thread) (record (thread_in (s.frame (s.core d).thread)) { runs_on = None })) thread_away in
      let second = frame_rests idle f j.frame
      (with_thread (idle.frame j.frame) (record (thread_in (idle.frame j.frame)) { runs_on = Some d })) other in
      inr (record { frame = second.frame ∙ first.frame; place = λ i. refl })

  moved_rests : (a b m : ℕ) → a ≢ f → b ≢ f → Rests s (moved s a b m) f
  moved_rests a b m first second =
      let one : State = with_budget s a ((tcap_at s a).budget - m) in
      rests_then s one (moved s a b m) f (frame_rests s f a _ first) (frame_rests one f b _ second)

  rule_rests : (call : Call) → ChangesFrom RestsBy s d (rule_of s d call)
  rule_rests (Grow t i l) = λ table e leaf v at w calm.
      inr (place_rests s f at.node at.index _ (entry_away (found table) i at (root_away t table e)
      (vacant_facts s d (InRoot (found table) i) at w).0))
  rule_rests (Shrink t i) = λ table e at k w calm.
      inr (place_rests s f at.node at.index (Quiescing k) (entry_away (found table) i at (root_away t table e)
      (held_facts s d (InRoot (found table) i) at k w).0))
  rule_rests (Retype r g k) = retype_rests r g k
  rule_rests (make_call what r g t b) = make_rests what r g t b
  rule_rests (Touch v) = touch_rests (comp_of s d).pages v (translation_of (s.core d).cached (comp_of s d).pages v)
  rule_rests Flush = λ calm. inr (record { frame = refl; place = λ i. refl })
  rule_rests (Kill k) = λ comp e calm. inr (record { frame = refl; place = λ i. refl })
  rule_rests (call_gate g) = λ gate e calm. inr (frame_rests s f (s.core d).thread _ thread_away)
  rule_rests Ret = λ calm. inr (frame_rests s f (s.core d).thread _ thread_away)
  rule_rests (Switch a q) = λ thread e tcap v.
      switch_rests (found thread) tcap.frame (thread_in (s.frame thread.frame)).runs_on (only_away a Kind.Thread thread (λ g. refl) e)
  rule_rests (Tick n) = λ calm.
      let one = frame_rests s f (s.core d).tcap _ tcap_away in inr (record { frame = one.frame; place = λ i. refl })
  rule_rests (Transfer a b m) = λ j e k v calm.
      inr (moved_rests j.frame k.frame m (only_away a Kind.Tcap j (λ g. refl) e) (only_away b Kind.Tcap k (λ g. refl) v))
  rule_rests (Delegate a b m) = λ j e k v calm.
      let second = only_away b Kind.Tcap k (λ g. refl) v in
      inr (rests_then s (moved s j.frame k.frame m) _ f (moved_rests j.frame k.frame m (only_away a Kind.Tcap j (λ g. refl) e) second)
      (frame_rests (moved s j.frame k.frame m) f k.frame _ second))
  rule_rests (Replenish a m) = λ j e calm.
      let one = frame_rests s f j.frame _ (only_away a Kind.Tcap j (λ g. refl) e) in
      inr (record { frame = one.frame; place = λ i. refl })
  rule_rests _ = search (fill_under, remove_under, nothing_rests)

  found_rests : (x : Judged Change) → IfFound x RestsBy → RestsOr s (changed s x) f
  found_rests (Refused r) by = inr (rests_same s f)
  found_rests (Found change) by = elim by [
    | inl untyped ↦ inl untyped
    | inr rests ↦ inr (record { frame = rests.frame; place = rests.place })
  ]

  counted_rests : (t : State) → RestsOr s t f → RestsOr s (counted t d) f
  counted_rests t (inl untyped) = inl untyped
  counted_rests t (inr rests) = inr (record { frame = rests.frame; place = rests.place })

  owed_rests : (call : Call) → Rests s (owed_by s d call) f
  owed_rests (Tick n) = record { frame = refl; place = λ i. refl }
  owed_rests call = rests_same s f

  -- whatever its reply
  pub decided_rests : (call : Call) (r : Reply) → RestsOr s (state_by s d call r) f
  decided_rests call (Reply.Ok v) = counted_rests (changed s (change_of s d call))
      (found_rests (change_of s d call) (outcome_from RestsBy s d (rule_of s d call) (rule_rests call)))
  decided_rests call Reply.CallsSpent = inr (rests_same s f)
  decided_rests call Reply.Raced = counted_rests (owed_by s d call) (inr (owed_rests call))
  decided_rests call (Reply.Busy e) = counted_rests (owed_by s d call) (inr (owed_rests call))
  decided_rests call r = counted_rests s (inr (rests_same s f))

-- Entering changes no reference.
pub entered_refs : (o : Option Call) (s : State) (c f : ℕ) → refs (state_entered o s c) f ≡ refs s f
entered_refs None s c f = refl
entered_refs (Some call) s c f = core_same_refs s c (record (s.core c) { inside = true }) refl refl f

entered_rests : (o : Option Call) (s : State) (c f : ℕ) → Rests s (state_entered o s c) f
entered_rests None s c f = rests_same s f
entered_rests (Some call) s c f = record { frame = refl; place = λ i. refl }

entered_waits : (o : Option Call) (s : State) (c d f : ℕ)
    → ((state_entered o s c).grace (FrameOf f)).waits d ≡ (s.grace (FrameOf f)).waits d
entered_waits None s c d f = refl
entered_waits (Some call) s c d f = refl

returned_rests : (o : Option Reply) (s : State) (c f : ℕ) → Rests s (state_returned o s c) f
returned_rests None s c f = rests_same s f
returned_rests (Some r) s c f = record { frame = refl; place = λ i. refl }

-- So a frame that is something, which nothing names and for which the core of a step does not wait, rests at the step.
pub step_rests : (setup : Setting) → IsSetting setup → (t : Trace) → IsLegal setup t → (e : Step) → MayFollow setup t e → (f : ℕ)
    → IsTrue (is_typed ((state_after setup t).frame f)) → refs (state_after setup t) f ≡ 0
    → ((state_after setup t).grace (FrameOf f)).waits e.core ≡ false
    → RestsOr (state_after setup t) (state_after setup (e ∷ t)) f
step_rests setup setting t legal e follows f typed zero none = whole (by_phase e.decides (after_enter e.enters (phase t e.core)) refl)
  where
    before : State
    before = state_before setup t e

    enters : Rests (state_after setup t) before f
    enters = entered_rests e.enters (state_after setup t) e.core f

    by_phase : (o : Option Reply) (p : Phase) → after_enter e.enters (phase t e.core) ≡ p
        → RestsOr before (state_decided o p before e.core) f
    by_phase None p at = inr (rests_same before f)
    by_phase (Some r) Out at = inr (rests_same before f)
    by_phase (Some r) (Open call) at =
        decided_rests before (opened (entered_events t e)) e.core (opens setup setting t legal e follows call at) f
        (subst (λ x. IsTrue (is_typed x)) (sym enters.frame) typed)
        (entered_refs e.enters (state_after setup t) e.core f ∙ zero)
        (entered_waits e.enters (state_after setup t) e.core e.core f ∙ none) call r
    by_phase (Some r) (Decided call q) at = inr (rests_same before f)

    middle : State
    middle = state_decided e.decides (after_enter e.enters (phase t e.core)) before e.core

    whole : RestsOr before middle f → RestsOr (state_after setup t) (state_after setup (e ∷ t)) f
    whole (inl untyped) = inl ((returned_rests e.returns middle e.core f).frame ∙ untyped)
    whole (inr rests) = inr (rests_then (state_after setup t) before (state_after setup (e ∷ t)) f enters
        (rests_then before middle (state_after setup (e ∷ t)) f rests (returned_rests e.returns middle e.core f)))
