-- A gate's epoch is that in which its component was made.
use Rattle.kernel_laws.proofs as low
use low.{◌≡◌, ◌≢◌, ◌⊎◌, inl, inr, ℕ, ◌+◌, ◌≤◌, arith, Bool, true, false, not, refl, sym, ◌∙◌, ap, subst, cond, ◌==◌, ltb as nat_lt}
use low.{if◌then◌else◌, IsTrue, List, [], ◌∷◌, Option, Some, None, is_some, false≢true, Setting, IsSetting, Capability, cap_of}
use low.{kept as kept_rights, part_of, Kind, FrameKind, Call, Copy, Remove as remove_call, Grow, Shrink, Retype, Make as make_call}
use low.{Map, Unmap, Touch, Gate, Tick, Part, Value, Nothing}
use low.{Reply, Place, Free, Holds, Quiescing, Object, Thing, PlaceOf, FrameOf, State, Grace, put, comp_in, comp_of, start}
use low.{no_grace, plain_cap, start_cap, place_with, named_by, times, Want, any, to_copy, Slot, place_at, held_in, usable_in}
use low.{usable, only, new_grace, Change, does, Judged, Refused, Found, IsFoundAnd, named, make_rule, Fill, Node, edited}
use low.{translation_of, rule_of, change_of, changed, owed_by, state_by, begins, ends, flushes, MayReply, fits, IsGood}
use low.{Event, Enters, Decides, Returns, after, is_in, is_open, IsRun, IfFound, put_same, put_other, waits_inside, times_first, put_all}
use low.{place_all, IsOpen, opened, open_is, inside_is, ChangesFrom, outcome_from, suits, some_inj, none_some, grace_is, flushed_by}
use low.{ends_by_rule, name_parts, phase_own, phase_other}
use Rattle.kernel_laws.specs.kernel_invariant.proofs.{WaitsForAll, free_holds, holds_inj, quiescing_holds, choose, decided_opened}
use Rattle.kernel_laws.specs.kernel_rules.specs.{Make, cleared}
use Rattle.kernel_laws.specs.kernel_invariant.proofs.{SoundCalls.gate_comp, GraceChanges.grace_by}
use Rattle.state_laws.specs.Lives.{IsOfEpoch, GatesFit}
use Rattle.kernel_laws.specs.kernel_rules.proofs.Rows.{Looks, by_cached}
use Rattle.kernel_laws.specs.kernel_invariant.proofs.Facts.{LedBy, HoldsAt, from_left}
use Rattle.kernel_laws.proofs.{Edit}
use Rattle.state_laws.proofs.{Kept.is_kept, Kept.Kept, Kept.decided_kept, Lives.comp_kept}
use Rattle.{std.proofs.lemmas.Bool.cases_eq}
use Rattle.{kernel_laws.specs.kernel_rules.specs.Edits.Remove, kernel_laws.specs.found_stays.proofs.Stays.place_named}

-- The gates that places hold, and those that open cores may still use, have their component's epoch.
pub record AreGates (s : State) (o : ℕ → Bool) : Type 0 where
  pub held : (f i : ℕ) (k : Capability) → s.place f i ≡ Holds k → IsOfEpoch s k
  pub waiting : (f i : ℕ) (k : Capability) (c : ℕ) → s.place f i ≡ Quiescing k → o c ≡ true → IsTrue ((s.grace (PlaceOf f i)).waits c)
      → IsOfEpoch s k

usable_gate : (s : State) (o : ℕ → Bool) (c : ℕ) (at : Slot) (k : Capability) → AreGates s o → o c ≡ true → usable s c at ≡ Some k
    → IsOfEpoch s k
usable_gate s o c at k w q e = by_place (place_at s at) refl e
  where
    by_wait : (j : Capability) (b : Bool) → (if b then Some j else None) ≡ Some k → (b ≡ true) × (j ≡ k)
    by_wait j true q = (refl, some_inj j k q)
    by_wait j false q = absurd (none_some k q)

    by_place : (p : Place) → place_at s at ≡ p → usable_in p ((s.grace (PlaceOf at.node at.index)).waits c) ≡ Some k → IsOfEpoch s k
    by_place Free is e = absurd (none_some k e)
    by_place (Holds j) is e = w.held at.node at.index k (is ∙ ap Holds (some_inj j k e))
    by_place (Quiescing j) is e =
        let p = by_wait j ((s.grace (PlaceOf at.node at.index)).waits c) e in
        w.waiting at.node at.index k c (is ∙ ap Quiescing p.1) q p.0

no_gate : (s : State) (k : Capability) → only Kind.Gate k.kind ≡ false → IsOfEpoch s k
no_gate s k none is = absurd (false≢true (sym none ∙ ap (only Kind.Gate) is))

-- What a change makes of held gates: they were held, or have the epoch of their component.
record NewGates (s : State) (change : Change) : Type 0 where
  gate : (f i : ℕ) (k : Capability) → change.next.place f i ≡ Holds k → (s.place f i ≡ Holds k) ⊎ IsOfEpoch change.next k

stays : (s : State) (change : Change) → ((f i : ℕ) → change.next.place f i ≡ s.place f i) → NewGates s change
stays s change place = record { gate = λ f i k e. inl (sym (place f i) ∙ e) }

filled : (s t : State) (change : Change) (at : Slot) (k : Capability)
    → ((f i : ℕ) (j : Capability) → t.place f i ≡ Holds j → s.place f i ≡ Holds j)
    → ((f i : ℕ) → change.next.place f i ≡ put t.place at.node (put (t.place at.node) at.index (Holds k)) f i)
    → IsOfEpoch change.next k → NewGates s change
filled s t change at k old next epoch = record {
  gate = λ f i j e. place_all (λ f i p. p ≡ Holds j → (s.place f i ≡ Holds j) ⊎ IsOfEpoch change.next j) t at.node at.index (Holds k) f i
      (λ same index q. inr (subst (IsOfEpoch change.next) (holds_inj k j q) epoch)) (λ q. inl (old f i j q)) (sym (next f i) ∙ e);
}

-- A place is filled with what is no gate.
other : (s t : State) (change : Change) (at : Slot) (k : Capability)
    → ((f i : ℕ) (j : Capability) → t.place f i ≡ Holds j → s.place f i ≡ Holds j)
    → ((f i : ℕ) → change.next.place f i ≡ put t.place at.node (put (t.place at.node) at.index (Holds k)) f i)
    → only Kind.Gate k.kind ≡ false → NewGates s change
other s t change at k old next none = filled s t change at k old next (no_gate change.next k none)

removed : (s : State) (c : ℕ) (at : Slot) (k : Capability) → NewGates s (does c s Nothing (Remove at k ∷ []))
removed s c at k = record {
  gate =
      λ f i j. place_all (λ f i p. p ≡ Holds j
      → (s.place f i ≡ Holds j) ⊎ IsOfEpoch (edited c s (Remove at k)) j) s at.node at.index (Quiescing k) f i
      (λ same index q. absurd (quiescing_holds k j q)) (λ q. inl q);
}

was_held : (s : State) (f g i : ℕ) (k : Capability) → put s.place f (λ i. Free) g i ≡ Holds k → s.place g i ≡ Holds k
was_held s f g i k =
    put_all (λ g r. r i ≡ Holds k → s.place g i ≡ Holds k) s.place f (λ i. Free) g (λ same e. absurd (free_holds k e)) (λ other e. e)

node_made : (s : State) (c f : ℕ) (object : Object) (k : Kind) (at : Slot) → only Kind.Gate k ≡ false
    → NewGates s (does c s Nothing (Node f object ∷ Fill at (plain_cap k f) ∷ []))
node_made s c f object k at none = other s (cleared s f) _ at (plain_cap k f) (was_held s f) (λ g i. refl) none

module _ (s : State) (o : ℕ → Bool) (c : ℕ) (h : IsOpen s o c) (w : AreGates s o) where
  named_gate : (n : ℕ) (wanted : Want) (k : Capability) → named s c n wanted ≡ Found k → IsOfEpoch s k
  named_gate n wanted k e =
      let p = name_parts s c n wanted k e in
      subst (IsOfEpoch s) (suits wanted p.2 k p.4).is (usable_gate s o c p.0 p.2 w h.is p.3)

  -- What is carried out, by its value and its edits.
  abbrev Gates : Value → List Edit → Type 0
  Gates v es = NewGates s (does c s v es)

  plain : (at : Slot) (k : Capability) → only Kind.Gate k.kind ≡ false → Gates Nothing (Fill at k ∷ [])
  plain at k none = other s s _ at k (λ f i j e. e) (λ f i. refl) none

  make_gates : (what : Make) (r f t b : ℕ) (g : Looks) → HoldsAt Gates (make_rule s what r f t b) g
  make_gates Make.Table r f t b g = node_made s c f _ Kind.Table (g.slots 0) refl
  make_gates Make.Leaf r f t b g = node_made s c f _ Kind.Leaf (g.slots 0) refl
  make_gates Make.Pages r f t b g = node_made s c f _ Kind.Pages (g.slots 0) refl
  make_gates Make.Pleaf r f t b g = node_made s c f _ Kind.Pleaf (g.slots 0) refl
  make_gates (Make.Thread comp) r f t b g = other s s _ (g.slots 0) (plain_cap Kind.Thread f) (λ f i j e. e) (λ g i. refl) refl
  make_gates (Make.Tcap sched quality) r f t b g = other s s _ (g.slots 0) (plain_cap Kind.Tcap f) (λ f i j e. e) (λ g i. refl) refl
  make_gates (Make.Comp x p l) r f t b g = other s s _ (g.slots 0) (plain_cap Kind.Comp f) (λ f i j e. e) (λ g i. refl) refl

  row_gates : (call : Call) (g : Looks) → LedBy s c (rule_of s c call) g → HoldsAt Gates (rule_of s c call) g
  row_gates (Copy a t b rights) g led = filled s s _ (g.slots 0) (kept_rights (g.caps 0) rights.0) (λ f i j e. e) (λ f i. refl)
      (named_gate a (to_copy any) (g.caps 0) led.0)
  row_gates (Retype r f FrameKind.Untyped) g led = stays s _ (λ f i. refl)
  row_gates (make_call what r f t b) g led = make_gates what r f t b g
  row_gates (Touch v) g led = by_cached (λ rule. HoldsAt Gates rule g) (comp_of s c).pages v (stays s _ (λ f i. refl))
      (λ t. stays s _ (λ f i. refl)) (translation_of (s.core c).cached (comp_of s c).pages v)
  row_gates (Gate k t b) g led = filled s s _ (g.slots 0) _ (λ f i j e. e) (λ f i. refl) (λ is. refl)
  row_gates _ g led = search (plain, removed s c, stays s)

  rule_gates : (call : Call) → ChangesFrom (NewGates s) s c (rule_of s c call)
  rule_gates call = from_left Gates s c (rule_of s c call) (row_gates call)

-- A decision.
abbrev DecidedGates : State → State → Type 0
DecidedGates s t = (f i : ℕ) (k : Capability) → t.place f i ≡ Holds k → (s.place f i ≡ Holds k) ⊎ IsOfEpoch t k

found_gates : (s : State) (v : Value) (x : Judged Change) → IfFound x (NewGates s) → IsFoundAnd x (λ k. k.value ≡ v)
    → DecidedGates s (changed s x)
found_gates s v (Refused r) by ok = absurd ok
found_gates s v (Found change) by ok = by.gate

owed_gates : (s : State) (c : ℕ) (call : Call) → DecidedGates s (owed_by s c call)
owed_gates s c (Tick n) = λ f i k e. inl e
owed_gates s c _ = λ f i k e. inl e

decided_new : (s : State) (o : ℕ → Bool) (c : ℕ) (call : Call) (r : Reply) → IsOpen s o c → MayReply s c call r → AreGates s o
    → DecidedGates s (state_by s c call r)
decided_new s o c call (Reply.Ok v) h may w =
    found_gates s v (change_of s c call) (outcome_from (NewGates s) s c (rule_of s c call) (rule_gates s o c h w call)) may.1.1
decided_new s o c call Reply.CallsSpent h may w = λ f i k e. inl e
decided_new s o c call Reply.Raced h may w = owed_gates s c call
decided_new s o c call (Reply.Busy e) h may w = owed_gates s c call
decided_new s o c call _ h may w = λ f i k e. inl e

-- Who waits for a thing whose grace period has not just begun, waited before.
pub waited : (s : State) (c : ℕ) (call : Call) (r : Reply) (x : Thing) (d : ℕ) → begins s c call r x ≡ false
    → IsTrue ((grace_by s c call r x).waits d) → IsTrue ((s.grace x).waits d)
waited s c call r x d not w =
    by_end (ends call r x)
    (subst (λ b. IsTrue ((cond b (new_grace s x)
    (cond (ends call r x) no_grace (cond (flushes call r) (flushed_by c (s.grace x)) (s.grace x)))).waits d)) not w)
  where
    by_flush : (b : Bool) → IsTrue ((cond b (flushed_by c (s.grace x)) (s.grace x)).waits d) → IsTrue ((s.grace x).waits d)
    by_flush true w = w
    by_flush false w = w

    by_end : (b : Bool) → IsTrue ((cond b no_grace (cond (flushes call r) (flushed_by c (s.grace x)) (s.grace x))).waits d)
        → IsTrue ((s.grace x).waits d)
    by_end true w = absurd (false≢true w)
    by_end false w = by_flush (flushes call r) w

module _ (s : State) (o : ℕ → Bool) (c : ℕ) (call : Call) (r : Reply)
    (h : IsOpen s o c) (may : MayReply s c call r) (w : AreGates s o) where
  kept : Kept s c call r
  kept = decided_kept s o c call r h may

  gate_frame : (k : Capability) → k.kind ≡ Kind.Gate → IsGood s k → IsTrue (is_kept (s.frame k.frame))
  gate_frame k is good =
      comp_kept (s.frame k.frame) (gate_comp (s.frame k.frame) (subst (λ j. IsTrue (fits j (s.frame k.frame))) is good.fit))

  gate_named : (k : Capability) → k.kind ≡ Kind.Gate → named_by k.kind k.frame ≡ k.frame ∷ []
  gate_named k is = ap (λ j. named_by j k.frame) is

  -- A gate that a place holds keeps its component.
  held_epoch : (f i : ℕ) (k : Capability) → s.place f i ≡ Holds k → IsOfEpoch (state_by s c call r) k
  held_epoch f i k at is = elim (kept.frame k.frame (gate_frame k is (h.sound.held f i k at))) [
    | inl same ↦ w.held f i k at is ∙ ap (λ x. (comp_in x).epoch) (sym same)
    | inr ends ↦
        let zero = (ends_by_rule s o c h call r (FrameOf k.frame) may ends).0 in
        let some = place_named s o f i k.frame k h.sound at
        (subst (λ l. 1 ≤ times k.frame l) (sym (gate_named k is)) (times_first k.frame [])) in
        absurd (omega (arith, zero, some))
  ]

  -- So does one that an open core may still use.
  waiting_epoch : (f i : ℕ) (k : Capability) (d : ℕ) → s.place f i ≡ Quiescing k → o d ≡ true → d ≢ c
      → IsTrue ((s.grace (PlaceOf f i)).waits d) → IsOfEpoch (state_by s c call r) k
  waiting_epoch f i k d at q other wait is =
      let a = h.sound.waiting f i k d at q wait in
      elim (kept.frame k.frame (gate_frame k is a.0)) [
        | inl same ↦ w.waiting f i k d at q wait is ∙ ap (λ x. (comp_in x).epoch) (sym same)
        | inr ends ↦
            let none = (ends_by_rule s o c h call r (FrameOf k.frame) may ends).1 d (h.sound.inside d q).1 other in
            let l : WaitsForAll s d (k.frame ∷ []) = subst (WaitsForAll s d) (gate_named k is) a.1 in
            absurd (false≢true (sym none ∙ l.0))
      ]

  held_place : (p : Place) (k : Capability) → p ≡ Quiescing k → IsTrue (is_some (held_in p)) → ⊥
  held_place p k is some = false≢true (ap (λ x. is_some (held_in x)) (sym is) ∙ some)

  not_removed : (f i : ℕ) (k : Capability) → s.place f i ≡ Quiescing k → (b : Bool) → begins s c call r (PlaceOf f i) ≡ b → b ≡ false
  not_removed f i k at true is = absurd (held_place (s.place f i) k at (kept.removed f i is))
  not_removed f i k at false is = refl

  pub decided_gates : AreGates (state_by s c call r) (put o c false)
  decided_gates = record {
    held = λ f i k at. elim (new f i k at) [
      | inl old ↦ held_epoch f i k old
      | inr is ↦ is
    ];
    waiting = λ f i k d at q wait.
        let other : d ≢ c = λ same. false≢true (sym (put_same o c false d same) ∙ q) in
        let was : o d ≡ true = sym (put_other o c false d other) ∙ q in
        elim (kept.quiescing f i k at) [
          | inr old ↦ held_epoch f i k old
          | inl old ↦ waiting_epoch f i k d old was other
              (waited s c call r (PlaceOf f i) d (not_removed f i k old (begins s c call r (PlaceOf f i)) refl)
              (subst (λ (g : Grace). IsTrue (g.waits d)) (grace_is s c call r may (PlaceOf f i)) wait))
        ];
  }
    where
      new : (f i : ℕ) (k : Capability) → (state_by s c call r).place f i ≡ Holds k
          → (s.place f i ≡ Holds k) ⊎ IsOfEpoch (state_by s c call r) k
      new = decided_new s o c call r h may w

-- The start has no gate.
abbrev NoGate : Option Capability → Type 0
NoGate None = Unit {0}
NoGate (Some k) = only Kind.Gate k.kind ≡ false

start_none : (setting : Setting) (i : ℕ) → NoGate (start_cap setting i)
start_none setting i =
    choose NoGate (i == 0) _ _ (λ e. refl) λ e.
    choose NoGate (i == 1) _ _ (λ e. refl) λ e.
    choose NoGate (i == 2) _ _ (λ e. refl) λ e.
    choose NoGate (i == 3) _ _ (λ e. refl) λ e.
    choose NoGate (nat_lt i 4) _ _ (λ e. tt) λ e.
    choose NoGate (nat_lt i (4 + setting.cores)) _ _ (λ e. refl) λ e.
    choose NoGate (nat_lt i 12) _ _ (λ e. tt) λ e.
    choose NoGate (nat_lt i (12 + setting.cores)) _ _ (λ e. refl) λ e. tt

place_none : (o : Option Capability) (k : Capability) → NoGate o → place_with o ≡ Holds k → only Kind.Gate k.kind ≡ false
place_none None k none e = absurd (free_holds k e)
place_none (Some j) k none e = ap (λ (n : Capability). only Kind.Gate n.kind) (sym (holds_inj j k e)) ∙ none

start_gates : (setting : Setting) → AreGates (start setting) (opened [])
start_gates setting = record {
  held = λ f i k.
      choose (λ p. p ≡ Holds k → IsOfEpoch (start setting) k) (f == 0) _ _
      (λ is. choose (λ p. p ≡ Holds k → IsOfEpoch (start setting) k) (i == 0) _ _
      (λ first at. no_gate (start setting) k (ap (λ (n : Capability). only Kind.Gate n.kind)
      (sym (holds_inj (plain_cap Kind.Link 1) k at)))) (λ none at. absurd (free_holds k at)))
      (λ other. choose (λ p. p ≡ Holds k → IsOfEpoch (start setting) k) (f == 1) _ _
      (λ is at. no_gate (start setting) k (place_none (start_cap setting i) k (start_none setting i) at))
      (λ none at. absurd (free_holds k at)));
  waiting = λ f i k c p q. absurd (false≢true q);
}

enter_gates : (setting : Setting) (events : List Event) (c : ℕ) (call : Call) → IsRun setting (Enters c call ∷ events)
    → AreGates (after setting events) (opened events)
    → AreGates (after setting (Enters c call ∷ events)) (opened (Enters c call ∷ events))
enter_gates setting events c call run old = record {
  held = old.held;
  waiting = λ f i k d p q w. elim (cases_eq d c) [
    | inl same ↦ absurd (false≢true (sym (inside_is setting events run.0 c ∙ ap is_in run.1.is_out)
        ∙ waits_inside setting events (PlaceOf f i) c (subst (λ d. IsTrue (((after setting events).grace (PlaceOf f i)).waits d)) same w)))
    | inr other ↦ old.waiting f i k d p (sym (ap is_open (phase_other (Enters c call) events d other)) ∙ q) w
  ];
}

return_gates : (setting : Setting) (events : List Event) (c : ℕ) → AreGates (after setting events) (opened events)
    → AreGates (after setting (Returns c ∷ events)) (opened (Returns c ∷ events))
return_gates setting events c old = record {
  held = old.held;
  waiting = λ f i k d p q w. elim (cases_eq d c) [
    | inl same ↦ absurd (false≢true (sym (ap is_open (phase_own (Returns c) events d same)) ∙ q))
    | inr other ↦ old.waiting f i k d p (sym (ap is_open (phase_other (Returns c) events d other)) ∙ q)
        (sym (put_other ((after setting events).grace (PlaceOf f i)).waits c false d other) ∙ w)
  ];
}

fewer : (s : State) (o o' : ℕ → Bool) → ((c : ℕ) → o' c ≡ true → o c ≡ true) → AreGates s o → AreGates s o'
fewer s o o' less h = record { held = h.held; waiting = λ f i k c p q. h.waiting f i k c p (less c q) }

runs_gates : (setting : Setting) → IsSetting setting → (events : List Event) → IsRun setting events
    → AreGates (after setting events) (opened events)
runs_gates setting lim [] run = start_gates setting
runs_gates setting lim (Enters c call ∷ events) run = enter_gates setting events c call run (runs_gates setting lim events run.0)
runs_gates setting lim (Returns c ∷ events) run = return_gates setting events c (runs_gates setting lim events run.0)
runs_gates setting lim (Decides c call r ∷ events) run =
    fewer (after setting (Decides c call r ∷ events)) (put (opened events) c false) (opened (Decides c call r ∷ events))
    (decided_opened events c call r)
    (decided_gates (after setting events) (opened events) c call r
    (open_is setting lim events c run.0 (ap is_open run.1.is_open)) run.1.permitted
    (runs_gates setting lim events run.0))

pub gates_fit : GatesFit
gates_fit setting lim events run = record {
  held = (runs_gates setting lim events run).held;
  used = λ c at k is e. usable_gate (after setting events) (opened events) c at k (runs_gates setting lim events run) is e;
}
