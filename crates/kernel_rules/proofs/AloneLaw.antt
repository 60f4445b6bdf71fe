-- Who waits is in a call; so in every reached state the relation and the first reply in order agree.
use Rattle.kernel_rules.specs as low
use low.{◌≡◌, ℕ, Bool, true, false, not, ◌&&◌, ◌||◌, refl, if◌then◌else◌, IsTrue, IsFalse, List, [], ◌∷◌, Option, Some, None, Setting}
use low.{FrameKind, Make, Call, Retype, Touch, Switch, Tick, Value, Reply, Core, Thing, FrameOf, put, comp_of, thread_in, no_grace}
use low.{same_thing, new_grace, entered, returned, lives, outlives, asks_life, acts, Named, found, Edit, Node, Untype, Cache, Charge, Give}
use low.{is_place_of, edited, Change, Judged, Refused, Found, IsFoundAnd, RuleMay, Rule, Name, Vacant, Held, Mapped, Does, Cause, When}
use low.{WaitedFor, Unflushed, slot_of, Target, translation_of, rule_of}
use low.{change_of, changed, counted, owed_by, state_by, are_calls_spent, MayBeDead}
use low.{MayReply, reply_in, first_reply, alone, Event, Enters}
use Rattle.std.proofs.Common.{inl, inr, sym, ◌∙◌, ap, subst, true≢false}
use Rattle.kernel_rules.proofs.Agrees.{IsBounded, IsPlain, IfRefused, ArePlain, HasPlain, has_root, rule_refused}
use low.{Decides, Returns, after, State.State, Edits.Switch as switch_edit, Edits.Flush as flush_edit, Laws.FirstPermitted}
use low.Rows.{no_cap, Aim, Free, Full, Page, aims_at, causes_at}
use Rattle.std.proofs.lemmas.Bool.{cases_eq, false≢true, and_parts}
use Rattle.{spk_nums.specs.declared.calls.Call.TheVariants.Make as make_call, std.specs.List.list_any}
use Rattle.kernel_rules.proofs.Rows.{Looks, found_by, cap_first, slot_first, held_first, nothing_looked, by_cached}
use Rattle.{kernel_rules.specs.InvocationCalls.runs_elsewhere, kernel_rules.proofs.Changes.IfFound}
use Rattle.{kernel_rules.proofs.Changes.outcome_all, kernel_rules.proofs.Changes.all_edits, kernel_rules.proofs.Changes.each_edit}
use Rattle.{kernel_rules.proofs.Within.put_same, kernel_rules.proofs.Within.put_other, kernel_rules.proofs.Within.waits_within}

-- A core that replaces core c and is in a call where c was: every core is in a call where it was.
pub core_inside : (s : State) (c d : ℕ) (k : Core) → k.inside ≡ (s.core c).inside → (put s.core c k d).inside ≡ (s.core d).inside
core_inside s c d k e = elim (cases_eq d c) [
  | inl same ↦ ap (λ x. x.inside) (put_same s.core c k d same) ∙ e ∙ sym (ap (λ i. (s.core i).inside) same)
  | inr other ↦ ap (λ x. x.inside) (put_other s.core c k d other)
]

-- Who waits after a change waited before, and who is in a call was; the limits stay.
pub record Waits (s new : State) : Type 0 where
  pub inside : (d : ℕ) → (new.core d).inside ≡ (s.core d).inside
  pub waits : (x : Thing) (d : ℕ) → IsTrue ((new.grace x).waits d) → IsTrue ((s.grace x).waits d)
  pub limits : new.limits ≡ s.limits

node_waits : (s : State) (f : ℕ) (b : Thing → Bool) (x : Thing) (d : ℕ)
    → IsTrue ((if b x then no_grace else s.grace x).waits d) → IsTrue ((s.grace x).waits d)
node_waits s f b x d = tested (b x)
  where
    tested : (t : Bool) → IsTrue ((if t then no_grace else s.grace x).waits d) → IsTrue ((s.grace x).waits d)
    tested true h = absurd (false≢true h)
    tested false h = h

edit_waits : (c : ℕ) (s : State) (e : Edit) → Waits s (edited c s e)
edit_waits c s (Node f object) = record { inside = λ d. refl; waits = node_waits s f (is_place_of f); limits = refl }
edit_waits c s (Untype f) = record { inside = λ d. refl; waits = node_waits s f (λ x. same_thing x (FrameOf f)); limits = refl }
edit_waits c s (switch_edit h q) = record { inside = λ d. core_inside s c d _ refl; waits = λ x d h. h; limits = refl }
edit_waits c s (Cache t) = record { inside = λ d. core_inside s c d _ refl; waits = λ x d h. h; limits = refl }
edit_waits c s flush_edit = record { inside = λ d. core_inside s c d _ refl; waits = λ x d h. h; limits = refl }
edit_waits c s (Charge n) = record { inside = λ d. core_inside s c d _ refl; waits = λ x d h. h; limits = refl }
edit_waits c s (Give f m) = record { inside = λ d. core_inside s c d _ refl; waits = λ x d h. h; limits = refl }
edit_waits c s _ = record { inside = λ d. refl; waits = λ x d h. h; limits = refl }

then_waits : (s t u : State) → Waits s t → Waits t u → Waits s u
then_waits s t u first next = record {
  inside = λ d. next.inside d ∙ first.inside d;
  waits = λ x d h. first.waits x d (next.waits x d h);
  limits = next.limits ∙ first.limits;
}

pub found_waits : (s : State) (c : ℕ) (call : Call) → IfFound (change_of s c call) (λ change. Waits s change.next)
found_waits s c call = outcome_all (λ change. Waits s change.next) s c (rule_of s c call) (all_edits (λ change. Waits s change.next) s c
    (λ v es. each_edit Waits c (λ s. record { inside = λ d. refl; waits = λ x d h. h; limits = refl }) then_waits (edit_waits c) s es)
    (rule_of s c call))

-- The cores that wait are in a call.
abbrev pub AreInside : State → Type 0
AreInside s = (x : Thing) (d : ℕ) → IsTrue ((s.grace x).waits d) → IsTrue (s.core d).inside

counted_inside : (s : State) (c : ℕ) → AreInside s → AreInside (counted s c)
counted_inside s c h x d w = core_inside s c d _ refl ∙ h x d w

changed_inside : (s : State) (found : Judged Change) → IfFound found (λ change. Waits s change.next) → AreInside s
    → AreInside (changed s found)
changed_inside s (Refused r) waits h x d = h x d
changed_inside s (Found change) waits h x d = tested (list_any (same_thing x) change.begins)
  where
    tested : (t : Bool) → IsTrue ((if t then new_grace s x else change.next.grace x).waits d) → IsTrue (change.next.core d).inside
    tested true w = waits.inside d ∙ w
    tested false w = waits.inside d ∙ h x d (waits.waits x d w)

owed_inside : (s : State) (c : ℕ) (call : Call) → AreInside s → AreInside (owed_by s c call)
owed_inside s c (Tick n) h x d w = core_inside s c d _ refl ∙ h x d w
owed_inside s c _ h x d w = h x d w

decided_inside : (s : State) (c : ℕ) (call : Call) (r : Reply) → AreInside s → AreInside (state_by s c call r)
decided_inside s c call (Reply.Ok v) h = counted_inside (changed s (change_of s c call)) c
    (changed_inside s (change_of s c call) (found_waits s c call) h)
decided_inside s c call Reply.CallsSpent h = h
decided_inside s c call Reply.Raced h = counted_inside (owed_by s c call) c (owed_inside s c call h)
decided_inside s c call (Reply.Busy e) h = counted_inside (owed_by s c call) c (owed_inside s c call h)
decided_inside s c call _ h = counted_inside s c h

-- A decision leaves each core in a call where it was, and the limits.
pub record Stays (s new : State) : Type 0 where
  pub inside : (d : ℕ) → (new.core d).inside ≡ (s.core d).inside
  pub limits : new.limits ≡ s.limits

counted_stays : (s t : State) (c : ℕ) → Stays s t → Stays s (counted t c)
counted_stays s t c h = record { inside = λ d. core_inside t c d _ refl ∙ h.inside d; limits = h.limits }

changed_stays : (s : State) (found : Judged Change) → IfFound found (λ change. Waits s change.next) → Stays s (changed s found)
changed_stays s (Refused r) waits = record { inside = λ d. refl; limits = refl }
changed_stays s (Found change) waits = record { inside = waits.inside; limits = waits.limits }

owed_stays : (s : State) (c : ℕ) (call : Call) → Stays s (owed_by s c call)
owed_stays s c (Tick n) = record { inside = λ d. core_inside s c d _ refl; limits = refl }
owed_stays s c _ = record { inside = λ d. refl; limits = refl }

pub decided_stays : (s : State) (c : ℕ) (call : Call) (r : Reply) → Stays s (state_by s c call r)
decided_stays s c call (Reply.Ok v) = counted_stays s (changed s (change_of s c call)) c
    (changed_stays s (change_of s c call) (found_waits s c call))
decided_stays s c call Reply.CallsSpent = record { inside = λ d. refl; limits = refl }
decided_stays s c call Reply.Raced = counted_stays s (owed_by s c call) c (owed_stays s c call)
decided_stays s c call (Reply.Busy e) = counted_stays s (owed_by s c call) c (owed_stays s c call)
decided_stays s c call _ = counted_stays s s c (record { inside = λ d. refl; limits = refl })

entered_inside : (s : State) (c : ℕ) → AreInside s → AreInside (entered s c)
entered_inside s c h x d w = elim (cases_eq d c) [
  | inl same ↦ ap (λ k. k.inside) (put_same s.core c _ d same)
  | inr other ↦ ap (λ k. k.inside) (put_other s.core c _ d other) ∙ h x d w
]

returned_inside : (s : State) (c : ℕ) → AreInside s → AreInside (returned s c)
returned_inside s c h x d w = elim (cases_eq d c) [
  | inl same ↦ absurd (false≢true (sym (put_same (s.grace x).waits c false d same) ∙ w))
  | inr other ↦ ap (λ k. k.inside) (put_other s.core c _ d other) ∙ h x d (sym (put_other (s.grace x).waits c false d other) ∙ w)
]

-- In every state reached from the start, the cores that wait are in a call.
pub waits_inside : (setting : Setting) (events : List Event) → AreInside (after setting events)
waits_inside setting [] = λ x d w. absurd (false≢true w)
waits_inside setting (Enters c call ∷ events) = entered_inside (after setting events) c (waits_inside setting events)
waits_inside setting (Returns c ∷ events) = returned_inside (after setting events) c (waits_inside setting events)
waits_inside setting (Decides c call r ∷ events) = decided_inside (after setting events) c call r (waits_inside setting events)

-- Whether a refusal is plain, and each own cause has such a one.
abbrev is_plain : Reply → Bool
is_plain (Reply.Ok v) = false
is_plain Reply.Raced = false
is_plain (Reply.Busy d) = false
is_plain Reply.CallsSpent = false
is_plain _ = true

abbrev are_plain : List Cause → Bool
are_plain [] = true
are_plain (When condition r ∷ causes) = is_plain r && are_plain causes
are_plain (_ ∷ causes) = are_plain causes

plain_is : (r : Reply) → is_plain r ≡ true → IsPlain r
plain_is (Reply.Ok v) is = absurd (false≢true is)
plain_is Reply.Raced is = absurd (false≢true is)
plain_is (Reply.Busy d) is = absurd (false≢true is)
plain_is Reply.CallsSpent is = absurd (false≢true is)
plain_is _ is = tt

plain_are : (causes : List Cause) → are_plain causes ≡ true → ArePlain causes
plain_are [] are = tt
plain_are (When condition r ∷ causes) are =
    let p = and_parts (is_plain r) (are_plain causes) are in
    (plain_is r p.0, plain_are causes p.1)
plain_are (WaitedFor x ∷ causes) are = plain_are causes are
plain_are (Unflushed x ∷ causes) are = plain_are causes are

-- Whether the roots of targets were found.
abbrev are_rooted : List Aim → Bool
are_rooted [] = true
are_rooted (Free target ∷ aims) = has_root target && are_rooted aims
are_rooted (Full target ∷ aims) = has_root target && are_rooted aims
are_rooted (Page table v ∷ aims) = are_rooted aims

-- A rule is plain whose look-ups, where they find all that they look for, lead to rooted targets and plain causes.
abbrev IsPlainWith : Rule → Looks → Type 0
IsPlainWith rule g = IsTrue (are_rooted (aims_at rule (found_by g))) × IsTrue (are_plain (causes_at rule (found_by g)))

rooted_parts : (target : Target) (aims : List Aim) → IsTrue (has_root target && are_rooted aims)
    → IsTrue (has_root target) × IsTrue (are_rooted aims)
rooted_parts target aims is = and_parts (has_root target) (are_rooted aims) is

plain_left : (rule : Rule) → ((g : Looks) → IsPlainWith rule g) → HasPlain rule
plain_left (Name n want rest) h = λ k. plain_left (rest (found k)) (λ g. h (cap_first k g))
plain_left (Vacant target rest) h = (
  (rooted_parts target (aims_at (rest (slot_of None)) (found_by nothing_looked)) (h nothing_looked).0).0,
  λ at. plain_left (rest at) (λ g. let p = h (slot_first at g) in ((rooted_parts target (aims_at (rest at) (found_by g)) p.0).1, p.1)),
)
plain_left (Held target rest) h = (
  (rooted_parts target (aims_at (rest (slot_of None) no_cap) (found_by nothing_looked)) (h nothing_looked).0).0,
  λ at k. plain_left (rest at k)
      (λ g. let p = h (slot_first at (held_first k g)) in ((rooted_parts target (aims_at (rest at k) (found_by g)) p.0).1, p.1)),
)
plain_left (Mapped table v rest) h = λ k. plain_left (rest k) (λ g. h (held_first k g))
plain_left (Does causes value edits) h = plain_are causes (h nothing_looked).1

running_plain : (h : Named) (runs_on : Option ℕ) → IsTrue (are_plain (runs_elsewhere h runs_on))
running_plain h None = refl
running_plain h (Some e) = refl

row_plain : (s : State) (c : ℕ) (call : Call) (g : Looks) → IsPlainWith (rule_of s c call) g
row_plain s c (Retype r f FrameKind.Untyped) g = (refl, refl)
row_plain s c (make_call Make.Table range frame table slot) g = (refl, refl)
row_plain s c (Touch v) g = by_cached (λ rule. IsPlainWith rule g) (comp_of s c).pages v (refl, refl) (λ t. (refl, refl))
    (translation_of (s.core c).cached (comp_of s c).pages v)
row_plain s c (Switch h q) g = (refl, running_plain (found (g.caps 0)) (thread_in (s.frame (g.caps 0).frame)).runs_on)
row_plain s c _ g = (refl, refl)

pub rule_plain : (s : State) (c : ℕ) (call : Call) → HasPlain (rule_of s c call)
rule_plain s c call = plain_left (rule_of s c call) (row_plain s c call)

-- A plain refusal of a call's rule is a reply that the relation permits.
may_plain : (s : State) (c : ℕ) (call : Call) (r : Reply) → IsPlain r → IsFalse (are_calls_spent s c)
    → RuleMay s c (rule_of s c call) r → MayReply s c call r
may_plain s c call (Reply.Ok v) plain some may = absurd plain
may_plain s c call Reply.Raced plain some may = absurd plain
may_plain s c call (Reply.Busy d) plain some may = absurd plain
may_plain s c call Reply.CallsSpent plain some may = absurd plain
may_plain s c call Reply.Dead plain some may = (some, inr may)
may_plain s c call _ plain some may = (some, may)

ok_inj : (v w : Value) → Reply.Ok v ≡ Reply.Ok w → v ≡ w
ok_inj v w e = cc

-- A call that a core may not make asks for life, and the core's component does not live.
not_acting : (s : State) (c : ℕ) (call : Call) → IsFalse (acts s c call) → MayBeDead s c call
not_acting s c call dead = parts (asks_life call) (lives s c) (outlives s c) dead
  where
    parts : (asks here there : Bool) → (not asks || (here || there)) ≡ false → (asks ≡ true) × (here ≡ false)
    parts false here there e = absurd (true≢false e)
    parts true true there e = absurd (true≢false e)
    parts true false there e = (refl, refl)

permitted : (s : State) (c : ℕ) (call : Call) → IsBounded s → MayReply s c call (alone s c call)
permitted s c call calm = tested (are_calls_spent s c) refl
  where
    found : (j : Judged Change) → change_of s c call ≡ j → IfRefused j (λ r. RuleMay s c (rule_of s c call) r × IsPlain r)
        → IsFalse (are_calls_spent s c) → IsTrue (acts s c call) → MayReply s c call (reply_in j)
    found (Refused r) e h some may = may_plain s c call r h.1 some h.0
    found (Found change) e h some may = (some, (may, subst (λ j. IsFoundAnd j (λ k. k.value ≡ change.value)) (sym e) refl))

    judged : (t : Bool) → acts s c call ≡ t → IsFalse (are_calls_spent s c)
        → MayReply s c call (if t then reply_in (change_of s c call) else Reply.Dead)
    judged true may some =
        found (change_of s c call) refl (rule_refused s c (rule_of s c call) calm (rule_plain s c call)) some may
    judged false dead some = (some, inl (not_acting s c call dead))

    tested : (t : Bool) → are_calls_spent s c ≡ t → MayReply s c call (if t then Reply.CallsSpent else first_reply s c call)
    tested true e = e
    tested false e = judged (acts s c call) refl e

only_ok : (s : State) (c : ℕ) (call : Call) (v : Value) → MayReply s c call (Reply.Ok v) → alone s c call ≡ Reply.Ok v
only_ok s c call v may =
    ap (λ t. if t then Reply.CallsSpent else first_reply s c call) may.0
    ∙ ap (λ t. if t then reply_in (change_of s c call) else Reply.Dead) may.1.0
    ∙ found (change_of s c call) may.1.1
  where
    found : (j : Judged Change) → IsFoundAnd j (λ k. k.value ≡ v) → reply_in j ≡ Reply.Ok v
    found (Refused r) h = absurd h
    found (Found change) h = ap Reply.Ok h

pub first_permitted : FirstPermitted
first_permitted setting events c call = record {
  only_ok = only_ok (after setting events) c call;
  permitted = permitted (after setting events) c call (record {
    inside = waits_inside setting events;
    waits = λ x d. (waits_within setting events x d).waits;
    flushes = λ x d. (waits_within setting events x d).flushes;
  });
}
