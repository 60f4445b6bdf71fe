-- What is known where a rule is carried out.
use Rattle.kernel_rules.proofs.{◌&&◌, ◌≡◌, ℕ, ◌<◌, ◌≤◌, ◌%◌, Bool, true, false, not, refl, sym, ◌∙◌, ap, subst, arith, leb as nat_le, suc}
use Rattle.kernel_rules.proofs.{if◌then◌else◌, IsTrue, List, ◌∷◌, Option, Some, None, false≢true, true≢false, leb-true, Capability}
use Rattle.kernel_rules.proofs.{has_rights, Kind, Value, Reply, Place, Free, Holds, Quiescing, Frame, Kernel, Leaf, Pleaf, PlaceOf, Slot}
use Rattle.kernel_rules.proofs.{found, Want, to_use, Target, Under, InRoot, place_at, held_in, usable_in, usable, linked, slot_in, reached}
use Rattle.kernel_rules.proofs.{root_slot, only, own, Edit, Change, does, Cause, Rule, Name, Vacant, Held, Mapped, Does, Judged, Refused}
use Rattle.kernel_rules.proofs.{Found, and_then, unless, or_refuse, with_rights, of_kind, named, first_of, not_vacant, vacant, held, mapped}
use Rattle.kernel_rules.proofs.{refusal_of, first_cause, outcome, IfFound, fits, IsGood, is_node}
use Rattle.kernel_rules.proofs.Rows.{Looks, found_by, cap_first, slot_first, held_first, nothing_looked}
use Rattle.{kernel_rules.specs.Rows.value_at, kernel_rules.specs.Rows.edits_at}
use Rattle.{kernel_rules.specs.State.State, kernel_invariant.proofs.Sound.IsSound, kernel_invariant.proofs.Sound.only_is}

-- P holds of the value and the edits of a rule where it is carried out.
abbrev pub EditsFrom : (Value → List Edit → Type 0) → State → ℕ → Rule → Type 0
EditsFrom P s c (Name n want rest) = (k : Capability) → named s c n want ≡ Found k → EditsFrom P s c (rest (found k))
EditsFrom P s c (Vacant target rest) = (at : Slot) → vacant s c target ≡ Found at → EditsFrom P s c (rest at)
EditsFrom P s c (Held target rest) = (at : Slot) (k : Capability) → held s c target ≡ Found (at, k) → EditsFrom P s c (rest at k)
EditsFrom P s c (Mapped table v rest) = (k : Capability) → mapped s c table v ≡ Found k → EditsFrom P s c (rest k)
EditsFrom P s c (Does causes value edits) = first_cause s c causes ≡ None → P value edits

pub edits_map : (P Q : Value → List Edit → Type 0) (s : State) (c : ℕ) (rule : Rule) → ((v : Value) (es : List Edit) → P v es → Q v es)
    → EditsFrom P s c rule → EditsFrom Q s c rule
edits_map P Q s c (Name n want rest) f h = λ k e. edits_map P Q s c (rest (found k)) f (h k e)
edits_map P Q s c (Vacant target rest) f h = λ at e. edits_map P Q s c (rest at) f (h at e)
edits_map P Q s c (Held target rest) f h = λ at k e. edits_map P Q s c (rest at k) f (h at k e)
edits_map P Q s c (Mapped table v rest) f h = λ k e. edits_map P Q s c (rest k) f (h k e)
edits_map P Q s c (Does causes value edits) f h = λ calm. f value edits (h calm)

-- What is looked up later.
abbrev pub cap_later : Looks → Looks
cap_later g = record g { caps = λ i. g.caps (suc i) }

abbrev pub slot_later : Looks → Looks
slot_later g = record g { slots = λ i. g.slots (suc i) }

abbrev pub held_later : Looks → Looks
held_later g = record g { held = λ i. g.held (suc i) }

-- The look-ups of a rule of core c find these, and no cause stands.
abbrev pub LedBy : State → ℕ → Rule → Looks → Type 0
LedBy s c (Name n want rest) g = (named s c n want ≡ Found (g.caps 0)) × LedBy s c (rest (found (g.caps 0))) (cap_later g)
LedBy s c (Vacant target rest) g = (vacant s c target ≡ Found (g.slots 0)) × LedBy s c (rest (g.slots 0)) (slot_later g)
LedBy s c (Held target rest) g =
    (held s c target ≡ Found (g.slots 0, g.held 0)) × LedBy s c (rest (g.slots 0) (g.held 0)) (held_later (slot_later g))
LedBy s c (Mapped table v rest) g = (mapped s c table v ≡ Found (g.held 0)) × LedBy s c (rest (g.held 0)) (held_later g)
LedBy s c (Does causes value edits) g = first_cause s c causes ≡ None

-- P holds of the value and the edits that a rule has where its look-ups find these.
abbrev pub HoldsAt : (Value → List Edit → Type 0) → Rule → Looks → Type 0
HoldsAt P rule g = P (value_at rule (found_by g)) (edits_at rule (found_by g))

-- What holds so wherever the look-ups of a rule may lead, holds where it is carried out.
pub from_left : (P : Value → List Edit → Type 0) (s : State) (c : ℕ) (rule : Rule) → ((g : Looks) → LedBy s c rule g → HoldsAt P rule g)
    → EditsFrom P s c rule
from_left P s c (Name n want rest) h = λ k e. from_left P s c (rest (found k)) (λ g is. h (cap_first k g) (e, is))
from_left P s c (Vacant target rest) h = λ at e. from_left P s c (rest at) (λ g is. h (slot_first at g) (e, is))
from_left P s c (Held target rest) h = λ at k e. from_left P s c (rest at k) (λ g is. h (slot_first at (held_first k g)) (e, is))
from_left P s c (Mapped table v rest) h = λ k e. from_left P s c (rest k) (λ g is. h (held_first k g) (e, is))
from_left P s c (Does causes value edits) h = λ calm. h nothing_looked calm

-- P holds of the change that a rule makes where it is carried out.
abbrev pub ChangesFrom : (Change → Type 0) → State → ℕ → Rule → Type 0
ChangesFrom P s c rule = EditsFrom (λ v es. P (does c s v es)) s c rule

then_found : {A B : Type 0} (x : Judged A) (f : A → Judged B) (P : B → Type 0)
    → ((a : A) → x ≡ Found a → IfFound (f a) P) → IfFound (and_then x f) P
then_found (Refused r) f P h = tt
then_found (Found a) f P h = h a refl

unless_found : {A : Type 0} (r : Option Reply) (x : A) (P : A → Type 0) → (r ≡ None → P x) → IfFound (unless r x) P
unless_found None x P h = h refl
unless_found (Some r) x P h = tt

pub outcome_from : (P : Change → Type 0) (s : State) (c : ℕ) (rule : Rule) → ChangesFrom P s c rule → IfFound (outcome s c rule) P
outcome_from P s c (Name n want rest) h =
    then_found (named s c n want) (λ k. outcome s c (rest (found k))) P λ k e. outcome_from P s c (rest (found k)) (h k e)
outcome_from P s c (Vacant target rest) h =
    then_found (vacant s c target) (λ at. outcome s c (rest at)) P λ at e. outcome_from P s c (rest at) (h at e)
outcome_from P s c (Held target rest) h =
    then_found (held s c target) (λ p. outcome s c (rest p.0 p.1)) P λ p e. outcome_from P s c (rest p.0 p.1) (h p.0 p.1 e)
outcome_from P s c (Mapped table v rest) h =
    then_found (mapped s c table v) (λ k. outcome s c (rest k)) P λ k e. outcome_from P s c (rest k) (h k e)
outcome_from P s c (Does causes value edits) h = unless_found (first_cause s c causes) (does c s value edits) P h

pub some_inj : {A : Type 0} (x y : A) → Some x ≡ Some y → x ≡ y
some_inj x y e = cc

pub none_some : {A : Type 0} (x : A) → None ≡ Some x → ⊥
none_some x e = cc

pub some_none : {A : Type 0} (x : A) → Some x ≡ None → ⊥
some_none x e = cc

pub refused_found : {A : Type 0} (r : Reply) (x : A) → Refused r ≡ Found x → ⊥
refused_found r x e = cc

pub found_inj : {A : Type 0} (x y : A) → Found x ≡ Found y → x ≡ y
found_inj x y e = cc

-- What is found after another finding.
pub then_parts : {A B : Type 0} (x : Judged A) (f : A → Judged B) (b : B)
    → and_then x f ≡ Found b → (a : A) × (x ≡ Found a) × (f a ≡ Found b)
then_parts (Refused r) f b e = absurd (refused_found r b e)
then_parts (Found a) f b e = (a, refl, e)

pub or_found : {A : Type 0} (o : Option A) (r : Reply) (x : A) → or_refuse o r ≡ Found x → o ≡ Some x
or_found None r x e = absurd (refused_found r x e)
or_found (Some y) r x e = ap Some (found_inj y x e)

-- What a core in an open call may use is good.
pub usable_good : (s : State) (o : ℕ → Bool) (c : ℕ) (at : Slot) (k : Capability)
    → IsSound s o → o c ≡ true → usable s c at ≡ Some k → IsGood s k
usable_good s o c at k h inc e = by_place (place_at s at) refl e
  where
    by_wait : (j : Capability) (b : Bool) → (if b then Some j else None) ≡ Some k → (b ≡ true) × (j ≡ k)
    by_wait j true q = (refl, some_inj j k q)
    by_wait j false q = absurd (none_some k q)

    by_place : (p : Place) → place_at s at ≡ p → usable_in p ((s.grace (PlaceOf at.node at.index)).waits c) ≡ Some k → IsGood s k
    by_place Free is q = absurd (none_some k q)
    by_place (Holds j) is q = subst (IsGood s) (some_inj j k q) (h.held at.node at.index j is)
    by_place (Quiescing j) is q =
        let w : ((s.grace (PlaceOf at.node at.index)).waits c ≡ true) × (j ≡ k) =
        by_wait j ((s.grace (PlaceOf at.node at.index)).waits c) q in
        subst (IsGood s) w.1 (h.waiting at.node at.index j c is inc w.0).0

-- What is found at a place where capability j may be used is j, which is of a wanted kind and has the rights that are needed.
pub record Suits (want : Want) (j k : Capability) : Type 0 where
  pub is : j ≡ k
  pub kind : IsTrue (want.kinds j.kind)
  pub rights : IsTrue (has_rights j.rights want.needs)

pub suits : (want : Want) (j k : Capability) → of_kind want j ≡ Found k → Suits want j k
suits want j k q = by_kind (want.kinds j.kind) refl q
  where
    by_rights : IsTrue (want.kinds j.kind) → (b : Bool) → has_rights j.rights want.needs ≡ b
        → (if b then Found j else Refused Reply.NoRight) ≡ Found k → Suits want j k
    by_rights w true h q = record { is = found_inj j k q; kind = w; rights = h }
    by_rights w false h q = absurd (refused_found Reply.NoRight k q)

    by_kind : (b : Bool) → want.kinds j.kind ≡ b
        → (if b then with_rights want.needs j else Refused Reply.WrongCap) ≡ Found k → Suits want j k
    by_kind true w q = by_rights w (has_rights j.rights want.needs) refl q
    by_kind false w q = absurd (refused_found Reply.WrongCap k q)

-- A named capability is good, and of a wanted kind.
pub named_good : (s : State) (o : ℕ → Bool) (c n : ℕ) (want : Want) (k : Capability) → IsSound s o → o c ≡ true
    → named s c n want ≡ Found k → IsGood s k × IsTrue (want.kinds k.kind)
named_good s o c n want k h inc e =
    let a = then_parts (or_refuse (reached s c (own s c n)) Reply.NoSlot)
    (λ at. and_then (or_refuse (usable s c at) Reply.Empty) λ k. of_kind want k) k e in
    let b = then_parts (or_refuse (usable s c a.0) Reply.Empty) (λ k. of_kind want k) k a.2 in
    let u : usable s c a.0 ≡ Some b.0 = or_found (usable s c a.0) Reply.Empty b.0 b.1 in
    let w : Suits want b.0 k = suits want b.0 k b.2 in
    (subst (IsGood s) w.is (usable_good s o c a.0 b.0 h inc u), subst (λ j. IsTrue (want.kinds j.kind)) w.is w.kind)

-- A named capability of one kind alone names a frame that fits it.
pub named_fit : (s : State) (o : ℕ → Bool) (c n : ℕ) (j : Kind) (k : Capability) → IsSound s o → o c ≡ true
    → named s c n (to_use (only j)) ≡ Found k → IsTrue (fits j (s.frame k.frame))
named_fit s o c n j k h inc e =
    let a : IsGood s k × IsTrue (only j k.kind) = named_good s o c n (to_use (only j)) k h inc e in
    subst (λ i. IsTrue (fits i (s.frame k.frame))) (only_is j k.kind a.1) a.0.fit

-- The root of a target is a node, where the target is an entry of the root itself.
abbrev pub RootIsNode : State → Target → Type 0
RootIsNode s (Under table n) = Unit {0}
RootIsNode s (InRoot table i) = IsTrue (is_node (s.frame table.frame))

pub link_node : (x : Frame) → IsTrue (fits Kind.Link x) → IsTrue (is_node x)
link_node (Kernel Leaf) h = refl
link_node (Kernel Pleaf) h = refl
link_node _ h = absurd (false≢true h)

second : (a b : Bool) → (a && b) ≡ true → b ≡ true
second true b h = h
second false b h = absurd (false≢true h)

-- A reached slot is in a node.
pub reached_node : (s : State) (o : ℕ → Bool) (c : ℕ) (target : Target) (at : Slot) → IsSound s o → o c ≡ true → RootIsNode s target
    → reached s c target ≡ Some at → IsTrue (is_node (s.frame at.node)) × (at.index < 64)
reached_node s o c (Under table n) at h inc node e = by_number (table.found && nat_le n 4095) e
  where
    by_slot : (l : Option ℕ) → linked (usable s c (root_slot table.frame n)) ≡ l
        → slot_in l (n % 64) ≡ Some at → IsTrue (is_node (s.frame at.node)) × (at.index < 64)
    by_slot None is q = absurd (none_some at q)
    by_slot (Some leaf) is q = by_link (usable s c (root_slot table.frame n)) refl is
      where
        same : leaf ≡ at.node
        same = ap (λ x. x.node) (some_inj record { node = leaf; index = n % 64 } at q)

        small : at.index < 64
        small = let i : n % 64 ≡ at.index = ap (λ x. x.index) (some_inj record { node = leaf; index = n % 64 } at q) in omega (arith, i)

        by_kind : (j : Capability) (b : Bool) → only Kind.Link j.kind ≡ b
            → (if b then Some j.frame else None) ≡ Some leaf → (IsTrue (only Kind.Link j.kind)) × (j.frame ≡ leaf)
        by_kind j true is q = (is, some_inj j.frame leaf q)
        by_kind j false is q = absurd (none_some leaf q)

        by_link : (u : Option Capability) → usable s c (root_slot table.frame n) ≡ u
            → linked u ≡ Some leaf → IsTrue (is_node (s.frame at.node)) × (at.index < 64)
        by_link None is q = absurd (none_some leaf q)
        by_link (Some j) is q =
            let k : (IsTrue (only Kind.Link j.kind)) × (j.frame ≡ leaf) = by_kind j (only Kind.Link j.kind) refl q in
            let g : IsGood s j = usable_good s o c (root_slot table.frame n) j h inc is in (
              subst (λ f. IsTrue (is_node (s.frame f))) (k.1 ∙ same)
                  (link_node (s.frame j.frame) (subst (λ i. IsTrue (fits i (s.frame j.frame))) (only_is Kind.Link j.kind k.0) g.fit)),
              small,
            )

    by_number : (b : Bool) → (if b then slot_in (linked (usable s c (root_slot table.frame n))) (n % 64) else None) ≡ Some at
        → IsTrue (is_node (s.frame at.node)) × (at.index < 64)
    by_number true q = by_slot (linked (usable s c (root_slot table.frame n))) refl q
    by_number false q = absurd (none_some at q)
reached_node s o c (InRoot table i) at h inc node e = by_entry (table.found && nat_le i 63) refl e
  where
    slot : Slot
    slot = record { node = table.frame; index = i }

    by_entry : (b : Bool) → (table.found && nat_le i 63) ≡ b
        → (if b then Some slot else None) ≡ Some at → IsTrue (is_node (s.frame at.node)) × (at.index < 64)
    by_entry true is q =
        let small : i ≤ 63 = leb-true i 63 (second table.found (nat_le i 63) is) in
        let index : i ≡ at.index = ap (λ x. x.index) (some_inj slot at q) in
        (subst (λ f. IsTrue (is_node (s.frame f))) (ap (λ x. x.node) (some_inj slot at q)) node, omega (arith, small, index))
    by_entry false is q = absurd (none_some at q)

-- A vacant target is reached, and holds nothing.
pub vacant_facts : (s : State) (c : ℕ) (target : Target) (at : Slot)
    → vacant s c target ≡ Found at → (reached s c target ≡ Some at) × (held_in (place_at s at) ≡ None)
vacant_facts s c target at e =
    let a = then_parts (or_refuse (reached s c target) Reply.NoSlot)
    (λ at. unless (not_vacant s c (PlaceOf at.node at.index) (place_at s at)) at) at e in
    let r : reached s c target ≡ Some a.0 = or_found (reached s c target) Reply.NoSlot a.0 a.1 in
    let u : (not_vacant s c (PlaceOf a.0.node a.0.index) (place_at s a.0) ≡ None) × (a.0 ≡ at) =
    unless_parts (not_vacant s c (PlaceOf a.0.node a.0.index) (place_at s a.0)) a.0 a.2 in
    (r ∙ ap Some u.1, subst (λ x. held_in (place_at s x) ≡ None) u.1 (nothing (PlaceOf a.0.node a.0.index) (place_at s a.0) u.0))
  where
    unless_parts : (o : Option Reply) (x : Slot) → unless o x ≡ Found at → (o ≡ None) × (x ≡ at)
    unless_parts None x q = (refl, found_inj x at q)
    unless_parts (Some r) x q = absurd (refused_found r at q)

    nothing : (x : Rattle.kernel_rules.specs.State.Thing) (p : Place) → not_vacant s c x p ≡ None → held_in p ≡ None
    nothing x (Holds k) q = absurd (some_none Reply.Occupied q)
    nothing x _ q = refl

-- A held target is reached, and holds the capability.
pub held_facts : (s : State) (c : ℕ) (target : Target) (at : Slot) (k : Capability)
    → held s c target ≡ Found (at, k) → (reached s c target ≡ Some at) × (place_at s at ≡ Holds k)
held_facts s c target at k e =
    let a = then_parts (or_refuse (reached s c target) Reply.NoSlot)
    (λ at. and_then (or_refuse (held_in (place_at s at)) Reply.Empty) λ k. Found (at, k)) (at, k) e in
    let b = then_parts (or_refuse (held_in (place_at s a.0)) Reply.Empty) (λ k. Found (a.0, k)) (at, k) a.2 in
    let p : (a.0, b.0) ≡ (at, k) = found_inj (a.0, b.0) (at, k) b.2 in
    let same : a.0 ≡ at = ap (λ q. q.0) p in (
      or_found (reached s c target) Reply.NoSlot a.0 a.1 ∙ ap Some same,
      ap (place_at s) (sym same) ∙ holds (place_at s a.0) b.0 (or_found (held_in (place_at s a.0)) Reply.Empty b.0 b.1)
          ∙ ap (λ q. Holds q.1) p,
    )
  where
    holds : (p : Place) (j : Capability) → held_in p ≡ Some j → p ≡ Holds j
    holds (Holds i) j q = ap Holds (some_inj i j q)
    holds _ j q = absurd (none_some j q)

-- No cause stands: neither the first nor a later one.
pub none_parts : (o p : Option Reply) → first_of o p ≡ None → (o ≡ None) × (p ≡ None)
none_parts None p e = (refl, e)
none_parts (Some r) p e = absurd (some_none r e)

-- A condition that does not stand.
pub when_not : (b : Bool) (r : Reply) → (if b then Some r else None) ≡ None → b ≡ false
when_not true r e = absurd (some_none r e)
when_not false r e = refl

pub not_not : (b : Bool) → not b ≡ false → b ≡ true
not_not true e = refl
not_not false e = absurd (true≢false e)

-- The first two causes do not stand.
pub first_two : (s : State) (c : ℕ) (x y : Cause) (causes : List Cause)
    → first_cause s c (x ∷ y ∷ causes) ≡ None → (refusal_of s c x ≡ None) × (refusal_of s c y ≡ None)
first_two s c x y causes calm =
    let p = none_parts (refusal_of s c x) (first_cause s c (y ∷ causes)) calm in
    let q = none_parts (refusal_of s c y) (first_cause s c causes) p.1 in
    (p.0, q.0)
