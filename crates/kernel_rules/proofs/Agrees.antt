-- The first refusal in order is one that the relation permits, where those who wait are in calls.
use Rattle.kernel_rules.specs.{◌≡◌, ◌≢◌, ◌⊎◌, ℕ, zero, suc, ◌+◌, ◌<◌, Bool, true, false, not, ◌&&◌, ◌||◌, refl, cond, ◌==◌, ltb as nat_lt}
use Rattle.kernel_rules.specs.{leb as nat_le, if◌then◌else◌, IsTrue, IsFalse, IsSomeAnd, is_some, List, [], ◌∷◌, Option, Some, None, find}
use Rattle.kernel_rules.specs.{◌%◌, Capability, has_rights, Reply, Kind, Place, Free, Holds, Quiescing, Thing, PlaceOf, Slot, found}
use Rattle.kernel_rules.specs.{root_at, Want, Target, Under, InRoot, place_at, held_in, usable_in, usable, linked, slot_in, reached}
use Rattle.kernel_rules.specs.{root_slot, only, holds_link, has_no_slot, own, lowest, other_waiting, quiescing_by, unflushed_by, MayWait}
use Rattle.kernel_rules.specs.{MayBeUnflushed, name_of, slot_of, Cause, When, WaitedFor, Unflushed, Rule, Name, Vacant, Held, Mapped, Does}
use Rattle.kernel_rules.specs.{does, Judged, Refused, Found, and_then, unless, or_refuse, with_rights, of_kind, named, first_of, waits_of}
use Rattle.kernel_rules.specs.{flushes_of, not_vacant, vacant, held, mapped, first_cause, outcome, IsFoundAnd, Lacks, NameMay, VacantMay}
use Rattle.kernel_rules.specs.{HeldMay, MappedMay, WaitedMay, UnflushedMay, OneMay, RuleMay}
use Rattle.std.proofs.Common.{inl, inr, sym, ◌∙◌, ap, subst, arith, true≢false, ltb-false, leb-false, le-leb, lt-ltb}
use Rattle.std.proofs.lemmas.Bool.{false≢true, eqb-false, or_left, or_right, not_from_false}
use Rattle.{std.specs.List.range_with_len, kernel_rules.specs.State.State}

-- Who waits is in a call and has not passed, and what is unflushed is unknown.
pub record IsBounded (s : State) : Type 0 where
  pub inside : (x : Thing) (d : ℕ) → IsTrue ((s.grace x).waits d) → IsTrue (s.core d).inside
  pub waits : (x : Thing) (d : ℕ) → IsTrue ((s.grace x).waits d) → IsTrue ((s.grace x).not_passed d)
  pub flushes : (x : Thing) (d : ℕ) → IsTrue ((s.grace x).unflushed d) → IsTrue ((s.grace x).flush_unknown d)

-- A refusal that is no loss of a race, no mark and no want of calls.
abbrev pub IsPlain : Reply → Type 0
IsPlain (Reply.Ok v) = ⊥
IsPlain Reply.Raced = ⊥
IsPlain (Reply.Busy d) = ⊥
IsPlain Reply.CallsSpent = ⊥
IsPlain _ = Unit {0}

-- P holds of the refusal.
abbrev pub IfRefused : {A : Type 0} → Judged A → (Reply → Type 0) → Type 0
IfRefused (Refused r) P = P r
IfRefused (Found x) P = Unit {0}

then_refused : {A B : Type 0} (x : Judged A) (f : A → Judged B) (P : Reply → Type 0)
    → IfRefused x P → ((a : A) → x ≡ Found a → IfRefused (f a) P) → IfRefused (and_then x f) P
then_refused (Refused r) f P h k = h
then_refused (Found a) f P h k = k a refl

refused_map : {A : Type 0} (x : Judged A) (P Q : Reply → Type 0) → ((r : Reply) → P r → Q r) → IfRefused x P → IfRefused x Q
refused_map (Refused r) P Q f h = f r h
refused_map (Found a) P Q f h = tt

or_refused : {A : Type 0} (o : Option A) (r : Reply) (P : Reply → Type 0) → (o ≡ None → P r) → IfRefused (or_refuse o r) P
or_refused None r P h = h refl
or_refused (Some x) r P h = tt

or_found : {A : Type 0} (o : Option A) (r : Reply) (x : A) → or_refuse o r ≡ Found x → o ≡ Some x
or_found None r x h = absurd (apart h)
  where
    apart : Refused r ≡ Found x → ⊥
    apart e = cc
or_found (Some y) r x h = ap Some (found_inj h)
  where
    found_inj : Found y ≡ Found x → y ≡ x
    found_inj e = cc

unless_refused : {A : Type 0} (o : Option Reply) (x : A) (P : Reply → Type 0) → ((r : Reply) → o ≡ Some r → P r) → IfRefused (unless o x) P
unless_refused None x P h = tt
unless_refused (Some r) x P h = h r refl

some_and : {A : Type 0} (o : Option A) (x : A) (P : A → Type 0) → o ≡ Some x → P x → IsSomeAnd o P
some_and o x P e h = subst (λ p. IsSomeAnd p P) (sym e) h

found_and : {A : Type 0} (j : Judged A) (x : A) (P : A → Type 0) → j ≡ Found x → P x → IsFoundAnd j P
found_and j x P e h = subst (λ p. IsFoundAnd p P) (sym e) h

some_none : {A : Type 0} (x : A) → Some x ≡ None → ⊥
some_none x e = cc

-- What is not usable is not held.
not_held : (p : Place) (b : Bool) → usable_in p b ≡ None → IsFalse (is_some (held_in p))
not_held Free b h = refl
not_held (Holds k) b h = absurd (some_none k h)
not_held (Quiescing k) b h = refl

no_link : (p : Place) (b : Bool) → linked (usable_in p b) ≡ None → IsFalse (holds_link p)
no_link Free b h = refl
no_link (Holds k) b h = tested (only Kind.Link k.kind) h
  where
    tested : (t : Bool) → (if t then Some k.frame else None) ≡ None → IsFalse t
    tested false e = refl
    tested true e = absurd (some_none k.frame e)
no_link (Quiescing k) b h = refl

no_leaf : (o : Option ℕ) (i : ℕ) → slot_in o i ≡ None → o ≡ None
no_leaf None i h = refl
no_leaf (Some f) i h = absurd (some_none record { node = f; index = i } h)

-- Whether the root of a target was found.
abbrev pub has_root : Target → Bool
has_root (Under table n) = table.found
has_root (InRoot table i) = table.found

-- What is not reached has no slot.
no_slot : (s : State) (c : ℕ) (target : Target) → IsTrue (has_root target) → reached s c target ≡ None → IsTrue (has_no_slot s target)
no_slot s c (Under table n) is h =
    ap (λ t. nat_lt 4095 n || (t && not (holds_link (place_at s at)))) is
    ∙ tested (nat_le n 4095) refl (sym (ap (λ t. if t && nat_le n 4095 then slot_in (linked (usable s c at)) (n % 64) else None) is) ∙ h)
  where
    at : Slot
    at = root_slot table.frame n

    tested : (t : Bool) → nat_le n 4095 ≡ t → (if t then slot_in (linked (usable s c at)) (n % 64) else None) ≡ None
        → (nat_lt 4095 n || not (holds_link (place_at s at))) ≡ true
    tested true e q = or_right (nat_lt 4095 n) (not (holds_link (place_at s at)))
        (not_from_false (holds_link (place_at s at))
        (no_link (place_at s at) ((s.grace (PlaceOf at.node at.index)).waits c) (no_leaf (linked (usable s c at)) (n % 64) q)))
    tested false e q = or_left (nat_lt 4095 n) (not (holds_link (place_at s at))) (lt-ltb 4095 n (leb-false n 4095 e))
no_slot s c (InRoot table i) is h = tested (nat_le i 63) refl (sym (ap (λ t. if t && nat_le i 63 then Some at else None) is) ∙ h)
  where
    at : Slot
    at = record { node = table.frame; index = i }

    tested : (t : Bool) → nat_le i 63 ≡ t → (if t then Some at else None) ≡ None → nat_lt 63 i ≡ true
    tested true e q = absurd (some_none at q)
    tested false e q = lt-ltb 63 i (leb-false i 63 e)

name_refused : (s : State) (c n : ℕ) (want : Want)
    → IfRefused (named s c n want) (λ r. NameMay s c n want r × IsPlain r)
name_refused s c n want =
    then_refused (or_refuse (reached s c (own s c n)) Reply.NoSlot) rest P
    (or_refused (reached s c (own s c n)) Reply.NoSlot P (λ e. (no_slot s c (own s c n) refl e, tt)))
    reaches
  where
    P : Reply → Type 0
    P r = NameMay s c n want r × IsPlain r

    rest : Slot → Judged Capability
    rest at = and_then (or_refuse (usable s c at) Reply.Empty) λ k. of_kind want k

    has_right : (at : Slot) (k : Capability) → reached s c (own s c n) ≡ Some at → usable s c at ≡ Some k → IsTrue (want.kinds k.kind)
        → (t : Bool) → has_rights k.rights want.needs ≡ t → IfRefused {A = Capability} (if t then Found k else Refused Reply.NoRight) P
    has_right at k e u w true h = tt
    has_right at k e u w false h = (
      some_and (reached s c (own s c n)) at (λ at. IsSomeAnd (usable s c at) (Lacks want)) e
          (some_and (usable s c at) k (Lacks want) u (w, h)),
      tt,
    )

    is_kind : (at : Slot) (k : Capability) → reached s c (own s c n) ≡ Some at → usable s c at ≡ Some k
        → (t : Bool) → want.kinds k.kind ≡ t → IfRefused {A = Capability} (if t then with_rights want.needs k else Refused Reply.WrongCap) P
    is_kind at k e u true w = has_right at k e u w (has_rights k.rights want.needs) refl
    is_kind at k e u false w = (
      some_and (reached s c (own s c n)) at (λ at. IsSomeAnd (usable s c at) λ k. IsFalse (want.kinds k.kind)) e
          (some_and (usable s c at) k (λ k. IsFalse (want.kinds k.kind)) u w),
      tt,
    )

    reaches : (at : Slot) → or_refuse (reached s c (own s c n)) Reply.NoSlot ≡ Found at → IfRefused (rest at) P
    reaches at e =
        let is_at : reached s c (own s c n) ≡ Some at = or_found (reached s c (own s c n)) Reply.NoSlot at e in
        then_refused (or_refuse (usable s c at) Reply.Empty) (λ k. of_kind want k) P
        (or_refused (usable s c at) Reply.Empty P λ u. (
          some_and (reached s c (own s c n)) at (λ at. IsFalse (is_some (held_in (place_at s at)))) is_at
              (not_held (place_at s at) ((s.grace (PlaceOf at.node at.index)).waits c) u),
          tt,
        ))
        λ k u. is_kind at k is_at (or_found (usable s c at) Reply.Empty k u) (want.kinds k.kind) refl

-- What is found in a range of numbers passes the test, and is below the range's end.
find_in : (p : ℕ → Bool) (a n e : ℕ) → find p (range_with_len a n) ≡ Some e → (p e ≡ true) × (e < a + n)
find_in p a zero e h = absurd (some_none e (sym h))
find_in p a (suc n) e h = tested (find_in p (a + 1) n e) (p a) refl h
  where
    some_inj : Some a ≡ Some e → a ≡ e
    some_inj q = cc

    later : (p e ≡ true) × (e < (a + 1) + n) → (p e ≡ true) × (e < a + suc n)
    later r = (r.0, (let q = r.1 in omega (arith, q)))

    tested : (find p (range_with_len (a + 1) n) ≡ Some e → (p e ≡ true) × (e < (a + 1) + n))
        → (t : Bool) → p a ≡ t → cond t (Some a) (find p (range_with_len (a + 1) n)) ≡ Some e → (p e ≡ true) × (e < a + suc n)
    tested more true t q = (ap p (sym (some_inj q)) ∙ t, (let k = some_inj q in omega (arith, k)))
    tested more false t q = later (more q)

both : (a b : Bool) → (a && b) ≡ true → (a ≡ true) × (b ≡ true)
both true b h = (refl, h)
both false b h = absurd (false≢true h)

differs : (d c : ℕ) (b : Bool) → (d == c) ≡ b → not b ≡ true → d ≢ c
differs d c false is h = eqb-false d c is
differs d c true is h = absurd (false≢true h)

-- Whoever waits may do so.
wait_found : (s : State) (c : ℕ) (x : Thing) (e : ℕ) → IsBounded s → other_waiting s c x ≡ Some e → MayWait s c x e
wait_found s c x e calm h =
    let at = find_in (λ e. (s.grace x).waits e && not (e == c)) 0 s.limits.cores e h in
    let p = both ((s.grace x).waits e) (not (e == c)) at.0 in
    record {
      is_core = (let q = at.1 in omega (arith, q));
      other = differs e c (e == c) refl p.1;
      is_inside = calm.inside x e p.0;
      not_passed = calm.waits x e p.0;
    }

wait_refused : (s : State) (c : ℕ) (x : Thing) (P : Reply → Type 0) → IsBounded s
    → ((e : ℕ) → MayWait s c x e → P (Reply.Quiescing e)) → (r : Reply) → waits_of s c x ≡ Some r → P r
wait_refused s c x P calm h r e = tested (other_waiting s c x) refl e
  where
    is : (d : ℕ) → Some (Reply.Quiescing d) ≡ Some r → Reply.Quiescing d ≡ r
    is d q = cc

    tested : (o : Option ℕ) → other_waiting s c x ≡ o → quiescing_by o ≡ Some r → P r
    tested None l q = absurd (some_none r (sym q))
    tested (Some d) l q = subst P (is d q) (h d (wait_found s c x d calm l))

-- A first refusal is either of the two.
first_parts : (o p : Option Reply) (r : Reply) → first_of o p ≡ Some r → (o ≡ Some r) ⊎ (p ≡ Some r)
first_parts None p r h = inr h
first_parts (Some q) p r h = inl h

-- Whoever is unflushed may be so.
flush_found : (s : State) (x : Thing) (e : ℕ) → IsBounded s → lowest s (s.grace x).unflushed ≡ Some e → MayBeUnflushed s x e
flush_found s x e calm h =
    let at : ((s.grace x).unflushed e ≡ true) × (e < 0 + s.limits.cores) = find_in (s.grace x).unflushed 0 s.limits.cores e h in
    record { is_core = (let q = at.1 in omega (arith, q)); flush_unknown = calm.flushes x e at.0 }

flush_refused : (s : State) (x : Thing) (P : Reply → Type 0) → IsBounded s
    → ((e : ℕ) → MayBeUnflushed s x e → P (Reply.Unflushed e)) → (r : Reply) → flushes_of s x ≡ Some r → P r
flush_refused s x P calm h r e = tested (lowest s (s.grace x).unflushed) refl e
  where
    is : (d : ℕ) → Some (Reply.Unflushed d) ≡ Some r → Reply.Unflushed d ≡ r
    is d q = cc

    tested : (o : Option ℕ) → lowest s (s.grace x).unflushed ≡ o → unflushed_by o ≡ Some r → P r
    tested None l q = absurd (some_none r (sym q))
    tested (Some d) l q = subst P (is d q) (h d (flush_found s x d calm l))

vacant_refused : (s : State) (c : ℕ) (target : Target) → IsTrue (has_root target) → IsBounded s
    → IfRefused (vacant s c target) (λ r. VacantMay s c target r × IsPlain r)
vacant_refused s c target named calm =
    then_refused (or_refuse (reached s c target) Reply.NoSlot)
    (λ at. unless (not_vacant s c (PlaceOf at.node at.index) (place_at s at)) at) P
    (or_refused (reached s c target) Reply.NoSlot P (λ e. (no_slot s c target named e, tt)))
    λ at e. unless_refused (not_vacant s c (PlaceOf at.node at.index) (place_at s at)) at P
    (place_refused at (or_found (reached s c target) Reply.NoSlot at e) (place_at s at) refl)
  where
    P : Reply → Type 0
    P r = VacantMay s c target r × IsPlain r

    occupied : (r : Reply) → Some Reply.Occupied ≡ Some r → Reply.Occupied ≡ r
    occupied r q = cc

    place_refused : (at : Slot) → reached s c target ≡ Some at → (p : Place) → place_at s at ≡ p
        → (r : Reply) → not_vacant s c (PlaceOf at.node at.index) p ≡ Some r → P r
    place_refused at e Free is r h = absurd (some_none r (sym h))
    place_refused at e (Holds k) is r h = subst P (occupied r h)
        (some_and (reached s c target) at (λ at. IsTrue (is_some (held_in (place_at s at)))) e (ap (λ p. is_some (held_in p)) is), tt)
    place_refused at e (Quiescing k) is r h =
        elim (first_parts (waits_of s c (PlaceOf at.node at.index)) (flushes_of s (PlaceOf at.node at.index)) r h) [
          | inl waits ↦ wait_refused s c (PlaceOf at.node at.index) P calm
              (λ d may. (some_and (reached s c target) at (λ at. MayWait s c (PlaceOf at.node at.index) d) e may, tt)) r waits
          | inr flushes ↦ flush_refused s (PlaceOf at.node at.index) P calm
              (λ d may. (some_and (reached s c target) at (λ at. MayBeUnflushed s (PlaceOf at.node at.index) d) e may, tt)) r flushes
        ]

none_held : (o : Option Capability) → o ≡ None → IsFalse (is_some o)
none_held o e = ap is_some e

held_refused : (s : State) (c : ℕ) (target : Target) → IsTrue (has_root target)
    → IfRefused (held s c target) (λ r. HeldMay s c target r × IsPlain r)
held_refused s c target named =
    then_refused (or_refuse (reached s c target) Reply.NoSlot) rest P
    (or_refused (reached s c target) Reply.NoSlot P (λ e. (no_slot s c target named e, tt)))
    λ at e. then_refused (or_refuse (held_in (place_at s at)) Reply.Empty) (λ k. Found (at, k)) P
    (or_refused (held_in (place_at s at)) Reply.Empty P λ u. (
      some_and (reached s c target) at (λ at. IsFalse (is_some (held_in (place_at s at))))
          (or_found (reached s c target) Reply.NoSlot at e) (none_held (held_in (place_at s at)) u),
      tt,
    ))
    λ k u. tt
  where
    P : Reply → Type 0
    P r = HeldMay s c target r × IsPlain r

    rest : Slot → Judged (Slot × Capability)
    rest at = and_then (or_refuse (held_in (place_at s at)) Reply.Empty) λ k. Found (at, k)

mapped_refused : (s : State) (c table v : ℕ) → IfRefused (mapped s c table v) (λ r. MappedMay s c table v r × IsPlain r)
mapped_refused s c table v = tested (nat_lt 4095 v) refl
  where
    P : Reply → Type 0
    P r = MappedMay s c table v r × IsPlain r

    rest : Slot → Judged Capability
    rest at = or_refuse (held_in (place_at s at)) Reply.Fault

    no : (x y : Bool) → (x || not y) ≡ true → x ≡ false → IsFalse y
    no true y h e = absurd (true≢false e)
    no false true h e = absurd (false≢true h)
    no false false h e = refl

    tested : (t : Bool) → nat_lt 4095 v ≡ t
        → IfRefused (and_then (unless (if t then Some Reply.NoSlot else None) v)
        λ v. and_then (or_refuse (reached s c (Under (root_at table) v)) Reply.Fault) λ at. rest at) P
    tested true e = (e, tt)
    tested false e =
        let small : nat_le v 4095 ≡ true = le-leb v 4095 (ltb-false 4095 v e) in
        then_refused (or_refuse (reached s c (Under (root_at table) v)) Reply.Fault) rest P
        (or_refused (reached s c (Under (root_at table) v)) Reply.Fault P λ q. (
          (small, inl (no (nat_lt 4095 v) (holds_link (place_at s (root_slot table v))) (no_slot s c (Under (root_at table) v) refl q) e)),
          tt,
        ))
        λ at q. or_refused (held_in (place_at s at)) Reply.Fault P λ u. (
          (
            small,
            inr (some_and (reached s c (Under (root_at table) v)) at (λ at. IsFalse (is_some (held_in (place_at s at))))
                (or_found (reached s c (Under (root_at table) v)) Reply.Fault at q) (none_held (held_in (place_at s at)) u)),
          ),
          tt,
        )

-- A target that is free was reached.
vacant_found : (s : State) (c : ℕ) (target : Target) (at : Slot) → vacant s c target ≡ Found at → reached s c target ≡ Some at
vacant_found s c target at h = tested (reached s c target) h
  where
    refused_found : {A : Type 0} (r : Reply) (x : A) → Refused r ≡ Found x → ⊥
    refused_found r x e = cc

    found_inj : {A : Type 0} (x y : A) → Found x ≡ Found y → x ≡ y
    found_inj x y e = cc

    kept : (o : Option Reply) (b : Slot) → unless o b ≡ Found at → b ≡ at
    kept None b e = found_inj b at e
    kept (Some r) b e = absurd (refused_found r at e)

    tested : (o : Option Slot)
        → and_then (or_refuse o Reply.NoSlot) (λ at. unless (not_vacant s c (PlaceOf at.node at.index) (place_at s at)) at) ≡ Found at
        → o ≡ Some at
    tested None e = absurd (refused_found Reply.NoSlot at e)
    tested (Some b) e = ap Some (kept (not_vacant s c (PlaceOf b.node b.index) (place_at s b)) b e)

-- Each own cause of a rule has a plain refusal, and the root of its target is found where the names before it are.
abbrev pub ArePlain : List Cause → Type 0
ArePlain [] = Unit {0}
ArePlain (When condition r ∷ causes) = IsPlain r × ArePlain causes
ArePlain (WaitedFor x ∷ causes) = ArePlain causes
ArePlain (Unflushed x ∷ causes) = ArePlain causes

abbrev pub HasPlain : Rule → Type 0
HasPlain (Name n want rest) = (k : Capability) → HasPlain (rest (found k))
HasPlain (Vacant target rest) = IsTrue (has_root target) × ((at : Slot) → HasPlain (rest at))
HasPlain (Held target rest) = IsTrue (has_root target) × ((at : Slot) (k : Capability) → HasPlain (rest at k))
HasPlain (Mapped table v rest) = (k : Capability) → HasPlain (rest k)
HasPlain (Does causes value edits) = ArePlain causes

cause_refused : (s : State) (c : ℕ) (causes : List Cause) → IsBounded s → ArePlain causes
    → (r : Reply) → first_cause s c causes ≡ Some r → OneMay s c causes r × IsPlain r
cause_refused s c [] calm plain r h = absurd (some_none r (sym h))
cause_refused s c (When condition q ∷ causes) calm plain r h = tested (cause_refused s c causes calm plain.1 r) condition refl h
  where
    is : Some q ≡ Some r → q ≡ r
    is e = cc

    tested : (first_cause s c causes ≡ Some r → OneMay s c causes r × IsPlain r)
        → (t : Bool) → condition ≡ t → first_of (if t then Some q else None) (first_cause s c causes) ≡ Some r
        → ((IsTrue condition × (r ≡ q)) ⊎ OneMay s c causes r) × IsPlain r
    tested more true e k = (inl (e, sym (is k)), subst IsPlain (is k) plain.0)
    tested more false e k = (inr (more k).0, (more k).1)
cause_refused s c (WaitedFor x ∷ causes) calm plain r h =
    tested (cause_refused s c causes calm plain r) (first_parts (waits_of s c x) (first_cause s c causes) r h)
  where
    tested : (first_cause s c causes ≡ Some r → OneMay s c causes r × IsPlain r)
        → (waits_of s c x ≡ Some r) ⊎ (first_cause s c causes ≡ Some r) → (WaitedMay s c x r ⊎ OneMay s c causes r) × IsPlain r
    tested more (inl e) = wait_refused s c x (λ r. (WaitedMay s c x r ⊎ OneMay s c causes r) × IsPlain r) calm (λ d may. (inl may, tt)) r e
    tested more (inr e) = (inr (more e).0, (more e).1)
cause_refused s c (Unflushed x ∷ causes) calm plain r h =
    tested (cause_refused s c causes calm plain r) (first_parts (flushes_of s x) (first_cause s c causes) r h)
  where
    tested : (first_cause s c causes ≡ Some r → OneMay s c causes r × IsPlain r)
        → (flushes_of s x ≡ Some r) ⊎ (first_cause s c causes ≡ Some r) → (UnflushedMay s x r ⊎ OneMay s c causes r) × IsPlain r
    tested more (inl e) = flush_refused s x (λ r. (UnflushedMay s x r ⊎ OneMay s c causes r) × IsPlain r) calm (λ d may. (inl may, tt)) r e
    tested more (inr e) = (inr (more e).0, (more e).1)

-- The first refusal of a rule is one that it may be refused with.
pub rule_refused : (s : State) (c : ℕ) (rule : Rule) → IsBounded s → HasPlain rule
    → IfRefused (outcome s c rule) (λ r. RuleMay s c rule r × IsPlain r)
rule_refused s c (Name n want rest) calm plain =
    then_refused (named s c n want) (λ k. outcome s c (rest (found k))) (λ r. RuleMay s c (Name n want rest) r × IsPlain r)
    (refused_map (named s c n want) (λ r. NameMay s c n want r × IsPlain r) (λ r. RuleMay s c (Name n want rest) r × IsPlain r)
    (λ r h. (inl h.0, h.1)) (name_refused s c n want))
    λ k e. refused_map (outcome s c (rest (found k))) (λ r. RuleMay s c (rest (found k)) r × IsPlain r)
    (λ r. RuleMay s c (Name n want rest) r × IsPlain r)
    (λ r h. (inr (subst (λ j. RuleMay s c (rest (name_of j)) r) (sym e) h.0), h.1))
    (rule_refused s c (rest (found k)) calm (plain k))
rule_refused s c (Vacant target rest) calm plain =
    then_refused (vacant s c target) (λ at. outcome s c (rest at)) (λ r. RuleMay s c (Vacant target rest) r × IsPlain r)
    (refused_map (vacant s c target) (λ r. VacantMay s c target r × IsPlain r) (λ r. RuleMay s c (Vacant target rest) r × IsPlain r)
    (λ r h. (inl h.0, h.1)) (vacant_refused s c target plain.0 calm))
    λ at e. refused_map (outcome s c (rest at)) (λ r. RuleMay s c (rest at) r × IsPlain r)
    (λ r. RuleMay s c (Vacant target rest) r × IsPlain r)
    (λ r h. (inr (subst (λ o. RuleMay s c (rest (slot_of o)) r) (sym (vacant_found s c target at e)) h.0), h.1))
    (rule_refused s c (rest at) calm (plain.1 at))
rule_refused s c (Held target rest) calm plain =
    then_refused (held s c target) (λ p. outcome s c (rest p.0 p.1)) (λ r. RuleMay s c (Held target rest) r × IsPlain r)
    (refused_map (held s c target) (λ r. HeldMay s c target r × IsPlain r) (λ r. RuleMay s c (Held target rest) r × IsPlain r)
    (λ r h. (inl h.0, h.1)) (held_refused s c target plain.0))
    λ p e. refused_map (outcome s c (rest p.0 p.1)) (λ r. RuleMay s c (rest p.0 p.1) r × IsPlain r)
    (λ r. RuleMay s c (Held target rest) r × IsPlain r)
    (λ r h. (inr (found_and (held s c target) p (λ p. RuleMay s c (rest p.0 p.1) r) e h.0), h.1))
    (rule_refused s c (rest p.0 p.1) calm (plain.1 p.0 p.1))
rule_refused s c (Mapped table v rest) calm plain =
    then_refused (mapped s c table v) (λ k. outcome s c (rest k)) (λ r. RuleMay s c (Mapped table v rest) r × IsPlain r)
    (refused_map (mapped s c table v) (λ r. MappedMay s c table v r × IsPlain r) (λ r. RuleMay s c (Mapped table v rest) r × IsPlain r)
    (λ r h. (inl h.0, h.1)) (mapped_refused s c table v))
    λ k e. refused_map (outcome s c (rest k)) (λ r. RuleMay s c (rest k) r × IsPlain r)
    (λ r. RuleMay s c (Mapped table v rest) r × IsPlain r)
    (λ r h. (inr (found_and (mapped s c table v) k (λ k. RuleMay s c (rest k) r) e h.0), h.1))
    (rule_refused s c (rest k) calm (plain k))
rule_refused s c (Does causes value edits) calm plain =
    unless_refused (first_cause s c causes) (does c s value edits) (λ r. OneMay s c causes r × IsPlain r)
    (cause_refused s c causes calm plain)
