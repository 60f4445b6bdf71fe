-- A call may be refused alike in two states that are one for all that the machine has, one of them reached.
use Rattle.plain_kernel.specs.kernel_rules.proofs as low
use low.{◌≡◌, ◌⊎◌, inl, inr, ℕ, ◌<◌, ◌≤◌, ◌==◌, Bool, true, false, not, ◌&&◌, ◌||◌, refl, sym, ◌∙◌, ap, subst, leb as nat_le, ltb as nat_lt}
use low.{if◌then◌else◌, List, [], ◌∷◌, Option, Some, None, is_some, IsTrue, IsFalse, IsSomeAnd, false≢true, true≢false, le-leb, ltb-false}
use low.{Capability, Reply, Thing, PlaceOf, Limits, Core, Want, Slot, Named, found, root_at, Target, Under, InRoot, place_at, held_in}
use low.{usable, reached, root_slot, holds_link, has_no_slot, own, MayWait, MayBeUnflushed, Cause, When, WaitedFor, Unflushed, Rule, Name}
use low.{Vacant, Held, Mapped, Does, Judged, Refused, Found, and_then, or_refuse, named, held, mapped, IsFoundAnd, Lacks, NameMay}
use low.{VacantMay, HeldMay, MappedMay, OneMay, name_of, RuleMay, is_node}
use Rattle.plain_kernel.specs.kernel_rules.specs.{ReachesNone, ReachesHeld, ReachesOther, ReachesLacking, WaitedMay}
use Rattle.plain_kernel.specs.kernel_rules.specs.{UnflushedMay, CauseMay}
use Rattle.plain_kernel.specs.same_changes.proofs.{Twins, named_same, reached_same, RootGood}
use Rattle.plain_kernel.specs.same_changes.proofs.Reaching.{IsSlot, place_same, usable_same, own_good, own_same, root_is, held_same}
use Rattle.{plain_kernel.specs.kernel_rules.specs.slot_of, plain_kernel.specs.seq_state.specs.State}
use Rattle.{plain_kernel.specs.seq_state.specs.IsThing}
use Rattle.{plain_kernel.specs.same_changes.proofs.Reaching.mapped_same, plain_kernel.specs.seq_plans.specs.Refusals.Iff}

-- ---- exactly where

iff_same : (A : Type 0) → Iff A A
iff_same A = record { there = λ a. a; back = λ a. a }

iff_along : (A B : Type 0) → A ≡ B → Iff A B
iff_along A B e = subst (λ (X : Type 0). Iff A X) e (iff_same A)

pub either_iff : (A B X Y : Type 0) → Iff A B → Iff X Y → Iff (A ⊎ X) (B ⊎ Y)
either_iff A B X Y e h = record {
  there = λ x. elim x [ inl a ↦ inl (e.there a) | inr y ↦ inr (h.there y) ];
  back = λ x. elim x [ inl a ↦ inl (e.back a) | inr y ↦ inr (h.back y) ];
}

some_iff : {A : Type 0} (x y : Option A) (P Q : A → Type 0) → x ≡ y → ((a : A) → y ≡ Some a → Iff (P a) (Q a))
    → Iff (IsSomeAnd x P) (IsSomeAnd y Q)
some_iff {A} x y P Q e same = subst (λ z. Iff (IsSomeAnd z P) (IsSomeAnd y Q)) (sym e) (by_option y refl)
  where
    by_option : (z : Option A) → y ≡ z → Iff (IsSomeAnd z P) (IsSomeAnd z Q)
    by_option None is = iff_same ⊥
    by_option (Some a) is = same a is

found_iff : {A : Type 0} (x y : Judged A) (P Q : A → Type 0) → x ≡ y → ((a : A) → y ≡ Found a → Iff (P a) (Q a))
    → Iff (IsFoundAnd x P) (IsFoundAnd y Q)
found_iff {A} x y P Q e same = subst (λ z. Iff (IsFoundAnd z P) (IsFoundAnd y Q)) (sym e) (by_judged y refl)
  where
    by_judged : (z : Judged A) → y ≡ z → Iff (IsFoundAnd z P) (IsFoundAnd z Q)
    by_judged (Refused r) is = iff_same ⊥
    by_judged (Found a) is = same a is

-- ---- targets

none_some : {A : Type 0} (x : A) → None ≡ Some x → ⊥
none_some x e = cc

-- The root of a target is a node of the machine, where it was found.
abbrev pub RootMay : State → Target → Type 0
RootMay s (Under table n) = table.found ≡ true → IsTrue (is_node (s.frame table.frame))
RootMay s (InRoot table i) = table.found ≡ true → IsTrue (is_node (s.frame table.frame))

-- The target with its root found, or without a slot.
good_or_none : (s : State) (target : Target) → RootMay s target → RootGood s target ⊎ ((u : State) (c : ℕ) → reached u c target ≡ None)
good_or_none s (Under table n) good = inl good
good_or_none s (InRoot table i) good = by_found table.found refl
  where
    by_found : (b : Bool) → table.found ≡ b
        → IsTrue (is_node (s.frame table.frame)) ⊎ ((u : State) (c : ℕ) → reached u c (InRoot table i) ≡ None)
    by_found true is = inl (good is)
    by_found false is = inr (λ u c. ap (λ b. if b && nat_le i 63 then Some (record { node = table.frame; index = i }) else None) is)

small_le : (n : ℕ) → nat_lt 4095 n ≡ false → nat_le n 4095 ≡ true
small_le n is = le-leb n 4095 (ltb-false 4095 n is)

module _ {t s : State} {o : ℕ → Bool} {c : ℕ} (w : Twins t s o c) where
  may_reach : (target : Target) → RootMay s target → reached t c target ≡ reached s c target
  may_reach target good = elim (good_or_none s target good) [
    | inl root ↦ reached_same w target root
    | inr none ↦ none t c ∙ sym (none s c)
  ]

  is_slot : (target : Target) (at : Slot) → RootMay s target → reached s c target ≡ Some at → IsSlot s at
  is_slot target at good is = elim (good_or_none s target good) [
    | inl root ↦ Rattle.plain_kernel.specs.same_changes.proofs.Reaching.slot_good w target at root is
    | inr none ↦ absurd (none_some at (sym (none s c) ∙ is))
  ]

  link_same : (table : Named) (n : ℕ) → RootMay s (Under table n) → has_no_slot t (Under table n) ≡ has_no_slot s (Under table n)
  link_same table n good = by_number (nat_lt 4095 n) refl table.found refl
    where
      small : nat_lt 4095 n ≡ false → nat_le n 4095 ≡ true
      small is = small_le n is

      both : table.found ≡ true → nat_le n 4095 ≡ true → (table.found && nat_le n 4095) ≡ true
      both p q = ap (λ b. b && nat_le n 4095) p ∙ q

      by_number : (a : Bool) → nat_lt 4095 n ≡ a → (b : Bool) → table.found ≡ b
          → (a || (b && not (holds_link (place_at t (root_slot table.frame n)))))
          ≡ (a || (b && not (holds_link (place_at s (root_slot table.frame n)))))
      by_number true big b is = refl
      by_number false few false is = refl
      by_number false few true is = ap (λ p. not (holds_link p)) (place_same w (root_slot table.frame n)
          (root_is s o table n w.sound good (both is (small few))))

  no_slot_same : (target : Target) → RootMay s target → has_no_slot t target ≡ has_no_slot s target
  no_slot_same (Under table n) good = link_same table n good
  no_slot_same (InRoot table i) good = refl

  held_at_same : (at : Slot) → IsSlot s at → is_some (held_in (place_at t at)) ≡ is_some (held_in (place_at s at))
  held_at_same at is = ap (λ p. is_some (held_in p)) (place_same w at is)

  none_iff : (target : Target) → RootMay s target → Iff (ReachesNone t c target) (ReachesNone s c target)
  none_iff target good = some_iff _ _ _ _ (may_reach target good)
      (λ at is. iff_along _ _ (ap IsFalse (held_at_same at (is_slot target at good is))))

  held_iff : (target : Target) → RootMay s target → Iff (ReachesHeld t c target) (ReachesHeld s c target)
  held_iff target good = some_iff _ _ _ _ (may_reach target good)
      (λ at is. iff_along _ _ (ap IsTrue (held_at_same at (is_slot target at good is))))

  usable_iff : (target : Target) (P : Capability → Type 0) → RootMay s target
      → Iff (IsSomeAnd (reached t c target) λ at. IsSomeAnd (usable t c at) P)
      (IsSomeAnd (reached s c target) λ at. IsSomeAnd (usable s c at) P)
  usable_iff target P good = some_iff _ _ _ _ (may_reach target good)
      (λ at is. some_iff _ _ P P (usable_same w at (is_slot target at good is)) (λ k has. iff_same (P k)))

  -- ---- who may wait

  wait_iff : (x : Thing) (e : ℕ) → IsThing s.limits x → Iff (MayWait t c x e) (MayWait s c x e)
  wait_iff x e is = record {
    there = λ h.
        let below : e < s.limits.cores = subst (λ (l : Limits). e < l.cores) w.same.limits h.is_core in record {
          is_core = below;
          other = h.other;
          is_inside = subst (λ (k : Core). IsTrue k.inside) (w.same.core e below) h.is_inside;
          not_passed = subst IsTrue ((w.same.grace x is).not_passed e below) h.not_passed;
        };
    back = λ h. record {
      is_core = subst (λ (l : Limits). e < l.cores) (sym w.same.limits) h.is_core;
      other = h.other;
      is_inside = subst (λ (k : Core). IsTrue k.inside) (sym (w.same.core e h.is_core)) h.is_inside;
      not_passed = subst IsTrue (sym ((w.same.grace x is).not_passed e h.is_core)) h.not_passed;
    };
  }

  unflushed_iff : (x : Thing) (e : ℕ) → IsThing s.limits x → Iff (MayBeUnflushed t x e) (MayBeUnflushed s x e)
  unflushed_iff x e is = record {
    there = λ h.
        let below : e < s.limits.cores = subst (λ (l : Limits). e < l.cores) w.same.limits h.is_core in record {
          is_core = below;
          flush_unknown = subst IsTrue ((w.same.grace x is).flush_unknown e below) h.flush_unknown;
        };
    back = λ h. record {
      is_core = subst (λ (l : Limits). e < l.cores) (sym w.same.limits) h.is_core;
      flush_unknown = subst IsTrue (sym ((w.same.grace x is).flush_unknown e h.is_core)) h.flush_unknown;
    };
  }

  -- ---- look-ups

  own_root : (n : ℕ) → RootMay s (own s c n)
  own_root n = own_good w n

  name_iff : (n : ℕ) (want : Want) (r : Reply) → Iff (NameMay t c n want r) (NameMay s c n want r)
  name_iff n want Reply.NoSlot = iff_along _ _ (ap IsTrue (ap (has_no_slot t) (own_same w n) ∙ no_slot_same (own s c n) (own_root n)))
  name_iff n want Reply.Empty =
      subst (λ target. Iff (ReachesNone t c target) (ReachesNone s c (own s c n))) (sym (own_same w n)) (none_iff (own s c n) (own_root n))
  name_iff n want Reply.WrongCap =
      subst (λ target. Iff (ReachesOther t c target want) (ReachesOther s c (own s c n) want)) (sym (own_same w n))
      (usable_iff (own s c n) (λ k. IsFalse (want.kinds k.kind)) (own_root n))
  name_iff n want Reply.NoRight =
      subst (λ target. Iff (ReachesLacking t c target want) (ReachesLacking s c (own s c n) want)) (sym (own_same w n))
      (usable_iff (own s c n) (Lacks want) (own_root n))
  name_iff n want _ = iff_same ⊥

  vacant_iff : (target : Target) (r : Reply) → RootMay s target → Iff (VacantMay t c target r) (VacantMay s c target r)
  vacant_iff target Reply.NoSlot good = iff_along _ _ (ap IsTrue (no_slot_same target good))
  vacant_iff target Reply.Occupied good = held_iff target good
  vacant_iff target (Reply.Quiescing e) good = some_iff _ _ _ _ (may_reach target good)
      (λ at is. let slot = is_slot target at good is in wait_iff (PlaceOf at.node at.index) e (slot.node, slot.index))
  vacant_iff target (Reply.Unflushed e) good = some_iff _ _ _ _ (may_reach target good)
      (λ at is. let slot = is_slot target at good is in unflushed_iff (PlaceOf at.node at.index) e (slot.node, slot.index))
  vacant_iff target _ good = iff_same ⊥

  held_may_iff : (target : Target) (r : Reply) → RootMay s target → Iff (HeldMay t c target r) (HeldMay s c target r)
  held_may_iff target Reply.NoSlot good = iff_along _ _ (ap IsTrue (no_slot_same target good))
  held_may_iff target Reply.Empty good = none_iff target good
  held_may_iff target _ good = iff_same ⊥

  mapped_iff : (table v : ℕ) (r : Reply) → IsTrue (is_node (s.frame table)) → Iff (MappedMay t c table v r) (MappedMay s c table v r)
  mapped_iff table v Reply.NoSlot node = iff_same _
  mapped_iff table v Reply.Fault node = record {
    there = λ h. (h.0, (parts h.0).there h.1);
    back = λ h. (h.0, (parts h.0).back h.1);
  }
    where
      parts : IsTrue (nat_le v 4095)
          → Iff (IsFalse (holds_link (place_at t (root_slot table v))) ⊎ ReachesNone t c (Under (root_at table) v))
          (IsFalse (holds_link (place_at s (root_slot table v))) ⊎ ReachesNone s c (Under (root_at table) v))
      parts few = either_iff _ _ _ _
          (iff_along _ _ (ap (λ p. IsFalse (holds_link p)) (place_same w (root_slot table v)
          (root_is s o (root_at table) v w.sound (λ on. node) few))))
          (none_iff (Under (root_at table) v) (λ on. node))
  mapped_iff table v _ node = iff_same ⊥

  -- ---- causes

  -- Two causes are one: one condition with one reply, or one thing of the machine.
  abbrev pub SameMayCause : Cause → Cause → Type 0
  SameMayCause (When b r) (When d q) = (b ≡ d) × (b ≡ true → r ≡ q)
  SameMayCause (WaitedFor x) (WaitedFor y) = (x ≡ y) × IsThing s.limits y
  SameMayCause (Unflushed x) (Unflushed y) = (x ≡ y) × IsThing s.limits y
  SameMayCause _ _ = ⊥

  abbrev pub SameMayCauses : List Cause → List Cause → Type 0
  SameMayCauses [] [] = Unit {0}
  SameMayCauses (x ∷ xs) (y ∷ ys) = SameMayCause x y × SameMayCauses xs ys
  SameMayCauses _ _ = ⊥

  waited_iff : (x : Thing) (r : Reply) → IsThing s.limits x → Iff (WaitedMay t c x r) (WaitedMay s c x r)
  waited_iff x (Reply.Quiescing e) is = wait_iff x e is
  waited_iff x _ is = iff_same ⊥

  flushed_iff : (x : Thing) (r : Reply) → IsThing s.limits x → Iff (UnflushedMay t x r) (UnflushedMay s x r)
  flushed_iff x (Reply.Unflushed e) is = unflushed_iff x e is
  flushed_iff x _ is = iff_same ⊥

  when_iff : (b d : Bool) (p q r : Reply) → b ≡ d → (b ≡ true → p ≡ q) → Iff (IsTrue b × (r ≡ p)) (IsTrue d × (r ≡ q))
  when_iff true true p q r e same = record { there = λ h. (refl, h.1 ∙ same refl); back = λ h. (refl, h.1 ∙ sym (same refl)) }
  when_iff false false p q r e same = record { there = λ h. absurd (false≢true h.0); back = λ h. absurd (false≢true h.0) }
  when_iff true false p q r e same = absurd (true≢false e)
  when_iff false true p q r e same = absurd (false≢true e)

  cause_iff : (x y : Cause) (r : Reply) → SameMayCause x y → Iff (CauseMay t c x r) (CauseMay s c y r)
  cause_iff (When b p) (When d q) r h = when_iff b d p q r h.0 h.1
  cause_iff (WaitedFor x) (WaitedFor y) r h =
      subst (λ z. Iff (WaitedMay t c z r) (WaitedMay s c y r)) (sym h.0) (waited_iff y r h.1)
  cause_iff (Unflushed x) (Unflushed y) r h =
      subst (λ z. Iff (UnflushedMay t z r) (UnflushedMay s y r)) (sym h.0) (flushed_iff y r h.1)
  cause_iff (When b p) (WaitedFor y) r h = absurd h
  cause_iff (When b p) (Unflushed y) r h = absurd h
  cause_iff (WaitedFor x) (When b p) r h = absurd h
  cause_iff (WaitedFor x) (Unflushed y) r h = absurd h
  cause_iff (Unflushed x) (When b p) r h = absurd h
  cause_iff (Unflushed x) (WaitedFor y) r h = absurd h

  causes_iff : (xs ys : List Cause) (r : Reply) → SameMayCauses xs ys → Iff (OneMay t c xs r) (OneMay s c ys r)
  causes_iff [] [] r h = iff_same ⊥
  causes_iff (x ∷ xs) (y ∷ ys) r h = either_iff _ _ _ _ (cause_iff x y r h.0) (causes_iff xs ys r h.1)
  causes_iff [] (y ∷ ys) r h = absurd h
  causes_iff (x ∷ xs) [] r h = absurd h

  -- ---- rules

  -- Two rules are one in step: what they name, where they look, and their causes.
  abbrev pub SameMayRule : Rule → Rule → Type 0
  SameMayRule (Name n p rest) (Name m q other) = (n ≡ m) × (p ≡ q)
      × SameMayRule (rest (name_of (named s c m q))) (other (name_of (named s c m q)))
  SameMayRule (Vacant x rest) (Vacant y other) = (x ≡ y) × RootMay s y
      × SameMayRule (rest (slot_of (reached s c y))) (other (slot_of (reached s c y)))
  SameMayRule (Held x rest) (Held y other) = (x ≡ y) × RootMay s y × ((at : Slot) (k : Capability) → SameMayRule (rest at k) (other at k))
  SameMayRule (Mapped a v rest) (Mapped b u other) =
      (a ≡ b) × (v ≡ u) × IsTrue (is_node (s.frame b)) × ((k : Capability) → SameMayRule (rest k) (other k))
  SameMayRule (Does xs p a) (Does ys q b) = SameMayCauses xs ys
  SameMayRule _ _ = ⊥

  held_found : (target : Target) → RootMay s target → held t c target ≡ held s c target
  held_found target good = elim (good_or_none s target good) [
    | inl root ↦ held_same w target root
    | inr none ↦ ap (λ r. and_then (or_refuse r Reply.NoSlot) λ at.
        and_then (or_refuse (held_in (place_at t at)) Reply.Empty) λ k. Found (at, k)) (none t c)
        ∙ sym (ap (λ r. and_then (or_refuse r Reply.NoSlot) λ at.
        and_then (or_refuse (held_in (place_at s at)) Reply.Empty) λ k. Found (at, k)) (none s c))
  ]

  pub rule_iff : (x y : Rule) (r : Reply) → SameMayRule x y → Iff (RuleMay t c x r) (RuleMay s c y r)
  rule_iff (Name n p rest) (Name m q other) r h =
      let same : named t c n p ≡ named s c m q = (λ i. named t c (h.0 i) (h.1 i)) ∙ named_same w m q in
      either_iff _ _ _ _
      (subst (λ n. Iff (NameMay t c n p r) (NameMay s c m q r)) (sym h.0)
      (subst (λ p. Iff (NameMay t c m p r) (NameMay s c m q r)) (sym h.1) (name_iff m q r)))
      (subst (λ j. Iff (RuleMay t c (rest (name_of j)) r) (RuleMay s c (other (name_of (named s c m q))) r)) (sym same)
      (rule_iff (rest (name_of (named s c m q))) (other (name_of (named s c m q))) r h.2))
  rule_iff (Vacant x rest) (Vacant y other) r h =
      let same : reached t c x ≡ reached s c y = ap (reached t c) h.0 ∙ may_reach y h.1 in
      either_iff _ _ _ _
      (subst (λ z. Iff (VacantMay t c z r) (VacantMay s c y r)) (sym h.0) (vacant_iff y r h.1))
      (subst (λ at. Iff (RuleMay t c (rest (slot_of at)) r) (RuleMay s c (other (slot_of (reached s c y))) r)) (sym same)
      (rule_iff (rest (slot_of (reached s c y))) (other (slot_of (reached s c y))) r h.2))
  rule_iff (Held x rest) (Held y other) r h =
      either_iff _ _ _ _
      (subst (λ z. Iff (HeldMay t c z r) (HeldMay s c y r)) (sym h.0) (held_may_iff y r h.1))
      (found_iff _ _ _ _ (ap (held t c) h.0 ∙ held_found y h.1) (λ p is. rule_iff (rest p.0 p.1) (other p.0 p.1) r (h.2 p.0 p.1)))
  rule_iff (Mapped a v rest) (Mapped b u other) r h =
      either_iff _ _ _ _
      (subst (λ z. Iff (MappedMay t c z v r) (MappedMay s c b u r)) (sym h.0)
      (subst (λ z. Iff (MappedMay t c b z r) (MappedMay s c b u r)) (sym h.1) (mapped_iff b u r h.2)))
      (found_iff _ _ _ _ ((λ i. mapped t c (h.0 i) (h.1 i)) ∙ mapped_same w b u h.2) (λ k is. rule_iff (rest k) (other k) r (h.3 k)))
  rule_iff (Does xs p a) (Does ys q b) r h = causes_iff xs ys r h
  rule_iff (Name n p rest) (Vacant y other) r h = absurd h
  rule_iff (Name n p rest) (Held y other) r h = absurd h
  rule_iff (Name n p rest) (Mapped b u other) r h = absurd h
  rule_iff (Name n p rest) (Does ys z b) r h = absurd h
  rule_iff (Vacant x rest) (Name m q other) r h = absurd h
  rule_iff (Vacant x rest) (Held y other) r h = absurd h
  rule_iff (Vacant x rest) (Mapped b u other) r h = absurd h
  rule_iff (Vacant x rest) (Does ys z b) r h = absurd h
  rule_iff (Held x rest) (Name m q other) r h = absurd h
  rule_iff (Held x rest) (Vacant y other) r h = absurd h
  rule_iff (Held x rest) (Mapped b u other) r h = absurd h
  rule_iff (Held x rest) (Does ys z b) r h = absurd h
  rule_iff (Mapped a v rest) (Name m q other) r h = absurd h
  rule_iff (Mapped a v rest) (Vacant y other) r h = absurd h
  rule_iff (Mapped a v rest) (Held y other) r h = absurd h
  rule_iff (Mapped a v rest) (Does ys z b) r h = absurd h
  rule_iff (Does xs z a) (Name m q other) r h = absurd h
  rule_iff (Does xs z a) (Vacant y other) r h = absurd h
  rule_iff (Does xs z a) (Held y other) r h = absurd h
  rule_iff (Does xs z a) (Mapped b u other) r h = absurd h
