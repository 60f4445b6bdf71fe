-- What may be refused in one state may be refused in another in which core c finds the same.
use Rattle.world_laws.specs.kernel_rules.proofs as low
use low.{◌≡◌, inl, inr, ℕ, ◌/◌, ◌<◌, ◌≤◌, Bool, true, false, not, ◌&&◌, ◌||◌, refl, sym, ◌∙◌, ap, subst, arith, if◌then◌else◌}
use low.{ltb as nat_lt, leb as nat_le, IsFalse, IsSomeAnd, List, [], ◌∷◌, Option, Some, None, is_some, false≢true, leb-true, le-ltb}
use low.{ltb-false, Capability, Reply, Limits, Thing, PlaceOf, Want, Slot, Named, Target, Under, InRoot, root_at, place_at, held_in, usable}
use low.{reached, root_slot, holds_link, has_no_slot, own, MayWait, MayBeUnflushed, Cause, When, WaitedFor, Unflushed, Rule, Name, Vacant}
use low.{Held, Mapped, Does, Judged, Refused, Found, named, held, mapped, and_then, or_refuse, IsFoundAnd, Lacks, NameMay, VacantMay}
use low.{HeldMay, MappedMay, OneMay, name_of, RuleMay}
use Rattle.world_laws.specs.kernel_rules.specs.{capability, ReachesNone, ReachesHeld, ReachesOther, ReachesLacking, WaitedMay, UnflushedMay}
use Rattle.world_laws.specs.kernel_rules.specs.{CauseMay, slot_of}
use Rattle.same_changes.specs.kernel_laws.proofs.{State, none_some, or_found}
use Rattle.same_changes.specs.Region.{Region, IsIn}
use Rattle.same_changes.proofs.Reaching.{TwinsOn, IsSlotIn, then_same, place_agree, usable_agree, reached_agree, slot_within, own_in}
use Rattle.same_changes.proofs.Reaching.{own_agree, named_agree, mapped_agree}

-- The root of a target is in a region, where it was found.
abbrev pub RootIf : Region → Target → Type 0
RootIf w (Under table n) = table.found ≡ true → w.frame table.frame ≡ true
RootIf w (InRoot table i) = table.found ≡ true → w.frame table.frame ≡ true

-- What a name has led to, where it has led to anything.
abbrev pub Led : State → ℕ → ℕ → Want → Named → Type 0
Led s c n want k = k.found ≡ true → named s c n want ≡ Found (capability k)

-- Where the second of two causes may stand with a reply, the first may.
abbrev pub CauseAlike : Region → Reply → Cause → Cause → Type 0
CauseAlike w r (When b p) (When d q) = d ≡ true → r ≡ q → (b ≡ true) × (p ≡ q)
CauseAlike w r (WaitedFor x) (WaitedFor y) = (x ≡ y) × ((e : ℕ) → r ≡ Reply.Quiescing e → IsIn w y)
CauseAlike w r (Unflushed x) (Unflushed y) = (x ≡ y) × ((e : ℕ) → r ≡ Reply.Unflushed e → IsIn w y)
CauseAlike w r _ _ = ⊥

abbrev pub CausesAlike : Region → State → ℕ → Reply → List Cause → List Cause → Type 0
CausesAlike w s c r [] ys = OneMay s c ys r → ⊥
CausesAlike w s c r (x ∷ xs) [] = Unit {0}
CausesAlike w s c r (x ∷ xs) (y ∷ ys) = CauseAlike w r x y × CausesAlike w s c r xs ys

-- Where the second of two rules may be refused with a reply, the first may: in step, whether what they name is found or not.
abbrev pub RuleAlike : Region → State → ℕ → Reply → Rule → Rule → Type 0
RuleAlike w s c r (Name n p rest) (Name m q other) = (n ≡ m) × (p ≡ q)
    × ((k : Named) → Led s c m q k → RuleAlike w s c r (rest k) (other k))
RuleAlike w s c r (Vacant x rest) (Vacant y other) = (x ≡ y) × RootIf w y × ((at : Slot) → RuleAlike w s c r (rest at) (other at))
RuleAlike w s c r (Held x rest) (Held y other) = (x ≡ y) × RootIf w y
    × ((at : Slot) (k : Capability) → RuleAlike w s c r (rest at k) (other at k))
RuleAlike w s c r (Mapped a v rest) (Mapped b u other) = (a ≡ b) × (v ≡ u) × (w.frame b ≡ true)
    × ((k : Capability) → RuleAlike w s c r (rest k) (other k))
RuleAlike w s c r (Does xs v a) (Does ys u b) = CausesAlike w s c r xs ys
RuleAlike w s c r _ _ = ⊥

-- ---- what is found

some_and : {A : Type 0} {P Q : A → Type 0} (x y : Option A) → x ≡ y → ((a : A) → y ≡ Some a → Q a → P a) → IsSomeAnd y Q → IsSomeAnd x P
some_and {A} {P} {Q} x y e go h = subst (λ z. IsSomeAnd z P) (sym e) (by_some y refl h)
  where
    by_some : (z : Option A) → y ≡ z → IsSomeAnd z Q → IsSomeAnd z P
    by_some None is h = absurd h
    by_some (Some a) is h = go a is h

found_and : {A : Type 0} {P Q : A → Type 0} (x y : Judged A) → x ≡ y → ((a : A) → Q a → P a) → IsFoundAnd y Q → IsFoundAnd x P
found_and {A} {P} {Q} x y e go h = subst (λ z. IsFoundAnd z P) (sym e) (by_found y h)
  where
    by_found : (z : Judged A) → IsFoundAnd z Q → IsFoundAnd z P
    by_found (Refused r) h = absurd h
    by_found (Found a) h = go a h

module _ {w : Region} {t s : State} {o : ℕ → Bool} {c : ℕ} (l : TwinsOn w t s o c) where
  -- ---- targets, whether their roots were found or not

  root_index : (n : ℕ) → nat_lt 4095 n ≡ false → n / 64 < 64
  root_index n small = let most : n ≤ 4095 = ltb-false 4095 n small in omega (arith, most)

  reached_same : (x : Target) → RootIf w x → reached t c x ≡ reached s c x
  reached_same (Under table n) root = reached_agree l (Under table n) root
  reached_same (InRoot table i) root = refl

  slot_here : (x : Target) (at : Slot) → RootIf w x → reached s c x ≡ Some at → IsSlotIn w at
  slot_here (Under table n) at root is = slot_within l (Under table n) at root is
  slot_here (InRoot table i) at root is = by_found table.found refl
    where
      by_found : (b : Bool) → table.found ≡ b → IsSlotIn w at
      by_found true on = slot_within l (InRoot table i) at (root on) is
      by_found false on = absurd (none_some at (sym (ap (λ b. if b && nat_le i 63 then Some (record { node = table.frame; index = i })
          else None) on) ∙ is))

  held_same : (x : Target) → RootIf w x → held t c x ≡ held s c x
  held_same x root = then_same (or_refuse (reached t c x) Reply.NoSlot) (or_refuse (reached s c x) Reply.NoSlot) _ _
      (ap (λ r. or_refuse r Reply.NoSlot) (reached_same x root))
      (λ at is. ap (λ p. and_then (or_refuse (held_in p) Reply.Empty) λ k. Found (at, k))
      (place_agree l at (slot_here x at root (or_found (reached s c x) Reply.NoSlot at is))))

  no_slot : (x : Target) → RootIf w x → has_no_slot t x ≡ has_no_slot s x
  no_slot (Under table n) root = by_past (nat_lt 4095 n) refl
    where
      by_found : (b : Bool) → table.found ≡ b → nat_lt 4095 n ≡ false
          → (b && not (holds_link (place_at t (root_slot table.frame n)))) ≡ (b && not (holds_link (place_at s (root_slot table.frame n))))
      by_found true on small = ap (λ p. not (holds_link p)) (place_agree l (root_slot table.frame n)
          (record { node = root on; index = root_index n small }))
      by_found false on small = refl

      by_past : (b : Bool) → nat_lt 4095 n ≡ b
          → (b || (table.found && not (holds_link (place_at t (root_slot table.frame n))))) ≡
          (b || (table.found && not (holds_link (place_at s (root_slot table.frame n)))))
      by_past true past = refl
      by_past false small = by_found table.found refl small
  no_slot (InRoot table i) root = refl

  here : (x : Target) (at : Slot) → RootIf w x → reached s c x ≡ Some at → IsIn w (PlaceOf at.node at.index)
  here x at root is = let slot = slot_here x at root is in (slot.node, slot.index)

  none_may : (x : Target) → RootIf w x → ReachesNone s c x → ReachesNone t c x
  none_may x root = some_and (reached t c x) (reached s c x) (reached_same x root)
      (λ at is none. ap (λ p. is_some (held_in p)) (place_agree l at (slot_here x at root is)) ∙ none)

  held_may : (x : Target) → RootIf w x → ReachesHeld s c x → ReachesHeld t c x
  held_may x root = some_and (reached t c x) (reached s c x) (reached_same x root)
      (λ at is held. ap (λ p. is_some (held_in p)) (place_agree l at (slot_here x at root is)) ∙ held)

  used_may : (x : Target) (P : Capability → Type 0) → RootIf w x
      → (IsSomeAnd (reached s c x) λ at. IsSomeAnd (usable s c at) P) → IsSomeAnd (reached t c x) λ at. IsSomeAnd (usable t c at) P
  used_may x P root = some_and (reached t c x) (reached s c x) (reached_same x root)
      (λ at is h. subst (λ u. IsSomeAnd u P) (sym (usable_agree l at (slot_here x at root is))) h)

  -- ---- grace periods

  wait_may : (x : Thing) (e : ℕ) → IsIn w x → MayWait s c x e → MayWait t c x e
  wait_may x e is h = record {
    is_core = subst (λ (m : Limits). e < m.cores) (sym l.agree.limits) h.is_core;
    other = h.other;
    is_inside = l.agree.inside e h.is_core ∙ h.is_inside;
    not_passed = (l.agree.grace x is).not_passed e h.is_core ∙ h.not_passed;
  }

  unflushed_may : (x : Thing) (e : ℕ) → IsIn w x → MayBeUnflushed s x e → MayBeUnflushed t x e
  unflushed_may x e is h = record {
    is_core = subst (λ (m : Limits). e < m.cores) (sym l.agree.limits) h.is_core;
    flush_unknown = (l.agree.grace x is).flush_unknown e h.is_core ∙ h.flush_unknown;
  }

  -- ---- names and targets that are refused

  name_may : (n : ℕ) (want : Want) (r : Reply) → NameMay s c n want r → NameMay t c n want r
  name_may n want Reply.NoSlot h = ap (has_no_slot t) (own_agree l n) ∙ no_slot (own s c n) (own_in l n) ∙ h
  name_may n want Reply.Empty h = subst (ReachesNone t c) (sym (own_agree l n)) (none_may (own s c n) (own_in l n) h)
  name_may n want Reply.WrongCap h = subst (λ x. ReachesOther t c x want) (sym (own_agree l n))
      (used_may (own s c n) (λ k. IsFalse (want.kinds k.kind)) (own_in l n) h)
  name_may n want Reply.NoRight h = subst (λ x. ReachesLacking t c x want) (sym (own_agree l n))
      (used_may (own s c n) (Lacks want) (own_in l n) h)
  name_may n want _ h = absurd h

  vacant_may : (x : Target) (r : Reply) → RootIf w x → VacantMay s c x r → VacantMay t c x r
  vacant_may x Reply.NoSlot root h = no_slot x root ∙ h
  vacant_may x Reply.Occupied root h = held_may x root h
  vacant_may x (Reply.Quiescing e) root h = some_and (reached t c x) (reached s c x) (reached_same x root)
      (λ at is m. wait_may (PlaceOf at.node at.index) e (here x at root is) m) h
  vacant_may x (Reply.Unflushed e) root h = some_and (reached t c x) (reached s c x) (reached_same x root)
      (λ at is m. unflushed_may (PlaceOf at.node at.index) e (here x at root is) m) h
  vacant_may x _ root h = absurd h

  unheld_may : (x : Target) (r : Reply) → RootIf w x → HeldMay s c x r → HeldMay t c x r
  unheld_may x Reply.NoSlot root h = no_slot x root ∙ h
  unheld_may x Reply.Empty root h = none_may x root h
  unheld_may x _ root h = absurd h

  unmapped_may : (table v : ℕ) (r : Reply) → w.frame table ≡ true → MappedMay s c table v r → MappedMay t c table v r
  unmapped_may table v Reply.NoSlot root h = h
  unmapped_may table v Reply.Fault root h = (
    h.0,
    elim h.1 [
      | inl none ↦ inl (ap holds_link (place_agree l (root_slot table v)
          (record { node = root; index = root_index v (le-ltb 4095 v (leb-true v 4095 h.0)) })) ∙ none)
      | inr none ↦ inr (none_may (Under (root_at table) v) (λ on. root) none)
    ],
  )
  unmapped_may table v _ root h = absurd h

  -- ---- causes

  waited_may : (r : Reply) (x : Thing) → ((e : ℕ) → r ≡ Reply.Quiescing e → IsIn w x) → WaitedMay s c x r → WaitedMay t c x r
  waited_may (Reply.Quiescing e) x is h = wait_may x e (is e refl) h
  waited_may _ x is h = absurd h

  flush_may : (r : Reply) (x : Thing) → ((e : ℕ) → r ≡ Reply.Unflushed e → IsIn w x) → UnflushedMay s x r → UnflushedMay t x r
  flush_may (Reply.Unflushed e) x is h = unflushed_may x e (is e refl) h
  flush_may _ x is h = absurd h

  cause_may : (r : Reply) (x y : Cause) → CauseAlike w r x y → CauseMay s c y r → CauseMay t c x r
  cause_may r (When b p) (When d q) h m = let a = h m.0 m.1 in (a.0, m.1 ∙ sym a.1)
  cause_may r (WaitedFor x) (WaitedFor y) h m = subst (λ z. WaitedMay t c z r) (sym h.0) (waited_may r y h.1 m)
  cause_may r (Unflushed x) (Unflushed y) h m = subst (λ z. UnflushedMay t z r) (sym h.0) (flush_may r y h.1 m)
  cause_may r (When b p) (WaitedFor y) h m = absurd h
  cause_may r (When b p) (Unflushed y) h m = absurd h
  cause_may r (WaitedFor x) (When d q) h m = absurd h
  cause_may r (WaitedFor x) (Unflushed y) h m = absurd h
  cause_may r (Unflushed x) (When d q) h m = absurd h
  cause_may r (Unflushed x) (WaitedFor y) h m = absurd h

  one_may : (r : Reply) (xs ys : List Cause) → CausesAlike w s c r xs ys → OneMay s c ys r → OneMay t c xs r
  one_may r [] ys h m = absurd (h m)
  one_may r (x ∷ xs) [] h m = absurd m
  one_may r (x ∷ xs) (y ∷ ys) h (inl m) = inl (cause_may r x y h.0 m)
  one_may r (x ∷ xs) (y ∷ ys) h (inr m) = inr (one_may r xs ys h.1 m)

  -- ---- rules

  led_is : (n : ℕ) (want : Want) → Led s c n want (name_of (named s c n want))
  led_is n want = by_judged (named s c n want) refl
    where
      by_judged : (j : Judged Capability) → named s c n want ≡ j → (name_of j).found ≡ true → named s c n want
          ≡ Found (capability (name_of j))
      by_judged (Refused r) is on = absurd (false≢true on)
      by_judged (Found k) is on = is

  pub may_alike : (r : Reply) (x y : Rule) → RuleAlike w s c r x y → RuleMay s c y r → RuleMay t c x r
  may_alike r (Name n p rest) (Name m q other) h (inl a) =
      inl (subst (λ i. NameMay t c i p r) (sym h.0) (subst (λ want. NameMay t c m want r) (sym h.1) (name_may m q r a)))
  may_alike r (Name n p rest) (Name m q other) h (inr a) =
      let same : named t c n p ≡ named s c m q = (λ i. named t c (h.0 i) (h.1 i)) ∙ named_agree l m q in
      inr (subst (λ j. RuleMay t c (rest (name_of j)) r) (sym same)
      (may_alike r (rest (name_of (named s c m q))) (other (name_of (named s c m q))) (h.2 (name_of (named s c m q)) (led_is m q)) a))
  may_alike r (Vacant x rest) (Vacant y other) h (inl a) = inl (subst (λ z. VacantMay t c z r) (sym h.0) (vacant_may y r h.1 a))
  may_alike r (Vacant x rest) (Vacant y other) h (inr a) =
      inr (subst (λ o. RuleMay t c (rest (slot_of o)) r) (sym (ap (reached t c) h.0 ∙ reached_same y h.1))
      (may_alike r (rest (slot_of (reached s c y))) (other (slot_of (reached s c y))) (h.2 (slot_of (reached s c y))) a))
  may_alike r (Held x rest) (Held y other) h (inl a) = inl (subst (λ z. HeldMay t c z r) (sym h.0) (unheld_may y r h.1 a))
  may_alike r (Held x rest) (Held y other) h (inr a) = inr (found_and (held t c x) (held s c y) (ap (held t c) h.0 ∙ held_same y h.1)
      (λ p m. may_alike r (rest p.0 p.1) (other p.0 p.1) (h.2 p.0 p.1) m) a)
  may_alike r (Mapped a v rest) (Mapped b u other) h (inl m) =
      inl (subst (λ i. MappedMay t c i v r) (sym h.0) (subst (λ i. MappedMay t c b i r) (sym h.1) (unmapped_may b u r h.2 m)))
  may_alike r (Mapped a v rest) (Mapped b u other) h (inr m) =
      inr (found_and (mapped t c a v) (mapped s c b u) ((λ i. mapped t c (h.0 i) (h.1 i)) ∙ mapped_agree l b u h.2)
      (λ k n. may_alike r (rest k) (other k) (h.3 k) n) m)
  may_alike r (Does xs v a) (Does ys u b) h m = one_may r xs ys h m
  may_alike r (Name n p rest) _ h m = absurd h
  may_alike r (Vacant x rest) _ h m = absurd h
  may_alike r (Held x rest) _ h m = absurd h
  may_alike r (Mapped a v rest) _ h m = absurd h
  may_alike r (Does xs v a) _ h m = absurd h
