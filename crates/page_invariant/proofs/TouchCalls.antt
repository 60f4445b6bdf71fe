-- What the rule of a touch answers, and what it may refuse.
use Rattle.count_invariant.specs.kernel_laws.proofs.{◌≡◌, ◌⊎◌, inl, inr, ℕ, ◌≤◌, ◌<◌, ◌/◌, ltb as nat_lt, leb as nat_le, true, false, []}
use Rattle.count_invariant.specs.kernel_laws.proofs.{◌∷◌, Option, Some, None, refl, sym, ◌∙◌, ap, subst, if◌then◌else◌, IsSomeAnd, is_some}
use Rattle.count_invariant.specs.kernel_laws.proofs.{Capability, Translation, Reply, Holds, State, Slot, root_at, Under, place_at, held_in}
use Rattle.count_invariant.specs.kernel_laws.proofs.{reached, holds_link, root_slot, Refused, Found, Does, and_then, unless, or_refuse}
use Rattle.count_invariant.specs.kernel_laws.proofs.{first_of, outcome, RuleMay, IsFalse, mapped, does, touch_by, Cache as cache_edit}
use Rattle.count_invariant.specs.boot_words.specs.kernel_rules.specs.MemoryCalls.{translated}

-- The translation that a mapping of a page tells.
abbrev pub told_by : ℕ → ℕ → Capability → Translation
told_by pages v k = record { pages = pages; page = v; frame = k.frame; flags = record { 0 = k.arg } }

module _ (s : State) (c pages v : ℕ) where
  -- A page past its range has no slot.
  pub past_may : (o : Option Translation) → nat_lt 4095 v ≡ true → RuleMay s c (touch_by pages v o) Reply.NoSlot
  past_may None past = inl past
  past_may (Some x) past = inl (past, refl)

  mapped_past : nat_lt 4095 v ≡ true → mapped s c pages v ≡ Refused Reply.NoSlot
  mapped_past past = ap (λ b. and_then (unless (if b then Some Reply.NoSlot else None) v) λ v.
      and_then (or_refuse (reached s c (Under (root_at pages) v)) Reply.Fault) λ at. or_refuse (held_in (place_at s at)) Reply.Fault) past

  -- What refuses the page refuses the touch, unless the translation is cached.
  pub refused_first : (r : Reply) → mapped s c pages v ≡ Refused r → outcome s c (touch_by pages v None) ≡ Refused r
  refused_first r is = ap (λ x. and_then x λ k. outcome s c (Does [] (translated (told_by pages v k))
      (cache_edit (told_by pages v k) ∷ []))) is

  pub past_first : (o : Option Translation) → nat_lt 4095 v ≡ true → outcome s c (touch_by pages v o) ≡ Refused Reply.NoSlot
  past_first None past = refused_first Reply.NoSlot (mapped_past past)
  past_first (Some x) past =
      ap (λ b. unless (first_of (if b then Some Reply.NoSlot else None) None) (does c s (translated x) [])) past

  -- A cached translation is answered.
  pub cached_first : (x : Translation) → nat_lt 4095 v ≡ false
      → outcome s c (touch_by pages v (Some x)) ≡ Found (does c s (translated x) [])
  cached_first x within =
      ap (λ b. unless (first_of (if b then Some Reply.NoSlot else None) None) (does c s (translated x) [])) within

  within_range : nat_lt 4095 v ≡ false
      → mapped s c pages v
      ≡ and_then (or_refuse (reached s c (Under (root_at pages) v)) Reply.Fault) (λ at. or_refuse (held_in (place_at s at)) Reply.Fault)
  within_range within = ap (λ b. and_then (unless (if b then Some Reply.NoSlot else None) v) λ v.
      and_then (or_refuse (reached s c (Under (root_at pages) v)) Reply.Fault) λ at. or_refuse (held_in (place_at s at)) Reply.Fault) within

  -- A page that is not reached is a fault, and so is one at which nothing is held.
  pub unreached_first : nat_lt 4095 v ≡ false → reached s c (Under (root_at pages) v) ≡ None
      → outcome s c (touch_by pages v None) ≡ Refused Reply.Fault
  unreached_first within none = refused_first Reply.Fault (within_range within
      ∙ ap (λ o. and_then (or_refuse o Reply.Fault) λ at. or_refuse (held_in (place_at s at)) Reply.Fault) none)

  reached_page : (at : Slot) → nat_lt 4095 v ≡ false → reached s c (Under (root_at pages) v) ≡ Some at
      → mapped s c pages v ≡ or_refuse (held_in (place_at s at)) Reply.Fault
  reached_page at within is = within_range within
      ∙ ap (λ o. and_then (or_refuse o Reply.Fault) λ at. or_refuse (held_in (place_at s at)) Reply.Fault) is

  pub empty_first : (at : Slot) → nat_lt 4095 v ≡ false → reached s c (Under (root_at pages) v) ≡ Some at
      → held_in (place_at s at) ≡ None → outcome s c (touch_by pages v None) ≡ Refused Reply.Fault
  empty_first at within is none =
      refused_first Reply.Fault (reached_page at within is ∙ ap (λ o. or_refuse o Reply.Fault) none)

  -- A mapping is found, and its translation cached.
  pub mapped_is : (at : Slot) (k : Capability) → nat_lt 4095 v ≡ false → reached s c (Under (root_at pages) v) ≡ Some at
      → place_at s at ≡ Holds k → mapped s c pages v ≡ Found k
  mapped_is at k within is holds = reached_page at within is ∙ ap (λ p. or_refuse (held_in p) Reply.Fault) holds

  pub mapped_first : (k : Capability) → mapped s c pages v ≡ Found k
      → outcome s c (touch_by pages v None) ≡ Found (does c s (translated (told_by pages v k)) (cache_edit (told_by pages v k) ∷ []))
  mapped_first k is = ap (λ x. and_then x λ j. outcome s c (Does [] (translated (told_by pages v j))
      (cache_edit (told_by pages v j) ∷ []))) is

  -- A fault may be answered where the root entry holds no link, and where the page's place is reached and holds nothing.
  pub unlinked_may : nat_le v 4095 ≡ true → holds_link (place_at s (root_slot pages v)) ≡ false
      → RuleMay s c (touch_by pages v None) Reply.Fault
  unlinked_may within none = inl (within, inl none)

  pub empty_may : (at : Slot) → nat_le v 4095 ≡ true → reached s c (Under (root_at pages) v) ≡ Some at → held_in (place_at s at) ≡ None
      → RuleMay s c (touch_by pages v None) Reply.Fault
  empty_may at within is none = inl (
    within,
    inr (subst (λ o. IsSomeAnd o λ at. IsFalse (is_some (held_in (place_at s at)))) (sym is)
        (ap is_some none)),
  )
