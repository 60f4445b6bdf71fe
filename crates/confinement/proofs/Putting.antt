-- What a call puts is the same in two states that are one for all that the machine has, one of them reached.
use Rattle.call_judge.specs.same_changes.specs.kernel_laws.proofs as low
use low.{◌≡◌, ℕ, Bool, true, refl, ◌∙◌, ap, Option, Some, None, IsTrue, false≢true, Capability, Call, Copy}
use low.{Reply, State, Slot, Under, only, to_use, own, reached, Judged, Refused, Found, named, name_of, is_node, none_some, some_inj, Kind}
use Rattle.call_judge.specs.same_changes.proofs.{Twins, RootGood, reached_same, named_same}
use Rattle.origin_rules.specs.{Put, puts, puts_by}
use Rattle.call_judge.specs.same_changes.proofs.Reaching.{IsSlot, own_good, own_same, slot_good}
use Rattle.origin_rules.specs.declared.chains.Step.TheVariants.{Copied}
use Rattle.origin_rules.specs.Chains.{slot_named, slot_under, put_from}
use Rattle.{call_judge.specs.same_changes.proofs.TimeRules.named_table, origin_rules.specs.declared.chains.Step.Step}

-- ---- the parts of a put

record Parts (a b : Option Slot) (p : Put) : Type 0 where
  parent : a ≡ Some p.parent
  at : b ≡ Some p.at

put_parts : (what : Step) (a b : Option Slot) (p : Put) → put_from what a b ≡ Some p → Parts a b p
put_parts what (Some a) (Some b) p e =
    let is = some_inj _ p e in
    record { parent = ap (λ (q : Put). Some q.parent) is; at = ap (λ (q : Put). Some q.at) is }
put_parts what (Some a) None p e = absurd (none_some p e)
put_parts what None at p e = absurd (none_some p e)

module _ {t s : State} {o : ℕ → Bool} {c : ℕ} (w : Twins t s o c) where
  named_slot_same : (n : ℕ) → slot_named t c n ≡ slot_named s c n
  named_slot_same n = ap (reached t c) (own_same w n) ∙ reached_same w (own s c n) (own_good w n)

  table_good : (n b : ℕ) → RootGood s (Under (name_of (named s c n (to_use (only Kind.Table)))) b)
  table_good n b = by_named (named s c n (to_use (only Kind.Table))) refl
    where
      by_named : (j : Judged Capability) → named s c n (to_use (only Kind.Table)) ≡ j → (name_of j).found ≡ true
          → IsTrue (is_node (s.frame (name_of j).frame))
      by_named (Refused r) is found = absurd (false≢true found)
      by_named (Found k) is found = named_table w n k is

  under_same : (n b : ℕ) → slot_under t c n b ≡ slot_under s c n b
  under_same n b = ap (λ j. reached t c (Under (name_of j) b)) (named_same w n (to_use (only Kind.Table)))
      ∙ reached_same w (Under (name_of (named s c n (to_use (only Kind.Table)))) b) (table_good n b)

  from_same : (what : Step) (n x b : ℕ)
      → put_from what (slot_named t c n) (slot_under t c x b) ≡ put_from what (slot_named s c n) (slot_under s c x b)
  from_same what n x b = λ i. put_from what (named_slot_same n i) (under_same x b i)

  puts_same : (call : Call) → puts t c call ≡ puts s c call
  puts_same (Copy a x b rights) = from_same Copied a x b
  puts_same _ = search from_same

  pub puts_by_same : (call : Call) (r : Reply) → puts_by t c call r ≡ puts_by s c call r
  puts_by_same call (Reply.Ok v) = puts_same call
  puts_by_same call r = refl

  -- ---- both slots are the machine's

  pub record AreSlots (p : Put) : Type 0 where
    pub parent : IsSlot s p.parent
    pub at : IsSlot s p.at

  slots_of : (what : Step) (n x b : ℕ) (p : Put) → put_from what (slot_named s c n) (slot_under s c x b) ≡ Some p → AreSlots p
  slots_of what n x b p e =
      let parts = put_parts what (slot_named s c n) (slot_under s c x b) p e in
      record {
        parent = slot_good w (own s c n) p.parent (own_good w n) parts.parent;
        at = slot_good w (Under (name_of (named s c x (to_use (only Kind.Table)))) b) p.at (table_good x b) parts.at;
      }

  no_slots : (p : Put) → None ≡ Some p → AreSlots p
  no_slots p e = absurd (none_some p e)

  put_slots : (call : Call) (p : Put) → puts s c call ≡ Some p → AreSlots p
  put_slots (Copy a x b rights) p e = slots_of Copied a x b p e
  put_slots _ p e = search (slots_of, no_slots)

  pub puts_slots : (call : Call) (r : Reply) (p : Put) → puts_by s c call r ≡ Some p → AreSlots p
  puts_slots call (Reply.Ok v) p e = put_slots call p e
  puts_slots call r p e = absurd (none_some p e)
