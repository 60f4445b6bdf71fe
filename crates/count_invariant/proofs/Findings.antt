-- What a look-up that has arrived has found: the name of a call, or the place of its target.
use Rattle.step_ways.proofs.{Want, ◌≡◌, ℕ, ◌&&◌, ◌||◌, ◌++◌, ◌∷◌, [], Bool, true, false, not, leb as nat_le, if◌then◌else◌, Option, Some}
use Rattle.step_ways.proofs.{None, refl, sym, ◌∙◌, ap, subst, IsTrue, IsSome, IsSomeAnd, is_some, option_to_list, leb-false, lt-ltb}
use Rattle.step_ways.proofs.{Capability, Setting, EntryFits, Held, EntryAt, LoadOf, word_of, Holds, PlaceOf, State, comp_of, Slot, Named}
use Rattle.step_ways.proofs.{found, Target, Under, place_at, held_in, usable_in, usable, reached, own, Refused, Found, and_then, or_refuse}
use Rattle.step_ways.proofs.{named, Step, Trace, state_after, own_left, way_to, HasReached, HasFound, own_in, own_kept, root_slot, Word}
use Rattle.step_ways.proofs.{Free as Vacant, Quiescing as Removed, step_to, NobodyWaits, Reply}
use Rattle.plan_ways.specs.kernel_rules.specs.{◌%◌, has_no_slot, holds_link, linked, slot_in, has_rights, Lacks, ReachesLacking}
use Rattle.plan_ways.specs.kernel_rules.specs.{with_rights, IsFalse, of_kind, ReachesNone, ReachesHeld, ReachesOther}
use Rattle.std.proofs.lemmas.List.Elements.{All-nil, All-cons, All-append}
use Rattle.count_invariant.proofs.Lookups.{Arrives, use_removed}
use Rattle.{plan_ways.specs.kernel_history.specs.Ways.root_passed, plan_ways.specs.kernel_history.proofs.Steps.own_left-here}
use Rattle.{step_ways.specs.core_invariant.specs.Reaching.IsReached}

-- the target of an own name
pub own_is : (s : State) (c table n : ℕ) → table ≡ (comp_of s c).table → own_in table n ≡ own s c n
own_is s c table n is = ap (λ (x : ℕ). own_in x n) is

-- A number past its range has no slot.
pub past_slot : (s : State) (table : Named) (n : ℕ) → nat_le n 4095 ≡ false → IsTrue (has_no_slot s (Under table n))
past_slot s table n past =
    ap (λ b. b || (table.found && not (holds_link
    (place_at s (root_slot table.frame n))))) (lt-ltb 4095 n (leb-false n 4095 past))

-- A place that is reached holds nothing, or something, or a capability of another kind.
some_and : {A : Type 0} (P : A → Type 0) (o : Option A) (x : A) → o ≡ Some x → P x → IsSomeAnd o P
some_and P o x is h = subst (λ q. IsSomeAnd q P) (sym is) h

pub reaches_none : (s : State) (c : ℕ) (target : Target) (at : Slot) → reached s c target ≡ Some at → held_in (place_at s at) ≡ None
    → ReachesNone s c target
reaches_none s c target at is none =
    some_and (λ at. IsFalse (is_some (held_in (place_at s at)))) (reached s c target) at is (ap is_some none)

pub reaches_held : (s : State) (c : ℕ) (target : Target) (at : Slot) (k : Capability) → reached s c target ≡ Some at
    → place_at s at ≡ Holds k → ReachesHeld s c target
reaches_held s c target at k is holds =
    some_and (λ at. IsTrue (is_some (held_in (place_at s at)))) (reached s c target) at is (ap (λ p. is_some (held_in p)) holds)

pub use_held : (s : State) (c : ℕ) (at : Slot) (k : Capability) → place_at s at ≡ Holds k → usable s c at ≡ Some k
use_held s c at k holds = ap (λ p. usable_in p ((s.grace (PlaceOf at.node at.index)).waits c)) holds

pub reaches_other : (s : State) (c : ℕ) (target : Target) (at : Slot) (k : Capability) (wanted : Want)
    → reached s c target ≡ Some at → place_at s at ≡ Holds k
    → wanted.kinds k.kind ≡ false → ReachesOther s c target wanted
reaches_other s c target at k wanted is holds other =
    some_and (λ at. IsSomeAnd (usable s c at) λ k. IsFalse (wanted.kinds k.kind)) (reached s c target) at is
    (some_and (λ k. IsFalse (wanted.kinds k.kind)) (usable s c at) k (use_held s c at k holds) other)

pub reaches_lacking : (s : State) (c : ℕ) (target : Target) (at : Slot) (k : Capability) (wanted : Want)
    → reached s c target ≡ Some at → place_at s at ≡ Holds k
    → wanted.kinds k.kind ≡ true → has_rights k.rights wanted.needs ≡ false → ReachesLacking s c target wanted
reaches_lacking s c target at k wanted is holds kind lacks =
    some_and (λ at. IsSomeAnd (usable s c at) (Lacks wanted)) (reached s c target) at is
    (some_and (Lacks wanted) (usable s c at) k (use_held s c at k holds) (kind, lacks))

-- A name is found where its target reaches a slot at which a capability of the wanted kind, with the rights needed, may be used.
pub named_of : (s : State) (c n : ℕ) (wanted : Want) (at : Slot) (k : Capability) → reached s c (own s c n) ≡ Some at
    → usable s c at ≡ Some k
    → wanted.kinds k.kind ≡ true → has_rights k.rights wanted.needs ≡ true → named s c n wanted ≡ Found k
named_of s c n wanted at k r u w h =
    ap (λ x. and_then (or_refuse x Reply.NoSlot) λ at. and_then (or_refuse (usable s c at) Reply.Empty) λ k. of_kind wanted k) r
    ∙ ap (λ x. and_then (or_refuse x Reply.Empty) λ k. of_kind wanted k) u
    ∙ ap (λ b. if b then with_rights wanted.needs k else Refused Reply.WrongCap) w
    ∙ ap (λ b. if b then Found k else Refused Reply.NoRight) h

-- And refused where it reaches no slot, may use nothing there, or a capability of another kind, or one that lacks a right.
pub named_no_slot : (s : State) (c n : ℕ) (wanted : Want) → reached s c (own s c n) ≡ None
    → named s c n wanted ≡ Refused Reply.NoSlot
named_no_slot s c n wanted r =
    ap (λ x. and_then (or_refuse x Reply.NoSlot) λ at. and_then (or_refuse (usable s c at) Reply.Empty) λ k. of_kind wanted k) r

pub named_empty : (s : State) (c n : ℕ) (wanted : Want) (at : Slot) → reached s c (own s c n) ≡ Some at → usable s c at ≡ None
    → named s c n wanted ≡ Refused Reply.Empty
named_empty s c n wanted at r u =
    ap (λ x. and_then (or_refuse x Reply.NoSlot) λ at. and_then (or_refuse (usable s c at) Reply.Empty) λ k. of_kind wanted k) r
    ∙ ap (λ x. and_then (or_refuse x Reply.Empty) λ k. of_kind wanted k) u

pub named_wrong : (s : State) (c n : ℕ) (wanted : Want) (at : Slot) (k : Capability) → reached s c (own s c n) ≡ Some at
    → usable s c at ≡ Some k
    → wanted.kinds k.kind ≡ false → named s c n wanted ≡ Refused Reply.WrongCap
named_wrong s c n wanted at k r u w =
    ap (λ x. and_then (or_refuse x Reply.NoSlot) λ at. and_then (or_refuse (usable s c at) Reply.Empty) λ k. of_kind wanted k) r
    ∙ ap (λ x. and_then (or_refuse x Reply.Empty) λ k. of_kind wanted k) u
    ∙ ap (λ b. if b then with_rights wanted.needs k else Refused Reply.WrongCap) w

pub named_lacking : (s : State) (c n : ℕ) (wanted : Want) (at : Slot) (k : Capability) → reached s c (own s c n) ≡ Some at
    → usable s c at ≡ Some k
    → wanted.kinds k.kind ≡ true → has_rights k.rights wanted.needs ≡ false → named s c n wanted ≡ Refused Reply.NoRight
named_lacking s c n wanted at k r u w h =
    ap (λ x. and_then (or_refuse x Reply.NoSlot) λ at. and_then (or_refuse (usable s c at) Reply.Empty) λ k. of_kind wanted k) r
    ∙ ap (λ x. and_then (or_refuse x Reply.Empty) λ k. of_kind wanted k) u
    ∙ ap (λ b. if b then with_rights wanted.needs k else Refused Reply.WrongCap) w
    ∙ ap (λ b. if b then Found k else Refused Reply.NoRight) h

-- A number past its range reaches no slot.
pub past_unreached : (s : State) (c : ℕ) (table : Named) (n : ℕ) → nat_le n 4095 ≡ false → reached s c (Under table n) ≡ None
past_unreached s c table n past = by_found table.found
  where
    by_found : (b : Bool)
        → (if b && nat_le n 4095 then slot_in
        (linked (usable s c (root_slot table.frame n))) (n % 64) else
        None) ≡ None
    by_found true = ap (λ b. if b then slot_in
        (linked (usable s c (root_slot table.frame n))) (n % 64) else
        None) past
    by_found false = refl

-- Of a free place nothing may be used, nor of one that is removed where the core does not wait.
pub use_free : (s : State) (c : ℕ) (at : Slot) → place_at s at ≡ Vacant → usable s c at ≡ None
use_free s c at is = ap (λ p. usable_in p ((s.grace (PlaceOf at.node at.index)).waits c)) is

pub use_removed_at : (s : State) (c : ℕ) (at : Slot) (k : Capability) → place_at s at ≡ Removed k → NobodyWaits s → usable s c at ≡ None
use_removed_at s c at k is nobody =
    use_removed (place_at s at) k ((s.grace (PlaceOf at.node at.index)).waits c) is (nobody (PlaceOf at.node at.index) c)

pub found_named : (setup : Setting) (t : Trace) (c table n : ℕ) (wanted : Want) (k : Capability)
    → table ≡ (comp_of (state_after setup t) c).table
    → HasFound setup t c (own_in table n) wanted k → named (state_after setup t) c n wanted ≡ Found k
found_named setup t c table n wanted k is has =
    named_of (state_after setup t) c n wanted has.at k
    (ap (reached (state_after setup t) c) (sym (own_is (state_after setup t) c table n is)) ∙ has.way.reached) has.usable has.kind has.right

-- The places of a way that a call has gone.
pub way_gone : (setup : Setting) (t : Trace) (d : Trace) (c : ℕ) (target : Target) (at : Slot)
    → reached (state_after setup t) c target ≡ Some at
    → HasReached d c (root_passed target ++ at ∷ []) → HasReached d c (way_to (state_after setup t) c target)
way_gone setup t d c target at is had = subst (λ o. HasReached d c (root_passed target ++ option_to_list o)) (sym is) had

-- The call has gone the whole way with the step that arrives.
pub gone_with : (setup : Setting) (t : Trace) (c : ℕ) (target : Target) (at : Slot) (e : Step) → c ≡ e.core
    → EntryAt at.node at.index ≡ word_of e.move
    → ((w : Word) → IsSome (own_left t c w) → IsSome (own_left (e ∷ t) c w)) → Arrives setup t c target at
    → HasReached (e ∷ t) c (root_passed target ++ at ∷ [])
gone_with setup t c target at e own word stays arrives =
    All-append (λ (x : Slot). IsSome (own_left (e ∷ t) c (EntryAt x.node x.index))) (root_passed target) (at ∷ [])
    (λ k d h. stays _ (arrives.passed k d h))
    (All-cons (λ (x : Slot). IsSome (own_left (e ∷ t) c (EntryAt x.node x.index))) at []
    (ap is_some (own_left-here c e t own (EntryAt at.node at.index) word))
    (All-nil (λ (x : Slot). IsSome (own_left (e ∷ t) c (EntryAt x.node x.index)))))

-- The undecided load at which it arrives.
module _ (setup : Setting) (t : Trace) (c : ℕ) (target : Target) (at : Slot) (found : ℕ) (arrives : Arrives setup t c target at) where
  abbrev pub arriving : Step
  arriving = step_to c None (LoadOf (EntryAt at.node at.index)) found None None

  pub reached_now : IsReached setup (arriving ∷ t) c target at
  reached_now = record {
    relies = arrives.relies;
    reached = arrives.reached;
    stepped = gone_with setup t c target at arriving refl refl (own_kept t arriving c refl refl) arrives;
  }

  pub found_now : (wanted : Want) (k : Capability) → place_at (state_after setup t) at ≡ Holds k → wanted.kinds k.kind ≡ true
      → has_rights k.rights wanted.needs ≡ true → EntryFits (Held k)
      → HasFound setup (arriving ∷ t) c target wanted k
  found_now wanted k holds kind right fits = record {
    at = at;
    way = reached_now;
    usable = use_held (state_after setup t) c at k holds;
    kind = kind;
    right = right;
    fits = fits;
  }
