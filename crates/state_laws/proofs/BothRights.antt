-- Where each copy keeps both rights, every capability has both, and no name lacks a right.
use Rattle.kernel_laws.proofs.{Nothing, Fill, Target, ◌≡◌, ℕ, Bool, true, false, List, [], ◌∷◌, Option, Some, None, IsTrue, IsFalse, IsSomeAnd, inl, inr, refl}
use Rattle.kernel_laws.proofs.{sym, ap, ◌∙◌, subst, ◌==◌, ltb as nat_lt, ◌+◌, if◌then◌else◌, false≢true, Capability, cap_of, both}
use Rattle.kernel_laws.proofs.{has_rights, kept, part_of, Setting, FrameKind, Call, Copy, Retype}
use Rattle.kernel_laws.proofs.{Make as make_call, Map, Unmap, Touch, Gate, Tick, Part}
use Rattle.kernel_laws.proofs.{Reply, Place, Free, Holds, Quiescing, PlaceOf, State, put, with_place}
use Rattle.kernel_laws.proofs.{comp_of, plain_cap, start_cap, place_with, start, Slot, Want, Under, InRoot, found, place_at}
use Rattle.kernel_laws.proofs.{usable_in, usable, reached, own, any, only, to_copy, Change, Judged, Refused, Found, named, held, make_rule}
use Rattle.kernel_laws.proofs.{translation_of, rule_of, change_of, changed, owed_by, state_by, Event}
use Rattle.kernel_laws.proofs.{Enters, Decides, Returns, after, IfFound, put_all, ChangesFrom, outcome_from, suits, name_parts, Kind}
use Rattle.kernel_laws.specs.kernel_rules.specs.Rows.{Asked, OneIs, names_at, led}
use Rattle.kernel_laws.specs.kernel_rules.proofs.Rows.{Looks, by_cached}
use Rattle.kernel_laws.specs.kernel_invariant.proofs.Facts.{LedBy, HoldsAt, from_left}
use Rattle.kernel_laws.proofs.{does, Value, Edit, ◌&&◌}
use Rattle.{std.proofs.lemmas.Bool.and_parts, kernel_laws.specs.Causes.names_of}
use Rattle.state_laws.specs.Rights.{KeepsBoth, KeepBoth, BothStay, NoRightLacks}
use Rattle.{kernel_laws.specs.used_at, kernel_laws.specs.leads, kernel_laws.specs.kernel_rules.specs.Make}
use Rattle.{kernel_laws.specs.kernel_rules.specs.to_part, kernel_laws.specs.spk_nums.proofs.KeptRights.both_kept}
use Rattle.{kernel_laws.specs.kernel_rules.specs.Edits.Remove, kernel_laws.specs.kernel_invariant.proofs.Facts.held_facts, kernel_laws.proofs.Causes.causes_stand}

-- What a place holds or held has both rights; and so in each place.
abbrev HasBoth : Place → Type 0
HasBoth Free = Unit {0}
HasBoth (Holds k) = k.rights ≡ both
HasBoth (Quiescing k) = k.rights ≡ both

abbrev AllBoth : State → Type 0
AllBoth s = (f i : ℕ) → HasBoth (s.place f i)

placed : (q : ℕ → ℕ → Place) (n i : ℕ) (p : Place) → HasBoth p → ((f j : ℕ) → HasBoth (q f j))
    → (f j : ℕ) → HasBoth (put q n (put (q n) i p) f j)
placed q n i p has h f j =
    put_all (λ g (row : ℕ → Place). HasBoth (row j)) q n (put (q n) i p) f
    (λ same. put_all (λ g x. HasBoth x) (q n) i p j (λ here. has) (λ other. h n j)) (λ other. h f j)

use_both : (p : Place) (b : Bool) (k : Capability) → HasBoth p → usable_in p b ≡ Some k → k.rights ≡ both
use_both Free b k has is = absurd (cc)
use_both (Holds j) b k has is = let same : j ≡ k = cc in ap (λ (x : Capability). x.rights) (sym same) ∙ has
use_both (Quiescing j) true k has is = let same : j ≡ k = cc in ap (λ (x : Capability). x.rights) (sym same) ∙ has
use_both (Quiescing j) false k has is = absurd (cc)

usable_both : (s : State) (c : ℕ) (at : Slot) (k : Capability) → AllBoth s → usable s c at ≡ Some k → k.rights ≡ both
usable_both s c at k h is =
    use_both (place_at s at) ((s.grace (PlaceOf at.node at.index)).waits c) k (h at.node at.index) is

-- Every call that is carried out, whose copy keeps both.
abbrev Keeps : Change → Type 0
Keeps change = AllBoth change.next

module _ (s : State) (c : ℕ) (h : AllBoth s) where
  named_both : (n : ℕ) (want : Want) (k : Capability) → named s c n want ≡ Found k → k.rights ≡ both
  named_both n want k e =
      let p = name_parts s c n want k e in
      ap (λ (x : Capability). x.rights) (sym (suits want p.2 k p.4).is) ∙ usable_both s c p.0 p.2 h p.3

  cleared_both : (f : ℕ) (g i : ℕ) → HasBoth (put s.place f (λ j. Free) g i)
  cleared_both f g i = put_all (λ g (row : ℕ → Place). HasBoth (row i)) s.place f (λ j. Free) g (λ same. tt) (λ other. h g i)

  -- What is carried out, by its value and its edits.
  abbrev KeepsBy : Value → List Edit → Type 0
  KeepsBy v es = Keeps (does c s v es)

  removed : (target : Target) (at : Slot) (k : Capability) → held s c target ≡ Found (at, k) → KeepsBy Nothing (Remove at k ∷ [])
  removed target at k is =
      placed s.place at.node at.index (Quiescing k) (subst HasBoth (held_facts s c target at k is).1 (h at.node at.index)) h

  made_node : (f : ℕ) (at : Slot) (k : Kind) (g i : ℕ)
      → HasBoth (put (put s.place f (λ j. Free)) at.node (put (put s.place f (λ j. Free) at.node) at.index (Holds (plain_cap k f))) g i)
  made_node f at k = placed (put s.place f (λ j. Free)) at.node at.index (Holds (plain_cap k f)) refl (cleared_both f)

  make_both : (what : Make) (r f t b : ℕ) (g : Looks) → HoldsAt KeepsBy (make_rule s what r f t b) g
  make_both (Make.Thread comp) r f t b g =
      placed s.place (g.slots 0).node (g.slots 0).index (Holds (plain_cap Kind.Thread f)) refl h
  make_both (Make.Tcap sched quality) r f t b g =
      placed s.place (g.slots 0).node (g.slots 0).index (Holds (plain_cap Kind.Tcap f)) refl h
  make_both (Make.Comp x p l) r f t b g =
      placed s.place (g.slots 0).node (g.slots 0).index (Holds (plain_cap Kind.Comp f)) refl h
  make_both Make.Table r f t b g = made_node f (g.slots 0) Kind.Table
  make_both Make.Leaf r f t b g = made_node f (g.slots 0) Kind.Leaf
  make_both Make.Pages r f t b g = made_node f (g.slots 0) Kind.Pages
  make_both Make.Pleaf r f t b g = made_node f (g.slots 0) Kind.Pleaf

  filled : (at : Slot) (k : Capability) → k.rights ≡ both → KeepsBy Nothing (Fill at k ∷ [])
  filled at k has = placed s.place at.node at.index (Holds k) has h

  row_both : (call : Call) → KeepsBoth call → (g : Looks) → LedBy s c (rule_of s c call) g → HoldsAt KeepsBy (rule_of s c call) g
  row_both (Copy a t b rights) keep g led = filled (g.slots 0) (kept (g.caps 0) rights.0)
      (both_kept (g.caps 0).kind (g.caps 0).rights rights.0 (named_both a (to_copy any) (g.caps 0) led.0) keep)
  row_both (Retype r f FrameKind.Untyped) keep g led = h
  row_both (make_call what r f t b) keep g led = make_both what r f t b g
  row_both (Touch v) keep g led = by_cached (λ rule. HoldsAt KeepsBy rule g) (comp_of s c).pages v h (λ t. h)
      (translation_of (s.core c).cached (comp_of s c).pages v)
  row_both _ keep g led = search (filled, removed, named_both)

  rule_both : (call : Call) → KeepsBoth call → ChangesFrom Keeps s c (rule_of s c call)
  rule_both call keep = from_left KeepsBy s c (rule_of s c call) (row_both call keep)

  change_both : (x : Judged Change) → IfFound x Keeps → AllBoth (changed s x)
  change_both (Refused r) by = h
  change_both (Found change) by = by

  owed_both : (call : Call) → AllBoth (owed_by s c call)
  owed_both (Tick n) = h
  owed_both _ = h

  decided_both : (call : Call) (r : Reply) → KeepsBoth call → AllBoth (state_by s c call r)
  decided_both call (Reply.Ok v) keep =
      change_both (change_of s c call) (outcome_from Keeps s c (rule_of s c call) (rule_both call keep))
  decided_both call Reply.CallsSpent keep = h
  decided_both call Reply.Raced keep = owed_both call
  decided_both call (Reply.Busy e) keep = owed_both call
  decided_both call _ keep = h

-- The capabilities of the start have both.
choose : {A : Type 0} (P : A → Type 0) (b : Bool) (x y : A) → P x → P y → P (if b then x else y)
choose P true x y hx hy = hx
choose P false x y hx hy = hy

abbrev Both : Option Capability → Type 0
Both None = Unit {0}
Both (Some k) = k.rights ≡ both

start_both : (setting : Setting) → AllBoth (start setting)
start_both setting f i =
    choose HasBoth (f == 0) _ _ (choose HasBoth (i == 0) _ _ refl tt)
    (choose HasBoth (f == 1) _ _
    (caps (choose Both (i == 0) _ _ refl
    (choose Both (i == 1) _ _ refl
    (choose Both (i == 2) _ _ refl
    (choose Both (i == 3) _ _ refl
    (choose Both (nat_lt i 4) _ _ tt
    (choose Both (nat_lt i (4 + setting.cores)) _ _ refl
    (choose Both (nat_lt i 12) _ _ tt
    (choose Both (nat_lt i (12 + setting.cores)) _ _ refl tt))))))))) tt)
  where
    with_both : (o : Option Capability) → Both o → HasBoth (place_with o)
    with_both None h = tt
    with_both (Some k) h = h

    caps : Both (start_cap setting i) → HasBoth (place_with (start_cap setting i))
    caps h = with_both (start_cap setting i) h

after_both : (setting : Setting) (events : List Event) → KeepBoth events → AllBoth (after setting events)
after_both setting [] keep = start_both setting
after_both setting (Enters c call ∷ events) keep = after_both setting events keep
after_both setting (Decides c call r ∷ events) keep = decided_both (after setting events) c (after_both setting events keep.1) call r keep.0
after_both setting (Returns c ∷ events) keep = after_both setting events keep

pub both_stay : BothStay
both_stay setting events keep = record {
  held = λ f i k is. subst HasBoth is (after_both setting events keep f i);
  used = λ c at k is. usable_both (after setting events) c at k (after_both setting events keep) is;
}

-- No name needs more than both.
abbrev are_met : List Asked → Bool
are_met [] = true
are_met (n ∷ names) = has_rights both n.want.needs && are_met names

met : (s : State) (c : ℕ) (call : Call) → IsTrue (are_met (names_of s c call))
met s c (make_call Make.Table r f t b) = refl
met s c (Touch v) = by_cached (λ rule. IsTrue (are_met (names_at rule (led s c rule)))) (comp_of s c).pages v refl (λ t. refl)
    (translation_of (s.core c).cached (comp_of s c).pages v)
met s c _ = refl

module _ (s : State) (c : ℕ) (h : AllBoth s) where
  leads_both : (o : Option Slot) (k : Capability) → used_at s c o ≡ Some k → k.rights ≡ both
  leads_both None k is = absurd (cc)
  leads_both (Some at) k is = usable_both s c at k h is

  lacks_none : (needs : ℕ) → has_rights both needs ≡ true → (o : Option Slot) (u : Option Capability) → used_at s c o ≡ u
      → (P : Capability → Type 0) → IsSomeAnd u (λ k. P k × IsFalse (has_rights k.rights needs)) → ⊥
  lacks_none needs met o None is P lacks = lacks
  lacks_none needs met o (Some k) is P lacks =
      false≢true (sym lacks.1 ∙ ap (λ r. has_rights r needs) (leads_both o k is) ∙ met)

  no_name : (names : List Asked) → IsTrue (are_met names)
      → OneIs (λ n. IsSomeAnd (leads s c n.number) λ k. IsTrue (n.want.kinds k.kind) × IsFalse (has_rights k.rights n.want.needs)) names → ⊥
  no_name [] met one = one
  no_name (n ∷ names) met (inl lacks) =
      lacks_none n.want.needs (and_parts (has_rights both n.want.needs) (are_met names) met).0 (reached s c (own s c n.number))
      (leads s c n.number) refl (λ k. IsTrue (n.want.kinds k.kind)) lacks
  no_name (n ∷ names) met (inr later) = no_name names (and_parts (has_rights both n.want.needs) (are_met names) met).1 later

pub no_right_lacks : NoRightLacks
no_right_lacks setting events keep c call may =
    no_name (after setting events) c (after_both setting events keep) (names_of (after setting events) c call)
    (met (after setting events) c call) (causes_stand (after setting events) c call Reply.NoRight may)
