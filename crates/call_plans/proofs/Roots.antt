-- After all names, the name at a place has led to the capability at that place.
use Rattle.kernel_invariant.specs.kernel_rules.proofs.{◌≡◌, ℕ, ◌+◌, ◌<◌, length, ltb as nat_lt, if◌then◌else◌, slice_get, arith, true, ◌==◌}
use Rattle.kernel_invariant.specs.kernel_rules.proofs.{Bool, List, [], ◌∷◌, ◌++◌, Option, Some, refl, sym, ◌∙◌, ap, subst, map, option_map}
use Rattle.kernel_invariant.specs.kernel_rules.proofs.{append_assoc, append-nil, lt-ltb, Capability, Kind, Named, found, Want, leaf_of}
use Rattle.call_plans.specs.{head, at_place, pushed, wants, want_of, earlier, with_found, names_after, Leads}
use Rattle.kernel_invariant.proofs.{some_inj, none_some, some_none}
use Rattle.call_plans.specs.{declared.plans.Nth.Nth, declared.plans.Nth.TheVariants.First, declared.plans.Nth.TheVariants.Second}
use Rattle.call_plans.specs.{declared.plans.Nth.TheVariants.Third, declared.plans.Nth.TheVariants.Fourth}
use Rattle.call_plans.specs.{declared.plans.Wanted.TheVariants.LeafOf, declared.plans.Name.Name, Plans.tail, Plans.index_of}
use Rattle.{kernel_invariant.specs.kernel_rules.proofs.leaf_for, kernel_invariant.specs.kernel_rules.specs.Access.kind_number}
use Rattle.{call_plans.specs.GoesBy.or_not_found}

-- what the names have led to, as one list
pub with_is : (caps : List Named) (ks : List Capability) → with_found caps ks ≡ caps ++ map found ks
with_is caps [] = sym (append-nil caps)
with_is caps (k ∷ ks) = with_is (caps ++ found k ∷ []) ks ∙ append_assoc caps (found k ∷ []) (map found ks)

head_map : (ks : List Capability) → head (map found ks) ≡ option_map found (head ks)
head_map [] = refl
head_map (k ∷ ks) = refl

tail_map : (ks : List Capability) → tail (map found ks) ≡ map found (tail ks)
tail_map [] = refl
tail_map (k ∷ ks) = refl

place_map : (ks : List Capability) (i : Nth) → at_place (map found ks) i ≡ option_map found (at_place ks i)
place_map ks First = head_map ks
place_map ks Second = ap head (tail_map ks) ∙ head_map (tail ks)
place_map ks Third = ap (λ l. head (tail l)) (tail_map ks) ∙ ap head (tail_map (tail ks)) ∙ head_map (tail (tail ks))
place_map ks Fourth =
    ap (λ l. head (tail (tail l))) (tail_map ks) ∙ ap (λ l. head (tail l)) (tail_map (tail ks)) ∙ ap head (tail_map (tail (tail ks)))
    ∙ head_map (tail (tail (tail ks)))

-- what an earlier name has led to
pub earlier_found : (ks : List Capability) (i : Nth) → earlier (with_found [] ks) i ≡ or_not_found (option_map found (at_place ks i))
earlier_found ks i = ap (λ l. or_not_found (at_place l i)) (with_is [] ks) ∙ ap or_not_found (place_map ks i)

pub earlier_is : (ks : List Capability) (i : Nth) (k : Capability) → at_place ks i ≡ Some k → earlier (with_found [] ks) i ≡ found k
earlier_is ks i k is = earlier_found ks i ∙ ap (λ o. or_not_found (option_map found o)) is

left_none : (name : Name) (names : List Name) → name ∷ names ≡ [] → ⊥
left_none name names e = some_none name (ap head e)

-- The names that lead, and those that are left, are as many as the names.
pub count_led : (P : ℕ → Want → Capability → Type 0) (names : List Name) (caps : List Named) (ks : List Capability)
    → Leads P names caps ks → length ks + length (names_after names ks) ≡ length names
count_led P names caps [] leads = omega arith
count_led P [] caps (k ∷ ks) leads = absurd leads
count_led P (name ∷ names) caps (k ∷ ks) leads = let rest = count_led P names (caps ++ found k ∷ []) ks leads.1 in omega arith

-- One name more is led: it is no longer left.
pub after_more : (names rest : List Name) (name : Name) (ks : List Capability) (k : Capability) → names_after names ks ≡ name ∷ rest
    → names_after names (ks ++ k ∷ []) ≡ rest
after_more names rest name [] k is = ap (λ xs. names_after xs (k ∷ [])) is
after_more [] rest name (j ∷ ks) k is = absurd (left_none name rest (sym is))
after_more (n ∷ names) rest name (j ∷ ks) k is = after_more names rest name ks k is

-- This name has led to the capability.
pub record Led (P : ℕ → Want → Capability → Type 0) (name : Name) (o : Option Capability) : Type 0 where
  pub k : Capability
  pub is : o ≡ Some k
  pub caps : List Named
  pub leads : P name.number (want_of caps name) k

-- The names of a list lead, after some others, and none is left.
record AllLead (P : ℕ → Want → Capability → Type 0) (names : List Name) (ks : List Capability) : Type 0 where
  caps : List Named
  leads : Leads P names caps ks
  none : names_after names ks ≡ []

first_led : (P : ℕ → Want → Capability → Type 0) (names : List Name) (ks : List Capability) (name : Name) → AllLead P names ks
    → head names ≡ Some name → Led P name (head ks)
first_led P [] ks name all is = absurd (none_some name is)
first_led P (n ∷ names) [] name all is = absurd (left_none n names all.none)
first_led P (n ∷ names) (k ∷ ks) name all is =
    record {
      k = k;
      is = refl;
      caps = all.caps;
      leads = subst (λ (m : Name). P m.number (want_of all.caps m) k)
          (some_inj n name is) all.leads.0;
    }

tails_lead : (P : ℕ → Want → Capability → Type 0) (names : List Name) (ks : List Capability) → AllLead P names ks
    → AllLead P (tail names) (tail ks)
tails_lead P [] [] all = record { caps = all.caps; leads = tt; none = refl }
tails_lead P [] (k ∷ ks) all = absurd all.leads
tails_lead P (name ∷ names) [] all = absurd (left_none name names all.none)
tails_lead P (name ∷ names) (k ∷ ks) all = record { caps = all.caps ++ found k ∷ []; leads = all.leads.1; none = all.none }

pub nth_led : (P : ℕ → Want → Capability → Type 0) (names : List Name) (ks : List Capability) (i : Nth) (name : Name)
    → Leads P names [] ks → names_after names ks ≡ [] → at_place names i ≡ Some name → Led P name (at_place ks i)
nth_led P names ks First name leads none is = first_led P names ks name (record { caps = []; leads = leads; none = none }) is
nth_led P names ks Second name leads none is =
    first_led P (tail names) (tail ks) name (tails_lead P names ks (record { caps = []; leads = leads; none = none })) is
nth_led P names ks Third name leads none is =
    first_led P (tail (tail names)) (tail (tail ks)) name (tails_lead P (tail names) (tail ks)
    (tails_lead P names ks (record { caps = []; leads = leads; none = none }))) is
nth_led P names ks Fourth name leads none is =
    first_led P (tail (tail (tail names))) (tail (tail (tail ks))) name
    (tails_lead P (tail (tail names)) (tail (tail ks)) (tails_lead P (tail names) (tail ks)
    (tails_lead P names ks (record { caps = []; leads = leads; none = none })))) is

-- what stands at a place, and after those that have led, by its index
pub at_is : {A : Type 0} (xs : List A) (i : Nth) → slice_get xs (index_of i) ≡ at_place xs i
at_is [] First = refl
at_is [] Second = refl
at_is [] Third = refl
at_is [] Fourth = refl
at_is (a ∷ xs) First = refl
at_is (a ∷ []) Second = refl
at_is (a ∷ []) Third = refl
at_is (a ∷ []) Fourth = refl
at_is (a ∷ b ∷ xs) Second = refl
at_is (a ∷ b ∷ []) Third = refl
at_is (a ∷ b ∷ []) Fourth = refl
at_is (a ∷ b ∷ c ∷ xs) Third = refl
at_is (a ∷ b ∷ c ∷ []) Fourth = refl
at_is (a ∷ b ∷ c ∷ d ∷ xs) Fourth = refl

pub next_is : (names : List Name) (ks : List Capability) → slice_get names (length ks) ≡ head (names_after names ks)
next_is [] [] = refl
next_is (name ∷ names) [] = refl
next_is [] (k ∷ ks) = refl
next_is (name ∷ names) (k ∷ ks) = next_is names ks

if_true : {A : Type 0} (x y : A) (b : Bool) → b ≡ true → (if b then x else y) ≡ x
if_true x y b is = rw is refl

-- These and one more, where there are fewer than four.
pub pushed_one : {A : Type 0} (xs : List A) (x : A) → length xs < 4 → pushed xs x ≡ xs ++ x ∷ []
pushed_one xs x few = if_true _ _ (nat_lt (length xs) 4) (lt-ltb (length xs) 4 few)

-- the leaf that an earlier name's root takes is wanted
pub wants_leaf : (ks : List Capability) (i : Nth) (k : Capability) (kind : Kind) → at_place ks i ≡ Some k
    → (kind_number kind == kind_number (leaf_of k.kind)) ≡ wants (with_found [] ks) (LeafOf i) kind
wants_leaf ks i k kind is = sym (ap (λ (n : Named). leaf_for n kind) (earlier_is ks i k is))
