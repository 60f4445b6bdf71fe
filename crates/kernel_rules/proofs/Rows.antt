-- What holds of a rule wherever its look-ups lead, from what can be read off it.
use Rattle.kernel_rules.specs.{ℕ, Bool, true, refl, IsTrue, false, List, [], ◌∷◌, Option, Some, None, Capability, Translation, Reply, Slot}
use Rattle.kernel_rules.specs.{found, reached, Change, does, Rule, Name, Vacant, Held, Mapped, Does, Judged, Refused, Found, IsFoundAnd}
use Rattle.kernel_rules.specs.{named, held, mapped, name_of, slot_of, RuleMay, NameMay, VacantMay, HeldMay, MappedMay, OneMay, touch_by}
use Rattle.std.proofs.Common.{inl, inr}
use Rattle.std.proofs.lemmas.Bool.{false≢true}
use Rattle.kernel_rules.specs.Rows.{Findings, after_name, after_slot, after_held, first, no_cap, found_or, value_at, edits_at, causes_at}
use Rattle.kernel_rules.specs.Rows.{Asked, names_at, OneIs, Aim, Free, Full, Page, aims_at, led}
use Rattle.{kernel_rules.specs.State.State, kernel_rules.proofs.Changes.AllChanges}

-- Look-ups that find all that they look for.
pub record Looks : Type 0 where
  pub caps : ℕ → Capability
  pub slots : ℕ → Slot
  pub held : ℕ → Capability

abbrev pub found_by : Looks → Findings
found_by g = record { names = λ i. found (g.caps i); slots = g.slots; held = g.held }

-- Looks that find these first.
abbrev pub cap_first : Capability → Looks → Looks
cap_first k g = record g { caps = first k g.caps }

abbrev pub slot_first : Slot → Looks → Looks
slot_first at g = record g { slots = first at g.slots }

abbrev pub held_first : Capability → Looks → Looks
held_first k g = record g { held = first k g.held }

abbrev pub nothing_looked : Looks
nothing_looked = record {
  caps = λ i. no_cap;
  slots = λ i. record { node = 0; index = 0 };
  held = λ i. no_cap;
}

-- What holds of the value and the edits of a rule whatever its look-ups find, holds of every change that it can make.
pub all_left : (P : Change → Type 0) (s : State) (c : ℕ) (rule : Rule)
    → ((g : Looks) → P (does c s (value_at rule (found_by g)) (edits_at rule (found_by g)))) → AllChanges s c P rule
all_left P s c (Name n want rest) h = λ k. all_left P s c (rest (found k)) (λ g. h (cap_first k g))
all_left P s c (Vacant target rest) h = λ at. all_left P s c (rest at) (λ g. h (slot_first at g))
all_left P s c (Held target rest) h = λ at k. all_left P s c (rest at k) (λ g. h (slot_first at (held_first k g)))
all_left P s c (Mapped table v rest) h = λ k. all_left P s c (rest k) (λ g. h (held_first k g))
all_left P s c (Does causes value edits) h = h nothing_looked

-- A target may be refused with this reply.
abbrev pub AimMay : State → ℕ → Reply → Aim → Type 0
AimMay s c r (Free target) = VacantMay s c target r
AimMay s c r (Full target) = HeldMay s c target r
AimMay s c r (Page table v) = MappedMay s c table v r

-- A rule may be refused at a name, at a target, or by an own cause, each as the look-ups before it lead.
pub data MayAt (s : State) (c : ℕ) (rule : Rule) (r : Reply) : Type 0 where
  AtName : OneIs (λ (n : Asked). NameMay s c n.number n.want r) (names_at rule (led s c rule)) → MayAt s c rule r
  AtAim : OneIs (AimMay s c r) (aims_at rule (led s c rule)) → MayAt s c rule r
  ByCause : OneMay s c (causes_at rule (led s c rule)) r → MayAt s c rule r

found_and : {A : Type 0} (j : Judged A) (P : A → Type 0) (y : A) → IsFoundAnd j P → P (found_or j y)
found_and (Refused r) P y h = absurd h
found_and (Found x) P y h = h

pub may_at : (s : State) (c : ℕ) (rule : Rule) (r : Reply) → RuleMay s c rule r → MayAt s c rule r
may_at s c (Name n want rest) r (inl h) = AtName (inl h)
may_at s c (Name n want rest) r (inr h) = elim (may_at s c (rest (name_of (named s c n want))) r h) [
  | AtName h ↦ AtName (inr h)
  | AtAim h ↦ AtAim h
  | ByCause h ↦ ByCause h
]
may_at s c (Vacant target rest) r (inl h) = AtAim (inl h)
may_at s c (Vacant target rest) r (inr h) = elim (may_at s c (rest (slot_of (reached s c target))) r h) [
  | AtName h ↦ AtName h
  | AtAim h ↦ AtAim (inr h)
  | ByCause h ↦ ByCause h
]
may_at s c (Held target rest) r (inl h) = AtAim (inl h)
may_at s c (Held target rest) r (inr h) =
    let p : Slot × Capability = found_or (held s c target) (slot_of None, no_cap) in
    elim (may_at s c (rest p.0 p.1) r (found_and (held s c target) (λ p. RuleMay s c (rest p.0 p.1) r) (slot_of None, no_cap) h)) [
      | AtName h ↦ AtName h
      | AtAim h ↦ AtAim (inr h)
      | ByCause h ↦ ByCause h
    ]
may_at s c (Mapped table v rest) r (inl h) = AtAim (inl h)
may_at s c (Mapped table v rest) r (inr h) =
    elim (may_at s c (rest (found_or (mapped s c table v) no_cap)) r
    (found_and (mapped s c table v) (λ k. RuleMay s c (rest k) r) no_cap h)) [
      | AtName h ↦ AtName h
      | AtAim h ↦ AtAim (inr h)
      | ByCause h ↦ ByCause h
    ]
may_at s c (Does causes value edits) r h = ByCause h

abbrev pub are_none : {A : Type 0} → List A → Bool
are_none [] = true
are_none (x ∷ xs) = false

-- Whether no name stands behind a place that is to be held, or a page.
abbrev pub are_ahead : Rule → Findings → Bool
are_ahead (Name n want rest) f = are_ahead (rest (f.names 0)) (after_name f)
are_ahead (Vacant target rest) f = are_ahead (rest (f.slots 0)) (after_slot f)
are_ahead (Held target rest) f = are_none (names_at (rest (f.slots 0) (f.held 0)) (after_held (after_slot f)))
are_ahead (Mapped table v rest) f = are_none (names_at (rest (f.held 0)) (after_held f))
are_ahead (Does causes value edits) f = true

pub no_one : {A : Type 0} (P : A → Type 0) (xs : List A) → IsTrue (are_none xs) → OneIs P xs → ⊥
no_one P [] none h = h
no_one P (x ∷ xs) none h = false≢true none

-- Then a rule may be refused where one of its names may be.
pub name_may : (s : State) (c : ℕ) (rule : Rule) (r : Reply) → IsTrue (are_ahead rule (led s c rule))
    → OneIs (λ (n : Asked). NameMay s c n.number n.want r) (names_at rule (led s c rule)) → RuleMay s c rule r
name_may s c (Name n want rest) r ahead (inl h) = inl h
name_may s c (Name n want rest) r ahead (inr h) = inr (name_may s c (rest (name_of (named s c n want))) r ahead h)
name_may s c (Vacant target rest) r ahead h = inr (name_may s c (rest (slot_of (reached s c target))) r ahead h)
name_may s c (Held target rest) r ahead h = absurd (no_one _ _ ahead h)
name_may s c (Mapped table v rest) r ahead h = absurd (no_one _ _ ahead h)
name_may s c (Does causes value edits) r ahead h = absurd h

-- A touch, by whether the page is cached; and a switch, by whether the thread runs.
pub by_cached : (P : Rule → Type 0) (pages v : ℕ) → P (touch_by pages v None) → ((t : Translation) → P (touch_by pages v (Some t)))
    → (t : Option Translation) → P (touch_by pages v t)
by_cached P pages v none some None = none
by_cached P pages v none some (Some t) = some t
