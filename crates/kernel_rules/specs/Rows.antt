-- What can be read off a rule, once it is said what its look-ups find: the numbers that it names and what it wants of each, its target, its
-- own causes, the value that it answers, and its edits.
use Rattle.std.specs.Prelude.{◌⊎◌, ℕ, zero, suc, Option, Some, None, List, [], ◌∷◌}
use Rattle.spk_nums.specs.{Capability.Capability, declared.kinds.Kind.Kind}
use Rattle.spk_nums.specs.{declared.replies.Value.Value, declared.replies.Value.TheVariants.Nothing}
use Rattle.kernel_rules.specs.{State.State, Start.plain_cap, Access.Slot, Access.Named, Access.Want, Access.Target, Access.reached}
use Rattle.kernel_rules.specs.{Edits.Edit}
use Rattle.kernel_rules.specs.{Rules.Cause, Rules.Judged, Rules.Refused, Rules.Found, Rules.Rule, Rules.Name, Rules.Vacant, Rules.Held}
use Rattle.kernel_rules.specs.{Rules.Mapped, Rules.Does, Rules.named, Rules.held, Rules.mapped, Rules.name_of, Rules.slot_of}

-- What the look-ups of a rule find, each in its order: what its names lead to, the slots of its targets, and what is held there.
pub record Findings : Type 0 where
  pub names : ℕ → Named
  pub slots : ℕ → Slot
  pub held : ℕ → Capability

-- What is found later.
abbrev pub after_name : Findings → Findings
after_name f = record f { names = λ i. f.names (suc i) }

abbrev pub after_slot : Findings → Findings
after_slot f = record f { slots = λ i. f.slots (suc i) }

abbrev pub after_held : Findings → Findings
after_held f = record f { held = λ i. f.held (suc i) }

-- What is left of a rule after its look-ups.
abbrev pub left : Rule → Findings → Rule
left (Name n want rest) f = left (rest (f.names 0)) (after_name f)
left (Vacant target rest) f = left (rest (f.slots 0)) (after_slot f)
left (Held target rest) f = left (rest (f.slots 0) (f.held 0)) (after_held (after_slot f))
left (Mapped table v rest) f = left (rest (f.held 0)) (after_held f)
left (Does causes value edits) f = Does causes value edits

-- Its own causes, the value that it answers, and its edits.
abbrev pub causes_left : Rule → List Cause
causes_left (Does causes value edits) = causes
causes_left _ = []

abbrev pub value_left : Rule → Value
value_left (Does causes value edits) = value
value_left _ = Nothing

abbrev pub edits_left : Rule → List Edit
edits_left (Does causes value edits) = edits
edits_left _ = []

abbrev pub causes_at : Rule → Findings → List Cause
causes_at rule f = causes_left (left rule f)

abbrev pub value_at : Rule → Findings → Value
value_at rule f = value_left (left rule f)

abbrev pub edits_at : Rule → Findings → List Edit
edits_at rule f = edits_left (left rule f)

-- A number that a rule names, and what it wants of the capability that the number leads to.
pub record Asked : Type 0 where
  pub number : ℕ
  pub want : Want

-- The names of a rule, in order.
abbrev pub names_at : Rule → Findings → List Asked
names_at (Name n want rest) f = record { number = n; want = want } ∷ names_at (rest (f.names 0)) (after_name f)
names_at (Vacant target rest) f = names_at (rest (f.slots 0)) (after_slot f)
names_at (Held target rest) f = names_at (rest (f.slots 0) (f.held 0)) (after_held (after_slot f))
names_at (Mapped table v rest) f = names_at (rest (f.held 0)) (after_held f)
names_at (Does causes value edits) f = []

-- One of a list is P.
abbrev pub OneIs : {A : Type 0} → (A → Type 0) → List A → Type 0
OneIs P [] = ⊥
OneIs P (x ∷ xs) = P x ⊎ OneIs P xs

-- What a rule looks up besides: a place that is to be free, a place that is to be held, or a page that is to be mapped.
pub data Aim : Type 0 where
  Free : Target → Aim
  Full : Target → Aim
  Page : ℕ → ℕ → Aim

-- The targets of a rule, in order.
abbrev pub aims_at : Rule → Findings → List Aim
aims_at (Name n want rest) f = aims_at (rest (f.names 0)) (after_name f)
aims_at (Vacant target rest) f = Free target ∷ aims_at (rest (f.slots 0)) (after_slot f)
aims_at (Held target rest) f = Full target ∷ aims_at (rest (f.slots 0) (f.held 0)) (after_held (after_slot f))
aims_at (Mapped table v rest) f = Page table v ∷ aims_at (rest (f.held 0)) (after_held f)
aims_at (Does causes value edits) f = []

-- The place that is to be free, and the place that is to be held.
abbrev pub free_in : List Aim → Option Target
free_in [] = None
free_in (Free target ∷ aims) = Some target
free_in (_ ∷ aims) = free_in aims

abbrev pub full_in : List Aim → Option Target
full_in [] = None
full_in (Full target ∷ aims) = Some target
full_in (_ ∷ aims) = full_in aims

-- One thing first, and then others.
abbrev pub first : {A : Type 0} → A → (ℕ → A) → ℕ → A
first x f zero = x
first x f (suc i) = f i

-- What is found, or else this.
abbrev pub found_or : {A : Type 0} → Judged A → A → A
found_or (Refused r) y = y
found_or (Found x) y = x

-- What is found where nothing is looked up, or nothing is there.
abbrev pub no_cap : Capability
no_cap = plain_cap Kind.Table 0

abbrev pub nothing_found : Findings
nothing_found = record { names = λ i. Rattle.kernel_rules.specs.Access.not_found; slots = λ i. slot_of None; held = λ i. no_cap }

-- What the look-ups of a rule of core c lead to in a state, as far as they find anything.
abbrev pub led : State → ℕ → Rule → Findings
led s c (Name n want rest) =
    let k : Named = name_of (named s c n want) in
    let later : Findings = led s c (rest k) in
    record later { names = first k later.names }
led s c (Vacant target rest) =
    let at : Slot = slot_of (reached s c target) in
    let later : Findings = led s c (rest at) in
    record later { slots = first at later.slots }
led s c (Held target rest) =
    let p : Slot × Capability = found_or (held s c target) (slot_of None, no_cap) in
    let later : Findings = led s c (rest p.0 p.1) in
    record later { slots = first p.0 later.slots; held = first p.1 later.held }
led s c (Mapped table v rest) =
    let k : Capability = found_or (mapped s c table v) no_cap in
    let later : Findings = led s c (rest k) in
    record later { held = first k later.held }
led s c (Does causes value edits) = nothing_found
