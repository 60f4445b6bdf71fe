-- What a call names: the numbers that it looks up in the table of the component in which its core works.
use Rattle.std.specs.Prelude.{◌≡◌, ◌⊎◌, ◌∷◌}
use Rattle.kernel_rules.specs.{ℕ, List, [], Call, Look, Copy, Remove, Grow, Shrink, Retype, Map, Unmap, Gate, Kill, Switch}
use Rattle.kernel_rules.specs.{Transfer, Delegate, Test, Part, Replenish, Make, Want, Rule, Name, Vacant, Held, Mapped, Does, named}
use Rattle.kernel_rules.specs.{name_of, rule_of}
use Rattle.kernel_rules.specs.spk_nums.specs.declared.calls.Call.TheVariants.{Make as make_call, Call as call_gate}
use Rattle.kernel_rules.specs.State.{State}

-- A rule names this number, and this is what it wants of it: it is one of the rule's names, each of which comes after what those before
-- it have led to.
abbrev pub IsName : State → ℕ → Rule → ℕ → Want → Type 0
IsName s c (Name m wanted rest) n want = ((n ≡ m) × (want ≡ wanted)) ⊎ IsName s c (rest (name_of (named s c m wanted))) n want
IsName s c (Vacant target rest) n want = ⊥
IsName s c (Held target rest) n want = ⊥
IsName s c (Mapped table v rest) n want = ⊥
IsName s c (Does causes value edits) n want = ⊥

-- The numbers that a call names, in order.
abbrev pub numbers_made_of : Make → List ℕ
numbers_made_of (Make.Thread comp) = comp ∷ []
numbers_made_of (Make.Comp table pages live) = table ∷ pages ∷ []
numbers_made_of _ = []

abbrev pub numbers_named : Call → List ℕ
numbers_named (Look a) = a ∷ []
numbers_named (Copy a t b rights) = a ∷ t ∷ []
numbers_named (Remove t b) = t ∷ []
numbers_named (Grow t i l) = t ∷ l ∷ []
numbers_named (Shrink t i) = t ∷ []
numbers_named (Retype r f k) = r ∷ []
numbers_named (make_call what r f t b) = r ∷ t ∷ numbers_made_of what
numbers_named (Map p v r f w) = p ∷ r ∷ []
numbers_named (Unmap p v) = p ∷ []
numbers_named (Gate k t b) = k ∷ t ∷ []
numbers_named (Kill k) = k ∷ []
numbers_named (call_gate g) = g ∷ []
numbers_named (Switch h q) = h ∷ q ∷ []
numbers_named (Transfer a b m) = a ∷ b ∷ []
numbers_named (Delegate a b m) = a ∷ b ∷ []
numbers_named (Test a b) = a ∷ b ∷ []
numbers_named (Part r f n t b) = r ∷ t ∷ []
numbers_named (Replenish a m) = a ∷ []
numbers_named _ = []

-- A number is one of these.
abbrev pub IsAmong : ℕ → List ℕ → Type 0
IsAmong n [] = ⊥
IsAmong n (m ∷ ms) = (n ≡ m) ⊎ IsAmong n ms

-- What the rule of a call names, in whatever state, is one of the numbers that the call names.
abbrev pub CallsName : Type 0
CallsName = (s : State) (c : ℕ) (call : Call) (n : ℕ) (want : Want) → IsName s c (rule_of s c call) n want → IsAmong n (numbers_named call)
