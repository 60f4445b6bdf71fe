-- What holds of every change that a rule can make holds of its outcome; what every list of edits makes is such a change.
use Rattle.kernel_rules.specs.{ℕ, Capability, Value, Reply, Option, Some, None, List, [], ◌∷◌, Slot, found, Edit, edited, after_edits}
use Rattle.kernel_rules.specs.{Change, does, Rule, Name, Vacant, Held, Mapped, Does, Judged, Refused, Found, and_then, unless, named}
use Rattle.kernel_rules.specs.{vacant, held, mapped, first_cause, outcome}
use Rattle.kernel_rules.specs.State.{State}

-- P holds of every change that the rule can make.
abbrev pub AllChanges : State → ℕ → (Change → Type 0) → Rule → Type 0
AllChanges s c P (Name n wanted rest) = (k : Capability) → AllChanges s c P (rest (found k))
AllChanges s c P (Vacant target rest) = (at : Slot) → AllChanges s c P (rest at)
AllChanges s c P (Held target rest) = (at : Slot) (k : Capability) → AllChanges s c P (rest at k)
AllChanges s c P (Mapped table v rest) = (k : Capability) → AllChanges s c P (rest k)
AllChanges s c P (Does causes value edits) = P (does c s value edits)

-- P holds of what is found.
abbrev pub IfFound : {A : Type 0} → Judged A → (A → Type 0) → Type 0
IfFound (Refused r) P = Unit {0}
IfFound (Found x) P = P x

then_all : {A B : Type 0} (x : Judged A) (f : A → Judged B) (P : B → Type 0) → ((a : A) → IfFound (f a) P) → IfFound (and_then x f) P
then_all (Refused r) f P h = tt
then_all (Found a) f P h = h a

unless_all : {A : Type 0} (r : Option Reply) (x : A) (P : A → Type 0) → P x → IfFound (unless r x) P
unless_all None x P h = h
unless_all (Some r) x P h = tt

pub outcome_all : (P : Change → Type 0) (s : State) (c : ℕ) (rule : Rule) → AllChanges s c P rule → IfFound (outcome s c rule) P
outcome_all P s c (Name n wanted rest) h =
    then_all (named s c n wanted) (λ k. outcome s c (rest (found k))) P λ k. outcome_all P s c (rest (found k)) (h k)
outcome_all P s c (Vacant target rest) h =
    then_all (vacant s c target) (λ at. outcome s c (rest at)) P λ at. outcome_all P s c (rest at) (h at)
outcome_all P s c (Held target rest) h =
    then_all (held s c target) (λ p. outcome s c (rest p.0 p.1)) P λ p. outcome_all P s c (rest p.0 p.1) (h p.0 p.1)
outcome_all P s c (Mapped table v rest) h =
    then_all (mapped s c table v) (λ k. outcome s c (rest k)) P λ k. outcome_all P s c (rest k) (h k)
outcome_all P s c (Does causes value edits) h = unless_all (first_cause s c causes) (does c s value edits) P h

-- What holds of every list of edits holds of every rule.
pub all_edits : (P : Change → Type 0) (s : State) (c : ℕ) → ((v : Value) (es : List Edit) → P (does c s v es)) → (rule : Rule)
    → AllChanges s c P rule
all_edits P s c h (Name n wanted rest) = λ k. all_edits P s c h (rest (found k))
all_edits P s c h (Vacant target rest) = λ at. all_edits P s c h (rest at)
all_edits P s c h (Held target rest) = λ at k. all_edits P s c h (rest at k)
all_edits P s c h (Mapped table v rest) = λ k. all_edits P s c h (rest k)
all_edits P s c h (Does causes value edits) = h value edits

-- What each edit keeps of the state before, a list of edits keeps.
pub each_edit : (P : State → State → Type 0) (c : ℕ) → ((s : State) → P s s)
    → ((s t u : State) → P s t → P t u → P s u) → ((s : State) (e : Edit) → P s (edited c s e))
    → (s : State) (es : List Edit) → P s (after_edits c s es)
each_edit P c same both one s [] = same s
each_edit P c same both one s (e ∷ es) =
    both s (edited c s e) (after_edits c (edited c s e) es) (one s e) (each_edit P c same both one (edited c s e) es)
