-- What a decision makes of the grace period of each thing: it begins, it ends, a flush leaves it, or it stays.
use Rattle.kernel_rules.proofs.{◌≡◌, ℕ, true, false, cond, refl, ◌∙◌, ap, List, [], ◌∷◌, false≢true, Call, Flush, Tick, Value, Reply, Grace}
use Rattle.kernel_rules.proofs.{Thing, put, no_grace, same_thing, new_grace, begun, Change, does, Judged, Refused, Found, IsFoundAnd}
use Rattle.kernel_rules.proofs.{change_of, changed, owed_by, state_by, MayReply, begins, begins_in, ends, ends_by, flushes, flushes_by}
use Rattle.kernel_rules.proofs.{IfFound, Edit, Node, edited, after_edits, begins_all}
use Rattle.{std.specs.List.list_any, kernel_rules.specs.State.State, kernel_invariant.specs.Edits.kept_in}
use Rattle.{kernel_invariant.specs.Edits.kept_all, kernel_invariant.proofs.Edited.Edits, kernel_invariant.proofs.Edited.found_by}

-- A grace period as core c flushes.
abbrev pub flushed_by : ℕ → Grace → Grace
flushed_by c g = record g { unflushed = put g.unflushed c false }

-- A grace period after a call that does not begin it.
abbrev pub kept_by : Call → ℕ → Thing → Grace → Grace
kept_by call c x g = cond (ends_by call x) no_grace (cond (flushes_by call) (flushed_by c g) g)

edits_grace : (c : ℕ) (s : State) (es : List Edit) (x : Thing) → (after_edits c s es).grace x ≡ kept_all c es x (s.grace x)
edits_grace c s [] x = refl
edits_grace c s (e ∷ es) x = edits_grace c (edited c s e) es x ∙ ap (kept_all c es x) (edit_grace c s e x)
  where
    edit_grace : (c : ℕ) (s : State) (e : Edit) (x : Thing) → (edited c s e).grace x ≡ kept_in c e x (s.grace x)
    edit_grace c s (Node f object) x = refl
    edit_grace c s _ x = refl

-- The grace period of a thing after a decision.
abbrev pub grace_by : State → ℕ → Call → Reply → Thing → Grace
grace_by s c call r x = cond (begins s c call r x) (new_grace s x)
    (cond (ends call r x) no_grace (cond (flushes call r) (flushed_by c (s.grace x)) (s.grace x)))

-- The grace periods after a change that a call makes.
abbrev GraceBy : State → ℕ → Call → Change → Type 0
GraceBy s c call change = (x : Thing) → (begun s change.begins change.next).grace x
    ≡ cond (list_any (same_thing x) change.begins) (new_grace s x) (kept_by call c x (s.grace x))

changed_grace : (s : State) (c : ℕ) (call : Call) (v : Value) (found : Judged Change)
    → IfFound found (GraceBy s c call) → IsFoundAnd found (λ k. k.value ≡ v)
    → (x : Thing) → (changed s found).grace x ≡ cond (begins_in found x) (new_grace s x) (kept_by call c x (s.grace x))
changed_grace s c call v (Refused r) by ok x = absurd ok
changed_grace s c call v (Found change) by ok x = by x

grace_by_edits : (s : State) (c : ℕ) (call : Call) (v : Value) (es : List Edit) → Edits call c s es → GraceBy s c call (does c s v es)
grace_by_edits s c call v es e x =
    ap (cond (list_any (same_thing x) (begins_all c s es)) (new_grace s x)) (edits_grace c s es x ∙ e.agrees.2 x (s.grace x))

owed_grace : (s : State) (c : ℕ) (call : Call) (x : Thing) → (owed_by s c call).grace x ≡ s.grace x
owed_grace s c (Tick n) x = refl
owed_grace s c _ x = refl

pub grace_is : (s : State) (c : ℕ) (call : Call) (r : Reply) → MayReply s c call r
    → (x : Thing) → (state_by s c call r).grace x ≡ grace_by s c call r x
grace_is s c call (Reply.Ok v) may x =
    changed_grace s c call v (change_of s c call) (found_by s c call (GraceBy s c call) (grace_by_edits s c call)) may.1.1 x
grace_is s c call Reply.CallsSpent may x = refl
grace_is s c call Reply.Raced may x = owed_grace s c call x
grace_is s c call (Reply.Busy d) may x = owed_grace s c call x
grace_is s c call _ may x = refl

-- A flush begins no grace period, and ends none.
pub flush_begins : (s : State) (c : ℕ) (call : Call) (r : Reply) (x : Thing)
    → flushes call r ≡ true → (begins s c call r x ≡ false) × (ends call r x ≡ false)
flush_begins s c Flush (Reply.Ok v) x h = (refl, refl)
flush_begins s c call (Reply.Ok v) x h = absurd (false≢true h)
flush_begins s c call _ x h = absurd (false≢true h)
