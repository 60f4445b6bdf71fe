-- How a call that is carried out turns frames: a node is made only with the end of its places' grace periods, and what a frame is
-- changes only with the end of its own; and only frames that are something have references released.
use Rattle.kernel_rules.proofs.{◌≡◌, ◌⊎◌, inl, inr, ℕ, ◌-◌, Bool, true, false, ◌||◌, refl, sym, ◌∙◌, ap, subst, IsTrue, List, [], ◌∷◌, None}
use Rattle.kernel_rules.proofs.{false≢true, eq-eqb, Call, Tick, Value, Reply, ThreadFields, TcapFields, Blank, Comp, Thread, Tcap, Frame}
use Rattle.kernel_rules.proofs.{Untyped, Kernel, Thing, PlaceOf, FrameOf, put, is_translated, Change, does, Judged, Refused, Found}
use Rattle.kernel_rules.proofs.{with_thread, running, with_tcap, with_budget, tcap_at, Edit, Node, Become, Untype, Component, Push, Pop}
use Rattle.kernel_rules.proofs.{Charge, Move, Merge, Give, edited, after_edits, change_of, changed, owed_by, state_by, ends, ends_by}
use Rattle.kernel_invariant.proofs.{Sound.put_all, SoundCalls.IsOpen, Edited.is_bare, Edited.Known, Edited.Each, Edited.Edits}
use Rattle.{kernel_rules.proofs.is_node, kernel_rules.proofs.IfFound, kernel_invariant.specs.ends_in, kernel_invariant.specs.ends_all}
use Rattle.{kernel_rules.specs.State.State, kernel_rules.specs.Edits.Switch, kernel_invariant.proofs.Edited.found_by}

-- Whether a frame is something: a user frame, or has an object.
abbrev pub is_typed : Frame → Bool
is_typed Untyped = false
is_typed (Kernel Blank) = false
is_typed _ = true

-- The frame f, which is x, becomes y, where the grace periods that end are these.
pub record Turns (ends : Thing → Bool) (f : ℕ) (x y : Frame) : Type 0 where
  pub node : (i : ℕ) → IsTrue (is_node y) → (ends (PlaceOf f i) ≡ true) ⊎ (y ≡ x)
  pub typed : IsTrue (is_typed x) → (ends (FrameOf f) ≡ true) ⊎ (IsTrue (is_typed y) × (is_translated y ≡ is_translated x))

turns_same : (ends : Thing → Bool) (f : ℕ) (x : Frame) → Turns ends f x x
turns_same ends f x = record { node = λ i n. inr refl; typed = λ h. inr (h, refl) }

turns_then : (a b : Thing → Bool) (f : ℕ) (x y z : Frame) → Turns a f x y → Turns b f y z → Turns (λ t. b t || a t) f x z
turns_then a b f x y z p q = record { node = λ i n. node i n (q.node i n); typed = λ h. typed (p.typed h) }
  where
    first : (u v : Bool) → v ≡ true → (u || v) ≡ true
    first true v e = refl
    first false v e = e

    node : (i : ℕ) → IsTrue (is_node z) → (b (PlaceOf f i) ≡ true) ⊎ (z ≡ y)
        → ((b (PlaceOf f i) || a (PlaceOf f i)) ≡ true) ⊎ (z ≡ x)
    node i n (inl ends) = inl (ap (λ u. u || a (PlaceOf f i)) ends)
    node i n (inr same) = elim (p.node i (subst (λ x. IsTrue (is_node x)) same n)) [
      | inl ends ↦ inl (first (b (PlaceOf f i)) (a (PlaceOf f i)) ends)
      | inr was ↦ inr (same ∙ was)
    ]

    typed : (a (FrameOf f) ≡ true) ⊎ (IsTrue (is_typed y) × (is_translated y ≡ is_translated x))
        → ((b (FrameOf f) || a (FrameOf f)) ≡ true) ⊎ (IsTrue (is_typed z) × (is_translated z ≡ is_translated x))
    typed (inl ends) = inl (first (b (FrameOf f)) (a (FrameOf f)) ends)
    typed (inr was) = elim (q.typed was.0) [
      | inl ends ↦ inl (ap (λ u. u || a (FrameOf f)) ends)
      | inr is ↦ inr (is.0, is.1 ∙ was.1)
    ]

tcap_turns : (ends : Thing → Bool) (f : ℕ) (x : Frame) (q : TcapFields) → Turns ends f x (with_tcap x q)
tcap_turns ends f (Kernel (Tcap p)) q = record { node = λ i n. absurd (false≢true n); typed = λ h. inr (refl, refl) }
tcap_turns ends f x q = turns_same ends f x

thread_turns : (ends : Thing → Bool) (f : ℕ) (x : Frame) (t : ThreadFields) → Turns ends f x (with_thread x t)
thread_turns ends f (Kernel (Thread u)) t = record { node = λ i n. absurd (false≢true n); typed = λ h. inr (refl, refl) }
thread_turns ends f x t = turns_same ends f x

-- One frame is put.
put_turns : (ends : Thing → Bool) (s : State) (g : ℕ) (y : Frame)
    → Turns ends g (s.frame g) y → (f : ℕ) → Turns ends f (s.frame f) (put s.frame g y f)
put_turns ends s g y h f = put_all (λ f x. Turns ends f (s.frame f) x) s.frame g y f
    (λ same. subst (λ (n : ℕ). Turns ends n (s.frame n) y) (sym same) h) (λ other. turns_same ends f (s.frame f))

-- A frame that was nothing has what is no node, or a node whose places' grace periods end.
bare_nothing : (x : Frame) → IsTrue (is_bare x) → IsTrue (is_typed x) → ⊥
bare_nothing (Kernel Blank) bare h = false≢true h
bare_nothing Untyped bare h = false≢true h
bare_nothing _ bare h = false≢true bare

bare_turns : (ends : Thing → Bool) (f : ℕ) (x y : Frame) → IsTrue (is_bare x) → is_node y ≡ false → Turns ends f x y
bare_turns ends f x y bare none =
    record { node = λ i n. absurd (false≢true (sym none ∙ n)); typed = λ h. absurd (bare_nothing x bare h) }

node_turns : (ends : Thing → Bool) (f : ℕ) (x y : Frame) → IsTrue (is_bare x) → ((i : ℕ) → ends (PlaceOf f i) ≡ true) → Turns ends f x y
node_turns ends f x y bare places = record { node = λ i n. inl (places i); typed = λ h. absurd (bare_nothing x bare h) }

edit_turns : (c : ℕ) (s : State) (e : Edit) → Known c s e → (f : ℕ) → Turns (ends_in e) f (s.frame f) ((edited c s e).frame f)
edit_turns c s (Node g object) k =
    put_turns _ s g (Kernel object) (node_turns _ g (s.frame g) (Kernel object) k.2.bare (λ i. eq-eqb g g refl))
edit_turns c s (Become g x) k = put_turns _ s g x (bare_turns _ g (s.frame g) x k.1.bare k.0)
edit_turns c s (Component g fields) k = put_turns _ s g (Kernel (Comp fields)) (bare_turns _ g (s.frame g) _ k.bare refl)
edit_turns c s (Untype g) k =
    put_turns _ s g Untyped (record { node = λ i n. absurd (false≢true n); typed = λ h. inl (eq-eqb g g refl) })
edit_turns c s (Push g) k = put_turns _ s (s.core c).thread _ (thread_turns _ (s.core c).thread (s.frame (s.core c).thread) _)
edit_turns c s Pop k = put_turns _ s (s.core c).thread _ (thread_turns _ (s.core c).thread (s.frame (s.core c).thread) _)
edit_turns c s (Switch h q) k = λ f.
    let old : ℕ = (s.core c).thread in
    let idle : State = running s old None in
    turns_then _ _ f (s.frame f) (idle.frame f) _ (put_turns (λ t. false) s old _ (thread_turns _ old (s.frame old) _) f)
    (put_turns (λ t. false) idle h _ (thread_turns _ h (idle.frame h) _) f)
edit_turns c s (Charge n) k = put_turns _ s (s.core c).tcap _ (tcap_turns _ (s.core c).tcap (s.frame (s.core c).tcap) _)
edit_turns c s (Move a b m) k = λ f.
    let first : State = with_budget s a ((tcap_at s a).budget - m) in
    turns_then _ _ f (s.frame f) (first.frame f) _ (put_turns (λ t. false) s a _ (tcap_turns _ a (s.frame a) _) f)
    (put_turns (λ t. false) first b _ (tcap_turns _ b (first.frame b) _) f)
edit_turns c s (Merge g qs) k = put_turns _ s g _ (tcap_turns _ g (s.frame g) _)
edit_turns c s (Give g m) k = put_turns _ s g _ (tcap_turns _ g (s.frame g) _)
edit_turns c s _ k = λ f. turns_same _ f (s.frame f)

edits_turn : (c : ℕ) (s : State) (es : List Edit) → Each Known c s es
    → (f : ℕ) → Turns (ends_all es) f (s.frame f) ((after_edits c s es).frame f)
edits_turn c s [] k f = turns_same _ f (s.frame f)
edits_turn c s (e ∷ es) k f =
    turns_then _ _ f (s.frame f) ((edited c s e).frame f) _ (edit_turns c s e k.0 f) (edits_turn c (edited c s e) es k.1 f)

-- The change of a call turns frames so.
abbrev TurnsBy : State → Call → Change → Type 0
TurnsBy s call change = (f : ℕ) → Turns (ends_by call) f (s.frame f) (change.next.frame f)

turns_by : (s : State) (o : ℕ → Bool) (d : ℕ) → IsOpen s o d → (call : Call) (v : Value) (es : List Edit) → Edits call d s es
    → TurnsBy s call (does d s v es)
turns_by s o d h call v es e f =
    let t : Turns (ends_all es) f (s.frame f) ((after_edits d s es).frame f) = edits_turn d s es (e.known o h) f in
    record { node = λ i n. ends (PlaceOf f i) (t.node i n); typed = λ h. ends (FrameOf f) (t.typed h) }
  where
    ends : {P : Type 0} (x : Thing) → (ends_all es x ≡ true) ⊎ P → (ends_by call x ≡ true) ⊎ P
    ends x (inl is) = inl (e.agrees.0 x ∙ is)
    ends x (inr p) = inr p

found_turns : (s : State) (call : Call) (x : Judged Change) → IfFound x (TurnsBy s call)
    → (f : ℕ) → Turns (ends_by call) f (s.frame f) ((changed s x).frame f)
found_turns s call (Refused r) by f = turns_same (ends_by call) f (s.frame f)
found_turns s call (Found change) by f = by f

owed_frame : (s : State) (d : ℕ) (call : Call) (f : ℕ) → (owed_by s d call).frame f ≡ s.frame f
owed_frame s d (Tick n) f = refl
owed_frame s d _ f = refl

-- A frame after a decision: of an `ok` by how its call turns it, else it stays.
pub record TurnsIn (call : Call) (r : Reply) (f : ℕ) (x y : Frame) : Type 0 where
  pub node : (i : ℕ) → IsTrue (is_node y) → (ends call r (PlaceOf f i) ≡ true) ⊎ (y ≡ x)
  pub typed : IsTrue (is_typed x) → (ends call r (FrameOf f) ≡ true) ⊎ (IsTrue (is_typed y) × (is_translated y ≡ is_translated x))

pub turns_in_same : (call : Call) (r : Reply) (f : ℕ) (x y : Frame) → y ≡ x → TurnsIn call r f x y
turns_in_same call r f x y same = record {
  node = λ i n. inr same;
  typed = λ h. inr (subst (λ x. IsTrue (is_typed x)) (sym same) h, ap is_translated same);
}

pub decided_turns : (s : State) (o : ℕ → Bool) (d : ℕ) → IsOpen s o d
    → (call : Call) (r : Reply) (f : ℕ) → TurnsIn call r f (s.frame f) ((state_by s d call r).frame f)
decided_turns s o d opens call (Reply.Ok v) f =
    let a : Turns (ends_by call) f (s.frame f) ((changed s (change_of s d call)).frame f) =
    found_turns s call (change_of s d call) (found_by s d call (TurnsBy s call) (turns_by s o d opens call)) f in
    record { node = a.node; typed = a.typed }
decided_turns s o d opens call Reply.Raced f = turns_in_same call Reply.Raced f (s.frame f) _ (owed_frame s d call f)
decided_turns s o d opens call (Reply.Busy e) f = turns_in_same call (Reply.Busy e) f (s.frame f) _ (owed_frame s d call f)
decided_turns s o d opens call Reply.CallsSpent f = turns_in_same call Reply.CallsSpent f (s.frame f) _ refl
decided_turns s o d opens call r f = turns_in_same call r f (s.frame f) _ refl
