-- What a call that is carried out makes of frames and places: a user frame, a node or a component stays but for the end of its
-- frame's grace period, and what a place holds stays but for the start or the end of the place's.
use Rattle.kernel_laws.proofs.{◌≡◌, ◌⊎◌, inl, inr, ℕ, ◌-◌, Bool, true, false, ◌&&◌, ◌||◌, refl, sym, ◌∙◌, ap, subst, ◌==◌, if◌then◌else◌}
use Rattle.kernel_laws.proofs.{IsTrue, List, [], ◌∷◌, take, Some, None, is_some, false≢true, eq-eqb, eqb-true, and_from, Capability, Call}
use Rattle.kernel_laws.proofs.{Tick, Value, Reply, Place, Free, Holds, Quiescing, ThreadFields, TcapFields, Blank, Table, Leaf, Pages}
use Rattle.kernel_laws.proofs.{Pleaf, Comp, Thread, Tcap, Frame, Untyped, User, Kernel, Thing, PlaceOf, FrameOf, State, put, thread_of}
use Rattle.kernel_laws.proofs.{place_names, frame_names, number_names, held_in, same_thing, Change, does, Judged, Refused, Found}
use Rattle.kernel_laws.proofs.{IsFoundAnd, frames_of, with_thread, running, with_tcap, with_budget, tcap_at, Edit, Fill, Node, Become}
use Rattle.kernel_laws.proofs.{Untype, Component, Deaden, Push, Pop, Charge, Move, Merge, Give, edited, after_edits, begins_all, change_of}
use Rattle.kernel_laws.proofs.{changed, owed_by, state_by, begins, ends, ends_by, MayReply, begins_in as begun_in, IfFound, put_all}
use Rattle.kernel_laws.proofs.{place_all, IsOpen, is_bare, Each, AreLater, Calm, Edits, found_by}
use Rattle.kernel_laws.specs.kernel_invariant.proofs.{free_quiescing, holds_quiescing, frames_no_place, some_none, Known}
use Rattle.std.proofs.lemmas.Bool.{or_left, and_parts}
use Rattle.kernel_laws.specs.kernel_invariant.specs.{ends_in, ends_all}
use Rattle.kernel_laws.specs.kernel_rules.specs.Edits.{moved, Remove, Switch, begins_in}
use Rattle.{std.specs.List.list_any, kernel_laws.specs.kernel_invariant.proofs.SoundSteps.quiescing_inj}

-- Whether a frame is what no call changes but a retype: a user frame, a node or a component.
abbrev pub is_kept : Frame → Bool
is_kept User = true
is_kept (Kernel Table) = true
is_kept (Kernel Leaf) = true
is_kept (Kernel Pages) = true
is_kept (Kernel Pleaf) = true
is_kept (Kernel (Comp k)) = true
is_kept _ = false

-- What stays of frames and places from s to t, where these grace periods begin and end.
pub record KeptBy (s t : State) (begins ends : Thing → Bool) : Type 0 where
  pub frame : (f : ℕ) → IsTrue (is_kept (s.frame f)) → (t.frame f ≡ s.frame f) ⊎ (ends (FrameOf f) ≡ true)
  pub holds : (f i : ℕ) (k : Capability) → s.place f i ≡ Holds k
      → (t.place f i ≡ Holds k) ⊎ ((begins (PlaceOf f i) ≡ true) ⊎ (ends (PlaceOf f i) ≡ true))
  pub quiescing : (f i : ℕ) (k : Capability) → t.place f i ≡ Quiescing k → (s.place f i ≡ Quiescing k) ⊎ (s.place f i ≡ Holds k)
  pub removed : (f i : ℕ) → begins (PlaceOf f i) ≡ true → IsTrue (is_some (held_in (s.place f i)))

-- What a decision makes of kept frames and of places.
abbrev pub Kept : State → ℕ → Call → Reply → Type 0
Kept s c call r = KeptBy s (state_by s c call r) (begins s c call r) (ends call r)

-- Places stay.
placed : (s t : State) (begins ends : Thing → Bool) → ((f i : ℕ) → begins (PlaceOf f i) ≡ false)
    → ((f : ℕ) → IsTrue (is_kept (s.frame f)) → (t.frame f ≡ s.frame f) ⊎ (ends (FrameOf f) ≡ true))
    → ((f i : ℕ) → t.place f i ≡ s.place f i) → KeptBy s t begins ends
placed s t begins ends none frame place = record {
  removed = λ f i e. absurd (false≢true (sym (none f i) ∙ e));
  frame = frame;
  holds = λ f i k e. inl (place f i ∙ e);
  quiescing = λ f i k e. inl (sym (place f i) ∙ e);
}

-- One change after another, which begins and ends no grace period.
kept_then : (s t u : State) (begins ends : Thing → Bool) → KeptBy s t begins ends → KeptBy t u (λ x. false) (λ x. false)
    → KeptBy s u begins ends
kept_then s t u begins ends a b = record {
  removed = a.removed;
  frame = λ f kept. elim (a.frame f kept) [
    | inl same ↦ inl (only (b.frame f (subst (λ x. IsTrue (is_kept x)) (sym same) kept)) ∙ same)
    | inr ended ↦ inr ended
  ];
  holds = λ f i k e. elim (a.holds f i k e) [
    | inl held ↦ inl (still f i k held)
    | inr gone ↦ inr gone
  ];
  quiescing = λ f i k e. elim (b.quiescing f i k e) [
    | inl was ↦ a.quiescing f i k was
    | inr held ↦ absurd (holds_quiescing k k (sym (still f i k held) ∙ e))
  ];
}
  where
    only : {P : Type 0} → P ⊎ (false ≡ true) → P
    only (inl p) = p
    only (inr never) = absurd (false≢true never)

    or_false : {P : Type 0} → P ⊎ ((false ≡ true) ⊎ (false ≡ true)) → P ⊎ (false ≡ true)
    or_false (inl p) = inl p
    or_false (inr (inl never)) = inr never
    or_false (inr (inr never)) = inr never

    still : (f i : ℕ) (k : Capability) → t.place f i ≡ Holds k → u.place f i ≡ Holds k
    still f i k e = only (or_false (b.holds f i k e))

kept_same : (s t : State) (b b' a a' : Thing → Bool) → ((x : Thing) → b x ≡ b' x) → ((x : Thing) → a x ≡ a' x)
    → KeptBy s t b a → KeptBy s t b' a'
kept_same s t b b' a a' begins ends h = record {
  removed = λ f i e. h.removed f i (begins (PlaceOf f i) ∙ e);
  frame = λ f kept. or_right (h.frame f kept) (ends (FrameOf f));
  holds = λ f i k e. elim (h.holds f i k e) [
    | inl held ↦ inl held
    | inr (inl begun) ↦ inr (inl (sym (begins (PlaceOf f i)) ∙ begun))
    | inr (inr ended) ↦ inr (inr (sym (ends (PlaceOf f i)) ∙ ended))
  ];
  quiescing = h.quiescing;
}
  where
    or_right : {P : Type 0} {x y : Bool} → P ⊎ (x ≡ true) → x ≡ y → P ⊎ (y ≡ true)
    or_right (inl p) same = inl p
    or_right (inr is) same = inr (sym same ∙ is)

-- A frame is put that was not kept, or keeps its frame.
put_kept : (s : State) (g : ℕ) (y : Frame) → (IsTrue (is_kept (s.frame g)) → y ≡ s.frame g) → (f : ℕ) → IsTrue (is_kept (s.frame f))
    → put s.frame g y f ≡ s.frame f
put_kept s g y h f = put_all (λ f x. IsTrue (is_kept (s.frame f)) → x ≡ s.frame f) s.frame g y f
    (λ at kept. h (subst (λ n. IsTrue (is_kept (s.frame n))) at kept) ∙ ap s.frame (sym at)) (λ other kept. refl)

bare_kept : (x y : Frame) → IsTrue (is_bare x) → IsTrue (is_kept x) → y ≡ x
bare_kept (Kernel Blank) y bare kept = absurd (false≢true kept)
bare_kept Untyped y bare kept = absurd (false≢true kept)
bare_kept _ y bare kept = absurd (false≢true bare)

thread_kept : (x : Frame) (t : ThreadFields) → IsTrue (is_kept x) → with_thread x t ≡ x
thread_kept (Kernel (Thread u)) t h = absurd (false≢true h)
thread_kept _ t h = refl

tcap_kept : (x : Frame) (q : TcapFields) → IsTrue (is_kept x) → with_tcap x q ≡ x
tcap_kept (Kernel (Tcap p)) q h = absurd (false≢true h)
tcap_kept _ q h = refl

-- One change of frames after another.
then_kept : (s t u : State) → ((f : ℕ) → IsTrue (is_kept (s.frame f)) → t.frame f ≡ s.frame f)
    → ((f : ℕ) → IsTrue (is_kept (t.frame f)) → u.frame f ≡ t.frame f)
    → (f : ℕ) → IsTrue (is_kept (s.frame f)) → u.frame f ≡ s.frame f
then_kept s t u a b f kept = b f (subst (λ x. IsTrue (is_kept x)) (sym (a f kept)) kept) ∙ a f kept

thread_put : (s : State) (g : ℕ) (t : ThreadFields) (f : ℕ) → IsTrue (is_kept (s.frame f))
    → put s.frame g (with_thread (s.frame g) t) f ≡ s.frame f
thread_put s g t = put_kept s g _ (thread_kept (s.frame g) t)

budget_put : (s : State) (g n f : ℕ) → IsTrue (is_kept (s.frame f)) → (with_budget s g n).frame f ≡ s.frame f
budget_put s g n = put_kept s g _ (tcap_kept (s.frame g) _)

-- A place that holds nothing is filled.
not_held : (p : Place) (k : Capability) → held_in p ≡ None → p ≡ Holds k → ⊥
not_held (Holds j) k e q = some_none j e
not_held _ k e q = cc

-- A frame is put, and places stay.
frame_kept : (s : State) (begins ends : Thing → Bool) (f : ℕ) (x : Frame) → ((g i : ℕ) → begins (PlaceOf g i) ≡ false)
    → (IsTrue (is_kept (s.frame f)) → x ≡ s.frame f) → (t : State) → t.frame ≡ put s.frame f x → t.place ≡ s.place → KeptBy s t begins ends
frame_kept s begins ends f x none h t frame place = placed s t begins ends none
    (λ g kept. inl (ap (λ (r : ℕ → Frame). r g) frame ∙ put_kept s f x h g kept)) (λ g i. ap (λ (r : ℕ → ℕ → Place). r g i) place)

edit_keeps : (c : ℕ) (s : State) (e : Edit) → Known c s e
    → KeptBy s (edited c s e) (λ x. list_any (same_thing x) (begins_in c s e)) (ends_in e)
edit_keeps c s (Fill at k) known = record {
  removed = λ f i b. absurd (false≢true b);
  frame = λ f kept. inl refl;
  holds = λ f i j. place_all (λ f i p. s.place f i ≡ Holds j → (p ≡ Holds j) ⊎ ((false ≡ true) ⊎ (false ≡ true)))
      s at.node at.index (Holds k) f i
      (λ same index e. absurd
      (not_held (s.place f i) j (ap (λ n. held_in (s.place n i)) same ∙ ap (λ n. held_in (s.place at.node n)) index ∙ known.1) e))
      (λ e. inl e);
  quiescing =
      λ f i j. place_all (λ f i p. p ≡ Quiescing j → (s.place f i ≡ Quiescing j) ⊎ (s.place f i ≡ Holds j)) s at.node at.index (Holds k) f i
      (λ same index q. absurd (holds_quiescing k j q)) (λ q. inl q);
}
edit_keeps c s (Remove at k) known = record {
  removed = λ f i b. by_place f i (f == at.node && i == at.index) refl b;
  frame = λ f kept. inl refl;
  holds = λ f i j is. place_all (λ f i p. s.place f i ≡ Holds j → (p ≡ Holds j)
      ⊎ ((list_any (same_thing (PlaceOf f i)) (begins_in c s (Remove at k)) ≡ true) ⊎ (false ≡ true)))
      s at.node at.index (Quiescing k) f i
      (λ same index q. inr
      (inl (or_left (f == at.node && i == at.index) (list_any (same_thing (PlaceOf f i)) (frames_of (place_names (Holds k))))
      (and_from (f == at.node) (i == at.index) (eq-eqb f at.node same) (eq-eqb i at.index index))))) (λ q. inl q) is;
  quiescing =
      λ f i j. place_all (λ f i p. p ≡ Quiescing j
      → (s.place f i ≡ Quiescing j) ⊎ (s.place f i ≡ Holds j)) s at.node at.index (Quiescing k) f i
      (λ same index q. inr (ap (λ n. s.place n i) same ∙ ap (s.place at.node) index
      ∙ known.1 ∙ ap Holds (quiescing_inj k j q))) (λ q. inl q);
}
  where
    by_place : (f i : ℕ) (t : Bool) → (f == at.node && i == at.index) ≡ t
        → (t || list_any (same_thing (PlaceOf f i)) (frames_of (place_names (Holds k)))) ≡ true
        → IsTrue (is_some (held_in (s.place f i)))
    by_place f i true is b =
        let p = and_parts (f == at.node) (i == at.index) is in
        ap (λ n. is_some (held_in (s.place n i))) (eqb-true f at.node p.0)
        ∙ ap (λ n. is_some (held_in (s.place at.node n))) (eqb-true i at.index p.1)
        ∙ ap (λ p. is_some (held_in p)) known.1
    by_place f i false is b = absurd (false≢true (sym (frames_no_place f i (place_names (Holds k))) ∙ b))
edit_keeps c s (Node f object) known = record {
  removed = λ g i b. absurd (false≢true b);
  frame = λ g kept. inl (put_kept s f (Kernel object) (bare_kept (s.frame f) (Kernel object) known.2.bare) g kept);
  holds = λ g i j. put_all (λ g r. s.place g i ≡ Holds j
      → (r i ≡ Holds j) ⊎ ((false ≡ true) ⊎ (ends_in (Node f object) (PlaceOf g i) ≡ true)))
      s.place f (λ i. Free) g (λ same e. inr (inr (eq-eqb g f same))) (λ other e. inl e);
  quiescing = λ g i j. put_all (λ g r. r i ≡ Quiescing j → (s.place g i ≡ Quiescing j) ⊎ (s.place g i ≡ Holds j))
      s.place f (λ i. Free) g (λ same e. absurd (free_quiescing j e)) (λ other e. inl e);
}
edit_keeps c s (Become f x) known = frame_kept s _ _ f x (λ g i. refl) (bare_kept (s.frame f) x known.1.bare) _ refl refl
edit_keeps c s (Component f k) known = frame_kept s _ _ f (Kernel (Comp k)) (λ g i. refl) (bare_kept (s.frame f) _ known.bare) _ refl refl
edit_keeps c s (Untype f) known = placed s _ _ _ (λ g i. frames_no_place g i (frame_names (s.frame f)))
    (λ g kept. put_all (λ g x. (x ≡ s.frame g) ⊎ (ends_in (Untype f) (FrameOf g) ≡ true)) s.frame f Untyped g
    (λ at. inr (eq-eqb g f at)) (λ other. inl refl)) (λ g i. refl)
edit_keeps c s (Deaden l e) known =
    placed s _ _ _ (λ f i. frames_no_place f i (number_names (s.number l))) (λ f kept. inl refl) (λ f i. refl)
edit_keeps c s (Push f) known =
    frame_kept s _ _ (s.core c).thread _ (λ g i. refl) (thread_kept (s.frame (s.core c).thread) _) _ refl refl
edit_keeps c s Pop known = frame_kept s _ _ (s.core c).thread _ (λ g i. frames_no_place g i (take 1 (thread_of s c).stack))
    (thread_kept (s.frame (s.core c).thread) _) _ refl refl
edit_keeps c s (Switch h q) known = placed s _ _ _
    (λ f i. frames_no_place f i ((s.core c).thread ∷ (if q == (s.core c).tcap then [] else (s.core c).tcap ∷ [])))
    (λ f kept. inl (then_kept s (running s (s.core c).thread None) (running (running s (s.core c).thread None) h (Some c))
    (thread_put s (s.core c).thread _) (thread_put (running s (s.core c).thread None) h _) f kept)) (λ f i. refl)
edit_keeps c s (Charge n) known =
    frame_kept s _ _ (s.core c).tcap _ (λ g i. refl) (tcap_kept (s.frame (s.core c).tcap) _) _ refl refl
edit_keeps c s (Move a b m) known = placed s _ _ _ (λ f i. refl)
    (λ f kept. inl (then_kept s (with_budget s a ((tcap_at s a).budget - m)) (moved s a b m) (budget_put s a ((tcap_at s a).budget - m))
    (put_kept (with_budget s a ((tcap_at s a).budget - m)) b _
    (tcap_kept ((with_budget s a ((tcap_at s a).budget - m)).frame b) _)) f kept)) (λ f i. refl)
edit_keeps c s (Merge f qs) known = frame_kept s _ _ f _ (λ g i. refl) (tcap_kept (s.frame f) _) _ refl refl
edit_keeps c s (Give f m) known = frame_kept s _ _ f _ (λ g i. refl) (tcap_kept (s.frame f) _) _ refl refl
edit_keeps c s _ known = placed s _ _ _ (λ f i. refl) (λ f kept. inl refl) (λ f i. refl)

later_keep : (c : ℕ) (s : State) (es : List Edit) → AreLater es → Each Known c s es
    → KeptBy s (after_edits c s es) (λ x. false) (λ x. false)
later_keep c s [] are known = placed s _ _ _ (λ f i. refl) (λ f kept. inl refl) (λ f i. refl)
later_keep c s (Fill at k ∷ es) are known = kept_then s _ _ _ _ (edit_keeps c s (Fill at k) known.0)
    (later_keep c (edited c s (Fill at k)) es are known.1)
later_keep c s (Merge f qs ∷ es) are known = kept_then s _ _ _ _ (edit_keeps c s (Merge f qs) known.0)
    (later_keep c (edited c s (Merge f qs)) es are known.1)
later_keep c s (_ ∷ es) are known = absurd are

edits_keep : (c : ℕ) (s : State) (es : List Edit) → Calm c s es → Each Known c s es
    → KeptBy s (after_edits c s es) (λ x. list_any (same_thing x) (begins_all c s es)) (ends_all es)
edits_keep c s [] calm known = placed s _ _ _ (λ f i. refl) (λ f kept. inl refl) (λ f i. refl)
edits_keep c s (e ∷ es) calm known = kept_same s (after_edits c s (e ∷ es)) _ _ _ _
    (λ x. ap (list_any (same_thing x)) (sym calm.0)) (λ x. sym (calm.1 x))
    (kept_then s (edited c s e) _ _ _ (edit_keeps c s e known.0) (later_keep c (edited c s e) es calm.2 known.1))

-- The change of a call.
abbrev KeepsBy : State → Call → Change → Type 0
KeepsBy s call change = KeptBy s change.next (λ x. list_any (same_thing x) change.begins) (ends_by call)

keeps_by : (s : State) (o : ℕ → Bool) (c : ℕ) → IsOpen s o c → (call : Call) (v : Value) (es : List Edit) → Edits call c s es
    → KeepsBy s call (does c s v es)
keeps_by s o c h call v es e =
    kept_same s (after_edits c s es) _ _ _ _ (λ x. refl) (λ x. sym (e.agrees.0 x)) (edits_keep c s es e.calm (e.known o h))

found_kept : (s : State) (call : Call) (v : Value) (x : Judged Change) → IfFound x (KeepsBy s call) → IsFoundAnd x (λ k. k.value ≡ v)
    → KeptBy s (changed s x) (begun_in x) (ends_by call)
found_kept s call v (Refused r) by ok = absurd ok
found_kept s call v (Found change) by ok =
    record { frame = by.frame; holds = by.holds; quiescing = by.quiescing; removed = by.removed }

refused_kept : (s : State) (c : ℕ) (call : Call) (r : Reply) → ((f : ℕ) → (state_by s c call r).frame f ≡ s.frame f)
    → ((f i : ℕ) → (state_by s c call r).place f i ≡ s.place f i)
    → ((x : Thing) → begins s c call r x ≡ false) → Kept s c call r
refused_kept s c call r frame place none =
    placed s (state_by s c call r) _ _ (λ f i. none (PlaceOf f i)) (λ f kept. inl (frame f)) place

owed_frame : (s : State) (c : ℕ) (call : Call) (f : ℕ) → (owed_by s c call).frame f ≡ s.frame f
owed_frame s c (Tick n) f = refl
owed_frame s c _ f = refl

owed_place : (s : State) (c : ℕ) (call : Call) (f i : ℕ) → (owed_by s c call).place f i ≡ s.place f i
owed_place s c (Tick n) f i = refl
owed_place s c _ f i = refl

pub decided_kept : (s : State) (o : ℕ → Bool) (c : ℕ) (call : Call) (r : Reply) → IsOpen s o c → MayReply s c call r → Kept s c call r
decided_kept s o c call (Reply.Ok v) h may =
    let k = found_kept s call v (change_of s c call) (found_by s c call (KeepsBy s call) (keeps_by s o c h call)) may.1.1 in
    record { frame = k.frame; holds = k.holds; quiescing = k.quiescing; removed = k.removed }
decided_kept s o c call Reply.CallsSpent h may = refused_kept s c call Reply.CallsSpent (λ f. refl) (λ f i. refl) (λ x. refl)
decided_kept s o c call Reply.Raced h may = refused_kept s c call Reply.Raced (owed_frame s c call) (owed_place s c call) (λ x. refl)
decided_kept s o c call (Reply.Busy e) h may = refused_kept s c call (Reply.Busy e) (owed_frame s c call) (owed_place s c call) (λ x. refl)
decided_kept s o c call r h may = refused_kept s c call r (λ f. refl) (λ f i. refl) (λ x. refl)
