-- What is known of a sound state in which the call of a core is open, and steps that keep it sound.
use Rattle.kernel_rules.proofs.{◌≡◌, inl, inr, ℕ, zero, suc, ◌+◌, ◌-◌, ◌<◌, ◌≤◌, Bool, true, false, not, ◌&&◌, ◌||◌, refl, sym, ◌∙◌, ap}
use Rattle.kernel_rules.proofs.{subst, arith, ltb as nat_lt, leb as nat_le, if◌then◌else◌, IsTrue, List, [], ◌∷◌, length, drop, Option}
use Rattle.kernel_rules.proofs.{Some, None, is_some, false≢true, ltb-true, ltb-false, lt-ltb, Capability, part_of, Kind, Holds}
use Rattle.kernel_rules.proofs.{ThreadFields, TcapFields, Blank, Table, Leaf, Pages, Pleaf, Comp, Thread, Tcap, Frame, Untyped, User}
use Rattle.kernel_rules.proofs.{Kernel, Core, put, with_frame, with_core, thread_in, Slot, found, to_use, Target, held_in, only, root}
use Rattle.kernel_rules.proofs.{flushed, Cause, Found, named, vacant, first_cause, refusal_of, leaf_of, has_frame, outside, is_frame}
use Rattle.kernel_rules.proofs.{is_blank, not_blank, has_frames, is_untyped, is_user, holds_nothing, is_empty, with_thread, running}
use Rattle.kernel_rules.proofs.{with_tcap, with_budget, tcap_at, moved, frames_in, fits, IsGood, EndsWithin, is_node, Reply}
use Rattle.kernel_invariant.proofs.Sound.{AreComps, IsStack, IsObjectGood, IsSound, only_is, Extends, put_all, frame_step}
use Rattle.kernel_invariant.proofs.Facts.{named_good, RootIsNode, reached_node, vacant_facts, when_not, not_not, first_two, none_parts}
use Rattle.{std.proofs.lemmas.Bool.cases_eq, std.proofs.lemmas.Bool.and_parts, kernel_rules.specs.beyond, kernel_rules.specs.not_untyped}
use Rattle.{std.specs.List.list_any, std.specs.List.range_with_len, kernel_rules.specs.State.State}
use Rattle.{kernel_invariant.proofs.SoundSteps.core_step, kernel_invariant.proofs.SoundSteps.grace_step}
use Rattle.{kernel_invariant.proofs.SoundRemovals.below_by}

-- A sound state in which core c's call is open.
pub record IsOpen (s : State) (o : ℕ → Bool) (c : ℕ) : Type 0 where
  pub sound : IsSound s o
  pub is : o c ≡ true

-- The slot of a vacant target is in a node.
pub node_of : (s : State) (o : ℕ → Bool) (c : ℕ) (target : Target) (at : Slot) → IsOpen s o c → RootIsNode s target
    → vacant s c target ≡ Found at → IsTrue (is_node (s.frame at.node)) × (at.index < 64)
node_of s o c target at h node e = reached_node s o c target at h.sound h.is node (vacant_facts s c target at e).0

pub root_node : (k : Kind) (x : Frame) → IsTrue (root k) → IsTrue (fits k x) → IsTrue (is_node x)
root_node Kind.Table (Kernel Table) r h = refl
root_node Kind.Table Untyped r h = absurd (false≢true h)
root_node Kind.Table User r h = absurd (false≢true h)
root_node Kind.Table (Kernel _) r h = absurd (false≢true h)
root_node Kind.Pages (Kernel Pages) r h = refl
root_node Kind.Pages Untyped r h = absurd (false≢true h)
root_node Kind.Pages User r h = absurd (false≢true h)
root_node Kind.Pages (Kernel _) r h = absurd (false≢true h)
root_node _ x r h = absurd (false≢true r)

pub leaf_link : (j : Kind) (x : Frame) → IsTrue (fits (leaf_of j) x) → IsTrue (fits Kind.Link x)
leaf_link Kind.Table x h = leaf x h
  where
    leaf : (x : Frame) → IsTrue (fits Kind.Leaf x) → IsTrue (fits Kind.Link x)
    leaf (Kernel Leaf) h = refl
    leaf _ h = absurd (false≢true h)
leaf_link _ x h = pleaf x h
  where
    pleaf : (x : Frame) → IsTrue (fits Kind.Pleaf x) → IsTrue (fits Kind.Link x)
    pleaf (Kernel Pleaf) h = refl
    pleaf _ h = absurd (false≢true h)

blank_is : (x : Frame) → is_blank x ≡ true → x ≡ Kernel Blank
blank_is (Kernel Blank) h = refl
blank_is _ h = absurd (false≢true h)

pub untyped_is : (x : Frame) → is_untyped x ≡ true → x ≡ Untyped
untyped_is Untyped h = refl
untyped_is _ h = absurd (false≢true h)

pub user_is : (x : Frame) → is_user x ≡ true → x ≡ User
user_is User h = refl
user_is _ h = absurd (false≢true h)

-- A frame of a named range is a frame of the machine.
pub in_range : (s : State) (o : ℕ → Bool) (c r f : ℕ) (range : Capability) → IsOpen s o c
    → named s c r (to_use (only Kind.Range)) ≡ Found range
    → refusal_of s c (outside (found range) f) ≡ None → f < s.limits.frames
in_range s o c r f range h e none =
    let a : IsGood s range × IsTrue (only Kind.Range range.kind) = named_good s o c r (to_use (only Kind.Range)) range h.sound h.is e in
    let ends : EndsWithin Kind.Range range.frame range.arg s.limits.frames =
    subst (λ k. EndsWithin k range.frame range.arg s.limits.frames) (only_is Kind.Range range.kind a.1) a.0.within in
    let has : has_frame (found range) f ≡ true =
    not_not (has_frame (found range) f) (when_not (not (has_frame (found range) f)) Reply.OutOfRange none) in
    let below : f < range.frame + range.arg =
    ltb-true f (range.frame + range.arg) (and_parts (nat_le range.frame f) (nat_lt f (range.frame + range.arg)) has).1 in
    omega (arith, ends, below)

-- A frame of the machine is of the kind that a cause of `frame-kind` asks for, where the cause does not stand.
pub kind_by : (s : State) (f : ℕ) (wanted : Bool) → f < s.limits.frames
    → (if is_frame s f && not wanted then Some Reply.FrameKind else None) ≡ None → wanted ≡ true
kind_by s f wanted below none =
    not_not wanted (sym (ap (λ b. b && not wanted) (lt-ltb f s.limits.frames below))
    ∙ when_not (is_frame s f && not wanted) Reply.FrameKind none)

-- Where no cause of a `make` stands, its frame is a blank frame of the machine.
pub blank_by : (s : State) (o : ℕ → Bool) (c r f : ℕ) (range : Capability) (causes : List Cause)
    → IsOpen s o c → named s c r (to_use (only Kind.Range)) ≡ Found range
    → first_cause s c (outside (found range) f ∷ not_blank s f ∷ causes) ≡ None → (f < s.limits.frames) × (s.frame f ≡ Kernel Blank)
blank_by s o c r f range causes h e calm =
    let p = first_two s c (outside (found range) f) (not_blank s f) causes calm in
    let below : f < s.limits.frames = in_range s o c r f range h e p.0 in
    (below, blank_is (s.frame f) (kind_by s f (is_blank (s.frame f)) below p.1))

-- Where no cause of a retype to user or kernel stands, its frame is an untyped frame of the machine.
pub untyped_by : (s : State) (o : ℕ → Bool) (c r f : ℕ) (range : Capability) → IsOpen s o c
    → named s c r (to_use (only Kind.Range)) ≡ Found range
    → first_cause s c (outside (found range) f ∷ not_untyped s f ∷ []) ≡ None → (f < s.limits.frames) × (s.frame f ≡ Untyped)
untyped_by s o c r f range h e calm =
    let p = first_two s c (outside (found range) f) (not_untyped s f) [] calm in
    let below : f < s.limits.frames = in_range s o c r f range h e p.0 in
    (below, untyped_is (s.frame f) (kind_by s f (is_untyped (s.frame f)) below p.1))

-- A node that holds nothing holds nothing at any index.
any_not : (p : ℕ → Bool) (a n i : ℕ) → not (list_any p (range_with_len a n)) ≡ true → a ≤ i → i < a + n → p i ≡ false
any_not p a zero i e low high = absurd (omega (arith, low, high))
any_not p a (suc n) i e low high = tested (any_not p (a + 1) n i) (p a) refl e
  where
    tested : (not (list_any p (range_with_len (a + 1) n)) ≡ true → a + 1 ≤ i → i < (a + 1) + n → p i ≡ false)
        → (t : Bool) → p a ≡ t → not (t || list_any p (range_with_len (a + 1) n)) ≡ true → p i ≡ false
    tested more true is q = absurd (false≢true q)
    tested more false is q = elim (cases_eq i a) [
      | inl same ↦ ap p same ∙ is
      | inr other ↦ more q (omega (arith, low, other)) (omega arith)
    ]

pub nothing_held : (s : State) (f i : ℕ) (k : Capability) → holds_nothing s f ≡ true → i < 64 → s.place f i ≡ Holds k → ⊥
unfolding holds_nothing
nothing_held s f i k e small p =
    false≢true (sym (any_not (λ i. is_some (held_in (s.place f i))) 0 64 i e (omega arith) small) ∙ ap (λ x. is_some (held_in x)) p)

pub empty_node : (s : State) (f : ℕ) (x : Frame) → is_empty s f x ≡ true → IsTrue (is_node x) → holds_nothing s f ≡ true
empty_node s f (Kernel Table) e n = e
empty_node s f (Kernel Leaf) e n = e
empty_node s f (Kernel Pages) e n = e
empty_node s f (Kernel Pleaf) e n = e
empty_node s f _ e n = absurd (false≢true n)

pub zero_refs : (n : ℕ) → nat_lt 0 n ≡ false → n ≡ 0
zero_refs n e = let p = ltb-false 0 n e in omega (arith, p)

-- A core keeps its thread and temporal capability.
pub core_keeps : (s : State) (o : ℕ → Bool) (c : ℕ) (k : Core)
    → k.inside ≡ (s.core c).inside → k.thread ≡ (s.core c).thread → k.tcap ≡ (s.core c).tcap
    → IsSound s o → IsSound (with_core s c k) o
core_keeps s o c k inside thread tcap h =
    core_step s o c k inside (λ m. (
      subst (λ f. IsTrue (fits Kind.Thread (s.frame f))) (sym thread) (h.cores c m).0,
      subst (λ f. IsTrue (fits Kind.Tcap (s.frame f))) (sym tcap) (h.cores c m).1,
    )) h

pub flush_keeps : (s : State) (o : ℕ → Bool) (c : ℕ) → IsOpen s o c → IsSound (flushed s c) o
flush_keeps s o c h =
    grace_step (with_core s c (record (s.core c) { cached = [] })) o
    (λ x. record (s.grace x) { unflushed = put (s.grace x).unflushed c false })
    (λ f i d q w. w) (λ f d q w. w) (core_keeps s o c (record (s.core c) { cached = [] }) refl refl refl h.sound)

-- Each call of invocation.
pub gate_comp : (x : Frame) → IsTrue (fits Kind.Gate x) → IsTrue (fits Kind.Comp x)
gate_comp (Kernel (Comp k)) h = refl
gate_comp _ h = absurd (false≢true h)

pub comp_gate : (x : Frame) → IsTrue (fits Kind.Comp x) → IsTrue (fits Kind.Gate x)
comp_gate (Kernel (Comp k)) h = refl
comp_gate _ h = absurd (false≢true h)

pub thread_extends : (x : Frame) (t : ThreadFields) → Extends x (with_thread x t)
thread_extends (Kernel (Thread u)) t = record { fit = λ k h. thread_kind k h; node = λ h. h }
  where
    thread_kind : (k : Kind) → IsTrue (fits k (Kernel (Thread u))) → IsTrue (fits k (Kernel (Thread t)))
    thread_kind Kind.Range h = refl
    thread_kind Kind.Thread h = refl
    thread_kind _ h = absurd (false≢true h)
thread_extends _ t = record { fit = λ k h. h; node = λ h. h }

thread_good : (s : State) (x : Frame) (t : ThreadFields) → IsObjectGood s x
    → (IsStack s (thread_in x).stack → IsStack s t.stack) → IsObjectGood s (with_thread x t)
thread_good s (Kernel (Thread u)) t h stack = stack h
thread_good s _ t h stack = h

-- A thread of the machine is changed.
pub thread_step : (s : State) (o : ℕ → Bool) (f : ℕ) (t : ThreadFields) → f < s.limits.frames
    → (IsStack s (thread_in (s.frame f)).stack → IsStack s t.stack) → IsSound s o → IsSound (with_frame s f (with_thread (s.frame f) t)) o
thread_step s o f t below stack h =
    frame_step s o f (with_thread (s.frame f) t) below (thread_extends (s.frame f) t) (thread_good s (s.frame f) t (h.objects f) stack) h

pub thread_below : (s : State) (o : ℕ → Bool) (f : ℕ) → IsSound s o → IsTrue (fits Kind.Thread (s.frame f)) → f < s.limits.frames
thread_below s o f h fit = below_by s o f h (fits Kind.Thread) refl fit

pub own_thread : (s : State) (o : ℕ → Bool) (c : ℕ) → IsOpen s o c → (s.core c).thread < s.limits.frames
own_thread s o c h = thread_below s o (s.core c).thread h.sound (h.sound.cores c (h.sound.inside c h.is).1).0

pub stack_comps : (s : State) (fs : List ℕ) → IsStack s fs → AreComps s fs
stack_comps s [] h = absurd h
stack_comps s (f ∷ fs) h = (h.0, h.1)

pub popped : (s : State) (fs : List ℕ) → 1 < length fs → IsStack s fs → IsStack s (drop 1 fs)
popped s [] e h = absurd h
popped s (f ∷ []) e h = absurd (omega (arith, e))
popped s (f ∷ g ∷ fs) e h = (h.1.0, h.1.1)

pub running_step : (s : State) (o : ℕ → Bool) (f : ℕ) (core : Option ℕ) → f < s.limits.frames → IsSound s o → IsSound (running s f core) o
running_step s o f core below h = thread_step s o f (record (thread_in (s.frame f)) { runs_on = core }) below (λ stack. stack) h

pub running_fit : (s : State) (f : ℕ) (core : Option ℕ) (k : Kind) (g : ℕ)
    → IsTrue (fits k (s.frame g)) → IsTrue (fits k ((running s f core).frame g))
running_fit s f core k g h =
    put_all (λ g x. IsTrue (fits k x)) s.frame f (with_thread (s.frame f) (record (thread_in (s.frame f)) { runs_on = core })) g
    (λ same. (thread_extends (s.frame f) (record (thread_in (s.frame f)) { runs_on = core })).fit
    k (subst (λ n. IsTrue (fits k (s.frame n))) same h)) (λ other. h)

-- Each call of time.
tcap_extends : (x : Frame) (q : TcapFields) → Extends x (with_tcap x q)
tcap_extends (Kernel (Tcap p)) q = record { fit = λ k h. tcap_kind k h; node = λ h. h }
  where
    tcap_kind : (k : Kind) → IsTrue (fits k (Kernel (Tcap p))) → IsTrue (fits k (Kernel (Tcap q)))
    tcap_kind Kind.Range h = refl
    tcap_kind Kind.Tcap h = refl
    tcap_kind _ h = absurd (false≢true h)
tcap_extends _ q = record { fit = λ k h. h; node = λ h. h }

tcap_good : (s : State) (x : Frame) (q : TcapFields) → IsObjectGood s x → IsObjectGood s (with_tcap x q)
tcap_good s (Kernel (Tcap p)) q h = tt
tcap_good s _ q h = h

pub tcap_step : (s : State) (o : ℕ → Bool) (f : ℕ) (q : TcapFields) → f < s.limits.frames
    → IsSound s o → IsSound (with_frame s f (with_tcap (s.frame f) q)) o
tcap_step s o f q below h =
    frame_step s o f (with_tcap (s.frame f) q) below (tcap_extends (s.frame f) q) (tcap_good s (s.frame f) q (h.objects f)) h

pub tcap_below : (s : State) (o : ℕ → Bool) (f : ℕ) → IsSound s o → IsTrue (fits Kind.Tcap (s.frame f)) → f < s.limits.frames
tcap_below s o f h fit = below_by s o f h (fits Kind.Tcap) refl fit

pub moved_step : (s : State) (o : ℕ → Bool) (a b m : ℕ) → a < s.limits.frames → b < s.limits.frames
    → IsSound s o → IsSound (moved s a b m) o
moved_step s o a b m from to h =
    let first : State = with_budget s a ((tcap_at s a).budget - m) in
    tcap_step first o b (record (tcap_at first b) { budget = (tcap_at s b).budget + m }) to
    (tcap_step s o a (record (tcap_at s a) { budget = (tcap_at s a).budget - m }) from h)

-- A part of a range has frames of the machine alone, where that has.
pub within_by : (s : State) (c : ℕ) (range : Capability) (f n : ℕ) → first_cause s c (beyond (found range) f n ∷ []) ≡ None
    → has_frames (found range) f n ≡ true
within_by s c range f n calm =
    let p = none_parts (refusal_of s c (beyond (found range) f n)) None calm in
    not_not (has_frames (found range) f n) (when_not (not (has_frames (found range) f n)) Reply.OutOfRange p.0)

pub part_good : (s : State) (range : Capability) (f n : ℕ) → IsGood s range → IsTrue (only Kind.Range range.kind)
    → has_frames (found range) f n ≡ true → IsGood s (part_of range f n)
part_good s range f n good is has =
    let ends : EndsWithin Kind.Range range.frame range.arg s.limits.frames =
    subst (λ k. EndsWithin k range.frame range.arg s.limits.frames) (only_is Kind.Range range.kind is) good.within in
    let last = (frames_in (found range) f n has).last in
    record { fit = refl; within = omega (arith, ends, last) }
