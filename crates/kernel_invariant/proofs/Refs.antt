-- Every edit changes the references to a frame by those that it takes less those that it releases.
use Rattle.kernel_rules.proofs.{◌≡◌, ℕ, ◌+◌, ◌-◌, ◌<◌, Bool, true, false, refl, sym, ◌∙◌, ap, arith, ◌==◌, if◌then◌else◌, IsTrue, List, []}
use Rattle.kernel_rules.proofs.{◌∷◌, ◌++◌, take, drop, Option, Some, None, false≢true, true≢false, eqb-true, Capability, InLimits, Call}
use Rattle.kernel_rules.proofs.{Place, Free, Holds, Quiescing, ThreadFields, TcapFields, Comp, Blank, Thread, Tcap, Frame, Untyped, Kernel}
use Rattle.kernel_rules.proofs.{Liveness, Live, Dead, Core, Thing, FrameOf, put, with_place, with_frame, with_number, with_core, with_grace}
use Rattle.kernel_rules.proofs.{Grace, thread_in, thread_of, place_names, frame_names, number_names, core_names, sum_below, times}
use Rattle.kernel_rules.proofs.{node_refs, refs, held_in, Value, Change, does, frames_of, cleared, with_thread, with_stack, running}
use Rattle.kernel_rules.proofs.{tcap_at, with_tcap, with_budget, Edit, Fill, is_live, Node, Become, Untype, Component, Deaden, Push, Pop}
use Rattle.kernel_rules.proofs.{Cache, Charge, Move, Merge, rule_of, Give, edited, after_edits, begins_all, fits, put_same, put_other, Kind}
use Rattle.kernel_rules.specs.{State.State, Edits.Remove, Edits.Switch, Edits.Flush, Edits.takes_in, Edits.begins_in, Edits.takes_all}
use Rattle.kernel_rules.specs.{Laws.released}
use Rattle.kernel_invariant.proofs.{Sums.sum_same, Sums.sum_one, Sums.times_cons, Sums.times_append, Sound.put_all, Facts.ChangesFrom}
use Rattle.kernel_invariant.proofs.{Facts.some_none, SoundCalls.IsOpen, Edited.is_bare, Edited.Tested, Edited.Limited, Edited.Known}
use Rattle.kernel_invariant.proofs.{Edited.Each, Edited.Edits, Edited.HasThread, Edited.rule_by}

-- What a change of a place makes of the references.
pub place_refs : (s : State) (g i : ℕ) (p : Place) (f : ℕ) → g < s.limits.frames → i < 64
    → refs (with_place s g i p) f + times f (place_names (s.place g i)) ≡ refs s f + times f (place_names p)
unfolding refs node_refs
place_refs s g i p f below small =
    let new : State = with_place s g i p in
    let row : new.place g ≡ put (s.place g) i p = put_same s.place g (put (s.place g) i p) g refl in
    let a = sum_one (node_refs s f) (node_refs new f) s.limits.frames g below
    (λ j other. ap (λ r. sum_below (λ i. times f (place_names (r i))) 64) (put_other s.place g (put (s.place g) i p) j other)) in
    let b = sum_one (λ j. times f (place_names (s.place g j))) (λ j. times f (place_names (new.place g j))) 64 i small
    (λ j other. ap (λ r. times f (place_names (r j))) row ∙ ap (λ x. times f (place_names x)) (put_other (s.place g) i p j other)) in
    let c : times f (place_names (new.place g i)) ≡ times f (place_names p) =
    ap (λ r. times f (place_names (r i))) row ∙ ap (λ x. times f (place_names x)) (put_same (s.place g) i p i refl) in
    omega (arith, a, b, c)

-- What a change of a frame makes of them.
pub frame_refs : (s : State) (g : ℕ) (y : Frame) (f : ℕ) → g < s.limits.frames
    → refs (with_frame s g y) f + times f (frame_names (s.frame g)) ≡ refs s f + times f (frame_names y)
unfolding refs node_refs
frame_refs s g y f below =
    let a = sum_one (λ j. times f (frame_names (s.frame j))) (λ j. times f (frame_names (put s.frame g y j))) s.limits.frames g below
    (λ j other. ap (λ x. times f (frame_names x)) (put_other s.frame g y j other)) in
    let b : times f (frame_names (put s.frame g y g)) ≡ times f (frame_names y) =
    ap (λ x. times f (frame_names x)) (put_same s.frame g y g refl) in
    omega (arith, a, b)

-- What a change of a core makes of them.
pub core_refs : (s : State) (c : ℕ) (k : Core) (f : ℕ) → c < s.limits.cores
    → refs (with_core s c k) f + times f (core_names (s.core c)) ≡ refs s f + times f (core_names k)
unfolding refs node_refs
core_refs s c k f below =
    let a = sum_one (λ j. times f (core_names (s.core j))) (λ j. times f (core_names (put s.core c k j))) s.limits.cores c below
    (λ j other. ap (λ x. times f (core_names x)) (put_other s.core c k j other)) in
    let b : times f (core_names (put s.core c k c)) ≡ times f (core_names k) =
    ap (λ x. times f (core_names x)) (put_same s.core c k c refl) in
    omega (arith, a, b)

-- What a change of a liveness number makes of them.
pub number_refs : (s : State) (l : ℕ) (x : Liveness) (f : ℕ) → l < 64
    → refs (with_number s l x) f + times f (number_names (s.number l)) ≡ refs s f + times f (number_names x)
unfolding refs node_refs
number_refs s l x f small =
    let a = sum_one (λ j. times f (number_names (s.number j))) (λ j. times f (number_names (put s.number l x j))) 64 l small
    (λ j other. ap (λ x. times f (number_names x)) (put_other s.number l x j other)) in
    let b : times f (number_names (put s.number l x l)) ≡ times f (number_names x) =
    ap (λ x. times f (number_names x)) (put_same s.number l x l refl) in
    omega (arith, a, b)

-- Grace periods are no references.
pub grace_refs : (s : State) (g : Thing → Grace) (f : ℕ) → refs (with_grace s g) f ≡ refs s f
unfolding refs node_refs
grace_refs s g f = refl

-- Places of a frame that hold nothing are freed.
pub cleared_refs : (s : State) (g f : ℕ) → ((i : ℕ) (k : Capability) → s.place g i ≡ Holds k → ⊥) → refs (cleared s g) f ≡ refs s f
unfolding refs node_refs
cleared_refs s g f bare =
    let a = sum_same (node_refs s f) (node_refs (cleared s g) f) s.limits.frames (λ j below.
    sum_same (λ i. times f (place_names (s.place j i))) (λ i. times f (place_names ((cleared s g).place j i))) 64 (λ i small.
    put_all (λ j r. times f (place_names (r i)) ≡ times f (place_names (s.place j i))) s.place g (λ i. Free) j
    (λ same. sym (ap (times f) (none (s.place j i) (λ k e. bare i k (sym (ap (λ n. s.place n i) same) ∙ e))))) (λ other. refl))) in
    omega (arith, a)
  where
    none : (p : Place) → ((k : Capability) → p ≡ Holds k → ⊥) → place_names p ≡ []
    none (Holds k) e = absurd (e k refl)
    none _ e = refl

-- The change takes and releases what the references change by.
abbrev pub RefsBy : State → Change → Type 0
RefsBy s change = (f : ℕ) → refs change.next f + times f (released change.begins) ≡ refs s f + times f change.takes

released_frames : (fs : List ℕ) → released (frames_of fs) ≡ fs
released_frames [] = refl
released_frames (f ∷ fs) = ap (λ xs. f ∷ xs) (released_frames fs)

not_held_names : (p : Place) → held_in p ≡ None → place_names p ≡ []
not_held_names (Holds k) e = absurd (some_none k e)
not_held_names _ e = refl

not_live_names : (x : Liveness) → is_live x ≡ false → number_names x ≡ []
not_live_names (Live d f) e = absurd (true≢false e)
not_live_names _ e = refl

bare_names : (x : Frame) → IsTrue (is_bare x) → frame_names x ≡ []
bare_names (Kernel Blank) h = refl
bare_names Untyped h = refl
bare_names _ h = absurd (false≢true h)

-- The stack that is put into a frame with a thread is its references.
stack_names : (x : Frame) (t : ThreadFields) → IsTrue (fits Kind.Thread x)
    → (frame_names (with_thread x t) ≡ t.stack) × (frame_names x ≡ (thread_in x).stack)
stack_names (Kernel (Thread u)) t h = (refl, refl)
stack_names _ t h = absurd (false≢true h)

running_names : (x : Frame) (core : Option ℕ) → frame_names (with_thread x (record (thread_in x) { runs_on = core })) ≡ frame_names x
running_names (Kernel (Thread u)) core = refl
running_names _ core = refl

tcap_names : (x : Frame) (q : TcapFields) → frame_names (with_tcap x q) ≡ frame_names x
tcap_names (Kernel (Tcap u)) q = refl
tcap_names _ q = refl

-- A core that keeps its thread and temporal capability keeps its references, and so does a frame that names the same.
same_core : (s : State) (c : ℕ) (k : Core) (f : ℕ) → c < s.limits.cores
    → k.thread ≡ (s.core c).thread → k.tcap ≡ (s.core c).tcap → refs (with_core s c k) f ≡ refs s f
same_core s c k f below thread tcap =
    let a = core_refs s c k f below in
    let b : times f (core_names k) ≡ times f (core_names (s.core c)) =
    ap (λ t. times f (t ∷ k.tcap ∷ [])) thread ∙ ap (λ t. times f ((s.core c).thread ∷ t ∷ [])) tcap in
    omega (arith, a, b)

same_frame : (s : State) (g : ℕ) (y : Frame) (f : ℕ) → g < s.limits.frames
    → frame_names y ≡ frame_names (s.frame g) → refs (with_frame s g y) f ≡ refs s f
same_frame s g y f below e = let a = frame_refs s g y f below in let b = ap (times f) e in omega (arith, a, b)

tcap_refs : (s : State) (g : ℕ) (q : TcapFields) (f : ℕ) → g < s.limits.frames
    → refs (with_frame s g (with_tcap (s.frame g) q)) f ≡ refs s f
tcap_refs s g q f below = same_frame s g _ f below (tcap_names (s.frame g) q)

stack_refs : (s : State) (c : ℕ) → HasThread s (s.core c).thread → (stack : List ℕ) (f : ℕ)
    → refs (with_stack s c stack) f + times f (thread_of s c).stack ≡ refs s f + times f stack
stack_refs s c h stack f =
    let x : Frame = s.frame (s.core c).thread in
    let t : ThreadFields = record (thread_of s c) { stack = stack } in
    let a = frame_refs s (s.core c).thread (with_thread x t) f h.below in
    let b = ap (times f) (stack_names x t h.fit).0 in
    let d = ap (times f) (stack_names x t h.fit).1 in
    omega (arith, a, b, d)

popped : (s : State) (c f : ℕ) (fs : List ℕ)
    → refs (with_stack s c (drop 1 (thread_of s c).stack)) f + times f fs ≡ refs s f + times f (drop 1 fs)
    → refs (with_stack s c (drop 1 (thread_of s c).stack)) f + times f (released (frames_of (take 1 fs))) ≡ refs s f + 0
popped s c f [] e = e
popped s c f (g ∷ fs) e = let b = times_cons f g fs in let d = times_cons f g [] in omega (arith, e, b, d)

-- A core that goes on with the same temporal capability neither takes it nor releases it.
gone : (n m f t q old p : ℕ) (b : Bool) → (q == p) ≡ b → n + times f (old ∷ p ∷ []) ≡ m + times f (t ∷ q ∷ [])
    → n + times f (released (frames_of (old ∷ (if b then [] else p ∷ [])))) ≡ m + times f (t ∷ (if b then [] else q ∷ []))
gone n m f t q old p false is e = e
gone n m f t q old p true is e =
    let x = times_cons f old (p ∷ []) in
    let y = times_cons f t (q ∷ []) in
    let x' = times_cons f old [] in
    let y' = times_cons f t [] in
    let same : times f (p ∷ []) ≡ times f (q ∷ []) = ap (λ n. times f (n ∷ [])) (sym (eqb-true q p is)) in
    omega (arith, e, x, y, x', y', same)

plus_none : (n m : ℕ) → n ≡ m → n + 0 ≡ m + 0
plus_none n m e = ap (λ k. k + 0) e

edit_refs : (c : ℕ) (s : State) (e : Edit) → Tested c s e → Limited c s e → Known c s e → (f : ℕ)
    → refs (edited c s e) f + times f (released (begins_in c s e)) ≡ refs s f + times f (takes_in c s e)
edit_refs c s (Fill at k) tested lim h f =
    let a = place_refs s at.node at.index (Holds k) f h.0.below h.0.small in
    let b = ap (times f) (not_held_names (s.place at.node at.index) h.1) in
    omega (arith, a, b)
edit_refs c s (Remove at k) tested lim h f =
    let a = place_refs s at.node at.index (Quiescing k) f h.0.below h.0.small in
    let b = ap (λ x. times f (place_names x)) h.1 in
    let d = ap (times f) (released_frames (place_names (Holds k))) in
    omega (arith, a, b, d)
edit_refs c s (Node g object) tested lim h f =
    let a = frame_refs (cleared s g) g (Kernel object) f h.2.below in
    let b = ap (times f) (bare_names (s.frame g) h.2.bare) in
    let d = cleared_refs s g f h.1 in
    omega (arith, a, b, d)
edit_refs c s (Become g x) tested lim h f =
    let a = frame_refs s g x f h.1.below in let b = ap (times f) (bare_names (s.frame g) h.1.bare) in omega (arith, a, b)
edit_refs c s (Untype g) tested lim h f =
    let a = frame_refs s g Untyped f h.below in
    let d = grace_refs (with_frame s g Untyped) (edited c s (Untype g)).grace f in
    let b = ap (times f) (released_frames (frame_names (s.frame g))) in
    omega (arith, a, b, d)
edit_refs c s (Component g k) tested lim h f =
    let a = number_refs s k.number (Live k.epoch g) f lim in
    let b = ap (times f) (not_live_names (s.number k.number) tested.0) in
    let d = frame_refs (with_number s k.number (Live k.epoch g)) g (Kernel (Comp k)) f h.below in
    let e = ap (times f) (bare_names (s.frame g) h.bare) in
    let q = times_append f (g ∷ []) (frame_names (Kernel (Comp k))) in
    omega (arith, a, b, d, e, q)
edit_refs c s (Deaden l e) tested lim h f =
    let a = number_refs s l (Dead e) f h in
    let b = ap (times f) (released_frames (number_names (s.number l))) in
    omega (arith, a, b)
edit_refs c s (Push g) tested lim h f =
    let a = stack_refs s c h (g ∷ (thread_of s c).stack) f in
    let b = times_cons f g (thread_of s c).stack in
    let d = times_cons f g [] in
    omega (arith, a, b, d)
edit_refs c s Pop tested lim h f = popped s c f (thread_of s c).stack (stack_refs s c h (drop 1 (thread_of s c).stack) f)
edit_refs c s (Switch t q) tested lim h f =
    let idle : State = running s (s.core c).thread None in
    let a = core_refs (running idle t (Some c)) c (record (s.core c) { thread = t; tcap = q }) f h.core in
    let b : refs (running idle t (Some c)) f ≡ refs idle f = same_frame idle t _ f h.new.below (running_names (idle.frame t) (Some c)) in
    let d : refs idle f ≡ refs s f = same_frame s (s.core c).thread _ f h.old.below (running_names (s.frame (s.core c).thread) None) in
    let all : refs (edited c s (Switch t q)) f + times f ((s.core c).thread ∷ (s.core c).tcap ∷ []) ≡ refs s f + times f (t ∷ q ∷ []) =
    omega (arith, a, b, d) in
    gone _ _ f t q (s.core c).thread (s.core c).tcap (q == (s.core c).tcap) refl all
edit_refs c s (Cache t) tested lim h f = plus_none _ _ (same_core s c _ f h refl refl)
edit_refs c s Flush tested lim h f =
    plus_none _ _ (grace_refs (with_core s c (record (s.core c) { cached = [] })) _ f ∙ same_core s c _ f h refl refl)
edit_refs c s (Charge n) tested lim h f =
    plus_none _ _ (same_core (with_budget s (s.core c).tcap _) c _ f h.0 refl refl ∙ tcap_refs s (s.core c).tcap _ f h.1.below)
edit_refs c s (Move a b m) tested lim h f =
    plus_none _ _ (tcap_refs (with_budget s a ((tcap_at s a).budget - m)) b _ f h.to.below ∙ tcap_refs s a _ f h.from.below)
edit_refs c s (Merge g qs) tested lim h f = plus_none _ _ (tcap_refs s g _ f h.to.below)
edit_refs c s (Give g m) tested lim h f =
    plus_none _ _ (same_core (with_budget s g _) c _ f h.core refl refl ∙ tcap_refs s g _ f h.to.below)

times_released : (f : ℕ) (xs ys : List Thing) → times f (released (xs ++ ys)) ≡ times f (released xs) + times f (released ys)
times_released f [] ys = omega arith
times_released f (FrameOf g ∷ xs) ys =
    let a = times_cons f g (released (xs ++ ys)) in
    let b = times_cons f g (released xs) in
    let d = times_released f xs ys in
    omega (arith, a, b, d)
times_released f (_ ∷ xs) ys = times_released f xs ys

edits_refs : (c : ℕ) (s : State) (es : List Edit) → Each Tested c s es → Each Limited c s es → Each Known c s es → (f : ℕ)
    → refs (after_edits c s es) f + times f (released (begins_all c s es)) ≡ refs s f + times f (takes_all c s es)
edits_refs c s [] tested lim h f = refl
edits_refs c s (e ∷ es) tested lim h f =
    let a = edit_refs c s e tested.0 lim.0 h.0 f in
    let b = edits_refs c (edited c s e) es tested.1 lim.1 h.1 f in
    let d = times_append f (takes_all c (edited c s e) es) (takes_in c s e) in
    let g = times_released f (begins_all c (edited c s e) es) (begins_in c s e) in
    omega (arith, a, b, d, g)

pub refs_by : (s : State) (o : ℕ → Bool) (c : ℕ) → IsOpen s o c → (call : Call) → InLimits call
    → (v : Value) (es : List Edit) → Edits call c s es → RefsBy s (does c s v es)
refs_by s o c h call lim v es e f = edits_refs c s es e.tested (e.limited lim) (e.known o h) f

pub rule_refs : (s : State) (o : ℕ → Bool) (c : ℕ) → IsOpen s o c
    → (call : Call) → InLimits call → ChangesFrom (RefsBy s) s c (rule_of s c call)
rule_refs s o c h call lim = rule_by s c call (RefsBy s) (refs_by s o c h call lim)
