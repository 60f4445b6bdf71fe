-- What each call makes of a frame with a thread: it keeps a thread, unless it is made untyped; and a thread that runs nowhere, before the
-- call and after it, is as it was.
use Rattle.trace_laws.specs.kernel_rules.proofs as low
use low.{◌≡◌, ◌≢◌, ◌⊎◌, inl, inr, ℕ, ◌-◌, Bool, true, false, refl, sym, ◌∙◌, ap, subst, IsTrue, List, [], ◌∷◌, Option, Some, None}
use low.{false≢true, eq-eqb, Call, Tick, Value, Reply, ThreadFields, TcapFields, Blank, Comp, Thread, Frame, Untyped, Kernel, Thing}
use low.{FrameOf, put, thread_in, thread_of, fits, with_thread, running, with_tcap, with_budget, with_qualities, tcap_at, moved, Edit, Fill}
use low.{Node, Become, Untype, Component, Push, Pop, Charge, Move, Merge, Give, edited, after_edits, Change, does, Judged, Refused, Found}
use low.{change_of, changed, owed_by, state_by, ends, ends_by, put_same, put_other, IfFound, Kind}
use Rattle.trace_laws.specs.kernel_invariant.proofs.{put_all, IsOpen, none_some, some_none, is_bare, Known, AreLater, found_by}
use Rattle.trace_laws.specs.kernel_rules.specs.{State.State, Edits.Switch}
use Rattle.{std.proofs.lemmas.Bool.cases_eq, trace_laws.specs.kernel_invariant.specs.Edits.ends_in}
use Rattle.{trace_laws.specs.kernel_invariant.proofs.Edited.Edits, trace_laws.specs.found_stays.proofs.Spares.RunsOn}

-- Whether a frame has a thread, and where that runs.
abbrev pub is_thread : Frame → Bool
is_thread x = fits Kind.Thread x

abbrev pub runs_at : Frame → Option ℕ
runs_at x = (thread_in x).runs_on

-- A frame, which is x, becomes y, where the grace period of the frame ends or does not.
pub record Rests (ends : Bool) (x y : Frame) : Type 0 where
  pub thread : IsTrue (is_thread x) → (ends ≡ true) ⊎ IsTrue (is_thread y)
  pub idle : IsTrue (is_thread x) → runs_at x ≡ None → runs_at y ≡ None → (ends ≡ true) ⊎ (y ≡ x)

-- It stays where it has a thread.
still : (ends : Bool) (x y : Frame) → (IsTrue (is_thread x) → y ≡ x) → Rests ends x y
still ends x y same = record {
  thread = λ is. inr (subst (λ z. IsTrue (is_thread z)) (sym (same is)) is);
  idle = λ is before after. inr (same is);
}

rests_same : (ends : Bool) (x : Frame) → Rests ends x x
rests_same ends x = still ends x x (λ is. refl)

put_rests : (ends : Thing → Bool) (s : State) (g : ℕ) (y : Frame)
    → Rests (ends (FrameOf g)) (s.frame g) y → (f : ℕ) → Rests (ends (FrameOf f)) (s.frame f) (put s.frame g y f)
put_rests ends s g y h f = put_all (λ f x. Rests (ends (FrameOf f)) (s.frame f) x) s.frame g y f
    (λ same. subst (λ (n : ℕ). Rests (ends (FrameOf n)) (s.frame n) y) (sym same) h) (λ other. rests_same _ (s.frame f))

-- A frame that has no thread is put another.
bare_rests : (ends : Bool) (x y : Frame) → IsTrue (is_bare x) → Rests ends x y
bare_rests ends x y bare = still ends x y (λ is. absurd (none x bare is))
  where
    none : (x : Frame) → IsTrue (is_bare x) → IsTrue (is_thread x) → ⊥
    none (Kernel Blank) bare is = false≢true is
    none Untyped bare is = false≢true is
    none _ bare is = false≢true bare

-- A temporal capability is changed.
tcap_still : (x : Frame) (q : TcapFields) → IsTrue (is_thread x) → with_tcap x q ≡ x
tcap_still (Kernel (Thread t)) q is = refl
tcap_still _ q is = absurd (false≢true is)

abbrev StillAll : State → State → Type 0
StillAll s t = (f : ℕ) → IsTrue (is_thread (s.frame f)) → t.frame f ≡ s.frame f

still_then : (s t u : State) → StillAll s t → StillAll t u → StillAll s u
still_then s t u a b f is = b f (subst (λ x. IsTrue (is_thread x)) (sym (a f is)) is) ∙ a f is

budget_still : (s : State) (q m : ℕ) → StillAll s (with_budget s q m)
budget_still s q m f is = put_all (λ f x. IsTrue (is_thread (s.frame f)) → x ≡ s.frame f) s.frame q (with_tcap (s.frame q) _) f
    (λ same is. subst (λ (n : ℕ). with_tcap (s.frame q) (record (tcap_at s q) { budget = m }) ≡ s.frame n) (sym same)
    (tcap_still (s.frame q) _ (subst (λ (n : ℕ). IsTrue (is_thread (s.frame n))) same is)))
    (λ other is. refl) is

qualities_still : (s : State) (q : ℕ) (list : List (ℕ × ℕ)) → StillAll s (with_qualities s q list)
qualities_still s q list f is = put_all (λ f x. IsTrue (is_thread (s.frame f)) → x ≡ s.frame f) s.frame q (with_tcap (s.frame q) _) f
    (λ same is. subst (λ (n : ℕ). with_tcap (s.frame q) (record (tcap_at s q) { qualities = list }) ≡ s.frame n) (sym same)
    (tcap_still (s.frame q) _ (subst (λ (n : ℕ). IsTrue (is_thread (s.frame n))) same is)))
    (λ other is. refl) is

moved_still : (s : State) (a b m : ℕ) → StillAll s (moved s a b m)
moved_still s a b m =
    let first : State = with_budget s a ((tcap_at s a).budget - m) in
    still_then s first (moved s a b m) (budget_still s a _) (budget_still first b _)

-- A thread is put in place of one.
with_thread_is : (x : Frame) (t : ThreadFields) → IsTrue (is_thread x) → with_thread x t ≡ Kernel (Thread t)
with_thread_is (Kernel (Thread u)) t is = refl
with_thread_is _ t is = absurd (false≢true is)

-- The thread of core d is another: it runs before the change.
own_rests : (s : State) (d : ℕ) → RunsOn s d → (t : ThreadFields) (f : ℕ)
    → Rests false (s.frame f) (put s.frame (s.core d).thread (with_thread (s.frame (s.core d).thread) t) f)
own_rests s d runs t = put_rests (λ x. false) s (s.core d).thread _ (record {
  thread = λ is. inr (ap is_thread (with_thread_is (s.frame (s.core d).thread) t is));
  idle = λ is before after. absurd (none_some d (sym before ∙ runs));
})

module _ (s : State) (d : ℕ) (runs : RunsOn s d) where
  abbrev idle_state : State
  idle_state = running s (s.core d).thread None

  -- Core d goes on as the thread in g, which then runs.
  goes_on : (g : ℕ) (f : ℕ) → Rests false (s.frame f) ((running idle_state g (Some d)).frame f)
  goes_on g f = elim (cases_eq f g) [
    | inl here ↦ to_here here
    | inr there ↦ subst (Rests false (s.frame f)) (sym (put_other idle_state.frame g _ f there)) first
  ]
    where
      first : Rests false (s.frame f) (idle_state.frame f)
      first = own_rests s d runs (record (thread_of s d) { runs_on = None }) f

      to_thread : ThreadFields
      to_thread = record (thread_in (idle_state.frame g)) { runs_on = Some d }

      thread_first : IsTrue (is_thread (s.frame f)) → IsTrue (is_thread (idle_state.frame f))
      thread_first is = put_all (λ f x. IsTrue (is_thread (s.frame f)) → IsTrue (is_thread x)) s.frame (s.core d).thread
          (with_thread (s.frame (s.core d).thread) (record (thread_of s d) { runs_on = None })) f
          (λ same is. ap is_thread (with_thread_is (s.frame (s.core d).thread) _
          (subst (λ (n : ℕ). IsTrue (is_thread (s.frame n))) same is)))
          (λ other is. is) is

      to_here : f ≡ g → Rests false (s.frame f) ((running idle_state g (Some d)).frame f)
      to_here here = record {
        thread = λ is. inr (ap is_thread (now is));
        idle = λ is before after. absurd (some_none d (sym (ap runs_at (now is)) ∙ after));
      }
        where
          now : IsTrue (is_thread (s.frame f)) → (running idle_state g (Some d)).frame f ≡ Kernel (Thread to_thread)
          now is = put_same idle_state.frame g (with_thread (idle_state.frame g) to_thread) f here
              ∙ with_thread_is (idle_state.frame g) to_thread
              (subst (λ (n : ℕ). IsTrue (is_thread (idle_state.frame n))) here (thread_first is))

edit_rests : (d : ℕ) (s : State) (e : Edit) → RunsOn s d → Known d s e → (f : ℕ)
    → Rests (ends_in e (FrameOf f)) (s.frame f) ((edited d s e).frame f)
edit_rests d s (Node g object) runs k = put_rests (λ x. false) s g (Kernel object) (bare_rests _ (s.frame g) (Kernel object) k.2.bare)
edit_rests d s (Become g x) runs k = put_rests (λ x. false) s g x (bare_rests _ (s.frame g) x k.1.bare)
edit_rests d s (Untype g) runs k = put_rests (ends_in (Untype g)) s g Untyped
    (record { thread = λ is. inl (eq-eqb g g refl); idle = λ is before after. inl (eq-eqb g g refl) })
edit_rests d s (Component g k) runs known =
    put_rests (λ x. false) s g (Kernel (Comp k)) (bare_rests _ (s.frame g) (Kernel (Comp k)) known.bare)
edit_rests d s (Push g) runs k = own_rests s d runs _
edit_rests d s Pop runs k = own_rests s d runs _
edit_rests d s (Switch h q) runs k = goes_on s d runs h
edit_rests d s (Charge n) runs k = λ f. still _ (s.frame f) _ (budget_still s (s.core d).tcap _ f)
edit_rests d s (Move a b m) runs k = λ f. still _ (s.frame f) _ (moved_still s a b m f)
edit_rests d s (Merge g qs) runs k = λ f. still _ (s.frame f) _ (qualities_still s g qs f)
edit_rests d s (Give g m) runs k = λ f. still _ (s.frame f) _ (budget_still s g _ f)
edit_rests d s _ runs k = λ f. rests_same _ (s.frame f)

-- Edits after the first leave each thread as it is.
later_still : (d : ℕ) (s : State) (es : List Edit) → AreLater es → StillAll s (after_edits d s es)
later_still d s [] later = λ f is. refl
later_still d s (Fill at k ∷ es) later = later_still d (edited d s (Fill at k)) es later
later_still d s (Merge g qs ∷ es) later = still_then s (edited d s (Merge g qs)) (after_edits d (edited d s (Merge g qs)) es)
    (qualities_still s g qs) (later_still d (edited d s (Merge g qs)) es later)
later_still d s (_ ∷ es) later = absurd later

-- What rests, and then stays where it has a thread, rests.
rests_still : (ends : Bool) (x y z : Frame) → Rests ends x y → (IsTrue (is_thread y) → z ≡ y) → Rests ends x z
rests_still ends x y z rests same = record {
  thread = λ is. still_thread (rests.thread is);
  idle = λ is before after. still_idle is before after (rests.thread is);
}
  where
    still_thread : (ends ≡ true) ⊎ IsTrue (is_thread y) → (ends ≡ true) ⊎ IsTrue (is_thread z)
    still_thread (inl ended) = inl ended
    still_thread (inr is) = inr (subst (λ z. IsTrue (is_thread z)) (sym (same is)) is)

    then_same : z ≡ y → (ends ≡ true) ⊎ (y ≡ x) → (ends ≡ true) ⊎ (z ≡ x)
    then_same e (inl ended) = inl ended
    then_same e (inr was) = inr (e ∙ was)

    still_idle : IsTrue (is_thread x) → runs_at x ≡ None → runs_at z ≡ None → (ends ≡ true) ⊎ IsTrue (is_thread y)
        → (ends ≡ true) ⊎ (z ≡ x)
    still_idle is before after (inl ended) = inl ended
    still_idle is before after (inr here) =
        then_same (same here) (rests.idle is before (sym (ap runs_at (same here)) ∙ after))

-- A change rests so.
abbrev pub RestsBy : State → Call → Change → Type 0
RestsBy s call change = (f : ℕ) → Rests (ends_by call (FrameOf f)) (s.frame f) (change.next.frame f)

rests_by : (s : State) (o : ℕ → Bool) (d : ℕ) → IsOpen s o d → RunsOn s d → (call : Call) (v : Value) (es : List Edit)
    → Edits call d s es → RestsBy s call (does d s v es)
rests_by s o d opens runs call v [] e f = rests_same _ (s.frame f)
rests_by s o d opens runs call v (x ∷ es) e f =
    subst (λ b. Rests b (s.frame f) ((after_edits d s (x ∷ es)).frame f)) (sym (e.agrees.0 (FrameOf f) ∙ e.calm.1 (FrameOf f)))
    (rests_still _ (s.frame f) ((edited d s x).frame f) _ (edit_rests d s x runs (e.known o opens).0 f)
    (later_still d (edited d s x) es e.calm.2 f))

found_rests : (s : State) (call : Call) (x : Judged Change) → IfFound x (RestsBy s call) → (f : ℕ)
    → Rests (ends_by call (FrameOf f)) (s.frame f) ((changed s x).frame f)
found_rests s call (Refused r) by f = rests_same _ (s.frame f)
found_rests s call (Found change) by f = by f

owed_frame : (s : State) (d : ℕ) (call : Call) (f : ℕ) → (owed_by s d call).frame f ≡ s.frame f
owed_frame s d (Tick n) f = refl
owed_frame s d _ f = refl

-- A frame after a decision.
pub record RestsIn (call : Call) (r : Reply) (f : ℕ) (x y : Frame) : Type 0 where
  pub thread : IsTrue (is_thread x) → (ends call r (FrameOf f) ≡ true) ⊎ IsTrue (is_thread y)
  pub idle : IsTrue (is_thread x) → runs_at x ≡ None → runs_at y ≡ None → (ends call r (FrameOf f) ≡ true) ⊎ (y ≡ x)

rests_in_same : (call : Call) (r : Reply) (f : ℕ) (x y : Frame) → y ≡ x → RestsIn call r f x y
rests_in_same call r f x y same = record {
  thread = λ is. inr (subst (λ z. IsTrue (is_thread z)) (sym same) is);
  idle = λ is before after. inr same;
}

pub decided_rests : (s : State) (o : ℕ → Bool) (d : ℕ) → IsOpen s o d → RunsOn s d → (call : Call) (r : Reply) (f : ℕ)
    → RestsIn call r f (s.frame f) ((state_by s d call r).frame f)
decided_rests s o d opens runs call (Reply.Ok v) f =
    let a : Rests (ends_by call (FrameOf f)) (s.frame f) ((changed s (change_of s d call)).frame f) =
    found_rests s call (change_of s d call) (found_by s d call (RestsBy s call) (rests_by s o d opens runs call)) f in
    record { thread = a.thread; idle = a.idle }
decided_rests s o d opens runs call Reply.Raced f = rests_in_same call Reply.Raced f (s.frame f) _ (owed_frame s d call f)
decided_rests s o d opens runs call (Reply.Busy e) f = rests_in_same call (Reply.Busy e) f (s.frame f) _ (owed_frame s d call f)
decided_rests s o d opens runs call Reply.CallsSpent f = rests_in_same call Reply.CallsSpent f (s.frame f) _ refl
decided_rests s o d opens runs call r f = rests_in_same call r f (s.frame f) _ refl
