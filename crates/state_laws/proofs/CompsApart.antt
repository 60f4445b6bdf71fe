-- No two components have one liveness number and one epoch: a component is made in a later epoch than the last of its number.
use Rattle.kernel_laws.proofs.{◌≡◌, ◌≢◌, inl, inr, ℕ, ◌+◌, ◌-◌, ◌*◌, ◌≤◌, arith, Bool, true, false, refl, sym, ◌∙◌, ap, subst, ◌==◌}
use Rattle.kernel_laws.proofs.{ltb as nat_lt, IsTrue, List, [], ◌∷◌, None, false≢true, eqb-true, Setting, InLimits, Call, Tick, Reply}
use Rattle.kernel_laws.proofs.{CompFields, ThreadFields, TcapFields, Comp, Thread, Tcap, Frame, Untyped, Kernel, Liveness, Live, Dead}
use Rattle.kernel_laws.proofs.{State, put, comp_in, start, epoch_of, is_live_in, with_thread, running, with_tcap, with_budget, tcap_at}
use Rattle.kernel_laws.proofs.{Edit, Node, Become, Untype, Component, Deaden, Push, Pop, Charge, Move, Merge, Give, edited, after_edits}
use Rattle.kernel_laws.proofs.{owed_by, state_by, MayReply, fits, is_node, Event, Enters, Decides, Returns, after, IsRun, put_same}
use Rattle.kernel_laws.proofs.{put_other, put_all, open_limits, Tested, Each, after_ok, Kind}
use Rattle.kernel_laws.specs.kernel_invariant.proofs.{SoundStart.choose, Edited.Limited}
use Rattle.{std.proofs.lemmas.Bool.cases_eq, kernel_laws.specs.kernel_rules.specs.Edits.Switch, state_laws.specs.Lives.CompsApart}

-- Whether a frame has a component.
abbrev pub is_comp : Frame → Bool
is_comp x = fits Kind.Comp x

-- Each component was made in an epoch of its number that is no later than the last, and no two in one.
pub record CompsAre (frame : ℕ → Frame) (number : ℕ → Liveness) : Type 0 where
  pub low : (f : ℕ) → IsTrue (is_comp (frame f)) → (comp_in (frame f)).epoch ≤ epoch_of (number (comp_in (frame f)).number)
  pub apart : (f g : ℕ) → IsTrue (is_comp (frame f)) → IsTrue (is_comp (frame g)) → (comp_in (frame f)).number ≡ (comp_in (frame g)).number
      → (comp_in (frame f)).epoch ≡ (comp_in (frame g)).epoch → f ≡ g

-- Each component was there before.
frames_back : (frame new : ℕ → Frame) (number : ℕ → Liveness) → ((f : ℕ) → IsTrue (is_comp (new f)) → new f ≡ frame f)
    → CompsAre frame number → CompsAre new number
frames_back frame new number back h = record {
  low = λ f is. subst (λ x. (comp_in x).epoch ≤ epoch_of (number (comp_in x).number)) (sym (back f is))
      (h.low f (subst (λ x. IsTrue (is_comp x)) (back f is) is));
  apart = λ f g is also numbers epochs. h.apart f g (subst (λ x. IsTrue (is_comp x)) (back f is) is)
      (subst (λ x. IsTrue (is_comp x)) (back g also) also)
      (ap (λ x. (comp_in x).number) (sym (back f is)) ∙ numbers ∙ ap (λ x. (comp_in x).number) (back g also))
      (ap (λ x. (comp_in x).epoch) (sym (back f is)) ∙ epochs ∙ ap (λ x. (comp_in x).epoch) (back g also));
}

-- No number's last epoch is earlier than before.
numbers_back : (frame : ℕ → Frame) (number new : ℕ → Liveness) → ((l : ℕ) → epoch_of (number l) ≤ epoch_of (new l))
    → CompsAre frame number → CompsAre frame new
numbers_back frame number new more h = record {
  low = λ f is. (let old = h.low f is in let rises = more (comp_in (frame f)).number in omega (arith, old, rises));
  apart = h.apart;
}

-- A frame is put that has no component, or stays as it was.
put_back : (frame : ℕ → Frame) (number : ℕ → Liveness) (g : ℕ) (y : Frame) → (IsTrue (is_comp y) → y ≡ frame g) → CompsAre frame number
    → CompsAre (put frame g y) number
put_back frame number g y back h = frames_back frame (put frame g y) number
    (λ f. put_all (λ f x. IsTrue (is_comp x) → x ≡ frame f) frame g y f (λ same is. back is ∙ ap frame (sym same)) (λ other is. refl)) h

none_back : (frame : ℕ → Frame) (number : ℕ → Liveness) (g : ℕ) (y : Frame) → is_comp y ≡ false → CompsAre frame number
    → CompsAre (put frame g y) number
none_back frame number g y none h = put_back frame number g y (λ is. absurd (false≢true (sym none ∙ is))) h

thread_back : (x : Frame) (t : ThreadFields) → IsTrue (is_comp (with_thread x t)) → with_thread x t ≡ x
thread_back (Kernel (Thread u)) t is = absurd (false≢true is)
thread_back _ t is = refl

tcap_back : (x : Frame) (q : TcapFields) → IsTrue (is_comp (with_tcap x q)) → with_tcap x q ≡ x
tcap_back (Kernel (Tcap p)) q is = absurd (false≢true is)
tcap_back _ q is = refl

threads_back : (frame : ℕ → Frame) (number : ℕ → Liveness) (g : ℕ) (t : ThreadFields) → CompsAre frame number
    → CompsAre (put frame g (with_thread (frame g) t)) number
threads_back frame number g t h = put_back frame number g _ (thread_back (frame g) t) h

tcaps_back : (frame : ℕ → Frame) (number : ℕ → Liveness) (g : ℕ) (q : TcapFields) → CompsAre frame number
    → CompsAre (put frame g (with_tcap (frame g) q)) number
tcaps_back frame number g q h = put_back frame number g _ (tcap_back (frame g) q) h

-- A component is made in the epoch after the last of its number.
made_back : (frame : ℕ → Frame) (number : ℕ → Liveness) (f l : ℕ) (k : CompFields) → k.number ≡ l → k.epoch ≡ epoch_of (number l) + 1
    → CompsAre frame number → CompsAre (put frame f (Kernel (Comp k))) (put number l (Live k.epoch f))
made_back frame number f l k of_number of_epoch h = record { low = low; apart = apart }
  where
    new : ℕ → Frame
    new = put frame f (Kernel (Comp k))

    here : (g : ℕ) → g ≡ f → comp_in (put frame f (Kernel (Comp k)) g) ≡ k
    here g same = ap comp_in (put_same frame f (Kernel (Comp k)) g same)

    there : (g : ℕ) → g ≢ f → put frame f (Kernel (Comp k)) g ≡ frame g
    there g other = put_other frame f (Kernel (Comp k)) g other

    rises : (m : ℕ) → epoch_of (number m) ≤ epoch_of (put number l (Live k.epoch f) m)
    rises m = put_all (λ m x. epoch_of (number m) ≤ epoch_of x) number l (Live k.epoch f) m
        (λ same. subst (λ (n : ℕ). epoch_of (number n) ≤ k.epoch) (sym same) (omega (arith, of_epoch))) (λ other. omega arith)

    last : (m : ℕ) → m ≡ l → epoch_of (put number l (Live k.epoch f) m) ≡ k.epoch
    last m same = ap epoch_of (put_same number l (Live k.epoch f) m same)

    low : (g : ℕ) → IsTrue (is_comp (put frame f (Kernel (Comp k)) g))
        → (comp_in (put frame f (Kernel (Comp k)) g)).epoch
        ≤ epoch_of (put number l (Live k.epoch f) (comp_in (put frame f (Kernel (Comp k)) g)).number)
    low g is = elim (cases_eq g f) [
      | inl same ↦ subst (λ (x : CompFields). x.epoch ≤ epoch_of (put number l (Live k.epoch f) x.number)) (sym (here g same))
          (let top = last k.number of_number in omega (arith, top))
      | inr other ↦ subst (λ x. (comp_in x).epoch ≤ epoch_of (put number l (Live k.epoch f) (comp_in x).number)) (sym (there g other))
          (let old = h.low g (subst (λ x. IsTrue (is_comp x)) (there g other) is) in
          let more = rises (comp_in (frame g)).number in
          omega (arith, old, more))
    ]

    -- one that was there before has an earlier epoch
    earlier : (g : ℕ) → g ≢ f → IsTrue (is_comp (put frame f (Kernel (Comp k)) g))
        → (comp_in (put frame f (Kernel (Comp k)) g)).number ≡ k.number
        → (comp_in (put frame f (Kernel (Comp k)) g)).epoch ≡ k.epoch → ⊥
    earlier g other is numbers epochs =
        let old = h.low g (subst (λ x. IsTrue (is_comp x)) (there g other) is) in
        let number_is : (comp_in (frame g)).number ≡ l = ap (λ x. (comp_in x).number) (sym (there g other)) ∙ numbers ∙ of_number in
        let epoch_is : (comp_in (frame g)).epoch ≡ k.epoch = ap (λ x. (comp_in x).epoch) (sym (there g other)) ∙ epochs in
        let top : epoch_of (number (comp_in (frame g)).number) ≡ epoch_of (number l) = ap (λ (n : ℕ). epoch_of (number n)) number_is in
        omega (arith, old, epoch_is, top, of_epoch)

    apart : (g d : ℕ) → IsTrue (is_comp (put frame f (Kernel (Comp k)) g)) → IsTrue (is_comp (put frame f (Kernel (Comp k)) d))
        → (comp_in (put frame f (Kernel (Comp k)) g)).number ≡ (comp_in (put frame f (Kernel (Comp k)) d)).number
        → (comp_in (put frame f (Kernel (Comp k)) g)).epoch ≡ (comp_in (put frame f (Kernel (Comp k)) d)).epoch → g ≡ d
    apart g d is also numbers epochs = elim (cases_eq g f) [
      | inl same ↦ elim (cases_eq d f) [
        | inl too ↦ same ∙ sym too
        | inr other ↦ absurd (earlier d other also (sym numbers ∙ ap (λ (x : CompFields). x.number) (here g same))
            (sym epochs ∙ ap (λ (x : CompFields). x.epoch) (here g same)))
      ]
      | inr other ↦ elim (cases_eq d f) [
        | inl same ↦ absurd (earlier g other is (numbers ∙ ap (λ (x : CompFields). x.number) (here d same))
            (epochs ∙ ap (λ (x : CompFields). x.epoch) (here d same)))
        | inr too ↦ h.apart g d (subst (λ x. IsTrue (is_comp x)) (there g other) is) (subst (λ x. IsTrue (is_comp x)) (there d too) also)
            (ap (λ x. (comp_in x).number) (sym (there g other)) ∙ numbers ∙ ap (λ x. (comp_in x).number) (there d too))
            (ap (λ x. (comp_in x).epoch) (sym (there g other)) ∙ epochs ∙ ap (λ x. (comp_in x).epoch) (there d too))
      ]
    ]

-- A number that is live in an epoch, and is dead after it.
live_epoch : (x : Liveness) (e : ℕ) → is_live_in x e ≡ true → epoch_of x ≡ e
live_epoch (Live d f) e is = eqb-true d e is
live_epoch _ e is = absurd (false≢true is)

-- A node and a fresh object are no components.
node_none : (x : Frame) → IsTrue (is_node x) → is_comp x ≡ false
node_none (Kernel (Comp k)) h = absurd (false≢true h)
node_none _ h = refl

fresh_none : (c : ℕ) (s : State) (f : ℕ) (x : Frame) → Limited c s (Become f x) → is_comp x ≡ false
fresh_none c s f (Kernel (Comp k)) h = absurd h
fresh_none c s f (Kernel (Thread t)) h = refl
fresh_none c s f (Kernel (Tcap q)) h = refl
fresh_none c s f _ h = refl

abbrev Apart : State → Type 0
Apart s = CompsAre s.frame s.number

edit_apart : (c : ℕ) (s : State) (e : Edit) → Tested c s e → Limited c s e → Apart s → Apart (edited c s e)
edit_apart c s (Node f object) tested lim w = none_back s.frame s.number f (Kernel object) (node_none (Kernel object) lim) w
edit_apart c s (Become f x) tested lim w = none_back s.frame s.number f x (fresh_none c s f x lim) w
edit_apart c s (Untype f) tested lim w = none_back s.frame s.number f Untyped refl w
edit_apart c s (Component f k) tested lim w = made_back s.frame s.number f k.number k refl tested.1 w
edit_apart c s (Deaden l e) tested lim w = numbers_back s.frame s.number (put s.number l (Dead e))
    (λ m. put_all (λ m x. epoch_of (s.number m) ≤ epoch_of x) s.number l (Dead e) m
    (λ same. subst (λ (n : ℕ). epoch_of (s.number n) ≤ e) (sym same)
    (let last = live_epoch (s.number l) e tested in omega (arith, last))) (λ other. omega arith)) w
edit_apart c s (Push f) tested lim w = threads_back s.frame s.number (s.core c).thread _ w
edit_apart c s Pop tested lim w = threads_back s.frame s.number (s.core c).thread _ w
edit_apart c s (Switch h q) tested lim w =
    threads_back (running s (s.core c).thread None).frame s.number h _ (threads_back s.frame s.number (s.core c).thread _ w)
edit_apart c s (Charge n) tested lim w = tcaps_back s.frame s.number (s.core c).tcap _ w
edit_apart c s (Move a b m) tested lim w =
    tcaps_back (with_budget s a ((tcap_at s a).budget - m)).frame s.number b _ (tcaps_back s.frame s.number a _ w)
edit_apart c s (Merge f qs) tested lim w = tcaps_back s.frame s.number f _ w
edit_apart c s (Give f m) tested lim w = tcaps_back s.frame s.number f _ w
edit_apart c s _ tested lim w = w

edits_apart : (c : ℕ) (s : State) (es : List Edit) → Each Tested c s es → Each Limited c s es → Apart s → Apart (after_edits c s es)
edits_apart c s [] tested lim w = w
edits_apart c s (e ∷ es) tested lim w = edits_apart c (edited c s e) es tested.1 lim.1 (edit_apart c s e tested.0 lim.0 w)

-- A decision.
owed_apart : (s : State) (c : ℕ) (call : Call) → Apart s → Apart (owed_by s c call)
owed_apart s c (Tick m) w = w
owed_apart s c _ w = w

decided_apart : (s : State) (c : ℕ) (call : Call) (r : Reply) → InLimits call → MayReply s c call r → Apart s
    → Apart (state_by s c call r)
decided_apart s c call (Reply.Ok v) lim may w =
    after_ok s c call v Apart may (λ es e. edits_apart c s es e.tested (e.limited lim) w)
decided_apart s c call Reply.CallsSpent lim may w = w
decided_apart s c call Reply.Raced lim may w = owed_apart s c call w
decided_apart s c call (Reply.Busy e) lim may w = owed_apart s c call w
decided_apart s c call _ lim may w = w

-- The component of the start is the only one.
start_apart : (setting : Setting) → Apart (start setting)
start_apart setting = record {
  low = λ f is. let same = only_three f is in
      subst (λ (n : ℕ). (comp_in ((start setting).frame n)).epoch
      ≤ epoch_of ((start setting).number (comp_in ((start setting).frame n)).number)) (sym same) (omega arith);
  apart = λ f g is also numbers epochs. only_three f is ∙ sym (only_three g also);
}
  where
    only_three : (f : ℕ) → IsTrue (is_comp ((start setting).frame f)) → f ≡ 3
    only_three f =
        choose P (f == 0) _ _ (λ e is. absurd (false≢true is)) λ a.
        choose P (f == 1) _ _ (λ e is. absurd (false≢true is)) λ b.
        choose P (f == 2) _ _ (λ e is. absurd (false≢true is)) λ c.
        choose P (f == 3) _ _ (λ e is. eqb-true f 3 e) λ three.
        choose P (nat_lt f (4 + setting.cores)) _ _ (λ e is. absurd (false≢true is)) λ e.
        choose P (nat_lt f (4 + 2 * setting.cores)) _ _ (λ e is. absurd (false≢true is)) (λ e is. absurd (false≢true is))
      where
        P : Frame → Type 0
        P x = IsTrue (is_comp x) → f ≡ 3

runs_apart : (setting : Setting) (events : List Event) → IsRun setting events → Apart (after setting events)
runs_apart setting [] run = start_apart setting
runs_apart setting (Enters c call ∷ events) run = runs_apart setting events run.0
runs_apart setting (Returns c ∷ events) run = runs_apart setting events run.0
runs_apart setting (Decides c call r ∷ events) run =
    decided_apart (after setting events) c call r (open_limits setting events c call run.0 run.1.is_open)
    run.1.permitted (runs_apart setting events run.0)

pub comps_apart : CompsApart
comps_apart setting lim events run f g is also numbers epochs = (runs_apart setting events run).apart f g is also numbers epochs
