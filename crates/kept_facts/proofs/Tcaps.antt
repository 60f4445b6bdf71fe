-- Each step leaves each temporal capability one, though its budget or its list may change, but for the end of its frame's grace period.
use Rattle.kernel_laws.proofs.{◌≡◌, ◌≢◌, ◌⊎◌, ◌<◌, arith, inl, inr, ℕ, ◌-◌, List, [], ◌∷◌, Bool, true, false, ◌||◌, Option, Some, None}
use Rattle.kernel_laws.proofs.{refl, sym, ◌∙◌, ap, subst, IsTrue, false≢true, eq-eqb, Setting, IsSetting, Call, Tick, Value, Reply}
use Rattle.kernel_laws.proofs.{ThreadFields, TcapFields, Blank, Comp, Tcap, Frame, Untyped, Kernel, Thing, FrameOf, State, put, fits}
use Rattle.kernel_laws.proofs.{with_thread, running, with_tcap, with_budget, tcap_at, edited, after_edits, Edit, Node, Become, Untype}
use Rattle.kernel_laws.proofs.{Component, Push, Pop, Charge, Move, Merge, Give, Change, does, Judged, Refused, Found, change_of, changed}
use Rattle.kernel_laws.proofs.{owed_by, state_by, ends, ends_by, MayReply, put_all, IsOpen, is_bare, Each, Edits, found_by, IfFound}
use Rattle.kernel_laws.proofs.{ends_by_rule, opened, core_same_refs, IsGuarded, Kind}
use Rattle.core_invariant.proofs.{MayDecide, MayFollow, IsLegal, Step, Trace, Phase, Open, phase, after_enter, state_after}
use Rattle.core_invariant.proofs.{state_entered, state_decided, state_returned, state_before, is_in, entered_events, HasTcap, limits_of}
use Rattle.thread_laws.specs.trace_laws.proofs.{opens, open_inj, stays_in_other}
use Rattle.{std.proofs.lemmas.Bool.or_left, std.proofs.lemmas.Bool.or_right, kernel_laws.specs.kernel_invariant.specs.ends_in}
use Rattle.{kernel_laws.specs.kernel_invariant.specs.ends_all, kernel_laws.specs.kernel_invariant.proofs.Known}
use Rattle.{kernel_laws.specs.kernel_invariant.proofs.MayEnd, kernel_laws.specs.kernel_rules.specs.Edits.Switch}

abbrev pub is_tcap : Frame → Bool
is_tcap x = fits Kind.Tcap x

-- A frame, which is x, becomes y, where the grace period of the frame ends or does not.
abbrev pub KeepsTcap : Bool → Frame → Frame → Type 0
KeepsTcap ends x y = IsTrue (is_tcap x) → (ends ≡ true) ⊎ IsTrue (is_tcap y)

keeps_same : (ends : Bool) (x : Frame) → KeepsTcap ends x x
keeps_same ends x is = inr is

keeps_then : (first second : Bool) (x y z : Frame) → KeepsTcap first x y → KeepsTcap second y z → KeepsTcap (second || first) x z
keeps_then first second x y z a b is = by (a is)
  where
    later : (second ≡ true) ⊎ IsTrue (is_tcap z) → ((second || first) ≡ true) ⊎ IsTrue (is_tcap z)
    later (inl ends) = inl (or_left second first ends)
    later (inr still) = inr still

    by : (first ≡ true) ⊎ IsTrue (is_tcap y) → ((second || first) ≡ true) ⊎ IsTrue (is_tcap z)
    by (inl ends) = inl (or_right second first ends)
    by (inr still) = later (b still)

with_tcap_keeps : (ends : Bool) (x : Frame) (q : TcapFields) → KeepsTcap ends x (with_tcap x q)
with_tcap_keeps ends (Kernel (Tcap p)) q is = inr is
with_tcap_keeps ends x q is = absurd (false≢true is)

with_thread_keeps : (ends : Bool) (x : Frame) (t : ThreadFields) → KeepsTcap ends x (with_thread x t)
with_thread_keeps ends (Kernel (Tcap p)) t is = inr is
with_thread_keeps ends x t is = absurd (false≢true is)

bare_keeps : (ends : Bool) (x y : Frame) → IsTrue (is_bare x) → KeepsTcap ends x y
bare_keeps ends (Kernel Blank) y bare is = absurd (false≢true is)
bare_keeps ends Untyped y bare is = absurd (false≢true is)
bare_keeps ends _ y bare is = absurd (false≢true bare)

put_keeps : (ends : Thing → Bool) (s : State) (g : ℕ) (y : Frame) → KeepsTcap (ends (FrameOf g)) (s.frame g) y
    → (f : ℕ) → KeepsTcap (ends (FrameOf f)) (s.frame f) (put s.frame g y f)
put_keeps ends s g y h f = put_all (λ f x. KeepsTcap (ends (FrameOf f)) (s.frame f) x) s.frame g y f
    (λ same. subst (λ (n : ℕ). KeepsTcap (ends (FrameOf n)) (s.frame n) y) (sym same) h) (λ other. keeps_same _ (s.frame f))

edit_keeps : (c : ℕ) (s : State) (e : Edit) → Known c s e → (f : ℕ)
    → KeepsTcap (ends_in e (FrameOf f)) (s.frame f) ((edited c s e).frame f)
edit_keeps c s (Node g object) k = put_keeps (λ x. false) s g (Kernel object) (bare_keeps _ (s.frame g) (Kernel object) k.2.bare)
edit_keeps c s (Become g x) k = put_keeps (λ x. false) s g x (bare_keeps _ (s.frame g) x k.1.bare)
edit_keeps c s (Untype g) k = put_keeps (ends_in (Untype g)) s g Untyped (λ is. inl (eq-eqb g g refl))
edit_keeps c s (Component g k) known =
    put_keeps (λ x. false) s g (Kernel (Comp k)) (bare_keeps _ (s.frame g) (Kernel (Comp k)) known.bare)
edit_keeps c s (Push g) k = put_keeps (λ x. false) s (s.core c).thread _ (with_thread_keeps _ (s.frame (s.core c).thread) _)
edit_keeps c s Pop k = put_keeps (λ x. false) s (s.core c).thread _ (with_thread_keeps _ (s.frame (s.core c).thread) _)
edit_keeps c s (Switch h q) k = λ f.
    let old : ℕ = (s.core c).thread in
    let idle : State = running s old None in
    keeps_then false false (s.frame f) (idle.frame f) _ (put_keeps (λ x. false) s old _ (with_thread_keeps _ (s.frame old) _) f)
    (put_keeps (λ x. false) idle h _ (with_thread_keeps _ (idle.frame h) _) f)
edit_keeps c s (Charge n) k = put_keeps (λ x. false) s (s.core c).tcap _ (with_tcap_keeps _ (s.frame (s.core c).tcap) _)
edit_keeps c s (Move a b m) k = λ f.
    let first : State = with_budget s a ((tcap_at s a).budget - m) in
    keeps_then false false (s.frame f) (first.frame f) _ (put_keeps (λ x. false) s a _ (with_tcap_keeps _ (s.frame a) _) f)
    (put_keeps (λ x. false) first b _ (with_tcap_keeps _ (first.frame b) _) f)
edit_keeps c s (Merge g qs) k = put_keeps (λ x. false) s g _ (with_tcap_keeps _ (s.frame g) _)
edit_keeps c s (Give g m) k = put_keeps (λ x. false) s g _ (with_tcap_keeps _ (s.frame g) _)
edit_keeps c s _ k = λ f. keeps_same _ (s.frame f)

edits_keep : (c : ℕ) (s : State) (es : List Edit) → Each Known c s es → (f : ℕ)
    → KeepsTcap (ends_all es (FrameOf f)) (s.frame f) ((after_edits c s es).frame f)
edits_keep c s [] k f = keeps_same _ (s.frame f)
edits_keep c s (e ∷ es) k f =
    keeps_then (ends_in e (FrameOf f)) (ends_all es (FrameOf f)) (s.frame f) ((edited c s e).frame f) _ (edit_keeps c s e k.0 f)
    (edits_keep c (edited c s e) es k.1 f)

abbrev KeepsBy : State → Call → Change → Type 0
KeepsBy s call change = (f : ℕ) → KeepsTcap (ends_by call (FrameOf f)) (s.frame f) (change.next.frame f)

keeps_by : (s : State) (o : ℕ → Bool) (d : ℕ) → IsOpen s o d → (call : Call) (v : Value) (es : List Edit) → Edits call d s es
    → KeepsBy s call (does d s v es)
keeps_by s o d opens call v es e f =
    subst (λ b. KeepsTcap b (s.frame f) ((after_edits d s es).frame f)) (sym (e.agrees.0 (FrameOf f)))
    (edits_keep d s es (e.known o opens) f)

found_keeps : (s : State) (call : Call) (x : Judged Change) → IfFound x (KeepsBy s call) → (f : ℕ)
    → KeepsTcap (ends_by call (FrameOf f)) (s.frame f) ((changed s x).frame f)
found_keeps s call (Refused r) by f = keeps_same _ (s.frame f)
found_keeps s call (Found change) by f = by f

owed_frame : (s : State) (d : ℕ) (call : Call) (f : ℕ) → (owed_by s d call).frame f ≡ s.frame f
owed_frame s d (Tick n) f = refl
owed_frame s d _ f = refl

-- After a decision: of an `ok` by how its call turns it, else it stays.
abbrev pub KeepsTcapIn : Call → Reply → ℕ → Frame → Frame → Type 0
KeepsTcapIn call r f x y = IsTrue (is_tcap x) → (ends call r (FrameOf f) ≡ true) ⊎ IsTrue (is_tcap y)

same_in : (call : Call) (r : Reply) (f : ℕ) (x y : Frame) → y ≡ x → KeepsTcapIn call r f x y
same_in call r f x y same is = inr (subst (λ z. IsTrue (is_tcap z)) (sym same) is)

pub decided_keeps : (s : State) (o : ℕ → Bool) (d : ℕ) → IsOpen s o d → (call : Call) (r : Reply) (f : ℕ)
    → KeepsTcapIn call r f (s.frame f) ((state_by s d call r).frame f)
decided_keeps s o d opens call (Reply.Ok v) f =
    found_keeps s call (change_of s d call) (found_by s d call (KeepsBy s call) (keeps_by s o d opens call)) f
decided_keeps s o d opens call Reply.Raced f = same_in call Reply.Raced f (s.frame f) _ (owed_frame s d call f)
decided_keeps s o d opens call (Reply.Busy e) f = same_in call (Reply.Busy e) f (s.frame f) _ (owed_frame s d call f)
decided_keeps s o d opens call Reply.CallsSpent f = same_in call Reply.CallsSpent f (s.frame f) _ refl
decided_keeps s o d opens call r f = same_in call r f (s.frame f) _ refl

-- A temporal capability, with its fields.
pub record TcapOf (x : Frame) : Type 0 where
  pub fields : TcapFields
  pub is : x ≡ Kernel (Tcap fields)

pub tcap_of : (x : Frame) → IsTrue (is_tcap x) → TcapOf x
tcap_of (Kernel (Tcap q)) fit = record { fields = q; is = refl }
tcap_of _ fit = absurd (false≢true fit)

entered_tcap : (o : Option Call) (s : State) (d f : ℕ) → IsTrue (is_tcap (s.frame f)) → IsTrue (is_tcap ((state_entered o s d).frame f))
entered_tcap None s d f is = is
entered_tcap (Some call) s d f is = is

entered_guarded : (o : Option Call) (s : State) (d c f : ℕ) → IsGuarded s c f → IsGuarded (state_entered o s d) c f
entered_guarded None s d c f is = is
entered_guarded (Some call) s d c f (inl some) = inl (subst (λ (n : ℕ). 0 < n) (sym (core_same_refs s d _ refl refl f)) some)
entered_guarded (Some call) s d c f (inr waits) = inr waits

entered_limits : (o : Option Call) (s : State) (d : ℕ) → (state_entered o s d).limits ≡ s.limits
entered_limits None s d = refl
entered_limits (Some call) s d = refl

returned_frame : (q : Option Reply) (s : State) (d f : ℕ) → (state_returned q s d).frame f ≡ s.frame f
returned_frame None s d f = refl
returned_frame (Some r) s d f = refl

-- A step of another core leaves a temporal capability that this core guards.
module _ (setup : Setting) (setting : IsSetting setup) (t : Trace) (legal : IsLegal setup t) (e : Step) (follows : MayFollow setup t e)
    (c : ℕ) (here : c < setup.cores) (other : c ≢ e.core) (inside : is_in (phase t c) ≡ true)
    (f : ℕ) (has : HasTcap (state_after setup t) c f) where
  abbrev before : State
  before = state_before setup t e

  abbrev entered : Phase
  entered = after_enter e.enters (phase t e.core)

  before_is : IsTrue (is_tcap (before.frame f))
  before_is = entered_tcap e.enters (state_after setup t) e.core f has.tcap

  guarded_before : IsGuarded before c f
  guarded_before = entered_guarded e.enters (state_after setup t) e.core c f has.guarded

  below : c < before.limits.cores
  below = subst (λ (n : ℕ). c < n)
      (sym (ap (λ l. l.cores) (entered_limits e.enters (state_after setup t) e.core ∙ limits_of setup t))) here

  not_ended : MayEnd before e.core (FrameOf f) → ⊥
  not_ended ends = by guarded_before
    where
      by : IsGuarded before c f → ⊥
      by (inl some) = let none = ends.0 in omega (arith, some, none)
      by (inr waits) = false≢true (sym (ends.1 c below other) ∙ waits)

  by_phase : (o : Option Reply) → e.decides ≡ o → (q : Phase) → entered ≡ q → MayDecide setup t e o q
      → IsTrue (is_tcap ((state_decided o q before e.core).frame f))
  by_phase (Some r) is (Open call) at may =
      still (decided_keeps before (opened (entered_events t e)) e.core (opens setup setting t legal e follows call at) call r f before_is)
    where
      still : (ends call r (FrameOf f) ≡ true) ⊎ IsTrue (is_tcap ((state_by before e.core call r).frame f))
          → IsTrue (is_tcap ((state_decided (Some r) (Open call) before e.core).frame f))
      still (inl ended) = absurd (not_ended
          (ends_by_rule before (opened (entered_events t e)) e.core (opens setup setting t legal e follows call at) call r (FrameOf f)
          (subst (λ k. MayReply before e.core k r) (open_inj may.call call may.is_open) may.permitted) ended))
      still (inr is) = is
  by_phase _ is _ at may = before_is

  pub tcap_stays : HasTcap (state_after setup (e ∷ t)) c f
  tcap_stays = record {
    tcap = subst (λ x. IsTrue (is_tcap x)) (sym (returned_frame e.returns (state_decided e.decides entered before e.core) e.core f))
        (by_phase e.decides refl entered refl follows.decides);
    guarded = guarded_now;
  }
    where
      guarded_now : IsGuarded (state_after setup (e ∷ t)) c f
      guarded_now = (stays_in_other setup setting t legal e follows c other inside).guarded f has.guarded
