-- What a step of another core leaves of a thread that a core in a call guards.
use Rattle.trace_laws.specs.kernel_history.proofs as low
use low.{◌≡◌, ◌≢◌, ◌⊎◌, inl, inr, ℕ, ◌<◌, Bool, true, false, refl, sym, ◌∙◌, ap, subst, IsTrue, ◌∷◌, Option, Some, None, arith, false≢true}
use low.{Setting, IsSetting, Call, Reply, Frame, FrameOf, State, refs, IsGuarded, MayReply, ends, after, with_entry, events_of, plain_phase}
use low.{MayDecide, MayFollow, IsLegal, is_in, Step, Phase, Out, Decided, phase, after_enter, state_after, state_entered, state_decided}
use low.{state_returned, state_before, entered_events, before_is, entry_apart, entered_run, phase_is, run_of, state_is}
use Rattle.trace_laws.specs.kernel_invariant.proofs.{MayEnd, ends_by_rule, opened}
use Rattle.trace_laws.specs.found_stays.proofs.{SparesRuns.inside_of, SparesRuns.inside_facts, Stays.event_stay_in}
use Rattle.thread_laws.proofs.IdleThreads.{is_thread, runs_at, RestsIn, decided_rests}
use Rattle.{trace_laws.proofs.opens, trace_laws.proofs.open_inj, trace_laws.specs.found_stays.proofs.RunsOn}
use Rattle.{trace_laws.specs.found_stays.proofs.runs_of, trace_laws.specs.kernel_rules.specs.Runs.core_of}
use Rattle.{trace_laws.specs.kernel_history.specs.Trace.Trace, trace_laws.specs.kernel_history.specs.Trace.Open}
use Rattle.trace_laws.specs.kernel_rules.specs.Runs as plain

entered_frame : (o : Option Call) (s : State) (c f : ℕ) → (state_entered o s c).frame f ≡ s.frame f
entered_frame None s c f = refl
entered_frame (Some call) s c f = refl

returned_frame : (q : Option Reply) (s : State) (c f : ℕ) → (state_returned q s c).frame f ≡ s.frame f
returned_frame None s c f = refl
returned_frame (Some r) s c f = refl

plain_in : (p : Phase) → plain.is_in (plain_phase p) ≡ is_in p
plain_in Out = refl
plain_in (Open call) = refl
plain_in (Decided call r) = refl

-- What is guarded before a core enters a call is guarded after it.
entry_guarded : (setup : Setting) → IsSetting setup → (d c : ℕ) → c ≢ d → (o : Option Call) (t : Trace)
    → plain.IsRun setup (with_entry o d (events_of t)) → inside_of (events_of t) c ≡ true → (f : ℕ)
    → IsGuarded (after setup (events_of t)) c f → IsGuarded (after setup (with_entry o d (events_of t))) c f
entry_guarded setup setting d c other None t run inside f guarded = guarded
entry_guarded setup setting d c other (Some call) t run inside f guarded =
    (event_stay_in setup setting (plain.Enters d call) (events_of t) run c other inside).guarded f guarded

module _ (setup : Setting) (setting : IsSetting setup) (t : Trace) (legal : IsLegal setup t) (e : Step) (follows : MayFollow setup t e)
    (c : ℕ) (other : c ≢ e.core) (inside : is_in (phase t c) ≡ true) (f : ℕ) (guarded : IsGuarded (state_after setup t) c f) where
  abbrev before : State
  before = state_before setup t e

  abbrev entered : Phase
  entered = after_enter e.enters (phase t e.core)

  run : plain.IsRun setup (entered_events t e)
  run = entered_run setup t e legal follows (run_of setup t legal)

  was_inside : inside_of (events_of t) c ≡ true
  was_inside = ap plain.is_in (phase_is t c) ∙ plain_in (phase t c) ∙ inside

  guarded_before : IsGuarded before c f
  guarded_before = subst (λ s. IsGuarded s c f) (sym (before_is setup t e))
      (entry_guarded setup setting e.core c other e.enters t run was_inside f
      (subst (λ s. IsGuarded s c f) (state_is setup t) guarded))

  below_before : c < before.limits.cores
  below_before = subst (λ s. c < s.limits.cores) (sym (before_is setup t e))
      (inside_facts setup (entered_events t e) run c (ap plain.is_in (entry_apart e.enters e.core (events_of t) c other) ∙ was_inside)).1

  -- its frame is not made untyped
  no_end : (d : ℕ) → c ≢ d → MayEnd before d (FrameOf f) → ⊥
  no_end d apart may = by guarded_before
    where
      by : IsGuarded before c f → ⊥
      by (inl some) = let none : refs before f ≡ 0 = may.0 in omega (arith, some, none)
      by (inr waits) = false≢true (sym (may.1 c below_before apart) ∙ waits)

  module _ (call : Call) (r : Reply) (is_open : entered ≡ Open call) (permitted : MayReply before e.core call r) where
    runs : RunsOn before e.core
    runs = subst (λ s. RunsOn s e.core) (sym (before_is setup t e))
        (runs_of setup setting (entered_events t e) run e.core
        (subst (λ s. e.core < s.limits.cores) (before_is setup t e)
        ((opens setup setting t legal e follows call is_open).sound.inside
        e.core (opens setup setting t legal e follows call is_open).is).1))

    rests : RestsIn call r f (before.frame f) ((state_decided (Some r) (Open call) before e.core).frame f)
    rests = decided_rests before (opened (entered_events t e)) e.core (opens setup setting t legal e follows call is_open) runs call r f

    ends_not : ends call r (FrameOf f) ≡ true → ⊥
    ends_not h = no_end e.core other (ends_by_rule before (opened (entered_events t e)) e.core
        (opens setup setting t legal e follows call is_open) call r (FrameOf f) permitted h)

  -- the state that its decision leaves
  abbrev decided : State
  decided = state_decided e.decides entered before e.core

  abbrev Kept : Frame → Frame → Type 0
  Kept x y = (IsTrue (is_thread x) → IsTrue (is_thread y)) × (IsTrue (is_thread x) → runs_at x ≡ None → runs_at y ≡ None → y ≡ x)

  same_kept : (x : Frame) → Kept x x
  same_kept x = ((λ is. is), (λ is idle still. refl))

  by_phase : (o : Option Reply) (q : Phase) → entered ≡ q → MayDecide setup t e o q
      → Kept (before.frame f) ((state_decided o q before e.core).frame f)
  by_phase None q at may = same_kept (before.frame f)
  by_phase (Some r) Out at may = same_kept (before.frame f)
  by_phase (Some r) (Open call) at may =
      let permitted : MayReply before e.core call r =
      subst (λ k. MayReply before e.core k r) (open_inj may.call call may.is_open) may.permitted in
      let is = rests call r at permitted in (
        (λ has. by_ends call r at permitted (is.thread has)),
        (λ has idle still. by_ends call r at permitted (is.idle has idle still)),
      )
    where
      by_ends : {P : Type 0} (call : Call) (r : Reply) → entered ≡ Open call → MayReply before e.core call r
          → (ends call r (FrameOf f) ≡ true) ⊎ P → P
      by_ends call r at permitted (inl ends) = absurd (ends_not call r at permitted ends)
      by_ends call r at permitted (inr is) = is
  by_phase (Some r) (Decided call q) at may = same_kept (before.frame f)

  kept : Kept ((state_after setup t).frame f) ((state_after setup (e ∷ t)).frame f)
  kept = subst (λ x. Kept x ((state_after setup (e ∷ t)).frame f)) (entered_frame e.enters (state_after setup t) e.core f)
      (subst (Kept (before.frame f)) (sym (returned_frame e.returns decided e.core f)) (by_phase e.decides entered refl follows.decides))

  -- It stays a thread; and where it is idle before the step and after it, it is as it was.
  pub thread_stays : IsTrue (is_thread ((state_after setup t).frame f)) → IsTrue (is_thread ((state_after setup (e ∷ t)).frame f))
  thread_stays = kept.0

  pub idle_stays : IsTrue (is_thread ((state_after setup t).frame f)) → runs_at ((state_after setup t).frame f) ≡ None
      → runs_at ((state_after setup (e ∷ t)).frame f) ≡ None
      → (state_after setup (e ∷ t)).frame f ≡ (state_after setup t).frame f
  idle_stays = kept.1
