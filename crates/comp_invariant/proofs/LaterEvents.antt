-- The events of a longer trace are those of the shorter one and later ones; so a liveness number that was dead at a moment of a call is
-- past the epoch in which it died.
use Rattle.scan_invariant.specs.kernel_history.proofs as low
use low.{◌≡◌, ◌≤◌, ◌<◌, ◌⊎◌, inl, inr, arith, ℕ, Bool, true, false, ◌&&◌, ◌==◌, List, [], ◌∷◌, ◌++◌, Option, Some, None, refl, sym, ◌∙◌, ap}
use low.{subst, Setting, IsSetting, Call, Reply, epoch_of, after, IsRun, Liveness, Unused, Live, Dead, State, state_is, run_of, events_of}
use low.{IsLegal, Step, Phase, Out, phase, after_enter, state_after, WasAt, is_some, Event, Enters, Decides, Returns, with_entry}
use low.{with_decision, with_return, Decided, IfNot}
use Rattle.state_laws.specs.kernel_rules.specs.{InRanges, is_live, NumberInRange}
use Rattle.scan_invariant.specs.step_ways.proofs.{Trace, Open, limits_of}
use Rattle.state_laws.proofs.Lives.{IsPast, past_stays}
use Rattle.{state_laws.specs.kernel_laws.proofs.RangesLaw.ranges_hold, scan_invariant.specs.trace_laws.proofs.Carries.IsDeadIn}

-- The events of a longer trace are those of the shorter one, and later ones.
pub record Later (more events : List Event) : Type 0 where
  pub later : List Event
  pub adds : more ≡ later ++ events

pub entry_later : (o : Option Call) (c : ℕ) (more events : List Event) → Later more events → Later (with_entry o c more) events
entry_later None c more events had = had
entry_later (Some call) c more events had =
    record { later = Enters c call ∷ had.later; adds = ap (λ xs. Enters c call ∷ xs) had.adds }

decision_later : (o : Option Reply) (p : Phase) (c : ℕ) (more events : List Event) → Later more events
    → Later (with_decision o p c more) events
decision_later None p c more events had = had
decision_later (Some r) Out c more events had = had
decision_later (Some r) (Open call) c more events had =
    record { later = Decides c call r ∷ had.later; adds = ap (λ xs. Decides c call r ∷ xs) had.adds }
decision_later (Some r) (Decided call q) c more events had = had

return_later : (o : Option Reply) (c : ℕ) (more events : List Event) → Later more events → Later (with_return o c more) events
return_later None c more events had = had
return_later (Some r) c more events had = record { later = Returns c ∷ had.later; adds = ap (λ xs. Returns c ∷ xs) had.adds }

pub later_events : (u t : Trace) → Later (events_of (u ++ t)) (events_of t)
later_events [] t = record { later = []; adds = refl }
later_events (e ∷ u) t =
    return_later e.returns e.core _ (events_of t)
    (decision_later e.decides (after_enter e.enters (phase (u ++ t) e.core)) e.core _ (events_of t)
    (entry_later e.enters e.core (events_of (u ++ t)) (events_of t) (later_events u t)))

-- What was past stays past.
pub past_on : (setup : Setting) (t : Trace) (e : Step) → IsLegal setup (e ∷ t) → (l d : ℕ) → IsPast d ((state_after setup t).number l)
    → IsPast d ((state_after setup (e ∷ t)).number l)
past_on setup t e legal l d past =
    let had : Later (events_of (e ∷ t)) (events_of t) = later_events (e ∷ []) t in
    subst (IsPast d) (ap (λ xs. (after setup xs).number l) (sym had.adds) ∙ ap (λ (y : State). y.number l) (sym (state_is setup (e ∷ t))))
    (past_stays setup had.later (events_of t) (subst (IsRun setup) had.adds (run_of setup (e ∷ t) legal)) l d
    (subst (IsPast d) (ap (λ (y : State). y.number l) (state_is setup t)) past))

was_past : (setup : Setting) (t : Trace) → IsLegal setup t → (c l d : ℕ) → WasAt (IsDeadIn l d) setup t c
    → IsPast d ((state_after setup t).number l)
was_past setup [] legal c l d was = absurd was
was_past setup (e ∷ t) legal c l d (inl now) = subst (IsPast d) (sym now) (omega arith)
was_past setup (e ∷ t) legal c l d (inr was) =
    past_on setup t e legal l d (was_past setup t legal.0 c l d (before (c == e.core && is_some e.enters) was))
  where
    before : (b : Bool) → IfNot b (WasAt (IsDeadIn l d) setup t c) → WasAt (IsDeadIn l d) setup t c
    before true h = absurd h
    before false h = h

-- A number that died in the last epoch that it has is not live, and its epochs are spent.
pub record IsSpent (p : Liveness) (epochs : ℕ) : Type 0 where
  pub dead : is_live p ≡ false
  pub last : epoch_of p ≡ epochs

spent_by : (p : Liveness) (d epochs : ℕ) → IsPast d p → NumberInRange epochs p → epochs ≤ d → IsSpent p epochs
spent_by Unused d epochs past within most = absurd past
spent_by (Live e f) d epochs past within most = let high = within.most in absurd (omega (arith, past, high, most))
spent_by (Dead e) d epochs past within most =
    let high = within.most in record { dead = refl; last = omega (arith, past, high, most) }

pub spent_at : (setup : Setting) → IsSetting setup → (t : Trace) → IsLegal setup t → (c l d : ℕ) → WasAt (IsDeadIn l d) setup t c
    → setup.epochs ≤ d → IsSpent ((state_after setup t).number l) (state_after setup t).limits.epochs
spent_at setup setting t legal c l d was most =
    spent_by ((state_after setup t).number l) d (state_after setup t).limits.epochs (was_past setup t legal c l d was)
    ((subst InRanges (sym (state_is setup t)) (ranges_hold setup setting (events_of t) (run_of setup t legal))).numbers l)
    (let same : (state_after setup t).limits.epochs ≡ setup.epochs = ap (λ x. x.epochs) (limits_of setup t) in omega (arith, most, same))

pub spent_now : (setup : Setting) → IsSetting setup → (t : Trace) → IsLegal setup t → (l d : ℕ) → (state_after setup t).number l ≡ Dead d
    → setup.epochs ≤ d → IsSpent ((state_after setup t).number l) (state_after setup t).limits.epochs
spent_now setup setting t legal l d is most =
    spent_by ((state_after setup t).number l) d (state_after setup t).limits.epochs (subst (IsPast d) (sym is) (omega arith))
    ((subst InRanges (sym (state_is setup t)) (ranges_hold setup setting (events_of t) (run_of setup t legal))).numbers l)
    (let same : (state_after setup t).limits.epochs ≡ setup.epochs = ap (λ x. x.epochs) (limits_of setup t) in omega (arith, most, same))
