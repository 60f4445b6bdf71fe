-- The laws of split worlds, said of legal traces by their events.
use Rattle.kernel_history.proofs.{◌≡◌, ℕ, refl, sym, ◌∙◌, ap, subst, List, [], ◌∷◌, ◌++◌, Option, Some, None, Setting, IsSetting, Call}
use Rattle.kernel_history.proofs.{Reply, State, Event, Enters, Decides, Returns, after, IsRun, Phase, Out, Decided, phase, after_enter}
use Rattle.kernel_history.proofs.{state_after, with_entry, with_decision, with_return, events_of, IsLegal, state_is, run_of}
use Rattle.split_traces.specs.Traces.{events_since, StretchesStaySplit, hushed_since, StretchesAreSilent}
use Rattle.{split_laws.specs.IsSplit, split_laws.specs.AgreeIn, kernel_history.specs.Trace.Trace, kernel_history.specs.Trace.Open}
use Rattle.{split_laws.proofs.Splitting.split_for_good, split_laws.proofs.Silence.others_are_silent}

-- ---- the events of a longer trace are those since a shorter one, and the shorter one's

entry_since : (o : Option Call) (c : ℕ) (xs ys : List Event) → with_entry o c (xs ++ ys) ≡ with_entry o c xs ++ ys
entry_since None c xs ys = refl
entry_since (Some call) c xs ys = refl

decision_since : (o : Option Reply) (p : Phase) (c : ℕ) (xs ys : List Event) → with_decision o p c (xs ++ ys) ≡ with_decision o p c xs ++ ys
decision_since None p c xs ys = refl
decision_since (Some r) Out c xs ys = refl
decision_since (Some r) (Open call) c xs ys = refl
decision_since (Some r) (Decided call q) c xs ys = refl

return_since : (o : Option Reply) (c : ℕ) (xs ys : List Event) → with_return o c (xs ++ ys) ≡ with_return o c xs ++ ys
return_since None c xs ys = refl
return_since (Some r) c xs ys = refl

pub events_are : (u t : Trace) → events_of (u ++ t) ≡ events_since u t ++ events_of t
events_are [] t = refl
events_are (e ∷ u) t =
    let p = after_enter e.enters (phase (u ++ t) e.core) in
    let entered = with_entry e.enters e.core (events_since u t) in
    ap (λ xs. with_return e.returns e.core (with_decision e.decides p e.core (with_entry e.enters e.core xs))) (events_are u t)
    ∙ ap (λ xs. with_return e.returns e.core (with_decision e.decides p e.core xs))
    (entry_since e.enters e.core (events_since u t) (events_of t))
    ∙ ap (with_return e.returns e.core) (decision_since e.decides p e.core entered (events_of t))
    ∙ return_since e.returns e.core (with_decision e.decides p e.core entered) (events_of t)

-- ---- the laws

run_since : (setup : Setting) (u t : Trace) → IsLegal setup (u ++ t) → IsRun setup (events_since u t ++ events_of t)
run_since setup u t legal = subst (IsRun setup) (events_are u t) (run_of setup (u ++ t) legal)

-- The state after a longer trace.
state_since : (setup : Setting) (u t : Trace) → state_after setup (u ++ t) ≡ after setup (events_since u t ++ events_of t)
state_since setup u t = state_is setup (u ++ t) ∙ ap (after setup) (events_are u t)

pub stretches_stay_split : StretchesStaySplit
stretches_stay_split setup lim u t legal w split own =
    subst (IsSplit w) (sym (state_since setup u t))
    (split_for_good setup lim (events_of t) (events_since u t) (run_since setup u t legal) w (subst (IsSplit w) (state_is setup t) split) own)

pub stretches_are_silent : StretchesAreSilent
stretches_are_silent setup lim u t legal w split own tells =
    let silent = others_are_silent setup lim (events_of t) (events_since u t) (run_since setup u t legal) w
    (subst (IsSplit w) (state_is setup t) split) own tells in (
      silent.0,
      subst (λ s. AgreeIn w s (after setup (hushed_since w setup u t))) (sym (state_since setup u t)) silent.1,
      silent.2,
    )
