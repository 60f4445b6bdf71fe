-- A call through a gate that is carried out enters a component that lives.
use Rattle.time_laws.specs as low
use low.step_ways.proofs.{to_use, ◌≡◌, ◌&&◌, ℕ, leb as nat_le, length, not, [], ◌∷◌, ◌++◌, Bool, true, false, if◌then◌else◌, Option, Some}
use low.step_ways.proofs.{None, refl, sym, ◌∙◌, ap, subst, eqb-true, false≢true, Capability, Setting, IsSetting, Call, Value, Liveness}
use low.step_ways.proofs.{Live, Dead, State, comp_in, thread_of, Named, found, only, Found, Rule, Does, IsFoundAnd, and_then}
use low.step_ways.proofs.{first_of, named, outcome, unless, is_live_in, MayReply, after, IsRun, events_of, MayDecide, MayFollow, Step}
use low.step_ways.proofs.{Trace, Open, phase, after_enter, state_before, state_entered, state_after, state_is, run_of, open_inj, Invariant}
use low.step_ways.proofs.{does, Kind, Reply}
use low.kernel_rules.specs.{When, call_rule, not_live, Push as push_edit, Nothing as no_value}
use low.{flight.specs.IsMade, flight.specs.cores_after, history_laws.specs.EntersTheLiving, history_laws.specs.EntersNoneKilled}
use low.{spk_nums.specs.declared.calls.Call.TheVariants.Call as call_gate, kernel_rules.specs.Rules.RuleAnswers}
use low.{state_laws.proofs.Lives.dead_stays, comp_invariant.proofs.LaterEvents.Later, comp_invariant.proofs.LaterEvents.later_events}
use low.{history_laws.specs.Invocations.number_through, flight.proofs.Made.made_stands}

-- What the rule of a call answers through a gate.
module _ (s : State) (c n : ℕ) (v : Value) (gate : Capability) where
  abbrev entering : Named → Rule
  entering g = Does (
      When (nat_le 16 (length (thread_of s c).stack)) Reply.Deep
      ∷ not_live s g (comp_in (s.frame g.frame)).number g.arg
      ∷ []) no_value (push_edit g.frame ∷ [])

  by_causes : (deep lives : Bool)
      → IsFoundAnd (unless (first_of (if deep then Some Reply.Deep else None)
      (first_of (if true && not lives then Some Reply.Dead else None) None)) (does c s no_value (push_edit gate.frame ∷ [])))
      (λ change. change.value ≡ v)
      → lives ≡ true
  by_causes deep true is = refl
  by_causes true false is = absurd is
  by_causes false false is = absurd is

  lives_at : named s c n (to_use (only Kind.Gate)) ≡ Found gate → RuleAnswers s c (call_rule s c n) v
      → is_live_in (s.number (comp_in (s.frame gate.frame)).number) gate.arg ≡ true
  lives_at leads answers =
      by_causes (nat_le 16 (length (thread_of s c).stack)) (is_live_in (s.number (comp_in (s.frame gate.frame)).number) gate.arg)
      (subst (λ o. IsFoundAnd (and_then o λ k. outcome s c (entering (found k))) (λ change. change.value ≡ v)) leads answers)

pub enters_the_living : (setup : Setting) → IsSetting setup → (t : Trace) (e : Step) → IsMade setup (e ∷ t) → EntersTheLiving setup t e
enters_the_living setup setting t e made gate is =
    lives_at (state_before setup t e) e.core is.name is.value gate is.leads (subst
    (λ k. MayReply (state_before setup t e) e.core k (Reply.Ok is.value))
    (open_inj decides.call (call_gate is.name) decides.is_open) decides.permitted).1.1
  where
    follows : MayFollow setup t e
    follows = (made_stands setup setting (e ∷ t) made).legal.1

    decides : MayDecide setup t e (Some (Reply.Ok is.value)) (Open (call_gate is.name))
    decides = subst (MayDecide setup t e (Some (Reply.Ok is.value))) is.call
        (subst (λ o. MayDecide setup t e o (after_enter e.enters (phase t e.core))) is.decides follows.decides)

-- A number that is live in an epoch.
record LivesIn (x : Liveness) (epoch : ℕ) : Type 0 where
  frame : ℕ
  is : x ≡ Live epoch frame

lives_in : (x : Liveness) (epoch : ℕ) → is_live_in x epoch ≡ true → LivesIn x epoch
lives_in (Live e f) epoch h = record { frame = f; is = ap (λ (n : ℕ). Live n f) (eqb-true e epoch h) }
lives_in _ epoch h = absurd (false≢true h)

-- An entry leaves the numbers.
entered_number : (o : Option Call) (s : State) (c l : ℕ) → (state_entered o s c).number l ≡ s.number l
entered_number None s c l = refl
entered_number (Some call) s c l = refl

pub enters_none_killed : (setup : Setting) → IsSetting setup
    → (u t : Trace) (e : Step) → IsMade setup (e ∷ u ++ t) → EntersNoneKilled setup (e ∷ u) t
enters_none_killed setup setting u t e made gate is epoch dead =
    let stands : Invariant setup (cores_after setup (u ++ t)) (u ++ t) = made_stands setup setting (u ++ t) made.0 in
    let had : Later (events_of (u ++ t)) (events_of t) = later_events u t in
    let l : ℕ = number_through (state_before setup (u ++ t) e) gate in
    let lives : LivesIn ((state_before setup (u ++ t) e).number l) gate.arg =
    lives_in ((state_before setup (u ++ t) e).number l) gate.arg (enters_the_living setup setting (u ++ t) e made gate is) in
    dead_stays setup had.later (events_of t) (subst (IsRun setup) had.adds (run_of setup (u ++ t) stands.legal)) l epoch gate.arg
    lives.frame
    (ap (λ (y : State). y.number l) (sym (state_is setup t)) ∙ dead)
    (ap (λ xs. (after setup xs).number l) (sym had.adds)
    ∙ ap (λ (y : State). y.number l) (sym (state_is setup (u ++ t)))
    ∙ sym (entered_number e.enters (state_after setup (u ++ t)) e.core l) ∙ lives.is)
