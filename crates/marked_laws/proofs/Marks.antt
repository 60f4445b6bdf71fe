-- The marks of a legal trace are a history.
use Rattle.kernel_history.proofs.{◌≡◌, ◌≢◌, ℕ, ◌+◌, ◌<◌, cond, List, [], ◌∷◌, length, Option, Some, None, refl, sym, ◌∙◌, ap, subst, IsTrue}
use Rattle.kernel_history.proofs.{arith, is_some, length-append, Setting, Call, Reply, word_of, State, rule_of, MayReply, Event, after}
use Rattle.kernel_history.proofs.{phase_of, Step, Phase, Out, Decided, phase, after_enter, after_decide, state_after, state_before}
use Rattle.kernel_history.proofs.{own_read, calls_of, decision_at, decisions_of, is_in as phase_in, events_of, plain_phase, MayEnter}
use Rattle.kernel_history.proofs.{MayDecide, IsLegal, entry_apart, phase_is, before_is, inside_is, entered-inside}
use Rattle.marked_history.specs.{phase as phase_of_marks, state, CanBeDecided, HasMet, MayBeHeldUp, MayDecideIn, IsHistory, decisions}
use Rattle.marked_laws.specs.{with_enter, with_decide, with_return, marks_of}
use Rattle.kernel_history.specs.kernel_rules.specs.{is_in, is_decided, Phase as plain}
use Rattle.kernel_history.specs.{Trace.Trace, Trace.Open, Justified.IsJustifiedIn, Legal.MayReturn}
use Rattle.marked_laws.proofs.Events.{entered_marks, decided_marks, events_are, entered_are, entered_in, decided_in, marks_in}
use Rattle.{kernel_history.proofs.Races.raced_by_another, marked_history.specs.declared.marks.Mark.Mark, marked_laws.specs.Laws.LegalMarks}
use Rattle.{marked_laws.proofs.Races.changed_met}

entry_history : (setup : Setting) (o : Option Call) (c : ℕ) (p : Phase) (marks : List Mark) → c < setup.cores → MayEnter o p
    → phase_of_marks marks c ≡ plain_phase p → IsHistory setup marks → IsHistory setup (with_enter o c marks)
entry_history setup None c p marks core may is history = history
entry_history setup (Some call) c p marks core may is history =
    (history, record { machine = (core, may.1); order = is ∙ ap plain_phase may.0; held_up = tt; permitted = tt })

return_history : (setup : Setting) (o : Option Reply) (c : ℕ) (p : Phase) (marks : List Mark) → c < setup.cores → MayReturn o p
    → phase_of_marks marks c ≡ plain_phase p → IsHistory setup marks → IsHistory setup (with_return o c marks)
return_history setup None c p marks core may is history = history
return_history setup (Some r) c p marks core may is history =
    (history, record { machine = core; order = ap is_decided (is ∙ ap plain_phase may.was_decided); held_up = tt; permitted = tt })

plain_in : (p : Phase) → is_in (plain_phase p) ≡ phase_in p
plain_in Out = refl
plain_in (Open call) = refl
plain_in (Decided call r) = refl

-- The decisions of the marks are counted.
entry_decisions : (o : Option Call) (c : ℕ) (marks : List Mark) → decisions (with_enter o c marks) ≡ decisions marks
entry_decisions None c marks = refl
entry_decisions (Some call) c marks = refl

return_decisions : (o : Option Reply) (c : ℕ) (marks : List Mark) → decisions (with_return o c marks) ≡ decisions marks
return_decisions None c marks = refl
return_decisions (Some r) c marks = refl

decide_decisions : (o : Option Reply) (c i : ℕ) (marks : List Mark) (n : ℕ) → decisions marks ≡ n
    → decisions (with_decide o c marks) ≡ n + length (decision_at o c i)
decide_decisions None c i marks n is = omega (arith, is)
decide_decisions (Some r) c i marks n is = omega (arith, is)

pub decided_count : (t : Trace) → decisions (marks_of t) ≡ length (decisions_of t)
decided_count [] = refl
decided_count (e ∷ t) =
    return_decisions e.returns e.core (decided_marks t e)
    ∙ decide_decisions e.decides e.core (length (calls_of (e ∷ t) e.core)) (entered_marks t e) (length (decisions_of t))
    (entry_decisions e.enters e.core (marks_of t) ∙ decided_count t)
    ∙ sym (length-append (decisions_of t) (decision_at e.decides e.core (length (calls_of (e ∷ t) e.core))))

module _ (setup : Setting) (t : Trace) (e : Step) (legal : IsLegal setup (e ∷ t)) where
  -- A core that is inside as another decides is in a call.
  inside_now : (d : ℕ) → d ≢ e.core → IsTrue ((state_before setup t e).core d).inside
      → IsTrue (is_in (phase_of_marks (entered_marks t e) d))
  inside_now d other inside =
      ap (λ (es : List Event). is_in (phase_of es d)) (entered_are t e)
      ∙ ap is_in (entry_apart e.enters e.core (events_of t) d other ∙ phase_is t d) ∙ plain_in (phase t d)
      ∙ sym (entered-inside e.enters (state_after setup t) e.core d other ∙ inside_is setup t d) ∙ inside

  -- Who lost a race has not just entered.
  not_entered : (o : Option Call) (own : ℕ) → e.enters ≡ o → cond (is_some o) None (own_read t e.core (word_of e.move)) ≡ Some own
      → e.enters ≡ None
  not_entered None own is has = is
  not_entered (Some call) own is has = absurd (cc)

  -- A reply that is justified may be one of who is held up.
  may_be : (call : Call) (r : Reply) → e.decides ≡ Some r
      → IsJustifiedIn setup t e (state_before setup t e) (rule_of (state_before setup t e) e.core call) r
      → MayBeHeldUp (entered_marks t e) e.core r
  may_be call Reply.Raced is lost =
      subst (λ (o : Option Call). HasMet (with_enter o e.core (marks_of t)) e.core) (sym (not_entered e.enters lost.own refl lost.has_read))
      (changed_met setup t legal.0 e.core (word_of e.move) (raced_by_another setup t e legal is))
  may_be call (Reply.Busy d) is held = record { other = held.other; inside = inside_now d held.other held.is_inside }
  may_be call _ is justified = tt

  can_be : (call : Call) → after_enter e.enters (phase t e.core) ≡ Open call → CanBeDecided (phase_of_marks (entered_marks t e) e.core)
  can_be call is = subst CanBeDecided (sym (entered_in t e ∙ ap plain_phase is)) tt

  may_decide : (call : Call) (r : Reply) → after_enter e.enters (phase t e.core) ≡ Open call
      → MayReply (state_before setup t e) e.core call r
      → MayDecideIn (phase_of_marks (entered_marks t e) e.core) (state setup (entered_marks t e)) e.core r
  may_decide call r is permitted =
      subst (λ (p : plain). MayDecideIn p (state setup (entered_marks t e)) e.core r) (sym (entered_in t e ∙ ap plain_phase is))
      (subst (λ (s : State). MayReply s e.core call r) (before_is setup t e ∙ ap (after setup) (sym (entered_are t e))) permitted)

  decision_history : (o : Option Reply) → e.decides ≡ o → MayDecide setup t e o (after_enter e.enters (phase t e.core))
      → IsHistory setup (entered_marks t e) → IsHistory setup (with_decide o e.core (entered_marks t e))
  decision_history None is may history = history
  decision_history (Some r) is may history = (
    history,
    record {
      machine = legal.1.is_core;
      order = can_be may.call may.is_open;
      held_up = may_be may.call r is may.justified;
      permitted = may_decide may.call r may.is_open may.permitted;
    },
  )

  step_history : IsHistory setup (marks_of t) → IsHistory setup (marks_of (e ∷ t))
  step_history history =
      return_history setup e.returns e.core (after_decide e.decides (after_enter e.enters (phase t e.core))) (decided_marks t e)
      legal.1.is_core legal.1.returns (decided_in t e)
      (decision_history e.decides refl legal.1.decides
      (entry_history setup e.enters e.core (phase t e.core) (marks_of t) legal.1.is_core legal.1.enters (marks_in t e.core) history))

pub are_history : (setup : Setting) (t : Trace) → IsLegal setup t → IsHistory setup (marks_of t)
are_history setup [] legal = tt
are_history setup (e ∷ t) legal = step_history setup t e legal (are_history setup t legal.0)

pub legal_marks : LegalMarks
legal_marks setup t legal = record { history = are_history setup t legal; decided = decided_count t; events = events_are t }
