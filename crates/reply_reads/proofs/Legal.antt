-- Every reply that a legal trace decides is in range: the events up to a decision are a run, and a `busy` names a core that is in a call.
use Rattle.kernel_history.proofs.{◌≡◌, ℕ, ◌<◌, List, [], ◌∷◌, length, Option, Some, None, sym, ◌∙◌, ap, subst, IsTrue, All, Setting}
use Rattle.kernel_history.proofs.{IsSetting, Call, Reply, Decision, State, MayReply, Event, after, IsRun, Step, phase, after_enter}
use Rattle.kernel_history.proofs.{state_before, decision_at, decisions_of, calls_of, plain_phase, IsJustified, MayDecide, IsLegal}
use Rattle.kernel_history.proofs.{entered_events, before_is, entered_phase, entered_run, run_of}
use Rattle.reply_ranges.specs.kernel_laws.proofs.{inside_is, limits_stay}
use Rattle.std.proofs.lemmas.List.Elements.{All-nil, All-cons, All-append}
use Rattle.kernel_history.specs.{Trace.Trace, Legal.DecidesBy}
use Rattle.reply_reads.specs.Laws.{IsReplyWithin, LegalReplies}
use Rattle.{reply_ranges.specs.found_stays.proofs.SparesRuns.inside_facts, reply_ranges.proofs.Replies.replies_in_range}

module _ (setup : Setting) (lim : IsSetting setup) (t : Trace) (e : Step) (legal : IsLegal setup (e ∷ t)) where
  -- The events before the step's decision.
  abbrev events : List Event
  events = entered_events t e

  run : IsRun setup events
  run = entered_run setup t e legal.0 legal.1 (run_of setup t legal.0)

  -- A core that is in a call is one of the machine's.
  inside_core : (d : ℕ) → IsTrue ((state_before setup t e).core d).inside → d < setup.cores
  inside_core d inside =
      let is : IsTrue ((after setup events).core d).inside = subst (λ (s : State). IsTrue (s.core d).inside) (before_is setup t e) inside in
      subst (λ l. d < l.cores) (limits_stay setup events) (inside_facts setup events run d (sym (inside_is setup events run d) ∙ is)).1

  busy_core : (call : Call) (r : Reply) → IsJustified setup t e call r → (d : ℕ) → r ≡ Reply.Busy d → d < setup.cores
  busy_core call r justified d is = inside_core d (subst (IsJustified setup t e call) is justified).is_inside

  -- The reply that the step decides is in range.
  pub reply_within : (r : Reply) → DecidesBy setup t e r (after_enter e.enters (phase t e.core)) → IsReplyWithin setup.cores r
  reply_within r decides =
      replies_in_range setup lim events run e.core decides.call r
      (record {
        is_open = entered_phase t e ∙ ap plain_phase decides.is_open;
        permitted = subst (λ (s : State). MayReply s e.core decides.call r) (before_is setup t e) decides.permitted;
      })
      (busy_core decides.call r decides.justified)

  pub decided_within : (r : Reply) → e.decides ≡ Some r → IsReplyWithin setup.cores r
  decided_within r is =
      reply_within r (subst (λ (o : Option Reply). MayDecide setup t e o (after_enter e.enters (phase t e.core))) is legal.1.decides)

  -- So is each reply of its decisions.
  abbrev InRange : Decision → Type 0
  InRange d = IsReplyWithin setup.cores d.reply

  decision_within : (o : Option Reply) → MayDecide setup t e o (after_enter e.enters (phase t e.core))
      → (i : ℕ) → All InRange (decision_at o e.core i)
  decision_within None decides i = All-nil InRange
  decision_within (Some r) decides i =
      All-cons InRange (record { core = e.core; index = i; reply = r }) [] (reply_within r decides) (All-nil InRange)

pub legal_replies : LegalReplies
legal_replies setup lim [] legal = All-nil _
legal_replies setup lim (e ∷ t) legal =
    All-append (λ (d : Decision). IsReplyWithin setup.cores d.reply) (decisions_of t)
    (decision_at e.decides e.core (length (calls_of (e ∷ t) e.core))) (legal_replies setup lim t legal.0)
    (decision_within setup lim t e legal e.decides legal.1.decides (length (calls_of (e ∷ t) e.core)))
