use Rattle.seq_lookups.specs.seq_state.proofs.{◌∙◌, sym, subst, List, [], ◌∷◌, thread_in, Cause, state_of}
use Rattle.seq_plans.specs.{named_of, AreFitCauses}
use Rattle.seq_time.proofs.Switched.{switch_causes, running_fit}
use Rattle.seq_time.proofs.own_causes.not_switched.Goals as goal

pub returns-clause-exact : goal.returns-clause-exact
returns-clause-exact c = λ core h q.
    let s = state_of c.args.k.now in
    let l = c.args.looked.now in
    c.running.ensures ∙ switch_causes s core (named_of l.first) (named_of l.second).frame
    (thread_in (s.frame (named_of l.first).frame)).runs_on (named_of l.third ∷ named_of l.fourth ∷ []) l.at l.held

pub returns-clause-fit : goal.returns-clause-fit
returns-clause-fit c =
    let s = state_of c.args.k.now in
    let h = named_of c.args.looked.now.first in
    subst (λ (xs : List Cause). AreFitCauses xs) (sym c.running.ensures) (running_fit h (thread_in (s.frame h.frame)).runs_on)
