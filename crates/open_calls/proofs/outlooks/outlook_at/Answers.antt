use Rattle.plain_kernel.specs.seq_state.proofs.{◌++◌, ◌∙◌, List, ℕ, ap, state_of}
use Rattle.{open_calls.specs.Leads.names_text, open_calls.proofs.Same.outlook_is}
use Rattle.open_calls.proofs.outlooks.outlook_at.Goals as goal

pub returns : goal.returns
returns c = λ setting lim events run opens same.
    outlook_is setting lim events run c.args.core c.args.call.now opens c.args.kernel.now same _
    (c.in_ok-push_names.ensures ∙ ap (λ (x : List ℕ). x ++ names_text (state_of c.args.kernel.now) c.args.core c.args.call.now)
    c.new-names.ensures.bytes) c.in_ok-alone.ensures c.told-told.ensures
