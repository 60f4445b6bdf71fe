use Rattle.{seq_lookups.specs.seq_state.specs.Maps.state_of, plain_tables.proofs.Texts.all_adds}
use Rattle.plain_tables.proofs.names.push_all.Goals as goal

pub returns : goal.returns
returns c =
    all_adds (state_of c.args.k.now) _ _ _ _ _
    c.in_ok-push_nodes.ensures c.in_ok-push_frames.ensures c.in_ok-push_cores.ensures c.in_ok-push_numbers.ensures
