use Rattle.{seq_lookups.specs.seq_state.specs.Maps.state_of, seal_check.specs.Sealing.is_in, seal_check.proofs.Frees.tells_place}
use Rattle.seal_check.proofs.sealed.is_free.Goals as goal

pub returns-in-Some : goal.returns-in-Some
returns-in-Some c =
    tells_place (state_of c.args.k.now) c.args.at (is_in c.args.world.now) c.used_at.result c.in-Some.cap c.spares.result c.in-Some.is
    c.used_at.ensures c.spares.ensures
