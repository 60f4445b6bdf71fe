use Rattle.seq_state.specs.{refl, maps_of}
use Rattle.seq_state.proofs.MapLemmas as maps
use Rattle.seq_state.proofs.kernel.SeqKernel.number.Goals as goal

pub returns : goal.returns
returns c =
    rw (← c.self.view_is, c.unwrap_or.ensures, c.held.ensures)
    (maps.number_reads (maps_of c.self.inside) c.args.number c.from.result _ c.from.ensures refl)
