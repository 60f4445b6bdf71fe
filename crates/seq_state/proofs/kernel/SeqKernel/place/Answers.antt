use Rattle.seq_state.specs.{refl, maps_of}
use Rattle.seq_state.proofs.MapLemmas as maps
use Rattle.seq_state.proofs.kernel.SeqKernel.place.Goals as goal

pub returns : goal.returns
returns c =
    rw (← c.self.view_is, c.unwrap_or.ensures, c.held.ensures)
    (maps.place_reads (maps_of c.self.inside) c.args.node c.args.index c.place_key.result _ c.requires c.place_key.ensures refl)
