use Rattle.seq_state.specs.Kernel.{maps_of}
use Rattle.seq_state.proofs.kernel.SeqKernel.period.Goals.{in-PlaceOf, in-FrameOf, in-NumberOf}
use Rattle.seq_state.proofs.MapLemmas as maps
use Rattle.seq_state.proofs.kernel.SeqKernel.period.Goals as goal

pub returns : goal.returns
returns c = rw (← c.self.view_is, c.unwrap_or.ensures) (elim c.match-thing.branch [
  | in-PlaceOf w ↦
      let r = rw w.in-PlaceOf.is at c.requires in
      rw (w.in-PlaceOf.is, w.found-is, w.held-found.ensures) (maps.place_period_reads (maps_of c.self.inside)
      w.in-PlaceOf.node w.in-PlaceOf.index w.place_key.result c.none.result r w.place_key.ensures c.none.ensures)
  | in-FrameOf w ↦
      rw (w.in-FrameOf.is, w.found-is, w.held-found-in-FrameOf.ensures) (maps.frame_period_reads
      (maps_of c.self.inside) w.in-FrameOf.frame w.number.result c.none.result w.number.ensures.value c.none.ensures)
  | in-NumberOf w ↦
      rw (w.in-NumberOf.is, w.found-is, w.held-found-in-NumberOf.ensures)
      (maps.number_period_reads (maps_of c.self.inside) w.in-NumberOf.number w.from.result c.none.result w.from.ensures c.none.ensures)
])
