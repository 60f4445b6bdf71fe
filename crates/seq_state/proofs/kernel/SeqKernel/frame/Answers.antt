use Rattle.{std.proofs.Common.ap, std.proofs.Common.sym, std.proofs.Common.◌∙◌, seq_state.specs.frame_or_untyped, seq_state.specs.maps_of}
use Rattle.seq_state.proofs.MapLemmas as maps
use Rattle.seq_state.proofs.kernel.SeqKernel.frame.Goals as goal

pub returns-in-Some : goal.returns-in-Some
returns-in-Some c =
    rw (← c.self.view_is)
    (ap frame_or_untyped (sym c.in-Some.is)
    ∙ maps.frame_reads (maps_of c.self.inside) c.args.frame c.number.result c.held.result c.number.ensures.value c.held.ensures)

pub returns-in-None : goal.returns-in-None
returns-in-None c =
    rw (← c.self.view_is)
    (ap frame_or_untyped (sym c.in-None.is)
    ∙ maps.frame_reads (maps_of c.self.inside) c.args.frame c.number.result c.held.result c.number.ensures.value c.held.ensures)
