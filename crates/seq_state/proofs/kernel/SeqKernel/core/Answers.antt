use Rattle.kernel_invariant.specs.kernel_rules.proofs.{ap, arith, Limits}
use Rattle.seq_state.specs.Kernel.{maps_of}
use Rattle.seq_state.proofs.MapLemmas as maps
use Rattle.seq_state.proofs.kernel.SeqKernel.core.Goals as goal

pub standing-requires : goal.standing-requires
standing-requires c =
    let e = ap (λ (l : Limits). l.cores) (maps.limits_of c.args.self.now (maps_of c.self.inside) c.self.view_is) in
    c.self.invariant.cores c.from.result (omega arith)

pub returns : goal.returns
returns c = rw (← c.self.view_is)
    (maps.core_reads (maps_of c.self.inside) c.args.core c.from.result c.standing.result.now (omega arith) c.standing.ensures)
