use Rattle.{seq_state.specs.Kernel.maps_of, seq_state.proofs.RankLemmas.counted_anew, seq_state.proofs.RankLemmas.whole_anew}
use Rattle.seq_state.proofs.kernel.SeqKernel.count_anew.Goals as goal

pub returns-clause-same : goal.returns-clause-same
returns-clause-same c =
    rw (← c.self.view_is) (counted_anew (maps_of c.self.inside) c.rank_below.new.map.items c.rank_below-2.new.map.items
    c.rank_below-3.new.map.items c.all_ranked-self-inside.result c.self.invariant (record {
      places = c.rank_below.ensures;
      frames = c.rank_below-2.ensures;
      numbers = c.rank_below-3.ensures;
      times = c.all_ranked-self-inside.ensures.ranks;
    }))

pub invariant_of-self : goal.invariant_of-self
invariant_of-self c =
    whole_anew (maps_of c.self.inside) c.rank_below.new.map.items c.rank_below-2.new.map.items
    c.rank_below-3.new.map.items c.all_ranked-self-inside.result c.self.invariant (record {
      places = c.rank_below.ensures;
      frames = c.rank_below-2.ensures;
      numbers = c.rank_below-3.ensures;
      times = c.all_ranked-self-inside.ensures.ranks;
    }) c.all_ranked-self-inside.ensures.all
