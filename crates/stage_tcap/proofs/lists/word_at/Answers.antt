use Rattle.stage_tcap.proofs.ListLemmas.{got_pair, pair_in_word}
use Rattle.stage_tcap.proofs.lists.word_at.Goals as goal

pub pack-requires : goal.pack-requires
pack-requires c = pair_in_word c.get.result (rw c.get.ensures (got_pair c.args.list.now _ c.len.ensures.sorted))
