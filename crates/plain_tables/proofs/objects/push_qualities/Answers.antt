use Rattle.plain_tables.proofs.Common.{◌≡◌, arith, quality_line, begins, goes_on}
use Rattle.plain_tables.proofs.Stacks.{text_begin, text_next, text_all}
use Rattle.plain_tables.proofs.objects.push_qualities.Goals as goal

pub pairs-init : goal.pairs-init
pairs-init c = begins _ _ (text_begin quality_line c.args.qualities.now)

pub pairs-preserved : goal.pairs-preserved
pairs-preserved c = goes_on _ _ _ _ _ _ c.in_ok-push_pair.ensures c.pairs.invariant
    (text_next quality_line c.args.qualities.now c.pairs.at c.pair_at-pair.result c.pair_at-pair.ensures)

pub returns : goal.returns
returns c =
    let end : c.pairs.at ≡ c.len-at-end.result = omega arith in
    text_all quality_line c.args.qualities.now c.pairs.at c.len-at-end.result _ _ end c.len-at-end.ensures.length c.pairs.invariant
