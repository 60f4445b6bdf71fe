use Rattle.{std.proofs.Common.◌*◌, confinement.proofs.Tables.start_table, confinement.proofs.Tables.start_origins}
use Rattle.confinement.proofs.table.OriginTable.start.Goals as goal

pub invariant_of-result : goal.invariant_of-result
invariant_of-result c =
    start_table c.new.result.items c.in_ok-heads.heads.items (64 * c.args.frames) c.new.ensures.items c.in_ok-heads.ensures.length
    c.in_ok-heads.ensures.heads

pub returns : goal.returns
returns c = start_origins c.new.result.items c.in_ok-heads.heads.items c.args.frames c.new.ensures.items c.in_ok-heads.ensures.heads
