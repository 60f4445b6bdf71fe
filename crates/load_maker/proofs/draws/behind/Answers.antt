use Rattle.{std.proofs.Common.◌*◌, load_maker.specs.Draws.behind, load_maker.proofs.Repeats.cut_before}
use Rattle.load_maker.proofs.draws.behind.Goals as goal

pub returns : goal.returns
unfolding behind
returns c = cut_before (c.args.number * 6364136223846793005) 1442695040888963407 18446744073709551616
