use Rattle.std.proofs.Common.{sym, ◌∙◌}
use Rattle.straight_entries.proofs.Entries.{live_entered}
use Rattle.straight_entries.proofs.enters.enter_live.Goals as goal

pub push-requires-clause-stores : goal.push-requires-clause-stores
push-requires-clause-stores g c =
    live_entered c.args.own.now c.change.new.self c.args.call.now 10 _ c.args.table c.args.pages _ c.args.life.now c.args.invoking.now
    c.args.caps.now c.args.count.now _ _ c.requires.stands c.make-found.ensures.goes c.requires.at (sym c.lives.ensures ∙ c.if-lives.true)
    c.saturating_add.ensures c.change.ensures
