use Rattle.call_steps.proofs.Naming.{entered, none_named, stands_at}
use Rattle.call_steps.proofs.names.enter.Goals as goal

pub returns : goal.returns
returns g c =
    stands_at c.args.own.now c.stand.new.own c.args.call.now 0 c.none.result c.stand.new.active (g.W.Words.core c.make.new.self)
    (none_named c.args.own.now c.args.call.now 0 c.none.result (g.W.Words.core c.make.new.self) (record {
      core =
          entered c.args.own.now c.args.call.now c.make.result (g.W.Words.core c.args.words.now) (g.W.Words.core c.make.new.self)
          c.requires.begins c.make.ensures.goes c.requires.room c.requires.asks;
      fits = c.make.ensures.fits;
    }) c.none.ensures) c.stand.ensures.state c.stand.ensures.in_call
