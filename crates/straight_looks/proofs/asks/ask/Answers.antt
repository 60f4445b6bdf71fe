use Rattle.std.proofs.Common.{refl}
use Rattle.straight_looks.proofs.Steps.{asked_lives}
use Rattle.straight_looks.proofs.asks.ask.Goals as goal

-- src/asks.rt
pub returns-then-lives : goal.returns-then-lives
returns-then-lives g c = record {
  kept = refl;
  core =
      asked_lives c.args.own.now c.args.call.now _ _ _ c.in-Some.life _ _ _ _ c.requires.begins c.make.ensures.goes
      c.make-found.ensures.goes c.make-found-in-Some.ensures.goes c.requires.room c.requires.asks (cc) (c.lives.ensures c.if-lives.true);
  fits = c.make-found-in-Some.ensures.fits;
}
