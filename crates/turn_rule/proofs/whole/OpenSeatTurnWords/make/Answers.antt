use Rattle.std.proofs.Common.{refl}
use Rattle.turn_rule.proofs.OpenSeats.{seen_due, seen_on}
use Rattle.turn_rule.proofs.whole.OpenSeatTurnWords.make.Goals as goal

pub make-requires : goal.make-requires
make-requires g c = record {
  said = refl {a = c.args.op};
  table = c.self.invariant.table;
  due = seen_due g.P.CoreProgram.steps c.self.invariant c.args.self.now c.self.view_is c.args.op c.requires.next c.requires.inside;
}

pub invariant_of-self : goal.invariant_of-self
invariant_of-self g c =
    (seen_on g.P.CoreProgram.steps {n = c.make.new.seat} c.self.invariant c.args.self.now c.self.view_is c.args.op c.make.result
    c.requires.next c.requires.size c.make.ensures.table c.make.ensures.goes).on

pub returns-clause-goes : goal.returns-clause-goes
returns-clause-goes g c =
    (seen_on g.P.CoreProgram.steps {n = c.make.new.seat} c.self.invariant c.args.self.now c.self.view_is c.args.op c.make.result
    c.requires.next c.requires.size c.make.ensures.table c.make.ensures.goes).goes

pub returns-clause-told : goal.returns-clause-told
returns-clause-told g c =
    (seen_on g.P.CoreProgram.steps {n = c.make.new.seat} c.self.invariant c.args.self.now c.self.view_is c.args.op c.make.result
    c.requires.next c.requires.size c.make.ensures.table c.make.ensures.goes).told
