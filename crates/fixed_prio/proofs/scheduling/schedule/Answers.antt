use Rattle.std.proofs.Common.{Some, sym, subst, refl, ◌∙◌}
use Rattle.fixed_prio.proofs.Going.{Gone, begun, one_turn, last_turn, takes_at}
use Rattle.fixed_prio.proofs.scheduling.schedule.Goals as goal

pub turns-init : goal.turns-init
turns-init g c = record {
  setup = refl;
  gone = subst (λ l. Gone (g.M.Machine.setup c.args.m.now) (g.M.Machine.made c.args.m.now) c.args.rule.now c.args.tasks.now l
      (g.M.Machine.made c.args.m.now) c.in_ok-course.course c.args.k.now) (sym c.new-turns.ensures.items)
      (begun (g.M.Machine.setup c.args.m.now) (g.M.Machine.made c.args.m.now) c.args.rule.now c.args.tasks.now c.in_ok-course.course
      c.args.k.now c.requires.beside c.requires.tasks c.requires.few c.in_ok-course.ensures.time c.in_ok-course.ensures.jobs
      c.in_ok-course.ensures.last);
}

pub turns-preserved : goal.turns-preserved
turns-preserved g c =
    let S = g.M.Machine.setup c.args.m.now in
    let taken = takes_at S (g.M.Machine.setup c.turns.m) c.args.rule.now (g.M.Machine.made c.turns.m) (g.M.Machine.made c.take_turn.new.m)
    c.turns.course c.take_turn.new.course c.take_turn.new.k (Some c.in-Some.turn) c.turns.invariant.setup c.in-Some.ensures.takes in
    let one = one_turn S (g.M.Machine.made c.args.m.now) c.args.rule.now c.args.tasks.now c.turns.turns.items (g.M.Machine.made c.turns.m)
    (g.M.Machine.made c.take_turn.new.m) c.turns.course c.take_turn.new.course c.turns.k c.take_turn.new.k c.in-Some.turn
    c.requires.rule c.turns.invariant.gone taken in
    record {
      setup = c.take_turn.ensures.setup ∙ c.turns.invariant.setup;
      gone = subst (λ l. Gone S (g.M.Machine.made c.args.m.now) c.args.rule.now c.args.tasks.now l (g.M.Machine.made c.take_turn.new.m)
          c.take_turn.new.course c.take_turn.new.k) (sym c.in-Ok.ensures.items) one.0;
    }

pub turns-smaller : goal.turns-smaller
turns-smaller g c =
    let S = g.M.Machine.setup c.args.m.now in
    let taken = takes_at S (g.M.Machine.setup c.turns.m) c.args.rule.now (g.M.Machine.made c.turns.m) (g.M.Machine.made c.take_turn.new.m)
    c.turns.course c.take_turn.new.course c.take_turn.new.k (Some c.in-Some.turn) c.turns.invariant.setup c.in-Some.ensures.takes in
    (one_turn S (g.M.Machine.made c.args.m.now) c.args.rule.now c.args.tasks.now c.turns.turns.items (g.M.Machine.made c.turns.m)
    (g.M.Machine.made c.take_turn.new.m) c.turns.course c.take_turn.new.course c.turns.k c.take_turn.new.k c.in-Some.turn
    c.requires.rule c.turns.invariant.gone taken).1

pub returns-in-Err-clause-beside : goal.returns-in-Err-clause-beside
returns-in-Err-clause-beside g c =
    let S = g.M.Machine.setup c.args.m.now in
    let taken = takes_at S (g.M.Machine.setup c.turns.m) c.args.rule.now (g.M.Machine.made c.turns.m) (g.M.Machine.made c.take_turn.new.m)
    c.turns.course c.take_turn.new.course c.take_turn.new.k (Some c.in-Some.turn) c.turns.invariant.setup c.in-Some.ensures.takes in
    (one_turn S (g.M.Machine.made c.args.m.now) c.args.rule.now c.args.tasks.now c.turns.turns.items (g.M.Machine.made c.turns.m)
    (g.M.Machine.made c.take_turn.new.m) c.turns.course c.take_turn.new.course c.turns.k c.take_turn.new.k c.in-Some.turn
    c.requires.rule c.turns.invariant.gone taken).0.beside

pub returns-clause-turns : goal.returns-clause-turns
returns-clause-turns g c =
    let S = g.M.Machine.setup c.args.m.now in
    (last_turn S (g.M.Machine.made c.args.m.now) c.args.rule.now c.args.tasks.now c.turns.turns.items (g.M.Machine.made c.turns.m)
    (g.M.Machine.made c.take_turn.new.m) c.turns.course c.take_turn.new.course c.turns.k c.take_turn.new.k c.take_turn.result
    c.in_default.not-Some c.turns.invariant.gone
    (takes_at S (g.M.Machine.setup c.turns.m) c.args.rule.now (g.M.Machine.made c.turns.m) (g.M.Machine.made c.take_turn.new.m)
    c.turns.course c.take_turn.new.course c.take_turn.new.k c.take_turn.result c.turns.invariant.setup c.take_turn.ensures.takes)).0
