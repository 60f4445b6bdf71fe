use Rattle.{std.proofs.lemmas.Result.IfOk-weaker, turn_tests.proofs.Tickets.shown_after}
use Rattle.turn_tests.proofs.taking.close_shown.Goals as goal

pub returns-clause-shown : goal.returns-clause-shown
returns-clause-shown c =
    let shown = shown_after c.args.table.start c.requires.start in
    IfOk-weaker c.close.result _ _ (λ r end. shown end.trace end.sound r.0.items end.word r.1.items end.program end.program_count)
    c.close.ensures
