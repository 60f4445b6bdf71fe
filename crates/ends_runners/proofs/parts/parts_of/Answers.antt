use Rattle.std.proofs.Common.{rules, ◌∙◌, map, ap, sym, map-id}
use Rattle.std.proofs.{lemmas.Iterator.Consumers.YieldsList-end, lemmas.Iterator.Adapters.YieldsList-from_vec}
use Rattle.ends_runners.specs.Runs.{EndRunnerValue}
use Rattle.ends_runners.proofs.parts.parts_of.Goals as goal

pub returns : goal.returns
returns c =
    let end = YieldsList-end (YieldsList-from_vec {s = c.into_iter-runner-iterator.result} c.args.runners.items (search rules)
    (search rules)) c.loop-runner.yielded c.loop-runner.runner-iterator c.loop-runner.yielded_by c.next.result c.next.new.self
    c.in-None.is c.next.ensures.steps in
    let all = sym (map-id c.loop-runner.yielded) ∙ end.0 in
    let i = c.loop-runner.invariant in
    record {
      seats_are = i.seats ∙ ap (map (λ (r : EndRunnerValue). r.who)) all;
      ends_are = i.ends ∙ ap (map (λ (r : EndRunnerValue). r.seat)) all;
      done_are = i.done ∙ ap (map (λ (r : EndRunnerValue). r.done)) all;
    }
