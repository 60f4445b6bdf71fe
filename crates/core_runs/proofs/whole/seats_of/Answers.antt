use Rattle.core_kernel.specs.kernel_history.proofs.{rules, ◌≡◌, ◌∙◌, ◌++◌, [], ◌∷◌, map, ap, sym, map-id, map-append}
use Rattle.std.proofs.{lemmas.Iterator.Consumers.YieldsList-end, lemmas.Iterator.Adapters.YieldsList-from_vec}
use Rattle.core_runs.specs.Runs.{RunnerValue}
use Rattle.core_runs.proofs.whole.seats_of.Goals as goal

pub loop-runner-init : goal.loop-runner-init
loop-runner-init c = c.in_ok-seats.ensures.items

pub loop-runner-preserved : goal.loop-runner-preserved
loop-runner-preserved c =
    c.in_ok-push.ensures.items ∙ (λ i. c.loop-runner.invariant i ++ (c.runner.view_is i).seat ∷ [])
    ∙ sym (map-append (λ (r : RunnerValue). r.seat) c.loop-runner.yielded (c.in-Some.runner ∷ []))

pub returns : goal.returns
returns c =
    let end = YieldsList-end (YieldsList-from_vec {s = c.into_iter-runner-iterator.result} c.args.runners.items (search rules)
    (search rules)) c.loop-runner.yielded c.loop-runner.runner-iterator c.loop-runner.yielded_by c.next.result c.next.new.self
    c.in-None.is c.next.ensures.steps in
    c.loop-runner.invariant ∙ ap (map (λ (r : RunnerValue). r.seat)) (sym (map-id c.loop-runner.yielded) ∙ end.0)
