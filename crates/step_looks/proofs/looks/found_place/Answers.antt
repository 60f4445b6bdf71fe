use Rattle.step_starts.specs.call_stages.specs.{named_one, took_found, call_after}
use Rattle.std.proofs.Common.{◌∙◌, ap}
use Rattle.step_looks.proofs.looks.found_place.Goals as goal

pub returns-in-Name-clause-after : goal.returns-in-Name-clause-after
returns-in-Name-clause-after c =
    c.named_one.ensures.after ∙ ap (call_after c.args.active.now)
    (ap (named_one c.args.own.now c.args.active.now) c.met_name-met.ensures
    ∙ ap (λ n. took_found c.args.own.now c.args.active.now n c.args.found.now) c.in-Name.ensures)
