use Rattle.told_run.specs.lone_kernel.specs.flight.proofs.{◌≡◌, ◌∙◌, Option, Some, ap, subst, sym, set as slice_set, Call}
use Rattle.origins_run.specs.Tracked.{Tracked, EntersBy}
use Rattle.origins_run.proofs.tracking.Tracking.enter.Goals as goal

pub returns-in-Some : goal.returns-in-Some
returns-in-Some c =
    let w : Tracked = record { origins = c.self.inside.origins; opened = c.self.inside.opened } in
    let w' : Tracked = record {
      origins = c.enter.new.self;
      opened = slice_set c.self.inside.opened c.from.result (Some c.in-Some.call);
    } in
    let index : c.from.result ≡ c.args.core = c.from.ensures ∙ c.number.ensures.value in
    subst (λ (x : Tracked). EntersBy x c.args.core c.args.enters.now w') c.self.view_is
    (subst (λ (o : Option Call). EntersBy w c.args.core o w') (sym c.in-Some.is)
    (c.enter.ensures c.in-Some.call, ap (λ n. slice_set c.self.inside.opened n (Some c.in-Some.call)) index))
