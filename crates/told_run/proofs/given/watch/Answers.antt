use Rattle.lone_kernel.specs.flight.proofs.{◌∙◌, [], map, subst, sym, length-map}
use Rattle.{lone_kernel.specs.flight_laws.proofs.Histories.made_histories, told_run.proofs.Finish.given}
use Rattle.told_run.proofs.given.watch.Goals as goal

pub returns : goal.returns
returns g c fresh =
    let Seen = g.W.Watcher.has_seen in
    let lists = map (λ v. v.items) c.args.lists.items in
    let booted = c.in_ok-kernel.ensures in
    let followed = c.follow.ensures in
    let ran = c.run_rest.ensures in
    given Seen c.args.setup.now lists c.args.items.now
    record { machine = c.in_ok-kernel.kernel; watcher = c.args.watcher.now }
    record { machine = c.follow.new.kernel; watcher = c.follow.new.watcher }
    record { machine = c.run_rest.new.kernel; watcher = c.run_rest.new.watcher }
    booted.setup followed.setup ran.setup booted.lists followed.lists ran.lists
    c.cores-cores.ensures.limits (length-map c.args.lists.items (λ v. v.items) ∙ c.requires.one_each)
    record {
      stands = booted.stands;
      seen = subst (λ s. Seen s c.args.watcher.now [] c.args.watcher.now) (sym booted.setup) fresh;
    }
    c.in_ok-follow.ensures.goes c.in_ok-run_rest.ensures.goes made_histories
