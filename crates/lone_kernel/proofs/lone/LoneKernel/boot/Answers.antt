use Rattle.std.proofs.Common.{◌<◌, ◌^◌, sym, subst, map, sum_by, []}
use Rattle.lone_kernel.proofs.Boot.{fits, stands, few_due}
use Rattle.{flight_laws.specs.flight.proofs.CoreFits.started_fits, lone_kernel.specs.Machine.AreFresh}
use Rattle.lone_kernel.proofs.lone.LoneKernel.boot.Goals as goal

pub count_due-room-requires : goal.count_due-room-requires
count_due-room-requires c =
    let s = c.in_ok-words.ensures in
    let limits = c.cores.ensures.limits in
    let fresh = subst (λ l.
    AreFresh c.args.setup.now (map (λ v. v.items) l) c.in_ok-seats.seats.items) c.deref.ensures.value c.in_ok-seats.ensures in
    let fit = fits (λ v.
    v.items) c.args.setup.now c.in_ok-words.words.items c.args.lists.items c.in_ok-seats.seats.items [] s.length fresh
    c.requires.can_run c.requires.one_each
    (λ n h. started_fits n c.args.setup.now limits h) in
    let few = few_due (record {
      setup = c.args.setup.now;
      words = c.in_ok-words.words.items;
      lists = map (λ v. v.items) c.args.lists.items;
      seats = c.in_ok-seats.seats.items;
      decisions = [];
    }) fit limits.most_cores in
    subst (λ l. sum_by (λ seat. seat.due) l < 2 ^ 60) (sym c.deref-2.ensures.value) few

pub returns-clause-stands : goal.returns-clause-stands
returns-clause-stands c =
    let s = c.in_ok-words.ensures in
    let limits = c.cores.ensures.limits in
    let fresh = subst (λ l.
    AreFresh c.args.setup.now (map (λ v. v.items) l) c.in_ok-seats.seats.items) c.deref.ensures.value c.in_ok-seats.ensures in
    stands (λ v. v.items) c.args.setup.now c.in_ok-words.words.items c.args.lists.items c.in_ok-seats.seats.items
    c.in_ok-decisions.decisions.items s.length fresh c.requires.can_run c.requires.one_each
    (λ n h. started_fits n c.args.setup.now limits h) c.in_ok-decisions.ensures.items s.words
