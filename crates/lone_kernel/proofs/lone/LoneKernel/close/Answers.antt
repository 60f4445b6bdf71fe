use Rattle.flight_laws.specs.flight.proofs.{◌<◌, [], length, get_or, map, arith, sym, ◌∙◌, ap, subst, IsSetting, shape_of, RepresentCounts}
use Rattle.flight_laws.specs.flight.proofs.{Represent, word_in, end_in, state_after, end_of}
use Rattle.{lone_kernel.specs.fresh_seat, lone_kernel.specs.IsFit, flight_laws.specs.flight.proofs.Alike.same_default}
use Rattle.{lone_kernel.proofs.Close.closes, lone_kernel.proofs.Close.closes_counts}
use Rattle.lone_kernel.proofs.lone.LoneKernel.close.Goals as goal

pub ends_of-requires : goal.ends_of-requires
ends_of-requires c k d h =
    let seats = c.deref.ensures.value ∙ ap (λ m. m.seats) c.self.view_is in
    let cores = ap (λ m. m.setup.cores) c.self.view_is in
    let count = c.self.invariant.0.seats in
    let size = ap length c.deref.ensures.value in
    let here : k < c.args.self.setup.cores = omega arith in
    ap (λ s. s.state.active) (same_default c.deref.result.now k d (fresh_seat c.args.self.setup k []) h)
    ∙ ap (λ l. (get_or l k (fresh_seat c.args.self.setup k [])).state.active) seats ∙ c.requires k here

pub returns-clause-represent : goal.returns-clause-represent
returns-clause-represent c t stands =
    let m = c.args.self in
    let fit : IsFit m = subst IsFit c.self.view_is c.self.invariant.0 in
    let setting = ap (λ x. x.setup) c.self.view_is in
    let ends = c.in_ok-ends.ensures ∙ ap (λ l. map (λ seat. end_of seat.state) l) (c.deref.ensures.value
    ∙ ap (λ x. x.seats) c.self.view_is) in
    subst (λ w. Represent (word_in (shape_of m.setup) w) (end_in c.in_ok-ends.ends.items) (state_after m.setup t))
    (sym (ap (λ x. x.words) c.self.view_is))
    (subst (λ e. Represent (word_in (shape_of m.setup) m.words) (end_in e) (state_after m.setup t)) (sym ends)
    (closes m (subst IsSetting setting c.self.invariant.2) fit.seats c.requires t stands))

pub returns-clause-counts : goal.returns-clause-counts
returns-clause-counts c t stands =
    let m = c.args.self in
    let setting = ap (λ x. x.setup) c.self.view_is in
    subst (λ w. RepresentCounts (word_in (shape_of m.setup) w) (state_after m.setup t)) (sym (ap (λ x. x.words) c.self.view_is))
    (closes_counts m (subst IsSetting setting c.self.invariant.2) c.requires t stands)
