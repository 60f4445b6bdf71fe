use Rattle.flight_laws.specs.flight.specs.step_ways.proofs.{◌≡◌, ℕ, ◌<◌, ◌∙◌, ap, subst, sym, get_or, place_in, place_of, Move, word_of}
use Rattle.flight_laws.specs.flight.specs.step_ways.proofs.{op_of, left_of, move_of, steps_left}
use Rattle.lone_kernel.specs.Machine.{core_in}
use Rattle.lone_kernel.proofs.{OneStep.takes_turn, Shown.word_on, Shown.word_is, Shown.found_is, Shown.leaves_as}
use Rattle.lone_kernel.proofs.lone.take.Goals as goal

pub returns : goal.returns
returns c =
    let layout = c.args.layout.now in
    let words = c.args.words.now.items in
    let op = c.go-op.result.op in
    let place = c.place_in.result in
    let m : Move = move_of (core_in c.args.seat.now.state c.args.turn.now) in
    let step : op ≡ op_of layout m = c.go-op.ensures.step ∙ ap (λ core. op_of layout (move_of core)) c.begin.ensures.state in
    let found : c.go-op.result.found ≡ get_or words (place_of layout (word_of m)) 0 =
    found_is layout words op m place c.go-op.result.found step c.place_in.ensures
    (c.go-op.ensures.found ∙ ap (λ n. get_or words n 0) (sym c.place_in.ensures)) in
    record {
      takes = takes_turn _ _ _ _ _ _ _ _ c.begin.ensures.state c.begin.ensures.begun c.begin.ensures.due c.go-op.ensures.goes;
      shows = λ fits. record {
        core = c.core-core.ensures;
        enters = c.entered.ensures;
        op = step;
        word = word_is layout m c.name_at.result place
            (word_on layout c.args.seat.now.state c.args.turn.now c.requires.machine fits c.requires.can)
            (c.place_in.ensures ∙ ap place_in step) (c.name_at.ensures.only (word_of m));
        found = found;
        left = leaves_as layout op m c.go-op.result.found c.left_by.result step c.left_by.ensures ∙ ap (λ (n : ℕ). left_of m n) found;
      };
      fits = c.go-op.ensures.fits;
      fewer = subst (λ k. steps_left c.go-op.new.seat.state < steps_left k) c.begin.ensures.state c.go-op.ensures.fewer;
    }
