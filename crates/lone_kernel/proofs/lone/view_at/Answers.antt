use Rattle.flight_laws.specs.flight.specs.step_ways.proofs.{◌≡◌, ℕ, refl, ap, ◌∙◌, get_or, place_in, place_of, Move, word_of, left_of}
use Rattle.lone_kernel.proofs.Shown.{word_is, found_is, leaves_as}
use Rattle.{flight_laws.specs.flight.specs.step_ways.proofs.move_of, lone_kernel.specs.Machine.core_in}
use Rattle.lone_kernel.proofs.lone.view_at.Goals as goal

pub returns : goal.returns
returns c =
    let layout = c.args.layout.now in
    let words = c.args.words.now in
    let op = c.op_at-op.result in
    let m : Move = move_of (core_in c.args.seat.now.state c.args.turn.now) in
    let step = c.op_at-op.ensures.step in
    let found : get_or words c.place_in-place.result 0 ≡ get_or words (place_of layout (word_of m)) 0 =
    found_is layout words op m c.place_in-place.result (get_or words c.place_in-place.result 0) step c.place_in-place.ensures refl in
    record {
      core = c.core.ensures;
      enters = c.entered.ensures;
      op = step;
      word = word_is layout m c.name_at.result c.place_in-place.result c.op_at-op.ensures.word
          (c.place_in-place.ensures ∙ ap place_in step) (c.name_at.ensures.only (word_of m));
      found = found;
      left = leaves_as layout op m (get_or words c.place_in-place.result 0) c.left_by.result step c.left_by.ensures
          ∙ ap (λ (n : ℕ). left_of m n) found;
    }
