use Rattle.kernel_history.proofs.{◌+◌, arith, place_of, size_of}
use Rattle.step_views.proofs.Places.{after_rows}
use Rattle.step_views.proofs.names.after_frames.Goals as goal

pub returns-then-number-lt64 : goal.returns-then-number-lt64
unfolding place_of
returns-then-number-lt64 c =
    let f = c.frames.ensures.value in
    let r = c.from-row.ensures in
    let n = c.cores.ensures.value in
    let k = c.from-cores.ensures in
    let rows = after_rows c.args.layout.now c.args.place (c.from-row.result + 2) c.from-cores.result
    (omega arith) (omega arith) (omega arith) (omega arith) in
    record { is_in = omega (arith, rows.rows); is_there = omega (arith, rows.rows, rows.past) }

pub returns-else-number-lt64 : goal.returns-else-number-lt64
unfolding place_of size_of
returns-else-number-lt64 c =
    let f = c.frames.ensures.value in
    let r = c.from-row.ensures in
    let n = c.cores.ensures.value in
    let k = c.from-cores.ensures in
    let rows = after_rows c.args.layout.now c.args.place (c.from-row.result + 2) c.from-cores.result
    (omega arith) (omega arith) (omega arith) (omega arith) in
    let size = c.requires in
    record { is_in = tt; is_there = omega (arith, rows.rows, rows.past, size) }
