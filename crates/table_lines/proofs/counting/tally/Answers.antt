use Rattle.std.proofs.Common.{arith, ap, ◌∙◌, ◌<◌, ◌+◌, length, get_or, length-set}
use Rattle.std.proofs.lemmas.List.{get_or_default}
use Rattle.table_lines.proofs.Tallies.{at_most, counts_next, counts_past}
use Rattle.table_lines.proofs.counting.tally.Goals.{then-name-from, else-name-from}
use Rattle.table_lines.proofs.counting.tally.Goals as goal

pub overflow_add-index_mut : goal.overflow_add-index_mut
overflow_add-index_mut c =
    let name = get_or c.args.names.now c.names.at 0 in
    let inside : name < c.args.frames = omega arith in
    let most = at_most c.args.names.now c.names.at c.names-test.true name in
    let counted = c.names.invariant.counted name inside in
    let read = get_or_default c.names.counts.items name c.index_mut.result.now 0 (omega arith) in
    omega (arith, most, counted, read, c.index_mut.ensures.value)

pub names-preserved : goal.names-preserved
names-preserved c = elim c.if-name-from.branch [
  | then-name-from w ↦
      let name = get_or c.args.names.now c.names.at 0 in
      let inside : name < c.args.frames = omega arith in
      let items = ap (λ v. v.items) w.counts-is in
      let read = get_or_default c.names.counts.items name w.index_mut.result.now 0 (omega arith) in
      record {
        size = ap length items ∙ length-set c.names.counts.items name (w.index_mut.result.now + 1) ∙ c.names.invariant.size;
        counted = λ f h. ap (λ xs. get_or xs f 0) items
            ∙ counts_next c.args.names.now c.names.at c.names-test.true c.names.counts.items c.args.frames c.names.invariant.counted
            w.index_mut.result.now c.names.invariant.size inside (w.index_mut.ensures.value ∙ read) f h;
      }
  | else-name-from w ↦
      let items = ap (λ v. v.items) w.counts-is in
      record {
        size = ap length items ∙ c.names.invariant.size;
        counted = λ f h. ap (λ xs. get_or xs f 0) items
            ∙ counts_past c.args.names.now c.names.at c.names-test.true c.names.counts.items c.args.frames c.names.invariant.counted
            (omega arith) f h;
      }
]
