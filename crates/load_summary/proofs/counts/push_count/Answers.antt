use Rattle.std.proofs.Common.{sym, ap, ◌∙◌, arith}
use Rattle.load_summary.proofs.Tallies.{tallied_first, tallied_more, tallied_other}
use Rattle.load_summary.proofs.counts.push_count.Goals.{then-reply_number-number, then-count-eq0, else-count-eq0, else-reply_number-number}
use Rattle.load_summary.proofs.counts.push_count.Goals as goal

pub overflow_add-count : goal.overflow_add-count
overflow_add-count c = omega (arith, c.decisions.invariant.most)

pub decisions-preserved : goal.decisions-preserved
decisions-preserved c =
    let n = c.args.number in
    let xs = c.args.decisions.now in
    let i = c.decisions.decision-index in
    let d = c.decision-item.result in
    let so_far = c.decisions.invariant in
    elim c.if-reply_number-number.branch [
      | then-reply_number-number w ↦ elim w.if-count-eq0.branch [
        | then-count-eq0 w' ↦
            tallied_first n xs i d c.decisions-test.true c.decision-item.is _ _ so_far _ _
            (sym c.reply_number.ensures ∙ w.if-reply_number-number.true) w'.if-count-eq0.true
            (ap (λ b. b.now) w.name-is ∙ ap (λ b. b.now) w'.name-is ∙ w'.reply_name-name.ensures) w.count-is
        | else-count-eq0 w' ↦
            tallied_more n xs i d c.decisions-test.true c.decision-item.is _ _ so_far _ _
            (sym c.reply_number.ensures ∙ w.if-reply_number-number.true) w'.if-count-eq0.false
            (ap (λ b. b.now) w.name-is ∙ ap (λ b. b.now) w'.name-is) w.count-is
      ]
      | else-reply_number-number w ↦
          tallied_other n xs i d c.decisions-test.true c.decision-item.is _ _ so_far _ _
          (λ e. w.if-reply_number-number.false (c.reply_number.ensures ∙ e)) (ap (λ b. b.now) w.name-is) w.count-is
    ]
