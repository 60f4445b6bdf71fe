use Rattle.std.proofs.Common.{◌≡◌, ℕ, ◌<◌, ◌+◌, ◌∙◌, reverse, sym, ap, subst, arith}
use Rattle.history_options.proofs.Places.{place_is, place_can, room}
use Rattle.{marked_history.specs.Verdicts.marks_of, check_run.specs.history_check.specs.declared.seen.Seen.Seen}
use Rattle.{check_run.specs.history_check.specs.Judging.seen_of}
use Rattle.{check_run.specs.history_check.proofs.Cores.seen_at, history_options.specs.Forms.core_of, history_options.specs.Forms.DecidesAt}
use Rattle.history_options.proofs.advice.place_here.Goals as goal

pub returns-clause-place : goal.returns-clause-place
returns-clause-place c =
    let few : c.core_of-core.result < 8 = omega (arith, c.number.ensures.value, c.number.ensures.range) in
    let own : seen_of c.in_ok-judge.judge.seen.items (core_of c.args.line.now.said) ≡ c.index.result.now =
    subst (λ (n : ℕ). seen_of c.in_ok-judge.judge.seen.items n ≡ c.index.result.now) c.core_of-core.ensures
    (seen_at c.in_ok-judge.judge.seen.items c.core_of-core.result c.from.result c.index.result.now c.in_ok-judge.ensures.judge.eight few
    (c.from.ensures ∙ c.number.ensures.value) c.index.ensures) in
    let come = c.in_ok-judge.ensures.come c.requires.history in
    let more : c.saturating_add-next.result ≡ c.index.result.now.entered + 1 =
    omega (
      arith,
      c.saturating_add-next.ensures,
      room c.args.before.now (core_of c.args.line.now.said) c.requires.few,
      ap (λ (x : Seen). x.entered) own,
      come.entered (core_of c.args.line.now.said),
    ) in
    c.place_of.ensures ∙ place_is c.args.setup.now c.args.before.now c.args.line.now c.in_ok-judge.judge c.index.result.now
    c.saturating_add-next.result come own more

pub returns-clause-decides : goal.returns-clause-decides
returns-clause-decides c =
    let few : c.core_of-core.result < 8 = omega (arith, c.number.ensures.value, c.number.ensures.range) in
    let own : seen_of c.in_ok-judge.judge.seen.items (core_of c.args.line.now.said) ≡ c.index.result.now =
    subst (λ (n : ℕ). seen_of c.in_ok-judge.judge.seen.items n ≡ c.index.result.now) c.core_of-core.ensures
    (seen_at c.in_ok-judge.judge.seen.items c.core_of-core.result c.from.result c.index.result.now c.in_ok-judge.ensures.judge.eight few
    (c.from.ensures ∙ c.number.ensures.value) c.index.ensures) in
    let come = c.in_ok-judge.ensures.come c.requires.history in
    let more : c.saturating_add-next.result ≡ c.index.result.now.entered + 1 =
    omega (
      arith,
      c.saturating_add-next.ensures,
      room c.args.before.now (core_of c.args.line.now.said) c.requires.few,
      ap (λ (x : Seen). x.entered) own,
      come.entered (core_of c.args.line.now.said),
    ) in
    subst (DecidesAt c.args.setup.now.cores (marks_of (reverse c.args.before.now)) (core_of c.args.line.now.said)) (sym c.place_of.ensures)
    (place_can c.args.setup.now c.args.before.now c.args.line.now c.in_ok-judge.judge c.index.result.now c.saturating_add-next.result
    come own more c.in_ok-judge.ensures.judge c.cores-limits.ensures.limits c.requires.said)
