use Rattle.seq_state.specs.{◌&&◌, ltb as nat_lt, get_or, no_times, at, core_or_none}
use Rattle.std.proofs.Common.{◌∙◌, ap}
use Rattle.seq_state.proofs.kernel.SeqKernel.part.Goals as goal

pub returns-clause-waits : goal.returns-clause-waits
returns-clause-waits c =
    let is = c.from-2.ensures ∙ c.number-2.ensures.value in
    let inside = c.is_inside-inside.ensures
    ∙ ap (λ k. (core_or_none (at c.self.inside.cores.items k)).inside) (c.from.ensures ∙ c.number.ensures.value) in
    rw (← c.self.view_is) (λ j. inside j && nat_lt (get_or c.self.inside.times (is j) no_times).entered c.args.period.began)

pub returns-clause-not_passed : goal.returns-clause-not_passed
returns-clause-not_passed c =
    let is = c.from-2.ensures ∙ c.number-2.ensures.value in
    rw (← c.self.view_is) (λ j. nat_lt (get_or c.self.inside.times (is j) no_times).passed c.args.period.began)

pub returns-clause-unflushed : goal.returns-clause-unflushed
returns-clause-unflushed c =
    let is = c.from-2.ensures ∙ c.number-2.ensures.value in
    rw (← c.self.view_is) (λ j. c.args.period.flushes && nat_lt (get_or c.self.inside.times (is j) no_times).flushed c.args.period.began)

pub returns-clause-flush_unknown : goal.returns-clause-flush_unknown
returns-clause-flush_unknown c =
    let is = c.from-2.ensures ∙ c.number-2.ensures.value in
    rw (← c.self.view_is)
    (λ j. c.args.period.flushes && nat_lt (get_or c.self.inside.times (is j) no_times).flush_known c.args.period.began)
