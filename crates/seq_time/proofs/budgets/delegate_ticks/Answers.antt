use Rattle.seq_lookups.specs.seq_state.specs.kernel_rules.proofs.{◌≡◌, ◌+◌, ◌-◌, ◌∙◌, ap, arith, merged_list, with_tcap, tcap_at}
use Rattle.{seq_lookups.specs.seq_state.specs.Maps.state_of, seq_time.proofs.Delegating.delegated, seq_time.proofs.Delegating.there}
use Rattle.seq_time.proofs.budgets.delegate_ticks.Goals as goal

pub returns : goal.returns
returns c = λ apart fits short.
    let s = state_of c.args.k.now in
    let from : c.tcap_at-from.result.qualities ≡ (tcap_at s c.args.a).qualities = ap (λ t. t.qualities) c.tcap_at-from.ensures in
    let from_budget : c.tcap_at-from.result.budget ≡ (tcap_at s c.args.a).budget = ap (λ t. t.budget) c.tcap_at-from.ensures in
    let to_budget : c.tcap_at-to.result.budget ≡ (tcap_at s c.args.b).budget = ap (λ t. t.budget) c.tcap_at-to.ensures in
    let less : c.saturating_sub.result ≡ (tcap_at s c.args.a).budget - c.args.amount = omega
    (arith, c.saturating_sub.ensures, from_budget) in
    let more : c.saturating_add.result ≡ (tcap_at s c.args.b).budget + c.args.amount = omega
    (arith, c.saturating_add.ensures, to_budget, fits) in
    let list : c.unwrap_or.result ≡ merged_list s c.args.a c.args.b =
    c.unwrap_or.ensures ∙ there c.merged_for-list.result _ (merged_list s c.args.a c.args.b) c.merged_for-list.ensures short in
    delegated s (state_of c.set_frame.new.self) (state_of c.set_frame-2.new.self) c.args.a c.args.b c.args.amount _ _ _ apart
    (c.with_tcap-less.ensures ∙ (λ i. with_tcap (c.frame.ensures i) (record { budget = less i; qualities = from i })))
    (c.with_tcap-more.ensures ∙ (λ i. with_tcap (c.frame-2.ensures i) (record { budget = more i; qualities = list i })))
    c.set_frame.ensures.machine c.set_frame-2.ensures.machine
