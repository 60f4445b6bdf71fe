use Rattle.plain_tables.proofs.Common.{◌≡◌, sym, ap, arith, tcap_in, sum_none, sum_more, state_of}
use Rattle.seq_lookups.specs.seq_state.specs.kernel_rules.specs.State.{TcapFields}
use Rattle.plain_tables.proofs.frames.budgets.Goals as goal

pub frames-init : goal.frames-init
frames-init c = record { sum = sym (sum_none _); most = omega arith }

pub frames-preserved : goal.frames-preserved
frames-preserved c =
    let e : c.tcap_at-tcap.result.budget ≡ (tcap_in ((state_of c.args.k.now).frame c.frames.frame)).budget =
    ap (λ (q : TcapFields). q.budget) (rw c.new.ensures at c.tcap_at-tcap.ensures) in
    let m = sum_more (λ f. (tcap_in ((state_of c.args.k.now).frame f)).budget) c.frames.frame in
    record { sum = omega (arith, m, e); most = omega arith }
