use Rattle.plain_tables.proofs.Common.{◌≡◌, sym, ap, arith, Core, outstanding, sum_none, sum_more, state_of}
use Rattle.plain_tables.proofs.rest.spent.Goals as goal

pub cores-init : goal.cores-init
cores-init c = record { sum = sym (sum_none _); most = omega arith }

pub cores-preserved : goal.cores-preserved
cores-preserved c =
    let spent : c.core-value.result.now.spent ≡ ((state_of c.args.k.now).core c.cores.core).spent =
    ap (λ (k : Core). k.spent) (rw c.new.ensures at c.core-value.ensures) in
    let back : c.core-value.result.now.back ≡ ((state_of c.args.k.now).core c.cores.core).back =
    ap (λ (k : Core). k.back) (rw c.new.ensures at c.core-value.ensures) in
    let m = sum_more (λ d. outstanding ((state_of c.args.k.now).core d)) c.cores.core in
    record { sum = omega (arith, m, spent, back, c.saturating_sub.ensures); most = omega arith }
