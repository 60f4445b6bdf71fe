use Rattle.call_judge.specs.same_changes.specs.kernel_laws.proofs.{Option, subst, arith, Decides}
use Rattle.confinement.specs.{Links.PutsBy, Known.Known, Known.Takes}
use Rattle.{origin_rules.specs.Chains.Put, confinement.proofs.Standing.decides, confinement.proofs.Standing.no_core}
use Rattle.confinement.proofs.origins.Origins.take.Goals as goal

pub returns-then-not-has-clause-exact : goal.returns-then-not-has-clause-exact
returns-then-not-has-clause-exact c = no_core c.args.self.now (Decides c.args.core c.args.call.now c.args.reply.now) c.if-not-has.ensures

pub returns-clause-exact : goal.returns-clause-exact
returns-clause-exact c =
    let o : Known = record { kernel = c.self.inside.kernel; table = c.self.inside.table; decided = c.self.inside.decided } in
    let d = c.saturating_add-decision.result in
    subst (λ (x : Known). Takes x (Decides c.args.core c.args.call.now c.args.reply.now)
    (record { kernel = c.decide_by.new.k; table = c.put_by.new.self; decided = d })) c.self.view_is
    (decides o c.decide_by.new.k c.put_by.new.self d c.args.core c.args.call.now c.args.reply.now c.in_ok-decide_by.field-0
    (λ few. omega (arith, few, c.saturating_add-decision.ensures))
    (subst (λ (p : Option Put). PutsBy o.table d p c.put_by.new.self) c.puts_by-put.ensures c.in_ok-put_by.ensures.exact)
    c.in_ok-decide_by.ensures.exact)
