use Rattle.plain_tables.proofs.Common.{◌≡◌, ◌++◌, ◌∙◌, ap, subst, arith, Core, core_names, state_of, adds_none, adds_piece, adds_more}
use Rattle.plain_tables.proofs.Common.{adds_whole}
use Rattle.plain_tables.proofs.names.push_cores.Goals as goal

pub cores-init : goal.cores-init
cores-init c = adds_none _ _

pub cores-preserved : goal.cores-preserved
cores-preserved c = adds_more _ _ _ _ _ c.cores.invariant
    (adds_piece _ _ _ (subst (λ (k : Core). c.push_core.new.names.items ≡ c.cores.names.items ++ core_names k)
    (c.core-value.ensures ∙ ap (state_of c.args.k.now).core c.new.ensures) c.in_ok-push_core.ensures))

pub returns : goal.returns
returns c = let end : c.cores.core ≡ (state_of c.args.k.now).limits.cores = omega arith in adds_whole _ _ _ _ _ end c.cores.invariant
