use Rattle.flight_laws.specs.flight.proofs.{◌∙◌, None, ap, started}
use Rattle.{core_kernel.specs.Running.run_of, core_kernel.proofs.Closing.programs_more}
use Rattle.core_kernel.proofs.ends.programs_of.Goals as goal

pub loop-core-preserved : goal.loop-core-preserved
loop-core-preserved c =
    programs_more c.args.setup.now c.loop-core.core c.loop-core.programs.items c.push.new.self.items c.start.result c.loop-core.invariant
    c.in_ok-push.ensures.items
    (c.start.ensures ∙ ap (λ n. run_of (started n c.args.setup.now) None) c.new.ensures)
