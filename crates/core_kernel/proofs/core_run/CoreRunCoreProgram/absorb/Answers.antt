use Rattle.boot_words.specs.kernel_history.proofs.{◌∙◌, ap, size_of}
use Rattle.flight_laws.specs.flight.proofs.AfterStep.{absorbed_shape}
use Rattle.core_kernel.proofs.core_run.CoreRunCoreProgram.absorb.Goals as goal

pub returns-in-Going-clause-size : goal.returns-in-Going-clause-size
returns-in-Going-clause-size c = ap (λ k. size_of k.own.layout) c.absorb_to.ensures.state
    ∙ ap size_of (absorbed_shape c.args.self.now.state c.args.found)

pub returns-in-Decided-clause-size : goal.returns-in-Decided-clause-size
returns-in-Decided-clause-size c = ap (λ k. size_of k.own.layout) c.absorb_to.ensures.state
    ∙ ap size_of (absorbed_shape c.args.self.now.state c.args.found)

pub returns-in-Returned-clause-size : goal.returns-in-Returned-clause-size
returns-in-Returned-clause-size c = ap (λ k. size_of k.own.layout) c.absorb_to.ensures.state
    ∙ ap size_of (absorbed_shape c.args.self.now.state c.args.found)
