use Rattle.call_steps.specs.call_stages.specs.Cores.{begun}
use Rattle.lone_kernel.proofs.lone.take_call.Given as goal

abbrev pub ghosts-make_call : goal.ghosts-make_call
ghosts-make_call a = record { words = a.words.now.items; core = begun a.state.now a.call.now }
