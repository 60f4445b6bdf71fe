use Rattle.{load_maker.specs.Loads.a_call, load_maker.proofs.Repeats.Drawn}
use Rattle.load_maker.proofs.script.push_calls.Given as goal

abbrev pub invariant-calls : goal.invariant-calls
invariant-calls l = Drawn a_call l.initial.calls.items l.initial.draws.at l.counter l.calls.items l.draws.at
