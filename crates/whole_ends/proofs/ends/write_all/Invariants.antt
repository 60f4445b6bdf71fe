use Rattle.{std.proofs.Common.◌≡◌, std.proofs.Common.◌-◌, std.proofs.Common.◌≤◌, std.proofs.Common.length, whole_ends.specs.Ends.AddsFirst}
use Rattle.whole_ends.proofs.ends.write_all.Given as goal

-- so many bytes of the text have been taken
abbrev pub invariant-writing : goal.invariant-writing
invariant-writing g l = record {
  within : l.at ≤ length l.text;
  adds : AddsFirst l.at l.text (g.K.Sink.held l.initial.sink) (g.K.Sink.held l.sink);
  steady : g.K.Sink.faults l.sink ≡ g.K.Sink.faults l.initial.sink;
}

abbrev pub decreases-writing : goal.decreases-writing
decreases-writing g l = length l.text - l.at
