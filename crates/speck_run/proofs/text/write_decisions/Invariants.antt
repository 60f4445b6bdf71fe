use Rattle.std.proofs.Common.{◌≡◌, ◌++◌, take, map, string_bytes}
use Rattle.speck_run.specs.Written.{lines_of}
use Rattle.speck_run.proofs.text.write_decisions.Given as goal

abbrev pub invariant-loop-decision : goal.invariant-loop-decision
invariant-loop-decision l = string_bytes l.text ≡ string_bytes l.initial.text
    ++ lines_of (map (λ v. v.items) l.lists) (take l.decision-index l.decisions)
