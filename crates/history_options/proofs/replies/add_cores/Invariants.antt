use Rattle.{std.proofs.Common.◌≡◌, std.proofs.Common.◌++◌, history_options.specs.Replies.below_replies}
use Rattle.history_options.proofs.replies.add_cores.Given as goal

abbrev pub invariant-cores : goal.invariant-cores
invariant-cores l = l.replies.items ≡ l.initial.replies.items ++ below_replies l.core
