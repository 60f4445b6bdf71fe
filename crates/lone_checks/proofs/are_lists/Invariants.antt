use Rattle.{std.proofs.Common.All, std.proofs.Common.take, lone_checks.specs.Lists.IsRunnable}
use Rattle.lone_checks.proofs.are_lists.Given as goal

abbrev pub invariant-lists : goal.invariant-lists
invariant-lists l = All (λ list. IsRunnable list.items) (take l.list-index l.lists)
