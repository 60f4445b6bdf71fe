use Rattle.{std.proofs.Common.◌∙◌, std.proofs.Common.sym, call_plans.proofs.Roots.wants_leaf}
use Rattle.call_plans.proofs.found.Caps.is_wanted.Goals as goal

pub returns-in-Some : goal.returns-in-Some
returns-in-Some c =
    rw (c.kind_number-in-Some.ensures, c.kind_number-in-Some-2.ensures, c.leaf_of.ensures, c.kind.ensures, c.in-LeafOf.is)
    (wants_leaf c.args.self.now c.in-LeafOf.root c.in-Some.cap c.args.kind (sym c.get.ensures ∙ c.in-Some.is))
