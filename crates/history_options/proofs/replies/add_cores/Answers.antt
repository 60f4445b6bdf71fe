use Rattle.std.proofs.Common.{◌≡◌, ◌++◌, ℕ, subst}
use Rattle.{history_options.specs.Replies.core_replies, history_options.proofs.Adding.cores_more}
use Rattle.history_options.proofs.replies.add_cores.Goals as goal

pub cores-preserved : goal.cores-preserved
cores-preserved c =
    cores_more c.cores.core _ c.cores.replies.items c.add_core.new.replies.items c.cores.invariant
    (subst (λ (k : ℕ). c.add_core.new.replies.items ≡ c.cores.replies.items ++ core_replies k) c.new.ensures c.in_ok-add_core.ensures)
