-- Refusals and replies. It is the contract of a function of this crate.
use Rattle.std.specs.Prelude.{◌≡◌}
use Rattle.call_plans.specs.kernel_invariant.specs.kernel_rules.specs.{Reply, IsRefusal}
use Rattle.act_states.specs.{declared.refusals.Refusal.Refusal, Refusals.reply_of, Refusals.refusal_of}

-- A refusal and the reply that says it are one, and no refusal says `ok`.
pub record RefusalsAreReplies : Type 0 where
  pub refuses : (f : Refusal) → IsRefusal (reply_of f)
  pub back : (f : Refusal) → refusal_of (reply_of f) ≡ f
  pub same : (r : Reply) → IsRefusal r → reply_of (refusal_of r) ≡ r
