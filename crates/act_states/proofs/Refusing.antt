-- A refusal and the reply that says it.
use Rattle.act_states.specs.{◌≡◌, refl, Reply, reply_of, refusal_of}
use Rattle.call_plans.specs.kernel_invariant.specs.kernel_rules.specs.Laws.{IsRefusal}
use Rattle.act_states.specs.{declared.refusals.Refusal.Refusal, Laws.RefusalsAreReplies}

pub refusal_refuses : (f : Refusal) → IsRefusal (reply_of f)
refusal_refuses Refusal.Raced = tt
refusal_refuses f = tt

refusal_back : (f : Refusal) → refusal_of (reply_of f) ≡ f
refusal_back Refusal.Raced = refl
refusal_back f = refl

reply_same : (r : Reply) → IsRefusal r → reply_of (refusal_of r) ≡ r
reply_same (Reply.Ok v) is = absurd is
reply_same r is = refl

pub refusals_are : RefusalsAreReplies
refusals_are = record { refuses = refusal_refuses; back = refusal_back; same = reply_same }
