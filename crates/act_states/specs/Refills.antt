-- The act that gives back to a temporal capability what its core has spent.
use Rattle.std.specs.Prelude.{◌-◌, ◌^◌}
use Rattle.stage_tcap.specs.{ℕ, min, Bool, true, false, Option, Some, None, [], Capability, Ok, Value, StageEnd, head, refill_end}
use Rattle.stage_tcap.specs.declared.refill.RefillAt.TheVariants.{Load, List as at_list, Compare, Again}
use Rattle.act_states.specs.{declared.own.Own.Own, declared.own.OwnChange.TheVariants.GivesBack}
use Rattle.act_states.specs.{declared.refusals.Refusal.TheVariants.Raced, declared.work.Act.TheVariants.Refill as refill_act}
use Rattle.act_states.specs.{declared.work.Work.TheVariants.Act, declared.work.Tail.TheVariants.Nothing, declared.work.WorkStep.WorkStep}
use Rattle.act_states.specs.{declared.work.WorkStep.TheVariants.Goes, declared.work.WorkStep.TheVariants.Changes, Refusals.refusal_of}
use Rattle.{stage_tcap.specs.refill_after, stage_tcap.specs.declared.refill.Refill.Refill}
use Rattle.{stage_tcap.specs.declared.refill.RefillAt.RefillAt, act_states.specs.WorkSteps.refuse}

-- the ticks that a core has spent and has not had back; more than a budget can have never come, and stay at its field's end
abbrev pub left_among : ℕ → ℕ → ℕ
left_among spent back = min (spent - back) (2 ^ 32 - 1)

abbrev pub left_back : Own → ℕ
left_back own = left_among own.spent own.back

-- so many ticks are given back to a temporal capability by a core
abbrev pub refilling : Own → ℕ → ℕ → Refill
refilling own m f = record {
  tcap = f;
  ticks = m;
  left = left_back own;
  grant = own.grant;
  head = head 0 0;
  list = Some [];
  at = Load;
}

abbrev pub refills_at : Own → ℕ → Option Capability → WorkStep
refills_at own m None = refuse Raced
refills_at own m (Some k) = Goes (Act (refill_act (refilling own m k.frame)))

-- what it takes from its step, after which it stands here: it goes on, is refused, or has given the ticks back
abbrev pub took_refilled : Refill → StageEnd Value → WorkStep
took_refilled r StageEnd.Going = Goes (Act (refill_act r))
took_refilled r (StageEnd.Decided reply) = refuse (refusal_of reply)
took_refilled r (StageEnd.Done v) = Changes (Ok v) (GivesBack r.ticks) None Nothing
took_refilled r (StageEnd.Refuse reply) = refuse (refusal_of reply)

abbrev pub took_refill : Refill → ℕ → WorkStep
took_refill r found = took_refilled (refill_after r found) (refill_end r found)

-- whether the next step is the compare
abbrev pub is_refilling : RefillAt → Bool
is_refilling Load = false
is_refilling (at_list entry) = false
is_refilling Compare = true
is_refilling Again = false

-- the steps that are still to come
abbrev pub refill_left : RefillAt → ℕ
refill_left Load = 10
refill_left (at_list entry) = 10 - entry
refill_left Compare = 1
refill_left Again = 1
