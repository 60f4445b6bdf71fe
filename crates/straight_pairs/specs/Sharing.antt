-- Where a call on two temporal capabilities stands that is made straight through.
use Rattle.std.specs.Prelude.{◌≡◌, ◌<◌, ◌+◌, ◌==◌, ℕ, Bool, true, false, List, [], ◌∷◌, Option, Some, None}
use Rattle.spk_nums.specs.Capability.{Capability}
use Rattle.spk_nums.specs.declared.calls.Call.{Call}
use Rattle.spk_nums.specs.declared.kinds.Kind.{Kind}
use Rattle.spk_nums.specs.declared.replies.Reply.TheVariants.{Ok}
use Rattle.spk_nums.specs.declared.replies.Value.{Value}
use Rattle.straight_looks.specs.step_starts.specs as low
use low.call_plans.specs.After.{NextName, next_of, with_found}
use low.call_plans.specs.GoesBy.{want_of}
use low.call_plans.specs.PlanOf.{of_kind, plan_for}
use low.act_states.specs.Shares.{shares_if}
use low.act_states.specs.declared.own.Own.{Own}
use low.act_states.specs.declared.work.Act.TheVariants as act
use low.act_states.specs.declared.work.Tail.TheVariants as tail
use low.stage_tcap.specs.declared.pair.Pair.{Pair}
use low.call_stages.specs.View.{Core}
use low.call_stages.specs.Cores.{absorbed, own_decided, told_of_step}
use low.call_stages.specs.Fits.{IsCore}
use low.call_stages.specs.Steps.{next_by}
use low.call_stages.specs.declared.stages.Absorbed.{Absorbed}
use low.call_stages.specs.declared.stages.Stage.TheVariants.{Decided, Enter}
use Rattle.straight_looks.specs.Standing.{IsAnswered, acts, going, stands}
use Rattle.straight_pairs.specs.declared.names.Two.{Two}
use Rattle.straight_pairs.specs.declared.pairs.Next.{Next}
use Rattle.straight_pairs.specs.declared.pairs.Next.TheVariants as next
use Rattle.straight_pairs.specs.declared.pairs.Shared.{Shared}
use Rattle.straight_pairs.specs.declared.pairs.Shared.TheVariants as shared

-- a call names these two temporal capabilities, one after the other, and does this with what they lead to
pub record NamesTwo (call : Call) (t : Two) : Type 0 where
  pub living : (plan_for call).living ≡ true
  pub first : next_of (plan_for call) [] ≡ NextName t.a (want_of [] (of_kind Kind.Tcap t.a))
  pub second : (j : Capability) → next_of (plan_for call) (j ∷ [])
      ≡ NextName t.b (want_of (with_found [] (j ∷ [])) (of_kind Kind.Tcap t.b))
  pub begins : (own : Own) (j k : Capability) → next_by own (going call 6 Enter (j ∷ k ∷ []) [])
      ≡ shares_if (j.frame == k.frame) own.core t.what j.frame k.frame

-- a core whose call makes this pair's next step
pub record IsSharing (own : Own) (call : Call) (steps : ℕ) (found : List Capability) (p : Pair) (c : Core) : Type 0 where
  pub core : c ≡ acts own call steps (act.Share p) found
  pub fits : IsCore c

-- a core whose call is decided with this value, and has still to store what this pair says
pub record IsDeciding (own : Own) (call : Call) (steps : ℕ) (found : List Capability) (v : Value) (p : Pair) (c : Core) : Type 0 where
  pub core : c ≡ stands (own_decided own (Ok v)) call steps (Decided (Ok v) None (tail.Share p)) found
  pub fits : IsCore c

-- a core after the step of this pair that has told this word
pub record HasShared (own : Own) (call : Call) (steps : ℕ) (found : List Capability) (p : Pair) (c : Core) (said : Absorbed) (w : ℕ)
    : Type 0 where
  pub fits : IsCore (acts own call steps (act.Share p) found)
  pub core : c ≡ absorbed (acts own call steps (act.Share p) found) w
  pub told : said ≡ told_of_step (acts own call steps (act.Share p) found) w

-- a core whose call is carried out with this value, and has stored all
pub record HasStored (own : Own) (v : Value) (c : Core) : Type 0 where
  pub answered : IsAnswered own (Ok v) c
  pub fits : IsCore c

-- after one step more of a pair, which is this one then
abbrev pub next_so : Own → Call → ℕ → List Capability → Pair → Core → Absorbed → Next → Type 0
next_so own call steps found p c told next.Goes = IsSharing own call (steps + 1) found p c
next_so own call steps found p c told (next.Decides v) = IsDeciding own call (steps + 1) found v p c
next_so own call steps found p c told (next.Falls w) = HasShared own call steps found p c told w

-- after the steps of a pair, up to the one that decides
pub record IsDecided (own : Own) (call : Call) (steps : ℕ) (found : List Capability) (v : Value) (p : Pair) (c : Core) : Type 0 where
  pub few : steps < 100
  pub decides : IsDeciding own call steps found v p c

abbrev pub shared_so : Own → Call → List Capability → Pair → Core → Absorbed → Shared → Type 0
shared_so own call found p c told (shared.Stands steps) = IsSharing own call steps found p c
shared_so own call found p c told (shared.Decides steps v) = IsDecided own call steps found v p c
shared_so own call found p c told (shared.Falls steps w) = HasShared own call steps found p c told w

-- after one store more of a pair, the last or not
abbrev pub store_so : Own → Call → ℕ → List Capability → Value → Pair → Core → Bool → Type 0
store_so own call steps found v p c true = HasStored own v c
store_so own call steps found v p c false = IsDeciding own call (steps + 1) found v p c

-- after the stores of a pair
abbrev pub stored_so : Own → Call → List Capability → Value → Pair → Core → Option ℕ → Type 0
stored_so own call found v p c None = HasStored own v c
stored_so own call found v p c (Some steps) = IsDeciding own call steps found v p c
