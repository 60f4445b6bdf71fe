-- Where a part of a straight call has left its core.
use Rattle.std.specs.Prelude.{◌≡◌, ℕ, ◌+◌, List, [], Option, None, IsSome}
use Rattle.spk_nums.specs.Capability.{Capability}
use Rattle.spk_nums.specs.declared.calls.Call.{Call}
use Rattle.spk_nums.specs.declared.replies.Reply.{Reply}
use Rattle.step_starts.specs.call_plans.specs.Plans.{pushed}
use Rattle.step_starts.specs.act_states.specs.declared.own.Own.{Own}
use Rattle.step_starts.specs.call_stages.specs.View.{Core}
use Rattle.step_starts.specs.call_stages.specs.Cores.{absorbed, told_of_step}
use Rattle.step_starts.specs.call_stages.specs.Fits.{IsCore}
use Rattle.step_starts.specs.call_stages.specs.declared.stages.ActiveCall.{ActiveCall}
use Rattle.step_starts.specs.call_stages.specs.declared.stages.Absorbed.{Absorbed}
use Rattle.straight_looks.specs.declared.ends.Asked.{Asked}
use Rattle.straight_looks.specs.declared.ends.Asked.TheVariants as asked
use Rattle.straight_looks.specs.declared.ends.Followed.{Followed}
use Rattle.straight_looks.specs.declared.ends.Followed.TheVariants as followed
use Rattle.straight_looks.specs.declared.ends.Named.{Named}
use Rattle.straight_looks.specs.declared.ends.Named.TheVariants as named
use Rattle.straight_looks.specs.declared.ends.Went.{Went}
use Rattle.straight_looks.specs.declared.ends.Went.TheVariants as went
use Rattle.straight_looks.specs.Standing.{looks, onward}

-- A call stands here, and the core is the one after its step, which has told this word: what the word makes of the call is the general
-- machine's to say.
pub record Fell (own : Own) (active : Option ActiveCall) (c : Core) (last : Absorbed) (found : ℕ) : Type 0 where
  pub core : c ≡ absorbed (record { own = own; active = active }) found
  pub told : last ≡ told_of_step (record { own = own; active = active }) found
  pub fits : IsCore (record { own = own; active = active })
  pub in_call : IsSome active

-- a call goes on: nothing is written yet of where it stands, and the core is this one, and fits
pub record IsOn (was now : Option ActiveCall) (c on : Core) : Type 0 where
  pub kept : now ≡ was
  pub core : c ≡ on
  pub fits : IsCore c

-- nothing was done
pub record IsUntouched (had has : Own) (was now : Option ActiveCall) (before c : Core) : Type 0 where
  pub own : has ≡ had
  pub kept : now ≡ was
  pub core : c ≡ before

-- a call has returned, with what its core has of its own now, which fits
pub record HasLeft (own : Own) (was now : Option ActiveCall) (c : Core) (last : Absorbed) (r : Reply) : Type 0 where
  pub kept : now ≡ was
  pub core : c ≡ record { own = own; active = None }
  pub told : last ≡ Absorbed.Returned r
  pub fits : IsCore c

-- a call stands here, with what its core has of its own now, and makes its next step there
pub record IsStanding (own : Own) (active : Option ActiveCall) (c : Core) : Type 0 where
  pub core : c ≡ record { own = own; active = active }
  pub fits : IsCore c
  pub in_call : IsSome active

-- after the question whether the core's component lives: the call goes on to its first name, or to what comes next of it without one
abbrev pub asked_so : Own → Call → Option ActiveCall → Option ActiveCall → Core → Absorbed → Asked → Type 0
asked_so own call was now c told asked.Lives = IsOn was now c (onward own call 2 [])
asked_so own call was now c told (asked.Falls found) = Fell own now c told found

-- after the load of a root's entry: the look-up stands at its leaf
abbrev pub followed_so : Own → Call → ℕ → List Capability → Option ActiveCall → Option ActiveCall → Core → Absorbed → Followed → Type 0
followed_so own call steps found was now c told (followed.Leads look) = IsOn was now c (looks own call (steps + 1) look found)
followed_so own call steps found was now c told (followed.Falls word) = Fell own now c told word

-- after a name: it has led to this, and the call goes on to what comes next
abbrev pub named_so : Own → Call → ℕ → List Capability → Option ActiveCall → Option ActiveCall → Core → Absorbed → Named → Type 0
named_so own call steps found was now c told (named.Finds k) = IsOn was now c (onward own call (steps + 1) (pushed found k))
named_so own call steps found was now c told (named.Falls word) = Fell own now c told word

-- after the last part of a straight call: it stands, or the general machine goes on with the word told; or it has returned
abbrev pub ended_so : Own → Option ActiveCall → Option ActiveCall → Core → Absorbed → Went → Type 0
ended_so own was now c told went.Plainly = ⊥
ended_so own was now c told went.Stands = IsStanding own now c
ended_so own was now c told (went.Falls found) = Fell own now c told found
ended_so own was now c told (went.Returned r) = HasLeft own was now c told r

-- after a straight call: no step was made; or it stands, or the general machine goes on with the word told; or it has returned
abbrev pub went_so : Own → Own → Option ActiveCall → Option ActiveCall → Core → Core → Absorbed → Went → Type 0
went_so own own' was now before c told went.Plainly = IsUntouched own own' was now before c
went_so own own' was now before c told went.Stands = IsStanding own' now c
went_so own own' was now before c told (went.Falls found) = Fell own' now c told found
went_so own own' was now before c told (went.Returned r) = HasLeft own' was now c told r
