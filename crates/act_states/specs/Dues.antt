-- The counts that an act changes, in the order in which they are acquired.
use Rattle.std.specs.Prelude.{◌≤◌, ◌∷◌}
use Rattle.call_plans.specs.kernel_invariant.specs.kernel_rules.specs.{ℕ, ℤ, pos, negsuc, List, map, [], Capability, named_by}
use Rattle.act_states.specs.{declared.work.Due.Due, declared.objects.NewObject.NewObject, Objects.object_dues}
use Rattle.act_states.specs.{declared.makings.MakingAt.MakingAt, declared.makings.MakingAt.TheVariants.Load as make_load}
use Rattle.act_states.specs.{declared.makings.MakingAt.TheVariants.Mark, declared.makings.MakingAt.TheVariants.Store}
use Rattle.act_states.specs.{declared.makings.MakingAt.TheVariants.Fill as fill_at, declared.kills.KillingAt.KillingAt}
use Rattle.act_states.specs.{declared.kills.KillingAt.TheVariants.LoadComp, declared.kills.KillingAt.TheVariants.LoadLive}
use Rattle.act_states.specs.{declared.kills.KillingAt.TheVariants.Close as kill_close}
use Rattle.act_states.specs.{declared.kills.KillingAt.TheVariants.Draw as kill_draw, declared.invocations.InvokingAt.InvokingAt}
use Rattle.act_states.specs.{declared.invocations.ReturningAt.ReturningAt}

-- a change of a count is of two references at most
abbrev pub IsSmallChange : ℤ → Type 0
IsSmallChange (pos n) = n ≤ 2
IsSmallChange (negsuc n) = n ≤ 1

-- the counts that change where a capability is put: that of the frame that it names; a range names none
abbrev pub cap_dues : Capability → ℤ → List Due
cap_dues k change = map (λ f. record { frame = f; change = change }) (named_by k.kind k.frame)

-- a making changes the counts of its object, from when the frame is marked
abbrev pub made_dues : NewObject → ℕ → MakingAt → List Due
made_dues object f make_load = []
made_dues object f (Mark word) = []
made_dues object f (Store word entry) = object_dues object f
made_dues object f (fill_at word) = object_dues object f

-- a killing changes the count of the component's frame, from when its number's word is loaded
abbrev pub killing_dues : ℕ → KillingAt → List Due
killing_dues f LoadComp = []
killing_dues f (LoadLive life) = []
killing_dues f (kill_close life word) = record { frame = f; change = negsuc 0 } ∷ []
killing_dues f (kill_draw life word) = record { frame = f; change = negsuc 0 } ∷ []

-- an entering changes the count of the component's frame, from when its words are loaded
abbrev pub invoking_dues : ℕ → InvokingAt → List Due
invoking_dues f InvokingAt.LoadTable = []
invoking_dues f (InvokingAt.LoadPages table) = []
invoking_dues f (InvokingAt.LoadComp table pages) = []
invoking_dues f (InvokingAt.LoadLive table pages life) = record { frame = f; change = pos 1 } ∷ []

-- a leaving changes the count of the top's frame, from when the words of the component below are loaded
abbrev pub returning_dues : ℕ → ReturningAt → List Due
returning_dues f ReturningAt.LoadBelow = []
returning_dues f (ReturningAt.LoadTable comp) = []
returning_dues f (ReturningAt.LoadPages comp table) = []
returning_dues f (ReturningAt.Draw comp table pages) = record { frame = f; change = negsuc 0 } ∷ []
