-- The look-ups of a call, driven by its plan.
use Rattle.std.specs.Prelude.{if◌then◌else◌}
use Rattle.call_plans.specs.kernel_invariant.specs.kernel_rules.specs.{ℕ, Bool, leb as nat_le, Option, Some, None, List}
use Rattle.call_plans.specs.kernel_invariant.specs.kernel_rules.specs.{Capability, has_rights, Call, Want, Target as place, Under, InRoot}
use Rattle.call_plans.specs.{NextName, NextFree, NextHeld, NextOwn, NextNothing}
use Rattle.stage_sweep.specs.stage_look.specs.declared.look.Look.TheVariants.{AtRoot, AtEntry}
use Rattle.act_states.specs.{declared.own.Own.Own, declared.refusals.Refusal.TheVariants.NoSlot}
use Rattle.act_states.specs.{declared.refusals.Refusal.TheVariants.Empty, declared.refusals.Refusal.TheVariants.WrongCap}
use Rattle.act_states.specs.{declared.refusals.Refusal.TheVariants.NoRight, declared.refusals.Refusal.TheVariants.Occupied}
use Rattle.act_states.specs.{declared.refusals.Refusal.TheVariants.Busy, declared.lookups.Met.Met, declared.lookups.Met.TheVariants.Finds}
use Rattle.act_states.specs.{declared.lookups.Met.TheVariants.Refused, declared.work.Work.TheVariants.Lookup}
use Rattle.act_states.specs.{declared.work.Work.TheVariants.Read, declared.work.WorkStep.WorkStep, declared.work.WorkStep.TheVariants.Goes}
use Rattle.act_states.specs.{WorkSteps.refuse, Acts.act_begun, Acts.reads_of, Touches.touches}
use Rattle.{stage_sweep.specs.entry_words.specs.declared.entry.Entry.Entry, stage_sweep.specs.stage_look.specs.declared.look.Found.Found}
use Rattle.{call_plans.specs.After.Next}

-- a number, or a root entry, is looked up, if it is within its range
abbrev pub looks_under : Bool → ℕ → ℕ → WorkStep
looks_under within root n = if within then Goes (Lookup (AtRoot root n)) else refuse NoSlot

abbrev pub looks_entry : Bool → ℕ → ℕ → WorkStep
looks_entry within root i = if within then Goes (Lookup (AtEntry root i)) else refuse NoSlot

abbrev pub looks_at : place → WorkStep
looks_at (Under table n) = looks_under (nat_le n 4095) table.frame n
looks_at (InRoot table i) = looks_entry (nat_le i 63) table.frame i

-- a component's word is read before its target is looked up, of a call that reads one
abbrev pub read_first : Option ℕ → WorkStep → WorkStep
read_first None step = step
read_first (Some comp) (Goes (Lookup look)) = Goes (Read comp look)
read_first (Some comp) step = step

-- what comes next of a core's call whose names have led to these; a page of its own is looked up by its act
abbrev pub next_step : Own → Call → List Capability → Next → WorkStep
next_step own call found (NextName n want) = looks_under (nat_le n 4095) own.table n
next_step own call found (NextFree target) = read_first (reads_of call found) (looks_at target)
next_step own call found (NextHeld target) = looks_at target
next_step own call found (NextOwn v) = touches own v
next_step own call found NextNothing = act_begun own call found None None

-- what a name has led to that wants this, where its place holds this capability
abbrev pub met_right : ℕ → Capability → Met
met_right needs k = if has_rights k.rights needs then Finds k else Refused NoRight

abbrev pub met_cap : Want → Capability → Met
met_cap want k = if want.kinds k.kind then met_right want.needs k else Refused WrongCap

-- what a name has led to that wants this, where its place shows this entry
abbrev pub met_name : Want → Entry → Met
met_name want Entry.Free = Refused Empty
met_name want (Entry.Held k) = met_cap want k
met_name want (Entry.Closing by) = Refused (Busy by)
met_name want (Entry.Quiescing stamp) = Refused Empty

-- what a call of a core does that has read this and whose target is to be free, where its place shows this entry
abbrev pub met_free : Own → Call → List Capability → Option ℕ → Found → Entry → WorkStep
met_free own call found read target Entry.Free = act_begun own call found read (Some target)
met_free own call found read target (Entry.Held k) = refuse Occupied
met_free own call found read target (Entry.Closing by) = refuse (Busy by)
met_free own call found read target (Entry.Quiescing stamp) = act_begun own call found read (Some target)

-- what a call of a core does whose target is to be held, where its place shows this entry
abbrev pub met_held : Own → Call → List Capability → Found → Entry → WorkStep
met_held own call found target Entry.Free = refuse Empty
met_held own call found target (Entry.Held k) = act_begun own call found None (Some target)
met_held own call found target (Entry.Closing by) = refuse (Busy by)
met_held own call found target (Entry.Quiescing stamp) = refuse Empty
