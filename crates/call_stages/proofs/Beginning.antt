-- What an act answers where it begins: nothing, but of a call that is decided where its last name is found.
use Rattle.act_states.specs as low
use low.{Quiet, quiet_scan, ◌≡◌, ℕ, ltb as nat_lt, Bool, true, false, List, Option, Some, None, leb as nat_le, at_place, Capability}
use low.{PageFlags, FrameKind, Call, Gate}
use low.{Entry, found, Target as place, Under, InRoot, plan_for, fills_with, removes_held, removes_at}
use low.{act_begun, types_if, types_at, stamp_in, filling, starts, scans, makes_at, kills_in, kills_at, maps_if, maps_at, parts_at}
use low.{comps_at, made_begun, invokes_if, invokes_in, invokes_at, returns_if, switches_at, First, Third, Fourth, Kind, looks_under}
use low.{looks_entry, looks_at, refills_at, stage_tcap.specs.Make, stage_tcap.specs.Look as look_call}
use low.{stage_look.specs.declared.look.Found.Found, declared.own.Own.Own, declared.objects.NewObject.NewObject, Objects.object_made}
use low.{declared.work.Act.Act as ActType}
use Rattle.{call_stages.specs.Steps.decides_at_name}
use Rattle.{call_stages.proofs.Answering.NoAnswer, call_stages.proofs.ShareDecisions.shares_no}
use Rattle.act_states.specs.{phases_of, Acts.starts_if}

pub under_no : (within : Bool) (top n : ℕ) → NoAnswer (looks_under within top n)
under_no true top n = tt
under_no false top n = tt

pub entry_no : (within : Bool) (top i : ℕ) → NoAnswer (looks_entry within top i)
entry_no true top i = tt
entry_no false top i = tt

pub target_no : (target : place) → NoAnswer (looks_at target)
target_no (Under table n) = under_no _ table.frame n
target_no (InRoot table i) = entry_no _ table.frame i

-- The act of a call that is not decided where its last name is found answers nothing when it begins.
pub starts_no : (core : ℕ) (act : ActType) → NoAnswer (starts core act)
starts_no core act = by (phases_of act).within
  where
    by : (within : Bool) → NoAnswer (starts_if within core act)
    by true = tt
    by false = tt

pub scans_no : (core : ℕ) (o : Option Quiet) (act : ActType) → NoAnswer (scans core o act)
scans_no core None act = starts_no core act
scans_no core (Some q) act = tt

pub fill_no : (own : Own) (k : Option Capability) (page : Bool) (target : Option Found) → NoAnswer (fills_with own k page target)
fill_no own None page target = tt
fill_no own (Some k) page None = tt
fill_no own (Some k) page (Some f) = scans_no own.core (quiet_scan (stamp_in f.value) own.core own.layout.cores page) (filling k f)

pub held_no : (core : ℕ) (f : Found) (value : Entry) → NoAnswer (removes_held core f value)
held_no core f Entry.Free = tt
held_no core f (Entry.Held k) = tt
held_no core f (Entry.Closing by) = tt
held_no core f (Entry.Quiescing stamp) = tt

pub remove_no : (core : ℕ) (target : Option Found) → NoAnswer (removes_at core target)
remove_no core None = tt
remove_no core (Some f) = held_no core f f.value

pub type_no : (within : Bool) (core f : ℕ) (k : FrameKind) → NoAnswer (types_if within core f k)
type_no true core f k = tt
type_no false core f k = tt

pub types_no : (own : Own) (range : Option Capability) (f : ℕ) (k : FrameKind) → NoAnswer (types_at own range f k)
types_no own None f k = tt
types_no own (Some range) f k = type_no _ own.core f k

pub makes_no : (own : Own) (object : Option NewObject) (range : Option Capability) (f : ℕ) (target : Option Found)
    → NoAnswer (makes_at own object range f target)
makes_no own (Some object) (Some range) f (Some target) = scans_no own.core _ _
makes_no own None range f target = tt
makes_no own (Some object) None f target = tt
makes_no own (Some object) (Some range) f None = tt

pub maps_no : (own : Own) (range : Option Capability) (f : ℕ) (w : PageFlags) (target : Option Found)
    → NoAnswer (maps_at own range f w target)
maps_no own None f w target = tt
maps_no own (Some range) f w None = tt
maps_no own (Some range) f w (Some at) = by (nat_lt w.0 4)
  where
    by : (flags : Bool) → NoAnswer (maps_if flags own range f w at)
    by true = scans_no own.core _ _
    by false = tt

pub parts_no : (own : Own) (range : Option Capability) (f n : ℕ) (target : Option Found) → NoAnswer (parts_at own range f n target)
parts_no own None f n target = tt
parts_no own (Some range) f n None = tt
parts_no own (Some range) f n (Some at) = scans_no own.core _ _

pub comps_no : (own : Own) (live : ℕ) (range table pages : Option Capability) (f : ℕ) (target : Option Found)
    → NoAnswer (comps_at own live range table pages f target)
comps_no own live (Some range) (Some table) (Some pages) f (Some target) = scans_no own.core _ _
comps_no own live None table pages f target = tt
comps_no own live (Some range) None pages f target = tt
comps_no own live (Some range) (Some table) None f target = tt
comps_no own live (Some range) (Some table) (Some pages) f None = tt

pub made_no : (own : Own) (what : Make) (found : List Capability) (f : ℕ) (target : Option Found)
    → NoAnswer (made_begun own what found f target)
made_no own (Make.Comp table pages live) found f target =
    comps_no own live (at_place found First) (at_place found Third) (at_place found Fourth) f target
made_no own what found f target = makes_no own (object_made what found) (at_place found First) f target

pub kill_no : (core : ℕ) (kind : Kind) (f : ℕ) → NoAnswer (kills_in core kind f)
kill_no core Kind.Comp f = tt
kill_no core kind f = tt

pub kills_no : (own : Own) (comp : Option Capability) → NoAnswer (kills_at own comp)
kills_no own None = tt
kills_no own (Some k) = kill_no own.core k.kind k.frame

pub enter_no : (deep : Bool) (own : Own) (f epoch : ℕ) → NoAnswer (invokes_if deep own f epoch)
enter_no true own f epoch = tt
enter_no false own f epoch = tt

pub invoke_no : (own : Own) (kind : Kind) (f epoch : ℕ) → NoAnswer (invokes_in own kind f epoch)
invoke_no own Kind.Gate f epoch = enter_no (nat_le 16 own.depth) own f epoch
invoke_no own kind f epoch = tt

pub invokes_no : (own : Own) (gate : Option Capability) → NoAnswer (invokes_at own gate)
invokes_no own None = tt
invokes_no own (Some k) = invoke_no own k.kind k.frame k.arg

pub return_no : (bottom : Bool) (own : Own) → NoAnswer (returns_if bottom own)
return_no true own = tt
return_no false own = tt

pub switches_no : (own : Own) (h q : Option Capability) → NoAnswer (switches_at own h q)
switches_no own None q = tt
switches_no own (Some h) None = tt
switches_no own (Some h) (Some q) = tt

refills_no : (own : Own) (m : ℕ) (o : Option Capability) → NoAnswer (refills_at own m o)
refills_no own m None = tt
refills_no own m (Some k) = tt

pub act_no : (own : Own) (call : Call) (found : List Capability) (read : Option ℕ) (target : Option Found)
    → decides_at_name (plan_for call).decides ≡ false
    → NoAnswer (act_begun own call found read target)
act_no own (look_call a) found read target not = absurd (cc)
act_no own _ found read target not =
    search (
      fill_no own,
      maps_no own,
      remove_no own.core,
      types_no own,
      made_no own,
      kills_no own,
      invokes_no own,
      return_no,
      switches_no own,
      shares_no own.core,
      refills_no own,
      parts_no own,
    )
