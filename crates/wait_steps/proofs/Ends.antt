-- What is found elsewhere than in a core's word, and what begins, says of no wait.
use Rattle.call_stages.specs as low
use low.act_states.specs.{Bool, List, Option, Some, None, refl, ℕ, Word, word_of, Capability, FrameKind, PageFlags, Call}
use low.act_states.specs.{Value, Reply, StageEnd, Entry, Next, NextName, NextFree, NextHeld, NextOwn, NextNothing, Target as place, Want}
use low.act_states.specs.{Look, look_end, Quiet, quiet_move, quiet_end, alive_end, Alive, Claim as ClaimOf, pin_end, Pin, Charge, Pair}
use low.act_states.specs.{PairAt, PairWork, Refill, RefillAt, reply_of, refusal_of, looks_under, looks_at, read_first, next_step, met_name}
use low.act_states.specs.{met_free, met_held, touches_if, took_shared, shares_at, refills_at, took_refilled, looked, starts, fills_with}
use low.act_states.specs.{removes_at, types_at, makes_at, comps_at, maps_at, made_begun, kills_at, invokes_at, returns_if, switches_at}
use low.act_states.specs.{declared.refusals.Refusal.Refusal, declared.own.Own.Own, declared.lookups.Met.Met}
use low.act_states.specs.{declared.lookups.Met.TheVariants.Finds, declared.lookups.Met.TheVariants.Refused}
use low.act_states.specs.{declared.objects.NewObject.NewObject, declared.work.Act.Act as ActType, declared.work.WorkStep.WorkStep}
use low.stage_thread.specs.{claim_end}
use low.stage_tcap.specs.{Make, charge_end, Pairs.end_at, Refilling.refill_end_at}
use Rattle.wait_steps.specs.Waits.{RefusesAt, RepliesAt, StepAt, EndAt, IsAgain}
use low.{act_states.specs.act_begun, act_states.specs.parts_at, stage_look.specs.declared.look.Found.Found}
use low.{act_states.specs.Touches.fault_of}
use Rattle.call_stages.specs.spk_nums.specs.declared.calls.Make.TheVariants as make
use Rattle.call_stages.specs.spk_nums.specs.declared.calls.Call.TheVariants as call_as
use Rattle.call_stages.specs.act_states.specs.entry_words.specs.declared.entry.Entry.TheVariants as entry
use Rattle.std.proofs.Common.{arith}

pub refused_at : (w : Word) (r : Reply) → RepliesAt w r → RefusesAt w (refusal_of r)
refused_at w r h = grind arith

pub replied_at : (w : Word) (r : Refusal) → RefusesAt w r → RepliesAt w (reply_of r)
replied_at w r h = grind arith

pub fault_at : (w : Word) (r : Reply) → RepliesAt w r → RefusesAt w (fault_of r)
fault_at w r h = grind arith

-- The scan of a core's word.
pub quiet_at : (cores : ℕ) (q : Quiet) (found : ℕ) → EndAt (word_of (quiet_move q)) (quiet_end cores q found)
quiet_at cores q found = grind arith

-- What is found elsewhere says of no wait.
module _ (w : Word) where
  pub look_at : (l : Look) (word : ℕ) (o : Option Entry) → EndAt w (look_end l word o)
  look_at l word o = grind arith

  pub alive_at : (a : Alive) (found : ℕ) → EndAt w (alive_end a found)
  alive_at a found = grind arith

  pub claim_at : (frames : ℕ) (c : ClaimOf) (found : ℕ) → EndAt w (claim_end frames c found)
  claim_at frames c found = grind arith

  pub pin_at : (p : Pin) (found : ℕ) → EndAt w (pin_end p found)
  pin_at p found = grind arith

  pub charge_end_at : (c : Charge) (found : ℕ) → EndAt w (charge_end c found)
  charge_end_at c found = grind arith

  -- two temporal capabilities
  pub pair_at : (p : Pair) (at : PairAt) (found : ℕ) → IsAgain at → EndAt w (end_at p at found)
  pair_at p at found h = grind arith

  pub took_shared_at : (p : Pair) (end : StageEnd Value) → EndAt w end → StepAt w (took_shared p end)
  took_shared_at p end h = grind arith

  -- a temporal capability that is given ticks
  pub refill_at : (r : Refill) (at : RefillAt) (found : ℕ) → EndAt w (refill_end_at r at found)
  refill_at r at found = grind arith

  pub took_refilled_at : (r : Refill) (end : StageEnd Value) → EndAt w end → StepAt w (took_refilled r end)
  took_refilled_at r end h = grind arith

  -- what begins
  pub under_at : (b : Bool) (top n : ℕ) → StepAt w (looks_under b top n)
  under_at b top n = grind arith

  pub target_at : (t : place) → StepAt w (looks_at t)
  target_at t = grind arith

  pub read_at : (o : Option ℕ) (step : WorkStep) → StepAt w step → StepAt w (read_first o step)
  read_at None step h = h
  read_at (Some comp) step h = grind arith

  pub looked_at : (o : Option Capability) → StepAt w (looked o)
  looked_at o = grind arith

  pub starts_at : (core : ℕ) (act : ActType) → StepAt w (starts core act)
  starts_at core act = grind arith

  pub fills_at : (own : Own) (o : Option Capability) (page : Bool) (f : Option Found) → StepAt w (fills_with own o page f)
  fills_at own o page f = grind arith

  pub removes_found : (core : ℕ) (o : Option Found) → StepAt w (removes_at core o)
  removes_found core o = grind arith

  pub types_found : (own : Own) (o : Option Capability) (f : ℕ) (k : FrameKind) → StepAt w (types_at own o f k)
  types_found own o f k = grind arith

  pub makes_found : (own : Own) (o : Option NewObject) (k : Option Capability) (frame : ℕ) (f : Option Found) → StepAt w (makes_at own o k frame f)
  makes_found own o k frame f = grind arith

  pub maps_found : (own : Own) (o : Option Capability) (frame : ℕ) (flags : PageFlags) (f : Option Found) → StepAt w (maps_at own o frame flags f)
  maps_found own o frame flags f = grind arith

  pub parts_found : (own : Own) (o : Option Capability) (frame n : ℕ) (f : Option Found) → StepAt w (parts_at own o frame n f)
  parts_found own o frame n f = grind arith

  pub comps_found : (own : Own) (number : ℕ) (a b c : Option Capability) (frame : ℕ) (f : Option Found)
      → StepAt w (comps_at own number a b c frame f)
  comps_found own number a b c frame f = grind arith

  pub made_found : (own : Own) (what : Make) (ks : List Capability) (frame : ℕ) (f : Option Found) → StepAt w (made_begun own what ks frame f)
  made_found own (make.Comp table pages number) ks frame f = comps_found own number _ _ _ frame f
  made_found own _ ks frame f = grind arith

  pub kills_found : (own : Own) (o : Option Capability) → StepAt w (kills_at own o)
  kills_found own o = grind arith

  pub invokes_found : (own : Own) (o : Option Capability) → StepAt w (invokes_at own o)
  invokes_found own o = grind arith

  pub returns_bottom : (b : Bool) (own : Own) → StepAt w (returns_if b own)
  returns_bottom b own = grind arith

  pub switches_found : (own : Own) (a b : Option Capability) → StepAt w (switches_at own a b)
  switches_found own a b = grind arith

  pub shares_found : (core : ℕ) (what : PairWork) (a b : Option Capability) → StepAt w (shares_at core what a b)
  shares_found core what a b = grind arith

  pub refills_found : (own : Own) (m : ℕ) (o : Option Capability) → StepAt w (refills_at own m o)
  refills_found own m o = grind arith

  pub begun_at : (own : Own) (call : Call) (ks : List Capability) (read : Option ℕ) (f : Option Found) → StepAt w (act_begun own call ks read f)
  begun_at own (call_as.Look a) ks read f = looked_at _
  begun_at own _ ks read f =
      search (
        looked_at,
        fills_at,
        maps_found,
        removes_found,
        types_found,
        made_found,
        kills_found,
        invokes_found,
        returns_bottom,
        switches_found,
        shares_found,
        refills_found,
        parts_found,
      )

  pub touches_at : (b : Bool) (own : Own) (v : ℕ) → StepAt w (touches_if b own v)
  touches_at b own v = grind arith

  pub next_at : (own : Own) (call : Call) (ks : List Capability) (next : Next) → StepAt w (next_step own call ks next)
  next_at own call ks (NextName n want) = under_at _ _ _
  next_at own call ks (NextFree target) = read_at _ _ (target_at target)
  next_at own call ks (NextHeld target) = target_at target
  next_at own call ks (NextOwn v) = touches_at _ own v
  next_at own call ks NextNothing = begun_at own call ks None None

  -- what a name has led to
  abbrev pub MetAt : Met → Type 0
  MetAt (Finds k) = Unit {0}
  MetAt (Refused r) = RefusesAt w r

  pub name_at : (want : Want) (v : Entry) → MetAt (met_name want v)
  name_at want v = grind arith

  pub free_at : (own : Own) (call : Call) (ks : List Capability) (read : Option ℕ) (f : Found) (v : Entry)
      → StepAt w (met_free own call ks read f v)
  free_at own call ks read f entry.Free = begun_at own call ks read (Some f)
  free_at own call ks read f (entry.Quiescing stamp) = begun_at own call ks read (Some f)
  free_at own call ks read f _ = tt

  pub held_at : (own : Own) (call : Call) (ks : List Capability) (f : Found) (v : Entry) → StepAt w (met_held own call ks f v)
  held_at own call ks f (entry.Held k) = begun_at own call ks None (Some f)
  held_at own call ks f _ = tt
