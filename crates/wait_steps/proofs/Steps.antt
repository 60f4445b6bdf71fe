-- A step of a call that is decided with a wait for a core is the load of that core's word.
use Rattle.call_stages.specs.act_states.specs as low
use low.{Bool, true, false, List, Option, Some, None, ℕ, ℤ, Word, Shape, word_of, Capability, Obj, Value, Reply, StageEnd}
use low.{Translation, FrameWord, CountWord, CompWord, next_of, Next, NextName, NextFree, NextHeld, Look, Quiet, Close, close_end, Alive}
use low.{Claim as ClaimOf, Claimed, Pin, Pinned, end_by, Sweep, SweepAt, Swept, Charge, pushed, pair_after, refill_after, refusal_of}
use low.{filled_if, took_charge, touch_end, touched, took_typing_at, took_claim, number_scanned, took_close, took_act, act_move}
use low.{took_making_at, took_killing_at, took_sweep, took_untyping_at, maps_word, took_comp_at, took_invoking_at, took_returning_at}
use low.{took_switching_at, plan_for, declared.own.Own.Own, declared.lookups.Met.Met, declared.lookups.Met.TheVariants.Finds}
use low.{declared.lookups.Met.TheVariants.Refused, declared.makings.Making.Making, declared.makings.MakingAt.MakingAt}
use low.{declared.comps.CompAt.CompAt, declared.comps.CompMaking.CompMaking, declared.comps.LastEpoch.LastEpoch}
use low.{declared.kills.Killing.Killing, declared.kills.KillingAt.KillingAt, declared.untypings.Untyping.Untyping}
use low.{declared.untypings.UntypingAt.UntypingAt, declared.invocations.Invoking.Invoking, declared.invocations.InvokingAt.InvokingAt}
use low.{declared.invocations.Returning.Returning, declared.invocations.ReturningAt.ReturningAt, declared.switches.Switching.Switching}
use low.{declared.switches.SwitchAt.SwitchAt, declared.typings.Typing.Typing, declared.typings.TypingAt.TypingAt}
use Rattle.call_stages.specs.{found_more, landed, next_by, took_first, took_enter, took_alive, named_one, took_found, took_end, took_read}
use Rattle.call_stages.specs.{took_count, took_scan, took_work, took_at, stage_move, work_move, is_spent}
use Rattle.call_stages.specs.stage_tcap.specs.{pair_move, pair_end, noted_by, refill_move, refill_end}
use Rattle.call_stages.specs.stage_sweep.specs.{refuses_at, sweep_refuses, sweep_end, sweep_move, sweep_kept, empty_refuses}
use low.{declared.touches.Touching.Touching, declared.fills.Fill.Fill, declared.work.Act.Act as ActType, declared.work.Work.Work}
use low.{declared.work.Work.TheVariants.Lookup, declared.work.Work.TheVariants.Read, declared.work.Work.TheVariants.Scan}
use low.{declared.work.Work.TheVariants.Acquire, declared.work.Work.TheVariants.Act, declared.work.WorkStep.WorkStep}
use Rattle.call_stages.specs.declared.stages.Stage.TheVariants.{Enter, Living, Undecided}
use Rattle.wait_steps.specs.Waits.{StepAt, EndAt, MayAt, TookAt, AgainIn, AgainOf, AgainAt}
use Rattle.wait_steps.proofs.Ends.{replied_at, quiet_at, look_at, alive_at, claim_at, pin_at, charge_end_at, pair_at}
use Rattle.wait_steps.proofs.Ends.{took_shared_at, refill_at, took_refilled_at, next_at, name_at, free_at, held_at, MetAt}
use Rattle.{call_stages.specs.stage_tcap.specs.refill_noted, call_stages.specs.stage_look.specs.declared.look.Found.Found}
use Rattle.{call_stages.specs.declared.stages.Stage.Stage, call_stages.specs.declared.stages.ActiveCall.ActiveCall}
use Rattle.call_stages.specs.act_states.specs.stage_sweep.specs.Freeze as freeze
use Rattle.std.proofs.Common.{arith}

module _ (w : Word) where
  -- the acts
  filled_at : (b : Bool) → StepAt w (filled_if b)
  filled_at b = grind arith

  close_step : (cap : Capability) (c : Close) (end : StageEnd ℕ) → EndAt w end → StepAt w (took_close cap c end)
  close_step cap c end h = grind arith

  close_end_at : (c : Close) (found : ℕ) → EndAt w (close_end c found)
  close_end_at c found = grind arith

  typing_step : (y : Typing) (at : TypingAt) (found : ℕ) → StepAt w (took_typing_at y at found)
  typing_step y at found = grind arith

  making_step : (m : Making) (at : MakingAt) (found : ℕ) → StepAt w (took_making_at m at found)
  making_step m at found = grind arith

  charge_step : (due : ℕ) (c : Charge) (end : StageEnd Value) → EndAt w end → StepAt w (took_charge due c end)
  charge_step due c end h = grind arith

  touch_step : (m : Touching) (l : Look) (end : StageEnd Found) → EndAt w end → StepAt w (touch_end m l end)
  touch_step m l end h = grind arith

  touched_at : (m : Touching) (found : ℕ) (o : Option Translation) → StepAt w (touched m found o)
  touched_at m found (Some item) = tt
  touched_at m found None = touch_step m _ _ (look_at w m.look found _)

  killing_step : (m : Killing) (at : KillingAt) (found : ℕ) → StepAt w (took_killing_at m at found)
  killing_step m at found = grind arith

  invoking_step : (m : Invoking) (at : InvokingAt) (found : ℕ) → StepAt w (took_invoking_at m at found)
  invoking_step m at found = grind arith

  returning_step : (m : Returning) (at : ReturningAt) (found : ℕ) → StepAt w (took_returning_at m at found)
  returning_step m at found = grind arith

  claim_step : (m : Switching) (c : ClaimOf) (end : StageEnd Claimed) → EndAt w end → StepAt w (took_claim m c end)
  claim_step m c end h = grind arith

  switching_step : (m : Switching) (at : SwitchAt) (found : ℕ) → StepAt w (took_switching_at m at found)
  switching_step m (SwitchAt.Claim c) found = claim_step m _ _ (claim_at w m.frames c found)
  switching_step m _ found = grind arith

  scanned_at : (m : CompMaking) (word : ℕ) (last : LastEpoch) (q : Quiet) (end : StageEnd (Unit {0})) → EndAt w end
      → StepAt w (number_scanned m word last q end)
  scanned_at m word last q end h = grind arith

  sweep_step : (m : Untyping) (word : ℕ) (x : Sweep) (end : StageEnd Swept) → EndAt w end → StepAt w (took_sweep m word x end)
  sweep_step m word x end h = grind arith

  map_at : (fill : Fill) (o : Option FrameWord) → StepAt w (maps_word fill o)
  map_at fill o = grind arith

  -- a sweep
  scan_refusal : (end : StageEnd (Unit {0})) → EndAt w end → MayAt w (freeze.refusal_of end)
  scan_refusal end h = grind arith

  by_refusal : (o : Option Reply) (next : Option SweepAt) (x : Swept) → MayAt w o → EndAt w (end_by o next x)
  by_refusal o next x h = grind arith

  object_empty : (frames : ℕ) (o : Obj) (at found : ℕ) → MayAt w (empty_refuses frames o at found)
  object_empty frames o at found = grind arith

-- The sweep of a frame that is made untyped scans cores too, and the making of a component.
swept_at : (s : Shape) (o : Obj) (frame core n : ℕ) (kept : List CountWord) (at : SweepAt) (found : ℕ)
    → MayAt (word_of (freeze.move_at frame core n at)) (refuses_at s o kept at found)
swept_at s o frame core n kept (SweepAt.Scan q) found = scan_refusal _ _ (quiet_at s.cores q found)
swept_at s o frame core n kept (SweepAt.Empty index) found = object_empty _ s.frames o index found
swept_at s o frame core n kept _ found = grind arith

sweep_at : (s : Shape) (x : Sweep) (found : ℕ) → EndAt (word_of (sweep_move x)) (sweep_end s x found)
sweep_at s x found = by_refusal _ (sweep_refuses s x found) _ _ (swept_at s x.word.object x.frame x.core _ (sweep_kept x found) x.at found)

untyping_step : (s : Shape) (m : Untyping) (at : UntypingAt) (found : ℕ)
    → StepAt (word_of (act_move (ActType.Untype (record m { at = at })))) (took_untyping_at s m at found)
untyping_step s m (UntypingAt.Sweep word x) found = sweep_step _ m word _ _ (sweep_at s x found)
untyping_step s m _ found = grind arith

comp_step : (m : CompMaking) (at : CompAt) (found : ℕ)
    → StepAt (word_of (act_move (ActType.MakeComp (record m { at = at })))) (took_comp_at m at found)
comp_step m (CompAt.Scan word last q) found = scanned_at _ m word last _ _ (quiet_at m.cores q found)
comp_step m _ found = grind arith

act_step : (s : Shape) (act : ActType) (found : ℕ) → AgainIn act → StepAt (word_of (act_move act)) (took_act s act found)
act_step s (ActType.Untype m) found h = untyping_step s m m.at found
act_step s (ActType.MakeComp m) found h = comp_step m m.at found
act_step s (ActType.Share p) found h = took_shared_at (word_of (pair_move p)) (pair_after p found) (pair_end p found)
    (pair_at (word_of (pair_move p)) (noted_by p found) p.at found h)
act_step s (ActType.Refill r) found h = took_refilled_at (word_of (refill_move r)) (refill_after r found) (refill_end r found)
    (refill_at (word_of (refill_move r)) (refill_noted r found) r.at found)
act_step s _ found h =
    search (
      filled_at,
      close_step,
      close_end_at,
      typing_step,
      making_step,
      map_at,
      charge_step,
      charge_end_at,
      touched_at,
      killing_step,
      invoking_step,
      returning_step,
      switching_step,
    )

-- A step of a call.
landed_at : (w : Word) (a : ActiveCall) (step : WorkStep) → StepAt w step → TookAt w (landed a step)
landed_at w a step h = grind arith

begins_at : (w : Word) (own : Own) (a : ActiveCall) → StepAt w (next_by own a)
begins_at w own a = next_at w own a.call a.found (next_of (plan_for a.call) a.found)

named_at : (w : Word) (own : Own) (a : ActiveCall) (met : Met) → MetAt w met → TookAt w (named_one own a met)
named_at w own a (Finds k) h = landed_at w (found_more a (pushed a.found k)) (next_by own (found_more a (pushed a.found k)))
    (begins_at w own (found_more a (pushed a.found k)))
named_at w own a (Refused r) h = replied_at w r h

found_at : (w : Word) (own : Own) (a : ActiveCall) (next : Next) (f : Found) → TookAt w (took_found own a next f)
found_at w own a (NextName n wanted) f = named_at w own a _ (name_at w wanted f.value)
found_at w own a (NextFree target) f = landed_at w a _ (free_at w own a.call a.found a.read f f.value)
found_at w own a (NextHeld target) f = landed_at w a _ (held_at w own a.call a.found f f.value)
found_at w own a _ f = tt

looks_end : (w : Word) (own : Own) (a : ActiveCall) (l : Look) (end : StageEnd Found) → EndAt w end → TookAt w (took_end own a l end)
looks_end w own a l (StageEnd.Done f) h = found_at w own a _ f
looks_end w own a l _ h = grind arith

reads_at : (w : Word) (a : ActiveCall) (l : Look) (o : Option CompWord) → TookAt w (took_read a l o)
reads_at w a l o = grind arith

scan_step : (w : Word) (core : ℕ) (act : ActType) (q : Quiet) (end : StageEnd (Unit {0})) → EndAt w end
    → StepAt w (took_scan core act q end)
scan_step w core act q end h = grind arith

count_step : (w : Word) (core n : ℕ) (change : ℤ) (act : ActType) (p : Pin) (end : StageEnd Pinned) → EndAt w end
    → StepAt w (took_count core n change act p end)
count_step w core n change act p end h = grind arith

work_at : (own : Own) (a : ActiveCall) (work : Work) (found : ℕ) → AgainOf work
    → TookAt (word_of (work_move work)) (took_work own a work found)
work_at own a (Lookup l) found h = looks_end _ own a _ _ (look_at _ l found _)
work_at own a (Read comp l) found h = reads_at _ a l _
work_at own a (Scan q act) found h = landed_at _ a _ (scan_step _ own.core act _ _ (quiet_at own.layout.cores q found))
work_at own a (Acquire p change act) found h = landed_at _ a _ (count_step _ own.core _ change act _ _ (pin_at _ p found))
work_at own a (Act act) found h = landed_at _ a _ (act_step own.layout act found h)

first_at : (w : Word) (living : Bool) (own : Own) (a : ActiveCall) → TookAt w (took_first living own a)
first_at w true own a = tt
first_at w false own a = landed_at w a (next_by own a) (begins_at w own a)

enter_at : (w : Word) (spent : Bool) (own : Own) (a : ActiveCall) → TookAt w (took_enter spent own a)
enter_at w true own a = tt
enter_at w false own a = first_at w (plan_for a.call).living own a

asks_at : (w : Word) (own : Own) (a : ActiveCall) (x : Alive) (end : StageEnd (Unit {0})) → EndAt w end → TookAt w (took_alive own a x end)
asks_at w own a x (StageEnd.Done u) h = landed_at w a (next_by own a) (begins_at w own a)
asks_at w own a x _ h = grind arith

pub took_at_core : (own : Own) (a : ActiveCall) (stage : Stage) (found : ℕ) → AgainAt stage
    → TookAt (word_of (stage_move own a.counts stage)) (took_at own a stage found)
took_at_core own a Enter found h = enter_at _ (is_spent own) own a
took_at_core own a (Living x) found h = asks_at _ own a _ _ (alive_at _ x found)
took_at_core own a (Undecided work) found h = work_at own a work found h
took_at_core own a _ found h = tt
