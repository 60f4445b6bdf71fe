-- The stamp with which a call is carried out, if it has drawn one, is within its range.
use Rattle.time_laws.specs as low
use low.core_invariant.proofs.{Pin, Acquired, ◌≡◌, ℕ, ℤ, Bool, true, false, [], length, Option, Some, None, subst, Reply, found, StageEnd}
use low.core_invariant.proofs.{Own, Acquire, Act, Stage, Undecided, Decided, ActiveCall, WorkStep, Refuses as refuses_to, Answers, Shape}
use low.core_invariant.proofs.{reply_of, core_after, told_by, CountsAt, Took, landed, took_at, took_count, is_ok, Absorbed, is_done}
use low.act_states.specs.{Pinned, pin_after, pin_end, took_act, act_ready, declared.work.Act.Act as ActType}
use low.act_states.specs.{declared.work.WorkStep.TheVariants.Changes as work_changes}
use low.call_stages.proofs.{Answering.IsSmall, Answering.IsDrawn, Answering.EndsBy, Answering.none_drawn, Ends.act_ends}
use Rattle.flight_laws.proofs.{FrozenCounts.no_ok, HeldCounts.IsAmong}

pub took_drawn : (s : Shape) (act : ActType) (found : ℕ) → IsDrawn (took_act s act found)
took_drawn s act found = by (act_ready act) (act_ends s act found)
  where
    by : (ready : Bool) → EndsBy ready (took_act s act found) → IsDrawn (took_act s act found)
    by true ends = ends.1
    by false none = none_drawn (took_act s act found) none

-- A call that is carried out then has drawn such a stamp, or none.
abbrev pub DoneSmall : Option (Option ℕ) → Type 0
DoneSmall None = ⊥
DoneSmall (Some drawn) = IsSmall drawn

abbrev pub SmallIn : Option ActiveCall → Type 0
SmallIn None = ⊥
SmallIn (Some a) = DoneSmall (is_done a.stage)

abbrev pub OkDrawn : Option ActiveCall → Absorbed → Type 0
OkDrawn o (Absorbed.Decided (Reply.Ok v)) = SmallIn o
OkDrawn o told = Unit {0}

not_carried : (o : Option ActiveCall) (r : Reply) → is_ok r ≡ false → OkDrawn o (Absorbed.Decided r)
not_carried o (Reply.Ok v) not = absurd (cc)
not_carried o r not = tt

module _ (own : Own) (a : ActiveCall) where
  abbrev pub Drawn : Took → Type 0
  Drawn took = OkDrawn (core_after own took).active (told_by took)

  landed_drawn : (ws : WorkStep) → IsDrawn ws → Drawn (landed a ws)
  landed_drawn (refuses_to r tail) is = not_carried ((core_after own (landed a (refuses_to r tail))).active) (reply_of r) (no_ok r)
  landed_drawn (Answers v drawn tail) is = is
  landed_drawn (work_changes (Reply.Ok v) change drawn tail) is = is
  landed_drawn _ is = tt

  count_drawn : (core n : ℕ) (change : ℤ) (act : ActType) (pin : Pin) (end : StageEnd Pinned)
      → IsDrawn (took_count core n change act pin end)
  count_drawn core n change act pin StageEnd.Going = tt
  count_drawn core n change act pin _ = tt

  pub acquire_drawn : (pin : Pin) (change : ℤ) (act : ActType) (found : ℕ)
      → Drawn (took_at own a (Undecided (Acquire pin change act)) found)
  acquire_drawn pin change act found =
      landed_drawn _ (count_drawn own.core (length a.counts) change act (pin_after pin found) (pin_end pin found))

  none_among : (x : Acquired) → IsAmong x a.counts → a.counts ≡ [] → ⊥
  none_among x among none = subst (IsAmong x) none among

  -- where it has acquired a count
  pub stage_drawn : (x : Acquired) → IsAmong x a.counts → (stage : Stage) (found : ℕ) → CountsAt a.counts stage
      → Drawn (took_at own a stage found)
  stage_drawn x among (Undecided (Acquire pin change act)) found counts = acquire_drawn pin change act found
  stage_drawn x among (Undecided (Act act)) found counts = landed_drawn _ (took_drawn own.layout act found)
  stage_drawn x among (Decided r drawn tail) found counts = tt
  stage_drawn x among _ found counts = absurd (none_among x among counts)
