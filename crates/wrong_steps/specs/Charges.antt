-- A wrong charge loses what the budget does not cover: the rest of the ticks is not owed.
use Rattle.act_states.specs as low
use Rattle.std.specs.Prelude.{◌≡◌}
use Rattle.kernel_history.specs.{ℕ, [], None, Tick, Value, StageEnd, CoreEnd, EntryAt, LoadOf, Represent, IsLegal, state_after}
use Rattle.kernel_history.specs.{last_left, two_cores, there, enters, goes}
use low.{Ticks.charged_in, Ticks.owes, declared.own.OwnChange.OwnChange, declared.own.OwnChange.TheVariants.Ticks}
use low.{declared.work.Act.TheVariants.Tick as tick_act, declared.work.Work.TheVariants.Act, declared.work.Tail.TheVariants.Nothing}
use low.{Ok, charge_move, Charge, stage_tcap.specs.Charging.charge_end, stage_tcap.specs.declared.charge.Charge.TheVariants.AtCompare}
use low.{declared.work.WorkStep.WorkStep, declared.work.WorkStep.TheVariants.Goes, declared.work.WorkStep.TheVariants.Changes}
use Rattle.{kernel_history.specs.Trace.Trace, wrong_steps.specs.Acts.acts}

-- Wrong: a charge that is made leaves nothing owed.
abbrev pub took_losing : ℕ → Charge → StageEnd Value → WorkStep
took_losing due charge StageEnd.Going = Goes (Act (tick_act charge))
took_losing due charge (StageEnd.Decided r) = owes r due
took_losing due charge (StageEnd.Done v) = Changes (Ok v) (Ticks (charged_in v) 0) None Nothing
took_losing due charge (StageEnd.Refuse r) = owes r due

-- 150 ticks are due, of which the budget of 100 in frame 6 covers a part.
abbrev pub charge : Charge
charge = AtCompare 6 150 100 0

abbrev pub takes : ℕ → WorkStep
takes found = took_losing 150 charge (charge_end charge found)

unfoldable pub loaded : Trace
loaded = goes 0 (LoadOf (EntryAt 6 0)) (enters 0 (Tick 150) [])

unfoldable pub charged : Trace
charged = acts 0 (charge_move charge) takes loaded

-- What a core owes after a step, which owed this before.
abbrev pub owed_by : OwnChange → ℕ → ℕ
owed_by (Ticks n owed) before = owed
owed_by _ before = before

abbrev pub owed_after : WorkStep → ℕ → ℕ
owed_after (Changes r change drawn tail) before = owed_by change before
owed_after _ before = before

-- No end of core 0 that owes what this step says represents the state.
pub record ChargesLose : Type 0 where
  pub legal : IsLegal two_cores charged
  pub refused : (end : ℕ → CoreEnd) → (end 0).owed ≡ owed_after (takes (there loaded (EntryAt 6 0))) 0
      → Represent (last_left two_cores charged) end (state_after two_cores charged) → ⊥
