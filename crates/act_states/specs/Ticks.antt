-- The act that charges ticks to the core's temporal capability.
use Rattle.std.specs.Prelude.{◌+◌, ◌-◌, ◌^◌}
use Rattle.stage_tcap.specs.{ℕ, min, Bool, true, false, None, Reply, Ok, Value, Amount, StageEnd, charge_end, charge_after}
use Rattle.stage_tcap.specs.declared.charge.Charge.{Charge}
use Rattle.stage_tcap.specs.declared.charge.Charge.TheVariants.{AtLoad, AtCompare}
use Rattle.act_states.specs.{declared.own.Own.Own, declared.own.OwnChange.TheVariants.Ticks, declared.work.Act.TheVariants.Tick as tick_act}
use Rattle.act_states.specs.{declared.work.Work.TheVariants.Act, declared.work.Tail.TheVariants.Nothing, declared.work.WorkStep.WorkStep}
use Rattle.act_states.specs.{declared.work.WorkStep.TheVariants.Goes, declared.work.WorkStep.TheVariants.Changes}

-- the ticks that are due: those asked for and those owed; ticks past their field never come, and stay at the field's end
abbrev pub ticks_due : ℕ → ℕ → ℕ
ticks_due owed n = min (owed + n) (2 ^ 64 - 1)

-- so many ticks, and those owed, are charged to the core's temporal capability
abbrev pub charges : Own → ℕ → WorkStep
charges own n = Goes (Act (tick_act (AtLoad own.tcap (ticks_due own.owed n))))

-- the ticks that a charge is for
abbrev pub ticks_of : Charge → ℕ
ticks_of (AtLoad t ticks) = ticks
ticks_of (AtCompare t ticks budget version) = ticks

-- the ticks that a value says were charged
abbrev pub charged_in : Value → ℕ
charged_in (Amount charged) = charged
charged_in _ = 0

-- the call is decided with this reply, and all ticks that are due stay owed
abbrev pub owes : Reply → ℕ → WorkStep
owes r due = Changes r (Ticks 0 due) None Nothing

-- what a tick of so many ticks takes from its step, after which it stands here: it goes on, is refused, or has charged so many of them
abbrev pub took_charge : ℕ → Charge → StageEnd Value → WorkStep
took_charge due charge StageEnd.Going = Goes (Act (tick_act charge))
took_charge due charge (StageEnd.Decided r) = owes r due
took_charge due charge (StageEnd.Done v) = Changes (Ok v) (Ticks (charged_in v) (due - charged_in v)) None Nothing
took_charge due charge (StageEnd.Refuse r) = owes r due

abbrev pub took_tick : Charge → ℕ → WorkStep
took_tick charge found = took_charge (ticks_of charge) (charge_after charge found) (charge_end charge found)

-- whether the next step is the compare
abbrev pub is_charging : Charge → Bool
is_charging (AtLoad t ticks) = false
is_charging (AtCompare t ticks budget version) = true

-- the steps that are still to come
abbrev pub charge_left : Charge → ℕ
charge_left (AtLoad t ticks) = 2
charge_left (AtCompare t ticks budget version) = 1
