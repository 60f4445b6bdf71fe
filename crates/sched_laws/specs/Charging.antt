-- What the turns of a schedule charge and give back, and to which temporal capability.
use Rattle.sched_rules.specs as low
use Rattle.std.specs.Prelude.{◌≡◌, ◌≢◌, ◌+◌, ◌∷◌}
use low.kernel_rules.specs.{ℕ, List, [], Some, IsTrue, Capability, only, to_use, Found, named, fits, tcap_at, Kind}
use low.{declared.tasks.Rule.Rule, declared.tasks.Choice.Choice, declared.tasks.Renewal.Renewal, declared.turns.Turn.Turn}
use low.{declared.turns.Turn.TheVariants.Ran, declared.turns.Turn.TheVariants.Idle, declared.turns.Turn.TheVariants.Back}
use low.{Progress, Step, chosen, renewal, IsSchedule, kernel_rules.specs.State.State, declared.turns.Turn.TheVariants.Refused}

-- From state s to the new one core 0 has spent so many ticks, all of the temporal capability in a frame; it has had none back, and owes
-- none.
pub record Charges (s new : State) (f ticks : ℕ) : Type 0 where
  pub budget : (tcap_at new f).budget + ticks ≡ (tcap_at s f).budget
  pub others : (g : ℕ) → g ≢ f → (tcap_at new g).budget ≡ (tcap_at s g).budget
  pub spent : (new.core 0).spent ≡ (s.core 0).spent + ticks
  pub back : (new.core 0).back ≡ (s.core 0).back
  pub owed : (new.core 0).owed ≡ 0

-- No budget has changed, and core 0 has spent nothing, has had nothing back, and owes nothing.
pub record ChargesNothing (s new : State) : Type 0 where
  pub budgets : (g : ℕ) → (tcap_at new g).budget ≡ (tcap_at s g).budget
  pub spent : (new.core 0).spent ≡ (s.core 0).spent
  pub back : (new.core 0).back ≡ (s.core 0).back
  pub owed : (new.core 0).owed ≡ 0

-- The turn of a task, counted from 1, charges its ticks to the temporal capability that the task's name reached when it was chosen.
pub record ChargesChosen (rule : Rule) (x : Progress) (new : State) (i ticks : ℕ) : Type 0 where
  pub choice : Choice
  pub is_chosen : chosen x.state rule x.time 0 x.jobs ≡ Some choice
  pub task : choice.index + 1 ≡ i
  pub charges : Charges x.state new choice.ready.tcap ticks

-- From state s to the new one core 0 has had back so many ticks, all in the temporal capability in a frame, where it has one, as in every
-- state that the kernel reaches.
pub record Restores (s new : State) (f ticks : ℕ) : Type 0 where
  pub budget : IsTrue (fits Kind.Tcap (s.frame f)) → (tcap_at new f).budget ≡ (tcap_at s f).budget + ticks
  pub others : (g : ℕ) → g ≢ f → (tcap_at new g).budget ≡ (tcap_at s g).budget
  pub spent : (new.core 0).spent ≡ (s.core 0).spent
  pub back : (new.core 0).back ≡ (s.core 0).back + ticks
  pub owed : (new.core 0).owed ≡ 0

-- The turn in which a job of a task arrives, counted from 1, gives back what the task has run since its last job, to the temporal
-- capability that its name leads to.
pub record RestoresTask (x : Progress) (new : State) (i ticks : ℕ) : Type 0 where
  pub come : Renewal
  pub has_come : renewal x.time 0 x.jobs ≡ Some come
  pub task : come.index + 1 ≡ i
  pub used : come.job.used ≡ ticks
  pub tcap : Capability
  pub led : named x.state 0 come.job.task.tcap (to_use (only Kind.Tcap)) ≡ Found tcap
  pub restores : Restores x.state new tcap.frame ticks

-- A turn charges exactly its ticks, or gives them back.
abbrev pub TurnCharges : Rule → Progress → State → Turn → Type 0
TurnCharges rule x new (Ran at i ticks) = ChargesChosen rule x new i ticks
TurnCharges rule x new (Idle at ticks) = ChargesNothing x.state new
TurnCharges rule x new (Back at i ticks) = RestoresTask x new i ticks
TurnCharges rule x new (Refused at i r) = ChargesNothing x.state new

-- Each turn does.
abbrev pub TurnsCharge : Rule → Progress → List Step → Type 0
TurnsCharge rule x [] = Unit {0}
TurnsCharge rule x (step ∷ steps) = TurnCharges rule x step.next.state step.turn × TurnsCharge rule step.next steps

-- In a schedule that begins where core 0 owes nothing, the ticks of each turn are exactly those charged, or given back, in it.
abbrev pub ExactTicks : Type 0
ExactTicks = (rule : Rule) (x : Progress) (steps : List Step) → IsSchedule rule x steps → (x.state.core 0).owed ≡ 0
    → TurnsCharge rule x steps
