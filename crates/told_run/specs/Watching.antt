-- How moves that are told extend each trace for which a machine stood, and what a watcher has seen of it.
use Rattle.std.specs.Prelude.{◌≡◌, ◌∷◌, ◌++◌}
use Rattle.lone_kernel.specs.step_views.specs.kernel_history.specs.{ℕ, List, Setting, IsSetting, How, Item, Step, AreOf, IsIdle, Stretch}
use Rattle.lone_kernel.specs.step_views.specs.kernel_history.specs.{FollowsItem, FollowsItems, RunsOut, FollowsCores, shape_of}
use Rattle.lone_kernel.specs.{declared.lone.Moved.Moved, declared.lone.Moved.TheVariants.Idle, declared.lone.Moved.TheVariants.Went}
use Rattle.{lone_kernel.specs.flight.specs.ready_after, lone_kernel.specs.flight.specs.IsMade}
use Rattle.{lone_kernel.specs.step_views.specs.kernel_history.specs.Trace.Trace, lone_kernel.specs.Machine.Machine}
use Rattle.{lone_kernel.specs.Stands.StandsFor}
use Rattle.{lone_kernel.specs.step_views.specs.declared.views.StepMade.StepMade, lone_kernel.specs.step_views.specs.Views.IsTold}

-- The step that is told comes after the trace, and all of it is the machine's.
pub record IsNext (setup : Setting) (t : Trace) (made : StepMade) (e : Step) : Type 0 where
  pub setting : IsSetting setup
  pub is_made : IsMade setup (e ∷ t)
  pub told : IsTold (shape_of setup) made e

-- A machine, and a watcher of its steps.
pub record Watching (W : Type 0) : Type 0 where
  pub machine : Machine
  pub watcher : W

-- The machine stands for the trace, and the watcher has seen it.
pub record Watches (W : Type 0) (Seen : Setting → W → Trace → W → Type 0) (first : W) (s : Watching W) (t : Trace) : Type 0 where
  pub stands : StandsFor s.machine t
  pub seen : Seen s.machine.setup first t s.watcher

-- Each trace goes on to one of which this is so.
pub record GoesTo (W : Type 0) (Seen : Setting → W → Trace → W → Type 0) (first : W) (s' : Watching W) (Is : Trace → Type 0) : Type 0 where
  pub after : Trace
  pub watches : Watches W Seen first s' after
  pub is : Is after

abbrev pub GoesOnBy : {W : Type 0} → (Setting → W → Trace → W → Type 0) → Watching W → Watching W → (Trace → Trace → Type 0) → Type 0
GoesOnBy {W} Seen s s' Is = (first : W) (t : Trace) → Watches W Seen first s t → GoesTo W Seen first s' (Is t)

-- By one step of core c, which was not idle.
pub record IsOneStep (m : Machine) (c : ℕ) (t u : Trace) : Type 0 where
  pub busy : IsIdle m.lists t c → ⊥
  pub step : Step
  pub own : step.core ≡ c
  pub adds : u ≡ step ∷ t

-- By an item that takes core c this far, which was not idle.
pub record IsStretch (m : Machine) (how : How) (c : ℕ) (t u : Trace) : Type 0 where
  pub busy : IsIdle m.lists t c → ⊥
  pub stretch : Stretch (ready_after m.setup) how c t u

-- A machine that was idle, and its watcher, stay.
pub record StaysWatched (W : Type 0) (s s' : Watching W) (c : ℕ) : Type 0 where
  pub same : s' ≡ s
  pub idle : (t : Trace) → StandsFor s.machine t → IsIdle s.machine.lists t c

-- A move that is told: an idle core stays so; else each trace goes on by the stretch.
abbrev pub IsToldMove : {W : Type 0} → (Setting → W → Trace → W → Type 0) → Moved → How → Watching W → Watching W → ℕ → Type 0
IsToldMove {W} Seen Idle how s s' c = StaysWatched W s s' c
IsToldMove Seen Went how s s' c = GoesOnBy Seen s s' (IsStretch s.machine how c)

-- By an item of an order, by items, by steps of core c, to the end of its list, and to the ends of the lists of the first n cores.
abbrev pub GoesByItem : {W : Type 0} → (Setting → W → Trace → W → Type 0) → Watching W → Watching W → Item → Type 0
GoesByItem Seen s s' item = GoesOnBy Seen s s' (λ t u. FollowsItem (ready_after s.machine.setup) s.machine.lists item t u)

abbrev pub GoesByItems : {W : Type 0} → (Setting → W → Trace → W → Type 0) → Watching W → Watching W → List Item → Type 0
GoesByItems Seen s s' items = GoesOnBy Seen s s' (λ t u. FollowsItems (ready_after s.machine.setup) s.machine.lists items t u)

pub record AddsOwn (c : ℕ) (t u : Trace) : Type 0 where
  pub steps : Trace
  pub own : AreOf c steps
  pub adds : u ≡ steps ++ t

abbrev pub GoesByCore : {W : Type 0} → (Setting → W → Trace → W → Type 0) → Watching W → Watching W → ℕ → Type 0
GoesByCore Seen s s' c = GoesOnBy Seen s s' (λ t u. AddsOwn c t u)

abbrev pub RunsCoreOut : {W : Type 0} → (Setting → W → Trace → W → Type 0) → Watching W → Watching W → ℕ → Type 0
RunsCoreOut Seen s s' c = GoesOnBy Seen s s' (λ t u. RunsOut s.machine.lists c t u)

abbrev pub RunsCoresOut : {W : Type 0} → (Setting → W → Trace → W → Type 0) → Watching W → Watching W → ℕ → Type 0
RunsCoresOut Seen s s' n = GoesOnBy Seen s s' (λ t u. FollowsCores s.machine.lists n t u)
