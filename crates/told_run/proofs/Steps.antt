-- Steps of one core that are told, one after another, until it is there.
use Rattle.lone_kernel.specs.flight.proofs.{◌≡◌, ℕ, ◌<◌, [], ◌∷◌, ◌++◌, refl, sym, ◌∙◌, ap, subst, Setting, IsSetting, Step, Trace}
use Rattle.lone_kernel.specs.{IsFinished, IsInCall, IsThere, IsDone, StandsFor}
use Rattle.lone_kernel.specs.step_views.specs.kernel_history.specs.{How, AreOf, Stretch}
use Rattle.lone_kernel.proofs.Runs.{NotYet, none_yet, StaysOpen, events_are, longer, ends_item, busy_if, done_stretch}
use Rattle.told_run.specs.Watching.{IsNext, Watching, GoesOnBy, IsOneStep, IsStretch}
use Rattle.{lone_kernel.specs.flight.proofs.ready_after, lone_kernel.specs.flight.proofs.IsMade, std.proofs.lemmas.List.Elements.All-cons}
use Rattle.{std.proofs.lemmas.List.Elements.All-nil, lone_kernel.specs.step_views.specs.declared.views.StepMade.StepMade}
use Rattle.{lone_kernel.specs.Machine.Machine}
use Rattle.{lone_kernel.specs.Shown.TellsStep}

-- A watcher that has seen a trace has seen the next step too, where it was told it.
abbrev pub Tells : {W : Type 0} → (Setting → W → Trace → W → Type 0) → StepMade → W → W → Type 0
Tells {W} Seen made w w' = (setup : Setting) (first : W) (t : Trace) (e : Step) → IsNext setup t made e
    → Seen setup first t w → Seen setup first (e ∷ t) w'

-- a step that is made and told
pub tells_one : {W : Type 0} (Seen : Setting → W → Trace → W → Type 0) (s s' : Watching W) (c : ℕ) (made : StepMade)
    → IsSetting s.machine.setup → s'.machine.setup ≡ s.machine.setup
    → ((t : Trace) → StandsFor s.machine t → TellsStep s.machine s'.machine c made t)
    → Tells Seen made s.watcher s'.watcher → GoesOnBy Seen s s' (IsOneStep s.machine c)
tells_one Seen s s' c made setting same steps tells first t watches =
    let x = steps t watches.stands in
    let is_made : IsMade s.machine.setup (x.step ∷ t) = subst (λ k. IsMade k (x.step ∷ t)) same x.stands.made in
    let next : IsNext s.machine.setup t made x.step = record { setting = setting; is_made = is_made; told = x.told } in
    record {
      after = x.step ∷ t;
      watches = record {
        stands = x.stands;
        seen = subst (λ k. Seen k first (x.step ∷ t) s'.watcher) (sym same)
            (tells s.machine.setup first t x.step next watches.seen);
      };
      is = record { busy = x.busy; step = x.step; own = x.own; adds = refl };
    }

-- steps of core c that have not come to where the item ends
pub record IsShort (m : Machine) (how : How) (c : ℕ) (t u : Trace) : Type 0 where
  pub steps : Trace
  pub own : AreOf c steps
  pub before : NotYet (ready_after m.setup) how c t steps
  pub adds : u ≡ steps ++ t

abbrev pub GoesShort : {W : Type 0} → (Setting → W → Trace → W → Type 0) → How → Watching W → Watching W → ℕ → Type 0
GoesShort Seen how s s' c = GoesOnBy Seen s s' (IsShort s.machine how c)

pub short_none : {W : Type 0} (Seen : Setting → W → Trace → W → Type 0) (how : How) (s : Watching W) (c : ℕ) → GoesShort Seen how s s c
short_none Seen how s c first t watches = record {
  after = t;
  watches = watches;
  is = record {
    steps = [];
    own = All-nil (λ e. e.core ≡ c);
    before = none_yet how (ready_after s.machine.setup) c t;
    adds = refl;
  };
}

module _ {W : Type 0} (Seen : Setting → W → Trace → W → Type 0) (s s' s'' : Watching W) (c : ℕ)
    (middle : s'.machine.setup ≡ s.machine.setup) (last : s''.machine.setup ≡ s'.machine.setup)
    (here : c < s'.machine.setup.cores) (step : GoesOnBy Seen s' s'' (IsOneStep s'.machine c)) where
  -- one that does not end the item
  pub short_more : (how : How) → (IsThere how s''.machine c → ⊥) → IsInCall s''.machine c → GoesShort Seen how s s' c
      → GoesShort Seen how s s'' c
  short_more how short inside goes first t watches =
      let g = goes first t watches in
      let x = step first g.after g.watches in
      let e = x.is.step in
      let adds = x.is.adds ∙ ap (λ u. e ∷ u) g.is.adds in
      let was : StandsFor s'.machine (g.is.steps ++ t) = subst (λ u. StandsFor s'.machine u) g.is.adds g.watches.stands in
      let on : StandsFor s''.machine (e ∷ (g.is.steps ++ t)) = subst (λ u. StandsFor s''.machine u) adds x.watches.stands in
      let events = events_are s'.machine s''.machine c (g.is.steps ++ t) e last here x.is.own was on in
      record {
        after = x.after;
        watches = x.watches;
        is = record {
          steps = e ∷ g.is.steps;
          own = All-cons (λ x. x.core ≡ c) e g.is.steps x.is.own g.is.own;
          before = longer s.machine s'.machine s''.machine c middle last here how t g.is.steps e g.is.before short inside events on;
          adds = adds;
        };
      }

  -- the step that ends the item
  pub there_at_last : (how : How) → c < s.machine.setup.cores → IsSetting s.machine.setup → (IsFinished s.machine c → ⊥)
      → (IsDone how s.machine c → ⊥) → StaysOpen how s'.machine c → IsThere how s''.machine c
      → GoesShort Seen how s s' c → GoesOnBy Seen s s'' (IsStretch s.machine how c)
  there_at_last how now setting begins undone open_now there goes first t watches =
      let g = goes first t watches in
      let x = step first g.after g.watches in
      let e = x.is.step in
      let adds = x.is.adds ∙ ap (λ u. e ∷ u) g.is.adds in
      let was : StandsFor s'.machine (g.is.steps ++ t) = subst (λ u. StandsFor s'.machine u) g.is.adds g.watches.stands in
      let on : StandsFor s''.machine (e ∷ (g.is.steps ++ t)) = subst (λ u. StandsFor s''.machine u) adds x.watches.stands in
      let events = events_are s'.machine s''.machine c (g.is.steps ++ t) e last here x.is.own was on in
      record {
        after = x.after;
        watches = x.watches;
        is = record {
          busy = busy_if s.machine c setting now begins t watches.stands;
          stretch = subst (λ u. Stretch (ready_after s.machine.setup) how c t u) (sym adds)
              (ends_item s.machine s'.machine s''.machine c middle last here now setting how t g.is.steps e watches.stands undone open_now
              there
              (All-cons (λ x. x.core ≡ c) e g.is.steps x.is.own g.is.own) g.is.before events on);
        };
      }

-- an item that is done makes no step
pub nothing_done : {W : Type 0} (Seen : Setting → W → Trace → W → Type 0) (how : How) (s : Watching W) (c : ℕ)
    → IsSetting s.machine.setup → c < s.machine.setup.cores
    → (IsFinished s.machine c → ⊥) → IsDone how s.machine c → GoesOnBy Seen s s (IsStretch s.machine how c)
nothing_done Seen how s c setting here begins done first t watches = record {
  after = t;
  watches = watches;
  is = record {
    busy = busy_if s.machine c setting here begins t watches.stands;
    stretch = done_stretch how s.machine c t setting here done watches.stands;
  };
}
