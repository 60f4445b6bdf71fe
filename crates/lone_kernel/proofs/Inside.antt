-- How many steps a machine says that a core has made of its call: those of each trace for which it stands, and fewer than the bound.
use Rattle.flight_laws.specs.flight.specs.kept_facts.proofs as low
use low.{◌≡◌, ℕ, ◌<◌, Option, Some, None, IfSome, refl, sym, ap, subst, arith, Setting, IsSetting, Trace, ActiveCall, Stage, Enter, Living}
use low.{Undecided, Decided, Leave, CallFits, Own, CallIs}
use Rattle.{lone_kernel.specs.core_at, lone_kernel.specs.IsFit, lone_kernel.specs.StandsFor, std.proofs.Common.◌↔◌}
use Rattle.{boot_words.specs.kernel_history.specs.Trace.steps_in_call, call_steps.specs.call_stages.specs.Fits.left_at}
use Rattle.{call_steps.specs.Stepping.steps_made, flight_laws.specs.flight.specs.Made.cores_after}
use Rattle.{flight_laws.specs.flight.proofs.Made.made_stands, lone_kernel.specs.Machine.Machine, lone_kernel.specs.Inside.IsBelowBound}

-- none is said exactly of a core between calls
pub between_only : (o : Option ActiveCall) → (steps_made o ≡ None) ↔ (o ≡ None)
between_only None = (λ h. refl, λ h. refl)
between_only (Some a) = (λ h. cc, λ h. cc)

-- a call has steps to come at each stage
some_left : (cores : ℕ) (a : ActiveCall) (s : Stage) → 0 < left_at cores a s
some_left cores a Enter = omega arith
some_left cores a (Living alive) = omega arith
some_left cores a (Undecided work) = omega arith
some_left cores a (Decided r drawn tail) = omega arith
some_left cores a (Leave r stamp) = omega arith

below_of : (own : Own) (o : Option ActiveCall) → CallFits own o → IfSome (steps_made o) (IsBelowBound own.layout.cores o)
below_of own None fits = tt
below_of own (Some a) fits = let some = some_left own.layout.cores a a.stage in let steps = fits.steps in omega arith

-- the steps made of each trace that satisfies this, where the core's call is the trace's
made_of : (setup : Setting) (c : ℕ) (Is : Trace → Type 0) (table : Trace → ℕ) (o : Option ActiveCall)
    → ((t : Trace) → Is t → CallIs setup t c (table t) o)
    → IfSome (steps_made o) (λ k. (t : Trace) → Is t → k ≡ steps_in_call t c)
made_of setup c Is table None stands = tt
made_of setup c Is table (Some a) stands = λ t is. sym (stands t is).steps

pub steps_of : (m : Machine) → IsSetting m.setup → (c : ℕ) → c < m.setup.cores
    → IfSome (steps_made (core_at m c).active) (λ k. (t : Trace) → StandsFor m t → k ≡ steps_in_call t c)
steps_of m setting c here =
    made_of m.setup c (StandsFor m) (λ t. (cores_after m.setup t c).own.table) (core_at m c).active
    (λ t stands. subst (CallIs m.setup t c (cores_after m.setup t c).own.table) (sym (ap (λ k. k.active) (stands.cores c here)))
    ((made_stands m.setup setting t stands.made).each c here).active)

pub below_bound : (m : Machine) → IsFit m → (c : ℕ) → c < m.setup.cores
    → IfSome (steps_made (core_at m c).active) (IsBelowBound m.setup.cores (core_at m c).active)
below_bound m fit c here =
    let seat = fit.each c here in
    subst (λ (n : ℕ). IfSome (steps_made (core_at m c).active) (IsBelowBound n (core_at m c).active))
    (ap (λ s. s.cores) seat.shape) (below_of (core_at m c).own (core_at m c).active seat.fits.active)
