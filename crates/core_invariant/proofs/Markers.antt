-- A call is in its phase, and a core whose mark a word carries is in a call.
use Rattle.core_invariant.specs.{◌≡◌, ◌≢◌, ℕ, true, Option, Some, None, refl, IsSome, Setting, Word, marked_by, Trace, Phase, Out, phase}
use Rattle.core_invariant.specs.{state_after, is_in, Stage, Enter, ActiveCall, Core, phase_at, KnowsAt}
use Rattle.kernel_history.proofs.{inl, inr, sym, ◌∙◌, false≢true, call_in, inside_is}
use Rattle.{core_invariant.specs.CallIs, core_invariant.specs.holds_in, std.proofs.lemmas.Bool.cases_lt, core_invariant.specs.Knows.Knows}
use Rattle.{core_invariant.specs.Invariant.Invariant}

-- A call that has entered is in its phase.
phase_at_in : (setup : Setting) (t : Trace) (c table : ℕ) (a : ActiveCall) (stage : Stage) → KnowsAt setup t c table a stage
    → phase_at a.call stage ≢ Out
phase_at_in setup t c table a Enter knows = absurd knows
phase_at_in setup t c table a _ knows = λ h. cc

pub phase_in : (setup : Setting) (t : Trace) (c table : ℕ) (a : ActiveCall) → Knows setup t c table a → phase_at a.call a.stage ≢ Out
phase_in setup t c table a knows = phase_at_in setup t c table a a.stage knows

phase_at_call : (setup : Setting) (t : Trace) (c table : ℕ) (a : ActiveCall) (stage : Stage) → KnowsAt setup t c table a stage
    → call_in (phase_at a.call stage) ≡ Some a.call
phase_at_call setup t c table a Enter knows = absurd knows
phase_at_call setup t c table a _ knows = refl

pub phase_call : (setup : Setting) (t : Trace) (c table : ℕ) (a : ActiveCall) → Knows setup t c table a
    → call_in (phase_at a.call a.stage) ≡ Some a.call
phase_call setup t c table a knows = phase_at_call setup t c table a a.stage knows

-- Who marks a word is in a call.
flight_some : (o : Option ActiveCall) (w : Word) → (holds_in o).marks w ≡ true → IsSome o
flight_some None w h = absurd (false≢true h)
flight_some (Some f) w h = refl

in_phase : (p : Phase) → p ≢ Out → is_in p ≡ true
in_phase Out h = absurd (h refl)
in_phase _ h = refl

-- A core whose mark a word carries is in a call.
pub marker_inside : (setup : Setting) (cores : ℕ → Core) (t : Trace) → Invariant setup cores t → (w : Word) (d : ℕ)
    → marked_by setup t w ≡ Some d
    → ((state_after setup t).core d).inside ≡ true
marker_inside setup cores t stands w d is = elim (cases_lt d setup.cores) [
  | inl here ↦ inside_is setup t d ∙ in_phase (phase t d) (by_flight (cores d).active (stands.each d here).active some)
  | inr past ↦ absurd (none_some (cores d).active (stands.away d past).idle some)
]
  where
    some : IsSome (cores d).active
    some = flight_some (cores d).active w ((stands.marks w d).owned is)

    none_some : (o : Option ActiveCall) → o ≡ None → IsSome o → ⊥
    none_some None is some = absurd (false≢true some)
    none_some (Some f) is some = absurd (cc)

    by_flight : (o : Option ActiveCall) → CallIs setup t d (cores d).own.table o → IsSome o → phase t d ≢ Out
    by_flight None is some = absurd (false≢true some)
    by_flight (Some f) is some = λ out. phase_in setup t d (cores d).own.table f is.knows (sym is.phase ∙ out)
