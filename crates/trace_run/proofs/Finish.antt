-- What is written at the end of a run is the text of the trace that was watched.
use Rattle.told_run.specs.lone_kernel.specs.flight.proofs.{◌≡◌, ℕ, List, [], ◌∷◌, refl, sym, ◌∙◌, ap, Option, Some, None, IsSome, Setting}
use Rattle.told_run.specs.lone_kernel.specs.flight.proofs.{IsSetting, Call, Item, Reply, put_same, Step, Trace, Out, phase, shape_of}
use Rattle.told_run.specs.lone_kernel.specs.flight.proofs.{IsMade, cores_after, stepping_core, made_phases}
use Rattle.trace_lines.specs.{step_text, event_lines, Told, step_told, told, view_text, made_lines}
use Rattle.{trace_lines.specs.script_printer.specs.Printing.setup_lines, told_run.specs.lone_kernel.specs.flight.specs.Made.core_after}
use Rattle.{told_run.specs.lone_kernel.specs.flight.proofs.Phases.made_events, told_run.specs.lone_kernel.proofs.Runs.none_of}
use Rattle.{trace_lines.specs.step_views.specs.declared.views.StepMade.StepMade, told_run.specs.Watching.IsNext}
use Rattle.{told_run.specs.GivenWatched.GivenWatched, trace_lines.specs.Steps.lines_at, trace_lines.proofs.Views.told_as_made}
use Rattle.{trace_run.specs.GivenTrace.GivenTrace, trace_run.specs.Written.has_written}

-- one step more is written
pub writes_next : (w w' : Told) (made : StepMade) → w' ≡ step_told w (view_text made.view) (made_lines made)
    → (setup : Setting) (first : Told) (t : Trace) (e : Step) → IsNext setup t made e → has_written first t w → has_written first (e ∷ t) w'
writes_next w w' made written setup first t e next seen head begun =
    written ∙ told_as_made (shape_of setup) made e w next.told
    ∙ ap (λ w. step_told w (step_text e) (event_lines e)) (seen head begun)

-- a step at which a call returns has a line
closes : (w : Told) (step : List ℕ) (core : ℕ) (enters : Option Call) (decides returns : Option Reply) → IsSome returns
    → (step_told w step (lines_at core enters decides returns)).steps ≡ []
closes w step core None None (Some r) some = refl
closes w step core None (Some d) (Some r) some = refl
closes w step core (Some call) None (Some r) some = refl
closes w step core (Some call) (Some d) (Some r) some = refl
closes w step core enters decides None some = absurd (cc)

-- the last step of a trace after which its core is between calls is one at which a call returns
returned_last : (setup : Setting) → IsSetting setup → (e : Step) (t : Trace) → IsMade setup (e ∷ t) → phase (e ∷ t) e.core ≡ Out
    → IsSome e.returns
returned_last setup setting e t made out =
    let now : cores_after setup (e ∷ t) e.core ≡ core_after (stepping_core setup t e) e.found =
    put_same (cores_after setup t) e.core (core_after (stepping_core setup t e) e.found) e.core refl in
    let stands = made_phases setup setting (e ∷ t) made e.core made.1.is_core in
    let none : (cores_after setup (e ∷ t) e.core).active ≡ None =
    none_of (cores_after setup (e ∷ t) e.core).active (λ inside. stands.in_call inside out) in
    (made_events setup t e made.1).returns_now (ap (λ k. k.active) (sym now) ∙ none)

-- so where all are, no step is left untold
none_left : (setup : Setting) → IsSetting setup → (head : List ℕ) (t : Trace) → IsMade setup t → ((c : ℕ) → phase t c ≡ Out)
    → (told head t).steps ≡ []
none_left setup setting head [] made out = refl
none_left setup setting head (e ∷ t) made out =
    closes (told head t) (step_text e) e.core e.enters e.decides e.returns (returned_last setup setting e t made (out e.core))

-- the text of what was watched
pub given : (version : ℕ) (setup : Setting) (lists : List (List Call)) (items : List Item) (first last : Told) (text : List ℕ)
    → first ≡ told (setup_lines version setup) [] → text ≡ last.lines
    → GivenWatched Told (λ setup first t last. has_written first t last) setup lists items first last
    → GivenTrace version setup lists items text
given version setup lists items first last text begun is w = record {
  trace = w.trace;
  history = w.history;
  calls = w.calls;
  order = w.order;
  is_text = is ∙ ap (λ (x : Told). x.lines) (w.seen (setup_lines version setup) begun);
  all_told = none_left setup w.setting (setup_lines version setup) w.trace w.history.made w.out;
}
