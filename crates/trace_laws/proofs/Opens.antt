-- A core whose call is open at a step is in an open call of a run.
use Rattle.boot_words.specs.kernel_history.proofs.{◌≡◌, sym, ◌∙◌, ap, subst, Setting, IsSetting, Call, Step, phase, after_enter}
use Rattle.boot_words.specs.kernel_history.proofs.{state_before, MayFollow, IsLegal, plain_phase, entered_events, before_is, entered_phase}
use Rattle.boot_words.specs.kernel_history.proofs.{entered_run, run_of}
use Rattle.found_stays.specs.kernel_invariant.proofs.{opened, open_is, IsOpen}
use Rattle.found_stays.specs.kernel_rules.specs.Runs.{is_open}
use Rattle.boot_words.specs.kernel_history.specs.Trace.{Trace, Open}

pub opens : (setup : Setting) → IsSetting setup → (t : Trace) → IsLegal setup t → (e : Step) → MayFollow setup t e → (call : Call)
    → after_enter e.enters (phase t e.core) ≡ Open call → IsOpen (state_before setup t e) (opened (entered_events t e)) e.core
opens setup lim t legal e follows call is = subst (λ s. IsOpen s (opened (entered_events t e)) e.core) (sym (before_is setup t e))
    (open_is setup lim (entered_events t e) e.core (entered_run setup t e legal follows (run_of setup t legal))
    (ap is_open (entered_phase t e ∙ ap plain_phase is)))

pub open_inj : (k j : Call) → Open j ≡ Open k → k ≡ j
open_inj k j same = cc
