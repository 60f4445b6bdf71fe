-- The events of a history are a run of the sequential kernel.
use Rattle.kernel_rules.specs.{◌≡◌, ℕ, List, [], ◌∷◌, refl, Setting, Reply, Event, after, Phase, Out, Open, Decided, phase_of, IsRun}
use Rattle.marked_history.specs.{with_decision, events_of, MayDecideIn, IsHistory, declared.marks.Mark.Mark}
use Rattle.marked_history.specs.{declared.marks.Mark.TheVariants.Enter, declared.marks.Mark.TheVariants.Decide}
use Rattle.marked_history.specs.{declared.marks.Mark.TheVariants.Return, Laws.HistoriesRun}

-- A decision that the call relation permits goes on with a run.
decided : (setting : Setting) (events : List Event) (c : ℕ) (r : Reply) (p : Phase) → phase_of events c ≡ p
    → IsRun setting events → MayDecideIn p (after setting events) c r → IsRun setting (with_decision p c r events)
decided setting events c r Out is run may = run
decided setting events c r (Open call) is run may = (run, record { is_open = is; permitted = may })
decided setting events c r (Decided call q) is run may = run

pub histories_run : HistoriesRun
histories_run setting [] h = tt
histories_run setting (Enter c call ∷ marks) h =
    (histories_run setting marks h.0, record { is_core = h.1.machine.0; is_out = h.1.order; in_limits = h.1.machine.1 })
histories_run setting (Decide c r ∷ marks) h =
    decided setting (events_of marks) c r (phase_of (events_of marks) c) refl (histories_run setting marks h.0) h.1.permitted
histories_run setting (Return c ∷ marks) h = (histories_run setting marks h.0, h.1.order)
