-- A liveness number that was killed lives later in higher epochs alone; and a component that was killed, and whose core has left its call,
-- makes no further `ok` but `ret`, `flush` and `tick`.
use Rattle.time_laws.specs.kept_facts.proofs.{◌≡◌, ◌∷◌, ◌++◌, sym, ◌∙◌, ap, subst, Setting, IsSetting, open_inj, comp_of, Some, Open}
use Rattle.time_laws.specs.kept_facts.proofs.{live_of_word, LiveAt, Live, Dead, NumberOf, State, after, IsRun, events_of, live_mark, stamp}
use Rattle.time_laws.specs.kept_facts.proofs.{Trace, Step, phase, after_enter, state_before, MayDecide, IsLegal, MayReply, state_after}
use Rattle.time_laws.specs.kept_facts.proofs.{last_left, state_is, run_of, settled_by, NumberIs, held_by, Invariant, entered_events}
use Rattle.time_laws.specs.kernel_history.proofs.{phase_of, plain_phase, entered_phase, entered_run, before_is, phase_is}
use Rattle.time_laws.specs.comp_invariant.proofs.LaterEvents.{Later, entry_later, later_events}
use Rattle.{time_laws.specs.flight.specs.cores_after, time_laws.specs.flight.specs.IsMade, time_laws.specs.history_laws.specs.DeadForGood}
use Rattle.{time_laws.specs.history_laws.specs.KilledStop, time_laws.specs.spk_nums.specs.declared.replies.Reply.TheVariants.Ok}
use Rattle.{time_laws.specs.state_laws.proofs.Lives.dead_stays, time_laws.specs.state_laws.proofs.Killed.killed_stop as killed_in_runs}
use Rattle.{time_laws.specs.live_invariant.proofs.Numbers.number_is, time_laws.specs.flight.proofs.Made.made_stands}

pub dead_for_good : (setup : Setting) → IsSetting setup → (u t : Trace) → IsMade setup (u ++ t) → DeadForGood setup u t
dead_for_good setup setting u t made l e d f dead shows =
    let stands : Invariant setup (cores_after setup (u ++ t)) (u ++ t) = made_stands setup setting (u ++ t) made in
    let had : Later (events_of (u ++ t)) (events_of t) = later_events u t in
    let s : State = state_after setup (u ++ t) in
    let lives : s.number l ≡ Live d f =
    number_is (s.number l) (stamp setup (u ++ t) (NumberOf l)) d f (live_of_word (last_left setup (u ++ t) (LiveAt l)))
    (subst (λ o. NumberIs (s.number l) (stamp setup (u ++ t) (NumberOf l))
    (live_of_word (settled_by o (held_by (cores_after setup (u ++ t))) (LiveAt l) (last_left setup (u ++ t) (LiveAt l)))))
    (ap live_mark shows) (stands.words (LiveAt l))) shows in
    dead_stays setup had.later (events_of t) (subst (IsRun setup) had.adds (run_of setup (u ++ t) stands.legal)) l e d f
    (ap (λ (y : State). y.number l) (sym (state_is setup t)) ∙ dead)
    (ap (λ xs. (after setup xs).number l) (sym had.adds)
    ∙ ap (λ (y : State). y.number l) (sym (state_is setup (u ++ t))) ∙ lives)

pub killed_stop : (setup : Setting) → IsSetting setup → (u t : Trace) (e : Step) → IsMade setup (e ∷ u ++ t) → KilledStop setup (e ∷ u) t
killed_stop setup setting u t e made call done was =
    let legal : IsLegal setup (e ∷ u ++ t) = (made_stands setup setting (e ∷ u ++ t) made).legal in
    let before : State = state_before setup (u ++ t) e in
    let had : Later (entered_events (u ++ t) e) (events_of t) =
    entry_later e.enters e.core (events_of (u ++ t)) (events_of t) (later_events u t) in
    let entered : IsRun setup (entered_events (u ++ t) e) =
    entered_run setup (u ++ t) e legal.0 legal.1 (run_of setup (u ++ t) legal.0) in
    let decides : MayDecide setup (u ++ t) e (Some (Ok done.value)) (Open call) =
    subst (MayDecide setup (u ++ t) e (Some (Ok done.value))) done.is_open
    (subst (λ o. MayDecide setup (u ++ t) e o (after_enter e.enters (phase (u ++ t) e.core))) done.decides legal.1.decides) in
    let permitted : MayReply before e.core call (Ok done.value) =
    subst (λ k. MayReply before e.core k (Ok done.value)) (open_inj decides.call call decides.is_open) decides.permitted in
    let same : before ≡ after setup (had.later ++ events_of t) = before_is setup (u ++ t) e ∙ ap (after setup) had.adds in
    killed_in_runs setup had.later (events_of t) e.core call done.value (
      subst (IsRun setup) had.adds entered,
      record {
        is_open = ap (λ xs. phase_of xs e.core) (sym had.adds) ∙ entered_phase (u ++ t) e ∙ ap plain_phase done.is_open;
        permitted = subst (λ s. MayReply s e.core call (Ok done.value)) same permitted;
      },
    )
    (record {
      out = phase_is t e.core ∙ ap plain_phase was.out;
      dead = ap (λ (s : State). s.number (comp_of (after setup (had.later ++ events_of t)) e.core).number) (sym (state_is setup t))
          ∙ subst (λ s. (state_after setup t).number (comp_of s e.core).number ≡ Dead (comp_of s e.core).epoch) same was.dead;
    })
