-- The machine at the end of a run: its cores are between calls, and its text is that of the trace for which it stands.
use Rattle.trace_run.specs.lone_kernel.specs as low
use low.kernel_history.proofs.{◌≡◌, inl, inr, ℕ, ◌<◌, ◌++◌, List, [], length, sym, ◌∙◌, ap, subst, arith, None, get_or_past, Setting}
use low.kernel_history.proofs.{IsSetting, Call, Item, Shape, ticks, after, state_after, calls_of, decisions_of, IsIdle, HasCalls}
use low.kernel_history.proofs.{FollowsCores, list_of, shape_of, events_of, plain_phase, Represent, word_in, end_in, phase_is as plain_is}
use low.core_invariant.specs.{Trace, FollowsItems, Follows, reply_lines, ActiveCall}
use Rattle.speck_run.specs.{GoesByItems, RunsCoresOut, lines_of}
use Rattle.world_lines.specs.world_parts.specs.{sight_of, IsLast, IsFinest}
use low.flight.proofs.{ready_after, IsMade, made_of_its_cores}
use low.{kernel_history.proofs.tables_of, core_at, StandsFor, flight_laws.specs.IsHistory, flight_laws.specs.MadeHistories}
use low.{kernel_history.proofs.Laws.legal_runs, kernel_history.specs.Text.text_of, trace_laws.proofs.Idle.all_idle, GivenSteps.GivenSteps}
use low.{Machine.Machine}
use Rattle.{world_lines.specs.worlds_text, world_lines.specs.TellsWorlds, std.proofs.lemmas.Bool.cases_lt}
use Rattle.{world_lines.specs.world_parts.specs.machine_image.specs.Views.ImageOf, trace_run.specs.lone_kernel.proofs.Advance.phase_is}
use Rattle.{trace_run.specs.lone_kernel.proofs.Runs.none_of, load_summary.specs.Summaries.summary_text, world_lines.specs.Telling.TellsIn}
use Rattle.{speck_run.specs.Summary.GivenSummary, speck_run.specs.Worlds.GivenWorlds}

-- a machine that stands for a trace in which its cores are idle
module _ (m : Machine) (t : Trace) (setting : IsSetting m.setup) (stands : StandsFor m t) (idle : (c : ℕ)
    → c < m.setup.cores → IsIdle m.lists t c) where
  -- no core has a active call
  pub all_out : (c : ℕ) → c < m.setup.cores → (core_at m c).active ≡ None
  all_out c here = none_of (core_at m c).active (λ inside. (phase_is m t c setting here stands).in_call inside (idle c here).out)

  -- all cores have had their calls
  all_calls : length m.lists ≡ m.setup.cores → HasCalls m.lists t
  all_calls pairs c = elim (cases_lt c m.setup.cores) [
    | inl h ↦ idle c h
    | inr past ↦
        let away = made_of_its_cores m.setup t stands.made c past in
        record { out = away.out; finished = away.none ∙ sym (get_or_past m.lists c [] (omega arith)) }
  ]

  lines_are : HasCalls m.lists t → lines_of m.lists m.decisions ≡ reply_lines (calls_of t) (decisions_of t)
  lines_are calls =
      let same : list_of m.lists ≡ calls_of t = λ i c. sym (calls c).finished i in
      ap (λ f. reply_lines f m.decisions) same ∙ ap (λ ds. reply_lines (calls_of t) ds) stands.decisions

-- a whole trace for which the machine stands at the end of a run
pub record IsRun (setup : Setting) (lists : List (List Call)) (items : List Item) (m : Machine) : Type 0 where
  pub trace : Trace
  pub stands : StandsFor m trace
  pub idle : (c : ℕ) → c < m.setup.cores → IsIdle m.lists trace c
  pub order : Follows (ready_after setup) lists items trace

module _ (setup : Setting) (lists : List (List Call)) (items : List Item) (k0 k1 k2 : Machine)
    (setup0 : k0.setup ≡ setup) (setup1 : k1.setup ≡ k0.setup) (setup2 : k2.setup ≡ k1.setup)
    (lists0 : k0.lists ≡ lists) (lists1 : k1.lists ≡ k0.lists) (lists2 : k2.lists ≡ k1.lists)
    (setting : IsSetting setup) (one_each : length lists ≡ setup.cores) (boots : StandsFor k0 [])
    (first : GoesByItems k0 k1 items) (then_out : RunsCoresOut k1 k2 k1.setup.cores) where
  pub run : IsRun setup lists items k2
  run =
      let a = first [] boots in
      let b = then_out a.after a.stands in
      let s1 : k1.setup ≡ setup = setup1 ∙ setup0 in
      let s2 : k2.setup ≡ setup = setup2 ∙ s1 in
      let l1 : k1.lists ≡ lists = lists1 ∙ lists0 in
      let l2 : k2.lists ≡ lists = lists2 ∙ l1 in
      let cores1 : k1.setup.cores ≡ length lists = ap (λ s. s.cores) s1 ∙ sym one_each in
      let cores2 : k2.setup.cores ≡ length lists = ap (λ s. s.cores) s2 ∙ sym one_each in
      let by_cores : FollowsCores lists (length lists) a.after b.after =
      subst (λ (k : ℕ). FollowsCores lists k a.after b.after) cores1
      (subst (λ l. FollowsCores l k1.setup.cores a.after b.after) l1 b.out) in
      let idle : (c : ℕ) → c < k2.setup.cores → IsIdle k2.lists b.after c = λ c h.
      subst (λ l. IsIdle l b.after c) (sym l2) (all_idle lists (length lists) a.after b.after by_cores c (omega arith)) in
      let items_follow : FollowsItems (ready_after setup) k0.lists items [] a.after =
      subst (λ s. FollowsItems (ready_after s) k0.lists items [] a.after) setup0 a.follows in
      record {
        trace = b.after;
        stands = b.stands;
        idle = idle;
        order = record {
          ordered = a.after;
          by_items =
              subst (λ l. FollowsItems (ready_after setup) l items [] a.after) lists0 items_follow;
          by_cores = by_cores;
        };
      }

  setup_same : k2.setup ≡ setup
  setup_same = setup2 ∙ (setup1 ∙ setup0)

  lists_same : k2.lists ≡ lists
  lists_same = lists2 ∙ (lists1 ∙ lists0)

  module _ (r : IsRun setup lists items k2) where
    calls_are : HasCalls k2.lists r.trace
    calls_are =
        let cores : k2.setup.cores ≡ length lists = ap (λ s. s.cores) setup_same ∙ sym one_each in
        all_calls k2 r.trace (subst IsSetting (sym setup_same) setting) r.stands r.idle (ap length lists_same ∙ sym cores)

    history_is : MadeHistories → IsHistory setup r.trace
    history_is histories = histories setup setting r.trace (subst (λ s. IsMade s r.trace) setup_same r.stands.made)

    -- the text of a machine at the end of its run is that of given steps
    pub given : (histories : MadeHistories) (tables text : List ℕ) → tables ≡ tables_of (state_after k2.setup r.trace)
        → text ≡ lines_of lists k2.decisions ++ tables → GivenSteps setup lists items text
    given histories tables text shown is =
        let lines : lines_of lists k2.decisions ≡ reply_lines (calls_of r.trace) (decisions_of r.trace) =
        ap (λ l. lines_of l k2.decisions) (sym lists_same)
        ∙ lines_are k2 r.trace (subst IsSetting (sym setup_same) setting) r.stands r.idle calls_are in
        record {
          trace = r.trace;
          history = history_is histories;
          calls = subst (λ l. HasCalls l r.trace) lists_same calls_are;
          order = r.order;
          is_text = is ∙ ap (λ x. x ++ tables) lines
              ∙ ap (λ x. reply_lines (calls_of r.trace) (decisions_of r.trace) ++ x) shown ∙ ap (λ s. text_of s r.trace) setup_same;
        }

    -- and its summary
    pub summed_up : (histories : MadeHistories) (total : ℕ) (text : List ℕ) → total ≡ ticks (state_after k2.setup r.trace)
        → text ≡ summary_text k2.decisions total → GivenSummary setup lists items text
    summed_up histories total text shown is = record {
      trace = r.trace;
      history = history_is histories;
      calls = subst (λ l. HasCalls l r.trace) lists_same calls_are;
      order = r.order;
      is_text = is ∙ ap (summary_text k2.decisions) shown
          ∙ ap (λ ds. summary_text ds (ticks (state_after k2.setup r.trace))) r.stands.decisions
          ∙ ap (λ (s : Setting). summary_text (decisions_of r.trace) (ticks (state_after s r.trace))) setup_same;
    }

    -- and the worlds of its final state
    pub worlds_told : (histories : MadeHistories) (image : ImageOf) (text : List ℕ) → image.shape ≡ shape_of k2.setup
        → Represent (word_in image.shape image.words) (end_in image.ends) (state_after k2.setup r.trace) → TellsWorlds image [] text
        → GivenWorlds setup lists items text
    worlds_told histories image text shape represent tells =
        let limits : IsSetting k2.setup = subst IsSetting (sym setup_same) setting in
        let runs = legal_runs k2.setup r.trace (histories k2.setup limits r.trace r.stands.made).legal in
        let last : IsLast k2.setup (events_of r.trace) image = record {
          limits = limits;
          run = runs.run;
          out = λ c. plain_is r.trace c ∙ ap plain_phase (calls_are c).out;
          frames = ap (λ (s : Shape). s.frames) shape;
          cores = ap (λ (s : Shape). s.cores) shape;
          represents = subst (Represent (word_in image.shape image.words) (end_in image.ends)) runs.state represent;
        } in
        let told : TellsIn (after k2.setup (events_of r.trace)) [] text = tells k2.setup (events_of r.trace) last in
        let same : after k2.setup (events_of r.trace) ≡ state_after setup r.trace =
        sym runs.state ∙ ap (λ (s : Setting). state_after s r.trace) setup_same in
        record {
          trace = r.trace;
          history = history_is histories;
          calls = subst (λ l. HasCalls l r.trace) lists_same calls_are;
          order = r.order;
          world = told.world;
          finest = subst (λ s. IsFinest s told.world) same told.finest;
          is_text = told.is_text ∙ ap (λ s. worlds_text (sight_of s) told.world) same;
        }
