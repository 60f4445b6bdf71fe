-- A step of the scan for a frame that is made untyped: it is refused by a core that may still use the frame, or that may not have flushed
-- it, or goes on to the next word, and from the last to the object in the frame.
use Rattle.scan_invariant.specs.step_ways.proofs as low
use low.{◌≡◌, ℕ, ◌<◌, false, List, [], ◌∷◌, Option, Some, None, refl, sym, ◌∙◌, ap, subst, Setting, IsSetting, Reply, CountWord, FrameWord}
use low.{Move, State, FrameOf, is_untyped, frame_value, stamp, Step, Trace, state_after, last_left, Quiet, latest_stamp, at_after, end_by}
use low.{swept_of, Owned, Sweep, SweepAt, took_sweep, release_of, Untyping, Work, Act, WorkStep, Goes, Undecided, ActiveCall, landed, Core}
use low.{holds_release, Holding, holds_counts, KnowsUndecided, KnowsWork, holds_work, Invariant, IsQuiet, KnowsSweep, names_on, limits_of}
use low.{word_of, Untype as untype_act, OnlyLooks, step_to, next_at, loads_on, GoodTook, plan_for}
use Rattle.scan_invariant.specs.core_invariant.specs.{AreFrozen, KnowsSweepScan}
use Rattle.scan_invariant.specs.act_states.specs.{may_be_cached, Scan}
use Rattle.freeze_invariant.proofs.Counters.{sweeping, untyping_by, sweep_knows, sweep_held, sweep_counts, sweep_frame}
use Rattle.freeze_invariant.proofs.UntypeCalls.{untypes_on, typed_is}
use Rattle.{scan_invariant.specs.kernel_rules.specs.GracePeriods.is_translated, scan_invariant.specs.stage_sweep.specs.Freeze.empty_next}
use Rattle.{scan_invariant.specs.kept_facts.proofs.Carries.quiet_frame_on, freeze_invariant.proofs.FrameQuiet.cached_is}
use Rattle.freeze_invariant.proofs.FrameQuiet as quieting
use Rattle.freeze_invariant.proofs.UntypeCalls as calls

-- What is common to the two kinds of word.
module _ (setup : Setting) (setting : IsSetting setup) (cores : ℕ → Core) (t : Trace) (stands : Invariant setup cores t) (c : ℕ)
    (here : c < setup.cores)
    (a : ActiveCall) (active : (cores c).active ≡ Some a) (f core word g : ℕ) (v : FrameWord) (b : ℕ) (kept : List CountWord) (o : Owned)
    (q : Quiet)
    (stage_is : a.stage ≡ Undecided (Act (untype_act (untyping_by f core word (sweeping g v b kept o (Scan q))))))
    (has : KnowsUndecided setup t c (cores c).own.table a (Act (untype_act (untyping_by f core word (sweeping g v b kept o (Scan q))))))
    (move : Move) (looks : OnlyLooks setup t c a.call move) where
  abbrev s : State
  s = state_after setup t

  abbrev w : Sweep
  w = sweeping g v b kept o (Scan q)

  abbrev m : Untyping
  m = untyping_by f core word w

  knows : KnowsSweep setup t c f word w
  knows = sweep_knows setup setting cores t stands c here a active f core word w stage_is has

  no_counts : a.counts ≡ []
  no_counts = sweep_counts setup setting cores t stands c here a active f core word w stage_is has

  pub frame_is : v ≡ frame_value (s.frame f)
  frame_is = sweep_frame setup setting cores t stands c here a active f core word w stage_is has

  pub known_typed : is_untyped (s.frame f) ≡ false
  known_typed = typed_is (s.frame f) v frame_is knows.met.kind

  pub known_own : b ≡ c
  known_own = knows.core

  pub page_known : may_be_cached v.kind v.object ≡ is_translated (s.frame f)
  page_known = ap (λ y. may_be_cached y.kind y.object) frame_is ∙ cached_is (s.frame f)

  pub frame_footprint : f < setup.frames
  frame_footprint = subst (λ (n : ℕ). f < n) (ap (λ l. l.frames) (limits_of setup t))
      (calls.below setup setting cores t stands c here a active m stage_is has)

  abbrev pub Result : Option Reply → Option SweepAt → Type 0
  Result r next = GoodTook setup cores t c move (landed a
      (took_sweep m word (sweeping g v b kept o (at_after (Scan q) r next))
      (end_by r next (swept_of (sweeping g v b kept o (at_after (Scan q) r next))))))

  -- it goes on, to what it knows after the step
  pub goes_by : (ws : WorkStep) (work : Work) → ws ≡ Goes work
      → ((h : Holding) → holds_work work h ≡ holds_release (release_of f word (swept_of w) false) h)
      → ((u : Trace) → (state_after setup u).frame f ≡ s.frame f
      → ((y upto flushes : ℕ) → IsQuiet setup t c f y upto flushes → IsQuiet setup u c f y upto flushes)
      → KnowsWork setup u c (cores c).own.table (next_at a a.found (Undecided work)) work)
      → GoodTook setup cores t c move (landed a ws)
  goes_by ws work goes holds_it knows_it = subst (λ x. GoodTook setup cores t c move (landed a x)) (sym goes) (λ lands.
      let e : Step = step_to c None move (last_left setup t (word_of move)) None None in
      let is_open = calls.is_open setup setting cores t stands c here a active m stage_is has in
      loads_on setup setting cores t stands c here a active move a.found (Undecided work) looks lands
      (holds_it (holds_counts None a.counts) ∙ sym (sweep_held setup setting cores t stands c here a active f core word w stage_is has))
      (calls.opens setup setting cores t stands c here a active m stage_is has)
      (λ carries. record {
        acts = has.acts;
        names = names_on setup setting t e stands.legal c a.call is_open carries (cores c).own.table (plan_for a.call) a.found has.names;
        knows = knows_it (e ∷ t) refl
            (λ y upto flushes. quiet_frame_on setup setting t e stands.legal c a.call is_open carries f y upto flushes);
      }))

  -- all were scanned: it looks at the object
  pub all_scanned : (x : ℕ) → stamp setup t (FrameOf f) ≡ x → AreFrozen setup.cores kept → x ≡ latest_stamp kept
      → IsQuiet setup t c f x setup.cores setup.cores → Result None (empty_next v.object)
  all_scanned x since frozen latest quiet =
      let next = quieting.past_scans setup setting cores t stands c f x since (cores c).own.table a no_counts core word has.knows.knows.core
      (λ n is. untypes_on a.call a.found m n is has.knows.knows.untypes) g v b knows.core kept o (Scan q) knows.frame knows.met knows.kept
      (calls.fits setup setting cores t stands c here a active m stage_is has).at.object frozen latest frame_is quiet in
      goes_by (took_sweep m word (sweeping g v b kept o (at_after (Scan q) None (empty_next v.object)))
      (end_by None (empty_next v.object) (swept_of (sweeping g v b kept o (at_after (Scan q) None (empty_next v.object))))))
      next.work next.goes next.holds next.knows

  -- the next word is scanned
  pub scans_on : (r : Quiet)
      → ((u : Trace) → ((y upto flushes : ℕ) → IsQuiet setup t c f y upto flushes → IsQuiet setup u c f y upto flushes)
      → KnowsSweepScan setup u c f (sweeping g v b kept o (Scan r)) r) → Result None (Some (Scan r))
  scans_on r known =
      goes_by (took_sweep m word (sweeping g v b kept o (Scan r)) (end_by None (Some (Scan r)) (swept_of (sweeping g v b kept o (Scan r)))))
      (Act (untype_act (untyping_by f core word (sweeping g v b kept o (Scan r))))) refl (λ h. refl)
      (λ u stays carry. record {
        knows = record {
          untypes = untypes_on a.call a.found m (untyping_by f core word (sweeping g v b kept o (Scan r))) refl has.knows.knows.untypes;
          core = has.knows.knows.core;
          at = record { frame = knows.frame; core = knows.core; met = knows.met; kept = knows.kept; at = known u carry };
        };
        all = has.knows.all;
        goes = refl;
      })
