-- The step of a retype to untyped that scans a core's word: it is refused where the core may still use the frame.
use Rattle.scan_invariant.specs as low
use low.step_ways.proofs.{◌≡◌, ◌≢◌, ◌⊎◌, inl, inr, ℕ, ◌<◌, ◌≤◌, ◌&&◌, ◌||◌, ltb as nat_lt, leb as nat_le, Bool, true, false, List, ◌∷◌}
use low.step_ways.proofs.{Option, Some, None, IsTrue, arith, refl, sym, ◌∙◌, ap, subst, eq-eqb, ltb-false, leb-true, leb-false, Setting}
use low.step_ways.proofs.{IsSetting, Reply, core_of_word, CountWord, FrameWord, CoreAt, Move, LoadOf, State, Thing, FrameOf, same_thing}
use low.step_ways.proofs.{rule_of, IsRemoved, exit_of, stamp, Step, Trace, state_after, last_left, not_inside, own_pages, Quiet, AtCore}
use low.step_ways.proofs.{AtFlush, core_scan, scan_end, scan_after, quiet_next, at_after, end_by, swept_of, Owned, Sweep, took_sweep}
use low.step_ways.proofs.{release_of, UntypingFits, Untyping, Act, Refuses, Undecided, ActiveCall, landed, Core, KnowsUndecided, Invariant}
use low.step_ways.proofs.{IsQuiet, KnowsSweep, limits_of, if◌then◌else◌, Untype as untype_act, Release as release_tail, OnlyLooks, inner}
use low.step_ways.proofs.{decides_with, GoodTook, plan_for, Refusal}
use low.act_states.specs.{next_other, flush_scan, Scan}
use low.trace_laws.proofs.{out_passed, later_passed, may_wait}
use Rattle.freeze_invariant.proofs.Counters.{sweeping, untyping_by, sweep_knows, sweep_held, sweep_since, undo_with, undo_known}
use Rattle.freeze_invariant.proofs.FrameScans.{all_scanned, scans_on, page_known}
use low.{stage_sweep.specs.refusal_of, stage_sweep.specs.scan_goes, kernel_history.specs.asked_of, kernel_history.specs.waited_in}
use low.{kernel_rules.specs.GracePeriods.MayWait, kernel_history.specs.Justified.IsWaiting, trace_laws.proofs.Carries.was_at_once}
use low.{stage_quiet.specs.Scan.core_refuses, core_invariant.specs.Sweeps.IsScanning, plan_ways.proofs.Ways.asked_left}
use Rattle.{std.specs.List.list_any, scan_invariant.proofs.Scans.before_next, freeze_invariant.proofs.FrameQuiet.unpaged_frame}
use Rattle.freeze_invariant.proofs.UntypeCalls as calls

module _ (setup : Setting) (setting : IsSetting setup) (cores : ℕ → Core) (t : Trace) (stands : Invariant setup cores t) (c : ℕ)
    (here : c < setup.cores)
    (a : ActiveCall) (active : (cores c).active ≡ Some a) (f core word g : ℕ) (v : FrameWord) (b : ℕ) (kept : List CountWord) (o : Owned)
    (x by at : ℕ) (page : Bool)
    (stage_is : a.stage
    ≡ Undecided (Act (untype_act (untyping_by f core word (sweeping g v b kept o (Scan (AtCore x by at page)))))))
    (has : KnowsUndecided setup t c (cores c).own.table a
    (Act (untype_act (untyping_by f core word (sweeping g v b kept o (Scan (AtCore x by at page))))))) where
  abbrev s : State
  s = state_after setup t

  abbrev thing : Thing
  thing = FrameOf f

  abbrev q : Quiet
  q = AtCore x by at page

  abbrev w : Sweep
  w = sweeping g v b kept o (Scan q)

  abbrev m : Untyping
  m = untyping_by f core word w

  abbrev load : Move
  load = LoadOf (CoreAt at)

  abbrev was : ℕ
  was = last_left setup t (CoreAt at)

  knows : KnowsSweep setup t c f word w
  knows = sweep_knows setup setting cores t stands c here a active f core word w stage_is has

  scan : IsScanning setup t c f w x by at 0 page
  scan = knows.at

  fits : UntypingFits (cores c).own.layout m
  fits = calls.fits setup setting cores t stands c here a active m stage_is has

  below : at < setup.cores
  below = subst (λ (n : ℕ). at < n) (ap (λ y. y.cores) (stands.each c here).shape) fits.at.fits.at.0

  other : at ≢ c
  other same = fits.at.fits.at.1 (same ∙ sym scan.core)

  looks : OnlyLooks setup t c a.call load
  looks = record { of_call = record { moves = refl; footprint = inl tt }; kept = refl; apart = λ d. refl }

  since : stamp setup t thing ≡ x
  since = sweep_since setup setting cores t stands c here a active f core word w stage_is has scan.frozen ∙ sym scan.stamp

  -- The core may still use the frame.
  module _ (inside : (s.core at).inside ≡ true) (early : exit_of t at ≤ x) where
    abbrev e : Step
    e = inner setup setting cores t stands c here a active load (Some (Reply.Quiescing at)) None

    waits : MayWait s c thing at
    waits = record {
      is_core = subst (λ (n : ℕ). at < n) (sym (ap (λ l. l.cores) (limits_of setup t))) below;
      other = other;
      is_inside = inside;
      not_passed = may_wait setup t thing (stands.graces thing) at x (let d = scan.some in omega arith)
          (let z = since in omega (arith, z)) early;
    }

    justified : IsWaiting setup t e s (rule_of s c a.call) at
    justified = record {
      thing = thing;
      asked = subst (λ things. IsTrue (list_any (same_thing thing) things))
          (sym (asked_left s c (own_pages s c) (plan_for a.call) (rule_of s c a.call) a.found
          (calls.by_plan setup setting cores t stands c here a active m stage_is has)
          (calls.leads setup setting cores t stands c here a active m stage_is has) waited_in
          ∙ ap (asked_of waited_in s c) (calls.left setup setting cores t stands c here a active m stage_is has)))
          (ap (λ b. b || false) (eq-eqb f f refl));
      may_wait = waits;
      was_removed = was_at_once (IsRemoved thing) setup t e refl tt;
    }

    still_inside : GoodTook setup cores t c load (landed a (Refuses (Refusal.Quiescing at)
        (release_tail (release_of f word (swept_of w) false))))
    still_inside lands = decides_with setup setting cores t stands c here a active load (Reply.Quiescing at)
        (undo_with setup setting cores t stands c here a active f core word w stage_is has kept) a.found looks lands
        (sym (sweep_held setup setting cores t stands c here a active f core word w stage_is has))
        (calls.opens setup setting cores t stands c here a active m stage_is has) refl refl
        (λ y. refl) (λ y. refl) refl (
          calls.unspent setup setting cores t stands c here a active m stage_is has,
          calls.may_refuse setup setting cores t stands c here a active m stage_is has (Reply.Quiescing at) (inr (inr (inr (inl waits)))),
        )
        justified
        (λ is_alone. absurd (not_inside setup t e refl is_alone at other inside))
        (undo_known setup setting cores t stands c here a active f core word w stage_is has (e ∷ t) kept)

  abbrev Judged : Option Reply → Option Quiet → Type 0
  Judged r next = GoodTook setup cores t c load (landed a (took_sweep m word
      (sweeping g v b kept o
      (at_after (Scan q) (refusal_of (scan_end r next)) (scan_goes v.object (scan_end r next) (scan_after q r next))))
      (end_by (refusal_of (scan_end r next)) (scan_goes v.object (scan_end r next) (scan_after q r next)) (swept_of
      (sweeping g v b kept o
      (at_after (Scan q) (refusal_of (scan_end r next)) (scan_goes v.object (scan_end r next) (scan_after q r next))))))))

  -- The core has passed.
  module _ (passed : stamp setup t thing ≡ x → (s.grace thing).waits at ≡ false) where
    passed_to : (upto : ℕ) → ((d : ℕ) → d < upto → d ≢ c → (d < at) ⊎ (d ≡ at)) → IsQuiet setup t c f x upto 0
    passed_to upto before = record {
      past = scan.quiet.past;
      passed = λ d under apart same. by_place d apart same (before d under apart);
      flushed = λ d under same. absurd (omega (arith, under));
    }
      where
        by_place : (d : ℕ) → d ≢ c → stamp setup t thing ≡ x → (d < at) ⊎ (d ≡ at) → (s.grace thing).waits d ≡ false
        by_place d apart same (inl earlier) = scan.quiet.passed d earlier apart same
        by_place d apart same (inr is) = ap (s.grace thing).waits is ∙ passed same

    below_next : setup.cores ≤ next_other by at → (d : ℕ) → d < setup.cores → d < next_other c at
    below_next last d under = subst (λ (n : ℕ). d < next_other n at) scan.core (omega arith)

    all_before : setup.cores ≤ next_other by at → (d : ℕ) → d < setup.cores → d ≢ c → (d < at) ⊎ (d ≡ at)
    all_before last d under apart = before_next c at d (below_next last d under) apart

    has_passed : Judged None (quiet_next setup.cores q)
    has_passed = by_next (nat_lt (next_other by at) setup.cores) refl
      where
        by_next : (there : Bool) → nat_lt (next_other by at) setup.cores ≡ there
            → Judged None (core_scan there x by (next_other by at) page)
        by_next true is = scans_on setup setting cores t stands c here a active f core word g v b kept o q stage_is has load looks
            (AtCore x by (next_other by at) page)
            (λ u carry. record {
              frozen = scan.frozen;
              core = scan.core;
              stamp = scan.stamp;
              some = scan.some;
              quiet = subst (λ (n : ℕ). IsQuiet setup u c f x (next_other n at) 0) (sym scan.core)
                  (carry x (next_other c at) 0 (passed_to (next_other c at) (before_next c at)));
              page = scan.page;
            })
        by_next false is = by_page page refl
          where
            last : setup.cores ≤ next_other by at
            last = ltb-false (next_other by at) setup.cores is

            by_page : (flushes : Bool) → page ≡ flushes → Judged None (flush_scan flushes x)
            by_page true page_is = scans_on setup setting cores t stands c here a active f core word g v b kept o q stage_is has load looks
                (AtFlush x 0)
                (λ u carry. record {
                  frozen = scan.frozen;
                  core = refl;
                  stamp = scan.stamp;
                  some = scan.some;
                  quiet = carry x setup.cores 0 (passed_to setup.cores (all_before last));
                  page = sym page_is ∙ scan.page;
                })
            by_page false page_is =
                let passes = passed_to setup.cores (all_before last) in
                all_scanned setup setting cores t stands c here a active f core word g v b kept o q stage_is has load looks x since
                scan.frozen scan.stamp (record {
                  past = scan.quiet.past;
                  passed = passes.passed;
                  flushed = λ d under same. unpaged_frame setup setting cores t stands c f x since
                      (sym (page_known setup setting cores t stands c here a active f core word g v b kept o q stage_is has load looks)
                      ∙ sym scan.page ∙ page_is) scan.some d same;
                })

  word_is : core_of_word was ≡ Some (record { inside = (s.core at).inside; stamp = exit_of t at })
  word_is = stands.words (CoreAt at)

  pub core_scan_good : Judged (core_refuses x at (core_of_word was)) (quiet_next setup.cores q)
  core_scan_good = subst (λ r. Judged (core_refuses x at r) (quiet_next setup.cores q)) (sym word_is)
      (by_inside (s.core at).inside refl (nat_le (exit_of t at) x) refl)
    where
      by_inside : (inside : Bool) → (s.core at).inside ≡ inside → (early : Bool) → nat_le (exit_of t at) x ≡ early
          → Judged (if inside && early then Some (Reply.Quiescing at) else None) (quiet_next setup.cores q)
      by_inside false is early le = has_passed (out_passed setup t thing (stands.graces thing) at x is)
      by_inside true is true le = still_inside is (leb-true (exit_of t at) x le)
      by_inside true is false le = has_passed (later_passed setup t thing (stands.graces thing) at x (leb-false (exit_of t at) x le))
