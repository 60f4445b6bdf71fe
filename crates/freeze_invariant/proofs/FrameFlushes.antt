-- The step of a retype to untyped that scans a flush word: it is refused where the core may not have flushed since.
use Rattle.scan_invariant.specs.step_ways.proofs.{◌≡◌, ◌⊎◌, inl, inr, ℕ, ◌+◌, ◌<◌, ◌≤◌, ◌==◌, ◌||◌, ltb as nat_lt, leb as nat_le, Bool}
use Rattle.scan_invariant.specs.step_ways.proofs.{true, false, List, ◌∷◌, Option, Some, None, IsTrue, arith, refl, sym, ◌∙◌, ap, subst}
use Rattle.scan_invariant.specs.step_ways.proofs.{eq-eqb, eqb-true, ltb-false, leb-true, leb-false, Setting, IsSetting, Call, Reply}
use Rattle.scan_invariant.specs.step_ways.proofs.{CountWord, FrameWord, FlushAt, same_word, Move, LoadOf, State, Thing, FrameOf, same_thing}
use Rattle.scan_invariant.specs.step_ways.proofs.{Refused, rule_of, change_of, IsAlone, IsRemoved, flush_of, flush_stored, stamp, Step}
use Rattle.scan_invariant.specs.step_ways.proofs.{Trace, Out, Open, phase, state_after, last_left, refused_first, own_pages, Quiet, AtFlush}
use Rattle.scan_invariant.specs.step_ways.proofs.{scan_end, scan_after, quiet_next, at_after, end_by, swept_of, Owned, Sweep, took_sweep}
use Rattle.scan_invariant.specs.step_ways.proofs.{release_of, UntypingFits, Untyping, Act, Refuses, Undecided, ActiveCall, landed, Core}
use Rattle.scan_invariant.specs.step_ways.proofs.{KnowsUndecided, Invariant, IsQuiet, KnowsSweep, limits_of, if◌then◌else◌}
use Rattle.scan_invariant.specs.step_ways.proofs.{Untype as untype_act, Release as release_tail, OnlyLooks, inner, decides_with, GoodTook}
use Rattle.scan_invariant.specs.step_ways.proofs.{plan_for, Refusal}
use Rattle.scan_invariant.specs.kernel_history.specs.{flush_of_word, awaits_flushes, asked_of}
use Rattle.scan_invariant.specs.kernel_rules.specs.{lowest, unflushed_by, MayBeUnflushed}
use Rattle.scan_invariant.specs.stage_sweep.specs.{refusal_of, scan_goes}
use Rattle.scan_invariant.specs.trace_laws.proofs.{nobody_waits, awaits_are}
use Rattle.scan_invariant.specs.kernel_history.specs.{Justified.IsUnflushed, Ways.flushed_in}
use Rattle.scan_invariant.proofs.FlushScans.{flush_is_stored, flush_shown, lowest_is, still_unflushed, unflushed_shown}
use Rattle.freeze_invariant.proofs.Counters.{sweeping, untyping_by, sweep_knows, sweep_held, sweep_refs, sweep_since, undo_with, undo_known}
use Rattle.freeze_invariant.proofs.FrameScans.{all_scanned, scans_on, page_known, known_typed}
use Rattle.{std.specs.List.list_any, std.proofs.lemmas.Bool.cases_eq, scan_invariant.specs.trace_laws.proofs.Carries.was_at_once}
use Rattle.{scan_invariant.specs.stage_quiet.specs.Scan.flush_refuses, scan_invariant.specs.core_invariant.specs.Sweeps.IsScanning}
use Rattle.{scan_invariant.specs.plan_ways.proofs.Ways.asked_left}
use Rattle.{scan_invariant.specs.stage_sweep.specs.declared.sweep.SweepAt.TheVariants.Scan}
use Rattle.{scan_invariant.specs.place_invariant.proofs.Vacancy.none_waits}
use Rattle.freeze_invariant.proofs.UntypeCalls as calls

module _ (setup : Setting) (setting : IsSetting setup) (cores : ℕ → Core) (t : Trace) (stands : Invariant setup cores t) (c : ℕ)
    (here : c < setup.cores)
    (a : ActiveCall) (active : (cores c).active ≡ Some a) (f core word g : ℕ) (v : FrameWord) (b : ℕ) (kept : List CountWord) (o : Owned)
    (x at : ℕ)
    (stage_is : a.stage ≡ Undecided (Act (untype_act (untyping_by f core word (sweeping g v b kept o (Scan (AtFlush x at)))))))
    (has : KnowsUndecided setup t c (cores c).own.table a
    (Act (untype_act (untyping_by f core word (sweeping g v b kept o (Scan (AtFlush x at))))))) where
  abbrev s : State
  s = state_after setup t

  abbrev thing : Thing
  thing = FrameOf f

  abbrev q : Quiet
  q = AtFlush x at

  abbrev w : Sweep
  w = sweeping g v b kept o (Scan q)

  abbrev m : Untyping
  m = untyping_by f core word w

  abbrev load : Move
  load = LoadOf (FlushAt at)

  abbrev was : ℕ
  was = last_left setup t (FlushAt at)

  knows : KnowsSweep setup t c f word w
  knows = sweep_knows setup setting cores t stands c here a active f core word w stage_is has

  scan : IsScanning setup t c f w x c setup.cores at true
  scan = knows.at

  fits : UntypingFits (cores c).own.layout m
  fits = calls.fits setup setting cores t stands c here a active m stage_is has

  below : at < setup.cores
  below = subst (λ (n : ℕ). at < n) (ap (λ y. y.cores) (stands.each c here).shape) fits.at.fits.at

  is_open : phase t c ≡ Open a.call
  is_open = calls.is_open setup setting cores t stands c here a active m stage_is has

  -- a load of the own flush word leaves the last flush as it is stored
  stored_own : (hit own : Bool) (d : ℕ) → (d == c) ≡ own
      → (if hit then (if own then flush_of t d else flush_stored t d) else flush_stored t d) ≡ flush_stored t d
  stored_own false own d is = refl
  stored_own true false d is = refl
  stored_own true true d is =
      let same : d ≡ c = eqb-true d c is in
      sym (subst (λ (n : ℕ). flush_stored t n ≡ flush_of t n) (sym same)
      (flush_is_stored setup cores t stands c here (inr (a.call, is_open))))

  looks : OnlyLooks setup t c a.call load
  looks = record {
    of_call = record { moves = refl; footprint = inl tt };
    kept = refl;
    apart = λ d. stored_own (same_word (FlushAt d) (FlushAt at)) (d == c) d refl;
  }

  since : stamp setup t thing ≡ x
  since = sweep_since setup setting cores t stands c here a active f core word w stage_is has scan.frozen ∙ sym scan.stamp

  awaits : awaits_flushes setup t thing ≡ true
  awaits = (awaits_are setup setting t stands.legal f).frame (let z = since in let d = scan.some in omega (arith, z, d))
      ∙ sym (page_known setup setting cores t stands c here a active f core word g v b kept o q stage_is has load looks)
      ∙ sym scan.page

  abbrev Judged : Option Reply → Option Quiet → Type 0
  Judged r next = GoodTook setup cores t c load (landed a (took_sweep m word
      (sweeping g v b kept o
      (at_after (Scan q) (refusal_of (scan_end r next)) (scan_goes v.object (scan_end r next) (scan_after q r next))))
      (end_by (refusal_of (scan_end r next)) (scan_goes v.object (scan_end r next) (scan_after q r next)) (swept_of
      (sweeping g v b kept o
      (at_after (Scan q) (refusal_of (scan_end r next)) (scan_goes v.object (scan_end r next) (scan_after q r next))))))))

  -- The core may not have flushed since.
  module _ (early : flush_stored t at ≤ x) where
    abbrev e : Step
    e = inner setup setting cores t stands c here a active load (Some (Reply.Unflushed at)) None

    unflushed : MayBeUnflushed s thing at
    unflushed = unflushed_shown setup cores t stands thing x at below awaits (let z = since in omega (arith, z)) early

    justified : IsUnflushed setup t e s (rule_of s c a.call) at
    justified = record {
      thing = thing;
      asked = subst (λ things. IsTrue (list_any (same_thing thing) things))
          (sym (asked_left s c (own_pages s c) (plan_for a.call) (rule_of s c a.call) a.found
          (calls.by_plan setup setting cores t stands c here a active m stage_is has)
          (calls.leads setup setting cores t stands c here a active m stage_is has) flushed_in
          ∙ ap (asked_of flushed_in s c) (calls.left setup setting cores t stands c here a active m stage_is has)))
          (ap (λ b. b || false) (eq-eqb f f refl));
      may_be_unflushed = unflushed;
      was_removed = was_at_once (IsRemoved thing) setup t e refl tt;
    }

    -- where the call is alone, this core is the first that has not flushed
    module _ (alone : IsAlone t e) where
      undecided : (phase t at ≡ Out) ⊎ ((call : Call) × (phase t at ≡ Open call))
      undecided = elim (cases_eq at c) [
        | inl own ↦ inr (a.call, ap (phase t) own ∙ is_open)
        | inr other ↦ inl (alone.others_out at other)
      ]

      first_unflushed : lowest s (s.grace thing).unflushed ≡ Some at
      first_unflushed = lowest_is s (s.grace thing).unflushed at
          (subst (λ (n : ℕ). at < n) (sym (ap (λ l. l.cores) (limits_of setup t))) below)
          (λ d lower. scan.quiet.flushed d lower since)
          (still_unflushed setup cores t stands thing at below undecided awaits (let z = since in let h = early in omega (arith, z, h)))

      refused : change_of s c a.call ≡ Refused (Reply.Unflushed at)
      refused = calls.by_causes setup setting cores t stands c here a active m stage_is has None None None (Some (Reply.Unflushed at)) _
          (calls.kind_none setup setting cores t stands c here a active m stage_is has
          (known_typed setup setting cores t stands c here a active f core word g v b kept o q stage_is has load looks))
          (calls.refs_none setup setting cores t stands c here a active m stage_is has
          (sweep_refs setup setting cores t stands c here a active f core word w stage_is has scan.frozen))
          (none_waits s c thing (λ d low other. nobody_waits setup t e stands.legal tt alone a.call is_open thing d))
          (ap unflushed_by first_unflushed) refl

    not_flushed : GoodTook setup cores t c load (landed a (Refuses (Refusal.Unflushed at)
        (release_tail (release_of f word (swept_of w) false))))
    not_flushed lands =
        let unspent = calls.unspent setup setting cores t stands c here a active m stage_is has in
        decides_with setup setting cores t stands c here a active load (Reply.Unflushed at)
        (undo_with setup setting cores t stands c here a active f core word w stage_is has kept) a.found looks lands
        (sym (sweep_held setup setting cores t stands c here a active f core word w stage_is has))
        (calls.opens setup setting cores t stands c here a active m stage_is has) refl refl
        (λ y. refl) (λ y. refl) refl (
          unspent,
          calls.may_refuse setup setting cores t stands c here a active m stage_is has (Reply.Unflushed at)
              (inr (inr (inr (inr (inl unflushed))))),
        )
        justified
        (λ is_alone. refused_first s c a.call (Reply.Unflushed at) has.acts unspent (refused is_alone))
        (undo_known setup setting cores t stands c here a active f core word w stage_is has (e ∷ t) kept)

  -- The core has flushed since.
  module _ (flushed : stamp setup t thing ≡ x → (s.grace thing).unflushed at ≡ false) where
    flushed_to : (upto : ℕ) → ((d : ℕ) → d < upto → (d < at) ⊎ (d ≡ at)) → IsQuiet setup t c f x setup.cores upto
    flushed_to upto before = record {
      past = scan.quiet.past;
      passed = scan.quiet.passed;
      flushed = λ d under same. by_place d same (before d under);
    }
      where
        by_place : (d : ℕ) → stamp setup t thing ≡ x → (d < at) ⊎ (d ≡ at) → (s.grace thing).unflushed d ≡ false
        by_place d same (inl earlier) = scan.quiet.flushed d earlier same
        by_place d same (inr is) = ap (s.grace thing).unflushed is ∙ flushed same

    has_flushed : Judged None (quiet_next setup.cores q)
    has_flushed = by_next (nat_lt (at + 1) setup.cores) refl
      where
        below_one : (n d : ℕ) → n ≤ at + 1 → d < n → (d < at) ⊎ (d ≡ at)
        below_one n d most under = elim (cases_eq d at) [ inl same ↦ inr same | inr apart ↦ inl (omega (arith, most, under, apart)) ]

        by_next : (there : Bool) → nat_lt (at + 1) setup.cores ≡ there → Judged None (if there then Some (AtFlush x (at + 1)) else None)
        by_next true is = scans_on setup setting cores t stands c here a active f core word g v b kept o q stage_is has load looks
            (AtFlush x (at + 1))
            (λ u carry. record {
              frozen = scan.frozen;
              core = refl;
              stamp = scan.stamp;
              some = scan.some;
              quiet = carry x setup.cores (at + 1) (flushed_to (at + 1) (λ d under. below_one (at + 1) d (omega arith) under));
              page = scan.page;
            })
        by_next false is = all_scanned setup setting cores t stands c here
            a active f core word g v b kept o q stage_is has load looks x since
            scan.frozen scan.stamp
            (flushed_to setup.cores (λ d under. below_one setup.cores d (ltb-false (at + 1) setup.cores is) under))

  word_is : flush_of_word was ≡ Some (record { stamp = flush_stored t at })
  word_is = stands.words (FlushAt at)

  pub flush_scan_good : Judged (flush_refuses x at (flush_of_word was)) (quiet_next setup.cores q)
  flush_scan_good = subst (λ r. Judged (flush_refuses x at r) (quiet_next setup.cores q)) (sym word_is)
      (by_stamp (nat_le (flush_stored t at) x) refl)
    where
      by_stamp : (early : Bool) → nat_le (flush_stored t at) x ≡ early
          → Judged (if early then Some (Reply.Unflushed at) else None) (quiet_next setup.cores q)
      by_stamp true le = not_flushed (leb-true (flush_stored t at) x le)
      by_stamp false le = has_flushed (flush_shown setup cores t stands thing x at (leb-false (flush_stored t at) x le))
