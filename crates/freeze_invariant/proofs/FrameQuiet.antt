-- Who waits for a frame of which all counters are frozen, and where the scan for them begins.
use Rattle.scan_invariant.specs as low
use low.step_ways.proofs.{◌≡◌, ℕ, ◌<◌, ◌≤◌, ◌==◌, map, Bool, true, false, List, [], Option, Some, None, inl, inr, arith, refl, sym, ◌∙◌, ap}
use low.step_ways.proofs.{subst, eqb-true, eqb-false, false≢true, Setting, IsSetting, CountWord, FrameWord, Blank, Table, Leaf, Pages}
use low.step_ways.proofs.{Pleaf, Comp, Thread, Tcap, Frame, Untyped, User, Kernel, FrameOf, frame_value, clock, stamp, Trace, state_after}
use low.step_ways.proofs.{quiet_scan, Quiet, AtCore, AtFlush, latest_stamp, at_after, end_by, swept_of, Owned, Sweep, SweepAt, took_sweep}
use low.step_ways.proofs.{release_of, Untyping, Work, Act, WorkStep, Goes, ActiveCall, Undecided, Core, holds_release, Holding, due_of}
use low.step_ways.proofs.{KnowsWork, holds_work, Invariant, IsQuiet, UntypesBy, core_scan, if◌then◌else◌, Untype as untype_act, next_at}
use Rattle.scan_invariant.proofs.{ScanBegins, AtCores, AtFlushes, scan_begins, scan_none}
use low.core_invariant.specs.{AreFrozen, AreKept, KnowsSweepScan, SaysTyped}
use low.act_states.specs.{may_be_cached, OwnedBy, Scan, first_other}
use Rattle.freeze_invariant.proofs.{Continuing.looked_none, Counters.sweeping, Counters.untyping_by}
use low.{stage_sweep.specs.empty_next, stage_sweep.specs.scan_next, trace_laws.proofs.awaits_are, trace_laws.proofs.cases_bool}
use low.{kernel_rules.specs.GracePeriods.is_translated}
use Rattle.freeze_invariant.proofs.Continuing as going

-- A frame may be cached exactly where translations reach it.
pub cached_is : (x : Frame) → may_be_cached (frame_value x).kind (frame_value x).object ≡ is_translated x
cached_is Untyped = refl
cached_is User = refl
cached_is (Kernel Blank) = refl
cached_is (Kernel Table) = refl
cached_is (Kernel Leaf) = refl
cached_is (Kernel Pages) = refl
cached_is (Kernel Pleaf) = refl
cached_is (Kernel (Comp k)) = refl
cached_is (Kernel (Thread k)) = refl
cached_is (Kernel (Tcap q)) = refl

module _ (setup : Setting) (setting : IsSetting setup) (cores : ℕ → Core) (t : Trace) (stands : Invariant setup cores t) (c f x : ℕ)
    (since : stamp setup t (FrameOf f) ≡ x) where
  pub quiet_past : x < clock setup t
  quiet_past = let past = (stands.graces (FrameOf f)).past in let same = since in omega (arith, past, same)

  -- a frame that translations do not reach waits for no flush
  pub unpaged_frame : is_translated ((state_after setup t).frame f) ≡ false → 1 ≤ x → (d : ℕ) → stamp setup t (FrameOf f) ≡ x
      → ((state_after setup t).grace (FrameOf f)).unflushed d ≡ false
  unpaged_frame other some d same = elim (cases_bool (((state_after setup t).grace (FrameOf f)).unflushed d)) [
    | inl is ↦ absurd (false≢true (sym other
        ∙ sym ((awaits_are setup setting t stands.legal f).frame (let s = same in omega (arith, s, some)))
        ∙ ((stands.graces (FrameOf f)).flushes d).awaited is))
    | inr none ↦ none
  ]

  -- where no grace period of it stands nobody waits
  pub quiet_zero : x ≡ 0 → IsQuiet setup t c f x setup.cores setup.cores
  quiet_zero zero = record {
    past = quiet_past;
    passed = λ d below other same. (stands.unbegun (FrameOf f) d).0 (same ∙ zero);
    flushed = λ d below same. (stands.unbegun (FrameOf f) d).1 (same ∙ zero);
  }

  -- where there is nobody to be scanned for
  pub quiet_none : (page : Bool) → page ≡ is_translated ((state_after setup t).frame f) → 1 ≤ x
      → quiet_scan x c setup.cores page ≡ None → IsQuiet setup t c f x setup.cores setup.cores
  quiet_none page page_is some none =
      let nobody = scan_none x c setup.cores page some none in record {
        past = quiet_past;
        passed = λ d below other same. absurd (nobody.1 d below other);
        flushed = λ d below same. unpaged_frame (sym page_is ∙ nobody.0) some d same;
      }

  -- what is known where a scan begins
  pub scan_begun : (w : Sweep) → AreFrozen setup.cores w.kept → x ≡ latest_stamp w.kept → 1 ≤ x
      → (q : Quiet) → quiet_scan x c setup.cores (may_be_cached w.word.kind w.word.object) ≡ Some q → KnowsSweepScan setup t c f w q
  scan_begun w frozen same some q is = by (scan_begins x c setup.cores (may_be_cached w.word.kind w.word.object) some q is)
    where
      by : ScanBegins x c setup.cores (may_be_cached w.word.kind w.word.object) q → KnowsSweepScan setup t c f w q
      by (AtCores upto first before) = subst (KnowsSweepScan setup t c f w) (sym first) (record {
        frozen = frozen;
        core = refl;
        stamp = same;
        some = some;
        quiet = record {
          past = quiet_past;
          passed = λ d below other same. absurd (before d below other);
          flushed = λ d below same. absurd (omega (arith, below));
        };
        page = refl;
      })
      by (AtFlushes page first others) = subst (KnowsSweepScan setup t c f w) (sym first) (record {
        frozen = frozen;
        core = refl;
        stamp = same;
        some = some;
        quiet = record {
          past = quiet_past;
          passed = λ d below other same. absurd (others d below other);
          flushed = λ d below same. absurd (omega (arith, below));
        };
        page = sym page;
      })

  -- What comes after the last counter: the scan, or what comes after it.
  module _ (table : ℕ) (a : ActiveCall) (no_counts : a.counts ≡ []) (core word : ℕ) (own : core ≡ c)
      (untypes : (m : Untyping) → m.frame ≡ f → UntypesBy a.call a.found m) (g : ℕ)
      (v : FrameWord) (b : ℕ) (same_core : b ≡ c) (kept : List CountWord) (o : Owned)
      (at : SweepAt) (same : g ≡ f) (met : SaysTyped word v) (fits : AreKept kept) (owned_by : OwnedBy v.object o)
      (frozen : AreFrozen setup.cores kept) (latest : x ≡ latest_stamp kept) (shown : v ≡ frame_value ((state_after setup t).frame f)) where
    abbrev page : Bool
    page = may_be_cached v.kind v.object

    abbrev After : Option SweepAt → WorkStep
    After next = took_sweep (untyping_by f core word (sweeping g v b kept o at)) word (sweeping g v b kept o (at_after at None next))
        (end_by None next (swept_of (sweeping g v b kept o (at_after at None next))))

    -- it goes on so, holds what it held, and knows what it is to know after a step that keeps what is known of who waits, and the frame
    pub record Begins (ws : WorkStep) : Type 0 where
      pub work : Work
      pub goes : ws ≡ Goes work
      pub holds : (h : Holding)
          → holds_work work h ≡ holds_release (release_of f word (swept_of (sweeping g v b kept o at)) false) h
      pub knows : (u : Trace) → (state_after setup u).frame f ≡ (state_after setup t).frame f
          → ((y upto flushes : ℕ) → IsQuiet setup t c f y upto flushes → IsQuiet setup u c f y upto flushes)
          → KnowsWork setup u c table (next_at a a.found (Undecided work)) work

    page_is : page ≡ is_translated ((state_after setup t).frame f)
    page_is = ap (λ y. may_be_cached y.kind y.object) shown ∙ cached_is ((state_after setup t).frame f)

    -- nobody waits: it goes on to the object
    pub past_scans : IsQuiet setup t c f x setup.cores setup.cores → Begins (After (empty_next v.object))
    past_scans quiet =
        let next = going.continues setup c table a no_counts f core word own untypes g v b same_core kept o at same met fits owned_by in
        record {
          work = next.work;
          goes = next.goes;
          holds = next.holds;
          knows = λ u stays carry. next.knows u (shown ∙ ap frame_value (sym stays)) (record {
            frozen = frozen;
            quiet = subst (λ (n : ℕ). IsQuiet setup u c f n setup.cores setup.cores) latest (carry x setup.cores setup.cores quiet);
            looked = looked_none (state_after setup u) f ((state_after setup u).frame f) o;
          });
        }

    scan_on : (q : Quiet) → KnowsSweepScan setup t c f (sweeping g v b kept o (Scan q)) q → Begins (After (Some (Scan q)))
    scan_on q knows = record {
      work = Act (untype_act (untyping_by f core word (sweeping g v b kept o (Scan q))));
      goes = refl;
      holds = λ h. refl;
      knows = λ u stays carry. record {
        knows = record {
          untypes = untypes (untyping_by f core word (sweeping g v b kept o (Scan q))) refl;
          core = own;
          at = record { frame = same; core = same_core; met = met; kept = fits; at = moved u carry q knows };
        };
        all = ap (λ xs. map due_of xs) (sym no_counts);
        goes = refl;
      };
    }
      where
        moved : (u : Trace) → ((y upto flushes : ℕ) → IsQuiet setup t c f y upto flushes → IsQuiet setup u c f y upto flushes) → (r : Quiet)
            → KnowsSweepScan setup t c f (sweeping g v b kept o (Scan q)) r
            → KnowsSweepScan setup u c f (sweeping g v b kept o (Scan q)) r
        moved u carry (AtCore y by upto paged) has = record {
          frozen = has.frozen;
          core = has.core;
          stamp = has.stamp;
          some = has.some;
          quiet = carry y upto 0 has.quiet;
          page = has.page;
        }
        moved u carry (AtFlush y upto) has = record {
          frozen = has.frozen;
          core = has.core;
          stamp = has.stamp;
          some = has.some;
          quiet = carry y setup.cores upto has.quiet;
          page = has.page;
        }

    pub begins : Begins (After (scan_next v.object (quiet_scan x b setup.cores page)))
    begins = by_stamp (x == 0) refl
      where
        Goal : Option Quiet → Type 0
        Goal r = Begins (After (scan_next v.object r))

        by_quiet : 1 ≤ x → (r : Option Quiet) → quiet_scan x c setup.cores page ≡ r → Goal r
        by_quiet some None is = past_scans (quiet_none page page_is some is)
        by_quiet some (Some q) is = scan_on q (scan_begun (sweeping g v b kept o (Scan q)) frozen latest some q is)

        by_stamp : (zero : Bool) → (x == 0) ≡ zero → Goal (quiet_scan x b setup.cores page)
        by_stamp true is = subst Goal (sym (ap (λ z. if z then None else core_scan
            (Rattle.std.specs.Prelude.nat_lt (first_other b) setup.cores) x b
            (first_other b) page) is)) (past_scans (quiet_zero (eqb-true x 0 is)))
        by_stamp false is = subst (λ (d : ℕ). Goal (quiet_scan x d setup.cores page)) (sym same_core)
            (by_quiet (let other = eqb-false x 0 is in omega (arith, other)) (quiet_scan x c setup.cores page) refl)
