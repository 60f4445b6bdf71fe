-- A step of a scan on the word of another core is good: it is refused by a core that may still use what was removed, or goes on to the
-- next core, and from the last to the flush words or to the counts of the act.
use Rattle.place_invariant.specs as low
use low.step_ways.proofs.{◌≡◌, ◌≢◌, ◌⊎◌, ℕ, ◌<◌, ◌≤◌, ◌&&◌, ◌++◌, ltb as nat_lt, leb as nat_le, if◌then◌else◌, Bool, true, false, [], ◌∷◌}
use low.step_ways.proofs.{Option, Some, None, IsTrue, inl, inr, arith, refl, sym, ◌∙◌, ap, subst, IsSomeAnd, ltb-false, leb-true, leb-false}
use low.step_ways.proofs.{Setting, IsSetting, entry_of_word, core_of_word, EntryAt, CountAt, CoreAt, FrameAt, LiveAt, LoadOf, Thing}
use low.step_ways.proofs.{PlaceOf, State, Slot, rule_of, same_thing, RuleMay, IsRemoved, exit_of, Step, Trace, Open, phase, state_after}
use low.step_ways.proofs.{last_left, Carries, not_inside, own_read-there, last_left-there, Quiet, AtCore, AtFlush, core_scan, scan_end}
use low.step_ways.proofs.{scan_after, quiet_next, quiet_end, quiet_after, GoesBy, own_pages, Leads, LeadsIn, rule_after, Scan, Undecided}
use low.step_ways.proofs.{ActiveCall, Goes, refuse, stamp_shown, starts, StageFits, CountsAt, HasRoom, landed, took_scan, Core}
use low.step_ways.proofs.{holds_counts, MayFill, KnowsAct, KnowsUndecided, phase_at, IsSpot, HasFlushed, holds_at, holds_in, Invariant}
use low.step_ways.proofs.{names_on, slot_relies, limits_of, is_node, plan_for, ◌==◌, ◌||◌, goes_on as goes_on_act, users_kept, OnlyLooks}
use low.step_ways.proofs.{step_to, inner, core_is, call_is, is_active, loads_on, decides_on, next_at, GoodTook, not_spent, Reply, Refusal}
use low.trace_laws.proofs.{out_passed, later_passed, may_wait, was_before}
use Rattle.scan_invariant.proofs.Scans.{before_next, IsScanFor, scan_for, asks_for}
use low.{core_invariant.specs.HasPassed, core_invariant.specs.KnowsQuiet, core_invariant.specs.scanned_for, act_states.specs.CoreWord}
use low.{act_states.specs.next_other, act_states.specs.flush_scan, call_plans.proofs.next_may, call_plans.proofs.Begins}
use low.{call_plans.proofs.left_begins, kernel_history.specs.is_paging, kernel_history.specs.waited_in, count_invariant.proofs.plan_leads}
use low.{count_invariant.proofs.goes_by, kernel_rules.specs.GracePeriods.MayWait, kernel_history.specs.Justified.IsWaiting}
use low.{stage_quiet.specs.Scan.core_refuses, call_plans.specs.After.NextMay, plan_ways.proofs.Ways.asked_left}
use low.{act_states.specs.declared.work.Act.Act as ActOf, core_invariant.specs.Knows.KnowsScan, kept_facts.proofs.KeptReads.start_pairs}
use low.{kept_facts.proofs.KeptReads.ReadsSame, kept_facts.proofs.Carries.act_on}
use Rattle.{place_invariant.proofs.IsRefusedOutside as RefusedOutside, place_invariant.proofs.starts_good, place_invariant.proofs.paging_by}
use Rattle.{std.specs.List.list_any, place_invariant.proofs.Vacancy.unpaged_flushed}
use Rattle.place_invariant.specs.entry_words.specs.declared.entry.Entry.TheVariants as entry
use Rattle.place_invariant.specs.kernel_rules.specs.Rules as rules

module _ (setup : Setting) (setting : IsSetting setup) (cores : ℕ → Core) (t : Trace) (stands : Invariant setup cores t) (c : ℕ)
    (here : c < setup.cores)
    (a : ActiveCall) (active : (cores c).active ≡ Some a) (x by at : ℕ) (page : Bool) (act : ActOf) (node index word : ℕ)
    (stage_is : a.stage ≡ Undecided (Scan (AtCore x by at page) act))
    (has : KnowsUndecided setup t c (cores c).own.table a (Scan (AtCore x by at page) act))
    (thing_is : scanned_for act ≡ PlaceOf node index) (spot : IsSpot setup t c (plan_for a.call) a.found 0 node index word)
    (since : stamp_shown
    (entry_of_word word) ≡ x)
    (again : (upto : ℕ) → IsSpot setup t c (plan_for a.call) a.found upto node index word
    → KnowsAct setup t c a.call (plan_for a.call) a.found upto act)
    (outside : goes_on_act act ≡ false → IsSpot setup t c (plan_for a.call) a.found setup.cores node index word
    → RefusedOutside setup t c a.call (LoadOf (CoreAt at))) where
  abbrev s : State
  s = state_after setup t

  abbrev slot : Slot
  slot = record { node = node; index = index }

  abbrev thing : Thing
  thing = PlaceOf node index

  abbrev was : ℕ
  was = last_left setup t (CoreAt at)

  fits : StageFits (cores c).own.layout (Undecided (Scan (AtCore x by at page) act))
  fits = subst (StageFits (cores c).own.layout) stage_is (is_active setup setting cores t stands c here a active).stage

  below : at < setup.cores
  below = subst (λ (n : ℕ). at < n) (ap (λ s. s.cores) (stands.each c here).shape) fits.0.0

  other : at ≢ c
  other same = fits.0.1 (same ∙ sym has.knows.core)

  drawn : 1 ≤ x
  drawn = fits.1.1

  no_counts : a.counts ≡ []
  no_counts = subst (CountsAt a.counts) stage_is (is_active setup setting cores t stands c here a active).counts

  held_is : holds_in (Some a) ≡ holds_counts None a.counts
  held_is = ap (λ s. holds_at s a.counts) stage_is

  opens : phase_at a.call a.stage ≡ Open a.call
  opens = ap (phase_at a.call) stage_is

  is_open : phase t c ≡ Open a.call
  is_open = (call_is setup setting cores t stands c here a active).phase ∙ opens

  room : (cores c).own.made < (cores c).own.limit
  room = subst (HasRoom (cores c).own.made (cores c).own.limit) stage_is (is_active setup setting cores t stands c here a active).room

  scan : IsScanFor setup t c thing x 0 (entry_of_word word)
  scan = scan_for setup t c thing x 0 (entry_of_word word) since drawn spot.vacant

  leads : Leads (LeadsIn s c) (plan_for a.call).names [] a.found
  leads = plan_leads setup setting cores t stands c here a active has.names

  by_plan : GoesBy (own_pages s c) (plan_for a.call) (rule_of s c a.call)
  by_plan = goes_by setup setting cores t stands c here a active has.names

  -- the place is one of a page table where flush words are scanned too
  paging : is_paging (s.frame node) ≡ page
  paging = paging_by setup setting t stands.legal c spot.target slot spot.way.reached a.call is_open a.found
      leads
      spot.next ∙ sym has.knows.pages

  in_node : IsTrue (is_node (s.frame node))
  in_node = (slot_relies setup setting t stands.legal c a.call is_open spot.target slot spot.way).node

  unpaged : page ≡ false → (d : ℕ) → HasFlushed setup t thing x d
  unpaged is = unpaged_flushed setup setting t stands.legal stands.graces node index x in_node (paging ∙ is) drawn

  looks : OnlyLooks setup t c a.call (LoadOf (CoreAt at))
  looks = record { of_call = record { moves = refl; footprint = inl tt }; kept = refl; apart = λ d. refl }

  -- The core may still use what was removed.
  module _ (inside : (s.core at).inside ≡ true) (early : exit_of t at ≤ x) where
    abbrev e : Step
    e = inner setup setting cores t stands c here a active (LoadOf (CoreAt at)) (Some (Reply.Quiescing at)) None

    waits : MayWait s c thing at
    waits = record {
      is_core = subst (λ (n : ℕ). at < n) (sym (ap (λ l. l.cores) (limits_of setup t))) below;
      other = other;
      is_inside = inside;
      not_passed = may_wait setup t thing (stands.graces thing) at x (let d = drawn in omega arith) scan.scanned.rises early;
    }

    may : RuleMay s c (rule_of s c a.call) (Reply.Quiescing at)
    may = next_may s c (own_pages s c) (plan_for a.call) (rule_of s c a.call) a.found by_plan leads (Reply.Quiescing at)
        (subst (λ n. NextMay s c (own_pages s c) n (Reply.Quiescing at)) (sym spot.next)
        (subst (λ o. IsSomeAnd o (λ at2. MayWait s c (PlaceOf at2.node at2.index) at)) (sym spot.way.reached) waits))

    justified : IsWaiting setup t e s (rule_of s c a.call) at
    justified = record {
      thing = thing;
      asked = subst (λ things. IsTrue (list_any (same_thing thing) things))
          (sym (asked_left s c (own_pages s c) (plan_for a.call) (rule_of s c a.call) a.found by_plan leads waited_in))
          (asks_for waited_in s c (own_pages s c) spot.target (rule_after (rule_of s c a.call) a.found) slot
          (subst (λ n. Begins (own_pages s c) n (rule_after (rule_of s c a.call) a.found)) spot.next
          (left_begins s c (own_pages s c) (plan_for a.call) (rule_of s c a.call) a.found by_plan leads)) spot.way.reached);
      may_wait = waits;
      was_removed = was_before (IsRemoved thing) setup t e refl scan.scanned.was_removed;
    }

    still_inside : GoodTook setup cores t c (LoadOf (CoreAt at)) (landed a (refuse (Refusal.Quiescing at)))
    still_inside lands = decides_on setup setting cores t stands c here a active (LoadOf (CoreAt at)) (Reply.Quiescing at) a.found looks
        lands (sym held_is) opens refl refl
        (λ x. refl) (λ x. refl) refl (not_spent setup (cores c) t c (core_is setup setting cores t stands c here a active) room, may)
        justified
        (λ is_alone. absurd (not_inside setup t e refl is_alone at other inside))

  -- The core has passed.
  module _ (passed : HasPassed setup t thing x at) where
    passed_then : (upto : ℕ) → ((d : ℕ) → d < upto → d ≢ c → (d < at) ⊎ (d ≡ at)) → (d : ℕ) → d < upto → d ≢ c
        → HasPassed setup t (scanned_for act) x d
    passed_then upto before d under apart = elim (before d under apart) [
      | inl earlier ↦ has.knows.passed d earlier apart
      | inr same ↦ subst (λ y. HasPassed setup t y x d) (sym thing_is) (subst (HasPassed setup t thing x) (sym same) passed)
    ]

    -- all are passed, and no flush is awaited
    spot_then : page ≡ false → ((d : ℕ) → d < setup.cores → d ≢ c → (d < at) ⊎ (d ≡ at))
        → IsSpot setup t c (plan_for a.call) a.found setup.cores node index word
    spot_then page_is before = record {
      target = spot.target;
      next = spot.next;
      way = spot.way;
      own = spot.own;
      vacant = subst (MayFill setup t c thing setup.cores) (sym scan.shows) (record {
        some = scan.scanned.some;
        past = scan.scanned.past;
        rises = scan.scanned.rises;
        was_removed = scan.scanned.was_removed;
        passed = λ d under apart. subst (λ y. HasPassed setup t y x d) thing_is (passed_then setup.cores before d under apart);
        flushed = λ d under. unpaged page_is d;
      });
    }

    entry_apart : (f i : ℕ) → EntryAt f i ≢ CoreAt at
    entry_apart f i h = cc

    count_apart : (f k : ℕ) → CountAt f k ≢ CoreAt at
    count_apart f k h = cc

    frame_apart : (f : ℕ) → FrameAt f ≢ CoreAt at
    frame_apart f h = cc

    number_apart : (l : ℕ) → LiveAt l ≢ CoreAt at
    number_apart l h = cc

    same_reads : ReadsSame setup t (step_to c None (LoadOf (CoreAt at)) was None None) c act
    same_reads =
        let e : Step = step_to c None (LoadOf (CoreAt at)) was None None in
        record {
          entries = λ f i. own_read-there c e t refl (EntryAt f i) (entry_apart f i);
          frames = λ f. own_read-there c e t refl (FrameAt f) (frame_apart f);
          numbers = λ l. own_read-there c e t refl (LiveAt l) (number_apart l);
          stored = λ f i marked. last_left-there setup (EntryAt f i) e t (entry_apart f i);
          users = users_kept setup t e c (λ f. refl) (λ f k held. last_left-there setup (CountAt f k) e t (count_apart f k));
          counts = λ freezes f d. own_read-there c e t refl (CountAt f d) (count_apart f d);
          rests = λ f looked. record { frame = refl; place = λ i node. refl };
          threads = record { guards = λ f has. has; rests = λ f claimed has. refl };
          pairs = start_pairs setup t e c act has.knows.starts;
        }

    carried : (upto : ℕ) → KnowsAct setup t c a.call (plan_for a.call) a.found upto act
        → Carries setup t (step_to c None (LoadOf (CoreAt at)) was None None) c
        → KnowsAct setup (step_to c None (LoadOf (CoreAt at)) was None None ∷ t) c a.call (plan_for a.call) a.found upto act
    carried upto knows carries =
        act_on setup setting t (step_to c None (LoadOf (CoreAt at)) was None None) stands.legal c a.call is_open carries a.call
        (plan_for a.call)
        a.found upto act same_reads knows

    -- the next word is scanned
    goes_on : (q : Quiet) (upto : ℕ) → ((d : ℕ) → d < upto → d ≢ c → (d < at) ⊎ (d ≡ at))
        → (KnowsScan setup (step_to c None (LoadOf (CoreAt at)) was None None ∷ t) c (next_at a a.found (Undecided (Scan q act))) x c upto 0
        page act → KnowsQuiet setup (step_to c None (LoadOf (CoreAt at)) was None None ∷ t) c
        (next_at a a.found (Undecided (Scan q act))) q act)
        → GoodTook setup cores t c (LoadOf (CoreAt at)) (landed a (Goes (Scan q act)))
    goes_on q upto before quiet lands =
        let e : Step = step_to c None (LoadOf (CoreAt at)) was None None in
        loads_on setup setting cores t stands c here a active (LoadOf (CoreAt at)) a.found (Undecided (Scan q act)) looks lands
        (sym held_is) opens
        (λ carries. record {
          acts = has.acts;
          names = names_on setup setting t e stands.legal c a.call is_open carries (cores c).own.table (plan_for a.call) a.found has.names;
          knows = quiet (record {
            knows = carried 0 has.knows.knows carries;
            core = refl;
            stamp = has.knows.stamp;
            starts = has.knows.starts;
            past = carries.past x has.knows.past;
            passed = λ d under apart. carries.passed (scanned_for act) x d has.knows.past (passed_then upto before d under apart);
            pages = has.knows.pages;
          });
        })

    below_next : setup.cores ≤ next_other by at → (d : ℕ) → d < setup.cores → d < next_other c at
    below_next last d under = subst (λ (n : ℕ). d < next_other n at) has.knows.core (omega arith)

    all_before : setup.cores ≤ next_other by at → (d : ℕ) → d < setup.cores → d ≢ c → (d < at) ⊎ (d ≡ at)
    all_before last d under apart = before_next c at d (below_next last d under) apart

    -- there is none: the act starts
    ends : page ≡ false → setup.cores ≤ next_other by at
        → GoodTook setup cores t c (LoadOf (CoreAt at)) (landed a (starts (cores c).own.core act))
    ends page_is last =
        starts_good setup setting cores t stands c here a active opens held_is no_counts room has.names (LoadOf (CoreAt at)) looks
        has.acts act
        has.knows.starts (carried setup.cores (again setup.cores (spot_then page_is (all_before last))))
        (λ out. outside out (spot_then page_is (all_before last)))

    abbrev After : Option Quiet → Type 0
    After next = GoodTook setup cores t c (LoadOf (CoreAt at)) (landed a
        (took_scan (cores c).own.core act (scan_after (AtCore x by at page) None next) (scan_end None next)))

    has_passed : After (quiet_next setup.cores (AtCore x by at page))
    has_passed = by_next (nat_lt (next_other by at) setup.cores) refl
      where
        by_next : (there : Bool) → nat_lt (next_other by at) setup.cores ≡ there → After (core_scan there x by (next_other by at) page)
        by_next true is = goes_on (AtCore x by (next_other by at) page) (next_other c at) (before_next c at)
            (λ knows. record {
              knows = knows.knows;
              core = has.knows.core;
              stamp = knows.stamp;
              starts = knows.starts;
              past = knows.past;
              passed = λ d under apart. knows.passed d (subst (λ (n : ℕ). d < next_other n at) has.knows.core under) apart;
              pages = knows.pages;
            })
        by_next false is = by_page page refl
          where
            last : setup.cores ≤ next_other by at
            last = ltb-false (next_other by at) setup.cores is

            by_page : (flushes : Bool) → page ≡ flushes → After (flush_scan flushes x)
            by_page true page_is = goes_on (AtFlush x 0) setup.cores (all_before last)
                (λ knows. record {
                  knows = knows.knows;
                  core = refl;
                  stamp = knows.stamp;
                  starts = knows.starts;
                  past = knows.past;
                  passed = knows.passed;
                  pages = sym page_is ∙ knows.pages;
                })
            by_page false page_is = ends page_is last

  abbrev Judged : Option CoreWord → Type 0
  Judged o = GoodTook setup cores t c (LoadOf (CoreAt at)) (landed a (took_scan (cores c).own.core act
      (scan_after (AtCore x by at page) (core_refuses x at o) (quiet_next setup.cores (AtCore x by at page)))
      (scan_end (core_refuses x at o) (quiet_next setup.cores (AtCore x by at page)))))

  word_is : core_of_word was ≡ Some (record { inside = (s.core at).inside; stamp = exit_of t at })
  word_is = stands.words (CoreAt at)

  pub core_good : GoodTook setup cores t c (LoadOf (CoreAt at))
      (landed a (took_scan (cores c).own.core act (quiet_after setup.cores (AtCore x by at page) was)
      (quiet_end setup.cores (AtCore x by at page) was)))
  core_good = subst Judged (sym word_is) (by_inside (s.core at).inside refl (nat_le (exit_of t at) x) refl)
    where
      by_inside : (inside : Bool) → (s.core at).inside ≡ inside → (early : Bool) → nat_le (exit_of t at) x ≡ early
          → GoodTook setup cores t c (LoadOf (CoreAt at)) (landed a (took_scan (cores c).own.core act
          (scan_after (AtCore x by at page) (if inside && early then Some (Reply.Quiescing at) else None)
          (quiet_next setup.cores (AtCore x by at page)))
          (scan_end (if inside && early then Some (Reply.Quiescing at) else None) (quiet_next setup.cores (AtCore x by at page)))))
      by_inside false is early le = has_passed (out_passed setup t thing (stands.graces thing) at x is)
      by_inside true is true le = still_inside is (leb-true (exit_of t at) x le)
      by_inside true is false le = has_passed (later_passed setup t thing (stands.graces thing) at x (leb-false (exit_of t at) x le))
