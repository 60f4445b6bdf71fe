-- A step of a scan on a flush word is good: it is refused by a core that may not have flushed since the removal, or goes on to the next
-- flush word, and from the last to the counts of the act.
use Rattle.place_invariant.specs.step_ways.proofs.{◌≡◌, ◌≢◌, ◌⊎◌, ℕ, zero, suc, ◌+◌, ◌<◌, ◌≤◌, ◌==◌, cond, ltb as nat_lt, leb as nat_le}
use Rattle.place_invariant.specs.step_ways.proofs.{if◌then◌else◌, Bool, true, false, [], ◌∷◌, Option, Some, None, IsTrue, inl, inr, arith}
use Rattle.place_invariant.specs.step_ways.proofs.{refl, sym, ◌∙◌, ap, subst, IsSomeAnd, eqb-true, ltb-true, ltb-false, leb-true, leb-false}
use Rattle.place_invariant.specs.step_ways.proofs.{Setting, IsSetting, Call, entry_of_word, EntryAt, CountAt, FlushAt, FrameAt, LiveAt}
use Rattle.place_invariant.specs.step_ways.proofs.{same_word, Move, LoadOf, Thing, PlaceOf, State, Slot, Target, place_at, reached}
use Rattle.place_invariant.specs.step_ways.proofs.{same_thing, is_node, RuleMay, Refused, and_then, or_refuse, unless, first_of, not_vacant}
use Rattle.place_invariant.specs.step_ways.proofs.{vacant, rule_of, change_of, IsAlone, IsRemoved, flush_of, flush_stored, stamp, Step}
use Rattle.place_invariant.specs.step_ways.proofs.{Trace, Out, Open, phase, state_after, last_left, refused_first, Carries, own_read-there}
use Rattle.place_invariant.specs.step_ways.proofs.{last_left-there, Quiet, AtFlush, scan_end, scan_after, quiet_next, quiet_end}
use Rattle.place_invariant.specs.step_ways.proofs.{quiet_after, plan_for, GoesBy, own_pages, Leads, LeadsIn, rule_after, Scan, Goes, refuse}
use Rattle.place_invariant.specs.step_ways.proofs.{stamp_shown, starts, Undecided, ActiveCall, StageFits, CountsAt, HasRoom, landed}
use Rattle.place_invariant.specs.step_ways.proofs.{took_scan, Core, holds_counts, PlaceIs, HasFlushed, MayFill, KnowsAct, KnowsUndecided}
use Rattle.place_invariant.specs.step_ways.proofs.{phase_at, IsSpot, CallIs, holds_at, holds_in, Invariant, slot_relies, names_on}
use Rattle.place_invariant.specs.step_ways.proofs.{limits_of, IfSome, goes_on as goes_on_act, users_kept, OnlyLooks, step_to, inner}
use Rattle.place_invariant.specs.step_ways.proofs.{core_is, call_is, is_active, loads_on, decides_on, IsMarked, IsUnmarked, place_reads}
use Rattle.place_invariant.specs.step_ways.proofs.{GoodTook, not_spent, Reply, Refusal}
use Rattle.place_invariant.specs.kernel_rules.specs.{is_paging, lowest, unflushed_by, MayBeUnflushed, find, flushes_of}
use Rattle.place_invariant.proofs.{stands_alone, paging_by, IsRefusedOutside as RefusedOutside, starts_good, none_waits}
use Rattle.place_invariant.specs.trace_laws.proofs.{nobody_waits, awaits_are, was_before}
use Rattle.place_invariant.specs.call_plans.proofs.{next_may, Begins, left_begins}
use Rattle.place_invariant.specs.core_invariant.specs.{HasPassed, scanned_for}
use Rattle.place_invariant.specs.kernel_history.specs.{flush_of_word, awaits_flushes}
use Rattle.place_invariant.specs.count_invariant.proofs.{plan_leads, goes_by}
use Rattle.place_invariant.specs.plan_ways.proofs.{asked_left, next_first}
use Rattle.std.specs.List.{list_any, range_with_len}
use Rattle.place_invariant.specs.kernel_history.specs.{Justified.IsUnflushed, Ways.flushed_in}
use Rattle.place_invariant.specs.trace_laws.proofs.Waiting.{later_flushed, may_be_unflushed}
use Rattle.place_invariant.specs.kept_facts.proofs.{KeptReads.start_pairs, Carries.act_on}
use Rattle.place_invariant.proofs.Vacancy.{IsRemovedSince, removed_is}
use Rattle.scan_invariant.proofs.Scans.{IsScanFor, scan_for, asks_for}
use Rattle.{std.proofs.lemmas.Bool.cases_eq, place_invariant.specs.frame_words.specs.declared.flush_word.FlushWord.FlushWord}
use Rattle.{place_invariant.specs.stage_quiet.specs.Scan.flush_refuses, place_invariant.specs.call_plans.specs.After.NextMay}
use Rattle.{place_invariant.specs.plan_ways.specs.Laws.NextRefused, place_invariant.specs.act_states.specs.declared.work.Act.Act as ActOf}
use Rattle.{place_invariant.specs.step_ways.proofs.Flushing.none_flushing}
use Rattle.place_invariant.specs.entry_words.specs.declared.entry.Entry.TheVariants as entry

-- what a flush word tells

module _ (setup : Setting) (cores : ℕ → Core) (t : Trace) (stands : Invariant setup cores t) where
  -- a core whose flush word is later than a stamp has flushed since: its last flush is no earlier than the one stored
  pub flush_shown : (x : Thing) (s d : ℕ) → s < flush_stored t d → HasFlushed setup t x s d
  flush_shown x s d later = later_flushed setup t x (stands.graces x) d s (stands.times d).stored later

  -- one whose flush word is no later may not have flushed, where the grace period waits for flushes
  pub unflushed_shown : (x : Thing) (s d : ℕ) → d < setup.cores → awaits_flushes setup t x ≡ true → s ≤ stamp setup t x
      → flush_stored t d ≤ s → MayBeUnflushed (state_after setup t) x d
  unflushed_shown x s d below awaits old early = record {
    is_core = subst (λ (n : ℕ). d < n) (sym (ap (λ l. l.cores) (limits_of setup t))) below;
    flush_unknown = may_be_unflushed setup t x (stands.graces x) d s awaits old early;
  }

  -- a core that is between calls, or whose call is not decided, has stored its last flush
  pub flush_is_stored : (d : ℕ) → d < setup.cores → (phase t d ≡ Out) ⊎ ((call : Call) × (phase t d ≡ Open call))
      → flush_stored t d ≡ flush_of t d
  flush_is_stored d below undecided = (stands.each d below).flushed (none_flushing (cores d).active (phase t d)
      (by (cores d).active (stands.each d below).active) undecided)
    where
      by : (active : Option ActiveCall) → CallIs setup t d (cores d).own.table active
          → IfSome active (λ a. phase t d ≡ phase_at a.call a.stage)
      by None is = tt
      by (Some a) is = is.phase

  -- and is unflushed then, where its flush word is no later than the stamp of a grace period that waits for flushes
  pub still_unflushed : (x : Thing) (d : ℕ) → d < setup.cores → (phase t d ≡ Out) ⊎ ((call : Call) × (phase t d ≡ Open call))
      → awaits_flushes setup t x ≡ true → flush_stored t d ≤ stamp setup t x → ((state_after setup t).grace x).unflushed d ≡ true
  still_unflushed x d below undecided awaits early =
      ((stands.graces x).flushes d).is_unflushed awaits (let same = flush_is_stored d below undecided in omega arith)

-- The lowest number of a range that passes a test.
find_first : (p : ℕ → Bool) (a n e : ℕ) → a ≤ e → e < a + n → ((d : ℕ) → a ≤ d → d < e → p d ≡ false) → p e ≡ true
    → find p (range_with_len a n) ≡ Some e
find_first p a zero e low high before is = absurd (omega arith)
find_first p a (suc n) e low high before is = elim (cases_eq a e) [
  | inl same ↦ ap (λ b. cond b (Some a) (find p (range_with_len (a + 1) n))) (ap p same ∙ is) ∙ ap (λ (k : ℕ). Some k) same
  | inr other ↦ ap (λ b. cond b (Some a) (find p (range_with_len (a + 1) n))) (before a (omega arith) (omega arith))
      ∙ find_first p (a + 1) n e (omega arith) (omega arith) (λ d from upto. before d (omega arith) upto) is
]

pub lowest_is : (s : State) (set : ℕ → Bool) (e : ℕ) → e < s.limits.cores → ((d : ℕ) → d < e → set d ≡ false) → set e ≡ true
    → lowest s set ≡ Some e
lowest_is s set e below before is = find_first set 0 s.limits.cores e (omega arith) (omega arith) (λ d from upto. before d upto) is

-- A target that is to be free is refused where its place waits for a flush, and for no other core.
vacant_unflushed : (s : State) (c : ℕ) (target : Target) (at : Slot) (d : ℕ) → reached s c target ≡ Some at
    → not_vacant s c (PlaceOf at.node at.index) (place_at s at) ≡ Some (Reply.Unflushed d)
    → vacant s c target ≡ Refused (Reply.Unflushed d)
vacant_unflushed s c target at d is waits =
    ap (λ o. and_then (or_refuse o Reply.NoSlot) λ at. unless (not_vacant s c (PlaceOf at.node at.index) (place_at s at)) at) is
    ∙ ap (λ o. unless o at) waits

module _ (setup : Setting) (setting : IsSetting setup) (cores : ℕ → Core) (t : Trace) (stands : Invariant setup cores t) (c : ℕ)
    (here : c < setup.cores)
    (a : ActiveCall) (active : (cores c).active ≡ Some a) (x at : ℕ) (act : ActOf) (node index word : ℕ) (small : index < 64)
    (stage_is : a.stage ≡ Undecided (Scan (AtFlush x at) act))
    (has : KnowsUndecided setup t c (cores c).own.table a (Scan (AtFlush x at) act))
    (thing_is : scanned_for act ≡ PlaceOf node index) (spot : IsSpot setup t c (plan_for a.call) a.found at node index word)
    (since : stamp_shown (entry_of_word word) ≡ x)
    (again : (upto : ℕ) → IsSpot setup t c (plan_for a.call) a.found upto node index word
    → KnowsAct setup t c a.call (plan_for a.call) a.found upto act)
    (outside : goes_on_act act ≡ false → IsSpot setup t c (plan_for a.call) a.found setup.cores node index word
    → RefusedOutside setup t c a.call (LoadOf (FlushAt at))) where
  abbrev s : State
  s = state_after setup t

  abbrev slot : Slot
  slot = record { node = node; index = index }

  abbrev thing : Thing
  thing = PlaceOf node index

  abbrev load : Move
  load = LoadOf (FlushAt at)

  abbrev was : ℕ
  was = last_left setup t (FlushAt at)

  fits : StageFits (cores c).own.layout (Undecided (Scan (AtFlush x at) act))
  fits = subst (StageFits (cores c).own.layout) stage_is (is_active setup setting cores t stands c here a active).stage

  below : at < setup.cores
  below = subst (λ (n : ℕ). at < n) (ap (λ s. s.cores) (stands.each c here).shape) fits.0

  drawn : 1 ≤ x
  drawn = fits.1

  no_counts : a.counts ≡ []
  no_counts = subst (CountsAt a.counts) stage_is (is_active setup setting cores t stands c here a active).counts

  held_is : holds_in (Some a) ≡ holds_counts None a.counts
  held_is = ap (λ s. holds_at s a.counts) stage_is

  opens : phase_at a.call a.stage ≡ Open a.call
  opens = ap (phase_at a.call) stage_is

  is_open : phase t c ≡ Open a.call
  is_open = (call_is setup setting cores t stands c here a active).phase ∙ opens

  room : (cores c).own.made < (cores c).own.limit
  room = subst (HasRoom (cores c).own.made (cores c).own.limit) stage_is (is_active setup setting cores t stands c here a active).room

  scan : IsScanFor setup t c thing x at (entry_of_word word)
  scan = scan_for setup t c thing x at (entry_of_word word) since drawn spot.vacant

  leads : Leads (LeadsIn s c) (plan_for a.call).names [] a.found
  leads = plan_leads setup setting cores t stands c here a active has.names

  by_plan : GoesBy (own_pages s c) (plan_for a.call) (rule_of s c a.call)
  by_plan = goes_by setup setting cores t stands c here a active has.names

  -- the place is one of a page table, and its grace period waits for flushes
  paging : is_paging (s.frame node) ≡ true
  paging = paging_by setup setting t stands.legal c spot.target slot spot.way.reached a.call is_open a.found
      leads
      spot.next ∙ sym has.knows.pages

  in_node : IsTrue (is_node (s.frame node))
  in_node = (slot_relies setup setting t stands.legal c a.call is_open spot.target slot spot.way).node

  awaits : awaits_flushes setup t thing ≡ true
  awaits = (awaits_are setup setting t stands.legal node).place index in_node (let r = scan.scanned.rises in let d = drawn in omega arith)
      ∙ paging

  -- a load of the own flush word leaves the last flush as it is stored
  stored_own : (hit own : Bool) (d : ℕ) → (d == c) ≡ own
      → (if hit then (if own then flush_of t d else flush_stored t d) else flush_stored t d) ≡ flush_stored t d
  stored_own false own d is = refl
  stored_own true false d is = refl
  stored_own true true d is =
      let same : d ≡ c = eqb-true d c is in
      sym (subst (λ (n : ℕ). flush_stored t n ≡ flush_of t n) (sym same)
      (flush_is_stored setup cores t stands c here (inr (a.call, is_open))))

  looks : OnlyLooks setup t c a.call load
  looks = record {
    of_call = record { moves = refl; footprint = inl tt };
    kept = refl;
    apart = λ d. stored_own (same_word (FlushAt d) (FlushAt at)) (d == c) d refl;
  }

  -- the core may not have flushed since
  module _ (early : flush_stored t at ≤ x) where
    abbrev e : Step
    e = inner setup setting cores t stands c here a active load (Some (Reply.Unflushed at)) None

    unflushed : MayBeUnflushed s thing at
    unflushed = unflushed_shown setup cores t stands thing x at below awaits scan.scanned.rises early

    may : RuleMay s c (rule_of s c a.call) (Reply.Unflushed at)
    may = next_may s c (own_pages s c) (plan_for a.call) (rule_of s c a.call) a.found by_plan leads (Reply.Unflushed at)
        (subst (λ n. NextMay s c (own_pages s c) n (Reply.Unflushed at)) (sym spot.next)
        (subst (λ o. IsSomeAnd o (λ at2. MayBeUnflushed s (PlaceOf at2.node at2.index) at)) (sym spot.way.reached) unflushed))

    justified : IsUnflushed setup t e s (rule_of s c a.call) at
    justified = record {
      thing = thing;
      asked = subst (λ things. IsTrue (list_any (same_thing thing) things))
          (sym (asked_left s c (own_pages s c) (plan_for a.call) (rule_of s c a.call) a.found by_plan leads flushed_in))
          (asks_for flushed_in s c (own_pages s c) spot.target (rule_after (rule_of s c a.call) a.found) slot
          (subst (λ n. Begins (own_pages s c) n (rule_after (rule_of s c a.call) a.found)) spot.next
          (left_begins s c (own_pages s c) (plan_for a.call) (rule_of s c a.call) a.found by_plan leads)) spot.way.reached);
      may_be_unflushed = unflushed;
      was_removed = was_before (IsRemoved thing) setup t e refl scan.scanned.was_removed;
    }

    -- where the call is alone, the place waits still since this stamp
    module _ (alone : IsAlone t e) where
      unmarked : last_left setup t (EntryAt node index) ≡ word → IsUnmarked setup t node index
      unmarked same = by_read (place_reads setup cores t stands node index in_node small)
        where
          may_fill : MayFill setup t c thing at (entry_of_word (last_left setup t (EntryAt node index)))
          may_fill = subst (MayFill setup t c thing at) (sym (ap entry_of_word same)) spot.vacant

          by_read : IsMarked setup t node index ⊎ IsUnmarked setup t node index → IsUnmarked setup t node index
          by_read (inl m) = absurd (subst (MayFill setup t c thing at) m.says may_fill)
          by_read (inr p) = p

      same_word_is : last_left setup t (EntryAt node index) ≡ word
      same_word_is = stands_alone setup t c node index word spot.own load (Reply.Unflushed at) alone

      removed : IsRemovedSince (s.place node index) (stamp setup t thing) x
      removed = removed_is setup.frames (s.place node index) (stamp setup t thing) x
          (subst (λ o. PlaceIs setup.frames (s.place node index) (stamp setup t thing) o)
          (ap entry_of_word same_word_is ∙ scan.shows) (unmarked same_word_is).says)

      undecided : (phase t at ≡ Out) ⊎ ((call : Call) × (phase t at ≡ Open call))
      undecided = elim (cases_eq at c) [
        | inl own ↦ inr (a.call, ap (phase t) own ∙ is_open)
        | inr other ↦ inl (alone.others_out at other)
      ]

      first_unflushed : lowest s (s.grace thing).unflushed ≡ Some at
      first_unflushed = lowest_is s (s.grace thing).unflushed at
          (subst (λ (n : ℕ). at < n) (sym (ap (λ l. l.cores) (limits_of setup t))) below)
          (λ d lower. scan.scanned.flushed d lower removed.since)
          (still_unflushed setup cores t stands thing at below undecided awaits (let q = removed.since in let h = early in omega arith))

      waits : not_vacant s c thing (s.place node index) ≡ Some (Reply.Unflushed at)
      waits = ap (not_vacant s c thing) removed.place
          ∙ ap (λ o. first_of o (flushes_of s thing)) (none_waits s c thing
          (λ d low other. nobody_waits setup t e stands.legal tt alone a.call is_open thing d))
          ∙ ap unflushed_by first_unflushed

      refused : change_of s c a.call ≡ Refused (Reply.Unflushed at)
      refused = next_first s c (own_pages s c) (plan_for a.call) (rule_of s c a.call) a.found by_plan leads (Reply.Unflushed at)
          (subst (λ n. NextRefused s c (own_pages s c) n (Reply.Unflushed at)) (sym spot.next)
          (vacant_unflushed s c spot.target slot at spot.way.reached waits))

    not_flushed : GoodTook setup cores t c load (landed a (refuse (Refusal.Unflushed at)))
    not_flushed lands =
        let unspent = not_spent setup (cores c) t c (core_is setup setting cores t stands c here a active) room in
        decides_on setup setting cores t stands c here a active load (Reply.Unflushed at) a.found looks
        lands (sym held_is) opens refl refl
        (λ x. refl) (λ x. refl) refl (unspent, may)
        justified
        (λ is_alone. refused_first s c a.call (Reply.Unflushed at) has.acts unspent (refused is_alone))

  -- the core has flushed since
  module _ (flushed : HasFlushed setup t thing x at) where
    spot_then : (upto : ℕ) → upto ≤ setup.cores → ((d : ℕ) → d < upto → (d < at) ⊎ (d ≡ at))
        → IsSpot setup t c (plan_for a.call) a.found upto node index word
    spot_then upto most before = record {
      target = spot.target;
      next = spot.next;
      way = spot.way;
      own = spot.own;
      vacant = subst (MayFill setup t c thing upto) (sym scan.shows) (record {
        some = scan.scanned.some;
        past = scan.scanned.past;
        rises = scan.scanned.rises;
        was_removed = scan.scanned.was_removed;
        passed = λ d under other. subst (λ y. HasPassed setup t y x d) thing_is
            (has.knows.passed d (let m = most in omega arith) other);
        flushed = λ d under. elim (before d under) [
          | inl earlier ↦ scan.scanned.flushed d earlier
          | inr same ↦ subst (HasFlushed setup t thing x) (sym same) flushed
        ];
      });
    }

    entry_apart : (f i : ℕ) → EntryAt f i ≢ FlushAt at
    entry_apart f i h = cc

    count_apart : (f k : ℕ) → CountAt f k ≢ FlushAt at
    count_apart f k h = cc

    frame_apart : (f : ℕ) → FrameAt f ≢ FlushAt at
    frame_apart f h = cc

    number_apart : (l : ℕ) → LiveAt l ≢ FlushAt at
    number_apart l h = cc

    abbrev loads : Step
    loads = step_to c None load was None None

    carried : (upto : ℕ) → KnowsAct setup t c a.call (plan_for a.call) a.found upto act → Carries setup t loads c
        → KnowsAct setup (loads ∷ t) c a.call (plan_for a.call) a.found upto act
    carried upto knows carries =
        act_on setup setting t loads stands.legal c a.call is_open carries a.call (plan_for a.call) a.found upto act
        (record {
          entries = λ f i. own_read-there c loads t refl (EntryAt f i) (entry_apart f i);
          frames = λ f. own_read-there c loads t refl (FrameAt f) (frame_apart f);
          numbers = λ l. own_read-there c loads t refl (LiveAt l) (number_apart l);
          stored = λ f i marked. last_left-there setup (EntryAt f i) loads t (entry_apart f i);
          users = users_kept setup t loads c (λ f. refl) (λ f k held. last_left-there setup (CountAt f k) loads t (count_apart f k));
          counts = λ freezes f d. own_read-there c loads t refl (CountAt f d) (count_apart f d);
          rests = λ f looked. record { frame = refl; place = λ i node. refl };
          threads = record { guards = λ f has. has; rests = λ f claimed has. refl };
          pairs = start_pairs setup t loads c act has.knows.starts;
        }) knows

    -- the next flush word is scanned
    goes_on : at + 1 < setup.cores → GoodTook setup cores t c load (landed a (Goes (Scan (AtFlush x (at + 1)) act)))
    goes_on more lands =
        loads_on setup setting cores t stands c here a active load a.found
        (Undecided (Scan (AtFlush x (at + 1)) act)) looks lands (sym held_is) opens
        (λ carries. record {
          acts = has.acts;
          names = names_on setup setting t loads stands.legal c a.call is_open carries (cores c).own.table (plan_for a.call) a.found
              has.names;
          knows = record {
            knows = carried (at + 1) (again (at + 1) (spot_then (at + 1) (omega (arith, more)) (λ d under. below_one d under))) carries;
            core = refl;
            stamp = has.knows.stamp;
            starts = has.knows.starts;
            past = carries.past x has.knows.past;
            passed = λ d under other. carries.passed (scanned_for act) x d has.knows.past (has.knows.passed d under other);
            pages = has.knows.pages;
          };
        })
      where
        below_one : (d : ℕ) → d < at + 1 → (d < at) ⊎ (d ≡ at)
        below_one d under = elim (cases_eq d at) [ inl same ↦ inr same | inr apart ↦ inl (omega arith) ]

    -- there is none: the act starts
    ends : setup.cores ≤ at + 1 → GoodTook setup cores t c load (landed a (starts (cores c).own.core act))
    ends last = starts_good setup setting cores t stands c here a active opens held_is no_counts room has.names load looks has.acts act
        has.knows.starts (carried setup.cores (again setup.cores whole)) (λ out. outside out whole)
      where
        below_all : (d : ℕ) → d < setup.cores → (d < at) ⊎ (d ≡ at)
        below_all d under = elim (cases_eq d at) [ inl same ↦ inr same | inr apart ↦ inl (let l = last in omega arith) ]

        whole : IsSpot setup t c (plan_for a.call) a.found setup.cores node index word
        whole = spot_then setup.cores (omega arith) below_all

    abbrev After : Option Quiet → Type 0
    After next = GoodTook setup cores t c load (landed a
        (took_scan (cores c).own.core act (scan_after (AtFlush x at) None next) (scan_end None next)))

    has_flushed : After (quiet_next setup.cores (AtFlush x at))
    has_flushed = by_next (nat_lt (at + 1) setup.cores) refl
      where
        by_next : (there : Bool) → nat_lt (at + 1) setup.cores ≡ there → After (if there then Some (AtFlush x (at + 1)) else None)
        by_next true is = goes_on (ltb-true (at + 1) setup.cores is)
        by_next false is = ends (ltb-false (at + 1) setup.cores is)

  abbrev Judged : Option FlushWord → Type 0
  Judged o = GoodTook setup cores t c load (landed a (took_scan (cores c).own.core act
      (scan_after (AtFlush x at) (flush_refuses x at o) (quiet_next setup.cores (AtFlush x at)))
      (scan_end (flush_refuses x at o) (quiet_next setup.cores (AtFlush x at)))))

  word_is : flush_of_word was ≡ Some (record { stamp = flush_stored t at })
  word_is = stands.words (FlushAt at)

  pub flush_good : GoodTook setup cores t c load
      (landed a (took_scan (cores c).own.core act (quiet_after setup.cores (AtFlush x at) was)
      (quiet_end setup.cores (AtFlush x at) was)))
  flush_good = subst Judged (sym word_is) (by_stamp (nat_le (flush_stored t at) x) refl)
    where
      by_stamp : (early : Bool) → nat_le (flush_stored t at) x ≡ early
          → GoodTook setup cores t c load (landed a (took_scan (cores c).own.core act
          (scan_after (AtFlush x at) (if early then Some (Reply.Unflushed at) else None) (quiet_next setup.cores (AtFlush x at)))
          (scan_end (if early then Some (Reply.Unflushed at) else None) (quiet_next setup.cores (AtFlush x at)))))
      by_stamp true le = not_flushed (leb-true (flush_stored t at) x le)
      by_stamp false le = has_flushed (flush_shown setup cores t stands thing x at (leb-false (flush_stored t at) x le))
