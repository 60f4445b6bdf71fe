-- A step of any look-up of a call is good: the look-up goes by the call's plan.
use Rattle.comp_invariant.specs as low
use low.step_ways.proofs.{◌≡◌, inl, inr, ℕ, suc, negsuc, ◌≢◌, ◌<◌, ◌≤◌, ◌+◌, map, length, arith, Bool, true, false, if◌then◌else◌, IsTrue}
use low.step_ways.proofs.{List, [], ◌∷◌, ◌++◌, Option, Some, None, refl, sym, ◌∙◌, ap, subst, eq-eqb, Capability, Setting, IsSetting, Call}
use low.step_ways.proofs.{Retype, Ret, Transfer, Delegate, Test, Reply, Entry, entry_of_word, EntryAt}
use low.step_ways.proofs.{LoadOf, word_of, State, Thing, PlaceOf, comp_of, Slot, place_at, held_in, reached, own, RuleMay, Refused, named}
use low.step_ways.proofs.{vacant, rule_of, change_of, Step, Trace, Open, phase, state_after, last_left, wide_ways, is_slot_in, Carries}
use low.step_ways.proofs.{own_read-here, shown_in, look_move, Look, Second, Name, Spot, Nowhere, Plan, plan_for, of_kind, GoesBy}
use low.step_ways.proofs.{own_pages, names_after, Leads, LeadsIn, Next, NextName, NextFree, NextHeld, next_of, calls_go, leads_by, Lookup}
use low.step_ways.proofs.{Scan, Undecided, ActiveCall, FrameKind, only_is, Goes, Acquired, reads_of, dues, next_work, starts, stamp_shown}
use low.step_ways.proofs.{act_begun, CountsAt, HasRoom, holds_counts, due_of, ReadIs, MayFill, KnowsAct, LooksUp, own_in, HasFound}
use low.step_ways.proofs.{NamesAre, KnowsUndecided, phase_at, Quiet, quiet_scan, clock, landed, found_more, Core, holds_at, holds_in}
use low.step_ways.proofs.{Invariant, names_on, limits_of, Want, Replenish, Make as make_call, Target as place, Found as Found_it}
use low.step_ways.proofs.{next_by as what_next, OnlyLooks, next_at, call_is, is_active, loads_on, GoodTook, Refusal}
use low.act_states.specs.{Tick, Kill, Flush, Switch, root_at, with_found, NextOwn, NextNothing, fills_page, has_rights}
use low.act_states.specs.{want_of, earlier, next_in, Range as range_kind, scans, met_right, met_name, met_free, met_held}
use low.count_invariant.proofs.{knows_next, next_holds, one_apart, Shows, Arrives, own_is, found_named, Rest, ANameLeft, NoneLeft, rest_of}
use low.kernel_rules.specs.{has_no_slot, to_look, Look as look_call, any, held}
use low.scan_invariant.proofs.{ScanBegins, AtCores, AtFlushes, scan_begins, scan_none}
use low.call_plans.specs.{wants, NextMay, any_cap, place_of_spot}
use low.core_invariant.specs.{ReadBefore, LooksFor, KnowsQuiet}
use low.call_stages.specs.{named_one, took_look, took_found}
use low.call_plans.specs.declared.plans.Target.TheVariants.{Free, Held, Own as own_page}
use low.call_plans.proofs.{Roots.count_led, Roots.pushed_one, AfterNames.one_more, AfterNames.NextBy}
use Rattle.share_invariant.specs.pair_invariant.proofs.ShareStarts.{transfers_good, delegates_good, tests_good}
use low.place_invariant.proofs.{Starts.starts_good, Outside.refused_vacant, Vacancy.vacant_by}
use low.step_ways.proofs.Refusals.{refuses_empty, refuses_wrong, refuses_right, refuses_occupied}
use low.count_invariant.proofs.Lookups.{ShowsHeld, under_step, in_root_step}
use low.count_invariant.proofs.Findings.{reaches_none, reaches_held, reaches_other, reaches_lacking, use_held, use_free, use_removed_at}
use low.count_invariant.proofs.Findings.{named_of, named_no_slot, named_empty, named_wrong, named_lacking, arriving, reached_now, found_now}
use Rattle.work_invariant.proofs.{AtName.IsTypedBy, AtName.one_name, AtName.ranges_good, AtName.looked_good, ByCall.none_after}
use Rattle.work_invariant.proofs.{ByCall.vacant_no_slot, ByCall.vacant_occupied, ByCall.held_no_slot, ByCall.held_empty, ByCall.make_target}
use Rattle.work_invariant.proofs.{ByCall.BeginsRemoval, ByCall.begins_removal, ByCall.free_somewhere}
use Rattle.work_invariant.proofs.{AtTarget.Begins, AtTarget.begins_free, AtTarget.range_within, FoundFits.found_fits}
use Rattle.work_invariant.proofs.{ScanStarts.ScanStarts, ScanStarts.scan_starts, NextLooks.next_good}
use low.{count_invariant.proofs.next_name, count_invariant.proofs.next_end, plan_ways.specs.NextPlace, plan_ways.specs.NextRefused}
use low.{call_plans.proofs.next_may, call_plans.proofs.few_names, kernel_history.specs.Ways.wide_way_to, spk_nums.specs.Rights.neither}
use low.{spk_nums.specs.declared.calls.Call.TheVariants.Call as call_gate, spk_nums.specs.declared.kinds.Kind.TheVariants.Comp as comp_kind}
use low.{spk_nums.specs.declared.kinds.Kind.TheVariants.Gate as gate_kind, stage_look.specs.Lookup.found_at}
use low.{call_plans.specs.declared.plans.Target.Target, plan_ways.proofs.Ways.next_on_way, plan_ways.proofs.Ways.next_first}
use low.{act_states.specs.declared.lookups.Met.TheVariants.Finds, act_states.specs.declared.lookups.Met.TheVariants.Refused as met_refused}
use low.{act_states.specs.declared.work.Act.Act as ActOf, act_states.specs.Acts.removing, act_fits.proofs.DuesFit.cap_one}
use low.{kept_facts.proofs.Carries.acts_on, kept_facts.proofs.Carries.read_before_on, count_invariant.proofs.Next.MayUse}
use Rattle.{switch_invariant.specs.thread_invariant.proofs.InvokeStarts.invokes_good}
use Rattle.{switch_invariant.specs.live_invariant.proofs.KillStarts.kills_good}
use Rattle.{share_invariant.specs.pair_invariant.proofs.RefillStarts.refills_good, switch_invariant.proofs.SwitchStarts.switches_good}

module _ (setup : Setting) (setting : IsSetting setup) (cores : ℕ → Core) (t : Trace) (stands : Invariant setup cores t) (c : ℕ)
    (here : c < setup.cores)
    (a : ActiveCall) (active : (cores c).active ≡ Some a) (look : Look) (stage_is : a.stage ≡ Undecided (Lookup look))
    (has : KnowsUndecided setup t c (cores c).own.table a (Lookup look)) where
  abbrev s : State
  s = state_after setup t

  abbrev table : ℕ
  table = (cores c).own.table

  table_is : table ≡ (comp_of s c).table
  table_is = (stands.each c here).works.table

  room : (cores c).own.made < (cores c).own.limit
  room = subst (HasRoom (cores c).own.made (cores c).own.limit) stage_is (is_active setup setting cores t stands c here a active).room

  opens : phase_at a.call a.stage ≡ Open a.call
  opens = ap (phase_at a.call) stage_is

  is_open : phase t c ≡ Open a.call
  is_open = (call_is setup setting cores t stands c here a active).phase ∙ opens

  held_is : holds_in (Some a) ≡ holds_counts None a.counts
  held_is = ap (λ s. holds_at s a.counts) stage_is

  no_counts : a.counts ≡ []
  no_counts = subst (CountsAt a.counts) stage_is (is_active setup setting cores t stands c here a active).counts

  still : (fate : Option (Option ℕ)) → holds_counts fate a.counts ≡ holds_in (Some a)
  still fate = ap (holds_counts fate) no_counts ∙ sym (ap (holds_counts None) no_counts) ∙ sym held_is

  goes_by : GoesBy (own_pages s c) (plan_for a.call) (rule_of s c a.call)
  goes_by = calls_go s c a.call

  leads : Leads (LeadsIn s c) (plan_for a.call).names [] a.found
  leads = leads_by (λ n wanted k. HasFound setup t c (own_in table n) wanted k) (LeadsIn s c)
      (λ n wanted k had. found_named setup t c table n wanted k table_is had)
      (plan_for a.call).names [] a.found has.names

  uses : Leads (MayUse s c) (plan_for a.call).names [] a.found
  uses = leads_by (λ n wanted k. HasFound setup t c (own_in table n) wanted k) (MayUse s c)
      (λ n wanted k had. record { at = had.at; usable = had.usable; kind = had.kind })
      (plan_for a.call).names [] a.found has.names

  -- what may be refused, what is the first cause, and which places are on the way, of a call whose names have led to these
  module _ (ks : List Capability) (lead : Leads (LeadsIn s c) (plan_for a.call).names [] ks) where
    may : (r : Reply) → NextMay s c (own_pages s c) (next_of (plan_for a.call) ks) r → RuleMay s c (rule_of s c a.call) r
    may r h = next_may s c (own_pages s c) (plan_for a.call) (rule_of s c a.call) ks goes_by lead r h

    first : (r : Reply) → NextRefused s c (own_pages s c) (next_of (plan_for a.call) ks) r → change_of s c a.call ≡ Refused r
    first r h = next_first s c (own_pages s c) (plan_for a.call) (rule_of s c a.call) ks goes_by lead r h

  -- The step of this look-up is good.
  abbrev Looked : Type 0
  Looked = GoodTook setup cores t c (look_move look) (took_look (cores c).own a look (last_left setup t (word_of (look_move look)))
      (shown_in setup.frames (last_left setup t (word_of (look_move look)))))

  -- Where a look-up ends, the call goes on by what its plan looks up next.
  abbrev ended_by : Next → Slot → Entry → Type 0
  ended_by next at v = GoodTook setup cores t c (LoadOf (EntryAt at.node at.index))
      (took_found (cores c).own a next (found_at at.node at.index (last_left setup t (EntryAt at.node at.index)) v))

  ends_for : {next : Next} → next_of (plan_for a.call) a.found ≡ next → (at : Slot) (v : Entry) → ended_by next at v
      → ended_by (next_of (plan_for a.call) a.found) at v
  ends_for is at v = subst (λ x. ended_by x at v) (sym is)

  way : (target : place) → NextPlace s c (next_of (plan_for a.call) a.found) target → (g i : ℕ) → is_slot_in (wide_way_to s target) g i
      ≡ true
      → is_slot_in (wide_ways s c (rule_of s c a.call)) g i ≡ true
  way target is g i h = next_on_way s c (own_pages s c) (plan_for a.call) (rule_of s c a.call) a.found goes_by leads target g i is h

  -- the look-up goes on, and the call knows what it knew
  looks_more : (next : Next) → next_of (plan_for a.call) a.found ≡ next → (e : Step) (on : Look) → Carries setup t e c
      → LooksFor setup (e ∷ t) c table next on
      → KnowsUndecided setup (e ∷ t) c table (next_at a a.found (Undecided (Lookup on))) (Lookup on)
  looks_more next is e on carries up = record {
    acts = acts_on setup setting t e stands.legal c a.call is_open carries a.call has.acts;
    names = names_on setup setting t e stands.legal c a.call is_open carries table (plan_for a.call) a.found has.names;
    knows = record {
      looks = subst (λ x. LooksFor setup (e ∷ t) c table x on) (sym is) up;
      has_read = read_before_on setup setting t e stands.legal c a.call is_open carries (reads_of a.call a.found) a.read
          (next_of (plan_for a.call) a.found) has.knows.has_read;
    };
  }

  own_target : (n : ℕ) → own_in table n ≡ own s c n
  own_target n = own_is s c table n table_is

  -- One name more has led to k, at a slot of which the word was loaded: what comes next is good.
  module _ (name : Name) (rest : List Name) (left : names_after (plan_for a.call).names a.found ≡ name ∷ rest) (at : Slot) (k : Capability)
      (arrives : Arrives setup t c (own_in table name.number) at)
      (shows : ShowsHeld setup.frames (place_at s at) k) (looks : OnlyLooks setup t c a.call (LoadOf (EntryAt at.node at.index)))
      (wanted : wants (with_found [] a.found) name.wanted k.kind ≡ true) (right : has_rights k.rights name.needs.0 ≡ true) where
    abbrev more : List Capability
    more = a.found ++ k ∷ []

    abbrev e : Step
    e = arriving setup t c (own_in table name.number) at (last_left setup t (EntryAt at.node at.index)) arrives

    next_left : NextBy (λ n w j. HasFound setup (e ∷ t) c (own_in table n) w j)
        (next_in (with_found [] a.found) (names_after (plan_for a.call).names a.found) (plan_for a.call).target) k
    next_left = subst (λ (names : List Name). NextBy (λ n w j. HasFound setup (e ∷ t) c (own_in table n) w j)
        (next_in (with_found [] a.found) names (plan_for a.call).target) k) (sym left)
        (found_now setup t c (own_in table name.number) at (last_left setup t (EntryAt at.node at.index)) arrives
        (want_of (with_found [] a.found) name) k shows.holds wanted right shows.fits)

    names_then : Carries setup t e c → NamesAre setup (e ∷ t) c table (plan_for a.call) more
    names_then carries = one_more (λ n w j. HasFound setup (e ∷ t) c (own_in table n) w j) (plan_for a.call).names
        (plan_for a.call).target [] a.found k
        (names_on setup setting t e stands.legal c a.call is_open carries table (plan_for a.call) a.found has.names) next_left

    here_use : MayUse s c name.number (want_of (with_found [] a.found) name) k
    here_use = record { at = at; usable = use_held s c at k shows.holds; kind = wanted }

    uses_then : Leads (MayUse s c) (plan_for a.call).names [] more
    uses_then = one_more (MayUse s c) (plan_for a.call).names (plan_for a.call).target [] a.found k uses
        (subst (λ (names : List Name). NextBy (MayUse s c) (next_in (with_found [] a.found) names (plan_for a.call).target) k) (sym left)
        here_use)

    here_named : LeadsIn s c name.number (want_of (with_found [] a.found) name) k
    here_named = named_of s c name.number (want_of (with_found [] a.found) name) at k
        (ap (reached s c) (sym (own_target name.number)) ∙ arrives.reached) (use_held s c at k shows.holds) wanted right

    leads_then : Leads (LeadsIn s c) (plan_for a.call).names [] more
    leads_then = one_more (LeadsIn s c) (plan_for a.call).names (plan_for a.call).target [] a.found k leads
        (subst (λ (names : List Name). NextBy (LeadsIn s c) (next_in (with_found [] a.found) names (plan_for a.call).target) k) (sym left)
        here_named)

    -- a retype has found its range
    range_at_name : (r f : ℕ) (j : FrameKind) → a.call ≡ Retype r f j → (plan_for (Retype r f j)).names ≡ of_kind range_kind r ∷ []
        → IsTypedBy (cores c).own.core f j
        → GoodTook setup cores t c (LoadOf (EntryAt at.node at.index))
        (landed (found_more a more) (act_begun (cores c).own (Retype r f j) more None None))
    range_at_name r f j is one to =
        let only_one = one_name (plan_for a.call).names (of_kind range_kind r) name rest a.found k.kind
        (ap (λ (p : Plan). p.names) (ap plan_for is) ∙ one) left wanted in
        let more_is : more ≡ k ∷ [] = ap (λ ks. ks ++ k ∷ []) only_one.0 in
        subst (λ ks. GoodTook setup cores t c (LoadOf (EntryAt at.node at.index))
        (landed (found_more a ks) (act_begun (cores c).own (Retype r f j) ks None None))) (sym more_is)
        (ranges_good setup setting cores t stands c here a active opens held_is no_counts room goes_by at looks k
        (subst (λ (ks : List Capability). Leads (LeadsIn s c) (plan_for a.call).names [] ks) more_is leads_then)
        (λ carries. subst (λ (ks : List Capability). NamesAre setup (e ∷ t) c table (plan_for a.call) ks) more_is (names_then carries)) r
        f j is
        (only_is range_kind k.kind only_one.2) shows.names to has.acts)

    is_named : (plan_for a.call).names ≡ [] → ⊥
    is_named none = let h : name ∷ rest ≡ [] = sym left ∙ ap (λ (ns : List Name). names_after ns a.found) none ∙ none_after a.found in cc

    -- a look answers what its name has led to
    acts_at_name : (call : Call) → a.call ≡ call → (plan_for call).target ≡ Nowhere → names_after (plan_for a.call).names more ≡ []
        → GoodTook setup cores t c (LoadOf (EntryAt at.node at.index))
        (landed (found_more a more) (act_begun (cores c).own call more None None))
    acts_at_name (look_call n) is nowhere none =
        let plan_look : plan_for a.call ≡ plan_for (look_call n) = ap plan_for is in
        let only_one = one_name (plan_for a.call).names (any_cap neither n) name rest a.found k.kind
        (ap (λ (p : Plan). p.names) plan_look) left
        wanted in
        let more_is : more ≡ k ∷ [] = ap (λ ks. ks ++ k ∷ []) only_one.0 in
        let named_it : named s c n (to_look any) ≡ Found_it k =
        (subst (λ (ks : List Capability). Leads (LeadsIn s c) (any_cap neither n ∷ []) [] ks) more_is
        (subst (λ (p : Plan). Leads (LeadsIn s c) p.names [] more) plan_look leads_then)).0 in
        subst (λ ks. GoodTook setup cores t c (LoadOf (EntryAt at.node at.index))
        (landed (found_more a ks) (act_begun (cores c).own (look_call n) ks None None))) (sym more_is)
        (looked_good setup setting cores t stands c here a active opens held_is no_counts room at looks n
        (subst (λ (m : ℕ). Arrives setup t c (own_in table m) at) (ap (λ (x : Name). x.number) only_one.1) arrives) k named_it is has.acts)
    acts_at_name (Replenish x m) is nowhere none =
        refills_good setup setting cores t stands c here a active opens held_is no_counts room goes_by (LoadOf (EntryAt at.node at.index))
        looks has.acts more leads_then none names_then x m is
    acts_at_name (Retype r f FrameKind.Untyped) is nowhere none =
        range_at_name r f FrameKind.Untyped is refl (inr (refl, refl))
    acts_at_name (Retype r f FrameKind.User) is nowhere none =
        range_at_name r f FrameKind.User is refl (inl ((λ h. cc), refl))
    acts_at_name (Retype r f FrameKind.Kernel) is nowhere none =
        range_at_name r f FrameKind.Kernel is refl (inl ((λ h. cc), refl))
    acts_at_name (make_call what r f u b) is nowhere none =
        absurd (free_somewhere (Spot.Under Second b) (sym (make_target what r u b) ∙ nowhere))
    acts_at_name (Kill n) is nowhere none =
        let plan_kill : plan_for a.call ≡ plan_for (Kill n) = ap plan_for is in
        let only_one = one_name (plan_for a.call).names (of_kind comp_kind n) name rest a.found k.kind
        (ap (λ (p : Plan). p.names) plan_kill) left
        wanted in
        let more_is : more ≡ k ∷ [] = ap (λ ks. ks ++ k ∷ []) only_one.0 in
        subst (λ ks. GoodTook setup cores t c (LoadOf (EntryAt at.node at.index))
        (landed (found_more a ks) (act_begun (cores c).own (Kill n) ks None None))) (sym more_is)
        (kills_good setup setting cores t stands c here a active opens held_is no_counts (LoadOf (EntryAt at.node at.index)) looks n k is
        (only_is comp_kind k.kind only_one.2)
        (subst (λ (ks : List Capability). Leads (LeadsIn s c) (of_kind comp_kind n ∷ []) [] ks) more_is
        (subst (λ (p : Plan). Leads (LeadsIn s c) p.names [] more) plan_kill leads_then)).0
        (λ carries. subst (λ (ks : List Capability). NamesAre setup (e ∷ t) c table (plan_for a.call) ks) more_is (names_then carries))
        has.acts)
    acts_at_name (call_gate n) is nowhere none =
        let plan_call : plan_for a.call ≡ plan_for (call_gate n) = ap plan_for is in
        let only_one = one_name (plan_for a.call).names (of_kind gate_kind n) name rest a.found k.kind
        (ap (λ (p : Plan). p.names) plan_call) left
        wanted in
        let more_is : more ≡ k ∷ [] = ap (λ ks. ks ++ k ∷ []) only_one.0 in
        subst (λ ks. GoodTook setup cores t c (LoadOf (EntryAt at.node at.index))
        (landed (found_more a ks) (act_begun (cores c).own (call_gate n) ks None None))) (sym more_is)
        (invokes_good setup setting cores t stands c here a active opens held_is no_counts room goes_by (LoadOf (EntryAt at.node at.index))
        looks n k is (only_is gate_kind k.kind only_one.2)
        (subst (λ (ks : List Capability). Leads (LeadsIn s c) (of_kind gate_kind n ∷ []) [] ks) more_is
        (subst (λ (p : Plan). Leads (LeadsIn s c) p.names [] more) plan_call leads_then)).0
        (subst (λ (ks : List Capability). Leads (LeadsIn s c) (plan_for a.call).names [] ks) more_is leads_then)
        (λ carries. subst (λ (ks : List Capability). NamesAre setup (e ∷ t) c table (plan_for a.call) ks) more_is (names_then carries))
        has.acts)
    acts_at_name Ret is nowhere none = absurd (is_named (ap (λ (p : Plan). p.names) (ap plan_for is)))
    acts_at_name Flush is nowhere none = absurd (is_named (ap (λ (p : Plan). p.names) (ap plan_for is)))
    acts_at_name (Tick n) is nowhere none = absurd (is_named (ap (λ (p : Plan). p.names) (ap plan_for is)))
    acts_at_name (Transfer x y m) is nowhere none =
        transfers_good setup setting cores t stands c here a active opens held_is no_counts room goes_by (LoadOf (EntryAt at.node at.index))
        looks has.acts more leads_then none names_then x y m is
    acts_at_name (Delegate x y m) is nowhere none =
        delegates_good setup setting cores t stands c here a active opens held_is no_counts room goes_by (LoadOf (EntryAt at.node at.index))
        looks has.acts more leads_then none names_then x y m is
    acts_at_name (Test x y) is nowhere none =
        tests_good setup setting cores t stands c here a active opens held_is no_counts room goes_by (LoadOf (EntryAt at.node at.index))
        looks has.acts more leads_then none names_then x y is
    acts_at_name (Switch x y) is nowhere none =
        switches_good setup setting cores t stands c here a active opens held_is no_counts (LoadOf (EntryAt at.node at.index))
        looks more leads_then none names_then x y is has.acts
    -- the others have a target
    acts_at_name _ is nowhere none = absurd (cc)

    -- the name is found
    found_good : GoodTook setup cores t c (LoadOf (EntryAt at.node at.index)) (named_one (cores c).own a (Finds k))
    found_good = subst (λ ks. GoodTook setup cores t c (LoadOf (EntryAt at.node at.index))
        (landed (found_more a ks) (what_next (cores c).own (found_more a ks)))) (sym (pushed_one a.found k few))
        (next_good setup setting cores t stands c here a active opens held_is
        no_counts room (LoadOf (EntryAt at.node at.index)) looks has.acts more leads_then uses_then names_then is_named
        (λ nowhere none. acts_at_name a.call refl nowhere none))
      where
        few : length a.found < 4
        few =
            let counted : length a.found + length (names_after (plan_for a.call).names a.found)
            ≡ length (plan_for a.call).names = count_led (LeadsIn s c)
            (plan_for a.call).names [] a.found leads in
            let most : length (plan_for a.call).names ≤ 4 = few_names a.call in
            let one : length (names_after (plan_for a.call).names a.found) ≡ suc (length rest) = ap length left in
            omega arith

  -- A name that is looked up has arrived at its place.
  module _ (name : Name) (rest : List Name) (left : names_after (plan_for a.call).names a.found ≡ name ∷ rest) where
    abbrev wanted_of : Want
    wanted_of = want_of (with_found [] a.found) name

    next : next_of (plan_for a.call) a.found ≡ NextName name.number wanted_of
    next = next_name (plan_for a.call) a.found name rest left

    may_here : (r : Reply) → NextMay s c (own_pages s c) (NextName name.number wanted_of) r → RuleMay s c (rule_of s c a.call) r
    may_here r h = may a.found leads r (subst (λ x. NextMay s c (own_pages s c) x r) (sym next) h)

    first_here : (r : Reply) → named s c name.number wanted_of ≡ Refused r → change_of s c a.call ≡ Refused r
    first_here r h = first a.found leads r (subst (λ x. NextRefused s c (own_pages s c) x r) (sym next) h)

    module _ (at : Slot) (arrives : Arrives setup t c (own_in table name.number) at)
        (looks : OnlyLooks setup t c a.call (LoadOf (EntryAt at.node at.index))) where
      reach : reached s c (own s c name.number) ≡ Some at
      reach = ap (reached s c) (sym (own_target name.number)) ∙ arrives.reached

      held_right : (k : Capability) → ShowsHeld setup.frames (place_at s at) k → wanted_of.kinds k.kind ≡ true → (right : Bool)
          → has_rights k.rights wanted_of.needs ≡ right
          → GoodTook setup cores t c (LoadOf (EntryAt at.node at.index))
          (named_one (cores c).own a (if right then Finds k else met_refused Refusal.NoRight))
      held_right k shows wanted true is = found_good name rest left at k arrives shows looks wanted is
      held_right k shows wanted false is =
          refuses_right setup setting cores t stands c here a active opens held_is room (LoadOf (EntryAt at.node at.index)) looks
          has.acts (may_here Reply.NoRight (reaches_lacking s c (own s c name.number) at k wanted_of reach shows.holds wanted is))
          (λ nobody. first_here Reply.NoRight
          (named_lacking s c name.number wanted_of at k reach (use_held s c at k shows.holds) wanted is))

      held_name : (k : Capability) → ShowsHeld setup.frames (place_at s at) k → (wanted : Bool) → wanted_of.kinds k.kind ≡ wanted
          → GoodTook setup cores t c (LoadOf (EntryAt at.node at.index))
          (named_one (cores c).own a (if wanted then met_right wanted_of.needs k else met_refused Refusal.WrongCap))
      held_name k shows true is = held_right k shows is (has_rights k.rights wanted_of.needs) refl
      held_name k shows false is =
          refuses_wrong setup setting cores t stands c here a active opens held_is room (LoadOf (EntryAt at.node at.index)) looks
          has.acts (may_here Reply.WrongCap (reaches_other s c (own s c name.number) at k wanted_of reach shows.holds is))
          (λ nobody. first_here Reply.WrongCap (named_wrong s c name.number wanted_of at k reach (use_held s c at k shows.holds) is))

      name_good : (v : Entry) → Shows setup.frames (place_at s at) v
          → GoodTook setup cores t c (LoadOf (EntryAt at.node at.index)) (named_one (cores c).own a (met_name wanted_of v))
      name_good Entry.Free shows =
          refuses_empty setup setting cores t stands c here a active opens held_is room (LoadOf (EntryAt at.node at.index)) looks
          has.acts (may_here Reply.Empty (reaches_none s c (own s c name.number) at reach (ap held_in shows)))
          (λ nobody. first_here Reply.Empty (named_empty s c name.number wanted_of at reach (use_free s c at shows)))
      name_good (Entry.Held k) shows = held_name k shows (wanted_of.kinds k.kind) refl
      name_good (Entry.Closing d) shows = absurd shows
      name_good (Entry.Quiescing x) shows =
          refuses_empty setup setting cores t stands c here a active opens held_is room (LoadOf (EntryAt at.node at.index)) looks
          has.acts (may_here Reply.Empty (reaches_none s c (own s c name.number) at reach (ap held_in shows.removed)))
          (λ nobody. first_here Reply.Empty (named_empty s c name.number wanted_of at reach
          (use_removed_at s c at shows.held shows.removed nobody)))

    pub name_step : LooksUp setup t c (own_in table name.number) look → Looked
    name_step looks =
        under_step setup setting cores t stands c here a active (root_at table) name.number is_open has.acts
        (λ h. may_here Reply.NoSlot (subst (λ x. IsTrue (has_no_slot s x)) (own_target name.number) h))
        (λ none. first_here Reply.NoSlot (named_no_slot s c name.number wanted_of
        (ap (reached s c) (sym (own_target name.number)) ∙ none)))
        (λ g i h. way (own s c name.number) (subst (λ x. NextPlace s c x (own s c name.number)) (sym next) refl) g i
        (subst (λ x. is_slot_in (wide_way_to s x) g i ≡ true) (own_target name.number) h))
        (looks_more (NextName name.number wanted_of) next)
        (λ at v arrives reads shows only. ends_for next at v (name_good at arrives only v shows))
        room look stage_is looks

  -- A target that is to be free is looked up.
  module _ (spot : Spot) (to : (plan_for a.call).target ≡ Free spot) (none : names_after (plan_for a.call).names a.found ≡ []) where
    abbrev target : place
    target = place_of_spot (with_found [] a.found) spot

    next_free : next_of (plan_for a.call) a.found ≡ NextFree target
    next_free = next_end (plan_for a.call) a.found (Free spot) none to

    may_free : (r : Reply) → NextMay s c (own_pages s c) (NextFree target) r → RuleMay s c (rule_of s c a.call) r
    may_free r h = may a.found leads r (subst (λ x. NextMay s c (own_pages s c) x r) (sym next_free) h)

    first_free : (r : Reply) → vacant s c target ≡ Refused r → change_of s c a.call ≡ Refused r
    first_free r h = first a.found leads r (subst (λ x. NextRefused s c (own_pages s c) x r) (sym next_free) h)

    -- what it has read, if it reads anything
    has_read : ReadIs s c (reads_of a.call a.found) a.read
    has_read = subst (ReadBefore s c (reads_of a.call a.found) a.read) next_free has.knows.has_read

    -- the act with which the call begins at the place
    begins_with : (at : Slot) (v : Entry)
        → Begins (cores c).own a.call (plan_for a.call) a.found a.read c
        (found_at at.node at.index (last_left setup t (EntryAt at.node at.index)) v)
    begins_with at v = begins_free (cores c).own a.call (is_active setup setting cores t stands c here a active).limits
        (subst (λ (n : ℕ). n ≤ 512) (sym (ap (λ x. x.frames) (stands.each c here).shape)) setting.most_frames)
        spot to s (plan_for a.call) a.found a.read c (stands.each c here).number
        none
        leads
        (λ nth k is. found_fits setup t c table (plan_for a.call).names [] a.found nth k has.names is)
        (λ needs r f range is in_range. subst (λ (n : ℕ). f < n) (sym (ap (λ x. x.frames) (stands.each c here).shape))
        (range_within setup setting t stands.legal c a.call is_open needs r f range is in_range)) has_read
        (found_at at.node at.index (last_left setup t (EntryAt at.node at.index)) v)

    -- the place is reached, and its word shows that it may be filled, once the cores below `upto` were scanned
    module _ (at : Slot) (arrives : Arrives setup t c target at) (v : Entry)
        (reads : entry_of_word (last_left setup t (EntryAt at.node at.index)) ≡ Some v)
        (looks : OnlyLooks setup t c a.call (LoadOf (EntryAt at.node at.index))) where
      abbrev word : ℕ
      word = last_left setup t (EntryAt at.node at.index)

      abbrev load : Step
      load = arriving setup t c target at word arrives

      abbrev thing : Thing
      thing = PlaceOf at.node at.index

      abbrev begun : Begins (cores c).own a.call (plan_for a.call) a.found a.read c (found_at at.node at.index word v)
      begun = begins_with at v

      knows_begun : (upto : ℕ) → MayFill setup (load ∷ t) c thing upto (Some v)
          → KnowsAct setup (load ∷ t) c a.call (plan_for a.call) a.found upto begun.act
      knows_begun upto may = begun.knows setup (load ∷ t) upto (stands.each c here).epochs (record {
        target = target;
        next = next_free;
        way = reached_now setup t c target at word arrives;
        own = own_read-here c load t refl (EntryAt at.node at.index) refl ∙ ap (λ b. if b then Some word else None)
            (eq-eqb word word refl);
        vacant = subst (MayFill setup (load ∷ t) c thing upto) (sym reads) may;
      }) has_read

      -- it starts without a scan
      starts_now : MayFill setup (load ∷ t) c thing setup.cores (Some v) → MayFill setup t c thing setup.cores (Some v)
          → GoodTook setup cores t c (LoadOf (EntryAt at.node at.index)) (landed a (starts (cores c).own.core begun.act))
      starts_now may_then may =
          starts_good setup setting cores t stands c here a active opens held_is no_counts room has.names
          (LoadOf (EntryAt at.node at.index)) looks has.acts begun.act begun.starts (λ carries. knows_begun setup.cores may_then)
          (λ out. refused_vacant setup setting cores t stands c here a active has.names at.node at.index target next_free
          arrives.reached (begun.outside out) (LoadOf (EntryAt at.node at.index))
          (λ alone. vacant_by setup t c at.node at.index
          (ap (λ l. l.cores) (limits_of setup t)) setup.frames (entry_of_word word) arrives.plain.says
          (subst (MayFill setup t c thing setup.cores) (sym reads) may)))

      -- it starts with a scan
      scans_first : (x : ℕ) → stamp_shown (Some v) ≡ x → (q : Quiet)
          → ScanBegins x (cores c).own.core setup.cores (fills_page a.call a.found) q
          → x < clock setup (load ∷ t) → MayFill setup (load ∷ t) c thing 0 (Some v)
          → GoodTook setup cores t c (LoadOf (EntryAt at.node at.index)) (landed a (Goes (Scan q begun.act)))
      scans_first x shown q first past may lands =
          loads_on setup setting cores t stands c here a active (LoadOf (EntryAt at.node at.index)) a.found
          (Undecided (Scan q begun.act)) looks lands (sym held_is) opens
          (λ carries. record {
            acts = has.acts;
            names = names_on setup setting t load stands.legal c a.call is_open carries table (plan_for a.call) a.found has.names;
            knows = by_first first;
          })
        where
          Begun : Quiet → Type 0
          Begun p = KnowsQuiet setup (load ∷ t) c (next_at a a.found (Undecided (Scan q begun.act))) p begun.act

          by_first : ScanBegins x (cores c).own.core setup.cores (fills_page a.call a.found) q → Begun q
          by_first (AtCores upto is before) = subst Begun (sym is) (record {
            knows = knows_begun 0 may;
            core = (stands.each c here).number;
            stamp = begun.stamp ∙ ap stamp_shown reads ∙ shown;
            starts = begun.starts;
            past = past;
            passed = λ d below other. absurd (before d below (λ same. other (same ∙ (stands.each c here).number)));
            pages = refl;
          })
          by_first (AtFlushes page is none) = subst Begun (sym is) (record {
            knows = knows_begun 0 may;
            core = refl;
            stamp = begun.stamp ∙ ap stamp_shown reads ∙ shown;
            starts = begun.starts;
            past = past;
            passed = λ d below other. absurd (none d below (λ same. other (same ∙ (stands.each c here).number)));
            pages = sym page;
          })

    -- it is free
    fills_free : (at : Slot) (arrives : Arrives setup t c target at)
        (reads : entry_of_word (last_left setup t (EntryAt at.node at.index)) ≡ Some Entry.Free)
        → OnlyLooks setup t c a.call (LoadOf (EntryAt at.node at.index))
        → GoodTook setup cores t c (LoadOf (EntryAt at.node at.index)) (landed a (scans (cores c).own.core
        (quiet_scan 0 (cores c).own.core (cores c).own.layout.cores (fills_page a.call a.found)) (begins_with at Entry.Free).act))
    fills_free at arrives reads looks = starts_now at arrives Entry.Free reads looks tt tt

    -- it is quiescing: the other cores are scanned first, if there are any
    module _ (at : Slot) (arrives : Arrives setup t c target at) (x : ℕ)
        (reads : entry_of_word (last_left setup t (EntryAt at.node at.index)) ≡ Some (Entry.Quiescing x))
        (looks : OnlyLooks setup t c a.call (LoadOf (EntryAt at.node at.index))) where
      waits : ScanStarts setup t c a at x
      waits = scan_starts setup setting cores t stands c here a active is_open leads target next_free at arrives x reads

      fills_removed : GoodTook setup cores t c (LoadOf (EntryAt at.node at.index)) (landed a (scans (cores c).own.core
          (quiet_scan x (cores c).own.core (cores c).own.layout.cores (fills_page a.call a.found)) (begins_with at
          (Entry.Quiescing x)).act))
      fills_removed = subst (λ (n : ℕ). Goal (quiet_scan x (cores c).own.core n (fills_page a.call a.found)))
          (sym (ap (λ s. s.cores) (stands.each c here).shape))
          (by (quiet_scan x (cores c).own.core setup.cores (fills_page a.call a.found)) refl)
        where
          Goal : Option Quiet → Type 0
          Goal o = GoodTook setup cores t c (LoadOf (EntryAt at.node at.index))
              (landed a (scans (cores c).own.core o (begins_with at (Entry.Quiescing x)).act))

          by : (o : Option Quiet) → quiet_scan x (cores c).own.core setup.cores (fills_page a.call a.found) ≡ o → Goal o
          by None is =
              let alone = scan_none x (cores c).own.core setup.cores (fills_page a.call a.found) waits.drawn is in
              let none : (d : ℕ) → d < setup.cores → d ≢ c → ⊥ = λ d below other.
              alone.1 d below (λ same. other (same ∙ (stands.each c here).number)) in
              starts_now at arrives (Entry.Quiescing x) reads looks
              (waits.loaded (last_left setup t (EntryAt at.node at.index)) setup.cores none (λ d below. waits.unpaged alone.0 d))
              (waits.now setup.cores none (λ d below. waits.unpaged alone.0 d))
          by (Some q) is = scans_first at arrives (Entry.Quiescing x) reads looks x refl q
              (scan_begins x (cores c).own.core setup.cores (fills_page a.call a.found) waits.drawn q is)
              waits.past (waits.loaded (last_left setup t (EntryAt at.node at.index)) 0 (λ d below other. absurd (omega arith))
              (λ d below. absurd (omega arith)))

    free_at : (at : Slot) (v : Entry) → Arrives setup t c target at
        → entry_of_word (last_left setup t (EntryAt at.node at.index)) ≡ Some v → Shows setup.frames (place_at s at) v
        → OnlyLooks setup t c a.call (LoadOf (EntryAt at.node at.index))
        → GoodTook setup cores t c (LoadOf (EntryAt at.node at.index))
        (landed a (met_free (cores c).own a.call a.found a.read (found_at at.node at.index (last_left setup t (EntryAt at.node at.index)) v)
        v))
    free_at at Entry.Free arrives reads shows looks =
        subst (λ step. GoodTook setup cores t c (LoadOf (EntryAt at.node at.index)) (landed a step))
        (sym (begins_with at Entry.Free).begins)
        (fills_free at arrives reads looks)
    free_at at (Entry.Held k) arrives reads shows looks =
        refuses_occupied setup setting cores t stands c here a active opens held_is room (LoadOf (EntryAt at.node at.index)) looks
        has.acts (may_free Reply.Occupied (reaches_held s c target at k arrives.reached shows.holds))
        (λ nobody. first_free Reply.Occupied (vacant_occupied s c target at k arrives.reached shows.holds))
    free_at at (Entry.Closing d) arrives reads shows looks = absurd shows
    free_at at (Entry.Quiescing x) arrives reads shows looks =
        subst (λ step. GoodTook setup cores t c (LoadOf (EntryAt at.node at.index)) (landed a step))
        (sym (begins_with at (Entry.Quiescing x)).begins)
        (fills_removed at arrives x reads looks)

  free_step : (spot : Spot) (to : (plan_for a.call).target ≡ Free spot) (none : names_after (plan_for a.call).names a.found ≡ [])
      → LooksUp setup t c (place_of_spot (with_found [] a.found) spot) look → Looked
  free_step (Spot.Under i n) to none looks =
      let spot = Spot.Under i n in
      let next = next_free spot to none in
      under_step setup setting cores t stands c here a active (earlier (with_found [] a.found) i) n is_open has.acts
      (λ h. may_free spot to none Reply.NoSlot h) (λ out. first_free spot to none Reply.NoSlot
      (vacant_no_slot s c (target spot to none) out))
      (λ g j h. way (target spot to none) (subst (λ x. NextPlace s c x (target spot to none)) (sym next) refl) g j h)
      (looks_more (NextFree (target spot to none)) next)
      (λ at v arrives reads shows only. ends_for next at v (free_at spot to none at v arrives reads shows only))
      room look stage_is looks
  free_step (Spot.InRoot i x) to none looks =
      let spot = Spot.InRoot i x in
      let next = next_free spot to none in
      in_root_step setup setting cores t stands c here a active (earlier (with_found [] a.found) i) x is_open has.acts
      (λ h. may_free spot to none Reply.NoSlot h) (λ out. first_free spot to none Reply.NoSlot
      (vacant_no_slot s c (target spot to none) out))
      (λ g j h. way (target spot to none) (subst (λ y. NextPlace s c y (target spot to none)) (sym next) refl) g j h)
      (looks_more (NextFree (target spot to none)) next)
      (λ at v arrives reads shows only. ends_for next at v (free_at spot to none at v arrives reads shows only))
      room look stage_is looks

  -- A target that is to be held is looked up.
  module _ (spot : Spot) (to : (plan_for a.call).target ≡ Held spot) (none : names_after (plan_for a.call).names a.found ≡ []) where
    abbrev held_target : place
    held_target = place_of_spot (with_found [] a.found) spot

    next_held : next_of (plan_for a.call) a.found ≡ NextHeld held_target
    next_held = next_end (plan_for a.call) a.found (Held spot) none to

    may_held : (r : Reply) → NextMay s c (own_pages s c) (NextHeld held_target) r → RuleMay s c (rule_of s c a.call) r
    may_held r h = may a.found leads r (subst (λ x. NextMay s c (own_pages s c) x r) (sym next_held) h)

    first_held : (r : Reply) → held s c held_target ≡ Refused r → change_of s c a.call ≡ Refused r
    first_held r h = first a.found leads r (subst (λ x. NextRefused s c (own_pages s c) x r) (sym next_held) h)

    begins_by : BeginsRemoval (cores c).own a.call a.found
    begins_by = begins_removal (cores c).own a.call spot
        to a.found

    removes_next : (at : Slot) (arrives : Arrives setup t c held_target at) (k : Capability)
        → entry_of_word (last_left setup t (EntryAt at.node at.index)) ≡ Some (Entry.Held k)
        → ShowsHeld setup.frames (place_at s at) k → OnlyLooks setup t c a.call (LoadOf (EntryAt at.node at.index))
        → GoodTook setup cores t c (LoadOf (EntryAt at.node at.index))
        (landed a (Goes (next_work (cores c).own.core 0 (removing (cores c).own.core k
        (found_at at.node at.index (last_left setup t (EntryAt at.node at.index)) (Entry.Held k))))))
    removes_next at arrives k reads shows looks lands =
        let word = last_left setup t (EntryAt at.node at.index) in
        let e : Step = arriving setup t c held_target at word arrives in
        let act : ActOf = removing (cores c).own.core k (found_at at.node at.index word (Entry.Held k)) in
        loads_on setup setting cores t stands c here a active (LoadOf (EntryAt at.node at.index)) a.found
        (Undecided (next_work (cores c).own.core 0 act)) looks lands
        (next_holds (cores c).own.core 0 act (holds_counts None a.counts) ∙ sym held_is) opens
        (λ carries. record {
          acts = has.acts;
          names = names_on setup setting t e stands.legal c a.call is_open carries table (plan_for a.call) a.found has.names;
          knows = knows_next setup (e ∷ t) c table (next_at a a.found (Undecided (next_work (cores c).own.core 0 act))) (cores c).own.core
              act (dues act) (stands.each c here).number
              (record {
                removal = record {
                  target = held_target;
                  next = next_held;
                  way = reached_now setup t c held_target at word arrives;
                  usable = use_held s c at k shows.holds;
                  fits = shows.fits;
                  removes = begins_by.removes;
                };
                own = own_read-here c e t refl (EntryAt at.node at.index) refl ∙ ap (λ b. if b then Some word else None)
                    (eq-eqb word word refl);
                held = reads;
                core = (stands.each c here).number;
              })
              (ap (λ (xs : List Acquired). map due_of xs ++ dues act) (sym no_counts))
              (one_apart (dues act) (cap_one k.kind k.frame k.arg (negsuc 0))) 0
              (ap (λ (xs : List Acquired). length xs) (sym no_counts)) refl refl;
        })

    held_at : (at : Slot) (v : Entry) → Arrives setup t c held_target at
        → entry_of_word (last_left setup t (EntryAt at.node at.index)) ≡ Some v → Shows setup.frames (place_at s at) v
        → OnlyLooks setup t c a.call (LoadOf (EntryAt at.node at.index))
        → GoodTook setup cores t c (LoadOf (EntryAt at.node at.index))
        (landed a (met_held (cores c).own a.call a.found (found_at at.node at.index (last_left setup t (EntryAt at.node at.index)) v)
        v))
    held_at at Entry.Free arrives reads shows looks =
        refuses_empty setup setting cores t stands c here a active opens held_is room (LoadOf (EntryAt at.node at.index)) looks
        has.acts (may_held Reply.Empty (reaches_none s c held_target at arrives.reached (ap held_in shows)))
        (λ nobody. first_held Reply.Empty (held_empty s c held_target at arrives.reached (ap held_in shows)))
    held_at at (Entry.Held k) arrives reads shows looks =
        subst (λ step. GoodTook setup cores t c (LoadOf (EntryAt at.node at.index)) (landed a step)) (sym (begins_by.act _))
        (removes_next at arrives k reads shows looks)
    held_at at (Entry.Closing d) arrives reads shows looks = absurd shows
    held_at at (Entry.Quiescing x) arrives reads shows looks =
        refuses_empty setup setting cores t stands c here a active opens held_is room (LoadOf (EntryAt at.node at.index)) looks
        has.acts (may_held Reply.Empty (reaches_none s c held_target at arrives.reached (ap held_in shows.removed)))
        (λ nobody. first_held Reply.Empty (held_empty s c held_target at arrives.reached (ap held_in shows.removed)))

  held_step : (spot : Spot) (to : (plan_for a.call).target ≡ Held spot) (none : names_after (plan_for a.call).names a.found ≡ [])
      → LooksUp setup t c (place_of_spot (with_found [] a.found) spot) look → Looked
  held_step (Spot.Under i n) to none looks =
      let spot = Spot.Under i n in
      let next = next_held spot to none in
      under_step setup setting cores t stands c here a active (earlier (with_found [] a.found) i) n is_open has.acts
      (λ h. may_held spot to none Reply.NoSlot h) (λ out. first_held spot to none Reply.NoSlot
      (held_no_slot s c (held_target spot to none) out))
      (λ g j h. way (held_target spot to none) (subst (λ x. NextPlace s c x (held_target spot to none)) (sym next) refl) g j h)
      (looks_more (NextHeld (held_target spot to none)) next)
      (λ at v arrives reads shows only. ends_for next at v (held_at spot to none at v arrives reads shows only))
      room look stage_is looks
  held_step (Spot.InRoot i x) to none looks =
      let spot = Spot.InRoot i x in
      let next = next_held spot to none in
      in_root_step setup setting cores t stands c here a active (earlier (with_found [] a.found) i) x is_open has.acts
      (λ h. may_held spot to none Reply.NoSlot h) (λ out. first_held spot to none Reply.NoSlot
      (held_no_slot s c (held_target spot to none) out))
      (λ g j h. way (held_target spot to none) (subst (λ y. NextPlace s c y (held_target spot to none)) (sym next) refl) g j h)
      (looks_more (NextHeld (held_target spot to none)) next)
      (λ at v arrives reads shows only. ends_for next at v (held_at spot to none at v arrives reads shows only))
      room look stage_is looks

  pub lookup_good : Looked
  lookup_good = by (rest_of (plan_for a.call) a.found)
    where
      for : (next : Next) → next_of (plan_for a.call) a.found ≡ next → LooksFor setup t c table next look
      for next is = subst (λ x. LooksFor setup t c table x look) is has.knows.looks

      by_target : (to : Target) → (plan_for a.call).target ≡ to → names_after (plan_for a.call).names a.found ≡ [] → Looked
      by_target Nowhere to none = absurd (for NextNothing (next_end (plan_for a.call) a.found Nowhere none to))
      by_target (Free spot) to none =
          free_step spot to none (for (NextFree (place_of_spot (with_found [] a.found) spot))
          (next_end (plan_for a.call) a.found (Free spot) none to))
      by_target (Held spot) to none =
          held_step spot to none (for (NextHeld (place_of_spot (with_found [] a.found) spot))
          (next_end (plan_for a.call) a.found (Held spot) none to))
      by_target (own_page v) to none = absurd (for (NextOwn v) (next_end (plan_for a.call) a.found (own_page v) none to))

      by : Rest (plan_for a.call) a.found → Looked
      by (ANameLeft name rest left) =
          name_step name rest left (for (NextName name.number (want_of (with_found [] a.found) name))
          (next_name (plan_for a.call) a.found name rest left))
      by (NoneLeft none) = by_target (plan_for a.call).target refl none
