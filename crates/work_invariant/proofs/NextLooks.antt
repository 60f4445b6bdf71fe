-- What comes next of a call whose names have led to one capability more: the next name, the target, or, before a target that is to be
-- free, the word of the component that the call reads.
use Rattle.comp_invariant.specs as low
use low.step_ways.proofs.{acts, Move, word_of, ◌≡◌, ℕ, ◌<◌, leb as nat_le, Bool, true, false, IsTrue, List, [], ◌∷◌, Option, Some, None}
use low.step_ways.proofs.{refl, sym, ◌∙◌, ap, subst, leb-true, Capability, Setting, IsSetting, Reply, State, comp_of, Named, found, reached}
use low.step_ways.proofs.{own, Under, InRoot, RuleMay, Refused, rule_of, change_of, are_calls_spent, Step, Trace, Open, phase, state_after}
use low.step_ways.proofs.{last_left, refused_first, Carries, Look, AtRoot, AtEntry, Spot, Nowhere, plan_for, GoesBy, own_pages, names_after}
use low.step_ways.proofs.{Leads, LeadsIn, Next, NextName, NextFree, NextHeld, next_of, calls_go, Lookup, Read, Undecided, ActiveCall, Goes}
use low.step_ways.proofs.{WorkStep, refuse, reads_of, act_begun, holds_counts, ReadIs, LooksUp, own_in, NamesAre, phase_at, landed}
use low.step_ways.proofs.{found_more, Core, holds_in, Invariant, Relies, Target as place, next_by as what_next, OnlyLooks, core_is, call_is}
use low.step_ways.proofs.{loads_on, decides_on, step_to, GoodTook, not_spent, Refusal}
use low.act_states.specs.{root_at, with_found, want_of, earlier, read_first, looks_under, looks_entry, looks_at, next_step}
use low.count_invariant.proofs.{own_is, Rest, ANameLeft, NoneLeft, rest_of, next_name, next_end}
use low.call_plans.specs.{NextMay, place_of_spot, next_target}
use low.call_plans.specs.declared.plans.Target.TheVariants.{Free, Held, Own as own_page}
use low.count_invariant.proofs.Findings.{past_slot, past_unreached, named_no_slot}
use Rattle.work_invariant.proofs.ByCall.{vacant_no_slot, held_no_slot, past_entry, past_entry_unreached, own_unnamed}
use low.{core_invariant.specs.ReadBefore, core_invariant.specs.LooksFor, call_plans.proofs.next_may, call_plans.proofs.rooted}
use low.{kernel_rules.specs.Access.has_no_slot, trace_laws.proofs.Stays.relies_table, call_plans.specs.declared.plans.Target.Target}
use low.{call_plans.specs.Rooted.IsRooted, plan_ways.specs.Laws.NextRefused, plan_ways.proofs.Ways.next_first}
use low.{count_invariant.proofs.Next.MayUse, count_invariant.proofs.Next.spot_relies}
use Rattle.{work_invariant.proofs.Reading.reads_comp}

module _ (setup : Setting) (setting : IsSetting setup) (cores : ℕ → Core) (t : Trace) (stands : Invariant setup cores t) (c : ℕ)
    (here : c < setup.cores)
    (a : ActiveCall) (active : (cores c).active ≡ Some a) (opens : phase_at a.call a.stage ≡ Open a.call)
    (held_is : holds_in (Some a) ≡ holds_counts None a.counts) (no_counts : a.counts ≡ []) (room : (cores c).own.made < (cores c).own.limit)
    (move : Move) (looks : OnlyLooks setup t c a.call move)
    (may_act : IsTrue (acts (state_after setup t) c a.call)) (more : List Capability)
    (leads : Leads (LeadsIn (state_after setup t) c) (plan_for a.call).names [] more)
    (uses : Leads (MayUse (state_after setup t) c) (plan_for a.call).names [] more)
    (names : Carries setup t (step_to c None move (last_left setup t (word_of move)) None None) c
    → NamesAre setup (step_to c None move (last_left setup t (word_of move)) None None ∷ t) c
    (cores c).own.table (plan_for a.call) more) where
  abbrev s : State
  s = state_after setup t

  abbrev table : ℕ
  table = (cores c).own.table

  abbrev e : Step
  e = step_to c None move (last_left setup t (word_of move)) None None

  table_is : table ≡ (comp_of s c).table
  table_is = (stands.each c here).works.table

  is_open : phase t c ≡ Open a.call
  is_open = (call_is setup setting cores t stands c here a active).phase ∙ opens

  still : (fate : Option (Option ℕ)) → holds_counts fate a.counts ≡ holds_in (Some a)
  still fate = ap (holds_counts fate) no_counts ∙ sym (ap (holds_counts None) no_counts) ∙ sym held_is

  goes_by : GoesBy (own_pages s c) (plan_for a.call) (rule_of s c a.call)
  goes_by = calls_go s c a.call

  may : (r : Reply) → NextMay s c (own_pages s c) (next_of (plan_for a.call) more) r → RuleMay s c (rule_of s c a.call) r
  may r h = next_may s c (own_pages s c) (plan_for a.call) (rule_of s c a.call) more goes_by leads r h

  first : (r : Reply) → NextRefused s c (own_pages s c) (next_of (plan_for a.call) more) r → change_of s c a.call ≡ Refused r
  first r h = next_first s c (own_pages s c) (plan_for a.call) (rule_of s c a.call) more goes_by leads r h

  own_target : (n : ℕ) → own_in table n ≡ own s c n
  own_target n = own_is s c table n table_is

  -- the load refuses the call with `no-slot`
  no_slot : RuleMay s c (rule_of s c a.call) Reply.NoSlot → change_of s c a.call ≡ Refused Reply.NoSlot
      → GoodTook setup cores t c move (landed (found_more a more) (refuse Refusal.NoSlot))
  no_slot may is lands =
      let unspent : are_calls_spent s c ≡ false = not_spent setup (cores c) t c (core_is setup setting cores t stands c here a active)
      room in
      decides_on setup setting cores t stands c here a active move Reply.NoSlot more looks lands (still None)
      opens refl refl (λ x. refl) (λ x. refl) refl
      (unspent, may) tt (λ is_alone. refused_first s c a.call Reply.NoSlot may_act unspent is)

  -- What comes next of the call, after the load of the word of this component, if it reads one, is good.
  abbrev Begun : Option ℕ → WorkStep → Type 0
  Begun o step = GoodTook setup cores t c move (landed (found_more a more) (read_first o step))

  -- the next look-up begins
  looks_next : (next : Next) → next_of (plan_for a.call) more ≡ next → ReadBefore s c (reads_of a.call more) a.read next
      → (look : Look) → LooksFor setup (e ∷ t) c table next look → Begun None (Goes (Lookup look))
  looks_next next is reads look looks_for lands =
      loads_on setup setting cores t stands c here a active move more (Undecided (Lookup look)) looks
      lands (still None) opens
      (λ carries. record {
        acts = may_act;
        names = names carries;
        knows = record {
          looks = subst (λ x. LooksFor setup (e ∷ t) c table x look) (sym is) looks_for;
          has_read = subst (ReadBefore s c (reads_of a.call more) a.read) (sym is) reads;
        };
      })

  -- the component's word is loaded before the next look-up
  reads_next : (f : ℕ) → reads_of a.call more ≡ Some f → (target : place) → next_of (plan_for a.call) more ≡ NextFree target
      → (look : Look) → LooksUp setup (e ∷ t) c target look → Begun (Some f) (Goes (Lookup look))
  reads_next f reads target is look up lands =
      loads_on setup setting cores t stands c here a active move more (Undecided (Read f look)) looks
      lands (still None) opens
      (λ carries. record {
        acts = may_act;
        names = names carries;
        knows = record {
          target = target;
          next = is;
          looks = up;
          reads = reads;
          comp = reads_comp setup setting t stands.legal c a.call is_open more
              leads f reads;
        };
      })

  no_slot_first : (o : Option ℕ) → RuleMay s c (rule_of s c a.call) Reply.NoSlot → change_of s c a.call ≡ Refused Reply.NoSlot
      → Begun o (refuse Refusal.NoSlot)
  no_slot_first None = no_slot
  no_slot_first (Some f) = no_slot

  -- what the next is, said of the slot
  under_good : (o : Option ℕ) (next : Next) → next_of (plan_for a.call) more ≡ next → (root : Named) (n : ℕ) → root.found ≡ true
      → Relies s c root.frame
      → (((look : Look) → LooksUp setup (e ∷ t) c (Under root n) look → Begun o (Goes (Lookup look))))
      → (nat_le n 4095 ≡ false → NextMay s c (own_pages s c) next Reply.NoSlot)
      → (nat_le n 4095 ≡ false → NextRefused s c (own_pages s c) next Reply.NoSlot)
      → Begun o (looks_under (nat_le n 4095) root.frame n)
  under_good o next is root n found relies for may_not refused = by (nat_le n 4095) refl
    where
      by : (within : Bool) → nat_le n 4095 ≡ within → Begun o (looks_under within root.frame n)
      by true within = for (AtRoot root.frame n) (record {
        relies = relies;
        at = record { found = found; frame = refl; same = refl; within = leb-true n 4095 within };
      })
      by false past = no_slot_first o (may Reply.NoSlot
          (subst (λ x. NextMay s c (own_pages s c) x Reply.NoSlot) (sym is) (may_not past)))
          (first Reply.NoSlot (subst (λ x. NextRefused s c (own_pages s c) x Reply.NoSlot) (sym is) (refused past)))

  entry_good : (o : Option ℕ) (next : Next) → next_of (plan_for a.call) more ≡ next → (root : Named) (i : ℕ) → root.found ≡ true
      → Relies s c root.frame
      → (((look : Look) → LooksUp setup (e ∷ t) c (InRoot root i) look → Begun o (Goes (Lookup look))))
      → (nat_le i 63 ≡ false → NextMay s c (own_pages s c) next Reply.NoSlot)
      → (nat_le i 63 ≡ false → NextRefused s c (own_pages s c) next Reply.NoSlot)
      → Begun o (looks_entry (nat_le i 63) root.frame i)
  entry_good o next is root i found relies for may_not refused = by (nat_le i 63) refl
    where
      by : (within : Bool) → nat_le i 63 ≡ within → Begun o (looks_entry within root.frame i)
      by true within = for (AtEntry root.frame i) (record {
        relies = relies;
        at = record { found = found; frame = refl; same = refl; within = leb-true i 63 within };
      })
      by false past = no_slot_first o (may Reply.NoSlot
          (subst (λ x. NextMay s c (own_pages s c) x Reply.NoSlot) (sym is) (may_not past)))
          (first Reply.NoSlot (subst (λ x. NextRefused s c (own_pages s c) x Reply.NoSlot) (sym is) (refused past)))

  -- the target is looked up next
  is_rooted : (target : Target) → (plan_for a.call).target ≡ target → IsRooted (plan_for a.call).names target
  is_rooted target to = subst (IsRooted (plan_for a.call).names) to (rooted a.call)

  -- one that is to be free, after the load of what the call reads
  free_first : (o : Option ℕ) → reads_of a.call more ≡ o → (target : place) → next_of (plan_for a.call) more ≡ NextFree target
      → (look : Look) → LooksUp setup (e ∷ t) c target look → Begun o (Goes (Lookup look))
  free_first None reads target is = looks_next (NextFree target) is (subst (λ o. ReadIs s c o a.read) (sym reads) tt)
  free_first (Some f) reads target is = reads_next f reads target is

  free_good : (spot : Spot) → (plan_for a.call).target ≡ Free spot → names_after (plan_for a.call).names more ≡ []
      → next_of (plan_for a.call) more ≡ NextFree (place_of_spot (with_found [] more) spot)
      → Begun (reads_of a.call more) (looks_at (place_of_spot (with_found [] more) spot))
  free_good (Spot.Under i n) to none is =
      let root = spot_relies setup setting t stands.legal c a.call is_open (plan_for a.call) more (Spot.Under i n)
      (is_rooted (Free (Spot.Under i n)) to) uses none in
      under_good (reads_of a.call more) (NextFree (Under (earlier (with_found [] more) i) n)) is (earlier (with_found [] more) i) n
      root.1 root.0
      (free_first (reads_of a.call more) refl (Under (earlier (with_found [] more) i) n) is)
      (λ past. past_slot s (earlier (with_found [] more) i) n past)
      (λ past. vacant_no_slot s c (Under (earlier (with_found [] more) i) n)
      (past_unreached s c (earlier (with_found [] more) i) n past))
  free_good (Spot.InRoot i x) to none is =
      let root = spot_relies setup setting t stands.legal c a.call is_open (plan_for a.call) more (Spot.InRoot i x)
      (is_rooted (Free (Spot.InRoot i x)) to) uses none in
      entry_good (reads_of a.call more) (NextFree (InRoot (earlier (with_found [] more) i) x)) is (earlier (with_found [] more) i) x
      root.1 root.0
      (free_first (reads_of a.call more) refl (InRoot (earlier (with_found [] more) i) x) is)
      (λ past. past_entry x past) (λ past. vacant_no_slot s c (InRoot (earlier (with_found [] more) i) x)
      (past_entry_unreached s c (earlier (with_found [] more) i) x past))

  held_good : (spot : Spot) → (plan_for a.call).target ≡ Held spot → names_after (plan_for a.call).names more ≡ []
      → next_of (plan_for a.call) more ≡ NextHeld (place_of_spot (with_found [] more) spot)
      → GoodTook setup cores t c move
      (landed (found_more a more) (looks_at (place_of_spot (with_found [] more) spot)))
  held_good (Spot.Under i n) to none is =
      let root = spot_relies setup setting t stands.legal c a.call is_open (plan_for a.call) more (Spot.Under i n)
      (is_rooted (Held (Spot.Under i n)) to) uses none in
      under_good None (NextHeld (Under (earlier (with_found [] more) i) n)) is (earlier (with_found [] more) i) n root.1 root.0
      (looks_next (NextHeld (Under (earlier (with_found [] more) i) n)) is tt)
      (λ past. past_slot s (earlier (with_found [] more) i) n past)
      (λ past. held_no_slot s c (Under (earlier (with_found [] more) i) n)
      (past_unreached s c (earlier (with_found [] more) i) n past))
  held_good (Spot.InRoot i x) to none is =
      let root = spot_relies setup setting t stands.legal c a.call is_open (plan_for a.call) more (Spot.InRoot i x)
      (is_rooted (Held (Spot.InRoot i x)) to) uses none in
      entry_good None (NextHeld (InRoot (earlier (with_found [] more) i) x)) is (earlier (with_found [] more) i) x root.1 root.0
      (looks_next (NextHeld (InRoot (earlier (with_found [] more) i) x)) is tt)
      (λ past. past_entry x past) (λ past. held_no_slot s c (InRoot (earlier (with_found [] more) i) x)
      (past_entry_unreached s c (earlier (with_found [] more) i) x past))

  target_good : ((plan_for a.call).names ≡ [] → ⊥) → (target : Target) → (plan_for a.call).target ≡ target
      → names_after (plan_for a.call).names more ≡ []
      → (target ≡ Nowhere → GoodTook setup cores t c move
      (landed (found_more a more) (act_begun (cores c).own a.call more None None)))
      → GoodTook setup cores t c move
      (landed (found_more a more) (next_step (cores c).own a.call more (next_target (with_found [] more) target)))
  target_good named Nowhere to none acts = acts refl
  target_good named (Free spot) to none acts = free_good spot to none (next_end (plan_for a.call) more (Free spot) none to)
  target_good named (Held spot) to none acts = held_good spot to none (next_end (plan_for a.call) more (Held spot) none to)
  target_good named (own_page v) to none acts =
      absurd (named (own_unnamed a.call v to))

  pub next_good : ((plan_for a.call).names ≡ [] → ⊥) → ((plan_for a.call).target ≡ Nowhere → names_after (plan_for a.call).names more ≡ []
      → GoodTook setup cores t c move
      (landed (found_more a more) (act_begun (cores c).own a.call more None None)))
      → GoodTook setup cores t c move
      (landed (found_more a more) (what_next (cores c).own (found_more a more)))
  next_good named acts = by (rest_of (plan_for a.call) more)
    where
      Goal : Next → Type 0
      Goal next = GoodTook setup cores t c move
          (landed (found_more a more) (next_step (cores c).own a.call more next))

      by : Rest (plan_for a.call) more → Goal (next_of (plan_for a.call) more)
      by (ANameLeft name2 rest2 is) =
          let next = next_name (plan_for a.call) more name2 rest2 is in
          subst Goal (sym next) (under_good None (NextName name2.number (want_of (with_found [] more) name2)) next (root_at table)
          name2.number refl
          (subst (Relies s c) (sym table_is)
          (relies_table setup setting t stands.legal c a.call is_open))
          (looks_next (NextName name2.number (want_of (with_found [] more) name2)) next tt)
          (λ past. subst (λ x. IsTrue (has_no_slot s x)) (own_target name2.number) (past_slot s (root_at table) name2.number past))
          (λ past. named_no_slot s c name2.number (want_of (with_found [] more) name2)
          (ap (reached s c) (sym (own_target name2.number)) ∙ past_unreached s c (root_at table) name2.number past)))
      by (NoneLeft none) = subst Goal (sym (next_end (plan_for a.call) more (plan_for a.call).target none refl))
          (target_good named (plan_for a.call).target refl none (λ nowhere. acts nowhere none))
