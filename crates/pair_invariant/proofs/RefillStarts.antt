-- A call that gives ticks back begins where its name has led to a temporal capability; and each of its steps is good.
use Rattle.count_invariant.specs.step_ways.proofs as low
use low.{acts, IsTrue, ◌≡◌, ℕ, zero, suc, ◌<◌, map, List, [], ◌∷◌, Some, None, refl, sym, ◌∙◌, ap, subst, Capability, Setting, IsSetting}
use low.{Call, Move, word_of, told_of, State, only, Found, named, Step, Trace, Open, phase, state_after, last_left, Carries, Name, Plan}
use low.{plan_for, Leads, LeadsIn, names_after, GoesBy, own_pages, rule_of, of_kind, Acquired, Act, Undecided, act_begun, ActiveCall}
use low.{landed, found_more, Core, holds_counts, due_of, NamesAre, phase_at, holds_in, Invariant, KnowsUndecided, WorksIn, Replenish}
use low.{to_use, Refill as refill_act, OnlyLooks, step_to, call_is, loads_on, GoodTook, Kind}
use Rattle.count_invariant.specs.act_states.specs.{Refill, RefillAt, Again, left_among, took_refill}
use Rattle.count_invariant.specs.stage_tcap.specs.declared.refill.RefillAt.TheVariants.{Load, List as at_list, Compare}
use Rattle.pair_invariant.proofs.{RefillEnds.again_good, RefillLoads.load_good, RefillLoads.list_good, RefillWins.compare_good}
use Rattle.pair_invariant.proofs.{ShareStarts.IsNamed, ShareStarts.tcap_named}
use Rattle.{count_invariant.specs.core_invariant.specs.Refills.RefillsBy, count_invariant.specs.stage_tcap.specs.Refilling.refill_move}
use Rattle.{count_invariant.specs.act_states.specs.Refills.refilling}

-- The name has led to this.
record OneLed (s : State) (c x : ℕ) (ks : List Capability) : Type 0 where
  first : Capability
  only_it : ks ≡ first ∷ []
  led : named s c x (to_use (only Kind.Tcap)) ≡ Found first

one_led : (s : State) (c x : ℕ) (ks : List Capability) → Leads (LeadsIn s c) (of_kind Kind.Tcap x ∷ []) [] ks
    → names_after (of_kind Kind.Tcap x ∷ []) ks ≡ [] → OneLed s c x ks
one_led s c x [] leads none = absurd (cc)
one_led s c x (k ∷ []) leads none = record { first = k; only_it = refl; led = leads.0 }
one_led s c x (k ∷ l ∷ ks) leads none = absurd (leads.1)

module _ (setup : Setting) (setting : IsSetting setup) (cores : ℕ → Core) (t : Trace) (stands : Invariant setup cores t) (c : ℕ)
    (here : c < setup.cores)
    (a : ActiveCall) (active : (cores c).active ≡ Some a) (opens : phase_at a.call a.stage ≡ Open a.call)
    (held_is : holds_in (Some a) ≡ holds_counts None a.counts) (no_counts : a.counts ≡ [])
    (room : (cores c).own.made < (cores c).own.limit)
    (by_plan : GoesBy (own_pages (state_after setup t) c) (plan_for a.call) (rule_of (state_after setup t) c a.call))
    (move : Move) (looks : OnlyLooks setup t c a.call move)
    (may_act : IsTrue (acts (state_after setup t) c a.call)) where
  abbrev s : State
  s = state_after setup t

  abbrev e : Step
  e = step_to c None move (last_left setup t (word_of move)) None None

  open_now : phase t c ≡ Open a.call
  open_now = (call_is setup setting cores t stands c here a active).phase ∙ opens

  module _ (ks : List Capability) (leads : Leads (LeadsIn s c) (plan_for a.call).names [] ks)
      (none : names_after (plan_for a.call).names ks ≡ [])
      (names : Carries setup t e c → NamesAre setup (e ∷ t) c (cores c).own.table (plan_for a.call) ks) (x m : ℕ)
      (call_so : a.call ≡ Replenish x m) where
    begins : (k : Capability) → ks ≡ k ∷ [] → IsNamed s c k
        → GoodTook setup cores t c move (landed (found_more a ks) (act_begun (cores c).own (Replenish x m) (k ∷ []) None None))
    begins k one is lands =
        loads_on setup setting cores t stands c here a active move ks
        (Undecided (Act (refill_act (refilling (cores c).own m k.frame)))) looks lands (sym held_is) opens
        (λ carries. record {
          acts = may_act;
          names = names carries;
          knows = record {
            knows = record {
              refills = subst (λ (z : Call). RefillsBy s c z ks (refilling (cores c).own m k.frame)) (sym call_so)
                  (subst (λ (zs : List Capability). RefillsBy s c (Replenish x m) zs (refilling (cores c).own m k.frame)) (sym one)
                  (record {
                    tcap = refl;
                    kind = is.kind_is;
                    ticks = refl;
                    left = ap (λ (n : ℕ). left_among n (cores c).own.back) works.spent
                        ∙ ap (λ (n : ℕ). left_among (s.core c).spent n) works.back;
                    grant = works.grant;
                  }));
              tcap = is.tcap;
              at = refl;
            };
            all = ap (λ (xs : List Acquired). map due_of xs) (sym no_counts);
            goes = refl;
          };
        })
      where
        works : WorksIn (cores c).own s c
        works = (stands.each c here).works

    pub refills_good : GoodTook setup cores t c move (landed (found_more a ks) (act_begun (cores c).own (Replenish x m) ks None None))
    refills_good =
        let plan_names : (plan_for a.call).names ≡ of_kind Kind.Tcap x ∷ [] =
        ap (λ (p : Plan). p.names) (ap plan_for call_so) in
        let led = one_led s c x ks (subst (λ (ns : List Name). Leads (LeadsIn s c) ns [] ks) plan_names leads)
        (subst (λ (ns : List Name). names_after ns ks ≡ []) plan_names none) in
        subst (λ (zs : List Capability).
        GoodTook setup cores t c move (landed (found_more a ks) (act_begun (cores c).own (Replenish x m) zs None None)))
        (sym led.only_it)
        (begins led.first led.only_it
        (tcap_named setup setting t stands.legal c a.call open_now x led.first led.led))

-- The steps after it.
module _ (setup : Setting) (setting : IsSetting setup) (cores : ℕ → Core) (t : Trace) (stands : Invariant setup cores t) (c : ℕ)
    (here : c < setup.cores) (a : ActiveCall) (active : (cores c).active ≡ Some a) where
  abbrev pub RefillGood : Refill → Type 0
  RefillGood r = GoodTook setup cores t c (refill_move r)
      (landed a (took_refill r (told_of (refill_move r) (last_left setup t (word_of (refill_move r))))))

  pub refill_good : (r : Refill) → a.stage ≡ Undecided (Act (refill_act r))
      → KnowsUndecided setup t c (cores c).own.table a (Act (refill_act r)) → RefillGood r
  refill_good r stage_is has = by r.at stage_is has
    where
      by : (at : RefillAt) → a.stage ≡ Undecided (Act (refill_act (record r { at = at })))
          → KnowsUndecided setup t c (cores c).own.table a (Act (refill_act (record r { at = at }))) → RefillGood (record r { at = at })
      by Load is has = load_good setup setting cores t stands c here a active r is has
      by (at_list zero) is has = absurd has.knows.knows.at
      by (at_list (suc n)) is has = list_good setup setting cores t stands c here a active r n is has
      by Compare is has = compare_good setup setting cores t stands c here a active r is has
      by Again is has = again_good setup setting cores t stands c here a active r is has
