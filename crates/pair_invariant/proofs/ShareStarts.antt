-- A call on two temporal capabilities begins where its names have led to them.
use Rattle.count_invariant.specs as low
use low.step_ways.proofs.{acts, IsTrue, ◌≡◌, inl, ℕ, ◌<◌, ◌==◌, map, Bool, true, false, if◌then◌else◌, List, [], ◌∷◌, Some, None, refl, sym}
use low.step_ways.proofs.{◌∙◌, ap, subst, eqb-false, Capability, Setting, IsSetting, Kind, Call, Transfer, Delegate, Test, Move, word_of}
use low.step_ways.proofs.{State, only, named_by, Found, Refused, Does, RuleMay, named, outcome, unless, first_of, first_cause, rule_of}
use low.step_ways.proofs.{named_fit, suits, only_is, opened, name_parts, events_of, IsLegal, Step, Trace, Open, phase, state_after}
use low.step_ways.proofs.{last_left, refused_first, Carries, sound_of, opened_is, Name, Plan, rule_after, Leads, LeadsIn, names_after}
use low.step_ways.proofs.{GoesBy, own_pages, plan_for, of_kind, outcome_left, left_may, Acquired, Pair, PairWork, Act, act_begun, Undecided}
use low.step_ways.proofs.{ActiveCall, landed, found_more, Core, holds_counts, due_of, NamesAre, phase_at, HasTcap, SharesBy, holds_in}
use low.step_ways.proofs.{Invariant, are_calls_spent, are_many, are_unlike, is_short, Want, to_use, found as named_by_found}
use low.step_ways.proofs.{Share as share_act, OnlyLooks, step_to, call_is, core_is, loads_on, decides_on, GoodTook, not_spent, Reply}
use Rattle.pair_invariant.proofs.ShareCalls.{causes_of, value_by, edits_by, change_by}
use low.{trace_laws.proofs.Stays.guarded_usable, boot_words.specs.kernel_rules.specs.Rules.of_kind as has_kind}
use low.{act_states.specs.Shares.sharing, act_states.specs.Shares.shares_if, core_invariant.specs.Shares.IsShared}

-- What a name leads to is of a wanted kind, and is what was found.
same_found : (wanted : Want) (j k : Capability) → has_kind wanted j ≡ Found k → (j ≡ k) × (wanted.kinds k.kind ≡ true)
same_found wanted j k h =
    let w = suits wanted j k h in
    (w.is, subst (λ (x : Capability). wanted.kinds x.kind ≡ true) w.is w.kind)

-- A temporal capability that an open call has named is there, and no other core may retype it.
pub record IsNamed (s : State) (c : ℕ) (k : Capability) : Type 0 where
  pub kind_is : k.kind ≡ Kind.Tcap
  pub tcap : HasTcap s c k.frame

pub tcap_named : (setup : Setting) → IsSetting setup → (t : Trace) → IsLegal setup t → (c : ℕ) (call : Call) → phase t c ≡ Open call
    → (n : ℕ) (k : Capability) → named (state_after setup t) c n (to_use (only Kind.Tcap)) ≡ Found k → IsNamed (state_after setup t) c k
tcap_named setup setting t legal c call is n k found =
    let s : State = state_after setup t in
    let parts = name_parts s c n (to_use (only Kind.Tcap)) k found in
    let same = same_found (to_use (only Kind.Tcap)) parts.2 k parts.4 in
    let kind_is : k.kind ≡ Kind.Tcap = only_is Kind.Tcap k.kind same.1 in
    record {
      kind_is = kind_is;
      tcap = record {
        tcap = named_fit s (opened (events_of t)) c n Kind.Tcap k (sound_of setup setting t legal) (opened_is t c call is) found;
        guarded = guarded_usable setup setting t legal c call is parts.0 k
            (ap (λ (j : Kind). named_by j k.frame) kind_is)
            (parts.3 ∙ ap (λ (j : Capability). Some j) same.0);
      };
    }

-- Two names have led to these two.
record TwoLed (s : State) (c x y : ℕ) (ks : List Capability) : Type 0 where
  first : Capability
  second : Capability
  both : ks ≡ first ∷ second ∷ []
  first_led : named s c x (to_use (only Kind.Tcap)) ≡ Found first
  second_led : named s c y (to_use (only Kind.Tcap)) ≡ Found second

abbrev two_names : ℕ → ℕ → List Name
two_names x y = of_kind Kind.Tcap x ∷ of_kind Kind.Tcap y ∷ []

two_led : (s : State) (c x y : ℕ) (ks : List Capability) → Leads (LeadsIn s c) (two_names x y) [] ks → names_after (two_names x y) ks ≡ []
    → TwoLed s c x y ks
two_led s c x y [] leads none = absurd (cc)
two_led s c x y (j ∷ []) leads none = absurd (cc)
two_led s c x y (j ∷ k ∷ []) leads none = record { first = j; second = k; both = refl; first_led = leads.0; second_led = leads.1.0 }
two_led s c x y (j ∷ k ∷ l ∷ ks) leads none = absurd (leads.1.1)

module _ (setup : Setting) (setting : IsSetting setup) (cores : ℕ → Core) (t : Trace) (stands : Invariant setup cores t) (c : ℕ)
    (here : c < setup.cores)
    (a : ActiveCall) (active : (cores c).active ≡ Some a) (opens : phase_at a.call a.stage ≡ Open a.call)
    (held_is : holds_in (Some a) ≡ holds_counts None a.counts) (no_counts : a.counts ≡ [])
    (room : (cores c).own.made < (cores c).own.limit)
    (by_plan : GoesBy (own_pages (state_after setup t) c) (plan_for a.call) (rule_of (state_after setup t) c a.call))
    (move : Move) (looks : OnlyLooks setup t c a.call move)
    (may_act : IsTrue (acts (state_after setup t) c a.call)) where
  abbrev s : State
  s = state_after setup t

  abbrev e : Step
  e = step_to c None move (last_left setup t (word_of move)) None None

  open_now : phase t c ≡ Open a.call
  open_now = (call_is setup setting cores t stands c here a active).phase ∙ opens

  module _ (j k : Capability) (what : PairWork) (leads : Leads (LeadsIn s c) (plan_for a.call).names [] (j ∷ k ∷ []))
      (names : Carries setup t e c → NamesAre setup (e ∷ t) c (cores c).own.table (plan_for a.call) (j ∷ k ∷ []))
      (first : IsNamed s c j) (second : IsNamed s c k)
      (left : rule_after (rule_of s c a.call) (j ∷ k ∷ [])
      ≡ Does (causes_of s what (named_by_found j) (named_by_found k)) (value_by s what j.frame k.frame) (edits_by s what j.frame k.frame))
      (shares : (p : Pair) → IsShared j k what p → SharesBy a.call (j ∷ k ∷ []) p) where
    -- the causes of each begin with `same`
    same_may : (w : PairWork) → (j.frame == k.frame) ≡ true
        → RuleMay s c (Does (causes_of s w (named_by_found j) (named_by_found k)) (value_by s w j.frame k.frame)
        (edits_by s w j.frame k.frame)) Reply.Same
    same_may (PairWork.Transfer m) same = inl (same, refl)
    same_may (PairWork.Delegate m) same = inl (same, refl)
    same_may PairWork.Test same = inl (same, refl)

    same_first : (w : PairWork) → (j.frame == k.frame) ≡ true
        → unless (first_cause s c (causes_of s w (named_by_found j) (named_by_found k))) (change_by c s w j.frame k.frame)
        ≡ Refused Reply.Same
    same_first (PairWork.Transfer m) same = ap (λ b. unless (first_of (if b then Some Reply.Same else None)
        (first_cause s c (is_short s (named_by_found j) m
        ∷ are_unlike s (named_by_found j) (named_by_found k) ∷ [])))
        (change_by c s (PairWork.Transfer m) j.frame k.frame)) same
    same_first (PairWork.Delegate m) same = ap (λ b. unless (first_of (if b then Some Reply.Same else None)
        (first_cause s c (is_short s (named_by_found j) m
        ∷ are_many s (named_by_found j) (named_by_found k) ∷ [])))
        (change_by c s (PairWork.Delegate m) j.frame k.frame)) same
    same_first PairWork.Test same =
        ap (λ b. unless (first_of (if b then Some Reply.Same else None) None) (change_by c s PairWork.Test j.frame k.frame)) same

    abbrev Begins : Bool → Type 0
    Begins same = GoodTook setup cores t c move
        (landed (found_more a (j ∷ k ∷ [])) (shares_if same (cores c).own.core what j.frame k.frame))

    unspent : are_calls_spent s c ≡ false
    unspent = not_spent setup (cores c) t c (core_is setup setting cores t stands c here a active) room

    refused : (j.frame == k.frame) ≡ true → Begins true
    refused same lands =
        decides_on setup setting cores t stands c here a active move Reply.Same (j ∷ k ∷ []) looks lands
        (sym held_is) opens refl refl (λ x. refl) (λ x. refl) refl (
          unspent,
          left_may s c (own_pages s c) (plan_for a.call) (rule_of s c a.call) (j ∷ k ∷ []) by_plan leads Reply.Same
              (subst (λ x. RuleMay s c x Reply.Same) (sym left) (same_may what same)),
        ) tt
        (λ is_alone. refused_first s c a.call Reply.Same may_act unspent
        (outcome_left s c (own_pages s c) (plan_for a.call) (rule_of s c a.call) (j ∷ k ∷ []) by_plan leads
        ∙ ap (outcome s c) left ∙ same_first what same))

    begins : (j.frame == k.frame) ≡ false → Begins false
    begins other lands =
        loads_on setup setting cores t stands c here a active move (j ∷ k ∷ [])
        (Undecided (Act (share_act (sharing (cores c).own.core what j.frame k.frame)))) looks lands (sym held_is) opens
        (λ carries. record {
          acts = may_act;
          names = names carries;
          knows = record {
            knows = record {
              shares = shares (sharing (cores c).own.core what j.frame k.frame) (record {
                first = refl;
                second = refl;
                first_kind = first.kind_is;
                second_kind = second.kind_is;
                differ = eqb-false j.frame k.frame other;
                work = refl;
              });
              core = (stands.each c here).number;
              tcap_a = first.tcap;
              tcap_b = second.tcap;
              at = (refl, refl);
            };
            all = ap (λ (xs : List Acquired). map due_of xs) (sym no_counts);
            goes = refl;
          };
        })

    two_good : Begins (j.frame == k.frame)
    two_good = by (j.frame == k.frame) refl
      where
        by : (same : Bool) → (j.frame == k.frame) ≡ same → Begins same
        by true same = refused same
        by false other = begins other

  -- the names of such a call have led to what they lead to
  module _ (call : Call) (call_so : a.call ≡ call) (ks : List Capability) (leads : Leads (LeadsIn s c) (plan_for a.call).names [] ks)
      (none : names_after (plan_for a.call).names ks ≡ [])
      (names : Carries setup t e c → NamesAre setup (e ∷ t) c (cores c).own.table (plan_for a.call) ks)
      (x y : ℕ) (what : PairWork) (names_so : (plan_for call).names ≡ two_names x y)
      (begun_so : (j k : Capability)
      → act_begun (cores c).own call (j ∷ k ∷ []) None None ≡ shares_if (j.frame == k.frame) (cores c).own.core what j.frame k.frame)
      (left_so : (j k : Capability) → rule_after (rule_of s c call) (j ∷ k ∷ [])
      ≡ Does (causes_of s what (named_by_found j) (named_by_found k)) (value_by s what j.frame k.frame) (edits_by s what j.frame k.frame))
      (shares_so : (j k : Capability) (p : Pair) → IsShared j k what p → SharesBy call (j ∷ k ∷ []) p) where
    plan_names : (plan_for a.call).names ≡ two_names x y
    plan_names = ap (λ (p : Plan). p.names) (ap plan_for call_so) ∙ names_so

    led : TwoLed s c x y ks
    led = two_led s c x y ks (subst (λ (ns : List Name). Leads (LeadsIn s c) ns [] ks) plan_names leads)
        (subst (λ (ns : List Name). names_after ns ks ≡ []) plan_names none)

    starts : GoodTook setup cores t c move (landed (found_more a ks) (act_begun (cores c).own call ks None None))
    starts = subst (λ (xs : List Capability).
        GoodTook setup cores t c move (landed (found_more a xs) (act_begun (cores c).own call xs None None)))
        (sym led.both)
        (subst (λ w. GoodTook setup cores t c move (landed (found_more a (led.first ∷ led.second ∷ [])) w))
        (sym (begun_so led.first led.second))
        (two_good led.first led.second what
        (subst (λ (xs : List Capability). Leads (LeadsIn s c) (plan_for a.call).names [] xs) led.both leads)
        (λ carries. subst (λ (xs : List Capability). NamesAre setup (e ∷ t) c (cores c).own.table (plan_for a.call) xs) led.both
        (names carries))
        (tcap_named setup setting t stands.legal c a.call open_now x led.first led.first_led)
        (tcap_named setup setting t stands.legal c a.call open_now y led.second led.second_led)
        (ap (λ z. rule_after (rule_of s c z) (led.first ∷ led.second ∷ [])) call_so ∙ left_so led.first led.second)
        (λ p is. subst (λ z. SharesBy z (led.first ∷ led.second ∷ []) p) (sym call_so) (shares_so led.first led.second p is))))

  module _ (ks : List Capability) (leads : Leads (LeadsIn s c) (plan_for a.call).names [] ks)
      (none : names_after (plan_for a.call).names ks ≡ [])
      (names : Carries setup t e c → NamesAre setup (e ∷ t) c (cores c).own.table (plan_for a.call) ks) (x y : ℕ) where
    pub transfers_good : (m : ℕ) → a.call ≡ Transfer x y m
        → GoodTook setup cores t c move (landed (found_more a ks) (act_begun (cores c).own (Transfer x y m) ks None None))
    transfers_good m is =
        starts (Transfer x y m) is ks leads none names x y (PairWork.Transfer m) refl (λ j k. refl) (λ j k. refl) (λ j k p h. h)

    pub delegates_good : (m : ℕ) → a.call ≡ Delegate x y m
        → GoodTook setup cores t c move (landed (found_more a ks) (act_begun (cores c).own (Delegate x y m) ks None None))
    delegates_good m is =
        starts (Delegate x y m) is ks leads none names x y (PairWork.Delegate m) refl (λ j k. refl) (λ j k. refl) (λ j k p h. h)

    pub tests_good : a.call ≡ Test x y
        → GoodTook setup cores t c move (landed (found_more a ks) (act_begun (cores c).own (Test x y) ks None None))
    tests_good is = starts (Test x y) is ks leads none names x y PairWork.Test refl (λ j k. refl) (λ j k. refl) (λ j k p h. h)
