-- A switch begins where its names have led to a thread and to a temporal capability.
use Rattle.thread_invariant.specs.step_ways.proofs as low
use low.{acts, IsTrue, Want, to_use, ◌≡◌, ℕ, ◌<◌, if◌then◌else◌, map, true, List, [], ◌∷◌, Some, None, refl, sym, ◌∙◌, ap, subst}
use low.{Capability, Setting, IsSetting, Kind, Call, Move, word_of, State, only, suits, named_by, Found, named, named_fit, only_is, opened}
use low.{name_parts, events_of, IsLegal, Step, Trace, Open, phase, state_after, last_left, Carries, sound_of, opened_is, Name, Plan, Leads}
use low.{LeadsIn, names_after, plan_for, of_kind, Acquired, act_begun, Act, Undecided, ActiveCall, landed, found_more, Core, holds_counts}
use low.{due_of, NamesAre, phase_at, holds_in, Invariant, Switch as switch_act, OnlyLooks, step_to, call_is, loads_on, GoodTook}
use Rattle.thread_invariant.specs.core_invariant.specs.{HasThread, SwitchesBy}
use Rattle.thread_invariant.specs.kernel_history.specs.{Switch, of_kind as has_kind}
use Rattle.{thread_invariant.specs.trace_laws.proofs.Stays.guarded_usable, thread_invariant.specs.act_states.specs.Acts.switching}
use Rattle.thread_invariant.specs.spk_nums.specs.declared.replies.Reply.TheVariants as reply

-- What a name leads to is of a wanted kind, and is what was found.
same_found : (wanted : Want) (j k : Capability) → has_kind wanted j ≡ Found k → (j ≡ k) × (wanted.kinds k.kind ≡ true)
same_found wanted j k h =
    let w = suits wanted j k h in
    (w.is, subst (λ (x : Capability). wanted.kinds x.kind ≡ true) w.is w.kind)

-- A thread that an open call has named is there, and no other core may retype it.
thread_named : (setup : Setting) → IsSetting setup → (t : Trace) → IsLegal setup t → (c : ℕ) (call : Call) → phase t c ≡ Open call
    → (n : ℕ) (k : Capability) → named (state_after setup t) c n (to_use (only Kind.Thread)) ≡ Found k
    → HasThread (state_after setup t) c k.frame
thread_named setup setting t legal c call is n k found =
    let s : State = state_after setup t in
    let parts = name_parts s c n (to_use (only Kind.Thread)) k found in
    let same = same_found (to_use (only Kind.Thread)) parts.2 k parts.4 in
    record {
      thread = named_fit s (opened (events_of t)) c n Kind.Thread k (sound_of setup setting t legal) (opened_is t c call is) found;
      guarded = guarded_usable setup setting t legal c call is parts.0 k
          (ap (λ (j : Kind). named_by j k.frame) (only_is Kind.Thread k.kind same.1))
          (parts.3 ∙ ap (λ (j : Capability). Some j) same.0);
    }

-- Two names have led to these two.
record TwoLed (s : State) (c x y : ℕ) (ks : List Capability) : Type 0 where
  first : Capability
  second : Capability
  both : ks ≡ first ∷ second ∷ []
  first_led : named s c x (to_use (only Kind.Thread)) ≡ Found first

abbrev two_names : ℕ → ℕ → List Name
two_names x y = of_kind Kind.Thread x ∷ of_kind Kind.Tcap y ∷ []

two_led : (s : State) (c x y : ℕ) (ks : List Capability) → Leads (LeadsIn s c) (two_names x y) [] ks → names_after (two_names x y) ks ≡ []
    → TwoLed s c x y ks
two_led s c x y [] leads none = absurd (cc)
two_led s c x y (j ∷ []) leads none = absurd (cc)
two_led s c x y (j ∷ k ∷ []) leads none = record { first = j; second = k; both = refl; first_led = leads.0 }
two_led s c x y (j ∷ k ∷ l ∷ ks) leads none = absurd (leads.1.1)

module _ (setup : Setting) (setting : IsSetting setup) (cores : ℕ → Core) (t : Trace) (stands : Invariant setup cores t) (c : ℕ)
    (here : c < setup.cores)
    (a : ActiveCall) (active : (cores c).active ≡ Some a) (opens : phase_at a.call a.stage ≡ Open a.call)
    (held_is : holds_in (Some a) ≡ holds_counts None a.counts) (no_counts : a.counts ≡ [])
    (move : Move) (looks : OnlyLooks setup t c a.call move) (ks : List Capability)
    (leads : Leads (LeadsIn (state_after setup t) c) (plan_for a.call).names [] ks) (none : names_after (plan_for a.call).names ks ≡ [])
    (names : Carries setup t (step_to c None move (last_left setup t (word_of move)) None None) c
    → NamesAre setup (step_to c None move (last_left setup t (word_of move)) None None ∷ t) c (cores c).own.table (plan_for a.call) ks)
    (x y : ℕ) (call_so : a.call ≡ Switch x y) (may_act : IsTrue (acts (state_after setup t) c a.call)) where
  abbrev s : State
  s = state_after setup t

  abbrev e : Step
  e = step_to c None move (last_left setup t (word_of move)) None None

  open_now : phase t c ≡ Open a.call
  open_now = (call_is setup setting cores t stands c here a active).phase ∙ opens

  plan_names : (plan_for a.call).names ≡ two_names x y
  plan_names = ap (λ (p : Plan). p.names) (ap plan_for call_so)

  led : TwoLed s c x y ks
  led = two_led s c x y ks (subst (λ (ns : List Name). Leads (LeadsIn s c) ns [] ks) plan_names leads)
      (subst (λ (ns : List Name). names_after ns ks ≡ []) plan_names none)

  begins : (j k : Capability) → ks ≡ j ∷ k ∷ [] → HasThread s c j.frame
      → GoodTook setup cores t c move (landed (found_more a (j ∷ k ∷ [])) (act_begun (cores c).own (Switch x y) (j ∷ k ∷ []) None None))
  begins j k both thread lands =
      let works = (stands.each c here).works in
      loads_on setup setting cores t stands c here a active move (j ∷ k ∷ [])
      (Undecided (Act (switch_act (switching (cores c).own j.frame k.frame)))) looks lands (sym held_is) opens
      (λ carries. record {
        acts = may_act;
        names = subst (λ (xs : List Capability). NamesAre setup (e ∷ t) c (cores c).own.table (plan_for a.call) xs) both (names carries);
        knows = record {
          knows = record {
            switches = subst (λ z. SwitchesBy z (j ∷ k ∷ []) j.frame k.frame) (sym call_so) (record { thread = refl; tcap = refl });
            leaves = record {
              core = (stands.each c here).number;
              thread = works.thread;
              depth = works.depth;
              tcap = works.tcap;
            };
            thread = thread;
            at = (stands.each c here).number;
          };
          all = ap (λ (xs : List Acquired). map due_of xs) (sym no_counts);
          goes = refl;
        };
      })

  pub switches_good : GoodTook setup cores t c move (landed (found_more a ks) (act_begun (cores c).own (Switch x y) ks None None))
  switches_good = subst (λ (xs : List Capability). GoodTook setup cores t c move
      (landed (found_more a xs) (act_begun (cores c).own (Switch x y) xs None None))) (sym led.both)
      (begins led.first led.second led.both (thread_named setup setting t stands.legal c a.call open_now x led.first led.first_led))
