-- A killing starts where its name has led to a component.
use Rattle.count_invariant.specs.step_ways.proofs as low
use low.{acts, IsTrue, Want, to_use, ◌≡◌, ℕ, ◌<◌, map, if◌then◌else◌, List, [], ◌∷◌, Some, None, refl, sym, ◌∙◌, ap, subst, Capability}
use low.{Setting, IsSetting, Kind, Call, Move, word_of, State, only, named_by, suits, Found, named, named_fit, opened, name_parts}
use low.{events_of, IsLegal, Step, Trace, Open, phase, state_after, last_left, Carries, sound_of, opened_is, Acquired, LoadComp, Act}
use low.{Undecided, ActiveCall, landed, found_more, Core, holds_counts, due_of, NamesAre, phase_at, holds_in, Invariant, Kill as kill_act}
use low.{HasComp, OnlyLooks, step_to, call_is, loads_on, GoodTook, plan_for}
use Rattle.count_invariant.specs.act_states.specs.{Kill, kills_in}
use Rattle.{count_invariant.specs.trace_laws.proofs.Stays.guarded_usable, state_laws.specs.kernel_rules.specs.Rules.of_kind}
use Rattle.{count_invariant.specs.core_invariant.specs.Acting.KillsBy, count_invariant.specs.kept_facts.proofs.Carries.has_comp_on}
use Rattle.state_laws.specs.spk_nums.specs.declared.replies.Reply.TheVariants as reply

-- What a name leads to is of a wanted kind, and is what was found.
same_found : (wanted : Want) (j k : Capability) → of_kind wanted j ≡ Found k → j ≡ k
same_found wanted j k h = (suits wanted j k h).is

-- A component that an open call has named is there, and no other core may retype it.
pub comp_named : (setup : Setting) → IsSetting setup → (t : Trace) → IsLegal setup t → (c : ℕ) (call : Call) → phase t c ≡ Open call
    → (n : ℕ) (k : Capability) → k.kind ≡ Kind.Comp → named (state_after setup t) c n (to_use (only Kind.Comp)) ≡ Found k
    → HasComp (state_after setup t) c k.frame
comp_named setup setting t legal c call is n k kind_is found =
    let s : State = state_after setup t in
    let parts = name_parts s c n (to_use (only Kind.Comp)) k found in
    record {
      comp = named_fit s (opened (events_of t)) c n Kind.Comp k (sound_of setup setting t legal) (opened_is t c call is) found;
      guarded = guarded_usable setup setting t legal c call is parts.0 k
          (ap (λ (j : Kind). named_by j k.frame) kind_is)
          (parts.3 ∙ ap (λ (j : Capability). Some j) (same_found (to_use (only Kind.Comp)) parts.2 k parts.4));
    }

module _ (setup : Setting) (setting : IsSetting setup) (cores : ℕ → Core) (t : Trace) (stands : Invariant setup cores t) (c : ℕ)
    (here : c < setup.cores)
    (a : ActiveCall) (active : (cores c).active ≡ Some a) (opens : phase_at a.call a.stage ≡ Open a.call)
    (held_is : holds_in (Some a) ≡ holds_counts None a.counts) (no_counts : a.counts ≡ [])
    (move : Move) (looks : OnlyLooks setup t c a.call move) (n : ℕ) (k : Capability) (call_so : a.call ≡ Kill n)
    (kind_is : k.kind ≡ Kind.Comp)
    (found : named (state_after setup t) c n (to_use (only Kind.Comp)) ≡ Found k)
    (names : Carries setup t (step_to c None move (last_left setup t (word_of move)) None None) c
    → NamesAre setup (step_to c None move (last_left setup t (word_of move)) None None ∷ t) c (cores c).own.table (plan_for a.call)
    (k ∷ []))
    (may_act : IsTrue (acts (state_after setup t) c a.call)) where
  abbrev e : Step
  e = step_to c None move (last_left setup t (word_of move)) None None

  open_now : phase t c ≡ Open a.call
  open_now = (call_is setup setting cores t stands c here a active).phase ∙ opens

  starts : GoodTook setup cores t c move (landed (found_more a (k ∷ [])) (kills_in (cores c).own.core Kind.Comp k.frame))
  starts lands =
      loads_on setup setting cores t stands c here a active move (k ∷ [])
      (Undecided (Act (kill_act (record { comp = k.frame; core = (cores c).own.core; at = LoadComp })))) looks lands (sym held_is) opens
      (λ carries. record {
        acts = may_act;
        names = names carries;
        knows = record {
          knows = record {
            kills = subst (λ x. KillsBy x (k ∷ []) k.frame) (sym call_so) (record { kind = kind_is; frame = refl });
            core = (stands.each c here).number;
            comp = has_comp_on setup setting t e stands.legal c a.call open_now carries k.frame
                (comp_named setup setting t stands.legal c a.call open_now n k kind_is found);
            at = tt;
          };
          all = ap (λ (xs : List Acquired). map due_of xs) (sym no_counts);
          goes = refl;
        };
      })

  pub kills_good : GoodTook setup cores t c move (landed (found_more a (k ∷ [])) (kills_in (cores c).own.core k.kind k.frame))
  kills_good = subst (λ (j : Kind). GoodTook setup cores t c move (landed (found_more a (k ∷ [])) (kills_in (cores c).own.core j k.frame)))
      (sym kind_is) starts
