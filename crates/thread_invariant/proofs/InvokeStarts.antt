-- An entering starts where its name has led to a gate; or the core's stack is full.
use Rattle.live_invariant.specs.step_ways.proofs as low
use low.{acts, Want, to_use, ◌≡◌, ◌<◌, inl, ℕ, map, leb as nat_le, not, Bool, true, false, if◌then◌else◌, List, [], ◌∷◌, length, Some, None}
use low.{IsTrue, refl, sym, ◌∙◌, ap, subst, false≢true, Capability, Setting, IsSetting, Kind, Call, Move, word_of, Comp, Frame, Kernel}
use low.{State, comp_in, thread_of, only, fits, named_by, Found, Refused, RuleMay, named, outcome, unless, first_of, is_live_in, rule_of}
use low.{change_of, are_calls_spent, suits, named_fit, opened, name_parts, events_of, IsLegal, Step, Trace, Open, phase, state_after}
use low.{last_left, refused_first, Carries, sound_of, opened_is, Acquired, GoesBy, own_pages, rule_after, Leads, LeadsIn, outcome_left}
use low.{left_may, Invoking, Act, Goes, refuse, Undecided, ActiveCall, landed, found_more, Core, HasComp, holds_counts, due_of, NamesAre}
use low.{phase_at, holds_in, Invariant, does, Invoke as invoke_act, OnlyLooks, step_to, call_is, core_is, loads_on, decides_on, GoodTook}
use low.{not_spent, plan_for, Reply, Refusal}
use Rattle.live_invariant.specs.act_states.specs.{invokes_if, invokes_in, Nothing as no_value}
use Rattle.live_invariant.specs.kernel_history.specs.{of_kind, Push as push_edit}
use Rattle.{live_invariant.specs.trace_laws.proofs.Stays.guarded_usable, live_invariant.specs.core_invariant.specs.Components.InvokesBy}
use Rattle.{live_invariant.specs.spk_nums.specs.declared.calls.Call.TheVariants.Call as call_gate}
use Rattle.{live_invariant.specs.act_states.specs.declared.invocations.InvokingAt.TheVariants.LoadTable}
use Rattle.{live_invariant.specs.kept_facts.proofs.Carries.invoking_on, thread_invariant.proofs.InvokeCalls.entering}

-- What a name leads to is of a wanted kind, and is what was found.
same_found : (wanted : Want) (j k : Capability) → of_kind wanted j ≡ Found k → j ≡ k
same_found wanted j k h = (suits wanted j k h).is

gate_comp : (x : Frame) → IsTrue (fits Kind.Gate x) → IsTrue (fits Kind.Comp x)
gate_comp (Kernel (Comp k)) fit = refl
gate_comp _ fit = absurd (false≢true fit)

-- The component of a gate that an open call has named is there, and no other core may retype it.
gate_named : (setup : Setting) → IsSetting setup → (t : Trace) → IsLegal setup t → (c : ℕ) (call : Call) → phase t c ≡ Open call
    → (n : ℕ) (k : Capability) → k.kind ≡ Kind.Gate → named (state_after setup t) c n (to_use (only Kind.Gate)) ≡ Found k
    → HasComp (state_after setup t) c k.frame
gate_named setup setting t legal c call is n k kind_is found =
    let s : State = state_after setup t in
    let parts = name_parts s c n (to_use (only Kind.Gate)) k found in
    record {
      comp = gate_comp (s.frame k.frame)
          (named_fit s (opened (events_of t)) c n Kind.Gate k (sound_of setup setting t legal) (opened_is t c call is) found);
      guarded = guarded_usable setup setting t legal c call is parts.0 k
          (ap (λ (j : Kind). named_by j k.frame) kind_is)
          (parts.3 ∙ ap (λ (j : Capability). Some j) (same_found (to_use (only Kind.Gate)) parts.2 k parts.4));
    }

module _ (setup : Setting) (setting : IsSetting setup) (cores : ℕ → Core) (t : Trace) (stands : Invariant setup cores t) (c : ℕ)
    (here : c < setup.cores)
    (a : ActiveCall) (active : (cores c).active ≡ Some a) (opens : phase_at a.call a.stage ≡ Open a.call)
    (held_is : holds_in (Some a) ≡ holds_counts None a.counts) (no_counts : a.counts ≡ [])
    (room : (cores c).own.made < (cores c).own.limit)
    (by_plan : GoesBy (own_pages (state_after setup t) c) (plan_for a.call) (rule_of (state_after setup t) c a.call))
    (move : Move) (looks : OnlyLooks setup t c a.call move) (n : ℕ) (k : Capability) (call_so : a.call ≡ call_gate n)
    (kind_is : k.kind ≡ Kind.Gate)
    (found : named (state_after setup t) c n (to_use (only Kind.Gate)) ≡ Found k)
    (leads : Leads (LeadsIn (state_after setup t) c) (plan_for a.call).names [] (k ∷ []))
    (names : Carries setup t (step_to c None move (last_left setup t (word_of move)) None None) c
    → NamesAre setup (step_to c None move (last_left setup t (word_of move)) None None ∷ t) c (cores c).own.table (plan_for a.call)
    (k ∷ []))
    (may_act : IsTrue (acts (state_after setup t) c a.call)) where
  abbrev s : State
  s = state_after setup t

  abbrev e : Step
  e = step_to c None move (last_left setup t (word_of move)) None None

  abbrev m : Invoking
  m = record {
    comp = k.frame;
    epoch = k.arg;
    thread = (cores c).own.thread;
    depth = (cores c).own.depth;
    core = (cores c).own.core;
    frames = (cores c).own.layout.frames;
    at = LoadTable;
  }

  open_now : phase t c ≡ Open a.call
  open_now = (call_is setup setting cores t stands c here a active).phase ∙ opens

  unspent : are_calls_spent s c ≡ false
  unspent = not_spent setup (cores c) t c (core_is setup setting cores t stands c here a active) room

  left : rule_after (rule_of s c a.call) (k ∷ []) ≡ entering s c k k.frame k.arg
  left = ap (λ x. rule_after (rule_of s c x) (k ∷ [])) call_so

  depth_is : nat_le 16 (cores c).own.depth ≡ nat_le 16 (length (thread_of s c).stack)
  depth_is = ap (λ (d : ℕ). nat_le 16 d) (stands.each c here).works.depth

  -- the stack is full
  full : nat_le 16 (cores c).own.depth ≡ true → GoodTook setup cores t c move (landed (found_more a (k ∷ [])) (refuse Refusal.Deep))
  full deep lands =
      decides_on setup setting cores t stands c here a active move Reply.Deep (k ∷ []) looks lands
      (sym held_is) opens refl refl (λ x. refl) (λ x. refl) refl (
        unspent,
        left_may s c (own_pages s c) (plan_for a.call) (rule_of s c a.call) (k ∷ []) by_plan leads Reply.Deep
            (subst (λ x. RuleMay s c x Reply.Deep) (sym left) (inl (sym depth_is ∙ deep, refl))),
      ) tt
      (λ is_alone. refused_first s c a.call Reply.Deep may_act unspent refused)
    where
      refused : change_of s c a.call ≡ Refused Reply.Deep
      refused = outcome_left s c (own_pages s c) (plan_for a.call) (rule_of s c a.call) (k ∷ []) by_plan leads ∙ ap (outcome s c) left
          ∙ ap (λ b. unless (first_of (if b then Some Reply.Deep else None)
          (first_of (if not (is_live_in (s.number (comp_in (s.frame k.frame)).number) k.arg) then Some Reply.Dead else None) None))
          (does c s no_value (push_edit k.frame ∷ []))) (sym depth_is ∙ deep)

  -- it is not
  starts : GoodTook setup cores t c move (landed (found_more a (k ∷ [])) (Goes (Act (invoke_act m))))
  starts lands =
      loads_on setup setting cores t stands c here a active move (k ∷ [])
      (Undecided (Act (invoke_act m))) looks lands (sym held_is) opens
      (λ carries. record {
        acts = may_act;
        names = names carries;
        knows = record {
          knows = invoking_on setup setting t e stands.legal c a.call open_now carries a.call (k ∷ []) m (record {
            invokes = subst (λ x. InvokesBy x (k ∷ []) m) (sym call_so) (record { kind = kind_is; frame = refl; epoch = refl });
            core = (stands.each c here).number;
            on = record { thread = (stands.each c here).works.thread; depth = (stands.each c here).works.depth };
            comp = gate_named setup setting t stands.legal c a.call open_now n k kind_is found;
            at = tt;
          });
          all = ap (λ (xs : List Acquired). map due_of xs) (sym no_counts);
          goes = refl;
        };
      })

  by_depth : GoodTook setup cores t c move (landed (found_more a (k ∷ [])) (invokes_in (cores c).own Kind.Gate k.frame k.arg))
  by_depth = by (nat_le 16 (cores c).own.depth) refl
    where
      by : (deep : Bool) → nat_le 16 (cores c).own.depth ≡ deep
          → GoodTook setup cores t c move (landed (found_more a (k ∷ [])) (invokes_if deep (cores c).own k.frame k.arg))
      by true deep = full deep
      by false shallow = starts

  pub invokes_good : GoodTook setup cores t c move (landed (found_more a (k ∷ [])) (invokes_in (cores c).own k.kind k.frame k.arg))
  invokes_good = subst (λ (j : Kind). GoodTook setup cores t c move
      (landed (found_more a (k ∷ [])) (invokes_in (cores c).own j k.frame k.arg))) (sym kind_is) by_depth
