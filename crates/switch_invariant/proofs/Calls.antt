-- What a call that switches knows of its rule: what is left of it after its names, and what refuses it; and of the two threads.
use Rattle.thread_invariant.specs as low
use low.step_ways.proofs.{◌≡◌, ◌≢◌, inl, ℕ, ◌<◌, ◌++◌, ◌||◌, map, true, false, List, [], ◌∷◌, Option, Some, None, IsTrue, refl, sym, ◌∙◌}
use low.step_ways.proofs.{ap, subst, eq-eqb, flat_map, Capability, Setting, IsSetting, EntryAt, Move, LoadOf, word_of, Thread, Kernel}
use low.step_ways.proofs.{State, thread_in, found, fits, frame_names, named_by, Rule, Change, Judged, Refused, Found, RuleMay, outcome}
use low.step_ways.proofs.{rule_of, change_of, named_fit, IsSound, opened, changes_in_frame, changes_threads, raises_clock, events_of}
use low.step_ways.proofs.{is_one_of, frames_named, footprint_frames, frames_own, frame_argument, frame_at_slot, Step, Trace, Open, phase}
use low.step_ways.proofs.{state_after, last_left, target_of, wide_ways, opened_is, sound_of, calls_go, First, plan_for, GoesBy, own_pages}
use low.step_ways.proofs.{rule_after, Leads, LeadsIn, outcome_left, left_may, dues, Switching, SwitchAt, Act, Goes, Undecided, ActiveCall}
use low.step_ways.proofs.{StageFits, HasRoom, landed, Core, holds_counts, due_of, KnowsUndecided, phase_at, holds, holds_at, holds_in}
use low.step_ways.proofs.{Invariant, claimed_by, holds_switching, counts_bare, names_on, limits_of, at_place, Call, Switch as switch_act}
use low.step_ways.proofs.{OnlyLooks, step_to, call_is, is_active, loads_on, GoodTook, ticks_at, does, Kind, Reply}
use low.act_states.specs.{Switch, SwitchingFits, switching_dues, Nothing as no_value}
use low.core_invariant.specs.{HasThread, SwitchesBy, KnowsSwitchAt}
use low.count_invariant.proofs.SwitchCounts.{IsSwitch, switch_of, thread_kind, thread_footprint, old_footprint}
use low.{count_invariant.proofs.plan_leads, count_invariant.proofs.goes_by, plan_ways.proofs.one_left, plan_ways.proofs.one_right}
use low.{kernel_rules.specs.InvocationCalls.switch_to, kernel_rules.specs.Edits.Switch as switch_edit}
use low.{kernel_history.specs.Footprint.frames_about, plan_ways.proofs.InFootprint.named_footprint}
use low.{core_invariant.specs.Threads.KnowsSwitch, core_invariant.proofs.Keepings.all_bare, act_states.specs.Switches.switching_keeps}
use low.{live_invariant.proofs.Numbers.one_of_many}
use Rattle.{switch_invariant.proofs.ThreadWords.thread_is}

-- The thread to which its first name has led is one of the frames that the call is about.
thread_about : (s : State) (c : ℕ) (call : Call) (ks : List Capability) (f q : ℕ)
    (is : IsSwitch call ks f q) → Leads (LeadsIn s c) (plan_for call).names [] ks → is_one_of f (frames_about s c call) ≡ true
thread_about s c call ks f q is lead =
    one_left f (frames_named s c (rule_of s c call)) (frame_at_slot s (target_of s c (rule_of s c call)) ++ frame_argument call)
    (named_footprint s c (own_pages s c) (plan_for call) (rule_of s c call) ks (calls_go s c call) lead First is.thread at f names_it)
  where
    at : at_place ks First ≡ Some is.thread
    at = ap (λ xs. at_place xs First) is.found_is

    names_it : is_one_of f (named_by is.thread.kind is.thread.frame) ≡ true
    names_it = ap (λ k. is_one_of f (named_by k is.thread.frame)) (thread_kind s c call ks f q is lead)
        ∙ ap (λ b. b || false) (eq-eqb is.thread.frame f (sym is.thread_is))

module _ (setup : Setting) (setting : IsSetting setup) (cores : ℕ → Core) (t : Trace) (stands : Invariant setup cores t) (c : ℕ)
    (here : c < setup.cores)
    (a : ActiveCall) (active : (cores c).active ≡ Some a) (m : Switching) (stage_is : a.stage ≡ Undecided (Act (switch_act m)))
    (has : KnowsUndecided setup t c (cores c).own.table a (Act (switch_act m))) where
  abbrev s : State
  s = state_after setup t

  abbrev f : ℕ
  f = claimed_by m.at

  pub knows : KnowsSwitch setup t c a.call a.found m
  knows = has.knows.knows

  pub is_switch : IsSwitch a.call a.found (claimed_by m.at) m.tcap
  is_switch = switch_of a.call a.found (claimed_by m.at) m.tcap knows.switches

  pub opens : phase_at a.call a.stage ≡ Open a.call
  opens = ap (phase_at a.call) stage_is

  pub is_open : phase t c ≡ Open a.call
  is_open = (call_is setup setting cores t stands c here a active).phase ∙ opens

  pub plain : ticks_at a.stage ≡ false
  plain = ap ticks_at stage_is

  pub room : (cores c).own.made < (cores c).own.limit
  room = subst (HasRoom (cores c).own.made (cores c).own.limit) stage_is (is_active setup setting cores t stands c here a active).room

  pub fits_in : SwitchingFits (cores c).own.layout m
  fits_in = subst (StageFits (cores c).own.layout) stage_is (is_active setup setting cores t stands c here a active).stage

  pub frames_are : m.frames ≡ setup.frames
  frames_are = fits_in.frames ∙ ap (λ l. l.frames) (stands.each c here).shape

  pub leads : Leads (LeadsIn (state_after setup t) c) (plan_for a.call).names [] a.found
  leads = plan_leads setup setting cores t stands c here a active has.names

  pub by_plan : GoesBy (own_pages (state_after setup t) c) (plan_for a.call) (rule_of (state_after setup t) c a.call)
  by_plan = goes_by setup setting cores t stands c here a active has.names

  pub call_leads : Leads (LeadsIn (state_after setup t) c) (plan_for a.call).names [] a.found
  call_leads = leads

  pub threads_change : changes_threads a.call ≡ true
  threads_change = ap changes_threads is_switch.call_is

  pub raises : IsTrue (raises_clock a.call)
  raises = subst (λ x. IsTrue (raises_clock x)) (sym is_switch.call_is) refl

  pub sound : IsSound (state_after setup t) (opened (events_of t))
  sound = sound_of setup setting t stands.legal

  pub core_below : c < (state_after setup t).limits.cores
  core_below = subst (λ (n : ℕ). c < n) (sym (ap (λ l. l.cores) (limits_of setup t))) here

  -- the thread, and the core's own thread and temporal capability
  pub holds_thread : (state_after setup t).frame (claimed_by m.at)
      ≡ Kernel (Thread (thread_in ((state_after setup t).frame (claimed_by m.at))))
  holds_thread = thread_is (s.frame f) knows.thread.thread

  pub own_thread : IsTrue (fits Kind.Thread ((state_after setup t).frame m.old))
  own_thread = subst (λ (n : ℕ). IsTrue (fits Kind.Thread (s.frame n))) (sym knows.leaves.thread) (sound.cores c core_below).0

  pub own_tcap : IsTrue (fits Kind.Tcap ((state_after setup t).frame m.old_tcap))
  own_tcap = subst (λ (n : ℕ). IsTrue (fits Kind.Tcap (s.frame n))) (sym knows.leaves.tcap) (sound.cores c core_below).1

  -- the second name has led to a temporal capability
  pub named_tcap : IsTrue (fits Kind.Tcap ((state_after setup t).frame m.tcap))
  named_tcap = subst (λ (n : ℕ). IsTrue (fits Kind.Tcap (s.frame n))) (sym is_switch.tcap_is)
      (named_fit s (opened (events_of t)) c is_switch.other Kind.Tcap is_switch.tcap sound
      (opened_is t c a.call is_open)
      (subst (λ x. Leads (LeadsIn s c) (plan_for x).names [] (is_switch.thread ∷ is_switch.tcap ∷ [])) is_switch.call_is
      (subst (λ ks. Leads (LeadsIn s c) (plan_for a.call).names [] ks) is_switch.found_is call_leads)).1.0)

  -- a thread's words are changed by the call
  pub changes_it : (g : ℕ) → IsTrue (fits Kind.Thread ((state_after setup t).frame g))
      → IsTrue (changes_in_frame a.call ((state_after setup t).frame g))
  changes_it g thread = subst (λ x. IsTrue (changes_in_frame a.call x)) (sym (thread_is (s.frame g) thread)) threads_change

  -- what is left of the rule
  abbrev pub left_rule : Option ℕ → Rule
  left_rule o = switch_to (found is_switch.thread) is_switch.tcap.frame o

  pub left : rule_after (rule_of (state_after setup t) c a.call) a.found
      ≡ switch_to (found is_switch.thread) is_switch.tcap.frame
      (thread_in ((state_after setup t).frame (claimed_by m.at))).runs_on
  left = ap (λ x. rule_after (rule_of s c x) a.found) is_switch.call_is
      ∙ ap (rule_after (rule_of s c (Switch is_switch.name is_switch.other))) is_switch.found_is
      ∙ ap (λ (g : ℕ). switch_to (found is_switch.thread) is_switch.tcap.frame (thread_in (s.frame g)).runs_on)
      (sym is_switch.thread_is)

  abbrev pub outcome_by : Option ℕ → Judged Change
  outcome_by None = Found (does c (state_after setup t) no_value (switch_edit is_switch.thread.frame is_switch.tcap.frame ∷ []))
  outcome_by (Some e) = Refused (Reply.Running e)

  pub by_runs : (o : Option ℕ) → (thread_in ((state_after setup t).frame (claimed_by m.at))).runs_on ≡ o
      → change_of (state_after setup t) c a.call ≡ outcome_by o
  by_runs o so =
      outcome_left s c (own_pages s c) (plan_for a.call) (rule_of s c a.call) a.found by_plan leads ∙ ap (outcome s c) left
      ∙ ap (λ r. outcome s c (left_rule r)) so ∙ last o
    where
      last : (o : Option ℕ) → outcome s c (left_rule o) ≡ outcome_by o
      last None = refl
      last (Some e) = refl

  pub may_run : (e : ℕ) → (thread_in ((state_after setup t).frame (claimed_by m.at))).runs_on ≡ Some e
      → RuleMay (state_after setup t) c (rule_of (state_after setup t) c a.call) (Reply.Running e)
  may_run e so = left_may s c (own_pages s c) (plan_for a.call) (rule_of s c a.call) a.found by_plan leads (Reply.Running e)
      (subst (λ x. RuleMay s c x (Reply.Running e)) (sym (left ∙ ap left_rule so)) (inl (refl, refl)))

  -- the thread is in the footprint, and the core's own, and the components of its stack
  pub footprint : is_one_of (claimed_by m.at) (footprint_frames (state_after setup t) c a.call) ≡ true
  footprint = thread_footprint s c a.call a.found f m.tcap is_switch call_leads

  pub footprint_own : is_one_of m.old (footprint_frames (state_after setup t) c a.call) ≡ true
  footprint_own = old_footprint s c a.call m knows.leaves

  pub footprint_stack : (g : ℕ) → is_one_of g (frame_names ((state_after setup t).frame (claimed_by m.at))) ≡ true
      → is_one_of g (footprint_frames (state_after setup t) c a.call) ≡ true
  footprint_stack g in_stack =
      one_right g (frames_own s c) (map (λ at. at.node) (wide_ways s c (rule_of s c a.call))
      ++ (frames_about s c a.call ++ flat_map (λ h. frame_names (s.frame h)) (frames_about s c a.call)))
      (one_right g (map (λ at. at.node) (wide_ways s c (rule_of s c a.call)))
      (frames_about s c a.call ++ flat_map (λ h. frame_names (s.frame h)) (frames_about s c a.call))
      (one_right g (frames_about s c a.call) (flat_map (λ h. frame_names (s.frame h)) (frames_about s c a.call))
      (one_of_many (λ h. frame_names (s.frame h)) g f (frames_about s c a.call)
      (thread_about s c a.call a.found f m.tcap is_switch call_leads) in_stack)))

  -- what the core holds
  pub held_at : (at : SwitchAt) → m.at ≡ at → holds_in (Some a) ≡ holds_switching m at (holds_counts None a.counts)
  held_at at is = ap (λ s. holds_at s a.counts) stage_is ∙ ap (λ x. holds_switching m x (holds_counts None a.counts)) is

  pub none_kept : (g i : ℕ) → (holds (cores c)).bare g i ≡ None
  none_kept g i = ap (λ h. h.bare g i) (ap holds_in active ∙ held_at m.at refl)
      ∙ all_bare (switching_keeps m m.at) (holds_counts None a.counts) g i
      ∙ counts_bare None a.counts g i

  pub dues_at : (at : SwitchAt) → m.at ≡ at → switching_dues m at ≡ map due_of a.counts
  dues_at at is = ap (switching_dues m) (sym is) ∙ has.knows.all

  pub known_at : (at : SwitchAt) → m.at ≡ at → KnowsSwitchAt setup t c at
  known_at at is = subst (KnowsSwitchAt setup t c) is knows.at

  -- a step that leaves the state leaves what is known but for where the act stands
  pub carried : (move : Move) (at : SwitchAt) → claimed_by at ≡ claimed_by m.at
      → KnowsSwitchAt setup (step_to c None move (last_left setup t (word_of move)) None None ∷ t) c at
      → KnowsSwitch setup (step_to c None move (last_left setup t (word_of move)) None None ∷ t) c a.call a.found (record m { at = at })
  carried move at same now = record {
    switches = subst (λ (n : ℕ). SwitchesBy a.call a.found n m.tcap) (sym same) knows.switches;
    leaves = record {
      core = knows.leaves.core;
      thread = knows.leaves.thread;
      depth = knows.leaves.depth;
      tcap = knows.leaves.tcap;
    };
    thread = subst (λ (n : ℕ). HasThread s c n) (sym same) knows.thread;
    at = now;
  }

  pub looks_at : (g i : ℕ) → is_one_of g (footprint_frames (state_after setup t) c a.call) ≡ true
      → OnlyLooks setup t c a.call (LoadOf (EntryAt g i))
  looks_at g i footprint_it = record { of_call = record { moves = refl; footprint = inl footprint_it }; kept = refl; apart = λ d. refl }

  abbrev pub load : ℕ → ℕ → Step
  load g i = step_to c None (LoadOf (EntryAt g i)) (last_left setup t (EntryAt g i)) None None

  -- it goes on after a load
  pub goes_on_to : (g i : ℕ) → is_one_of g (footprint_frames (state_after setup t) c a.call) ≡ true
      → (at : SwitchAt) → claimed_by at ≡ claimed_by m.at
      → holds_at (Undecided (Act (switch_act (record m { at = at })))) a.counts ≡ holds_in (Some a)
      → KnowsSwitchAt setup (load g i ∷ t) c at
      → dues (switch_act (record m { at = at })) ≡ map due_of a.counts
      → GoodTook setup cores t c (LoadOf (EntryAt g i)) (landed a (Goes (Act (switch_act (record m { at = at })))))
  goes_on_to g i footprint_it at same held now due lands =
      loads_on setup setting cores t stands c here a active (LoadOf (EntryAt g i)) a.found
      (Undecided (Act (switch_act (record m { at = at })))) (looks_at g i footprint_it) lands held opens
      (λ carries. record {
        acts = has.acts;
        names = names_on setup setting t (load g i) stands.legal c a.call is_open carries (cores c).own.table (plan_for a.call) a.found
            has.names;
        knows = record { knows = carried (LoadOf (EntryAt g i)) at same now; all = due; goes = refl };
      })
