-- What a call that enters a component knows of its rule: what is left of it after its name, and what refuses it.
use Rattle.live_invariant.specs.step_ways.proofs.{Want, IsSome, ◌≡◌, inl, inr, ℕ, ◌<◌, ◌==◌, ◌&&◌, ◌||◌, not, leb as nat_le, Bool, true}
use Rattle.live_invariant.specs.step_ways.proofs.{false, if◌then◌else◌, [], ◌∷◌, length, Some, None, arith, refl, sym, ◌∙◌, ap, subst}
use Rattle.live_invariant.specs.step_ways.proofs.{eq-eqb, Capability, Setting, IsSetting, EntryAt, CompFields, Comp, Kernel, State, comp_in}
use Rattle.live_invariant.specs.step_ways.proofs.{thread_of, Slot, found, own, Rule, Does, RuleMay, outcome, unless, first_of, is_live_in}
use Rattle.live_invariant.specs.step_ways.proofs.{rule_of, change_of, is_one_of, footprint_frames, HasReached, Step, Trace, Open, phase}
use Rattle.live_invariant.specs.step_ways.proofs.{state_after, own_left, way_to, ways, Plan, GoesBy, own_pages, rule_after, Leads, LeadsIn}
use Rattle.live_invariant.specs.step_ways.proofs.{outcome_left, left_may, leads_by, Invoking, Act, Undecided, ActiveCall, StageFits}
use Rattle.live_invariant.specs.step_ways.proofs.{HasRoom, Core, HasFound, KnowsUndecided, own_in, phase_at, Invariant, own_kept}
use Rattle.live_invariant.specs.step_ways.proofs.{Invoke as invoke_act, call_is, is_active, does, plan_for, Reply}
use Rattle.live_invariant.specs.kernel_history.specs.{footprint_numbers, number_argument, number_in, Push as push_edit, Nothing as no_value}
use Rattle.live_invariant.specs.count_invariant.proofs.{own_is, found_named, way_gone, plan_leads, goes_by}
use Rattle.live_invariant.specs.kernel_rules.proofs.{lt-leb, When, not_live}
use Rattle.live_invariant.proofs.{one_of_many, comp_is}
use Rattle.live_invariant.specs.plan_ways.proofs.{InFootprint.one_right, Ways.all_ways}
use Rattle.live_invariant.specs.count_invariant.proofs.StackCounts.{IsInvoke, invoke_of, invoke_footprint}
use Rattle.{std.proofs.lemmas.List.Elements.All-nil, live_invariant.specs.spk_nums.specs.declared.calls.Call.TheVariants.Call as call_gate}
use Rattle.{live_invariant.specs.act_states.specs.Invocations.InvokingFits}

-- What is left of the rule of a call through a gate to this frame, made in this epoch.
abbrev pub entering : State → ℕ → Capability → ℕ → ℕ → Rule
entering s c gate f epoch =
    Does (
    When (nat_le 16 (length (thread_of s c).stack)) Reply.Deep
    ∷ not_live s (found gate) (comp_in (s.frame f)).number epoch
    ∷ []) no_value (push_edit f ∷ [])

module _ (setup : Setting) (setting : IsSetting setup) (cores : ℕ → Core) (t : Trace) (stands : Invariant setup cores t) (c : ℕ)
    (here : c < setup.cores)
    (a : ActiveCall) (active : (cores c).active ≡ Some a) (m : Invoking) (stage_is : a.stage ≡ Undecided (Act (invoke_act m)))
    (has : KnowsUndecided setup t c (cores c).own.table a (Act (invoke_act m))) where
  abbrev s : State
  s = state_after setup t

  pub is : IsInvoke a.call a.found m
  is = invoke_of a.call a.found m has.knows.knows.invokes

  pub opens : phase_at a.call a.stage ≡ Open a.call
  opens = ap (phase_at a.call) stage_is

  pub is_open : phase t c ≡ Open a.call
  is_open = (call_is setup setting cores t stands c here a active).phase ∙ opens

  pub room : (cores c).own.made < (cores c).own.limit
  room = subst (HasRoom (cores c).own.made (cores c).own.limit) stage_is (is_active setup setting cores t stands c here a active).room

  pub fits : InvokingFits (cores c).own.layout m
  fits = subst (StageFits (cores c).own.layout) stage_is (is_active setup setting cores t stands c here a active).stage

  pub leads : Leads (LeadsIn s c) (plan_for a.call).names [] a.found
  leads = plan_leads setup setting cores t stands c here a active has.names

  pub by_plan : GoesBy (own_pages s c) (plan_for a.call) (rule_of s c a.call)
  by_plan = goes_by setup setting cores t stands c here a active has.names

  -- the component
  abbrev pub fields : CompFields
  fields = comp_in (s.frame m.comp)

  holds_comp : s.frame m.comp ≡ Kernel (Comp (comp_in (s.frame m.comp)))
  holds_comp = comp_is (s.frame m.comp) has.knows.knows.comp.comp

  -- what is left of the rule
  pub left : rule_after (rule_of s c a.call) a.found ≡ entering s c is.gate m.comp m.epoch
  left = ap (λ x. rule_after (rule_of s c x) a.found) is.call_is ∙ ap (rule_after (rule_of s c (call_gate is.name))) is.found_is
      ∙ ap (λ (g : ℕ). entering s c is.gate g is.gate.arg) (sym is.frame)
      ∙ ap (λ (e : ℕ). entering s c is.gate m.comp e) (sym is.epoch)

  shallow : nat_le 16 (length (thread_of s c).stack) ≡ false
  shallow = lt-leb 16 (length (thread_of s c).stack)
      (let low = fits.most_depth in let same = has.knows.knows.on.depth in omega (arith, low, same))

  pub by_life : (lives : Bool) → is_live_in (s.number fields.number) m.epoch ≡ lives
      → change_of s c a.call ≡ unless (if not lives then Some Reply.Dead else None) (does c s no_value (push_edit m.comp ∷ []))
  by_life lives so =
      outcome_left s c (own_pages s c) (plan_for a.call) (rule_of s c a.call) a.found by_plan leads ∙ ap (outcome s c) left
      ∙ ap (λ b. unless (first_of (if b then Some Reply.Deep else None)
      (first_of (if not (is_live_in (s.number fields.number) m.epoch) then Some Reply.Dead else None) None))
      (does c s no_value (push_edit m.comp ∷ []))) shallow
      ∙ ap (λ b. unless (first_of (if not b then Some Reply.Dead else None) None) (does c s no_value (push_edit m.comp ∷ []))) so
      ∙ last lives
    where
      last : (b : Bool) → unless (first_of (if not b then Some Reply.Dead else None) None) (does c s no_value (push_edit m.comp ∷ []))
          ≡ unless (if not b then Some Reply.Dead else None) (does c s no_value (push_edit m.comp ∷ []))
      last true = refl
      last false = refl

  pub may_be_dead : is_live_in (s.number fields.number) m.epoch ≡ false → RuleMay s c (rule_of s c a.call) Reply.Dead
  may_be_dead none = left_may s c (own_pages s c) (plan_for a.call) (rule_of s c a.call) a.found by_plan leads Reply.Dead
      (subst (λ x. RuleMay s c x Reply.Dead) (sym left) (inr (inl (ap (λ b. not b) none, refl))))

  -- the component and its number are in the footprint
  pub footprint : is_one_of m.comp (footprint_frames s c a.call) ≡ true
  footprint = invoke_footprint s c a.call a.found m has.knows.knows.invokes
      leads

  pub number_footprint : (l : ℕ) → fields.number ≡ l → is_one_of l (footprint_numbers s c a.call) ≡ true
  number_footprint l same = one_right l (number_argument a.call) _
      (one_of_many (λ g. number_in (s.frame g)) l m.comp (footprint_frames s c a.call) footprint
      (ap (λ x. is_one_of l (number_in x)) holds_comp ∙ ap (λ b. b || false) (eq-eqb fields.number l same)))

  -- the places of the name are gone
  pub gone : (e : Step) → e.core ≡ c → e.enters ≡ None → HasReached (e ∷ t) c (ways s c (rule_of s c a.call))
  gone e own_step no_entry = all_ways s c (own_pages s c) (e ∷ t) (plan_for a.call) (rule_of s c a.call) a.found by_plan
      (leads_by (λ n wanted q. HasFound setup t c (own_in (cores c).own.table n) wanted q)
      (λ n wanted q. LeadsIn s c n wanted q × HasReached (e ∷ t) c (way_to s c (own s c n)))
      own_gone (plan_for a.call).names [] a.found has.names)
      (subst (λ y. HasReached (e ∷ t) c (ways s c y)) (sym left)
      (All-nil (λ (y : Slot). IsSome (own_left (e ∷ t) c (EntryAt y.node y.index)))))
    where
      own_gone : (n : ℕ) (wanted : Want) (q : Capability) → HasFound setup t c (own_in (cores c).own.table n) wanted q
          → LeadsIn s c n wanted q × HasReached (e ∷ t) c (way_to s c (own s c n))
      own_gone n wanted q had = (
        found_named setup t c (cores c).own.table n wanted q (stands.each c here).works.table had,
        subst (λ y. HasReached (e ∷ t) c (way_to s c y)) (own_is s c (cores c).own.table n (stands.each c here).works.table)
            (way_gone setup t (e ∷ t) c (own_in (cores c).own.table n) had.at had.way.reached
            (λ k d h. own_kept t e c (sym own_step) no_entry _ (had.way.stepped k d h))),
      )
