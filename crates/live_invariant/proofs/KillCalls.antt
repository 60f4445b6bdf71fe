-- What a call that kills a component knows of its rule: what is left of it after its name, and what refuses it.
use Rattle.count_invariant.specs.step_ways.proofs as low
use low.{◌≡◌, inl, ℕ, ◌<◌, ◌==◌, ◌&&◌, ◌||◌, not, Bool, true, false, if◌then◌else◌, List, [], ◌∷◌, Some, None, refl, sym, ◌∙◌, ap, subst}
use low.{eq-eqb, Setting, IsSetting, CompFields, Comp, Kernel, State, comp_in, found, Cause, Does, RuleMay, outcome, unless, first_of}
use low.{is_live_in, rule_of, change_of, is_one_of, footprint_frames, Trace, Open, phase, state_after, GoesBy, own_pages, rule_after, Leads}
use low.{LeadsIn, outcome_left, left_may, KillingAt, Act, Undecided, ActiveCall, StageFits, HasRoom, Core, KnowsUndecided, phase_at}
use low.{Invariant, Kill as kill_act, call_is, is_active, does, plan_for, Reply}
use Rattle.count_invariant.specs.kernel_history.specs.{Kill, footprint_numbers, number_argument, number_in, Nothing as no_value}
use Rattle.state_laws.specs.kernel_rules.specs.{not_live, Deaden as deaden_edit}
use Rattle.count_invariant.proofs.{plan_leads, goes_by}
use Rattle.count_invariant.specs.act_states.specs.{declared.kills.Killing.Killing, Kills.KillingFits}
use Rattle.count_invariant.proofs.KillingCounts.{IsKill, kill_of, kill_footprint}
use Rattle.live_invariant.proofs.Numbers.{one_of_many, comp_is}
use Rattle.{state_laws.specs.kernel_rules.specs.InvocationCalls.kill_comp, count_invariant.specs.plan_ways.proofs.InFootprint.one_right}

module _ (setup : Setting) (setting : IsSetting setup) (cores : ℕ → Core) (t : Trace) (stands : Invariant setup cores t) (c : ℕ)
    (here : c < setup.cores)
    (a : ActiveCall) (active : (cores c).active ≡ Some a) (f by : ℕ) (at : KillingAt)
    (stage_is : a.stage ≡ Undecided (Act (kill_act (record { comp = f; core = by; at = at }))))
    (has : KnowsUndecided setup t c (cores c).own.table a (Act (kill_act (record { comp = f; core = by; at = at })))) where
  abbrev s : State
  s = state_after setup t

  abbrev killing : Killing
  killing = record { comp = f; core = by; at = at }

  pub is : IsKill a.call a.found f
  is = kill_of a.call a.found f has.knows.knows.kills

  pub opens : phase_at a.call a.stage ≡ Open a.call
  opens = ap (phase_at a.call) stage_is

  pub is_open : phase t c ≡ Open a.call
  is_open = (call_is setup setting cores t stands c here a active).phase ∙ opens

  pub room : (cores c).own.made < (cores c).own.limit
  room = subst (HasRoom (cores c).own.made (cores c).own.limit) stage_is (is_active setup setting cores t stands c here a active).room

  pub fits : KillingFits (cores c).own.layout killing
  fits = subst (StageFits (cores c).own.layout) stage_is (is_active setup setting cores t stands c here a active).stage

  pub leads : Leads (LeadsIn s c) (plan_for a.call).names [] a.found
  leads = plan_leads setup setting cores t stands c here a active has.names

  pub by_plan : GoesBy (own_pages s c) (plan_for a.call) (rule_of s c a.call)
  by_plan = goes_by setup setting cores t stands c here a active has.names

  -- the component
  abbrev pub fields : CompFields
  fields = comp_in (s.frame f)

  pub holds_comp : s.frame f ≡ Kernel (Comp (comp_in (s.frame f)))
  holds_comp = comp_is (s.frame f) has.knows.knows.comp.comp

  -- what is left of the rule
  abbrev causes : List Cause
  causes = not_live s (found is.comp) fields.number fields.epoch ∷ []

  pub left : rule_after (rule_of s c a.call) a.found ≡ Does (not_live s (found is.comp) fields.number fields.epoch ∷ []) no_value
      (deaden_edit fields.number fields.epoch ∷ [])
  left = ap (λ x. rule_after (rule_of s c x) a.found) is.call_is ∙ ap (rule_after (rule_of s c (Kill is.name))) is.found_is
      ∙ ap (λ (g : ℕ). kill_comp s (found is.comp) (comp_in (s.frame g))) (sym is.frame)

  pub by_life : (lives : Bool) → is_live_in (s.number fields.number) fields.epoch ≡ lives
      → change_of s c a.call ≡ unless (if not lives then Some Reply.Dead else None)
      (does c s no_value (deaden_edit fields.number fields.epoch ∷ []))
  by_life lives so =
      outcome_left s c (own_pages s c) (plan_for a.call) (rule_of s c a.call) a.found by_plan leads ∙ ap (outcome s c) left
      ∙ ap (λ b. unless (first_of (if not b then Some Reply.Dead else None) None)
      (does c s no_value (deaden_edit fields.number fields.epoch ∷ []))) so
      ∙ last lives
    where
      last : (b : Bool) → unless (first_of (if not b then Some Reply.Dead else None) None)
          (does c s no_value (deaden_edit fields.number fields.epoch ∷ []))
          ≡ unless (if not b then Some Reply.Dead else None) (does c s no_value (deaden_edit fields.number fields.epoch ∷ []))
      last true = refl
      last false = refl

  pub may_be_dead : is_live_in (s.number fields.number) fields.epoch ≡ false → RuleMay s c (rule_of s c a.call) Reply.Dead
  may_be_dead none = left_may s c (own_pages s c) (plan_for a.call) (rule_of s c a.call) a.found by_plan leads Reply.Dead
      (subst (λ x. RuleMay s c x Reply.Dead) (sym left) (inl (ap (λ b. not b) none, refl)))

  -- the component and its number are in the footprint
  pub footprint : is_one_of f (footprint_frames s c a.call) ≡ true
  footprint = kill_footprint s c a.call a.found f has.knows.knows.kills
      leads

  pub number_footprint : (l : ℕ) → fields.number ≡ l → is_one_of l (footprint_numbers s c a.call) ≡ true
  number_footprint l same = one_right l (number_argument a.call) _
      (one_of_many (λ g. number_in (s.frame g)) l f (footprint_frames s c a.call) footprint
      (ap (λ x. is_one_of l (number_in x)) holds_comp ∙ ap (λ b. b || false) (eq-eqb fields.number l same)))
