-- What a call on two temporal capabilities knows of its rule: what is left of it after its names, and what refuses it.
use Rattle.count_invariant.specs.step_ways.proofs as low
use low.{◌≡◌, ◌≢◌, ℕ, ◌<◌, ◌==◌, ◌&&◌, ◌||◌, true, false, List, [], ◌∷◌, Some, None, map, refl, sym, ◌∙◌, ap, subst, eq-eqb, ne_eqb}
use low.{Setting, IsSetting, Capability, Call, Kind, Reply, Thing, State, Named, found, named_by, Change, Cause, Does, RuleMay, outcome}
use low.{unless, first_cause, tcap_at, is_short, are_unlike, are_many, rule_of, change_of, ends_by, flushes_by, changes_budgets, is_one_of}
use low.{footprint_frames, Trace, Open, phase, state_after, First, Second, at_place, plan_for, GoesBy, own_pages, rule_after, Leads}
use low.{LeadsIn, leads_by, outcome_left, left_may, calls_go, Acquired, Pair, PairWork, Act, Undecided, ActiveCall, StageFits, HasRoom}
use low.{Core, holds_counts, due_of, KnowsUndecided, phase_at, HasFound, own_in, SharesBy, holds_share, holds_at, holds_in, Invariant}
use low.{TcapOf, Edit, Share as share_act, call_is, is_active, Value, does}
use Rattle.count_invariant.specs.boot_words.specs.kernel_rules.specs.{merged_list, are_same, preemption, preempts, Move, Merge, Nothing}
use Rattle.count_invariant.specs.stage_tcap.specs.declared.pair.PairWork.TheVariants.{Transfer, Delegate, Test}
use Rattle.{count_invariant.specs.call_plans.specs.declared.plans.Nth.Nth, count_invariant.proofs.Findings.found_named}
use Rattle.{count_invariant.specs.plan_ways.proofs.InFootprint.footprint_found, count_invariant.specs.stage_tcap.specs.Pairs.PairFits}
use Rattle.{count_invariant.specs.core_invariant.specs.Shares.IsShared, count_invariant.specs.kept_facts.proofs.Tcaps.tcap_of}

-- What refuses such a call after its names, in order, what it answers, and its edits.
abbrev pub causes_of : State → PairWork → Named → Named → List Cause
causes_of s (Transfer m) a b = are_same a b ∷ is_short s a m ∷ are_unlike s a b ∷ []
causes_of s (Delegate m) a b = are_same a b ∷ is_short s a m ∷ are_many s a b ∷ []
causes_of s Test a b = are_same a b ∷ []

abbrev pub value_by : State → PairWork → ℕ → ℕ → Value
value_by s Test a b = preemption (preempts (tcap_at s a) (tcap_at s b))
value_by s _ a b = Nothing

abbrev pub edits_by : State → PairWork → ℕ → ℕ → List Edit
edits_by s (Transfer m) a b = Move a b m ∷ []
edits_by s (Delegate m) a b = Move a b m ∷ Merge b (merged_list s a b) ∷ []
edits_by s Test a b = []

abbrev pub change_by : ℕ → State → PairWork → ℕ → ℕ → Change
change_by c s what a b = does c s (value_by s what a b) (edits_by s what a b)

-- The call and what its names have led to.
pub record IsShare (s : State) (c : ℕ) (call : Call) (ks : List Capability) (p : Pair) : Type 0 where
  pub a : Capability
  pub b : Capability
  pub found_is : ks ≡ a ∷ b ∷ []
  pub shared : IsShared a b p.what p
  pub left : rule_after (rule_of s c call) ks ≡ Does (causes_of s p.what (found a) (found b)) (value_by s p.what a.frame b.frame)
      (edits_by s p.what a.frame b.frame)
  pub budgets : changes_budgets call ≡ true
  pub ends_none : (x : Thing) → ends_by call x ≡ false
  pub flush_none : flushes_by call ≡ false

pub share_of : (s : State) (c : ℕ) (call : Call) (ks : List Capability) (p : Pair) → SharesBy call ks p → IsShare s c call ks p
share_of s c (Call.Transfer x y m) (a ∷ b ∷ []) p is = record {
  a = a;
  b = b;
  found_is = refl;
  shared = record {
    first = is.first;
    second = is.second;
    first_kind =
        is.first_kind;
    second_kind = is.second_kind;
    differ = is.differ;
    work = refl;
  };
  left = ap (λ w. Does (causes_of s w (found a) (found b)) (value_by s w a.frame b.frame) (edits_by s w a.frame b.frame)) (sym is.work);
  budgets = refl;
  ends_none = λ x. refl;
  flush_none = refl;
}
share_of s c (Call.Delegate x y m) (a ∷ b ∷ []) p is = record {
  a = a;
  b = b;
  found_is = refl;
  shared = record {
    first = is.first;
    second = is.second;
    first_kind =
        is.first_kind;
    second_kind = is.second_kind;
    differ = is.differ;
    work = refl;
  };
  left = ap (λ w. Does (causes_of s w (found a) (found b)) (value_by s w a.frame b.frame) (edits_by s w a.frame b.frame)) (sym is.work);
  budgets = refl;
  ends_none = λ x. refl;
  flush_none = refl;
}
share_of s c (Call.Test x y) (a ∷ b ∷ []) p is = record {
  a = a;
  b = b;
  found_is = refl;
  shared = record {
    first = is.first;
    second = is.second;
    first_kind =
        is.first_kind;
    second_kind = is.second_kind;
    differ = is.differ;
    work = refl;
  };
  left = ap (λ w. Does (causes_of s w (found a) (found b)) (value_by s w a.frame b.frame) (edits_by s w a.frame b.frame)) (sym is.work);
  budgets = refl;
  ends_none = λ x. refl;
  flush_none = refl;
}
share_of s c call ks p is = absurd is

-- A frame to which a name has led is in the call's footprint.
pub name_footprint : (s : State) (c : ℕ) (call : Call) (ks : List Capability) → Leads (LeadsIn s c) (plan_for call).names [] ks
    → (at : Nth) (k : Capability) → at_place ks at ≡ Some k → k.kind ≡ Kind.Tcap → (f : ℕ) → f ≡ k.frame
    → is_one_of f (footprint_frames s c call) ≡ true
name_footprint s c call ks leads at k is kind_is f frame_is =
    footprint_found s c call ks leads at k is f
    (ap (λ (j : Kind). is_one_of f (named_by j k.frame)) kind_is ∙ ap (λ b. b || false) (eq-eqb k.frame f (sym frame_is)))

module _ (setup : Setting) (setting : IsSetting setup) (cores : ℕ → Core) (t : Trace) (stands : Invariant setup cores t) (c : ℕ)
    (here : c < setup.cores)
    (a : ActiveCall) (active : (cores c).active ≡ Some a) (p : Pair) (stage_is : a.stage ≡ Undecided (Act (share_act p)))
    (has : KnowsUndecided setup t c (cores c).own.table a (Act (share_act p))) where
  abbrev s : State
  s = state_after setup t

  pub is : IsShare s c a.call a.found p
  is = share_of s c a.call a.found p has.knows.knows.shares

  pub opens : phase_at a.call a.stage ≡ Open a.call
  opens = ap (phase_at a.call) stage_is

  pub is_open : phase t c ≡ Open a.call
  is_open = (call_is setup setting cores t stands c here a active).phase ∙ opens

  pub room : (cores c).own.made < (cores c).own.limit
  room = subst (HasRoom (cores c).own.made (cores c).own.limit) stage_is (is_active setup setting cores t stands c here a active).room

  pub fits : PairFits (cores c).own.layout p
  fits = subst (StageFits (cores c).own.layout) stage_is (is_active setup setting cores t stands c here a active).stage

  pub leads : Leads (LeadsIn s c) (plan_for a.call).names [] a.found
  leads = leads_by (λ n wanted k. HasFound setup t c (own_in (cores c).own.table n) wanted k) (LeadsIn s c)
      (λ n wanted k had. found_named setup t c (cores c).own.table n wanted k (stands.each c here).works.table had)
      (plan_for a.call).names []
      a.found has.names

  pub by_plan : GoesBy (own_pages s c) (plan_for a.call) (rule_of s c a.call)
  by_plan = calls_go s c a.call

  -- no count is acquired
  pub no_counts : a.counts ≡ []
  no_counts = none_of a.counts has.knows.all
    where
      none_of : (xs : List Acquired) → [] ≡ map due_of xs → xs ≡ []
      none_of [] h = refl
      none_of (x ∷ xs) h = absurd (cc)

  pub held_is : holds_in (Some a) ≡ holds_share p p.at (holds_counts None a.counts)
  held_is = ap (λ s. holds_at s a.counts) stage_is

  -- the two
  pub tcap_a : TcapOf (s.frame p.a)
  tcap_a = tcap_of (s.frame p.a) has.knows.knows.tcap_a.tcap

  pub tcap_b : TcapOf (s.frame p.b)
  tcap_b = tcap_of (s.frame p.b) has.knows.knows.tcap_b.tcap

  pub differ : p.a ≢ p.b
  differ same = is.shared.differ (sym is.shared.first ∙ same ∙ is.shared.second)

  abbrev pub names : List Capability
  names = is.a ∷ is.b ∷ []

  call_leads : Leads (LeadsIn s c) (plan_for a.call).names [] a.found
  call_leads = leads

  pub footprint_a : is_one_of p.a (footprint_frames s c a.call) ≡ true
  footprint_a = name_footprint s c a.call a.found call_leads First is.a
      (ap (λ xs. at_place xs First) is.found_is) is.shared.first_kind p.a is.shared.first

  pub footprint_b : is_one_of p.b (footprint_frames s c a.call) ≡ true
  footprint_b = name_footprint s c a.call a.found call_leads Second is.b
      (ap (λ xs. at_place xs Second) is.found_is) is.shared.second_kind p.b is.shared.second

  -- what is left of the rule
  pub left : rule_after (rule_of s c a.call) a.found
      ≡ Does (causes_of s p.what (found is.a) (found is.b)) (value_by s p.what is.a.frame is.b.frame)
      (edits_by s p.what is.a.frame is.b.frame)
  left = is.left

  pub change_is : change_of s c a.call
      ≡ unless (first_cause s c (causes_of s p.what (found is.a) (found is.b))) (change_by c s p.what is.a.frame is.b.frame)
  change_is = outcome_left s c (own_pages s c) (plan_for a.call) (rule_of s c a.call) a.found by_plan leads ∙ ap (outcome s c) left

  pub may : (r : Reply) → RuleMay s c (Does (causes_of s p.what (found is.a) (found is.b)) (value_by s p.what is.a.frame is.b.frame)
      (edits_by s p.what is.a.frame is.b.frame)) r
      → RuleMay s c (rule_of s c a.call) r
  may r is_may = left_may s c (own_pages s c) (plan_for a.call) (rule_of s c a.call) a.found by_plan leads r
      (subst (λ x. RuleMay s c x r) (sym left) is_may)

  -- they are not one
  pub not_same : (true && (true && is.a.frame == is.b.frame)) ≡ false
  not_same = ne_eqb is.a.frame is.b.frame is.shared.differ
