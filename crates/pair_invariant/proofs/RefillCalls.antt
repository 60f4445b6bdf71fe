-- What a call that gives ticks back knows of itself: its name, its rule, its machine, and what refuses it.
use Rattle.count_invariant.specs.step_ways.proofs.{◌≡◌, inl, inr, ℕ, ◌+◌, ◌*◌, ◌^◌, ◌<◌, ◌≤◌, not, ltb as nat_lt, Bool, true, false, List}
use Rattle.count_invariant.specs.step_ways.proofs.{Option, [], ◌∷◌, Some, None, map, if◌then◌else◌, arith, refl, sym, ◌∙◌, ap, subst}
use Rattle.count_invariant.specs.step_ways.proofs.{le-ltb, Setting, IsSetting, Capability, Call, Reply, State, Change, Cause, Does, Judged}
use Rattle.count_invariant.specs.step_ways.proofs.{Found, Refused, RuleMay, tcap_in, outcome, unless, first_of, first_cause, tcap_at}
use Rattle.count_invariant.specs.step_ways.proofs.{rule_of, change_of, changes_budgets, is_one_of, footprint_frames, Trace, Open, phase}
use Rattle.count_invariant.specs.step_ways.proofs.{state_after, First, Plan, at_place, plan_for, GoesBy, own_pages, rule_after, Leads}
use Rattle.count_invariant.specs.step_ways.proofs.{LeadsIn, leads_by, outcome_left, left_may, calls_go, Acquired, Act, Undecided}
use Rattle.count_invariant.specs.step_ways.proofs.{ActiveCall, StageFits, HasRoom, Core, holds_counts, due_of, KnowsUndecided, phase_at}
use Rattle.count_invariant.specs.step_ways.proofs.{HasFound, own_in, holds_at, holds_in, Invariant, TcapOf, in_order, EntryAt, LoadOf}
use Rattle.count_invariant.specs.step_ways.proofs.{limits_of, min, ltb-true, found, Edit, does, Refill as refill_act, OnlyLooks, call_is}
use Rattle.count_invariant.specs.boot_words.specs.kernel_rules.specs.{covers, outstanding, is_finer, is_less, Give, Nothing}
use Rattle.count_invariant.specs.act_states.specs.{left_among, Refill}
use Rattle.count_invariant.specs.core_invariant.specs.Refills.{IsRefill, RefillsBy}
use Rattle.pair_invariant.proofs.{ListsKnown.ranges_of, ShareCalls.name_footprint}
use Rattle.{count_invariant.specs.step_ways.proofs.is_active, count_invariant.specs.boot_words.specs.kernel_rules.specs.Ranges.CoreInRange}
use Rattle.{count_invariant.proofs.Findings.found_named, count_invariant.specs.stage_tcap.specs.Refilling.RefillFits}
use Rattle.{count_invariant.specs.kept_facts.proofs.Tcaps.tcap_of}

-- It is a replenishment of the temporal capability to which its name has led.
pub record IsRefillCall (s : State) (c : ℕ) (call : Call) (ks : List Capability) (r : Refill) : Type 0 where
  pub cap : Capability
  pub name : ℕ
  pub amount : ℕ
  pub call_is : call ≡ Call.Replenish name amount
  pub found_is : ks ≡ cap ∷ []
  pub refill : IsRefill s c amount cap r

refill_of : (s : State) (c : ℕ) (call : Call) (ks : List Capability) (r : Refill) → RefillsBy s c call ks r → IsRefillCall s c call ks r
refill_of s c (Call.Replenish x m) (k ∷ []) r is =
    record { cap = k; name = x; amount = m; call_is = refl; found_is = refl; refill = is }
refill_of s c call ks r is = absurd is

module _ (setup : Setting) (setting : IsSetting setup) (cores : ℕ → Core) (t : Trace) (stands : Invariant setup cores t) (c : ℕ)
    (here : c < setup.cores)
    (a : ActiveCall) (active : (cores c).active ≡ Some a) (r : Refill) (stage_is : a.stage ≡ Undecided (Act (refill_act r)))
    (has : KnowsUndecided setup t c (cores c).own.table a (Act (refill_act r))) where
  abbrev s : State
  s = state_after setup t

  pub is : IsRefillCall s c a.call a.found r
  is = refill_of s c a.call a.found r has.knows.knows.refills

  pub opens : phase_at a.call a.stage ≡ Open a.call
  opens = ap (phase_at a.call) stage_is

  pub is_open : phase t c ≡ Open a.call
  is_open = (call_is setup setting cores t stands c here a active).phase ∙ opens

  pub room : (cores c).own.made < (cores c).own.limit
  room = subst (HasRoom (cores c).own.made (cores c).own.limit) stage_is (is_active setup setting cores t stands c here a active).room

  pub fits : RefillFits (cores c).own.layout r
  fits = subst (StageFits (cores c).own.layout) stage_is (is_active setup setting cores t stands c here a active).stage

  pub leads : Leads (LeadsIn s c) (plan_for a.call).names [] a.found
  leads = leads_by (λ n wanted k. HasFound setup t c (own_in (cores c).own.table n) wanted k) (LeadsIn s c)
      (λ n wanted k had. found_named setup t c (cores c).own.table n wanted k (stands.each c here).works.table had)
      (plan_for a.call).names []
      a.found has.names

  pub by_plan : GoesBy (own_pages s c) (plan_for a.call) (rule_of s c a.call)
  by_plan = calls_go s c a.call

  -- no count is acquired, and no word is held
  pub no_counts : a.counts ≡ []
  no_counts = none_of a.counts has.knows.all
    where
      none_of : (xs : List Acquired) → [] ≡ map due_of xs → xs ≡ []
      none_of [] h = refl
      none_of (x ∷ xs) h = absurd (cc)

  pub held_is : holds_in (Some a) ≡ holds_counts None a.counts
  held_is = ap (λ s. holds_at s a.counts) stage_is

  pub tcap : TcapOf (s.frame r.tcap)
  tcap = tcap_of (s.frame r.tcap) has.knows.knows.tcap.tcap

  call_leads : Leads (LeadsIn s c) (plan_for a.call).names [] a.found
  call_leads = leads

  pub footprint : is_one_of r.tcap (footprint_frames s c a.call) ≡ true
  footprint = name_footprint s c a.call a.found call_leads First is.cap
      (ap (λ xs. at_place xs First) is.found_is) is.refill.kind r.tcap is.refill.tcap

  pub loading : (i : ℕ) → OnlyLooks setup t c a.call (LoadOf (EntryAt r.tcap i))
  loading i = record { of_call = record { moves = refl; footprint = inl footprint }; kept = refl; apart = λ d. refl }

  -- what is left of the rule
  abbrev pub causes : List Cause
  causes = is_finer s c (found is.cap) ∷ is_less s c is.amount ∷ []

  abbrev pub edits : List Edit
  edits = Give is.cap.frame is.amount ∷ []

  abbrev pub change : Change
  change = does c s Nothing edits

  pub left : rule_after (rule_of s c a.call) a.found ≡ Does causes Nothing edits
  left = ap (λ x. rule_after (rule_of s c x) a.found) is.call_is
      ∙ ap (λ xs. rule_after (rule_of s c (Call.Replenish is.name is.amount)) xs) is.found_is

  pub change_is : change_of s c a.call ≡ unless (first_cause s c causes) change
  change_is = outcome_left s c (own_pages s c) (plan_for a.call) (rule_of s c a.call) a.found by_plan leads ∙ ap (outcome s c) left

  pub may : (q : Reply) → RuleMay s c (Does causes Nothing edits) q → RuleMay s c (rule_of s c a.call) q
  may q is_may = left_may s c (own_pages s c) (plan_for a.call) (rule_of s c a.call) a.found by_plan leads q
      (subst (λ x. RuleMay s c x q) (sym left) is_may)

  -- what the core has left to have back, and the grant, are the state's
  pub left_is : r.left ≡ left_among (s.core c).spent (s.core c).back
  left_is = is.refill.left

  pub grant_is : r.grant ≡ (s.core c).grant
  grant_is = is.refill.grant

  pub budgets : changes_budgets a.call ≡ true
  budgets = ap changes_budgets is.call_is

  -- the numbers of the core
  below : c < s.limits.cores
  below = subst (λ (m : ℕ). c < m) (sym (ap (λ l. l.cores) (limits_of setup t))) here

  pub numbers : CoreInRange s.limits.calls (s.core c)
  numbers = (ranges_of setup setting t stands.legal).cores c below

  pub spent_small : (s.core c).spent ≤ 1000000 * 2 ^ 40
  spent_small =
      let limit : s.limits.calls ≡ setup.calls = ap (λ l. l.calls) (limits_of setup t) in
      let most = setting.most_calls in
      let counted = numbers.counted in
      let charged = numbers.charged in
      omega (arith, limit, most, counted, charged)

  pub budget_small : (tcap_at s r.tcap).budget + outstanding (s.core c) < 2 ^ 32
  budget_small = (ranges_of setup setting t stands.legal).spending r.tcap c below

  -- nothing is cut off of what is left
  pub same_left : r.left ≡ outstanding (s.core c)
  same_left = let cut = left_is in let small = budget_small in omega (arith, cut, small)

  -- the list that was read, where it is that of the temporal capability
  abbrev pub covered : Bool
  covered = covers (tcap_at s is.cap.frame).qualities (s.core c).grant

  pub covered_is : (list : Option (List (ℕ × ℕ))) → list ≡ Some tcap.fields.qualities → covers (in_order list) r.grant ≡ covered
  covered_is list read =
      ap (λ o. covers (in_order o) r.grant) read
      ∙ ap (λ x. covers (tcap_in x).qualities r.grant) (sym tcap.is)
      ∙ ap (λ (f : ℕ). covers (tcap_at s f).qualities r.grant) is.refill.tcap
      ∙ ap (λ (p : ℕ × ℕ). covers (tcap_at s is.cap.frame).qualities p) grant_is

  -- what refuses it: first a list that does not cover the grant
  abbrev by_finer : Bool → Judged Change
  by_finer b = unless (first_of (if not b then Some Reply.Unlike else None) (first_cause s c (is_less s c is.amount ∷ []))) change

  pub unlike_may : covered ≡ false → RuleMay s c (rule_of s c a.call) Reply.Unlike
  unlike_may other = may Reply.Unlike (inl (ap not other, refl))

  pub unlike_first : covered ≡ false → change_of s c a.call ≡ Refused Reply.Unlike
  unlike_first other = change_is ∙ ap by_finer other

  -- and then too few ticks that are left
  abbrev by_less : Bool → Judged Change
  by_less b = unless (first_of (if b then Some (Reply.Short (min (outstanding (s.core c)) is.amount)) else None) None) change

  has_less : nat_lt r.left r.ticks ≡ true → nat_lt (outstanding (s.core c)) is.amount ≡ true
  has_less less = ap (λ (n : ℕ). nat_lt n is.amount) (sym same_left) ∙ ap (λ (m : ℕ). nat_lt r.left m) (sym is.refill.ticks) ∙ less

  told : nat_lt r.left r.ticks ≡ true → min (outstanding (s.core c)) is.amount ≡ r.left
  told less =
      let same = same_left in
      let low = ltb-true (outstanding (s.core c)) is.amount (has_less less) in
      omega (arith, same, low)

  pub short_may : nat_lt r.left r.ticks ≡ true → RuleMay s c (rule_of s c a.call) (Reply.Short r.left)
  short_may less = may (Reply.Short r.left) (inr (inl (has_less less, ap (λ (n : ℕ). Reply.Short n) (sym (told less)))))

  pub short_first : covered ≡ true → nat_lt r.left r.ticks ≡ true → change_of s c a.call ≡ Refused (Reply.Short r.left)
  short_first cover less =
      change_is ∙ ap by_finer cover ∙ ap by_less (has_less less) ∙ ap (λ (n : ℕ). Refused (Reply.Short n)) (told less)

  -- nothing does
  pub goes : covered ≡ true → r.ticks ≤ r.left → change_of s c a.call ≡ Found change
  goes cover enough =
      let same = same_left in
      let amount = is.refill.ticks in
      change_is ∙ ap by_finer cover
      ∙ ap by_less (le-ltb (outstanding (s.core c)) is.amount (omega (arith, enough, same, amount)))
