-- A decision judged in the kernel's own state is judged in every reached state that the kernel represents.
use Rattle.plain_kernel.specs.kernel_rules.proofs as low
use low.{◌≡◌, ◌⊎◌, ℕ, ◌+◌, ◌-◌, ◌^◌, ◌<◌, ◌≤◌, ◌==◌, ◌&&◌, Bool, true, false, not, leb as nat_le, if◌then◌else◌, refl, sym, ◌∙◌, ap, subst}
use low.{arith, List, ◌∷◌, IsTrue, IsFalse, false≢true, true≢false, eq-eqb, Setting, IsSetting, InLimits, Call, Tick, Value, Reply}
use low.{CompFields, Core, Limits, comp_of, with_core, put, begun, IsRefusal, Change, Judged, Refused, Found, IsFoundAnd, RuleMay, rule_of}
use low.{change_of, changed, owed_by, counted, state_by, are_calls_spent, MayReply, is_live_in, lives, asks_life, acts, reply_in, Event}
use low.{Decides as decides, after, Open, phase_of, IsRun, IfRefused, Waits, found_waits, waits_inside, IfFound}
use Rattle.plain_kernel.specs.seq_state.proofs.{State, opened, limits_stay, state_of, SameState, Represents, same_by, same_then, same_core}
use Rattle.plain_kernel.specs.same_changes.proofs.{Twins, core_below, comp_same, changes_same, twins}
use Rattle.plain_kernel.specs.seq_plans.specs.{judged_rule, Decides, Iff}
use low.{Agrees.IsBounded, Agrees.IsPlain, Agrees.rule_refused, AloneLaw.rule_plain, Within.waits_within}
use Rattle.plain_kernel.specs.same_changes.proofs.{Reaching.here, Reaching.here_fit, Alike.begun_same, EveryCall.same_acts}
use Rattle.plain_kernel.specs.same_changes.proofs.{EveryCall.stays_in_range, TimeRules.alive_same}
use Rattle.plain_kernel.specs.seq_plans.proofs.Deciding.{decides_true, decides_false, decides_both}
use Rattle.call_judge.specs.Judged.{RefusesPlainly, DecidesAs, IsDecided, IsJudged}
use Rattle.call_judge.proofs.{SameMay.rule_iff, SameMay.either_iff, EveryMay.every_may, Beyond.judged_here}
use Rattle.{plain_kernel.specs.kernel_rules.specs.CallRelation.MayBeDead}
use Rattle.{plain_kernel.specs.kernel_invariant.proofs.SoundRuns.open_limits}
use Rattle.{plain_kernel.specs.kernel_laws.proofs.RangesLaw.ranges_hold, plain_kernel.specs.seq_state.specs.Maps.Maps}
use Rattle.{plain_kernel.specs.seq_lookups.specs.Ranges.IsInRange}
use Rattle.{plain_kernel.specs.same_changes.specs.Same.SameOutcome}

-- ---- states that are one

core_step : (t s : State) (c : ℕ) (f : Core → Core) → c < s.limits.cores → SameState t s
    → SameState (with_core t c (f (t.core c))) (with_core s c (f (s.core c)))
core_step t s c f below e = same_then _ _ _ (same_by _ _ (ap (λ k. with_core t c (f k)) (e.core c below)))
    (same_core t s c (f (s.core c)) e)

counted_same : (t s : State) (c : ℕ) → c < s.limits.cores → SameState t s → SameState (counted t c) (counted s c)
counted_same t s c below e = core_step t s c (λ k. record k { counted = k.counted + 1 }) below e

owed_same : (t s : State) (c : ℕ) (call : Call) → c < s.limits.cores → SameState t s → SameState (owed_by t c call) (owed_by s c call)
owed_same t s c (Tick n) below e = core_step t s c (λ k. record k { owed = k.owed + n }) below e
owed_same t s c _ below e = e

changed_same : (t s : State) → SameState t s → (x y : Judged Change) → SameOutcome x y
    → IfFound y (λ change. change.next.limits ≡ s.limits) → SameState (changed t x) (changed s y)
changed_same t s e (Refused p) (Refused q) same limits = e
changed_same t s e (Found x) (Found y) same limits =
    subst (λ xs. SameState (begun t xs x.next) (begun s y.begins y.next)) (sym same.begins)
    (begun_same t s x.next y.next y.begins e same.next limits)
changed_same t s e (Refused p) (Found y) same limits = absurd same
changed_same t s e (Found x) (Refused q) same limits = absurd same

reply_same : (x y : Judged Change) → SameOutcome x y → reply_in x ≡ reply_in y
reply_same (Refused p) (Refused q) same = same
reply_same (Found x) (Found y) same = ap Reply.Ok same.value
reply_same (Refused p) (Found y) same = absurd same
reply_same (Found x) (Refused q) same = absurd same

plain_refusal : (r : Reply) → IsPlain r → IsRefusal r
plain_refusal (Reply.Ok v) plain = absurd plain
plain_refusal Reply.Raced plain = absurd plain
plain_refusal (Reply.Busy d) plain = absurd plain
plain_refusal Reply.CallsSpent plain = absurd plain
plain_refusal _ plain = tt

plainly : (P : Reply → Type 0) (x y : Judged Change) → SameOutcome x y → IfRefused y (λ r. P r × IsPlain r) → RefusesPlainly x
plainly P (Refused p) (Refused q) same h = subst IsRefusal (sym same) (plain_refusal q h.1)
plainly P (Found x) (Found y) same h = tt
plainly P (Refused p) (Found y) same h = absurd same
plainly P (Found x) (Refused q) same h = absurd same

-- ---- what is answered

value_is : (v u : Value) → Reply.Ok v ≡ Reply.Ok u → v ≡ u
value_is v u e = cc

answers : (j : Judged Change) (v : Value) → RefusesPlainly j → reply_in j ≡ Reply.Ok v → IsFoundAnd j (λ change. change.value ≡ v)
answers (Refused r) v plain e = absurd (subst IsRefusal e plain)
answers (Found change) v plain e = value_is change.value v e

answered : (j : Judged Change) (v : Value) → IsFoundAnd j (λ change. change.value ≡ v) → reply_in j ≡ Reply.Ok v
answered (Refused r) v h = absurd h
answered (Found change) v h = ap Reply.Ok h

one_less : {n m : ℕ} (d : ℕ) → m ≡ n + 1 → m ≤ d → n < d
one_less d is most = omega (arith, is, most)

put_here : (core : ℕ → Core) (c : ℕ) → (put core c (record (core c) { counted = (core c).counted + 1 }) c).counted ≡ (core c).counted + 1
put_here core c = ap (λ t. (if t then record (core c) { counted = (core c).counted + 1 } else core c).counted) (eq-eqb c c refl)

le_then : (a b d : ℕ) → a ≤ b → b ≤ d → a ≤ d
le_then a b d p q = omega (arith, p, q)

-- ---- of a component that does not live

pub dead_first : (s : State) (c : ℕ) (call : Call) (asks alive : Bool) → asks ≡ asks_life call → alive ≡ lives s c
    → Decides (asks && not alive) (MayBeDead s c call)
dead_first s c call asks alive is_asked is_alive =
    subst (λ a. Decides (asks && not alive) (IsTrue a × IsFalse (lives s c))) is_asked
    (subst (λ b. Decides (asks && not alive) (IsTrue asks × IsFalse b)) is_alive
    (decides_both _ _ asks (not alive) (decides_true asks) (decides_false alive)))

-- ---- in a reached state with an open call

module _ (setting : Setting) (lim : IsSetting setting) (events : List Event) (run : IsRun setting events) (c : ℕ) (call : Call)
    (opens : phase_of events c ≡ Open call) (k : Maps) (same : Represents k (after setting events)) where
  abbrev s : State
  s = after setting events

  abbrev t : State
  t = state_of k

  w : Twins (state_of k) (after setting events) (opened events) c
  w = twins setting lim events run c call opens (state_of k) same

  fits : InLimits call
  fits = open_limits setting events c call run opens

  below : c < (after setting events).limits.cores
  below = core_below w

  outcomes : SameOutcome (change_of (state_of k) c call) (change_of (after setting events) c call)
  outcomes = changes_same setting lim events run c call opens (state_of k) same

  bounded : IsBounded (after setting events)
  bounded = record {
    inside = waits_inside setting events;
    waits = λ x d. (waits_within setting events x d).waits;
    flushes = λ x d. (waits_within setting events x d).flushes;
  }

  calm : IfRefused (change_of (after setting events) c call)
      (λ r. RuleMay (after setting events) c (rule_of (after setting events) c call) r × IsPlain r)
  calm = rule_refused s c (rule_of s c call) bounded (rule_plain s c call)

  pub here_plain : RefusesPlainly (change_of (state_of k) c call)
  here_plain = plainly (RuleMay s c (rule_of s c call)) (change_of t c call) (change_of s c call) outcomes calm

  there_plain : RefusesPlainly (change_of (after setting events) c call)
  there_plain = by_outcome (RuleMay s c (rule_of s c call)) (change_of s c call) calm
    where
      by_outcome : (P : Reply → Type 0) (j : Judged Change) → IfRefused j (λ r. P r × IsPlain r) → RefusesPlainly j
      by_outcome P (Refused q) h = plain_refusal q h.1
      by_outcome P (Found x) h = tt

  pub here_ranges : IsInRange (state_of k) c call
  here_ranges = stays_in_range setting lim events run c call opens (state_of k) same

  spent_same : are_calls_spent (state_of k) c ≡ are_calls_spent (after setting events) c
  spent_same = λ i. nat_le (same.limits i).calls (same.core c below i).counted

  acts_same : acts (state_of k) c call ≡ acts (after setting events) c call
  acts_same = same_acts setting lim events run c call opens (state_of k) same

  lives_same : lives (state_of k) c ≡ lives (after setting events) c
  lives_same = ap (λ (x : CompFields). is_live_in (t.number x.number) x.epoch) (comp_same w)
      ∙ ap (λ n. is_live_in n (comp_of s c).epoch) (alive_same w (here s c) (here_fit w))

  limits_of : (j : Judged Change) → IfFound j (λ change. Waits (after setting events) change.next)
      → IfFound j (λ change. change.next.limits ≡ (after setting events).limits)
  limits_of (Refused r) h = tt
  limits_of (Found change) h = h.limits

  kept_limits : IfFound (change_of (after setting events) c call) (λ change. change.next.limits ≡ (after setting events).limits)
  kept_limits = limits_of (change_of s c call) (found_waits s c call)

  changed_limits : (j : Judged Change) → IfFound j (λ change. change.next.limits ≡ (after setting events).limits)
      → (changed (after setting events) j).limits ≡ (after setting events).limits
  changed_limits (Refused r) h = refl
  changed_limits (Found change) h = h

  owed_limits : (call : Call) → (owed_by (after setting events) c call).limits ≡ (after setting events).limits
  owed_limits (Tick n) = refl
  owed_limits _ = refl

  -- ---- calls that are spent

  pub spent_judged : (b : Bool) (r : Reply) → b ≡ are_calls_spent (state_of k) c → r ≡ Reply.CallsSpent
      → IsJudged (after setting events) c call r b k
  spent_judged b r is says = subst (λ q. IsJudged s c call q b k) (sym says) (by_test b (is ∙ spent_same))
    where
      by_test : (b : Bool) → b ≡ are_calls_spent (after setting events) c → IsJudged (after setting events) c call Reply.CallsSpent b k
      by_test true is = record { permitted = sym is; state = same }
      by_test false is = record { forbidden = λ h. false≢true (is ∙ h); state = same }

  not_spent : (r : Reply) → (r ≡ Reply.CallsSpent → ⊥) → MayReply (after setting events) c call r
      → are_calls_spent (after setting events) c ≡ false
  not_spent Reply.CallsSpent other h = absurd (other refl)
  not_spent (Reply.Ok v) other h = h.0
  not_spent Reply.Raced other h = h.0
  not_spent (Reply.Busy d) other h = h.0
  not_spent _ other h = h.0

  pub none_left : (r : Reply) → (r ≡ Reply.CallsSpent → ⊥) → true ≡ are_calls_spent (state_of k) c
      → IsJudged (after setting events) c call r false k
  none_left r other spent = record {
    forbidden = λ h. true≢false (spent ∙ spent_same ∙ not_spent r other h);
    state = same;
  }

  -- ---- others

  finish : (r : Reply) (base : State) → MayReply (after setting events) c call r
      → state_by (after setting events) c call r ≡ counted base c → base.limits ≡ (after setting events).limits
      → (k2 k3 : Maps) → Represents k2 base
      → (c < (state_of k2).limits.cores → ((state_of k2).core c).counted < 2 ^ 40 - 1 → Represents k3 (counted (state_of k2) c))
      → IsDecided (after setting events) c call r k3
  finish r base may is limits k2 k3 here counts =
      let decided : IsRun setting (decides c call r ∷ events) = (run, record { is_open = opens; permitted = may }) in
      let range = (ranges_hold setting lim (decides c call r ∷ events) decided).cores c
      (subst (λ (l : Limits). c < l.cores) (sym (limits_stay setting (decides c call r ∷ events)))
      (subst (λ (l : Limits). c < l.cores) (limits_stay setting events) below)) in
      let most : ((counted base c).core c).counted ≤ 2 ^ 40 - 1 =
      subst (λ x. (x.core c).counted ≤ 2 ^ 40 - 1) is
      (le_then _ _ _ range.counted (subst (λ (l : Limits). l.calls ≤ 2 ^ 40 - 1)
      (sym (limits_stay setting (decides c call r ∷ events))) lim.most_calls)) in
      let few : (base.core c).counted < 2 ^ 40 - 1 = one_less _ (put_here base.core c) most in
      let there : c < base.limits.cores = subst (λ (l : Limits). c < l.cores) (sym limits) below in
      let core_here : c < (state_of k2).limits.cores = subst (λ (l : Limits). c < l.cores) (sym here.limits) there in
      let few_here : ((state_of k2).core c).counted < 2 ^ 40 - 1 =
      subst (λ (k : Core). k.counted < 2 ^ 40 - 1) (sym (here.core c there)) few in
      record {
        permitted = may;
        state = subst (λ x. SameState (state_of k3) x) (sym is)
            (same_then _ _ _ (counts core_here few_here) (counted_same (state_of k2) base c there here));
      }

  may_iff : (r : Reply)
      → Iff (RuleMay (state_of k) c (judged_rule (state_of k) c call) r)
      (RuleMay (after setting events) c (rule_of (after setting events) c call) r)
  may_iff r =
      let first = rule_iff w (judged_rule t c call) (judged_rule s c call) r (every_may w call fits) in
      let second = judged_here setting lim events run c call opens r in
      record { there = λ h. second.there (first.there h); back = λ h. first.back (second.back h) }

  dead_iff : Iff (MayBeDead (state_of k) c call ⊎ RuleMay (state_of k) c (judged_rule (state_of k) c call) Reply.Dead)
      (MayBeDead (after setting events) c call ⊎ RuleMay (after setting events) c (rule_of (after setting events) c call) Reply.Dead)
  dead_iff = either_iff (MayBeDead t c call) (MayBeDead s c call) _ _
      (record { there = λ h. (h.0, sym lives_same ∙ h.1); back = λ h. (h.0, lives_same ∙ h.1) }) (may_iff Reply.Dead)

  pub decided_judged : (r : Reply) (k2 k3 : Maps) → false ≡ are_calls_spent (state_of k) c → DecidesAs (state_of k) c call r true k2
      → (c < (state_of k2).limits.cores → ((state_of k2).core c).counted < 2 ^ 40 - 1 → Represents k3 (counted (state_of k2) c))
      → IsJudged (after setting events) c call r true k3
  decided_judged (Reply.Ok v) k2 k3 some h counts = by_acts (acts t c call) refl
    where
      by_acts : (b : Bool) → acts (state_of k) c call ≡ b → IsJudged (after setting events) c call (Reply.Ok v) true k3
      by_acts true may =
          finish (Reply.Ok v) (changed s (change_of s c call)) (
            sym (some ∙ spent_same),
            (
              sym acts_same ∙ may,
              answers (change_of s c call) v there_plain
                  (sym (reply_same (change_of t c call) (change_of s c call) outcomes) ∙ sym (h.0 may).reply),
            ),
          )
          refl (changed_limits (change_of s c call) kept_limits) k2 k3
          (same_then _ _ _ (h.0 may).state (changed_same t s same (change_of t c call) (change_of s c call) outcomes kept_limits)) counts
      by_acts false may = absurd (true≢false (h.1 may).0)
  decided_judged Reply.Raced k2 k3 some h counts =
      finish Reply.Raced (owed_by s c call) (sym (some ∙ spent_same), tt) refl (owed_limits call) k2 k3
      (same_then _ _ _ h.1 (owed_same t s c call below same)) counts
  decided_judged (Reply.Busy d) k2 k3 some h counts =
      finish (Reply.Busy d) (owed_by s c call) (sym (some ∙ spent_same), tt) refl (owed_limits call) k2 k3
      (same_then _ _ _ h.1 (owed_same t s c call below same)) counts
  decided_judged Reply.CallsSpent k2 k3 some h counts = absurd (true≢false h.0)
  decided_judged Reply.Dead k2 k3 some h counts =
      finish Reply.Dead s (sym (some ∙ spent_same), dead_iff.there h.0) refl refl k2 k3 (same_then _ _ _ h.1 same) counts
  decided_judged r k2 k3 some h counts =
      finish r s (sym (some ∙ spent_same), (may_iff r).there h.0) refl refl k2 k3 (same_then _ _ _ h.1 same) counts

  pub refused_judged : (r : Reply) (k2 : Maps) → (r ≡ Reply.CallsSpent → ⊥) → DecidesAs (state_of k) c call r false k2
      → IsJudged (after setting events) c call r false k2
  refused_judged (Reply.Ok v) k2 other h = by_acts (acts t c call) refl
    where
      by_acts : (b : Bool) → acts (state_of k) c call ≡ b → IsJudged (after setting events) c call (Reply.Ok v) false k2
      by_acts true is = record {
        forbidden = λ may. (h.0 is).0 (reply_same (change_of t c call) (change_of s c call) outcomes
            ∙ answered (change_of s c call) v may.1.1);
        state = same_then _ _ _ (h.0 is).1 same;
      }
      by_acts false is = record {
        forbidden = λ may. false≢true (sym is ∙ acts_same ∙ may.1.0);
        state = same_then _ _ _ (h.1 is).1 same;
      }
  refused_judged Reply.Raced k2 other h = absurd (false≢true h.0)
  refused_judged (Reply.Busy d) k2 other h = absurd (false≢true h.0)
  refused_judged Reply.CallsSpent k2 other h = absurd (other refl)
  refused_judged Reply.Dead k2 other h = record {
    forbidden = λ may. h.0 (dead_iff.back may.1);
    state = same_then _ _ _ h.1 same;
  }
  refused_judged r k2 other h = record {
    forbidden = λ may. h.0 ((may_iff r).back may.1);
    state = same_then _ _ _ h.1 same;
  }
