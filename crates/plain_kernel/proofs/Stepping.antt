-- A call made whole: from the kernel's own state to every reached state that it represents.
use Rattle.seq_caps.specs.seq_lookups.specs.seq_state.specs.kernel_rules.proofs as low
use Rattle.seq_caps.specs.seq_lookups.specs.seq_state.proofs.{◌≡◌, ◌≢◌, ℕ, ◌+◌, ◌-◌, ◌^◌, ◌<◌, ◌≤◌, ◌==◌, Bool, true, false, refl, sym, ◌∙◌}
use Rattle.seq_caps.specs.seq_lookups.specs.seq_state.proofs.{ap, subst, arith, leb as nat_le}
use Rattle.seq_caps.specs.seq_lookups.specs.seq_state.proofs.{if◌then◌else◌, List, ◌∷◌, IsTrue, eq-eqb, Setting, IsSetting, InLimits, Call}
use Rattle.seq_caps.specs.seq_lookups.specs.seq_state.proofs.{Reply, Grace, Limits, State}
use Rattle.seq_caps.specs.seq_lookups.specs.seq_state.proofs.{with_core, put, begun, entered, returned, Change, Judged, Refused, Found}
use Rattle.seq_caps.specs.seq_lookups.specs.seq_state.proofs.{RuleMay, rule_of, change_of, changed}
use Rattle.seq_caps.specs.seq_lookups.specs.seq_state.proofs.{counted, state_by, are_calls_spent, acts, reply_in, alone, Event, Enters}
use Rattle.seq_caps.specs.seq_lookups.specs.seq_state.proofs.{Decides, Returns, after, Phase, Open}
use Rattle.seq_caps.specs.seq_lookups.specs.seq_state.proofs.{Decided, Out, is_decided, phase_of, IsRun, IfFound, limits_stay, state_of}
use Rattle.seq_caps.specs.seq_lookups.specs.seq_state.proofs.{SameGrace, SameState, Represents}
use low.{Core, passed, first_reply, plain_reply, plain_step, IfRefused, Waits, found_waits, waits_inside}
use low.{Agrees.IsBounded, Agrees.IsPlain, Agrees.rule_refused, AloneLaw.rule_plain, AloneLaw.first_permitted, Within.waits_within}
use Rattle.same_changes.proofs.{Alike.begun_same, EveryCall.changes_same, EveryCall.same_acts, EveryCall.stays_in_range}
use Rattle.{seq_caps.specs.seq_lookups.specs.seq_state.proofs.same_by, seq_caps.specs.seq_lookups.specs.seq_state.proofs.same_then}
use Rattle.{seq_caps.specs.seq_lookups.specs.seq_state.proofs.same_core, seq_caps.specs.seq_lookups.specs.IsCarriedOut}
use Rattle.{seq_caps.specs.seq_lookups.specs.IsInRange, same_changes.specs.kernel_laws.proofs.RangesLaw.ranges_hold}
use Rattle.{seq_caps.specs.seq_lookups.specs.seq_state.specs.Maps.Maps}
use Rattle.{same_changes.specs.Same.SameOutcome, plain_kernel.specs.Step.IsStep, plain_kernel.specs.Step.StepsExactly}

-- ---- the steps that are no call's own

core_step : (t s : State) (c : ℕ) (f : Core → Core) → c < s.limits.cores → SameState t s
    → SameState (with_core t c (f (t.core c))) (with_core s c (f (s.core c)))
core_step t s c f below e = same_then _ _ _ (same_by _ _ (ap (λ k. with_core t c (f k)) (e.core c below)))
    (same_core t s c (f (s.core c)) e)

pub entered_same : (t s : State) (c : ℕ) → c < s.limits.cores → SameState t s → SameState (entered t c) (entered s c)
entered_same t s c below e = core_step t s c (λ k. record k { inside = true }) below e

pub counted_same : (t s : State) (c : ℕ) → c < s.limits.cores → SameState t s → SameState (counted t c) (counted s c)
counted_same t s c below e = core_step t s c (λ k. record k { counted = k.counted + 1 }) below e

put_both : (f k : ℕ → Bool) (c d : ℕ) → f d ≡ k d → put f c false d ≡ put k c false d
put_both f k c d same = ap (λ b. if d == c then false else b) same

test_both : (a b : Bool) (f k f' k' : ℕ → Bool) (d : ℕ) → a ≡ b → f d ≡ k d → f' d ≡ k' d
    → (if a then f else f') d ≡ (if b then k else k') d
test_both a b f k f' k' d e on off = ap (λ x. (if x then f else f') d) e ∙ chosen b
  where
    chosen : (x : Bool) → (if x then f else f') d ≡ (if x then k else k') d
    chosen true = on
    chosen false = off

passed_same : (n c : ℕ) (g h : Grace) → c < n → SameGrace n g h → SameGrace n (passed c g) (passed c h)
passed_same n c g h below e = record {
  waits = λ d less. put_both g.waits h.waits c d (e.waits d less);
  not_passed = λ d less. test_both (g.waits c) (h.waits c) g.not_passed h.not_passed (put g.not_passed c false) (put h.not_passed c false) d
      (e.waits c below) (e.not_passed d less) (put_both g.not_passed h.not_passed c d (e.not_passed d less));
  unflushed = e.unflushed;
  flush_unknown = λ d less. test_both (g.unflushed c) (h.unflushed c) g.flush_unknown h.flush_unknown (put g.flush_unknown c false)
      (put h.flush_unknown c false) d
      (e.unflushed c below) (e.flush_unknown d less) (put_both g.flush_unknown h.flush_unknown c d (e.flush_unknown d less));
}

pub returned_same : (t s : State) (c : ℕ) → c < s.limits.cores → SameState t s → SameState (returned t c) (returned s c)
returned_same t s c below e =
    let cores = core_step t s c (λ k. record k { inside = false }) below e in
    record {
      limits = e.limits;
      place = e.place;
      frame = e.frame;
      number = e.number;
      core = cores.core;
      grace = λ x is. passed_same s.limits.cores c (t.grace x) (s.grace x) below (e.grace x is);
    }

-- ---- the call's own step

-- ---- the call's own step

-- What is carried out of an outcome is carried out of one that is the same.
over : (t s : State) (r : Reply) (k : Maps) → SameState t s → (x y : Judged Change) → SameOutcome x y
    → IfFound y (λ change. change.next.limits ≡ s.limits)
    → IsCarriedOut t x r k → IsCarriedOut s y r k
over t s r k e (Refused p) (Refused q) same limits h = record { reply = h.reply ∙ same; state = same_then (state_of k) t s h.state e }
over t s r k e (Found x) (Found y) same limits h = record {
  reply = h.reply ∙ ap Reply.Ok same.value;
  state = same_then (state_of k) (begun t x.begins x.next) (begun s y.begins y.next) h.state
      (subst (λ xs. SameState (begun t xs x.next) (begun s y.begins y.next)) (sym same.begins)
      (begun_same t s x.next y.next y.begins e same.next limits));
}
over t s r k e (Refused p) (Found y) same limits h = absurd same
over t s r k e (Found x) (Refused q) same limits h = absurd same

limits_of : (s : State) (j : Judged Change) → IfFound j (λ change. Waits s change.next)
    → IfFound j (λ change. change.next.limits ≡ s.limits)
limits_of s (Refused r) h = tt
limits_of s (Found change) h = h.limits

-- A plain refusal leaves all as it was, and is counted.
plain_refusal : (s : State) (c : ℕ) (call : Call) (r : Reply) → IsPlain r → state_by s c call r ≡ counted s c
plain_refusal s c call (Reply.Ok v) plain = absurd plain
plain_refusal s c call Reply.Raced plain = absurd plain
plain_refusal s c call (Reply.Busy d) plain = absurd plain
plain_refusal s c call Reply.CallsSpent plain = absurd plain
plain_refusal s c call _ plain = refl

-- The state that a call made alone leaves: its change, counted.
alone_state : (s : State) (c : ℕ) (call : Call) → IsBounded s → are_calls_spent s c ≡ false → IsTrue (acts s c call)
    → state_by s c call (alone s c call) ≡ counted (changed s (change_of s c call)) c
alone_state s c call calm some may =
    ap (λ t. state_by s c call (if t then Reply.CallsSpent else first_reply s c call)) some
    ∙ ap (λ t. state_by s c call (if t then reply_in (change_of s c call) else Reply.Dead)) may
    ∙ by_outcome (change_of s c call) refl (rule_refused s c (rule_of s c call) calm (rule_plain s c call))
  where
    by_outcome : (j : Judged Change) → change_of s c call ≡ j → IfRefused j (λ r. RuleMay s c (rule_of s c call) r × IsPlain r)
        → state_by s c call (reply_in j) ≡ counted (changed s j) c
    by_outcome (Refused r) is h = plain_refusal s c call r h.1
    by_outcome (Found change) is h = ap (λ j. counted (changed s j) c) is

changed_limits : (s : State) (j : Judged Change) → IfFound j (λ change. change.next.limits ≡ s.limits) → (changed s j).limits ≡ s.limits
changed_limits s (Refused r) h = refl
changed_limits s (Found change) h = h

le_then : (a b d : ℕ) → a ≤ b → b ≤ d → a ≤ d
le_then a b d p q = omega (arith, p, q)

put_here : (core : ℕ → Core) (c : ℕ) → (put core c (record (core c) { counted = (core c).counted + 1 }) c).counted ≡ (core c).counted + 1
put_here core c = ap (λ t. (if t then record (core c) { counted = (core c).counted + 1 } else core c).counted) (eq-eqb c c refl)

one_less : {n m : ℕ} (d : ℕ) → m ≡ n + 1 → m ≤ d → n < d
one_less d is most = omega (arith, is, most)

-- ---- in a reached state

-- The reply and the state of a call in state s.
pub record Made (s : State) (c : ℕ) (call : Call) (r : Reply) (k : Maps) : Type 0 where
  pub reply : r ≡ plain_reply s c call
  pub state : Represents k (plain_step s c call)

module _ (setting : Setting) (lim : IsSetting setting) (events : List Event) (run : IsRun setting events) (c : ℕ) (call : Call)
    (below : c < setting.cores) (out : phase_of events c ≡ Out) (fits : InLimits call) where
  runs : IsRun setting (Enters c call ∷ events)
  runs = (run, record { is_core = below; is_out = out; in_limits = fits })

  opens : phase_of (Enters c call ∷ events) c ≡ Open call
  opens = ap (λ b. if b then Open call else phase_of events c) (eq-eqb c c refl)

  core_in : c < (after setting events).limits.cores
  core_in = subst (λ (l : Limits). c < l.cores) (sym (limits_stay setting events)) below

  bounded : IsBounded (entered (after setting events) c)
  bounded = record {
    inside = waits_inside setting (Enters c call ∷ events);
    waits = λ x d. (waits_within setting (Enters c call ∷ events) x d).waits;
    flushes = λ x d. (waits_within setting (Enters c call ∷ events) x d).flushes;
  }

  -- The kernel has entered the call.
  pub entered_here : (k k1 : Maps) → Represents k (after setting events) → Represents k1 (entered (state_of k) c)
      → Represents k1 (entered (after setting events) c)
  entered_here k k1 e is = same_then _ _ _ is (entered_same (state_of k) (after setting events) c core_in e)

  spent_same : (k1 : Maps) → Represents k1 (entered (after setting events) c)
      → are_calls_spent (state_of k1) c ≡ are_calls_spent (entered (after setting events) c) c
  spent_same k1 e = λ i. nat_le (e.limits i).calls (e.core c core_in i).counted

  -- A core whose calls are spent is answered so.
  pub spent_here : (k k1 k2 : Maps) → Represents k (after setting events) → Represents k1 (entered (state_of k) c)
      → true ≡ are_calls_spent (state_of k1) c
      → Represents k2 (returned (state_of k1) c) → Made (after setting events) c call Reply.CallsSpent k2
  spent_here k k1 k2 e is spent left =
      let here = entered_here k k1 e is in
      let yes : are_calls_spent (entered (after setting events) c) c ≡ true = sym (spent ∙ spent_same k1 here) in
      let replied : Reply.CallsSpent ≡ alone (entered (after setting events) c) c call = ap
      (λ t. if t then Reply.CallsSpent else first_reply (entered (after setting events) c) c call) (sym yes) in
      record {
        reply = replied;
        state = subst (λ r. SameState (state_of k2) (returned (state_by (entered (after setting events) c) c call r) c)) replied
            (same_then _ _ _ left (returned_same (state_of k1) (entered (after setting events) c) c core_in here));
      }

  acts_same : (k1 : Maps) → Represents k1 (entered (after setting events) c)
      → acts (state_of k1) c call ≡ acts (entered (after setting events) c) c call
  acts_same k1 e = same_acts setting lim (Enters c call ∷ events) runs c call opens (state_of k1) e

  -- A call that its core may not make is answered so, counted and returned from.
  pub dead_here : (k k1 k3 : Maps) → Represents k (after setting events) → Represents k1 (entered (state_of k) c)
      → false ≡ are_calls_spent (state_of k1) c → false ≡ acts (state_of k1) c call
      → (c < (state_of k1).limits.cores → ((state_of k1).core c).counted < 2 ^ 40 - 1
      → Represents k3 (returned (counted (state_of k1) c) c))
      → Made (after setting events) c call Reply.Dead k3
  dead_here k k1 k3 e is some dead finishes =
      let s = entered (after setting events) c in
      let here = entered_here k k1 e is in
      let no : are_calls_spent s c ≡ false = sym (some ∙ spent_same k1 here) in
      let not_acting : acts s c call ≡ false = sym (dead ∙ acts_same k1 here) in
      let replied : Reply.Dead ≡ alone s c call =
      ap (λ t. if t then reply_in (change_of s c call) else Reply.Dead) (sym not_acting)
      ∙ ap (λ t. if t then Reply.CallsSpent else first_reply s c call) (sym no) in
      let left : state_by s c call (alone s c call) ≡ counted s c = ap (state_by s c call) (sym replied) in
      let decided : IsRun setting (Decides c call (alone s c call) ∷ Enters c call ∷ events) =
      (runs, record { is_open = opens; permitted = (first_permitted setting (Enters c call ∷ events) c call).permitted }) in
      let range = (ranges_hold setting lim (Decides c call (alone s c call) ∷ Enters c call ∷ events) decided).cores c
      (subst (λ (l : Limits). c < l.cores) (sym (limits_stay setting (Decides c call (alone s c call) ∷ Enters c call ∷ events)))
      below) in
      let most : ((counted s c).core c).counted ≤ 2 ^ 40 - 1 =
      subst (λ x. (x.core c).counted ≤ 2 ^ 40 - 1) left
      (le_then _ _ _ range.counted (subst (λ (l : Limits). l.calls ≤ 2 ^ 40 - 1)
      (sym (limits_stay setting (Decides c call (alone s c call) ∷ Enters c call ∷ events))) lim.most_calls)) in
      let few : (s.core c).counted < 2 ^ 40 - 1 = one_less _ (put_here s.core c) most in
      let core_here : c < (state_of k1).limits.cores = subst (λ (l : Limits). c < l.cores) (sym here.limits) core_in in
      let few_here : ((state_of k1).core c).counted < 2 ^ 40 - 1 =
      subst (λ (k : Core). k.counted < 2 ^ 40 - 1) (sym (here.core c core_in)) few in
      record {
        reply = replied;
        state = subst (λ x. SameState (state_of k3) (returned x c)) (sym left)
            (same_then _ _ _ (finishes core_here few_here)
            (returned_same (counted (state_of k1) c) (counted s c) c core_in (counted_same (state_of k1) s c core_in here)));
      }

  -- Any other call is decided, counted and returned from.
  pub made_here : (k k1 k2 k3 : Maps) (r : Reply) → Represents k (after setting events) → Represents k1 (entered (state_of k) c)
      → false ≡ are_calls_spent (state_of k1) c → true ≡ acts (state_of k1) c call
      → (IsInRange (state_of k1) c call → IsCarriedOut (state_of k1) (change_of (state_of k1) c call) r k2)
      → (c < (state_of k2).limits.cores → ((state_of k2).core c).counted < 2 ^ 40 - 1
      → Represents k3 (returned (counted (state_of k2) c) c))
      → Made (after setting events) c call r k3
  made_here k k1 k2 k3 r e is some lives decides finishes =
      let s = entered (after setting events) c in
      let here = entered_here k k1 e is in
      let no : are_calls_spent s c ≡ false = sym (some ∙ spent_same k1 here) in
      let may : acts s c call ≡ true = sym (lives ∙ acts_same k1 here) in
      let j = change_of s c call in
      let done : IsCarriedOut s j r k2 = over (state_of k1) s r k2 here (change_of (state_of k1) c call) j
      (changes_same setting lim (Enters c call ∷ events) runs c call opens (state_of k1) here)
      (limits_of s j (found_waits s c call))
      (decides (stays_in_range setting lim (Enters c call ∷ events) runs c call opens (state_of k1) here)) in
      let replied : r ≡ alone s c call = done.reply ∙ ap (λ t. if t then reply_in j else Reply.Dead) (sym may)
      ∙ ap (λ t. if t then Reply.CallsSpent else first_reply s c call) (sym no) in
      let left : state_by s c call (alone s c call) ≡ counted (changed s j) c = alone_state s c call bounded no may in
      let decided : IsRun setting (Decides c call (alone s c call) ∷ Enters c call ∷ events) =
      (runs, record { is_open = opens; permitted = (first_permitted setting (Enters c call ∷ events) c call).permitted }) in
      let range = (ranges_hold setting lim (Decides c call (alone s c call) ∷ Enters c call ∷ events) decided).cores c
      (subst (λ (l : Limits). c < l.cores) (sym (limits_stay setting (Decides c call (alone s c call) ∷ Enters c call ∷ events)))
      below) in
      let most : ((counted (changed s j) c).core c).counted ≤ 2 ^ 40 - 1 =
      subst (λ x. (x.core c).counted ≤ 2 ^ 40 - 1) left
      (le_then _ _ _ range.counted (subst (λ (l : Limits). l.calls ≤ 2 ^ 40 - 1)
      (sym (limits_stay setting (Decides c call (alone s c call) ∷ Enters c call ∷ events))) lim.most_calls)) in
      let few : ((changed s j).core c).counted < 2 ^ 40 - 1 = one_less _ (put_here (changed s j).core c) most in
      let limits : (changed s j).limits ≡ s.limits = changed_limits s j
      (limits_of s j (found_waits s c call)) in
      let core_there : c < (changed s j).limits.cores = subst (λ (l : Limits). c < l.cores) (sym limits) core_in in
      let core_here : c < (state_of k2).limits.cores = subst (λ (l : Limits). c < l.cores) (sym done.state.limits) core_there in
      let few_here : ((state_of k2).core c).counted < 2 ^ 40 - 1 = subst (λ (k : Core). k.counted < 2 ^ 40 - 1)
      (sym (done.state.core c core_there)) few in
      record {
        reply = replied;
        state = subst (λ x. SameState (state_of k3) (returned x c)) (sym left)
            (same_then _ _ _ (finishes core_here few_here)
            (returned_same (counted (state_of k2) c) (counted (changed s j) c) c core_there
            (counted_same (state_of k2) (changed s j) c core_there done.state)));
      }

-- ---- what is reached

-- A core that makes a call is out of it again, and so are all others.
quiet_again : (events : List Event) (c : ℕ) (call : Call) (r : Reply) → ((d : ℕ) → phase_of events d ≡ Out) → (d : ℕ)
    → phase_of (Returns c ∷ Decides c call r ∷ Enters c call ∷ events) d ≡ Out
quiet_again events c call r quiet d = by_test (d == c)
  where
    by_test : (b : Bool) → (if b then Out else if b then Decided call r else if b then Open call else phase_of events d) ≡ Out
    by_test true = refl
    by_test false = quiet d

pub reached_on : (setting : Setting) → IsSetting setting → (events : List Event) → IsRun setting events
    → ((d : ℕ) → phase_of events d ≡ Out)
    → (c : ℕ) (call : Call) (r : Reply) (k : Maps) → c < setting.cores → InLimits call
    → Made (after setting events) c call r k → IsStep setting (after setting events) c call r k
reached_on setting lim events run quiet c call r k below fits made =
    let s = after setting events in
    let reply = plain_reply s c call in
    let own : (phase : Phase) (b : Bool) → b ≡ true → (rest : Phase) → (if b then phase else rest) ≡ phase = λ phase b on rest. ap
    (λ t. if t then phase else rest) on in
    let one = eq-eqb c c refl in
    record {
      reply = made.reply;
      reached = record {
        events = Returns c ∷ Decides c call reply ∷ Enters c call ∷ events;
        runs = (
          (
            (run, record { is_core = below; is_out = quiet c; in_limits = fits }),
            record {
              is_open = own (Open call) _ one (phase_of events c);
              permitted = (first_permitted setting (Enters c call ∷ events) c call).permitted;
            },
          ),
          ap is_decided (own (Decided call reply) _ one (phase_of (Enters c call ∷ events) c)),
        );
        quiet = quiet_again events c call reply quiet;
        state = refl;
        represents = made.state;
      };
    }

-- In every state that the kernel has reached.
pub always : (k k' : Maps) (c : ℕ) (call : Call) (r : Reply) → c < (state_of k).limits.cores → InLimits call
    → ((setting : Setting) → IsSetting setting → (events : List Event) → IsRun setting events → phase_of events c ≡ Out → c < setting.cores
    → Represents k (after setting events) → Made (after setting events) c call r k')
    → StepsExactly k c call r k'
always k k' c call r below fits makes setting lim s reached =
    subst (λ x. IsStep setting x c call r k') reached.state
    (let e : Represents k (after setting reached.events) = subst (Represents k) (sym reached.state) reached.represents in
    let core : c < setting.cores = subst (λ (l : Limits). c < l.cores) (e.limits ∙ limits_stay setting reached.events) below in
    reached_on setting lim reached.events reached.runs reached.quiet c call r k' core fits
    (makes setting lim reached.events reached.runs (reached.quiet c) core e))
