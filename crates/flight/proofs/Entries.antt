-- The entry of a call is good: its calls are spent, it asks first whether the component in which the core works lives, or, where it does
-- not ask, it begins its act.
use Rattle.work_invariant.specs.step_ways.proofs.{IsTrue, acts, GoesOn, went, Living, AtComp, true≢false, ◌≡◌, ℕ, ◌+◌, ◌<◌, Bool, true}
use Rattle.work_invariant.specs.step_ways.proofs.{false, leb as nat_le, length, Some, None, arith, refl, sym, ◌∙◌, ap, subst, inl}
use Rattle.work_invariant.specs.step_ways.proofs.{if◌then◌else◌, Setting, IsSetting, Call, Ret, CoreAt, StoreOf, State, first_of_stack}
use Rattle.work_invariant.specs.step_ways.proofs.{thread_in, thread_of, RuleMay, Refused, unless, first_of, rule_of, change_of}
use Rattle.work_invariant.specs.step_ways.proofs.{are_calls_spent, counted, put_same, Step, Trace, Out, phase, state_after, last_left}
use Rattle.work_invariant.specs.step_ways.proofs.{refused_first, plan_for, Act, Nothing, Undecided, Decided, Core, refuse, Took, landed}
use Rattle.work_invariant.specs.step_ways.proofs.{fresh, core_after, told_by, decided_in, returned_in, CallIs, ChargesBy, Invariant}
use Rattle.work_invariant.specs.step_ways.proofs.{limits_of, calm_counted, Tick as tick_act, Flush as flush_act, Return as return_act}
use Rattle.work_invariant.specs.step_ways.proofs.{AtLoad, next_by, IsGood, Lands, step_to, does, Reply, Refusal}
use Rattle.call_fits.specs.call_stages.specs.act_states.specs.{asks_life, Tick, Flush, returns_if, ticks_due, Nothing as no_value}
use Rattle.call_fits.specs.call_stages.specs.{core_word, took_first, took_enter, is_spent}
use Rattle.call_fits.specs.call_stages.specs.kernel_rules.specs.{entered, Pop as pop_edit}
use Rattle.call_fits.specs.call_stages.specs.act_states.specs.{declared.work.Act.Act as ActOf}
use Rattle.call_fits.specs.call_stages.specs.act_states.specs.{declared.invocations.ReturningAt.TheVariants.LoadBelow, Acts.returns_at}
use Rattle.call_fits.specs.call_stages.specs.act_states.specs.{Flushes.flushes, Ticks.charges}
use Rattle.work_invariant.specs.kept_facts.proofs.Calm.{calm_entered, calm_then}
use Rattle.std.proofs.Common.{[], ◌∷◌}
use Rattle.{work_invariant.specs.trace_laws.proofs.AloneCalls.spent_first}
use Rattle.{call_fits.specs.call_stages.specs.call_plans.proofs.Lives.lives as lives_asked}
use Rattle.{work_invariant.specs.step_ways.proofs.Writes.enters_on, flight.specs.Made.MayBegin}

module _ (setup : Setting) (setting : IsSetting setup) (cores : ℕ → Core) (t : Trace) (stands : Invariant setup cores t) (c : ℕ)
    (here : c < setup.cores)
    (call : Call) (may : MayBegin call (cores c)) where
  abbrev s : State
  s = state_after setup t

  abbrev was : ℕ
  was = last_left setup t (CoreAt c)

  abbrev step : Took → Step
  step took = step_to c (Some call) (StoreOf (CoreAt c) (core_word true (cores c).own.exit)) was (decided_in (told_by took))
      (returned_in (told_by took))

  abbrev pub GoodEntry : Took → Type 0
  GoodEntry took = Lands setup (core_after (cores c).own took) (CoreAt c) → IsGood setup cores t (step took)
      (core_after (cores c).own took)

  same_count : ((entered s c).core c).counted ≡ (s.core c).counted
  same_count = ap (λ k. k.counted) (put_same s.core c (record (s.core c) { inside = true }) c refl)

  spent_is : are_calls_spent (entered s c) c ≡ is_spent (cores c).own
  spent_is =
      ap (λ (n : ℕ). nat_le s.limits.calls n) (same_count ∙ sym (stands.each c here).works.made)
      ∙ ap (λ (n : ℕ). nat_le n (cores c).own.made) (ap (λ l. l.calls) (limits_of setup t) ∙ sym (stands.each c here).limit)

  out : phase t c ≡ Out
  out = subst (CallIs setup t c (cores c).own.table) may.between (stands.each c here).active

  enters_spent : is_spent (cores c).own ≡ true → GoodEntry (landed (fresh call) (refuse Refusal.CallsSpent))
  enters_spent spent lands =
      enters_on setup setting cores t stands c here ((cores c).own.made + 0) call (Some Reply.CallsSpent)
      (Decided Reply.CallsSpent None Nothing) may.between may.limits lands refl refl
      (calm_entered s c)
      (record { begins = λ x. refl; ends = λ x. refl; flushes = refl; apart = λ d. refl; same = refl })
      (let made = (stands.each c here).works.made in let same = same_count in omega arith)
      (λ g i. refl)
      (record { call = call; is_open = refl; permitted = spent_is ∙ spent; justified = tt })
      (spent_first (entered s c) c call (spent_is ∙ spent))
      tt

  -- it asks first whether the component in which the core works lives
  enters_asking : IsTrue (asks_life call) → is_spent (cores c).own ≡ false
      → GoodEntry (GoesOn (went (fresh call) (Living (AtComp (cores c).own.comp))))
  enters_asking asks unspent lands =
      let works = (stands.each c here).works in
      enters_on setup setting cores t stands c here (cores c).own.made call None (Living (AtComp (cores c).own.comp))
      may.between may.limits lands refl refl
      (calm_entered s c)
      (record { begins = λ x. refl; ends = λ x. refl; flushes = refl; apart = λ d. refl; same = refl })
      (let made = works.made in let same = same_count in omega arith)
      (λ g i. refl)
      tt
      tt
      (record {
        asks = asks;
        at = works.comp ∙ ap (λ k. first_of_stack (thread_in (s.frame k.thread)).stack)
            (sym (put_same s.core c (record (s.core c) { inside = true }) c refl));
      })

  -- a tick charges its ticks, and those that the core owes
  enters_tick : (n : ℕ) → call ≡ Tick n → is_spent (cores c).own ≡ false
      → GoodEntry (landed (fresh call) (charges (cores c).own n))
  enters_tick n is unspent lands =
      let act : ActOf = tick_act (AtLoad (cores c).own.tcap (ticks_due (cores c).own.owed n)) in
      let works = (stands.each c here).works in
      enters_on setup setting cores t stands c here (cores c).own.made call None (Undecided (Act act))
      may.between may.limits lands refl refl
      (calm_entered s c)
      (record { begins = λ x. refl; ends = λ x. refl; flushes = refl; apart = λ d. refl; same = refl })
      (let made = works.made in let same = same_count in omega arith)
      (λ g i. refl)
      tt
      tt
      (record {
        acts = subst (λ x. IsTrue (acts (entered s c) c x)) (sym is) refl;
        names = tt;
        knows = record {
          knows = record {
            charges = subst (λ x. ChargesBy (entered s c) c x (AtLoad (cores c).own.tcap (ticks_due (cores c).own.owed n))) (sym is)
                (record {
                  tcap = works.tcap ∙ ap (λ k. k.tcap) (sym (put_same s.core c (record (s.core c) { inside = true }) c refl));
                  ticks = ap (λ (m : ℕ). ticks_due m n)
                      (works.owed ∙ ap (λ k. k.owed) (sym (put_same s.core c (record (s.core c) { inside = true }) c refl)));
                });
            at = tt;
          };
          all = refl;
          goes = refl;
        };
      })

  -- a flush loads the clock
  enters_flush : call ≡ Flush → is_spent (cores c).own ≡ false → GoodEntry (landed (fresh call) (flushes (cores c).own.core))
  enters_flush is unspent lands =
      let made = (stands.each c here).works.made in
      enters_on setup setting cores t stands c here (cores c).own.made call None (Undecided (Act (flush_act (cores c).own.core)))
      may.between may.limits lands refl refl
      (calm_entered s c)
      (record { begins = λ x. refl; ends = λ x. refl; flushes = refl; apart = λ d. refl; same = refl })
      (let same = same_count in omega arith)
      (λ g i. refl)
      tt
      tt
      (record {
        acts = subst (λ x. IsTrue (acts (entered s c) c x)) (sym is) refl;
        names = tt;
        knows = record { knows = record { call_is = is; core = (stands.each c here).number }; all = refl; goes = refl };
      })

  -- a return leaves the component on top of the stack, or there is none below it
  module _ (is : call ≡ Ret) where
    same_own : (entered s c).core c ≡ record (s.core c) { inside = true }
    same_own = put_same s.core c (record (s.core c) { inside = true }) c refl

    same_thread : thread_of (entered s c) c ≡ thread_of s c
    same_thread = ap (λ k. thread_in (s.frame k.thread)) same_own

    depth_is : (cores c).own.depth ≡ length (thread_of (entered s c) c).stack
    depth_is = (stands.each c here).works.depth ∙ ap (λ k. length k.stack) (sym same_thread)

    at_bottom : nat_le (cores c).own.depth 1 ≡ true → nat_le (length (thread_of (entered s c) c).stack) 1 ≡ true
    at_bottom low = sym (ap (λ (n : ℕ). nat_le n 1) depth_is) ∙ low

    returns_not : is_spent (cores c).own ≡ false → nat_le (cores c).own.depth 1 ≡ true
        → GoodEntry (landed (fresh call) (refuse Refusal.Bottom))
    returns_not unspent low lands =
        enters_on setup setting cores t stands c here ((cores c).own.made + 1) call (Some Reply.Bottom) (Decided Reply.Bottom None Nothing)
        may.between may.limits lands refl refl
        (calm_then s (entered s c) (counted (entered s c) c) c (calm_entered s c) (calm_counted (entered s c) c))
        (record { begins = λ x. refl; ends = λ x. refl; flushes = refl; apart = λ d. refl; same = refl })
        (let made = (stands.each c here).works.made in
        let same = same_count in
        let more : ((counted (entered s c) c).core c).counted ≡ ((entered s c).core c).counted + 1 =
        ap (λ k. k.counted) (put_same (entered s c).core c (record ((entered s c).core c) { counted = ((entered s c).core c).counted + 1 })
        c refl) in
        omega arith)
        (λ g i. refl)
        (record {
          call = call;
          is_open = refl;
          permitted = (
            spent_is ∙ unspent,
            subst (λ x. RuleMay (entered s c) c (rule_of (entered s c) c x) Reply.Bottom) (sym is) (inl (at_bottom low, refl)),
          );
          justified = tt;
        })
        (refused_first (entered s c) c call Reply.Bottom (subst (λ x. IsTrue (acts (entered s c) c x)) (sym is) refl) (spent_is ∙ unspent)
        (subst (λ x. change_of (entered s c) c x ≡ Refused Reply.Bottom) (sym is)
        (ap (λ b. unless (first_of (if b then Some Reply.Bottom else None) None) (does c (entered s c) no_value (pop_edit ∷ [])))
        (at_bottom low))))
        tt

    returns_on : is_spent (cores c).own ≡ false → nat_le (cores c).own.depth 1 ≡ false
        → GoodEntry (landed (fresh call) (returns_if false (cores c).own))
    returns_on unspent deep lands =
        let works = (stands.each c here).works in
        enters_on setup setting cores t stands c here (cores c).own.made call None
        (Undecided (Act (return_act (record {
          top = (cores c).own.comp;
          thread = (cores c).own.thread;
          depth = (cores c).own.depth;
          core = (cores c).own.core;
          frames = (cores c).own.layout.frames;
          at = LoadBelow;
        }))))
        may.between may.limits lands refl refl
        (calm_entered s c)
        (record { begins = λ x. refl; ends = λ x. refl; flushes = refl; apart = λ d. refl; same = refl })
        (let made = works.made in let same = same_count in omega arith)
        (λ g i. refl)
        tt
        tt
        (record {
          acts = subst (λ x. IsTrue (acts (entered s c) c x)) (sym is) refl;
          names = tt;
          knows = record {
            knows = record {
              call_is = is;
              core = (stands.each c here).number;
              on = record { thread = works.thread ∙ ap (λ k. k.thread) (sym same_own); depth = depth_is };
              top = works.comp ∙ ap (λ k. first_of_stack k.stack) (sym same_thread);
              at = tt;
            };
            all = refl;
            goes = refl;
          };
        })

    enters_ret : is_spent (cores c).own ≡ false → GoodEntry (landed (fresh call) (returns_at (cores c).own))
    enters_ret unspent = by (nat_le (cores c).own.depth 1) refl
      where
        by : (bottom : Bool) → nat_le (cores c).own.depth 1 ≡ bottom → GoodEntry (landed (fresh call) (returns_if bottom (cores c).own))
        by true low = returns_not unspent low
        by false deep = returns_on unspent deep

-- a call enters
module _ (setup : Setting) (setting : IsSetting setup) (cores : ℕ → Core) (t : Trace) (stands : Invariant setup cores t) (c : ℕ)
    (here : c < setup.cores) where
  -- one that does not ask begins its act
  enters_unasked : (call : Call) (may : MayBegin call (cores c)) → asks_life call ≡ false → is_spent (cores c).own ≡ false
      → GoodEntry setup setting cores t stands c here call may (landed (fresh call) (next_by (cores c).own (fresh call)))
  enters_unasked Flush may asks unspent = enters_flush setup setting cores t stands c here Flush may refl unspent
  enters_unasked (Tick n) may asks unspent = enters_tick setup setting cores t stands c here (Tick n) may n refl unspent
  enters_unasked Ret may asks unspent = enters_ret setup setting cores t stands c here Ret may refl unspent
  enters_unasked call may asks unspent = absurd (true≢false asks)

  enters_first : (call : Call) (may : MayBegin call (cores c)) → is_spent (cores c).own ≡ false
      → GoodEntry setup setting cores t stands c here call may (took_first (plan_for call).living (cores c).own (fresh call))
  enters_first call may unspent =
      subst (λ living. GoodEntry setup setting cores t stands c here call may (took_first living (cores c).own (fresh call)))
      (sym (lives_asked call)) (by (asks_life call) refl)
    where
      by : (asks : Bool) → asks_life call ≡ asks
          → GoodEntry setup setting cores t stands c here call may (took_first asks (cores c).own (fresh call))
      by true asks = enters_asking setup setting cores t stands c here call may asks unspent
      by false asks = enters_unasked call may asks unspent

  pub enter_good : (call : Call) (may : MayBegin call (cores c))
      → GoodEntry setup setting cores t stands c here call may (took_enter (is_spent (cores c).own) (cores c).own (fresh call))
  enter_good call may = by_spent (is_spent (cores c).own) refl
    where
      by_spent : (spent : Bool) → is_spent (cores c).own ≡ spent
          → GoodEntry setup setting cores t stands c here call may (took_enter spent (cores c).own (fresh call))
      by_spent true is = enters_spent setup setting cores t stands c here call may is
      by_spent false is = enters_first call may is
