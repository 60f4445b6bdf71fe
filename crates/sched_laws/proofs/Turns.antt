-- What a turn comes to: a further job of a task arrives, a task runs, or is refused, or nothing is ready.
use Rattle.sched_laws.proofs.Common.{◌≡◌, ℕ, suc, ◌+◌, ◌-◌, ◌<◌, ◌≤◌, Bool, true, false, refl, sym, ◌∙◌, ap, subst, arith, min}
use Rattle.sched_laws.proofs.Common.{if◌then◌else◌, List, [], ◌∷◌, ◌++◌, Option, Some, None, slice_get, Call, Tick, Reply, State, Rule, Job}
use Rattle.sched_laws.proofs.Common.{Choice, Renewal, Ran, Idle, Back, Refused, Progress, Step, chosen, next_arrival, length_of, reply_to}
use Rattle.sched_laws.proofs.Common.{state_past, is_done, refused, ran, ticks, switches, switch_for, goes_on, idles, turn_by, turn_for}
use Rattle.sched_laws.proofs.Common.{turn_of, is_renewed, renewal, put_out, gives_back, replenish_for}
use Rattle.sched_laws.specs.Least.{IsLeast, NoneReady, LeastRuns, NoneWaits}
use Rattle.sched_laws.proofs.Picks.{best, none_ready, place_of, first_of_all}
use Rattle.sched_laws.proofs.Arriving.{IsBefore, ready_same, tick_before}

-- The chosen task runs.
pub record RunsOne (rule : Rule) (x : Progress) (step : Step) : Type 0 where
  pub no_job : renewal x.time 0 x.jobs ≡ None
  pub choice : Choice
  pub is_chosen : chosen x.state rule x.time 0 x.jobs ≡ Some choice
  pub state : State
  pub calls : List Call
  pub is_step : ran x choice state calls (length_of rule x choice) ≡ step

-- The chosen task is refused.
pub record RefusesOne (rule : Rule) (x : Progress) (step : Step) : Type 0 where
  pub no_job : renewal x.time 0 x.jobs ≡ None
  pub choice : Choice
  pub is_chosen : chosen x.state rule x.time 0 x.jobs ≡ Some choice
  pub state : State
  pub calls : List Call
  pub reply : Reply
  pub is_step : refused x choice state calls reply ≡ step

-- No task is ready.
pub record IdlesOn (rule : Rule) (x : Progress) (step : Step) : Type 0 where
  pub no_job : renewal x.time 0 x.jobs ≡ None
  pub none : chosen x.state rule x.time 0 x.jobs ≡ None
  pub at : ℕ
  pub next : next_arrival x.time x.jobs ≡ Some at
  pub is_step : record { turn = Idle x.time (at - x.time); calls = []; next = record x { time = at } } ≡ step

-- A task of which a job has come is one of those listed.
come_from : (now i : ℕ) (jobs : List Job) (r : Renewal) → renewal now i jobs ≡ Some r
    → (i ≤ r.index) × (slice_get jobs (r.index - i) ≡ Some r.job)
come_from now i [] r is = absurd (cc)
come_from now i (job ∷ jobs) r is = by_test (is_renewed now job) is (λ h. come_from now (i + 1) jobs r h)
  where
    by_test : (b : Bool) → (if b then Some (record { index = i; job = job }) else renewal now (i + 1) jobs) ≡ Some r
        → (renewal now (i + 1) jobs ≡ Some r → (i + 1 ≤ r.index) × (slice_get jobs (r.index - (i + 1)) ≡ Some r.job))
        → (i ≤ r.index) × (slice_get (job ∷ jobs) (r.index - i) ≡ Some r.job)
    by_test true h after =
        let same : record { index = i; job = job } ≡ r = cc in
        let index : i ≡ r.index = ap (λ (x : Renewal). x.index) same in
        let none : r.index - i ≡ 0 = omega (arith, index) in
        (omega (arith, index), ap (slice_get (job ∷ jobs)) none ∙ ap (λ (x : Renewal). Some x.job) same)
    by_test false h after =
        let rest = after h in
        let low : i + 1 ≤ r.index = rest.0 in
        let next : r.index - i ≡ suc (r.index - (i + 1)) = omega (arith, low) in
        (omega (arith, low), ap (slice_get (job ∷ jobs)) next ∙ rest.1)

pub come_at : (now : ℕ) (jobs : List Job) (r : Renewal) → renewal now 0 jobs ≡ Some r → slice_get jobs r.index ≡ Some r.job
come_at now jobs r is =
    let all : r.index - 0 ≡ r.index = omega arith in
    ap (slice_get jobs) (sym all) ∙ (come_from now 0 jobs r is).1

-- A further job of a task arrives.
pub record BeginsOne (rule : Rule) (x : Progress) (step : Step) : Type 0 where
  pub come : Renewal
  pub has_come : renewal x.time 0 x.jobs ≡ Some come
  pub is_done : is_done (reply_to x.state (replenish_for come.job)) ≡ true
  pub is_step : gives_back x come (replenish_for come.job) ≡ step

-- Its task is refused what it has run.
pub record LacksOne (rule : Rule) (x : Progress) (step : Step) : Type 0 where
  pub come : Renewal
  pub has_come : renewal x.time 0 x.jobs ≡ Some come
  pub state : State
  pub calls : List Call
  pub reply : Reply
  pub is_step : put_out x come.index come.job state calls reply ≡ step

pub data Way (rule : Rule) (x : Progress) (step : Step) : Type 0 where
  Runs : RunsOne rule x step → Way rule x step
  Refuses : RefusesOne rule x step → Way rule x step
  Idles : IdlesOn rule x step → Way rule x step
  Begins : BeginsOne rule x step → Way rule x step
  Lacks : LacksOne rule x step → Way rule x step

module _ (rule : Rule) (x : Progress) (step : Step) where
  module _ (no_job : renewal x.time 0 x.jobs ≡ None) (c : Choice) (is : chosen x.state rule x.time 0 x.jobs ≡ Some c) where
    by_ticks : (s : State) (calls : List Call) (d : Bool)
        → (if d then ran x c (state_past s (Tick (length_of rule x c))) (calls ++ Tick (length_of rule x c) ∷ []) (length_of rule x c)
        else refused x c (state_past s (Tick (length_of rule x c))) (calls ++ Tick (length_of rule x c) ∷ [])
        (reply_to s (Tick (length_of rule x c)))) ≡ step
        → Way rule x step
    by_ticks s calls true e = Runs (record {
      no_job = no_job;
      choice = c;
      is_chosen = is;
      state = state_past s (Tick (length_of rule x c));
      calls = calls ++ Tick (length_of rule x c) ∷ [];
      is_step = e;
    })
    by_ticks s calls false e = Refuses (record {
      no_job = no_job;
      choice = c;
      is_chosen = is;
      state = state_past s (Tick (length_of rule x c));
      calls = calls ++ Tick (length_of rule x c) ∷ [];
      reply = reply_to s (Tick (length_of rule x c));
      is_step = e;
    })

    by_switch : (call : Call) (d : Bool)
        → (if d then ticks x c (state_past x.state call) (call ∷ []) (length_of rule x c)
        else refused x c (state_past x.state call) (call ∷ []) (reply_to x.state call)) ≡ step
        → Way rule x step
    by_switch call true e =
        by_ticks (state_past x.state call) (call ∷ []) (is_done (reply_to (state_past x.state call) (Tick (length_of rule x c)))) e
    by_switch call false e = Refuses (record {
      no_job = no_job;
      choice = c;
      is_chosen = is;
      state = state_past x.state call;
      calls = call ∷ [];
      reply = reply_to x.state call;
      is_step = e;
    })

    by_going : (d : Bool)
        → (if d then ticks x c x.state [] (length_of rule x c) else switches x c (switch_for c.job.task) (length_of rule x c)) ≡ step
        → Way rule x step
    by_going true e = by_ticks x.state [] (is_done (reply_to x.state (Tick (length_of rule x c)))) e
    by_going false e = by_switch (switch_for c.job.task) (is_done (reply_to x.state (switch_for c.job.task))) e

  module _ (no_job : renewal x.time 0 x.jobs ≡ None) where
    by_arrival : chosen x.state rule x.time 0 x.jobs ≡ None → (a : Option ℕ) → next_arrival x.time x.jobs ≡ a → idles x a ≡ Some step
        → Way rule x step
    by_arrival none None is e = absurd (cc)
    by_arrival none (Some at) is e = Idles (record { no_job = no_job; none = none; at = at; next = is; is_step = cc })

    by_choice : (o : Option Choice) → chosen x.state rule x.time 0 x.jobs ≡ o → turn_by rule x o ≡ Some step → Way rule x step
    by_choice None is e = by_arrival is (next_arrival x.time x.jobs) refl e
    by_choice (Some c) is e = by_going no_job c is (goes_on x c) (cc)

  by_done : (r : Renewal) → renewal x.time 0 x.jobs ≡ Some r → (d : Bool) → is_done (reply_to x.state (replenish_for r.job)) ≡ d
      → (if d then gives_back x r (replenish_for r.job)
      else put_out x r.index r.job (state_past x.state (replenish_for r.job)) (replenish_for r.job ∷ [])
      (reply_to x.state (replenish_for r.job))) ≡ step
      → Way rule x step
  by_done r is true done e = Begins (record { come = r; has_come = is; is_done = done; is_step = e })
  by_done r is false off e = Lacks (record {
    come = r;
    has_come = is;
    state = state_past x.state (replenish_for r.job);
    calls = replenish_for r.job ∷ [];
    reply = reply_to x.state (replenish_for r.job);
    is_step = e;
  })

  by_renewal : (o : Option Renewal) → renewal x.time 0 x.jobs ≡ o → turn_for rule x o ≡ Some step → Way rule x step
  by_renewal None is e = by_choice is (chosen x.state rule x.time 0 x.jobs) refl e
  by_renewal (Some r) is e = by_done r is (is_done (reply_to x.state (replenish_for r.job))) refl (cc)

pub way : (rule : Rule) (x : Progress) (step : Step) → turn_of rule x ≡ Some step → Way rule x step
way rule x step e = by_renewal rule x step (renewal x.time 0 x.jobs) refl e

-- The schedule ends where none is ready, none has come and none is still to come.
pub record Ends (rule : Rule) (x : Progress) : Type 0 where
  pub none : chosen x.state rule x.time 0 x.jobs ≡ None
  pub last : next_arrival x.time x.jobs ≡ None

pub ends : (rule : Rule) (x : Progress) → turn_of rule x ≡ None → Ends rule x
ends rule x e = by_come (renewal x.time 0 x.jobs) e
  where
    by_last : chosen x.state rule x.time 0 x.jobs ≡ None → (a : Option ℕ) → next_arrival x.time x.jobs ≡ a → idles x a ≡ None
        → Ends rule x
    by_last none None is e = record { none = none; last = is }
    by_last none (Some at) is e = absurd (cc)

    by_ended : (o : Option Choice) → chosen x.state rule x.time 0 x.jobs ≡ o → turn_by rule x o ≡ None → Ends rule x
    by_ended None is e = by_last is (next_arrival x.time x.jobs) refl e
    by_ended (Some c) is e = absurd (cc)

    by_come : (o : Option Renewal) → turn_for rule x o ≡ None → Ends rule x
    by_come None e = by_ended (chosen x.state rule x.time 0 x.jobs) refl e
    by_come (Some r) e = absurd (cc)

-- ---- at every tick

least_at : (rule : Rule) (x : Progress) (c : Choice) → chosen x.state rule x.time 0 x.jobs ≡ Some c
    → (t : ℕ) → x.time ≤ t → t < x.time + length_of rule x c → IsLeast x.state rule t x.jobs c.index
least_at rule x c is t le less =
    let before : IsBefore t (next_arrival x.time x.jobs) = tick_before (next_arrival x.time x.jobs) x.time
    (min rule.quantum (min c.job.left c.ready.budget)) t le less in
    let here = place_of x.state rule x.time x.jobs c is in
    record {
      job = c.job;
      own = c.ready;
      listed = here;
      is_ready = ready_same x.state rule x.time t x.jobs le before c.index c.job here
          ∙ (best x.state rule x.time 0 x.jobs c is).is_ready;
      least = λ k other r at q. first_of_all x.state rule x.time x.jobs c is k other r at
          (sym (ready_same x.state rule x.time t x.jobs le before k other at) ∙ q);
    }

pub least_runs : LeastRuns
least_runs rule x step e at i u is t le less = by_way (way rule x step e)
  where
    by_way : Way rule x step → IsLeast x.state rule t x.jobs i
    by_way (Runs w) =
        let turn : Ran x.time (w.choice.index + 1) (length_of rule x w.choice) ≡ Ran at (i + 1) u = ap (λ s. s.turn) w.is_step ∙ is in
        let time : x.time ≡ at = cc in
        let place : w.choice.index + 1 ≡ i + 1 = cc in
        let long : length_of rule x w.choice ≡ u = cc in
        let same : w.choice.index ≡ i = omega (arith, place) in
        subst (IsLeast x.state rule t x.jobs) same
        (least_at rule x w.choice w.is_chosen t (subst (λ n. n ≤ t) (sym time) le)
        (subst (λ n. t < x.time + n) (sym long) (subst (λ n. t < n + u) (sym time) less)))
    by_way (Refuses w) =
        let turn : Refused x.time (w.choice.index + 1) w.reply ≡ Ran at (i + 1) u = ap (λ s. s.turn) w.is_step ∙ is in
        absurd (cc)
    by_way (Idles w) =
        let turn : Idle x.time (w.at - x.time) ≡ Ran at (i + 1) u = ap (λ s. s.turn) w.is_step ∙ is in
        absurd (cc)
    by_way (Begins w) =
        let turn : Back x.time (w.come.index + 1) w.come.job.used ≡ Ran at (i + 1) u = ap (λ s. s.turn) w.is_step ∙ is in
        absurd (cc)
    by_way (Lacks w) =
        let turn : Refused x.time (w.come.index + 1) w.reply ≡ Ran at (i + 1) u = ap (λ s. s.turn) w.is_step ∙ is in
        absurd (cc)

none_at : (rule : Rule) (x : Progress) → chosen x.state rule x.time 0 x.jobs ≡ None
    → (t : ℕ) → x.time ≤ t → IsBefore t (next_arrival x.time x.jobs) → NoneReady x.state rule t x.jobs
none_at rule x none t le before k job at =
    ready_same x.state rule x.time t x.jobs le before k job at ∙ none_ready x.state rule x.time 0 x.jobs none k job at

pub none_waits : NoneWaits
none_waits rule x = record {
  idle = λ step e at u is t le less. by_way step (way rule x step e) at u is t le less;
  ended = λ e t le.
      let end = ends rule x e in
      none_at rule x end.none t le (subst (IsBefore t) (sym end.last) tt);
}
  where
    by_way : (step : Step) → Way rule x step → (at u : ℕ) → step.turn ≡ Idle at u → (t : ℕ) → at ≤ t → t < at + u
        → NoneReady x.state rule t x.jobs
    by_way step (Runs w) at u is t le less =
        let turn : Ran x.time (w.choice.index + 1) (length_of rule x w.choice) ≡ Idle at u = ap (λ s. s.turn) w.is_step ∙ is in
        absurd (cc)
    by_way step (Refuses w) at u is t le less =
        let turn : Refused x.time (w.choice.index + 1) w.reply ≡ Idle at u = ap (λ s. s.turn) w.is_step ∙ is in
        absurd (cc)
    by_way step (Idles w) at u is t le less =
        let turn : Idle x.time (w.at - x.time) ≡ Idle at u = ap (λ s. s.turn) w.is_step ∙ is in
        let time : x.time ≡ at = cc in
        let long : w.at - x.time ≡ u = cc in
        let here : x.time ≤ t = omega (arith, time, le) in
        none_at rule x w.none t here (subst (IsBefore t) (sym w.next) (omega (arith, time, long, le, less)))
    by_way step (Begins w) at u is t le less =
        let turn : Back x.time (w.come.index + 1) w.come.job.used ≡ Idle at u = ap (λ s. s.turn) w.is_step ∙ is in
        absurd (cc)
    by_way step (Lacks w) at u is t le less =
        let turn : Refused x.time (w.come.index + 1) w.reply ≡ Idle at u = ap (λ s. s.turn) w.is_step ∙ is in
        absurd (cc)
