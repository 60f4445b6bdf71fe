-- Further jobs of tasks arrive when they are due.
use Rattle.sched_laws.proofs.Common.{◌≡◌, inl, inr, ℕ, ◌+◌, ◌*◌, ◌-◌, ◌<◌, ◌≤◌, min, Bool, true, false, ◌==◌, refl, sym, ◌∙◌, ap, subst}
use Rattle.sched_laws.proofs.Common.{arith, List, [], ◌∷◌, ◌++◌, Option, Some, None, slice_set, if◌then◌else◌, slice_get, option_map}
use Rattle.sched_laws.proofs.Common.{cases_lt, cases_eq, eq-eqb, ne_eqb, true≢false, slice_get-map, State, Task, Rule, Job, Choice, Renewal}
use Rattle.sched_laws.proofs.Common.{Ran, Idle, Back, Refused, Progress, Step, next_arrival, length_of, turn_of, job_after, begun, new_job}
use Rattle.sched_laws.proofs.Common.{at_first, turns_of, IsSchedule, renewal, ran, refused, gives_back, put_out, replenish_for, come_in}
use Rattle.sched_laws.proofs.Common.{come_by}
use Rattle.std.specs.Prelude.{◌||◌}
use Rattle.std.proofs.Common.{one-mul}
use Rattle.sched_laws.specs.sched_rules.specs.{declared.turns.Turn.Turn, Schedule.within_last, next_of}
use Rattle.sched_laws.proofs.{Picks.place_of, Arriving.IsBefore, Arriving.before_each, Arriving.later_is, Arriving.cut_by, Turns.Way}
use Rattle.sched_laws.proofs.{Turns.Runs, Turns.Refuses, Turns.Idles, Turns.Begins, Turns.Lacks, Turns.RunsOne, Turns.IdlesOn}
use Rattle.sched_laws.proofs.{Turns.BeginsOne, Turns.way, Turns.ends, Turns.come_at, Weights.set_here, Weights.set_apart}
use Rattle.period_laws.specs.Arrivals.{begins_at, refuses, is_refused, NextDue, ArriveOnTime}
use Rattle.period_laws.proofs.{Jobs.the_job, Jobs.has_come_of, Jobs.later_next, Jobs.within_is, Jobs.within_tells, Jobs.times_next}
use Rattle.period_laws.proofs.{Pausing.Kept, Pausing.kept_on, Pausing.kept_first}

-- ---- when the next job is due

-- A task of which so many further jobs have come has its next one at a time.
pub record Due (task : Task) (come at : ℕ) : Type 0 where
  pub period : ℕ
  pub own : task.period ≡ Some period
  pub time : at ≡ task.arrival + (come + 1) * period
  pub last : at ≤ 1000000

abbrev next_job : ℕ → ℕ → Option ℕ → Option ℕ
next_job arrival come None = None
next_job arrival come (Some period) = within_last (arrival + (come + 1) * period)

due_tells : (task : Task) (come at : ℕ) → next_job task.arrival come task.period ≡ Some at → Due task come at
due_tells task come at is = by_period task.period refl is
  where
    by_period : (o : Option ℕ) → task.period ≡ o → next_job task.arrival come o ≡ Some at → Due task come at
    by_period None own is = absurd (cc)
    by_period (Some period) own is =
        let when = within_tells (task.arrival + (come + 1) * period) at is in
        let le = when.0 in
        let same = when.1 in
        record { period = period; own = own; time = sym same; last = omega (arith, le, same) }

due_is : (task : Task) (come at : ℕ) → Due task come at → next_job task.arrival come task.period ≡ Some at
due_is task come at d =
    let time = d.time in
    let last = d.last in
    ap (next_job task.arrival come) d.own ∙ within_is (task.arrival + (come + 1) * d.period) (omega (arith, time, last))
    ∙ ap Some (sym time)

first_due : (task : Task) → job_after task.arrival task.period ≡ next_job task.arrival 0 task.period
first_due task = by_period task.period
  where
    by_period : (o : Option ℕ) → job_after task.arrival o ≡ next_job task.arrival 0 o
    by_period None = refl
    by_period (Some period) =
        let one = one-mul period in
        ap within_last (let e : task.arrival + period ≡ task.arrival + 1 * period = omega (arith, one) in e)

-- The one after a job.
due_after : (task : Task) (come at : ℕ) → Due task come at → job_after at task.period ≡ next_job task.arrival (come + 1) task.period
due_after task come at d =
    let time = d.time in
    let more = times_next (come + 1) d.period in
    ap (job_after at) d.own
    ∙ ap within_last (let e : at + d.period ≡ task.arrival + (come + 1 + 1) * d.period = omega (arith, time, more) in e)
    ∙ ap (next_job task.arrival (come + 1)) (sym d.own)

due_later : (task : Task) (come at next : ℕ) → Due task come at → Due task (come + 1) next → at ≤ next
due_later task come at next a b =
    let same : a.period ≡ b.period = the_period a.period b.period (sym a.own ∙ b.own) in
    let time = a.time in
    let later = b.time in
    let more = times_next (come + 1) a.period in
    let moved : (come + 1 + 1) * b.period ≡ (come + 1 + 1) * a.period = ap (λ p. (come + 1 + 1) * p) (sym same) in
    omega (arith, time, later, more, moved)
  where
    the_period : (p q : ℕ) → Some p ≡ Some q → p ≡ q
    the_period p q e = cc

due_past : (task : Task) (come at : ℕ) → Due task come at → task.arrival ≤ at
due_past task come at d = let time = d.time in omega (arith, time)

-- No turn goes past the next job of a task that is not out.
not_past : (now : ℕ) (jobs : List Job) (i : ℕ) (job : Job) → slice_get jobs i ≡ Some job → job.out ≡ false
    → (at : ℕ) → job.next ≡ Some at → job.task.arrival ≤ at → IsBefore at (next_arrival now jobs) → ⊥
not_past now jobs i job listed inside at next arrived before =
    let mine = before_each now at jobs before i job listed in
    elim (cases_lt now job.task.arrival) [
      | inl coming ↦
          let less : at < job.task.arrival = subst (IsBefore at) (later_is now job coming inside) mine in
          omega (arith, less, arrived)
      | inr past ↦
          let less : at < at = subst (IsBefore at) (later_next now job past inside ∙ next) mine in
          omega (arith, less)
    ]

or_none : (o : Bool) → (o || false) ≡ o
or_none true = refl
or_none false = refl

or_some : (o : Bool) → (o || true) ≡ true
or_some true = refl
or_some false = refl

or_next : (a b c : Bool) → ((a || b) || c) ≡ (a || (b || c))
or_next true b c = refl
or_next false b c = refl

no_more : (n : ℕ) → n + 0 ≡ n
no_more n = omega arith

head_is : (a b : Turn) (xs ys : List Turn) → a ∷ xs ≡ b ∷ ys → a ≡ b
head_is a b xs ys e = cc

rest_is : (a b : Turn) (xs ys : List Turn) → a ∷ xs ≡ b ∷ ys → xs ≡ ys
rest_is a b xs ys e = cc

-- A turn begins at the time that the schedule has come to.
began : (rule : Rule) (x : Progress) (step : Step) → turn_of rule x ≡ Some step → begins_at step.turn ≡ x.time
began rule x step e = by_way (way rule x step e)
  where
    by_way : Way rule x step → begins_at step.turn ≡ x.time
    by_way (Runs w) = sym (ap (λ s. begins_at s.turn) w.is_step)
    by_way (Refuses w) = sym (ap (λ s. begins_at s.turn) w.is_step)
    by_way (Idles w) = sym (ap (λ s. begins_at s.turn) w.is_step)
    by_way (Begins w) = sym (ap (λ s. begins_at s.turn) w.is_step)
    by_way (Lacks w) = sym (ap (λ s. begins_at s.turn) w.is_step)

-- A turn in which a further job of a task arrives.
pub record Comes (rule : Rule) (x : Progress) (step : Step) (at i : ℕ) : Type 0 where
  pub begins : BeginsOne rule x step
  pub place : begins.come.index + 1 ≡ i
  pub time : x.time ≡ at

pub comes_by : (rule : Rule) (x : Progress) (step : Step) → turn_of rule x ≡ Some step → (at i ticks : ℕ) → step.turn ≡ Back at i ticks
    → Comes rule x step at i
comes_by rule x step e at i ticks is = by_way (way rule x step e)
  where
    by_way : Way rule x step → Comes rule x step at i
    by_way (Runs w) =
        let turn : Ran x.time (w.choice.index + 1) (length_of rule x w.choice) ≡ Back at i ticks = ap (λ s. s.turn) w.is_step ∙ is in
        absurd (cc)
    by_way (Refuses w) =
        let turn : Refused x.time (w.choice.index + 1) w.reply ≡ Back at i ticks = ap (λ s. s.turn) w.is_step ∙ is in
        absurd (cc)
    by_way (Idles w) =
        let turn : Idle x.time (w.at - x.time) ≡ Back at i ticks = ap (λ s. s.turn) w.is_step ∙ is in
        absurd (cc)
    by_way (Begins w) =
        let turn : Back x.time (w.come.index + 1) w.come.job.used ≡ Back at i ticks = ap (λ s. s.turn) w.is_step ∙ is in
        record { begins = w; place = cc; time = cc }
    by_way (Lacks w) =
        let turn : Refused x.time (w.come.index + 1) w.reply ≡ Back at i ticks = ap (λ s. s.turn) w.is_step ∙ is in
        absurd (cc)

-- ---- one task

module _ (i : ℕ) (task : Task) where
  -- The time is not after that of the next job.
  abbrev Until : ℕ → ℕ → Bool → Type 0
  Until now come out = out ≡ false → (at : ℕ) → Due task come at → now ≤ at

  -- Of the task at place i so many further jobs have come, and it is out or not.
  pub record Expects (x : Progress) (come : ℕ) (out : Bool) : Type 0 where
    pub job : Job
    pub listed : slice_get x.jobs i ≡ Some job
    pub is_task : job.task ≡ task
    pub is_out : job.out ≡ out
    pub next : job.next ≡ next_job task.arrival come task.period
    pub until : Until x.time come out

  -- After a turn.
  abbrev ExpectsOn : Step → ℕ → Bool → Type 0
  ExpectsOn step n o = Expects step.next (n + come_in (i + 1) step.turn) (o || refuses (i + 1) step.turn)

  -- Where its job stays but for what it has run.
  keeps : (x y : Progress) (n m : ℕ) (o p : Bool) → m ≡ n → p ≡ o → (h : Expects x n o)
      → (job : Job) → slice_get y.jobs i ≡ Some job → job.task ≡ h.job.task → job.out ≡ h.job.out → job.next ≡ h.job.next
      → Until y.time n o → Expects y m p
  keeps x y n m o p em ep h job listed is_task is_out next until =
      subst (λ a. Expects y a p) (sym em) (subst (λ b. Expects y n b) (sym ep) (record {
        job = job;
        listed = listed;
        is_task = is_task ∙ h.is_task;
        is_out = is_out ∙ h.is_out;
        next = next ∙ h.next;
        until = until;
      }))

  past_next : (x : Progress) (n : ℕ) (o : Bool) (h : Expects x n o) → o ≡ false → (at : ℕ) → Due task n at
      → IsBefore at (next_arrival x.time x.jobs) → ⊥
  past_next x n o h inside at d =
      let arrival : h.job.task.arrival ≡ task.arrival = ap (λ (t : Task). t.arrival) h.is_task in
      let past = due_past task n at d in
      not_past x.time x.jobs i h.job h.listed (h.is_out ∙ inside) at (h.next ∙ due_is task n at d) (omega (arith, arrival, past))

  runs_until : (rule : Rule) (x : Progress) (n : ℕ) (o : Bool) (c : Choice) → Expects x n o → Until (x.time + length_of rule x c) n o
  runs_until rule x n o c h inside at d = cut_by (next_arrival x.time x.jobs) x.time (min rule.quantum (min c.job.left c.ready.budget))
      at (h.until inside at d) (past_next x n o h inside at d)

  idles_until : (rule : Rule) (x : Progress) (step : Step) (n : ℕ) (o : Bool) (w : IdlesOn rule x step) → Expects x n o → Until w.at n o
  idles_until rule x step n o w h inside at d = elim (cases_lt at w.at) [
    | inl before ↦ absurd (past_next x n o h inside at d (subst (IsBefore at) (sym w.next) before))
    | inr within ↦ within
  ]

  -- It is put out.
  puts_out : (x : Progress) (s : Step) (n : ℕ) (o : Bool) (h : Expects x n o) (p : ℕ) (old : Job) → slice_get x.jobs p ≡ Some old
      → s.next.jobs ≡ slice_set x.jobs p (record old { out = true }) → s.next.time ≡ x.time
      → come_in (i + 1) s.turn ≡ 0 → refuses (i + 1) s.turn ≡ (p + 1 == i + 1) → ExpectsOn s n o
  puts_out x s n o h p old here jobs time come refused = elim (cases_eq p i) [
    | inl same ↦
        let mine : old ≡ h.job = the_job old h.job (sym here ∙ ap (slice_get x.jobs) same ∙ h.listed) in
        let yes : (o || refuses (i + 1) s.turn) ≡ true =
        ap (λ b. o || b) (refused ∙ eq-eqb (p + 1) (i + 1) (omega (arith, same))) ∙ or_some o in
        let none : n + come_in (i + 1) s.turn ≡ n = omega (arith, come) in
        subst (λ a. Expects s.next a (o || refuses (i + 1) s.turn)) (sym none) (subst (λ b. Expects s.next n b) (sym yes) (record {
          job = record old { out = true };
          listed = ap (λ js. slice_get js i) jobs
              ∙ ap (slice_get (slice_set x.jobs p (record old { out = true }))) (sym same)
              ∙ set_here x.jobs p old (record old { out = true }) here;
          is_task = ap (λ (j : Job). j.task) mine ∙ h.is_task;
          is_out = refl;
          next = ap (λ (j : Job). j.next) mine ∙ h.next;
          until = λ inside. absurd (true≢false inside);
        }))
    | inr other ↦
        keeps x s.next n (n + come_in (i + 1) s.turn) o (o || refuses (i + 1) s.turn) (omega (arith, come))
        (ap (λ b. o || b) (refused ∙ ne_eqb (p + 1) (i + 1) (λ q. other (omega (arith, q)))) ∙ or_none o) h h.job
        (ap (λ js. slice_get js i) jobs ∙ set_apart x.jobs p i (record old { out = true }) (λ q. other (sym q)) ∙ h.listed)
        refl refl refl (subst (λ t. Until t n o) (sym time) h.until)
  ]

  by_run : (rule : Rule) (x : Progress) (step : Step) (n : ℕ) (o : Bool) (w : RunsOne rule x step) → Expects x n o → ExpectsOn step n o
  by_run rule x step n o w h =
      let c : Choice = w.choice in
      let u : ℕ = length_of rule x c in
      let here : slice_get x.jobs c.index ≡ Some c.job = place_of x.state rule x.time x.jobs c w.is_chosen in
      let new : Job = record (c.job) { left = c.job.left - u; used = c.job.used + u } in
      subst (λ s. ExpectsOn s n o) w.is_step (elim (cases_eq c.index i) [
        | inl same ↦
            let mine : c.job ≡ h.job = the_job c.job h.job (sym here ∙ ap (slice_get x.jobs) same ∙ h.listed) in
            keeps x (ran x c w.state w.calls u).next n (n + 0) o (o || false) (no_more n) (or_none o) h new
            (ap (slice_get (slice_set x.jobs c.index new)) (sym same) ∙ set_here x.jobs c.index c.job new here)
            (ap (λ (j : Job). j.task) mine) (ap (λ (j : Job). j.out) mine) (ap (λ (j : Job). j.next) mine)
            (runs_until rule x n o c h)
        | inr other ↦
            keeps x (ran x c w.state w.calls u).next n (n + 0) o (o || false) (no_more n) (or_none o) h h.job
            (set_apart x.jobs c.index i new (λ q. other (sym q)) ∙ h.listed) refl refl refl (runs_until rule x n o c h)
      ])

  -- A job of it comes when it is due.
  pub comes_now : (x : Progress) (n : ℕ) (o : Bool) (r : Renewal) → renewal x.time 0 x.jobs ≡ Some r → r.index ≡ i → Expects x n o
      → Due task n x.time × (o ≡ false)
  comes_now x n o r is same h =
      let has = has_come_of x.time x.jobs r is in
      let mine : r.job ≡ h.job = the_job r.job h.job (sym (come_at x.time x.jobs r is) ∙ ap (slice_get x.jobs) same ∙ h.listed) in
      let inside : o ≡ false = sym h.is_out ∙ sym (ap (λ (j : Job). j.out) mine) ∙ has.inside in
      let due : Due task n has.at = due_tells task n has.at (sym h.next ∙ sym (ap (λ (j : Job). j.next) mine) ∙ has.next) in
      let until = h.until inside has.at due in
      let come = has.come in
      (subst (Due task n) (let e : has.at ≡ x.time = omega (arith, until, come) in e) due, inside)

  by_begin : (rule : Rule) (x : Progress) (step : Step) (n : ℕ) (o : Bool) (w : BeginsOne rule x step) → Expects x n o → ExpectsOn step n o
  by_begin rule x step n o w h =
      let r : Renewal = w.come in
      let here = come_at x.time x.jobs r w.has_come in
      let new : Job = begun r.job in
      subst (λ s. ExpectsOn s n o) w.is_step (elim (cases_eq r.index i) [
        | inl same ↦
            let mine : r.job ≡ h.job = the_job r.job h.job (sym here ∙ ap (slice_get x.jobs) same ∙ h.listed) in
            let is_task : r.job.task ≡ task = ap (λ (j : Job). j.task) mine ∙ h.is_task in
            let now = comes_now x n o r w.has_come same h in
            let next : r.job.next ≡ Some x.time = ap (λ (j : Job). j.next) mine ∙ h.next ∙ due_is task n x.time now.0 in
            let one : n + come_in (i + 1) (Back x.time (r.index + 1) r.job.used) ≡ n + 1 =
            ap (λ b. n + (if b then 1 else 0)) (eq-eqb (r.index + 1) (i + 1) (omega (arith, same))) in
            subst (λ m. Expects (gives_back x r (replenish_for r.job)).next m (o || false)) (sym one)
            (subst (λ b. Expects (gives_back x r (replenish_for r.job)).next (n + 1) b) (sym (or_none o)) (record {
              job = new;
              listed = ap (slice_get (slice_set x.jobs r.index new)) (sym same) ∙ set_here x.jobs r.index r.job new here;
              is_task = is_task;
              is_out = ap (λ (j : Job). j.out) mine ∙ h.is_out;
              next = ap (λ a. next_of a r.job.task.period) next
                  ∙ ap (λ (t : Task). job_after x.time t.period) is_task
                  ∙ due_after task n x.time now.0;
              until = λ inside at d. due_later task n x.time at now.0 d;
            }))
        | inr other ↦
            let none : n + come_in (i + 1) (Back x.time (r.index + 1) r.job.used) ≡ n =
            ap (λ b. n + (if b then 1 else 0)) (ne_eqb (r.index + 1) (i + 1) (λ q. other (omega (arith, q)))) ∙ no_more n in
            keeps x (gives_back x r (replenish_for r.job)).next n _ o (o || false) none (or_none o) h h.job
            (set_apart x.jobs r.index i new (λ q. other (sym q)) ∙ h.listed) refl refl refl h.until
      ])

  pub expects_on : (rule : Rule) (x : Progress) (step : Step) (n : ℕ) (o : Bool) → turn_of rule x ≡ Some step → Expects x n o
      → ExpectsOn step n o
  expects_on rule x step n o e h = by_way (way rule x step e)
    where
      by_way : Way rule x step → ExpectsOn step n o
      by_way (Runs w) = by_run rule x step n o w h
      by_way (Refuses w) = subst (λ s. ExpectsOn s n o) w.is_step (puts_out x (refused x w.choice w.state w.calls w.reply) n o h
          w.choice.index w.choice.job (place_of x.state rule x.time x.jobs w.choice w.is_chosen) refl refl refl refl)
      by_way (Idles w) = subst (λ s. ExpectsOn s n o) w.is_step
          (keeps x (record x { time = w.at }) n (n + 0) o (o || false) (no_more n) (or_none o) h h.job h.listed refl refl refl
          (idles_until rule x step n o w h))
      by_way (Begins w) = by_begin rule x step n o w h
      by_way (Lacks w) = subst (λ s. ExpectsOn s n o) w.is_step
          (puts_out x (put_out x w.come.index w.come.job w.state w.calls w.reply) n o h
          w.come.index w.come.job (come_at x.time x.jobs w.come w.has_come) refl refl refl refl)

  pub expects_first : (s : State) (tasks : List Task) → slice_get tasks i ≡ Some task → Expects (at_first s tasks) 0 false
  expects_first s tasks at = record {
    job = new_job task;
    listed = slice_get-map new_job tasks i ∙ ap (option_map new_job) at;
    is_task = refl;
    is_out = refl;
    next = first_due task;
    until = λ inside at d. omega arith;
  }

  -- ---- all turns

  -- Its next job is due after these turns, counted on.
  abbrev DueAfter : ℕ → Bool → List Turn → ℕ → Type 0
  DueAfter n o before at = Due task (n + come_by (i + 1) before) at × ((o || is_refused (i + 1) before) ≡ false)

  due_on : (n : ℕ) (o : Bool) (turn : Turn) (before : List Turn) (at : ℕ)
      → DueAfter (n + come_in (i + 1) turn) (o || refuses (i + 1) turn) before at → DueAfter n o (turn ∷ before) at
  due_on n o turn before at d = (
    subst (λ m. Due task m at) (let e : (n + come_in (i + 1) turn) + come_by (i + 1) before
        ≡ n + (come_in (i + 1) turn + come_by (i + 1) before) = omega arith in e) d.0,
    sym (or_next o (refuses (i + 1) turn) (is_refused (i + 1) before)) ∙ d.1,
  )

  due_from : (n : ℕ) (o : Bool) (turn : Turn) (before : List Turn) (at : ℕ) → DueAfter n o (turn ∷ before) at
      → DueAfter (n + come_in (i + 1) turn) (o || refuses (i + 1) turn) before at
  due_from n o turn before at d = (
    subst (λ m. Due task m at) (let e : n + (come_in (i + 1) turn + come_by (i + 1) before)
        ≡ (n + come_in (i + 1) turn) + come_by (i + 1) before = omega arith in e) d.0,
    or_next o (refuses (i + 1) turn) (is_refused (i + 1) before) ∙ d.1,
  )

  module _ (rule : Rule) where
    -- The first of these turns.
    first_comes : (x : Progress) (step : Step) (n : ℕ) (o : Bool) → turn_of rule x ≡ Some step → Expects x n o
        → (at ticks : ℕ) → step.turn ≡ Back at (i + 1) ticks → DueAfter n o [] at
    first_comes x step n o e h at ticks is =
        let c = comes_by rule x step e at (i + 1) ticks is in
        let place = c.place in
        let now = comes_now x n o c.begins.come c.begins.has_come (omega (arith, place)) h in
        (subst (λ m. Due task m at) (sym (no_more n)) (subst (Due task n) c.time now.0), or_none o ∙ now.1)

    all_come : (x : Progress) (steps : List Step) (n : ℕ) (o : Bool) → IsSchedule rule x steps → Expects x n o
        → (before after : List Turn) (at ticks : ℕ) → turns_of steps ≡ before ++ Back at (i + 1) ticks ∷ after → DueAfter n o before at
    all_come x [] n o is h [] after at ticks e = absurd (cc)
    all_come x [] n o is h (turn ∷ before) after at ticks e = absurd (cc)
    all_come x (step ∷ steps) n o is h [] after at ticks e =
        first_comes x step n o is.0 h at ticks (head_is step.turn (Back at (i + 1) ticks) (turns_of steps) after e)
    all_come x (step ∷ steps) n o is h (turn ∷ before) after at ticks e =
        subst (λ t. DueAfter n o (t ∷ before) at) (head_is step.turn turn (turns_of steps) (before ++ Back at (i + 1) ticks ∷ after) e)
        (due_on n o step.turn before at
        (all_come step.next steps (n + come_in (i + 1) step.turn) (o || refuses (i + 1) step.turn) is.1
        (expects_on rule x step n o is.0 h) before after at ticks
        (rest_is step.turn turn (turns_of steps) (before ++ Back at (i + 1) ticks ∷ after) e)))

    none_late : (x : Progress) (steps : List Step) (n : ℕ) (o : Bool) → IsSchedule rule x steps → Expects x n o
        → (before after : List Turn) (turn : Turn) → turns_of steps ≡ before ++ turn ∷ after
        → (at : ℕ) → DueAfter n o before at → begins_at turn ≤ at
    none_late x [] n o is h [] after turn e at d = absurd (cc)
    none_late x [] n o is h (first ∷ before) after turn e at d = absurd (cc)
    none_late x (step ∷ steps) n o is h [] after turn e at d =
        let inside : o ≡ false = sym (or_none o) ∙ d.1 in
        subst (λ t. t ≤ at)
        (sym (began rule x step is.0) ∙ ap begins_at (head_is step.turn turn (turns_of steps) after e))
        (h.until inside at (subst (λ m. Due task m at) (no_more n) d.0))
    none_late x (step ∷ steps) n o is h (first ∷ before) after turn e at d =
        none_late step.next steps (n + come_in (i + 1) step.turn) (o || refuses (i + 1) step.turn) is.1
        (expects_on rule x step n o is.0 h) before after turn
        (rest_is step.turn first (turns_of steps) (before ++ turn ∷ after) e) at
        (due_from n o step.turn before at
        (subst (λ t. DueAfter n o (t ∷ before) at) (sym (head_is step.turn first (turns_of steps) (before ++ turn ∷ after) e)) d))

    none_left : (x : Progress) (steps : List Step) (n : ℕ) (o : Bool) → IsSchedule rule x steps → Expects x n o
        → (at : ℕ) → DueAfter n o (turns_of steps) at → ⊥
    none_left x [] n o is h at d =
        past_next x n o h (sym (or_none o) ∙ d.1) at (subst (λ m. Due task m at) (no_more n) d.0)
        (subst (IsBefore at) (sym (ends rule x is).last) tt)
    none_left x (step ∷ steps) n o is h at d =
        none_left step.next steps (n + come_in (i + 1) step.turn) (o || refuses (i + 1) step.turn) is.1
        (expects_on rule x step n o is.0 h) at (due_from n o step.turn (turns_of steps) at d)

-- ---- all tasks

-- Each job is that of the task listed at its place.
pub is_of : (tasks : List Task) (x : Progress) → Kept tasks x → (k : ℕ) (job : Job) → slice_get x.jobs k ≡ Some job
    → slice_get tasks k ≡ Some job.task
is_of tasks x kept k job at =
    ap (λ l. slice_get l k) (sym kept.same) ∙ slice_get-map (λ (j : Job). j.task) x.jobs k ∙ ap (option_map (λ (j : Job). j.task)) at

-- A further job is one of a task that is listed.
record IsOne (tasks : List Task) (i : ℕ) : Type 0 where
  place : ℕ
  counted : place + 1 ≡ i
  task : Task
  listed : slice_get tasks place ≡ Some task

one_of : (rule : Rule) (tasks : List Task) (x : Progress) (steps : List Step) → IsSchedule rule x steps → Kept tasks x
    → (before after : List Turn) (at i ticks : ℕ) → turns_of steps ≡ before ++ Back at i ticks ∷ after → IsOne tasks i
one_of rule tasks x [] is kept [] after at i ticks e = absurd (cc)
one_of rule tasks x [] is kept (turn ∷ before) after at i ticks e = absurd (cc)
one_of rule tasks x (step ∷ steps) is kept [] after at i ticks e =
    let c = comes_by rule x step is.0 at i ticks (head_is step.turn (Back at i ticks) (turns_of steps) after e) in
    let r : Renewal = c.begins.come in
    record {
      place = r.index;
      counted = c.place;
      task = r.job.task;
      listed = is_of tasks x kept r.index r.job (come_at x.time x.jobs r c.begins.has_come);
    }
one_of rule tasks x (step ∷ steps) is kept (turn ∷ before) after at i ticks e =
    one_of rule tasks step.next steps is.1 (kept_on tasks rule x step is.0 kept) before after at i ticks
    (rest_is step.turn turn (turns_of steps) (before ++ Back at i ticks ∷ after) e)

-- What is due, by its place.
none_before : (n : ℕ) → 0 + n ≡ n
none_before n = omega arith

due_of : (tasks : List Task) (turns : List Turn) (i at : ℕ) (d : NextDue tasks turns i at) → DueAfter d.place d.task 0 false turns at
due_of tasks turns i at d = (
  subst (λ n. Due d.task n at) (sym (none_before (come_by (d.place + 1) turns))) (record {
    period = d.period;
    own = d.own;
    time = d.time ∙ ap (λ j. d.task.arrival + (come_by j turns + 1) * d.period) (sym d.counted);
    last = d.last;
  }),
  ap (λ j. is_refused j turns) d.counted ∙ d.stays,
)

next_of_one : (tasks : List Task) (turns : List Turn) (i at : ℕ) (one : IsOne tasks i) → DueAfter one.place one.task 0 false turns at
    → NextDue tasks turns i at
next_of_one tasks turns i at one d =
    let due : Due one.task (come_by (one.place + 1) turns) at =
    subst (λ n. Due one.task n at) (none_before (come_by (one.place + 1) turns)) d.0 in
    record {
      place = one.place;
      counted = one.counted;
      task = one.task;
      listed = one.listed;
      period = due.period;
      own = due.own;
      time = due.time ∙ ap (λ j. one.task.arrival + (come_by j turns + 1) * due.period) one.counted;
      last = due.last;
      stays = ap (λ j. is_refused j turns) (sym one.counted) ∙ d.1;
    }

pub arrive_on_time : ArriveOnTime
arrive_on_time rule s tasks steps is = record {
  comes = λ before after at i ticks e.
      let one = one_of rule tasks (at_first s tasks) steps is (kept_first s tasks) before after at i ticks e in
      next_of_one tasks before i at one (all_come one.place one.task rule (at_first s tasks) steps 0 false is
      (expects_first one.place one.task s tasks one.listed) before after at ticks
      (subst (λ j. turns_of steps ≡ before ++ Back at j ticks ∷ after) (sym one.counted) e));
  none_late = λ before after turn e i at d. none_late d.place d.task rule (at_first s tasks) steps 0 false is
      (expects_first d.place d.task s tasks d.listed) before after turn e at (due_of tasks before i at d);
  none_left = λ i at d. none_left d.place d.task rule (at_first s tasks) steps 0 false is
      (expects_first d.place d.task s tasks d.listed) at (due_of tasks (turns_of steps) i at d);
}
