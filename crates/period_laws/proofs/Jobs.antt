-- The jobs of a task with a period, as they arrive.
use Rattle.sched_laws.proofs.Common.{◌≡◌, ◌≢◌, inl, inr, ℕ, zero, suc, ◌+◌, ◌*◌, ◌-◌, ◌<◌, ◌≤◌, min, Bool, true, false, not, ◌&&◌, refl}
use Rattle.sched_laws.proofs.Common.{sym, ◌∙◌, ap, subst, arith, nat_le, nat_lt, if◌then◌else◌, List, [], ◌∷◌, Option, Some, None}
use Rattle.sched_laws.proofs.Common.{slice_set, slice_get, option_map, cases_lt, cases_eq, eq-eqb, ne_eqb, leb-true, le-leb, lt-leb, le-ltb}
use Rattle.sched_laws.proofs.Common.{and_parts, false≢true, slice_get-map, Reply, State, Task, Rule, Job, Choice, Renewal, Ran, Back}
use Rattle.sched_laws.proofs.Common.{Refused, Progress, Step, later, sooner, next_arrival, length_of, turn_of, job_after, has_come}
use Rattle.sched_laws.proofs.Common.{is_renewed, renewal, begun, ran, refused, gives_back, put_out, replenish_for, new_job, at_first}
use Rattle.sched_laws.proofs.Common.{ran_in, come_in}
use Rattle.std.proofs.Common.{suc-mul, one-mul}
use Rattle.sched_laws.specs.sched_rules.specs.{Schedule.within_last, next_of}
use Rattle.sched_laws.proofs.{Picks.place_of, Arriving.IsBefore, Arriving.before_each, Arriving.later_is, Arriving.cut_by}
use Rattle.sched_laws.proofs.{Arriving.not_before, Turns.Way, Turns.Runs, Turns.Refuses, Turns.Idles, Turns.Begins, Turns.Lacks}
use Rattle.sched_laws.proofs.{Turns.RunsOne, Turns.IdlesOn, Turns.BeginsOne, Turns.way, Turns.come_at, Weights.set_here, Weights.set_apart}
use Rattle.sched_laws.proofs.{Bound.length_most}

pub the_job : (a b : Job) → Some a ≡ Some b → a ≡ b
the_job a b e = cc

-- ---- what has come, and what is to come

-- A job of a task that is not out has come by a time.
pub record HasCome (now : ℕ) (job : Job) : Type 0 where
  pub at : ℕ
  pub next : job.next ≡ Some at
  pub come : at ≤ now
  pub inside : job.out ≡ false

come_tells : (now : ℕ) (job : Job) → is_renewed now job ≡ true → HasCome now job
come_tells now job h =
    let both = and_parts (has_come now job.next) (not job.out) h in
    by_next job.next refl both.0 (by_out job.out both.1)
  where
    by_out : (b : Bool) → not b ≡ true → b ≡ false
    by_out false e = refl
    by_out true e = absurd (false≢true e)

    by_next : (o : Option ℕ) → job.next ≡ o → has_come now o ≡ true → job.out ≡ false → HasCome now job
    by_next None is e inside = absurd (false≢true e)
    by_next (Some at) is e inside = record { at = at; next = is; come = leb-true at now e; inside = inside }

come_is : (now i : ℕ) (jobs : List Job) (r : Renewal) → renewal now i jobs ≡ Some r → is_renewed now r.job ≡ true
come_is now i [] r is = absurd (cc)
come_is now i (job ∷ jobs) r is = by_test (come_is now (i + 1) jobs r) (is_renewed now job) refl is
  where
    by_test : (renewal now (i + 1) jobs ≡ Some r → is_renewed now r.job ≡ true) → (b : Bool) → is_renewed now job ≡ b
        → (if b then Some (record { index = i; job = job }) else renewal now (i + 1) jobs) ≡ Some r
        → is_renewed now r.job ≡ true
    by_test rest true on h =
        let same : record { index = i; job = job } ≡ r = cc in
        sym (ap (λ (x : Renewal). is_renewed now x.job) same) ∙ on
    by_test rest false off h = rest h

pub has_come_of : (now : ℕ) (jobs : List Job) (r : Renewal) → renewal now 0 jobs ≡ Some r → HasCome now r.job
has_come_of now jobs r is = come_tells now r.job (come_is now 0 jobs r is)

pub later_next : (now : ℕ) (job : Job) → job.task.arrival ≤ now → job.out ≡ false → later now job ≡ job.next
later_next now job arrived inside =
    ap (λ b. if b then None else (if nat_lt now job.task.arrival then Some job.task.arrival else job.next)) inside
    ∙ ap (λ b. if b then Some job.task.arrival else job.next) (le-ltb now job.task.arrival arrived)

-- Where no job has come, each is to come later.
later_after : (now : ℕ) (job : Job) → is_renewed now job ≡ false → IsBefore now (later now job)
later_after now job none = by_out job.out refl
  where
    by_next : (o : Option ℕ) → job.next ≡ o → (b : Bool) → job.out ≡ b → b ≡ false → IsBefore now o
    by_next None is b out inside = tt
    by_next (Some at) is b out inside = elim (cases_lt now at) [
      | inl less ↦ less
      | inr come ↦ absurd (false≢true (sym none ∙ ap (λ o. has_come now o && not job.out) is
          ∙ ap (λ c. nat_le at now && not c) (out ∙ inside) ∙ ap (λ c. c && true) (le-leb at now come)))
    ]

    by_out : (b : Bool) → job.out ≡ b → IsBefore now (later now job)
    by_out true out =
        let never : later now job ≡ None =
        ap (λ b. if b then None else (if nat_lt now job.task.arrival then Some job.task.arrival else job.next)) out in
        subst (IsBefore now) (sym never) tt
    by_out false inside = elim (cases_lt now job.task.arrival) [
      | inl less ↦ subst (IsBefore now) (sym (later_is now job less inside)) less
      | inr past ↦ subst (IsBefore now) (sym (later_next now job past inside)) (by_next job.next refl false inside refl)
    ]

before_both : (t : ℕ) (a b : Option ℕ) → IsBefore t a → IsBefore t b → IsBefore t (sooner a b)
before_both t None b h k = k
before_both t (Some a) None h k = h
before_both t (Some a) (Some b) h k = omega (arith, h, k)

pub none_come : (now i : ℕ) (jobs : List Job) → renewal now i jobs ≡ None → IsBefore now (next_arrival now jobs)
none_come now i [] none = tt
none_come now i (job ∷ jobs) none = by_test (none_come now (i + 1) jobs) (is_renewed now job) refl none
  where
    by_test : (renewal now (i + 1) jobs ≡ None → IsBefore now (next_arrival now jobs)) → (b : Bool) → is_renewed now job ≡ b
        → (if b then Some (record { index = i; job = job }) else renewal now (i + 1) jobs) ≡ None
        → IsBefore now (sooner (later now job) (next_arrival now jobs))
    by_test rest true on h = absurd (cc)
    by_test rest false off h = before_both now (later now job) (next_arrival now jobs) (later_after now job off) (rest h)

-- So an idle turn goes forward.
pub idles_on : (rule : Rule) (x : Progress) (step : Step) (w : IdlesOn rule x step) → x.time < w.at
idles_on rule x step w = subst (IsBefore x.time) w.next (none_come x.time 0 x.jobs w.no_job)

-- ---- when

pub within_is : (at : ℕ) → at ≤ 1000000 → within_last at ≡ Some at
within_is at le = ap (λ b. if b then Some at else None) (le-leb at 1000000 le)

pub within_tells : (at b : ℕ) → within_last at ≡ Some b → (at ≤ 1000000) × (at ≡ b)
within_tells at b is = elim (cases_lt 1000000 at) [
  | inl past ↦ absurd (none (sym (ap (λ c. if c then Some at else None) (lt-leb at 1000000 past)) ∙ is))
  | inr le ↦ (le, same at b (sym (within_is at le) ∙ is))
]
  where
    none : None ≡ Some b → ⊥
    none h = cc

    same : (a b : ℕ) → Some a ≡ Some b → a ≡ b
    same a b h = cc

pub none_left : (left : ℕ) → (0 < left → ⊥) → left ≡ 0
none_left zero never = refl
none_left (suc n) never = absurd (never (omega arith))

-- One more.
pub times_next : (n m : ℕ) → (n + 1) * m ≡ n * m + m
times_next n m =
    let one : n + 1 ≡ suc n = omega arith in
    ap (λ k. k * m) one ∙ suc-mul n m

-- ---- one task

module _ (i : ℕ) (task : Task) (period : ℕ) where
  -- Of the task at place i so many further jobs have come, and it has run for so many ticks: what it has left, and when its jobs come.
  pub record Follows (x : Progress) (n done : ℕ) : Type 0 where
    pub job : Job
    pub listed : slice_get x.jobs i ≡ Some job
    pub is_task : job.task ≡ task
    pub inside : job.out ≡ false
    pub next : job.next ≡ within_last (task.arrival + (n + 1) * period)
    pub sum : job.left + done ≡ (n + 1) * task.work
    pub since : 0 < n → task.arrival + n * period ≤ x.time
    pub until : task.arrival + (n + 1) * period ≤ 1000000 → x.time ≤ task.arrival + (n + 1) * period

  -- After a turn.
  abbrev pub FollowsOn : Step → ℕ → ℕ → Type 0
  FollowsOn step n done = Follows step.next (n + come_in (i + 1) step.turn) (done + ran_in (i + 1) step.turn)

  -- Where the task itself stays as it is.
  stays : (x y : Progress) (n done m d : ℕ) → m ≡ n → d ≡ done → Follows x n done → slice_get y.jobs i ≡ slice_get x.jobs i
      → x.time ≤ y.time → (task.arrival + (n + 1) * period ≤ 1000000 → y.time ≤ task.arrival + (n + 1) * period)
      → Follows y m d
  stays x y n done m d em ed h at forward until =
      subst (λ a. Follows y a d) (sym em) (subst (λ b. Follows y n b) (sym ed) (record {
        job = h.job;
        listed = at ∙ h.listed;
        is_task = h.is_task;
        inside = h.inside;
        next = h.next;
        sum = h.sum;
        since = λ some. let s = h.since some in omega (arith, s, forward);
        until = until;
      }))

  -- No turn goes past its next job.
  pub not_past : (x : Progress) (n done : ℕ) → Follows x n done → task.arrival + (n + 1) * period ≤ 1000000
      → IsBefore (task.arrival + (n + 1) * period) (next_arrival x.time x.jobs) → ⊥
  not_past x n done h le before =
      let at : ℕ = task.arrival + (n + 1) * period in
      let mine = before_each x.time at x.jobs before i h.job h.listed in
      let arrival : h.job.task.arrival ≡ task.arrival = ap (λ (t : Task). t.arrival) h.is_task in
      elim (cases_lt x.time h.job.task.arrival) [
        | inl coming ↦
            let less : at < h.job.task.arrival = subst (IsBefore at) (later_is x.time h.job coming h.inside) mine in
            omega (arith, less, arrival)
        | inr past ↦
            let less : at < at = subst (IsBefore at) (later_next x.time h.job past h.inside ∙ h.next ∙ within_is at le) mine in
            omega (arith, less)
      ]

  -- Nor past its first one.
  pub not_first : (x : Progress) (n done : ℕ) → Follows x n done → x.time < task.arrival
      → IsBefore task.arrival (next_arrival x.time x.jobs) → ⊥
  not_first x n done h coming before =
      let arrival : h.job.task.arrival ≡ task.arrival = ap (λ (t : Task). t.arrival) h.is_task in
      not_before x.time x.jobs i h.job h.listed (omega (arith, arrival, coming)) h.inside
      (subst (λ a. IsBefore a (next_arrival x.time x.jobs)) (sym arrival) before)

  runs_until : (rule : Rule) (x : Progress) (n done : ℕ) (c : Choice) → Follows x n done → task.arrival + (n + 1) * period ≤ 1000000
      → x.time + length_of rule x c ≤ task.arrival + (n + 1) * period
  runs_until rule x n done c h le = cut_by (next_arrival x.time x.jobs) x.time (min rule.quantum (min c.job.left c.ready.budget))
      (task.arrival + (n + 1) * period) (h.until le) (not_past x n done h le)

  idles_until : (rule : Rule) (x : Progress) (step : Step) (n done : ℕ) (w : IdlesOn rule x step) → Follows x n done
      → task.arrival + (n + 1) * period ≤ 1000000 → w.at ≤ task.arrival + (n + 1) * period
  idles_until rule x step n done w h le = elim (cases_lt (task.arrival + (n + 1) * period) w.at) [
    | inl before ↦ absurd (not_past x n done h le (subst (IsBefore (task.arrival + (n + 1) * period)) (sym w.next) before))
    | inr within ↦ within
  ]

  -- A job of it arrives when it comes.
  pub begins_at : (x : Progress) (n done : ℕ) (r : Renewal) → renewal x.time 0 x.jobs ≡ Some r → r.index ≡ i → Follows x n done
      → x.time ≡ task.arrival + (n + 1) * period
  begins_at x n done r is same h =
      let has = has_come_of x.time x.jobs r is in
      let mine : r.job ≡ h.job = the_job r.job h.job (sym (come_at x.time x.jobs r is) ∙ ap (slice_get x.jobs) same ∙ h.listed) in
      let when = within_tells (task.arrival + (n + 1) * period) has.at
      (sym (ap (λ (j : Job). j.next) mine ∙ h.next) ∙ has.next) in
      let until = h.until when.0 in
      let at = when.1 in
      let come = has.come in
      omega (arith, until, at, come)

  -- Before its first job arrives it has no more than that job's work.
  pub first_left : (x : Progress) (n done : ℕ) (h : Follows x n done) → x.time < task.arrival → h.job.left ≤ task.work
  first_left x n done h coming = elim (cases_lt 0 n) [
    | inl some ↦ let since = h.since some in absurd (omega (arith, since, coming))
    | inr none ↦
        let sum = h.sum in
        let one : (n + 1) * task.work ≡ 1 * task.work = ap (λ m. m * task.work) (let e : n + 1 ≡ 1 = omega (arith, none) in e) in
        let work : 1 * task.work ≡ task.work = one-mul task.work in
        omega (arith, sum, one, work)
  ]

  module _ (rule : Rule) (own : task.period ≡ Some period) where
    -- At first.
    pub follows_first : (s : State) (tasks : List Task) → slice_get tasks i ≡ Some task → Follows (at_first s tasks) 0 0
    follows_first s tasks at =
        let work : 1 * task.work ≡ task.work = one-mul task.work in
        let one : 1 * period ≡ period = one-mul period in
        record {
          job = new_job task;
          listed = slice_get-map new_job tasks i ∙ ap (option_map new_job) at;
          is_task = refl;
          inside = refl;
          next = ap (job_after task.arrival) own
              ∙ ap within_last (let e : task.arrival + period ≡ task.arrival + 1 * period = omega (arith, one) in e);
          sum = omega (arith, work);
          since = λ some. absurd (omega (arith, some));
          until = λ le. omega arith;
        }

    by_run : (x : Progress) (step : Step) (n done : ℕ) (w : RunsOne rule x step) → Follows x n done → FollowsOn step n done
    by_run x step n done w h =
        let c : Choice = w.choice in
        let u : ℕ = length_of rule x c in
        let here : slice_get x.jobs c.index ≡ Some c.job = place_of x.state rule x.time x.jobs c w.is_chosen in
        let small : u ≤ c.job.left = length_most rule x c in
        let new : Job = record (c.job) { left = c.job.left - u; used = c.job.used + u } in
        let sum = h.sum in
        let none : n + 0 ≡ n = omega arith in
        subst (λ s. FollowsOn s n done) w.is_step (elim (cases_eq c.index i) [
          | inl same ↦
              let mine : c.job ≡ h.job = the_job c.job h.job (sym here ∙ ap (slice_get x.jobs) same ∙ h.listed) in
              let left : c.job.left ≡ h.job.left = ap (λ (j : Job). j.left) mine in
              let ran_u : ran_in (i + 1) (Ran x.time (c.index + 1) u) ≡ u =
              ap (λ b. if b then u else 0) (eq-eqb (c.index + 1) (i + 1) (omega (arith, same))) in
              subst (λ m. Follows (ran x c w.state w.calls u).next m (done + ran_in (i + 1) (Ran x.time (c.index + 1) u))) (sym none)
              (record {
                job = new;
                listed = ap (slice_get (slice_set x.jobs c.index new)) (sym same) ∙ set_here x.jobs c.index c.job new here;
                is_task = ap (λ (j : Job). j.task) mine ∙ h.is_task;
                inside = ap (λ (j : Job). j.out) mine ∙ h.inside;
                next = ap (λ (j : Job). j.next) mine ∙ h.next;
                sum = omega (arith, left, ran_u, small, sum);
                since = λ some. let s = h.since some in omega (arith, s);
                until = runs_until rule x n done c h;
              })
          | inr other ↦
              let ran_u : ran_in (i + 1) (Ran x.time (c.index + 1) u) ≡ 0 =
              ap (λ b. if b then u else 0) (ne_eqb (c.index + 1) (i + 1) (λ q. other (omega (arith, q)))) in
              let sum_same : done + ran_in (i + 1) (Ran x.time (c.index + 1) u) ≡ done = omega (arith, ran_u) in
              stays x (ran x c w.state w.calls u).next n done _ _ none sum_same h
              (set_apart x.jobs c.index i new (λ q. other (sym q)))
              (omega arith) (runs_until rule x n done c h)
        ])

    by_begin : (x : Progress) (step : Step) (n done : ℕ) (w : BeginsOne rule x step) → Follows x n done → FollowsOn step n done
    by_begin x step n done w h =
        let r : Renewal = w.come in
        let here = come_at x.time x.jobs r w.has_come in
        let has = has_come_of x.time x.jobs r w.has_come in
        let new : Job = begun r.job in
        let sum = h.sum in
        subst (λ s. FollowsOn s n done) w.is_step (elim (cases_eq r.index i) [
          | inl same ↦
              let mine : r.job ≡ h.job = the_job r.job h.job (sym here ∙ ap (slice_get x.jobs) same ∙ h.listed) in
              let left : r.job.left ≡ h.job.left = ap (λ (j : Job). j.left) mine in
              let is_task : r.job.task ≡ task = ap (λ (j : Job). j.task) mine ∙ h.is_task in
              let work : r.job.task.work ≡ task.work = ap (λ (t : Task). t.work) is_task in
              let when = within_tells (task.arrival + (n + 1) * period) has.at
              (sym (ap (λ (j : Job). j.next) mine ∙ h.next) ∙ has.next) in
              let le = when.0 in
              let at = when.1 in
              let come = has.come in
              let until = h.until le in
              let more = times_next (n + 1) period in
              let works = times_next (n + 1) task.work in
              let one : n + come_in (i + 1) (Back x.time (r.index + 1) r.job.used) ≡ n + 1 =
              ap (λ b. n + (if b then 1 else 0)) (eq-eqb (r.index + 1) (i + 1) (omega (arith, same))) in
              subst (λ m. Follows (gives_back x r (replenish_for r.job)).next m (done + 0)) (sym one) (record {
                job = new;
                listed = ap (slice_get (slice_set x.jobs r.index new)) (sym same) ∙ set_here x.jobs r.index r.job new here;
                is_task = is_task;
                inside = has.inside;
                next = ap (λ o. next_of o r.job.task.period) has.next
                    ∙ ap (λ (t : Task). job_after has.at t.period) is_task
                    ∙ ap (job_after has.at) own
                    ∙ ap within_last (let e : has.at + period ≡ task.arrival + ((n + 1) + 1) * period = omega (arith, at, more) in e);
                sum = omega (arith, left, work, sum, works);
                since = λ some. omega (arith, at, come);
                until = λ later. omega (arith, until, more);
              })
          | inr other ↦
              let none : n + come_in (i + 1) (Back x.time (r.index + 1) r.job.used) ≡ n =
              ap (λ b. n + (if b then 1 else 0)) (ne_eqb (r.index + 1) (i + 1) (λ q. other (omega (arith, q)))) ∙ zero_more n in
              stays x (gives_back x r (replenish_for r.job)).next n done _ _ none (zero_more done) h
              (set_apart x.jobs r.index i new (λ q. other (sym q)))
              (omega arith) h.until
        ])
      where
        zero_more : (m : ℕ) → m + 0 ≡ m
        zero_more m = omega arith

    -- Each turn that does not refuse the task.
    pub follows_on : (x : Progress) (step : Step) (n done : ℕ) → turn_of rule x ≡ Some step → Follows x n done
        → ((at : ℕ) (r : Reply) → step.turn ≢ Refused at (i + 1) r) → FollowsOn step n done
    follows_on x step n done e h never = by_way (way rule x step e)
      where
        zero_more : (m : ℕ) → m + 0 ≡ m
        zero_more m = omega arith

        by_way : Way rule x step → FollowsOn step n done
        by_way (Runs w) = by_run x step n done w h
        by_way (Refuses w) =
            let c : Choice = w.choice in
            let other : c.index ≢ i = λ same. never x.time w.reply
            (sym (ap (λ s. s.turn) w.is_step) ∙ ap (λ k. Refused x.time (k + 1) w.reply) same) in
            subst (λ s. FollowsOn s n done) w.is_step
            (stays x (refused x c w.state w.calls w.reply).next n done _ _ (zero_more n) (zero_more done) h
            (set_apart x.jobs c.index i (record (c.job) { out = true }) (λ q. other (sym q))) (omega arith) h.until)
        by_way (Idles w) =
            let on = idles_on rule x step w in
            subst (λ s. FollowsOn s n done) w.is_step
            (stays x (record x { time = w.at }) n done _ _ (zero_more n) (zero_more done) h refl (omega (arith, on))
            (idles_until rule x step n done w h))
        by_way (Begins w) = by_begin x step n done w h
        by_way (Lacks w) =
            let r : Renewal = w.come in
            let other : r.index ≢ i = λ same. never x.time w.reply
            (sym (ap (λ s. s.turn) w.is_step) ∙ ap (λ k. Refused x.time (k + 1) w.reply) same) in
            subst (λ s. FollowsOn s n done) w.is_step
            (stays x (put_out x r.index r.job w.state w.calls w.reply).next n done _ _ (zero_more n) (zero_more done) h
            (set_apart x.jobs r.index i (record (r.job) { out = true }) (λ q. other (sym q))) (omega arith) h.until)
