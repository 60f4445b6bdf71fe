-- How many further jobs of a task arrive: no two at one time, and none after 1,000,000.
use Rattle.fixed_prio.specs.plain_kernel.specs.kernel_laws.proofs.{◌≡◌, ◌≢◌, inl, inr, ℕ, ◌+◌, ◌*◌, ◌-◌, ◌≤◌, Bool, true, false, not}
use Rattle.fixed_prio.specs.plain_kernel.specs.kernel_laws.proofs.{leb as nat_le, refl, sym, ◌∙◌, ap, subst, arith, if◌then◌else◌, List, []}
use Rattle.fixed_prio.specs.plain_kernel.specs.kernel_laws.proofs.{◌∷◌, set as slice_set, Option, Some, None, IfSome, slice_get, option_map}
use Rattle.fixed_prio.specs.plain_kernel.specs.kernel_laws.proofs.{eq-eqb, ne_eqb, leb-true, false≢true, State}
use Rattle.fixed_prio.specs.sched_rules.specs.{Progress, Step, job_after, has_come, next_of, begun, turn_of, new_job, at_first, turns_of}
use Rattle.fixed_prio.specs.sched_rules.specs.{IsSchedule, PeriodFits, TaskFits, come_in, come_by, work_by}
use Rattle.fixed_prio.specs.sched_rules.specs.{declared.tasks.Task.Task, declared.tasks.Rule.Rule, declared.tasks.Job.Job}
use Rattle.fixed_prio.specs.sched_laws.proofs.Turns.{Way, Runs, Refuses, Idles, Begins, Lacks, way}
use Rattle.{std.proofs.lemmas.Bool.cases_eq, std.proofs.lemmas.Bool.and_parts, fixed_prio.specs.sched_laws.proofs.place_of}
use Rattle.{fixed_prio.specs.sched_laws.proofs.come_at, std.proofs.lemmas.Nat.mul-le, std.proofs.lemmas.Option.slice_get-map}
use Rattle.{fixed_prio.specs.sched_rules.specs.declared.tasks.Renewal.Renewal}
use Rattle.{fixed_prio.specs.sched_rules.specs.declared.turns.Turn.TheVariants.Back, fixed_prio.specs.sched_laws.proofs.Weights.set_here}
use Rattle.{fixed_prio.specs.sched_laws.proofs.Weights.set_apart, fixed_prio.proofs.ToGo.come_is}

-- At how many times the jobs of a task may still arrive.
abbrev to_come : Option ℕ → ℕ
to_come None = 0
to_come (Some at) = 1000001 - at

-- A task is in range, and its next job arrives in range.
record InRange (task : Task) (next : Option ℕ) : Type 0 where
  fits : TaskFits task
  arrives : IfSome next (λ at. at ≤ 1000000)

-- After a turn in which so many further jobs of the task at place i arrived, as many fewer may still.
record Came (jobs : List Job) (i come : ℕ) (old : Job) : Type 0 where
  job : Job
  listed : slice_get jobs i ≡ Some job
  task : job.task ≡ old.task
  range : InRange job.task job.next
  few : come + to_come job.next ≤ to_come old.next

same_job : (a b : Job) → Some a ≡ Some b → a ≡ b
same_job a b e = cc

-- When a job arrives after another of a task.
last_range : (at : ℕ) (b : Bool) → nat_le at 1000000 ≡ b → IfSome (if b then Some at else None) (λ n. n ≤ 1000000)
last_range at true on = leb-true at 1000000 on
last_range at false off = tt

after_range : (at : ℕ) (period : Option ℕ) → IfSome (job_after at period) (λ n. n ≤ 1000000)
after_range at None = tt
after_range at (Some p) = last_range (at + p) (nat_le (at + p) 1000000) refl

-- As a further job of a task arrives.
record After (at : ℕ) (next : Option ℕ) : Type 0 where
  range : IfSome next (λ n. n ≤ 1000000)
  few : 1 + to_come next ≤ 1000001 - at

after_by : (at : ℕ) (period : Option ℕ) → at ≤ 1000000 → IfSome period PeriodFits → After at (job_after at period)
after_by at None low fits = record { range = tt; few = omega (arith, low) }
after_by at (Some p) low fits = by_last (nat_le (at + p) 1000000) refl
  where
    by_last : (b : Bool) → nat_le (at + p) 1000000 ≡ b → After at (if b then Some (at + p) else None)
    by_last true on =
        let most = leb-true (at + p) 1000000 on in
        let some = fits.0 in
        record { range = most; few = omega (arith, most, some) }
    by_last false off = record { range = tt; few = omega (arith, low) }

record Next (task : Task) (next : Option ℕ) : Type 0 where
  range : InRange task (next_of next task.period)
  few : 1 + to_come (next_of next task.period) ≤ to_come next

next_by : (now : ℕ) (task : Task) (next : Option ℕ) → InRange task next → has_come now next ≡ true → Next task next
next_by now task None is come = absurd (false≢true come)
next_by now task (Some at) is come =
    let after = after_by at task.period is.arrives is.fits.period in
    record { range = record { fits = is.fits; arrives = after.range }; few = after.few }

-- The job at place i, where another place is set, or its own, by the same next job.
module _ (i : ℕ) (jobs : List Job) (p : ℕ) (old new job : Job) (here : slice_get jobs p ≡ Some old) (at : slice_get jobs i ≡ Some job)
    (range : InRange job.task job.next) where
  apart : p ≢ i → Came (slice_set jobs p new) i 0 job
  apart other = record {
    job = job;
    listed = set_apart jobs p i new (λ q. other (sym q)) ∙ at;
    task = refl;
    range = range;
    few = omega arith;
  }

  mine : p ≡ i → old ≡ job
  mine same = same_job old job (sym here ∙ ap (slice_get jobs) same ∙ at)

  own : p ≡ i → slice_get (slice_set jobs p new) i ≡ Some new
  own same = ap (slice_get (slice_set jobs p new)) (sym same) ∙ set_here jobs p old new here

  kept : new.task ≡ old.task → new.next ≡ old.next → Came (slice_set jobs p new) i 0 job
  kept task next = elim (cases_eq p i) [
    | inl same ↦
        let t : new.task ≡ job.task = task ∙ ap (λ (j : Job). j.task) (mine same) in
        let n : new.next ≡ job.next = next ∙ ap (λ (j : Job). j.next) (mine same) in
        let few : to_come new.next ≡ to_come job.next = ap to_come n in
        record {
          job = new;
          listed = own same;
          task = t;
          range = subst (λ x. InRange x new.next) (sym t) (subst (InRange job.task) (sym n) range);
          few = omega (arith, few);
        }
    | inr other ↦ apart other
  ]

module _ (rule : Rule) (i : ℕ) where
  one_turn : (x : Progress) (step : Step) (job : Job) → turn_of rule x ≡ Some step → slice_get x.jobs i ≡ Some job
      → InRange job.task job.next → Came step.next.jobs i (come_in (i + 1) step.turn) job
  one_turn x step job e at range = by_way (way rule x step e)
    where
      come_so : (r : Renewal) (come : ℕ) (c : come_in (i + 1) (Back x.time (r.index + 1) r.job.used) ≡ come)
          → Came (slice_set x.jobs r.index (begun r.job)) i come job
          → Came (slice_set x.jobs r.index (begun r.job)) i (come_in (i + 1) (Back x.time (r.index + 1) r.job.used)) job
      come_so r come c h = subst (λ n. Came (slice_set x.jobs r.index (begun r.job)) i n job) (sym c) h

      by_come : (r : Renewal) → slice_get x.jobs r.index ≡ Some r.job → has_come x.time r.job.next ≡ true
          → Came (slice_set x.jobs r.index (begun r.job)) i (come_in (i + 1) (Back x.time (r.index + 1) r.job.used)) job
      by_come r here come = elim (cases_eq r.index i) [
        | inl same ↦
            let m : r.job ≡ job = mine i x.jobs r.index r.job (begun r.job) job here at range same in
            let old : InRange r.job.task r.job.next = subst (λ (j : Job). InRange j.task j.next) (sym m) range in
            let next = next_by x.time r.job.task r.job.next old come in
            let few = next.few in
            let was : to_come r.job.next ≡ to_come job.next = ap (λ (j : Job). to_come j.next) m in
            come_so r 1 (ap (λ b. if b then 1 else 0) (eq-eqb (r.index + 1) (i + 1) (omega (arith, same)))) (record {
              job = begun r.job;
              listed = own i x.jobs r.index r.job (begun r.job) job here at range same;
              task = ap (λ (j : Job). j.task) m;
              range = next.range;
              few = omega (arith, few, was);
            })
        | inr other ↦
            come_so r 0 (ap (λ b. if b then 1 else 0) (ne_eqb (r.index + 1) (i + 1) (λ q. other (omega (arith, q)))))
            (apart i x.jobs r.index r.job (begun r.job) job here at range other)
      ]

      by_way : Way rule x step → Came step.next.jobs i (come_in (i + 1) step.turn) job
      by_way (Runs w) =
          subst (λ s. Came s.next.jobs i (come_in (i + 1) s.turn) job) w.is_step
          (kept i x.jobs w.choice.index w.choice.job _ job (place_of x.state rule x.time x.jobs w.choice w.is_chosen) at range refl refl)
      by_way (Refuses w) =
          subst (λ s. Came s.next.jobs i (come_in (i + 1) s.turn) job) w.is_step
          (kept i x.jobs w.choice.index w.choice.job _ job (place_of x.state rule x.time x.jobs w.choice w.is_chosen) at range refl refl)
      by_way (Idles w) = subst (λ s. Came s.next.jobs i (come_in (i + 1) s.turn) job) w.is_step
          (record { job = job; listed = at; task = refl; range = range; few = omega arith })
      by_way (Begins w) = subst (λ s. Came s.next.jobs i (come_in (i + 1) s.turn) job) w.is_step
          (by_come w.come (come_at x.time x.jobs w.come w.has_come)
          (and_parts (has_come x.time w.come.job.next) (not w.come.job.out) (come_is x.time 0 x.jobs w.come w.has_come)).0)
      by_way (Lacks w) =
          subst (λ s. Came s.next.jobs i (come_in (i + 1) s.turn) job) w.is_step
          (kept i x.jobs w.come.index w.come.job _ job (come_at x.time x.jobs w.come w.has_come) at range refl refl)

  all_turns : (x : Progress) (steps : List Step) (job : Job) → IsSchedule rule x steps → slice_get x.jobs i ≡ Some job
      → InRange job.task job.next → come_by (i + 1) (turns_of steps) ≤ to_come job.next
  all_turns x [] job is at range = omega arith
  all_turns x (step ∷ steps) job is at range =
      let one = one_turn x step job is.0 at range in
      let few = one.few in
      let rest = all_turns step.next steps one.job is.1 one.listed one.range in
      omega (arith, few, rest)

-- The work of all jobs of a task that arrive: the first, and no more than 1,000,001 further ones.
pub work_most : (rule : Rule) (s : State) (tasks : List Task) (steps : List Step) → IsSchedule rule (at_first s tasks) steps
    → (i : ℕ) (task : Task) → slice_get tasks i ≡ Some task → TaskFits task
    → work_by (i + 1) (turns_of steps) task ≤ 1000002 * 10000
work_most rule s tasks steps is i task at fits =
    let n : ℕ = come_by (i + 1) (turns_of steps) in
    let few : n ≤ to_come (new_job task).next =
    all_turns rule i (at_first s tasks) steps (new_job task) is (slice_get-map new_job tasks i ∙ ap (option_map new_job) at)
    (record { fits = fits; arrives = after_range task.arrival task.period }) in
    let most = come_most (new_job task).next in
    mul-le (n + 1) task.work 1000002 10000 (omega (arith, few, most)) fits.most
  where
    come_most : (o : Option ℕ) → to_come o ≤ 1000001
    come_most None = omega arith
    come_most (Some at) = omega arith
