-- What holds of all tasks in a schedule, and what those above one ask for after a turn in which none of them was due.
use Rattle.sched_laws.proofs.Common.{◌≡◌, inl, inr, ℕ, zero, suc, ◌+◌, ◌-◌, ◌<◌, ◌≤◌, min, Bool, true, false, refl, sym, ◌∙◌, ap, subst}
use Rattle.sched_laws.proofs.Common.{arith, List, [], ◌∷◌, map, Option, Some, None, slice_set, slice_get, option_map, cases_lt, cases_eq}
use Rattle.sched_laws.proofs.Common.{slice_get-map, State, Task, Rule, Job, Choice, Renewal, Progress, Step, is_due, later, sooner}
use Rattle.sched_laws.proofs.Common.{next_arrival, cut_at, length_of, turn_of, job_after, renewal, begun, new_job, at_first, ran, refused}
use Rattle.sched_laws.proofs.Common.{gives_back, put_out, replenish_for}
use Rattle.sched_laws.specs.sched_rules.specs.{TaskFits}
use Rattle.sched_laws.proofs.{Picks.best, Picks.place_of, Arriving.IsBefore, Arriving.later_is, Arriving.due_is, Arriving.due_tells}
use Rattle.sched_laws.proofs.{Readiness.ready_tells, Turns.Way, Turns.Runs, Turns.Refuses, Turns.Idles, Turns.Begins, Turns.Lacks}
use Rattle.sched_laws.proofs.{Turns.RunsOne, Turns.IdlesOn, Turns.way, Turns.come_at, Weights.set_here, Weights.set_apart}
use Rattle.period_laws.specs.Periods.{is_above, work_above}
use Rattle.period_laws.proofs.{Jobs.the_job, Jobs.has_come_of, Jobs.later_next, Jobs.idles_on, Jobs.within_tells, Jobs.none_come}
use Rattle.period_laws.proofs.{Jobs.none_left, Above.IsFrom, Above.Quiet, Above.Out, Above.Done, Above.New, Above.left_above}
use Rattle.period_laws.proofs.{Above.quiet_all}

-- ---- all tasks

tasks_set : (jobs : List Job) (p : ℕ) (old new : Job) → slice_get jobs p ≡ Some old → new.task ≡ old.task
    → map (λ (j : Job). j.task) (slice_set jobs p new) ≡ map (λ (j : Job). j.task) jobs
tasks_set [] zero old new at same = absurd (cc)
tasks_set [] (suc p) old new at same = absurd (cc)
tasks_set (job ∷ jobs) zero old new at same =
    ap (λ t. t ∷ map (λ (j : Job). j.task) jobs) (same ∙ ap (λ (j : Job). j.task) (sym (the_job job old at)))
tasks_set (job ∷ jobs) (suc p) old new at same = ap (λ ts. job.task ∷ ts) (tasks_set jobs p old new at same)

-- Before its first job arrives, a task has no more left than that one's work, and its next job comes a period after it.
abbrev IsEarly : Job → Type 0
IsEarly job = (job.left ≤ job.task.work) × (job.next ≡ job_after job.task.arrival job.task.period)

module _ (tasks : List Task) where
  -- The tasks are those listed at first.
  pub record Kept (x : Progress) : Type 0 where
    pub same : map (λ (j : Job). j.task) x.jobs ≡ tasks
    pub early : (k : ℕ) (job : Job) → slice_get x.jobs k ≡ Some job → x.time < job.task.arrival → IsEarly job

  pub task_fits : (x : Progress) → Kept x → ((q : ℕ) (task : Task) → slice_get tasks q ≡ Some task → TaskFits task)
      → (p : ℕ) (job : Job) → slice_get x.jobs p ≡ Some job → TaskFits job.task
  task_fits x h fits p job at = fits p job.task
      (ap (λ l. slice_get l p) (sym h.same) ∙ slice_get-map (λ (j : Job). j.task) x.jobs p ∙ ap (option_map (λ (j : Job). j.task)) at)

  kept_set : (x y : Progress) (p : ℕ) (old new : Job) → Kept x → y.jobs ≡ slice_set x.jobs p new → slice_get x.jobs p ≡ Some old
      → x.time ≤ y.time → new.task ≡ old.task
      → (y.time < old.task.arrival → (new.left ≡ old.left) × (new.next ≡ old.next)) → Kept y
  kept_set x y p old new h is at_p forward same stay = record {
    same = ap (map (λ (j : Job). j.task)) is ∙ tasks_set x.jobs p old new at_p same ∙ h.same;
    early = λ k job at before.
        let there : slice_get (slice_set x.jobs p new) k ≡ Some job = ap (λ l. slice_get l k) (sym is) ∙ at in
        elim (cases_eq k p) [
          | inl here ↦ by_set job before (the_job new job
              (sym (set_here x.jobs p old new at_p) ∙ ap (slice_get (slice_set x.jobs p new)) (sym here) ∙ there))
          | inr other ↦ h.early k job (sym (set_apart x.jobs p k new other) ∙ there) (omega (arith, forward, before))
        ];
  }
    where
      by_set : (job : Job) → y.time < job.task.arrival → new ≡ job → IsEarly job
      by_set job before set =
          let arrival : job.task.arrival ≡ old.task.arrival =
          ap (λ (j : Job). j.task.arrival) (sym set) ∙ ap (λ (t : Task). t.arrival) same in
          let work : new.task.work ≡ old.task.work = ap (λ (t : Task). t.work) same in
          let was = h.early p old at_p (omega (arith, forward, before, arrival)) in
          let most = was.0 in
          let now = stay (omega (arith, before, arrival)) in
          let left = now.0 in
          subst IsEarly set (
            omega (arith, most, left, work),
            now.1 ∙ was.1 ∙ ap (λ (t : Task). job_after t.arrival t.period) (sym same),
          )

  -- A job that comes is none before the first.
  not_early : (x : Progress) (r : Renewal) → Kept x → renewal x.time 0 x.jobs ≡ Some r → x.time < r.job.task.arrival → ⊥
  not_early x r h is before =
      let has = has_come_of x.time x.jobs r is in
      let next = (h.early r.index r.job (come_at x.time x.jobs r is) before).1 in
      let come = has.come in
      by_period r.job.task.period (sym next ∙ has.next)
    where
      by_period : (o : Option ℕ) → job_after r.job.task.arrival o ≡ Some (has_come_of x.time x.jobs r is).at → ⊥
      by_period None e = none_is e
        where
          none_is : None ≡ Some (has_come_of x.time x.jobs r is).at → ⊥
          none_is q = cc
      by_period (Some period) e =
          let at = (within_tells (r.job.task.arrival + period) (has_come_of x.time x.jobs r is).at e).1 in
          let come = (has_come_of x.time x.jobs r is).come in
          omega (arith, at, come, before)

  pub kept_on : (rule : Rule) (x : Progress) (step : Step) → turn_of rule x ≡ Some step → Kept x → Kept step.next
  kept_on rule x step e h = by_way (way rule x step e)
    where
      by_way : Way rule x step → Kept step.next
      by_way (Runs w) =
          let c : Choice = w.choice in
          let u : ℕ = length_of rule x c in
          let arrived = (due_tells x.time c.job
          (ready_tells x.state rule x.time c.job c.ready (best x.state rule x.time 0 x.jobs c w.is_chosen).is_ready).due).0 in
          let new : Job = record (c.job) { left = c.job.left - u; used = c.job.used + u } in
          subst (λ s. Kept s.next) w.is_step
          (kept_set x (ran x c w.state w.calls u).next c.index c.job new h refl (place_of x.state rule x.time x.jobs c w.is_chosen)
          (omega arith) refl (λ before. absurd (omega (arith, before, arrived))))
      by_way (Refuses w) =
          let c : Choice = w.choice in
          subst (λ s. Kept s.next) w.is_step
          (kept_set x (refused x c w.state w.calls w.reply).next c.index c.job (record (c.job) { out = true }) h refl
          (place_of x.state rule x.time x.jobs c w.is_chosen) (omega arith) refl (λ before. (refl, refl)))
      by_way (Idles w) =
          let on = idles_on rule x step w in
          subst (λ s. Kept s.next) w.is_step
          (record { same = h.same; early = λ k job at before. h.early k job at (omega (arith, on, before)) })
      by_way (Begins w) =
          let r : Renewal = w.come in
          subst (λ s. Kept s.next) w.is_step
          (kept_set x (gives_back x r (replenish_for r.job)).next r.index r.job (begun r.job) h refl (come_at x.time x.jobs r w.has_come)
          (omega arith) refl (λ before. absurd (not_early x r h w.has_come before)))
      by_way (Lacks w) =
          let r : Renewal = w.come in
          subst (λ s. Kept s.next) w.is_step
          (kept_set x (put_out x r.index r.job w.state w.calls w.reply).next r.index r.job (record (r.job) { out = true }) h refl
          (come_at x.time x.jobs r w.has_come) (omega arith) refl (λ before. (refl, refl)))

new_early : (tasks : List Task) (k : ℕ) (job : Job) → slice_get (map new_job tasks) k ≡ Some job → IsEarly job
new_early [] zero job at = absurd (cc)
new_early [] (suc k) job at = absurd (cc)
new_early (task ∷ tasks) zero job at = subst IsEarly (the_job (new_job task) job at) (omega arith, refl)
new_early (task ∷ tasks) (suc k) job at = new_early tasks k job at

new_tasks : (tasks : List Task) → map (λ (j : Job). j.task) (map new_job tasks) ≡ tasks
new_tasks [] = refl
new_tasks (task ∷ tasks) = ap (λ ts. task ∷ ts) (new_tasks tasks)

pub kept_first : (s : State) (tasks : List Task) → Kept tasks (at_first s tasks)
kept_first s tasks = record { same = new_tasks tasks; early = λ k job at before. new_early tasks k job at }

-- ---- a turn goes no further than the next arrival

from_sooner : (t : ℕ) (a b : Option ℕ) → IsFrom t (sooner a b) → IsFrom t a × IsFrom t b
from_sooner t None b h = (tt, h)
from_sooner t (Some a) None h = (h, tt)
from_sooner t (Some a) (Some b) h = (omega (arith, h), omega (arith, h))

from_each : (now t : ℕ) (jobs : List Job) → IsFrom t (next_arrival now jobs)
    → (k : ℕ) (job : Job) → slice_get jobs k ≡ Some job → IsFrom t (later now job)
from_each now t [] h zero job at = absurd (cc)
from_each now t [] h (suc k) job at = absurd (cc)
from_each now t (job ∷ jobs) h zero other at =
    subst (λ j. IsFrom t (later now j)) (the_job job other at) (from_sooner t (later now job) (next_arrival now jobs) h).0
from_each now t (job ∷ jobs) h (suc k) other at =
    from_each now t jobs (from_sooner t (later now job) (next_arrival now jobs) h).1 k other at

cut_from : (a : Option ℕ) (now n : ℕ) → IsBefore now a → IsFrom (now + cut_at a now n) a
cut_from None now n h = tt
cut_from (Some at) now n h = omega (arith, h)

pub run_from : (rule : Rule) (x : Progress) (step : Step) (w : RunsOne rule x step)
    → IsFrom (x.time + length_of rule x w.choice) (next_arrival x.time x.jobs)
run_from rule x step w = cut_from (next_arrival x.time x.jobs) x.time (min rule.quantum (min w.choice.job.left w.choice.ready.budget))
    (none_come x.time 0 x.jobs w.no_job)

pub idle_from : (rule : Rule) (x : Progress) (step : Step) (w : IdlesOn rule x step) → IsFrom w.at (next_arrival x.time x.jobs)
idle_from rule x step w = subst (IsFrom w.at) (sym w.next) (let e : w.at ≤ w.at = omega arith in e)

-- ---- where none above is due

pub rests : (numbers : ℕ → ℕ) (i ticks : ℕ) (tasks : List Task) (x : Progress) (t : ℕ) → Kept tasks x → 0 < ticks
    → ((q : ℕ) (task : Task) → slice_get tasks q ≡ Some task → TaskFits task) → IsFrom t (next_arrival x.time x.jobs)
    → ((q : ℕ) (job : Job) → is_above numbers i q ≡ true → slice_get x.jobs q ≡ Some job → is_due x.time job ≡ true → ⊥)
    → left_above numbers i (t + ticks) 0 x.jobs ≤ work_above numbers i ticks 0 tasks
rests numbers i ticks tasks x t h some fits from none = quiet_all numbers i t ticks 0 x.jobs tasks h.same some fits
    (λ q job above at. by_out q job (ap (is_above numbers i) (let e : q ≡ 0 + q = omega arith in e) ∙ above) at job.out refl)
  where
    by_out : (q : ℕ) (job : Job) → is_above numbers i q ≡ true → slice_get x.jobs q ≡ Some job → (b : Bool) → job.out ≡ b → Quiet t job
    by_out q job above at true out = Out out
    by_out q job above at false inside =
        let mine = from_each x.time t x.jobs from q job at in
        elim (cases_lt x.time job.task.arrival) [
          | inl coming ↦
              let early = h.early q job at coming in
              New (record {
                arrives = subst (IsFrom t) (later_is x.time job coming inside) mine;
                left = early.0;
                next = early.1;
              })
          | inr arrived ↦ Done (record {
            left = none_left job.left (λ more. none q job above at (due_is x.time job arrived more inside));
            next = subst (IsFrom t) (later_next x.time job arrived inside) mine;
          })
        ]
