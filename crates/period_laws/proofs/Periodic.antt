-- The response bound of tasks with periods.
use Rattle.sched_laws.proofs.Common.{◌≡◌, inl, inr, ℕ, zero, suc, ◌+◌, ◌*◌, ◌<◌, ◌≤◌, true, refl, sym, ap, subst, arith, List, [], ◌∷◌, map}
use Rattle.sched_laws.proofs.Common.{Some, slice_get, cases_lt, State, Task, Rule, Job, Progress, Step, ready, at_first, new_job}
use Rattle.sched_laws.proofs.Common.{IsSchedule, ran_in, come_in}
use Rattle.std.{proofs.Common.zero-mul, proofs.Common.one-mul, specs.Prelude.All, proofs.lemmas.Option.slice_get_within}
use Rattle.std.{proofs.lemmas.Option.get_or_from_slice_get}
use Rattle.sched_laws.specs.sched_rules.specs.{TaskFits}
use Rattle.sched_laws.specs.{Throughout, HasNumbers, IsSupplied, NeverRefused, is_not_after}
use Rattle.sched_laws.proofs.{Picks.none_ready, Arriving.IsBefore, Arriving.due_is, Turns.ends, Weights.not_after_itself}
use Rattle.period_laws.specs.Periods.{work_above, PeriodicBound}
use Rattle.period_laws.proofs.{Jobs.Follows, Jobs.follows_on, Jobs.follows_first, Jobs.not_first, Jobs.not_past, Jobs.none_left}
use Rattle.period_laws.proofs.{Jobs.the_job, Counting.Tracked, Counting.done_by, Above.Quiet, Above.New, Above.quiet_all, Pausing.Kept}
use Rattle.period_laws.proofs.{Pausing.kept_on, Pausing.kept_first, Loads.Load, Loads.load_anew, Loads.loaded_on, Loads.none_some}

module _ (rule : Rule) (numbers : ℕ → ℕ) (i : ℕ) (task : Task) (period ticks : ℕ) (tasks : List Task)
    (enough : task.work + work_above numbers i ticks 0 tasks ≤ ticks) (own : task.period ≡ Some period) (short : ticks ≤ period)
    (some : 0 < task.work) (fits : (q : ℕ) (other : Task) → slice_get tasks q ≡ Some other → TaskFits other) where
  -- Each job of the task is done within the bound.
  within : (x : Progress) (came left : ℕ) → Load rule numbers i task period ticks tasks x came left → 0 < left
      → x.time + left ≤ came + ticks
  within x came left load more =
      let b = load.busy more in
      let p = b.0 in
      let q = b.1 in
      omega (arith, p, q)

  go : (x : Progress) (steps : List Step) (n done : ℕ) → IsSchedule rule x steps → (h : Follows i task period x n done)
      → Kept tasks x → Load rule numbers i task period ticks tasks x (task.arrival + n * period) h.job.left
      → Throughout (HasNumbers rule numbers) x steps
      → ((k : ℕ) → is_not_after numbers i k ≡ true → Throughout (IsSupplied rule k) x steps) → NeverRefused (i + 1) steps
      → Tracked i task period ticks x steps n done
  go x [] n done is h kept load numbered supplied never =
      let end = ends rule x is in
      let arrival : h.job.task.arrival ≡ task.arrival = ap (λ (a : Task). a.arrival) h.is_task in
      record {
        tracks = record { follows = h; in_bound = within x (task.arrival + n * period) h.job.left load };
        none = none_left h.job.left (λ more. elim (cases_lt x.time task.arrival) [
          | inl coming ↦ not_first i task period x n done h coming (subst (IsBefore task.arrival) (sym end.last) tt)
          | inr arrived ↦ none_some (ready x.state rule x.time h.job)
              (none_ready x.state rule x.time 0 x.jobs end.none i h.job h.listed)
              (supplied i (not_after_itself numbers i) h.job h.listed
              (due_is x.time h.job (omega (arith, arrival, arrived)) more h.inside))
        ]);
        last = elim (cases_lt 1000000 (task.arrival + (n + 1) * period)) [
          | inl past ↦ past
          | inr le ↦ absurd (not_past i task period x n done h le
              (subst (IsBefore (task.arrival + (n + 1) * period)) (sym end.last) tt))
        ];
      }
  go x (step ∷ steps) n done is h kept load numbered supplied never =
      let on = follows_on i task period rule own x step n done is.0 h never.0 in
      let next = loaded_on rule numbers i task period ticks tasks enough own short some fits x n done h kept load numbered.0
      (λ k first. (supplied k first).0) step is.0 on in (
        record { follows = h; in_bound = within x (task.arrival + n * period) h.job.left load },
        go step.next steps (n + come_in (i + 1) step.turn) (done + ran_in (i + 1) step.turn) is.1 on
            (kept_on tasks rule x step is.0 kept) next numbered.1 (λ k first. (supplied k first).1) never.1,
      )

new_quiet : (tasks : List Task) (k : ℕ) (job : Job) → slice_get (map new_job tasks) k ≡ Some job → Quiet 0 job
new_quiet [] zero job at = absurd (cc)
new_quiet [] (suc k) job at = absurd (cc)
new_quiet (task ∷ tasks) zero job at =
    subst (Quiet 0) (the_job (new_job task) job at) (New (record { arrives = omega arith; left = omega arith; next = refl }))
new_quiet (task ∷ tasks) (suc k) job at = new_quiet tasks k job at

-- At first.
pub load_first : (rule : Rule) (numbers : ℕ → ℕ) (i : ℕ) (task : Task) (period ticks : ℕ) (tasks : List Task)
    → task.work + work_above numbers i ticks 0 tasks ≤ ticks → (own : task.period ≡ Some period)
    → ((q : ℕ) (other : Task) → slice_get tasks q ≡ Some other → TaskFits other) → (s : State) → (at : slice_get tasks i ≡ Some task)
    → Load rule numbers i task period ticks tasks (at_first s tasks) (task.arrival + 0 * period)
    (follows_first i task period rule own s tasks at).job.left
load_first rule numbers i task period ticks tasks enough own fits s at =
    let kept = kept_first s tasks in
    let some = (fits i task at).least in
    let most = quiet_all numbers i 0 ticks 0 (map new_job tasks) tasks kept.same (omega (arith, some, enough)) fits
    (λ q job above there. new_quiet tasks q job there) in
    let none = zero-mul period in
    load_anew rule numbers i task period ticks tasks enough (at_first s tasks) (task.arrival + 0 * period)
    (follows_first i task period rule own s tasks at).job.left most
    (λ more. (omega (arith, none), left_first))
  where
    left_first : (follows_first i task period rule own s tasks at).job.left ≤ task.work
    left_first =
        let sum = (follows_first i task period rule own s tasks at).sum in
        let work : 1 * task.work ≡ task.work = one-mul task.work in
        omega (arith, sum, work)

pub each_fits : (tasks : List Task) → All TaskFits tasks → (q : ℕ) (other : Task) → slice_get tasks q ≡ Some other → TaskFits other
each_fits tasks all q other there =
    subst TaskFits (get_or_from_slice_get tasks q other other there) (all q other (slice_get_within tasks q other there))

pub periodic_bound : PeriodicBound
periodic_bound rule s tasks steps all is numbers numbered i task at period own ticks short enough supplied never k le =
    let fits = each_fits tasks all in
    let first = follows_first i task period rule own s tasks at in
    let some = (fits i task at).least in
    done_by i task period ticks rule (omega (arith, enough)) short (at_first s tasks) steps refl is
    (go rule numbers i task period ticks tasks enough own short some fits (at_first s tasks) steps 0 0 is first (kept_first s tasks)
    (load_first rule numbers i task period ticks tasks enough own fits s at) numbered supplied never) k le
