-- A budget of a task's own that is at least its work is enough.
use Rattle.sched_laws.proofs.Common.{◌≡◌, inl, inr, ℕ, ◌+◌, ◌-◌, ◌<◌, ◌≤◌, true, refl, sym, ◌∙◌, ap, subst, arith, if◌then◌else◌, List, []}
use Rattle.sched_laws.proofs.Common.{◌∷◌, Option, Some, None, IsSome, slice_set, slice_get, option_map, IsTrue, cases_eq, lt-ltb}
use Rattle.sched_laws.proofs.Common.{false≢true, slice_get-map, number_of, Frame, Kernel, Tcap, TcapFields, State, tcap_in, fits, tcap_at}
use Rattle.sched_laws.proofs.Common.{Task, Rule, Job, Choice, Renewal, Back, Progress, Step, reach, with_number, time_in, time_of, is_due}
use Rattle.sched_laws.proofs.Common.{ready, length_of, turn_of, begun, ran, refused, gives_back, put_out, replenish_for, new_job, at_first}
use Rattle.sched_laws.proofs.Common.{IsSchedule, Kind}
use Rattle.sched_laws.specs.{Throughout, IsSupplied}
use Rattle.sched_laws.proofs.{Picks.place_of, Arriving.due_tells, Turns.Way, Turns.Runs, Turns.Refuses, Turns.Idles, Turns.Begins}
use Rattle.sched_laws.proofs.{Turns.Lacks, Turns.way, Turns.come_at, Weights.set_here, Weights.set_apart, Bound.length_most}
use Rattle.period_laws.specs.Budgets.{IsOwn, LacksUsed, LeadsTo, DoneByNext, OwnBudgetSupplies}
use Rattle.period_laws.proofs.{Jobs.the_job, OnTime.is_of, Pausing.Kept, Pausing.kept_on, Pausing.kept_first, Lists.turn_keeps}
use Rattle.period_laws.proofs.{Returning.own_budget_returns}

-- ---- what a task has left of its last job

-- What the task at place i has left, and what it has run since its last job, is one job's work.
abbrev pub IsOneJob : ℕ → Progress → Type 0
IsOneJob i x = (job : Job) → slice_get x.jobs i ≡ Some job → job.left + job.used ≡ job.task.work

-- A job at one place is replaced.
set_one : (i : ℕ) (x y : Progress) (p : ℕ) (old new : Job) → slice_get x.jobs p ≡ Some old → y.jobs ≡ slice_set x.jobs p new
    → (p ≡ i → new.left + new.used ≡ new.task.work) → IsOneJob i x → IsOneJob i y
set_one i x y p old new here jobs one all job at =
    let listed : slice_get (slice_set x.jobs p new) i ≡ Some job = ap (λ js. slice_get js i) (sym jobs) ∙ at in
    elim (cases_eq p i) [
      | inl same ↦
          let is_new : new ≡ job = the_job new job
          (sym (set_here x.jobs p old new here) ∙ ap (slice_get (slice_set x.jobs p new)) same ∙ listed) in
          subst (λ (j : Job). j.left + j.used ≡ j.task.work) is_new (one same)
      | inr other ↦ all job (sym (set_apart x.jobs p i new (λ q. other (sym q))) ∙ listed)
    ]

-- A further job of it that arrives in a turn finds nothing left.
abbrev pub FindsNone : ℕ → Progress → Step → Type 0
FindsNone i x step = (at ticks : ℕ) (job : Job) → step.turn ≡ Back at (i + 1) ticks → slice_get x.jobs i ≡ Some job → job.left ≡ 0

pub one_job_on : (rule : Rule) (i : ℕ) (x : Progress) (step : Step) → turn_of rule x ≡ Some step → FindsNone i x step → IsOneJob i x
    → IsOneJob i step.next
one_job_on rule i x step e none all = by_way (way rule x step e) none
  where
    On : Step → Type 0
    On s = FindsNone i x s → IsOneJob i s.next

    by_way : Way rule x step → On step
    by_way (Runs w) = subst On w.is_step (λ none.
        let c : Choice = w.choice in
        let u : ℕ = length_of rule x c in
        let here = place_of x.state rule x.time x.jobs c w.is_chosen in
        let small = length_most rule x c in
        set_one i x (ran x c w.state w.calls u).next c.index c.job (record (c.job) { left = c.job.left - u; used = c.job.used + u })
        here refl (λ same. let before = all c.job (ap (slice_get x.jobs) (sym same) ∙ here) in omega (arith, before, small)) all)
    by_way (Refuses w) = subst On w.is_step (λ none.
        let c : Choice = w.choice in
        let here = place_of x.state rule x.time x.jobs c w.is_chosen in
        set_one i x (refused x c w.state w.calls w.reply).next c.index c.job (record (c.job) { out = true }) here refl
        (λ same. all c.job (ap (slice_get x.jobs) (sym same) ∙ here)) all)
    by_way (Idles w) = subst On w.is_step (λ none. all)
    by_way (Begins w) = subst On w.is_step (λ none.
        let r : Renewal = w.come in
        let here = come_at x.time x.jobs r w.has_come in
        set_one i x (gives_back x r (replenish_for r.job)).next r.index r.job (begun r.job) here refl
        (λ same.
        let left = none x.time r.job.used r.job (ap (λ k. Back x.time (k + 1) r.job.used) same)
        (ap (slice_get x.jobs) (sym same) ∙ here) in
        omega (arith, left)) all)
    by_way (Lacks w) = subst On w.is_step (λ none.
        let r : Renewal = w.come in
        let here = come_at x.time x.jobs r w.has_come in
        set_one i x (put_out x r.index r.job w.state w.calls w.reply).next r.index r.job (record (r.job) { out = true }) here refl
        (λ same. all r.job (ap (slice_get x.jobs) (sym same) ∙ here)) all)

pub first_job : (s : State) (tasks : List Task) (i : ℕ) → IsOneJob i (at_first s tasks)
first_job s tasks i job at = by_task (slice_get tasks i) (sym (slice_get-map new_job tasks i) ∙ at)
  where
    by_task : (o : Option Task) → option_map new_job o ≡ Some job → job.left + job.used ≡ job.task.work
    by_task None e = absurd (cc)
    by_task (Some task) e =
        let left : task.work ≡ job.left = ap (λ (j : Job). j.left) (the_job (new_job task) job e) in
        let used : 0 ≡ job.used = ap (λ (j : Job). j.used) (the_job (new_job task) job e) in
        let work : task.work ≡ job.task.work = ap (λ (j : Job). j.task.work) (the_job (new_job task) job e) in
        omega (arith, left, used, work)

-- ---- what makes a task ready

-- A list that names a scheduler is that of a temporal capability.
pub has_list : (x : Frame) (sched : ℕ) → IsSome (number_of (tcap_in x).qualities sched) → IsTrue (fits Kind.Tcap x)
has_list (Kernel (Tcap q)) sched named = refl
has_list _ sched named = absurd (false≢true named)

is_time : (f : ℕ) (q : TcapFields) (sched : ℕ) → 0 < q.budget → IsSome (number_of q.qualities sched) → IsSome (time_in f q sched)
is_time f q sched some named =
    subst IsSome (sym (ap (λ b. if b then with_number f q.budget (number_of q.qualities sched) else None) (lt-ltb 0 q.budget some)))
    (by_number (number_of q.qualities sched) named)
  where
    by_number : (o : Option ℕ) → IsSome o → IsSome (with_number f q.budget o)
    by_number None named = absurd (false≢true named)
    by_number (Some n) named = refl

-- A task that is due is ready where its name leads to a temporal capability that has budget and names the scheduler.
pub ready_by : (s : State) (rule : Rule) (now : ℕ) (job : Job) (f : ℕ) → LeadsTo s job.task.tcap f → 0 < (tcap_at s f).budget
    → IsSome (number_of (tcap_at s f).qualities rule.sched) → is_due now job ≡ true → IsSome (ready s rule now job)
ready_by s rule now job f leads some named due =
    let time : IsSome (time_in leads.cap.frame (tcap_at s leads.cap.frame) rule.sched) =
    subst (λ g. IsSome (time_in g (tcap_at s g) rule.sched)) (sym leads.frame) (is_time f (tcap_at s f) rule.sched some named) in
    subst IsSome (sym (ap (λ b. if b then time_of s rule.sched (reach s 0 job.task.tcap) else None) due
    ∙ ap (time_of s rule.sched) leads.reaches
    ∙ ap (λ b. if b then time_in leads.cap.frame (tcap_at s leads.cap.frame) rule.sched else None) leads.kind)) time

-- A task whose own temporal capability had at first a budget of at least its work.
module _ (rule : Rule) (tasks : List Task) (i f budget : ℕ) (task : Task) (at_i : slice_get tasks i ≡ Some task)
    (enough : task.work ≤ budget) where
  pub supplied : (x : Progress) → Kept tasks x → IsOwn tasks i f x → LacksUsed i f budget x → IsOneJob i x
      → IsSome (number_of (tcap_at x.state f).qualities rule.sched) → IsSupplied rule i x
  supplied x kept mine lacks one named job at due =
      let is : slice_get tasks i ≡ Some job.task = is_of tasks x kept i job at in
      let work : job.task.work ≡ task.work = ap (λ (t : Task). t.work) (the_task job.task task (sym is ∙ at_i)) in
      let sum = one job at in
      let lack = lacks job at in
      let left = (due_tells x.time job due).1 in
      ready_by x.state rule x.time job f (mine.own job.task is) (omega (arith, work, sum, lack, left, enough)) named due
    where
      the_task : (a b : Task) → Some a ≡ Some b → a ≡ b
      the_task a b e = cc

  all_supplied : (x : Progress) (steps : List Step) → IsSchedule rule x steps → Kept tasks x → Throughout (IsOwn tasks i f) x steps
      → Throughout (LacksUsed i f budget) x steps → DoneByNext i x steps → IsOneJob i x
      → IsSome (number_of (tcap_at x.state f).qualities rule.sched) → Throughout (IsSupplied rule i) x steps
  all_supplied x [] is kept mine lacks done one named = supplied x kept mine lacks one named
  all_supplied x (step ∷ steps) is kept mine lacks done one named = (
    supplied x kept mine.0 lacks.0 one named,
    all_supplied step.next steps is.1 (kept_on tasks rule x step is.0 kept) mine.1 lacks.1 done.1
        (one_job_on rule i x step is.0 done.0 one)
        (subst (λ l. IsSome (number_of l rule.sched)) (sym ((turn_keeps rule x step is.0).like f).list) named),
  )

pub own_budget_supplies : OwnBudgetSupplies
own_budget_supplies rule s tasks steps is owes i f task at mine enough named done =
    let back = own_budget_returns rule s tasks steps is owes i f (has_list (s.frame f) rule.sched named) mine in
    all_supplied rule tasks i f (tcap_at s f).budget task at enough (at_first s tasks) steps is (kept_first s tasks) mine back.lacks done
    (first_job s tasks i) named
