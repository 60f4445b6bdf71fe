-- What each task has left.
use Rattle.sched_laws.proofs.Common.{◌≡◌, ◌≢◌, inl, inr, ℕ, suc, ◌+◌, ◌*◌, ◌-◌, ◌==◌, true, false, refl, sym, ◌∙◌, ap, subst, arith}
use Rattle.sched_laws.proofs.Common.{if◌then◌else◌, List, [], ◌∷◌, Some, slice_set, slice_get, option_map, cases_eq, eq-eqb, ne_eqb}
use Rattle.sched_laws.proofs.Common.{add-mul, slice_get-map, Rule, Job, Choice, Renewal, Ran, Back, Progress, Step, begun, length_of}
use Rattle.sched_laws.proofs.Common.{turn_of, new_job, at_first, turns_of, last_of, IsSchedule, ran_in, ran_by, come_in, come_by}
use Rattle.sched_laws.proofs.{Picks.place_of, Turns.Way, Turns.Runs, Turns.Refuses, Turns.Idles, Turns.Begins, Turns.Lacks, Turns.RunsOne}
use Rattle.sched_laws.proofs.{Turns.way, Turns.come_at, Weights.set_here, Weights.set_apart, Bound.length_most}
use Rattle.{std.proofs.Math.Nat.suc-mul, sched_laws.specs.Work.WorkIsKept}

same_job : (a b : Job) → Some a ≡ Some b → a ≡ b
same_job a b e = cc

-- After a turn in which a task ran, and so many further jobs of it came, it has left what it had and their work, but for what it ran.
record Turned (x : Progress) (i ran come : ℕ) (old : Job) : Type 0 where
  job : Job
  listed : slice_get x.jobs i ≡ Some job
  task : job.task ≡ old.task
  sum : ran + job.left ≡ old.left + come * old.task.work

-- A task that is not that of the turn.
module _ (x : Progress) (i p : ℕ) (set old : Job) (other : p ≢ i) (at : slice_get x.jobs i ≡ Some old) where
  stays : slice_get (slice_set x.jobs p set) i ≡ Some old
  stays = set_apart x.jobs p i set (λ q. other (sym q)) ∙ at

  apart : (p + 1 == i + 1) ≡ false
  apart = ne_eqb (p + 1) (i + 1) (λ q. other (omega (arith, q)))

module _ (rule : Rule) (i : ℕ) where
  -- A task's job after a turn, and what it ran in it.
  one_turn : (x : Progress) (step : Step) (job : Job) → turn_of rule x ≡ Some step → slice_get x.jobs i ≡ Some job
      → Turned step.next i (ran_in (i + 1) step.turn) (come_in (i + 1) step.turn) job
  one_turn x step job e at = by_way (way rule x step e)
    where
      by_run : (w : RunsOne rule x step) → Turned step.next i (ran_in (i + 1) step.turn) (come_in (i + 1) step.turn) job
      by_run w =
          let c : Choice = w.choice in
          let u : ℕ = length_of rule x c in
          let here = place_of x.state rule x.time x.jobs c w.is_chosen in
          let small = length_most rule x c in
          let new : Job = record (c.job) { left = c.job.left - u; used = c.job.used + u } in
          subst (λ s. Turned s.next i (ran_in (i + 1) s.turn) (come_in (i + 1) s.turn) job) w.is_step (elim (cases_eq c.index i) [
            | inl same ↦
                let mine : c.job ≡ job = same_job c.job job (sym here ∙ ap (slice_get x.jobs) same ∙ at) in
                let left : c.job.left ≡ job.left = ap (λ (j : Job). j.left) mine in
                let ran : ran_in (i + 1) (Ran x.time (c.index + 1) u) ≡ u =
                ap (λ b. if b then u else 0) (eq-eqb (c.index + 1) (i + 1) (omega (arith, same))) in
                record {
                  job = new;
                  listed = ap (slice_get (slice_set x.jobs c.index new)) (sym same) ∙ set_here x.jobs c.index c.job new here;
                  task = ap (λ (j : Job). j.task) mine;
                  sum = omega (arith, left, ran, small);
                }
            | inr other ↦
                let ran : ran_in (i + 1) (Ran x.time (c.index + 1) u) ≡ 0 =
                ap (λ b. if b then u else 0) (ne_eqb (c.index + 1) (i + 1) (λ q. other (omega (arith, q)))) in
                record {
                  job = job;
                  listed = set_apart x.jobs c.index i new (λ q. other (sym q)) ∙ at;
                  task = refl;
                  sum = omega (arith, ran);
                }
          ])

      by_way : Way rule x step → Turned step.next i (ran_in (i + 1) step.turn) (come_in (i + 1) step.turn) job
      by_way (Runs w) = by_run w
      by_way (Refuses w) =
          let c : Choice = w.choice in
          let here = place_of x.state rule x.time x.jobs c w.is_chosen in
          let new : Job = record (c.job) { out = true } in
          subst (λ s. Turned s.next i (ran_in (i + 1) s.turn) (come_in (i + 1) s.turn) job) w.is_step (elim (cases_eq c.index i) [
            | inl same ↦
                let mine : c.job ≡ job = same_job c.job job (sym here ∙ ap (slice_get x.jobs) same ∙ at) in
                let left : c.job.left ≡ job.left = ap (λ (j : Job). j.left) mine in
                record {
                  job = new;
                  listed = ap (slice_get (slice_set x.jobs c.index new)) (sym same) ∙ set_here x.jobs c.index c.job new here;
                  task = ap (λ (j : Job). j.task) mine;
                  sum = omega (arith, left);
                }
            | inr other ↦ record {
              job = job;
              listed = set_apart x.jobs c.index i new (λ q. other (sym q)) ∙ at;
              task = refl;
              sum = omega arith;
            }
          ])
      by_way (Idles w) = subst (λ s. Turned s.next i (ran_in (i + 1) s.turn) (come_in (i + 1) s.turn) job) w.is_step
          (record { job = job; listed = at; task = refl; sum = omega arith })
      by_way (Begins w) =
          let r : Renewal = w.come in
          let here = come_at x.time x.jobs r w.has_come in
          let new : Job = begun r.job in
          subst (λ s. Turned s.next i (ran_in (i + 1) s.turn) (come_in (i + 1) s.turn) job) w.is_step (elim (cases_eq r.index i) [
            | inl same ↦
                let mine : r.job ≡ job = same_job r.job job (sym here ∙ ap (slice_get x.jobs) same ∙ at) in
                let left : r.job.left ≡ job.left = ap (λ (j : Job). j.left) mine in
                let work : r.job.task.work ≡ job.task.work = ap (λ (j : Job). j.task.work) mine in
                let come : come_in (i + 1) (Back x.time (r.index + 1) r.job.used) * job.task.work ≡ 1 * job.task.work =
                ap (λ b. (if b then 1 else 0) * job.task.work) (eq-eqb (r.index + 1) (i + 1) (omega (arith, same))) in
                record {
                  job = new;
                  listed = ap (slice_get (slice_set x.jobs r.index new)) (sym same) ∙ set_here x.jobs r.index r.job new here;
                  task = ap (λ (j : Job). j.task) mine;
                  sum = omega (arith, left, work, come);
                }
            | inr other ↦
                let come : come_in (i + 1) (Back x.time (r.index + 1) r.job.used) * job.task.work ≡ 0 * job.task.work =
                ap (λ b. (if b then 1 else 0) * job.task.work) (apart x i r.index new job other at) in
                record { job = job; listed = stays x i r.index new job other at; task = refl; sum = omega (arith, come) }
          ])
      by_way (Lacks w) =
          let r : Renewal = w.come in
          let here = come_at x.time x.jobs r w.has_come in
          let new : Job = record (r.job) { out = true } in
          subst (λ s. Turned s.next i (ran_in (i + 1) s.turn) (come_in (i + 1) s.turn) job) w.is_step (elim (cases_eq r.index i) [
            | inl same ↦
                let mine : r.job ≡ job = same_job r.job job (sym here ∙ ap (slice_get x.jobs) same ∙ at) in
                let left : r.job.left ≡ job.left = ap (λ (j : Job). j.left) mine in
                record {
                  job = new;
                  listed = ap (slice_get (slice_set x.jobs r.index new)) (sym same) ∙ set_here x.jobs r.index r.job new here;
                  task = ap (λ (j : Job). j.task) mine;
                  sum = omega (arith, left);
                }
            | inr other ↦ record { job = job; listed = stays x i r.index new job other at; task = refl; sum = omega arith }
          ])

  all_turns : (x : Progress) (steps : List Step) (job : Job) → IsSchedule rule x steps → slice_get x.jobs i ≡ Some job
      → Turned (last_of x steps) i (ran_by (i + 1) (turns_of steps)) (come_by (i + 1) (turns_of steps)) job
  all_turns x [] job is at = record { job = job; listed = at; task = refl; sum = omega arith }
  all_turns x (step ∷ steps) job is at =
      let one = one_turn x step job is.0 at in
      let rest = all_turns step.next steps one.job is.1 one.listed in
      let a = one.sum in
      let b = rest.sum in
      let n : ℕ = come_by (i + 1) (turns_of steps) in
      let work : n * one.job.task.work ≡ n * job.task.work = ap (λ t. n * t.work) one.task in
      let both = add-mul (come_in (i + 1) step.turn) n job.task.work in
      record { job = rest.job; listed = rest.listed; task = rest.task ∙ one.task; sum = omega (arith, a, b, work, both) }

pub work_is_kept : WorkIsKept
work_is_kept rule s tasks steps is i task at =
    let all = all_turns rule i (at_first s tasks) steps (new_job task) is
    (slice_get-map new_job tasks i ∙ ap (option_map new_job) at) in
    let n : ℕ = come_by (i + 1) (turns_of steps) in
    let more : suc n * task.work ≡ n * task.work + task.work = suc-mul n task.work in
    let same : (n + 1) * task.work ≡ suc n * task.work = ap (λ m. m * task.work) (let one : n + 1 ≡ suc n = omega arith in one) in
    let sum = all.sum in
    record { job = all.job; listed = all.listed; sum = omega (arith, sum, more, same) }
