-- What a task with a period has run by a time, where each of its jobs is done within so many ticks.
use Rattle.sched_laws.proofs.Common.{◌≡◌, inl, inr, ℕ, ◌+◌, ◌*◌, ◌-◌, ◌<◌, ◌≤◌, min, Bool, true, false, ◌==◌, refl, ◌∙◌, ap, subst, arith}
use Rattle.sched_laws.proofs.Common.{if◌then◌else◌, List, [], ◌∷◌, Some, cases_lt, Task, Rule, Progress, Step, length_of, turn_of, turns_of}
use Rattle.sched_laws.proofs.Common.{IsSchedule, ran_in, come_in}
use Rattle.std.proofs.Common.{mul-le-mul_right, mul-zero}
use Rattle.sched_laws.proofs.{Turns.Way, Turns.Runs, Turns.Refuses, Turns.Idles, Turns.Begins, Turns.Lacks, Turns.way}
use Rattle.period_laws.specs.Periods.{ran_before, ran_until}
use Rattle.period_laws.proofs.{Jobs.Follows, Jobs.idles_on, Jobs.none_left, Jobs.times_next}

-- ---- one turn

-- Time goes forward by what a turn runs; what ran before a time is cut there; and no job arrives in a turn that takes time.
record Goes (j : ℕ) (x : Progress) (step : Step) : Type 0 where
  forward : x.time + ran_in j step.turn ≤ step.next.time
  counts : (end : ℕ) → ran_before j end step.turn ≡ min (ran_in j step.turn) (end - x.time)
  comes : x.time < step.next.time → come_in j step.turn ≡ 0

cut_either : (b : Bool) (u cut : ℕ) → (if b then min u cut else 0) ≡ min (if b then u else 0) cut
cut_either true u cut = refl
cut_either false u cut = omega arith

most_either : (b : Bool) (u : ℕ) → (if b then u else 0) ≤ u
most_either true u = omega arith
most_either false u = omega arith

goes : (rule : Rule) (j : ℕ) (x : Progress) (step : Step) → turn_of rule x ≡ Some step → Goes j x step
goes rule j x step e = by_way (way rule x step e)
  where
    by_way : Way rule x step → Goes j x step
    by_way (Runs w) =
        let u : ℕ = length_of rule x w.choice in
        let most = most_either (w.choice.index + 1 == j) u in
        subst (Goes j x) w.is_step (record {
          forward = omega (arith, most);
          counts = λ end. cut_either (w.choice.index + 1 == j) u (end - x.time);
          comes = λ less. refl;
        })
    by_way (Refuses w) = subst (Goes j x) w.is_step
        (record { forward = omega arith; counts = λ end. omega arith; comes = λ less. refl })
    by_way (Idles w) =
        let on = idles_on rule x step w in
        subst (Goes j x) w.is_step (record { forward = omega (arith, on); counts = λ end. omega arith; comes = λ less. refl })
    by_way (Begins w) = subst (Goes j x) w.is_step
        (record { forward = omega arith; counts = λ end. omega arith; comes = λ less. absurd (omega (arith, less)) })
    by_way (Lacks w) = subst (Goes j x) w.is_step
        (record { forward = omega arith; counts = λ end. omega arith; comes = λ less. refl })

-- From a time on nothing ran before it.
later_none : (rule : Rule) (j end : ℕ) (x : Progress) (steps : List Step) → IsSchedule rule x steps → end ≤ x.time
    → ran_until j end (turns_of steps) ≡ 0
later_none rule j end x [] is past = refl
later_none rule j end x (step ∷ steps) is past =
    let one = goes rule j x step is.0 in
    let forward = one.forward in
    let counts = one.counts end in
    let rest = later_none rule j end step.next steps is.1 (omega (arith, forward, past)) in
    omega (arith, counts, rest, past)

-- ---- all turns

module _ (i : ℕ) (task : Task) (period bound : ℕ) where
  -- Each job of the task is done so many ticks after it came.
  pub record Tracks (x : Progress) (n done : ℕ) : Type 0 where
    pub follows : Follows i task period x n done
    pub in_bound : 0 < follows.job.left → x.time + follows.job.left ≤ task.arrival + n * period + bound

  pub record Ended (x : Progress) (n done : ℕ) : Type 0 where
    pub tracks : Tracks x n done
    pub none : tracks.follows.job.left ≡ 0
    pub last : 1000000 < task.arrival + (n + 1) * period

  abbrev pub Tracked : Progress → List Step → ℕ → ℕ → Type 0
  Tracked x [] n done = Ended x n done
  Tracked x (step ∷ steps) n done =
      Tracks x n done × Tracked step.next steps (n + come_in (i + 1) step.turn) (done + ran_in (i + 1) step.turn)

  first_of : (x : Progress) (steps : List Step) (n done : ℕ) → Tracked x steps n done → Tracks x n done
  first_of x [] n done t = t.tracks
  first_of x (step ∷ steps) n done t = t.0

  module _ (rule : Rule) (some : task.work ≤ bound) (short : bound ≤ period) where
    -- Before a job's bound no later one has come.
    not_later : (k : ℕ) (x : Progress) (n done : ℕ) → Follows i task period x n done → x.time < task.arrival + k * period + bound → n ≤ k
    not_later k x n done h less = elim (cases_lt k n) [
      | inl past ↦
          let came = h.since (omega (arith, past)) in
          let more : (k + 1) * period ≤ n * period = mul-le-mul_right period (omega (arith, past)) in
          let next = times_next k period in
          absurd (omega (arith, came, more, next, less, short))
      | inr le ↦ le
    ]

    -- Without work there is nothing.
    no_work : (n : ℕ) → bound ≡ 0 → n * task.work ≡ 0
    no_work n none = ap (λ w. n * w) (let e : task.work ≡ 0 = omega (arith, some, none) in e) ∙ mul-zero n

    -- The turn in which a job's bound is reached.
    reaches : (k : ℕ) → task.arrival + k * period ≤ 1000000 → (x : Progress) (step : Step) (n done m : ℕ) → m ≡ n
        → turn_of rule x ≡ Some step → Tracks x n done → Tracks step.next m (done + ran_in (i + 1) step.turn)
        → x.time < task.arrival + k * period + bound → task.arrival + k * period + bound ≤ step.next.time
        → done + ran_before (i + 1) (task.arrival + k * period + bound) step.turn ≡ (k + 1) * task.work
    reaches k le x step n done m same e t after less past =
        let end : ℕ = task.arrival + k * period + bound in
        let one = goes rule (i + 1) x step e in
        let counts = one.counts end in
        let h = t.follows in
        let g = after.follows in
        let most : n ≤ k = not_later k x n done h less in
        let most_m : m * period ≤ k * period = mul-le-mul_right period (omega (arith, most, same)) in
        let within = after.in_bound in
        let left : g.job.left ≡ 0 = none_left g.job.left (λ more. let w = within more in omega (arith, w, most_m, past)) in
        let sum = g.sum in
        elim (cases_lt n k) [
          | inl before ↦
              let next : (m + 1) * period ≤ k * period = mul-le-mul_right period (omega (arith, before, same)) in
              let until = g.until (omega (arith, next, le)) in
              let none : bound ≡ 0 = omega (arith, until, next, past) in
              let a = no_work (m + 1) none in
              let b = no_work (k + 1) none in
              omega (arith, counts, sum, a, b)
          | inr at_most ↦
              let is_k : m + 1 ≡ k + 1 = omega (arith, most, at_most, same) in
              let n_k : n + 1 ≡ k + 1 = omega (arith, most, at_most) in
              let times : n * period ≡ k * period = ap (λ a. a * period) (let q : n ≡ k = omega (arith, most, at_most) in q) in
              let work : (m + 1) * task.work ≡ (k + 1) * task.work = ap (λ a. a * task.work) is_k in
              let works : (n + 1) * task.work ≡ (k + 1) * task.work = ap (λ a. a * task.work) n_k in
              let own = h.sum in
              let ran_left : ran_in (i + 1) step.turn ≡ h.job.left = omega (arith, sum, own, work, works, left) in
              let short_run : ran_in (i + 1) step.turn ≤ end - x.time = elim (cases_lt 0 h.job.left) [
                | inl more ↦ let inside = t.in_bound more in omega (arith, ran_left, inside, times)
                | inr nothing ↦ omega (arith, ran_left, nothing)
              ] in
              omega (arith, counts, short_run, sum, left, work)
        ]

    counted : (k : ℕ) → task.arrival + k * period ≤ 1000000 → (x : Progress) (steps : List Step) (n done : ℕ) → IsSchedule rule x steps
        → Tracked x steps n done → x.time < task.arrival + k * period + bound
        → done + ran_until (i + 1) (task.arrival + k * period + bound) (turns_of steps) ≡ (k + 1) * task.work
    counted k le x [] n done is t less =
        let h = t.tracks.follows in
        let most : n ≤ k = not_later k x n done h less in
        let last = t.last in
        let none = t.none in
        let sum = h.sum in
        elim (cases_lt n k) [
          | inl before ↦
              let next : (n + 1) * period ≤ k * period = mul-le-mul_right period (omega (arith, before)) in
              absurd (omega (arith, next, last, le))
          | inr at_most ↦
              let is_k : n + 1 ≡ k + 1 = omega (arith, most, at_most) in
              let work : (n + 1) * task.work ≡ (k + 1) * task.work = ap (λ a. a * task.work) is_k in
              omega (arith, none, sum, work)
        ]
    counted k le x (step ∷ steps) n done is t less =
        let end : ℕ = task.arrival + k * period + bound in
        let one = goes rule (i + 1) x step is.0 in
        let forward = one.forward in
        let counts = one.counts end in
        elim (cases_lt step.next.time end) [
          | inl before ↦
              let rest = counted k le step.next steps (n + come_in (i + 1) step.turn) (done + ran_in (i + 1) step.turn) is.1 t.1 before in
              omega (arith, rest, counts, forward, before)
          | inr past ↦
              let comes = one.comes (omega (arith, less, past)) in
              let now = reaches k le x step n done (n + come_in (i + 1) step.turn) (omega (arith, comes)) is.0 t.0
              (first_of step.next steps (n + come_in (i + 1) step.turn) (done + ran_in (i + 1) step.turn) t.1) less past in
              let none = later_none rule (i + 1) end step.next steps is.1 past in
              omega (arith, now, none)
        ]

    -- So by a job's bound the task has run the work of this job and of all before it.
    pub done_by : (x : Progress) (steps : List Step) → x.time ≡ 0 → IsSchedule rule x steps → Tracked x steps 0 0
        → (k : ℕ) → task.arrival + k * period ≤ 1000000
        → ran_until (i + 1) (task.arrival + k * period + bound) (turns_of steps) ≡ (k + 1) * task.work
    done_by x steps first is t k le = elim (cases_lt 0 (task.arrival + k * period + bound)) [
      | inl later ↦
          let all = counted k le x steps 0 0 is t (omega (arith, first, later)) in
          omega (arith, all)
      | inr none ↦
          let nothing = later_none rule (i + 1) (task.arrival + k * period + bound) x steps is (omega (arith, none)) in
          let work = no_work (k + 1) (omega (arith, none)) in
          omega (arith, nothing, work)
    ]
