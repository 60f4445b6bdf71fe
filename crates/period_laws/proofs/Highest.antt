-- A job of a task that no other comes before is done within its work of ticks.
use Rattle.sched_laws.proofs.Common.{◌≡◌, inl, inr, ℕ, ◌+◌, ◌*◌, ◌<◌, ◌≤◌, min, refl, sym, ap, subst, arith, if◌then◌else◌, List, [], ◌∷◌}
use Rattle.sched_laws.proofs.Common.{Option, Some, None, IsSome, cases_lt, cases_eq, eq-eqb, ne_eqb, false≢true, Task, Rule, Ready, Choice}
use Rattle.sched_laws.proofs.Common.{Renewal, Ran, Back, Progress, Step, ready, next_arrival, length_of, turn_of, renewal, at_first}
use Rattle.sched_laws.proofs.Common.{IsSchedule, ran, refused, gives_back, put_out, replenish_for, ran_in, come_in}
use Rattle.std.proofs.Common.{zero-mul}
use Rattle.sched_laws.specs.{Throughout, IsSupplied, NeverRefused}
use Rattle.sched_laws.proofs.{Picks.best, Picks.none_ready, Picks.place_of, Picks.first_of_all, Arriving.IsBefore, Arriving.cut_by}
use Rattle.sched_laws.proofs.{Arriving.due_is, Turns.Way, Turns.Runs, Turns.Refuses, Turns.Idles, Turns.Begins, Turns.Lacks, Turns.RunsOne}
use Rattle.sched_laws.proofs.{Turns.way, Turns.ends}
use Rattle.period_laws.specs.Periods.{IsHighest, HighestIsDone}
use Rattle.period_laws.proofs.{Jobs.Follows, Jobs.FollowsOn, Jobs.follows_on, Jobs.follows_first, Jobs.first_left, Jobs.begins_at}
use Rattle.period_laws.proofs.{Jobs.not_first, Jobs.not_past, Jobs.none_left, Jobs.times_next, Counting.Tracks, Counting.Tracked}
use Rattle.period_laws.proofs.{Counting.done_by}

none_some : {A B : Type 0} (o : Option A) → o ≡ None → IsSome o → B
none_some None e h = absurd (false≢true h)
none_some (Some x) e h = absurd (cc)

module _ (rule : Rule) (i : ℕ) (task : Task) (period : ℕ) (own : task.period ≡ Some period) (short : task.work ≤ period) where
  -- A task that has arrived and has work left is ready.
  has_time : (x : Progress) (n done : ℕ) (h : Follows i task period x n done) → IsSupplied rule i x → task.arrival ≤ x.time → 0 < h.job.left
      → IsSome (ready x.state rule x.time h.job)
  has_time x n done h supplied arrived some =
      let arrival : h.job.task.arrival ≡ task.arrival = ap (λ (t : Task). t.arrival) h.is_task in
      supplied h.job h.listed (due_is x.time h.job (omega (arith, arrival, arrived)) some h.inside)

  -- Nor does another run then.
  only_own : (x : Progress) (n done : ℕ) (h : Follows i task period x n done) (step : Step) (w : RunsOne rule x step)
      → IsHighest rule i x → IsSupplied rule i x → task.arrival ≤ x.time → 0 < h.job.left → w.choice.index ≡ i
  only_own x n done h step w highest supplied arrived some = by_ready (ready x.state rule x.time h.job) refl
      (has_time x n done h supplied arrived some)
    where
      by_ready : (o : Option Ready) → ready x.state rule x.time h.job ≡ o → IsSome o → w.choice.index ≡ i
      by_ready None is none = absurd (false≢true none)
      by_ready (Some r) is got =
          let d : Choice = w.choice in
          let here = place_of x.state rule x.time x.jobs d w.is_chosen in
          let first = first_of_all x.state rule x.time x.jobs d w.is_chosen i h.job r h.listed is in
          let other = highest h.job r h.listed is d.index d.job d.ready here (best x.state rule x.time 0 x.jobs d w.is_chosen).is_ready in
          let a = first.least in
          let b = other.least in
          let same : d.ready.number ≡ r.number = omega (arith, a, b) in
          let p = first.first same in
          let q = other.first (sym same) in
          omega (arith, p, q)

  -- What a turn leaves is within the bound.
  abbrev Bounded : Step → ℕ → ℕ → Type 0
  Bounded s n done = (g : FollowsOn i task period s n done) → 0 < g.job.left
      → s.next.time + g.job.left ≤ task.arrival + (n + come_in (i + 1) s.turn) * period + task.work

  -- Before the first job.
  before_first : (x : Progress) (n done : ℕ) (h : Follows i task period x n done) (t : ℕ) → x.time < task.arrival → t ≤ task.arrival
      → (left : ℕ) → left ≤ h.job.left → t + left ≤ task.arrival + n * period + task.work
  before_first x n done h t coming stop left less =
      let most = first_left i task period x n done h coming in
      omega (arith, most, stop, less)

  by_run : (x : Progress) (step : Step) (n done : ℕ) → (w : RunsOne rule x step) → (t : Tracks i task period task.work x n done)
      → IsHighest rule i x → IsSupplied rule i x → Bounded step n done
  by_run x step n done w t highest supplied = subst (λ s. Bounded s n done) w.is_step (λ g more.
      let c : Choice = w.choice in
      let u : ℕ = length_of rule x c in
      let h = t.follows in
      let none : n + 0 ≡ n = omega arith in
      let times : (n + 0) * period ≡ n * period = ap (λ m. m * period) none in
      let works : (n + 0 + 1) * task.work ≡ (n + 1) * task.work = ap (λ m. (m + 1) * task.work) none in
      let old = h.sum in
      let new = g.sum in
      elim (cases_eq c.index i) [
        | inl same ↦
            let ran_u : ran_in (i + 1) (Ran x.time (c.index + 1) u) ≡ u =
            ap (λ b. if b then u else 0) (eq-eqb (c.index + 1) (i + 1) (omega (arith, same))) in
            let left : h.job.left ≡ g.job.left + u = omega (arith, old, new, works, ran_u) in
            let inside = t.in_bound (omega (arith, left, more)) in
            omega (arith, left, inside, times)
        | inr other ↦
            let ran_u : ran_in (i + 1) (Ran x.time (c.index + 1) u) ≡ 0 =
            ap (λ b. if b then u else 0) (ne_eqb (c.index + 1) (i + 1) (λ q. other (omega (arith, q)))) in
            let left : h.job.left ≡ g.job.left = omega (arith, old, new, works, ran_u) in
            elim (cases_lt x.time task.arrival) [
              | inl coming ↦
                  let stop : x.time + u ≤ task.arrival = cut_by (next_arrival x.time x.jobs) x.time
                  (min rule.quantum (min c.job.left c.ready.budget)) task.arrival (omega (arith, coming))
                  (not_first i task period x n done h coming) in
                  let all = before_first x n done h (x.time + u) coming stop g.job.left (omega (arith, left)) in
                  omega (arith, all, times)
              | inr arrived ↦ absurd (other (only_own x n done h step w highest supplied arrived (omega (arith, left, more))))
            ]
      ])

  -- Where time stands and the task is not that of the turn.
  stands : (x : Progress) (s : Step) (n done : ℕ) → Tracks i task period task.work x n done → s.next.time ≡ x.time
      → ran_in (i + 1) s.turn ≡ 0 → come_in (i + 1) s.turn ≡ 0 → Bounded s n done
  stands x s n done t time ran come g more =
      let h = t.follows in
      let none : n + come_in (i + 1) s.turn ≡ n = omega (arith, come) in
      let times : (n + come_in (i + 1) s.turn) * period ≡ n * period = ap (λ m. m * period) none in
      let works : (n + come_in (i + 1) s.turn + 1) * task.work ≡ (n + 1) * task.work = ap (λ m. (m + 1) * task.work) none in
      let old = h.sum in
      let new = g.sum in
      let left : h.job.left ≡ g.job.left = omega (arith, old, new, works, ran) in
      let inside = t.in_bound (omega (arith, left, more)) in
      omega (arith, left, inside, times, time)

  bounded : (x : Progress) (step : Step) (n done : ℕ) → turn_of rule x ≡ Some step → Tracks i task period task.work x n done
      → IsHighest rule i x → IsSupplied rule i x → Bounded step n done
  bounded x step n done e t highest supplied = by_way (way rule x step e)
    where
      by_way : Way rule x step → Bounded step n done
      by_way (Runs w) = by_run x step n done w t highest supplied
      by_way (Refuses w) = subst (λ s. Bounded s n done) w.is_step
          (stands x (refused x w.choice w.state w.calls w.reply) n done t refl refl refl)
      by_way (Idles w) = subst (λ s. Bounded s n done) w.is_step (λ g more.
          let h = t.follows in
          let none : n + 0 ≡ n = omega arith in
          let times : (n + 0) * period ≡ n * period = ap (λ m. m * period) none in
          let works : (n + 0 + 1) * task.work ≡ (n + 1) * task.work = ap (λ m. (m + 1) * task.work) none in
          let old = h.sum in
          let new = g.sum in
          let left : h.job.left ≡ g.job.left = omega (arith, old, new, works) in
          elim (cases_lt x.time task.arrival) [
            | inl coming ↦
                let stop : w.at ≤ task.arrival = first_stop w.at w.next coming in
                let all = before_first x n done h w.at coming stop g.job.left (omega (arith, left)) in
                omega (arith, all, times)
            | inr arrived ↦ none_some (ready x.state rule x.time h.job)
                (none_ready x.state rule x.time 0 x.jobs w.none i h.job h.listed)
                (has_time x n done h supplied arrived (omega (arith, left, more)))
          ])
        where
          first_stop : (at : ℕ) → next_arrival x.time x.jobs ≡ Some at → x.time < task.arrival → at ≤ task.arrival
          first_stop at next coming = elim (cases_lt task.arrival at) [
            | inl before ↦ absurd (not_first i task period x n done t.follows coming (subst (IsBefore task.arrival) (sym next) before))
            | inr le ↦ le
          ]
      by_way (Begins w) = elim (cases_eq w.come.index i) [
        | inl same ↦
            let one : n + come_in (i + 1) (Back x.time (w.come.index + 1) w.come.job.used) ≡ n + 1 =
            ap (λ b. n + (if b then 1 else 0)) (eq-eqb (w.come.index + 1) (i + 1) (omega (arith, same))) in
            subst (λ s. Bounded s n done) w.is_step (λ g more. by_own w.come w.has_come same _ one g.job.left g.sum)
        | inr other ↦ subst (λ s. Bounded s n done) w.is_step
            (stands x (gives_back x w.come (replenish_for w.come.job)) n done t refl refl
            (ap (λ b. if b then 1 else 0) (ne_eqb (w.come.index + 1) (i + 1) (λ q. other (omega (arith, q))))))
      ]
        where
          by_own : (r : Renewal) → renewal x.time 0 x.jobs ≡ Some r → r.index ≡ i → (m : ℕ) → m ≡ n + 1 → (left : ℕ)
              → left + (done + 0) ≡ (m + 1) * task.work → x.time + left ≤ task.arrival + m * period + task.work
          by_own r is same m one left sum =
              let h = t.follows in
              let at = begins_at i task period x n done r is same h in
              let times : m * period ≡ (n + 1) * period = ap (λ a. a * period) one in
              let works : (m + 1) * task.work ≡ (n + 1 + 1) * task.work = ap (λ a. (a + 1) * task.work) one in
              let more = times_next n period in
              let work = times_next (n + 1) task.work in
              let old = h.sum in
              let nothing : h.job.left ≡ 0 = none_left h.job.left (λ some.
              let inside = t.in_bound some in omega (arith, inside, at, more, short)) in
              omega (arith, nothing, at, times, works, work, old, sum)
      by_way (Lacks w) = subst (λ s. Bounded s n done) w.is_step
          (stands x (put_out x w.come.index w.come.job w.state w.calls w.reply) n done t refl refl refl)

  go : (x : Progress) (steps : List Step) (n done : ℕ) → IsSchedule rule x steps → Tracks i task period task.work x n done
      → Throughout (IsHighest rule i) x steps → Throughout (IsSupplied rule i) x steps → NeverRefused (i + 1) steps
      → Tracked i task period task.work x steps n done
  go x [] n done is t highest supplied never =
      let h = t.follows in
      let end = ends rule x is in
      let arrival : h.job.task.arrival ≡ task.arrival = ap (λ (a : Task). a.arrival) h.is_task in
      record {
        tracks = t;
        none = none_left h.job.left (λ some. elim (cases_lt x.time task.arrival) [
          | inl coming ↦ not_first i task period x n done h coming (subst (IsBefore task.arrival) (sym end.last) tt)
          | inr arrived ↦ none_some (ready x.state rule x.time h.job)
              (none_ready x.state rule x.time 0 x.jobs end.none i h.job h.listed) (has_time x n done h supplied arrived some)
        ]);
        last = elim (cases_lt 1000000 (task.arrival + (n + 1) * period)) [
          | inl past ↦ past
          | inr le ↦ absurd (not_past i task period x n done h le
              (subst (IsBefore (task.arrival + (n + 1) * period)) (sym end.last) tt))
        ];
      }
  go x (step ∷ steps) n done is t highest supplied never =
      let on = follows_on i task period rule own x step n done is.0 t.follows never.0 in (
        t,
        go step.next steps (n + come_in (i + 1) step.turn) (done + ran_in (i + 1) step.turn) is.1
            (record { follows = on; in_bound = bounded x step n done is.0 t highest.0 supplied.0 on }) highest.1 supplied.1 never.1,
      )

pub highest_is_done : HighestIsDone
highest_is_done rule s tasks steps is i task at period own short highest supplied never k le =
    let first = follows_first i task period rule own s tasks at in
    done_by i task period task.work rule (omega arith) short (at_first s tasks) steps refl is
    (go rule i task period own short (at_first s tasks) steps 0 0 is
    (record { follows = first; in_bound = λ some. let none = zero-mul period in omega (arith, none) })
    highest supplied never) k le
