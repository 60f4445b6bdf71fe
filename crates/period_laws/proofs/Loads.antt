-- The response bound of tasks with periods, turn by turn: time up to which a task and those above it have what they ask for.
use Rattle.sched_laws.proofs.Common.{◌≡◌, ◌≢◌, inl, inr, ℕ, ◌+◌, ◌*◌, ◌-◌, ◌<◌, ◌≤◌, Bool, true, false, refl, sym, ◌∙◌, ap, subst, arith}
use Rattle.sched_laws.proofs.Common.{if◌then◌else◌, List, [], Option, Some, None, slice_set, IsSome, slice_get, cases_lt, cases_eq, eq-eqb}
use Rattle.sched_laws.proofs.Common.{ne_eqb, false≢true, Task, Rule, Job, Ready, Choice, Renewal, Ran, Idle, Back, Progress, Step, is_due}
use Rattle.sched_laws.proofs.Common.{ready, chosen, next_arrival, length_of, turn_of, begun, ran, refused, gives_back, put_out}
use Rattle.sched_laws.proofs.Common.{replenish_for, ran_in, come_in}
use Rattle.sched_laws.specs.sched_rules.specs.{TaskFits}
use Rattle.sched_laws.specs.{HasNumbers, IsSupplied, is_not_after}
use Rattle.sched_laws.proofs.{Picks.best, Picks.none_ready, Picks.place_of, Picks.first_of_all, Arriving.IsBefore, Arriving.due_is}
use Rattle.sched_laws.proofs.{Arriving.due_tells, Readiness.ready_tells, Turns.Way, Turns.Runs, Turns.Refuses, Turns.Idles, Turns.Begins}
use Rattle.sched_laws.proofs.{Turns.Lacks, Turns.RunsOne, Turns.IdlesOn, Turns.BeginsOne, Turns.way, Turns.come_at}
use Rattle.sched_laws.proofs.{Weights.not_after_itself, Bound.length_most}
use Rattle.period_laws.specs.Periods.{is_above, work_above}
use Rattle.period_laws.proofs.{Jobs.Follows, Jobs.FollowsOn, Jobs.has_come_of, Jobs.first_left, Jobs.begins_at, Jobs.not_first}
use Rattle.period_laws.proofs.{Jobs.none_left, Jobs.times_next, Above.IsFrom, Above.weight, Above.weight_in, Above.weight_out}
use Rattle.period_laws.proofs.{Above.begun_weight, Above.left_above, Above.above_in, Above.above_out, Above.above_not_after}
use Rattle.period_laws.proofs.{Above.own_not_above, Above.first_above, Above.first_of_above, Pausing.Kept, Pausing.task_fits}
use Rattle.period_laws.proofs.{Pausing.run_from, Pausing.idle_from, Pausing.rests}

pub none_some : {A B : Type 0} (o : Option A) → o ≡ None → IsSome o → B
none_some None e h = absurd (false≢true h)
none_some (Some x) e h = absurd (cc)

module _ (rule : Rule) (numbers : ℕ → ℕ) (i : ℕ) (task : Task) (period ticks : ℕ) (tasks : List Task) where
  -- Up to a time the tasks above have what they ask for, and the task what it has left of the job that came at a time; or, where it has
  -- nothing left, the work of its next job.
  pub record Load (x : Progress) (came left : ℕ) : Type 0 where
    pub end : ℕ
    pub busy : 0 < left → (x.time + left_above numbers i end 0 x.jobs + left ≤ end) × (end ≤ came + ticks)
    pub free : left ≡ 0 → (x.time + left_above numbers i end 0 x.jobs + task.work ≤ end) × (end ≤ x.time + ticks)

  -- That time stays where the tasks above ask for less by as much as time goes on.
  load_keeps : (x y : Progress) (came left to rest : ℕ) (l : Load x came left) → to ≡ came → rest ≡ left → x.time ≤ y.time
      → y.time + left_above numbers i l.end 0 y.jobs ≤ x.time + left_above numbers i l.end 0 x.jobs → Load y to rest
  load_keeps x y came left to rest l same_time same_left forward less = record {
    end = l.end;
    busy = λ more.
        let b = l.busy (omega (arith, more, same_left)) in
        let p = b.0 in
        let q = b.1 in
        (omega (arith, p, less, same_left), omega (arith, q, same_time));
    free = λ none.
        let f = l.free (omega (arith, none, same_left)) in
        let p = f.0 in
        let q = f.1 in
        (omega (arith, p, less), omega (arith, q, forward));
  }

  before_end : (x : Progress) (came left : ℕ) (l : Load x came left) → 0 < task.work → x.time < l.end
  before_end x came left l some = elim (cases_lt 0 left) [
    | inl more ↦ let p = (l.busy more).0 in omega (arith, p, more)
    | inr none ↦ let p = (l.free (omega (arith, none))).0 in omega (arith, p, some)
  ]

  module _ (enough : task.work + work_above numbers i ticks 0 tasks ≤ ticks) where
    -- After a turn in which none above was due it begins anew.
    pub load_anew : (y : Progress) (came left : ℕ) → left_above numbers i (y.time + ticks) 0 y.jobs ≤ work_above numbers i ticks 0 tasks
        → (0 < left → (y.time ≤ came) × (left ≤ task.work)) → Load y came left
    load_anew y came left most early = record {
      end = y.time + ticks;
      busy = λ more.
          let e = early more in
          let p = e.0 in
          let q = e.1 in
          (omega (arith, most, enough, q), omega (arith, p));
      free = λ none. (omega (arith, most, enough), omega arith);
    }

    module _ (own : task.period ≡ Some period) (short : ticks ≤ period) (some : 0 < task.work)
        (fits : (q : ℕ) (other : Task) → slice_get tasks q ≡ Some other → TaskFits other) where
      some_ticks : 0 < ticks
      some_ticks = omega (arith, some, enough)

      -- What a turn leaves.
      abbrev pub Loaded : Step → ℕ → ℕ → Type 0
      Loaded s n done = (g : FollowsOn i task period s n done)
          → Load s.next (task.arrival + (n + come_in (i + 1) s.turn) * period) g.job.left

      module _ (x : Progress) (n done : ℕ) (h : Follows i task period x n done) (kept : Kept tasks x)
          (load : Load x (task.arrival + n * period) h.job.left) (numbered : HasNumbers rule numbers x)
          (supplied : (k : ℕ) → is_not_after numbers i k ≡ true → IsSupplied rule k x) where
        -- A task that has arrived and has work left is ready.
        has_time : task.arrival ≤ x.time → 0 < h.job.left → IsSome (ready x.state rule x.time h.job)
        has_time arrived more =
            let arrival : h.job.task.arrival ≡ task.arrival = ap (λ (t : Task). t.arrival) h.is_task in
            supplied i (not_after_itself numbers i) h.job h.listed (due_is x.time h.job (omega (arith, arrival, arrived)) more h.inside)

        -- Then another that is chosen is above.
        chosen_above : (c : Choice) → chosen x.state rule x.time 0 x.jobs ≡ Some c → c.index ≢ i → task.arrival ≤ x.time → 0 < h.job.left
            → is_above numbers i c.index ≡ true
        chosen_above c is other arrived more = by_ready (ready x.state rule x.time h.job) refl (has_time arrived more)
          where
            by_ready : (o : Option Ready) → ready x.state rule x.time h.job ≡ o → IsSome o → is_above numbers i c.index ≡ true
            by_ready None is_none got = absurd (false≢true got)
            by_ready (Some r) is_some got = first_above numbers i c.index c.ready.number r.number
                (numbered c.index c.job c.ready (place_of x.state rule x.time x.jobs c is)
                (best x.state rule x.time 0 x.jobs c is).is_ready)
                (numbered i h.job r h.listed is_some) (first_of_all x.state rule x.time x.jobs c is i h.job r h.listed is_some) other

        -- Where one that is not above is chosen, none above is due.
        none_above : (c : Choice) → chosen x.state rule x.time 0 x.jobs ≡ Some c → is_above numbers i c.index ≡ false
            → (q : ℕ) (job : Job) → is_above numbers i q ≡ true → slice_get x.jobs q ≡ Some job → is_due x.time job ≡ true → ⊥
        none_above c is below q job above at due = by_ready (ready x.state rule x.time job) refl
            (supplied q (above_not_after numbers i q above) job at due)
          where
            by_ready : (o : Option Ready) → ready x.state rule x.time job ≡ o → IsSome o → ⊥
            by_ready None is_none got = false≢true got
            by_ready (Some r) is_some got = false≢true (sym below ∙ first_of_above numbers i q c.index c.ready.number r.number
                (numbered c.index c.job c.ready (place_of x.state rule x.time x.jobs c is)
                (best x.state rule x.time 0 x.jobs c is).is_ready)
                (numbered q job r at is_some) (first_of_all x.state rule x.time x.jobs c is q job r at is_some) above)

        -- What the task has left, where it did not run and no job of it came.
        same_left : (s : Step) (g : FollowsOn i task period s n done) → ran_in (i + 1) s.turn ≡ 0 → come_in (i + 1) s.turn ≡ 0
            → (g.job.left ≡ h.job.left) × (task.arrival + (n + come_in (i + 1) s.turn) * period ≡ task.arrival + n * period)
        same_left s g none come =
            let same : n + come_in (i + 1) s.turn ≡ n = omega (arith, come) in
            let works : (n + come_in (i + 1) s.turn + 1) * task.work ≡ (n + 1) * task.work = ap (λ m. (m + 1) * task.work) same in
            let old = h.sum in
            let new = g.sum in
            (omega (arith, old, new, works, none), ap (λ m. task.arrival + m * period) same)

        -- Before its first job came, where a turn stops by then.
        early : (t left : ℕ) → left ≡ h.job.left → x.time < task.arrival → t ≤ task.arrival
            → (t ≤ task.arrival + n * period) × (left ≤ task.work)
        early t left same coming stop =
            let most = first_left i task period x n done h coming in
            (omega (arith, stop), omega (arith, most, same))

        -- Nor does a turn go past it.
        stops : (t : ℕ) → IsFrom t (next_arrival x.time x.jobs) → x.time < task.arrival → t ≤ task.arrival
        stops t from coming = by_next (next_arrival x.time x.jobs) from (not_first i task period x n done h coming)
          where
            by_next : (a : Option ℕ) → IsFrom t a → (IsBefore task.arrival a → ⊥) → t ≤ task.arrival
            by_next None f past = absurd (past tt)
            by_next (Some at) f past = elim (cases_lt task.arrival at) [
              | inl less ↦ absurd (past less)
              | inr le ↦ omega (arith, f, le)
            ]

        -- The turn of the task.
        own_turn : (step : Step) (w : RunsOne rule x step) → w.choice.index ≡ i → Loaded step n done
        own_turn step w same = subst (λ s. Loaded s n done) w.is_step (λ g.
            let c : Choice = w.choice in
            let u : ℕ = length_of rule x c in
            let here = place_of x.state rule x.time x.jobs c w.is_chosen in
            let new : Job = record (c.job) { left = c.job.left - u; used = c.job.used + u } in
            let below = own_not_above numbers i c.index same in
            let ran_u : ran_in (i + 1) (Ran x.time (c.index + 1) u) ≡ u =
            ap (λ b. if b then u else 0) (eq-eqb (c.index + 1) (i + 1) (omega (arith, same))) in
            let none : n + 0 ≡ n = omega arith in
            let times : (n + 0) * period ≡ n * period = ap (λ m. m * period) none in
            let works : (n + 0 + 1) * task.work ≡ (n + 1) * task.work = ap (λ m. (m + 1) * task.work) none in
            let old = h.sum in
            let sum = g.sum in
            let left : h.job.left ≡ g.job.left + u = omega (arith, old, sum, works, ran_u) in
            elim (cases_lt 0 g.job.left) [
              | inl more ↦
                  let b = load.busy (omega (arith, left, more)) in
                  let p = b.0 in
                  let q = b.1 in
                  let rest = above_out numbers i load.end x.jobs c.index c.job new here below in
                  record {
                    end = load.end;
                    busy = λ again. (omega (arith, p, rest, left), omega (arith, q, times));
                    free = λ nothing. absurd (omega (arith, nothing, more));
                  }
              | inr nothing ↦
                  let rest = above_out numbers i ((x.time + u) + ticks) x.jobs c.index c.job new here below in
                  let most = rests numbers i ticks tasks x (x.time + u) kept some_ticks fits (run_from rule x step w)
                  (none_above c w.is_chosen below) in
                  load_anew (ran x c w.state w.calls u).next _ g.job.left (omega (arith, rest, most))
                  (λ more. absurd (omega (arith, more, nothing)))
            ])

        -- The turn of another.
        other_turn : (step : Step) (w : RunsOne rule x step) → w.choice.index ≢ i → Loaded step n done
        other_turn step w other = subst (λ s. Loaded s n done) w.is_step (λ g. by_case g (is_above numbers i w.choice.index) refl)
          where
            by_case : (g : FollowsOn i task period (ran x w.choice w.state w.calls (length_of rule x w.choice)) n done)
                → (b : Bool) → is_above numbers i w.choice.index ≡ b
                → Load (ran x w.choice w.state w.calls (length_of rule x w.choice)).next (task.arrival + (n + 0) * period) g.job.left
            by_case g true above =
                let c : Choice = w.choice in
                let u : ℕ = length_of rule x c in
                let here = place_of x.state rule x.time x.jobs c w.is_chosen in
                let small = length_most rule x c in
                let new : Job = record (c.job) { left = c.job.left - u; used = c.job.used + u } in
                let same = same_left (ran x c w.state w.calls u) g
                (ap (λ b. if b then u else 0) (ne_eqb (c.index + 1) (i + 1) (λ q. other (omega (arith, q))))) refl in
                let inside = (due_tells x.time c.job
                (ready_tells x.state rule x.time c.job c.ready (best x.state rule x.time 0 x.jobs c w.is_chosen).is_ready).due).2 in
                let all = above_in numbers i load.end x.jobs c.index c.job new here above in
                let was = weight_in load.end c.job inside in
                let now = weight_in load.end new inside in
                load_keeps x (ran x c w.state w.calls u).next (task.arrival + n * period) h.job.left _ g.job.left load same.1 same.0
                (omega arith) (omega (arith, all, was, now, small))
            by_case g false below =
                let c : Choice = w.choice in
                let u : ℕ = length_of rule x c in
                let here = place_of x.state rule x.time x.jobs c w.is_chosen in
                let new : Job = record (c.job) { left = c.job.left - u; used = c.job.used + u } in
                let same = same_left (ran x c w.state w.calls u) g
                (ap (λ b. if b then u else 0) (ne_eqb (c.index + 1) (i + 1) (λ q. other (omega (arith, q))))) refl in
                let left = same.0 in
                let came = same.1 in
                let from = run_from rule x step w in
                let rest = above_out numbers i ((x.time + u) + ticks) x.jobs c.index c.job new here below in
                let most = rests numbers i ticks tasks x (x.time + u) kept some_ticks fits from (none_above c w.is_chosen below) in
                load_anew (ran x c w.state w.calls u).next _ g.job.left (omega (arith, rest, most))
                (λ more. elim (cases_lt x.time task.arrival) [
                  | inl coming ↦
                      let e = early (x.time + u) g.job.left left coming (stops (x.time + u) from coming) in
                      let p = e.0 in
                      (omega (arith, p, came), e.1)
                  | inr arrived ↦
                      absurd (false≢true (sym below ∙ chosen_above c w.is_chosen other arrived (omega (arith, left, more))))
                ])

        -- An idle turn.
        idling : (step : Step) → IdlesOn rule x step → Loaded step n done
        idling step w = subst (λ s. Loaded s n done) w.is_step (λ g.
            let from = idle_from rule x step w in
            let same = same_left (record { turn = Idle x.time (w.at - x.time); calls = []; next = record x { time = w.at } }) g refl refl in
            let left = same.0 in
            let came = same.1 in
            load_anew (record x { time = w.at }) _ g.job.left
            (rests numbers i ticks tasks x w.at kept some_ticks fits from
            (λ q job above at due. none_some (ready x.state rule x.time job) (none_ready x.state rule x.time 0 x.jobs w.none q job at)
            (supplied q (above_not_after numbers i q above) job at due)))
            (λ more. elim (cases_lt x.time task.arrival) [
              | inl coming ↦
                  let e = early w.at g.job.left left coming (stops w.at from coming) in
                  let p = e.0 in
                  (omega (arith, p, came), e.1)
              | inr arrived ↦ none_some (ready x.state rule x.time h.job)
                  (none_ready x.state rule x.time 0 x.jobs w.none i h.job h.listed) (has_time arrived (omega (arith, left, more)))
            ]))

        -- A job of the task arrives.
        own_begins : (step : Step) (w : BeginsOne rule x step) → w.come.index ≡ i → Loaded step n done
        own_begins step w same = subst (λ s. Loaded s n done) w.is_step (λ g.
            let r : Renewal = w.come in
            let come : come_in (i + 1) (Back x.time (r.index + 1) r.job.used) ≡ 1 =
            ap (λ b. if b then 1 else 0) (eq-eqb (r.index + 1) (i + 1) (omega (arith, same))) in
            let one : n + come_in (i + 1) (Back x.time (r.index + 1) r.job.used) ≡ n + 1 = ap (λ k. n + k) come in
            let times : (n + come_in (i + 1) (Back x.time (r.index + 1) r.job.used)) * period ≡ (n + 1) * period =
            ap (λ a. a * period) one in
            let works : (n + come_in (i + 1) (Back x.time (r.index + 1) r.job.used) + 1) * task.work ≡ (n + 1 + 1) * task.work =
            ap (λ a. (a + 1) * task.work) one in
            let at = begins_at i task period x n done r w.has_come same h in
            let more = times_next n period in
            let work = times_next (n + 1) task.work in
            let old = h.sum in
            let sum = g.sum in
            let nothing : h.job.left ≡ 0 = none_left h.job.left (λ some.
            let b = load.busy some in
            let p = b.0 in
            let q = b.1 in
            omega (arith, p, q, some, at, more, short)) in
            let left : g.job.left ≡ task.work = omega (arith, nothing, works, work, old, sum) in
            let f = load.free nothing in
            let p = f.0 in
            let q = f.1 in
            let rest = above_out numbers i load.end x.jobs r.index r.job (begun r.job) (come_at x.time x.jobs r w.has_come)
            (own_not_above numbers i r.index same) in
            record {
              end = load.end;
              busy = λ again. (omega (arith, p, rest, left), omega (arith, q, at, times));
              free = λ none. (omega (arith, p, rest), omega (arith, q));
            })

        -- Where time stands, and the task is not that of the turn, those above ask for no more.
        stands : (s : Step) → s.next.time ≡ x.time → ran_in (i + 1) s.turn ≡ 0 → come_in (i + 1) s.turn ≡ 0
            → left_above numbers i load.end 0 s.next.jobs ≤ left_above numbers i load.end 0 x.jobs → Loaded s n done
        stands s time none come less g =
            let same = same_left s g none come in
            load_keeps x s.next (task.arrival + n * period) h.job.left _ g.job.left load same.1 same.0
            (omega (arith, time)) (omega (arith, time, less))

        less_set : (p : ℕ) (old new : Job) → slice_get x.jobs p ≡ Some old → weight load.end new ≤ weight load.end old
            → left_above numbers i load.end 0 (slice_set x.jobs p new) ≤ left_above numbers i load.end 0 x.jobs
        less_set p old new at less = by_above (is_above numbers i p) refl
          where
            by_above : (b : Bool) → is_above numbers i p ≡ b
                → left_above numbers i load.end 0 (slice_set x.jobs p new) ≤ left_above numbers i load.end 0 x.jobs
            by_above true above =
                let all = above_in numbers i load.end x.jobs p old new at above in
                omega (arith, all, less)
            by_above false below =
                let all = above_out numbers i load.end x.jobs p old new at below in
                omega (arith, all)

        out_weight : (job : Job) → weight load.end (record job { out = true }) ≤ weight load.end job
        out_weight job =
            let none = weight_out load.end (record job { out = true }) refl in
            omega (arith, none)

        other_begins : (step : Step) (w : BeginsOne rule x step) → w.come.index ≢ i → Loaded step n done
        other_begins step w other =
            let r : Renewal = w.come in
            let here = come_at x.time x.jobs r w.has_come in
            let has = has_come_of x.time x.jobs r w.has_come in
            let come = has.come in
            let before = before_end x (task.arrival + n * period) h.job.left load some in
            subst (λ s. Loaded s n done) w.is_step
            (stands (gives_back x r (replenish_for r.job)) refl refl
            (ap (λ b. if b then 1 else 0) (ne_eqb (r.index + 1) (i + 1) (λ q. other (omega (arith, q)))))
            (less_set r.index r.job (begun r.job) here
            (begun_weight load.end has.at r.job (task_fits tasks x kept fits r.index r.job here) has.inside has.next
            (omega (arith, come, before)))))

        pub loaded_on : (step : Step) → turn_of rule x ≡ Some step → Loaded step n done
        loaded_on step e = by_way (way rule x step e)
          where
            by_way : Way rule x step → Loaded step n done
            by_way (Runs w) = elim (cases_eq w.choice.index i) [
              | inl same ↦ own_turn step w same
              | inr other ↦ other_turn step w other
            ]
            by_way (Refuses w) = subst (λ s. Loaded s n done) w.is_step
                (stands (refused x w.choice w.state w.calls w.reply) refl refl refl
                (less_set w.choice.index w.choice.job (record (w.choice.job) { out = true })
                (place_of x.state rule x.time x.jobs w.choice w.is_chosen) (out_weight w.choice.job)))
            by_way (Idles w) = idling step w
            by_way (Begins w) = elim (cases_eq w.come.index i) [
              | inl same ↦ own_begins step w same
              | inr other ↦ other_begins step w other
            ]
            by_way (Lacks w) = subst (λ s. Loaded s n done) w.is_step
                (stands (put_out x w.come.index w.come.job w.state w.calls w.reply) refl refl refl
                (less_set w.come.index w.come.job (record (w.come.job) { out = true })
                (come_at x.time x.jobs w.come w.has_come) (out_weight w.come.job)))
