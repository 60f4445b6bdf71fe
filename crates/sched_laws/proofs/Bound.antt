-- The response bound, turn by turn.
use Rattle.sched_laws.proofs as low
use low.Common.{◌≡◌, ◌≢◌, inl, inr, ℕ, zero, suc, ◌+◌, ◌-◌, ◌<◌, ◌≤◌, min, Bool, true, false, not, ◌&&◌, ◌==◌, refl, sym, ◌∙◌, ap, subst}
use low.Common.{arith, if◌then◌else◌, List, [], ◌∷◌, map, Option, Some, None, slice_set, IsSome, slice_get, option_map, cases_lt, cases_eq}
use low.Common.{eq-eqb, ne_eqb, false≢true, slice_get-map, Reply, Task, Rule, Job, Ready, Choice, Renewal, Ran, Refused, Progress, Step}
use low.Common.{ready, next_arrival, length_of, turn_of, new_job, at_first, has_come, renewal, job_after, IsSchedule, turns_of, ran_in}
use Rattle.sched_laws.specs.{Throughout, HasNumbers, IsSupplied, NeverRefused, is_not_after}
use low.Arriving.{IsBefore, cut_most, cut_by, not_before, due_is, due_tells}
use low.Turns.{Way, Runs, Refuses, Idles, Begins, Lacks, RunsOne, RefusesOne, IdlesOn, way, ends}
use low.Weights.{left_not_after, all_left, left_falls, not_after_itself, first_not_after, set_here, set_apart}
use low.{Common.ran_by, Picks.best, Picks.none_ready, Picks.place_of, Picks.first_of_all, Readiness.ready_tells}
use Rattle.{sched_laws.specs.Response.work_not_after, sched_laws.specs.Response.TurnsEndBy, sched_laws.specs.Response.ResponseBound}

same_job : (x y : Job) → Some x ≡ Some y → x ≡ y
same_job x y e = cc

-- A turn is no longer than the work left.
pub length_most : (rule : Rule) (x : Progress) (c : Choice) → length_of rule x c ≤ c.job.left
length_most rule x c =
    let a = cut_most (next_arrival x.time x.jobs) x.time (min rule.quantum (min c.job.left c.ready.budget)) in
    omega (arith, a)

none_some : {A B : Type 0} (o : Option A) → o ≡ None → IsSome o → B
none_some None e h = absurd (false≢true h)
none_some (Some x) e h = absurd (cc)

-- No task has a job after its first one; so none arrives, and that stays.
abbrev NoneNext : List Job → Type 0
NoneNext jobs = (k : ℕ) (job : Job) → slice_get jobs k ≡ Some job → job.next ≡ None

none_comes : (now i : ℕ) (jobs : List Job) → NoneNext jobs → renewal now i jobs ≡ None
none_comes now i [] single = refl
none_comes now i (job ∷ jobs) single =
    ap (λ o. if has_come now o && not job.out then Some (record { index = i; job = job }) else renewal now (i + 1) jobs)
    (single zero job refl)
    ∙ none_comes now (i + 1) jobs (λ k other at. single (suc k) other at)

none_new : (tasks : List Task) → ((k : ℕ) (task : Task) → slice_get tasks k ≡ Some task → task.period ≡ None)
    → NoneNext (map new_job tasks)
none_new [] single zero job at = absurd (cc)
none_new [] single (suc k) job at = absurd (cc)
none_new (task ∷ tasks) single zero job at =
    ap (λ (j : Job). j.next) (sym (same_job (new_job task) job at)) ∙ ap (λ o. job_after task.arrival o) (single zero task refl)
none_new (task ∷ tasks) single (suc k) job at = none_new tasks (λ n other is. single (suc n) other is) k job at

none_set : (jobs : List Job) (p : ℕ) (old new : Job) → slice_get jobs p ≡ Some old → new.next ≡ old.next → NoneNext jobs
    → NoneNext (slice_set jobs p new)
none_set jobs p old new at same single k job there = elim (cases_eq k p) [
  | inl here ↦
      let is : new ≡ job = same_job new job (sym (set_here jobs p old new at)
      ∙ ap (slice_get (slice_set jobs p new)) (sym here) ∙ there) in
      ap (λ (j : Job). j.next) (sym is) ∙ same ∙ single p old at
  | inr other ↦ single k job (sym (set_apart jobs p k new other) ∙ there)
]

never_comes : {A : Type 0} (now : ℕ) (jobs : List Job) (r : Renewal) → NoneNext jobs → renewal now 0 jobs ≡ Some r → A
never_comes {A} now jobs r single is = absurd (not_some (sym (none_comes now 0 jobs single) ∙ is))
  where
    not_some : None ≡ Some r → ⊥
    not_some h = cc

module _ (rule : Rule) (numbers : ℕ → ℕ) (i work arrival whole : ℕ) where
  -- The task at place i has run for so many ticks, and what it waits for fits between the time and the bound.
  record Holds (x : Progress) (done : ℕ) : Type 0 where
    job : Job
    listed : slice_get x.jobs i ≡ Some job
    arrives : job.task.arrival ≡ arrival
    inside : job.out ≡ false
    sum : job.left + done ≡ work
    most : left_not_after numbers i 0 x.jobs ≤ whole
    bound : arrival ≤ x.time → 0 < job.left → x.time + left_not_after numbers i 0 x.jobs ≤ arrival + whole
    single : NoneNext x.jobs

  -- What a turn leaves.
  record Leaves (step : Step) (done : ℕ) : Type 0 where
    next : Holds step.next (done + ran_in (i + 1) step.turn)
    ends_by : (at u : ℕ) → step.turn ≡ Ran at (i + 1) u → at + u ≤ arrival + whole

  -- A task that has arrived and has work left is ready.
  has_time : (x : Progress) (done : ℕ) (h : Holds x done) → IsSupplied rule i x → arrival ≤ x.time → 0 < h.job.left
      → IsSome (ready x.state rule x.time h.job)
  has_time x done h supplied arrived some = supplied h.job h.listed
      (due_is x.time h.job (subst (λ n. n ≤ x.time) (sym h.arrives) arrived) some h.inside)

  -- The turn of the task itself.
  own_turn : (x : Progress) (step : Step) (done : ℕ) (w : RunsOne rule x step) → Holds x done → w.choice.index ≡ i → Leaves step done
  own_turn x step done w h same =
      let c : Choice = w.choice in
      let u : ℕ = length_of rule x c in
      let here : slice_get x.jobs i ≡ Some c.job = subst (λ k. slice_get x.jobs k ≡ Some c.job) same
      (place_of x.state rule x.time x.jobs c w.is_chosen) in
      let job : c.job ≡ h.job = same_job c.job h.job (sym here ∙ h.listed) in
      let left : c.job.left ≡ h.job.left = ap (λ (j : Job). j.left) job in
      let tells = due_tells x.time c.job
      (ready_tells x.state rule x.time c.job c.ready (best x.state rule x.time 0 x.jobs c w.is_chosen).is_ready).due in
      let arrives : c.job.task.arrival ≡ arrival = ap (λ (j : Job). j.task.arrival) job ∙ h.arrives in
      let arrived : arrival ≤ x.time = subst (λ n. n ≤ x.time) arrives tells.0 in
      let some : 0 < h.job.left = subst (λ n. 0 < n) left tells.1 in
      let small : u ≤ c.job.left = length_most rule x c in
      let new : Job = record (c.job) { left = c.job.left - u; used = c.job.used + u } in
      let falls = left_falls numbers i 0 x.jobs i c.job new u here (omega (arith, small)) in
      let at_i : 0 + i ≡ i = omega arith in
      let own : (if is_not_after numbers i (0 + i) then u else 0) ≡ u =
      ap (λ n. if is_not_after numbers i n then u else 0) at_i ∙ ap (λ b. if b then u else 0) (not_after_itself numbers i) in
      let jobs : slice_set x.jobs c.index new ≡ slice_set x.jobs i new = ap (λ k. slice_set x.jobs k new) same in
      let bound = h.bound arrived some in
      let most = h.most in
      let sum = h.sum in
      let mine : (c.index + 1 == i + 1) ≡ true = eq-eqb (c.index + 1) (i + 1) (omega (arith, same)) in
      let ran_u : ran_in (i + 1) (Ran x.time (c.index + 1) u) ≡ u = ap (λ b. if b then u else 0) mine in
      let fallen : left_not_after numbers i 0 (slice_set x.jobs c.index new) + u ≡ left_not_after numbers i 0 x.jobs =
      ap (λ l. left_not_after numbers i 0 l + u) jobs
      ∙ ap (λ n. left_not_after numbers i 0 (slice_set x.jobs i new) + n) (sym own) ∙ falls in
      subst (λ s. Leaves s done) w.is_step (record {
        next = record {
          job = new;
          listed = ap (λ l. slice_get l i) jobs ∙ set_here x.jobs i c.job new here;
          arrives = arrives;
          inside = tells.2;
          sum = omega (arith, ran_u, sum, small, left);
          most = omega (arith, fallen, most);
          bound = λ arr more. omega (arith, fallen, bound);
          single = none_set x.jobs c.index c.job new (place_of x.state rule x.time x.jobs c w.is_chosen) refl h.single;
        };
        ends_by = λ at v is.
            let time : x.time ≡ at = cc in
            let long : u ≡ v = cc in
            omega (arith, fallen, bound, time, long);
      })

  -- The turn of another task.
  other_turn : (x : Progress) (step : Step) (done : ℕ) (w : RunsOne rule x step) → Holds x done → HasNumbers rule numbers x
      → IsSupplied rule i x → w.choice.index ≢ i → Leaves step done
  other_turn x step done w h numbered supplied other =
      let c : Choice = w.choice in
      let u : ℕ = length_of rule x c in
      let here : slice_get x.jobs c.index ≡ Some c.job = place_of x.state rule x.time x.jobs c w.is_chosen in
      let small : u ≤ c.job.left = length_most rule x c in
      let new : Job = record (c.job) { left = c.job.left - u; used = c.job.used + u } in
      let falls = left_falls numbers i 0 x.jobs c.index c.job new u here (omega (arith, small)) in
      let most = h.most in
      let sum = h.sum in
      let apart : (c.index + 1 == i + 1) ≡ false = ne_eqb (c.index + 1) (i + 1) (λ e. other (omega (arith, e))) in
      let ran_u : ran_in (i + 1) (Ran x.time (c.index + 1) u) ≡ 0 = ap (λ b. if b then u else 0) apart in
      let is_ready = (best x.state rule x.time 0 x.jobs c w.is_chosen).is_ready in
      let later : arrival ≤ x.time + u → 0 < h.job.left
      → (x.time + u) + left_not_after numbers i 0 (slice_set x.jobs c.index new) ≤ arrival + whole = λ arr some.
      elim (cases_lt x.time arrival) [
        | inl coming ↦
            let stop : (x.time + u) ≤ arrival = cut_by (next_arrival x.time x.jobs) x.time
            (min rule.quantum (min c.job.left c.ready.budget)) arrival (omega (arith, coming))
            (λ before. not_before x.time x.jobs i h.job h.listed (subst (λ n. x.time < n) (sym h.arrives) coming) h.inside
            (subst (λ n. IsBefore n (next_arrival x.time x.jobs)) (sym h.arrives) before)) in
            omega (arith, stop, falls, most)
        | inr here_now ↦ by_ready here_now some (ready x.state rule x.time h.job) refl (has_time x done h supplied here_now some)
      ] in
      subst (λ s. Leaves s done) w.is_step (record {
        next = record {
          job = h.job;
          listed = set_apart x.jobs c.index i new (λ e. other (sym e)) ∙ h.listed;
          arrives = h.arrives;
          inside = h.inside;
          sum = omega (arith, ran_u, sum);
          most = omega (arith, falls, most);
          bound = later;
          single = none_set x.jobs c.index c.job new here refl h.single;
        };
        ends_by = λ at v is. absurd (other (let place : c.index + 1 ≡ i + 1 = cc in omega (arith, place)));
      })
    where
      by_ready : arrival ≤ x.time → 0 < h.job.left → (o : Option Ready) → ready x.state rule x.time h.job ≡ o → IsSome o
          → (x.time + length_of rule x w.choice) + left_not_after numbers i 0
          (slice_set x.jobs w.choice.index (record (w.choice.job)
          { left = w.choice.job.left - length_of rule x w.choice; used = w.choice.job.used + length_of rule x w.choice }))
          ≤ arrival + whole
      by_ready arrived some None is none = absurd (false≢true none)
      by_ready arrived some (Some r) is got =
          let c : Choice = w.choice in
          let u : ℕ = length_of rule x c in
          let here = place_of x.state rule x.time x.jobs c w.is_chosen in
          let small : u ≤ c.job.left = length_most rule x c in
          let new : Job = record (c.job) { left = c.job.left - u; used = c.job.used + u } in
          let falls = left_falls numbers i 0 x.jobs c.index c.job new u here (omega (arith, small)) in
          let first = first_of_all x.state rule x.time x.jobs c w.is_chosen i h.job r h.listed is in
          let own = numbered c.index c.job c.ready here (best x.state rule x.time 0 x.jobs c w.is_chosen).is_ready in
          let theirs = numbered i h.job r h.listed is in
          let before = first_not_after numbers i c.index c.ready.number r.number own theirs first in
          let at_c : 0 + c.index ≡ c.index = omega arith in
          let taken : (if is_not_after numbers i (0 + c.index) then u else 0) ≡ u =
          ap (λ n. if is_not_after numbers i n then u else 0) at_c ∙ ap (λ b. if b then u else 0) before in
          let bound = h.bound arrived some in
          omega (arith, falls, taken, bound)

  -- The refusal of another task.
  refusal : (x : Progress) (step : Step) (done : ℕ) (w : RefusesOne rule x step) → Holds x done → w.choice.index ≢ i → Leaves step done
  refusal x step done w h other =
      let c : Choice = w.choice in
      let here : slice_get x.jobs c.index ≡ Some c.job = place_of x.state rule x.time x.jobs c w.is_chosen in
      let new : Job = record (c.job) { out = true } in
      let falls = left_falls numbers i 0 x.jobs c.index c.job new 0 here (omega arith) in
      let nothing = zero_either (is_not_after numbers i (0 + c.index)) in
      let most = h.most in
      let sum = h.sum in
      subst (λ s. Leaves s done) w.is_step (record {
        next = record {
          job = h.job;
          listed = set_apart x.jobs c.index i new (λ e. other (sym e)) ∙ h.listed;
          arrives = h.arrives;
          inside = h.inside;
          sum = omega (arith, sum);
          most = omega (arith, falls, nothing, most);
          bound = λ arr some. let b = h.bound arr some in omega (arith, falls, nothing, b);
          single = none_set x.jobs c.index c.job new here refl h.single;
        };
        ends_by = λ at v is. absurd (cc);
      })
    where
      zero_either : (b : Bool) → let n : ℕ = 0 in (if b then n else n) ≡ n
      zero_either true = refl
      zero_either false = refl

  -- An idle turn.
  idling : (x : Progress) (step : Step) (done : ℕ) (w : IdlesOn rule x step) → Holds x done → IsSupplied rule i x → Leaves step done
  idling x step done w h supplied =
      let most = h.most in
      let sum = h.sum in
      subst (λ s. Leaves s done) w.is_step (record {
        next = record {
          job = h.job;
          listed = h.listed;
          arrives = h.arrives;
          inside = h.inside;
          sum = omega (arith, sum);
          most = h.most;
          bound = λ arr some. elim (cases_lt x.time arrival) [
            | inl coming ↦
                let stop : w.at ≤ arrival = not_past coming in
                omega (arith, stop, most)
            | inr arrived ↦ none_some (ready x.state rule x.time h.job)
                (none_ready x.state rule x.time 0 x.jobs w.none i h.job h.listed) (has_time x done h supplied arrived some)
          ];
          single = h.single;
        };
        ends_by = λ at v is. absurd (cc);
      })
    where
      not_past : x.time < arrival → w.at ≤ arrival
      not_past coming = elim (cases_lt arrival w.at) [
        | inl before ↦ absurd (not_before x.time x.jobs i h.job h.listed (subst (λ n. x.time < n) (sym h.arrives) coming) h.inside
            (subst (IsBefore h.job.task.arrival) (sym w.next) (subst (λ n. n < w.at) (sym h.arrives) before)))
        | inr le ↦ le
      ]

  one_turn : (x : Progress) (step : Step) (done : ℕ) → turn_of rule x ≡ Some step → Holds x done → HasNumbers rule numbers x
      → IsSupplied rule i x → ((at : ℕ) (r : Reply) → step.turn ≢ Refused at (i + 1) r) → Leaves step done
  one_turn x step done e h numbered supplied never = by_way (way rule x step e)
    where
      by_way : Way rule x step → Leaves step done
      by_way (Runs w) = elim (cases_eq w.choice.index i) [
        | inl same ↦ own_turn x step done w h same
        | inr other ↦ other_turn x step done w h numbered supplied other
      ]
      by_way (Refuses w) = refusal x step done w h
          (λ same. never x.time w.reply (sym (ap (λ s. s.turn) w.is_step) ∙ ap (λ k. Refused x.time (k + 1) w.reply) same))
      by_way (Idles w) = idling x step done w h supplied
      by_way (Begins w) = never_comes x.time x.jobs w.come h.single w.has_come
      by_way (Lacks w) = never_comes x.time x.jobs w.come h.single w.has_come

  -- At the end no work is left.
  at_end : (x : Progress) (done : ℕ) → turn_of rule x ≡ None → Holds x done → IsSupplied rule i x → done ≡ work
  at_end x done e h supplied =
      let sum = h.sum in
      elim (cases_lt 0 h.job.left) [
        | inl some ↦ elim (cases_lt x.time arrival) [
          | inl coming ↦ absurd (not_before x.time x.jobs i h.job h.listed (subst (λ n. x.time < n) (sym h.arrives) coming) h.inside
              (subst (IsBefore h.job.task.arrival) (sym (ends rule x e).last) tt))
          | inr arrived ↦ none_some (ready x.state rule x.time h.job)
              (none_ready x.state rule x.time 0 x.jobs (ends rule x e).none i h.job h.listed) (has_time x done h supplied arrived some)
        ]
        | inr none ↦ omega (arith, sum, none)
      ]

  -- The rest of a schedule.
  record Rest (steps : List Step) (done : ℕ) : Type 0 where
    turns : TurnsEndBy (i + 1) (arrival + whole) steps
    sum : done + ran_by (i + 1) (turns_of steps) ≡ work

  go : (x : Progress) (steps : List Step) (done : ℕ) → IsSchedule rule x steps → Holds x done → Throughout (HasNumbers rule numbers) x steps
      → Throughout (IsSupplied rule i) x steps → NeverRefused (i + 1) steps → Rest steps done
  go x [] done is h numbered supplied never =
      let e = at_end x done is h supplied in
      record { turns = tt; sum = omega (arith, e) }
  go x (step ∷ steps) done is h numbered supplied never =
      let one = one_turn x step done is.0 h numbered.0 supplied.0 never.0 in
      let rest = go step.next steps (done + ran_in (i + 1) step.turn) is.1 one.next numbered.1 supplied.1 never.1 in
      let sum = rest.sum in
      record { turns = (one.ends_by, rest.turns); sum = omega (arith, sum) }

pub response_bound : ResponseBound
response_bound rule s tasks steps single is numbers numbered i task at supplied never =
    let whole : ℕ = work_not_after numbers i 0 tasks in
    let same = all_left numbers i 0 tasks in
    let listed : slice_get (map new_job tasks) i ≡ Some (new_job task) =
    slice_get-map new_job tasks i ∙ ap (option_map new_job) at in
    let rest = go rule numbers i task.work task.arrival whole (at_first s tasks) steps 0 is
    (record {
      job = new_job task;
      listed = listed;
      arrives = refl;
      inside = refl;
      sum = omega arith;
      most = omega (arith, same);
      bound = λ arrived some. omega (arith, same, arrived);
      single = none_new tasks single;
    })
    numbered supplied never in
    let sum = rest.sum in
    record { turns = rest.turns; whole = omega (arith, sum) }
