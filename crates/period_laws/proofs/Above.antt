-- The work that the tasks that come before one ask for up to a time.
use Rattle.sched_laws.proofs.Common.{◌≡◌, ◌≢◌, inl, inr, ℕ, zero, suc, ◌+◌, ◌*◌, ◌-◌, ◌<◌, ◌≤◌, Bool, true, false, not, ◌&&◌, ◌==◌, refl}
use Rattle.sched_laws.proofs.Common.{sym, ◌∙◌, ap, subst, arith, nat_le, nat_lt, if◌then◌else◌, List, [], ◌∷◌, map, Option, Some, None}
use Rattle.sched_laws.proofs.Common.{slice_set, slice_get, cases_lt, ltb-true, leb-true, eqb-true, eq-eqb, ne_eqb, and_parts, and_from}
use Rattle.sched_laws.proofs.Common.{false≢true, Task, Job, job_after, begun}
use Rattle.std.{proofs.Common.mul-le-mul_right, proofs.Common.zero-mul, specs.Prelude.IfSome, specs.Int.div_ceil}
use Rattle.std.{proofs.lemmas.Bool.or_cases, proofs.lemmas.Grind.div_ceil_times}
use Rattle.sched_laws.specs.sched_rules.specs.{PeriodFits, TaskFits, next_of}
use Rattle.sched_laws.specs.{ComesFirst, is_not_after}
use Rattle.sched_laws.proofs.{Weights.first_not_after}
use Rattle.period_laws.specs.Periods.{is_above, work_above, jobs_in}
use Rattle.period_laws.proofs.{Jobs.the_job, Jobs.times_next}

-- ---- rounding up

ceil_least : (n m period : ℕ) → 0 < period → n ≤ m * period → div_ceil n period ≤ m
ceil_least n m period some enough = elim (cases_lt m (div_ceil n period)) [
  | inl past ↦
      let small = (div_ceil_times n period some).1 in
      let more : (m + 1) * period ≤ div_ceil n period * period = mul-le-mul_right period (omega (arith, past)) in
      let next = times_next m period in
      absurd (omega (arith, small, more, next, enough))
  | inr le ↦ le
]

ceil_more : (n m period : ℕ) → 0 < period → n ≤ m → div_ceil n period ≤ div_ceil m period
ceil_more n m period some le =
    let enough = (div_ceil_times m period some).0 in
    ceil_least n (div_ceil m period) period some (omega (arith, enough, le))

-- One period less is one job less.
ceil_next : (n period : ℕ) → 0 < period → 0 < n → div_ceil (n - period) period + 1 ≤ div_ceil n period
ceil_next n period some more = by_count (div_ceil n period) refl
  where
    by_count : (c : ℕ) → div_ceil n period ≡ c → div_ceil (n - period) period + 1 ≤ c
    by_count zero is =
        let enough = (div_ceil_times n period some).0 in
        let none : div_ceil n period * period ≡ 0 = ap (λ c. c * period) is ∙ zero-mul period in
        absurd (omega (arith, enough, none, more))
    by_count (suc c) is =
        let enough = (div_ceil_times n period some).0 in
        let one : div_ceil n period * period ≡ (c + 1) * period =
        ap (λ a. a * period) (let e : div_ceil n period ≡ c + 1 = omega (arith, is) in e) in
        let next = times_next c period in
        let rest = ceil_least (n - period) c period some (omega (arith, enough, one, next)) in
        omega (arith, rest)

-- ---- one task

-- The further jobs of a task that come before a time, at most: the next one comes at this time, if one does.
abbrev pub coming : ℕ → Option ℕ → Option ℕ → ℕ
coming end None period = 0
coming end (Some at) None = 1
coming end (Some at) (Some period) = div_ceil (end - at) period

-- What a task asks for before a time, at most.
abbrev pub weight : ℕ → Job → ℕ
weight end job = if job.out then 0 else job.left + coming end job.next job.task.period * job.task.work

pub weight_in : (end : ℕ) (job : Job) → job.out ≡ false → weight end job ≡ job.left + coming end job.next job.task.period * job.task.work
weight_in end job inside = ap (λ b. if b then 0 else job.left + coming end job.next job.task.period * job.task.work) inside

pub weight_out : (end : ℕ) (job : Job) → job.out ≡ true → weight end job ≡ 0
weight_out end job out = ap (λ b. if b then 0 else job.left + coming end job.next job.task.period * job.task.work) out

-- A job that comes before the time was counted.
pub begun_weight : (end at : ℕ) (job : Job) → TaskFits job.task → job.out ≡ false → job.next ≡ Some at → at < end
    → weight end (begun job) ≤ weight end job
begun_weight end at job fits inside is before =
    let new = weight_in end (begun job) inside in
    let old = weight_in end job inside in
    let same : coming end job.next job.task.period ≡ coming end (Some at) job.task.period =
    ap (λ o. coming end o job.task.period) is in
    let after : next_of job.next job.task.period ≡ job_after at job.task.period = ap (λ o. next_of o job.task.period) is in
    let fewer = by_period job.task.period fits.period in
    let times : (coming end (job_after at job.task.period) job.task.period + 1) * job.task.work
    ≤ coming end (Some at) job.task.period * job.task.work = mul-le-mul_right job.task.work fewer in
    let one = times_next (coming end (job_after at job.task.period) job.task.period) job.task.work in
    let old_times : coming end job.next job.task.period * job.task.work ≡ coming end (Some at) job.task.period * job.task.work =
    ap (λ c. c * job.task.work) same in
    let new_times : coming end (next_of job.next job.task.period) job.task.period * job.task.work
    ≡ coming end (job_after at job.task.period) job.task.period * job.task.work =
    ap (λ o. coming end o job.task.period * job.task.work) after in
    omega (arith, new, old, times, one, old_times, new_times)
  where
    by_test : (period : ℕ) → 0 < period → (b : Bool)
        → coming end (if b then Some (at + period) else None) (Some period) + 1 ≤ div_ceil (end - at) period
    by_test period some true =
        let fewer = ceil_next (end - at) period some (omega (arith, before)) in
        let less : end - (at + period) ≡ (end - at) - period = omega arith in
        let same : div_ceil (end - (at + period)) period ≡ div_ceil ((end - at) - period) period = ap (λ n. div_ceil n period) less in
        omega (arith, fewer, same)
    by_test period some false =
        let fewer = ceil_next (end - at) period some (omega (arith, before)) in
        omega (arith, fewer)

    by_period : (o : Option ℕ) → IfSome o PeriodFits → coming end (job_after at o) o + 1 ≤ coming end (Some at) o
    by_period None fits = omega arith
    by_period (Some period) fits = by_test period fits.0 (nat_le (at + period) 1000000)

-- ---- after a pause

-- A next time is not before this one.
abbrev pub IsFrom : ℕ → Option ℕ → Type 0
IsFrom t None = Unit {0}
IsFrom t (Some at) = t ≤ at

-- At a time a task is refused, or has nothing left and its next job is not before the time, or its first job is not.
pub record HasNone (t : ℕ) (job : Job) : Type 0 where
  pub left : job.left ≡ 0
  pub next : IsFrom t job.next

pub record IsNew (t : ℕ) (job : Job) : Type 0 where
  pub arrives : t ≤ job.task.arrival
  pub left : job.left ≤ job.task.work
  pub next : job.next ≡ job_after job.task.arrival job.task.period

pub data Quiet (t : ℕ) (job : Job) : Type 0 where
  Out : job.out ≡ true → Quiet t job
  Done : HasNone t job → Quiet t job
  New : IsNew t job → Quiet t job

-- So it asks for no more in so many ticks than its jobs that may arrive in them.
quiet_in : (t ticks : ℕ) (job : Job) → TaskFits job.task → 0 < ticks → job.out ≡ false → Quiet t job
    → weight (t + ticks) job ≤ jobs_in ticks job.task.period * job.task.work
quiet_in t ticks job fits some inside (Out out) = absurd (false≢true (sym inside ∙ out))
quiet_in t ticks job fits some inside (Done h) =
    let is = weight_in (t + ticks) job inside in
    let none = h.left in
    let times : coming (t + ticks) job.next job.task.period * job.task.work ≤ jobs_in ticks job.task.period * job.task.work =
    mul-le-mul_right job.task.work (by_next job.next h.next job.task.period fits.period) in
    omega (arith, is, none, times)
  where
    by_next : (next : Option ℕ) → IsFrom t next → (o : Option ℕ) → IfSome o PeriodFits → coming (t + ticks) next o ≤ jobs_in ticks o
    by_next None from o fits = omega arith
    by_next (Some at) from None fits = omega arith
    by_next (Some at) from (Some period) fits = ceil_more ((t + ticks) - at) ticks period fits.0 (omega (arith, from))
quiet_in t ticks job fits some inside (New h) =
    let is = weight_in (t + ticks) job inside in
    let left = h.left in
    let next : coming (t + ticks) job.next job.task.period * job.task.work
    ≡ coming (t + ticks) (job_after job.task.arrival job.task.period) job.task.period * job.task.work =
    ap (λ o. coming (t + ticks) o job.task.period * job.task.work) h.next in
    let times : (coming (t + ticks) (job_after job.task.arrival job.task.period) job.task.period + 1) * job.task.work
    ≤ jobs_in ticks job.task.period * job.task.work = mul-le-mul_right job.task.work (by_period job.task.period fits.period) in
    let one = times_next (coming (t + ticks) (job_after job.task.arrival job.task.period) job.task.period) job.task.work in
    omega (arith, is, left, next, times, one)
  where
    by_test : (period : ℕ) → 0 < period → (b : Bool)
        → coming (t + ticks) (if b then Some (job.task.arrival + period) else None) (Some period) + 1 ≤ div_ceil ticks period
    by_test period more true =
        let from = h.arrives in
        let fewer = ceil_next ticks period more some in
        let less = ceil_more ((t + ticks) - (job.task.arrival + period)) (ticks - period) period more (omega (arith, from)) in
        omega (arith, fewer, less)
    by_test period more false =
        let fewer = ceil_next ticks period more some in
        omega (arith, fewer)

    by_period : (o : Option ℕ) → IfSome o PeriodFits → coming (t + ticks) (job_after job.task.arrival o) o + 1 ≤ jobs_in ticks o
    by_period None fits = omega arith
    by_period (Some period) fits = by_test period fits.0 (nat_le (job.task.arrival + period) 1000000)

quiet_weight : (t ticks : ℕ) (job : Job) → TaskFits job.task → 0 < ticks → Quiet t job
    → weight (t + ticks) job ≤ jobs_in ticks job.task.period * job.task.work
quiet_weight t ticks job fits some quiet = by_out job.out refl
  where
    by_out : (b : Bool) → job.out ≡ b → weight (t + ticks) job ≤ jobs_in ticks job.task.period * job.task.work
    by_out true out = let none = weight_out (t + ticks) job out in omega (arith, none)
    by_out false inside = quiet_in t ticks job fits some inside quiet

-- ---- all tasks above one

-- What the tasks listed from place k on that are above the task at place i ask for before a time.
abbrev pub left_above : (ℕ → ℕ) → ℕ → ℕ → ℕ → List Job → ℕ
left_above numbers i end k [] = 0
left_above numbers i end k (job ∷ jobs) = (if is_above numbers i k then weight end job else 0) + left_above numbers i end (k + 1) jobs

either_most : (b : Bool) (u v : ℕ) → (b ≡ true → u ≤ v) → (if b then u else 0) ≤ (if b then v else 0)
either_most true u v le = le refl
either_most false u v le = omega arith

pub quiet_all : (numbers : ℕ → ℕ) (i t ticks k : ℕ) (jobs : List Job) (tasks : List Task) → map (λ (j : Job). j.task) jobs ≡ tasks
    → 0 < ticks → ((q : ℕ) (task : Task) → slice_get tasks q ≡ Some task → TaskFits task)
    → ((q : ℕ) (job : Job) → is_above numbers i (k + q) ≡ true → slice_get jobs q ≡ Some job → Quiet t job)
    → left_above numbers i (t + ticks) k jobs ≤ work_above numbers i ticks k tasks
quiet_all numbers i t ticks k [] tasks same some fits quiet = omega arith
quiet_all numbers i t ticks k (job ∷ jobs) [] same some fits quiet = absurd (cc)
quiet_all numbers i t ticks k (job ∷ jobs) (task ∷ tasks) same some fits quiet =
    let is_task : job.task ≡ task = cc in
    let are_tasks : map (λ (j : Job). j.task) jobs ≡ tasks = cc in
    let zero_more : k + 0 ≡ k = omega arith in
    let own : TaskFits job.task = subst TaskFits (sym is_task) (fits zero task refl) in
    let here = either_most (is_above numbers i k) (weight (t + ticks) job) (jobs_in ticks job.task.period * job.task.work)
    (λ above. quiet_weight t ticks job own some (quiet zero job (ap (is_above numbers i) zero_more ∙ above) refl)) in
    let moved : (if is_above numbers i k then jobs_in ticks job.task.period * job.task.work else 0)
    ≡ (if is_above numbers i k then jobs_in ticks task.period * task.work else 0) =
    ap (λ (a : Task). if is_above numbers i k then jobs_in ticks a.period * a.work else 0) is_task in
    let rest = quiet_all numbers i t ticks (k + 1) jobs tasks are_tasks some (λ q other at. fits (suc q) other at)
    (λ q other above at. quiet (suc q) other
    (ap (is_above numbers i) (let e : k + suc q ≡ (k + 1) + q = omega arith in e) ∙ above) at) in
    omega (arith, here, moved, rest)

-- Where one job changes.
above_set : (numbers : ℕ → ℕ) (i end k : ℕ) (jobs : List Job) (p : ℕ) (old new : Job) → slice_get jobs p ≡ Some old
    → left_above numbers i end k (slice_set jobs p new) + (if is_above numbers i (k + p) then weight end old else 0)
    ≡ left_above numbers i end k jobs + (if is_above numbers i (k + p) then weight end new else 0)
above_set numbers i end k [] zero old new at = absurd (cc)
above_set numbers i end k [] (suc p) old new at = absurd (cc)
above_set numbers i end k (job ∷ jobs) zero old new at =
    let same : job ≡ old = the_job job old at in
    let here : k + 0 ≡ k = omega arith in
    let was : (if is_above numbers i (k + 0) then weight end old else 0) ≡ (if is_above numbers i k then weight end job else 0) =
    ap (λ n. if is_above numbers i n then weight end old else 0) here
    ∙ ap (λ j. if is_above numbers i k then weight end j else 0) (sym same) in
    let becomes : (if is_above numbers i (k + 0) then weight end new else 0) ≡ (if is_above numbers i k then weight end new else 0) =
    ap (λ n. if is_above numbers i n then weight end new else 0) here in
    omega (arith, was, becomes)
above_set numbers i end k (job ∷ jobs) (suc p) old new at =
    let there : k + suc p ≡ (k + 1) + p = omega arith in
    let was : (if is_above numbers i (k + suc p) then weight end old else 0)
    ≡ (if is_above numbers i ((k + 1) + p) then weight end old else 0) =
    ap (λ n. if is_above numbers i n then weight end old else 0) there in
    let becomes : (if is_above numbers i (k + suc p) then weight end new else 0)
    ≡ (if is_above numbers i ((k + 1) + p) then weight end new else 0) =
    ap (λ n. if is_above numbers i n then weight end new else 0) there in
    let rest = above_set numbers i end (k + 1) jobs p old new at in
    omega (arith, was, becomes, rest)

pub above_in : (numbers : ℕ → ℕ) (i end : ℕ) (jobs : List Job) (p : ℕ) (old new : Job) → slice_get jobs p ≡ Some old
    → is_above numbers i p ≡ true
    → left_above numbers i end 0 (slice_set jobs p new) + weight end old ≡ left_above numbers i end 0 jobs + weight end new
above_in numbers i end jobs p old new at above =
    let is : is_above numbers i (0 + p) ≡ true = ap (is_above numbers i) (let e : 0 + p ≡ p = omega arith in e) ∙ above in
    let all = above_set numbers i end 0 jobs p old new at in
    let was : (if is_above numbers i (0 + p) then weight end old else 0) ≡ weight end old = ap (λ b. if b then weight end old else 0) is in
    let becomes : (if is_above numbers i (0 + p) then weight end new else 0) ≡ weight end new =
    ap (λ b. if b then weight end new else 0) is in
    omega (arith, all, was, becomes)

pub above_out : (numbers : ℕ → ℕ) (i end : ℕ) (jobs : List Job) (p : ℕ) (old new : Job) → slice_get jobs p ≡ Some old
    → is_above numbers i p ≡ false
    → left_above numbers i end 0 (slice_set jobs p new) ≡ left_above numbers i end 0 jobs
above_out numbers i end jobs p old new at below =
    let is : is_above numbers i (0 + p) ≡ false = ap (is_above numbers i) (let e : 0 + p ≡ p = omega arith in e) ∙ below in
    let all = above_set numbers i end 0 jobs p old new at in
    let was : (if is_above numbers i (0 + p) then weight end old else 0) ≡ 0 = ap (λ b. if b then weight end old else 0) is in
    let becomes : (if is_above numbers i (0 + p) then weight end new else 0) ≡ 0 = ap (λ b. if b then weight end new else 0) is in
    omega (arith, all, was, becomes)

-- ---- which are above

pub not_after_tells : (numbers : ℕ → ℕ) (i k : ℕ) → is_not_after numbers i k ≡ true → ComesFirst (numbers k) k (numbers i) i
not_after_tells numbers i k h =
    elim (or_cases (nat_lt (numbers k) (numbers i)) (numbers k == numbers i && nat_le k i) h) [
      | inl less ↦
          let lt : numbers k < numbers i = ltb-true (numbers k) (numbers i) less in
          record { least = omega (arith, lt); first = λ e. absurd (omega (arith, lt, e)) }
      | inr both ↦
          let parts = and_parts (numbers k == numbers i) (nat_le k i) both in
          let same : numbers k ≡ numbers i = eqb-true (numbers k) (numbers i) parts.0 in
          let le : k ≤ i = leb-true k i parts.1 in
          record { least = omega (arith, same); first = λ e. le }
    ]

above_parts : (numbers : ℕ → ℕ) (i k : ℕ) → is_above numbers i k ≡ true → (is_not_after numbers i k ≡ true) × (k ≢ i)
above_parts numbers i k h =
    let parts = and_parts (is_not_after numbers i k) (not (k == i)) h in
    (parts.0, λ same. false≢true (sym (ap not (eq-eqb k i same)) ∙ parts.1))

pub above_not_after : (numbers : ℕ → ℕ) (i k : ℕ) → is_above numbers i k ≡ true → is_not_after numbers i k ≡ true
above_not_after numbers i k h = (above_parts numbers i k h).0

pub above_apart : (numbers : ℕ → ℕ) (i k : ℕ) → is_above numbers i k ≡ true → k ≢ i
above_apart numbers i k h = (above_parts numbers i k h).1

pub own_not_above : (numbers : ℕ → ℕ) (i k : ℕ) → k ≡ i → is_above numbers i k ≡ false
own_not_above numbers i k same =
    ap (λ b. is_not_after numbers i k && not b) (eq-eqb k i same) ∙ none (is_not_after numbers i k)
  where
    none : (b : Bool) → (b && false) ≡ false
    none true = refl
    none false = refl

-- What comes first of a task is the task itself or above it.
pub first_above : (numbers : ℕ → ℕ) (i k n m : ℕ) → n ≡ numbers k → m ≡ numbers i → ComesFirst n k m i → k ≢ i → is_above numbers i k ≡ true
first_above numbers i k n m own theirs first other =
    and_from (is_not_after numbers i k) (not (k == i)) (first_not_after numbers i k n m own theirs first) (ap not (ne_eqb k i other))

-- What comes first of one above is above.
pub first_of_above : (numbers : ℕ → ℕ) (i q k n m : ℕ) → n ≡ numbers k → m ≡ numbers q → ComesFirst n k m q → is_above numbers i q ≡ true
    → is_above numbers i k ≡ true
first_of_above numbers i q k n m own theirs first above =
    let parts = above_parts numbers i q above in
    let upper = not_after_tells numbers i q parts.0 in
    let apart = parts.1 in
    let a = first.least in
    let b = upper.least in
    first_above numbers i k (numbers k) (numbers i) refl refl
    (record {
      least = omega (arith, a, b, own, theirs);
      first = λ e.
          let p = first.first (omega (arith, a, b, own, theirs, e)) in
          let r = upper.first (omega (arith, a, b, own, theirs, e)) in
          omega (arith, p, r);
    })
    (λ same.
    let at_i : numbers k ≡ numbers i = ap numbers same in
    let p = first.first (omega (arith, a, b, own, theirs, at_i)) in
    let r = upper.first (omega (arith, a, b, own, theirs, at_i)) in
    apart (omega (arith, p, r, same)))
