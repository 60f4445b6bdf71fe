-- The work left of the tasks that are not after one.
use Rattle.sched_laws.proofs.Common.{◌≡◌, ◌≢◌, ℕ, zero, suc, ◌+◌, Bool, true, false, ◌&&◌, ◌==◌, refl, sym, ◌∙◌, ap, arith, inl, inr}
use Rattle.sched_laws.proofs.Common.{nat_lt, nat_le, if◌then◌else◌, List, [], ◌∷◌, map, Some, slice_set, slice_get, cases_lt, lt-ltb}
use Rattle.sched_laws.proofs.Common.{le-leb, eq-eqb, or_left, or_right, and_from, Task, Job, new_job}
use Rattle.{sched_laws.specs.ComesFirst, sched_laws.specs.is_not_after, sched_laws.specs.Response.work_not_after}

-- The work left of the tasks listed from place k on that are not after the task at place i.
abbrev pub left_not_after : (ℕ → ℕ) → ℕ → ℕ → List Job → ℕ
left_not_after numbers i k [] = 0
left_not_after numbers i k (job ∷ jobs) =
    (if is_not_after numbers i k then job.left else 0) + left_not_after numbers i (k + 1) jobs

pub all_left : (numbers : ℕ → ℕ) (i k : ℕ) (tasks : List Task)
    → left_not_after numbers i k (map new_job tasks) ≡ work_not_after numbers i k tasks
all_left numbers i k [] = refl
all_left numbers i k (task ∷ tasks) =
    ap (λ n. (if is_not_after numbers i k then task.work else 0) + n) (all_left numbers i (k + 1) tasks)

weighed : (b : Bool) (new u old : ℕ) → new + u ≡ old → (if b then new else 0) + (if b then u else 0) ≡ (if b then old else 0)
weighed true new u old e = e
weighed false new u old e = refl

same_some : (x y : Job) → Some x ≡ Some y → x ≡ y
same_some x y e = cc

-- Where a task's work falls, the work left falls by as much, if it is not after the task at place i.
pub left_falls : (numbers : ℕ → ℕ) (i k : ℕ) (jobs : List Job) (p : ℕ) (old new : Job) (u : ℕ) → slice_get jobs p ≡ Some old
    → new.left + u ≡ old.left
    → left_not_after numbers i k (slice_set jobs p new) + (if is_not_after numbers i (k + p) then u else 0)
    ≡ left_not_after numbers i k jobs
left_falls numbers i k [] zero old new u at e = absurd (cc)
left_falls numbers i k [] (suc p) old new u at e = absurd (cc)
left_falls numbers i k (job ∷ jobs) zero old new u at e =
    let same : job.left ≡ old.left = ap (λ (j : Job). j.left) (same_some job old at) in
    let here : k + 0 ≡ k = omega arith in
    let moved : (if is_not_after numbers i (k + 0) then u else 0) ≡ (if is_not_after numbers i k then u else 0) =
    ap (λ n. if is_not_after numbers i n then u else 0) here in
    let w = weighed (is_not_after numbers i k) new.left u job.left (e ∙ sym same) in
    let rest : ℕ = left_not_after numbers i (k + 1) jobs in
    omega (arith, moved, w)
left_falls numbers i k (job ∷ jobs) (suc p) old new u at e =
    let there : k + suc p ≡ (k + 1) + p = omega arith in
    let moved : (if is_not_after numbers i (k + suc p) then u else 0) ≡ (if is_not_after numbers i ((k + 1) + p) then u else 0) =
    ap (λ n. if is_not_after numbers i n then u else 0) there in
    let rest = left_falls numbers i (k + 1) jobs p old new u at e in
    omega (arith, moved, rest)

-- A task is not after itself, nor is one of which the number comes first.
pub not_after_itself : (numbers : ℕ → ℕ) (i : ℕ) → is_not_after numbers i i ≡ true
not_after_itself numbers i = or_right (nat_lt (numbers i) (numbers i)) (numbers i == numbers i && nat_le i i)
    (and_from (numbers i == numbers i) (nat_le i i) (eq-eqb (numbers i) (numbers i) refl) (le-leb i i (omega arith)))

pub first_not_after : (numbers : ℕ → ℕ) (i k n m : ℕ) → n ≡ numbers k → m ≡ numbers i → ComesFirst n k m i → is_not_after numbers i k ≡ true
first_not_after numbers i k n m own theirs h = elim (cases_lt (numbers k) (numbers i)) [
  | inl less ↦ or_left (nat_lt (numbers k) (numbers i)) (numbers k == numbers i && nat_le k i) (lt-ltb (numbers k) (numbers i) less)
  | inr past ↦
      let least = h.least in
      let same : numbers k ≡ numbers i = omega (arith, own, theirs, least, past) in
      let listed = h.first (own ∙ same ∙ sym theirs) in
      or_right (nat_lt (numbers k) (numbers i)) (numbers k == numbers i && nat_le k i)
      (and_from (numbers k == numbers i) (nat_le k i) (eq-eqb (numbers k) (numbers i) same) (le-leb k i listed))
]

-- ---- what a list has where one of its items is set

pub set_here : {X : Type 0} (xs : List X) (i : ℕ) (old new : X) → slice_get xs i ≡ Some old → slice_get (slice_set xs i new) i ≡ Some new
set_here [] zero old new at = absurd (cc)
set_here [] (suc i) old new at = absurd (cc)
set_here (x ∷ xs) zero old new at = refl
set_here (x ∷ xs) (suc i) old new at = set_here xs i old new at

pub set_apart : {X : Type 0} (xs : List X) (i j : ℕ) (new : X) → j ≢ i → slice_get (slice_set xs i new) j ≡ slice_get xs j
set_apart [] zero j new other = refl
set_apart [] (suc i) j new other = refl
set_apart (x ∷ xs) zero zero new other = absurd (other refl)
set_apart (x ∷ xs) zero (suc j) new other = refl
set_apart (x ∷ xs) (suc i) zero new other = refl
set_apart (x ∷ xs) (suc i) (suc j) new other = set_apart xs i j new (λ e. other (ap (λ n. suc n) e))
