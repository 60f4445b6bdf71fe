-- The next arrival, and that no task becomes ready before it.
use Rattle.sched_laws.proofs.Common.{◌≡◌, inl, inr, ℕ, zero, suc, ◌+◌, ◌<◌, ◌≤◌, Bool, true, false, not, ◌&&◌, refl, sym, ◌∙◌, ap, subst}
use Rattle.sched_laws.proofs.Common.{arith, nat_le, nat_lt, if◌then◌else◌, List, [], ◌∷◌, Option, Some, None, slice_get, leb-true, ltb-true}
use Rattle.sched_laws.proofs.Common.{le-leb, lt-leb, lt-ltb, and_parts, and_from, cases_lt, false≢true, State, Rule, Job, reach, time_of}
use Rattle.sched_laws.proofs.Common.{is_due, ready, later, sooner, next_arrival, cut_at}

-- A time is before the next arrival, if one comes.
abbrev pub IsBefore : ℕ → Option ℕ → Type 0
IsBefore t None = Unit {0}
IsBefore t (Some at) = t < at

before_sooner : (t : ℕ) (a b : Option ℕ) → IsBefore t (sooner a b) → IsBefore t a × IsBefore t b
before_sooner t None None h = (tt, tt)
before_sooner t None (Some b) h = (tt, h)
before_sooner t (Some a) None h = (h, tt)
before_sooner t (Some a) (Some b) h = (omega (arith, h), omega (arith, h))

-- Before the next arrival is before that of each task.
pub before_each : (now t : ℕ) (jobs : List Job) → IsBefore t (next_arrival now jobs)
    → (k : ℕ) (job : Job) → slice_get jobs k ≡ Some job → IsBefore t (later now job)
before_each now t [] h zero job at = absurd (cc)
before_each now t [] h (suc k) job at = absurd (cc)
before_each now t (job ∷ jobs) h zero other at =
    let same : job ≡ other = cc in
    subst (λ j. IsBefore t (later now j)) same (before_sooner t (later now job) (next_arrival now jobs) h).0
before_each now t (job ∷ jobs) h (suc k) other at =
    before_each now t jobs (before_sooner t (later now job) (next_arrival now jobs) h).1 k other at

-- A task that is due by a time before its own later arrival has arrived by now.
due_parts : (now : ℕ) (job : Job) → is_due now job ≡ true → (job.task.arrival ≤ now) × (0 < job.left) × (job.out ≡ false)
due_parts now job h =
    let a = and_parts (nat_le job.task.arrival now) (nat_lt 0 job.left && not job.out) h in
    let b = and_parts (nat_lt 0 job.left) (not job.out) a.1 in
    (leb-true job.task.arrival now a.0, ltb-true 0 job.left b.0, by_out job.out b.1)
  where
    by_out : (b : Bool) → not b ≡ true → b ≡ false
    by_out false h = refl
    by_out true h = absurd (false≢true h)

pub later_is : (now : ℕ) (job : Job) → now < job.task.arrival → job.out ≡ false → later now job ≡ Some job.task.arrival
later_is now job less in_ =
    ap (λ b. if b then None else (if nat_lt now job.task.arrival then Some job.task.arrival else job.next)) in_
    ∙ ap (λ b. if b then Some job.task.arrival else job.next) (lt-ltb now job.task.arrival less)

-- Up to its own arrival a task is due as it is now.
due_same : (now t : ℕ) (job : Job) → now ≤ t → IsBefore t (later now job) → is_due t job ≡ is_due now job
due_same now t job le h = by_out job.out refl
  where
    none : (a b : Bool) → (a && (b && false)) ≡ false
    none true true = refl
    none true false = refl
    none false b = refl

    by_out : (o : Bool) → job.out ≡ o → is_due t job ≡ is_due now job
    by_out true out =
        let never : (a b : Bool) → (a && (b && not job.out)) ≡ false = λ a b. ap (λ o. a && (b && not o)) out ∙ none a b in
        never (nat_le job.task.arrival t) (nat_lt 0 job.left) ∙ sym (never (nat_le job.task.arrival now) (nat_lt 0 job.left))
    by_out false out = elim (cases_lt now job.task.arrival) [
      | inl less ↦
          let still : t < job.task.arrival = subst (IsBefore t) (later_is now job less out) h in
          ap (λ a. a && (nat_lt 0 job.left && not job.out)) (lt-leb job.task.arrival t still ∙ sym (lt-leb job.task.arrival now less))
      | inr past ↦ ap (λ a. a && (nat_lt 0 job.left && not job.out))
          (le-leb job.task.arrival t (omega (arith, past, le)) ∙ sym (le-leb job.task.arrival now past))
    ]

-- Up to the next arrival each task is ready as it is now.
pub ready_same : (s : State) (rule : Rule) (now t : ℕ) (jobs : List Job) → now ≤ t → IsBefore t (next_arrival now jobs)
    → (k : ℕ) (job : Job) → slice_get jobs k ≡ Some job → ready s rule t job ≡ ready s rule now job
ready_same s rule now t jobs le h k job at = ap (λ b. if b then time_of s rule.sched (reach s 0 job.task.tcap) else None)
    (due_same now t job le (before_each now t jobs h k job at))

-- A tick of a turn is before the next arrival.
pub tick_before : (a : Option ℕ) (now n t : ℕ) → now ≤ t → t < now + cut_at a now n → IsBefore t a
tick_before None now n t le h = tt
tick_before (Some at) now n t le h = omega (arith, le, h)

-- A cut stretch is no longer.
pub cut_most : (a : Option ℕ) (now n : ℕ) → cut_at a now n ≤ n
cut_most None now n = omega arith
cut_most (Some at) now n = omega arith

-- It ends by the next arrival, and by that of each task that is still to come.
pub cut_by : (a : Option ℕ) (now n bound : ℕ) → now ≤ bound → (IsBefore bound a → ⊥) → now + cut_at a now n ≤ bound
cut_by None now n bound le past = absurd (past tt)
cut_by (Some at) now n bound le past = elim (cases_lt bound at) [
  | inl less ↦ absurd (past less)
  | inr most ↦ omega (arith, le, most)
]

-- A task that is still to come and not out arrives no earlier than the next arrival.
pub not_before : (now : ℕ) (jobs : List Job) (k : ℕ) (job : Job) → slice_get jobs k ≡ Some job → now < job.task.arrival
    → job.out ≡ false → IsBefore job.task.arrival (next_arrival now jobs) → ⊥
not_before now jobs k job at less in_ h =
    let mine : job.task.arrival < job.task.arrival = subst (IsBefore job.task.arrival) (later_is now job less in_)
    (before_each now job.task.arrival jobs h k job at) in
    omega (arith, mine)

pub due_is : (now : ℕ) (job : Job) → job.task.arrival ≤ now → 0 < job.left → job.out ≡ false → is_due now job ≡ true
due_is now job arrived some in_ = and_from (nat_le job.task.arrival now) (nat_lt 0 job.left && not job.out)
    (le-leb job.task.arrival now arrived)
    (and_from (nat_lt 0 job.left) (not job.out) (lt-ltb 0 job.left some) (ap not in_))

pub due_tells : (now : ℕ) (job : Job) → is_due now job ≡ true → (job.task.arrival ≤ now) × (0 < job.left) × (job.out ≡ false)
due_tells = due_parts
