-- What is chosen is the least among the ready ones.
use Rattle.sched_laws.proofs.Common.{◌≡◌, ℕ, zero, suc, ◌+◌, ◌<◌, ◌≤◌, Bool, true, false, refl, sym, ◌∙◌, ap, subst, arith, nat_le}
use Rattle.sched_laws.proofs.Common.{if◌then◌else◌, List, [], ◌∷◌, Option, Some, None, slice_get, leb-true, leb-false, State, Rule, Job}
use Rattle.sched_laws.proofs.Common.{Ready, Choice, ready, lesser, chosen}
use Rattle.sched_laws.specs.Least.{ComesFirst, NoneReady, LeastChosen}

-- The choice among the tasks listed from place i on.
pub record Best (s : State) (rule : Rule) (now i : ℕ) (jobs : List Job) (c : Choice) : Type 0 where
  pub place : ℕ
  pub index : c.index ≡ i + place
  pub here : slice_get jobs place ≡ Some c.job
  pub is_ready : ready s rule now c.job ≡ Some c.ready
  pub least : (k : ℕ) (other : Job) (r : Ready) → slice_get jobs k ≡ Some other → ready s rule now other ≡ Some r
      → ComesFirst c.ready.number c.index r.number (i + k)

some_same : {A : Type 0} (x y : A) → Some x ≡ Some y → x ≡ y
some_same x y e = cc

nothing : {A B : Type 0} (x : A) → None ≡ Some x → B
nothing x e = absurd (cc)

-- Where nothing is chosen, no task is ready.
lesser_none : (i : ℕ) (job : Job) (r : Option Ready) (after : Option Choice) → lesser i job r after ≡ None
    → (r ≡ None) × (after ≡ None)
lesser_none i job None None e = (refl, refl)
lesser_none i job None (Some d) e = absurd (cc)
lesser_none i job (Some r) None e = absurd (cc)
lesser_none i job (Some r) (Some d) e = by_order (nat_le r.number d.ready.number) e
  where
    by_order : (b : Bool) → (if b then Some (record { index = i; job = job; ready = r }) else Some d) ≡ None
        → (Some r ≡ None) × (Some d ≡ None)
    by_order true e = absurd (cc)
    by_order false e = absurd (cc)

pub none_ready : (s : State) (rule : Rule) (now i : ℕ) (jobs : List Job) → chosen s rule now i jobs ≡ None → NoneReady s rule now jobs
none_ready s rule now i [] e k job at = absurd (nowhere k at)
  where
    nowhere : (k : ℕ) → slice_get [] k ≡ Some job → ⊥
    nowhere zero at = cc
    nowhere (suc k) at = cc
none_ready s rule now i (job ∷ jobs) e zero other at =
    subst (λ j. ready s rule now j ≡ None) (some_same job other at)
    (lesser_none i job (ready s rule now job) (chosen s rule now (i + 1) jobs) e).0
none_ready s rule now i (job ∷ jobs) e (suc k) other at =
    none_ready s rule now (i + 1) jobs (lesser_none i job (ready s rule now job) (chosen s rule now (i + 1) jobs) e).1 k other at

later_place : (n i m p k : ℕ) → ComesFirst n p m ((i + 1) + k) → ComesFirst n p m (i + suc k)
later_place n i m p k h = record { least = h.least; first = λ e. let q = h.first e in omega (arith, q) }

same_place : (n i m p : ℕ) → ComesFirst n p m i → ComesFirst n p m (i + 0)
same_place n i m p h = record { least = h.least; first = λ e. let q = h.first e in omega (arith, q) }

module _ (s : State) (rule : Rule) (now i : ℕ) (job : Job) (jobs : List Job) where
  -- The choice of the tasks after, where the head does not come before it.
  from_rest : (c : Choice) → Best s rule now (i + 1) jobs c
      → ((r : Ready) → ready s rule now job ≡ Some r → ComesFirst c.ready.number c.index r.number i)
      → Best s rule now i (job ∷ jobs) c
  from_rest c b head = record {
    place = suc b.place;
    index = (let q = b.index in omega (arith, q));
    here = b.here;
    is_ready = b.is_ready;
    least = by_place;
  }
    where
      by_place : (k : ℕ) (other : Job) (r : Ready) → slice_get (job ∷ jobs) k ≡ Some other → ready s rule now other ≡ Some r
          → ComesFirst c.ready.number c.index r.number (i + k)
      by_place zero other r at is = same_place c.ready.number i r.number c.index
          (head r (ap (ready s rule now) (some_same job other at) ∙ is))
      by_place (suc k) other r at is = later_place c.ready.number i r.number c.index k (b.least k other r at is)

  -- The head, where no later one is of a smaller number.
  from_head : (own : Ready) → ready s rule now job ≡ Some own
      → ((k : ℕ) (other : Job) (r : Ready) → slice_get jobs k ≡ Some other → ready s rule now other ≡ Some r → own.number ≤ r.number)
      → Best s rule now i (job ∷ jobs) (record { index = i; job = job; ready = own })
  from_head own is rest = record {
    place = zero;
    index = omega arith;
    here = refl;
    is_ready = is;
    least = by_place;
  }
    where
      by_place : (k : ℕ) (other : Job) (r : Ready) → slice_get (job ∷ jobs) k ≡ Some other → ready s rule now other ≡ Some r
          → ComesFirst own.number i r.number (i + k)
      by_place zero other r at q =
          let same : own ≡ r = some_same own r (sym is ∙ ap (ready s rule now) (some_same job other at) ∙ q) in
          let e : own.number ≡ r.number = ap (λ (x : Ready). x.number) same in
          record { least = omega (arith, e); first = λ n. omega arith }
      by_place (suc k) other r at q = record { least = rest k other r at q; first = λ n. omega arith }

  by_cases : (r : Option Ready) → ready s rule now job ≡ r
      → (after : Option Choice) → ((d : Choice) → after ≡ Some d → Best s rule now (i + 1) jobs d)
      → (after ≡ None → NoneReady s rule now jobs)
      → (c : Choice) → lesser i job r after ≡ Some c → Best s rule now i (job ∷ jobs) c
  by_cases None is after best none c e = from_rest c (best c e) (λ r q. nothing r (sym is ∙ q))
  by_cases (Some own) is None best none c e =
      subst (Best s rule now i (job ∷ jobs)) (some_same _ c e)
      (from_head own is (λ k other r at q. nothing r (sym (none refl k other at) ∙ q)))
  by_cases (Some own) is (Some d) best none c e = by_order (nat_le own.number d.ready.number) refl e
    where
      by_order : (b : Bool) → nat_le own.number d.ready.number ≡ b
          → (if b then Some (record { index = i; job = job; ready = own }) else Some d) ≡ Some c
          → Best s rule now i (job ∷ jobs) c
      by_order true on q = subst (Best s rule now i (job ∷ jobs)) (some_same _ c q)
          (from_head own is (λ k other r at z.
          let most : own.number ≤ d.ready.number = leb-true own.number d.ready.number on in
          let least = ((best d refl).least k other r at z).least in
          omega (arith, most, least)))
      by_order false off q = subst (Best s rule now i (job ∷ jobs)) (some_same d c q)
          (from_rest d (best d refl) (λ r z.
          let less : d.ready.number < own.number = leb-false own.number d.ready.number off in
          let same : own.number ≡ r.number = ap (λ (x : Ready). x.number) (some_same own r (sym is ∙ z)) in
          record { least = omega (arith, less, same); first = λ n. absurd (omega (arith, less, same, n)) }))

pub best : (s : State) (rule : Rule) (now i : ℕ) (jobs : List Job) (c : Choice) → chosen s rule now i jobs ≡ Some c
    → Best s rule now i jobs c
best s rule now i [] c e = nothing c e
best s rule now i (job ∷ jobs) c e =
    by_cases s rule now i job jobs (ready s rule now job) refl (chosen s rule now (i + 1) jobs)
    (λ d is. best s rule now (i + 1) jobs d is) (none_ready s rule now (i + 1) jobs) c e

-- Among all tasks.
pub place_of : (s : State) (rule : Rule) (now : ℕ) (jobs : List Job) (c : Choice) → chosen s rule now 0 jobs ≡ Some c
    → slice_get jobs c.index ≡ Some c.job
place_of s rule now jobs c e =
    let b = best s rule now 0 jobs c e in
    let same : b.place ≡ c.index = let q = b.index in omega (arith, q) in
    subst (λ k. slice_get jobs k ≡ Some c.job) same b.here

pub first_of_all : (s : State) (rule : Rule) (now : ℕ) (jobs : List Job) (c : Choice) → chosen s rule now 0 jobs ≡ Some c
    → (k : ℕ) (other : Job) (r : Ready) → slice_get jobs k ≡ Some other → ready s rule now other ≡ Some r
    → ComesFirst c.ready.number c.index r.number k
first_of_all s rule now jobs c e k other r at is =
    let h = (best s rule now 0 jobs c e).least k other r at is in
    record { least = h.least; first = λ n. let q = h.first n in omega (arith, q) }

pub least_chosen : LeastChosen
least_chosen s rule now jobs = record {
  some = λ c e. record {
    job = c.job;
    own = c.ready;
    listed = place_of s rule now jobs c e;
    is_ready = (best s rule now 0 jobs c e).is_ready;
    least = first_of_all s rule now jobs c e;
  };
  none = none_ready s rule now 0 jobs;
}
