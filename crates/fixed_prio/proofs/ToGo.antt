-- What a schedule has still to do: it falls with each turn, so the schedule ends.
use Rattle.plain_kernel.specs.kernel_laws.proofs.{◌≡◌, ◌≢◌, inl, inr, ℕ, zero, suc, ◌+◌, ◌*◌, ◌-◌, ◌<◌, ◌≤◌, min, Bool, true, false, not}
use Rattle.plain_kernel.specs.kernel_laws.proofs.{◌&&◌, refl, sym, ◌∙◌, ap, subst, arith, leb as nat_le, ltb as nat_lt, if◌then◌else◌, List}
use Rattle.plain_kernel.specs.kernel_laws.proofs.{[], ◌∷◌, Option, Some, None, IfSome, set as slice_set, length-set, get_or, All, slice_get}
use Rattle.plain_kernel.specs.kernel_laws.proofs.{lt-ltb, le-ltb, ltb-true, leb-true, leb-false, false≢true, Call, Reply, State}
use Rattle.sched_rules.specs.{Progress, Step, job_after, has_come, is_renewed, renewal, next_of, begun, later, sooner, next_arrival, cut_at}
use Rattle.sched_rules.specs.{length_of, put_out, turn_of, PeriodFits, RuleFits}
use Rattle.std.proofs.lemmas.Option.{slice_get_within, get_or_from_slice_get, slice_get-get_or}
use Rattle.sched_rules.specs.{declared.tasks.Task.Task, declared.tasks.Rule.Rule, declared.tasks.Job.Job, declared.tasks.Choice.Choice}
use Rattle.sched_laws.proofs.{Picks.best, Arriving.due_tells, Readiness.ready_tells, Bound.length_most, Turns.Way, Turns.Runs}
use Rattle.sched_laws.proofs.{Turns.Refuses, Turns.Idles, Turns.Begins, Turns.Lacks, Turns.RunsOne, Turns.IdlesOn, Turns.BeginsOne}
use Rattle.fixed_prio.specs.Courses.{yet_from, yet, all_yet, ComesNext, Arrives, Fits}
use Rattle.{std.proofs.lemmas.Bool.cases_lt, std.proofs.lemmas.Bool.and_parts, sched_laws.proofs.place_of, sched_laws.proofs.come_at}
use Rattle.{std.proofs.lemmas.List.Elements.All-set, sched_rules.specs.declared.tasks.Renewal.Renewal, sched_laws.proofs.Turns.way}

-- Of a task: its work left, 1 while it is not out, 1 while it is still to come, 1 while its next job is; and for each tick up to the last
-- at which a job may arrive, more than the most work of a job and that 1.
abbrev pub in_count : Bool → ℕ
in_count true = 0
in_count false = 1

abbrev pub one_if : Bool → ℕ
one_if true = 1
one_if false = 0

abbrev pub waiting : ℕ → Job → ℕ
waiting now job = one_if (nat_lt now job.task.arrival && not job.out)

abbrev pub waits_next : ℕ → Bool → Option ℕ → ℕ
waits_next now out None = 0
waits_next now out (Some at) = one_if (nat_lt now at && not out)

abbrev pub to_come : Option ℕ → ℕ
to_come None = 0
to_come (Some at) = 10002 * (1000001 - at)

abbrev pub to_do : ℕ → Job → ℕ
to_do now job =
    job.left + (in_count job.out + (waiting now job + (waits_next now job.out job.next + to_come job.next)))

abbrev pub to_go : ℕ → List Job → ℕ
to_go now [] = 0
to_go now (job ∷ jobs) = to_do now job + to_go now jobs

same_job : (x y : Job) → Some x ≡ Some y → x ≡ y
same_job x y e = cc

-- Setting one task.
pub to_go_set : (now : ℕ) (jobs : List Job) (p : ℕ) (old new : Job) (d : ℕ) → slice_get jobs p ≡ Some old
    → to_do now new + d ≡ to_do now old → to_go now (slice_set jobs p new) + d ≡ to_go now jobs
to_go_set now [] zero old new d at e = absurd (cc)
to_go_set now [] (suc p) old new d at e = absurd (cc)
to_go_set now (job ∷ jobs) zero old new d at e =
    let same : to_do now job ≡ to_do now old = ap (to_do now) (same_job job old at) in
    let rest : ℕ = to_go now jobs in
    omega (arith, same, e)
to_go_set now (job ∷ jobs) (suc p) old new d at e =
    let rest = to_go_set now jobs p old new d at e in
    omega (arith, rest)

pub yet_set : (jobs : List Job) (p : ℕ) (old new : Job) (d : ℕ) → slice_get jobs p ≡ Some old → yet new + d ≡ yet old
    → all_yet (slice_set jobs p new) + d ≡ all_yet jobs
yet_set [] zero old new d at e = absurd (cc)
yet_set [] (suc p) old new d at e = absurd (cc)
yet_set (job ∷ jobs) zero old new d at e =
    let same : yet job ≡ yet old = ap yet (same_job job old at) in
    omega (arith, same, e)
yet_set (job ∷ jobs) (suc p) old new d at e =
    let rest = yet_set jobs p old new d at e in
    omega (arith, rest)

-- One of the tasks is in range.
pub arrives_at : (now : ℕ) (jobs : List Job) (p : ℕ) (job : Job) → slice_get jobs p ≡ Some job → All (Arrives now) jobs → Arrives now job
arrives_at now jobs p job at all =
    subst (Arrives now) (get_or_from_slice_get jobs p job job at) (all p job (slice_get_within jobs p job at))

-- A time is no later than an arrival, if one comes.
abbrev pub IsUpTo : ℕ → Option ℕ → Type 0
IsUpTo t None = Unit {0}
IsUpTo t (Some at) = t ≤ at

upto_sooner : (t : ℕ) (a b : Option ℕ) → IsUpTo t (sooner a b) → IsUpTo t a × IsUpTo t b
upto_sooner t None None h = (tt, tt)
upto_sooner t None (Some b) h = (tt, h)
upto_sooner t (Some a) None h = (h, tt)
upto_sooner t (Some a) (Some b) h = (omega (arith, h), omega (arith, h))

upto_each : (now t : ℕ) (jobs : List Job) → IsUpTo t (next_arrival now jobs)
    → (k : ℕ) (job : Job) → slice_get jobs k ≡ Some job → IsUpTo t (later now job)
upto_each now t [] h zero job at = absurd (cc)
upto_each now t [] h (suc k) job at = absurd (cc)
upto_each now t (job ∷ jobs) h zero other at =
    subst (λ (j : Job). IsUpTo t (later now j)) (same_job job other at) (upto_sooner t (later now job) (next_arrival now jobs) h).0
upto_each now t (job ∷ jobs) h (suc k) other at =
    upto_each now t jobs (upto_sooner t (later now job) (next_arrival now jobs) h).1 k other at

-- Up to then its next job is still to come.
on_time : (now t : ℕ) (job : Job) → now ≤ t → IsUpTo t (later now job) → Arrives now job → Arrives t job
on_time now t job le upto is = record {
  task = is.task;
  next = by_next job.next refl;
  used = (let used = is.used in omega (arith, used, le));
}
  where
    by_next : (o : Option ℕ) → job.next ≡ o → IfSome o (ComesNext t job)
    by_next None none = tt
    by_next (Some at) next = record {
      most = old.most;
      first = old.first;
      coming = λ in_. by_arrival in_ (nat_lt now job.task.arrival) refl;
    }
      where
        old : ComesNext now job at
        old = subst (λ o. IfSome o (ComesNext now job)) next is.next

        by_arrival : job.out ≡ false → (b : Bool) → nat_lt now job.task.arrival ≡ b → t ≤ at
        by_arrival in_ b told =
            let first = old.first in
            by_test b (subst (IsUpTo t) (
            ap (λ x. if x then None else (if nat_lt now job.task.arrival then Some job.task.arrival else job.next)) in_
            ∙ ap (λ x. if x then Some job.task.arrival else job.next) told
            ∙ ap (λ o. if b then Some job.task.arrival else o) next) upto)
          where
            by_test : (d : Bool) → IsUpTo t (if d then Some job.task.arrival else Some at) → t ≤ at
            by_test true h = let low = old.first in omega (arith, h, low)
            by_test false h = h

-- All tasks are, where one is set.
each_on : (now t : ℕ) (jobs : List Job) → now ≤ t → IsUpTo t (next_arrival now jobs) → All (Arrives now) jobs → All (Arrives t) jobs
each_on now t jobs le upto all k none below =
    let job : Job = get_or jobs k none in
    let at = slice_get-get_or jobs k none below in
    on_time now t job le (upto_each now t jobs upto k job at) (all k none below)

pub arrivals_set : (now : ℕ) (jobs : List Job) (p : ℕ) (new : Job) → Arrives now new → All (Arrives now) jobs
    → All (Arrives now) (slice_set jobs p new)
arrivals_set now jobs p new is all = All-set (Arrives now) jobs p new is all

-- As time goes on no more waits.
one_less : (now t at : ℕ) (out : Bool) → now ≤ t → one_if (nat_lt t at && not out) ≤ one_if (nat_lt now at && not out)
one_less now t at out le = elim (cases_lt t at) [
  | inl coming ↦
      let a : one_if (nat_lt t at && not out) ≡ one_if (nat_lt now at && not out) = ap (λ b. one_if (b && not out))
      (lt-ltb t at coming ∙ sym (lt-ltb now at (omega (arith, le, coming)))) in
      omega (arith, a)
  | inr past ↦
      let a : one_if (nat_lt t at && not out) ≡ 0 = ap (λ b. one_if (b && not out)) (le-ltb t at past) in
      omega (arith, a)
]

next_less : (now t : ℕ) (out : Bool) (o : Option ℕ) → now ≤ t → waits_next t out o ≤ waits_next now out o
next_less now t out None le = omega arith
next_less now t out (Some at) le = one_less now t at out le

waiting_less : (now t : ℕ) (job : Job) → now ≤ t
    → waiting t job + waits_next t job.out job.next ≤ waiting now job + waits_next now job.out job.next
waiting_less now t job le =
    let a = one_less now t job.task.arrival job.out le in
    let b = next_less now t job.out job.next le in
    omega (arith, a, b)

pub to_go_less : (now t : ℕ) (jobs : List Job) → now ≤ t → to_go t jobs ≤ to_go now jobs
to_go_less now t [] le = omega arith
to_go_less now t (job ∷ jobs) le =
    let a = waiting_less now t job le in
    let rest = to_go_less now t jobs le in
    omega (arith, a, rest)

-- The task of which a job arrives next.
pub record Attains (now at : ℕ) (jobs : List Job) : Type 0 where
  pub place : ℕ
  pub job : Job
  pub listed : slice_get jobs place ≡ Some job
  pub is : later now job ≡ Some at
  pub coming : now < at
  pub falls : waiting at job + waits_next at job.out job.next < waiting now job + waits_next now job.out job.next

-- No job of it has come.
not_come : (now at : ℕ) (job : Job) → is_renewed now job ≡ false → job.out ≡ false → job.next ≡ Some at → now < at
not_come now at job none in_ next =
    leb-false at now (sym (and_right (nat_le at now)) ∙ sym (ap (λ o. has_come now o && not job.out) next
    ∙ ap (λ b. nat_le at now && not b) in_) ∙ none)
  where
    and_right : (b : Bool) → (b && true) ≡ b
    and_right true = refl
    and_right false = refl

gone : (at : ℕ) (out : Bool) → one_if (nat_lt at at && not out) ≡ 0
gone at out = ap (λ b. one_if (b && not out)) (le-ltb at at (omega arith))

here_one : (now at : ℕ) (out : Bool) → now < at → out ≡ false → one_if (nat_lt now at && not out) ≡ 1
here_one now at out less in_ =
    ap (λ b. one_if (b && not out)) (lt-ltb now at less) ∙ ap (λ b. one_if (true && not b)) in_

later_tells : (now at : ℕ) (job : Job) → is_renewed now job ≡ false → later now job ≡ Some at
    → (now < at) × (waiting at job + waits_next at job.out job.next < waiting now job + waits_next now job.out job.next)
later_tells now at job none e = by_out job.out refl e
  where
    by_arrival : job.out ≡ false → (b : Bool) → nat_lt now job.task.arrival ≡ b
        → (if b then Some job.task.arrival else job.next) ≡ Some at
        → (now < at) × (waiting at job + waits_next at job.out job.next < waiting now job + waits_next now job.out job.next)
    by_arrival in_ true on h =
        let same : job.task.arrival ≡ at = cc in
        let less : now < at = subst (λ n. now < n) same (ltb-true now job.task.arrival on) in
        let after : waiting at job ≡ 0 = ap (λ n. one_if (nat_lt at n && not job.out)) same ∙ gone at job.out in
        let before : waiting now job ≡ 1 = ap (λ n. one_if (nat_lt now n && not job.out)) same ∙ here_one now at job.out less in_ in
        let rest = next_less now at job.out job.next (omega (arith, less)) in
        (less, omega (arith, after, before, rest))
    by_arrival in_ false off h =
        let less = not_come now at job none in_ h in
        let after : waits_next at job.out job.next ≡ 0 = ap (waits_next at job.out) h ∙ gone at job.out in
        let before : waits_next now job.out job.next ≡ 1 = ap (waits_next now job.out) h ∙ here_one now at job.out less in_ in
        let rest = one_less now at job.task.arrival job.out (omega (arith, less)) in
        (less, omega (arith, after, before, rest))

    by_out : (b : Bool) → job.out ≡ b
        → (if b then None else (if nat_lt now job.task.arrival then Some job.task.arrival else job.next)) ≡ Some at
        → (now < at) × (waiting at job + waits_next at job.out job.next < waiting now job + waits_next now job.out job.next)
    by_out true out h = absurd (cc)
    by_out false in_ h = by_arrival in_ (nat_lt now job.task.arrival) refl h

-- Where none has come none has of each.
none_each : (now i : ℕ) (jobs : List Job) → renewal now i jobs ≡ None → (k : ℕ) (job : Job) → slice_get jobs k ≡ Some job
    → is_renewed now job ≡ false
none_each now i [] none zero job at = absurd (cc)
none_each now i [] none (suc k) job at = absurd (cc)
none_each now i (job ∷ jobs) none k other at =
    by_test (λ h j there. none_each now (i + 1) jobs h j other there) (is_renewed now job) refl none k at
  where
    by_test : (renewal now (i + 1) jobs ≡ None → (j : ℕ) → slice_get jobs j ≡ Some other → is_renewed now other ≡ false)
        → (b : Bool) → is_renewed now job ≡ b
        → (if b then Some (record { index = i; job = job }) else renewal now (i + 1) jobs) ≡ None
        → (k : ℕ) → slice_get (job ∷ jobs) k ≡ Some other → is_renewed now other ≡ false
    by_test again true on h k at = absurd (cc)
    by_test again false off h zero at = ap (is_renewed now) (sym (same_job job other at)) ∙ off
    by_test again false off h (suc k) at = again h k at

pub attains : (now at : ℕ) (jobs : List Job) → ((k : ℕ) (job : Job) → slice_get jobs k ≡ Some job → is_renewed now job ≡ false)
    → next_arrival now jobs ≡ Some at → Attains now at jobs
attains now at [] none e = absurd (cc)
attains now at (job ∷ jobs) none e =
    by_both (λ b is. attains now b jobs (λ k other here. none (suc k) other here) is) (later now job) refl (next_arrival now jobs) refl e
  where
    head : later now job ≡ Some at → Attains now at (job ∷ jobs)
    head h =
        let t = later_tells now at job (none zero job refl) h in
        record { place = zero; job = job; listed = refl; is = h; coming = t.0; falls = t.1 }

    rest : Attains now at jobs → Attains now at (job ∷ jobs)
    rest h = record { place = suc h.place; job = h.job; listed = h.listed; is = h.is; coming = h.coming; falls = h.falls }

    by_both : ((b : ℕ) → next_arrival now jobs ≡ Some b → Attains now b jobs)
        → (a : Option ℕ) → later now job ≡ a → (b : Option ℕ) → next_arrival now jobs ≡ b → sooner a b ≡ Some at
        → Attains now at (job ∷ jobs)
    by_both again None is b bis e = rest (again at (bis ∙ e))
    by_both again (Some x) is None bis e = head (is ∙ e)
    by_both again (Some x) is (Some y) bis e =
        let least : min x y ≡ at = cc in
        elim (cases_lt y x) [
          | inl less ↦ rest (again at (bis ∙ ap Some (let q : y ≡ at = omega (arith, less, least) in q)))
          | inr le ↦ head (is ∙ ap Some (let q : x ≡ at = omega (arith, le, least) in q))
        ]

pub to_go_idle : (now at : ℕ) (jobs : List Job) → Attains now at jobs → to_go at jobs < to_go now jobs
to_go_idle now at jobs a = strict jobs a.place a.job a.listed a.falls (let c = a.coming in omega (arith, c))
  where
    strict : (l : List Job) (p : ℕ) (job : Job) → slice_get l p ≡ Some job
        → waiting at job + waits_next at job.out job.next < waiting now job + waits_next now job.out job.next → now ≤ at
        → to_go at l < to_go now l
    strict [] zero job s falls le = absurd (cc)
    strict [] (suc p) job s falls le = absurd (cc)
    strict (x ∷ l) zero job s falls le =
        let same : x ≡ job = same_job x job s in
        let here = subst (λ (j : Job). waiting at j + waits_next at j.out j.next < waiting now j + waits_next now j.out j.next) (sym same)
        falls in
        let rest = to_go_less now at l le in
        omega (arith, here, rest)
    strict (x ∷ l) (suc p) job s falls le =
        let a = waiting_less now at x le in
        let rest = strict l p job s falls le in
        omega (arith, a, rest)

-- A turn of the chosen task is at least a tick long.
length_least : (rule : Rule) (x : Progress) (c : Choice) → RuleFits rule → 0 < c.job.left → 0 < c.ready.budget
    → renewal x.time 0 x.jobs ≡ None → 0 < length_of rule x c
length_least rule x c fits work budget none = by_arrival (next_arrival x.time x.jobs) refl
  where
    by_arrival : (a : Option ℕ) → next_arrival x.time x.jobs ≡ a
        → 0 < cut_at a x.time (min rule.quantum (min c.job.left c.ready.budget))
    by_arrival None is = let q = fits.least in omega (arith, q, work, budget)
    by_arrival (Some at) is =
        let q = fits.least in
        let later = (attains x.time at x.jobs (none_each x.time 0 x.jobs none) is).coming in
        omega (arith, q, work, budget, later)

-- A cut stretch ends by the next arrival, of which no job has come.
cut_upto : (now n : ℕ) (jobs : List Job) → renewal now 0 jobs ≡ None
    → IsUpTo (now + cut_at (next_arrival now jobs) now n) (next_arrival now jobs)
cut_upto now n jobs none = by_arrival (next_arrival now jobs) refl
  where
    by_arrival : (a : Option ℕ) → next_arrival now jobs ≡ a → IsUpTo (now + cut_at a now n) a
    by_arrival None is = tt
    by_arrival (Some at) is =
        let coming = (attains now at jobs (none_each now 0 jobs none) is).coming in
        omega (arith, coming)

fewer : (out : Bool) → out ≡ false → in_count out ≡ 1
fewer out e = ap in_count e

-- Each turn leaves less to do, and keeps times in range.
pub record GoesOn (x : Progress) (step : Step) : Type 0 where
  pub less : to_go step.next.time step.next.jobs < to_go x.time x.jobs
  pub fits : Fits step.next.time step.next.jobs

-- The lists in range, where one task is set, of which no more is to run yet.
set_fits : (time : ℕ) (jobs : List Job) (p : ℕ) (old new : Job) → Fits time jobs → slice_get jobs p ≡ Some old → yet new ≤ yet old
    → Arrives time new → Fits time (slice_set jobs p new)
set_fits time jobs p old new fits at less is =
    let d : ℕ = yet old - yet new in
    let w = yet_set jobs p old new d at (omega (arith, less)) in
    let a = fits.work in
    let b = fits.time in
    let few = fits.few in
    let n = length-set jobs p new in
    record {
      few = omega (arith, few, n);
      arrivals = arrivals_set time jobs p new is fits.arrivals;
      work = omega (arith, w, a);
      time = omega (arith, w, b);
    }

-- What is known of the next job does not depend on what a task has left, or has run.
same_next : (now : ℕ) (old new : Job) → new.task ≡ old.task → new.out ≡ old.out → new.next ≡ old.next → IfSome old.next (ComesNext now old)
    → IfSome new.next (ComesNext now new)
same_next now old new task out next is = subst (λ o. IfSome o (ComesNext now new)) (sym next) (by old.next is)
  where
    by : (o : Option ℕ) → IfSome o (ComesNext now old) → IfSome o (ComesNext now new)
    by None h = tt
    by (Some at) h = record {
      most = h.most;
      first = subst (λ (t : Task). t.arrival ≤ at) (sym task) h.first;
      coming = λ in_. h.coming (sym out ∙ in_);
    }

-- It is in range of a task that is out.
out_comes : (now : ℕ) (old new : Job) → new.task ≡ old.task → new.out ≡ true → new.next ≡ old.next → IfSome old.next (ComesNext now old)
    → IfSome new.next (ComesNext now new)
out_comes now old new task out next is = subst (λ o. IfSome o (ComesNext now new)) (sym next) (by old.next is)
  where
    by : (o : Option ℕ) → IfSome o (ComesNext now old) → IfSome o (ComesNext now new)
    by None h = tt
    by (Some at) h = record {
      most = h.most;
      first = subst (λ (t : Task). t.arrival ≤ at) (sym task) h.first;
      coming = λ in_. absurd (false≢true (sym in_ ∙ out));
    }

-- The task of which a job has come is one of which it has.
pub come_is : (now i : ℕ) (jobs : List Job) (r : Renewal) → renewal now i jobs ≡ Some r → is_renewed now r.job ≡ true
come_is now i [] r is = absurd (cc)
come_is now i (job ∷ jobs) r is = by_test (λ h. come_is now (i + 1) jobs r h) (is_renewed now job) refl is
  where
    by_test : (renewal now (i + 1) jobs ≡ Some r → is_renewed now r.job ≡ true) → (b : Bool) → is_renewed now job ≡ b
        → (if b then Some (record { index = i; job = job }) else renewal now (i + 1) jobs) ≡ Some r → is_renewed now r.job ≡ true
    by_test again true on h =
        let same : record { index = i; job = job } ≡ r = cc in
        ap (λ (x : Renewal). is_renewed now x.job) (sym same) ∙ on
    by_test again false off h = again h

renewed_in : (now : ℕ) (job : Job) → is_renewed now job ≡ true → job.out ≡ false
renewed_in now job on = by_out job.out (and_parts (has_come now job.next) (not job.out) on).1
  where
    by_out : (b : Bool) → not b ≡ true → b ≡ false
    by_out false h = refl
    by_out true h = absurd (false≢true h)

-- One task has left no more than all have to run yet.
pub left_most : (jobs : List Job) (p : ℕ) (job : Job) → slice_get jobs p ≡ Some job → job.left ≤ all_yet jobs
left_most [] zero job at = absurd (cc)
left_most [] (suc p) job at = absurd (cc)
left_most (x ∷ jobs) zero job at =
    let same : x.left ≡ job.left = ap (λ (j : Job). j.left) (same_job x job at) in
    omega (arith, same)
left_most (x ∷ jobs) (suc p) job at = let rest = left_most jobs p job at in omega (arith, rest)

-- A job that has come came just now.
pub on_time_now : (now : ℕ) (job : Job) → Arrives now job → is_renewed now job ≡ true → now ≤ 1000000
on_time_now now job is on = by_next job.next is.next (and_parts (has_come now job.next) (not job.out) on).0
  where
    by_next : (o : Option ℕ) → IfSome o (ComesNext now job) → has_come now o ≡ true → now ≤ 1000000
    by_next None h come = absurd (false≢true come)
    by_next (Some at) h come =
        let most = h.most in
        let coming = h.coming (renewed_in now job on) in
        omega (arith, most, coming)

-- The next job of a task arrives in range.
pub next_most : (now : ℕ) (job : Job) → Arrives now job → IfSome job.next (λ at. at ≤ 1000000)
next_most now job is = by_next job.next is.next
  where
    by_next : (o : Option ℕ) → IfSome o (ComesNext now job) → IfSome o (λ at. at ≤ 1000000)
    by_next None h = tt
    by_next (Some at) h = h.most

-- A job arrives in range.
arrives_by : (now at : ℕ) (job : Job) → Arrives now job → later now job ≡ Some at → at ≤ 1000000
arrives_by now at job is e = by_out job.out e
  where
    by_next : (o : Option ℕ) → IfSome o (ComesNext now job) → o ≡ Some at → at ≤ 1000000
    by_next None h e = absurd (cc)
    by_next (Some n) h e = let same : n ≡ at = cc in subst (λ m. m ≤ 1000000) same h.most

    by_arrival : (b : Bool) → (if b then Some job.task.arrival else job.next) ≡ Some at → at ≤ 1000000
    by_arrival true e = let same : job.task.arrival ≡ at = cc in subst (λ m. m ≤ 1000000) same is.task.arrival
    by_arrival false e = by_next job.next is.next e

    by_out : (b : Bool) → (if b then None else (if nat_lt now job.task.arrival then Some job.task.arrival else job.next)) ≡ Some at
        → at ≤ 1000000
    by_out true e = absurd (cc)
    by_out false e = by_arrival (nat_lt now job.task.arrival) e

-- As a further job of a task begins, less is to be done, and no more to run yet.
record Begun (now : ℕ) (job new : Job) : Type 0 where
  less : to_do now new < to_do now job
  yets : yet new ≤ yet job
  arrives : Arrives now new

abbrev JobBegins : ℕ → Job → Type 0
JobBegins now job = Begun now job (begun job)

job_begins : (now : ℕ) (job : Job) → Arrives now job → is_renewed now job ≡ true → JobBegins now job
job_begins now job is on = by_next job.next refl
  where
    in_ : job.out ≡ false
    in_ = renewed_in now job on

    come : has_come now job.next ≡ true
    come = (and_parts (has_come now job.next) (not job.out) on).0

    most : job.task.work ≤ 10000
    most = is.task.most

    begun_is : (o : Option ℕ) → next_of job.next job.task.period ≡ o
        → begun job ≡ record job { left = job.left + job.task.work; next = o; used = 0 }
    begun_is o is = ap (λ (n : Option ℕ). record job { left = job.left + job.task.work; next = n; used = 0 }) is

    by_next : (o : Option ℕ) → job.next ≡ o → JobBegins now job
    by_next None next = absurd (false≢true (sym (ap (has_come now) next) ∙ come))
    by_next (Some at) next = by_period job.task.period refl
      where
        old : ComesNext now job at
        old = subst (λ o. IfSome o (ComesNext now job)) next is.next

        upto : at ≤ now
        upto = leb-true at now (sym (ap (has_come now) next) ∙ come)

        was_next : waits_next now job.out job.next ≡ 0
        was_next = ap (waits_next now job.out) next ∙ ap (λ b. one_if (b && not job.out)) (le-ltb now at upto)

        was_come : to_come job.next ≡ 10002 * (1000001 - at)
        was_come = ap to_come next

        was_yet : yet_from job.next ≡ 10000 * (1000001 - at)
        was_yet = ap yet_from next

        last : begun job ≡ record job { left = job.left + job.task.work; next = None; used = 0 } → JobBegins now job
        last same =
            let low = old.most in
            let work = most in
            subst (λ (j : Job). Begun now job j) (sym same) (record {
              less = omega (arith, low, work, was_next, was_come);
              yets = omega (arith, low, work, was_yet);
              arrives = record { task = is.task; next = tt; used = omega arith };
            })

        more : (p : ℕ) → 1 ≤ p → at + p ≤ 1000000
            → begun job ≡ record job { left = job.left + job.task.work; next = Some (at + p); used = 0 } → JobBegins now job
        more p some fits same =
            let low = old.most in
            let work = most in
            let first = old.first in
            let coming = old.coming in_ in
            let few = one_most (nat_lt now (at + p) && not job.out) in
            subst (λ (j : Job). Begun now job j) (sym same) (record {
              less = omega (arith, low, work, was_next, was_come, few, some, fits);
              yets = omega (arith, low, work, was_yet, some, fits);
              arrives = record {
                task = is.task;
                next = record { most = fits; first = omega (arith, first); coming = λ h. omega (arith, coming, upto) };
                used = omega arith;
              };
            })
          where
            one_most : (b : Bool) → one_if b ≤ 1
            one_most true = omega arith
            one_most false = omega arith

        by_period : (o : Option ℕ) → job.task.period ≡ o → JobBegins now job
        by_period None period = last (begun_is None (ap (λ n. next_of n job.task.period) next ∙ ap (job_after at) period))
        by_period (Some p) period = by_last (nat_le (at + p) 1000000) refl
          where
            by_last : (b : Bool) → nat_le (at + p) 1000000 ≡ b → JobBegins now job
            by_last true on = more p (subst (λ o. IfSome o PeriodFits) period is.task.period).0 (leb-true (at + p) 1000000 on)
                (begun_is (Some (at + p)) (ap (λ n. next_of n job.task.period) next ∙ ap (job_after at) period
                ∙ ap (λ b. if b then Some (at + p) else None) on))
            by_last false off = last (begun_is None (ap (λ n. next_of n job.task.period) next ∙ ap (job_after at) period
                ∙ ap (λ b. if b then Some (at + p) else None) off))

run_on : (rule : Rule) (x : Progress) (step : Step) → RuleFits rule → Fits x.time x.jobs → RunsOne rule x step → GoesOn x step
run_on rule x step fits_rule fits w =
    let c : Choice = w.choice in
    let u : ℕ = length_of rule x c in
    let here : slice_get x.jobs c.index ≡ Some c.job = place_of x.state rule x.time x.jobs c w.is_chosen in
    let tells = ready_tells x.state rule x.time c.job c.ready (best x.state rule x.time 0 x.jobs c w.is_chosen).is_ready in
    let due = due_tells x.time c.job tells.due in
    let some : 0 < u = length_least rule x c fits_rule due.1 tells.some w.no_job in
    let small : u ≤ c.job.left = length_most rule x c in
    let new : Job = record (c.job) { left = c.job.left - u; used = c.job.used + u } in
    let falls = to_go_set x.time x.jobs c.index c.job new u here (omega (arith, small)) in
    let later = to_go_less x.time (x.time + u) (slice_set x.jobs c.index new) (omega arith) in
    let yets = yet_set x.jobs c.index c.job new u here (omega (arith, small)) in
    let upto = cut_upto x.time (min rule.quantum (min c.job.left c.ready.budget)) x.jobs w.no_job in
    let on = each_on x.time (x.time + u) x.jobs (omega arith) upto fits.arrivals in
    let mine = arrives_at (x.time + u) x.jobs c.index c.job here on in
    let used = (arrives_at x.time x.jobs c.index c.job here fits.arrivals).used in
    let a = fits.work in
    let b = fits.time in
    let few = fits.few in
    let n = length-set x.jobs c.index new in
    subst (GoesOn x) w.is_step (record {
      less = omega (arith, falls, later, some);
      fits = record {
        few = omega (arith, few, n);
        arrivals = arrivals_set (x.time + u) x.jobs c.index new
            (record { task = mine.task; next = same_next (x.time + u) c.job new refl refl refl mine.next; used = omega (arith, used) }) on;
        work = omega (arith, yets, a);
        time = omega (arith, yets, b);
      };
    })

-- The task at a place is out.
out_on : (x : Progress) (step : Step) (p : ℕ) (job : Job) (s : State) (calls : List Call) (r : Reply) → Fits x.time x.jobs
    → slice_get x.jobs p ≡ Some job → job.out ≡ false → put_out x p job s calls r ≡ step → GoesOn x step
out_on x step p job s calls r fits here in_ is_step =
    let new : Job = record job { out = true } in
    let a : waiting x.time new ≡ 0 = none (nat_lt x.time job.task.arrival) in
    let b = out_next x.time job.next in
    let one = fewer job.out in_ in
    let d : ℕ = to_do x.time job - to_do x.time new in
    let falls = to_go_set x.time x.jobs p job new d here (omega (arith, a, b, one)) in
    let mine = arrives_at x.time x.jobs p job here fits.arrivals in
    subst (GoesOn x) is_step (record {
      less = omega (arith, falls, a, b, one);
      fits = set_fits x.time x.jobs p job new fits here (omega arith)
          (record { task = mine.task; next = out_comes x.time job new refl refl refl mine.next; used = mine.used });
    })
  where
    none : (b : Bool) → one_if (b && false) ≡ 0
    none true = refl
    none false = refl

    out_next : (now : ℕ) (o : Option ℕ) → waits_next now true o ≡ 0
    out_next now None = refl
    out_next now (Some at) = none (nat_lt now at)

begin_on : (rule : Rule) (x : Progress) (step : Step) → Fits x.time x.jobs → BeginsOne rule x step → GoesOn x step
begin_on rule x step fits w =
    let r : Renewal = w.come in
    let here : slice_get x.jobs r.index ≡ Some r.job = come_at x.time x.jobs r w.has_come in
    let is = arrives_at x.time x.jobs r.index r.job here fits.arrivals in
    let begins = job_begins x.time r.job is (come_is x.time 0 x.jobs r w.has_come) in
    let d : ℕ = to_do x.time r.job - to_do x.time (begun r.job) in
    let less = begins.less in
    let falls = to_go_set x.time x.jobs r.index r.job (begun r.job) d here (omega (arith, less)) in
    subst (GoesOn x) w.is_step (record {
      less = omega (arith, falls, less);
      fits = set_fits x.time x.jobs r.index r.job (begun r.job) fits here begins.yets begins.arrives;
    })

idle_on : (rule : Rule) (x : Progress) (step : Step) → Fits x.time x.jobs → IdlesOn rule x step → GoesOn x step
idle_on rule x step fits w =
    let a = attains x.time w.at x.jobs (none_each x.time 0 x.jobs w.no_job) w.next in
    let coming = a.coming in
    let upto : IsUpTo w.at (next_arrival x.time x.jobs) = subst (IsUpTo w.at) (sym w.next) (omega arith) in
    subst (GoesOn x) w.is_step (record {
      less = to_go_idle x.time w.at x.jobs a;
      fits = record {
        few = fits.few;
        arrivals = each_on x.time w.at x.jobs (omega (arith, coming)) upto fits.arrivals;
        work = fits.work;
        time =
            (let most = arrives_by x.time w.at a.job (arrives_at x.time x.jobs a.place a.job a.listed fits.arrivals) a.is in
            let work = fits.work in
            omega (arith, most, work));
      };
    })

pub goes_on : (rule : Rule) (x : Progress) (step : Step) → RuleFits rule → Fits x.time x.jobs → turn_of rule x ≡ Some step → GoesOn x step
goes_on rule x step fits_rule fits e = by_way (way rule x step e)
  where
    by_way : Way rule x step → GoesOn x step
    by_way (Runs w) = run_on rule x step fits_rule fits w
    by_way (Refuses w) =
        let c : Choice = w.choice in
        let tells = ready_tells x.state rule x.time c.job c.ready (best x.state rule x.time 0 x.jobs c w.is_chosen).is_ready in
        out_on x step c.index c.job w.state w.calls w.reply fits (place_of x.state rule x.time x.jobs c w.is_chosen)
        (due_tells x.time c.job tells.due).2 w.is_step
    by_way (Idles w) = idle_on rule x step fits w
    by_way (Begins w) = begin_on rule x step fits w
    by_way (Lacks w) =
        out_on x step w.come.index w.come.job w.state w.calls w.reply fits (come_at x.time x.jobs w.come w.has_come)
        (renewed_in x.time w.come.job (come_is x.time 0 x.jobs w.come w.has_come)) w.is_step
