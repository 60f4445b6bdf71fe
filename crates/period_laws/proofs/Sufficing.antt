-- Budgets of their own are enough for tasks that have a bound.
use Rattle.sched_laws.proofs.Common.{◌≡◌, ◌≢◌, ℕ, ◌+◌, ◌*◌, ◌≤◌, Bool, true, false, refl, sym, ◌∙◌, ap, subst, arith, List, [], ◌∷◌, Some}
use Rattle.sched_laws.proofs.Common.{IsSome, slice_get, eq-eqb, true≢false, number_of, Reply, State, tcap_at, Task, Rule, Job, Renewal}
use Rattle.sched_laws.proofs.Common.{Refused, Progress, Step, renewal, turn_of, at_first, IsSchedule, ran_in, come_in}
use Rattle.std.specs.Prelude.{◌||◌}
use Rattle.std.proofs.lemmas.Bool.{or_parts}
use Rattle.sched_laws.specs.sched_rules.specs.{declared.turns.Turn.Turn, TaskFits}
use Rattle.sched_laws.specs.{Throughout, HasNumbers, IsSupplied, is_not_after}
use Rattle.sched_laws.proofs.{Arriving.due_tells, Weights.first_not_after}
use Rattle.period_laws.specs.Budgets.{IsOwn, LacksUsed, IsBound, OwnBudgetsSuffice}
use Rattle.period_laws.specs.Arrivals.{refuses}
use Rattle.period_laws.proofs.{Jobs.Follows, Jobs.follows_on, Jobs.follows_first, Jobs.begins_at, Jobs.none_left, Jobs.the_job}
use Rattle.period_laws.proofs.{Jobs.times_next, Above.not_after_tells, Pausing.Kept, Pausing.kept_on, Pausing.kept_first, Loads.Load}
use Rattle.period_laws.proofs.{Loads.loaded_on, Periodic.load_first, Periodic.each_fits, Periodic.periodic_bound, OnTime.Expects}
use Rattle.period_laws.proofs.{OnTime.expects_on, OnTime.expects_first, OnTime.comes_by, OnTime.comes_now, OnTime.is_of, Lists.turn_keeps}
use Rattle.period_laws.proofs.{Returning.own_budget_returns, Returning.first_of_all, Supplying.IsOneJob, Supplying.FindsNone}
use Rattle.period_laws.proofs.{Supplying.one_job_on, Supplying.first_job, Supplying.has_list, Supplying.supplied}

-- What is not after a task that is not after another is not after that one.
not_after_both : (numbers : ℕ → ℕ) (i k q : ℕ) → is_not_after numbers i k ≡ true → is_not_after numbers k q ≡ true
    → is_not_after numbers i q ≡ true
not_after_both numbers i k q first then =
    let a = not_after_tells numbers i k first in
    let b = not_after_tells numbers k q then in
    let least = a.least in
    let less = b.least in
    first_not_after numbers i q (numbers q) (numbers i) refl refl (record {
      least = omega (arith, least, less);
      first = λ e.
          let p = a.first (omega (arith, least, less, e)) in
          let r = b.first (omega (arith, least, less, e)) in
          omega (arith, p, r);
    })

-- A turn that does not refuse a task.
never_refuses : (turn : Turn) (j : ℕ) → refuses j turn ≡ false → (at : ℕ) (r : Reply) → turn ≢ Refused at j r
never_refuses turn j off at r is = true≢false (sym (ap (refuses j) is ∙ eq-eqb j j refl) ∙ off)

module _ (rule : Rule) (numbers : ℕ → ℕ) (s : State) (tasks : List Task) (fits : (q : ℕ) (other : Task) → slice_get tasks q ≡ Some other
    → TaskFits other) (i : ℕ) where
  -- What a task needs from here on: its own temporal capability lacks what it has run, names the scheduler, and had enough at first; and
  -- its bound.
  record Needs (k : ℕ) (other : Task) (x : Progress) (steps : List Step) : Type 0 where
    frame : ℕ
    own : Throughout (IsOwn tasks k frame) x steps
    lacks : Throughout (LacksUsed k frame (tcap_at s frame).budget) x steps
    budget : other.work ≤ (tcap_at s frame).budget
    named : IsSome (number_of (tcap_at x.state frame).qualities rule.sched)
    ticks : ℕ
    bound : (period : ℕ) → other.period ≡ Some period → IsBound numbers tasks k other period ticks

  needs_on : (k : ℕ) (other : Task) (x : Progress) (step : Step) (steps : List Step) → turn_of rule x ≡ Some step
      → Needs k other x (step ∷ steps) → Needs k other step.next steps
  needs_on k other x step steps e needs = record {
    frame = needs.frame;
    own = needs.own.1;
    lacks = needs.lacks.1;
    budget = needs.budget;
    named = subst (λ l. IsSome (number_of l rule.sched)) (sym ((turn_keeps rule x step e).like needs.frame).list) needs.named;
    ticks = needs.ticks;
    bound = needs.bound;
  }

  -- Its jobs are done within its bound.
  record Paced (k : ℕ) (other : Task) (ticks period : ℕ) (x : Progress) : Type 0 where
    come : ℕ
    done : ℕ
    follows : Follows k other period x come done
    load : Load rule numbers k other period ticks tasks x (other.arrival + come * period) follows.job.left

  -- Of a task that is not out.
  record Goes (k : ℕ) (other : Task) (ticks : ℕ) (x : Progress) : Type 0 where
    one : IsOneJob k x
    paced : (period : ℕ) → other.period ≡ Some period → Paced k other ticks period x

  record Stands (k : ℕ) (other : Task) (ticks : ℕ) (x : Progress) : Type 0 where
    come : ℕ
    out : Bool
    expects : Expects k other x come out
    goes : out ≡ false → Goes k other ticks x

  module _ (x : Progress) (kept : Kept tasks x) (numbered : HasNumbers rule numbers x) where
    -- A task that is due has time.
    has_time : (k : ℕ) (other : Task) (steps : List Step) → slice_get tasks k ≡ Some other → (needs : Needs k other x steps)
        → Stands k other needs.ticks x → IsSupplied rule k x
    has_time k other steps at needs stands job there due =
        let h = stands.expects in
        let mine : h.job ≡ job = the_job h.job job (sym h.listed ∙ there) in
        let inside : stands.out ≡ false = sym h.is_out ∙ ap (λ (j : Job). j.out) mine ∙ (due_tells x.time job due).2 in
        supplied rule tasks k needs.frame (tcap_at s needs.frame).budget other at needs.budget x kept
        (first_of_all (IsOwn tasks k needs.frame) x steps needs.own)
        (first_of_all (LacksUsed k needs.frame (tcap_at s needs.frame).budget) x steps needs.lacks)
        (stands.goes inside).one needs.named job there due

    -- A job that arrives finds nothing left.
    paced_none : (k : ℕ) (other : Task) (ticks period : ℕ) → ticks ≤ period → (p : Paced k other ticks period x)
        → (r : Renewal) → renewal x.time 0 x.jobs ≡ Some r → r.index ≡ k → p.follows.job.left ≡ 0
    paced_none k other ticks period short p r come same = none_left p.follows.job.left (λ some.
        let now = begins_at k other period x p.come p.done r come same p.follows in
        let more = times_next p.come period in
        let b = p.load.busy some in
        let first = b.0 in
        let end = b.1 in
        omega (arith, first, end, some, now, more, short))

    same_left : (k : ℕ) (other : Task) (period come done : ℕ) (h : Follows k other period x come done) (job : Job)
        → slice_get x.jobs k ≡ Some job → h.job.left ≡ 0 → job.left ≡ 0
    same_left k other period come done h job there none =
        subst (λ (j : Job). j.left ≡ 0) (the_job h.job job (sym h.listed ∙ there)) none

    finds_none : (k : ℕ) (other : Task) (ticks : ℕ)
        → ((period : ℕ) → other.period ≡ Some period → IsBound numbers tasks k other period ticks) → (come : ℕ) (out : Bool)
        → Expects k other x come out → Goes k other ticks x → (step : Step) → turn_of rule x ≡ Some step → FindsNone k x step
    finds_none k other ticks bound come out expects goes step e at given job is there =
        let c = comes_by rule x step e at (k + 1) given is in
        let place = c.place in
        let same : c.begins.come.index ≡ k = omega (arith, place) in
        let due = (comes_now k other x come out c.begins.come c.begins.has_come same expects).0 in
        let p = goes.paced due.period due.own in
        same_left k other due.period p.come p.done p.follows job there
        (paced_none k other ticks due.period (bound due.period due.own).short p c.begins.come c.begins.has_come same)

    module _ (supply : (q : ℕ) → is_not_after numbers i q ≡ true → IsSupplied rule q x) (step : Step) (e : turn_of rule x ≡ Some step) where
      stands_on : (k : ℕ) (other : Task) (ticks : ℕ) → is_not_after numbers i k ≡ true → slice_get tasks k ≡ Some other
          → ((period : ℕ) → other.period ≡ Some period → IsBound numbers tasks k other period ticks) → Stands k other ticks x
          → Stands k other ticks step.next
      stands_on k other ticks first at bound stands = record {
        come = stands.come + come_in (k + 1) step.turn;
        out = stands.out || refuses (k + 1) step.turn;
        expects = expects_on k other rule x step stands.come stands.out e stands.expects;
        goes = λ inside.
            let parts = or_parts stands.out (refuses (k + 1) step.turn) inside in
            let now = stands.goes parts.0 in
            record {
              one = one_job_on rule k x step e (finds_none k other ticks bound stands.come stands.out stands.expects now step e) now.one;
              paced = λ period own.
                  let p = now.paced period own in
                  let b = bound period own in
                  let on = follows_on k other period rule own x step p.come p.done e p.follows
                  (never_refuses step.turn (k + 1) parts.1) in
                  record {
                    come = p.come + come_in (k + 1) step.turn;
                    done = p.done + ran_in (k + 1) step.turn;
                    follows = on;
                    load = loaded_on rule numbers k other period ticks tasks b.enough own b.short (fits k other at).least fits
                        x p.come p.done p.follows kept p.load numbered
                        (λ q then. supply q (not_after_both numbers i k q first then)) step e on;
                  };
            };
      }

  -- The tasks that are not after the task at place i.
  abbrev AllNeed : Progress → List Step → Type 0
  AllNeed x steps = (k : ℕ) (other : Task) → is_not_after numbers i k ≡ true → slice_get tasks k ≡ Some other → Needs k other x steps

  abbrev AllStand : (x : Progress) (steps : List Step) → AllNeed x steps → Type 0
  AllStand x steps need = (k : ℕ) (other : Task) (first : is_not_after numbers i k ≡ true) (at : slice_get tasks k ≡ Some other)
      → Stands k other (need k other first at).ticks x

  all_supplied : (x : Progress) (steps : List Step) → IsSchedule rule x steps → Kept tasks x → Throughout (HasNumbers rule numbers) x steps
      → (need : AllNeed x steps) → AllStand x steps need
      → (q : ℕ) → is_not_after numbers i q ≡ true → Throughout (IsSupplied rule q) x steps
  unfolding needs_on
  all_supplied x [] is kept numbered need stand q first = λ job there due.
      let at : slice_get tasks q ≡ Some job.task = is_of tasks x kept q job there in
      has_time x kept numbered q job.task [] at (need q job.task first at) (stand q job.task first at) job there due
  all_supplied x (step ∷ steps) is kept numbered need stand q first =
      let supply : (k : ℕ) → is_not_after numbers i k ≡ true → IsSupplied rule k x = λ k not_after job there due.
      let at : slice_get tasks k ≡ Some job.task = is_of tasks x kept k job there in
      has_time x kept numbered.0 k job.task (step ∷ steps) at (need k job.task not_after at) (stand k job.task not_after at)
      job there due in (
        supply q first,
        all_supplied step.next steps is.1 (kept_on tasks rule x step is.0 kept) numbered.1
            (λ k other not_after at. needs_on k other x step steps is.0 (need k other not_after at))
            (λ k other not_after at. stands_on x kept numbered.0 supply step is.0 k other (need k other not_after at).ticks not_after at
            (need k other not_after at).bound (stand k other not_after at)) q first,
      )

pub own_budgets_suffice : OwnBudgetsSuffice
own_budgets_suffice rule s tasks steps all is owes numbers numbered i enough never task at period own ticks bound k le =
    periodic_bound rule s tasks steps all is numbers numbered i task at period own ticks bound.short bound.enough
    (all_supplied rule numbers s tasks fits i (at_first s tasks) steps is (kept_first s tasks) numbered need stand) never k le
  where
    fits : (q : ℕ) (other : Task) → slice_get tasks q ≡ Some other → TaskFits other
    fits = each_fits tasks all

    need : AllNeed rule numbers s tasks fits i (at_first s tasks) steps
    need q other first there =
        let h = enough q other first there in
        record {
          frame = h.frame;
          own = h.own;
          lacks = (own_budget_returns rule s tasks steps is owes q h.frame (has_list (s.frame h.frame) rule.sched h.listed) h.own).lacks;
          budget = h.budget;
          named = h.listed;
          ticks = h.ticks;
          bound = h.bound;
        }

    stand : AllStand rule numbers s tasks fits i (at_first s tasks) steps need
    stand q other first there = record {
      come = 0;
      out = false;
      expects = expects_first q other s tasks there;
      goes = λ inside. record {
        one = first_job s tasks q;
        paced = λ period own. record {
          come = 0;
          done = 0;
          follows = follows_first q other period rule own s tasks there;
          load = load_first rule numbers q other period (enough q other first there).ticks tasks
              ((enough q other first there).bound period own).enough own fits s there;
        };
      };
    }
