-- Turn after turn, to the end of a schedule.
use Rattle.plain_kernel.specs.kernel_laws.proofs.{◌≡◌, ℕ, zero, suc, ◌+◌, ◌*◌, ◌<◌, ◌≤◌, refl, sym, ◌∙◌, ap, subst, arith, append_assoc}
use Rattle.plain_kernel.specs.kernel_laws.proofs.{append-nil, List, [], ◌∷◌, ◌++◌, map, length, Option, Some, None, All, Bool, true, false}
use Rattle.plain_kernel.specs.kernel_laws.proofs.{leb as nat_le, if◌then◌else◌, IfSome, leb-true, slice_get, length-map, get_or-map}
use Rattle.plain_kernel.specs.kernel_laws.proofs.{Setting, Call}
use Rattle.sched_rules.specs.{Progress, Step, turn_of, job_after, new_job, at_first, turns_of, calls_of, IsSchedule, TaskFits, RuleFits}
use Rattle.fixed_prio.specs.{after_calls, Beside, progress}
use Rattle.std.proofs.lemmas.Option.{slice_get_within, get_or_from_slice_get}
use Rattle.sched_rules.specs.{declared.tasks.Task.Task, declared.tasks.Rule.Rule, declared.turns.Turn.Turn}
use Rattle.fixed_prio.specs.Courses.{yet_from, yet, all_yet, ComesNext, Arrives, Fits, CourseFits, TakesTurn, HasScheduled}
use Rattle.fixed_prio.proofs.ToGo.{to_go, goes_on}
use Rattle.{plain_kernel.specs.seq_state.specs.Maps.Maps, fixed_prio.specs.declared.course.Course.Course}

-- The schedule has come from x to y by these turns.
abbrev pub Comes : Rule → Progress → List Step → Progress → Type 0
Comes rule x [] y = x ≡ y
Comes rule x (step ∷ steps) y = (turn_of rule x ≡ Some step) × Comes rule step.next steps y

comes_more : (rule : Rule) (x : Progress) (steps : List Step) (y : Progress) (step : Step) → Comes rule x steps y
    → turn_of rule y ≡ Some step → Comes rule x (steps ++ step ∷ []) step.next
comes_more rule x [] y step same e = (ap (turn_of rule) same ∙ e, refl)
comes_more rule x (first ∷ steps) y step h e = (h.0, comes_more rule first.next steps y step h.1 e)

comes_last : (rule : Rule) (x : Progress) (steps : List Step) (y : Progress) → Comes rule x steps y → turn_of rule y ≡ None
    → IsSchedule rule x steps
comes_last rule x [] y same e = ap (turn_of rule) same ∙ e
comes_last rule x (first ∷ steps) y h e = (h.0, comes_last rule first.next steps y h.1 e)

calls_more : (steps : List Step) (step : Step) → calls_of (steps ++ step ∷ []) ≡ calls_of steps ++ step.calls
calls_more [] step = append-nil step.calls
calls_more (first ∷ steps) step = ap (λ l. first.calls ++ l) (calls_more steps step)
    ∙ sym (append_assoc first.calls (calls_of steps) step.calls)

turns_more : (steps : List Step) (step : Step) → turns_of (steps ++ step ∷ []) ≡ turns_of steps ++ step.turn ∷ []
turns_more [] step = refl
turns_more (first ∷ steps) step = ap (λ l. first.turn ∷ l) (turns_more steps step)

-- Where a schedule from the state after these calls stands.
pub record Gone (setting : Setting) (made : List Call) (rule : Rule) (tasks : List Task) (taken : List Turn) (now : List Call)
    (course : Course) (k : Maps) : Type 0 where
  pub steps : List Step
  pub comes : Comes rule (at_first (after_calls setting made) tasks) steps (progress setting now course)
  pub turns : taken ≡ turns_of steps
  pub calls : now ≡ made ++ calls_of steps
  pub beside : Beside setting now k
  pub fits : CourseFits course

fits_at : (setting : Setting) (now : List Call) (course : Course) (y : Progress) → y ≡ progress setting now course → Fits y.time y.jobs
    → CourseFits course
fits_at setting now course y e fits = subst (λ (z : Progress). Fits z.time z.jobs) e fits

-- One turn more.
pub one_turn : (setting : Setting) (made : List Call) (rule : Rule) (tasks : List Task) (turns : List Turn) (now now' : List Call)
    (course course' : Course) (k k' : Maps) (turn : Turn)
    → RuleFits rule → Gone setting made rule tasks turns now course k
    → TakesTurn setting now course (turn_of rule (progress setting now course)) (Some turn) now' course' k'
    → Gone setting made rule tasks (turns ++ turn ∷ []) now' course' k'
    × (to_go course'.time course'.jobs.items < to_go course.time course.jobs.items)
one_turn setting made rule tasks turns now now' course course' k k' turn fits_rule gone takes =
    by_step (turn_of rule (progress setting now course)) refl takes
  where
    by_step : (o : Option Step) → turn_of rule (progress setting now course) ≡ o
        → TakesTurn setting now course o (Some turn) now' course' k'
        → Gone setting made rule tasks (turns ++ turn ∷ []) now' course' k'
        × (to_go course'.time course'.jobs.items < to_go course.time course.jobs.items)
    by_step None is h = absurd h
    by_step (Some step) is h =
        let on = goes_on rule (progress setting now course) step fits_rule gone.fits is in (
          record {
            steps = gone.steps ++ step ∷ [];
            comes = subst (Comes rule (at_first (after_calls setting made) tasks) (gone.steps ++ step ∷ [])) h.next
                (comes_more rule (at_first (after_calls setting made) tasks) gone.steps (progress setting now course) step gone.comes is);
            turns = ap (λ l. l ++ turn ∷ []) gone.turns ∙ ap (λ t. turns_of gone.steps ++ t ∷ []) (sym h.turn)
                ∙ sym (turns_more gone.steps step);
            calls = h.made ∙ ap (λ l. l ++ step.calls) gone.calls ∙ append_assoc made (calls_of gone.steps) step.calls
                ∙ ap (λ l. made ++ l) (sym (calls_more gone.steps step));
            beside = h.beside;
            fits = fits_at setting now' course' step.next h.next on.fits;
          },
          subst (λ (z : Progress). to_go z.time z.jobs < to_go course.time course.jobs.items) h.next on.less,
        )

-- The end.
pub at_last : (setting : Setting) (made : List Call) (rule : Rule) (tasks : List Task) (turns : List Turn) (now now' : List Call)
    (course course' : Course) (k k' : Maps)
    → Gone setting made rule tasks turns now course k
    → TakesTurn setting now course (turn_of rule (progress setting now course)) None now' course' k'
    → HasScheduled setting made rule tasks turns now' × Beside setting now' k'
at_last setting made rule tasks turns now now' course course' k k' gone takes =
    by_step (turn_of rule (progress setting now course)) refl takes
  where
    by_step : (o : Option Step) → turn_of rule (progress setting now course) ≡ o
        → TakesTurn setting now course o None now' course' k'
        → HasScheduled setting made rule tasks turns now' × Beside setting now' k'
    by_step None is h = (
      record {
        steps = gone.steps;
        schedule = comes_last rule (at_first (after_calls setting made) tasks) gone.steps (progress setting now course) gone.comes is;
        turns = gone.turns;
        made = h.made ∙ gone.calls;
      },
      h.beside,
    )
    by_step (Some step) is h = absurd h

-- The end, where no turn was taken.
pub last_turn : (setting : Setting) (made : List Call) (rule : Rule) (tasks : List Task) (turns : List Turn) (now now' : List Call)
    (course course' : Course) (k k' : Maps) (o : Option Turn) → ((t : Turn) → o ≡ Some t → ⊥)
    → Gone setting made rule tasks turns now course k
    → TakesTurn setting now course (turn_of rule (progress setting now course)) o now' course' k'
    → HasScheduled setting made rule tasks turns now' × Beside setting now' k'
last_turn setting made rule tasks turns now now' course course' k k' None none gone takes =
    at_last setting made rule tasks turns now now' course course' k k' gone takes
last_turn setting made rule tasks turns now now' course course' k k' (Some turn) none gone takes = absurd (none turn refl)

-- What was taken of a machine is taken of the one that it was.
pub takes_at : (setting setting' : Setting) (rule : Rule) (now now' : List Call) (course course' : Course) (k' : Maps) (o : Option Turn)
    → setting' ≡ setting
    → TakesTurn setting' now course (turn_of rule (progress setting' now course)) o now' course' k'
    → TakesTurn setting now course (turn_of rule (progress setting now course)) o now' course' k'
takes_at setting setting' rule now now' course course' k' o same takes =
    subst (λ s. TakesTurn s now course (turn_of rule (progress s now course)) o now' course' k') same takes

-- ---- before the first turn

-- The next job of a task before the first turn.
next_fits : (task : Task) → TaskFits task → IfSome (new_job task).next (ComesNext 0 (new_job task))
next_fits task fits = by_period task.period
  where
    by_last : (p : ℕ) (b : Bool) → nat_le (task.arrival + p) 1000000 ≡ b
        → IfSome (if b then Some (task.arrival + p) else None) (ComesNext 0 (new_job task))
    by_last p true on = record { most = leb-true (task.arrival + p) 1000000 on; first = omega arith; coming = λ h. omega arith }
    by_last p false off = tt

    by_period : (o : Option ℕ) → IfSome (job_after task.arrival o) (ComesNext 0 (new_job task))
    by_period None = tt
    by_period (Some p) = by_last p (nat_le (task.arrival + p) 1000000) refl

yet_one : (task : Task) → TaskFits task → yet (new_job task) ≤ 10000020000
yet_one task fits =
    let most = fits.most in
    let from = by_next (new_job task).next in
    omega (arith, most, from)
  where
    by_next : (o : Option ℕ) → yet_from o ≤ 10000010000
    by_next None = omega arith
    by_next (Some at) = omega arith

yet_most : (tasks : List Task) → ((k : ℕ) (t : Task) → slice_get tasks k ≡ Some t → TaskFits t)
    → all_yet (map new_job tasks) ≤ 10000020000 * length tasks
yet_most [] each = omega arith
yet_most (task ∷ tasks) each =
    let first = yet_one task (each zero task refl) in
    let rest = yet_most tasks (λ k t at. each (suc k) t at) in
    omega (arith, first, rest)

pub first_fits : (tasks : List Task) → All TaskFits tasks → length tasks ≤ 32 → Fits 0 (map new_job tasks)
first_fits tasks all few =
    let work = yet_most tasks fits_one in
    let n = length-map tasks new_job in
    record {
      few = omega (arith, few, n);
      arrivals = λ k job below.
          let task = all k job.task (omega (arith, below, n)) in
          subst (Arrives 0) (sym (get_or-map new_job tasks k job.task job (omega (arith, below, n))))
          (record { task = task; next = next_fits _ task; used = omega arith });
      work = omega (arith, work, few);
      time = omega (arith, work, few);
    }
  where
    fits_one : (k : ℕ) (t : Task) → slice_get tasks k ≡ Some t → TaskFits t
    fits_one k t at = subst TaskFits (get_or_from_slice_get tasks k t t at) (all k t (slice_get_within tasks k t at))

-- The start of a schedule.
pub begun : (setting : Setting) (made : List Call) (rule : Rule) (tasks : List Task) (course : Course) (k : Maps)
    → Beside setting made k → All TaskFits tasks → length tasks ≤ 32
    → course.time ≡ 0 → course.jobs.items ≡ map new_job tasks → course.last ≡ None
    → Gone setting made rule tasks [] made course k
begun setting made rule tasks course k b all few time jobs last = record {
  steps = [];
  comes = λ i. record { time = sym time i; state = after_calls setting made; jobs = sym jobs i; last = sym last i };
  turns = refl;
  calls = sym (append-nil made);
  beside = b;
  fits = subst (λ l. Fits course.time l) (sym jobs) (subst (λ n. Fits n (map new_job tasks)) (sym time) (first_fits tasks all few));
}
