-- What the calls of a turn come to.
use Rattle.plain_kernel.specs.kernel_laws.proofs.{◌≡◌, ℕ, ◌+◌, ◌-◌, ◌<◌, ◌≤◌, Bool, true, false, ◌&&◌, ◌==◌, refl, sym, ◌∙◌, ap, subst}
use Rattle.plain_kernel.specs.kernel_laws.proofs.{arith, append_assoc, append-nil, min, if◌then◌else◌, List, [], ◌∷◌, ◌++◌, Option, Some}
use Rattle.plain_kernel.specs.kernel_laws.proofs.{None, set as slice_set, Setting, Call, Tick, Reply, Core, State}
use Rattle.sched_rules.specs.{Step, chosen, next_arrival, cut_at, length_of, reply_to, state_past, is_done, refused, ran, ticks, switches}
use Rattle.sched_rules.specs.{switch_for, goes_on, runs, idles, turn_by, turn_for, turn_of, put_out, begun, renewal, gives_back, renews}
use Rattle.fixed_prio.specs.{after_calls, Beside, MakesBoth, progress}
use Rattle.sched_rules.specs.{declared.tasks.Rule.Rule, declared.tasks.Job.Job, declared.tasks.Choice.Choice}
use Rattle.sched_rules.specs.{declared.tasks.Renewal.Renewal, declared.turns.Turn.Turn, declared.turns.Turn.TheVariants.Ran}
use Rattle.sched_rules.specs.{declared.turns.Turn.TheVariants.Back, declared.turns.Turn.TheVariants.Refused, Schedule.is_place}
use Rattle.fixed_prio.specs.Courses.{Takes, TakesTurn, IdlesTo, IsChosen, IsRenewal, CourseFits}
use Rattle.fixed_prio.proofs.{Alike.chosen_reached, Alike.core_reached, Calling.after_more, ToGo.arrives_at, ToGo.come_is, ToGo.left_most}
use Rattle.{sched_rules.specs.replenish_for, sched_rules.specs.RuleFits, sched_laws.proofs.place_of, sched_laws.proofs.come_at}
use Rattle.{plain_kernel.specs.seq_state.specs.Maps.Maps, plain_kernel.specs.seq_state.specs.Maps.state_of}
use Rattle.{sched_laws.proofs.Arriving.cut_most, fixed_prio.specs.declared.course.Course.Course, fixed_prio.proofs.ToGo.next_most}
use Rattle.{fixed_prio.proofs.ToGo.on_time_now}

-- The task has run on.
pub record RunsOn (course : Course) (c : Choice) (n : ℕ) (taken : Turn) (course' : Course) : Type 0 where
  pub turn : taken ≡ Ran course.time (c.index + 1) n
  pub time : course'.time ≡ course.time + n
  pub last : course'.last ≡ Some c.index
  pub jobs : course'.jobs.items ≡ slice_set course.jobs.items c.index (record c.job { left = c.job.left - n; used = c.job.used + n })

-- The task is out.
pub record IsOut (course : Course) (i : ℕ) (job : Job) (r : Reply) (taken : Turn) (course' : Course) : Type 0 where
  pub turn : taken ≡ Refused course.time (i + 1) r
  pub time : course'.time ≡ course.time
  pub last : course'.last ≡ course.last
  pub jobs : course'.jobs.items ≡ slice_set course.jobs.items i (record job { out = true })

-- A further job of it has come.
pub record HasBegun (course : Course) (r : Renewal) (taken : Turn) (course' : Course) : Type 0 where
  pub turn : taken ≡ Back course.time (r.index + 1) r.job.used
  pub time : course'.time ≡ course.time
  pub last : course'.last ≡ course.last
  pub jobs : course'.jobs.items ≡ slice_set course.jobs.items r.index (begun r.job)

refused_at : (setting : Setting) (made made' : List Call) (course course' : Course) (i : ℕ) (job : Job) (call : Call) (r : Reply)
    (turn : Turn) (k' : Maps)
    → MakesBoth setting made call r made' k' → IsOut course i job r turn course'
    → Takes setting made (put_out (progress setting made course) i job (state_past (after_calls setting made) call) (call ∷ [])
    (reply_to (after_calls setting made) call)) turn made' course' k'
refused_at setting made made' course course' i job call r turn k' b o = record {
  turn = ap (Refused course.time (i + 1)) (sym b.reply) ∙ sym o.turn;
  made = b.made;
  next = λ j. record {
    time = sym o.time j;
    state = after_more setting made made' call b.made j;
    jobs = sym o.jobs j;
    last = sym o.last j;
  };
  beside = b.beside;
}

is_done_so : (setting : Setting) (made made' : List Call) (call : Call) (r : Reply) (k' : Maps) (d : Bool)
    → MakesBoth setting made call r made' k' → is_done r ≡ d → is_done (reply_to (after_calls setting made) call) ≡ d
is_done_so setting made made' call r k' d b e = sym (ap is_done b.reply) ∙ e

pub tick_runs : (setting : Setting) (made made' : List Call) (course course' : Course) (c : Choice) (n : ℕ) (r : Reply)
    (turn : Turn) (k' : Maps)
    → MakesBoth setting made (Tick n) r made' k' → is_done r ≡ true → RunsOn course c n turn course'
    → Takes setting made (ticks (progress setting made course) c (after_calls setting made) [] n) turn made' course' k'
tick_runs setting made made' course course' c n r turn k' b done o =
    let x = progress setting made course in
    let s = after_calls setting made in
    subst (λ d. Takes setting made
    (if d then ran x c (state_past s (Tick n)) (Tick n ∷ []) n else refused x c (state_past s (Tick n)) (Tick n ∷ []) (reply_to s (Tick n)))
    turn made' course' k')
    (sym (is_done_so setting made made' (Tick n) r k' true b done))
    (record {
      turn = sym o.turn;
      made = b.made;
      next = λ i. record {
        time = sym o.time i;
        state = after_more setting made made' (Tick n) b.made i;
        jobs = sym o.jobs i;
        last = sym o.last i;
      };
      beside = b.beside;
    })

pub tick_refused : (setting : Setting) (made made' : List Call) (course course' : Course) (c : Choice) (n : ℕ) (r : Reply)
    (turn : Turn) (k' : Maps)
    → MakesBoth setting made (Tick n) r made' k' → is_done r ≡ false → IsOut course c.index c.job r turn course'
    → Takes setting made (ticks (progress setting made course) c (after_calls setting made) [] n) turn made' course' k'
tick_refused setting made made' course course' c n r turn k' b done o =
    let x = progress setting made course in
    let s = after_calls setting made in
    subst (λ d. Takes setting made
    (if d then ran x c (state_past s (Tick n)) (Tick n ∷ []) n else refused x c (state_past s (Tick n)) (Tick n ∷ []) (reply_to s (Tick n)))
    turn made' course' k')
    (sym (is_done_so setting made made' (Tick n) r k' false b done))
    (refused_at setting made made' course course' c.index c.job (Tick n) r turn k' b o)

-- A step with one call more in front.
record Longer (call : Call) (a b : Step) : Type 0 where
  turn : b.turn ≡ a.turn
  next : b.next ≡ a.next
  calls : b.calls ≡ call ∷ a.calls

ticks_longer : (time : ℕ) (jobs : List Job) (last : Option ℕ) (u v s : State) (c : Choice) (call : Call) (n : ℕ)
    → Longer call (ticks (record { time = time; state = u; jobs = jobs; last = last }) c s [] n)
    (ticks (record { time = time; state = v; jobs = jobs; last = last }) c s (call ∷ []) n)
ticks_longer time jobs last u v s c call n = by_done (is_done (reply_to s (Tick n)))
  where
    by_done : (d : Bool)
        → Longer call
        (if d then ran (record { time = time; state = u; jobs = jobs; last = last }) c (state_past s (Tick n)) (Tick n ∷ []) n
        else refused (record { time = time; state = u; jobs = jobs; last = last }) c (state_past s (Tick n)) (Tick n ∷ [])
        (reply_to s (Tick n)))
        (if d then ran (record { time = time; state = v; jobs = jobs; last = last }) c (state_past s (Tick n)) (call ∷ Tick n ∷ []) n
        else refused (record { time = time; state = v; jobs = jobs; last = last }) c (state_past s (Tick n)) (call ∷ Tick n ∷ [])
        (reply_to s (Tick n)))
    by_done true = record { turn = refl; next = refl; calls = refl }
    by_done false = record { turn = refl; next = refl; calls = refl }

pub switch_ticks : (setting : Setting) (made made1 made' : List Call) (course course' : Course) (c : Choice) (call : Call) (n : ℕ)
    (r : Reply) (turn : Turn) (k1 k' : Maps)
    → MakesBoth setting made call r made1 k1 → is_done r ≡ true
    → Takes setting made1 (ticks (progress setting made1 course) c (after_calls setting made1) [] n) turn made' course' k'
    → Takes setting made (switches (progress setting made course) c call n) turn made' course' k'
switch_ticks setting made made1 made' course course' c call n r turn k1 k' b done t =
    let x = progress setting made course in
    let s = after_calls setting made in
    let more = ticks_longer course.time course.jobs.items course.last (after_calls setting made1) s (after_calls setting made1) c call n in
    subst (λ d. Takes setting made
    (if d then ticks x c (state_past s call) (call ∷ []) n else refused x c (state_past s call) (call ∷ []) (reply_to s call))
    turn made' course' k')
    (sym (is_done_so setting made made1 call r k1 true b done))
    (subst (λ u. Takes setting made (ticks x c u (call ∷ []) n) turn made' course' k') (sym (after_more setting made made1 call b.made))
    (record {
      turn = more.turn ∙ t.turn;
      made = t.made ∙ ap (λ l. l ++ (ticks (progress setting made1 course) c (after_calls setting made1) [] n).calls) b.made
          ∙ append_assoc made (call ∷ []) (ticks (progress setting made1 course) c (after_calls setting made1) [] n).calls
          ∙ ap (λ l. made ++ l) (sym more.calls);
      next = more.next ∙ t.next;
      beside = t.beside;
    }))

pub switch_refused : (setting : Setting) (made made' : List Call) (course course' : Course) (c : Choice) (call : Call) (n : ℕ) (r : Reply)
    (turn : Turn) (k' : Maps)
    → MakesBoth setting made call r made' k' → is_done r ≡ false → IsOut course c.index c.job r turn course'
    → Takes setting made (switches (progress setting made course) c call n) turn made' course' k'
switch_refused setting made made' course course' c call n r turn k' b done o =
    let x = progress setting made course in
    let s = after_calls setting made in
    subst (λ d. Takes setting made
    (if d then ticks x c (state_past s call) (call ∷ []) n else refused x c (state_past s call) (call ∷ []) (reply_to s call))
    turn made' course' k')
    (sym (is_done_so setting made made' call r k' false b done))
    (refused_at setting made made' course course' c.index c.job call r turn k' b o)

-- The turn of the chosen task, by whether it goes on.
pub runs_on : (setting : Setting) (made made' : List Call) (course course' : Course) (c : Choice) (n : ℕ) (turn : Turn) (k' : Maps)
    → goes_on (progress setting made course) c ≡ true
    → Takes setting made (ticks (progress setting made course) c (after_calls setting made) [] n) turn made' course' k'
    → Takes setting made (runs (progress setting made course) c n) turn made' course' k'
runs_on setting made made' course course' c n turn k' on t =
    let x = progress setting made course in
    subst (λ d. Takes setting made (if d then ticks x c x.state [] n else switches x c (switch_for c.job.task) n) turn made' course' k')
    (sym on) t

pub runs_anew : (setting : Setting) (made made' : List Call) (course course' : Course) (c : Choice) (n : ℕ) (turn : Turn) (k' : Maps)
    → goes_on (progress setting made course) c ≡ false
    → Takes setting made (switches (progress setting made course) c (switch_for c.job.task) n) turn made' course' k'
    → Takes setting made (runs (progress setting made course) c n) turn made' course' k'
runs_anew setting made made' course course' c n turn k' off t =
    let x = progress setting made course in
    subst (λ d. Takes setting made (if d then ticks x c x.state [] n else switches x c (switch_for c.job.task) n) turn made' course' k')
    (sym off) t

-- The turn in which a further job of a task has come.
pub renew_gives : (setting : Setting) (made made' : List Call) (course course' : Course) (r : Renewal) (reply : Reply) (turn : Turn)
    (k' : Maps)
    → MakesBoth setting made (replenish_for r.job) reply made' k' → is_done reply ≡ true → HasBegun course r turn course'
    → Takes setting made (renews (progress setting made course) r (replenish_for r.job)) turn made' course' k'
renew_gives setting made made' course course' r reply turn k' b done o =
    let x = progress setting made course in
    let s = after_calls setting made in
    let call = replenish_for r.job in
    subst (λ d. Takes setting made
    (if d then gives_back x r call else put_out x r.index r.job (state_past s call) (call ∷ []) (reply_to s call)) turn made' course' k')
    (sym (is_done_so setting made made' call reply k' true b done))
    (record {
      turn = sym o.turn;
      made = b.made;
      next = λ i. record {
        time = sym o.time i;
        state = after_more setting made made' call b.made i;
        jobs = sym o.jobs i;
        last = sym o.last i;
      };
      beside = b.beside;
    })

pub renew_refused : (setting : Setting) (made made' : List Call) (course course' : Course) (r : Renewal) (reply : Reply) (turn : Turn)
    (k' : Maps)
    → MakesBoth setting made (replenish_for r.job) reply made' k' → is_done reply ≡ false → IsOut course r.index r.job reply turn course'
    → Takes setting made (renews (progress setting made course) r (replenish_for r.job)) turn made' course' k'
renew_refused setting made made' course course' r reply turn k' b off o =
    let x = progress setting made course in
    let s = after_calls setting made in
    let call = replenish_for r.job in
    subst (λ d. Takes setting made
    (if d then gives_back x r call else put_out x r.index r.job (state_past s call) (call ∷ []) (reply_to s call)) turn made' course' k')
    (sym (is_done_so setting made made' call reply k' false b off))
    (refused_at setting made made' course course' r.index r.job call reply turn k' b o)

pub turn_renews : (setting : Setting) (made made' : List Call) (course course' : Course) (rule : Rule) (r : Renewal)
    (turn : Turn) (k' : Maps)
    → renewal course.time 0 course.jobs.items ≡ Some r
    → Takes setting made (renews (progress setting made course) r (replenish_for r.job)) turn made' course' k'
    → TakesTurn setting made course (turn_of rule (progress setting made course)) (Some turn) made' course' k'
turn_renews setting made made' course course' rule r turn k' is t =
    let x = progress setting made course in
    subst (λ o. TakesTurn setting made course (turn_for rule x o) (Some turn) made' course' k') (sym is) t

-- The next turn, by what is chosen.
pub turn_runs : (setting : Setting) (made made' : List Call) (course course' : Course) (rule : Rule) (c : Choice) (n : ℕ)
    (turn : Turn) (k' : Maps)
    → renewal course.time 0 course.jobs.items ≡ None
    → chosen (after_calls setting made) rule course.time 0 course.jobs.items ≡ Some c
    → n ≡ length_of rule (progress setting made course) c
    → Takes setting made (runs (progress setting made course) c n) turn made' course' k'
    → TakesTurn setting made course (turn_of rule (progress setting made course)) (Some turn) made' course' k'
turn_runs setting made made' course course' rule c n turn k' no_job is long t =
    let x = progress setting made course in
    subst (λ o. TakesTurn setting made course (turn_for rule x o) (Some turn) made' course' k') (sym no_job)
    (subst (λ o. TakesTurn setting made course (turn_by rule x o) (Some turn) made' course' k') (sym is)
    (subst (λ u. Takes setting made (runs x c u) turn made' course' k') long t))

pub turn_idles : (setting : Setting) (made made' : List Call) (course course' : Course) (rule : Rule) (turn : Option Turn) (k' : Maps)
    → renewal course.time 0 course.jobs.items ≡ None
    → chosen (after_calls setting made) rule course.time 0 course.jobs.items ≡ None
    → IdlesTo (next_arrival course.time course.jobs.items) course turn course' → made' ≡ made → Beside setting made' k'
    → TakesTurn setting made course (turn_of rule (progress setting made course)) turn made' course' k'
turn_idles setting made made' course course' rule turn k' no_job none idle same b =
    let x = progress setting made course in
    subst (λ o. TakesTurn setting made course (turn_for rule x o) turn made' course' k') (sym no_job)
    (subst (λ o. TakesTurn setting made course (turn_by rule x o) turn made' course' k') (sym none)
    (by_arrival (next_arrival course.time course.jobs.items) idle))
  where
    by_arrival : (a : Option ℕ) → IdlesTo a course turn course'
        → TakesTurn setting made course (idles (progress setting made course) a) turn made' course' k'
    by_arrival None h = subst (λ t. TakesTurn setting made course None t made' course' k') (sym h.0)
        (record { made = same; course = h.1; beside = b })
    by_arrival (Some at) h =
        subst (λ t. TakesTurn setting made course (idles (progress setting made course) (Some at)) t made' course' k') (sym h.0)
        (record {
          turn = refl;
          made = same ∙ sym (append-nil made);
          next = λ i. record {
            time = sym (ap (λ (y : Course). y.time) h.1) i;
            state = after_calls setting (sym same i);
            jobs = sym (ap (λ (y : Course). y.jobs.items) h.1) i;
            last = sym (ap (λ (y : Course). y.last) h.1) i;
          };
          beside = b;
        })

-- What is chosen is one of the tasks, and its turn is in range.
pub is_chosen : (s : State) (rule : Rule) (course : Course) (c : Choice) (n : ℕ) → RuleFits rule → CourseFits course
    → chosen s rule course.time 0 course.jobs.items ≡ Some c
    → n ≡ cut_at (next_arrival course.time course.jobs.items) course.time (min rule.quantum (min c.job.left c.ready.budget))
    → IsChosen course c n
is_chosen s rule course c n fits_rule fits is long =
    let small = cut_most (next_arrival course.time course.jobs.items) course.time (min rule.quantum (min c.job.left c.ready.budget)) in
    let quantum = fits_rule.most in
    let time = fits.time in
    let here = place_of s rule course.time course.jobs.items c is in
    record {
      place = here;
      few = fits.few;
      work = omega (arith, small, long);
      ticks = omega (arith, small, long, quantum);
      used = (arrives_at course.time course.jobs.items c.index c.job here fits.arrivals).used;
      time = omega (arith, time);
    }

-- A task of which a job has come is one of the tasks, and what it has run since its last one is in range.
pub is_renewal : (course : Course) (r : Renewal) → CourseFits course → renewal course.time 0 course.jobs.items ≡ Some r
    → IsRenewal course r
is_renewal course r fits is =
    let here = come_at course.time course.jobs.items r is in
    let mine = arrives_at course.time course.jobs.items r.index r.job here fits.arrivals in
    let on = come_is course.time 0 course.jobs.items r is in
    let left = left_most course.jobs.items r.index r.job here in
    let all = fits.work in
    let work = mine.task.most in
    let used = mine.used in
    let now = on_time_now course.time r.job mine on in
    record {
      place = here;
      few = fits.few;
      work = omega (arith, left, all, work);
      used = omega (arith, used, now);
      next = next_most course.time r.job mine;
    }

-- What the plain kernel says is so in the state after the machine's calls.
pub goes_so : (setting : Setting) (made : List Call) (k : Maps) (course : Course) (c : Choice) (result d : Bool) → Beside setting made k
    → result ≡ (is_place course.last c.index && ((state_of k).core 0).tcap == c.ready.tcap) → result ≡ d
    → goes_on (progress setting made course) c ≡ d
goes_so setting made k course c result d b is e =
    ap (λ (x : Core). is_place course.last c.index && x.tcap == c.ready.tcap)
    (sym (core_reached setting b.setting k (after_calls setting made) b.reached))
    ∙ sym is ∙ e

pub chosen_so : (setting : Setting) (made : List Call) (k : Maps) (rule : Rule) (time : ℕ) (jobs l : List Job) (o : Option Choice)
    → Beside setting made k → l ≡ jobs → o ≡ chosen (state_of k) rule time 0 l
    → chosen (after_calls setting made) rule time 0 jobs ≡ o
chosen_so setting made k rule time jobs l o b same is =
    sym (chosen_reached setting b.setting k (after_calls setting made) b.reached rule time 0 jobs)
    ∙ ap (chosen (state_of k) rule time 0) (sym same) ∙ sym is

-- The task of which a job has come, or that there is none.
pub come_so : (time : ℕ) (jobs l : List Job) (o : Option Renewal) → l ≡ jobs → o ≡ renewal time 0 l → renewal time 0 jobs ≡ o
come_so time jobs l o same is = ap (renewal time 0) (sym same) ∙ sym is

pub none_so : (time : ℕ) (jobs l : List Job) (o : Option Renewal) → l ≡ jobs → o ≡ renewal time 0 l → ((r : Renewal) → o ≡ Some r → ⊥)
    → renewal time 0 jobs ≡ None
none_so time jobs l None same is none = come_so time jobs l None same is
none_so time jobs l (Some r) same is none = absurd (none r refl)

pub long_so : (rule : Rule) (time : ℕ) (jobs l : List Job) (c : Choice) (n : ℕ) → l ≡ jobs
    → n ≡ cut_at (next_arrival time l) time (min rule.quantum (min c.job.left c.ready.budget))
    → n ≡ cut_at (next_arrival time jobs) time (min rule.quantum (min c.job.left c.ready.budget))
long_so rule time jobs l c n same is =
    is ∙ ap (λ x. cut_at (next_arrival time x) time (min rule.quantum (min c.job.left c.ready.budget))) same
