-- Fixed-priority scheduling on core 0: which task is ready, which is chosen, what a turn is, and the schedule that turns make; and what is
-- given back to a task as its further jobs arrive. It is said of the states of the sequential kernel, whose calls core 0 makes alone.
use Rattle.std.specs.Prelude.{◌≡◌, ◌<◌, ◌≤◌, ◌+◌, ◌-◌, ◌&&◌, ◌==◌, if◌then◌else◌, ◌∷◌, ◌++◌}
use Rattle.kernel_rules.specs.{ℕ, min, Bool, true, false, not, ltb as nat_lt, leb as nat_le}
use Rattle.kernel_rules.specs.{List, [], map, set as slice_set, Option, Some, None, IfSome, option_and_then}
use Rattle.kernel_rules.specs.{Capability, number_of, Call, Switch, Tick, Replenish, Reply, TcapFields, only, usable, reached, own, tcap_at}
use Rattle.kernel_rules.specs.{plain_reply, plain_step, Kind}
use Rattle.sched_rules.specs.{declared.tasks.Task.Task, declared.tasks.Rule.Rule, declared.tasks.Job.Job, declared.tasks.Ready.Ready}
use Rattle.sched_rules.specs.{declared.tasks.Choice.Choice, declared.tasks.Renewal.Renewal, declared.turns.Turn.Turn}
use Rattle.sched_rules.specs.{declared.turns.Turn.TheVariants.Ran, declared.turns.Turn.TheVariants.Idle}
use Rattle.sched_rules.specs.{declared.turns.Turn.TheVariants.Back, declared.turns.Turn.TheVariants.Refused}
use Rattle.{kernel_rules.specs.spk_nums.specs.declared.replies.Reply.TheVariants.Ok as ok_reply, kernel_rules.specs.State.State}

-- Where a schedule has come to: the time, the kernel's state, the tasks in the order listed, and the place in that list of the task that
-- ran last.
pub record Progress : Type 0 where
  pub time : ℕ
  pub state : State
  pub jobs : List Job
  pub last : Option ℕ

-- ---- which task is ready

-- What core c may use under a name of its own.
unfoldable pub reach : State → ℕ → ℕ → Option Capability
reach s c n = option_and_then (usable s c) (reached s c (own s c n))

-- The temporal capability of a frame, where its list gives the scheduler this number.
abbrev pub with_number : ℕ → ℕ → Option ℕ → Option Ready
with_number f budget None = None
with_number f budget (Some n) = Some (record { tcap = f; budget = budget; number = n })

-- A temporal capability has time for a scheduler where it has budget and its list names the scheduler.
abbrev pub time_in : ℕ → TcapFields → ℕ → Option Ready
time_in f q sched = if nat_lt 0 q.budget then with_number f q.budget (number_of q.qualities sched) else None

-- What a name reaches has time for a scheduler where it is such a temporal capability.
abbrev pub time_of : State → ℕ → Option Capability → Option Ready
time_of s sched None = None
time_of s sched (Some k) = if only Kind.Tcap k.kind then time_in k.frame (tcap_at s k.frame) sched else None

-- A task is due where it has arrived, has work left, and was not refused.
abbrev pub is_due : ℕ → Job → Bool
is_due now job = nat_le job.task.arrival now && (nat_lt 0 job.left && not job.out)

-- A task is ready where it is due and its name reaches time for the scheduler.
abbrev pub ready : State → Rule → ℕ → Job → Option Ready
ready s rule now job = if is_due now job then time_of s rule.sched (reach s 0 job.task.tcap) else None

-- ---- which is chosen

-- The task at place i, if it is ready, and what is chosen of those after it: the smaller number, and the earlier task among equals.
abbrev pub lesser : ℕ → Job → Option Ready → Option Choice → Option Choice
lesser i job None after = after
lesser i job (Some r) None = Some (record { index = i; job = job; ready = r })
lesser i job (Some r) (Some c) =
    if nat_le r.number c.ready.number then Some (record { index = i; job = job; ready = r }) else Some c

-- The task chosen of those listed from place i on: the ready one of the least number, the first listed among equals.
abbrev pub chosen : State → Rule → ℕ → ℕ → List Job → Option Choice
chosen s rule now i [] = None
chosen s rule now i (job ∷ jobs) = lesser i job (ready s rule now job) (chosen s rule now (i + 1) jobs)

-- ---- further jobs

-- When the job after one of a task arrives, by its period; none arrives after 1,000,000.
abbrev pub within_last : ℕ → Option ℕ
within_last at = if nat_le at 1000000 then Some at else None

abbrev pub job_after : ℕ → Option ℕ → Option ℕ
job_after at None = None
job_after at (Some period) = within_last (at + period)

-- The next job of a task has arrived, and the task was not refused.
abbrev pub has_come : ℕ → Option ℕ → Bool
has_come now None = false
has_come now (Some at) = nat_le at now

abbrev pub is_renewed : ℕ → Job → Bool
is_renewed now job = has_come now job.next && not job.out

-- The first of the tasks listed from place i on of which it has.
abbrev pub renewal : ℕ → ℕ → List Job → Option Renewal
renewal now i [] = None
renewal now i (job ∷ jobs) = if is_renewed now job then Some (record { index = i; job = job }) else renewal now (i + 1) jobs

-- Its work is added to what the task has left, and the task has run nothing since.
abbrev pub next_of : Option ℕ → Option ℕ → Option ℕ
next_of None period = None
next_of (Some at) period = job_after at period

abbrev pub begun : Job → Job
begun job = record job { left = job.left + job.task.work; next = next_of job.next job.task.period; used = 0 }

-- ---- how long a turn is

-- When the next job of a task arrives that is still to come, and was not refused.
abbrev pub later : ℕ → Job → Option ℕ
later now job = if job.out then None else (if nat_lt now job.task.arrival then Some job.task.arrival else job.next)

abbrev pub sooner : Option ℕ → Option ℕ → Option ℕ
sooner None b = b
sooner (Some a) None = Some a
sooner (Some a) (Some b) = Some (min a b)

-- The next later arrival of a job of a task that was not refused.
abbrev pub next_arrival : ℕ → List Job → Option ℕ
next_arrival now [] = None
next_arrival now (job ∷ jobs) = sooner (later now job) (next_arrival now jobs)

-- A stretch of ticks, cut at an arrival.
abbrev pub cut_at : Option ℕ → ℕ → ℕ → ℕ
cut_at None now n = n
cut_at (Some at) now n = min n (at - now)

-- The ticks of a turn: the least of the quantum, the work left, the budget that the task's name reached when it was chosen, and the time
-- to the next later arrival.
abbrev pub length_of : Rule → Progress → Choice → ℕ
length_of rule x c = cut_at (next_arrival x.time x.jobs) x.time (min rule.quantum (min c.job.left c.ready.budget))

-- ---- a turn

-- The reply to a call of core 0, which it makes alone, and the state after it.
unfoldable pub reply_to : State → Call → Reply
reply_to s call = plain_reply s 0 call

unfoldable pub state_past : State → Call → State
state_past s call = plain_step s 0 call

-- Whether a call was carried out.
abbrev pub is_done : Reply → Bool
is_done (ok_reply v) = true
is_done r = false

-- What a turn comes to: the turn, its calls in order, and where the schedule has come to after it.
pub record Step : Type 0 where
  pub turn : Turn
  pub calls : List Call
  pub next : Progress

-- The task at place i was refused: it is out, and no time has passed.
abbrev pub put_out : Progress → ℕ → Job → State → List Call → Reply → Step
put_out x i job s calls r = record {
  turn = Refused x.time (i + 1) r;
  calls = calls;
  next = record x { state = s; jobs = slice_set x.jobs i (record job { out = true }) };
}

abbrev pub refused : Progress → Choice → State → List Call → Reply → Step
refused x c s calls r = put_out x c.index c.job s calls r

-- The task ran: its work falls, and the time and what it has run rise by the ticks.
abbrev pub ran : Progress → Choice → State → List Call → ℕ → Step
ran x c s calls u = record {
  turn = Ran x.time (c.index + 1) u;
  calls = calls;
  next = record {
    time = x.time + u;
    state = s;
    jobs = slice_set x.jobs c.index (record c.job { left = c.job.left - u; used = c.job.used + u });
    last = Some c.index;
  };
}

-- In a state of the turn, after its calls so far, the call `tick` is made.
abbrev pub ticks : Progress → Choice → State → List Call → ℕ → Step
ticks x c s calls u =
    if is_done (reply_to s (Tick u)) then ran x c (state_past s (Tick u)) (calls ++ Tick u ∷ []) u
    else refused x c (state_past s (Tick u)) (calls ++ Tick u ∷ []) (reply_to s (Tick u))

-- The call `switch` to the task's thread and temporal capability.
abbrev pub switch_for : Task → Call
switch_for task = Switch task.thread task.tcap

-- The call `switch` is made for the task; `tick` follows where it is carried out.
abbrev pub switches : Progress → Choice → Call → ℕ → Step
switches x c call u =
    if is_done (reply_to x.state call) then ticks x c (state_past x.state call) (call ∷ []) u
    else refused x c (state_past x.state call) (call ∷ []) (reply_to x.state call)

abbrev pub is_place : Option ℕ → ℕ → Bool
is_place None i = false
is_place (Some j) i = j == i

-- The task goes on without a `switch`: it was the last that ran, and its name reaches the core's current temporal capability.
abbrev pub goes_on : Progress → Choice → Bool
goes_on x c = is_place x.last c.index && (x.state.core 0).tcap == c.ready.tcap

-- The turn of the chosen task.
abbrev pub runs : Progress → Choice → ℕ → Step
runs x c u = if goes_on x c then ticks x c x.state [] u else switches x c (switch_for c.job.task) u

-- The turn where no task is ready: idle up to the next later arrival, if one comes.
abbrev pub idles : Progress → Option ℕ → Option Step
idles x None = None
idles x (Some at) = Some (record { turn = Idle x.time (at - x.time); calls = []; next = record x { time = at } })

abbrev pub turn_by : Rule → Progress → Option Choice → Option Step
turn_by rule x None = idles x (next_arrival x.time x.jobs)
turn_by rule x (Some c) = Some (runs x c (length_of rule x c))

-- The turn in which a further job of a task arrives: what the task has run since its last job is given back to its temporal capability.
abbrev pub replenish_for : Job → Call
replenish_for job = Replenish job.task.tcap job.used

abbrev pub gives_back : Progress → Renewal → Call → Step
gives_back x r call = record {
  turn = Back x.time (r.index + 1) r.job.used;
  calls = call ∷ [];
  next = record x { state = state_past x.state call; jobs = slice_set x.jobs r.index (begun r.job) };
}

abbrev pub renews : Progress → Renewal → Call → Step
renews x r call =
    if is_done (reply_to x.state call) then gives_back x r call
    else put_out x r.index r.job (state_past x.state call) (call ∷ []) (reply_to x.state call)

abbrev pub turn_for : Rule → Progress → Option Renewal → Option Step
turn_for rule x None = turn_by rule x (chosen x.state rule x.time 0 x.jobs)
turn_for rule x (Some r) = Some (renews x r (replenish_for r.job))

-- The next turn; None where the schedule ends. Jobs that have arrived come first.
abbrev pub turn_of : Rule → Progress → Option Step
turn_of rule x = turn_for rule x (renewal x.time 0 x.jobs)

-- ---- the schedule

-- Before the first turn, in a state of the kernel: the time is 0, each task has the work of its first job, and none has run.
abbrev pub new_job : Task → Job
new_job task = record { task = task; left = task.work; out = false; next = job_after task.arrival task.period; used = 0 }

abbrev pub at_first : State → List Task → Progress
at_first s tasks = record { time = 0; state = s; jobs = map new_job tasks; last = None }

-- The turns from here on, to the schedule's end.
abbrev pub IsSchedule : Rule → Progress → List Step → Type 0
IsSchedule rule x [] = turn_of rule x ≡ None
IsSchedule rule x (step ∷ steps) = (turn_of rule x ≡ Some step) × IsSchedule rule step.next steps

-- Its turns, and the calls of all turns, in order.
abbrev pub turns_of : List Step → List Turn
turns_of steps = map (λ step. step.turn) steps

abbrev pub calls_of : List Step → List Call
calls_of [] = []
calls_of (step ∷ steps) = step.calls ++ calls_of steps

-- Where the schedule has come to after these turns.
abbrev pub last_of : Progress → List Step → Progress
last_of x [] = x
last_of x (step ∷ steps) = last_of step.next steps

-- ---- ranges

-- A task's arrival, work and period are in range.
abbrev pub PeriodFits : ℕ → Type 0
PeriodFits period = (1 ≤ period) × (period ≤ 1000000)

pub record TaskFits (task : Task) : Type 0 where
  pub arrival : task.arrival ≤ 1000000
  pub least : 1 ≤ task.work
  pub most : task.work ≤ 10000
  pub period : IfSome task.period PeriodFits

-- A rule's scheduler and quantum are in range.
pub record RuleFits (rule : Rule) : Type 0 where
  pub sched : rule.sched < 64
  pub least : 1 ≤ rule.quantum
  pub most : rule.quantum ≤ 1000000
