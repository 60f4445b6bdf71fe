-- Which task runs: the least among the ready ones, at every tick.
use Rattle.std.specs.Prelude.{◌≡◌, ◌<◌, ◌≤◌, ◌+◌}
use Rattle.sched_rules.specs.kernel_rules.specs.{ℕ, false, List, slice_get, Some, None, preempts, tcap_at}
use Rattle.sched_rules.specs.{Progress, Step, ready, chosen, turn_of}
use Rattle.sched_rules.specs.kernel_rules.specs.State.{State}
use Rattle.sched_rules.specs.{declared.tasks.Rule.Rule, declared.tasks.Job.Job, declared.tasks.Ready.Ready, declared.tasks.Choice.Choice}
use Rattle.sched_rules.specs.{declared.turns.Turn.TheVariants.Ran, declared.turns.Turn.TheVariants.Idle}

-- A task of number n at place i does not come after one of number m at place k: its number is smaller, or the same and it is listed no
-- later.
pub record ComesFirst (n i m k : ℕ) : Type 0 where
  pub least : n ≤ m
  pub first : n ≡ m → i ≤ k

-- At a time, by what names reach in state s, the task at place i is ready with this number, and no ready task comes before it.
pub record IsLeast (s : State) (rule : Rule) (now : ℕ) (jobs : List Job) (i : ℕ) : Type 0 where
  pub job : Job
  pub own : Ready
  pub listed : slice_get jobs i ≡ Some job
  pub is_ready : ready s rule now job ≡ Some own
  pub least : (k : ℕ) (other : Job) (r : Ready) → slice_get jobs k ≡ Some other → ready s rule now other ≡ Some r
      → ComesFirst own.number i r.number k

-- No task is ready at a time, by what names reach in state s.
abbrev pub NoneReady : State → Rule → ℕ → List Job → Type 0
NoneReady s rule now jobs = (k : ℕ) (job : Job) → slice_get jobs k ≡ Some job → ready s rule now job ≡ None

-- What is chosen is the least among the ready ones; where nothing is chosen, none is ready.
pub record ChoosesLeast (s : State) (rule : Rule) (now : ℕ) (jobs : List Job) : Type 0 where
  pub some : (c : Choice) → chosen s rule now 0 jobs ≡ Some c → IsLeast s rule now jobs c.index
  pub none : chosen s rule now 0 jobs ≡ None → NoneReady s rule now jobs

abbrev pub LeastChosen : Type 0
LeastChosen = (s : State) (rule : Rule) (now : ℕ) (jobs : List Job) → ChoosesLeast s rule now jobs

-- At every tick t of a turn of the task i, counted from 1, that task is the least among those ready at t, by what names reached when the
-- turn began.
abbrev pub LeastRuns : Type 0
LeastRuns = (rule : Rule) (x : Progress) (step : Step) → turn_of rule x ≡ Some step
    → (at i u : ℕ) → step.turn ≡ Ran at (i + 1) u
    → (t : ℕ) → at ≤ t → t < at + u → IsLeast x.state rule t x.jobs i

-- At every tick of an idle turn no task is ready; and where the schedule ends, none is at any later time.
pub record WaitsForNone (rule : Rule) (x : Progress) : Type 0 where
  pub idle : (step : Step) → turn_of rule x ≡ Some step → (at u : ℕ) → step.turn ≡ Idle at u
      → (t : ℕ) → at ≤ t → t < at + u → NoneReady x.state rule t x.jobs
  pub ended : turn_of rule x ≡ None → (t : ℕ) → x.time ≤ t → NoneReady x.state rule t x.jobs

abbrev pub NoneWaits : Type 0
NoneWaits = (rule : Rule) (x : Progress) → WaitsForNone rule x

-- Where a task is chosen and another is ready, the other's temporal capability does not preempt the chosen one's.
abbrev pub OthersStay : Type 0
OthersStay = (s : State) (rule : Rule) (now : ℕ) (jobs : List Job) (c : Choice) → chosen s rule now 0 jobs ≡ Some c
    → (k : ℕ) (other : Job) (r : Ready) → slice_get jobs k ≡ Some other → ready s rule now other ≡ Some r
    → preempts (tcap_at s r.tcap) (tcap_at s c.ready.tcap) ≡ false
