-- The time of a machine: what its temporal capabilities hold and its cores have spent and owe.
use Rattle.kernel_history.specs as low
use Rattle.std.specs.Prelude.{◌≡◌, ◌+◌, ◌<◌, ◌≤◌, ◌==◌, ◌&&◌, ◌⊎◌, ◌∷◌, if◌then◌else◌}
use low.{ℕ, suc, [], slice_get, Option, Some, None, is_some, Setting, Capability}
use low.{Call, Transfer, Delegate, Test, Reply, Value, quality_of_word, head_of_word, HeadWord, EntryAt, to_use, only, ticks, Found, named}
use low.{start, Kernel, Tcap, TcapFields, State, preemption, preempts, tcap_at, events_of, marked_by, Step, Decided, phase, after_enter}
use low.{state_after, state_before, last_left, Kind, Trace.Trace, Trace.Open}
use Rattle.{state_laws.specs.kernel_laws.specs.grants_sum, state_laws.specs.kernel_laws.specs.decided_ticks}
use Rattle.{state_laws.specs.spk_nums.specs.declared.replies.Reply.TheVariants.Ok, state_laws.specs.kernel_laws.specs.Laws.decided_back}

-- The budgets of all temporal capabilities and the ticks that all cores have spent and have not had back sum to the grants.
abbrev pub KeepsTicks : Setting → State → Type 0
KeepsTicks setup s = ticks s ≡ grants_sum setup

-- So it is at each moment.
abbrev pub TimeIsKept : Setting → Trace → Type 0
TimeIsKept setup t = KeepsTicks setup (state_after setup t)

-- At each moment what a core has spent and what it owes sum to the ticks of its decided `tick` calls, but for those answered
-- `calls-spent`.
abbrev pub TicksAreCounted : Setting → Trace → Type 0
TicksAreCounted setup t = (c : ℕ)
    → ((state_after setup t).core c).spent + ((state_after setup t).core c).owed ≡ decided_ticks (events_of t) c

-- At each moment what a core has had back is the sum of its `replenish` calls that were carried out, and no more than it has spent.
pub record HasHadBack (setup : Setting) (t : Trace) (c : ℕ) : Type 0 where
  pub is : ((state_after setup t).core c).back ≡ decided_back (events_of t) c
  pub within : ((state_after setup t).core c).back ≤ ((state_after setup t).core c).spent

abbrev pub BackIsCounted : Setting → Trace → Type 0
BackIsCounted setup t = (c : ℕ) → HasHadBack setup t c

-- A head shows this budget, and no mark.
pub record ShowsBudget (budget : ℕ) (shown : Option HeadWord) : Type 0 where
  pub version : ℕ
  pub says : shown ≡ Some (record { budget = budget; mark = None; version = version })

-- At each moment the head of a temporal capability that no core has marked shows its budget.
abbrev pub HeadsSay : Setting → Trace → Type 0
HeadsSay setup t = (f : ℕ) (q : TcapFields)
    → (state_after setup t).frame f ≡ Kernel (Tcap q) → marked_by setup t (EntryAt f 0) ≡ None
    → ShowsBudget q.budget (head_of_word (last_left setup t (EntryAt f 0)))

-- A head shows this budget, and the mark of this core.
pub record ShowsMarked (core budget : ℕ) (shown : Option HeadWord) : Type 0 where
  pub version : ℕ
  pub says : shown ≡ Some (record { budget = budget; mark = Some core; version = version })

-- At each moment the head of a temporal capability that a core has marked, in a call that is not decided, shows the core's mark and the
-- budget still.
abbrev pub OpenHeadsSay : Setting → Trace → Type 0
OpenHeadsSay setup t = (f : ℕ) (q : TcapFields) (d : ℕ) (call : Call)
    → (state_after setup t).frame f ≡ Kernel (Tcap q) → marked_by setup t (EntryAt f 0) ≡ Some d → phase t d ≡ Open call
    → ShowsMarked d q.budget (head_of_word (last_left setup t (EntryAt f 0)))

-- The state in which a core decided its last call.
abbrev pub state_of_decision : Setting → Trace → ℕ → State
state_of_decision setup [] c = start setup
state_of_decision setup (e ∷ t) c =
    if c == e.core && is_some e.decides then state_before setup t e else state_of_decision setup t c

-- A name of a core leads in this state to the temporal capability in this frame.
pub record LeadsTo (s : State) (c name f : ℕ) : Type 0 where
  pub cap : Capability
  pub is_named : named s c name (to_use (only Kind.Tcap)) ≡ Found cap
  pub frame : cap.frame ≡ f

-- What a marked head shows of the temporal capability in frame f, which has this budget, where its core's call was decided so in state s.
-- A transfer that is carried out has still to take the ticks from the head of that to which its first name led; so has a delegation, and
-- besides to add them to the head of that to which its second name led. In all other calls the head shows the budget.
abbrev pub Owes : State → ℕ → Reply → Call → ℕ → ℕ → ℕ → Type 0
Owes s c (Ok v) (Transfer x y m) f shown budget = LeadsTo s c x f × (shown ≡ budget + m)
Owes s c (Ok v) (Delegate x y m) f shown budget =
    (LeadsTo s c x f × (shown ≡ budget + m)) ⊎ (LeadsTo s c y f × (shown + m ≡ budget))
Owes s c r call f shown budget = shown ≡ budget

-- A head shows the mark of this core, and this budget but for the ticks that the core's call, decided so, has still to store there.
pub record ShowsOwed (s : State) (c : ℕ) (call : Call) (r : Reply) (f budget : ℕ) (head : Option HeadWord) : Type 0 where
  pub shown : ℕ
  pub shows : ShowsMarked c shown head
  pub owes : Owes s c r call f shown budget

-- At each moment the head of a temporal capability that a core has marked, in a call that is decided, shows the core's mark and the budget
-- but for the ticks that the call has still to store there.
abbrev pub MarkedHeadsSay : Setting → Trace → Type 0
MarkedHeadsSay setup t = (f : ℕ) (q : TcapFields) (d : ℕ) (call : Call)
    (r : Reply)
    → (state_after setup t).frame f ≡ Kernel (Tcap q) → marked_by setup t (EntryAt f 0) ≡ Some d → phase t d ≡ Decided call r
    → ShowsOwed (state_of_decision setup t d) d call r f q.budget (head_of_word (last_left setup t (EntryAt f 0)))

-- At each moment the words of a list say the list, of a temporal capability whose head no core has marked.
abbrev pub ListsSay : Setting → Trace → Type 0
ListsSay setup t = (f : ℕ) (q : TcapFields)
    → (state_after setup t).frame f ≡ Kernel (Tcap q) → marked_by setup t (EntryAt f 0) ≡ None → (j : ℕ) → j < 8
    → quality_of_word (last_left setup t (EntryAt f (suc j))) ≡ Some (record { 0 = slice_get q.qualities j })

-- What a test tells is so in one state: its names lead there to two temporal capabilities, and it tells whether the first preempts the
-- second by the budgets and the lists that both have there.
pub record TellsOf (s : State) (c x y : ℕ) (v : Value) : Type 0 where
  pub first : Capability
  pub second : Capability
  pub first_named : named s c x (to_use (only Kind.Tcap)) ≡ Found first
  pub second_named : named s c y (to_use (only Kind.Tcap)) ≡ Found second
  pub answer : v ≡ preemption (preempts (tcap_at s first.frame) (tcap_at s second.frame))

-- A step that decides a `test` with an answer tells so of the state that it finds, though the words of a list are read one by one.
abbrev pub TestsTell : Setting → Trace → Step → Type 0
TestsTell setup t e = (x y : ℕ) (v : Value) → after_enter e.enters (phase t e.core) ≡ Open (Test x y) → e.decides ≡ Some (Ok v)
    → TellsOf (state_before setup t e) e.core x y v
