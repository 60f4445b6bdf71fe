-- The start state, as a function of the setting.
use Rattle.std.specs.Prelude.{ℕ, ◌+◌, ◌-◌, ◌*◌, false, ◌==◌, nat_lt, if◌then◌else◌, [], ◌∷◌, Option, Some, None, slice_get}
use Rattle.spk_nums.specs.{Capability.Capability, Capability.cap_of, Setting.Setting, declared.grants.Grant.Grant, declared.kinds.Kind.Kind}
use Rattle.kernel_rules.specs.State.{Place, Free, Holds, CompFields, TcapFields, Frame, Untyped, Kernel, Table, Leaf, Pages, Comp, Thread}
use Rattle.kernel_rules.specs.State.{Tcap, Liveness, Unused, Live, Core, Grace, State}

-- A capability to a frame, without a number of its own.
abbrev pub plain_cap : Kind → ℕ → Capability
plain_cap k f = cap_of k f 0

-- The range of the frames that are untyped at the start.
abbrev pub start_range : Setting → Capability
start_range setting = cap_of Kind.Range (4 + 2 * setting.cores) (setting.frames - 4 - 2 * setting.cores)

-- The capabilities that each core c is given: 4 + c to its thread, and 12 + c to its temporal capability.
abbrev pub core_cap : Setting → ℕ → Option Capability
core_cap setting i =
    if nat_lt i 4 then None
    else (if nat_lt i (4 + setting.cores) then Some (plain_cap Kind.Thread i)
    else (if nat_lt i 12 then None
    else (if nat_lt i (12 + setting.cores) then Some (plain_cap Kind.Tcap (4 + setting.cores + (i - 12)))
    else None)))

-- The capabilities of the start: 0 to the range, 1 to the table, 2 to the pages, 3 to the component, then those of the cores.
abbrev pub start_cap : Setting → ℕ → Option Capability
start_cap setting i =
    if i == 0 then Some (start_range setting)
    else (if i == 1 then Some (plain_cap Kind.Table 0)
    else (if i == 2 then Some (plain_cap Kind.Pages 2)
    else (if i == 3 then Some (plain_cap Kind.Comp 3)
    else core_cap setting i)))

-- A place that holds this capability, or is free.
abbrev pub place_with : Option Capability → Place
place_with None = Free
place_with (Some k) = Holds k

-- The places of the start: entry 0 of the table's root links its leaf, frame 1, which has the capabilities of the start.
abbrev pub start_place : Setting → ℕ → ℕ → Place
start_place setting f i =
    if f == 0 then (if i == 0 then Holds (plain_cap Kind.Link 1) else Free)
    else (if f == 1 then place_with (start_cap setting i) else Free)

-- The component of the start: table 0, pages 2, liveness number 0 in epoch 1.
abbrev pub start_comp : CompFields
start_comp = record { table = 0; pages = 2; number = 0; epoch = 1 }

-- The temporal capability that a grant gives: its budget, and the list of its one pair.
abbrev pub granted : Option Grant → TcapFields
granted None = record { budget = 0; qualities = [] }
granted (Some g) = record { budget = g.budget; qualities = (g.sched, g.quality) ∷ [] }

-- The scheduler and the number of a grant.
abbrev pub grant_pair : Option Grant → ℕ × ℕ
grant_pair None = (0, 0)
grant_pair (Some g) = (g.sched, g.quality)

-- The frames of the start: 0 to 3 have the table, its leaf, the pages and the component, then come each core's thread and
-- each core's temporal capability; the rest are untyped.
abbrev pub start_frame : Setting → ℕ → Frame
start_frame setting f =
    if f == 0 then Kernel Table
    else (if f == 1 then Kernel Leaf
    else (if f == 2 then Kernel Pages
    else (if f == 3 then Kernel (Comp start_comp)
    else (if nat_lt f (4 + setting.cores) then Kernel (Thread (record { stack = 3 ∷ []; runs_on = Some (f - 4) }))
    else (if nat_lt f (4 + 2 * setting.cores) then Kernel (Tcap (granted (slice_get setting.grants (f - 4 - setting.cores))))
    else Untyped)))))

-- The liveness numbers of the start: 0 is live for the component.
abbrev pub start_number : ℕ → Liveness
start_number l = if l == 0 then Live 1 3 else Unused

-- A core at the start: out of a call, on its own thread and temporal capability, without translation, spent or owed ticks, with its grant.
abbrev pub start_core : Setting → ℕ → Core
start_core setting c = record {
  inside = false;
  thread = 4 + c;
  tcap = 4 + setting.cores + c;
  cached = [];
  spent = 0;
  back = 0;
  owed = 0;
  counted = 0;
  grant = grant_pair (slice_get setting.grants c);
}

-- No grace period: all four sets are empty.
abbrev pub no_grace : Grace
no_grace = record { waits = λ c. false; not_passed = λ c. false; unflushed = λ c. false; flush_unknown = λ c. false }

-- The start state.
abbrev pub start : Setting → State
start setting = record {
  place = start_place setting;
  frame = start_frame setting;
  number = start_number;
  core = start_core setting;
  grace = λ x. no_grace;
  limits = record { cores = setting.cores; frames = setting.frames; calls = setting.calls; epochs = setting.epochs };
}
