-- The steps of a core: its next one, and the core after it. Which calls there are is not said here.
use Rattle.std.specs.Prelude.{◌+◌}
use Rattle.act_states.specs.{ℕ, Bool, false, [], Option, Some, None, slice_get, Setting, Call, Reply, CoreEnd, ClockAt, Move, LoadOf}
use Rattle.act_states.specs.{calls_counted, own_changed}
use Rattle.call_stages.specs.{declared.stages.Stage.TheVariants.Enter, declared.stages.ActiveCall.ActiveCall}
use Rattle.call_stages.specs.{declared.stages.Absorbed.Absorbed, View.Core, Steps.stage_move, Steps.Took, Steps.GoesOn, Steps.Decides}
use Rattle.call_stages.specs.{Steps.Returns, Steps.Changes, Steps.took, Steps.is_ready}
use Rattle.{act_states.specs.kernel_rules.specs.Start.grant_pair, act_states.specs.declared.own.Own.Own}

-- core c at the start: on its own thread and temporal capability, in the component of the start, in no call
abbrev pub started : ℕ → Setting → Core
started c setting = record {
  own = record {
    core = c;
    layout = record { cores = setting.cores; frames = setting.frames };
    table = 0;
    limit = setting.calls;
    epochs = setting.epochs;
    made = 0;
    exit = 0;
    thread = 4 + c;
    depth = 1;
    comp = 3;
    pages = 2;
    tcap = 4 + setting.cores + c;
    owed = 0;
    spent = 0;
    back = 0;
    grant = grant_pair (slice_get setting.grants c);
    cached = [];
  };
  active = None;
}

-- what the end of a run tells of a core
abbrev pub end_of : Core → CoreEnd
end_of c = record {
  thread = c.own.thread;
  tcap = c.own.tcap;
  comp = c.own.comp;
  spent = c.own.spent;
  back = c.own.back;
  owed = c.own.owed;
  cached =
      c.own.cached;
}

-- a call that has made no step
abbrev pub fresh : Call → ActiveCall
fresh call = record { steps = 0; stage = Enter; found = []; read = None; counts = []; call = call }

-- the core that has begun this call
abbrev pub begun : Core → Call → Core
begun c call = record c { active = Some (fresh call) }

-- the next step of a core, by the name of its word; without a call there is none, and the clock is read
abbrev pub move_in : Own → Option ActiveCall → Move
move_in own None = LoadOf ClockAt
move_in own (Some a) = stage_move own a.counts a.stage

abbrev pub move_of : Core → Move
move_of c = move_in c.own c.active

-- whether a core's call is ready: its next step is the one that decides its `ok`, or it is decided
abbrev pub ready_in : Option ActiveCall → Bool
ready_in None = false
ready_in (Some a) = is_ready a

abbrev pub ready_of : Core → Bool
ready_of c = ready_in c.active

-- what a decision changes of what a core has of its own: it counts the call, but for one answered `calls-spent`
abbrev pub own_decided : Own → Reply → Own
own_decided own r = record own { made = own.made + calls_counted r }

-- the core after a step that led to this; a return keeps the stamp that the core word was left with
abbrev pub core_after : Own → Took → Core
core_after own (GoesOn a) = record { own = own; active = Some a }
core_after own (Decides r a) = record { own = own_decided own r; active = Some a }
core_after own (Returns r stamp) = record { own = record own { exit = stamp }; active = None }
core_after own (Changes r change a) = record { own = own_decided (own_changed own change) r; active = Some a }

-- the core after its step on a word in which it found this; after a store this is the word stored
abbrev pub absorbed_in : Own → Option ActiveCall → ℕ → Core
absorbed_in own None found = record { own = own; active = None }
absorbed_in own (Some a) found = core_after own (took own a found)

abbrev pub absorbed : Core → ℕ → Core
absorbed c found = absorbed_in c.own c.active found

-- what a core tells of a step that led to this
abbrev pub told_by : Took → Absorbed
told_by (GoesOn a) = Absorbed.Going
told_by (Decides r a) = Absorbed.Decided r
told_by (Returns r stamp) = Absorbed.Returned r
told_by (Changes r change a) = Absorbed.Decided r

abbrev pub told_in : Own → Option ActiveCall → ℕ → Absorbed
told_in own None found = Absorbed.Going
told_in own (Some a) found = told_by (took own a found)

-- what a core tells of its step
abbrev pub told_of_step : Core → ℕ → Absorbed
told_of_step c found = told_in c.own c.active found
