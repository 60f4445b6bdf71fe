-- The steps of a call: the next one, and what it takes from the word found. They depend on what the core has of its own, on
-- where the call stands, and on the word found, and on nothing else.
use Rattle.act_states.specs as low
use Rattle.std.specs.Prelude.{◌+◌, ◌&&◌, ◌==◌, if◌then◌else◌}
use low.{ℕ, ℤ, Bool, true, false, leb as nat_le, length, Option, Some, None, List, pushed, Capability}
use low.{Reply, Ok, StageEnd, Entry, comp_of_word, CompWord, EntryAt, CoreAt, Move, LoadOf, StoreOf, shown_in, look_move, look_end}
use low.{look_after, Look, AtRoot, AtLeaf, AtEntry, Quiet, quiet_move, quiet_end, quiet_after, Pin, Pinned, Acquired, pin_move, pin_after}
use low.{pin_end, alive_end, alive_after, Alive, AtComp, Plan, Next, NextName, NextFree, NextHeld, NextOwn, NextNothing, next_of, reply_of}
use low.{refusal_of, refuse, act_move, took_act, act_ready, next_work, starts, undo, next_step, met_name, met_free, met_held, plan_for}
use low.call_plans.specs.{declared.plans.Decides.Decides as Deciding, declared.plans.Decides.TheVariants.LeafEntry}
use low.{declared.own.Own.Own, declared.own.OwnChange.OwnChange, declared.lookups.Met.Met, declared.lookups.Met.TheVariants.Finds}
use low.{declared.lookups.Met.TheVariants.Refused, declared.work.Act.Act as ActType, declared.work.Work.Work}
use low.{declared.work.Work.TheVariants.Lookup, declared.work.Work.TheVariants.Read, declared.work.Work.TheVariants.Scan}
use low.{declared.work.Work.TheVariants.Acquire, declared.work.Work.TheVariants.Act, declared.work.Tail.Tail}
use low.{declared.work.WorkStep.WorkStep, declared.work.WorkStep.TheVariants.Goes, declared.work.WorkStep.TheVariants.Acquires}
use low.{declared.work.WorkStep.TheVariants.Refuses, declared.work.WorkStep.TheVariants.Answers}
use low.{declared.work.WorkStep.TheVariants.Changes as work_changes, declared.refusals.Refusal.Refusal}
use Rattle.call_stages.specs.declared.stages.Stage.TheVariants.{Enter, Living, Undecided, Decided, Leave}
use Rattle.call_stages.specs.Tails.{tail_move, took_tail, tail_counts}
use low.{frame_words.specs.Core.word_of_core, stage_look.specs.declared.look.Found.Found, stage_pins.specs.Held.pushed as count_pushed}
use low.{stage_thread.specs.Living.alive_move}
use Rattle.{call_stages.specs.declared.stages.Stage.Stage, call_stages.specs.declared.stages.ActiveCall.ActiveCall}
use Rattle.{call_stages.specs.declared.stages.Told.Told}

-- the word of a core that is or is not inside a call, with the stamp of its last exit
abbrev pub core_word : Bool → ℕ → ℕ
core_word inside stamp = word_of_core (record { inside = inside; stamp = stamp })

-- the next step of the work of a call, and of a call
abbrev pub work_move : Work → Move
work_move (Lookup look) = look_move look
work_move (Read comp look) = LoadOf (EntryAt comp 2)
work_move (Scan q act) = quiet_move q
work_move (Acquire pin change act) = pin_move pin
work_move (Act act) = act_move act

-- the next step of a core at a stage of its call, which has acquired these counts
abbrev pub stage_move : Own → List Acquired → Stage → Move
stage_move own counts Enter = StoreOf (CoreAt own.core) (core_word true own.exit)
stage_move own counts (Living alive) = alive_move alive
stage_move own counts (Undecided work) = work_move work
stage_move own counts (Decided r drawn tail) = tail_move r drawn tail counts
stage_move own counts (Leave r stamp) = StoreOf (CoreAt own.core) (core_word false stamp)

-- What a step led to: the call goes on; it is decided with this reply and goes on; it returns this reply, and its core word was
-- left with this stamp; it is decided with this reply, changes this of what its core has of its own, and goes on.
pub data Took : Type 0 where
  GoesOn : ActiveCall → Took
  Decides : Reply → ActiveCall → Took
  Returns : Reply → ℕ → Took
  Changes : Reply → OwnChange → ActiveCall → Took

-- the call, one step further, at this stage
abbrev pub went : ActiveCall → Stage → ActiveCall
went a s = record a { steps = a.steps + 1; stage = s }

-- the call, one step further, with these counts
abbrev pub went_with : ActiveCall → List Acquired → Stage → ActiveCall
went_with a counts s = record a { steps = a.steps + 1; stage = s; counts = counts }

-- the call is decided with this reply, has drawn this stamp or none, and has this still to store
abbrev pub decided : ActiveCall → Reply → Option ℕ → Tail → Took
decided a r drawn tail = Decides r (went a (Decided r drawn tail))

-- where a step of its work takes a call
abbrev pub landed : ActiveCall → WorkStep → Took
landed a (Goes work) = GoesOn (went a (Undecided work))
landed a (Acquires count work) = GoesOn (went_with a (count_pushed a.counts count) (Undecided work))
landed a (Refuses r tail) = decided a (reply_of r) None tail
landed a (Answers v drawn tail) = decided a (Ok v) drawn tail
landed a (work_changes r change drawn tail) = Changes r change (went a (Decided r drawn tail))

-- its names have led to one capability more
abbrev pub found_more : ActiveCall → List Capability → ActiveCall
found_more a found = record a { found = found }

-- it has read this epoch
abbrev pub read_more : ActiveCall → ℕ → ActiveCall
read_more a epoch = record a { read = Some epoch }

-- what comes next of a core's call
abbrev pub next_by : Own → ActiveCall → WorkStep
next_by own a = next_step own a.call a.found (next_of (plan_for a.call) a.found)

-- what comes first of a core's call: it is asked whether its component lives, where its plan says so
abbrev pub took_first : Bool → Own → ActiveCall → Took
took_first living own a = if living then GoesOn (went a (Living (AtComp own.comp))) else landed a (next_by own a)

-- at its entry a call is refused where the core's calls are spent
abbrev pub took_enter : Bool → Own → ActiveCall → Took
took_enter spent own a = if spent then landed a (refuse Refusal.CallsSpent) else took_first (plan_for a.call).living own a

-- what a call takes from a step of the question whether its component lives, which stands here after it
abbrev pub took_alive : Own → ActiveCall → Alive → StageEnd (Unit {0}) → Took
took_alive own a alive StageEnd.Going = GoesOn (went a (Living alive))
took_alive own a alive (StageEnd.Decided r) = landed a (refuse (refusal_of r))
took_alive own a alive (StageEnd.Done x) = landed a (next_by own a)
took_alive own a alive (StageEnd.Refuse r) = landed a (refuse (refusal_of r))

-- one name more has led to a capability, or the call is refused
abbrev pub named_one : Own → ActiveCall → Met → Took
named_one own a (Finds k) = landed (found_more a (pushed a.found k)) (next_by own (found_more a (pushed a.found k)))
named_one own a (Refused r) = landed a (refuse r)

-- what a call that has looked this up takes from the place that was found
abbrev pub took_found : Own → ActiveCall → Next → Found → Took
took_found own a (NextName n wanted) f = named_one own a (met_name wanted f.value)
took_found own a (NextFree target) f = landed a (met_free own a.call a.found a.read f f.value)
took_found own a (NextHeld target) f = landed a (met_held own a.call a.found f f.value)
took_found own a (NextOwn v) f = landed a (refuse Refusal.Raced)
took_found own a NextNothing f = landed a (refuse Refusal.Raced)

-- what a call takes from a step of a look-up, which stands at `look` after it
abbrev pub took_end : Own → ActiveCall → Look → StageEnd Found → Took
took_end own a look StageEnd.Going = landed a (Goes (Lookup look))
took_end own a look (StageEnd.Decided r) = landed a (refuse (refusal_of r))
took_end own a look (StageEnd.Done f) = took_found own a (next_of (plan_for a.call) a.found) f
took_end own a look (StageEnd.Refuse r) = landed a (refuse (refusal_of r))

-- what a call takes from a step of a look-up that has found this word, which shows this
abbrev pub took_look : Own → ActiveCall → Look → ℕ → Option Entry → Took
took_look own a look word shown = took_end own a (look_after look shown) (look_end look word shown)

-- what a call takes from the load of a component's word, which names this: its target is looked up next
abbrev pub took_read : ActiveCall → Look → Option CompWord → Took
took_read a look None = landed a (refuse Refusal.Raced)
took_read a look (Some life) = landed (read_more a life.epoch) (Goes (Lookup look))

-- a call that acquires a count for an act is refused, with what it has then still to store
abbrev pub gives_up : Refusal → ActType → WorkStep
gives_up r act = Refuses r (undo act)

-- what a call takes from a step by which it acquires a count for an act: it is refused, or goes on to the next count or the act
abbrev pub took_count : ℕ → ℕ → ℤ → ActType → Pin → StageEnd Pinned → WorkStep
took_count core n change act pin StageEnd.Going = Goes (Acquire pin change act)
took_count core n change act pin (StageEnd.Decided r) = gives_up (refusal_of r) act
took_count core n change act pin (StageEnd.Done p) = Acquires (record { pin = p; change = change }) (next_work core (n + 1) act)
took_count core n change act pin (StageEnd.Refuse r) = gives_up (refusal_of r) act

-- what a call takes from a step of a scan, which stands here after it: it is refused, or goes on to the next core or to its act
abbrev pub took_scan : ℕ → ActType → Quiet → StageEnd (Unit {0}) → WorkStep
took_scan core act q StageEnd.Going = Goes (Scan q act)
took_scan core act q (StageEnd.Decided r) = refuse (refusal_of r)
took_scan core act q (StageEnd.Done x) = starts core act
took_scan core act q (StageEnd.Refuse r) = refuse (refusal_of r)

-- what a call takes from a step of its work
abbrev pub took_work : Own → ActiveCall → Work → ℕ → Took
took_work own a (Lookup look) found = took_look own a look found (shown_in own.layout.frames found)
took_work own a (Read comp look) found = took_read a look (comp_of_word found)
took_work own a (Scan q act) found =
    landed a (took_scan own.core act (quiet_after own.layout.cores q found) (quiet_end own.layout.cores q found))
took_work own a (Acquire pin change act) found =
    landed a (took_count own.core (length a.counts) change act (pin_after pin found) (pin_end pin found))
took_work own a (Act act) found = landed a (took_act own.layout act found)

-- whether a core has made as many calls as it may
abbrev pub is_spent : Own → Bool
is_spent own = nat_le own.limit own.made

-- what a call takes at a stage from the word found
abbrev pub took_at : Own → ActiveCall → Stage → ℕ → Took
took_at own a Enter found = took_enter (is_spent own) own a
took_at own a (Living alive) found = took_alive own a (alive_after alive found) (alive_end alive found)
took_at own a (Undecided work) found = took_work own a work found
took_at own a (Decided r drawn tail) found = GoesOn (went_with a (tail_counts tail a.counts) (took_tail r drawn tail a.counts found))
took_at own a (Leave r stamp) found = Returns r stamp

abbrev pub took : Own → ActiveCall → ℕ → Took
took own a found = took_at own a a.stage found

-- what is told of a step that led to this
abbrev pub told : Took → Told
told (GoesOn a) = Told.Going
told (Decides r a) = Told.Decided r
told (Returns r stamp) = Told.Returned r stamp
told (Changes r change a) = Told.Changed r change

-- the call after a step that led to this; one that returns stays as it was
abbrev pub call_after : ActiveCall → Took → ActiveCall
call_after old (GoesOn a) = a
call_after old (Decides r a) = a
call_after old (Returns r stamp) = old
call_after old (Changes r change a) = a

-- whether the next load is that of the place that is looked for
abbrev pub is_last : Look → Bool
is_last (AtRoot root number) = false
is_last (AtLeaf leaf number) = true
is_last (AtEntry root entry) = true

-- whether a call with this plan is decided where its last name is found
abbrev pub decides_at_name : Deciding → Bool
decides_at_name LeafEntry = true
decides_at_name _ = false

-- whether the next name is the last of a plan
abbrev pub is_last_name : Plan → List Capability → Bool
is_last_name plan found = length found + 1 == length plan.names

-- whether the next step of its work is the one that decides the call's `ok`
abbrev pub work_ready : Plan → List Capability → Work → Bool
work_ready plan found (Lookup look) = decides_at_name plan.decides && is_last_name plan found && is_last look
work_ready plan found (Read comp look) = false
work_ready plan found (Scan q act) = false
work_ready plan found (Acquire pin change act) = false
work_ready plan found (Act act) = act_ready act

-- whether a call is ready: the next step is the one that decides its `ok`, or it is decided
abbrev pub ready_at : Plan → List Capability → Stage → Bool
ready_at plan found Enter = false
ready_at plan found (Living alive) = false
ready_at plan found (Undecided work) = work_ready plan found work
ready_at plan found (Decided r drawn tail) = true
ready_at plan found (Leave r stamp) = true

abbrev pub is_ready : ActiveCall → Bool
is_ready a = ready_at (plan_for a.call) a.found a.stage
