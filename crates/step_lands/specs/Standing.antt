-- Where a call stands that makes a step after its look-ups, and what a step leads to that ends a scan or the acquiring of a count.
use Rattle.call_stages.specs.act_states.specs as low
use Rattle.std.specs.Prelude.{◌+◌}
use low.{length, Pinned, Acquired, Value, StageEnd, next_of, refusal_of, refuse, next_work, starts, took_shared, plan_for}
use Rattle.call_stages.specs.{Took, GoesOn, went, landed, next_by, took_found, gives_up}
use low.declared.work.Act.TheVariants.{Invoke, Remove, Return, Share, Switch, Tick}
use low.declared.work.Work.TheVariants.{Lookup, Read, Scan, Acquire, Act}
use Rattle.call_stages.specs.{declared.stages.ActiveCall.ActiveCall, declared.stages.Stage.Stage, declared.stages.Stage.TheVariants.Living}
use Rattle.call_stages.specs.{declared.stages.Stage.TheVariants.Undecided, declared.stages.Stage.TheVariants.Decided}
use low.{declared.own.Own.Own, declared.refusals.Refusal.Refusal, declared.refusals.Refusal.TheVariants.Raced}
use low.{declared.work.Tail.TheVariants.Share as share_tail, declared.work.WorkStep.TheVariants.Acquires}
use Rattle.{call_stages.specs.stage_look.specs.declared.look.Found.Found}

-- the call makes its act
abbrev pub IsActing : Stage → Type 0
IsActing (Undecided (Act act)) = Unit {0}
IsActing _ = ⊥

-- it makes an act on two temporal capabilities
abbrev pub IsSharing : Stage → Type 0
IsSharing (Undecided (Act (Share p))) = Unit {0}
IsSharing _ = ⊥

-- it makes an act of another kind
abbrev pub IsRemoving : Stage → Type 0
IsRemoving (Undecided (Act (Remove close cap))) = Unit {0}
IsRemoving _ = ⊥

abbrev pub IsTicking : Stage → Type 0
IsTicking (Undecided (Act (Tick charge))) = Unit {0}
IsTicking _ = ⊥

abbrev pub IsInvoking : Stage → Type 0
IsInvoking (Undecided (Act (Invoke m))) = Unit {0}
IsInvoking _ = ⊥

abbrev pub IsReturning : Stage → Type 0
IsReturning (Undecided (Act (Return m))) = Unit {0}
IsReturning _ = ⊥

abbrev pub IsSwitching : Stage → Type 0
IsSwitching (Undecided (Act (Switch m))) = Unit {0}
IsSwitching _ = ⊥

-- it is asked whether its core's component lives
abbrev pub IsAsking : Stage → Type 0
IsAsking (Living alive) = Unit {0}
IsAsking _ = ⊥

-- a place is looked up, or the word of a component is loaded before
abbrev pub IsLooking : Stage → Type 0
IsLooking (Undecided (Lookup look)) = Unit {0}
IsLooking _ = ⊥

abbrev pub IsReading : Stage → Type 0
IsReading (Undecided (Read comp look)) = Unit {0}
IsReading _ = ⊥

-- the other cores are scanned for it
abbrev pub IsScanning : Stage → Type 0
IsScanning (Undecided (Scan q act)) = Unit {0}
IsScanning _ = ⊥

-- it acquires a count
abbrev pub IsAcquiring : Stage → Type 0
IsAcquiring (Undecided (Acquire pin change act)) = Unit {0}
IsAcquiring _ = ⊥

-- the call is decided, and has not begun its exit
abbrev pub IsStoring : Stage → Type 0
IsStoring (Decided r drawn tail) = Unit {0}
IsStoring _ = ⊥

-- it is decided, and has words of two temporal capabilities to store
abbrev pub IsStoringShare : Stage → Type 0
IsStoringShare (Decided r drawn (share_tail p)) = Unit {0}
IsStoringShare _ = ⊥

-- what a call takes from a step of a look-up, which stands here after it
abbrev pub looked_to : Own → ActiveCall → StageEnd Found → Took
looked_to own a StageEnd.Going = GoesOn (went a a.stage)
looked_to own a (StageEnd.Decided r) = landed a (refuse (refusal_of r))
looked_to own a (StageEnd.Done f) = took_found own a (next_of (plan_for a.call) a.found) f
looked_to own a (StageEnd.Refuse r) = landed a (refuse (refusal_of r))

-- what a call takes from a step of the question whether its component lives, which stands here after it
abbrev pub asked_to : Own → ActiveCall → StageEnd (Unit {0}) → Took
asked_to own a StageEnd.Going = GoesOn (went a a.stage)
asked_to own a (StageEnd.Decided r) = landed a (refuse (refusal_of r))
asked_to own a (StageEnd.Done x) = landed a (next_by own a)
asked_to own a (StageEnd.Refuse r) = landed a (refuse (refusal_of r))

-- what a call on two temporal capabilities, which stands here, takes from its step
abbrev pub shared_to : ActiveCall → Stage → StageEnd Value → Took
shared_to a (Undecided (Act (Share p))) end = landed a (took_shared p end)
shared_to a _ end = landed a (refuse Raced)

-- a call whose scan is done starts its act
abbrev pub scanned : Own → ActiveCall → Stage → Took
scanned own a (Undecided (Scan q act)) = landed a (starts own.core act)
scanned own a _ = landed a (refuse Raced)

-- a call that has acquired a count goes on to the next, or to its act
abbrev pub counted : Own → ActiveCall → Stage → Pinned → Took
counted own a (Undecided (Acquire pin change act)) p =
    landed a (Acquires (record { pin = p; change = change }) (next_work own.core (length a.counts + 1) act))
counted own a _ p = landed a (refuse Raced)

-- the same, by how much the call changes it being known
abbrev pub counted_to : Own → ActiveCall → Stage → Acquired → Took
counted_to own a (Undecided (Acquire pin change act)) count = landed a (Acquires count (next_work own.core (length a.counts + 1) act))
counted_to own a _ count = landed a (refuse Raced)

-- a call that does not acquire a count is refused, with what it has then still to store
abbrev pub given_up : ActiveCall → Stage → Refusal → Took
given_up a (Undecided (Acquire pin change act)) r = landed a (gives_up r act)
given_up a _ r = landed a (refuse Raced)
