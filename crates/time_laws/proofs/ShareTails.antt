-- What a decided call on two temporal capabilities has still to store: what each head that it has marked owes. And which steps of a call
-- lead to it: those of its act alone.
use Rattle.flight.specs.core_invariant.proofs as low
use low.{◌≡◌, ℕ, ◌==◌, ltb as nat_lt, leb as nat_le, Bool, true, false, List, [], ◌∷◌, Option, Some, None, false≢true, Capability, Call}
use low.{Transfer, Delegate, Test, Reply, StageEnd, Entry, CompWord, Target, Under, Replenish, InRoot, State, changes_budgets, Look}
use low.{Acquired, Quiet, Thaw, debited, credited, amount_of, Pair, PairAt, LoadA, MarkA, ListA, LoadB, ListB, CompareB, AgainB, StoreList}
use low.{StoreB, StoreA, PairWork, First, Second, at_place, Next, NextName, NextFree, NextHeld, NextOwn, NextNothing, next_of, Own, Outside}
use low.{Tail, Nothing, Release, Push, Pop, Lookup, Read, Scan}
use low.{Acquire, Act, WorkStep, Goes, Refuses, act_begun, reads_of, starts, refuse, Stage, Decided, ActiveCall, Took, GoesOn, Decides}
use low.{Returns, Changes, landed, found_more, took_scan, Acquires, Answers, reply_of, next_by, took_tail, plan_for, Refusal}
use Rattle.flight.specs.act_states.specs.{Tick, Ok, pair_after, pushed, looks_under, looks_entry, looks_at, read_first, next_step, met_name}
use Rattle.flight.specs.act_states.specs.{met_free, met_held, refusal_of, shares_if, shares_at, after_share, refills_at, touches_if}
use Rattle.flight.specs.act_states.specs.{release_after, Alive, declared.work.Tail.TheVariants.Share, declared.lookups.Met.Met}
use Rattle.flight.specs.call_stages.specs.{read_more, took_first, took_enter, took_alive, named_one, took_found, took_end, took_read}
use Rattle.flight.specs.act_states.specs.{declared.lookups.Met.TheVariants.Finds, declared.lookups.Met.TheVariants.Refused}
use Rattle.flight.specs.act_states.specs.{declared.untypings.Release.Release as ReleaseOf, declared.work.Act.Act as ActOf}
use Rattle.flight.specs.act_states.specs.{declared.work.WorkStep.TheVariants.Changes as work_changes, Untypings.after_store}
use Rattle.{flight.specs.stage_look.specs.declared.look.Found.Found, flight.specs.stage_tcap.specs.Pairs.store_next}
use Rattle.{history_laws.specs.Time.Owes}
use Rattle.flight.specs.stage_thread.specs.declared.stack.Push.TheVariants as push
use Rattle.flight.specs.stage_thread.specs.declared.stack.Pop.TheVariants as pop

-- The head of the first, which a call decided so in state s has still to store with the ticks less; and that of the second, with them more.
abbrev pub OwesFirst : State → ℕ → Reply → Call → Pair → Type 0
OwesFirst s c r call p = Owes s c r call p.a p.head_a.budget (debited p.head_a (amount_of p.what)).budget

abbrev pub OwesSecond : State → ℕ → Reply → Call → Pair → Type 0
OwesSecond s c r call p = Owes s c r call p.b p.head_b.budget (credited p.head_b (amount_of p.what)).budget

-- What each head shows that is still to be stored, where the call stands there.
abbrev pub OwesAt : State → ℕ → Reply → Call → Pair → PairAt → Type 0
OwesAt s c r call p LoadA = ⊥
OwesAt s c r call p MarkA = ⊥
OwesAt s c r call p (ListA n) = ⊥
OwesAt s c r call p LoadB = ⊥
OwesAt s c r call p (ListB n) = ⊥
OwesAt s c r call p CompareB = ⊥
OwesAt s c r call p (AgainB x) = ⊥
OwesAt s c r call p (StoreList n) = OwesFirst s c r call p × OwesSecond s c r call p
OwesAt s c r call p StoreB = OwesFirst s c r call p × OwesSecond s c r call p
OwesAt s c r call p (StoreA true v) = OwesFirst s c r call p
OwesAt s c r call p (StoreA false v) = (f shown : ℕ) → Owes s c r call f shown shown

abbrev pub OwesTail : State → ℕ → Reply → Call → Tail → Type 0
OwesTail s c r call (Share p) = OwesAt s c r call p p.at
OwesTail s c r call tail = Unit {0}

abbrev pub OwesStage : State → ℕ → Call → Stage → Type 0
OwesStage s c call (Decided r drawn tail) = OwesTail s c r call tail
OwesStage s c call stage = Unit {0}

-- It is said of the calls that change budgets, since no other call comes to such stores.
abbrev pub OwesIn : State → ℕ → Option ActiveCall → Type 0
OwesIn s c None = Unit {0}
OwesIn s c (Some a) = changes_budgets a.call ≡ true → OwesStage s c a.call a.stage

-- After a step that decides in state `now`, or of a call that was decided in state `before`.
abbrev pub OwesTook : State → State → ℕ → Took → Type 0
OwesTook now before c (GoesOn a) = OwesIn before c (Some a)
OwesTook now before c (Decides r a) = OwesIn now c (Some a)
OwesTook now before c (Returns r x) = Unit {0}
OwesTook now before c (Changes r change a) = OwesIn now c (Some a)

-- The stores

-- A store leaves what the heads owe that are still to be stored.
pub share_on : (s : State) (c : ℕ) (r : Reply) (call : Call) (p : Pair) (found : ℕ) → OwesAt s c r call p p.at
    → OwesTail s c r call (after_share p found)
share_on s c r call p found owes = by p.at owes
  where
    next : (q : Pair) (more : Bool) (n : ℕ) → OwesFirst s c r call q × OwesSecond s c r call q → OwesAt s c r call q (store_next more n)
    next q true n owes = owes
    next q false n owes = owes

    by : (at : PairAt) → OwesAt s c r call p at → OwesTail s c r call (after_share (record p { at = at }) found)
    by (StoreList n) owes = next (pair_after (record p { at = StoreList n }) found) (nat_lt n 8) n owes
    by StoreB owes = owes.0
    by (StoreA moved v) owes = tt
    by _ owes = absurd owes

-- No word of two temporal capabilities is still to be stored.
abbrev pub StoresNone : Tail → Type 0
StoresNone (Share p) = ⊥
StoresNone tail = Unit {0}

none_owed : (s : State) (c : ℕ) (r : Reply) (call : Call) (tail : Tail) → StoresNone tail → OwesTail s c r call tail
none_owed s c r call (Share p) none = absurd none
none_owed s c r call tail none = tt

thawed_none : (x : ReleaseOf) (o : Option Thaw) → StoresNone (after_store x o)
thawed_none x None = tt
thawed_none x (Some t) = tt

-- What is stored after a store of a decided call.
pub tail_on : (s : State) (c : ℕ) (r : Reply) (drawn : Option ℕ) (call : Call) (tail : Tail) (counts : List Acquired) (found : ℕ)
    → OwesTail s c r call tail → OwesStage s c call (took_tail r drawn tail counts found)
tail_on s c r drawn call Nothing [] found owes = tt
tail_on s c r drawn call (Release x) [] found owes = none_owed s c r call (release_after x) (thawed_none x x.thaw)
tail_on s c r drawn call (Release x) (y ∷ ys) found owes = tt
tail_on s c r drawn call (Push (push.AtThread f core depth)) counts found owes = tt
tail_on s c r drawn call (Pop (pop.AtThread f core depth)) counts found owes = tt
tail_on s c r drawn call (Share p) counts found owes = share_on s c r call p found owes
tail_on s c r drawn call tail counts found owes = tt

-- The work of other acts

-- A step of the work that leaves none.
abbrev pub LeavesNone : WorkStep → Type 0
LeavesNone (Goes work) = Unit {0}
LeavesNone (Acquires count work) = Unit {0}
LeavesNone (Refuses r tail) = StoresNone tail
LeavesNone (Answers v drawn tail) = StoresNone tail
LeavesNone (work_changes r change drawn tail) = StoresNone tail

pub landed_none : (now before : State) (c : ℕ) (a : ActiveCall) (step : WorkStep) → (changes_budgets a.call ≡ true → LeavesNone step)
    → OwesTook now before c (landed a step)
landed_none now before c a (Refuses r tail) none = λ budgets. none_owed now c (reply_of r) a.call tail (none budgets)
landed_none now before c a (Answers v drawn tail) none = λ budgets. none_owed now c (Ok v) a.call tail (none budgets)
landed_none now before c a (work_changes r change drawn tail) none = λ budgets. none_owed now c r a.call tail (none budgets)
landed_none now before c a _ none = λ budgets. tt

under_none : (within : Bool) (root n : ℕ) → LeavesNone (looks_under within root n)
under_none true root n = tt
under_none false root n = tt

entry_none : (within : Bool) (root i : ℕ) → LeavesNone (looks_entry within root i)
entry_none true root i = tt
entry_none false root i = tt

target_none : (target : Target) → LeavesNone (looks_at target)
target_none (Under table n) = under_none (nat_le n 4095) table.frame n
target_none (InRoot table i) = entry_none (nat_le i 63) table.frame i

read_none : (o : Option ℕ) (step : WorkStep) → LeavesNone step → LeavesNone (read_first o step)
read_none None step none = none
read_none (Some comp) (Goes (Lookup look)) none = tt
read_none (Some comp) (Goes (Read f look)) none = tt
read_none (Some comp) (Goes (Scan q act)) none = tt
read_none (Some comp) (Goes (Acquire pin change act)) none = tt
read_none (Some comp) (Goes (Act act)) none = tt
read_none (Some comp) (Acquires count work) none = tt
read_none (Some comp) (Refuses r tail) none = none
read_none (Some comp) (Answers v drawn tail) none = none
read_none (Some comp) (work_changes r change drawn tail) none = none

share_none : (same : Bool) (core : ℕ) (what : PairWork) (f g : ℕ) → LeavesNone (shares_if same core what f g)
share_none true core what f g = tt
share_none false core what f g = tt

shares_none : (core : ℕ) (what : PairWork) (a b : Option Capability) → LeavesNone (shares_at core what a b)
shares_none core what (Some a) (Some b) = share_none (a.frame == b.frame) core what a.frame b.frame
shares_none core what None b = tt
shares_none core what (Some a) None = tt

refills_none : (own : Own) (m : ℕ) (o : Option Capability) → LeavesNone (refills_at own m o)
refills_none own m None = tt
refills_none own m (Some k) = tt

-- A call that changes budgets begins its act.
begun_none : (own : Own) (call : Call) (ks : List Capability) (read : Option ℕ) (target : Option Found) → changes_budgets call ≡ true
    → LeavesNone (act_begun own call ks read target)
begun_none own (Tick n) ks read target budgets = tt
begun_none own (Replenish x m) ks read target budgets = refills_none own m (at_place ks First)
begun_none own (Transfer x y m) ks read target budgets = shares_none own.core (PairWork.Transfer m) (at_place ks First) (at_place ks Second)
begun_none own (Delegate x y m) ks read target budgets = shares_none own.core (PairWork.Delegate m) (at_place ks First) (at_place ks Second)
begun_none own (Test x y) ks read target budgets = shares_none own.core PairWork.Test (at_place ks First) (at_place ks Second)
begun_none own call ks read target budgets = absurd (false≢true budgets)

touch_none : (within : Bool) (own : Own) (v : ℕ) → LeavesNone (touches_if within own v)
touch_none true own v = tt
touch_none false own v = tt

next_none : (own : Own) (call : Call) (ks : List Capability) (next : Next) → changes_budgets call ≡ true
    → LeavesNone (next_step own call ks next)
next_none own call ks (NextName n wanted) budgets = under_none (nat_le n 4095) own.table n
next_none own call ks (NextFree target) budgets = read_none (reads_of call ks) (looks_at target) (target_none target)
next_none own call ks (NextHeld target) budgets = target_none target
next_none own call ks (NextOwn v) budgets = touch_none (nat_le v 4095) own v
next_none own call ks NextNothing budgets = begun_none own call ks None None budgets

pub enter_none : (now before : State) (c : ℕ) (spent : Bool) (own : Own) (a : ActiveCall) → OwesTook now before c (took_enter spent own a)
enter_none now before c true own a = landed_none now before c a (refuse Refusal.CallsSpent) (λ budgets. tt)
enter_none now before c false own a = first_none (plan_for a.call).living
  where
    first_none : (living : Bool) → OwesTook now before c (took_first living own a)
    first_none true = λ budgets. tt
    first_none false = landed_none now before c a (next_by own a)
        (λ budgets. next_none own a.call a.found (next_of (plan_for a.call) a.found) budgets)

pub alive_none : (now before : State) (c : ℕ) (own : Own) (a : ActiveCall) (alive : Alive) (end : StageEnd (Unit {0}))
    → OwesTook now before c (took_alive own a alive end)
alive_none now before c own a alive StageEnd.Going = λ budgets. tt
alive_none now before c own a alive (StageEnd.Decided r) = landed_none now before c a (refuse (refusal_of r)) (λ budgets. tt)
alive_none now before c own a alive (StageEnd.Done x) =
    landed_none now before c a (next_by own a) (λ budgets. next_none own a.call a.found (next_of (plan_for a.call) a.found) budgets)
alive_none now before c own a alive (StageEnd.Refuse r) = landed_none now before c a (refuse (refusal_of r)) (λ budgets. tt)

named_none : (now before : State) (c : ℕ) (own : Own) (a : ActiveCall) (met : Met) → OwesTook now before c (named_one own a met)
named_none now before c own a (Finds k) =
    landed_none now before c (found_more a (pushed a.found k)) (next_by own (found_more a (pushed a.found k)))
    (λ budgets. next_none own a.call (pushed a.found k) (next_of (plan_for a.call) (pushed a.found k)) budgets)
named_none now before c own a (Refused r) = landed_none now before c a (refuse r) (λ budgets. tt)

free_none : (own : Own) (call : Call) (ks : List Capability) (read : Option ℕ) (f : Found) (shown : Entry) → changes_budgets call ≡ true
    → LeavesNone (met_free own call ks read f shown)
free_none own call ks read f (Entry.Held k) budgets = tt
free_none own call ks read f (Entry.Closing by) budgets = tt
free_none own call ks read f _ budgets = begun_none own call ks read (Some f) budgets

held_none : (own : Own) (call : Call) (ks : List Capability) (f : Found) (shown : Entry) → changes_budgets call ≡ true
    → LeavesNone (met_held own call ks f shown)
held_none own call ks f (Entry.Held k) budgets = begun_none own call ks None (Some f) budgets
held_none own call ks f _ budgets = tt

found_none : (now before : State) (c : ℕ) (own : Own) (a : ActiveCall) (next : Next) (f : Found)
    → OwesTook now before c (took_found own a next f)
found_none now before c own a (NextName n wanted) f = named_none now before c own a (met_name wanted f.value)
found_none now before c own a (NextFree target) f =
    landed_none now before c a (met_free own a.call a.found a.read f f.value)
    (λ budgets. free_none own a.call a.found a.read f f.value budgets)
found_none now before c own a (NextHeld target) f =
    landed_none now before c a (met_held own a.call a.found f f.value) (λ budgets. held_none own a.call a.found f f.value budgets)
found_none now before c own a _ f = landed_none now before c a (refuse Refusal.Raced) (λ budgets. tt)

pub end_none : (now before : State) (c : ℕ) (own : Own) (a : ActiveCall) (look : Look) (end : StageEnd Found)
    → OwesTook now before c (took_end own a look end)
end_none now before c own a look StageEnd.Going = landed_none now before c a (Goes (Lookup look)) (λ budgets. tt)
end_none now before c own a look (StageEnd.Decided r) = landed_none now before c a (refuse (refusal_of r)) (λ budgets. tt)
end_none now before c own a look (StageEnd.Done f) = found_none now before c own a (next_of (plan_for a.call) a.found) f
end_none now before c own a look (StageEnd.Refuse r) = landed_none now before c a (refuse (refusal_of r)) (λ budgets. tt)

pub reading_none : (now before : State) (c : ℕ) (a : ActiveCall) (look : Look) (o : Option CompWord)
    → OwesTook now before c (took_read a look o)
reading_none now before c a look None = landed_none now before c a (refuse Refusal.Raced) (λ budgets. tt)
reading_none now before c a look (Some life) = landed_none now before c (read_more a life.epoch) (Goes (Lookup look)) (λ budgets. tt)

starts_none : (core : ℕ) (act : ActOf) → LeavesNone (starts core act)
starts_none core (Outside node index word) = tt
starts_none core act = tt

pub scan_none : (core : ℕ) (act : ActOf) (q : Quiet) (end : StageEnd (Unit {0})) → LeavesNone (took_scan core act q end)
scan_none core act q (StageEnd.Done x) = starts_none core act
scan_none core act q _ = tt
