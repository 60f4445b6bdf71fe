-- When a call is decided, and what a step of it may decide.
use Rattle.act_states.specs as low
use low.{Quiet, quiet_after, quiet_end, Pin, Pinned, Acquired, pin_after, pin_end, ◌≡◌, ℕ, ℤ, ◌+◌, ◌==◌, ◌&&◌, Bool, true, false, List, []}
use low.{◌∷◌, length, Option, Some, None, refl, leb as nat_le, pushed, Capability, FrameKind, Call, Retype}
use low.{Make as make_call, Reply, Entry, found}
use low.{is_link, end_by_link, place_end, Look, AtRoot, AtLeaf, AtEntry, StageEnd, Name, Nowhere, Plan, plan_for, alive_end, alive_after}
use low.{Alive, refusal_of, refuse, took_act, reads_of, act_begun, starts, CompWord, read_first, next_step, met_free, met_held, touches_if}
use low.{with_found, names_after, next_in, next_of, Next, NextName, NextFree, NextHeld, NextOwn, NextNothing}
use Rattle.call_stages.specs.{FoundFits, IsFirst, IsActive, took_tail, tail_counts, GoesOn, landed, next_by, found_more, took_first}
use Rattle.call_stages.specs.{took_enter, took_alive, named_one, read_more, took_read, took_found, took_end, took_look, took_scan}
use Rattle.call_stages.specs.{took_count, gives_up, took_work, went_with, took_at, reply_at}
use low.stage_tcap.proofs.{sym, ap, subst, arith, eqb-true, Untyped, User, Kernel, Make, Look as look_call}
use low.{declared.own.Own.Own, declared.lookups.Met.Met, declared.lookups.Met.TheVariants.Finds, declared.lookups.Met.TheVariants.Refused}
use low.{declared.work.Act.Act as ActType, declared.work.Work.Work, declared.work.Work.TheVariants.Lookup}
use low.{declared.work.Work.TheVariants.Read, declared.work.Work.TheVariants.Scan, declared.work.Work.TheVariants.Acquire}
use low.{declared.work.Work.TheVariants.Act, declared.work.Tail.Tail, declared.work.Tail.TheVariants.Nothing}
use low.{declared.work.Tail.TheVariants.Release}
use low.{declared.work.WorkStep.WorkStep, declared.work.WorkStep.TheVariants.Goes, declared.work.WorkStep.TheVariants.Acquires}
use low.{declared.work.WorkStep.TheVariants.Refuses as refuses_to, declared.work.WorkStep.TheVariants.Answers}
use low.{declared.work.WorkStep.TheVariants.Changes as work_changes}
use Rattle.call_stages.specs.declared.stages.Stage.TheVariants.{Enter, Living, Undecided, Decided, Leave}
use Rattle.call_stages.specs.Steps.{is_last, decides_at_name, is_last_name, work_ready, ready_at}
use Rattle.call_stages.specs.Laws.{Turns, DecidesOnce, Refuses, UnreadyRefuses, IsDecision, ReadyDecides}
use Rattle.call_stages.proofs.{Answering.NoAnswer, Answering.IsOver, Ends.act_unready, Ends.act_over, Beginning.under_no}
use low.{call_plans.specs.any_cap, call_plans.specs.plan_of_retype, call_plans.specs.plan_of_make, stage_look.specs.Lookup.root_end}
use low.{stage_look.specs.declared.look.Found.Found, call_plans.specs.declared.plans.Target.Target, declared.refusals.Refusal.Refusal}
use Rattle.{act_states.specs.spk_nums.specs.Rights.neither}
use Rattle.{act_states.proofs.Refusing.refusal_refuses, call_stages.specs.declared.stages.Stage.Stage}
use Rattle.{call_stages.specs.declared.stages.ActiveCall.ActiveCall, call_stages.proofs.Beginning.target_no}
use Rattle.{call_stages.proofs.Beginning.starts_no, call_stages.proofs.Beginning.act_no}

-- a call is decided once

landed_turns : (a : ActiveCall) (step : WorkStep) → Turns None (landed a step)
landed_turns a (Goes work) = refl
landed_turns a (Acquires count work) = refl
landed_turns a (refuses_to r tail) = (refl, refl)
landed_turns a (Answers v drawn tail) = (refl, refl)
landed_turns a (work_changes r change drawn tail) = (refl, refl)

named_turns : (own : Own) (a : ActiveCall) (met : Met) → Turns None (named_one own a met)
named_turns own a (Finds k) = landed_turns (found_more a (pushed a.found k)) _
named_turns own a (Refused r) = landed_turns a (refuse r)

found_turns : (own : Own) (a : ActiveCall) (next : Next) (f : Found) → Turns None (took_found own a next f)
found_turns own a (NextName n wanted) f = named_turns own a _
found_turns own a (NextFree target) f = landed_turns a _
found_turns own a (NextHeld target) f = landed_turns a _
found_turns own a (NextOwn v) f = landed_turns a (refuse Refusal.Raced)
found_turns own a NextNothing f = landed_turns a (refuse Refusal.Raced)

end_turns : (own : Own) (a : ActiveCall) (look : Look) (end : StageEnd Found) → Turns None (took_end own a look end)
end_turns own a look StageEnd.Going = landed_turns a (Goes (Lookup look))
end_turns own a look (StageEnd.Decided r) = landed_turns a (refuse (refusal_of r))
end_turns own a look (StageEnd.Done f) = found_turns own a _ f
end_turns own a look (StageEnd.Refuse r) = landed_turns a (refuse (refusal_of r))

first_turns : (living : Bool) (own : Own) (a : ActiveCall) → Turns None (took_first living own a)
first_turns true own a = refl
first_turns false own a = landed_turns a (next_by own a)

enter_turns : (spent : Bool) (own : Own) (a : ActiveCall) → Turns None (took_enter spent own a)
enter_turns true own a = landed_turns a (refuse Refusal.CallsSpent)
enter_turns false own a = first_turns (plan_for a.call).living own a

alive_turns : (own : Own) (a : ActiveCall) (alive : Alive) (end : StageEnd (Unit {0})) → Turns None (took_alive own a alive end)
alive_turns own a alive StageEnd.Going = refl
alive_turns own a alive (StageEnd.Decided r) = landed_turns a (refuse (refusal_of r))
alive_turns own a alive (StageEnd.Done x) = landed_turns a (next_by own a)
alive_turns own a alive (StageEnd.Refuse r) = landed_turns a (refuse (refusal_of r))

read_turns : (a : ActiveCall) (look : Look) (o : Option CompWord) → Turns None (took_read a look o)
read_turns a look None = landed_turns a (refuse Refusal.Raced)
read_turns a look (Some life) = landed_turns (read_more a life.epoch) (Goes (Lookup look))

work_turns : (own : Own) (a : ActiveCall) (work : Work) (found : ℕ) → Turns None (took_work own a work found)
work_turns own a (Lookup look) found = end_turns own a _ _
work_turns own a (Read comp look) found = read_turns a look _
work_turns own a (Scan q act) found =
    landed_turns a (took_scan own.core act (quiet_after own.layout.cores q found) (quiet_end own.layout.cores q found))
work_turns own a (Acquire pin change act) found =
    landed_turns a (took_count own.core (length a.counts) change act (pin_after pin found) (pin_end pin found))
work_turns own a (Act act) found = landed_turns a (took_act own.layout act found)

tail_turns : (a : ActiveCall) (r : Reply) (drawn : Option ℕ) (tail : Tail) (counts : List Acquired) (found : ℕ)
    → Turns (Some r) (GoesOn (went_with a (tail_counts tail counts) (took_tail r drawn tail counts found)))
tail_turns a r drawn Nothing [] found = refl
tail_turns a r drawn Nothing (x ∷ xs) found = refl
tail_turns a r drawn (Release release) [] found = refl
tail_turns a r drawn (Release release) (x ∷ xs) found = refl
tail_turns a r drawn tail counts found = refl

stage_turns : (own : Own) (a : ActiveCall) (stage : Stage) (found : ℕ) → Turns (reply_at stage) (took_at own a stage found)
stage_turns own a Enter found = enter_turns _ own a
stage_turns own a (Living alive) found = alive_turns own a (alive_after alive found) (alive_end alive found)
stage_turns own a (Undecided work) found = work_turns own a work found
stage_turns own a (Decided r drawn tail) found = tail_turns a r drawn tail a.counts found
stage_turns own a (Leave r stamp) found = refl

pub decides_once : DecidesOnce
decides_once own a found = stage_turns own a a.stage found

landed_refuses : (a : ActiveCall) (step : WorkStep) → NoAnswer step → Refuses (landed a step)
landed_refuses a (Goes work) none = tt
landed_refuses a (Acquires count work) none = tt
landed_refuses a (refuses_to r tail) none = refusal_refuses r
landed_refuses a (Answers v drawn tail) none = absurd none
landed_refuses a (work_changes r change drawn tail) none = none

-- A call that is decided where its last name is found has one name, and no target.
record OneName (plan : Plan) : Type 0 where
  name : Name
  names : plan.names ≡ name ∷ []
  target : plan.target ≡ Nowhere

retype_one : (k : FrameKind) (r : ℕ) → decides_at_name (plan_of_retype k r).decides ≡ true → OneName (plan_of_retype k r)
retype_one Untyped r is = absurd (cc)
retype_one User r is = absurd (cc)
retype_one Kernel r is = absurd (cc)

make_one : (what : Make) (r t b : ℕ) → decides_at_name (plan_of_make what r t b).decides ≡ true → OneName (plan_of_make what r t b)
make_one Make.Table r t b is = absurd (cc)
make_one Make.Leaf r t b is = absurd (cc)
make_one Make.Pages r t b is = absurd (cc)
make_one Make.Pleaf r t b is = absurd (cc)
make_one (Make.Thread comp) r t b is = absurd (cc)
make_one (Make.Tcap sched quality) r t b is = absurd (cc)
make_one (Make.Comp own pages live) r t b is = absurd (cc)

one_name : (call : Call) → decides_at_name (plan_for call).decides ≡ true → OneName (plan_for call)
one_name (look_call a) is = record { name = any_cap neither a; names = refl; target = refl }
one_name (Retype r f k) is = retype_one k r is
one_name (make_call what r f t b) is = make_one what r t b is
one_name call is = absurd (cc)

read_no : (o : Option ℕ) (step : WorkStep) → NoAnswer step → NoAnswer (read_first o step)
read_no None step none = none
read_no (Some f) (Goes (Lookup look)) none = tt
read_no (Some f) (Goes work) none = none
read_no (Some f) (Acquires count work) none = none
read_no (Some f) (refuses_to r tail) none = none
read_no (Some f) (Answers v drawn tail) none = none
read_no (Some f) (work_changes r change drawn tail) none = none

touches_no : (own : Own) (v : ℕ) (within : Bool) → NoAnswer (touches_if within own v)
touches_no own v true = tt
touches_no own v false = tt

-- what comes next of a call answers nothing, where no call with its plan is decided where its last name is found
next_no : (own : Own) (call : Call) (found : List Capability) (next : Next) → decides_at_name (plan_for call).decides ≡ false
    → NoAnswer (next_step own call found next)
next_no own call found (NextName n wanted) not = under_no _ own.table n
next_no own call found (NextFree target) not = read_no (reads_of call found) _ (target_no target)
next_no own call found (NextHeld target) not = target_no target
next_no own call found (NextOwn v) not = touches_no own v (nat_le v 4095)
next_no own call found NextNothing not = act_no own call found None None not

module _ (own : Own) (a : ActiveCall) (not : decides_at_name (plan_for a.call).decides ≡ false) where
  met_refuses : (met : Met) → Refuses (named_one own a met)
  met_refuses (Finds k) =
      landed_refuses (found_more a (pushed a.found k)) _ (next_no own a.call (pushed a.found k)
      (next_of (plan_for a.call) (pushed a.found k)) not)
  met_refuses (Refused r) = landed_refuses a (refuse r) tt

  free_refuses : (f : Found) (value : Entry) → Refuses (landed a (met_free own a.call a.found a.read f value))
  free_refuses f Entry.Free = landed_refuses a _ (act_no own a.call a.found a.read (Some f) not)
  free_refuses f (Entry.Held k) = tt
  free_refuses f (Entry.Closing by) = tt
  free_refuses f (Entry.Quiescing stamp) = landed_refuses a _ (act_no own a.call a.found a.read (Some f) not)

  held_refuses : (f : Found) (value : Entry) → Refuses (landed a (met_held own a.call a.found f value))
  held_refuses f Entry.Free = tt
  held_refuses f (Entry.Held k) = landed_refuses a _ (act_no own a.call a.found None (Some f) not)
  held_refuses f (Entry.Closing by) = tt
  held_refuses f (Entry.Quiescing stamp) = tt

  plain_found : (next : Next) (f : Found) → Refuses (took_found own a next f)
  plain_found (NextName n wanted) f = met_refuses _
  plain_found (NextFree target) f = free_refuses f f.value
  plain_found (NextHeld target) f = held_refuses f f.value
  plain_found (NextOwn v) f = tt
  plain_found NextNothing f = tt

-- a step of a look-up refuses, where every place that it may find does
link_refuses : (own : Own) (a : ActiveCall) (look : Look) (linked : Bool) → Refuses (took_end own a look (end_by_link linked))
link_refuses own a look true = tt
link_refuses own a look false = tt

root_refuses : (own : Own) (a : ActiveCall) (look : Look) (shown : Option Entry) → Refuses (took_end own a look (root_end shown))
root_refuses own a look None = tt
root_refuses own a look (Some Entry.Free) = tt
root_refuses own a look (Some (Entry.Held k)) = link_refuses own a look (is_link k.kind)
root_refuses own a look (Some (Entry.Closing by)) = tt
root_refuses own a look (Some (Entry.Quiescing stamp)) = tt

place_refuses : (own : Own) (a : ActiveCall) (look : Look) (node index word : ℕ) (shown : Option Entry)
    → ((f : Found) → Refuses (took_found own a (next_of (plan_for a.call) a.found) f))
    → Refuses (took_end own a look (place_end node index word shown))
place_refuses own a look node index word None found = tt
place_refuses own a look node index word (Some Entry.Free) found = found _
place_refuses own a look node index word (Some (Entry.Held k)) found = found _
place_refuses own a look node index word (Some (Entry.Closing by)) found = tt
place_refuses own a look node index word (Some (Entry.Quiescing stamp)) found = found _

look_refuses : (own : Own) (a : ActiveCall) (look : Look) (word : ℕ) (shown : Option Entry)
    → (is_last look ≡ true → (f : Found) → Refuses (took_found own a (next_of (plan_for a.call) a.found) f))
    → Refuses (took_look own a look word shown)
look_refuses own a (AtRoot top number) word shown found = root_refuses own a _ shown
look_refuses own a (AtLeaf leaf number) word shown found = place_refuses own a _ _ _ word shown (found refl)
look_refuses own a (AtEntry top index) word shown found = place_refuses own a _ _ _ word shown (found refl)

-- a count and one more
last_one : (count names : ℕ) → count ≡ 0 → names ≡ 1 → (count + 1 == names) ≡ false → ⊥
last_one count names zero one not =
    absurd (subst (λ n. (n + 1 == names) ≡ false → ⊥) (sym zero) (subst (λ m. (0 + 1 == m) ≡ false → ⊥) (sym one) (λ e. cc)) not)

none_after : (ks : List Capability) → names_after [] ks ≡ []
none_after [] = refl
none_after (k ∷ ks) = refl

-- a call with one name and no target that is not ready has found its name already, and finds nothing more
one_found : (frames : ℕ) (own : Own) (a : ActiveCall) (ks : List Capability) → a.found ≡ ks → OneName (plan_for a.call)
    → FoundFits frames (plan_for a.call) ks
    → is_last_name (plan_for a.call) a.found ≡ false
    → (f : Found) → Refuses (took_found own a (next_of (plan_for a.call) ks) f)
one_found frames own a [] is one fits not f =
    let first : length a.found ≡ 0 = ap length is in
    let count : length (plan_for a.call).names ≡ 1 = ap length one.names in
    absurd (last_one _ _ first count not)
one_found frames own a (k ∷ ks) is one fits not f =
    subst (λ (names : List Name). Refuses (took_found own a (next_in (with_found [] (k ∷ ks)) (names_after names (k ∷ ks))
    (plan_for a.call).target)
    f)) (sym one.names)
    (subst (λ (names : List Name). Refuses (took_found own a (next_in (with_found [] (k ∷ ks)) names (plan_for a.call).target) f))
    (sym (none_after ks))
    (subst (λ (t : Target). Refuses (took_found own a (next_in (with_found [] (k ∷ ks)) [] t) f)) (sym one.target) tt))

-- the name of a call with one name is looked up first
first_no : (own : Own) (call : Call) (plan : Plan) → OneName plan → NoAnswer (next_step own call [] (next_of plan []))
first_no own call plan one =
    subst (λ (names : List Name). NoAnswer (next_step own call [] (next_in [] names plan.target))) (sym one.names)
    (under_no _ own.table one.name.number)

-- two tests that do not both stand
last_not : (b c : Bool) → (true && b && c) ≡ false → c ≡ true → b ≡ false
last_not true true is last = is
last_not true false is last = cc
last_not false c is last = refl

-- a step of a scan answers nothing
scan_refuses : (core : ℕ) (act : ActType) (a : ActiveCall) (q : Quiet) (end : StageEnd (Unit {0}))
    → Refuses (landed a (took_scan core act q end))
scan_refuses core act a q StageEnd.Going = tt
scan_refuses core act a q (StageEnd.Decided r) = landed_refuses a (refuse (refusal_of r)) tt
scan_refuses core act a q (StageEnd.Done x) = landed_refuses a (starts core act) (starts_no core act)
scan_refuses core act a q (StageEnd.Refuse r) = landed_refuses a (refuse (refusal_of r)) tt

-- a step by which a count is acquired answers nothing
count_refuses : (core n : ℕ) (change : ℤ) (act : ActType) (a : ActiveCall) (pin : Pin) (end : StageEnd Pinned)
    → Refuses (landed a (took_count core n change act pin end))
count_refuses core n change act a pin StageEnd.Going = tt
count_refuses core n change act a pin (StageEnd.Decided r) = landed_refuses a (gives_up (refusal_of r) act) tt
count_refuses core n change act a pin (StageEnd.Done p) = tt
count_refuses core n change act a pin (StageEnd.Refuse r) = landed_refuses a (gives_up (refusal_of r) act) tt

read_refuses : (a : ActiveCall) (look : Look) (o : Option CompWord) → Refuses (took_read a look o)
read_refuses a look None = landed_refuses a (refuse Refusal.Raced) tt
read_refuses a look (Some life) = tt

work_refuses : (own : Own) (a : ActiveCall) (decides : Bool) (work : Work) (found : ℕ) → decides ≡ decides_at_name (plan_for a.call).decides
    → IsActive own a → work_ready (plan_for a.call) a.found work ≡ false
    → Refuses (took_work own a work found)
work_refuses own a decides (Read comp look) found is active not = read_refuses a look _
work_refuses own a decides (Scan q act) found is active not =
    scan_refuses own.core act a (quiet_after own.layout.cores q found) (quiet_end own.layout.cores q found)
work_refuses own a decides (Acquire pin change act) found is active not =
    count_refuses own.core (length a.counts) change act a (pin_after pin found) (pin_end pin found)
work_refuses own a decides (Act act) found is active not =
    landed_refuses a (took_act own.layout act found) (act_unready own.layout act found not)
work_refuses own a false (Lookup look) found is active not =
    look_refuses own a look found _ (λ last f. plain_found own a (sym is)
    _ f)
work_refuses own a true (Lookup look) found is active not =
    look_refuses own a look found _ (λ last f.
    one_found own.layout.frames own a a.found refl
    (one_name a.call (sym is))
    active.found
    (last_not _ (is_last look) (subst (λ b. (b && is_last_name (plan_for a.call) a.found && is_last look) ≡ false) (sym is) not) last) f)

next_refuses : (own : Own) (a : ActiveCall) (decides : Bool) → decides ≡ decides_at_name (plan_for a.call).decides → IsActive own a
    → a.found ≡ []
    → Refuses (landed a (next_by own a))
next_refuses own a false is active zero =
    landed_refuses a _ (next_no own a.call a.found (next_of (plan_for a.call) a.found)
    (sym is))
next_refuses own a true is active zero =
    landed_refuses a _ (subst (λ (f : List Capability). NoAnswer (next_step own a.call f (next_of (plan_for a.call) f))) (sym zero)
    (first_no own a.call (plan_for a.call) (one_name a.call (sym is))))

first_refuses : (own : Own) (a : ActiveCall) (living : Bool) → IsActive own a → a.found ≡ [] → Refuses (took_first living own a)
first_refuses own a true active zero = tt
first_refuses own a false active zero = next_refuses own a _ refl active zero

enter_refuses : (own : Own) (a : ActiveCall) (spent : Bool) → IsActive own a → a.found ≡ [] → Refuses (took_enter spent own a)
enter_refuses own a true active zero = tt
enter_refuses own a false active zero = first_refuses own a (plan_for a.call).living active zero

alive_refuses : (own : Own) (a : ActiveCall) (alive : Alive) (end : StageEnd (Unit {0})) → IsActive own a → a.found ≡ []
    → Refuses (took_alive own a alive end)
alive_refuses own a alive StageEnd.Going active zero = tt
alive_refuses own a alive (StageEnd.Decided r) active zero = landed_refuses a (refuse (refusal_of r)) tt
alive_refuses own a alive (StageEnd.Done x) active zero = next_refuses own a _ refl active zero
alive_refuses own a alive (StageEnd.Refuse r) active zero = landed_refuses a (refuse (refusal_of r)) tt

stage_refuses : (own : Own) (a : ActiveCall) (stage : Stage) (found : ℕ) → IsActive own a → IsFirst stage a.found
    → ready_at (plan_for a.call) a.found stage ≡ false → Refuses (took_at own a stage found)
stage_refuses own a Enter found active first not = enter_refuses own a _ active first
stage_refuses own a (Living alive) found active first not =
    alive_refuses own a (alive_after alive found) (alive_end alive found) active first
stage_refuses own a (Undecided work) found active first not = work_refuses own a _ work found refl active not
stage_refuses own a (Decided r drawn tail) found active first not = tt
stage_refuses own a (Leave r stamp) found active first not = tt

pub unready_refuses : UnreadyRefuses
unready_refuses own a found active not = stage_refuses own a a.stage found active active.first not

-- a call that is ready is decided by its next step

landed_decides : (a : ActiveCall) (step : WorkStep) → IsOver step → IsDecision (landed a step)
landed_decides a (Goes work) over = absurd over
landed_decides a (Acquires count work) over = absurd over
landed_decides a (refuses_to r tail) over = tt
landed_decides a (Answers v drawn tail) over = tt
landed_decides a (work_changes r change drawn tail) over = tt

begun_over : (own : Own) (call : Call) (k : Capability) → decides_at_name (plan_for call).decides ≡ true
    → IsOver (act_begun own call (k ∷ []) None None)
begun_over own (look_call a) k is = tt
begun_over own (Retype r f Untyped) k is = absurd (cc)
begun_over own (make_call (Make.Thread comp) r f t b) k is = absurd (cc)
begun_over own (make_call (Make.Comp table pages live) r f t b) k is = absurd (cc)
begun_over own _ k is = absurd (cc)

zero_of : (found : List Capability) → (length found + 1 == 1) ≡ true → found ≡ []
zero_of [] is = refl
zero_of (k ∷ ks) is = let more : length (k ∷ ks) + 1 ≡ 1 = eqb-true (length (k ∷ ks) + 1) 1 is in absurd (omega arith)

none_yet : (plan : Plan) (found : List Capability) → OneName plan → is_last_name plan found ≡ true → found ≡ []
none_yet plan found one is = zero_of found (subst (λ (names : List Name). (length found + 1 == length names) ≡ true) one.names is)

module _ (own : Own) (a : ActiveCall) (one : OneName (plan_for a.call)) (zero : a.found ≡ [])
    (is : decides_at_name (plan_for a.call).decides ≡ true)
  where
    one_over : (k : Capability) → IsOver (next_by own (found_more a (pushed a.found k)))
    one_over k =
        subst (λ (f : List Capability). IsOver (next_step own a.call (pushed f k) (next_of (plan_for a.call) (pushed f k)))) (sym zero)
        (subst (λ (names : List Name). IsOver (next_step own a.call (k ∷ [])
        (next_in (with_found [] (k ∷ [])) (names_after names (k ∷ [])) (plan_for a.call).target))) (sym one.names)
        (subst (λ (t : Target). IsOver (next_step own a.call (k ∷ []) (next_in (with_found [] (k ∷ [])) [] t))) (sym one.target)
        (begun_over own a.call k is)))

    met_decides : (met : Met) → IsDecision (named_one own a met)
    met_decides (Finds k) = landed_decides (found_more a (pushed a.found k)) _ (one_over k)
    met_decides (Refused r) = tt

    name_decides : (f : Found) → IsDecision (took_found own a (next_of (plan_for a.call) a.found) f)
    name_decides f =
        subst (λ (found : List Capability). IsDecision (took_found own a (next_of (plan_for a.call) found) f)) (sym zero)
        (subst (λ (names : List Name). IsDecision (took_found own a (next_in [] names (plan_for a.call).target) f)) (sym one.names)
        (met_decides _))

place_decides : (own : Own) (a : ActiveCall) (look : Look) (node index word : ℕ) (shown : Option Entry)
    → ((f : Found) → IsDecision (took_found own a (next_of (plan_for a.call) a.found) f))
    → IsDecision (took_end own a look (place_end node index word shown))
place_decides own a look node index word None found = tt
place_decides own a look node index word (Some Entry.Free) found = found _
place_decides own a look node index word (Some (Entry.Held k)) found = found _
place_decides own a look node index word (Some (Entry.Closing by)) found = tt
place_decides own a look node index word (Some (Entry.Quiescing stamp)) found = found _

look_decides : (own : Own) (a : ActiveCall) (look : Look) (word : ℕ) (shown : Option Entry) → is_last look ≡ true
    → ((f : Found) → IsDecision (took_found own a (next_of (plan_for a.call) a.found) f)) → IsDecision (took_look own a look word shown)
look_decides own a (AtRoot top number) word shown last found = absurd (cc)
look_decides own a (AtLeaf leaf number) word shown last found = place_decides own a _ _ _ word shown found
look_decides own a (AtEntry top index) word shown last found = place_decides own a _ _ _ word shown found

three : (a b c : Bool) → (a && b && c) ≡ true → (a ≡ true) × (b ≡ true) × (c ≡ true)
three true true true is = (refl, refl, refl)
three true true false is = absurd (cc)
three true false c is = absurd (cc)
three false b c is = absurd (cc)

work_decides : (own : Own) (a : ActiveCall) (work : Work) (found : ℕ) → IsActive own a → work_ready (plan_for a.call) a.found work ≡ true
    → IsDecision (took_work own a work found)
work_decides own a (Read comp look) found active ready = absurd (cc)
work_decides own a (Scan q act) found active ready = absurd (cc)
work_decides own a (Acquire pin change act) found active ready = absurd (cc)
work_decides own a (Act act) found active ready = landed_decides a (took_act own.layout act found) (act_over own.layout act found ready)
work_decides own a (Lookup look) found active ready =
    let all = three (decides_at_name (plan_for a.call).decides) (is_last_name (plan_for a.call) a.found) (is_last look) ready in
    let is = all.0 in
    let one = one_name a.call is in
    look_decides own a look found _ all.2 (name_decides own a one (none_yet (plan_for a.call) a.found one all.1) is)

stage_decides : (own : Own) (a : ActiveCall) (stage : Stage) (found : ℕ) → IsActive own a → ready_at (plan_for a.call) a.found stage ≡ true
    → reply_at stage ≡ None → IsDecision (took_at own a stage found)
stage_decides own a Enter found active ready not_yet = absurd (cc)
stage_decides own a (Living alive) found active ready not_yet = absurd (cc)
stage_decides own a (Undecided work) found active ready not_yet = work_decides own a work found active ready
stage_decides own a (Decided r drawn tail) found active ready not_yet = absurd (cc)
stage_decides own a (Leave r stamp) found active ready not_yet = absurd (cc)

pub ready_decides : ReadyDecides
ready_decides own a found active ready not_yet = stage_decides own a a.stage found active ready not_yet
