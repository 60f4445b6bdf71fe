-- What the heads owe that a decided call on two temporal capabilities has marked, along a trace that is the machine's: its deciding step
-- tells it, and each store after it leaves it so.
use Rattle.flight.specs.core_invariant.proofs as low
use low.{◌≡◌, inl, inr, ℕ, ◌+◌, ◌<◌, ◌≤◌, ◌^◌, ◌==◌, ◌&&◌, ltb as nat_lt, Bool, true, false, if◌then◌else◌, List, [], ◌∷◌, length, Option}
use low.{Some, None, arith, refl, sym, ◌∙◌, ap, subst, is_some, IsSome, eq-eqb, ne_eqb, Setting, IsSetting, Capability, Call, Reply, Value}
use low.{StageEnd, word_of_head, head_of_word, quality_of_word, HeadWord, EntryAt, Move, word_of, told_of, State, put_same, put_other}
use low.{changes_budgets, Step, Trace, state_after, state_entered, state_before, last_left, Pin, quiet_after, quiet_end, head_end, in_order}
use low.{same_list, amount_of, judged, by_alike, by_room, again_end, Pair, PairAt, LoadA, MarkA, ListA, LoadB, ListB, CompareB, AgainB}
use low.{StoreList, StoreB, StoreA, Charge, Leads, LeadsIn, plan_for, Own, Work, Lookup, Read, Scan, Acquire, Act, WorkStep, took_shared}
use low.{took_share, Stage, Enter, Living, Undecided, Decided, Leave, ActiveCall, told_in, told_by, absorbed_in, fresh, stage_move, Took}
use low.{Returns, landed, took, took_scan, Core, decided_in, KnowsUndecided, KnowsAt, CallIs, SharesBy, took_refilled, Refusal}
use low.{Tick as tick_act, Share as share_act, Refill as refill_act, reply_of, move_of, core_after as after_took, took_at, took_count}
use Rattle.flight.specs.act_states.specs.{giving_back, undo, QualityWord, Pinned, pin_after, pin_end, end_by_mark, pair_after}
use Rattle.flight.specs.act_states.specs.{marked_end, decided_by_mark, b_end, list_end, Refill, took_act, refusal_of, shared, took_charge}
use Rattle.flight.specs.act_states.specs.{ticks_of, alive_end, alive_after}
use Rattle.flight.specs.stage_tcap.specs.{noted_by, pair_move, at_decided, compared_after, at_by_mark, at_by_head, at_marked, at_read}
use Rattle.flight.specs.stage_tcap.specs.{b_next, a_next, again_value}
use Rattle.flight.specs.step_ways.proofs.BudgetActs.{IsBudgetAct, budget_acts}
use Rattle.flight.specs.{turned, MayStep, core_after, cores_after, stepping_core, IsMadeStep, IsMade, found_by}
use Rattle.flight.specs.core_invariant.specs.{Invariant.Invariant}
use Rattle.time_laws.proofs.ShareTails.{OwesAt, OwesStage, OwesIn, OwesTook, StoresNone, LeavesNone, tail_on, landed_none, enter_none}
use Rattle.time_laws.proofs.ShareTails.{alive_none, end_none, reading_none, scan_none}
use Rattle.{history_laws.specs.Owes, history_laws.specs.state_of_decision, std.proofs.lemmas.Bool.cases_eq}
use Rattle.{flight.specs.act_states.specs.declared.work.Act.Act as ActOf, flight.specs.act_states.specs.Shares.is_carried}
use Rattle.{flight.specs.call_stages.specs.Steps.is_spent, flight.specs.stage_thread.specs.Living.alive_move}
use Rattle.{flight.specs.pair_invariant.proofs.ShareSteps.shares_same, flight.proofs.Made.made_stands, flight.proofs.Made.finds}
use Rattle.flight.specs.share_invariant.proofs.Compared as compared
use Rattle.flight.specs.pair_invariant.proofs.ShareCalls as calls

-- The work of a call that changes budgets

undo_none : (act : ActOf) → IsBudgetAct act → StoresNone (undo act)
undo_none (tick_act charge) is = tt
undo_none (share_act p) is = tt
undo_none (refill_act r) is = tt
undo_none act is = absurd is

count_none : (core n : ℕ) (change : Rattle.std.specs.Prelude.ℤ) (act : ActOf) (pin : Pin) (end : StageEnd Pinned) → IsBudgetAct act
    → LeavesNone (took_count core n change act pin end)
count_none core n change act pin (StageEnd.Decided r) is = undo_none act is
count_none core n change act pin (StageEnd.Refuse r) is = undo_none act is
count_none core n change act pin _ is = tt

tick_none : (due : ℕ) (charge : Charge) (end : StageEnd Value) → LeavesNone (took_charge due charge end)
tick_none due charge StageEnd.Going = tt
tick_none due charge _ = tt

refill_none : (r : Refill) (end : StageEnd Value) → LeavesNone (took_refilled r end)
refill_none r StageEnd.Going = tt
refill_none r _ = tt

-- What a decision owes

-- A refusal owes nothing.
still : (r : Reply) → is_carried r ≡ false → (s : State) (c : ℕ) (call : Call) (f n : ℕ) → Owes s c r call f n n
still (Reply.Ok v) not s c call f n = absurd (cc)
still r not s c call f n = refl

refused : (f : Refusal) → is_carried (reply_of f) ≡ false
refused Refusal.Raced = refl
refused f = refl

-- The compare that carries the call out: the ticks are no more than the first has, and the second has room for them.
wins : (s : State) (c : ℕ) (call : Call) (ks : List Capability) (p : Pair) (v : Value) → SharesBy call ks p
    → Leads (LeadsIn s c) (plan_for call).names [] ks
    → amount_of p.what ≤ p.head_a.budget → p.head_b.budget + amount_of p.what < 2 ^ 32
    → OwesAt s c (Reply.Ok v) call (record p { at = at_decided p.what }) (at_decided p.what)
wins s c (Call.Transfer x y m) (a ∷ b ∷ []) p v is leads enough room =
    subst (λ w. OwesAt s c (Reply.Ok v) (Call.Transfer x y m) (record p { at = at_decided p.what }) (at_decided w)) (sym is.work) (
      record { cap = a; is_named = leads.0; frame = sym is.first },
      (let ticks : amount_of p.what ≡ m = ap amount_of is.work in omega (arith, enough, ticks)),
    )
wins s c (Call.Delegate x y m) (a ∷ b ∷ []) p v is leads enough room =
    subst (λ w. OwesAt s c (Reply.Ok v) (Call.Delegate x y m) (record p { at = at_decided p.what }) (at_decided w)) (sym is.work) (
      inl (
        record { cap = a; is_named = leads.0; frame = sym is.first },
        (let ticks : amount_of p.what ≡ m = ap amount_of is.work in omega (arith, enough, ticks)),
      ),
      inr (
        record { cap = b; is_named = leads.1.0; frame = sym is.second },
        (let ticks : amount_of p.what ≡ m = ap amount_of is.work in omega (arith, room, ticks)),
      ),
    )
wins s c (Call.Test x y) (a ∷ b ∷ []) p v is leads enough room =
    subst (λ w. OwesAt s c (Reply.Ok v) (Call.Test x y) (record p { at = at_decided p.what }) (at_decided w)) (sym is.work) (λ f n. refl)
wins s c call ks p v is leads enough room = absurd is

-- The second load carries a test out alone.
alike_not : (same : Bool) (v : Value) → by_alike same ≡ AgainB (Reply.Ok v) → ⊥
alike_not true v h = absurd (cc)
alike_not false v h = absurd (cc)

room_not : (o : Option (List (ℕ × ℕ))) (v : Value) → by_room o ≡ AgainB (Reply.Ok v) → ⊥
room_not None v h = absurd (cc)
room_not (Some xs) v h = absurd (cc)

answers : (s : State) (c : ℕ) (call : Call) (ks : List Capability) (p : Pair) (v : Value) → SharesBy call ks p
    → judged p.what p ≡ AgainB (Reply.Ok v) → (f n : ℕ) → Owes s c (Reply.Ok v) call f n n
answers s c (Call.Transfer x y m) (a ∷ b ∷ []) p v is judges f n =
    absurd (alike_not (same_list (in_order p.list_a) (in_order p.list_b)) v
    (subst (λ w. judged w p ≡ AgainB (Reply.Ok v)) is.work judges))
answers s c (Call.Delegate x y m) (a ∷ b ∷ []) p v is judges f n =
    absurd (room_not p.list_b v (subst (λ w. judged w p ≡ AgainB (Reply.Ok v)) is.work judges))
answers s c (Call.Test x y) (a ∷ b ∷ []) p v is judges f n = refl
answers s c call ks p v is judges f n = absurd is

-- The steps of the act

module _ (now before : State) (c : ℕ) (a : ActiveCall) where
  abbrev Owed : WorkStep → Type 0
  Owed step = OwesTook now before c (landed a step)

  gives_back : (p : Pair) (r : Reply) → is_carried r ≡ false → Owed (shared (record p { at = giving_back }) r)
  gives_back p (Reply.Ok v) not = absurd (cc)
  gives_back p r not = λ budgets f n. still (reply_of (refusal_of r)) (refused (refusal_of r)) now c a.call f n

  loads_head : (p : Pair) (o : Option HeadWord) → Owed (took_shared p (head_end o))
  loads_head p None = λ budgets. tt
  loads_head p (Some h) = by h.mark
    where
      by : (mark : Option ℕ) → Owed (took_shared p (end_by_mark mark))
      by None = λ budgets. tt
      by (Some d) = λ budgets. tt

  marks_head : (p : Pair) (same short : Bool) (budget : ℕ)
      → Owed (took_shared (record p { at = at_marked same short }) (marked_end same short budget))
  marks_head p true true budget = gives_back p (Reply.Short budget) refl
  marks_head p _ _ budget = λ budgets. tt

  loads_second : (p : Pair) (next : PairAt) (o : Option HeadWord)
      → Owed (took_shared (record p { at = at_by_head next giving_back o }) (b_end o))
  loads_second p next None = gives_back p Reply.Raced refl
  loads_second p next (Some h) = by h.mark
    where
      by : (mark : Option ℕ) → Owed (took_shared (record p { at = at_by_mark next giving_back mark }) (decided_by_mark mark))
      by None = λ budgets. tt
      by (Some d) = gives_back p (Reply.Busy d) refl

  reads_list : (p : Pair) (next : PairAt) (o : Option QualityWord) → Owed (took_shared (record p { at = at_read o next }) (list_end o))
  reads_list p next None = gives_back p Reply.Raced refl
  reads_list p next (Some v) = λ budgets. tt

  compares : (p : Pair) → OwesAt now c (Reply.Ok Value.Nothing) a.call (record p { at = at_decided p.what }) (at_decided p.what)
      → (same : Bool)
      → Owed (took_shared (record p { at = compared_after same p.what }) (again_end same (Reply.Ok Value.Nothing)))
  compares p owes true = λ budgets. owes
  compares p owes false = gives_back p Reply.Raced refl

  loads_again : (p : Pair) (r : Reply) → ((v : Value) → r ≡ Reply.Ok v → (f n : ℕ) → Owes now c (Reply.Ok v) a.call f n n) → (same : Bool)
      → Owed (took_shared (record p { at = StoreA false (again_value same r) }) (again_end same r))
  loads_again p r owes false = gives_back p Reply.Raced refl
  loads_again p (Reply.Ok v) owes true = λ budgets f n. owes v refl f n
  loads_again p r owes true = λ budgets f n. still (reply_of (refusal_of r)) (refused (refusal_of r)) now c a.call f n

module _ (setup : Setting) (setting : IsSetting setup) (cores : ℕ → Core) (t : Trace) (stands : Invariant setup cores t) (c : ℕ)
    (here : c < setup.cores) (before : State) (a : ActiveCall) (active : (cores c).active ≡ Some a) where
  abbrev s : State
  s = state_after setup t

  -- what is told of the word that its next step finds
  abbrev ToldBy : Move → ℕ
  ToldBy move = told_of move (last_left setup t (word_of move))

  abbrev ShareOwes : Pair → Type 0
  ShareOwes p = OwesTook s before c (landed a (took_share p (ToldBy (pair_move p))))

  module _ (p : Pair) (stage_is : a.stage ≡ Undecided (Act (share_act p)))
      (has : KnowsUndecided setup t c (cores c).own.table a (Act (share_act p))) where
    leads : Leads (LeadsIn s c) (plan_for a.call).names [] a.found
    leads = calls.leads setup setting cores t stands c here a active p stage_is has

  compare_owes : (p : Pair) → a.stage ≡ Undecided (Act (share_act (record p { at = CompareB })))
      → KnowsUndecided setup t c (cores c).own.table a (Act (share_act (record p { at = CompareB })))
      → ShareOwes (record p { at = CompareB })
  compare_owes p is has = by (last_left setup t (EntryAt p.b 0) == word_of_head p.head_b) refl
    where
      old : ℕ
      old = word_of_head p.head_b

      shares : SharesBy a.call a.found p
      shares = shares_same a.call a.found (record p { at = CompareB }) p refl refl refl
          has.knows.knows.shares

      won : (last_left setup t (EntryAt p.b 0) == old) ≡ true
          → OwesAt s c (Reply.Ok Value.Nothing) a.call (record p { at = at_decided p.what }) (at_decided p.what)
      won equal =
          let sum = compared.sum setup setting cores t stands c here a active p is has equal in
          let same_b = compared.budget_b setup setting cores t stands c here a active p is has equal in
          let less = compared.enough setup setting cores t stands c here a active p is has equal in
          wins s c a.call a.found p Value.Nothing shares (leads (record p { at = CompareB }) is has) has.knows.knows.at.a.enough
          (omega (arith, sum, same_b, less))

      by : (same : Bool) → (last_left setup t (EntryAt p.b 0) == old) ≡ same
          → OwesTook s before c
          (landed a (took_shared (record p { at = compared_after same p.what }) (again_end same (Reply.Ok Value.Nothing))))
      by true equal = compares s before c a p (won equal) true
      by false other = λ budgets f n. refl

  share_owes : (p : Pair) → a.stage ≡ Undecided (Act (share_act p))
      → KnowsUndecided setup t c (cores c).own.table a (Act (share_act p)) → ShareOwes p
  share_owes p is has = by p.at is has
    where
      by : (at : PairAt) → a.stage ≡ Undecided (Act (share_act (record p { at = at })))
          → KnowsUndecided setup t c (cores c).own.table a (Act (share_act (record p { at = at }))) → ShareOwes (record p { at = at })
      by LoadA is has = loads_head s before c a (pair_after (record p { at = LoadA }) (last_left setup t (EntryAt p.a 0)))
          (head_of_word (last_left setup t (EntryAt p.a 0)))
      by MarkA is has = marks_head s before c a p (last_left setup t (EntryAt p.a 0) == word_of_head p.head_a)
          (nat_lt p.head_a.budget (amount_of p.what)) p.head_a.budget
      by (ListA n) is has = reads_list s before c a (pair_after (record p { at = ListA n }) (last_left setup t (EntryAt p.a n)))
          (a_next (nat_lt n 8) n) (quality_of_word (last_left setup t (EntryAt p.a n)))
      by LoadB is has = loads_second s before c a (pair_after (record p { at = LoadB }) (last_left setup t (EntryAt p.b 0))) (ListB 1)
          (head_of_word (last_left setup t (EntryAt p.b 0)))
      by (ListB n) is has = reads_list s before c a (pair_after (record p { at = ListB n }) (last_left setup t (EntryAt p.b n)))
          (b_next (nat_lt n 8) n (noted_by (record p { at = ListB n }) (last_left setup t (EntryAt p.b n))))
          (quality_of_word (last_left setup t (EntryAt p.b n)))
      by CompareB is has = compare_owes p is has
      by (AgainB r) is has =
          loads_again s before c a p r
          (λ v ok. answers s c a.call a.found (record p { at = AgainB r }) v has.knows.knows.shares
          (has.knows.knows.at.judges ∙ ap (λ (x : Reply). AgainB x) ok)) (last_left setup t (EntryAt p.b 0) == word_of_head p.head_b)
      by (StoreList n) is has = absurd has.knows.knows.at
      by StoreB is has = absurd has.knows.knows.at
      by (StoreA moved v) is has = absurd has.knows.knows.at

  -- The work of a call that is not decided.
  abbrev WorkOwes : Work → Type 0
  WorkOwes work = OwesTook s before c
      (took_at (cores c).own a (Undecided work) (ToldBy (stage_move (cores c).own a.counts (Undecided work))))

  -- what it finds
  abbrev FoundAt : Work → ℕ
  FoundAt work = ToldBy (stage_move (cores c).own a.counts (Undecided work))

  act_owes : (act : ActOf) → a.stage ≡ Undecided (Act act) → KnowsUndecided setup t c (cores c).own.table a (Act act) → WorkOwes (Act act)
  act_owes (share_act p) is has = share_owes p is has
  act_owes (tick_act charge) is has =
      landed_none s before c a (took_act (cores c).own.layout (tick_act charge) (FoundAt (Act (tick_act charge))))
      (λ budgets. tick_none (ticks_of charge) _ _)
  act_owes (refill_act r) is has =
      landed_none s before c a (took_act (cores c).own.layout (refill_act r) (FoundAt (Act (refill_act r))))
      (λ budgets. refill_none _ _)
  act_owes act is has =
      landed_none s before c a (took_act (cores c).own.layout act (FoundAt (Act act)))
      (λ budgets. absurd (budget_acts setup t c a.call (plan_for a.call) a.found setup.cores budgets act has.knows.knows))

  work_owes : (work : Work) → a.stage ≡ Undecided work → KnowsUndecided setup t c (cores c).own.table a work → WorkOwes work
  work_owes (Lookup look) is has = end_none s before c (cores c).own a _ _
  work_owes (Read comp look) is has = reading_none s before c a look _
  work_owes (Scan q act) is has =
      landed_none s before c a (took_scan (cores c).own.core act (quiet_after (cores c).own.layout.cores q (FoundAt (Scan q act)))
      (quiet_end (cores c).own.layout.cores q (FoundAt (Scan q act))))
      (λ budgets. scan_none (cores c).own.core act _ _)
  work_owes (Acquire pin change act) is has =
      landed_none s before c a (took_count (cores c).own.core (length a.counts) change act
      (pin_after pin (FoundAt (Acquire pin change act))) (pin_end pin (FoundAt (Acquire pin change act))))
      (λ budgets. count_none (cores c).own.core (length a.counts) change act _ _
      (budget_acts setup t c a.call (plan_for a.call) a.found setup.cores budgets act has.knows.knows))
  work_owes (Act act) is has = act_owes act is has

  -- A step of a call, wherever it stands.
  stage_owes : (stage : Stage) → a.stage ≡ stage → KnowsAt setup t c (cores c).own.table a stage
      → (changes_budgets a.call ≡ true → OwesStage before c a.call stage)
      → OwesTook s before c (took_at (cores c).own a stage (ToldBy (stage_move (cores c).own a.counts stage)))
  stage_owes Enter is has owes = absurd has
  stage_owes (Living alive) is has owes =
      alive_none s before c (cores c).own a (alive_after alive (ToldBy (alive_move alive))) (alive_end alive (ToldBy (alive_move alive)))
  stage_owes (Undecided work) is has owes = work_owes work is has
  stage_owes (Decided r drawn tail) is has owes = λ budgets. tail_on before c r drawn a.call tail a.counts _ (owes budgets)
  stage_owes (Leave r x) is has owes = tt

-- Along a trace

-- The core after what its step led to.
after_owes : (now before : State) (c : ℕ) (own : Own) (k : Took) → OwesTook now before c k
    → OwesIn (if is_some (decided_in (told_by k)) then now else before) c (after_took own k).active
after_owes now before c own (Returns r x) owes = tt
after_owes now before c own _ owes = owes

-- What a core with this call is told of its next step.
abbrev told_to : Setting → Trace → Own → Option ActiveCall → ℕ
told_to setup t own o = told_of (move_of (record { own = own; active = o })) (found_by setup t (record { own = own; active = o }))

-- The core's call, wherever it stands.
call_owes : (setup : Setting) → IsSetting setup → (cores : ℕ → Core) (t : Trace) → Invariant setup cores t → (c : ℕ) → c < setup.cores
    → (before : State) → IsSome (cores c).active → OwesIn before c (cores c).active
    → OwesIn (if is_some (decided_in (told_in (cores c).own (cores c).active (told_to setup t (cores c).own (cores c).active)))
    then state_after setup t else before) c
    (absorbed_in (cores c).own (cores c).active (told_to setup t (cores c).own (cores c).active)).active
call_owes setup setting cores t stands c here before some owes =
    by (cores c).active refl some (stands.each c here).active owes
  where
    by : (o : Option ActiveCall) → (cores c).active ≡ o → IsSome o → CallIs setup t c (cores c).own.table o → OwesIn before c o
        → OwesIn (if is_some (decided_in (told_in (cores c).own o (told_to setup t (cores c).own o)))
        then state_after setup t else before) c
        (absorbed_in (cores c).own o (told_to setup t (cores c).own o)).active
    by None active some is owes = absurd (cc)
    by (Some a) active some is owes =
        after_owes (state_after setup t) before c (cores c).own (took (cores c).own a (told_to setup t (cores c).own (Some a)))
        (stage_owes setup setting cores t stands c here before a active a.stage refl is.knows owes)

module _ (setup : Setting) (setting : IsSetting setup) (t : Trace) (e : Step) (made : IsMade setup t) (step : IsMadeStep setup t e)
    (owes : OwesIn (state_of_decision setup t e.core) e.core (cores_after setup t e.core).active) where
  abbrev cores : ℕ → Core
  cores = cores_after setup t

  abbrev before : State
  before = state_of_decision setup t e.core

  -- its core, where a call may begin
  abbrev AfterOwes : Option Call → Type 0
  AfterOwes o =
      OwesIn (if is_some (decided_in (told_in (turned o (cores e.core)).own (turned o (cores e.core)).active
      (told_of (move_of (turned o (cores e.core))) (found_by setup t (turned o (cores e.core))))))
      then state_entered o (state_after setup t) e.core else before) e.core
      (core_after (turned o (cores e.core)) (found_by setup t (turned o (cores e.core)))).active

  own_owes : (o : Option Call) → MayStep o (cores e.core) → AfterOwes o
  own_owes None may =
      call_owes setup setting cores t (made_stands setup setting t made) e.core step.is_core before may owes
  own_owes (Some call) may =
      after_owes (state_entered (Some call) (state_after setup t) e.core) before e.core (cores e.core).own
      (took (cores e.core).own (fresh call)
      (told_of (move_of (turned (Some call) (cores e.core))) (found_by setup t (turned (Some call) (cores e.core)))))
      (enter_none (state_entered (Some call) (state_after setup t) e.core) before e.core (is_spent (cores e.core).own) (cores e.core).own
      (fresh call))

  on : OwesIn (state_of_decision setup (e ∷ t) e.core) e.core (cores_after setup (e ∷ t) e.core).active
  on =
      subst (λ (core : Core). OwesIn (state_of_decision setup (e ∷ t) e.core) e.core core.active)
      (sym (put_same cores e.core (core_after (stepping_core setup t e) e.found) e.core refl))
      (subst (λ b. OwesIn (if b && is_some e.decides then state_before setup t e else before) e.core
      (core_after (stepping_core setup t e) e.found).active) (sym (eq-eqb e.core e.core refl))
      (subst (λ (o : Option Reply). OwesIn (if is_some o then state_before setup t e else before) e.core
      (core_after (stepping_core setup t e) e.found).active) (sym (ap (λ (x : Step). x.decides) step.made))
      (subst (λ (n : ℕ). OwesIn (if is_some (decided_in (told_in (stepping_core setup t e).own (stepping_core setup t e).active
      (told_of (move_of (stepping_core setup t e)) n))) then state_before setup t e else before) e.core
      (core_after (stepping_core setup t e) n).active) (sym (finds setup t e step)) (own_owes e.enters step.may))))

-- After each trace that is the machine's the heads owe what they show besides the budgets.
pub made_owes : (setup : Setting) → IsSetting setup → (t : Trace) → IsMade setup t → (c : ℕ)
    → OwesIn (state_of_decision setup t c) c (cores_after setup t c).active
made_owes setup setting [] made c = tt
made_owes setup setting (e ∷ t) made c = elim (cases_eq c e.core) [
  | inl same ↦
      subst (λ (d : ℕ). OwesIn (state_of_decision setup (e ∷ t) d) d (cores_after setup (e ∷ t) d).active) (sym same)
      (on setup setting t e made.0 made.1 (made_owes setup setting t made.0 e.core))
  | inr other ↦
      subst (λ (core : Core). OwesIn (state_of_decision setup (e ∷ t) c) c core.active)
      (sym (put_other (cores_after setup t) e.core (core_after (stepping_core setup t e) e.found) c other))
      (subst (λ b. OwesIn (if b && is_some e.decides then state_before setup t e else state_of_decision setup t c) c
      (cores_after setup t c).active) (sym (ne_eqb c e.core other)) (made_owes setup setting t made.0 c))
]
