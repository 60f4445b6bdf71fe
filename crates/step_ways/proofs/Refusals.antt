-- The refusals of a call at a load: each leaves all as it was, but counts the call.
use Rattle.kept_facts.proofs as low
use low.{Tail, ◌≡◌, ◌≢◌, ℕ, ◌+◌, ◌<◌, Option, Bool, true, false, Some, None, arith, refl, sym, ◌∙◌, ap, subst, List, [], ◌∷◌, false≢true}
use low.{Setting, IsSetting, Call, Reply, Move, word_of, Thing, State, RuleMay, Refused, rule_of, change_of, are_calls_spent, counted, state_by, alone, Step, Trace, Open, state_after}
use low.{state_decided_in, last_left, IsAlone, refused_first, not_inside, not_changed, reads_of, ActiveCall, Stage, Plan, plan_for, next_of}
use low.{Capability, AtCore, AtFlush, Work, Lookup, Read, Scan, Acquire, Act, Core, calls_counted}
use low.{Nothing, Enter, Living, Undecided, Decided, Leave, Took, core_after, told_by, marked_by, holds_counts, phase_at, CoreIs, KnowsTail}
use low.{NamesAre, LooksFor, KnowsAct, KnowsUndecided, KnowsAt, holds_in, held_by, Invariant, holds_tail, decided_in, returned_in}
use low.{limits_of, marker_inside, acts, inl, inr, IsTrue, Look as LookOf, Tick as tick_act, Share as share_act, Refill as refill_act}
use Rattle.kept_facts.specs.kernel_history.specs.{Tick, IsRaceLost, asks_life, owed_by}
use Rattle.kept_facts.specs.kernel_rules.proofs.{lt-leb, lives}
use Rattle.kept_facts.specs.trace_laws.proofs.AloneCalls.{nobody_waits, dead_first}
use Rattle.step_ways.proofs.Loads.{Lands, OnlyLooks, step_to, next_at, core_in_call, core_is, call_is, inner, decides_on, decides_with}
use Rattle.{kept_facts.specs.kernel_history.specs.IsHeldUp}
use Rattle.{kept_facts.specs.kernel_history.specs.Justified.IsOnWay, kept_facts.specs.act_states.specs.declared.work.Act.Act as ActOf}
use Rattle.step_ways.proofs.{BudgetActs.IsBudgetAct, BudgetActs.budget_acts, Good.IsGood}
use Rattle.kept_facts.specs.act_states.specs.{phases_of}

-- The step of core c from which this was taken.
abbrev pub step_with : ℕ → Move → ℕ → Took → Step
step_with c move found took = step_to c None move found (decided_in (told_by took)) (returned_in (told_by took))

-- The step of core c, from which this was taken, is good where it leaves the core in its ranges.
abbrev pub GoodTook : Setting → (ℕ → Core) → Trace → ℕ → Move → Took → Type 0
GoodTook setup cores t c move took =
    Lands setup (core_after (cores c).own took) (word_of move) → IsGood setup cores t
    (step_with c move (last_left setup t (word_of move)) took) (core_after (cores c).own took)

-- No core waits in a grace period; so it is where a call is alone.
abbrev pub NobodyWaits : State → Type 0
NobodyWaits s = (x : Thing) (d : ℕ) → (s.grace x).waits d ≡ false

-- No call owes ticks, but a tick.
pub only_tick_owes : (s : State) (c : ℕ) (call : Call) → ((n : ℕ) → call ≢ Tick n) → owed_by s c call ≡ s
only_tick_owes s c (Tick n) other = absurd (other n refl)
only_tick_owes s c _ other = refl

-- Whether a call charges ticks where it stands.
abbrev pub ticks_in : ActOf → Bool
ticks_in act = (phases_of act).charges

abbrev pub ticks_work : Work → Bool
ticks_work (Lookup look) = false
ticks_work (Read comp look) = false
ticks_work (Scan q act) = ticks_in act
ticks_work (Acquire pin change act) = ticks_in act
ticks_work (Act act) = ticks_in act

abbrev pub ticks_at : Stage → Bool
ticks_at Enter = false
ticks_at (Living alive) = false
ticks_at (Undecided work) = ticks_work work
ticks_at (Decided r drawn tail) = false
ticks_at (Leave r x) = false

-- A tick looks nothing up, and does nothing but to charge.
module _ (setup : Setting) (t : Trace) (c table n : ℕ) where
  act_ticks : (plan : Plan) (ks : List Capability) (upto : ℕ) (act : ActOf) → KnowsAct setup t c (Tick n) plan ks upto act
      → ticks_in act ≡ false → ⊥
  act_ticks plan ks upto act has is = by act has is (budget_acts setup t c (Tick n) plan ks upto refl act has)
    where
      by : (act : ActOf) → KnowsAct setup t c (Tick n) plan ks upto act → ticks_in act ≡ false → IsBudgetAct act → ⊥
      by (tick_act charge) has is budget = false≢true (sym is)
      by (share_act p) has is budget = has.shares
      by (refill_act r) has is budget = has.refills
      by act has is budget = budget

  look_ticks : (ks : List Capability) (look : LookOf) → NamesAre setup t c table (plan_for (Tick n)) ks
      → LooksFor setup t c table (next_of (plan_for (Tick n)) ks) look → ⊥
  look_ticks [] look names looks = looks
  look_ticks (k ∷ ks) look names looks = names

  work_ticks : (a : ActiveCall) (work : Work) → a.call ≡ Tick n → (plan_for a.call) ≡ plan_for a.call
      → KnowsUndecided setup t c table a work
      → ticks_work work ≡ false → ⊥
  work_ticks a (Lookup look) of plan has is =
      look_ticks a.found look (subst (λ p. NamesAre setup t c table p a.found) (plan ∙ ap plan_for of) has.names)
      (subst (λ p. LooksFor setup t c table (next_of p a.found) look) (plan ∙ ap plan_for of) has.knows.looks)
  work_ticks a (Read f look) of plan has is = none_some (subst (λ x. reads_of x a.found ≡ Some f) of has.knows.reads)
    where
      none_some : None ≡ Some f → ⊥
      none_some h = cc
  work_ticks a (Scan (AtCore at core upto page) act) of plan has is =
      act_ticks (plan_for a.call) a.found 0 act (subst (λ x. KnowsAct setup t c x (plan_for a.call) a.found 0 act) of has.knows.knows) is
  work_ticks a (Scan (AtFlush at upto) act) of plan has is =
      act_ticks (plan_for a.call) a.found upto act (subst (λ x. KnowsAct setup t c x (plan_for a.call) a.found upto act) of
      has.knows.knows) is
  work_ticks a (Acquire pin change act) of plan has is =
      act_ticks (plan_for a.call) a.found setup.cores act (subst (λ x. KnowsAct setup t c x (plan_for a.call) a.found setup.cores act) of
      has.knows.knows) is
  work_ticks a (Act act) of plan has is =
      act_ticks (plan_for a.call) a.found setup.cores act (subst (λ x. KnowsAct setup t c x (plan_for a.call) a.found setup.cores act) of
      has.knows.knows) is

  stage_ticks : (a : ActiveCall) (stage : Stage) → a.call ≡ Tick n → (plan_for a.call) ≡ plan_for a.call → KnowsAt setup t c table a stage
      → phase_at a.call stage ≡ Open a.call → ticks_at stage ≡ false → ⊥
  stage_ticks a Enter of plan knows opens is = knows
  stage_ticks a (Living alive) of plan knows opens is = false≢true (subst (λ x. IsTrue (asks_life x)) of knows.asks)
  stage_ticks a (Undecided work) of plan knows opens is = work_ticks a work of plan knows is
  stage_ticks a _ of plan knows opens is = cc

-- The calls of a core are not spent where it may count one more.
pub not_spent : (setup : Setting) (core : Core) (t : Trace) (c : ℕ) → CoreIs setup core t c → core.own.made < core.own.limit
    → are_calls_spent (state_after setup t) c ≡ false
not_spent setup core t c is room =
    let limit : (state_after setup t).limits.calls ≡ setup.calls = ap (λ l. l.calls) (limits_of setup t) in
    let made : core.own.made ≡ ((state_after setup t).core c).counted = is.works.made in
    let most : core.own.limit ≡ setup.calls = is.limit in
    lt-leb (state_after setup t).limits.calls ((state_after setup t).core c).counted (omega arith)

module _ (setup : Setting) (setting : IsSetting setup) (cores : ℕ → Core) (t : Trace) (stands : Invariant setup cores t) (c : ℕ)
    (here : c < setup.cores)
    (a : ActiveCall) (active : (cores c).active ≡ Some a) (opens : phase_at a.call a.stage ≡ Open a.call)
    (held : holds_in (Some a) ≡ holds_counts None a.counts)
    (room : (cores c).own.made < (cores c).own.limit) (move : Move) (looks : OnlyLooks setup t c a.call move) where
  -- a refusal holds what the call held
  still : (fate : Option (Option ℕ)) → fate ≡ None → holds_counts fate a.counts ≡ holds_in (Some a)
  still fate is = ap (λ x. holds_counts x a.counts) is ∙ sym held

  unspent : are_calls_spent (state_after setup t) c ≡ false
  unspent = not_spent setup (cores c) t c (core_is setup setting cores t stands c here a active) room

  -- where the call is alone, no core waits
  nobody : (r : Reply) → IsAlone t (inner setup setting cores t stands c here a active move (Some r) None)
      → NobodyWaits (state_after setup t)
  nobody r alone x d = nobody_waits setup t (inner setup setting cores t stands c here a active move (Some r) None) stands.legal tt alone
      a.call
      ((call_is setup setting cores t stands c here a active).phase ∙ opens) x d

  -- What refuses a call whatever its steps were: the first cause in order, where no core waits.
  abbrev pub IsFirstCause : Reply → Type 0
  IsFirstCause r = NobodyWaits (state_after setup t) → change_of (state_after setup t) c a.call ≡ Refused r

  -- the call is refused with this reply, and its names have led to what they had
  abbrev pub RefusedWith : Reply → Type 0
  RefusedWith r = Lands setup (core_in_call (cores c) ((cores c).own.made + calls_counted r) (next_at a a.found (Decided r None Nothing)))
      (word_of move)
      → IsGood setup cores t (inner setup setting cores t stands c here a active move (Some r) None)
      (core_in_call (cores c) ((cores c).own.made + calls_counted r) (next_at a a.found (Decided r None Nothing)))

  first_of : (r : Reply) → IsTrue (acts (state_after setup t) c a.call) → IsFirstCause r
      → IsAlone t (inner setup setting cores t stands c here a active move (Some r) None)
      → r ≡ alone (state_after setup t) c a.call
  first_of r may_act first is_alone = refused_first (state_after setup t) c a.call r may_act unspent (first (nobody r is_alone))

  pub refuses_no_slot : IsTrue (acts (state_after setup t) c a.call)
      → RuleMay (state_after setup t) c (rule_of (state_after setup t) c a.call) Reply.NoSlot → IsFirstCause Reply.NoSlot
      → RefusedWith Reply.NoSlot
  refuses_no_slot may_act may first lands =
      decides_on setup setting cores t stands c here a active move Reply.NoSlot a.found looks lands (still None refl) opens refl refl
      (λ x. refl) (λ x. refl) refl (unspent, may) tt
      (first_of Reply.NoSlot may_act first)

  pub refuses_empty : IsTrue (acts (state_after setup t) c a.call)
      → RuleMay (state_after setup t) c (rule_of (state_after setup t) c a.call) Reply.Empty → IsFirstCause Reply.Empty
      → RefusedWith Reply.Empty
  refuses_empty may_act may first lands =
      decides_on setup setting cores t stands c here a active move Reply.Empty a.found looks lands (still None refl) opens refl refl
      (λ x. refl) (λ x. refl) refl (unspent, may) tt
      (first_of Reply.Empty may_act first)

  pub refuses_wrong : IsTrue (acts (state_after setup t) c a.call)
      → RuleMay (state_after setup t) c (rule_of (state_after setup t) c a.call) Reply.WrongCap
      → IsFirstCause Reply.WrongCap → RefusedWith Reply.WrongCap
  refuses_wrong may_act may first lands =
      decides_on setup setting cores t stands c here a active move Reply.WrongCap a.found looks lands (still None refl) opens refl refl
      (λ x. refl) (λ x. refl) refl (unspent, may) tt
      (first_of Reply.WrongCap may_act first)

  pub refuses_right : IsTrue (acts (state_after setup t) c a.call)
      → RuleMay (state_after setup t) c (rule_of (state_after setup t) c a.call) Reply.NoRight
      → IsFirstCause Reply.NoRight → RefusedWith Reply.NoRight
  refuses_right may_act may first lands =
      decides_on setup setting cores t stands c here a active move Reply.NoRight a.found looks lands (still None refl) opens refl refl
      (λ x. refl) (λ x. refl) refl (unspent, may) tt
      (first_of Reply.NoRight may_act first)

  pub refuses_occupied : IsTrue (acts (state_after setup t) c a.call)
      → RuleMay (state_after setup t) c (rule_of (state_after setup t) c a.call) Reply.Occupied
      → IsFirstCause Reply.Occupied → RefusedWith Reply.Occupied
  refuses_occupied may_act may first lands =
      decides_on setup setting cores t stands c here a active move Reply.Occupied a.found looks lands (still None refl) opens refl refl
      (λ x. refl) (λ x. refl) refl (unspent, may) tt
      (first_of Reply.Occupied may_act first)

  pub refuses_frame_kind : IsTrue (acts (state_after setup t) c a.call)
      → RuleMay (state_after setup t) c (rule_of (state_after setup t) c a.call) Reply.FrameKind
      → IsFirstCause Reply.FrameKind → RefusedWith Reply.FrameKind
  refuses_frame_kind may_act may first lands =
      decides_on setup setting cores t stands c here a active move Reply.FrameKind a.found looks lands (still None refl) opens refl refl
      (λ x. refl) (λ x. refl) refl (unspent, may) tt
      (first_of Reply.FrameKind may_act first)

  pub refuses_fault : IsTrue (acts (state_after setup t) c a.call)
      → RuleMay (state_after setup t) c (rule_of (state_after setup t) c a.call) Reply.Fault
      → IsFirstCause Reply.Fault → RefusedWith Reply.Fault
  refuses_fault may_act may first lands =
      decides_on setup setting cores t stands c here a active move Reply.Fault a.found looks lands (still None refl) opens refl refl
      (λ x. refl) (λ x. refl) refl (unspent, may) tt
      (first_of Reply.Fault may_act first)

  -- and owes no ticks, where it charges none
  owes_none : ticks_at a.stage ≡ false → owed_by (state_after setup t) c a.call ≡ state_after setup t
  owes_none plain = only_tick_owes (state_after setup t) c a.call
      (λ n of. stage_ticks setup t c (cores c).own.table n a a.stage of refl
      (call_is setup setting cores t stands c here a active).knows opens plain)

  pub refuses_dead : IsTrue (acts (state_after setup t) c a.call)
      → RuleMay (state_after setup t) c (rule_of (state_after setup t) c a.call) Reply.Dead → IsFirstCause Reply.Dead
      → RefusedWith Reply.Dead
  refuses_dead may_act may first lands =
      decides_on setup setting cores t stands c here a active move Reply.Dead a.found looks lands (still None refl) opens refl refl
      (λ x. refl) (λ x. refl) refl (unspent, inr may) tt
      (first_of Reply.Dead may_act first)

  pub refuses_unlike : IsTrue (acts (state_after setup t) c a.call)
      → RuleMay (state_after setup t) c (rule_of (state_after setup t) c a.call) Reply.Unlike → IsFirstCause Reply.Unlike
      → RefusedWith Reply.Unlike
  refuses_unlike may_act may first lands =
      decides_on setup setting cores t stands c here a active move Reply.Unlike a.found looks lands (still None refl) opens refl refl
      (λ x. refl) (λ x. refl) refl (unspent, may) tt
      (first_of Reply.Unlike may_act first)

  pub refuses_running : (d : ℕ) → IsTrue (acts (state_after setup t) c a.call)
      → RuleMay (state_after setup t) c (rule_of (state_after setup t) c a.call) (Reply.Running d)
      → IsFirstCause (Reply.Running d) → RefusedWith (Reply.Running d)
  refuses_running d may_act may first lands =
      decides_on setup setting cores t stands c here a active move (Reply.Running d) a.found looks lands (still None refl) opens refl refl
      (λ x. refl) (λ x. refl) refl (unspent, may) tt
      (first_of (Reply.Running d) may_act first)

  -- a call that asks first whether its core may act, where its component does not live
  pub refuses_asking : IsTrue (asks_life a.call) → lives (state_after setup t) c ≡ false → RefusedWith Reply.Dead
  refuses_asking asks dead lands =
      decides_on setup setting cores t stands c here a active move Reply.Dead a.found looks lands (still None refl) opens refl refl
      (λ x. refl) (λ x. refl) refl (unspent, inl (asks, dead)) tt
      (λ is_alone. dead_first (state_after setup t) c a.call unspent asks dead (λ x. nobody Reply.Dead is_alone x c))

  -- a word that has changed since the call's last step on it
  pub refuses_raced : ticks_at a.stage ≡ false
      → IsRaceLost t (inner setup setting cores t stands c here a active move (Some Reply.Raced) None) (state_after setup t)
      (rule_of (state_after setup t) c a.call) → RefusedWith Reply.Raced
  refuses_raced plain lost lands =
      decides_on setup setting cores t stands c here a active move Reply.Raced a.found looks lands (still None refl) opens
      (ap (λ s. counted s c) (owes_none plain))
      refl (λ x. refl) (λ x. refl) refl (unspent, tt) lost
      (λ is_alone. absurd (not_changed setup t (inner setup setting cores t stands c here a active move (Some Reply.Raced) None) refl
      is_alone lost.own lost.has_read lost.changed))

  -- another core's mark
  pub refuses_busy : ticks_at a.stage ≡ false → (d : ℕ)
      → (holds_counts None a.counts).marks (word_of move) ≡ false → marked_by setup t (word_of move) ≡ Some d
      → IsOnWay (state_after setup t) c (rule_of (state_after setup t) c a.call) (word_of move) → RefusedWith (Reply.Busy d)
  refuses_busy plain d bare mark on_way lands =
      decides_on setup setting cores t stands c here a active move (Reply.Busy d) a.found looks lands (still None refl) opens
      (ap (λ s. counted s c) (owes_none plain))
      refl (λ x. refl) (λ x. refl) refl (unspent, tt) blocked
      (λ is_alone. absurd (not_inside setup t (inner setup setting cores t stands c here a active move (Some (Reply.Busy d)) None) refl
      is_alone d blocked.other blocked.is_inside))
    where
      blocked : IsHeldUp setup t (inner setup setting cores t stands c here a active move (Some (Reply.Busy d)) None)
          (state_after setup t) (rule_of (state_after setup t) c a.call) d
      blocked = record {
        marked = mark;
        other = λ own. false≢true (sym (ap (λ h. h.marks (word_of move)) (ap (λ (e : ℕ). held_by cores e) own ∙ ap holds_in active ∙ held)
            ∙ bare) ∙ (stands.marks (word_of move) d).owned mark);
        is_inside = marker_inside setup cores t stands (word_of move) d mark;
        has_marked = stands.marked (word_of move) d mark;
        on_way = on_way;
      }

-- A step that refuses: the core's own, which enters no call, and which counts the call and changes nothing else.
pub record IsRefusing (setup : Setting) (t : Trace) (c : ℕ) (e : Step) : Type 0 where
  pub own : c ≡ e.core
  pub entry : e.enters ≡ None
  pub state : state_after setup (e ∷ t) ≡ counted (state_after setup t) c

-- Refusals that leave something to be stored, of which this is known at such a step.
module _ (setup : Setting) (setting : IsSetting setup) (cores : ℕ → Core) (t : Trace) (stands : Invariant setup cores t) (c : ℕ)
    (here : c < setup.cores)
    (a : ActiveCall) (active : (cores c).active ≡ Some a) (opens : phase_at a.call a.stage ≡ Open a.call) (tail : Tail)
    (same : holds_tail tail (holds_counts None a.counts) ≡ holds_in (Some a))
    (left : (e : Step) → IsRefusing setup t c e → KnowsTail setup (e ∷ t) c a.call a.counts tail)
    (room : (cores c).own.made < (cores c).own.limit) (move : Move) (looks : OnlyLooks setup t c a.call move) where
  unspent_here : are_calls_spent (state_after setup t) c ≡ false
  unspent_here = not_spent setup (cores c) t c (core_is setup setting cores t stands c here a active) room

  abbrev pub RefusedLeaving : Reply → Type 0
  RefusedLeaving r = Lands setup (core_in_call (cores c) ((cores c).own.made + calls_counted r) (next_at a a.found (Decided r None tail)))
      (word_of move)
      → IsGood setup cores t (inner setup setting cores t stands c here a active move (Some r) None)
      (core_in_call (cores c) ((cores c).own.made + calls_counted r) (next_at a a.found (Decided r None tail)))

  owes_not : ticks_at a.stage ≡ false → owed_by (state_after setup t) c a.call ≡ state_after setup t
  owes_not plain = only_tick_owes (state_after setup t) c a.call
      (λ n of. stage_ticks setup t c (cores c).own.table n a a.stage of refl
      (call_is setup setting cores t stands c here a active).knows opens plain)

  refusing : (r : Reply) → state_by (state_after setup t) c a.call r ≡ counted (state_after setup t) c
      → IsRefusing setup t c (inner setup setting cores t stands c here a active move (Some r) None)
  refusing r state = record {
    own = refl;
    entry = refl;
    state = ap (λ p. state_decided_in p r (state_after setup t) c)
        ((call_is setup setting cores t stands c here a active).phase ∙ opens) ∙ state;
  }

  pub raced_knowing : ticks_at a.stage ≡ false
      → IsRaceLost t (inner setup setting cores t stands c here a active move (Some Reply.Raced) None) (state_after setup t)
      (rule_of (state_after setup t) c a.call) → RefusedLeaving Reply.Raced
  raced_knowing plain lost lands =
      decides_with setup setting cores t stands c here a active move Reply.Raced tail a.found looks lands same opens
      (ap (λ s. counted s c) (owes_not plain))
      refl (λ x. refl) (λ x. refl) refl (unspent_here, tt) lost
      (λ is_alone. absurd (not_changed setup t (inner setup setting cores t stands c here a active move (Some Reply.Raced) None) refl
      is_alone lost.own lost.has_read lost.changed))
      (left (inner setup setting cores t stands c here a active move (Some Reply.Raced) None)
      (refusing Reply.Raced (ap (λ s. counted s c) (owes_not plain))))

  pub busy_knowing : ticks_at a.stage ≡ false → (d : ℕ)
      → (holds_in (Some a)).marks (word_of move) ≡ false → marked_by setup t (word_of move) ≡ Some d
      → IsOnWay (state_after setup t) c (rule_of (state_after setup t) c a.call) (word_of move) → RefusedLeaving (Reply.Busy d)
  busy_knowing plain d bare mark on_way lands =
      decides_with setup setting cores t stands c here a active move (Reply.Busy d) tail a.found looks lands same opens
      (ap (λ s. counted s c) (owes_not plain))
      refl (λ x. refl) (λ x. refl) refl (unspent_here, tt) blocked
      (λ is_alone. absurd (not_inside setup t (inner setup setting cores t stands c here a active move (Some (Reply.Busy d)) None) refl
      is_alone d blocked.other blocked.is_inside))
      (left (inner setup setting cores t stands c here a active move (Some (Reply.Busy d)) None)
      (refusing (Reply.Busy d) (ap (λ s. counted s c) (owes_not plain))))
    where
      blocked : IsHeldUp setup t (inner setup setting cores t stands c here a active move (Some (Reply.Busy d)) None)
          (state_after setup t) (rule_of (state_after setup t) c a.call) d
      blocked = record {
        marked = mark;
        other = λ own. false≢true (sym (ap (λ h. h.marks (word_of move)) (ap (λ (e : ℕ). held_by cores e) own ∙ ap holds_in active)
            ∙ bare) ∙ (stands.marks (word_of move) d).owned mark);
        is_inside = marker_inside setup cores t stands (word_of move) d mark;
        has_marked = stands.marked (word_of move) d mark;
        on_way = on_way;
      }

-- The same, where this is known at each step.
module _ (setup : Setting) (setting : IsSetting setup) (cores : ℕ → Core) (t : Trace) (stands : Invariant setup cores t) (c : ℕ)
    (here : c < setup.cores)
    (a : ActiveCall) (active : (cores c).active ≡ Some a) (opens : phase_at a.call a.stage ≡ Open a.call) (tail : Tail)
    (same : holds_tail tail (holds_counts None a.counts) ≡ holds_in (Some a))
    (left : (e : Step) → KnowsTail setup (e ∷ t) c a.call a.counts tail)
    (room : (cores c).own.made < (cores c).own.limit) (move : Move) (looks : OnlyLooks setup t c a.call move) where
  pub raced_leaving : ticks_at a.stage ≡ false
      → IsRaceLost t (inner setup setting cores t stands c here a active move (Some Reply.Raced) None) (state_after setup t)
      (rule_of (state_after setup t) c a.call)
      → RefusedLeaving setup setting cores t stands c here a active opens tail same (λ e is. left e) room move looks Reply.Raced
  raced_leaving plain lost lands =
      raced_knowing setup setting cores t stands c here a active opens tail same (λ e is. left e) room move looks plain lost lands

  pub busy_leaving : ticks_at a.stage ≡ false → (d : ℕ)
      → (holds_in (Some a)).marks (word_of move) ≡ false → marked_by setup t (word_of move) ≡ Some d
      → IsOnWay (state_after setup t) c (rule_of (state_after setup t) c a.call) (word_of move)
      → RefusedLeaving setup setting cores t stands c here a active opens tail same (λ e is. left e) room move looks (Reply.Busy d)
  busy_leaving plain d bare mark on_way lands =
      busy_knowing setup setting cores t stands c here a active opens tail
      same (λ e is. left e) room move looks plain d bare mark on_way lands
