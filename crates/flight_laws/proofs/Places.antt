-- What an undecided call has found held stays usable; and whom a scan has passed is waited for no longer.
use Rattle.time_laws.specs as low
use low.core_invariant.proofs.{AtComp, ◌≡◌, ◌≢◌, ◌⊎◌, inl, inr, ℕ, ◌<◌, ◌/◌, ◌&&◌, Bool, true, false, IsTrue, cond, [], ◌∷◌, ◌++◌, Option}
use low.core_invariant.proofs.{Some, None, refl, sym, ◌∙◌, ap, subst, is_some, eqb-true, false≢true, Capability, Setting, IsSetting, Call}
use low.core_invariant.proofs.{Reply, Entry, Held, entry_of_word, core_of_word, Word, EntryAt, CoreAt, Move, StoreOf, AddOf, word_of}
use low.core_invariant.proofs.{left_of, told_of, IsIn, Thing, PlaceOf, Frame, Kernel, Tcap, Comp, Thread, State, fits, Target, Under}
use low.core_invariant.proofs.{InRoot, usable_in, is_node, Relies, Charge, some_inj, put_same, put_other, Step, Trace, Phase, Out, Open}
use low.core_invariant.proofs.{phase, after_enter, after_decide, after_return, state_after, last_left, own_read, KeepsTime, IsLegal}
use low.core_invariant.proofs.{MayFollow, stamp, clock, exit_of, is_in, cases_word, phase-own, phase-other, own_read-here, own_read-there}
use low.core_invariant.proofs.{last_left-here, look_move, Look, AtRoot, AtLeaf, AtEntry, AtCompare, AtDraw, AtStore, AtCore, Next, NextName}
use low.core_invariant.proofs.{NextFree, NextHeld, next_of, Own, Fill, Outside, Untype, MakeComp, Invoke, Return, CompAt, CompMaking}
use low.core_invariant.proofs.{InvokingAt, ReturningAt, Switching, SwitchAt, Pair, PairAt, KillingAt, LoadComp, LoadLive, MakingAt}
use low.core_invariant.proofs.{NewObject, Untyping, Work, Lookup, Read, Scan, Acquire, Act, Stage, Enter, Living, Undecided, Leave}
use low.core_invariant.proofs.{ActiveCall, stage_move, absorbed, absorbed_in, told_in, Core, decided_in, returned_in, IsSpot, LooksUp}
use low.core_invariant.proofs.{own_in, LooksFor, ChargesBy, KnowsWork, KnowsAt, CallIs, phase_at, HasTcap, KnowsPairAt, HasThread}
use low.core_invariant.proofs.{claimed_by, limits_of, AtLoad as charge_load, Remove, Retype, Make, Tick as tick_act, Kill, Touch, Share}
use low.core_invariant.proofs.{Refill as refill_act, Switch, Typing, TypingAt, Absorbed, move_in, move_of, told_of_step, KnowsClose}
use low.core_invariant.proofs.{HasComp, plan_for, Kind, Claim}
use low.act_states.specs.{Closing, CoreWord, Tick, AtLoad, Close, charge_move, close_move, typing_at, comp_at, invoking_at, returning_at}
use low.act_states.specs.{switching_at, Refill, RefillAt, killing_at, making_at}
use low.step_ways.proofs.{sound_of, opened_is, Invariant, slot_relies, Compare as type_compare, IsMarked, IsUnmarked, place_reads}
use low.flight.specs.{turned, MayStep, core_after, cores_after, stepping_core, IsMadeStep, IsMade}
use low.core_invariant.specs.{KnowsRefillAt, HasLoadedBelow, KnowsSwitchAt}
use low.kernel_history.specs.{reads, only_reads}
use low.stage_tcap.specs.{Comp as comp_kind, move_at, refill_move_at}
use low.trace_laws.proofs.{out_passed, later_passed, relies_reached}
use low.trace_laws.proofs.Stays.{Stays, stays_other, stays_plain, state_plain}
use low.trace_laws.proofs.Waiting.{Passed, still_past, passed_on}
use low.history_laws.specs.{Frames.IsLooked, Frames.is_held, Places.MayUse, Places.ShowsPassed}
use low.flight.proofs.{Made.made_stands, Made.made_times, Spelling.moves_are_words}
use Rattle.flight_laws.proofs.Sweeping.{untyping_in, untyping_of, untyping_now, IsSwept, swept_on, swept_no_node, looks_untypes}
use Rattle.{std.proofs.lemmas.Bool.cases_lt, std.proofs.lemmas.Bool.cases_eq, flight_laws.proofs.Sweeping.looks_swept}
use low.{history_laws.specs.PlacesFound, history_laws.specs.ScannedCores, kernel_invariant.proofs.Facts.none_some}
use low.{act_states.specs.declared.typings.TypingAt.TheVariants.Load, act_states.specs.declared.fills.Fill.Fill as FillOf}
use low.{kernel_rules.specs.Relies.is_fixed, stage_tcap.specs.declared.charge.Charge.TheVariants.AtCompare as charge_compare}
use low.{kernel_history.proofs.Steps.own_read-other}
use low.{call_stages.specs.Steps.work_move, thread_invariant.proofs.OwnStack.top_comp, kept_facts.proofs.Claimed.guarded_thread}
use low.{kept_facts.proofs.Tcaps.tcap_stays, count_invariant.proofs.Lookups.leaf_reached, place_invariant.proofs.Removals.holds_place}

-- The frame of an entry's word.
abbrev frame_in : Word → ℕ
frame_in (EntryAt f i) = f
frame_in _ = 0

-- A call that is open after a step without an entry was so before it, and the step has neither decided nor returned it.
pub record WasOpen (decides returns : Option Reply) (p : Phase) (call : Call) : Type 0 where
  pub no_decision : decides ≡ None
  pub no_return : returns ≡ None
  pub before : p ≡ Open call

pub was_open : (d r : Option Reply) (p : Phase) (call : Call) → after_return r (after_decide d p) ≡ Open call → WasOpen d r p call
was_open None None p call is = record { no_decision = refl; no_return = refl; before = is }
was_open (Some q) None Out call is = absurd (cc)
was_open d (Some r) p call is = absurd (cc)
was_open _ _ _ call is = absurd (cc)

-- The word is of the temporal capability of core c.
abbrev pub IsOwnTcap : Setting → Trace → ℕ → ℕ → Type 0
IsOwnTcap setup t c f = ((state_after setup t).core c).tcap ≡ f

-- It is of the thread of core c, or of a thread or a temporal capability that no other core may retype.
abbrev pub IsBeside : State → ℕ → ℕ → Type 0
IsBeside s c f = ((s.core c).thread ≡ f) ⊎ (HasThread s c f ⊎ HasTcap s c f)

-- The word is of no node: of the temporal capability of core c, of a component that no other core may retype, of a frame that the call of
-- c makes untyped, or of a thread or a temporal capability.
abbrev pub IsNoEntry : Setting → Trace → ℕ → ℕ → Type 0
IsNoEntry setup t c f =
    IsOwnTcap setup t c f
    ⊎ (HasComp (state_after setup t) c f ⊎ (IsSwept (cores_after setup t c).active f ⊎ IsBeside (state_after setup t) c f))

-- An undecided call relies on the node of the entry on which it steps next, unless it stores there an entry of a node that it makes, looks
-- at the object of a frame that it makes untyped, or the word is of no node.
module _ (setup : Setting) (setting : IsSetting setup) (t : Trace) (cores : ℕ → Core) (stands : Invariant setup cores t)
    (c : ℕ) (call : Call) (is_open : phase t c ≡ Open call) (f i : ℕ) where
  abbrev Rests : Type 0
  Rests = Relies (state_after setup t) c f ⊎ IsNoEntry setup t c f

  -- the core is one of the machine
  is_core : c < setup.cores
  is_core = elim (cases_lt c setup.cores) [
    | inl below ↦ below
    | inr past ↦ absurd (not_out (sym is_open ∙ (stands.away c past).out))
  ]
    where
      not_out : Open call ≡ Out → ⊥
      not_out h = cc

  of_frame : (g j : ℕ) → EntryAt g j ≡ EntryAt f i → Relies (state_after setup t) c g → Rests
  of_frame g j on relies = inl (subst (Relies (state_after setup t) c) (ap frame_in on) relies)

  by_look : (target : Target) (look : Look) → LooksUp setup t c target look → word_of (look_move look) ≡ EntryAt f i → Rests
  by_look (Under table n) (AtRoot root number) looks on =
      of_frame root (number / 64) on (subst (Relies (state_after setup t) c) looks.at.frame looks.relies)
  by_look (Under table n) (AtLeaf leaf number) looks on = of_frame leaf _ on
      (relies_reached setup setting t stands.legal c call is_open table n _
      (leaf_reached (state_after setup t) c table n leaf looks.at.found looks.at.within looks.at.link))
  by_look (InRoot table j) (AtEntry root index) looks on =
      of_frame root index on (subst (Relies (state_after setup t) c) looks.at.frame looks.relies)
  by_look _ _ looks on = absurd looks.at

  by_next : (table : ℕ) (next : Next) (look : Look) → LooksFor setup t c table next look → word_of (look_move look) ≡ EntryAt f i → Rests
  by_next table (NextName n wanted) look looks on = by_look (own_in table n) look looks on
  by_next table (NextFree target) look looks on = by_look target look looks on
  by_next table (NextHeld target) look looks on = by_look target look looks on
  by_next table _ look looks on = absurd looks

  by_close : (a : ActiveCall) (close : Close) (cap : Capability) → KnowsClose setup t c a.call (plan_for a.call) a.found close cap
      → word_of (close_move close) ≡ EntryAt f i → Rests
  by_close a (AtCompare node index word by) cap has on = of_frame node index on
      (slot_relies setup setting t stands.legal c call is_open has.removal.target (record { node = node; index = index }) has.removal.way)
  by_close a (AtDraw node index) cap has on = absurd (cc)
  by_close a (AtStore node index at) cap has on = absurd has

  by_typing : (g : ℕ) (y : Typing) (at : TypingAt) → word_of (typing_at g y.kind at) ≡ EntryAt f i → Rests
  by_typing g y Load on = absurd (cc)
  by_typing g y (type_compare word) on = absurd (cc)

  by_making : (a : ActiveCall) (g : ℕ) (object : NewObject) (core : ℕ) (fill : FillOf) (at : MakingAt)
      → IsSpot setup t c (plan_for a.call) a.found setup.cores fill.node fill.entry fill.word
      → word_of (making_at g object core fill at) ≡ EntryAt f i → reads (making_at g object core fill at) ≡ true → Rests
  by_making a g object core fill (MakingAt.Store word entry) spot on read = absurd (false≢true read)
  by_making a g object core fill (MakingAt.Fill word) spot on read = of_frame fill.node fill.entry on
      (slot_relies setup setting t stands.legal c call is_open spot.target (record { node = fill.node; index = fill.entry }) spot.way)
  by_making a g object core fill _ spot on read = absurd (cc)

  -- the word is of the core's own thread, of a component, or of a thread or a temporal capability that the call guards
  of_comp : (g j : ℕ) → EntryAt g j ≡ EntryAt f i → HasComp (state_after setup t) c g → Rests
  of_comp g j on comp = inr (inr (inl (subst (HasComp (state_after setup t) c) (ap frame_in on) comp)))

  of_own : (g j : ℕ) → EntryAt g j ≡ EntryAt f i → g ≡ ((state_after setup t).core c).thread → Rests
  of_own g j on own = inr (inr (inr (inr (inl (sym own ∙ ap frame_in on)))))

  of_thread : (g j : ℕ) → EntryAt g j ≡ EntryAt f i → HasThread (state_after setup t) c g → Rests
  of_thread g j on has = inr (inr (inr (inr (inr (inl (subst (HasThread (state_after setup t) c) (ap frame_in on) has))))))

  of_tcap : (g j : ℕ) → EntryAt g j ≡ EntryAt f i → HasTcap (state_after setup t) c g → Rests
  of_tcap g j on has = inr (inr (inr (inr (inr (inr (subst (HasTcap (state_after setup t) c) (ap frame_in on) has))))))

  by_invoking : (g : ℕ) (at : InvokingAt) → HasComp (state_after setup t) c g → word_of (invoking_at g at) ≡ EntryAt f i → Rests
  by_invoking g InvokingAt.LoadTable comp on = of_comp g 0 on comp
  by_invoking g (InvokingAt.LoadPages table) comp on = of_comp g 1 on comp
  by_invoking g (InvokingAt.LoadComp table pages) comp on = of_comp g 2 on comp
  by_invoking g (InvokingAt.LoadLive table pages life) comp on = absurd (cc)

  by_returning : (thread depth : ℕ) (at : ReturningAt) → thread ≡ ((state_after setup t).core c).thread
      → HasLoadedBelow (state_after setup t) c at → word_of (returning_at thread depth at) ≡ EntryAt f i → Rests
  by_returning thread depth ReturningAt.LoadBelow own at on = of_own thread _ on own
  by_returning thread depth (ReturningAt.LoadTable comp) own at on = of_comp comp 0 on at.comp
  by_returning thread depth (ReturningAt.LoadPages comp table) own at on = of_comp comp 1 on at.0.comp
  by_returning thread depth (ReturningAt.Draw comp table pages) own at on = absurd (cc)

  by_sharing : (p : Pair) (at : PairAt) → HasTcap (state_after setup t) c p.a → HasTcap (state_after setup t) c p.b
      → KnowsPairAt setup t c p at → word_of (move_at p at) ≡ EntryAt f i → Rests
  by_sharing p PairAt.LoadA a b at on = of_tcap p.a 0 on a
  by_sharing p PairAt.MarkA a b at on = of_tcap p.a 0 on a
  by_sharing p (PairAt.ListA n) a b at on = of_tcap p.a n on a
  by_sharing p (PairAt.ListB n) a b at on = of_tcap p.b n on b
  by_sharing p (PairAt.StoreList n) a b at on = absurd at
  by_sharing p PairAt.StoreB a b at on = absurd at
  by_sharing p (PairAt.StoreA moved v) a b at on = absurd at
  by_sharing p _ a b at on = of_tcap p.b 0 on b

  by_switching : (m : Switching) (at : SwitchAt) → HasThread (state_after setup t) c (claimed_by at) → KnowsSwitchAt setup t c at
      → word_of (switching_at m at) ≡ EntryAt f i → reads (switching_at m at) ≡ true → Rests
  by_switching m (SwitchAt.Claim (Claim.AtLoad g core)) has at on read = of_thread g 0 on has
  by_switching m (SwitchAt.Claim (Claim.AtCompare g core depth)) has at on read = of_thread g 0 on has
  by_switching m (SwitchAt.Claim (Claim.AtStack g depth)) has at on read = of_thread g depth on has
  by_switching m (SwitchAt.LoadTable to) has at on read = of_comp to.comp 0 on at.comp
  by_switching m (SwitchAt.LoadPages to table) has at on read = of_comp to.comp 1 on at.top.comp
  by_switching m (SwitchAt.Leave to table pages) has at on read = absurd (false≢true read)
  by_switching m (SwitchAt.Draw to table pages) has at on read = absurd (cc)

  by_charge : (call : Call) (charge : Charge) → ChargesBy (state_after setup t) c call charge → word_of (charge_move charge) ≡ EntryAt f i
      → Rests
  by_charge (Tick n) (charge_load g ticks) has on = inr (inl (sym has.tcap ∙ ap frame_in on))
  by_charge (Tick n) (charge_compare g ticks budget version) has on = inr (inl (sym has.tcap ∙ ap frame_in on))
  by_charge call charge has on = absurd has

  by_refill : (r : Refill) (at : RefillAt) → HasTcap (state_after setup t) c r.tcap → KnowsRefillAt setup t c r at
      → word_of (refill_move_at r at) ≡ EntryAt f i → Rests
  by_refill r (RefillAt.List n) has at on = of_tcap r.tcap n on has
  by_refill r _ has at on = of_tcap r.tcap 0 on has

  by_killing : (g core : ℕ) (at : KillingAt) → HasComp (state_after setup t) c g → word_of (killing_at g core at) ≡ EntryAt f i → Rests
  by_killing g core LoadComp comp on = inr (inr (inl (subst (HasComp (state_after setup t) c) (ap frame_in on) comp)))
  by_killing g core _ comp on = absurd (cc)

  by_comp : (a : ActiveCall) (m : CompMaking) (at : CompAt)
      → IsSpot setup t c (plan_for a.call) a.found setup.cores m.fill.node m.fill.entry m.fill.word
      → word_of (comp_at m at) ≡ EntryAt f i → reads (comp_at m at) ≡ true → Rests
  by_comp a m (CompAt.Scan word last (AtCore x by at page)) spot on read = absurd (cc)
  by_comp a m (CompAt.Store word last entry) spot on read = absurd (false≢true read)
  by_comp a m (CompAt.Fill word last) spot on read = of_frame m.fill.node m.fill.entry on
      (slot_relies setup setting t stands.legal c call is_open spot.target (record { node = m.fill.node; index = m.fill.entry }) spot.way)
  by_comp a m _ spot on read = absurd (cc)

  some_act : (m : Untyping) → Some m ≡ None → ⊥
  some_act m h = cc

  by_work : (table : ℕ) (a : ActiveCall) (work : Work) → KnowsWork setup t c table a work → word_of (work_move work) ≡ EntryAt f i
      → reads (work_move work) ≡ true → untyping_in work ≡ None → Rests
  by_work table a (Lookup look) has on read none = by_next table (next_of (plan_for a.call) a.found) look has.looks on
  by_work table a (Read g look) has on read none = inr (inr (inl (subst (HasComp (state_after setup t) c) (ap frame_in on) has.comp)))
  by_work table a (Scan (AtCore at by upto page) act) has on read none = absurd (cc)
  by_work table a (Acquire (AtLoad frame core) change act) has on read none = absurd (cc)
  by_work table a (Act (Fill fill)) has on read none = of_frame fill.node fill.entry on
      (slot_relies setup setting t stands.legal c call is_open has.knows.target (record { node = fill.node; index = fill.entry })
      has.knows.way)
  by_work table a (Act (Remove close cap)) has on read none = by_close a close cap has.knows on
  by_work table a (Act (Retype typing)) has on read none = by_typing typing.frame typing typing.at on
  by_work table a (Act (Make m)) has on read none = by_making a m.frame m.object m.core m.fill m.at has.knows.spot on read
  by_work table a (Act (Outside node entry word)) has on read none = absurd (false≢true has.goes)
  by_work table a (Act (tick_act charge)) has on read none = by_charge a.call charge has.knows.charges on
  by_work table a (Act (Touch m)) has on read none = by_look (own_in m.pages m.page) m.look has.knows.looks on
  by_work table a (Act (Kill m)) has on read none = by_killing m.comp m.core m.at has.knows.comp on
  by_work table a (Act (Untype m)) has on read none = absurd (some_act m none)
  by_work table a (Act (Share p)) has on read none = by_sharing p p.at has.knows.tcap_a has.knows.tcap_b has.knows.at on
  by_work table a (Act (refill_act r)) has on read none = by_refill r r.at has.knows.tcap has.knows.at on
  by_work table a (Act (Switch m)) has on read none = by_switching m m.at has.knows.thread has.knows.at on read
  by_work table a (Act (MakeComp m)) has on read none = by_comp a m m.at has.knows.spot on read
  by_work table a (Act (Invoke m)) has on read none = by_invoking m.comp m.at has.knows.comp on
  by_work table a (Act (Return m)) has on read none = by_returning m.thread m.depth m.at has.knows.on.thread has.knows.at on
  by_work table a _ has on read none = absurd (cc)

  by_stage : (table : ℕ) (own : Own) (a : ActiveCall) (stage : Stage) → phase_at a.call stage ≡ Open call
      → KnowsAt setup t c table a stage
      → word_of (stage_move own a.counts stage) ≡ EntryAt f i → reads (stage_move own a.counts stage) ≡ true → untyping_of stage ≡ None
      → Rests
  by_stage table own a Enter is has on read none = absurd has
  by_stage table own a (Living (AtComp comp)) is has on read none =
      of_comp comp 2 on (subst (HasComp (state_after setup t) c) (sym has.at) (top_comp setup setting t stands.legal c is_core))
  by_stage table own a (Undecided work) is has on read none = by_work table a work has.knows on read none
  by_stage table own a _ is has on read none = absurd (cc)

  pub step_relies : (table : ℕ) (own : Own) (o : Option ActiveCall) → CallIs setup t c table o → word_of (move_in own o) ≡ EntryAt f i
      → reads (move_in own o) ≡ true → untyping_now o ≡ None → Rests
  step_relies table own None is on read none = absurd (cc)
  step_relies table own (Some a) is on read none = by_stage table own a a.stage (sym is.phase ∙ is_open) is.knows on read none

-- A step has read what it has found and left.
pub record HasReadIt (e : Step) (w : ℕ) : Type 0 where
  pub by_read : reads e.move ≡ true
  pub found : e.found ≡ w
  pub left : left_of e.move e.found ≡ e.found

and_left : (a b : Bool) → (a && b) ≡ true → a ≡ true
and_left true b h = refl
and_left false b h = absurd (false≢true h)

and_right : (a b : Bool) → (a && b) ≡ true → b ≡ true
and_right true b h = h
and_right false b h = absurd (false≢true h)

pub has_read : (e : Step) (w : ℕ) (b : Bool) → only_reads e ≡ b → cond b (Some e.found) None ≡ Some w → HasReadIt e w
has_read e w true is h = record {
  by_read = and_left _ _ is;
  found = some_inj e.found w h;
  left = eqb-true (left_of e.move e.found) e.found (and_right _ _ is);
}
has_read e w false is h = absurd (none_some w h)

-- What a step on a word that it reads is told.
told_read : (move : Move) → reads move ≡ true → (x : ℕ) → told_of move x ≡ x
told_read (StoreOf w new) is x = absurd (false≢true is)
told_read (AddOf w by) is x = absurd (false≢true is)
told_read _ is x = refl

-- What an entry holds.
record HeldIn (o : Option Entry) : Type 0 where
  cap : Capability
  is : o ≡ Some (Held cap)

held_in : (o : Option Entry) → is_held o ≡ true → HeldIn o
held_in (Some (Held k)) h = record { cap = k; is = refl }
held_in _ h = absurd (false≢true h)

-- What a call had read before a step that leaves it so; and that step begins no call.
pub entered_none : (o : Option Call) (r : Option ℕ) (w : ℕ) → cond (is_some o) None r ≡ Some w → (o ≡ None) × (r ≡ Some w)
entered_none None r w h = (refl, h)
entered_none (Some call) r w h = absurd (none_some w h)

-- What an undecided call has found held, its core may use still, unless the word is of no node.
abbrev IsFound : Setting → Trace → ℕ → ℕ → ℕ → Capability → Type 0
IsFound setup t c f i k = MayUse (state_after setup t) c (record { node = f; index = i }) k ⊎ IsNoEntry setup t c f

abbrev FoundLasts : Setting → Trace → Type 0
FoundLasts setup t = (c : ℕ) (call : Call) → phase t c ≡ Open call → (f i w : ℕ) (k : Capability)
    → own_read t c (EntryAt f i) ≡ Some w → entry_of_word w ≡ Some (Held k) → IsFound setup t c f i k

-- A component is no node, and no call changes it; nor is a temporal capability a node.
comp_fixed : (x : Frame) → IsTrue (fits comp_kind x) → IsTrue (is_fixed x)
comp_fixed (Kernel (Comp k)) h = refl
comp_fixed _ h = absurd (false≢true h)

pub comp_no_node : (x : Frame) → IsTrue (fits comp_kind x) → IsTrue (is_node x) → ⊥
comp_no_node (Kernel (Comp k)) h node = false≢true node
comp_no_node _ h node = absurd (false≢true h)

pub tcap_no_node : (x : Frame) → IsTrue (fits Kind.Tcap x) → is_node x ≡ false
tcap_no_node (Kernel (Tcap q)) fit = refl
tcap_no_node x fit = absurd (false≢true fit)

pub thread_no_node : (x : Frame) → IsTrue (fits Kind.Thread x) → is_node x ≡ false
thread_no_node (Kernel (Thread k)) fit = refl
thread_no_node x fit = absurd (false≢true fit)

pub beside_no_node : (s : State) (c f : ℕ) → IsTrue (fits Kind.Thread (s.frame (s.core c).thread)) → IsBeside s c f
    → is_node (s.frame f) ≡ false
beside_no_node s c f own (inl is) = thread_no_node (s.frame f) (subst (λ (g : ℕ). IsTrue (fits Kind.Thread (s.frame g))) is own)
beside_no_node s c f own (inr (inl has)) = thread_no_node (s.frame f) has.thread
beside_no_node s c f own (inr (inr has)) = tcap_no_node (s.frame f) has.tcap

-- A step that neither decides nor returns goes on.
going_told : (said : Absorbed) → decided_in said ≡ None → returned_in said ≡ None → said ≡ Absorbed.Going
going_told Absorbed.Going d r = refl
going_told _ d r = absurd (cc)

module _ (setup : Setting) (setting : IsSetting setup) where
  goes_on_told : (t : Trace) (e : Step) → IsMadeStep setup t e → e.decides ≡ None → e.returns ≡ None
      → told_of_step (stepping_core setup t e) (told_of (move_of (stepping_core setup t e)) e.found) ≡ Absorbed.Going
  goes_on_told t e made no_decision no_return =
      going_told (told_of_step (stepping_core setup t e) (told_of (move_of (stepping_core setup t e)) e.found))
      (sym (ap (λ (x : Step). x.decides) made.made) ∙ no_decision) (sym (ap (λ (x : Step). x.returns) made.made) ∙ no_return)

  -- what a call may use, it may use after a step through which it stays
  kept : (t : Trace) (e : Step) (c f i : ℕ) (k : Capability) → Stays setup t e c
      → MayUse (state_after setup t) c (record { node = f; index = i }) k
      → MayUse (state_after setup (e ∷ t)) c (record { node = f; index = i }) k
  kept t e c f i k stays may = record {
    relies = stays.relies f may.relies;
    usable = stays.usable (record { node = f; index = i }) k may.relies may.usable;
  }

  comp_kept : (t : Trace) (e : Step) (c f : ℕ) → Stays setup t e c → HasComp (state_after setup t) c f
      → HasComp (state_after setup (e ∷ t)) c f
  comp_kept t e c f stays has = record {
    comp = subst (λ x. IsTrue (fits comp_kind x))
        (sym (stays.frame f (comp_fixed ((state_after setup t).frame f) has.comp) has.guarded)) has.comp;
    guarded = stays.guarded f has.guarded;
  }

  -- what is known of a frame that the call makes untyped stays while other cores step, and at an own step with which the call goes on
  pub swept_other : (t : Trace) (e : Step) (c f : ℕ) → c ≢ e.core → IsSwept (cores_after setup t c).active f
      → IsSwept (cores_after setup (e ∷ t) c).active f
  swept_other t e c f other has = subst (λ k. IsSwept k.active f)
      (sym (put_other (cores_after setup t) e.core (core_after (stepping_core setup t e) e.found) c other)) has

  pub swept_own : (t : Trace) (e : Step) → IsMadeStep setup t e → e.enters ≡ None → e.decides ≡ None → e.returns ≡ None → (f : ℕ)
      → IsSwept (cores_after setup t e.core).active f → IsSwept (cores_after setup (e ∷ t) e.core).active f
  swept_own t e made no_entry no_decision no_return f has = subst (λ k. IsSwept k.active f)
      (sym (put_same (cores_after setup t) e.core (core_after (stepping_core setup t e) e.found) e.core refl))
      (swept_on (stepping_core setup t e) f (told_of (move_of (stepping_core setup t e)) e.found)
      (subst (λ o. IsSwept (turned o (cores_after setup t e.core)).active f) (sym no_entry) has)
      (goes_on_told t e made no_decision no_return))

  -- so does what is known of a thread or of a temporal capability
  pub beside_other : (t : Trace) (e : Step) → IsMade setup (e ∷ t) → (c f : ℕ) (call : Call) → c ≢ e.core → phase t c ≡ Open call
      → IsBeside (state_after setup t) c f → IsBeside (state_after setup (e ∷ t)) c f
  beside_other t e made c f call other is has = by has
    where
      before : Invariant setup (cores_after setup t) t
      before = made_stands setup setting t made.0

      follows : MayFollow setup t e
      follows = (made_stands setup setting (e ∷ t) made).legal.1

      here : c < setup.cores
      here = subst (λ (n : ℕ). c < n) (ap (λ l. l.cores) (limits_of setup t))
          ((sound_of setup setting t before.legal).inside c (opened_is t c call is)).1

      by : IsBeside (state_after setup t) c f → IsBeside (state_after setup (e ∷ t)) c f
      by (inl own) = inl (ap (λ k. k.thread) (stays_other setup setting t before.legal e follows c other call is).core ∙ own)
      by (inr (inl thread)) =
          inr (inl (guarded_thread setup setting (cores_after setup t) t before e follows c other (ap is_in is) f thread))
      by (inr (inr tcap)) = inr (inr (tcap_stays setup setting t before.legal e follows c here other (ap is_in is) f tcap))

  pub beside_own : (t : Trace) (e : Step) → e.enters ≡ None → e.decides ≡ None → e.returns ≡ None → (c f : ℕ)
      → IsBeside (state_after setup t) c f → IsBeside (state_after setup (e ∷ t)) c f
  beside_own t e no_entry no_decision no_return c f has =
      subst (λ s. IsBeside s c f) (sym (state_plain setup t e no_entry no_decision no_return)) has

  pub no_entry_kept : (t : Trace) (e : Step) (c f : ℕ) → Stays setup t e c
      → (IsSwept (cores_after setup t c).active f → IsSwept (cores_after setup (e ∷ t) c).active f)
      → (IsBeside (state_after setup t) c f → IsBeside (state_after setup (e ∷ t)) c f) → IsNoEntry setup t c f
      → IsNoEntry setup (e ∷ t) c f
  no_entry_kept t e c f stays sweeps beside (inl own) = inl (ap (λ x. x.tcap) stays.core ∙ own)
  no_entry_kept t e c f stays sweeps beside (inr (inl comp)) = inr (inl (comp_kept t e c f stays comp))
  no_entry_kept t e c f stays sweeps beside (inr (inr (inl swept))) = inr (inr (inl (sweeps swept)))
  no_entry_kept t e c f stays sweeps beside (inr (inr (inr is))) = inr (inr (inr (beside is)))

  found_kept : (t : Trace) (e : Step) (c f i : ℕ) (k : Capability) → Stays setup t e c
      → (IsSwept (cores_after setup t c).active f → IsSwept (cores_after setup (e ∷ t) c).active f)
      → (IsBeside (state_after setup t) c f → IsBeside (state_after setup (e ∷ t)) c f) → IsFound setup t c f i k
      → IsFound setup (e ∷ t) c f i k
  found_kept t e c f i k stays sweeps beside (inl may) = inl (kept t e c f i k stays may)
  found_kept t e c f i k stays sweeps beside (inr none) = inr (no_entry_kept t e c f stays sweeps beside none)

  -- what an unmarked word of a node says to be held is usable
  holds_it : (t : Trace) → IsMade setup t → (c f i : ℕ) (k : Capability) → Relies (state_after setup t) c f → i < 64
      → entry_of_word (last_left setup t (EntryAt f i)) ≡ Some (Held k)
      → MayUse (state_after setup t) c (record { node = f; index = i }) k
  holds_it t made c f i k relies below held =
      by_read (place_reads setup (cores_after setup t) t (made_stands setup setting t made) f i relies.node below)
    where
      by_read : IsMarked setup t f i ⊎ IsUnmarked setup t f i → MayUse (state_after setup t) c (record { node = f; index = i }) k
      by_read (inl m) = absurd (not_closing (sym m.says ∙ held))
        where
          not_closing : Some (Closing m.by) ≡ Some (Held k) → ⊥
          not_closing h = cc
      by_read (inr p) = record {
        relies = relies;
        usable = ap (λ q. usable_in q (((state_after setup t).grace (PlaceOf f i)).waits c))
            (holds_place setup.frames ((state_after setup t).place f i) (stamp setup t (PlaceOf f i))
            (entry_of_word (last_left setup t (EntryAt f i))) k p.says held);
      }

  -- a step within a call is made by the call of its core
  module _ (t : Trace) (e : Step) (made : IsMade setup (e ∷ t)) where
    stands : Invariant setup (cores_after setup t) t
    stands = made_stands setup setting t made.0

    move_is : e.move ≡ move_of (stepping_core setup t e)
    move_is = ap (λ (x : Step). x.move) made.1.made

    -- a call that begins steps on no entry
    pub enters_none : (o : Option Call) → e.enters ≡ o → (f i : ℕ) → EntryAt f i ≡ word_of e.move → e.enters ≡ None
    enters_none None is f i on = is
    enters_none (Some call) is f i on =
        absurd (apart (on ∙ ap word_of move_is ∙ ap (λ o. word_of (move_of (turned o (cores_after setup t e.core)))) is))
      where
        apart : EntryAt f i ≡ CoreAt (cores_after setup t e.core).own.core → ⊥
        apart h = cc

    -- its own step on the entry, with which it goes on
    module _ (call : Call) (is_open : phase t e.core ≡ Open call) (no_entry : e.enters ≡ None) (no_decision : e.decides ≡ None)
        (no_return : e.returns ≡ None) (f i w : ℕ) (on : EntryAt f i ≡ word_of e.move) (read : HasReadIt e w) (looked : IsLooked call w)
      where
        abbrev core : Core
        core = cores_after setup t e.core

        moves : word_of (move_of core) ≡ EntryAt f i
        moves = sym (on ∙ ap word_of move_is ∙ ap (λ o. word_of (move_of (turned o core))) no_entry)

        reads_it : reads (move_of core) ≡ true
        reads_it = sym (ap reads move_is ∙ ap (λ o. reads (move_of (turned o core))) no_entry) ∙ read.by_read

        pub read_in : (f < core.own.layout.frames) × (i < 64)
        read_in = subst (IsIn core.own.layout) moves
            (moves_are_words core (stands.each e.core made.1.is_core).fits (subst (λ o. MayStep o core) no_entry made.1.may))

        through : Stays setup t e e.core
        through = stays_plain setup t e e.core no_entry no_decision no_return

        after_is : (cores_after setup (e ∷ t) e.core).active ≡ (absorbed_in core.own core.active w).active
        after_is = ap (λ (k : Core). k.active)
            (put_same (cores_after setup t) e.core (core_after (stepping_core setup t e) e.found) e.core refl)
            ∙ ap (λ o. (absorbed (turned o core) (told_of (move_of (turned o core)) e.found)).active) no_entry
            ∙ ap (λ (n : ℕ). (absorbed core n).active) (told_read (move_of core) reads_it e.found ∙ read.found)

        goes : told_in core.own core.active w ≡ Absorbed.Going
        goes = sym (ap (λ o. told_of_step (turned o core) (told_of (move_of (turned o core)) e.found)) no_entry
            ∙ ap (λ (n : ℕ). told_of_step core n) (told_read (move_of core) reads_it e.found ∙ read.found))
            ∙ goes_on_told t e made.1 no_decision no_return

        its : CallIs setup t e.core core.own.table core.active
        its = (stands.each e.core made.1.is_core).active

        swept_now : (m : Untyping) → untyping_now core.active ≡ Some m → IsSwept (cores_after setup (e ∷ t) e.core).active f
        swept_now m at = subst (λ o. IsSwept o f) (sym after_is) (elim looked [
          | inl not ↦ absurd (false≢true (sym not
              ∙ looks_untypes setup t e.core core.own.table core.own call is_open f i core.active its moves m at))
          | inr held ↦ (let cap : HeldIn (entry_of_word w) = held_in (entry_of_word w) held in
              looks_swept setup t e.core core.own.table core.own call is_open f i core.active its moves m at w cap.cap cap.is goes)
        ])

        pub read_rests : Relies (state_after setup (e ∷ t)) e.core f ⊎ IsNoEntry setup (e ∷ t) e.core f
        read_rests = by (untyping_now core.active) refl
          where
            kept_so : Relies (state_after setup t) e.core f ⊎ IsNoEntry setup t e.core f
                → Relies (state_after setup (e ∷ t)) e.core f ⊎ IsNoEntry setup (e ∷ t) e.core f
            kept_so (inl relies) = inl (through.relies f relies)
            kept_so (inr none) =
                inr (no_entry_kept t e e.core f through (swept_own t e made.1 no_entry no_decision no_return f)
                (beside_own t e no_entry no_decision no_return e.core f) none)

            by : (o : Option Untyping) → untyping_now core.active ≡ o
                → Relies (state_after setup (e ∷ t)) e.core f ⊎ IsNoEntry setup (e ∷ t) e.core f
            by None at = kept_so (step_relies setup setting t (cores_after setup t) stands e.core call is_open f i core.own.table core.own
                core.active its moves reads_it at)
            by (Some m) at = inr (inr (inr (inl (swept_now m at))))

        -- what it has found held there
        pub read_now : (k : Capability) → entry_of_word w ≡ Some (Held k) → IsFound setup (e ∷ t) e.core f i k
        read_now k held = by read_rests
          where
            by : Relies (state_after setup (e ∷ t)) e.core f ⊎ IsNoEntry setup (e ∷ t) e.core f → IsFound setup (e ∷ t) e.core f i k
            by (inl relies) = inl (holds_it (e ∷ t) made e.core f i k relies read_in.1
                (ap entry_of_word (last_left-here setup (EntryAt f i) e t on ∙ read.left ∙ read.found) ∙ held))
            by (inr none) = inr none

  -- what holds before a step within a call or beside it holds after it
  lasts_on : (t : Trace) (e : Step) → IsMade setup (e ∷ t) → FoundLasts setup t → FoundLasts setup (e ∷ t)
  lasts_on t e made found c call is f i w k own held = elim (cases_eq c e.core) [
    | inr other ↦ (let before : phase t c ≡ Open call = sym (phase-other c e t other) ∙ is in
        let legal : IsLegal setup (e ∷ t) = (made_stands setup setting (e ∷ t) made).legal in
        found_kept t e c f i k (stays_other setup setting t legal.0 e legal.1 c other call before) (swept_other t e c f other)
        (beside_other t e made c f call other before)
        (found c call before f i w k (sym (own_read-other c e t other (EntryAt f i)) ∙ own) held))
    | inl same ↦ subst (λ (d : ℕ). IsFound setup (e ∷ t) d f i k) (sym same)
        (by_own (subst (λ (d : ℕ). phase (e ∷ t) d ≡ Open call) same is)
        (subst (λ (d : ℕ). own_read (e ∷ t) d (EntryAt f i) ≡ Some w) same own))
  ] where
    opened : e.enters ≡ None → phase (e ∷ t) e.core ≡ Open call → WasOpen e.decides e.returns (phase t e.core) call
    opened no_entry now = was_open e.decides e.returns (phase t e.core) call
        (ap (λ o. after_return e.returns (after_decide e.decides (after_enter o (phase t e.core)))) (sym no_entry)
        ∙ sym (phase-own e.core e t refl) ∙ now)

    through : e.enters ≡ None → WasOpen e.decides e.returns (phase t e.core) call → Stays setup t e e.core
    through no_entry was = stays_plain setup t e e.core no_entry was.no_decision was.no_return

    by_own : phase (e ∷ t) e.core ≡ Open call → own_read (e ∷ t) e.core (EntryAt f i) ≡ Some w
        → IsFound setup (e ∷ t) e.core f i k
    by_own now read = elim (cases_word (EntryAt f i) (word_of e.move)) [
      | inl on ↦ (let no_entry : e.enters ≡ None = enters_none t e made e.enters refl f i on in
          let was : WasOpen e.decides e.returns (phase t e.core) call = opened no_entry now in
          read_now t e made call was.before no_entry was.no_decision was.no_return f i w on
          (has_read e w (only_reads e) refl (sym (own_read-here e.core e t refl (EntryAt f i) on) ∙ read)) (inr (ap is_held held)) k held)
      | inr there ↦ (let had : (e.enters ≡ None) × (own_read t e.core (EntryAt f i) ≡ Some w) =
          entered_none e.enters (own_read t e.core (EntryAt f i)) w (sym (own_read-there e.core e t refl (EntryAt f i) there) ∙ read) in
          let was : WasOpen e.decides e.returns (phase t e.core) call = opened had.0 now in
          found_kept t e e.core f i k (through had.0 was) (swept_own t e made.1 had.0 was.no_decision was.no_return f)
          (beside_own t e had.0 was.no_decision was.no_return e.core f)
          (found e.core call was.before f i w k had.1 held))
    ]

  lasts_along : (t : Trace) → IsMade setup t → FoundLasts setup t
  lasts_along [] made = λ c call is f i w k own held. absurd (none_some w own)
  lasts_along (e ∷ t) made = lasts_on t e made (lasts_along t made.0)

pub places_found : (setup : Setting) → IsSetting setup → (t : Trace) → IsMade setup t → PlacesFound setup t
places_found setup setting t made c call is f i w k own held node = by (lasts_along setup setting t made c call is f i w k own held)
  where
    stands : Invariant setup (cores_after setup t) t
    stands = made_stands setup setting t made

    below : c < (state_after setup t).limits.cores
    below = ((sound_of setup setting t stands.legal).inside c (opened_is t c call is)).1

    by : IsFound setup t c f i k → MayUse (state_after setup t) c (record { node = f; index = i }) k
    by (inl may) = may
    by (inr (inl own)) = absurd (false≢true (sym (tcap_no_node ((state_after setup t).frame f)
        (subst (λ (g : ℕ). IsTrue (fits Kind.Tcap ((state_after setup t).frame g))) own
        ((sound_of setup setting t stands.legal).cores c below).1)) ∙ node))
    by (inr (inr (inl comp))) = absurd (comp_no_node ((state_after setup t).frame f) comp.comp node)
    by (inr (inr (inr (inl swept)))) =
        absurd (false≢true (sym (swept_no_node setup (cores_after setup t) t stands c f swept) ∙ node))
    by (inr (inr (inr (inr is)))) = absurd (false≢true
        (sym (beside_no_node (state_after setup t) c f ((sound_of setup setting t stands.legal).cores c below).0 is) ∙ node))

-- A scan for a stamp that is past has passed a core.
record HasPassed (setup : Setting) (t : Trace) (x : Thing) (at d : ℕ) : Type 0 where
  pub past : at < clock setup t
  pub passed : Passed setup t x at d

module _ (setup : Setting) (setting : IsSetting setup) where
  -- it has passed the core after each further step
  passes_on : (t : Trace) (e : Step) → IsMade setup (e ∷ t) → (x : Thing) (at d : ℕ) → HasPassed setup t x at d
      → HasPassed setup (e ∷ t) x at d
  passes_on t e made x at d has =
      let stands : Invariant setup (cores_after setup t) t = made_stands setup setting t made.0 in
      let follows : MayFollow setup t e = (made_stands setup setting (e ∷ t) made).legal.1 in
      let time : KeepsTime setup t e = made_times setup setting t e made in
      record {
        past = still_past setup t e follows time stands.graces at has.past;
        passed = passed_on setup t e follows time stands.graces x at d has.past has.passed;
      }

  -- before the step that finds the core's word, the core does not wait
  passes : (t : Trace) (e : Step) → IsMade setup (e ∷ t) → (d : ℕ) (v : CoreWord) → word_of e.move ≡ CoreAt d
      → core_of_word e.found ≡ Some v → (at : ℕ) → ShowsPassed v at → (x : Thing) → Passed setup t x at d
  passes t e made d v on shows at passed x = by_word passed
    where
      stands : Invariant setup (cores_after setup t) t
      stands = made_stands setup setting t made.0

      says : v ≡ record { inside = ((state_after setup t).core d).inside; stamp = exit_of t d }
      says = some_inj v _ (sym shows ∙ ap core_of_word (made.1.found ∙ ap (last_left setup t) on) ∙ stands.words (CoreAt d))

      by_word : ShowsPassed v at → Passed setup t x at d
      by_word (inl out) = out_passed setup t x (stands.graces x) d at (sym (ap (λ (k : CoreWord). k.inside) says) ∙ out)
      by_word (inr later) =
          later_passed setup t x (stands.graces x) d at (subst (λ (n : ℕ). at < n) (ap (λ (k : CoreWord). k.stamp) says) later)

  passes_along : (u t : Trace) (e : Step) → IsMade setup (u ++ e ∷ t) → (d : ℕ) (v : CoreWord) → word_of e.move ≡ CoreAt d
      → core_of_word e.found ≡ Some v → (at : ℕ) → at < clock setup t → ShowsPassed v at → (x : Thing)
      → HasPassed setup (u ++ e ∷ t) x at d
  passes_along [] t e made d v on shows at past passed x =
      passes_on t e made x at d (record { past = past; passed = passes t e made d v on shows at passed x })
  passes_along (g ∷ u) t e made d v on shows at past passed x =
      passes_on (u ++ e ∷ t) g made x at d (passes_along u t e made.0 d v on shows at past passed x)

pub scanned_cores : (setup : Setting) → IsSetting setup
    → (u t : Trace) (e : Step) → IsMade setup (u ++ e ∷ t) → ScannedCores setup u (e ∷ t)
scanned_cores setup setting u t e made d v on shows at past passed x is =
    (passes_along setup setting u t e made d v on shows at past passed x).passed is
