-- What a call knows it still knows after a step of another core, and after an own step that decides nothing: each kind of
-- knowledge once, over the few things that such a step keeps.
use Rattle.core_invariant.specs as low
use low.{NewObject, live_of_word, LiveWord, CompAt, CompMaking, Load as making_load, Mark, Store, MakingAt, map, ◌+◌, ◌≡◌, ◌≤◌, ℕ, ◌&&◌}
use low.{◌||◌, not, leb as nat_le, if◌then◌else◌, cond, [], ◌∷◌, ◌++◌, List, Bool, true, false, Option, Some, None, refl, ◌==◌, IsTrue}
use low.{IsSome, is_some, All, length, Acquired, count_of, Capability, Setting, IsSetting, CompWord, KillingAt, LoadComp, LoadLive}
use low.{Close as kill_close, Draw as kill_draw, Call, Word, EntryAt, CountAt, FrameAt, LiveAt, word_of, Look, AtLeaf, Want, Slot, Named}
use low.{root_at, found, Target, Under, InRoot, usable, linked, root_slot, reached, fits, Relies, Step, Trace, Open, phase, state_after}
use low.{own_left, own_read, last_left, HasReached, IsLegal, IsInFootprint, Name, Plan, Leads, Next, NextName, NextFree, NextHeld, NextOwn}
use low.{NextNothing, next_of, Entry, entry_of_word, Thing, PlaceOf, Frame, Kernel, Comp, comp_in, first_of_stack, NumberOf, FrameOf}
use low.{thread_in, stamp, AtCompare, AtDraw, AtStore, Quiet, AtCore, AtFlush, Pin, Fill as fill_act, Make as make_act, Outside}
use low.{Kill as kill_act, Untype as untype_act, Map as map_act, MakeComp as comp_act, Touch as touch_act, Share as share_act}
use low.{Refill as refill_act, Switch as switch_act, Work, Lookup, Read, Scan, Acquire, Act, reads_of, ActiveCall, due_of, IsCount}
use low.{HasFound, LooksUp, own_in, NamesAre, LooksFor, IsScanned, MayFill, KnowsClose, KnowsAct, KnowsQuiet, KnowsStore, acts, AtComp}
use low.{AtLive, KnowsWork, KnowsUndecided, ChargesBy, IsSpot, HasStored, KnowsMakingAt, HasComp, ReadIs, ReadBefore, scanned_for, HasUser}
use low.{MayTake, KnowsCompAt, KnowsLive, Charge, AtLoad as charge_load, Typing, TypingAt, CountWord, frame_names, latest_stamp, loads_of}
use low.{Owned, Sweep, SweepAt, Compare as sweep_compare, Empty as sweep_empty, UntypingAt, Invoking, ReturningAt, HasLoadedComp}
use low.{KnowsInvoking, HasLoadedBelow, KnowsReturning, below_of, Claimed, SwitchAt, IsTop, KnowsSwitchAt, claimed_by, is_claimed, IsQuiet}
use low.{IsSwept, KnowsSweepScan, KnowsSweepAt, KnowsUntypingAt, plan_for, Claim, act_states.specs.comp_is_marked}
use low.{act_states.specs.comp_word_at, act_states.specs.is_marked, act_states.specs.AtLoad, act_states.specs.ticks_due}
use low.act_states.proofs.{last_word, arith, inl, inr, ◌∙◌, ap, subst, sym, eq-eqb, false≢true, translation_of, some_inj, want_of, Close}
use low.act_states.proofs.{asks_life, Alive, Map, Tick, Load as sweep_load, Scan as sweep_scan}
use low.act_states.specs.{declared.comps.LastEpoch.LastEpoch, declared.makings.MakingAt.TheVariants.Fill as making_fill}
use low.act_states.specs.{declared.fills.Fill.Fill, declared.work.Act.Act as ActOf, declared.typings.TypingAt.TheVariants.Load}
use low.Acting.{KnowsTyping, HasMetAt, HasHeadAt, KnowsTick, KnowsKillingAt, TakesNumber, KnowsNumber, HasWords}
use low.{act_states.specs.declared.typings.TypingAt.TheVariants.Compare as type_compare}
use low.{act_states.specs.declared.invocations.Returning.Returning, stage_pins.specs.declared.pin.Pin.TheVariants.AtCompare as pin_compare}
use low.{Reaching.IsReached, Reaching.LookIs, Reaching.IsFill, Reaching.IsRemoval, Knows.HasLoaded, Knows.KnowsAlive, Knows.KnowsAliveAt}
use low.{Knows.KnowsDead, Knows.KnowsScan, Components.HasLife, Components.IsOnThread, Components.IsBelow, Threads.HasTable}
use low.{Threads.HasRoots, stage_tcap.specs.declared.charge.Charge.TheVariants.AtCompare as charge_compare}
use Rattle.{kernel_laws.specs.kernel_rules.specs.is_fixed, kernel_laws.specs.kernel_rules.specs.may_act}
use Rattle.{thread_laws.specs.trace_laws.proofs.relies_reached, thread_laws.specs.trace_laws.proofs.was_stays}
use Rattle.{thread_laws.specs.kernel_history.proofs.cases_word, thread_laws.specs.kernel_history.proofs.own_left-here}
use Rattle.{std.proofs.lemmas.List.Elements.All-nil, std.proofs.lemmas.List.Elements.All-cons, std.proofs.lemmas.List.Elements.All-head}
use Rattle.{std.proofs.lemmas.List.Elements.All-tail, kernel_laws.specs.spk_nums.specs.declared.kinds.Kind.TheVariants.Comp as comp_kind}
use Rattle.{kernel_laws.specs.kernel_invariant.proofs.Facts.none_some, thread_laws.specs.kernel_history.proofs.Steps.own_left-there}
use Rattle.{thread_laws.specs.trace_laws.proofs.Carries.Carries, kept_facts.proofs.Swept.LeavesFrame, kept_facts.proofs.Swept.looked_on}
pub use Rattle.kept_facts.proofs.KeptReads.{stores_in, stores_of, freezes, looks_at, freezes_at, looks_in}
pub use Rattle.kept_facts.proofs.KeptReads.{reads_counts, looked_in, looked_of, claimed_in, claimed_of, KeepsThreads}
pub use Rattle.kept_facts.proofs.KeptReads.{KeepsUsers, PairsStay, start_pairs, due_pairs, quiet_starts, ReadsSame}

-- The words on which a call has stepped, after a step of it.
pub own_kept : (t : Trace) (e : Step) (c : ℕ) → c ≡ e.core → e.enters ≡ None → (w : Word) → IsSome (own_left t c w)
    → IsSome (own_left (e ∷ t) c w)
own_kept t e c own no_entry w had = elim (cases_word w (word_of e.move)) [
  | inl at ↦ ap is_some (own_left-here c e t own w at)
  | inr there ↦ ap is_some (own_left-there c e t own w there ∙ ap (λ o. cond (is_some o) None (own_left t c w)) no_entry) ∙ had
]

-- The node of the slot that a target reaches.
pub slot_relies : (setup : Setting) → IsSetting setup → (t : Trace) → IsLegal setup t → (c : ℕ) (call : Call) → phase t c ≡ Open call
    → (target : Target) (at : Slot) → IsReached setup t c target at → Relies (state_after setup t) c at.node
slot_relies setup setting t legal c call is (Under table n) at way = relies_reached setup setting t legal c call is table n at way.reached
slot_relies setup setting t legal c call is (InRoot table i) at way =
    subst (Relies (state_after setup t) c) (entry_node (table.found && nat_le i 63) way.reached) way.relies
  where
    entry_node : (b : Bool) → (if b then Some (record { node = table.frame; index = i }) else None) ≡ Some at → table.frame ≡ at.node
    entry_node true h = ap (λ (x : Slot). x.node) (some_inj record { node = table.frame; index = i } at h)
    entry_node false h = absurd (none_some at h)

module _ (setup : Setting) (setting : IsSetting setup) (t : Trace) (e : Step) (legal : IsLegal setup t) (c : ℕ) (call : Call)
    (is_open : phase t c ≡ Open call) (carries : Carries setup t e c) where
  pub slots_on : (slots : List Slot) → HasReached t c slots → HasReached (e ∷ t) c slots
  slots_on slots had = λ k at h. carries.own _ (had k at h)

  reached_by : (target : Target) (at : Slot) → IsReached setup t c target at → reached (state_after setup (e ∷ t)) c target ≡ Some at
  reached_by (Under table n) at way = carries.stays.reached table n at way.relies way.reached
  reached_by (InRoot table i) at way = way.reached

  pub reached_on : (target : Target) (at : Slot) → IsReached setup t c target at → IsReached setup (e ∷ t) c target at
  reached_on target at way = record {
    relies = carries.stays.relies _ way.relies;
    reached = reached_by target at way;
    stepped = slots_on _ way.stepped;
  }

  pub found_on : (target : Target) (wanted : Want) (k : Capability) → HasFound setup t c target wanted k
      → HasFound setup (e ∷ t) c target wanted k
  found_on target wanted k has = record {
    at = has.at;
    way = reached_on target has.at has.way;
    usable = carries.stays.usable has.at k (slot_relies setup setting t legal c call is_open target has.at has.way) has.usable;
    kind = has.kind;
    right = has.right;
    fits = has.fits;
  }

  link_on : (at : Slot) (leaf : ℕ) → Relies (state_after setup t) c at.node → linked (usable (state_after setup t) c at) ≡ Some leaf
      → linked (usable (state_after setup (e ∷ t)) c at) ≡ Some leaf
  link_on at leaf node h = by_cases (usable (state_after setup t) c at) refl h
    where
      by_cases : (o : Option Capability) → usable (state_after setup t) c at ≡ o → linked o ≡ Some leaf
          → linked (usable (state_after setup (e ∷ t)) c at) ≡ Some leaf
      by_cases None is h = absurd (cc)
      by_cases (Some k) is h = ap linked (carries.stays.usable at k node is) ∙ h

  look_on : (target : Target) (look : Look) → LooksUp setup t c target look → LookIs setup (e ∷ t) c target look
  look_on (Under table n) (AtLeaf leaf number) looks = record {
    found = looks.at.found;
    same = looks.at.same;
    within = looks.at.within;
    link = link_on (root_slot table.frame n) leaf looks.relies looks.at.link;
    stepped = carries.own _ looks.at.stepped;
  }
  look_on _ _ looks = looks.at

  pub looks_on : (target : Target) (look : Look) → LooksUp setup t c target look → LooksUp setup (e ∷ t) c target look
  looks_on target look looks = record { relies = carries.stays.relies _ looks.relies; at = look_on target look looks }

  pub names_on : (table : ℕ) (plan : Plan) (ks : List Capability) → NamesAre setup t c table plan ks
      → NamesAre setup (e ∷ t) c table plan ks
  names_on table plan ks has = leads_on plan.names [] ks has
    where
      leads_on : (names : List Name) (caps : List Named) (ks : List Capability)
          → Leads (λ n wanted k. HasFound setup t c (own_in table n) wanted k) names caps ks
          → Leads (λ n wanted k. HasFound setup (e ∷ t) c (own_in table n) wanted k) names caps ks
      leads_on names caps [] has = tt
      leads_on [] caps (k ∷ ks) has = absurd has
      leads_on (name ∷ names) caps (k ∷ ks) has =
          (found_on (own_in table name.number) (want_of caps name) k has.0, leads_on names (caps ++ found k ∷ []) ks has.1)

  -- what a call knows of its look-up, and of its act
  looks_for_on : (table : ℕ) (next : Next) (look : Look) → LooksFor setup t c table next look → LooksFor setup (e ∷ t) c table next look
  looks_for_on table (NextName n wanted) look has = looks_on (own_in table n) look has
  looks_for_on table (NextFree target) look has = looks_on target look has
  looks_for_on table (NextHeld target) look has = looks_on target look has
  looks_for_on table _ look has = has

  scanned_on : (x : Thing) (at upto : ℕ) → stamp setup t x ≤ stamp setup (e ∷ t) x → IsScanned setup t c x at upto
      → IsScanned setup (e ∷ t) c x at upto
  scanned_on x at upto rises has = record {
    some = has.some;
    past = carries.past at has.past;
    rises = (let a = has.rises in omega arith);
    was_removed = carries.was_removed x has.was_removed;
    passed = λ d below other. carries.passed x at d has.past (has.passed d below other);
    flushed = λ d below. carries.flushed x at d has.past (has.flushed d below);
  }

  may_fill_on : (x : Thing) (upto : ℕ) (o : Option Entry) → stamp setup t x ≤ stamp setup (e ∷ t) x → MayFill setup t c x upto o
      → MayFill setup (e ∷ t) c x upto o
  may_fill_on x upto (Some (Entry.Quiescing at)) rises has = scanned_on x at upto rises has
  may_fill_on x upto _ rises has = has

  comp_on : (f : ℕ) → HasComp (state_after setup t) c f → (state_after setup (e ∷ t)).frame f ≡ (state_after setup t).frame f
  comp_on f has = carries.stays.frame f (comp_fixed ((state_after setup t).frame f) has.comp) has.guarded
    where
      comp_fixed : (x : Frame) → IsTrue (fits comp_kind x) → IsTrue (is_fixed x)
      comp_fixed (Kernel (Comp k)) h = refl
      comp_fixed _ h = absurd (false≢true h)

  pub has_comp_on : (f : ℕ) → HasComp (state_after setup t) c f → HasComp (state_after setup (e ∷ t)) c f
  has_comp_on f has = record {
    comp = subst (λ x. IsTrue (fits comp_kind x)) (sym (comp_on f has)) has.comp;
    guarded = carries.stays.guarded f has.guarded;
  }

  pub life_on : (f : ℕ) (life : CompWord) → HasComp (state_after setup t) c f → HasLife (state_after setup t) f life
      → HasLife (state_after setup (e ∷ t)) f life
  life_on f life comp has = record {
    number = ap (λ x. (comp_in x).number) (comp_on f comp) ∙ has.number;
    epoch = ap (λ x. (comp_in x).epoch) (comp_on f comp) ∙ has.epoch;
  }

  -- what is known of the core's thread, of a component that is entered, and of the one below the top of the stack
  thread_on : (thread depth : ℕ) → IsOnThread (state_after setup t) c thread depth → IsOnThread (state_after setup (e ∷ t)) c thread depth
  thread_on thread depth has = record {
    thread = has.thread ∙ ap (λ k. k.thread) (sym carries.stays.core);
    depth = has.depth ∙ ap (λ k. length k.stack) (sym carries.stays.thread);
  }

  pub invoking_on : (of : Call) (caps : List Capability) (m : Invoking) → KnowsInvoking (state_after setup t) c of caps m
      → KnowsInvoking (state_after setup (e ∷ t)) c of caps m
  invoking_on of caps m has = record {
    invokes = has.invokes;
    core = has.core;
    on = thread_on m.thread m.depth has.on;
    comp = has_comp_on m.comp has.comp;
    at = subst (λ x. HasLoadedComp (comp_in x) m.at) (sym (comp_on m.comp has.comp)) has.at;
  }

  below_on : (comp : ℕ) → IsBelow (state_after setup t) c comp → IsBelow (state_after setup (e ∷ t)) c comp
  below_on comp has =
      record { is = has.is ∙ ap (λ k. below_of k.stack) (sym carries.stays.thread); comp = has_comp_on comp has.comp }

  loaded_below_on : (at : ReturningAt) → HasLoadedBelow (state_after setup t) c at → HasLoadedBelow (state_after setup (e ∷ t)) c at
  loaded_below_on ReturningAt.LoadBelow has = tt
  loaded_below_on (ReturningAt.LoadTable comp) has = below_on comp has
  loaded_below_on (ReturningAt.LoadPages comp table) has =
      (below_on comp has.0, has.1 ∙ ap (λ x. (comp_in x).table) (sym (comp_on comp has.0.comp)))
  loaded_below_on (ReturningAt.Draw comp table pages) has = (
    below_on comp has.0,
    has.1 ∙ ap (λ x. (comp_in x).table) (sym (comp_on comp has.0.comp)),
    has.2 ∙ ap (λ x. (comp_in x).pages) (sym (comp_on comp has.0.comp)),
  )

  pub returning_on : (of : Call) (m : Returning) → KnowsReturning (state_after setup t) c of m
      → KnowsReturning (state_after setup (e ∷ t)) c of m
  returning_on of m has = record {
    call_is = has.call_is;
    core = has.core;
    on = thread_on m.thread m.depth has.on;
    top = has.top ∙ ap (λ k. first_of_stack k.stack) (sym carries.stays.thread);
    at = loaded_below_on m.at has.at;
  }

  -- what is known of a thread that is claimed, and of the component at the top of its stack
  top_on : (to : Claimed) → (state_after setup (e ∷ t)).frame to.thread ≡ (state_after setup t).frame to.thread
      → IsTop (state_after setup t) c to → IsTop (state_after setup (e ∷ t)) c to
  top_on to same has = record {
    top = ap (λ x. first_of_stack (thread_in x).stack) same ∙ has.top;
    comp = has_comp_on to.comp has.comp;
  }

  table_on : (to : Claimed) (table : ℕ) → (state_after setup (e ∷ t)).frame to.thread ≡ (state_after setup t).frame to.thread
      → HasTable (state_after setup t) c to table → HasTable (state_after setup (e ∷ t)) c to table
  table_on to table same has = record {
    top = top_on to same has.top;
    table = ap (λ x. (comp_in x).table) (comp_on to.comp has.top.comp) ∙ has.table;
  }

  roots_on : (to : Claimed) (table pages : ℕ) → (state_after setup (e ∷ t)).frame to.thread ≡ (state_after setup t).frame to.thread
      → HasRoots (state_after setup t) c to table pages → HasRoots (state_after setup (e ∷ t)) c to table pages
  roots_on to table pages same has = record {
    has_table = table_on to table same has.has_table;
    pages = ap (λ x. (comp_in x).pages) (comp_on to.comp has.has_table.top.comp) ∙ has.pages;
  }

  pub switch_on : (at : SwitchAt) → ((f i : ℕ) → own_read (e ∷ t) c (EntryAt f i) ≡ own_read t c (EntryAt f i))
      → (is_claimed at ≡ true → (state_after setup (e ∷ t)).frame (claimed_by at) ≡ (state_after setup t).frame (claimed_by at))
      → KnowsSwitchAt setup t c at → KnowsSwitchAt setup (e ∷ t) c at
  switch_on (SwitchAt.Claim (Claim.AtLoad f core)) reads rests has = has
  switch_on (SwitchAt.Claim (Claim.AtCompare f core depth)) reads rests has = (has.0, reads f 0 ∙ has.1)
  switch_on (SwitchAt.Claim (Claim.AtStack f depth)) reads rests has = tt
  switch_on (SwitchAt.LoadTable to) reads rests has = top_on to (rests refl) has
  switch_on (SwitchAt.LoadPages to table) reads rests has = table_on to table (rests refl) has
  switch_on (SwitchAt.Leave to table pages) reads rests has = roots_on to table pages (rests refl) has
  switch_on (SwitchAt.Draw to table pages) reads rests has = roots_on to table pages (rests refl) has

  pub read_on : (o read : Option ℕ) → ReadIs (state_after setup t) c o read → ReadIs (state_after setup (e ∷ t)) c o read
  read_on None read has = tt
  read_on (Some f) read has = record {
    comp = has_comp_on f has.comp;
    life = has.life;
    has_life = life_on f has.life has.comp has.has_life;
    fits = has.fits;
    epoch = has.epoch;
  }

  pub read_before_on : (o read : Option ℕ) (next : Next) → ReadBefore (state_after setup t) c o read next
      → ReadBefore (state_after setup (e ∷ t)) c o read next
  read_before_on o read (NextName n wanted) has = has
  read_before_on o read (NextFree target) has = read_on o read has
  read_before_on o read (NextHeld target) has = has
  read_before_on o read (NextOwn v) has = has
  read_before_on o read NextNothing has = has

  fill_on : (of : Call) (plan : Plan) (caps : List Capability) (upto : ℕ) (fill : Fill)
      → ((f i : ℕ) → own_read (e ∷ t) c (EntryAt f i) ≡ own_read t c (EntryAt f i)) → KeepsUsers setup t e c
      → IsFill setup t c of plan caps upto fill → IsFill setup (e ∷ t) c of plan caps upto fill
  fill_on of plan caps upto fill same users has = record {
    target = has.target;
    next = has.next;
    way = reached_on has.target (record { node = fill.node; index = fill.entry }) has.way;
    own = same fill.node fill.entry ∙ has.own;
    vacant = may_fill_on (PlaceOf fill.node fill.entry) upto (entry_of_word fill.word)
        (carries.place_rises fill.node fill.entry (slot_relies setup setting t legal c call is_open has.target
        (record { node = fill.node; index = fill.entry }) has.way)) has.vacant;
    fits = has.fits;
    read = has.read;
    has_read = read_on (reads_of of caps) has.read has.has_read;
    puts = has.puts;
    user = user_on of has.user;
  } where
    user_on : (of : Call) → HasUser setup t c of → HasUser setup (e ∷ t) c of
    user_on (Map p v r f w) is = users f is
    user_on call is = tt

  pub removal_on : (of : Call) (plan : Plan) (caps : List Capability) (node index : ℕ) (cap : Capability)
      → IsRemoval setup t c of plan caps node index cap
      → IsRemoval setup (e ∷ t) c of plan caps node index cap
  removal_on of plan caps node index cap has = record {
    target = has.target;
    next = has.next;
    way = reached_on has.target (record { node = node; index = index }) has.way;
    usable = carries.stays.usable (record { node = node; index = index }) cap
        (slot_relies setup setting t legal c call is_open has.target (record { node = node; index = index }) has.way) has.usable;
    fits = has.fits;
    removes = has.removes;
  }

  close_on : (of : Call) (plan : Plan) (caps : List Capability) (close : Close) (cap : Capability)
      → ((f i : ℕ) → own_read (e ∷ t) c (EntryAt f i) ≡ own_read t c (EntryAt f i))
      → KnowsClose setup t c of plan caps close cap → KnowsClose setup (e ∷ t) c of plan caps close cap
  close_on of plan caps (AtCompare node index word core) cap same has = record {
    removal = removal_on of plan caps node index cap has.removal;
    own = same node index ∙ has.own;
    held = has.held;
    core = has.core;
  }
  close_on of plan caps (AtDraw node index) cap same has = removal_on of plan caps node index cap has
  close_on of plan caps (AtStore node index at) cap same has = has

  pub spot_on : (plan : Plan) (caps : List Capability) (upto node index word : ℕ)
      → own_read (e ∷ t) c (EntryAt node index) ≡ own_read t c (EntryAt node index)
      → IsSpot setup t c plan caps upto node index word → IsSpot setup (e ∷ t) c plan caps upto node index word
  spot_on plan caps upto node index word same has = record {
    target = has.target;
    next = has.next;
    way = reached_on has.target (record { node = node; index = index }) has.way;
    own = same ∙ has.own;
    vacant = may_fill_on (PlaceOf node index) upto (entry_of_word word)
        (carries.place_rises node index (slot_relies setup setting t legal c call is_open has.target
        (record { node = node; index = index }) has.way)) has.vacant;
  }

  stored_on : (f : ℕ) (object : NewObject) (word n : ℕ)
      → ((i : ℕ) → last_left setup (e ∷ t) (EntryAt f i) ≡ last_left setup t (EntryAt f i))
      → HasStored setup t f object word n → HasStored setup (e ∷ t) f object word n
  stored_on f object word n same has = record { says = has.says; stored = λ i below. same i ∙ has.stored i below }

  making_on : (f : ℕ) (object : NewObject) (at : MakingAt) → ((g : ℕ) → own_read (e ∷ t) c (FrameAt g) ≡ own_read t c (FrameAt g))
      → (is_marked at ≡ true → (i : ℕ) → last_left setup (e ∷ t) (EntryAt f i) ≡ last_left setup t (EntryAt f i))
      → KnowsMakingAt setup t c f object at → KnowsMakingAt setup (e ∷ t) c f object at
  making_on f object making_load reads stays has = tt
  making_on f object (Mark word) reads stays has = record { own = reads f ∙ has.own; says = has.says }
  making_on f object (Store word n) reads stays has = stored_on f object word n (stays refl) has
  making_on f object (making_fill word) reads stays has = stored_on f object word (last_word object + 1) (stays refl) has

  typing_on : (of : Call) (caps : List Capability) (y : Typing) → ((f : ℕ) → own_read (e ∷ t) c (FrameAt f) ≡ own_read t c (FrameAt f))
      → KnowsTyping t c of caps y → KnowsTyping (e ∷ t) c of caps y
  typing_on of caps y same has = record { types = has.types; met = met_on y.at has.met }
    where
      met_on : (at : TypingAt) → HasMetAt t c y.frame at → HasMetAt (e ∷ t) c y.frame at
      met_on Load has = tt
      met_on (type_compare word) has =
          record { own = same y.frame ∙ has.own; shown = has.shown; says = has.says; kind = has.kind; mark = has.mark }

  tick_on : (of : Call) (charge : Charge) → ((f i : ℕ) → own_read (e ∷ t) c (EntryAt f i) ≡ own_read t c (EntryAt f i))
      → KnowsTick setup t c of charge → KnowsTick setup (e ∷ t) c of charge
  tick_on of charge same has = record { charges = charges_on of has.charges; at = head_on charge has.at }
    where
      charges_on : (of : Call) → ChargesBy (state_after setup t) c of charge → ChargesBy (state_after setup (e ∷ t)) c of charge
      charges_on (Tick n) is = record {
        tcap = is.tcap ∙ ap (λ k. k.tcap) (sym carries.stays.core);
        ticks = is.ticks ∙ ap (λ k. ticks_due k.owed n) (sym carries.stays.core);
      }
      charges_on call is = absurd is

      head_on : (charge : Charge) → HasHeadAt t c charge → HasHeadAt (e ∷ t) c charge
      head_on (charge_load f ticks) is = tt
      head_on (charge_compare f ticks budget version) is = record { own = same f 0 ∙ is.own; fits = is.fits }

  killing_on : (f : ℕ) (at : KillingAt) → ((l : ℕ) → own_read (e ∷ t) c (LiveAt l) ≡ own_read t c (LiveAt l))
      → HasComp (state_after setup t) c f → KnowsKillingAt setup t c f at → KnowsKillingAt setup (e ∷ t) c f at
  killing_on f LoadComp same comp has = tt
  killing_on f (LoadLive life) same comp has = life_on f life comp has
  killing_on f (kill_close life word) same comp has =
      record { has_life = life_on f life comp has.has_life; own = same life.number ∙ has.own; live = has.live }
  killing_on f (kill_draw life word) same comp has = record { has_life = life_on f life comp has.has_life; live = has.live }

  pub may_take_on : (l last upto : ℕ) (o : Option LiveWord) → MayTake setup t c l last upto o → MayTake setup (e ∷ t) c l last upto o
  may_take_on l last upto None has = has
  may_take_on l last upto (Some LiveWord.Free) has = has
  may_take_on l last upto (Some (LiveWord.Live d f)) has = has
  may_take_on l last upto (Some (LiveWord.Closing d by)) has = has
  may_take_on l last upto (Some (LiveWord.Dead d x)) has = (has.0, scanned_on (NumberOf l) x upto (carries.number_rises l) has.1)

  pub takes_on : (l epochs : ℕ) (last : LastEpoch) → TakesNumber setup t c l epochs last → TakesNumber setup (e ∷ t) c l epochs last
  takes_on l epochs last has = record { may = may_take_on l last.epoch setup.cores (live_of_word last.word) has.may; more = has.more }

  pub number_on : (l : ℕ) (last : LastEpoch) (q : Quiet) → own_read (e ∷ t) c (LiveAt l) ≡ own_read t c (LiveAt l)
      → KnowsNumber setup t c l last q → KnowsNumber setup (e ∷ t) c l last q
  number_on l last (AtCore x by upto page) same has = record {
    own = same ∙ has.own;
    says = has.says;
    core = has.core;
    was_dead = carries.was_dead l last.epoch has.was_dead;
    scanned = scanned_on (NumberOf l) x upto (carries.number_rises l) has.scanned;
  }
  number_on l last (AtFlush x upto) same has = has

  words_on : (f : ℕ) (words : ℕ → ℕ) (n : ℕ)
      → ((i : ℕ) → last_left setup (e ∷ t) (EntryAt f i) ≡ last_left setup t (EntryAt f i))
      → HasWords setup t f words n → HasWords setup (e ∷ t) f words n
  words_on f words n same has = record { stored = λ i below. same i ∙ has.stored i below }

  pub making_comp_on : (m : CompMaking) (at : CompAt) → ((g : ℕ) → own_read (e ∷ t) c (FrameAt g) ≡ own_read t c (FrameAt g))
      → ((l : ℕ) → own_read (e ∷ t) c (LiveAt l) ≡ own_read t c (LiveAt l))
      → (comp_is_marked at ≡ true → (i : ℕ) → last_left setup (e ∷ t) (EntryAt m.frame i) ≡ last_left setup t (EntryAt m.frame i))
      → KnowsCompAt setup t c m at → KnowsCompAt setup (e ∷ t) c m at
  making_comp_on m CompAt.Load frames numbers stays has = tt
  making_comp_on m (CompAt.Mark word) frames numbers stays has = record { own = frames m.frame ∙ has.own; says = has.says }
  making_comp_on m (CompAt.LoadLive word) frames numbers stays has = has
  making_comp_on m (CompAt.Scan word last q) frames numbers stays has = (has.0, number_on m.number last q (numbers m.number) has.1)
  making_comp_on m (CompAt.Close word last) frames numbers stays has =
      (has.0, record { takes = takes_on m.number m.epochs last has.1.takes; own = numbers m.number ∙ has.1.own })
  making_comp_on m (CompAt.Store word last n) frames numbers stays has = (
    has.0,
    takes_on m.number m.epochs last has.1,
    words_on m.frame (comp_word_at m (last.epoch + 1)) n (stays refl) has.2,
  )
  making_comp_on m (CompAt.Fill word last) frames numbers stays has = (
    has.0,
    takes_on m.number m.epochs last has.1,
    words_on m.frame (comp_word_at m (last.epoch + 1)) 3 (stays refl) has.2,
  )

  -- what is known of a frame that is made untyped
  pub quiet_frame_on : (f at upto flushes : ℕ) → IsQuiet setup t c f at upto flushes → IsQuiet setup (e ∷ t) c f at upto flushes
  quiet_frame_on f at upto flushes has = record {
    past = carries.past at has.past;
    passed = λ d below other. carries.passed (FrameOf f) at d has.past (has.passed d below other);
    flushed = λ d below. carries.flushed (FrameOf f) at d has.past (has.flushed d below);
  }

  pub sweep_scan_on : (f : ℕ) (w : Sweep) (q : Quiet) → KnowsSweepScan setup t c f w q → KnowsSweepScan setup (e ∷ t) c f w q
  sweep_scan_on f w (AtCore at by upto page) has = record {
    frozen = has.frozen;
    core = has.core;
    stamp = has.stamp;
    some = has.some;
    quiet = quiet_frame_on f at upto 0 has.quiet;
    page = has.page;
  }
  sweep_scan_on f w (AtFlush at upto) has = record {
    frozen = has.frozen;
    core = has.core;
    stamp = has.stamp;
    some = has.some;
    quiet = quiet_frame_on f at setup.cores upto has.quiet;
    page = has.page;
  }

  pub swept_on : (f : ℕ) (kept : List CountWord) (upto : ℕ) (o : Owned) → LeavesFrame (state_after setup t) (state_after setup (e ∷ t)) f
      → IsSwept setup t c f kept upto o → IsSwept setup (e ∷ t) c f kept upto o
  swept_on f kept upto o rests has = record {
    frozen = has.frozen;
    quiet = quiet_frame_on f (latest_stamp kept) setup.cores setup.cores has.quiet;
    looked = looked_on (state_after setup t) (state_after setup (e ∷ t)) f upto o rests has.looked;
  }

  sweep_at_on : (f : ℕ) (w : Sweep) (at : SweepAt)
      → (freezes at ≡ true → (g d : ℕ) → own_read (e ∷ t) c (CountAt g d) ≡ own_read t c (CountAt g d))
      → (looks_at at ≡ true → LeavesFrame (state_after setup t) (state_after setup (e ∷ t)) f)
      → KnowsSweepAt setup t c f w at → KnowsSweepAt setup (e ∷ t) c f w at
  sweep_at_on f w sweep_load counts rests has = tt
  sweep_at_on f w (sweep_compare count stamp) counts rests has =
      record { own = counts refl f (length w.kept) ∙ has.own; fits = has.fits }
  sweep_at_on f w (sweep_scan q) counts rests has = sweep_scan_on f w q has
  sweep_at_on f w (sweep_empty entry) counts rests has = swept_on f w.kept entry w.owned (rests refl) has

  untyping_on : (f : ℕ) (at : UntypingAt) → ((g : ℕ) → own_read (e ∷ t) c (FrameAt g) ≡ own_read t c (FrameAt g))
      → (freezes_at at ≡ true → (g d : ℕ) → own_read (e ∷ t) c (CountAt g d) ≡ own_read t c (CountAt g d))
      → (looks_in at ≡ true → LeavesFrame (state_after setup t) (state_after setup (e ∷ t)) f)
      → KnowsUntypingAt setup t c f at → KnowsUntypingAt setup (e ∷ t) c f at
  untyping_on f UntypingAt.Load frames counts rests has = tt
  untyping_on f (UntypingAt.Mark word v) frames counts rests has = record { own = frames f ∙ has.own; met = has.met }
  untyping_on f (UntypingAt.Sweep word w) frames counts rests has = record {
    frame = has.frame;
    core = has.core;
    met = has.met;
    kept = has.kept;
    at = sweep_at_on f w w.at counts rests has.at;
  }
  untyping_on f (UntypingAt.Draw word w) frames counts rests has = record {
    frame = has.frame;
    shown = has.shown;
    met = has.met;
    kept = has.kept;
    swept = swept_on f w.words (loads_of has.shown.object) w.owned (rests refl) has.swept;
    names = has.names ∙ ap frame_names (sym (rests refl).frame);
  }

  pub act_on : (of : Call) (plan : Plan) (caps : List Capability) (upto : ℕ) (act : ActOf) → ReadsSame setup t e c act
      → KnowsAct setup t c of plan caps upto act → KnowsAct setup (e ∷ t) c of plan caps upto act
  act_on of plan caps upto (fill_act fill) same has = fill_on of plan caps upto fill same.entries same.users has
  act_on of plan caps upto (make_act m) same has = record {
    spot = spot_on plan caps upto m.fill.node m.fill.entry m.fill.word (same.entries m.fill.node m.fill.entry) has.spot;
    makes = has.makes;
    core = has.core;
    cap = has.cap;
    at = making_on m.frame m.object m.at same.frames
        (λ marked i. same.stored m.frame i (ap (λ b. b && m.frame == m.frame) marked ∙ eq-eqb m.frame m.frame refl)) has.at;
  }
  act_on of plan caps upto (map_act fill) same has = record {
    spot = spot_on plan caps upto fill.node fill.entry fill.word (same.entries fill.node fill.entry) has.spot;
    fits = has.fits;
    puts = has.puts;
    frame = has.frame;
    maps = has.maps;
  }
  act_on of plan caps upto (Outside node entry word) same has =
      record { spot = spot_on plan caps upto node entry word (same.entries node entry) has.spot; outside = has.outside }
  act_on of plan caps upto (touch_act m) same has = record {
    call_is = has.call_is;
    root = has.root ∙ ap (λ k. k.pages) (sym carries.stays.comp);
    all = has.all;
    known = has.known ∙ ap (λ k. translation_of k.cached m.pages m.page) (sym carries.stays.core);
    first = has.first;
    looks = looks_on (Under (root_at m.pages) m.page) m.look has.looks;
  }
  act_on of plan caps upto (kill_act m) same has = record {
    kills = has.kills;
    core = has.core;
    comp = has_comp_on m.comp has.comp;
    at = killing_on m.comp m.at same.numbers has.comp has.at;
  }
  act_on of plan caps upto (share_act p) same has = same.pairs.shares p refl of caps has
  act_on of plan caps upto (refill_act r) same has = same.pairs.refills r refl of caps has
  act_on of plan caps upto (switch_act m) same has = record {
    switches = has.switches;
    leaves = record {
      core = has.leaves.core;
      thread = has.leaves.thread ∙ ap (λ k. k.thread) (sym carries.stays.core);
      depth = has.leaves.depth ∙ ap (λ k. length k.stack) (sym carries.stays.thread);
      tcap = has.leaves.tcap ∙ ap (λ k. k.tcap) (sym carries.stays.core);
    };
    thread = same.threads.guards (claimed_by m.at) has.thread;
    at = switch_on m.at same.entries
        (λ claimed. same.threads.rests (claimed_by m.at)
        (ap (λ b. b && claimed_by m.at == claimed_by m.at) claimed ∙ eq-eqb (claimed_by m.at) (claimed_by m.at) refl) has.thread) has.at;
  }
  act_on of plan caps upto (comp_act m) same has = record {
    spot = spot_on plan caps upto m.fill.node m.fill.entry m.fill.word (same.entries m.fill.node m.fill.entry) has.spot;
    makes = has.makes;
    core = has.core;
    epochs = has.epochs;
    cap = has.cap;
    at = making_comp_on m m.at same.frames same.numbers
        (λ marked i. same.stored m.frame i (ap (λ b. b && m.frame == m.frame) marked ∙ eq-eqb m.frame m.frame refl)) has.at;
  }
  act_on of plan caps upto (untype_act m) same has = record {
    untypes = has.untypes;
    core = has.core;
    at = untyping_on m.frame m.at same.frames same.counts
        (λ looks. same.rests m.frame (ap (λ b. b && m.frame == m.frame) looks ∙ eq-eqb m.frame m.frame refl)) has.at;
  }
  act_on of plan caps upto _ same has = search (close_on of plan caps, typing_on of caps, tick_on of, invoking_on of caps, returning_on of)

  scan_on : (a : ActiveCall) (at by upto flushes : ℕ) (page : Bool) (act : ActOf) → ReadsSame setup t e c act
      → KnowsScan setup t c a at by upto flushes page act → KnowsScan setup (e ∷ t) c a at by upto flushes page act
  scan_on a at by upto flushes page act same has = record {
    knows = act_on a.call (plan_for a.call) a.found flushes act same has.knows;
    core = has.core;
    stamp = has.stamp;
    starts = has.starts;
    past = carries.past at has.past;
    passed = λ d below other. carries.passed (scanned_for act) at d has.past (has.passed d below other);
    pages = has.pages;
  }

  quiet_on : (a : ActiveCall) (q : Quiet) (act : ActOf) → ReadsSame setup t e c act
      → KnowsQuiet setup t c a q act
      → KnowsQuiet setup (e ∷ t) c a q act
  quiet_on a (AtCore at core upto page) act same has = scan_on a at core upto 0 page act same has
  quiet_on a (AtFlush at upto) act same has = scan_on a at c setup.cores upto true act same has

  loaded_on : (pin : Pin) → ((w : Word) → own_read (e ∷ t) c w ≡ own_read t c w) → HasLoaded t c pin → HasLoaded (e ∷ t) c pin
  loaded_on (AtLoad frame core) same has = tt
  loaded_on (pin_compare frame core count stamp) same has =
      record { own = same (CountAt frame core) ∙ has.own; fits = has.fits }

  -- after a step of another core, which leaves the words of the frame that the act has stored
  reads_same : (act : ActOf) → ((w : Word) → own_read (e ∷ t) c w ≡ own_read t c w)
      → ((f i : ℕ) → stores_in act f ≡ true → last_left setup (e ∷ t) (EntryAt f i) ≡ last_left setup t (EntryAt f i))
      → KeepsUsers setup t e c
      → ((f : ℕ) → looked_in act f ≡ true → LeavesFrame (state_after setup t) (state_after setup (e ∷ t)) f)
      → KeepsThreads setup t e c (λ f. claimed_in act f)
      → PairsStay setup t e c act
      → ReadsSame setup t e c act
  reads_same act same stored users rests threads pairs = record {
    entries = λ f i. same (EntryAt f i);
    frames = λ f. same (FrameAt f);
    numbers = λ l. same (LiveAt l);
    stored = stored;
    users = users;
    counts = λ freezes f d. same (CountAt f d);
    rests = rests;
    threads = threads;
    pairs = pairs;
  }

  work_on : (table : ℕ) (a : ActiveCall) (work : Work) → ((act : ActOf) → work ≡ Act act → PairsStay setup t e c act)
      → ((w : Word) → own_read (e ∷ t) c w ≡ own_read t c w)
      → ((f i : ℕ) → stores_of work f ≡ true → last_left setup (e ∷ t) (EntryAt f i) ≡ last_left setup t (EntryAt f i))
      → KeepsUsers setup t e c
      → ((f : ℕ) → looked_of work f ≡ true → LeavesFrame (state_after setup t) (state_after setup (e ∷ t)) f)
      → KeepsThreads setup t e c (λ f. claimed_of work f)
      → KnowsWork setup t c table a work → KnowsWork setup (e ∷ t) c table a work
  work_on table a (Lookup look) pairs same stored users rests threads has = record {
    looks = looks_for_on table (next_of (plan_for a.call) a.found) look has.looks;
    has_read = read_before_on (reads_of a.call a.found) a.read (next_of (plan_for a.call) a.found) has.has_read;
  }
  work_on table a (Read f look) pairs same stored users rests threads has = record {
    target = has.target;
    next = has.next;
    looks = looks_on has.target look has.looks;
    reads = has.reads;
    comp = has_comp_on f has.comp;
  }
  work_on table a (Scan q act) pairs same stored users rests threads has =
      quiet_on a q act (reads_same act same stored users rests threads
      (start_pairs setup t e c act (quiet_starts setup t c a q act has))) has
  work_on table a (Acquire pin change act) pairs same stored users rests threads has = record {
    knows = act_on a.call (plan_for a.call) a.found setup.cores act
        (reads_same act same stored users rests threads (due_pairs setup t e c act (map due_of a.counts) _ has.rest has.due)) has.knows;
    rest = has.rest;
    due = has.due;
    apart = has.apart;
    core = has.core;
    new = has.new;
    loaded = loaded_on pin same has.loaded;
    starts = has.starts;
  }
  work_on table a (Act act) pairs same stored users rests threads has = record {
    knows = act_on a.call (plan_for a.call) a.found setup.cores act (reads_same act same stored users rests threads (pairs act refl))
        has.knows;
    all = has.all;
    goes = has.goes;
  }

  -- whether the component lives is asked on of the same component
  alive_at_on : (alive : Alive) → KnowsAliveAt (state_after setup t) c alive → KnowsAliveAt (state_after setup (e ∷ t)) c alive
  alive_at_on (AtComp comp) has = has ∙ ap (λ k. first_of_stack k.stack) (sym carries.stays.thread)
  alive_at_on (AtLive life) has = (ap (λ k. k.number) carries.stays.comp ∙ has.0, ap (λ k. k.epoch) carries.stays.comp ∙ has.1)

  pub alive_on : (of : Call) (alive : Alive) → KnowsAlive (state_after setup t) c of alive
      → KnowsAlive (state_after setup (e ∷ t)) c of alive
  alive_on of alive has = record { asks = has.asks; at = alive_at_on alive has.at }

  -- and a call that the core may make it still may
  pub acts_on : (of : Call) → IsTrue (acts (state_after setup t) c of) → IsTrue (acts (state_after setup (e ∷ t)) c of)
  acts_on of may = by (not (asks_life of)) may
    where
      by : (b : Bool) → IsTrue (b || may_act (state_after setup t) c) → IsTrue (b || may_act (state_after setup (e ∷ t)) c)
      by true h = refl
      by false h = carries.stays.acts h

  -- what a call knows that is not decided, after a step of another core
  pub undecided_on : (table : ℕ) (a : ActiveCall) (work : Work) → ((act : ActOf) → work ≡ Act act → PairsStay setup t e c act)
      → ((w : Word) → own_read (e ∷ t) c w ≡ own_read t c w)
      → ((f i : ℕ) → stores_of work f ≡ true → last_left setup (e ∷ t) (EntryAt f i) ≡ last_left setup t (EntryAt f i))
      → KeepsUsers setup t e c
      → ((f : ℕ) → looked_of work f ≡ true → LeavesFrame (state_after setup t) (state_after setup (e ∷ t)) f)
      → KeepsThreads setup t e c (λ f. claimed_of work f)
      → KnowsUndecided setup t c table a work
      → KnowsUndecided setup (e ∷ t) c table a work
  undecided_on table a work pairs same stored users rests threads has =
      record {
        acts = acts_on a.call has.acts;
        names = names_on table (plan_for a.call) a.found has.names;
        knows =
            work_on table a work pairs same stored users rests threads has.knows;
      }

-- The counts that a call has acquired are in its footprint at a moment of it still, after a further step.
pub counts_on : (setup : Setting) (t : Trace) (e : Step) (c : ℕ) (call : Call) → (c ≡ e.core → e.enters ≡ None) → (xs : List Acquired)
    → All (IsCount setup t c call) xs → All (IsCount setup (e ∷ t) c call) xs
counts_on setup t e c call no_entry [] has = All-nil (IsCount setup (e ∷ t) c call)
counts_on setup t e c call no_entry (x ∷ xs) has =
    let first = All-head (IsCount setup t c call) x xs has in
    All-cons (IsCount setup (e ∷ t) c call) x xs
    (record {
      counts = first.counts;
      core = first.core;
      fits = first.fits;
      footprint = was_stays (IsInFootprint c call (count_of x)) setup t e c
          no_entry first.footprint;
      small = first.small;
    })
    (counts_on setup t e c call no_entry xs (All-tail (IsCount setup t c call) x xs has))

-- And of the words of a number and of a frame.
pub live_on : (setup : Setting) (t : Trace) (e : Step) (c : ℕ) (call : Call) → (c ≡ e.core → e.enters ≡ None) → (l live f word : ℕ)
    → KnowsLive setup t c call l live f word → KnowsLive setup (e ∷ t) c call l live f word
live_on setup t e c call no_entry l live f word has = record {
  numbers = has.numbers;
  footprint = was_stays (IsInFootprint c call (LiveAt l)) setup t e c no_entry has.footprint;
  bare = has.bare;
  small = has.small;
  unmark = has.unmark;
}

-- What a call knows of its store it knows still where it relies on the node still.
pub store_on : (setup : Setting) (t : Trace) (e : Step) (c : ℕ) (call : Call) → (c ≡ e.core → e.enters ≡ None)
    → ((f : ℕ) → Relies (state_after setup t) c f → Relies (state_after setup (e ∷ t)) c f) → (close : Close)
    → KnowsStore setup t c call close → KnowsStore setup (e ∷ t) c call close
store_on setup t e c call no_entry relies (AtStore node index at) has = record {
  relies = relies node has.relies;
  footprint = was_stays (IsInFootprint c call (EntryAt node index)) setup t e c no_entry has.footprint;
  places = has.places;
}
store_on setup t e c call no_entry relies _ has = has

-- And of the word of a liveness number that it has still to store.
pub dead_on : (setup : Setting) (t : Trace) (e : Step) (c : ℕ) (call : Call) → (c ≡ e.core → e.enters ≡ None) → (life : CompWord)
    → KnowsDead setup t c call life → KnowsDead setup (e ∷ t) c call life
dead_on setup t e c call no_entry life has =
    record { numbers = has.numbers; footprint = was_stays (IsInFootprint c call (LiveAt life.number)) setup t e c no_entry has.footprint }
