-- The steps by which a call makes a node, up to its decision: the load of the frame's word, the compare that marks it, the stores of its
-- places, and a compare of the target that is lost; and the store that gives the frame's word back.
use Rattle.place_invariant.specs as low
use low.step_ways.proofs.{as_none, counts_bare, may_keep, not_exclusive_word, exclusive_elsewhere, ◌≡◌, ◌≤◌, Bool, true, false, cond}
use low.step_ways.proofs.{Option, Some, None, refl, ℕ, ◌<◌, ◌==◌, arith, ◌≢◌, ◌+◌, sym, ltb as nat_lt, ◌&&◌, [], ◌∷◌, ap, ◌∙◌, subst}
use low.step_ways.proofs.{IsTrue, inl, inr, not, map, lt-ltb, eqb-false, ltb-false, eq-eqb, Capability, Setting, IsSetting, left_if, Call}
use low.step_ways.proofs.{FrameKind, Obj, Reply, word_of_entry, frame_of_word, word_of_frame, FrameWord, same_same, left_of, word_of}
use low.step_ways.proofs.{LoadOf, Move, StoreOf, CompareOf, EntryAt, FrameAt, Target, alone, rule_of, is_frame, is_blank, RuleMay, Blank}
use low.step_ways.proofs.{Kernel, State, put, Frame, PlaceOf, Carries, same_word-other, last_left-here, last_left-there, own_read-there}
use low.step_ways.proofs.{changes_places, changes_in_frame, footprint_frames, is_one_of, marked_by, mark_in_frame, stamp, Trace, Open}
use low.step_ways.proofs.{phase, state_after, Step, last_left, own_read, left_may, own_pages, Acquired, object_dues, NewObject, Making}
use low.step_ways.proofs.{MakingAt, Mark, Store, Nothing, Unmark, Act, Goes, GoesOn, landed, went_with, Core, ActiveCall, Undecided}
use low.step_ways.proofs.{Decided, names_on, counts_on, spot_on, holds_counts, Holding, settled_by, settled, keeps, phase_at, due_of}
use low.step_ways.proofs.{KnowsUndecided, KnowsUnmark, holds_at, holds_in, Invariant, done_by, holds, held_by, holds_making, IsFrameWord}
use low.step_ways.proofs.{if◌then◌else◌, List, is_some, Make as make_call, Load as making_load, spares_other, IsOfCall, core_in_call, inner}
use low.step_ways.proofs.{call_is, GoodTook, ticks_at, raced_leaving, plan_for, Entry}
use low.act_states.specs.{declared.work.WorkStep.WorkStep, made_dues, meets_object, meets_blank, meets_making, marks_if, published}
use low.act_states.specs.{object_word, last_word, MakingFits}
use low.core_invariant.specs.{MakesBy, KnowsMakingAt, Make as make_act, KnowsMaking, HasStored}
use low.count_invariant.proofs.{footprint_way, blank_left, argument_footprint}
use low.stage_tcap.specs.{Untyped as FrameUntyped, User as FrameUser, Kernel as FrameKernel}
use Rattle.place_invariant.proofs.{vacant_slot, vacant_here, stands_alone}
use low.act_states.specs.{Makings.stored, Makings.MakingAtFits, Makings.marked}
use low.count_invariant.proofs.MakingCounts.{made_changes, made_argument, made_footprint}
use low.{kernel_history.specs.IsSlot, plan_ways.proofs.Ways.next_on_way, plan_ways.specs.Laws.NextPlace}
use low.{act_states.specs.declared.makings.MakingAt.TheVariants.Fill as making_fill, step_ways.proofs.Good.spares_blank}
use low.{step_ways.proofs.Writes.stores_on}
use Rattle.{std.proofs.lemmas.Bool.cases_eq, place_invariant.proofs.Fills.target_way, place_invariant.proofs.Fills.changes_node}
use Rattle.{frame_invariant.proofs.NewObjects.word_small, frame_invariant.proofs.MakeCalls.makes_on}
use Rattle.place_invariant.specs.frame_words.proofs.FrameLemmas as frames
use Rattle.place_invariant.specs.step_ways.proofs.Counting as counting
use Rattle.frame_invariant.proofs.Marking.{MarksBlank, goes_by_object, goes_by_mark, goes_by_word}
use low.act_states.specs.Makings.{making_keeps}
use Rattle.frame_invariant.proofs.MakeCalls as calls
use Rattle.frame_invariant.proofs.Marking as marking

-- The words of the object that is made are stored one after another, and then the target is compared.
stored_holds : (object : NewObject) (f word n : ℕ) (h : Holding) → holds_making f (stored object word n) h ≡ keeps (FrameAt f) word h
stored_holds object f word n h = by (nat_lt n (last_word object))
  where
    by : (b : Bool) → holds_making f (if b then Store word (n + 1) else making_fill word) h ≡ keeps (FrameAt f) word h
    by true = refl
    by false = refl

stored_dues : (object : NewObject) (f word n : ℕ) → made_dues object f (stored object word n) ≡ object_dues object f
stored_dues object f word n = by (nat_lt n (last_word object))
  where
    by : (b : Bool) → made_dues object f (if b then Store word (n + 1) else making_fill word) ≡ object_dues object f
    by true = refl
    by false = refl

stored_knows : (setup : Setting) (t : Trace) (c f : ℕ) (object : NewObject) (word n : ℕ) → HasStored setup t f object word (n + 1)
    → n ≤ last_word object → KnowsMakingAt setup t c f object (stored object word n)
stored_knows setup t c f object word n has small = by (nat_lt n (last_word object)) refl
  where
    by : (b : Bool) → nat_lt n (last_word object) ≡ b
        → KnowsMakingAt setup t c f object (if b then Store word (n + 1) else making_fill word)
    by true is = has
    by false is = record {
      says = has.says;
      stored = λ i below. has.stored i (let q = ltb-false n (last_word object) is in omega (arith, q, below));
    }

-- A call that makes an object changes the words of a blank frame.
makes_in_blank : (call : Call) (ks : List Capability) (m : Making) → MakesBy call ks m → (x : Frame) → x ≡ Kernel Blank
    → IsTrue (changes_in_frame call x)
makes_in_blank (make_call what r f u b) (range ∷ ks) m is x blank = ap (changes_in_frame (make_call what r f u b)) blank
makes_in_blank (make_call what r f u b) [] m is x blank = absurd is
makes_in_blank call ks m is x blank = absurd is

makes_places : (call : Call) (ks : List Capability) (m : Making) → MakesBy call ks m → changes_places call ≡ true
makes_places (make_call what r f u b) (range ∷ ks) m is = refl
makes_places (make_call what r f u b) [] m is = absurd is
makes_places call ks m is = absurd is

module _ (setup : Setting) (setting : IsSetting setup) (cores : ℕ → Core) (t : Trace) (stands : Invariant setup cores t) (c : ℕ)
    (here : c < setup.cores)
    (a : ActiveCall) (active : (cores c).active ≡ Some a) (m : Making) (stage_is : a.stage ≡ Undecided (Act (make_act m)))
    (has : KnowsUndecided setup t c (cores c).own.table a (Act (make_act m))) where
  abbrev s : State
  s = state_after setup t

  abbrev f : ℕ
  f = m.frame

  abbrev was : ℕ
  was = last_left setup t (FrameAt f)

  abbrev knows : KnowsMaking setup t c a.call (plan_for a.call) a.found setup.cores m
  knows = has.knows.knows

  abbrev node : ℕ
  node = m.fill.node

  abbrev index : ℕ
  index = m.fill.entry

  opens : phase_at a.call a.stage ≡ Open a.call
  opens = ap (phase_at a.call) stage_is

  is_open : phase t c ≡ Open a.call
  is_open = (call_is setup setting cores t stands c here a active).phase ∙ opens

  room : (cores c).own.made < (cores c).own.limit
  room = calls.room setup setting cores t stands c here a active m stage_is has

  held_at : (at : MakingAt) → m.at ≡ at → holds_in (Some a) ≡ holds_making f at (holds_counts None a.counts)
  held_at at is = ap (λ stage. holds_at stage a.counts) stage_is ∙ ap (λ x. holds_making f x (holds_counts None a.counts)) is

  dues_at : (at : MakingAt) → m.at ≡ at → made_dues m.object f at ≡ map due_of a.counts
  dues_at at is = ap (made_dues m.object f) (sym is) ∙ has.knows.all

  knows_at : (at : MakingAt) → m.at ≡ at → KnowsMakingAt setup t c f m.object at
  knows_at at is = subst (KnowsMakingAt setup t c f m.object) is knows.at

  footprint : is_one_of f (footprint_frames s c a.call) ≡ true
  footprint = made_footprint s c a.call a.found m knows.makes

  -- where it goes on, what it knows of its target it still knows after a step on another word
  goes_on_at : (e : Step) → e.core ≡ c → e.enters ≡ None → EntryAt node index ≢ word_of e.move → Carries setup t e c → (at : MakingAt)
      → KnowsMakingAt setup (e ∷ t) c f m.object at
      → KnowsMaking setup (e ∷ t) c a.call (plan_for a.call) a.found setup.cores (record m { at = at })
  goes_on_at e own no_entry there carries at now = record {
    spot = spot_on setup setting t e stands.legal c a.call is_open carries (plan_for a.call) a.found setup.cores node index m.fill.word
        (own_read-there c e t (sym own) (EntryAt node index) there ∙ ap (λ o. cond (is_some o) None (own_read t c (EntryAt node index)))
        no_entry)
        knows.spot;
    makes = makes_on a.call a.found m at knows.makes;
    core = knows.core;
    cap = knows.cap;
    at = now;
  }

  -- The load of the frame's word, and the compare that marks it.
  abbrev slot_target : Target
  slot_target = calls.target setup setting cores t stands c here a active m stage_is has

  stands_so : is_blank (s.frame f) ≡ false → (is_frame s f && not (is_blank (s.frame f))) ≡ true
  stands_so other = ap (λ b. b && not (is_blank (s.frame f)))
      (lt-ltb f s.limits.frames (calls.below setup setting cores t stands c here a active m stage_is has)) ∙ ap (λ b. not b) other

  not_entry : EntryAt node index ≡ FrameAt f → ⊥
  not_entry h = cc

  blank_marks : MarksBlank setup cores t c a f m.core
      (λ w. make_act (record m { at = Mark w })) (λ w. make_act (record m { at = Store w 0 }))
  blank_marks = record {
    own = knows.core;
    room = room;
    changes = made_changes a.call a.found m knows.makes;
    footprint = footprint;
    may = λ other. left_may s c (own_pages s c) (plan_for a.call) (rule_of s c a.call) a.found
        (calls.by_plan setup setting cores t stands c here a active m stage_is has)
        (calls.leads setup setting cores t stands c here a active m stage_is has) Reply.FrameKind
        (subst (λ x. RuleMay s c x Reply.FrameKind) (sym (calls.left setup setting cores t stands c here a active m stage_is has))
        (inr (inr (inl (stands_so other, refl)))));
    first = λ other alone. calls.by_blank setup setting cores t stands c here a active m stage_is has
        (vacant_slot s c slot_target (record { node = node; index = index })
        (calls.reached_is setup setting cores t stands c here a active m stage_is has)
        (vacant_here setup setting cores t stands c here a active opens has.names node index m.fill.word knows.spot
        (calls.fits_in setup setting cores t stands c here a active m stage_is has).fill.entry
        (calls.leaf setup setting cores t stands c here a active m stage_is has)
        (stands_alone setup t c node index m.fill.word knows.spot.own
        (LoadOf (FrameAt f)) Reply.FrameKind alone)).vacant) false other;
    met_keeps = λ w. refl;
    met_dues = λ w. refl;
    met_goes = λ w. refl;
    keeps = λ w. refl;
    counting = λ w. refl;
    goes = λ w. refl;
    apart = λ blank w. calls.counts_apart setup setting cores t stands c here a active m stage_is has blank;
    knows_met = λ e own no_entry at carries w is_blank. goes_on_at e own no_entry (λ h. not_entry (h ∙ at)) carries (Mark w) is_blank;
    knows_marked = λ e own no_entry at carries w says. goes_on_at e own no_entry (λ h. not_entry (h ∙ at)) carries (Store w 0)
        (record { says = says; stored = λ i none. absurd (omega (arith, none)) });
  }

  word_leads : (goes : WorkStep) (o : Option FrameWord) → goes ≡ Goes (Act (make_act (record m { at = Mark was })))
      → goes_by_word goes o ≡ meets_making m was o
  word_leads goes None is = refl
  word_leads goes (Some v) is = by v.kind v.object v.mark
    where
      object : (o : Obj) → goes_by_object goes o ≡ meets_object m was o
      object Obj.Blank = is
      object o = refl

      by : (k : FrameKind) (o : Obj) (mark : Option ℕ) → goes_by_mark goes k o mark ≡ meets_blank m was k o mark
      by k o (Some d) = refl
      by FrameKernel o None = object o
      by FrameUntyped o None = refl
      by FrameUser o None = refl

  pub load_good : m.at ≡ making_load → GoodTook setup cores t c (LoadOf (FrameAt f)) (landed a (meets_making m was (frame_of_word was)))
  load_good at_is = subst (λ step. GoodTook setup cores t c (LoadOf (FrameAt f)) (landed a step)) (word_leads _ (frame_of_word was) refl)
      (marking.load_good setup setting cores t stands c here a active (make_act m) stage_is has (ap (making_keeps f) at_is)
      (ap (made_dues m.object f) at_is) refl f m.core _ _ blank_marks)

  pub mark_good : (word : ℕ) → m.at ≡ Mark word → GoodTook setup cores t c (CompareOf (FrameAt f) word (word_of_frame (marked m.core)))
      (landed a (marks_if m word (was == word)))
  mark_good word at_is = marking.mark_good setup setting cores t stands c here a active (make_act m) stage_is has
      (ap (making_keeps f) at_is) (ap (made_dues m.object f) at_is) refl f m.core _ _ blank_marks word (knows_at (Mark word) at_is)

  -- The store of a word.
  module _ (word n : ℕ) (at_is : m.at ≡ Store word n) where
    abbrev new_word : ℕ
    new_word = object_word m.object n

    abbrev store : Move
    store = StoreOf (EntryAt f n) new_word

    abbrev e : Step
    e = inner setup setting cores t stands c here a active store None None

    stored_so : HasStored setup t f m.object word n
    stored_so = knows_at (Store word n) at_is

    fits_in : MakingFits (cores c).own.layout m
    fits_in = calls.fits_in setup setting cores t stands c here a active m stage_is has

    small : n ≤ last_word m.object
    small = subst (MakingAtFits m.object) at_is fits_in.at

    held_store : holds_in (Some a) ≡ keeps (FrameAt f) word (holds_counts None a.counts)
    held_store = held_at (Store word n) at_is

    blank : s.frame f ≡ Kernel Blank
    blank = calls.blank setup setting cores t stands c here a active m stage_is has word held_store stored_so.says

    own_mark : marked_by setup t (FrameAt f) ≡ Some c
    own_mark = calls.own_mark setup setting cores t stands c here a active m stage_is has word held_store stored_so.says

    same_frame : (g i : ℕ) → EntryAt f n ≡ EntryAt g i → f ≡ g
    same_frame g i h = cc

    same_index : (g i : ℕ) → EntryAt g i ≡ EntryAt f n → i ≡ n
    same_index g i h = cc

    some_same : (x y : ℕ) → x ≡ y → Some x ≡ Some y
    some_same x y h = ap (λ (n : ℕ). Some n) h

    pub store_good : GoodTook setup cores t c store (landed a (Goes (Act (make_act (record m { at = stored m.object word n })))))
    store_good lands =
        stores_on setup setting cores t stands c here a active store a.found
        (Undecided (Act (make_act (record m { at = stored m.object word n }))))
        (calls.no_mark setup setting cores t stands c here a active m stage_is has word held_store stored_so.says n)
        (ap (λ x. mark_in_frame x n new_word) blank)
        (word_small m.object n fits_in.object.pair (calls.small_names setup setting cores t stands c here a active m stage_is has))
        (record { moves = makes_in_blank a.call a.found m knows.makes (s.frame f) blank; footprint = inl footprint })
        (λ b. refl) (λ h. cc) (λ g b h. cc) lands
        (stored_holds m.object f word n (holds_counts None a.counts) ∙ sym held_store)
        (not_exclusive_word setup cores t stands f n (ap may_keep blank)) opens
        (subst (λ x. IsFrameWord s.limits.frames x (s.place f n) (stamp setup t (PlaceOf f n)) n new_word) (sym blank) tt)
        (spares_blank setup t e f n refl blank own_mark)
        (λ carries. record {
          acts = has.acts;
          names = names_on setup setting t e stands.legal c a.call is_open carries (cores c).own.table (plan_for a.call) a.found has.names;
          knows = record {
            knows = goes_on_at e refl refl
                (λ h. calls.apart setup setting cores t stands c here a active m stage_is has word held_store stored_so.says
                (same_frame node index (sym h))) carries (stored m.object word n)
                (stored_knows setup (e ∷ t) c f m.object word n (record { says = stored_so.says; stored = now_stored }) small);
            all = stored_dues m.object f word n ∙ dues_at (Store word n) at_is;
            goes = refl;
          };
        })
      where
        now_stored : (i : ℕ) → i < n + 1 → last_left setup (e ∷ t) (EntryAt f i) ≡ object_word m.object i
        now_stored i below = elim (cases_eq i n) [
          | inl same ↦ ap (λ (j : ℕ). last_left setup (e ∷ t) (EntryAt f j)) same ∙ last_left-here setup (EntryAt f n) e t refl
              ∙ ap (object_word m.object) (sym same)
          | inr other ↦ last_left-there setup (EntryAt f i) e t (λ h. other (same_index f i h))
              ∙ stored_so.stored i (omega (arith, below, other))
        ]

  -- The compare of the target, where it is lost.
  module _ (word : ℕ) (at_is : m.at ≡ making_fill word) where
    abbrev put_it : Move
    put_it = CompareOf (EntryAt node index) m.fill.word (word_of_entry (Entry.Held m.fill.cap))

    abbrev found_there : ℕ
    found_there = last_left setup t (EntryAt node index)

    abbrev stored_all : HasStored setup t f m.object word (last_word m.object + 1)
    stored_all = knows_at (making_fill word) at_is

    pub put_of_call : IsOfCall setup t c a.call put_it
    put_of_call = record {
      moves = changes_node a.call (s.frame node) (makes_places a.call a.found m knows.makes)
          (calls.in_node setup setting cores t stands c here a active m stage_is has);
      footprint = inl (footprint_way s c a.call node index (next_on_way s c (own_pages s c) (plan_for a.call) (rule_of s c a.call) a.found
          (calls.by_plan setup setting cores t stands c here a active m stage_is has)
          (calls.leads setup setting cores t stands c here a active m stage_is has) knows.spot.target node index
          (subst (λ x. NextPlace s c x knows.spot.target) (sym knows.spot.next) refl)
          (target_way s c knows.spot.target (record { node = node; index = index }) knows.spot.way.reached)));
    }

    pub put_lost : (found_there == m.fill.word) ≡ false → GoodTook setup cores t c put_it (landed a (published m word false))
    put_lost other =
        raced_leaving setup setting cores t stands c here a active opens (Unmark f word) (sym (held_at (making_fill word) at_is))
        (λ e. blank_left f word a.call (made_changes a.call a.found m knows.makes) (made_argument a.call a.found m knows.makes)
        stored_all.says)
        room put_it (record { of_call = put_of_call; kept = kept; apart = λ d. refl }) (ap ticks_at stage_is)
        (record {
          at = inl (subst (λ o. IsSlot o node index)
              (sym (calls.target_slot setup setting cores t stands c here a active m stage_is has)) (refl, refl));
          reads = eq-eqb (left_of put_it found_there) found_there kept;
          own = m.fill.word;
          has_read = knows.spot.own;
          changed = eqb-false found_there m.fill.word other;
        })
      where
        kept : left_of put_it found_there ≡ found_there
        kept = ap (λ b. left_if b found_there (word_of_entry (Entry.Held m.fill.cap))) other

no_frame : (fate : Option (Option ℕ)) (xs : List Acquired) (f : ℕ) → (holds_counts fate xs).marks (FrameAt f) ≡ false
no_frame fate [] f = refl
no_frame fate (x ∷ xs) f = no_frame fate xs f

-- The store that gives the frame's word back.
module _ (setup : Setting) (setting : IsSetting setup) (cores : ℕ → Core) (t : Trace) (stands : Invariant setup cores t) (c : ℕ)
    (here : c < setup.cores)
    (a : ActiveCall) (active : (cores c).active ≡ Some a) (r : Reply) (drawn : Option ℕ) (f word : ℕ)
    (stage_is : a.stage ≡ Decided r drawn (Unmark f word)) (has : KnowsUnmark a.call f word) where
  abbrev give_back : Move
  give_back = StoreOf (FrameAt f) word

  abbrev rest : Holding
  rest = holds_counts (done_by r drawn) a.counts

  was_held : holds (cores c) ≡ keeps (FrameAt f) word rest
  was_held = ap holds_in active ∙ ap (λ stage. holds_at stage a.counts) stage_is

  its_mark : marked_by setup t (FrameAt f) ≡ Some c
  its_mark = (stands.marks (FrameAt f) c).kept (ap (λ h. h.marks (FrameAt f)) was_held
      ∙ ap (λ b. if b then true else rest.marks (FrameAt f)) (same_same (FrameAt f)))

  its_value : settled setup (held_by cores) t (FrameAt f) ≡ word
  its_value = ap (λ o. settled_by o (held_by cores) (FrameAt f) (last_left setup t (FrameAt f))) its_mark
      ∙ ap (λ h. h.stands (FrameAt f)) was_held ∙ ap (λ b. if b then word else rest.stands (FrameAt f)) (same_same (FrameAt f))

  some_inj : (x y : ℕ) → Some x ≡ Some y → x ≡ y
  some_inj x y h = cc

  pub unmark_good : GoodTook setup cores t c give_back (GoesOn (went_with a a.counts (Decided r drawn Nothing)))
  unmark_good lands =
      let next : ActiveCall = went_with a a.counts (Decided r drawn Nothing) in
      let e : Step = inner setup setting cores t stands c here a active give_back None None in
      let after : Core = core_in_call (cores c) (cores c).own.made next in
      counting.holds_on setup setting cores t stands c here a active give_back next (λ b. refl) (λ h. cc) refl
      (record { moves = has.changes; footprint = inl (argument_footprint (state_after setup t) c a.call f has.argument) }) lands has.small
      (λ w there. (
        sym (ap (λ h. h.marks w) was_held ∙ ap (λ b. if b then true else rest.marks w) (same_word-other w (FrameAt f) there)),
        sym (ap (λ h. h.stands w) was_held ∙ ap (λ b. if b then word else rest.stands w) (same_word-other w (FrameAt f) there)),
      ))
      (as_none (holds (cores c)) (holds after) (FrameAt f)
      (λ g i. ap (λ h. h.bare g i) was_held ∙ counts_bare (done_by r drawn) a.counts g i) (counts_bare (done_by r drawn) a.counts))
      (has.bare ∙ sym (ap (λ b. if b then Some c else None) (no_frame (done_by r drawn) a.counts f)))
      (λ b other is. other (sym (some_inj c b (sym its_mark ∙ is))))
      (ap (λ b. settled_by (if b then Some c else None) (held_by (put cores c after)) (FrameAt f) word)
      (no_frame (done_by r drawn) a.counts f) ∙ sym its_value)
      (ap (phase_at a.call) stage_is)
      (λ carries. tt)
      (counts_on setup t e c a.call (λ own. refl) a.counts (call_is setup setting cores t stands c here a active).counts)
      (call_is setup setting cores t stands c here a active).apart
      (spares_other setup t e (λ g i h. cc)) (exclusive_elsewhere cores e (λ g i h. cc))
