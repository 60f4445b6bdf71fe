-- A step that puts a core's mark in its word leaves another value there.
use Rattle.flight_laws.specs.flight.specs.step_ways.proofs as low
use low.{◌≡◌, ◌≢◌, ◌⊎◌, inl, inr, ℕ, ◌<◌, cond, Bool, true, false, List, [], ◌∷◌, Option, Some, None, IsTrue, refl, sym, ◌∙◌, ap, subst}
use low.{arith, true≢false, false≢true, Capability, Setting, IsSetting, Call, Reply, word_of_entry, entry_of_word, Word, EntryAt, FrameAt}
use low.{CountAt, CoreAt, FlushAt, LiveAt, ClockAt, word_of, left_of, IsIn, Place, Free, Holds, Quiescing, Table, Leaf, Pages, Pleaf, Frame}
use low.{Kernel, State, is_node, state_by, mark_in_frame, mark_of, marked_by, changes_places, changes_threads, changes_budgets}
use low.{changes_frames, shape_of, MayDecide, MayFollow, Step, Trace, Phase, Out, phase, after_enter, after_decide, after_return}
use low.{state_after, state_entered, state_decided, state_returned, last_left, cases_word, same_word-other, phase-own, last_left-here, Tail}
use low.{Nothing, Quiesce, Unmark, StoreDead, StoreFlush, Release, StoreLive, Push, Pop, StoreRunning, StoreIdle, Acquired, AtCompare}
use low.{AtDraw, AtStore, Thaw, Stage, Enter, Living, Undecided, Decided, Leave, ActiveCall, Holding, holds_counts, settled_by, holds_thaw}
use low.{PlaceIs, IsFrameWord, WordIs, KnowsTail, KnowsAt, CallIs, phase_at, Invariant, is_done, holds_tail, holds_in, held_by, times_of}
use Rattle.{flight_laws.specs.flight.specs.cores_after, flight_laws.specs.flight.specs.IsMade}
use Rattle.{wait_steps.specs.call_stages.specs.entry_words.proofs.Spelling.spelling}
use Rattle.{flight_laws.specs.trace_laws.specs.kernel_history.proofs.Names.same_word-same}
use Rattle.{wait_steps.specs.call_stages.specs.act_states.specs.declared.work.Tail.TheVariants.Share}
use Rattle.{flight_laws.specs.core_invariant.specs.Invariant.holds_stage, flight_laws.specs.flight.proofs.Made.made_stands}
use Rattle.{mark_kinds.specs.Reads.ReadAlike, mark_kinds.proofs.Alike.kinds_stay, mark_kinds.proofs.Alike.nodes_stay}
use Rattle.flight_laws.specs.time_laws.specs.spk_nums.specs.declared.calls.Call.TheVariants as call_as
use Rattle.flight_laws.specs.time_laws.specs.entry_words.specs.declared.entry.Entry.TheVariants as entry
use Rattle.flight_laws.specs.time_laws.specs.kernel_history.specs.Trace as history
use Rattle.flight_laws.specs.time_laws.specs.stage_thread.specs.declared.stack.Push.TheVariants as push
use Rattle.flight_laws.specs.time_laws.specs.stage_thread.specs.declared.stack.Pop.TheVariants as pop

-- ---- what a call has marked

-- Counts are no entries, and nor is what is frozen.
counts_none : (fate : Option (Option ℕ)) (xs : List Acquired) (f i : ℕ) → (holds_counts fate xs).marks (EntryAt f i) ≡ false
counts_none fate [] f i = refl
counts_none fate (x ∷ xs) f i = counts_none fate xs f i

thaw_none : (o : Option Thaw) (h : Holding) (f i : ℕ) → (holds_thaw o h).marks (EntryAt f i) ≡ h.marks (EntryAt f i)
thaw_none None h f i = refl
thaw_none (Some t) h f i = refl

-- A decided call has still to store the entry of a node, which quiesces.
record Stores (setup : Setting) (t : Trace) (call : Call) (h : Holding) (f i : ℕ) : Type 0 where
  places : changes_places call ≡ true
  node : IsTrue (is_node ((state_after setup t).frame f))
  at : ℕ
  stands : h.stands (EntryAt f i) ≡ word_of_entry (entry.Quiescing at)

-- Why a decided call's core has marked an entry: the call changes budgets, or threads, or it has that entry to store.
abbrev Why : Setting → Trace → Call → Holding → ℕ → ℕ → Type 0
Why setup t call h f i = (changes_budgets call ≡ true) ⊎ ((changes_threads call ≡ true) ⊎ Stores setup t call h f i)

module _ (setup : Setting) (t : Trace) (c : ℕ) (call : Call) (counts : List Acquired) (h : Holding)
    (none : (f i : ℕ) → h.marks (EntryAt f i) ≡ false) (f i : ℕ) where
  never : {A : Type 0} → h.marks (EntryAt f i) ≡ true → A
  never is = absurd (true≢false (sym is ∙ none f i))

  tail_marks : (tail : Tail) → KnowsTail setup t c call counts tail → (holds_tail tail h).marks (EntryAt f i) ≡ true
      → Why setup t call (holds_tail tail h) f i
  tail_marks Nothing knows is = never is
  tail_marks (Quiesce (AtCompare node index word core)) knows is = absurd knows
  tail_marks (Quiesce (AtDraw node index)) knows is = absurd knows
  tail_marks (Quiesce (AtStore node index at)) knows is = elim (cases_word (EntryAt f i) (EntryAt node index)) [
    | inl here ↦ inr (inr (record {
      places = knows.places;
      node = subst (λ (n : ℕ). IsTrue (is_node ((state_after setup t).frame n))) (sym (same_node here)) knows.relies.node;
      at = at;
      stands = ap (λ (b : Bool). cond b (word_of_entry (entry.Quiescing at)) (h.stands (EntryAt f i)))
          (same_word-same (EntryAt f i) (EntryAt node index) here);
    }))
    | inr there ↦ never (sym (ap (λ (b : Bool). cond b true (h.marks (EntryAt f i)))
        (same_word-other (EntryAt f i) (EntryAt node index) there)) ∙ is)
  ]
    where
      same_node : EntryAt f i ≡ EntryAt node index → f ≡ node
      same_node e = cc
  tail_marks (Unmark g word) knows is = never is
  tail_marks (StoreDead life stamp) knows is = never is
  tail_marks (StoreFlush by stamp) knows is = never is
  tail_marks (Release x) knows is = never (sym (thaw_none x.thaw h f i) ∙ is)
  tail_marks (StoreLive l live g word) knows is = never is
  tail_marks (Push (push.AtStack g core depth comp)) knows is = never is
  tail_marks (Push (push.AtThread g core depth)) knows is = never is
  tail_marks (Pop (pop.AtThread g core depth)) knows is = never is
  tail_marks (Pop (pop.AtStack g depth)) knows is = never is
  tail_marks (Share p) knows is = inl knows.budgets
  tail_marks (StoreRunning g core depth old old_depth) knows is = inr (inl knows.rest.threads)
  tail_marks (StoreIdle g depth) knows is = inr (inl knows.threads)

-- Calls that change budgets or threads change no frames.
budgets_frames : (call : Call) → changes_budgets call ≡ true → changes_frames call ≡ false
budgets_frames (call_as.Retype r f k) is = absurd (true≢false (sym is))
budgets_frames (call_as.Make what r f t b) is = absurd (true≢false (sym is))
budgets_frames _ is = refl

threads_frames : (call : Call) → changes_threads call ≡ true → changes_frames call ≡ false
threads_frames (call_as.Retype r f k) is = absurd (true≢false (sym is))
threads_frames (call_as.Make what r f t b) is = absurd (true≢false (sym is))
threads_frames _ is = refl

-- ---- what a place is whose word quiesces

no_free : (w at : ℕ) → word_of_entry entry.Free ≡ w → w ≡ word_of_entry (entry.Quiescing at) → ⊥
unfolding word_of_entry
no_free w at e q = omega (arith, e, q)

no_held : (w at : ℕ) (k : Capability) → word_of_entry (entry.Held k) ≡ w → w ≡ word_of_entry (entry.Quiescing at) → ⊥
unfolding word_of_entry
no_held w at k e q = omega (arith, e, q)

removed_place : (frames stamp w at : ℕ) (p : Place) → w ≡ word_of_entry (entry.Quiescing at) → PlaceIs frames p stamp (entry_of_word w)
    → (k : Capability) × (p ≡ Quiescing k)
removed_place frames stamp w at Free is h = absurd (no_free w at (spelling.spells w entry.Free h).1 is)
removed_place frames stamp w at (Holds k) is h = absurd (no_held w at k (spelling.spells w (entry.Held k) h.0).1 is)
removed_place frames stamp w at (Quiescing k) is h = (k, refl)

removed_here : (frames stamp i w at : ℕ) (x : Frame) (p : Place) → IsTrue (is_node x) → i < 64 → w ≡ word_of_entry (entry.Quiescing at)
    → IsFrameWord frames x p stamp i w → (k : Capability) × (p ≡ Quiescing k)
removed_here frames stamp i w at (Kernel Table) p node lt is h = removed_place frames stamp w at p is (h lt)
removed_here frames stamp i w at (Kernel Leaf) p node lt is h = removed_place frames stamp w at p is (h lt)
removed_here frames stamp i w at (Kernel Pages) p node lt is h = removed_place frames stamp w at p is (h lt)
removed_here frames stamp i w at (Kernel Pleaf) p node lt is h = removed_place frames stamp w at p is (h lt)
removed_here frames stamp i w at _ p node lt is h = absurd (false≢true node)

-- ---- what a step leaves of the frames

undecided_frames : (enters : Option Call) (returns : Option Reply) (p : Phase) (s : State) (c : ℕ)
    → (state_returned returns (state_decided None p (state_entered enters s c) c) c).frame ≡ s.frame
undecided_frames None None p s c = refl
undecided_frames None (Some r) p s c = refl
undecided_frames (Some x) None p s c = refl
undecided_frames (Some x) (Some r) p s c = refl

pub entered_frames : (enters : Option Call) (s : State) (c : ℕ) → (state_entered enters s c).frame ≡ s.frame
entered_frames None s c = refl
entered_frames (Some x) s c = refl

returned_frames : (returns : Option Reply) (s : State) (c : ℕ) → (state_returned returns s c).frame ≡ s.frame
returned_frames None s c = refl
returned_frames (Some r) s c = refl

returned_places : (returns : Option Reply) (s : State) (c : ℕ) → (state_returned returns s c).place ≡ s.place
returned_places None s c = refl
returned_places (Some r) s c = refl

-- ---- phases

still_open : (returns decides : Option Reply) (p : Phase) (call : Call)
    → after_return returns (after_decide decides p) ≡ history.Open call → decides ≡ None
still_open (Some r) decides p call is = cc
still_open None None p call is = refl
still_open None (Some q) Out call is = cc
still_open None (Some q) (history.Open x) call is = cc
still_open None (Some q) (history.Decided x y) call is = cc

same_call : (returns : Option Reply) (q r : Reply) (x call : Call)
    → after_return returns (after_decide (Some q) (history.Open x)) ≡ history.Decided call r → x ≡ call
same_call None q r x call is = cc
same_call (Some y) q r x call is = cc

-- ---- the step

module _ (setup : Setting) (setting : IsSetting setup) (t : Trace) (e : Step) (made : IsMade setup (e ∷ t)) where
  abbrev s : State
  s = state_after setup t

  abbrev s' : State
  s' = state_after setup (e ∷ t)

  after : Invariant setup (cores_after setup (e ∷ t)) (e ∷ t)
  after = made_stands setup setting (e ∷ t) made

  follows : MayFollow setup t e
  follows = after.legal.1

  abbrev p : Phase
  p = after_enter e.enters (phase t e.core)

  phase_is : phase (e ∷ t) e.core ≡ after_return e.returns (after_decide e.decides p)
  phase_is = phase-own e.core e t refl

  -- the step decides nothing
  none_alike : e.decides ≡ None → ReadAlike s s'
  none_alike none f i v = ap (λ (r : ℕ → Frame). mark_in_frame (r f) i v)
      (ap (λ (o : Option Reply). (state_returned e.returns (state_decided o p (state_entered e.enters s e.core) e.core) e.core).frame) none
      ∙ undecided_frames e.enters e.returns p s e.core)

  -- it decides the call that stands here after it
  module _ (q : Reply) (decides : e.decides ≡ Some q) (call : Call) (opens : p ≡ history.Open call) where
    abbrev before : State
    before = state_entered e.enters s e.core

    abbrev done : State
    done = state_by before e.core call q

    state_is : s' ≡ state_returned e.returns done e.core
    state_is = ap (λ (o : Option Reply). state_returned e.returns (state_decided o p before e.core) e.core) decides
        ∙ ap (λ (x : Phase). state_returned e.returns (state_decided (Some q) x before e.core) e.core) opens

    frames_are : s'.frame ≡ done.frame
    frames_are = ap (λ (x : State). x.frame) state_is ∙ returned_frames e.returns done e.core

    places_are : s'.place ≡ done.place
    places_are = ap (λ (x : State). x.place) state_is ∙ returned_places e.returns done e.core

    reads : (f i v : ℕ) → mark_in_frame (done.frame f) i v ≡ mark_in_frame (before.frame f) i v
        → mark_in_frame (s'.frame f) i v ≡ mark_in_frame (s.frame f) i v
    reads f i v same = ap (λ (r : ℕ → Frame). mark_in_frame (r f) i v) frames_are ∙ same
        ∙ ap (λ (r : ℕ → Frame). mark_in_frame (r f) i v) (entered_frames e.enters s e.core)

    plain_alike : changes_frames call ≡ false → ReadAlike s s'
    plain_alike stays f i v = reads f i v (kinds_stay before e.core call q stays f i v)

    stored_alike : (h : Holding) (f i : ℕ) → i < 64 → WordIs s' (times_of setup (e ∷ t)) (EntryAt f i) (h.stands (EntryAt f i))
        → Stores setup (e ∷ t) call h f i → (v : ℕ) → mark_in_frame (s'.frame f) i v ≡ mark_in_frame (s.frame f) i v
    stored_alike h f i lt says stores v =
        let removed = removed_here _ _ i (h.stands (EntryAt f i)) stores.at (s'.frame f) (s'.place f i) stores.node lt stores.stands says in
        reads f i v (nodes_stay before e.core call q stores.places f i removed.0
        (subst (λ (r : ℕ → Frame). IsTrue (is_node (r f))) frames_are stores.node)
        (ap (λ (r : ℕ → ℕ → Place). r f i) (sym places_are) ∙ removed.1) v)

    why_alike : (h : Holding) (f i : ℕ) → i < 64 → WordIs s' (times_of setup (e ∷ t)) (EntryAt f i) (h.stands (EntryAt f i))
        → Why setup (e ∷ t) call h f i → (v : ℕ) → mark_in_frame (s'.frame f) i v ≡ mark_in_frame (s.frame f) i v
    why_alike h f i lt says (inl budgets) v = plain_alike (budgets_frames call budgets) f i v
    why_alike h f i lt says (inr (inl threads)) v = plain_alike (threads_frames call threads) f i v
    why_alike h f i lt says (inr (inr stores)) v = stored_alike h f i lt says stores v

  -- The core has marked an entry after its step: words are then read there as before.
  module _ (f i : ℕ) (lt : i < 64) where
    decided_alike : (a : ActiveCall) (r : Reply) (drawn : Option ℕ) (tail : Tail) (h : Holding) → ((g j : ℕ) → h.marks (EntryAt g j) ≡ false)
        → phase (e ∷ t) e.core ≡ history.Decided a.call r → KnowsTail setup (e ∷ t) e.core a.call a.counts tail
        → (holds_tail tail h).marks (EntryAt f i) ≡ true
        → WordIs s' (times_of setup (e ∷ t)) (EntryAt f i) ((holds_tail tail h).stands (EntryAt f i))
        → (o : Option Reply) → e.decides ≡ o → MayDecide setup t e o p
        → (v : ℕ) → mark_in_frame (s'.frame f) i v ≡ mark_in_frame (s.frame f) i v
    decided_alike a r drawn tail h none at knows is says None decides may v = none_alike decides f i v
    decided_alike a r drawn tail h none at knows is says (Some q) decides may v =
        let opens : p ≡ history.Open a.call = may.is_open ∙ ap (λ (x : Call). history.Open x)
        (same_call e.returns q r may.call a.call
        (ap (λ (x : Phase). after_return e.returns (after_decide (Some q) x)) (sym may.is_open)
        ∙ ap (λ (o : Option Reply). after_return e.returns (after_decide o p)) (sym decides) ∙ sym phase_is ∙ at)) in
        why_alike q decides a.call opens (holds_tail tail h) f i lt says
        (tail_marks setup (e ∷ t) e.core a.call a.counts h none f i tail knows is) v

    stage_alike : (a : ActiveCall) (stage : Stage) (table : ℕ) → phase (e ∷ t) e.core ≡ phase_at a.call stage
        → KnowsAt setup (e ∷ t) e.core table a stage
        → (holds_stage stage (holds_counts (is_done stage) a.counts)).marks (EntryAt f i) ≡ true
        → WordIs s' (times_of setup (e ∷ t)) (EntryAt f i) ((holds_stage stage (holds_counts (is_done stage) a.counts)).stands (EntryAt f i))
        → (v : ℕ) → mark_in_frame (s'.frame f) i v ≡ mark_in_frame (s.frame f) i v
    stage_alike a Enter table at knows is says v = absurd knows
    stage_alike a (Living alive) table at knows is says v =
        absurd (true≢false (sym is ∙ counts_none (is_done (Living alive)) a.counts f i))
    stage_alike a (Undecided work) table at knows is says v =
        none_alike (still_open e.returns e.decides p a.call (sym phase_is ∙ at)) f i v
    stage_alike a (Decided r drawn tail) table at knows is says v =
        decided_alike a r drawn tail (holds_counts (is_done (Decided r drawn tail)) a.counts)
        (counts_none (is_done (Decided r drawn tail)) a.counts) at knows is says e.decides refl follows.decides v
    stage_alike a (Leave r x) table at knows is says v =
        absurd (true≢false (sym is ∙ counts_none (is_done (Leave r x)) a.counts f i))

    active_alike : (o : Option ActiveCall) (table : ℕ) → CallIs setup (e ∷ t) e.core table o → (holds_in o).marks (EntryAt f i) ≡ true
        → WordIs s' (times_of setup (e ∷ t)) (EntryAt f i) ((holds_in o).stands (EntryAt f i))
        → (v : ℕ) → mark_in_frame (s'.frame f) i v ≡ mark_in_frame (s.frame f) i v
    active_alike None table call is says v = absurd (false≢true is)
    active_alike (Some a) table call is says v = stage_alike a a.stage table call.phase call.knows is says v

    entry_alike : marked_by setup (e ∷ t) (EntryAt f i) ≡ Some e.core → (v : ℕ)
        → mark_in_frame (s'.frame f) i v ≡ mark_in_frame (s.frame f) i v
    entry_alike is v =
        let each = after.each e.core follows.is_core in
        active_alike ((cores_after setup (e ∷ t) e.core).active) _ each.active ((after.marks (EntryAt f i) e.core).owned is)
        (subst (λ (o : Option ℕ). WordIs s' (times_of setup (e ∷ t)) (EntryAt f i)
        (settled_by o (held_by (cores_after setup (e ∷ t))) (EntryAt f i)
        (last_left setup (e ∷ t) (EntryAt f i)))) is (after.words (EntryAt f i))) v

  -- Where the step leaves its word as found, and its core has marked it after the step, it has marked it before.
  mark_kept : (w : Word) → w ≡ word_of e.move → left_of e.move e.found ≡ e.found → marked_by setup (e ∷ t) w ≡ Some e.core
      → marked_by setup t w ≡ Some e.core
  mark_kept w here kept is = by w refl is where
    same_value : (v : Word) → v ≡ w → last_left setup (e ∷ t) v ≡ last_left setup t v
    same_value v at = last_left-here setup v e t (at ∙ here) ∙ kept ∙ follows.found ∙ ap (last_left setup t) (sym (at ∙ here))

    by : (v : Word) → v ≡ w → marked_by setup (e ∷ t) v ≡ Some e.core → marked_by setup t v ≡ Some e.core
    by (EntryAt f i) at m =
        ap (λ (x : ℕ). mark_in_frame (s.frame f) i x) (sym (same_value (EntryAt f i) at))
        ∙ sym (entry_alike f i (small f i (at ∙ here)) m (last_left setup (e ∷ t) (EntryAt f i))) ∙ m
      where
        small : (g j : ℕ) → EntryAt g j ≡ word_of e.move → j < 64
        small g j same = (subst (λ (x : Word). IsIn (shape_of setup) x) (sym same) follows.is_in).1
    by (FrameAt f) at m = ap (λ (x : ℕ). mark_of s (FrameAt f) x) (sym (same_value (FrameAt f) at)) ∙ m
    by (CountAt f d) at m = ap (λ (x : ℕ). mark_of s (CountAt f d) x) (sym (same_value (CountAt f d) at)) ∙ m
    by (CoreAt d) at m = cc
    by (FlushAt d) at m = cc
    by (LiveAt l) at m = ap (λ (x : ℕ). mark_of s (LiveAt l) x) (sym (same_value (LiveAt l) at)) ∙ m
    by ClockAt at m = cc

-- A step that puts its core's mark changes the word.
pub puts_by_change : (setup : Setting) → IsSetting setup → (t : Trace) (e : Step) → IsMade setup (e ∷ t) → (w : Word)
    → w ≡ word_of e.move → marked_by setup t w ≢ Some e.core → marked_by setup (e ∷ t) w ≡ Some e.core → left_of e.move e.found ≢ e.found
puts_by_change setup setting t e made w here before after = λ kept. before (mark_kept setup setting t e made w here kept after)
