-- Each call that is carried out spares what the other cores in calls rely on.
use Rattle.kernel_invariant.specs.kernel_rules.proofs as low
use low.{◌≡◌, ◌≢◌, inl, inr, ℕ, ◌<◌, Bool, true, false, not, refl, sym, ◌∙◌, ap, subst, ◌==◌, cond, ◌&&◌, ◌||◌, ltb as nat_lt}
use low.{if◌then◌else◌, ◌+◌, ◌-◌, ◌≤◌, arith, IsTrue, List, [], ◌∷◌, take, Option, Some, None, false≢true, ne_eqb, eqb-true, Capability}
use low.{Kind, FrameKind, Make, Call, Retype, Touch}
use low.{Flush, Kill, Ret, Switch, Tick, Transfer, Delegate, Replenish, Translation, Nothing, Reply, Place, Free, Holds}
use low.{Quiescing, CompFields, ThreadFields, TcapFields, Object, Blank, Table, Leaf, Pages, Pleaf, Comp, Thread, Tcap, Frame, Untyped}
use low.{User, Kernel, Core, Thing, PlaceOf, FrameOf, NumberOf, Liveness, Unused, put, with_frame, with_core, with_number, Live, Dead}
use low.{comp_of, comp_in, thread_in, thread_of, plain_cap, no_grace, refs, times, frame_names, number_names, core_names, Slot, found}
use low.{Target, Under, place_at, usable_in, reached, same_thing, new_grace, begun, flushed, is_live_in, is_dead_in, Change, does}
use low.{Cause, When, WaitedFor, Unflushed, Found, named, vacant, held, unless, not_vacant, first_cause, refusal_of, waits_of, flushes_of}
use low.{frames_of, cleared, with_thread, with_stack, running, switched, Fill, Node, Become, Untype, is_live, not_blank, outside, epoch_of}
use low.{make_node, make_rule, not_taken, Component, Deaden, Push, Pop, edited, after_edits, with_tcap, is_untyped_now, is_empty}
use low.{not_retyped, retype_rule, touch_by, translation_of, not_live, switch_to, with_budget, with_qualities, tcap_at, moved, merged_list}
use low.{rule_of, fits, put_same, put_other, is_node, is_fixed, IsGuarded}
use Rattle.kernel_invariant.proofs.{put_all, frames_no_place, unnamed, IsOpen, blank_by, untyped_by, times_first, ChangesFrom, named_fit}
use Rattle.kernel_invariant.proofs.{held_facts, then_parts, some_inj, some_none, none_parts, when_not, not_not}
use Rattle.kernel_invariant.specs.spk_nums.specs.declared.calls.Call.TheVariants.{Make as make_call, Call as call_gate}
use Rattle.kernel_invariant.specs.kernel_rules.specs.{State.State, Edits.Remove, Edits.Switch as switch_edit, Edits.begins_in}
use Rattle.kernel_invariant.proofs.{SoundRemovals.none_waits, SoundRemovals.none_waiting, SoundCalls.zero_refs, Facts.found_inj}
use Rattle.found_stays.proofs.Apart.{acts_in, acts_more, kill_apart, IsApart, apart_same, apart_then, fill_apart, remove_apart, begin_apart}
use Rattle.found_stays.proofs.Apart.{frame_apart, core_apart, number_apart, clear_apart, flush_apart, frame_waits}
use Rattle.{std.proofs.lemmas.Bool.cases_eq, std.specs.List.list_any, kernel_invariant.proofs.Facts.refused_found}
use low.{Value}

-- The current thread of a core runs on it.
abbrev pub RunsOn : State → ℕ → Type 0
RunsOn s c = (thread_of s c).runs_on ≡ Some c

-- Core d's call is open in a sound state, in which each core's thread runs on it; o are cores that are in a call.
pub record HasTurn (s : State) (o : ℕ → Bool) (d : ℕ) : Type 0 where
  pub opened : ℕ → Bool
  pub opens : IsOpen s opened d
  pub inside : (c : ℕ) → o c ≡ true → IsTrue (s.core c).inside × (c < s.limits.cores)
  pub runs : (c : ℕ) → c < s.limits.cores → RunsOn s c

-- From s to t, by core d: as `IsApart`, but that a node or component stays where another core in a call guards it, or where
-- it is referenced; and
-- core d's thread runs on it.
pub record Spares (s t : State) (o : ℕ → Bool) (d : ℕ) : Type 0 where
  pub core : (c : ℕ) → c ≢ d → t.core c ≡ s.core c
  pub frame : (c f : ℕ) → c ≢ d → o c ≡ true → IsTrue (is_fixed (s.frame f)) → IsGuarded s c f → t.frame f ≡ s.frame f
  pub named : (f : ℕ) → IsTrue (is_fixed (s.frame f)) → 0 < refs s f → t.frame f ≡ s.frame f
  pub thread : (c : ℕ) → c ≢ d → c < s.limits.cores → t.frame (s.core c).thread ≡ s.frame (s.core c).thread
  pub place : (c f i : ℕ) (k : Capability) → c ≢ d → o c ≡ true → IsTrue (is_node (s.frame f))
      → usable_in (s.place f i) ((s.grace (PlaceOf f i)).waits c) ≡ Some k
      → usable_in (t.place f i) ((t.grace (PlaceOf f i)).waits c) ≡ Some k
  pub waits : (c f : ℕ) → c ≢ d → o c ≡ true → IsTrue ((s.grace (FrameOf f)).waits c) → IsTrue ((t.grace (FrameOf f)).waits c)
  pub acts : (c l e : ℕ) → c ≢ d → o c ≡ true → IsTrue (acts_in s c l e) → IsTrue (acts_in t c l e)
  pub limits : t.limits ≡ s.limits
  pub runs : RunsOn t d

abbrev pub SparesBy : State → (ℕ → Bool) → ℕ → Change → Type 0
SparesBy s o d change = Spares s (begun s change.begins change.next) o d

pub spares_by : (s t : State) (o : ℕ → Bool) (d : ℕ) → IsApart s t o d → RunsOn t d → Spares s t o d
spares_by s t o d a runs = record {
  core = a.core;
  frame = λ c f other opened fixed guarded. a.frame f fixed;
  named = λ f fixed some. a.frame f fixed;
  thread = a.thread;
  place = a.place;
  waits = a.waits;
  acts = a.acts;
  limits = a.limits;
  runs = runs;
}

module _ (s : State) (o : ℕ → Bool) (d : ℕ) (h : HasTurn s o d) where
  own_runs : RunsOn s d
  own_runs = h.runs d (h.opens.sound.inside d h.opens.is).1

  inside : (c : ℕ) → o c ≡ true → IsTrue (s.core c).inside
  inside c q = (h.inside c q).0

  -- a change that begins the grace periods of no place
  done : (next : State) (things : List Thing) → ((f i : ℕ) → list_any (same_thing (PlaceOf f i)) things ≡ false)
      → IsApart s next o d → RunsOn next d → Spares s (begun s things next) o d
  done next things apart a runs = spares_by s (begun s things next) o d
      (apart_then s next (begun s things next) o d a (begin_apart s next o d things inside apart)) runs

  plain : (next : State) → IsApart s next o d → RunsOn next d → Spares s (begun s [] next) o d
  plain next a runs = done next [] (λ f i. refl) a runs

  -- no other core may use anything in a place that is vacant for core d
  pub vacant_none : (target : Target) (at : Slot) → vacant s d target ≡ Found at
      → (c : ℕ) → c ≢ d → o c ≡ true → usable_in (s.place at.node at.index) ((s.grace (PlaceOf at.node at.index)).waits c) ≡ None
  vacant_none target at e c other q =
      let a = then_parts (Rattle.kernel_invariant.specs.kernel_rules.specs.Rules.or_refuse (reached s d target) Reply.NoSlot)
      (λ at. unless (not_vacant s d (PlaceOf at.node at.index) (place_at s at)) at) at e in
      let u : (not_vacant s d (PlaceOf a.0.node a.0.index) (place_at s a.0) ≡ None) × (a.0 ≡ at) =
      unless_parts (not_vacant s d (PlaceOf a.0.node a.0.index) (place_at s a.0)) a.0 a.2 in
      subst (λ (x : Slot). usable_in (s.place x.node x.index) ((s.grace (PlaceOf x.node x.index)).waits c) ≡ None) u.1
      (by_place (PlaceOf a.0.node a.0.index) (place_at s a.0) u.0)
    where
      unless_parts : (r : Option Reply) (x : Slot) → unless r x ≡ Found at → (r ≡ None) × (x ≡ at)
      unless_parts None x p = (refl, found_inj x at p)
      unless_parts (Some r) x p = absurd (refused_found r at p)

      by_place : (x : Thing) (p : Place) → not_vacant s d x p ≡ None → usable_in p ((s.grace x).waits c) ≡ None
      by_place x Free n = refl
      by_place x (Holds k) n = absurd (some_none Reply.Occupied n)
      by_place x (Quiescing k) n = ap (usable_in (Quiescing k))
          (none_waiting s d x (none_parts (waits_of s d x) (flushes_of s x) n).0 c (h.inside c q).1 other)

  filled : (target : Target) (at : Slot) (k : Capability) → vacant s d target ≡ Found at
      → SparesBy s o d (does d s Nothing (Fill at k ∷ []))
  filled target at k e = plain (edited d s (Fill at k)) (fill_apart s o d at.node at.index k (vacant_none target at e)) own_runs

  removed : (target : Target) (at : Slot) (k : Capability) → held s d target ≡ Found (at, k)
      → SparesBy s o d (does d s Nothing (Remove at k ∷ []))
  removed target at k e =
      spares_by s (begun s (begins_in d s (Remove at k)) (edited d s (Remove at k))) o d
      (remove_apart s o d at.node at.index k inside (held_facts s d target at k e).1) own_runs

  -- the thread of another core is a thread
  thread_away : (f : ℕ) → fits Kind.Thread (s.frame f) ≡ false → (c : ℕ) → c ≢ d → c < s.limits.cores → (s.core c).thread ≢ f
  thread_away f apart c other below same =
      false≢true (sym apart ∙ ap (λ n. fits Kind.Thread (s.frame n)) (sym same) ∙ (h.opens.sound.cores c below).0)

  own_away : (f : ℕ) → fits Kind.Thread (s.frame f) ≡ false → (s.core d).thread ≢ f
  own_away f apart same = false≢true
      (sym apart ∙ ap (λ n. fits Kind.Thread (s.frame n)) (sym same) ∙ (h.opens.sound.cores d (h.opens.sound.inside d h.opens.is).1).0)

-- A frame changes that is not core d's thread.
runs_put : (s : State) (f : ℕ) (y : Frame) (d : ℕ) → (s.core d).thread ≢ f → RunsOn s d → RunsOn (with_frame s f y) d
runs_put s f y d away runs = ap (λ x. (thread_in x).runs_on) (put_other s.frame f y (s.core d).thread away) ∙ runs

-- Core d keeps its thread.
runs_core : (s : State) (d : ℕ) (k : Core) → k.thread ≡ (s.core d).thread → RunsOn s d → RunsOn (with_core s d k) d
runs_core s d k same runs = ap (λ (x : Core). (thread_in (s.frame x.thread)).runs_on) (put_same s.core d k d refl)
    ∙ ap (λ n. (thread_in (s.frame n)).runs_on) same ∙ runs

-- A number that is live in an epoch is so for a frame.
live_is : (x : Liveness) (e : ℕ) → is_live_in x e ≡ true → (f : ℕ) × (x ≡ Live e f)
live_is Unused e is = absurd (false≢true is)
live_is (Live x f) e is = (f, ap (λ n. Live n f) (eqb-true x e is))
live_is (Dead x) e is = absurd (false≢true is)

-- Frames by what they are.
pub thread_loose : (x : Frame) → IsTrue (fits Kind.Thread x) → is_fixed x ≡ false
thread_loose (Kernel (Thread t)) h = refl
thread_loose _ h = absurd (false≢true h)

tcap_loose : (x : Frame) → IsTrue (fits Kind.Tcap x) → is_fixed x ≡ false
tcap_loose (Kernel (Tcap q)) h = refl
tcap_loose _ h = absurd (false≢true h)

tcap_no_thread : (x : Frame) → IsTrue (fits Kind.Tcap x) → fits Kind.Thread x ≡ false
tcap_no_thread (Kernel (Tcap q)) h = refl
tcap_no_thread _ h = absurd (false≢true h)

with_tcap_loose : (x : Frame) (q : TcapFields) → IsTrue (fits Kind.Tcap x) → is_fixed (with_tcap x q) ≡ false
with_tcap_loose (Kernel (Tcap p)) q h = refl
with_tcap_loose _ q h = absurd (false≢true h)

with_tcap_fit : (x : Frame) (q : TcapFields) → IsTrue (fits Kind.Tcap x) → IsTrue (fits Kind.Tcap (with_tcap x q))
with_tcap_fit (Kernel (Tcap p)) q h = refl
with_tcap_fit _ q h = absurd (false≢true h)

with_thread_loose : (x : Frame) (t : ThreadFields) → IsTrue (fits Kind.Thread x) → is_fixed (with_thread x t) ≡ false
with_thread_loose (Kernel (Thread u)) t h = refl
with_thread_loose _ t h = absurd (false≢true h)

thread_with : (x : Frame) (t : ThreadFields) → IsTrue (fits Kind.Thread x) → thread_in (with_thread x t) ≡ t
thread_with (Kernel (Thread u)) t h = refl
thread_with _ t h = absurd (false≢true h)

with_thread_fit : (x : Frame) (t : ThreadFields) → IsTrue (fits Kind.Thread x) → IsTrue (fits Kind.Thread (with_thread x t))
with_thread_fit (Kernel (Thread u)) t h = refl
with_thread_fit _ t h = absurd (false≢true h)

loose_put : (s : State) (f : ℕ) (y : Frame) (g : ℕ) → is_fixed y ≡ false
    → is_fixed (s.frame g) ≡ false → is_fixed (put s.frame f y g) ≡ false
loose_put s f y g new old = put_all (λ g x. is_fixed x ≡ false) s.frame f y g (λ same. new) (λ other. old)

-- `make`: a blank frame of s has the object, and a place its capability.
made : (s : State) (o : ℕ → Bool) (d f : ℕ) (object : Object) (k : Kind) (at : Slot) → s.frame f ≡ Kernel Blank
    → ((c : ℕ) → c ≢ d → c < s.limits.cores → (s.core c).thread ≢ f)
    → ((c : ℕ) → c ≢ d → o c ≡ true → usable_in (s.place at.node at.index) ((s.grace (PlaceOf at.node at.index)).waits c) ≡ None)
    → IsApart s (after_edits d s (Become f (Kernel object) ∷ Fill at (plain_cap k f) ∷ [])) o d
made s o d f object k at blank away none =
    apart_then s (with_frame s f (Kernel object)) (edited d (with_frame s f (Kernel object)) (Fill at (plain_cap k f))) o d
    (frame_apart s o d f (Kernel object) (ap is_fixed blank) away)
    (fill_apart (with_frame s f (Kernel object)) o d at.node at.index (plain_cap k f) none)

-- A place in which a core may use nothing is so where the places of a frame are freed.
cleared_none : (s : State) (f : ℕ) (at : Slot) (c : ℕ)
    → usable_in (s.place at.node at.index) ((s.grace (PlaceOf at.node at.index)).waits c) ≡ None
    → usable_in ((cleared s f).place at.node at.index) (((cleared s f).grace (PlaceOf at.node at.index)).waits c) ≡ None
cleared_none s f at c none = elim (cases_eq at.node f) [
  | inl same ↦ ap (λ r. usable_in (r at.index) (((cleared s f).grace (PlaceOf at.node at.index)).waits c))
      (put_same s.place f (λ i. Free) at.node same)
  | inr other ↦
      ap (λ r. usable_in (r at.index) (((cleared s f).grace (PlaceOf at.node at.index)).waits c))
      (put_other s.place f (λ i. Free) at.node other)
      ∙ ap (λ b. usable_in (s.place at.node at.index) ((cond b no_grace (s.grace (PlaceOf at.node at.index))).waits c))
      (ne_eqb at.node f other) ∙ none
]

module _ (s : State) (o : ℕ → Bool) (d : ℕ) (h : HasTurn s o d) where
  node_spares : (object : Object) (k : Kind) (r f t b : ℕ) → ChangesFrom (SparesBy s o d) s d (make_node s object k r f t b)
  node_spares object k r f t b = λ range e table g at v calm.
      let blank : s.frame f ≡ Kernel Blank = (blank_by s h.opened d r f range [] h.opens e calm).1 in
      plain s o d h (after_edits d s (Node f object ∷ Fill at (plain_cap k f) ∷ []))
      (apart_then s (cleared s f) (after_edits d s (Node f object ∷ Fill at (plain_cap k f) ∷ [])) o d
      (clear_apart s o d f (ap is_node blank))
      (made (cleared s f) o d f object k at blank (thread_away s o d h f (ap (fits Kind.Thread) blank))
      (λ c other q. cleared_none s f at c (vacant_none s o d h (Under (found table) b) at v c other q))))
      (runs_put s f (Kernel object) d (own_away s o d h f (ap (fits Kind.Thread) blank)) (own_runs s o d h))

  object_spares : (f : ℕ) (object : Object) (k : Kind) (target : Target) (at : Slot)
      → s.frame f ≡ Kernel Blank → vacant s d target ≡ Found at
      → Spares s (begun s [] (after_edits d s (Become f (Kernel object) ∷ Fill at (plain_cap k f) ∷ []))) o d
  object_spares f object k target at blank v =
      plain s o d h (after_edits d s (Become f (Kernel object) ∷ Fill at (plain_cap k f) ∷ []))
      (made s o d f object k at blank (thread_away s o d h f (ap (fits Kind.Thread) blank)) (vacant_none s o d h target at v))
      (runs_put s f (Kernel object) d (own_away s o d h f (ap (fits Kind.Thread) blank)) (own_runs s o d h))

  -- no other core may act in a liveness number that is taken: it is not live, and none waits for it
  none_acts : (f : ℕ) (range : Capability) (l : ℕ) → first_cause s d (outside (found range) f ∷ not_blank s f ∷ not_taken s l) ≡ None
      → (c e : ℕ) → c ≢ d → o c ≡ true → IsTrue (acts_in s c l e) → ⊥
  none_acts f range l calm c e other q may =
      let p = none_parts (refusal_of s d (outside (found range) f)) (first_cause s d (not_blank s f ∷ not_taken s l)) calm in
      let p1 = none_parts (refusal_of s d (not_blank s f)) (first_cause s d (not_taken s l)) p.1 in
      let spent : Cause = When (epoch_of (s.number l) == s.limits.epochs) Reply.EpochsSpent in
      let p2 = none_parts (refusal_of s d (When (is_live (s.number l)) Reply.Occupied))
      (first_cause s d (WaitedFor (NumberOf l) ∷ spent ∷ []))
      p1.1 in
      let p3 = none_parts (waits_of s d (NumberOf l)) (first_cause s d (spent ∷ [])) p2.1 in
      by (s.number l) (when_not (is_live (s.number l)) Reply.Occupied p2.0)
      (subst (λ w. IsTrue (is_live_in (s.number l) e || (is_dead_in (s.number l) e && w)))
      (none_waiting s d (NumberOf l) p3.0 c (h.inside c q).1 other) may)
    where
      neither : (b : Bool) → (b && false) ≡ true → ⊥
      neither true k = false≢true k
      neither false k = false≢true k

      by : (n : Liveness) → is_live n ≡ false → IsTrue (is_live_in n e || (is_dead_in n e && false)) → ⊥
      by Unused free may = false≢true may
      by (Live x g) free may = false≢true (sym free)
      by (Dead x) free may = neither (x == e) may

  make_spares : (what : Make) (r f t b : ℕ) → ChangesFrom (SparesBy s o d) s d (make_rule s what r f t b)
  make_spares Make.Table r f t b = node_spares Table Kind.Table r f t b
  make_spares Make.Leaf r f t b = node_spares Leaf Kind.Leaf r f t b
  make_spares Make.Pages r f t b = node_spares Pages Kind.Pages r f t b
  make_spares Make.Pleaf r f t b = node_spares Pleaf Kind.Pleaf r f t b
  make_spares (Make.Thread comp) r f t b = λ range e table g k j at v calm.
      object_spares f (Thread (record { stack = k.frame ∷ []; runs_on = None })) Kind.Thread
      (Under (found table) b) at (blank_by s h.opened d r f range [] h.opens e calm).1 v
  make_spares (Make.Tcap sched quality) r f t b = λ range e table g at v calm.
      object_spares f (Tcap (record { budget = 0; qualities = (sched, quality) ∷ [] })) Kind.Tcap
      (Under (found table) b) at (blank_by s h.opened d r f range [] h.opens e calm).1 v
  make_spares (Make.Comp x y l) r f t b = λ range e table g own_table a own_pages k at v calm.
      let blank : s.frame f ≡ Kernel Blank = (blank_by s h.opened d r f range (not_taken s l) h.opens e calm).1 in
      let comp : CompFields = record { table = own_table.frame; pages = own_pages.frame; number = l; epoch = epoch_of (s.number l) + 1 } in
      let new : State = after_edits d s (Component f comp ∷ Fill at (plain_cap Kind.Comp f) ∷ []) in
      plain s o d h new
      (apart_then s (with_number s l (Live comp.epoch f)) new o d
      (number_apart s o d l (Live comp.epoch f) (none_acts f range l calm))
      (made (with_number s l (Live comp.epoch f)) o d f (Comp comp) Kind.Comp at blank
      (thread_away s o d h f (ap (fits Kind.Thread) blank)) (vacant_none s o d h (Under (found table) b) at v)))
      (runs_put s f (Kernel (Comp comp)) d (own_away s o d h f (ap (fits Kind.Thread) blank)) (own_runs s o d h))

  -- a retype from untyped
  typed_spares : (f : ℕ) (y : Frame) → s.frame f ≡ Untyped → Spares s (begun s [] (with_frame s f y)) o d
  typed_spares f y untyped =
      plain s o d h (with_frame s f y)
      (frame_apart s o d f y (ap is_fixed untyped) (thread_away s o d h f (ap (fits Kind.Thread) untyped)))
      (runs_put s f y d (own_away s o d h f (ap (fits Kind.Thread) untyped)) (own_runs s o d h))

  -- a retype to untyped, of a frame that is not named and for which no other core waits
  untype_spares : (f : ℕ) → refs s f ≡ 0 → ((c : ℕ) → c < s.limits.cores → c ≢ d → (s.grace (FrameOf f)).waits c ≡ false)
      → Spares s (begun s (begins_in d s (Untype f)) (edited d s (Untype f))) o d
  untype_spares f zero none = record {
    core = λ c other. refl;
    frame = λ c g other q fixed guarded. put_other s.frame f Untyped g (guarded_away c g other q guarded);
    named = λ g fixed some. put_other s.frame f Untyped g
        (λ same. (let r : refs s g ≡ refs s f = ap (refs s) same in omega (arith, some, r, zero)));
    thread = λ c other below. put_other s.frame f Untyped (s.core c).thread (thread_named c below);
    place = λ c g i k other q node had.
        ap (λ b. usable_in (s.place g i) ((cond b (new_grace s (PlaceOf g i)) (s.grace (PlaceOf g i))).waits c))
        (frames_no_place g i (frame_names (s.frame f))) ∙ had;
    waits = λ c g other q w. frame_waits s (list_any (same_thing (FrameOf g)) (frames_of (frame_names (s.frame f)))) (FrameOf g)
        (cond (g == f) no_grace (s.grace (FrameOf g))) c (inside s o d h c q)
        (subst (λ b. IsTrue ((cond b no_grace (s.grace (FrameOf g))).waits c)) (sym (ne_eqb g f (waits_away c g other q w))) w);
    acts = λ c l e other q may. acts_more (is_live_in (s.number l) e) (is_dead_in (s.number l) e) ((s.grace (NumberOf l)).waits c) _
        (λ w. frame_waits s (list_any (same_thing (NumberOf l)) (frames_of (frame_names (s.frame f)))) (NumberOf l) (s.grace (NumberOf l)) c
        (inside s o d h c q) w) may;
    limits = refl;
    runs = ap (λ x. (thread_in x).runs_on)
        (put_other s.frame f Untyped (s.core d).thread (thread_named d (h.opens.sound.inside d h.opens.is).1)) ∙ own_runs s o d h;
  }
    where
      thread_named : (c : ℕ) → c < s.limits.cores → (s.core c).thread ≢ f
      thread_named c below same =
          let un : times f (core_names (s.core c)) ≡ 0 = (unnamed s f zero).cores c below in
          let one : 1 ≤ times f (f ∷ (s.core c).tcap ∷ []) = times_first f ((s.core c).tcap ∷ []) in
          let at : times f (f ∷ (s.core c).tcap ∷ []) ≡ 0 = ap (λ n. times f (n ∷ (s.core c).tcap ∷ [])) (sym same) ∙ un in
          omega (arith, one, at)

      waits_away : (c g : ℕ) → c ≢ d → o c ≡ true → IsTrue ((s.grace (FrameOf g)).waits c) → g ≢ f
      waits_away c g other q w same =
          false≢true (sym (none c (h.inside c q).1 other) ∙ ap (λ n. (s.grace (FrameOf n)).waits c) (sym same) ∙ w)

      guarded_away : (c g : ℕ) → c ≢ d → o c ≡ true → IsGuarded s c g → g ≢ f
      guarded_away c g other q (inl some) same = let r : refs s g ≡ refs s f = ap (refs s) same in omega (arith, some, r, zero)
      guarded_away c g other q (inr w) same = waits_away c g other q w same

  retype_spares : (r f : ℕ) (k : FrameKind) → ChangesFrom (SparesBy s o d) s d (retype_rule s r f k)
  retype_spares r f FrameKind.User = λ range e calm.
      typed_spares f User (untyped_by s h.opened d r f range h.opens e calm).1
  retype_spares r f FrameKind.Kernel = λ range e calm.
      typed_spares f (Kernel Blank) (untyped_by s h.opened d r f range h.opens e calm).1
  retype_spares r f FrameKind.Untyped = λ range e calm.
      let held : Cause = When (not (is_empty s f (s.frame f))) Reply.NotEmpty in
      let referenced : Cause = When (nat_lt 0 (refs s f)) (Reply.Referenced (refs s f)) in
      let p = none_parts (refusal_of s d (outside (found range) f)) (first_cause s d (not_retyped s f FrameKind.Untyped)) calm in
      let p1 = none_parts (refusal_of s d (is_untyped_now s f))
      (first_cause s d (referenced ∷ WaitedFor (FrameOf f) ∷ Unflushed (FrameOf f) ∷ held ∷ [])) p.1 in
      let p2 = none_parts (refusal_of s d referenced) (first_cause s d (WaitedFor (FrameOf f) ∷ Unflushed (FrameOf f) ∷ held ∷ [])) p1.1 in
      let p3 = none_parts (waits_of s d (FrameOf f)) (first_cause s d (Unflushed (FrameOf f) ∷ held ∷ [])) p2.1 in
      untype_spares f (zero_refs (refs s f) (when_not (nat_lt 0 (refs s f)) (Reply.Referenced (refs s f)) p2.0)) (none_waits s d f p3.0)

  touch_spares : (pages v : ℕ) (t : Option Translation) → ChangesFrom (SparesBy s o d) s d (touch_by pages v t)
  touch_spares pages v None =
      λ mapping e calm. plain s o d h (with_core s d _) (core_apart s o d _) (runs_core s d _ refl (own_runs s o d h))
  touch_spares pages v (Some t) = λ calm. plain s o d h s (apart_same s o d) (own_runs s o d h)

  -- the thread on which core d runs is that of no other core
  others_run : (c : ℕ) → c ≢ d → c < s.limits.cores → (s.core c).thread ≢ (s.core d).thread
  others_run c other below same =
      other (some_inj c d (sym (h.runs c below) ∙ ap (λ n. (thread_in (s.frame n)).runs_on) same ∙ own_runs s o d h))

  own_fits : IsTrue (fits Kind.Thread (s.frame (s.core d).thread))
  own_fits = (h.opens.sound.cores d (h.opens.sound.inside d h.opens.is).1).0

  -- core d's thread has another stack
  stack_apart : (stack : List ℕ) → IsApart s (with_stack s d stack) o d
  stack_apart stack = frame_apart s o d (s.core d).thread _ (thread_loose (s.frame (s.core d).thread) own_fits) others_run

  stack_runs : (stack : List ℕ) → RunsOn (with_stack s d stack) d
  stack_runs stack =
      ap (λ x. (thread_in x).runs_on) (put_same s.frame (s.core d).thread _ (s.core d).thread refl)
      ∙ ap (λ (t : ThreadFields). t.runs_on) (thread_with (s.frame (s.core d).thread) (record (thread_of s d) { stack = stack }) own_fits)
      ∙ own_runs s o d h

  switch_spares : (j : Capability) (q : ℕ) → IsTrue (fits Kind.Thread (s.frame j.frame))
      → (e : Option ℕ) → (thread_in (s.frame j.frame)).runs_on ≡ e
      → ChangesFrom (SparesBy s o d) s d (switch_to (found j) q e)
  switch_spares j q fit (Some e) is = λ calm. absurd (some_none (Reply.Running e) (none_parts (Some (Reply.Running e)) None calm).0)
  switch_spares j q fit None is = λ calm.
      let f : ℕ = j.frame in
      let old : ℕ = (s.core d).thread in
      let idle : State = running s old None in
      let next : State = running idle f (Some d) in
      let idle_fit : IsTrue (fits Kind.Thread (idle.frame f)) = put_all (λ g x. IsTrue (fits Kind.Thread x))
      s.frame old (with_thread (s.frame old) (record (thread_in (s.frame old)) { runs_on = None })) f
      (λ same. with_thread_fit (s.frame old) _ own_fits) (λ other. fit) in
      done s o d h (switched s d f q) (begins_in d s (switch_edit f q))
      (λ g i. frames_no_place g i (old ∷ (if q == (s.core d).tcap then [] else (s.core d).tcap ∷ [])))
      (apart_then s idle (switched s d f q) o d
      (frame_apart s o d old _ (thread_loose (s.frame old) own_fits) others_run)
      (apart_then idle next (switched s d f q) o d
      (frame_apart idle o d f _ (thread_loose (idle.frame f) idle_fit)
      (λ c other below same. some_none c (sym (h.runs c below) ∙ ap (λ n. (thread_in (s.frame n)).runs_on) same ∙ is)))
      (core_apart next o d (record (s.core d) { thread = f; tcap = q }))))
      (ap (λ (x : Core). (thread_in (next.frame x.thread)).runs_on)
      (put_same next.core d (record (s.core d) { thread = f; tcap = q }) d refl)
      ∙ ap (λ x. (thread_in x).runs_on) (put_same idle.frame f _ f refl)
      ∙ ap (λ (t : ThreadFields). t.runs_on) (thread_with (idle.frame f) (record (thread_in (idle.frame f)) { runs_on = Some d }) idle_fit))

-- A temporal capability changes.
tcap_apart : (s : State) (o : ℕ → Bool) (d f : ℕ) (q : TcapFields)
    → is_fixed (s.frame f) ≡ false → ((c : ℕ) → c ≢ d → c < s.limits.cores → (s.core c).thread ≢ f)
    → IsApart s (with_frame s f (with_tcap (s.frame f) q)) o d
tcap_apart s o d f q loose away = frame_apart s o d f (with_tcap (s.frame f) q) loose away

module _ (s : State) (o : ℕ → Bool) (d : ℕ) (h : HasTurn s o d) where
  tcap_away : (f : ℕ) → IsTrue (fits Kind.Tcap (s.frame f)) → (c : ℕ) → c ≢ d → c < s.limits.cores → (s.core c).thread ≢ f
  tcap_away f fit = thread_away s o d h f (tcap_no_thread (s.frame f) fit)

  moved_apart : (a b m : ℕ) → IsTrue (fits Kind.Tcap (s.frame a)) → IsTrue (fits Kind.Tcap (s.frame b)) → IsApart s (moved s a b m) o d
  moved_apart a b m fa fb =
      apart_then s (with_budget s a ((tcap_at s a).budget - m)) (moved s a b m) o d
      (tcap_apart s o d a _ (tcap_loose (s.frame a) fa) (tcap_away a fa))
      (tcap_apart (with_budget s a ((tcap_at s a).budget - m)) o d b _
      (loose_put s a _ b (with_tcap_loose (s.frame a) _ fa) (tcap_loose (s.frame b) fb)) (tcap_away b fb))

  moved_runs : (a b m : ℕ) → IsTrue (fits Kind.Tcap (s.frame a)) → IsTrue (fits Kind.Tcap (s.frame b)) → RunsOn (moved s a b m) d
  moved_runs a b m fa fb =
      runs_put (with_budget s a ((tcap_at s a).budget - m)) b _ d (own_away s o d h b (tcap_no_thread (s.frame b) fb))
      (runs_put s a _ d (own_away s o d h a (tcap_no_thread (s.frame a) fa)) (own_runs s o d h))

  moved_loose : (a b m : ℕ) → IsTrue (fits Kind.Tcap (s.frame a))
      → IsTrue (fits Kind.Tcap (s.frame b)) → is_fixed ((moved s a b m).frame b) ≡ false
  moved_loose a b m fa fb =
      let first : State = with_budget s a ((tcap_at s a).budget - m) in
      let fit : IsTrue (fits Kind.Tcap (first.frame b)) =
      put_all (λ g x. IsTrue (fits Kind.Tcap x)) s.frame a _ b (λ same. with_tcap_fit (s.frame a) _ fa) (λ other. fb) in
      ap is_fixed (put_same first.frame b _ b refl) ∙ with_tcap_loose (first.frame b) _ fit

  same_spares : (v : Value) → SparesBy s o d (does d s v [])
  same_spares v = plain s o d h s (apart_same s o d) (own_runs s o d h)

  -- Every call that is carried out.
  pub rule_spares : (call : Call) → ChangesFrom (SparesBy s o d) s d (rule_of s d call)
  rule_spares (Retype r f k) = retype_spares s o d h r f k
  rule_spares (make_call what r f t b) = make_spares s o d h what r f t b
  rule_spares (Touch v) = touch_spares s o d h (comp_of s d).pages v (translation_of (s.core d).cached (comp_of s d).pages v)
  rule_spares Flush = λ calm. plain s o d h (flushed s d) (flush_apart s o d) (runs_core s d _ refl (own_runs s o d h))
  rule_spares (Kill k) = λ comp e calm.
      let fields : CompFields = comp_in (s.frame comp.frame) in
      let dead : Cause = not_live s (found comp) fields.number fields.epoch in
      let p = none_parts (refusal_of s d dead) (first_cause s d []) calm in
      let live = live_is (s.number fields.number) fields.epoch
      (not_not (is_live_in (s.number fields.number) fields.epoch)
      (when_not (not (is_live_in (s.number fields.number) fields.epoch)) Reply.Dead p.0)) in
      spares_by s (begun s (begins_in d s (Deaden fields.number fields.epoch)) (edited d s (Deaden fields.number fields.epoch))) o d
      (kill_apart s o d fields.number fields.epoch live.0 (number_names (s.number fields.number)) (inside s o d h) live.1)
      (own_runs s o d h)
  rule_spares (call_gate g) = λ gate e calm. plain s o d h (edited d s (Push gate.frame)) (stack_apart s o d h _) (stack_runs s o d h _)
  rule_spares Ret = λ calm.
      done s o d h (edited d s Pop) (begins_in d s Pop)
      (λ f i. frames_no_place f i (take 1 (thread_of s d).stack)) (stack_apart s o d h _) (stack_runs s o d h _)
  rule_spares (Switch f q) = λ thread e tcap g.
      switch_spares s o d h thread tcap.frame (named_fit s h.opened d f Kind.Thread thread h.opens.sound h.opens.is e)
      (thread_in (s.frame thread.frame)).runs_on refl
  rule_spares (Tick n) = λ calm.
      let q : ℕ = (s.core d).tcap in
      let fit : IsTrue (fits Kind.Tcap (s.frame q)) = (h.opens.sound.cores d (h.opens.sound.inside d h.opens.is).1).1 in
      plain s o d h (with_core (with_budget s q _) d _)
      (apart_then s (with_budget s q _) _ o d (tcap_apart s o d q _ (tcap_loose (s.frame q) fit) (tcap_away q fit))
      (core_apart (with_budget s q _) o d _))
      (runs_core (with_budget s q _) d _ refl (runs_put s q _ d (own_away s o d h q (tcap_no_thread (s.frame q) fit)) (own_runs s o d h)))
  rule_spares (Transfer a b m) = λ j e k f calm.
      let fa : IsTrue (fits Kind.Tcap (s.frame j.frame)) = named_fit s h.opened d a Kind.Tcap j h.opens.sound h.opens.is e in
      let fb : IsTrue (fits Kind.Tcap (s.frame k.frame)) = named_fit s h.opened d b Kind.Tcap k h.opens.sound h.opens.is f in
      plain s o d h (moved s j.frame k.frame m) (moved_apart j.frame k.frame m fa fb) (moved_runs j.frame k.frame m fa fb)
  rule_spares (Delegate a b m) = λ j e k f calm.
      let fa : IsTrue (fits Kind.Tcap (s.frame j.frame)) = named_fit s h.opened d a Kind.Tcap j h.opens.sound h.opens.is e in
      let fb : IsTrue (fits Kind.Tcap (s.frame k.frame)) = named_fit s h.opened d b Kind.Tcap k h.opens.sound h.opens.is f in
      plain s o d h (with_qualities (moved s j.frame k.frame m) k.frame (merged_list s j.frame k.frame))
      (apart_then s (moved s j.frame k.frame m) _ o d (moved_apart j.frame k.frame m fa fb)
      (tcap_apart (moved s j.frame k.frame m) o d k.frame _ (moved_loose j.frame k.frame m fa fb) (tcap_away k.frame fb)))
      (runs_put (moved s j.frame k.frame m) k.frame _ d
      (own_away s o d h k.frame (tcap_no_thread (s.frame k.frame) fb)) (moved_runs j.frame k.frame m fa fb))
  rule_spares (Replenish a m) = λ j e calm.
      let q : ℕ = j.frame in
      let fit : IsTrue (fits Kind.Tcap (s.frame q)) = named_fit s h.opened d a Kind.Tcap j h.opens.sound h.opens.is e in
      plain s o d h (with_core (with_budget s q _) d _)
      (apart_then s (with_budget s q _) _ o d (tcap_apart s o d q _ (tcap_loose (s.frame q) fit) (tcap_away q fit))
      (core_apart (with_budget s q _) o d _))
      (runs_core (with_budget s q _) d _ refl (runs_put s q _ d (own_away s o d h q (tcap_no_thread (s.frame q) fit)) (own_runs s o d h)))
  -- the others fill a place, remove what one holds, or change nothing
  rule_spares _ = search (filled s o d h, removed s o d h, same_spares)
