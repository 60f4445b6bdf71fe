-- In every state that a run reaches, nodes hold what fits them.
use Rattle.found_stays.specs.kernel_rules.proofs as low
use low.{◌≡◌, ◌≢◌, inl, inr, ℕ, ◌+◌, ◌-◌, ◌<◌, ◌%◌, Bool, true, false, not, ◌&&◌, refl, sym, ◌∙◌, ap, subst, ◌==◌, ltb as nat_lt}
use low.{leb as nat_le, if◌then◌else◌, IsTrue, List, [], ◌∷◌, take, Option, Some, None, false≢true, eqb-true, Setting, IsSetting}
use low.{Capability, cap_of, kept, part_of, Kind, FrameKind, Make, Call, Look, Copy, Remove as remove_call, Grow, Shrink, Retype, Map}
use low.{Unmap, Touch, Flush, Gate, Kill, Ret, Switch, Tick, Transfer, Delegate, Test, Part, Replenish, Translation, Value, Nothing, Reply}
use low.{Place, Free, Holds, Quiescing, CompFields, ThreadFields, TcapFields, Object, Blank, Table, Leaf, Pages, Pleaf, Comp, Thread, Tcap}
use low.{Frame, Untyped, User, Kernel, Thing, PlaceOf, FrameOf, put, with_frame, with_core, comp_in, comp_of, thread_in, thread_of}
use low.{plain_cap, start, start_frame, start_cap, core_cap, place_with, refs, frame_names, number_names, Want, any, to_copy, to_use, Slot}
use low.{Named, found, root_at, Target, Under, InRoot, place_at, held_in, usable_in, usable, reached, root_slot, only, root, same_thing}
use low.{begun, Change, does, Cause, When, WaitedFor, Unflushed, Judged, Refused, Found, IsFoundAnd, named, held, mapped, and_then}
use low.{or_refuse, unless, first_cause, refusal_of, waits_of, flushes_of, frames_of, cleared, with_thread, running, switched, Fill, Node}
use low.{Become, Untype, Deaden, Pop, leaf_of, outside, make_node, make_rule, not_taken, edited, after_edits, with_tcap, with_budget}
use low.{tcap_at, moved, is_untyped_now, is_empty, not_retyped, retype_rule, touch_by, translation_of, switch_to, rule_of, change_of}
use low.{changed, counted, owed_by, state_by, MayReply, Event, Enters, Decides, Returns, after, is_in, is_open, IsRun, is_node, fits}
use low.{IsGood, IfFound, put_other, waits_inside}
use Rattle.found_stays.specs.kernel_invariant.proofs.{only_is, put_all, frames_no_place, unnamed, IsOpen, blank_by, untyped_by, free_holds}
use Rattle.found_stays.specs.kernel_invariant.proofs.{holds_inj, choose, opened, open_is, inside_is, phase_own, phase_other, decided_opened}
use Rattle.found_stays.specs.kernel_invariant.proofs.{ChangesFrom, outcome_from, suits, named_good, named_fit, vacant_facts, held_facts}
use Rattle.found_stays.specs.kernel_invariant.proofs.{none_parts, when_not, not_not, then_parts, or_found, some_inj, some_none, none_some}
use Rattle.found_stays.specs.kernel_rules.specs.{State.State, Edits.Remove, Edits.Switch as switch_edit, Edits.begins_in}
use Rattle.found_stays.specs.kernel_invariant.proofs.{SoundRemovals.not_chosen, SoundRemovals.none_waits, SoundCalls.zero_refs}
use Rattle.found_stays.specs.kernel_invariant.proofs.{SoundCalls.nothing_held, SoundCalls.empty_node, SoundEdits.closed}
use Rattle.kernel_laws.specs.Nodes.{takes, leads_to, FitsNode, NodesHoldWhatFits}
use Rattle.kernel_laws.proofs.NodeSteps.{IsFitted, fewer, IsAlike, alike_same, alike_none, alike_then, alike_step, fill_fits, remove_fits}
use Rattle.{found_stays.proofs.name_parts, found_stays.proofs.table_relies, std.proofs.lemmas.Bool.cases_eq, std.specs.List.list_any}
use Rattle.{found_stays.specs.spk_nums.specs.declared.calls.Call.TheVariants.Make as make_call}
use Rattle.{found_stays.specs.spk_nums.specs.declared.calls.Call.TheVariants.Call as call_gate, found_stays.proofs.Stays.link_of}
use Rattle.{found_stays.proofs.Stays.fields, kernel_laws.proofs.NodeSteps.object_fits, kernel_laws.proofs.NodeSteps.untype_fits}

-- What is known where a call is carried out

module _ (s : State) (o : ℕ → Bool) (c : ℕ) (h : IsOpen s o c) (w : IsFitted s o) where
  -- What core c may use of a node fits it.
  usable_fits : (at : Slot) (k : Capability) → IsTrue (is_node (s.frame at.node)) → usable s c at ≡ Some k
      → FitsNode (s.frame at.node) k.kind (s.frame k.frame)
  usable_fits at k node e = by_place (place_at s at) refl e
    where
      by_wait : (j : Capability) (b : Bool) → (if b then Some j else None) ≡ Some k → (b ≡ true) × (j ≡ k)
      by_wait j true q = (refl, some_inj j k q)
      by_wait j false q = absurd (none_some k q)

      by_place : (p : Place) → place_at s at ≡ p → usable_in p ((s.grace (PlaceOf at.node at.index)).waits c) ≡ Some k
          → FitsNode (s.frame at.node) k.kind (s.frame k.frame)
      by_place Free is q = absurd (none_some k q)
      by_place (Holds j) is q = w.held at.node at.index k (is ∙ ap Holds (some_inj j k q))
      by_place (Quiescing j) is q =
          let p = by_wait j ((s.grace (PlaceOf at.node at.index)).waits c) q in
          w.waiting at.node at.index k c (is ∙ ap Quiescing p.1) h.is node p.0

  -- The leaf that a root reaches under a number.
  pub leaf_fits : (table : Named) (n : ℕ) (at : Slot) → IsTrue (is_node (s.frame table.frame)) → reached s c (Under table n) ≡ Some at
      → IsTrue (leads_to (s.frame table.frame) (s.frame at.node))
  leaf_fits table n at node e =
      let l = link_of (usable s c (root_slot table.frame n)) (table.found && nat_le n 4095) (n % 64) at e in
      subst (λ f. IsTrue (leads_to (s.frame table.frame) (s.frame f))) l.3 (usable_fits (root_slot table.frame n) l.0 node l.1).leaf

  table_leaf : (x : Frame) → IsTrue (fits Kind.Table x) → (y : Frame) → IsTrue (leads_to x y) → y ≡ Kernel Leaf
  table_leaf (Kernel Table) fit (Kernel Leaf) leads = refl
  table_leaf (Kernel Table) fit _ leads = absurd (false≢true leads)
  table_leaf _ fit y leads = absurd (false≢true fit)

  pub pages_leaf : (x : Frame) → IsTrue (fits Kind.Pages x) → (y : Frame) → IsTrue (leads_to x y) → y ≡ Kernel Pleaf
  pages_leaf (Kernel Pages) fit (Kernel Pleaf) leads = refl
  pages_leaf (Kernel Pages) fit _ leads = absurd (false≢true leads)
  pages_leaf _ fit y leads = absurd (false≢true fit)

  pub fit_node : (k : Kind) (x : Frame) → IsTrue (fits k x) → (k ≡ Kind.Table → IsTrue (is_node x)) × (k ≡ Kind.Pages → IsTrue (is_node x))
  fit_node k x fit = ((λ e. table x (subst (λ j. IsTrue (fits j x)) e fit)), (λ e. pages x (subst (λ j. IsTrue (fits j x)) e fit)))
    where
      table : (x : Frame) → IsTrue (fits Kind.Table x) → IsTrue (is_node x)
      table (Kernel Table) h = refl
      table _ h = absurd (false≢true h)

      pages : (x : Frame) → IsTrue (fits Kind.Pages x) → IsTrue (is_node x)
      pages (Kernel Pages) h = refl
      pages _ h = absurd (false≢true h)

  -- The slot under a table is in a leaf, and one under pages in a leaf of pages.
  in_leaf : (t b : ℕ) (table : Capability) (at : Slot) → named s c t (to_use (only Kind.Table)) ≡ Found table
      → reached s c (Under (found table) b) ≡ Some at
      → s.frame at.node ≡ Kernel Leaf
  in_leaf t b table at e r =
      let fit = named_fit s o c t Kind.Table table h.sound h.is e in
      table_leaf (s.frame table.frame) fit (s.frame at.node)
      (leaf_fits (found table) b at ((fit_node Kind.Table (s.frame table.frame) fit).0 refl) r)

  in_pleaf : (p v : ℕ) (pages : Capability) (at : Slot) → named s c p (to_use (only Kind.Pages)) ≡ Found pages
      → reached s c (Under (found pages) v) ≡ Some at
      → s.frame at.node ≡ Kernel Pleaf
  in_pleaf p v pages at e r =
      let fit = named_fit s o c p Kind.Pages pages h.sound h.is e in
      pages_leaf (s.frame pages.frame) fit (s.frame at.node)
      (leaf_fits (found pages) v at ((fit_node Kind.Pages (s.frame pages.frame) fit).1 refl) r)

  -- What a name leads to is no link and no page.
  name_takes : (n : ℕ) (wanted : Want) (k : Capability) → named s c n wanted ≡ Found k → IsTrue (takes (Kernel Leaf) k.kind)
  name_takes n wanted k e =
      let p = name_parts s c n wanted k e in
      let fit : IsTrue (fits Kind.Table (s.frame (comp_of s c).table)) = (fields s o c h.sound h.is).0 in
      let at : s.frame p.0.node ≡ Kernel Leaf =
      table_leaf (s.frame (comp_of s c).table) fit (s.frame p.0.node)
      (leaf_fits (root_at (comp_of s c).table) n p.0 (table_relies s o c h.sound h.is).node p.1) in
      let a = usable_fits p.0 p.2 (subst (λ x. IsTrue (is_node x)) (sym at) refl) p.3 in
      subst (λ (j : Capability). IsTrue (takes (Kernel Leaf) j.kind)) (suits wanted p.2 k p.4).is
      (subst (λ x. IsTrue (takes x p.2.kind)) at a.kind)

  in_leaf_fits : (at : Slot) (k : Kind) (y : Frame) → s.frame at.node ≡ Kernel Leaf → IsTrue (takes (Kernel Leaf) k)
      → FitsNode (s.frame at.node) k y
  in_leaf_fits at k y is take = subst (λ x. FitsNode x k y) (sym is) (record { kind = take; leaf = refl })

  -- The changes

  abbrev Keeps : Change → Type 0
  Keeps change = IsFitted (begun s change.begins change.next) (put o c false)

  -- A change that begins the grace period of no place.
  done : (next : State) (things : List Thing) → ((f i : ℕ) → list_any (same_thing (PlaceOf f i)) things ≡ false) → IsFitted next o
      → IsFitted (begun s things next) (put o c false)
  done next things apart fitted =
      fewer (begun s things next) o (put o c false) (closed o c)
      (alike_step next (begun s things next) o (λ f i. refl) (λ f. alike_same (next.frame f))
      (λ f i d q. not_chosen (list_any (same_thing (PlaceOf f i)) things) _ (next.grace (PlaceOf f i)) d (apart f i) q) fitted)

  plain : (next : State) → IsFitted next o → IsFitted (begun s [] next) (put o c false)
  plain next fitted = done next [] (λ f i. refl) fitted

  same : IsFitted (begun s [] s) (put o c false)
  same = plain s w

  framed : (next : State) (things : List Thing) → ((f i : ℕ) → list_any (same_thing (PlaceOf f i)) things ≡ false)
      → ((f i : ℕ) → next.place f i ≡ s.place f i) → ((f : ℕ) → IsAlike (s.frame f) (next.frame f))
      → ((f i d : ℕ) → IsTrue ((next.grace (PlaceOf f i)).waits d) → IsTrue ((s.grace (PlaceOf f i)).waits d))
      → IsFitted (begun s things next) (put o c false)
  framed next things apart place frame waits = done next things apart (alike_step s next o place frame waits w)

  filled : (at : Slot) (k : Capability) → FitsNode (s.frame at.node) k.kind (s.frame k.frame) → Keeps (does c s Nothing (Fill at k ∷ []))
  filled at k fit = plain (edited c s (Fill at k)) (fill_fits s o at.node at.index k fit w)

  removed : (target : Target) (at : Slot) (k : Capability) → held s c target ≡ Found (at, k) → Keeps (does c s Nothing (Remove at k ∷ []))
  removed target at k e =
      fewer (begun s (begins_in c s (Remove at k)) (edited c s (Remove at k))) o (put o c false) (closed o c)
      (remove_fits s o at.node at.index k (held_facts s c target at k e).1 w)

  -- One frame is put that is alike.
  put_alike : (t : State) (f : ℕ) (y : Frame) → IsAlike (t.frame f) y → (g : ℕ) → IsAlike (t.frame g) (put t.frame f y g)
  put_alike t f y a g =
      put_all (λ g x. IsAlike (t.frame g) x) t.frame f y g
      (λ at. subst (λ n. IsAlike (t.frame n) y) (sym at) a) (λ other. alike_same (t.frame g))

  thread_alike : (x : Frame) (t : ThreadFields) → IsAlike x (with_thread x t)
  thread_alike (Kernel (Thread u)) t = alike_none (Kernel (Thread u)) (Kernel (Thread t)) refl refl
  thread_alike x t = alike_same x

  tcap_alike : (x : Frame) (q : TcapFields) → IsAlike x (with_tcap x q)
  tcap_alike (Kernel (Tcap p)) q = alike_none (Kernel (Tcap p)) (Kernel (Tcap q)) refl refl
  tcap_alike x q = alike_same x

  moved_alike : (a b m f : ℕ) → IsAlike (s.frame f) ((moved s a b m).frame f)
  moved_alike a b m f =
      let first : State = with_budget s a ((tcap_at s a).budget - m) in
      alike_then (s.frame f) (first.frame f) ((moved s a b m).frame f)
      (put_alike s a _ (tcap_alike (s.frame a) _) f) (put_alike first b _ (tcap_alike (first.frame b) _) f)

  -- `make`: a node, or another object.
  blank_none : (f : ℕ) → s.frame f ≡ Kernel Blank → is_node (s.frame f) ≡ false
  blank_none f blank = ap is_node blank

  made_fits : (f : ℕ) (object : Object) (k : Kind) (at : Slot) → s.frame f ≡ Kernel Blank → s.frame at.node ≡ Kernel Leaf
      → IsTrue (takes (Kernel Leaf) k)
      → IsFitted (with_frame (cleared s f) f (Kernel object)) o → Keeps (does c s Nothing (Node f object ∷ Fill at (plain_cap k f) ∷ []))
  made_fits f object k at blank leaf take fitted =
      plain (after_edits c s (Node f object ∷ Fill at (plain_cap k f) ∷ []))
      (fill_fits (with_frame (cleared s f) f (Kernel object)) o at.node at.index (plain_cap k f)
      (subst (λ x. FitsNode x k (put s.frame f (Kernel object) f))
      (sym (put_other s.frame f (Kernel object) at.node apart ∙ leaf)) (record { kind = take; leaf = refl })) fitted)
    where
      apart : at.node ≢ f
      apart e = false≢true (sym (blank_none f blank) ∙ ap (λ n. is_node (s.frame n)) (sym e) ∙ ap is_node leaf)

  node_keeps : (object : Object) (k : Kind) → IsTrue (takes (Kernel Leaf) k) → (r f t b : ℕ)
      → ChangesFrom Keeps s c (make_node s object k r f t b)
  node_keeps object k take r f t b = λ range e table g at v calm.
      let blank = (blank_by s o c r f range [] h e calm).1 in
      made_fits f object k at blank (in_leaf t b table at g (vacant_facts s c (Under (found table) b) at v).0) take
      (object_fits s o f (Kernel object) (blank_none f blank) w)

  object_keeps : (f : ℕ) (object : Object) (k : Kind) (at : Slot) → is_node (Kernel object) ≡ false → s.frame f ≡ Kernel Blank
      → s.frame at.node ≡ Kernel Leaf
      → IsTrue (takes (Kernel Leaf) k) → IsFitted (after_edits c s (Become f (Kernel object) ∷ Fill at (plain_cap k f) ∷ [])) o
  object_keeps f object k at none blank leaf take =
      fill_fits (with_frame s f (Kernel object)) o at.node at.index (plain_cap k f)
      (subst (λ x. FitsNode x k (put s.frame f (Kernel object) f))
      (sym (put_other s.frame f (Kernel object) at.node apart ∙ leaf)) (record { kind = take; leaf = refl }))
      (alike_step s (with_frame s f (Kernel object)) o (λ g i. refl)
      (put_alike s f (Kernel object)
      (subst (λ x. IsAlike x (Kernel object)) (sym blank) (alike_none (Kernel Blank) (Kernel object) refl none))) (λ g i d q. q) w)
    where
      apart : at.node ≢ f
      apart e = false≢true (sym (blank_none f blank) ∙ ap (λ n. is_node (s.frame n)) (sym e) ∙ ap is_node leaf)

  make_keeps : (what : Make) (r f t b : ℕ) → ChangesFrom Keeps s c (make_rule s what r f t b)
  make_keeps Make.Table r f t b = node_keeps Table Kind.Table refl r f t b
  make_keeps Make.Leaf r f t b = node_keeps Leaf Kind.Leaf refl r f t b
  make_keeps Make.Pages r f t b = node_keeps Pages Kind.Pages refl r f t b
  make_keeps Make.Pleaf r f t b = node_keeps Pleaf Kind.Pleaf refl r f t b
  make_keeps (Make.Thread comp) r f t b = λ range e table g k j at v calm.
      plain _ (object_keeps f (Thread (record { stack = k.frame ∷ []; runs_on = None }))
      Kind.Thread at refl (blank_by s o c r f range [] h e calm).1
      (in_leaf t b table at g (vacant_facts s c (Under (found table) b) at v).0) refl)
  make_keeps (Make.Tcap sched quality) r f t b = λ range e table g at v calm.
      plain _ (object_keeps f (Tcap (record { budget = 0; qualities = (sched, quality) ∷ [] }))
      Kind.Tcap at refl (blank_by s o c r f range [] h e calm).1
      (in_leaf t b table at g (vacant_facts s c (Under (found table) b) at v).0) refl)
  make_keeps (Make.Comp x p l) r f t b = λ range e table g own_table a own_pages d at v calm.
      let fitted = object_keeps f (Comp _) Kind.Comp at refl (blank_by s o c r f range (not_taken s l) h e calm).1
      (in_leaf t b table at g (vacant_facts s c (Under (found table) b) at v).0) refl in
      plain _ (record { held = fitted.held; waiting = fitted.waiting })

  -- `retype`.
  typed_alike : (f : ℕ) (y : Frame) → s.frame f ≡ Untyped → is_node y ≡ false → IsAlike (s.frame f) y
  typed_alike f y is none = subst (λ x. IsAlike x y) (sym is) (alike_none Untyped y refl none)

  retype_keeps : (r f : ℕ) (k : FrameKind) → ChangesFrom Keeps s c (retype_rule s r f k)
  retype_keeps r f FrameKind.User = λ range e calm.
      framed (with_frame s f User) [] (λ g i. refl) (λ g i. refl)
      (put_alike s f User (typed_alike f User (untyped_by s o c r f range h e calm).1 refl)) (λ g i d q. q)
  retype_keeps r f FrameKind.Kernel = λ range e calm.
      framed (with_frame s f (Kernel Blank)) [] (λ g i. refl) (λ g i. refl)
      (put_alike s f (Kernel Blank) (typed_alike f (Kernel Blank) (untyped_by s o c r f range h e calm).1 refl)) (λ g i d q. q)
  retype_keeps r f FrameKind.Untyped = λ range e calm.
      let held : Cause = When (not (is_empty s f (s.frame f))) Reply.NotEmpty in
      let referenced : Cause = When (nat_lt 0 (refs s f)) (Reply.Referenced (refs s f)) in
      let p = none_parts (refusal_of s c (outside (found range) f)) (first_cause s c (not_retyped s f FrameKind.Untyped)) calm in
      let p1 = none_parts (refusal_of s c (is_untyped_now s f))
      (first_cause s c (referenced ∷ WaitedFor (FrameOf f) ∷ Unflushed (FrameOf f) ∷ held ∷ [])) p.1 in
      let p2 = none_parts (refusal_of s c referenced) (first_cause s c (WaitedFor (FrameOf f) ∷ Unflushed (FrameOf f) ∷ held ∷ [])) p1.1 in
      let p3 = none_parts (waits_of s c (FrameOf f)) (first_cause s c (Unflushed (FrameOf f) ∷ held ∷ [])) p2.1 in
      let p4 = none_parts (flushes_of s (FrameOf f)) (first_cause s c (held ∷ [])) p3.1 in
      let p5 = none_parts (refusal_of s c held) None p4.1 in
      let zero : refs s f ≡ 0 = zero_refs (refs s f) (when_not (nat_lt 0 (refs s f)) (Reply.Referenced (refs s f)) p2.0) in
      let empty : is_empty s f (s.frame f) ≡ true =
      not_not (is_empty s f (s.frame f)) (when_not (not (is_empty s f (s.frame f))) Reply.NotEmpty p5.0) in
      let fitted = untype_fits s o c f (unnamed s f zero) (none_waits s c f p3.0)
      (λ i k at. let b : IsTrue (is_node (s.frame f)) × (i < 64) = h.sound.bare f i k at in
      nothing_held s f i k (empty_node s f (s.frame f) empty b.0) b.1 at)
      h.sound w in
      alike_step (edited c s (Untype f)) (begun s (begins_in c s (Untype f)) (edited c s (Untype f))) (put o c false)
      (λ g i. refl) (λ g. alike_same _)
      (λ g i d q. not_chosen (list_any (same_thing (PlaceOf g i)) (frames_of (frame_names (s.frame f))))
      _ _ d (frames_no_place g i (frame_names (s.frame f))) q) fitted

  touch_keeps : (pages v : ℕ) (t : Option Translation) → ChangesFrom Keeps s c (touch_by pages v t)
  touch_keeps pages v None =
      λ mapping e calm. framed (with_core s c _) [] (λ g i. refl) (λ g i. refl) (λ g. alike_same (s.frame g)) (λ g i d q. q)
  touch_keeps pages v (Some t) = λ calm. same

  switch_keeps : (j : Capability) (q : ℕ) (e : Option ℕ) → ChangesFrom Keeps s c (switch_to (found j) q e)
  switch_keeps j q None = λ calm.
      let idle : State = running s (s.core c).thread None in
      framed (switched s c j.frame q) (begins_in c s (switch_edit j.frame q))
      (λ g i. frames_no_place g i ((s.core c).thread ∷ (if q == (s.core c).tcap then [] else (s.core c).tcap ∷ []))) (λ g i. refl)
      (λ f. alike_then (s.frame f) (idle.frame f) _ (put_alike s (s.core c).thread _ (thread_alike (s.frame (s.core c).thread) _) f)
      (put_alike idle j.frame _ (thread_alike (idle.frame j.frame) _) f)) (λ g i d q. q)
  switch_keeps j q (Some e) = λ calm. absurd (some_none (Reply.Running e) (none_parts (Some (Reply.Running e)) None calm).0)

  -- Every call that is carried out.
  rule_keeps : (call : Call) → ChangesFrom Keeps s c (rule_of s c call)
  rule_keeps (Look a) = λ k e calm. same
  rule_keeps (Copy a t b rights) = λ k e table f at g calm.
      filled at (kept k rights.0) (in_leaf_fits at k.kind (s.frame k.frame)
      (in_leaf t b table at f (vacant_facts s c (Under (found table) b) at g).0) (name_takes a (to_copy any) k e))
  rule_keeps (remove_call t b) = λ table e at k g calm. removed (Under (found table) b) at k g
  rule_keeps (Grow t i l) = λ table e leaf f at g calm. grown t l table leaf at e f (vacant_facts s c (InRoot (found table) i) at g).0
    where
      root_fits : (j : Kind) (x y : Frame) → IsTrue (root j) → IsTrue (fits j x) → IsTrue (fits (leaf_of j) y) → FitsNode x Kind.Link y
      root_fits Kind.Table (Kernel Table) (Kernel Leaf) r a b = record { kind = refl; leaf = refl }
      root_fits Kind.Table (Kernel Table) _ r a b = absurd (false≢true b)
      root_fits Kind.Table _ y r a b = absurd (false≢true a)
      root_fits Kind.Pages (Kernel Pages) (Kernel Pleaf) r a b = record { kind = refl; leaf = refl }
      root_fits Kind.Pages (Kernel Pages) _ r a b = absurd (false≢true b)
      root_fits Kind.Pages _ y r a b = absurd (false≢true a)
      root_fits _ x y r a b = absurd (false≢true r)

      in_root : (table : Capability) (at : Slot) → reached s c (InRoot (found table) i) ≡ Some at → table.frame ≡ at.node
      in_root table at r = by_test (nat_le i 63) r
        where
          by_test : (b : Bool) → (if b then Some record { node = table.frame; index = i } else None) ≡ Some at → table.frame ≡ at.node
          by_test true q = ap (λ (x : Slot). x.node) (some_inj record { node = table.frame; index = i } at q)
          by_test false q = absurd (none_some at q)

      grown : (t l : ℕ) (table leaf : Capability) (at : Slot) → named s c t (to_use root) ≡ Found table
          → named s c l (to_use (only (leaf_of table.kind))) ≡ Found leaf
          → reached s c (InRoot (found table) i) ≡ Some at → Keeps (does c s Nothing (Fill at (plain_cap Kind.Link leaf.frame) ∷ []))
      grown t l table leaf at e f r =
          let a : IsGood s table × IsTrue (root table.kind) = named_good s o c t (to_use root) table h.sound h.is e in
          let fit : IsTrue (fits (leaf_of table.kind) (s.frame leaf.frame)) = named_fit s o c l (leaf_of table.kind) leaf h.sound h.is f in
          filled at (plain_cap Kind.Link leaf.frame)
          (subst (λ n. FitsNode (s.frame n) Kind.Link (s.frame leaf.frame)) (in_root table at r)
          (root_fits table.kind (s.frame table.frame) (s.frame leaf.frame) a.1 a.0.fit fit))
  rule_keeps (Shrink t i) = λ table e at k g calm. removed (InRoot (found table) i) at k g
  rule_keeps (Retype r f k) = retype_keeps r f k
  rule_keeps (make_call what r f t b) = make_keeps what r f t b
  rule_keeps (Map p v r f m) = λ pages e range g at u calm.
      filled at (cap_of Kind.Page f m.0)
      (subst (λ x. FitsNode x Kind.Page (s.frame f))
      (sym (in_pleaf p v pages at e (vacant_facts s c (Under (found pages) v) at u).0)) (record { kind = refl; leaf = refl }))
  rule_keeps (Unmap p v) = λ pages e at k g calm. removed (Under (found pages) v) at k g
  rule_keeps (Touch v) = touch_keeps (comp_of s c).pages v (translation_of (s.core c).cached (comp_of s c).pages v)
  rule_keeps Flush = λ calm. framed _ [] (λ g i. refl) (λ g i. refl) (λ g. alike_same (s.frame g)) (λ g i d q. q)
  rule_keeps (Gate k t b) = λ comp e table f at g calm.
      filled at (cap_of Kind.Gate comp.frame _)
      (in_leaf_fits at Kind.Gate (s.frame comp.frame) (in_leaf t b table at f (vacant_facts s c (Under (found table) b) at g).0) refl)
  rule_keeps (Kill k) = λ comp e calm.
      let fields : CompFields = comp_in (s.frame comp.frame) in
      framed (edited c s (Deaden fields.number fields.epoch)) (begins_in c s (Deaden fields.number fields.epoch))
      (λ f i. frames_no_place f i (number_names (s.number fields.number)))
      (λ g i. refl) (λ g. alike_same (s.frame g)) (λ g i d q. q)
  rule_keeps (call_gate g) = λ gate e calm.
      framed _ [] (λ g i. refl) (λ g i. refl) (put_alike s (s.core c).thread _ (thread_alike (s.frame (s.core c).thread) _)) (λ g i d q. q)
  rule_keeps Ret = λ calm.
      framed (edited c s Pop) (begins_in c s Pop) (λ f i. frames_no_place f i (take 1 (thread_of s c).stack)) (λ g i. refl)
      (put_alike s (s.core c).thread _ (thread_alike (s.frame (s.core c).thread) _)) (λ g i d q. q)
  rule_keeps (Switch f q) = λ thread e tcap g. switch_keeps thread tcap.frame (thread_in (s.frame thread.frame)).runs_on
  rule_keeps (Tick n) = λ calm.
      framed _ [] (λ g i. refl) (λ g i. refl) (put_alike s (s.core c).tcap _ (tcap_alike (s.frame (s.core c).tcap) _)) (λ g i d q. q)
  rule_keeps (Transfer a b m) =
      λ j e k f calm. framed (moved s j.frame k.frame m) [] (λ g i. refl) (λ g i. refl) (moved_alike j.frame k.frame m) (λ g i d q. q)
  rule_keeps (Delegate a b m) = λ j e k f calm.
      let next : State = moved s j.frame k.frame m in
      framed _ [] (λ g i. refl) (λ g i. refl)
      (λ g. alike_then (s.frame g) (next.frame g) _ (moved_alike j.frame k.frame m g)
      (put_alike next k.frame _ (tcap_alike (next.frame k.frame) _) g)) (λ g i d q. q)
  rule_keeps (Test a b) = λ j e k f calm. same
  rule_keeps (Replenish a m) = λ j e calm.
      framed _ [] (λ g i. refl) (λ g i. refl) (put_alike s j.frame _ (tcap_alike (s.frame j.frame) _)) (λ g i d q. q)
  rule_keeps (Part r f n t b) = λ range e table g at u calm.
      filled at (part_of range f n)
      (in_leaf_fits at Kind.Range (s.frame f) (in_leaf t b table at g (vacant_facts s c (Under (found table) b) at u).0) refl)

-- Runs

-- A state with the same places, frames and grace periods of places.
same_fits : (s t : State) (o : ℕ → Bool) → ((f i : ℕ) → t.place f i ≡ s.place f i) → ((f : ℕ) → t.frame f ≡ s.frame f)
    → ((f i c : ℕ) → IsTrue ((t.grace (PlaceOf f i)).waits c) → IsTrue ((s.grace (PlaceOf f i)).waits c)) → IsFitted s o → IsFitted t o
same_fits s t o place frame waits h =
    alike_step s t o place (λ f. subst (IsAlike (s.frame f)) (sym (frame f)) (alike_same (s.frame f))) waits h

owed_fits : (s : State) (o : ℕ → Bool) (c : ℕ) (call : Call) → IsFitted s o → IsFitted (owed_by s c call) o
owed_fits s o c (Tick n) h = record { held = h.held; waiting = h.waiting }
owed_fits s o c _ h = h

counted_fits : (s : State) (o : ℕ → Bool) (c : ℕ) → IsFitted s o → IsFitted (counted s c) o
counted_fits s o c h = record { held = h.held; waiting = h.waiting }

shut : (s : State) (o : ℕ → Bool) (c : ℕ) → IsFitted s o → IsFitted s (put o c false)
shut s o c h = fewer s o (put o c false) (closed o c) h

changed_fits : (s : State) (o : ℕ → Bool) (c : ℕ) (v : Value) (x : Judged Change)
    → IfFound x (λ k. IsFitted (begun s k.begins k.next) (put o c false))
    → IsFoundAnd x (λ k. k.value ≡ v) → IsFitted (changed s x) (put o c false)
changed_fits s o c v (Refused r) keeps ok = absurd ok
changed_fits s o c v (Found change) keeps ok = keeps

decided_fits : (s : State) (o : ℕ → Bool) (c : ℕ) (call : Call) (r : Reply) → IsOpen s o c → MayReply s c call r → IsFitted s o
    → IsFitted (state_by s c call r) (put o c false)
decided_fits s o c call (Reply.Ok v) h may w = counted_fits (changed s (change_of s c call)) (put o c false) c
    (changed_fits s o c v (change_of s c call)
    (outcome_from (λ k. IsFitted (begun s k.begins k.next) (put o c false)) s c (rule_of s c call) (rule_keeps s o c h w call)) may.1.1)
decided_fits s o c call Reply.CallsSpent h may w = shut s o c w
decided_fits s o c call Reply.Raced h may w =
    counted_fits (owed_by s c call) (put o c false) c (shut (owed_by s c call) o c (owed_fits s o c call w))
decided_fits s o c call (Reply.Busy e) h may w =
    counted_fits (owed_by s c call) (put o c false) c (shut (owed_by s c call) o c (owed_fits s o c call w))
decided_fits s o c call _ h may w = counted_fits s (put o c false) c (shut s o c w)

-- The start: a link in the table's root, and in its leaf no link and no page.
abbrev CapTakes : Option Capability → Type 0
CapTakes None = Unit {0}
CapTakes (Some k) = IsTrue (takes (Kernel Leaf) k.kind)

core_takes : (setting : Setting) (i : ℕ) → CapTakes (core_cap setting i)
core_takes setting i =
    choose CapTakes (nat_lt i 4) _ _ (λ e. tt) λ e.
    choose CapTakes (nat_lt i (4 + setting.cores)) _ _ (λ e. refl) λ e.
    choose CapTakes (nat_lt i 12) _ _ (λ e. tt) λ e.
    choose CapTakes (nat_lt i (12 + setting.cores)) _ _ (λ e. refl) λ e. tt

cap_takes : (setting : Setting) (i : ℕ) → CapTakes (start_cap setting i)
cap_takes setting i =
    choose CapTakes (i == 0) _ _ (λ e. refl) λ e.
    choose CapTakes (i == 1) _ _ (λ e. refl) λ e.
    choose CapTakes (i == 2) _ _ (λ e. refl) λ e.
    choose CapTakes (i == 3) _ _ (λ e. refl) λ e. core_takes setting i

placed : (o : Option Capability) (k : Capability) → CapTakes o → place_with o ≡ Holds k → IsTrue (takes (Kernel Leaf) k.kind)
placed None k t e = absurd (free_holds k e)
placed (Some j) k t e = subst (λ (n : Capability). IsTrue (takes (Kernel Leaf) n.kind)) (holds_inj j k e) t

start_fits : (setting : Setting) → IsFitted (start setting) (opened [])
start_fits setting = record { held = held; waiting = λ f i k c p q. absurd (false≢true q) }
  where
    held : (f i : ℕ) (k : Capability) → (start setting).place f i ≡ Holds k
        → FitsNode ((start setting).frame f) k.kind ((start setting).frame k.frame)
    held f i k =
        choose P (f == 0) _ _
        (λ is. choose P (i == 0) _ _
        (λ first at. subst (λ (n : Capability). FitsNode (start_frame setting f) n.kind (start_frame setting n.frame))
        (holds_inj (plain_cap Kind.Link 1) k at)
        (subst (λ n. FitsNode (start_frame setting n) Kind.Link (start_frame setting 1))
        (sym (eqb-true f 0 is)) (record { kind = refl; leaf = refl })))
        (λ none at. absurd (free_holds k at)))
        (λ other. choose P (f == 1) _ _
        (λ is at. subst (λ n. FitsNode (start_frame setting n) k.kind (start_frame setting k.frame)) (sym (eqb-true f 1 is))
        (record { kind = placed (start_cap setting i) k (cap_takes setting i) at; leaf = refl }))
        (λ none at. absurd (free_holds k at)))
      where
        P : Place → Type 0
        P p = p ≡ Holds k → FitsNode (start_frame setting f) k.kind (start_frame setting k.frame)

enter_fits : (setting : Setting) (events : List Event) (c : ℕ) (call : Call) → IsRun setting (Enters c call ∷ events)
    → IsFitted (after setting events) (opened events)
    → IsFitted (after setting (Enters c call ∷ events)) (opened (Enters c call ∷ events))
enter_fits setting events c call run old = record {
  held = old.held;
  waiting = λ f i k d p q n w. elim (cases_eq d c) [
    | inl same ↦ absurd (false≢true (sym (inside_is setting events run.0 c ∙ ap is_in run.1.is_out)
        ∙ waits_inside setting events (PlaceOf f i) c (subst (λ d. IsTrue (((after setting events).grace (PlaceOf f i)).waits d)) same w)))
    | inr other ↦ old.waiting f i k d p (sym (ap is_open (phase_other (Enters c call) events d other)) ∙ q) n w
  ];
}

return_fits : (setting : Setting) (events : List Event) (c : ℕ) → IsFitted (after setting events) (opened events)
    → IsFitted (after setting (Returns c ∷ events)) (opened (Returns c ∷ events))
return_fits setting events c old = record {
  held = old.held;
  waiting = λ f i k d p q n w. elim (cases_eq d c) [
    | inl same ↦ absurd (false≢true (sym (ap is_open (phase_own (Returns c) events d same)) ∙ q))
    | inr other ↦ old.waiting f i k d p (sym (ap is_open (phase_other (Returns c) events d other)) ∙ q) n
        (sym (put_other ((after setting events).grace (PlaceOf f i)).waits c false d other) ∙ w)
  ];
}

pub runs_fit : (setting : Setting) → IsSetting setting → (events : List Event) → IsRun setting events
    → IsFitted (after setting events) (opened events)
runs_fit setting lim [] run = start_fits setting
runs_fit setting lim (Enters c call ∷ events) run = enter_fits setting events c call run (runs_fit setting lim events run.0)
runs_fit setting lim (Returns c ∷ events) run = return_fits setting events c (runs_fit setting lim events run.0)
runs_fit setting lim (Decides c call r ∷ events) run =
    fewer (after setting (Decides c call r ∷ events)) (put (opened events) c false) (opened (Decides c call r ∷ events))
    (decided_opened events c call r)
    (decided_fits (after setting events) (opened events) c call r
    (open_is setting lim events c run.0 (ap is_open run.1.is_open)) run.1.permitted
    (runs_fit setting lim events run.0))

-- What is found mapped is a page.
module _ (s : State) (o : ℕ → Bool) (c : ℕ) (h : IsOpen s o c) (w : IsFitted s o) where
  page_of : (x : Frame) (k : Kind) → x ≡ Kernel Pleaf → IsTrue (takes x k) → k ≡ Kind.Page
  page_of x k is take = only_is Kind.Page k (subst (λ y. IsTrue (takes y k)) is take)

  pub held_is : (p : Place) (k : Capability) → held_in p ≡ Some k → p ≡ Holds k
  held_is (Holds j) k e = ap Holds (some_inj j k e)
  held_is _ k e = absurd (none_some k e)

  pub mapped_page : (v : ℕ) (k : Capability) → mapped s c (comp_of s c).pages v ≡ Found k → k.kind ≡ Kind.Page
  mapped_page v k e =
      let a = then_parts (unless (if nat_lt 4095 v then Some Reply.NoSlot else None) v)
      (λ v. and_then (or_refuse (reached s c (Under (root_at (comp_of s c).pages) v)) Reply.Fault)
      λ at. or_refuse (held_in (place_at s at)) Reply.Fault) k e in
      let b = then_parts (or_refuse (reached s c (Under (root_at (comp_of s c).pages) a.0)) Reply.Fault)
      (λ at. or_refuse (held_in (place_at s at)) Reply.Fault) k a.2 in
      let at : reached s c (Under (root_at (comp_of s c).pages) a.0) ≡ Some b.0 =
      or_found (reached s c (Under (root_at (comp_of s c).pages) a.0)) Reply.Fault b.0 b.1 in
      let fit : IsTrue (fits Kind.Pages (s.frame (comp_of s c).pages)) = (fields s o c h.sound h.is).1 in
      let leaf : s.frame b.0.node ≡ Kernel Pleaf =
      pages_leaf s o c h w (s.frame (comp_of s c).pages) fit (s.frame b.0.node)
      (leaf_fits s o c h w (root_at (comp_of s c).pages) a.0 b.0
      ((fit_node s o c h w Kind.Pages (s.frame (comp_of s c).pages) fit).1 refl) at) in
      page_of (s.frame b.0.node) k.kind leaf
      (w.held b.0.node b.0.index k (held_is (place_at s b.0) k (or_found (held_in (place_at s b.0)) Reply.Fault k b.2))).kind

pub nodes_hold_what_fits : NodesHoldWhatFits
nodes_hold_what_fits setting lim events run = record {
  held = w.held;
  used = λ c at k is node e. usable_fits s (opened events) c (open_is setting lim events c run is) w at k node e;
  pages = λ c v k is e. mapped_page s (opened events) c (open_is setting lim events c run is) w v k e;
}
  where
    s : State
    s = after setting events

    w : IsFitted s (opened events)
    w = runs_fit setting lim events run
