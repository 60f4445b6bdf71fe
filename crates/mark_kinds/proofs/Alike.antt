-- Few calls change how the words of frames are read for marks.
use Rattle.kernel_invariant.specs.kernel_rules.proofs as low
use low.{◌≡◌, ◌≢◌, inl, inr, ℕ, ◌-◌, ◌+◌, true, false, List, [], ◌∷◌, drop, Option, Some, None, IsTrue, refl, sym, ◌∙◌, ap, true≢false}
use low.{false≢true, Capability, Make, Call, Reply, Place, Free, Holds, Quiescing, ThreadFields, TcapFields, Object, Table}
use low.{Leaf, Pages, Pleaf, Thread, Tcap, Frame, Kernel, put, comp_of, thread_of, is_node, Change, Rule, Judged, Refused, Found}
use low.{make_rule, with_thread, with_stack, running, tcap_at, with_tcap, with_budget, with_qualities, moved}
use low.{translation_of, rule_of, change_of, changed, owed_by, state_by, AllChanges, IfFound, outcome_all, put_same}
use Rattle.kernel_history.specs.{State, mark_in_frame, changes_frames}
use low.Rows.{Looks, found_by, all_left, by_cached}
use low.{Bool, ◌&&◌, Edit, Node, Become, Untype, Component, Push, Pop, Charge, Move, Merge, Give, edited, after_edits}
use Rattle.kernel_invariant.specs.kernel_rules.specs.{Edits.Switch, Rows.edits_at}
use Rattle.std.proofs.lemmas.Bool.{and_parts}
use Rattle.mark_kinds.specs.Reads.{ReadAlike, KindsStay, NodesStay}
use low.{put_other}
use Rattle.{std.proofs.lemmas.Bool.cases_eq, kernel_invariant.proofs.Sound.put_all}

-- A frame with another thread in place of its own, or another temporal capability, is read as before.
thread_alike : (x : Frame) (u : ThreadFields) (i v : ℕ) → mark_in_frame (with_thread x u) i v ≡ mark_in_frame x i v
thread_alike (Kernel (Thread t)) u i v = refl
thread_alike _ u i v = refl

tcap_alike : (x : Frame) (q : TcapFields) (i v : ℕ) → mark_in_frame (with_tcap x q) i v ≡ mark_in_frame x i v
tcap_alike (Kernel (Tcap p)) q i v = refl
tcap_alike _ q i v = refl

put_alike : (frame : ℕ → Frame) (f : ℕ) (y : Frame) → ((i v : ℕ) → mark_in_frame y i v ≡ mark_in_frame (frame f) i v) → (g i v : ℕ)
    → mark_in_frame (put frame f y g) i v ≡ mark_in_frame (frame g) i v
put_alike frame f y new g i v = put_all (λ h x. mark_in_frame x i v ≡ mark_in_frame (frame h) i v) frame f y g
    (λ same. new i v ∙ ap (λ n. mark_in_frame (frame n) i v) (sym same)) (λ other. refl)

stack_alike : (s : State) (c : ℕ) (stack : List ℕ) → ReadAlike s (with_stack s c stack)
stack_alike s c stack = put_alike s.frame (s.core c).thread _
    (thread_alike (s.frame (s.core c).thread) (record (thread_of s c) { stack = stack }))

running_alike : (s : State) (f : ℕ) (core : Option ℕ) → ReadAlike s (running s f core)
running_alike s f core = put_alike s.frame f _ (thread_alike (s.frame f) _)

budget_alike : (s : State) (f budget : ℕ) → ReadAlike s (with_budget s f budget)
budget_alike s f budget = put_alike s.frame f _ (tcap_alike (s.frame f) (record (tcap_at s f) { budget = budget }))

list_alike : (s : State) (f : ℕ) (list : List (ℕ × ℕ)) → ReadAlike s (with_qualities s f list)
list_alike s f list = put_alike s.frame f _ (tcap_alike (s.frame f) (record (tcap_at s f) { qualities = list }))

moved_alike : (s : State) (a b m : ℕ) → ReadAlike s (moved s a b m)
moved_alike s a b m f i v =
    budget_alike (with_budget s a ((tcap_at s a).budget - m)) b ((tcap_at s b).budget + m) f i v
    ∙ budget_alike s a ((tcap_at s a).budget - m) f i v

-- Whether an edit leaves all words read as before: it changes no more of a frame than its thread or its temporal capability.
abbrev keeps_kinds : Edit → Bool
keeps_kinds (Node f object) = false
keeps_kinds (Become f x) = false
keeps_kinds (Untype f) = false
keeps_kinds (Component f k) = false
keeps_kinds _ = true

abbrev all_keep : List Edit → Bool
all_keep [] = true
all_keep (e ∷ es) = keeps_kinds e && all_keep es

edit_alike : (s : State) (c : ℕ) (e : Edit) → IsTrue (keeps_kinds e) → ReadAlike s (edited c s e)
edit_alike s c (Node f object) keeps = absurd (false≢true keeps)
edit_alike s c (Become f x) keeps = absurd (false≢true keeps)
edit_alike s c (Untype f) keeps = absurd (false≢true keeps)
edit_alike s c (Component f k) keeps = absurd (false≢true keeps)
edit_alike s c (Push f) keeps = stack_alike s c (f ∷ (thread_of s c).stack)
edit_alike s c Pop keeps = stack_alike s c (drop 1 (thread_of s c).stack)
edit_alike s c (Switch h q) keeps = λ f i v.
    running_alike (running s (s.core c).thread None) h (Some c) f i v ∙ running_alike s (s.core c).thread None f i v
edit_alike s c (Charge n) keeps = budget_alike s (s.core c).tcap _
edit_alike s c (Move a b m) keeps = moved_alike s a b m
edit_alike s c (Merge f list) keeps = list_alike s f list
edit_alike s c (Give f m) keeps = budget_alike s f _
edit_alike s c _ keeps = λ f i v. refl

edits_alike : (s : State) (c : ℕ) (es : List Edit) → IsTrue (all_keep es) → ReadAlike s (after_edits c s es)
edits_alike s c [] keep f i v = refl
edits_alike s c (e ∷ es) keep f i v =
    let p = and_parts (keeps_kinds e) (all_keep es) keep in
    edits_alike (edited c s e) c es p.1 f i v ∙ edit_alike s c e p.0 f i v

-- So do the edits of a call, wherever its look-ups lead, but of the calls that change what a frame is.
all_alike : (s : State) (c : ℕ) (what : Call) → changes_frames what ≡ false → (g : Looks)
    → IsTrue (all_keep (edits_at (rule_of s c what) (found_by g)))
all_alike s c (Call.Retype r f k) stays g = absurd (true≢false stays)
all_alike s c (Call.Make what r f t b) stays g = absurd (true≢false stays)
all_alike s c (Call.Touch u) stays g = by_cached (λ rule. IsTrue (all_keep (edits_at rule (found_by g)))) (comp_of s c).pages u refl
    (λ t. refl) (translation_of (s.core c).cached (comp_of s c).pages u)
all_alike s c _ stays g = refl

-- What is owed changes no frame.
owed_alike : (s : State) (c : ℕ) (what : Call) → ReadAlike s (owed_by s c what)
owed_alike s c (Call.Tick n) f i v = refl
owed_alike s c _ f i v = refl

changed_alike : (s : State) (x : Judged Change) → IfFound x (λ change. ReadAlike s change.next) → ReadAlike s (changed s x)
changed_alike s (Refused r) h f i v = refl
changed_alike s (Found change) h f i v = h f i v

pub kinds_stay : KindsStay
kinds_stay s c what (Reply.Ok x) stays f i v = changed_alike s (change_of s c what)
    (outcome_all (λ change. ReadAlike s change.next) s c (rule_of s c what)
    (all_left (λ change. ReadAlike s change.next) s c (rule_of s c what)
    (λ g. edits_alike s c (edits_at (rule_of s c what) (found_by g)) (all_alike s c what stays g)))) f i v
kinds_stay s c what Reply.Raced stays f i v = owed_alike s c what f i v
kinds_stay s c what (Reply.Busy d) stays f i v = owed_alike s c what f i v
kinds_stay s c what _ stays f i v = refl

-- A place of a node that is made anew holds nothing removed.
abbrev NodesAlike : (ℕ → Frame) → (ℕ → Frame) → (ℕ → ℕ → Place) → Type 0
NodesAlike frame frame' place' = (f i : ℕ) (k : Capability) → IsTrue (is_node (frame' f)) → place' f i ≡ Quiescing k → (v : ℕ)
    → mark_in_frame (frame' f) i v ≡ mark_in_frame (frame f) i v

free_removed : (k : Capability) → Free ≡ Quiescing k → ⊥
free_removed k h = cc

held_removed : (j k : Capability) → Holds j ≡ Quiescing k → ⊥
held_removed j k h = cc

-- Where a place holds something that is not removed, it is another.
filled : (place : ℕ → ℕ → Place) (g j : ℕ) (h k : Capability) (f i : ℕ) → put place g (put (place g) j (Holds h)) f i ≡ Quiescing k
    → place f i ≡ Quiescing k
filled place g j h k f i is = elim (cases_eq f g) [
  | inr other ↦ sym (ap (λ (r : ℕ → Place). r i) (put_other place g (put (place g) j (Holds h)) f other)) ∙ is
  | inl same ↦ elim (cases_eq i j) [
    | inl here ↦ absurd (held_removed h k (sym (ap (λ (r : ℕ → Place). r i) (put_same place g (put (place g) j (Holds h)) f same)
        ∙ put_same (place g) j (Holds h) i here) ∙ is))
    | inr there ↦ ap (λ (n : ℕ). place n i) same ∙ sym (ap (λ (r : ℕ → Place). r i) (put_same place g (put (place g) j (Holds h)) f same)
        ∙ put_other (place g) j (Holds h) i there) ∙ is
  ]
]

-- A node is made in frame g, whose places are then free; or an object that is no node.
node_made : (frame : ℕ → Frame) (place : ℕ → ℕ → Place) (object : Object) (g node j : ℕ) (h : Capability)
    → NodesAlike frame (put frame g (Kernel object))
    (put (put place g (λ i. Free)) node (put (put place g (λ i. Free) node) j (Holds h)))
node_made frame place object g node j h f i m is removed v = elim (cases_eq f g) [
  | inr other ↦ ap (λ x. mark_in_frame x i v) (put_other frame g (Kernel object) f other)
  | inl same ↦ absurd (free_removed m (sym (ap (λ (r : ℕ → Place). r i) (put_same place g (λ i. Free) f same))
      ∙ filled (put place g (λ i. Free)) node j h m f i removed))
]

object_made : (frame : ℕ → Frame) (place : ℕ → ℕ → Place) (object : Object) (g : ℕ) → is_node (Kernel object) ≡ false
    → NodesAlike frame (put frame g (Kernel object)) place
object_made frame place object g bare f i m node removed v = elim (cases_eq f g) [
  | inr other ↦ ap (λ x. mark_in_frame x i v) (put_other frame g (Kernel object) f other)
  | inl same ↦ absurd (false≢true (sym bare ∙ ap is_node (sym (put_same frame g (Kernel object) f same)) ∙ node))
]

abbrev AllNodes : State → ℕ → Rule → Type 0
AllNodes s c rule = AllChanges s c (λ change. NodesAlike s.frame change.next.frame change.next.place) rule

make_nodes : (s : State) (c : ℕ) (what : Make) (r g t b : ℕ) → AllNodes s c (make_rule s what r g t b)
make_nodes s c Make.Table r g t b = λ range table at. node_made s.frame s.place Table g at.node at.index _
make_nodes s c Make.Leaf r g t b = λ range table at. node_made s.frame s.place Leaf g at.node at.index _
make_nodes s c Make.Pages r g t b = λ range table at. node_made s.frame s.place Pages g at.node at.index _
make_nodes s c Make.Pleaf r g t b = λ range table at. node_made s.frame s.place Pleaf g at.node at.index _
make_nodes s c (Make.Thread comp) r g t b = λ range table own at. object_made s.frame _ _ g refl
make_nodes s c (Make.Tcap sched quality) r g t b = λ range table at. object_made s.frame _ _ g refl
make_nodes s c (Make.Comp x p l) r g t b = λ range table own pages at. object_made s.frame _ _ g refl

changed_nodes : (s : State) (x : Judged Change) → IfFound x (λ change. NodesAlike s.frame change.next.frame change.next.place)
    → NodesAlike s.frame (changed s x).frame (changed s x).place
changed_nodes s (Refused r) h f i k node removed v = refl
changed_nodes s (Found change) h f i k node removed v = h f i k node removed v

made_nodes : (s : State) (c : ℕ) (what : Make) (r g t b : ℕ) (q : Reply)
    → NodesAlike s.frame (state_by s c (Call.Make what r g t b) q).frame (state_by s c (Call.Make what r g t b) q).place
made_nodes s c what r g t b (Reply.Ok x) = changed_nodes s (change_of s c (Call.Make what r g t b))
    (outcome_all (λ change. NodesAlike s.frame change.next.frame change.next.place) s c (make_rule s what r g t b)
    (make_nodes s c what r g t b))
made_nodes s c what r g t b _ = λ f i k node removed v. refl

pub nodes_stay : NodesStay
nodes_stay s c (Call.Make what r g t b) q places f i k node removed v = made_nodes s c what r g t b q f i k node removed v
nodes_stay s c (Call.Retype r g k) q places f i m node removed v = absurd (true≢false (sym places))
nodes_stay s c call q places f i k node removed v = kinds_stay s c call q refl f i v
