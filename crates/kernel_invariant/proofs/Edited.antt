-- What is known where each edit of a call is made.
use Rattle.kernel_rules.proofs as low
use low.{◌≡◌, ◌≢◌, ℕ, ◌+◌, ◌-◌, ◌<◌, ◌≤◌, Bool, true, false, not, refl, sym, ◌∙◌, ap, subst, cond, min, ◌==◌, ltb as nat_lt, leb as nat_le}
use low.{length, IsTrue, IsFalse, List, [], ◌∷◌, Option, Some, None, false≢true, true≢false, eqb-false, ltb-false, leb-false, Capability}
use low.{InLimits, merged, IsQualityList, Kind, kept, part_of, FrameKind, Make, Call, Translation, Value, Free, Holds, Object, Blank, Table}
use low.{Leaf, Pages, Pleaf, Comp, Thread, Tcap, Frame, Untyped, User, Kernel, CompFields, TcapFields, Liveness, Live, Grace, Thing}
use low.{FrameOf, NumberOf, put, with_frame, outstanding, tcap_in, comp_in, comp_of, thread_in, thread_of, plain_cap, no_grace, refs}
use low.{to_use, to_copy, to_part, any, Slot, Target, Under, InRoot, found, held_in, place_at, only, root, fits, IsGood, EndsWithin}
use low.{is_node, Change, does, Cause, When, WaitedFor, Unflushed, Found, named, vacant, held, mapped, first_cause, refusal_of, waits_of}
use low.{flushes_of, Judged, Refused, IsFoundAnd, leaf_of, outside, not_blank, make_node, make_rule, not_taken, is_live, epoch_of, is_user}
use low.{not_user, is_untyped_now, is_empty, not_retyped, retype_rule, touch_by, translation_of, is_live_in, not_live, switch_to}
use low.{merged_list, are_same, is_short, are_unlike, are_many, is_finer, is_less, tcap_at, with_tcap, with_budget, moved, Edit, Fill, Node}
use low.{Become, Untype, Component, Deaden, begun, rule_of, change_of, changed, MayReply, ends_by, flushes_by, IfFound, put_same, Push, Pop}
use low.{Cache, Charge, Move, Merge, Give, edited, after_edits, begins_all, Reply}
use Rattle.kernel_invariant.specs.{ends_in, ends_all, flush_in, charged_by, charged_all}
use Rattle.kernel_rules.specs.{State.State, Edits.Remove, Edits.Switch, Edits.Flush, Edits.begins_in}
use Rattle.kernel_invariant.specs.Edits.{kept_all}
use Rattle.kernel_invariant.proofs.Sound.{put_all, IsObjectGood, Extends, from_blank, from_untyped}
use Rattle.kernel_invariant.proofs.SoundRemovals.{below_by, none_waiting}
use Rattle.kernel_invariant.proofs.Facts.{ChangesFrom, EditsFrom, edits_map, outcome_from, named_good, named_fit, RootIsNode, vacant_facts}
use Rattle.kernel_invariant.proofs.Facts.{held_facts, none_parts, when_not, not_not, first_two, some_none}
use Rattle.kernel_invariant.proofs.SoundCalls.{IsOpen, node_of, in_range, blank_by, untyped_by, own_thread, leaf_link, user_is, kind_by}
use Rattle.kernel_invariant.proofs.SoundCalls.{thread_below, tcap_below, root_node, zero_refs, gate_comp, comp_gate, within_by, part_good}

-- A frame without an object, which may become anything.
abbrev pub is_bare : Frame → Bool
is_bare (Kernel Blank) = true
is_bare Untyped = true
is_bare _ = false

pub from_bare : (x y : Frame) → IsTrue (is_bare x) → Extends x y
from_bare (Kernel Blank) y h = from_blank y
from_bare Untyped y h = from_untyped y
from_bare _ y h = absurd (false≢true h)

-- What a call tests before an edit of its core c.
abbrev pub Tested : ℕ → State → Edit → Type 0
Tested c s (Component f k) =
    (is_live (s.number k.number) ≡ false) × (k.epoch ≡ epoch_of (s.number k.number) + 1) × (epoch_of (s.number k.number) ≢ s.limits.epochs)
Tested c s (Untype f) = flushes_of s (FrameOf f) ≡ None
Tested c s (Deaden l e) = is_live_in (s.number l) e ≡ true
Tested c s (Push f) = length (thread_of s c).stack < 16
Tested c s Pop = 1 < length (thread_of s c).stack
Tested c s (Cache t) = (k : Capability) × (mapped s c (comp_of s c).pages t.page ≡ Found k)
    × (t ≡ record { pages = (comp_of s c).pages; page = t.page; frame = k.frame; flags = record { 0 = k.arg } })
Tested c s _ = Unit {0}

-- What the limits of a call's arguments, and the rule that makes an object, say of an edit.
abbrev pub Limited : ℕ → State → Edit → Type 0
Limited c s (Node f object) = IsTrue (is_node (Kernel object))
Limited c s (Component f k) = k.number < 64
Limited c s (Become f (Kernel (Comp k))) = ⊥
Limited c s (Become f (Kernel (Thread t))) = length t.stack ≡ 1
Limited c s (Become f (Kernel (Tcap q))) = (length q.qualities ≡ 1) × IsQualityList q.qualities
Limited c s (Charge n) = n ≤ 1000000
Limited c s _ = Unit {0}

-- What is known of a place of a node, of a thread, and of a temporal capability.
pub record PlaceKnown (frames : ℕ) (at : Slot) : Type 0 where
  pub below : at.node < frames
  pub small : at.index < 64

pub record HasTcap (s : State) (f : ℕ) : Type 0 where
  pub fit : IsTrue (fits Kind.Tcap (s.frame f))
  pub below : f < s.limits.frames

pub record HasThread (s : State) (f : ℕ) : Type 0 where
  pub fit : IsTrue (fits Kind.Thread (s.frame f))
  pub below : f < s.limits.frames

pub record Moves (s : State) (a b m : ℕ) : Type 0 where
  pub from : HasTcap s a
  pub to : HasTcap s b
  pub apart : a ≢ b
  pub enough : m ≤ (tcap_at s a).budget

-- A list is put that merges those of two temporal capabilities, and has at most 8 pairs.
pub record Merges (s : State) (f : ℕ) (qs : List (ℕ × ℕ)) : Type 0 where
  pub to : HasTcap s f
  pub other : ℕ
  pub from : HasTcap s other
  pub is : qs ≡ merged_list s other f
  pub few : length qs ≤ 8

-- Ticks are given back that the core has spent and has not had back.
pub record Gives (s : State) (c f m : ℕ) : Type 0 where
  pub core : c < s.limits.cores
  pub to : HasTcap s f
  pub enough : m ≤ outstanding (s.core c)

-- A frame without an object takes one that has no budget and runs nowhere.
pub record TakesFresh (s : State) (f : ℕ) (x : Frame) : Type 0 where
  pub below : f < s.limits.frames
  pub bare : IsTrue (is_bare (s.frame f))
  pub poor : (tcap_in x).budget ≡ 0
  pub idle : (thread_in x).runs_on ≡ None

pub record Switches (s : State) (c h : ℕ) : Type 0 where
  pub core : c < s.limits.cores
  pub old : HasThread s (s.core c).thread
  pub new : HasThread s h
  pub idle : (thread_in (s.frame h)).runs_on ≡ None

-- A frame is untyped that holds nothing, is not referenced, and for which no other core waits.
pub record Untypes (s : State) (c f : ℕ) : Type 0 where
  pub below : f < s.limits.frames
  pub empty : is_empty s f (s.frame f) ≡ true
  pub unnamed : refs s f ≡ 0
  pub unwaited : (d : ℕ) → d < s.limits.cores → d ≢ c → (s.grace (FrameOf f)).waits d ≡ false

-- What is known of a sound state where core c makes an edit of it.
abbrev pub Known : ℕ → State → Edit → Type 0
Known c s (Fill at k) = PlaceKnown s.limits.frames at × (held_in (place_at s at) ≡ None)
Known c s (Remove at k) = PlaceKnown s.limits.frames at × (place_at s at ≡ Holds k)
Known c s (Node f object) =
    (s.frame f ≡ Kernel Blank) × ((i : ℕ) (k : Capability) → s.place f i ≡ Holds k → ⊥) × TakesFresh s f (Kernel object)
Known c s (Become f x) = (is_node x ≡ false) × TakesFresh s f x
Known c s (Untype f) = Untypes s c f
Known c s (Component f k) = TakesFresh s f (Kernel (Comp k))
Known c s (Deaden l e) = l < 64
Known c s (Push f) = HasThread s (s.core c).thread
Known c s Pop = HasThread s (s.core c).thread
Known c s (Switch h q) = Switches s c h
Known c s (Cache t) = c < s.limits.cores
Known c s Flush = c < s.limits.cores
Known c s (Charge n) = (c < s.limits.cores) × HasTcap s (s.core c).tcap
Known c s (Move a b m) = Moves s a b m
Known c s (Merge f qs) = Merges s f qs
Known c s (Give f m) = Gives s c f m

-- What keeps a sound state so, where core c makes an edit of it.
abbrev pub Good : ℕ → State → Edit → Type 0
Good c s (Fill at k) =
    IsTrue (is_node (s.frame at.node)) × IsTrue (fits k.kind (s.frame k.frame)) × EndsWithin k.kind k.frame k.arg s.limits.frames
Good c s (Become f x) = IsObjectGood s x
Good c s (Component f k) = IsObjectGood s (Kernel (Comp k))
Good c s (Push f) = IsTrue (fits Kind.Comp (s.frame f))
Good c s (Switch h q) = IsTrue (fits Kind.Tcap (s.frame q))
Good c s _ = Unit {0}

-- Each edit of a list, in the state that it finds.
abbrev pub Each : (ℕ → State → Edit → Type 0) → ℕ → State → List Edit → Type 0
Each P c s [] = Unit {0}
Each P c s (e ∷ es) = P c s e × Each P c (edited c s e) es

-- A list of edits ends the grace periods that the call ends, flushes where it does, leaves the others, and charges and gives back as many
-- ticks.
abbrev pub Agrees : Call → ℕ → List Edit → Type 0
Agrees call c list =
    ((x : Thing) → ends_by call x ≡ ends_all list x)
    × (flushes_by call ≡ flush_in list)
    × ((x : Thing) (g : Grace) → kept_all c list x g
    ≡ cond (ends_by call x) no_grace (cond (flushes_by call) (record g { unflushed = put g.unflushed c false }) g))
    × (charged_by call ≡ charged_all list)

-- Edits after the first fill places and put lists alone.
abbrev pub AreLater : List Edit → Type 0
AreLater [] = Unit {0}
AreLater (Fill at k ∷ es) = AreLater es
AreLater (Merge f qs ∷ es) = AreLater es
AreLater _ = ⊥

-- So the grace periods that a list begins and ends are those that its first edit begins and ends.
abbrev pub Calm : ℕ → State → List Edit → Type 0
Calm c s [] = Unit {0}
Calm c s (e ∷ es) = (begins_all c s (e ∷ es) ≡ begins_in c s e) × ((x : Thing) → ends_all (e ∷ es) x ≡ ends_in e x) × AreLater es

-- They change no core and no number.
pub later_core : (c : ℕ) (s : State) (es : List Edit) → AreLater es → (after_edits c s es).core ≡ s.core
later_core c s [] l = refl
later_core c s (Fill at k ∷ es) l = later_core c (edited c s (Fill at k)) es l
later_core c s (Merge f qs ∷ es) l = later_core c (edited c s (Merge f qs)) es l
later_core c s (_ ∷ es) l = absurd l

pub later_number : (c : ℕ) (s : State) (es : List Edit) → AreLater es → (after_edits c s es).number ≡ s.number
later_number c s [] l = refl
later_number c s (Fill at k ∷ es) l = later_number c (edited c s (Fill at k)) es l
later_number c s (Merge f qs ∷ es) l = later_number c (edited c s (Merge f qs)) es l
later_number c s (_ ∷ es) l = absurd l

-- What is known of the edits that core c makes for a call.
pub record Edits (call : Call) (c : ℕ) (s : State) (list : List Edit) : Type 0 where
  pub agrees : Agrees call c list
  pub calm : Calm c s list
  pub tested : Each Tested c s list
  pub limited : InLimits call → Each Limited c s list
  pub known : (o : ℕ → Bool) → IsOpen s o c → Each Known c s list
  pub good : (o : ℕ → Bool) → IsOpen s o c → Each Good c s list

-- A temporal capability in place of one.
tcap_fits : (x : Frame) (q : TcapFields) → IsTrue (fits Kind.Tcap x) → IsTrue (fits Kind.Tcap (with_tcap x q))
tcap_fits (Kernel (Tcap p)) q h = refl
tcap_fits _ q h = absurd (false≢true h)

-- What is known in an open call's state.
module _ (s : State) (c : ℕ) (o : ℕ → Bool) (h : IsOpen s o c) where
  node_known : (at : Slot) → IsTrue (is_node (s.frame at.node)) × (at.index < 64) → PlaceKnown s.limits.frames at
  node_known at n = record { below = below_by s o at.node h.sound is_node refl n.0; small = n.1 }

  fill_known : (target : Target) (at : Slot) (k : Capability) → RootIsNode s target → vacant s c target ≡ Found at → Known c s (Fill at k)
  fill_known target at k node e = (node_known at (node_of s o c target at h node e), (vacant_facts s c target at e).1)

  fill_good : (target : Target) (at : Slot) (k : Capability) → RootIsNode s target → vacant s c target ≡ Found at
      → IsTrue (fits k.kind (s.frame k.frame)) → EndsWithin k.kind k.frame k.arg s.limits.frames → Good c s (Fill at k)
  fill_good target at k node e fit within = ((node_of s o c target at h node e).0, fit, within)

  -- A capability to a frame that has just been given its object.
  fresh_good : (f : ℕ) (x : Frame) (k : Kind) (target : Target) (at : Slot) → IsTrue (is_bare (s.frame f)) → IsTrue (fits k x)
      → IsFalse (fits k Untyped) → RootIsNode s target → vacant s c target ≡ Found at
      → Good c (with_frame s f x) (Fill at (plain_cap k f))
  fresh_good f x k target at bare fit real node e = (
    put_all (λ g x. IsTrue (is_node x)) s.frame f x at.node
        (λ same. (from_bare (s.frame f) x bare).node (subst (λ g. IsTrue (is_node (s.frame g))) same (node_of s o c target at h node e).0))
        (λ other. (node_of s o c target at h node e).0),
    subst (λ x. IsTrue (fits k x)) (sym (put_same s.frame f x f refl)) fit,
    ends k real,
  )
    where
      ends : (k : Kind) → IsFalse (fits k Untyped) → EndsWithin k f 0 s.limits.frames
      ends Kind.Range r = absurd (true≢false r)
      ends _ r = tt

  remove_known : (target : Target) (at : Slot) (k : Capability) → held s c target ≡ Found (at, k) → Known c s (Remove at k)
  remove_known target at k e =
      let p = (held_facts s c target at k e).1 in
      (node_known at (h.sound.bare at.node at.index k p), p)

  tcap_known : (n : ℕ) (k : Capability) → named s c n (to_use (only Kind.Tcap)) ≡ Found k → HasTcap s k.frame
  tcap_known n k e =
      let fit = named_fit s o c n Kind.Tcap k h.sound h.is e in
      record { fit = fit; below = tcap_below s o k.frame h.sound fit }

  own_core : c < s.limits.cores
  own_core = (h.sound.inside c h.is).1

  own_known : HasThread s (s.core c).thread
  own_known = record { fit = (h.sound.cores c own_core).0; below = own_thread s o c h }

  charge_known : HasTcap s (s.core c).tcap
  charge_known =
      let fit = (h.sound.cores c own_core).1 in
      record { fit = fit; below = tcap_below s o (s.core c).tcap h.sound fit }

  fresh_at : (f : ℕ) (x y : Frame) → (f < s.limits.frames) × (s.frame f ≡ y) → IsTrue (is_bare y) → (tcap_in x).budget ≡ 0
      → (thread_in x).runs_on ≡ None → TakesFresh s f x
  fresh_at f x y at bare poor idle =
      record { below = at.0; bare = subst (λ x. IsTrue (is_bare x)) (sym at.1) bare; poor = poor; idle = idle }

  fresh : (r f : ℕ) (range : Capability) (causes : List Cause) (object : Object)
      → named s c r (to_use (only Kind.Range)) ≡ Found range
      → (tcap_in (Kernel object)).budget ≡ 0 → (thread_in (Kernel object)).runs_on ≡ None
      → first_cause s c (outside (found range) f ∷ not_blank s f ∷ causes) ≡ None → TakesFresh s f (Kernel object)
  fresh r f range causes object e poor idle calm =
      fresh_at f (Kernel object) (Kernel Blank) (blank_by s o c r f range causes h e calm) refl poor idle

  node_fresh : (r f : ℕ) (range : Capability) (object : Object) (at : Slot) (k : Capability)
      → named s c r (to_use (only Kind.Range)) ≡ Found range
      → (tcap_in (Kernel object)).budget ≡ 0 → (thread_in (Kernel object)).runs_on ≡ None
      → first_cause s c (outside (found range) f ∷ not_blank s f ∷ []) ≡ None → Known c s (Fill at k)
      → Known c s (Node f object) × Known c (edited c s (Node f object)) (Fill at k)
  node_fresh r f range object at k e poor idle calm place =
      let blank = (blank_by s o c r f range [] h e calm).1 in (
        (
          blank,
          λ i k e. false≢true (sym (ap is_node blank) ∙ (h.sound.bare f i k e).0),
          fresh r f range [] object e poor idle calm,
        ),
        (place.0, put_all (λ j r. held_in (r at.index) ≡ None) s.place f (λ i. Free) at.node (λ same. refl) (λ other. place.1)),
      )

  number_small : (l e : ℕ) (x : Liveness) → s.number l ≡ x → is_live_in (s.number l) e ≡ true → l < 64
  number_small l e (Live d g) is q = (h.sound.numbers l d g is).1
  number_small l e _ is q = absurd (false≢true (sym (ap (λ x. is_live_in x e) is) ∙ q))

  moves_known : (a b m : ℕ) (j k : Capability) (causes : List Cause)
      → named s c a (to_use (only Kind.Tcap)) ≡ Found j → named s c b (to_use (only Kind.Tcap)) ≡ Found k
      → first_cause s c (are_same (found j) (found k) ∷ is_short s (found j) m ∷ causes) ≡ None → Moves s j.frame k.frame m
  moves_known a b m j k causes e f calm =
      let p = first_two s c (are_same (found j) (found k)) (is_short s (found j) m) causes calm in
      let budget : ℕ = (tcap_at s j.frame).budget in
      record {
        from = tcap_known a j e;
        to = tcap_known b k f;
        apart = eqb-false j.frame k.frame (when_not (j.frame == k.frame) Reply.Same p.0);
        enough = ltb-false budget m (when_not (nat_lt budget m) (Reply.Short budget) p.1);
      }

  gives_known : (a m : ℕ) (j : Capability) → named s c a (to_use (only Kind.Tcap)) ≡ Found j
      → first_cause s c (is_finer s c (found j) ∷ is_less s c m ∷ []) ≡ None → Gives s c j.frame m
  gives_known a m j e calm =
      let p = first_two s c (is_finer s c (found j)) (is_less s c m) [] calm in
      let left : ℕ = outstanding (s.core c) in
      record {
        core = (h.sound.inside c h.is).1;
        to = tcap_known a j e;
        enough = ltb-false left m (when_not (nat_lt left m) (Reply.Short (min left m)) p.1);
      }

  moved_known : (a b m g : ℕ) → HasTcap s g → HasTcap (moved s a b m) g
  moved_known a b m g t = record { fit = then_tcap (with_budget s a _) b _ g (then_tcap s a _ g t.fit); below = t.below }
    where
      then_tcap : (s : State) (a : ℕ) (q : TcapFields) (g : ℕ) → IsTrue (fits Kind.Tcap (s.frame g))
          → IsTrue (fits Kind.Tcap (put s.frame a (with_tcap (s.frame a) q) g))
      then_tcap s a q g fit = put_all (λ g x. IsTrue (fits Kind.Tcap x)) s.frame a _ g
          (λ same. tcap_fits (s.frame a) q (subst (λ n. IsTrue (fits Kind.Tcap (s.frame n))) same fit)) (λ other. fit)

-- Lists of qualities stay where budgets are put.
budget_qualities : (s : State) (a n g : ℕ) → (tcap_at (with_budget s a n) g).qualities ≡ (tcap_at s g).qualities
budget_qualities s a n g = put_all (λ g x. (tcap_in x).qualities ≡ (tcap_at s g).qualities) s.frame a _ g
    (λ same. same_list (s.frame a) n ∙ ap (λ n. (tcap_at s n).qualities) (sym same)) (λ other. refl)
  where
    same_list : (x : Frame) (n : ℕ) → (tcap_in (with_tcap x (record (tcap_in x) { budget = n }))).qualities ≡ (tcap_in x).qualities
    same_list (Kernel (Tcap q)) n = refl
    same_list _ n = refl

moved_qualities : (s : State) (a b m g : ℕ) → (tcap_at (moved s a b m) g).qualities ≡ (tcap_at s g).qualities
moved_qualities s a b m g =
    budget_qualities (with_budget s a ((tcap_at s a).budget - m)) b _ g ∙ budget_qualities s a ((tcap_at s a).budget - m) g

merged_moved : (s : State) (a b m : ℕ) → merged_list s a b ≡ merged_list (moved s a b m) a b
merged_moved s a b m =
    ap (λ l. merged l (tcap_at s b).qualities) (sym (moved_qualities s a b m a))
    ∙ ap (merged (tcap_at (moved s a b m) a).qualities) (sym (moved_qualities s a b m b))

-- The calls.
module _ (s : State) (c : ℕ) where
  nothing : (call : Call) → Agrees call c [] → Edits call c s []
  nothing call agrees =
      record { agrees = agrees; calm = tt; tested = tt; limited = λ lim. tt; known = λ o h. tt; good = λ o h. tt }

  one : (call : Call) (e : Edit) → Agrees call c (e ∷ []) → Tested c s e → (InLimits call → Limited c s e)
      → ((o : ℕ → Bool) → IsOpen s o c → Known c s e) → ((o : ℕ → Bool) → IsOpen s o c → Good c s e) → Edits call c s (e ∷ [])
  one call e agrees tested limited known good = record {
    agrees = agrees;
    calm = (refl, λ x. refl, tt);
    tested = (tested, tt);
    limited = λ lim. (limited lim, tt);
    known = λ o h. (known o h, tt);
    good = λ o h. (good o h, tt);
  }

  two : (call : Call) (e x : Edit) → Agrees call c (e ∷ x ∷ []) → Calm c s (e ∷ x ∷ [])
      → Tested c s e × Tested c (edited c s e) x
      → (InLimits call → Limited c s e × Limited c (edited c s e) x)
      → ((o : ℕ → Bool) → IsOpen s o c → Known c s e × Known c (edited c s e) x)
      → ((o : ℕ → Bool) → IsOpen s o c → Good c s e × Good c (edited c s e) x) → Edits call c s (e ∷ x ∷ [])
  two call e x agrees calm tested limited known good = record {
    agrees = agrees;
    calm = calm;
    tested = (tested.0, (tested.1, tt));
    limited = λ lim. ((limited lim).0, ((limited lim).1, tt));
    known = λ o h. ((known o h).0, ((known o h).1, tt));
    good = λ o h. ((good o h).0, ((good o h).1, tt));
  }

  filled : (call : Call) (target : Target) (at : Slot) (k : Capability) → Agrees call c (Fill at k ∷ [])
      → ((o : ℕ → Bool) → IsOpen s o c → RootIsNode s target) → vacant s c target ≡ Found at
      → ((o : ℕ → Bool) → IsOpen s o c → IsTrue (fits k.kind (s.frame k.frame)) × EndsWithin k.kind k.frame k.arg s.limits.frames)
      → Edits call c s (Fill at k ∷ [])
  filled call target at k agrees node e good =
      one call (Fill at k) agrees tt (λ lim. tt) (λ o h. fill_known s c o h target at k (node o h) e)
      (λ o h. fill_good s c o h target at k (node o h) e (good o h).0 (good o h).1)

  removed : (call : Call) (target : Target) (at : Slot) (k : Capability) → Agrees call c (Remove at k ∷ [])
      → held s c target ≡ Found (at, k) → Edits call c s (Remove at k ∷ [])
  removed call target at k agrees e =
      one call (Remove at k) agrees tt (λ lim. tt) (λ o h. remove_known s c o h target at k e) (λ o h. tt)

  made_node : (call : Call) (object : Object) (k : Kind) (r f t b : ℕ) → IsTrue (is_node (Kernel object))
      → (tcap_in (Kernel object)).budget ≡ 0 → (thread_in (Kernel object)).runs_on ≡ None
      → IsTrue (fits k (Kernel object)) → IsFalse (fits k Untyped)
      → ((at : Slot) → Agrees call c (Node f object ∷ Fill at (plain_cap k f) ∷ []))
      → EditsFrom (λ v es. Edits call c s es) s c (make_node s object k r f t b)
  made_node call object k r f t b node poor idle fit real agrees = λ range e table g at v calm.
      two call (Node f object) (Fill at (plain_cap k f)) (agrees at) (refl, λ x. refl, tt) (tt, tt) (λ lim. (node, tt))
      (λ o h. node_fresh s c o h r f range object at (plain_cap k f) e poor idle calm
      (fill_known s c o h (Under (found table) b) at (plain_cap k f) tt v))
      (λ o h. (
        tt,
        fresh_good s c o h f (Kernel object) k (Under (found table) b) at
            (fresh s c o h r f range [] object e poor idle calm).bare fit real tt v,
      ))

  made : (call : Call) (object : Object) (k : Kind) (r f : ℕ) (range : Capability) (target : Target) (at : Slot)
      → is_node (Kernel object) ≡ false → (tcap_in (Kernel object)).budget ≡ 0 → (thread_in (Kernel object)).runs_on ≡ None
      → Agrees call c (Become f (Kernel object) ∷ Fill at (plain_cap k f) ∷ []) → (InLimits call → Limited c s (Become f (Kernel object)))
      → ((o : ℕ → Bool) → IsOpen s o c → IsObjectGood s (Kernel object)) → IsTrue (fits k (Kernel object)) → IsFalse (fits k Untyped)
      → RootIsNode s target
      → named s c r (to_use (only Kind.Range)) ≡ Found range → vacant s c target ≡ Found at
      → first_cause s c (outside (found range) f ∷ not_blank s f ∷ []) ≡ None
      → Edits call c s (Become f (Kernel object) ∷ Fill at (plain_cap k f) ∷ [])
  made call object k r f range target at none poor idle agrees limited good fit real node e v calm =
      two call (Become f (Kernel object)) (Fill at (plain_cap k f)) agrees (refl, λ x. refl, tt) (tt, tt) (λ lim. (limited lim, tt))
      (λ o h. ((none, fresh s c o h r f range [] object e poor idle calm), fill_known s c o h target at (plain_cap k f) node v))
      (λ o h. (
        good o h,
        fresh_good s c o h f (Kernel object) k target at (fresh s c o h r f range [] object e poor idle calm).bare
            fit real node v,
      ))

  make_edits : (what : Make) (r f t b : ℕ) → EditsFrom (λ v es. Edits (Call.Make what r f t b) c s es) s c (make_rule s what r f t b)
  make_edits Make.Table r f t b =
      made_node (Call.Make Make.Table r f t b) Table Kind.Table r f t b refl refl refl refl refl
      (λ at. (λ x. refl, refl, λ x g. refl, refl))
  make_edits Make.Leaf r f t b =
      made_node (Call.Make Make.Leaf r f t b) Leaf Kind.Leaf r f t b refl refl refl refl refl (λ at. (λ x. refl, refl, λ x g. refl, refl))
  make_edits Make.Pages r f t b =
      made_node (Call.Make Make.Pages r f t b) Pages Kind.Pages r f t b refl refl refl refl refl
      (λ at. (λ x. refl, refl, λ x g. refl, refl))
  make_edits Make.Pleaf r f t b =
      made_node (Call.Make Make.Pleaf r f t b) Pleaf Kind.Pleaf r f t b refl refl refl refl refl
      (λ at. (λ x. refl, refl, λ x g. refl, refl))
  make_edits (Make.Thread comp) r f t b = λ range e table g k j at v calm.
      made (Call.Make (Make.Thread comp) r f t b) (Thread (record { stack = k.frame ∷ []; runs_on = None })) Kind.Thread r f range
      (Under (found table) b) at refl refl refl (λ x. refl, refl, λ x g. refl, refl) (λ lim. refl)
      (λ o h. (named_fit s o c comp Kind.Comp k h.sound h.is j, tt)) refl refl tt e v calm
  make_edits (Make.Tcap sched quality) r f t b = λ range e table g at v calm.
      made (Call.Make (Make.Tcap sched quality) r f t b) (Tcap (record { budget = 0; qualities = (sched, quality) ∷ [] }))
      Kind.Tcap r f range (Under (found table) b) at refl refl refl (λ x. refl, refl, λ x g. refl, refl)
      (λ lim. (refl, (lim, tt, tt))) (λ o h. tt) refl refl tt e v calm
  make_edits (Make.Comp x p l) r f t b = λ range e table g own_table a own_pages d at v calm.
      let q1 = none_parts (refusal_of s c (outside (found range) f)) (first_cause s c (not_blank s f ∷ not_taken s l)) calm in
      let q2 = none_parts (refusal_of s c (not_blank s f)) (first_cause s c (not_taken s l)) q1.1 in
      let q3 = none_parts (refusal_of s c (When (is_live (s.number l)) Reply.Occupied)) _ q2.1 in
      let q4 = none_parts (waits_of s c (NumberOf l)) _ q3.1 in
      let q5 = none_parts (refusal_of s c (When (epoch_of (s.number l) == s.limits.epochs) Reply.EpochsSpent)) None q4.1 in
      let fields : CompFields =
      record { table = own_table.frame; pages = own_pages.frame; number = l; epoch = epoch_of (s.number l) + 1 } in
      two (Call.Make (Make.Comp x p l) r f t b) (Component f fields) (Fill at (plain_cap Kind.Comp f))
      (λ x. refl, refl, λ x g. refl, refl) (refl, λ x. refl, tt) (
        (
          when_not (is_live (s.number l)) Reply.Occupied q3.0,
          refl,
          eqb-false (epoch_of (s.number l)) s.limits.epochs (when_not (epoch_of (s.number l) == s.limits.epochs) Reply.EpochsSpent q5.0),
        ),
        tt,
      ) (λ lim. (lim, tt))
      (λ o h. (
        fresh s c o h r f range (not_taken s l) (Comp fields) e refl refl calm,
        fill_known s c o h (Under (found table) b) at (plain_cap Kind.Comp f) tt v,
      ))
      (λ o h. (
        (named_fit s o c x Kind.Table own_table h.sound h.is a, named_fit s o c p Kind.Pages own_pages h.sound h.is d),
        fresh_good s c o h f (Kernel (Comp fields)) Kind.Comp (Under (found table) b) at
            (fresh s c o h r f range (not_taken s l) (Comp fields) e refl refl calm).bare refl refl tt v,
      ))

  retype_edits : (r f : ℕ) (k : FrameKind) → EditsFrom (λ v es. Edits (Call.Retype r f k) c s es) s c (retype_rule s r f k)
  retype_edits r f FrameKind.User = λ range e calm.
      one (Call.Retype r f FrameKind.User) (Become f User) (λ x. refl, refl, λ x g. refl, refl) tt (λ lim. tt)
      (λ o h. (refl, fresh_at s c o h f User Untyped (untyped_by s o c r f range h e calm) refl refl refl)) (λ o h. tt)
  retype_edits r f FrameKind.Kernel = λ range e calm.
      one (Call.Retype r f FrameKind.Kernel) (Become f (Kernel Blank)) (λ x. refl, refl, λ x g. refl, refl) tt (λ lim. tt)
      (λ o h. (refl, fresh_at s c o h f (Kernel Blank) Untyped (untyped_by s o c r f range h e calm) refl refl refl)) (λ o h. tt)
  retype_edits r f FrameKind.Untyped = λ range e calm.
      let full : Cause = When (not (is_empty s f (s.frame f))) Reply.NotEmpty in
      let referenced : Cause = When (nat_lt 0 (refs s f)) (Reply.Referenced (refs s f)) in
      let p = none_parts (refusal_of s c (outside (found range) f)) (first_cause s c (not_retyped s f FrameKind.Untyped)) calm in
      let p1 = none_parts (refusal_of s c (is_untyped_now s f))
      (first_cause s c (referenced ∷ WaitedFor (FrameOf f) ∷ Unflushed (FrameOf f) ∷ full ∷ [])) p.1 in
      let p2 = none_parts (refusal_of s c referenced) (first_cause s c (WaitedFor (FrameOf f) ∷ Unflushed (FrameOf f) ∷ full ∷ [])) p1.1 in
      let p3 = none_parts (waits_of s c (FrameOf f)) (first_cause s c (Unflushed (FrameOf f) ∷ full ∷ [])) p2.1 in
      let p4 = none_parts (flushes_of s (FrameOf f)) (first_cause s c (full ∷ [])) p3.1 in
      let p5 = none_parts (refusal_of s c full) None p4.1 in
      one (Call.Retype r f FrameKind.Untyped) (Untype f) (λ x. refl, refl, λ x g. refl, refl) p4.0 (λ lim. tt) (λ o h. record {
        below = in_range s o c r f range h e p.0;
        empty = not_not (is_empty s f (s.frame f)) (when_not (not (is_empty s f (s.frame f))) Reply.NotEmpty p5.0);
        unnamed = zero_refs (refs s f) (when_not (nat_lt 0 (refs s f)) (Reply.Referenced (refs s f)) p2.0);
        unwaited = none_waiting s c (FrameOf f) p3.0;
      }) (λ o h. tt)

  touch_edits : (v : ℕ) (t : Option Translation) → EditsFrom (λ x es. Edits (Call.Touch v) c s es) s c (touch_by (comp_of s c).pages v t)
  touch_edits v None = λ mapping e calm.
      let t : Translation = record { pages = (comp_of s c).pages; page = v; frame = mapping.frame; flags = record { 0 = mapping.arg } } in
      one (Call.Touch v) (Cache t) (λ x. refl, refl, λ x g. refl, refl) (mapping, e, refl) (λ lim. tt)
      (λ o h. own_core s c o h) (λ o h. tt)
  touch_edits v (Some t) = λ calm. nothing (Call.Touch v) (λ x. refl, refl, λ x g. refl, refl)

  switch_edits : (a b : ℕ) (j k : Capability) → named s c a (to_use (only Kind.Thread)) ≡ Found j
      → named s c b (to_use (only Kind.Tcap)) ≡ Found k → (e : Option ℕ) → (thread_in (s.frame j.frame)).runs_on ≡ e
      → EditsFrom (λ v es. Edits (Call.Switch a b) c s es) s c (switch_to (found j) k.frame e)
  switch_edits a b j k g d (Some e) is = λ calm. absurd (some_none (Reply.Running e) (none_parts (Some (Reply.Running e)) None calm).0)
  switch_edits a b j k g d None is = λ calm.
      one (Call.Switch a b) (Switch j.frame k.frame) (λ x. refl, refl, λ x g. refl, refl) tt (λ lim. tt)
      (λ o h. let fit = named_fit s o c a Kind.Thread j h.sound h.is g in record {
        core = own_core s c o h;
        old = own_known s c o h;
        new = record { fit = fit; below = thread_below s o j.frame h.sound fit };
        idle = is;
      }) (λ o h. named_fit s o c b Kind.Tcap k h.sound h.is d)

  pub rule_edits : (call : Call) → EditsFrom (λ v es. Edits call c s es) s c (rule_of s c call)
  rule_edits (Call.Look a) = λ k e calm. nothing (Call.Look a) (λ x. refl, refl, λ x g. refl, refl)
  rule_edits (Call.Copy a t b rights) = λ k e table f at g calm.
      filled (Call.Copy a t b rights) (Under (found table) b) at (kept k rights.0) (λ x. refl, refl, λ x g. refl, refl) (λ o h. tt) g
      (λ o h. let good = (named_good s o c a (to_copy any) k h.sound h.is e).0 in (good.fit, good.within))
  rule_edits (Call.Remove t b) = λ table e at k g calm.
      removed (Call.Remove t b) (Under (found table) b) at k (λ x. refl, refl, λ x g. refl, refl) g
  rule_edits (Call.Grow t i l) = λ table e leaf f at g calm.
      filled (Call.Grow t i l) (InRoot (found table) i) at (plain_cap Kind.Link leaf.frame) (λ x. refl, refl, λ x g. refl, refl)
      (λ o h. let a : IsGood s table × IsTrue (root table.kind) = named_good s o c t (to_use root) table h.sound h.is e in
      root_node table.kind (s.frame table.frame) a.1 a.0.fit) g
      (λ o h. (leaf_link table.kind (s.frame leaf.frame) (named_fit s o c l (leaf_of table.kind) leaf h.sound h.is f), tt))
  rule_edits (Call.Shrink t i) = λ table e at k g calm.
      removed (Call.Shrink t i) (InRoot (found table) i) at k (λ x. refl, refl, λ x g. refl, refl) g
  rule_edits (Call.Retype r f k) = retype_edits r f k
  rule_edits (Call.Make what r f t b) = make_edits what r f t b
  rule_edits (Call.Map p v r f w) = λ pages e range g at u calm.
      filled (Call.Map p v r f w) (Under (found pages) v) at _ (λ x. refl, refl, λ x g. refl, refl) (λ o h. tt) u (λ o h.
      let q = first_two s c (outside (found range) f) (not_user s f) [] calm in
      let user = user_is (s.frame f) (kind_by s f (is_user (s.frame f)) (in_range s o c r f range h g q.0) q.1) in
      (subst (λ x. IsTrue (fits Kind.Page x)) (sym user) refl, tt))
  rule_edits (Call.Unmap p v) = λ pages e at k g calm.
      removed (Call.Unmap p v) (Under (found pages) v) at k (λ x. refl, refl, λ x g. refl, refl) g
  rule_edits (Call.Touch v) = touch_edits v (translation_of (s.core c).cached (comp_of s c).pages v)
  rule_edits Call.Flush = λ calm.
      one Call.Flush Flush (λ x. refl, refl, λ x g. refl, refl) tt (λ lim. tt) (λ o h. own_core s c o h) (λ o h. tt)
  rule_edits (Call.Gate k t b) = λ comp e table f at g calm.
      filled (Call.Gate k t b) (Under (found table) b) at _ (λ x. refl, refl, λ x g. refl, refl) (λ o h. tt) g
      (λ o h. (comp_gate (s.frame comp.frame) (named_fit s o c k Kind.Comp comp h.sound h.is e), tt))
  rule_edits (Call.Kill k) = λ comp e calm.
      let fields = comp_in (s.frame comp.frame) in
      let p = none_parts (refusal_of s c (not_live s (found comp) fields.number fields.epoch)) None calm in
      let live : is_live_in (s.number fields.number) fields.epoch ≡ true = not_not _ (when_not _ Reply.Dead p.0) in
      one (Call.Kill k) (Deaden fields.number fields.epoch) (λ x. refl, refl, λ x g. refl, refl) live (λ lim. tt)
      (λ o h. number_small s c o h fields.number fields.epoch (s.number fields.number) refl live) (λ o h. tt)
  rule_edits (Call.Call g) = λ gate e calm.
      let p = none_parts (refusal_of s c (When (nat_le 16 (length (thread_of s c).stack)) Reply.Deep)) _ calm in
      one (Call.Call g) (Push gate.frame) (λ x. refl, refl, λ x g. refl, refl)
      (leb-false 16 (length (thread_of s c).stack) (when_not _ Reply.Deep p.0)) (λ lim. tt) (λ o h. own_known s c o h)
      (λ o h. gate_comp (s.frame gate.frame) (named_fit s o c g Kind.Gate gate h.sound h.is e))
  rule_edits Call.Ret = λ calm.
      let p = none_parts (refusal_of s c (When (nat_le (length (thread_of s c).stack) 1) Reply.Bottom)) None calm in
      one Call.Ret Pop (λ x. refl, refl, λ x g. refl, refl)
      (leb-false (length (thread_of s c).stack) 1 (when_not _ Reply.Bottom p.0)) (λ lim. tt) (λ o h. own_known s c o h) (λ o h. tt)
  rule_edits (Call.Switch f q) = λ thread e tcap g.
      switch_edits f q thread tcap e g (thread_in (s.frame thread.frame)).runs_on refl
  rule_edits (Call.Tick n) = λ calm.
      one (Call.Tick n) (Charge n) (λ x. refl, refl, λ x g. refl, refl) tt (λ lim. lim)
      (λ o h. (own_core s c o h, charge_known s c o h)) (λ o h. tt)
  rule_edits (Call.Transfer a b m) = λ j e k f calm.
      one (Call.Transfer a b m) (Move j.frame k.frame m) (λ x. refl, refl, λ x g. refl, refl) tt (λ lim. tt)
      (λ o h. moves_known s c o h a b m j k (are_unlike s (found j) (found k) ∷ []) e f calm) (λ o h. tt)
  rule_edits (Call.Delegate a b m) = λ j e k f calm.
      let p = none_parts (refusal_of s c (are_same (found j) (found k))) _ calm in
      let q = none_parts (refusal_of s c (is_short s (found j) m)) _ p.1 in
      let r = none_parts (refusal_of s c (are_many s (found j) (found k))) None q.1 in
      two (Call.Delegate a b m) (Move j.frame k.frame m) (Merge k.frame (merged_list s j.frame k.frame))
      (λ x. refl, refl, λ x g. refl, refl) (refl, λ x. refl, tt) (tt, tt) (λ lim. (tt, tt)) (λ o h. (
        moves_known s c o h a b m j k (are_many s (found j) (found k) ∷ []) e f calm,
        record {
          to = moved_known s c o h j.frame k.frame m k.frame (tcap_known s c o h b k f);
          other = j.frame;
          from = moved_known s c o h j.frame k.frame m j.frame (tcap_known s c o h a j e);
          is = merged_moved s j.frame k.frame m;
          few = ltb-false 8 (length (merged_list s j.frame k.frame)) (when_not _ Reply.TooMany r.0);
        },
      )) (λ o h. (tt, tt))
  rule_edits (Call.Test a b) = λ j e k f calm. nothing (Call.Test a b) (λ x. refl, refl, λ x g. refl, refl)
  rule_edits (Call.Replenish a m) = λ j e calm.
      one (Call.Replenish a m) (Give j.frame m) (λ x. refl, refl, λ x g. refl, refl) tt (λ lim. tt)
      (λ o h. gives_known s c o h a m j e calm) (λ o h. tt)
  rule_edits (Call.Part r f n t b) = λ k e table g at u calm.
      filled (Call.Part r f n t b) (Under (found table) b) at (part_of k f n) (λ x. refl, refl, λ x g. refl, refl) (λ o h. tt) u
      (λ o h. let a : IsGood s k × IsTrue (only Kind.Range k.kind) = named_good s o c r (to_part (only Kind.Range)) k h.sound h.is e in
      let good = part_good s k f n a.0 a.1 (within_by s c k f n calm) in (good.fit, good.within))

  -- What holds of such edits holds of a call's change.
  pub rule_by : (call : Call) (P : Change → Type 0) → ((v : Value) (es : List Edit) → Edits call c s es → P (does c s v es))
      → ChangesFrom P s c (rule_of s c call)
  rule_by call P by = edits_map (λ v es. Edits call c s es) (λ v es. P (does c s v es)) s c (rule_of s c call) by (rule_edits call)

  pub found_by : (call : Call) (P : Change → Type 0) → ((v : Value) (es : List Edit) → Edits call c s es → P (does c s v es))
      → IfFound (change_of s c call) P
  found_by call P by = outcome_from P s c (rule_of s c call) (rule_by call P by)

  -- What holds after the edits of a call, whose grace periods begin, holds after its answer `ok`.
  pub after_ok : (call : Call) (v : Value) (Q : State → Type 0) → MayReply s c call (Reply.Ok v)
      → ((es : List Edit) → Edits call c s es → Q (begun s (begins_all c s es) (after_edits c s es)))
      → Q (changed s (change_of s c call))
  after_ok call v Q may by =
      found_after (change_of s c call) (found_by call (λ change. Q (begun s change.begins change.next)) (λ x es e. by es e)) may.1.1
    where
      found_after : (x : Judged Change) → IfFound x (λ change. Q (begun s change.begins change.next))
          → IsFoundAnd x (λ k. k.value ≡ v) → Q (changed s x)
      found_after (Refused r) by ok = absurd ok
      found_after (Found change) by ok = by
