-- Each edit, and so each call that is carried out, keeps a state sound.
use Rattle.kernel_rules.proofs.{◌≡◌, inl, inr, ℕ, ◌<◌, Bool, true, false, refl, sym, ◌∙◌, subst, ◌==◌, if◌then◌else◌, IsTrue, List, [], ◌∷◌}
use Rattle.kernel_rules.proofs.{Some, None, take, drop, false≢true, InLimits, Call, Comp, Thread, Frame, Kernel, Thing, PlaceOf, put}
use Rattle.kernel_rules.proofs.{thread_of, frame_names, number_names, same_thing, begun, Edit, Fill, Node, Become, Untype, Component}
use Rattle.kernel_rules.proofs.{Deaden, Push, Pop, Cache, Charge, Move, Merge, Give, edited, after_edits, begins_all, cleared, running}
use Rattle.kernel_rules.proofs.{tcap_at, Change, rule_of, fits, is_node, put_same, put_other, Kind}
use Rattle.kernel_rules.specs.{State.State, Edits.Remove, Edits.Switch, Edits.Flush, Edits.begins_in}
use Rattle.kernel_invariant.proofs.Sound.{IsObjectGood, IsSound, weaken, frame_step}
use Rattle.kernel_invariant.proofs.SoundSteps.{fill_step, core_step, live_step, dead_step, clear_step}
use Rattle.kernel_invariant.proofs.SoundRemovals.{frames_no_place, begin_step, remove_step, unnamed, untype_step}
use Rattle.kernel_invariant.proofs.SoundCalls.{IsOpen, empty_node, nothing_held, core_keeps, flush_keeps, thread_step, own_thread}
use Rattle.kernel_invariant.proofs.SoundCalls.{stack_comps, popped, running_step, running_fit, tcap_step, moved_step}
use Rattle.kernel_invariant.proofs.Edited.{from_bare, Tested, Limited, Known, Good, Each, AreLater, Calm, rule_by}
use Rattle.{std.proofs.lemmas.Bool.cases_eq, std.specs.List.list_any, kernel_invariant.proofs.Facts.ChangesFrom}

-- The state after a change, in which the call of core c is no longer open, is sound.
abbrev pub Keeps : State → (ℕ → Bool) → ℕ → Change → Type 0
Keeps s o c change = IsSound (begun s change.begins change.next) (put o c false)

pub closed : (o : ℕ → Bool) (c d : ℕ) → put o c false d ≡ true → o d ≡ true
closed o c d q = elim (cases_eq d c) [
  | inl same ↦ absurd (false≢true (sym (put_same o c false d same) ∙ q))
  | inr other ↦ sym (put_other o c false d other) ∙ q
]

-- A change that begins no grace period of a place.
done : (s next : State) (o : ℕ → Bool) (c : ℕ) (things : List Thing) → IsOpen s o c
    → ((f i : ℕ) → list_any (same_thing (PlaceOf f i)) things ≡ false)
    → IsSound next o → IsSound (begun s things next) (put o c false)
done s next o c things h apart after =
    weaken (begun s things next) o (put o c false) (closed o c)
    (begin_step s next o things apart (λ d q. (h.sound.inside d q).0) after)

plain : (s next : State) (o : ℕ → Bool) (c : ℕ) → IsOpen s o c → IsSound next o → IsSound (begun s [] next) (put o c false)
plain s next o c h after = done s next o c [] h (λ f i. refl) after

-- The object of a node names nothing.
node_good : (s : State) (x : Frame) → IsTrue (is_node x) → IsObjectGood s x
node_good s (Kernel (Comp k)) n = absurd (false≢true n)
node_good s (Kernel (Thread t)) n = absurd (false≢true n)
node_good s _ n = tt

module _ (s : State) (o : ℕ → Bool) (c : ℕ) (h : IsOpen s o c) where
  edit_keeps : (e : Edit) → Tested c s e → Limited c s e → Known c s e → Good c s e
      → IsSound (begun s (begins_in c s e) (edited c s e)) (put o c false)
  edit_keeps (Fill at k) tested lim known good = plain s (edited c s (Fill at k)) o c h
      (fill_step s o at.node at.index k (record { fit = good.1; within = good.2 }) good.0 known.0.small h.sound)
  edit_keeps (Remove at k) tested lim known good =
      weaken (begun s (begins_in c s (Remove at k)) (edited c s (Remove at k))) o (put o c false) (closed o c)
      (remove_step s o at.node at.index k known.1 h.sound)
  edit_keeps (Node f object) tested lim known good = plain s (edited c s (Node f object)) o c h
      (frame_step (cleared s f) o f (Kernel object) known.2.below (from_bare (s.frame f) (Kernel object) known.2.bare)
      (node_good (cleared s f) (Kernel object) lim) (clear_step s o f h.sound))
  edit_keeps (Become f x) tested lim known good = plain s (edited c s (Become f x)) o c h
      (frame_step s o f x known.1.below (from_bare (s.frame f) x known.1.bare) good h.sound)
  edit_keeps (Untype f) tested lim known good =
      begin_step s (edited c s (Untype f)) (put o c false) (begins_in c s (Untype f))
      (λ g i. frames_no_place g i (frame_names (s.frame f))) (λ d q. (h.sound.inside d (closed o c d q)).0)
      (untype_step s o c f known.below (unnamed s f known.unnamed) known.unwaited (λ i k at.
      let b : IsTrue (is_node (s.frame f)) × (i < 64) = h.sound.bare f i k at in
      nothing_held s f i k (empty_node s f (s.frame f) known.empty b.0) b.1 at) h.sound)
  edit_keeps (Component f k) tested lim known good = plain s (edited c s (Component f k)) o c h
      (live_step (edited c s (Become f (Kernel (Comp k)))) o k.number k.epoch f
      (subst (λ y. IsTrue (fits Kind.Comp y)) (sym (put_same s.frame f (Kernel (Comp k)) f refl)) refl) lim
      (frame_step s o f (Kernel (Comp k)) known.below (from_bare (s.frame f) (Kernel (Comp k)) known.bare) good h.sound))
  edit_keeps (Deaden l e) tested lim known good = done s (edited c s (Deaden l e)) o c (begins_in c s (Deaden l e)) h
      (λ f i. frames_no_place f i (number_names (s.number l))) (dead_step s o l e h.sound)
  edit_keeps (Push f) tested lim known good = plain s (edited c s (Push f)) o c h
      (thread_step s o (s.core c).thread (record (thread_of s c) { stack = f ∷ (thread_of s c).stack }) (own_thread s o c h)
      (λ stack. (good, stack_comps s (thread_of s c).stack stack)) h.sound)
  edit_keeps Pop tested lim known good = done s (edited c s Pop) o c (begins_in c s Pop) h
      (λ f i. frames_no_place f i (take 1 (thread_of s c).stack))
      (thread_step s o (s.core c).thread (record (thread_of s c) { stack = drop 1 (thread_of s c).stack }) (own_thread s o c h)
      (popped s (thread_of s c).stack tested) h.sound)
  edit_keeps (Switch f q) tested lim known good =
      let old : ℕ = (s.core c).thread in
      let idle : State = running s old None in
      done s (edited c s (Switch f q)) o c (begins_in c s (Switch f q)) h
      (λ g i. frames_no_place g i (old ∷ (if q == (s.core c).tcap then [] else (s.core c).tcap ∷ [])))
      (core_step (running idle f (Some c)) o c (record (s.core c) { thread = f; tcap = q }) refl
      (λ m. (
        running_fit idle f (Some c) Kind.Thread f (running_fit s old None Kind.Thread f known.new.fit),
        running_fit idle f (Some c) Kind.Tcap q (running_fit s old None Kind.Tcap q good),
      ))
      (running_step idle o f (Some c) known.new.below (running_step s o old None (own_thread s o c h) h.sound)))
  edit_keeps (Cache t) tested lim known good =
      plain s (edited c s (Cache t)) o c h (core_keeps s o c _ refl refl refl h.sound)
  edit_keeps Flush tested lim known good = plain s (edited c s Flush) o c h (flush_keeps s o c h)
  edit_keeps (Charge n) tested lim known good =
      let q : ℕ = (s.core c).tcap in
      plain s (edited c s (Charge n)) o c h
      (core_keeps _ o c _ refl refl refl (tcap_step s o q (record (tcap_at s q) { budget = _ }) known.1.below h.sound))
  edit_keeps (Move a b m) tested lim known good = plain s (edited c s (Move a b m)) o c h
      (moved_step s o a b m known.from.below known.to.below h.sound)
  edit_keeps (Merge f qs) tested lim known good = plain s (edited c s (Merge f qs)) o c h
      (tcap_step s o f (record (tcap_at s f) { qualities = qs }) known.to.below h.sound)
  edit_keeps (Give f m) tested lim known good =
      plain s (edited c s (Give f m)) o c h
      (core_keeps _ o c _ refl refl refl (tcap_step s o f (record (tcap_at s f) { budget = _ }) known.to.below h.sound))

  -- Edits after the first.
  later_keep : (o : ℕ → Bool) (things : List Thing) (t : State) (es : List Edit) → AreLater es → Each Known c t es → Each Good c t es
      → IsSound (begun s things t) o → IsSound (begun s things (after_edits c t es)) o
  later_keep o things t [] later known good sound = sound
  later_keep o things t (Fill at k ∷ es) later known good sound =
      later_keep o things (edited c t (Fill at k)) es later known.1 good.1
      (fill_step (begun s things t) o at.node at.index k (record { fit = good.0.1; within = good.0.2 }) good.0.0 known.0.0.small sound)
  later_keep o things t (Merge f qs ∷ es) later known good sound =
      later_keep o things (edited c t (Merge f qs)) es later known.1 good.1
      (tcap_step (begun s things t) o f (record (tcap_at t f) { qualities = qs }) known.0.to.below sound)
  later_keep o things t (_ ∷ es) later known good sound = absurd later

  edits_keep : (es : List Edit) → Calm c s es → Each Tested c s es → Each Limited c s es → Each Known c s es → Each Good c s es
      → IsSound (begun s (begins_all c s es) (after_edits c s es)) (put o c false)
  edits_keep [] calm tested lim known good = plain s s o c h h.sound
  edits_keep (e ∷ es) calm tested lim known good =
      subst (λ things. IsSound (begun s things (after_edits c s (e ∷ es))) (put o c false)) (sym calm.0)
      (later_keep (put o c false) (begins_in c s e) (edited c s e) es calm.2 known.1 good.1
      (edit_keeps e tested.0 lim.0 known.0 good.0))

  pub rule_keeps : (call : Call) → InLimits call → ChangesFrom (Keeps s o c) s c (rule_of s c call)
  rule_keeps call lim = rule_by s c call (Keeps s o c)
      (λ v es e. edits_keep es e.calm e.tested (e.limited lim) (e.known o h) (e.good o h))
