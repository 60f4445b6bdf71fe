-- What the frozen counters of a frame say: while a core holds them all, nothing refers to the frame where their sum is 0, and their latest
-- stamp is that of the frame's last release. So nobody else uses the frame, and what was found of its object stays.
use Rattle.core_invariant.proofs as low
use low.{◌≡◌, ◌≢◌, inl, inr, ℕ, pos, ◌<◌, Bool, true, false, List, Option, ◌∷◌, length, slice_get, Some, IsTrue, arith, refl, sym, ◌∙◌, ap}
use low.{subst, false≢true, Setting, IsSetting, CountFits, word_of_count, count_of_word, frame_of_word, residue, CountWord, FrameWord, Word}
use low.{CountAt, FrameAt, Frame, Untyped, User, Kernel, Object, Blank, Comp, Thread, Tcap, FrameOf, State}
use low.{held_in, refs, is_node, counters, count_in, count_sum, MayFollow, frame_value, stamp, Step, Trace, state_after, unheld}
use low.{latest_stamp, released, Owned, Swept, release_of, Core, stamp_in, newest_of, holds_release, settled, held_by, count_shown}
use low.{AreFrozen, AreKept, IsLookedAt, IsQuiet, SaysTyped, limits_of, release_frame, thaw_all, thaw_from, thaw_here, FrameKind, Obj}
use Rattle.core_invariant.specs.{Holding.Holding, Invariant.Invariant}
use Rattle.kept_facts.proofs.{FrozenSums.counters_are, FrozenSums.frozen_sum, FrozenSums.got_all, Few.refs_residue}
use Rattle.{std.specs.List.range_with_len, std.proofs.lemmas.Option.slice_get_within}
use Rattle.{kernel_laws.specs.kernel_invariant.proofs.FrameTurns.is_typed}
use Rattle.{thread_laws.specs.kernel_history.specs.ObjectWords.name_of_object, resting_frames.proofs.Rests.step_rests}
use Rattle.{core_invariant.specs.stage_sweep.specs.Counters.sum_of_counts}
use Rattle.thread_laws.specs.frame_words.proofs.CountLemmas as counts

-- A frame of which the word says that it is a blank kernel frame.
pub kernel_is : (x : Frame) → (frame_value x).kind ≡ FrameKind.Kernel → (frame_value x).object ≡ Obj.Blank → x ≡ Kernel Blank
kernel_is (Kernel Blank) kind object = refl
kernel_is Untyped kind object = absurd (not_kernel kind)
  where
    not_kernel : FrameKind.Untyped ≡ FrameKind.Kernel → ⊥
    not_kernel h = cc
kernel_is User kind object = absurd (not_kernel kind)
  where
    not_kernel : FrameKind.User ≡ FrameKind.Kernel → ⊥
    not_kernel h = cc
kernel_is (Kernel x) kind object = object_is x object
  where
    object_is : (x : Object) → name_of_object x ≡ Obj.Blank → Kernel x ≡ Kernel Blank
    object_is Blank h = refl
    object_is _ h = absurd (cc)

-- What a core holds that sweeps this frame: the frame's word, and each counter that it has frozen, which stand for what was found.
pub record HoldsSwept (h : Holding) (f word : ℕ) (kept : List CountWord) : Type 0 where
  pub marks : h.marks (FrameAt f) ≡ true
  pub stands : h.stands (FrameAt f) ≡ word
  pub counts : (d : ℕ) → d < length kept
      → (h.marks (CountAt f d) ≡ true) × (h.stands (CountAt f d) ≡ word_of_count (released false (slice_get kept d)))

pub release_counter : (f word : ℕ) (w : Swept) (clear : Bool) (h : Holding) (d : ℕ) → w.frame ≡ f → d < length w.words
    → ((holds_release (release_of f word w clear) h).marks (CountAt f d) ≡ true)
    × ((holds_release (release_of f word w clear) h).stands (CountAt f d) ≡ word_of_count (released clear (slice_get w.words d)))
release_counter f word w clear h d same below =
    subst (λ (n : ℕ). ((holds_release (release_of n word w clear) h).marks (CountAt n d) ≡ true)
    × ((holds_release (release_of n word w clear) h).stands (CountAt n d) ≡ word_of_count (released clear (slice_get w.words d)))) same
    (let all = thaw_all w clear h (CountAt w.frame d) in
    let here = thaw_here (thaw_from w clear) h d (omega arith) below in
    (all.0 ∙ here.0, all.1 ∙ here.1))

pub release_swept : (f word : ℕ) (w : Swept) (h : Holding) → w.frame ≡ f
    → HoldsSwept (holds_release (release_of f word w false) h) f word w.words
release_swept f word w h same = record {
  marks = (release_frame (release_of f word w false) h).0;
  stands = (release_frame (release_of f word w false) h).1;
  counts = λ d below. release_counter f word w false h d same below;
}

-- Where a frame rests, what was found of its object stays.
pub record LeavesFrame (s s' : State) (f : ℕ) : Type 0 where
  pub frame : s'.frame f ≡ s.frame f
  pub place : (i : ℕ) → IsTrue (is_node (s.frame f)) → s'.place f i ≡ s.place f i

pub looked_on : (s s' : State) (f n : ℕ) (o : Owned) → LeavesFrame s s' f → IsLookedAt s f (s.frame f) n o
    → IsLookedAt s' f (s'.frame f) n o
looked_on s s' f n o rests has = subst (λ x. IsLookedAt s' f x n o) (sym rests.frame) (by (s.frame f) (rests.place) has)
  where
    by : (x : Frame) → ((i : ℕ) → IsTrue (is_node x) → s'.place f i ≡ s.place f i) → IsLookedAt s f x n o → IsLookedAt s' f x n o
    by (Kernel (Comp k)) place has = has
    by (Kernel (Thread k)) place has = has
    by (Kernel (Tcap q)) place has = has
    by (Kernel Blank) place has = tt
    by User place has = tt
    by Untyped place has = tt
    by _ place has = λ i below. ap held_in (place i refl) ∙ has i below

-- Where all count words of a frame show what was found there, the counts found sum to the references to the frame, modulo 2 ^ 16, and the
-- latest stamp found is that of its last release.
module _ (setup : Setting) (cores : ℕ → Core) (t : Trace) (stands : Invariant setup cores t) (f : ℕ) (kept : List CountWord)
    (all : length kept ≡ length (counters setup.cores))
    (shows : (d : ℕ) (v : CountWord) → slice_get kept d ≡ Some v
    → count_shown setup (held_by cores) t f d ≡ Some (unheld v.count v.stamp)) where
  abbrev its_counts : ℕ → Option CountWord
  its_counts = count_shown setup (held_by cores) t f

  counters_here : counters (state_after setup t).limits.cores ≡ range_with_len 0 (length kept)
  counters_here = ap (λ l. counters l.cores) (limits_of setup t) ∙ counters_are setup.cores (length kept) all

  found_here : (count_sum its_counts (range_with_len 0 (length kept)) ≡ sum_of_counts kept)
      × (newest_of its_counts (range_with_len 0 (length kept)) ≡ latest_stamp kept)
  found_here = frozen_sum its_counts kept (λ d v at. (ap count_in (shows d v at), ap stamp_in (shows d v at)))

  pub kept_sum : residue (sum_of_counts kept) ≡ residue (pos (refs (state_after setup t) f))
  kept_sum = ap residue (sym found_here.0 ∙ ap (count_sum its_counts) (sym counters_here)) ∙ (stands.sums f).sum

  -- which are fewer than 2 ^ 16, and so are that
  pub kept_refs : IsSetting setup → residue (sum_of_counts kept) ≡ refs (state_after setup t) f
  kept_refs setting = kept_sum ∙ refs_residue setup setting t stands.legal f

  pub kept_stamp : stamp setup t (FrameOf f) ≡ latest_stamp kept
  kept_stamp = sym (stands.sums f).newest ∙ ap (newest_of its_counts) counters_here ∙ found_here.1

-- The counters that a core holds of a frame.
module _ (setup : Setting) (cores : ℕ → Core) (t : Trace) (stands : Invariant setup cores t) (c f word : ℕ) (kept : List CountWord)
    (h : Holding) (held_settles : (w : Word) → h.marks w ≡ true → settled setup (held_by cores) t w ≡ h.stands w)
    (has : HoldsSwept h f word kept) (fits : AreKept kept) where
  -- the frame is what its word says
  pub frame_says : frame_of_word word ≡ Some (frame_value ((state_after setup t).frame f))
  frame_says = subst (λ (n : ℕ). frame_of_word n ≡ Some (frame_value ((state_after setup t).frame f)))
      (held_settles (FrameAt f) has.marks ∙ has.stands) (stands.words (FrameAt f))

  -- a counter shows what was found there
  pub counter_shows : (d : ℕ) (v : CountWord) → d < length kept → slice_get kept d ≡ Some v → CountFits (unheld v.count v.stamp)
      → count_shown setup (held_by cores) t f d ≡ Some (unheld v.count v.stamp)
  counter_shows d v below at fit =
      ap count_of_word (held_settles (CountAt f d) (has.counts d below).0 ∙ (has.counts d below).1
      ∙ ap (λ o. word_of_count (released false o)) at)
      ∙ counts.spelling.reads (unheld v.count v.stamp) fit

  pub kept_shows : (d : ℕ) (v : CountWord) → slice_get kept d ≡ Some v
      → count_shown setup (held_by cores) t f d ≡ Some (unheld v.count v.stamp)
  kept_shows d v at = counter_shows d v (slice_get_within kept d v at) at
      (got_all (λ u. CountFits (unheld u.count u.stamp)) kept d v at fits)

  module _ (frozen : AreFrozen setup.cores kept) where
    abbrev s : State
    s = state_after setup t

    -- nothing refers to the frame
    pub no_refs : IsSetting setup → refs s f ≡ 0
    no_refs setting = sym (kept_refs setup cores t stands f kept frozen.all kept_shows setting) ∙ frozen.none

    -- and the latest stamp is the frame's
    pub stamp_is : stamp setup t (FrameOf f) ≡ latest_stamp kept
    stamp_is = kept_stamp setup cores t stands f kept frozen.all kept_shows

    -- no other core waits for it
    pub none_waits : (at upto flushes : ℕ) → latest_stamp kept ≡ at → IsQuiet setup t c f at upto flushes → (d : ℕ) → d < upto → d ≢ c
        → (s.grace (FrameOf f)).waits d ≡ false
    none_waits at upto flushes same quiet d below other = quiet.passed d below other (stamp_is ∙ same)

    -- so the frame rests while another core steps, where the step does not change what the frame is
    module _ (setting : IsSetting setup) (e : Step) (follows : MayFollow setup t e) (other : c ≢ e.core) (v : FrameWord)
        (met : SaysTyped word v) (value : frame_value ((state_after setup (e ∷ t)).frame f) ≡ frame_value (s.frame f))
        (quiet : IsQuiet setup t c f (latest_stamp kept) setup.cores setup.cores) where
      abbrev s' : State
      s' = state_after setup (e ∷ t)

      shown : v ≡ frame_value (s.frame f)
      shown = same v (frame_value (s.frame f)) (sym met.says ∙ frame_says)
        where
          same : (x y : FrameWord) → Some x ≡ Some y → x ≡ y
          same x y h = cc

      waits_not : (s.grace (FrameOf f)).waits e.core ≡ false
      waits_not = none_waits (latest_stamp kept) setup.cores setup.cores refl quiet e.core follows.is_core (λ same. other (sym same))

      typed_rests : IsTrue (is_typed (s.frame f)) → LeavesFrame s s' f
      typed_rests typed = elim (step_rests setup setting t stands.legal e follows f typed (no_refs setting) waits_not) [
        | inl untyped ↦ absurd (met.kind (ap (λ x. x.kind) shown ∙ ap (λ x. x.kind) (sym value)
            ∙ ap (λ x. (frame_value x).kind) untyped))
        | inr rests ↦ record { frame = rests.frame; place = λ i node. rests.place i }
      ]

      blank_rests : s.frame f ≡ Kernel Blank → LeavesFrame s s' f
      blank_rests at = record {
        frame = kernel_is (s'.frame f) (ap (λ x. x.kind) value ∙ ap (λ x. (frame_value x).kind) at)
            (ap (λ x. x.object) value ∙ ap (λ x. (frame_value x).object) at) ∙ sym at;
        place = λ i node. absurd (false≢true (sym (ap is_node at) ∙ node));
      }

      pub swept_rests : LeavesFrame s s' f
      swept_rests = by (s.frame f) refl
        where
          by : (x : Frame) → s.frame f ≡ x → LeavesFrame s s' f
          by Untyped at = absurd (met.kind (ap (λ x. x.kind) shown ∙ ap (λ x. (frame_value x).kind) at))
          by (Kernel Blank) at = blank_rests at
          by _ at = typed_rests (ap is_typed at)
