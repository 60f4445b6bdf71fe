-- What the words of a component say, and which frames they name.
use Rattle.live_invariant.specs.step_ways.proofs.{◌≡◌, ◌<◌, ℕ, None, IsTrue, refl, ◌∙◌, ap, subst, Setting, IsSetting, EntryAt, Kernel}
use Rattle.live_invariant.specs.step_ways.proofs.{Comp, PlaceOf, State, comp_in, fits, IsSound, IsObjectGood, opened, events_of}
use Rattle.live_invariant.specs.step_ways.proofs.{mark_in_frame, marked_by, stamp, Trace, state_after, last_left, sound_of, Core}
use Rattle.live_invariant.specs.step_ways.proofs.{settled_by, held_by, Invariant, IsFrameWord, may_keep, not_exclusive_value, limits_of}
use Rattle.{live_invariant.specs.step_ways.proofs.Kind, live_invariant.specs.kernel_invariant.proofs.SoundRemovals.below_by}
use Rattle.{live_invariant.specs.core_invariant.specs.Words.IsCompWord, live_invariant.proofs.Numbers.comp_is}

module _ (setup : Setting) (setting : IsSetting setup) (cores : ℕ → Core) (t : Trace) (stands : Invariant setup cores t) (f : ℕ)
    (comp : IsTrue (fits Kind.Comp ((state_after setup t).frame f))) where
  abbrev s : State
  s = state_after setup t

  pub holds_comp : s.frame f ≡ Kernel (Comp (comp_in (s.frame f)))
  holds_comp = comp_is (s.frame f) comp

  pub comp_says : (i : ℕ) → IsCompWord (comp_in (s.frame f)) i (last_left setup t (EntryAt f i))
  comp_says i =
      subst (λ x. IsFrameWord s.limits.frames x (s.place f i) (stamp setup t (PlaceOf f i)) i
      (last_left setup t (EntryAt f i))) holds_comp
      (subst (λ (n : ℕ). IsFrameWord s.limits.frames (s.frame f) (s.place f i) (stamp setup t (PlaceOf f i)) i n)
      (not_exclusive_value setup cores t stands f (ap may_keep holds_comp) i (last_left setup t (EntryAt f i)))
      (subst (λ o. IsFrameWord s.limits.frames (s.frame f) (s.place f i) (stamp setup t (PlaceOf f i)) i
      (settled_by o (held_by cores) (EntryAt f i) (last_left setup t (EntryAt f i)))) unmarked (stands.words (EntryAt f i))))
    where
      unmarked : marked_by setup t (EntryAt f i) ≡ None
      unmarked = ap (λ x. mark_in_frame x i (last_left setup t (EntryAt f i))) holds_comp

  sound : IsSound s (opened (events_of t))
  sound = sound_of setup setting t stands.legal

  good : IsObjectGood s (Kernel (Comp (comp_in (s.frame f))))
  good = subst (IsObjectGood s) holds_comp (sound.objects f)

  frames_are : s.limits.frames ≡ setup.frames
  frames_are = ap (λ l. l.frames) (limits_of setup t)

  -- the frames of its table and of its pages are of the machine
  pub table_below : (comp_in (s.frame f)).table < setup.frames
  table_below = subst (λ (n : ℕ). (comp_in (s.frame f)).table < n) frames_are
      (below_by s (opened (events_of t)) (comp_in (s.frame f)).table sound (fits Kind.Table) refl good.0)

  pub pages_below : (comp_in (s.frame f)).pages < setup.frames
  pages_below = subst (λ (n : ℕ). (comp_in (s.frame f)).pages < n) frames_are
      (below_by s (opened (events_of t)) (comp_in (s.frame f)).pages sound (fits Kind.Pages) refl good.1)

  pub comp_below : f < setup.frames
  comp_below = subst (λ (n : ℕ). f < n) frames_are (below_by s (opened (events_of t)) f sound (fits Kind.Comp) refl comp)
