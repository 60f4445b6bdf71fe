-- A core's own thread, and the components on its stack.
use Rattle.live_invariant.specs.step_ways.proofs.{◌≡◌, ◌<◌, ◌≤◌, inl, ℕ, List, [], ◌∷◌, length, IsTrue, arith, refl, sym, ap, subst}
use Rattle.live_invariant.specs.step_ways.proofs.{false≢true, Setting, IsSetting, Frame, Kernel, Thread, State, first_of_stack, thread_in}
use Rattle.live_invariant.specs.step_ways.proofs.{thread_of, fits, times, frame_names, refs, IsSound, IsObjectGood, opened, times_cons}
use Rattle.live_invariant.specs.step_ways.proofs.{events_of, IsLegal, Trace, state_after, sound_of, HasComp, limits_of, Kind}
use Rattle.live_invariant.specs.kernel_invariant.proofs.{IsStack, below_by, times_first}
use Rattle.{live_invariant.specs.core_invariant.specs.Components.below_of, live_invariant.specs.found_stays.proofs.Stays.object_named}

thread_fields : (x : Frame) → IsTrue (fits Kind.Thread x) → x ≡ Kernel (Thread (thread_in x))
thread_fields (Kernel (Thread k)) fit = refl
thread_fields _ fit = absurd (false≢true fit)

-- A stack that is not empty has a top, and what is below it.
pub split_stack : (fs : List ℕ) → 1 ≤ length fs → fs ≡ first_of_stack fs ∷ Rattle.std.proofs.Common.drop 1 fs
split_stack [] some = absurd (omega (arith, some))
split_stack (f ∷ fs) some = refl

module _ (setup : Setting) (setting : IsSetting setup) (t : Trace) (legal : IsLegal setup t) (c : ℕ) (here : c < setup.cores) where
  abbrev s : State
  s = state_after setup t

  sound : IsSound s (opened (events_of t))
  sound = sound_of setup setting t legal

  below : c < s.limits.cores
  below = subst (λ (n : ℕ). c < n) (sym (ap (λ l. l.cores) (limits_of setup t))) here

  fit : IsTrue (fits Kind.Thread (s.frame (s.core c).thread))
  fit = (sound.cores c below).0

  pub own_thread : s.frame (s.core c).thread ≡ Kernel (Thread (thread_of s c))
  own_thread = thread_fields (s.frame (s.core c).thread) fit

  pub thread_below : (s.core c).thread < s.limits.frames
  thread_below = below_by s (opened (events_of t)) (s.core c).thread sound (fits Kind.Thread) refl fit

  own_comps : IsStack s (thread_of s c).stack
  own_comps = subst (IsObjectGood s) own_thread (sound.objects (s.core c).thread)

  is_on : (f : ℕ) → 1 ≤ times f (thread_of s c).stack → 0 < refs s f
  is_on f named = object_named s (opened (events_of t)) (s.core c).thread f sound
      (subst (λ fs. 1 ≤ times f fs) (sym (ap frame_names own_thread)) named)

  -- the component on top is there, in which the core works, and is referenced
  pub top_comp : HasComp s c (first_of_stack (thread_of s c).stack)
  top_comp = by (thread_of s c).stack own_comps is_on
    where
      by : (fs : List ℕ) → IsStack s fs → ((f : ℕ) → 1 ≤ times f fs → 0 < refs s f) → HasComp s c (first_of_stack fs)
      by [] is named = absurd is
      by (f ∷ fs) is named = record { comp = is.0; guarded = inl (named f (times_first f fs)) }

  pub some_stack : 1 ≤ length (thread_of s c).stack
  some_stack = by (thread_of s c).stack own_comps
    where
      by : (fs : List ℕ) → IsStack s fs → 1 ≤ length fs
      by [] is = absurd is
      by (f ∷ fs) is = omega arith

  -- the component below the top is there, and referenced
  pub below_comp : 2 ≤ length (thread_of s c).stack → HasComp s c (below_of (thread_of s c).stack)
  below_comp = by (thread_of s c).stack own_comps is_on
    where
      by : (fs : List ℕ) → IsStack s fs → ((f : ℕ) → 1 ≤ times f fs → 0 < refs s f) → 2 ≤ length fs → HasComp s c (below_of fs)
      by [] is named deep = absurd (omega (arith, deep))
      by (f ∷ []) is named deep = absurd (omega (arith, deep))
      by (f ∷ g ∷ fs) is named deep = record {
        comp = is.1.0;
        guarded = inl (named g (let p = times_cons g f (g ∷ fs) in let q = times_first g fs in omega (arith, p, q)));
      }
