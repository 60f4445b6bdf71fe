-- The frames that an object itself names differ from one another, and from its own: so their counts may be acquired while its own counters
-- are frozen.
use Rattle.freeze_invariant.specs.step_ways.proofs as low
use low.{All, ◌≡◌, ◌≢◌, ℕ, ◌≤◌, Bool, List, [], ◌∷◌, length, Option, Some, None, IsTrue, arith, refl, sym, ◌∙◌, ap, subst, false≢true}
use low.{CompFields, ThreadFields, Blank, Table, Leaf, Pages, Pleaf, Comp, Thread, Tcap, Frame, Untyped, User, Kernel, State, fits}
use low.{frame_names, IsSound, IsObjectGood, frame_value, loads_of, Owned, Due, AreDuesApart, IsLookedAt, names_of, Kind}
use Rattle.std.proofs.lemmas.List.Elements.{All-nil, All-cons, All-head, All-tail}
use Rattle.freeze_invariant.specs.kernel_invariant.proofs.Sound.{IsStack}
use Rattle.freeze_invariant.specs.act_states.specs.Untypings.{released_dues, released_one}

-- No frame is the root of a table of capabilities and of a page table.
both_fit : (x : Frame) → IsTrue (fits Kind.Table x) → IsTrue (fits Kind.Pages x) → ⊥
both_fit (Kernel Table) first second = false≢true second
both_fit _ first second = false≢true first

-- Two frames, if a list has two, differ; and none of it is this one.
pub record Differ (f : ℕ) (fs : List ℕ) : Type 0 where
  pub two : (x y : ℕ) → fs ≡ x ∷ y ∷ [] → x ≢ y
  pub own : All (λ g. g ≢ f) fs

none_differ : (f : ℕ) → Differ f []
none_differ f = record { two = λ x y h. absurd (cc); own = All-nil (λ g. g ≢ f) }

module _ (s : State) (o : ℕ → Bool) (h : IsSound s o) (f : ℕ) where
  comp_differs : (k : CompFields) → s.frame f ≡ Kernel (Comp k) → Differ f (k.table ∷ k.pages ∷ [])
  comp_differs k at =
      let good : IsObjectGood s (Kernel (Comp k)) = subst (IsObjectGood s) at (h.objects f) in record {
        two = λ x y same both. both_fit (s.frame k.table) good.0
            (subst (λ (n : ℕ). IsTrue (fits Kind.Pages (s.frame n)))
            (sym (first k.table x k.pages y same ∙ both ∙ sym (second k.table x k.pages y same)))
            good.1);
        own = All-cons (λ g. g ≢ f) k.table (k.pages ∷ [])
            (λ same. false≢true (sym (ap (fits Kind.Table) (ap s.frame same ∙ at)) ∙ good.0))
            (All-cons (λ g. g ≢ f) k.pages []
            (λ same. false≢true (sym (ap (fits Kind.Pages) (ap s.frame same ∙ at)) ∙ good.1)) (All-nil (λ g. g ≢ f)));
      }
    where
      first : (a x b y : ℕ) → a ∷ b ∷ [] ≡ x ∷ y ∷ [] → a ≡ x
      first a x b y same = cc

      second : (a x b y : ℕ) → a ∷ b ∷ [] ≡ x ∷ y ∷ [] → b ≡ y
      second a x b y same = cc

  thread_differs : (k : ThreadFields) → s.frame f ≡ Kernel (Thread k) → length k.stack ≡ 1 → Differ f k.stack
  thread_differs k at one = by k.stack one (subst (IsObjectGood s) at (h.objects f))
    where
      by : (fs : List ℕ) → length fs ≡ 1 → IsStack s fs → Differ f fs
      by [] single stack = absurd stack
      by (g ∷ []) single stack = record {
        two = λ x y same. absurd (cc);
        own = All-cons (λ n. n ≢ f) g []
            (λ same. false≢true (sym (ap (fits Kind.Comp) (ap s.frame same ∙ at)) ∙ stack.0)) (All-nil (λ n. n ≢ f));
      }
      by (g ∷ i ∷ fs) single stack = absurd (omega (arith, single))

  -- those of an object that was looked at
  pub names_differ : (n : ℕ) (owned : Owned) → loads_of (frame_value (s.frame f)).object ≤ n → IsLookedAt s f (s.frame f) n owned
      → Differ f (frame_names (s.frame f))
  names_differ n owned whole looked = by (s.frame f) refl whole looked
    where
      by : (x : Frame) → s.frame f ≡ x → loads_of (frame_value x).object ≤ n → IsLookedAt s f x n owned → Differ f (frame_names x)
      by (Kernel (Comp k)) at whole looked = comp_differs k at
      by (Kernel (Thread k)) at whole looked = thread_differs k at (looked.single (omega (arith, whole)))
      by Untyped at whole looked = none_differ f
      by User at whole looked = none_differ f
      by (Kernel Blank) at whole looked = none_differ f
      by (Kernel Table) at whole looked = none_differ f
      by (Kernel Leaf) at whole looked = none_differ f
      by (Kernel Pages) at whole looked = none_differ f
      by (Kernel Pleaf) at whole looked = none_differ f
      by (Kernel (Tcap q)) at whole looked = none_differ f

-- So the counts of these frames are due once each, and none is one of the frame's own.
pub record OwnedApart (f : ℕ) (ds : List Due) : Type 0 where
  pub apart : AreDuesApart ds
  pub own : All (λ d. d.frame ≢ f) ds

pub owned_apart : (f : ℕ) (a b : Option ℕ) → Differ f (names_of a b) → OwnedApart f (released_dues a b)
owned_apart f None None differ = record { apart = tt; own = All-nil (λ d. d.frame ≢ f) }
owned_apart f None (Some g) differ = record {
  apart = (All-nil (λ x. g ≢ x.frame), tt);
  own = All-cons (λ d. d.frame ≢ f) (released_one g) [] (All-head (λ n. n ≢ f) g [] differ.own) (All-nil (λ d. d.frame ≢ f));
}
owned_apart f (Some g) None differ = record {
  apart = (All-nil (λ x. g ≢ x.frame), tt);
  own = All-cons (λ d. d.frame ≢ f) (released_one g) [] (All-head (λ n. n ≢ f) g [] differ.own) (All-nil (λ d. d.frame ≢ f));
}
owned_apart f (Some g) (Some i) differ = record {
  apart = (
    All-cons (λ x. g ≢ x.frame) (released_one i) [] (differ.two g i refl) (All-nil (λ x. g ≢ x.frame)),
    (All-nil (λ x. i ≢ x.frame), tt),
  );
  own = All-cons (λ d. d.frame ≢ f) (released_one g) (released_one i ∷ []) (All-head (λ n. n ≢ f) g (i ∷ []) differ.own)
      (All-cons (λ d. d.frame ≢ f) (released_one i) [] (All-head (λ n. n ≢ f) i [] (All-tail (λ n. n ≢ f) g (i ∷ []) differ.own))
      (All-nil (λ d. d.frame ≢ f)));
}
