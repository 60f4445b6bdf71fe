-- Where a world is split, what is outside has no reference to a frame of it.
use Rattle.same_changes.specs.kernel_laws.proofs.{◌≡◌, ℕ, zero, suc, ◌+◌, ◌<◌, arith, Bool, true, false, cond, ◌==◌, refl, sym, ◌∙◌, ap}
use Rattle.same_changes.specs.kernel_laws.proofs.{subst, List, [], ◌∷◌, false≢true, ne_eqb, Setting, IsSetting, Kind, Place, Free, Holds}
use Rattle.same_changes.specs.kernel_laws.proofs.{Quiescing, Comp, Thread, Frame, Kernel, Liveness, Unused, Live, Dead, PlaceOf, Limits}
use Rattle.same_changes.specs.kernel_laws.proofs.{State, comp_in, named_by, place_names, frame_names, number_names, core_names, sum_below}
use Rattle.same_changes.specs.kernel_laws.proofs.{times, node_refs, refs, usable_in, Event, after, IsRun, times_cons}
use Rattle.{split_laws.specs.World, split_laws.specs.IsSplit, split_laws.specs.AgreeIn, world_laws.specs.LeadsTo}
use Rattle.{world_laws.specs.counted_if, std.specs.List.AllByRecursion, world_laws.specs.kernel_invariant.proofs.Sums.sum_same}
use Rattle.{world_laws.specs.state_laws.specs.Lives.IsCompOf, world_laws.specs.state_laws.proofs.Lives.live_numbers_fit}
use Rattle.{split_laws.specs.Split.refs_inside, split_laws.specs.Split.RefersInside, split_laws.proofs.Working.comp_is}
use Rattle.{split_laws.proofs.Sides.FrameOn, split_laws.proofs.Splitting.sides_of}

sum_none : (t : ℕ → ℕ) (n : ℕ) → ((i : ℕ) → t i ≡ 0) → sum_below t n ≡ 0
unfolding sum_below
sum_none t zero none = refl
sum_none t (suc n) none = let a = sum_none t n none in let b = none n in omega (arith, a, b)

-- What counts nothing outside is counted inside.
inside_all : (b : Bool) (n : ℕ) → (b ≡ false → n ≡ 0) → n ≡ counted_if b n
inside_all true n none = refl
inside_all false n none = none refl

-- Each live number is of the side of its component.
abbrev pub NumbersOn : World → State → Type 0
NumbersOn w s = (l e f : ℕ) → s.number l ≡ Live e f → w.frame f ≡ w.number l

module _ (w : World) (s : State) (split : IsSplit w s) (numbers : NumbersOn w s) (f : ℕ) (on : w.frame f ≡ true) where
  none_of : (b : Bool) → b ≡ false → (fs : List ℕ) → AllByRecursion (λ g. w.frame g ≡ b) fs → times f fs ≡ 0
  none_of b out [] all = refl
  none_of b out (g ∷ fs) all =
      let p = times_cons f g fs in
      let none : ℕ = 0 in
      let q : cond (g == f) 1 0 ≡ none =
      ap (λ t. cond t 1 0) (ne_eqb g f (λ same. false≢true (sym (all.0 ∙ out) ∙ ap w.frame same ∙ on))) in
      let r = none_of b out fs all.1 in
      omega (arith, p, q, r)

  -- The places of a node, an object, a core and a number outside have no reference to a frame of the world.
  pub place_none : (g i : ℕ) → w.frame g ≡ false → (p : Place) → s.place g i ≡ p → times f (place_names p) ≡ 0
  place_none g i out Free is = refl
  place_none g i out (Quiescing k) is = refl
  place_none g i out (Holds k) is = by_kind k.kind refl
    where
      by_kind : (j : Kind) → k.kind ≡ j → times f (named_by j k.frame) ≡ 0
      by_kind Kind.Range same = refl
      by_kind _ same = none_of (w.frame g) out (k.frame ∷ []) (
        split.places g i 0 k.frame k (ap (λ p. usable_in p ((s.grace (PlaceOf g i)).waits 0)) is)
            (subst (λ j. LeadsTo j k k.frame) (sym same) refl),
        tt,
      )

  pub node_none : (g : ℕ) → w.frame g ≡ false → node_refs s f g ≡ 0
  unfolding node_refs
  node_none g out = sum_none (λ i. times f (place_names (s.place g i))) 64 (λ i. place_none g i out (s.place g i) refl)

  object_none : (g : ℕ) → w.frame g ≡ false → (x : Frame) → FrameOn w g x → times f (frame_names x) ≡ 0
  object_none g out (Kernel (Comp k)) all = none_of (w.frame g) out (k.table ∷ k.pages ∷ []) (all.0, (all.1, tt))
  object_none g out (Kernel (Thread t)) all = none_of (w.frame g) out t.stack all
  object_none g out _ all = refl

  pub frame_none : (g : ℕ) → w.frame g ≡ false → times f (frame_names (s.frame g)) ≡ 0
  frame_none g out = object_none g out (s.frame g) ((sides_of w s split).frames g)

  pub core_none : (c : ℕ) → c < s.limits.cores → w.frame (s.core c).thread ≡ false → times f (core_names (s.core c)) ≡ 0
  core_none c below out =
      none_of (w.frame (s.core c).thread) out ((s.core c).thread ∷ (s.core c).tcap ∷ []) (refl, (split.cores c below, tt))

  live_none : (l : ℕ) → w.number l ≡ false → (x : Liveness) → s.number l ≡ x → times f (number_names x) ≡ 0
  live_none l out Unused is = refl
  live_none l out (Dead e) is = refl
  live_none l out (Live e g) is = none_of (w.number l) out (g ∷ []) (numbers l e g is, tt)

  pub number_none : (l : ℕ) → w.number l ≡ false → times f (number_names (s.number l)) ≡ 0
  number_none l out = live_none l out (s.number l) refl

  -- So its references are counted inside alone.
  pub counted_inside : refs s f ≡ refs_inside w s f
  unfolding refs
  counted_inside =
      let n : ℕ = s.limits.frames in
      let a = sum_same (λ g. counted_if (w.frame g) (node_refs s f g)) (node_refs s f) n
      (λ g below. inside_all (w.frame g) (node_refs s f g) (node_none g)) in
      let b = sum_same (λ g. counted_if (w.frame g) (times f (frame_names (s.frame g)))) (λ g. times f (frame_names (s.frame g))) n
      (λ g below. inside_all (w.frame g) (times f (frame_names (s.frame g))) (frame_none g)) in
      let c = sum_same (λ c. counted_if (w.frame (s.core c).thread) (times f (core_names (s.core c))))
      (λ c. times f (core_names (s.core c))) s.limits.cores
      (λ c below. inside_all (w.frame (s.core c).thread) (times f (core_names (s.core c))) (core_none c below)) in
      let d = sum_same (λ l. counted_if (w.number l) (times f (number_names (s.number l)))) (λ l. times f (number_names (s.number l))) 64
      (λ l below. inside_all (w.number l) (times f (number_names (s.number l))) (number_none l)) in
      omega (arith, a, b, c, d)

-- Where two states are one for a world, as many references to its frames are from the world.
module _ (w : World) (s t : State) (h : AgreeIn w s t) (f : ℕ) where
  agree_if : (b d : Bool) (m n : ℕ) → b ≡ d → (b ≡ true → m ≡ n) → counted_if b m ≡ counted_if d n
  agree_if true d m n same e = e refl ∙ ap (λ x. counted_if x n) same
  agree_if false d m n same e = ap (λ x. counted_if x n) same

  node_agree : (g : ℕ) → w.frame g ≡ true → node_refs s f g ≡ node_refs t f g
  unfolding node_refs
  node_agree g of = sum_same (λ i. times f (place_names (t.place g i))) (λ i. times f (place_names (s.place g i))) 64
      (λ i below. ap (λ p. times f (place_names p)) (h.place g i of below))

  same_inside : refs_inside w s f ≡ refs_inside w t f
  same_inside =
      let n : ℕ = s.limits.frames in
      let m : ℕ = s.limits.cores in
      let a = sum_same (λ g. counted_if (w.frame g) (node_refs t f g)) (λ g. counted_if (w.frame g) (node_refs s f g)) n
      (λ g below. agree_if (w.frame g) (w.frame g) (node_refs s f g) (node_refs t f g) refl (node_agree g)) in
      let b = sum_same (λ g. counted_if (w.frame g) (times f (frame_names (t.frame g))))
      (λ g. counted_if (w.frame g) (times f (frame_names (s.frame g)))) n
      (λ g below. agree_if (w.frame g) (w.frame g) _ _ refl (λ of. ap (λ x. times f (frame_names x)) (h.frame g of))) in
      let c = sum_same (λ c. counted_if (w.frame (t.core c).thread) (times f (core_names (t.core c))))
      (λ c. counted_if (w.frame (s.core c).thread) (times f (core_names (s.core c)))) m
      (λ c below. agree_if (w.frame (s.core c).thread) (w.frame (t.core c).thread) _ _ (h.thread c below)
      (λ of. ap (λ k. times f (core_names k)) (h.core c below of))) in
      let d = sum_same (λ l. counted_if (w.number l) (times f (number_names (t.number l))))
      (λ l. counted_if (w.number l) (times f (number_names (s.number l)))) 64
      (λ l below. agree_if (w.number l) (w.number l) _ _ refl (λ of. ap (λ x. times f (number_names x)) (h.number l of))) in
      let inside : Limits → ℕ = λ limits.
      sum_below (λ g. counted_if (w.frame g) (node_refs t f g)) limits.frames
      + sum_below (λ g. counted_if (w.frame g) (times f (frame_names (t.frame g)))) limits.frames
      + sum_below (λ c. counted_if (w.frame (t.core c).thread) (times f (core_names (t.core c)))) limits.cores
      + sum_below (λ l. counted_if (w.number l) (times f (number_names (t.number l)))) 64 in
      let same : refs_inside w s f ≡ inside s.limits = omega (arith, a, b, c, d) in
      same ∙ ap inside h.limits

  -- So it is of all references, where the world is split in both.
  pub same_refs : IsSplit w s → NumbersOn w s → IsSplit w t → NumbersOn w t → w.frame f ≡ true → refs s f ≡ refs t f
  same_refs split numbers other others of =
      counted_inside w s split numbers f of ∙ same_inside ∙ sym (counted_inside w t other others f of)

-- In every state that a run reaches, so are the numbers.
pub numbers_on : (setting : Setting) → IsSetting setting → (events : List Event) → IsRun setting events
    → (w : World) → IsSplit w (after setting events) → NumbersOn w (after setting events)
numbers_on setting lim events run w split l e f is =
    let x : Frame = (after setting events).frame f in
    let fit : IsCompOf x l e = live_numbers_fit setting lim events run l e f is in
    sym (split.comps f (comp_in x) (comp_is x fit.comp)).2 ∙ ap w.number fit.number

pub refers_inside : RefersInside
refers_inside setting lim events run w split f on =
    counted_inside w (after setting events) split (numbers_on setting lim events run w split) f on
