-- In every state that a run reaches, a frame has at most 32,848 references: a node's 64 places have one each, any other object at most 16, a
-- core two, and a liveness number one.
use Rattle.found_stays.specs.kernel_rules.proofs as low
use low.{◌≡◌, ℕ, zero, suc, ◌+◌, ◌*◌, ◌<◌, ◌≤◌, ◌==◌, Bool, true, false, cond, refl, sym, ap, subst, arith, List, [], ◌∷◌, length, IsTrue}
use low.{false≢true, Capability, Kind, Place, Free, Holds, Quiescing, Frame, Untyped, User, Kernel, Blank, Table, Leaf, Pages, Pleaf, Comp}
use low.{Thread, Tcap, Liveness, Unused, Live, Dead, start, named_by, place_names, frame_names, number_names, core_names, sum_below, times}
use low.{node_refs, refs, is_node, InRanges, FrameInRange, after}
use Rattle.found_stays.specs.kernel_invariant.proofs.{times_cons, IsSound, opened, limits_stay, runs_sound}
use Rattle.{found_stays.specs.kernel_rules.specs.State.State, kernel_laws.specs.Laws.ReferencesFew}
use Rattle.{kernel_laws.proofs.RangesLaw.ranges_hold}

-- A list names a frame at most as often as it has items.
times_most : (f : ℕ) (xs : List ℕ) → times f xs ≤ length xs
times_most f [] = omega arith
times_most f (x ∷ xs) =
    let a = times_cons f x xs in
    let b = times_most f xs in
    let c = one_most (x == f) in
    omega (arith, a, b, c)
  where
    one_most : (b : Bool) → cond {A = ℕ} b 1 0 ≤ 1
    one_most true = omega arith
    one_most false = omega arith

-- Sums of numbers of which each is at most so much, and of which each two are.
sum_most : (h : ℕ → ℕ) (m n : ℕ) → ((i : ℕ) → h i ≤ m) → sum_below h n ≤ m * n
unfolding sum_below
sum_most h m zero le = omega arith
sum_most h m (suc n) le = let a = sum_most h m n le in let b = le n in omega arith

both_most : (h k : ℕ → ℕ) (m n : ℕ) → ((i : ℕ) → h i + k i ≤ m) → sum_below h n + sum_below k n ≤ m * n
unfolding sum_below
both_most h k m zero le = omega arith
both_most h k m (suc n) le = let a = both_most h k m n le in let b = le n in omega arith

sum_none : (h : ℕ → ℕ) (n : ℕ) → ((i : ℕ) → h i ≡ 0) → sum_below h n ≡ 0
unfolding sum_below
sum_none h zero none = refl
sum_none h (suc n) none = let a = sum_none h n none in let b = none n in omega arith

-- A place has at most one, and none where it holds nothing.
place_most : (f : ℕ) (p : Place) → times f (place_names p) ≤ 1
place_most f Free = omega arith
place_most f (Quiescing k) = omega arith
place_most f (Holds k) = by_kind k.kind
  where
    by_kind : (d : Kind) → times f (named_by d k.frame) ≤ 1
    by_kind Kind.Range = omega arith
    by_kind _ = times_most f (k.frame ∷ [])

place_none : (f : ℕ) (p : Place) → ((k : Capability) → p ≡ Holds k → ⊥) → times f (place_names p) ≡ 0
place_none f Free none = refl
place_none f (Quiescing k) none = refl
place_none f (Holds k) none = absurd (none k refl)

number_most : (f : ℕ) (x : Liveness) → times f (number_names x) ≤ 1
number_most f Unused = omega arith
number_most f (Live e g) = times_most f (g ∷ [])
number_most f (Dead e) = omega arith

module _ (s : State) (open_cores : ℕ → Bool) (sound : IsSound s open_cores) (ranges : InRanges s) (f : ℕ) where
  -- What a frame has: its places, or what it names.
  node_most : (g : ℕ) → node_refs s f g ≤ 64
  unfolding node_refs
  node_most g = let a = sum_most (λ i. times f (place_names (s.place g i))) 1 64 (λ i. place_most f (s.place g i)) in omega (arith, a)

  no_node : (g : ℕ) (x : Frame) → s.frame g ≡ x → is_node x ≡ false → node_refs s f g ≡ 0
  unfolding node_refs
  no_node g x is other = sum_none (λ i. times f (place_names (s.place g i))) 64
      (λ i. place_none f (s.place g i) (λ k held. false_true (subst (λ y. IsTrue (is_node y)) is (sound.bare g i k held).0) other))
    where
      false_true : IsTrue (is_node x) → is_node x ≡ false → ⊥
      false_true there not_there = false≢true (subst IsTrue not_there there)

  pub frame_most : (g : ℕ) → node_refs s f g + times f (frame_names (s.frame g)) ≤ 64
  frame_most g = by (s.frame g) refl
    where
      node : (x : Frame) → times f (frame_names x) ≡ 0 → node_refs s f g + times f (frame_names x) ≤ 64
      node x none = let a = node_most g in omega (arith, a, none)

      other : (x : Frame) (n : ℕ) → s.frame g ≡ x → is_node x ≡ false → times f (frame_names x) ≤ n → n ≤ 64
          → node_refs s f g + times f (frame_names x) ≤ 64
      other x n is not_node few small = let a = no_node g x is not_node in omega (arith, a, few, small)

      by : (x : Frame) → s.frame g ≡ x → node_refs s f g + times f (frame_names x) ≤ 64
      by Untyped is = other Untyped 0 is refl (omega arith) (omega arith)
      by User is = other User 0 is refl (omega arith) (omega arith)
      by (Kernel Blank) is = other (Kernel Blank) 0 is refl (omega arith) (omega arith)
      by (Kernel Table) is = node (Kernel Table) refl
      by (Kernel Leaf) is = node (Kernel Leaf) refl
      by (Kernel Pages) is = node (Kernel Pages) refl
      by (Kernel Pleaf) is = node (Kernel Pleaf) refl
      by (Kernel (Comp k)) is = other (Kernel (Comp k)) 2 is refl (times_most f (k.table ∷ k.pages ∷ [])) (omega arith)
      by (Kernel (Thread t)) is =
          let most : length t.stack ≤ 16 = (subst (FrameInRange s.limits.epochs) is (ranges.frames g)).most in
          other (Kernel (Thread t)) (length t.stack) is refl (times_most f t.stack) (omega (arith, most))
      by (Kernel (Tcap q)) is = other (Kernel (Tcap q)) 0 is refl (omega arith) (omega arith)

  pub few_refs : s.limits.frames ≤ 512 → s.limits.cores ≤ 8 → refs s f ≤ 32848
  unfolding refs
  few_refs frames cores =
      let a = both_most (node_refs s f) (λ g. times f (frame_names (s.frame g))) 64 s.limits.frames frame_most in
      let b = sum_most (λ c. times f (core_names (s.core c))) 2 s.limits.cores (λ c. times_most f (core_names (s.core c))) in
      let d = sum_most (λ l. times f (number_names (s.number l))) 1 64 (λ l. number_most f (s.number l)) in
      omega (arith, a, b, d, frames, cores)

pub references_few : ReferencesFew
references_few setting lim events run f =
    let limits = limits_stay setting events in
    few_refs (after setting events) (opened events) (runs_sound setting lim events run) (ranges_hold setting lim events run) f
    (subst (λ l. l.frames ≤ 512) (sym limits) lim.most_frames) (subst (λ l. l.cores ≤ 8) (sym limits) lim.most_cores)
