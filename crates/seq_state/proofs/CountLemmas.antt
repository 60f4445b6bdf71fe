-- The references to each frame are counted as they come and go.
use Rattle.kernel_invariant.specs.kernel_rules.proofs.{◌≡◌, ◌≢◌, ◌⊎◌, inl, inr, ◌^◌, Bool, true, false, ℕ, zero, suc, ◌+◌, ◌*◌, ◌<◌, ◌≤◌}
use Rattle.kernel_invariant.specs.kernel_rules.proofs.{◌==◌, cond, refl, sym, ◌∙◌, ap, arith, List, [], ◌∷◌, length, set, drop, Option}
use Rattle.kernel_invariant.specs.kernel_rules.proofs.{Some, None, IsSomeAnd, slice_get, unwrap_or, eq-eqb, ne_eqb, get_or-set_other}
use Rattle.kernel_invariant.specs.kernel_rules.proofs.{length-set, Kind, Thing, Grace, with_core, with_grace, named_by, place_names}
use Rattle.kernel_invariant.specs.kernel_rules.proofs.{frame_names, number_names, core_names, sum_below, times, node_refs, refs}
use Rattle.seq_state.specs.{State, frame_of, at, count_at, NamesFew, IsWhole, state_of, frame_or_untyped, SameState}
use Rattle.std.proofs.{lemmas.Bool.cases_eq, lemmas.Grind.get_or-set_at, lemmas.Option.none-some}
use Rattle.{kernel_invariant.proofs.times_cons, kernel_invariant.proofs.grace_refs, kernel_invariant.proofs.Refs.core_refs}
use Rattle.{seq_state.specs.declared.parts.Frame.Frame, seq_state.specs.Maps.Maps, seq_state.proofs.Same.same_refs}
use Rattle.kernel_invariant.specs.spk_nums.specs.declared.kinds.Kind.TheVariants as kind
use Rattle.kernel_invariant.specs.kernel_rules.specs.State as state

-- ---- names

-- A list names a frame at most as often as it has items.
pub times_most : (f : ℕ) (xs : List ℕ) → times f xs ≤ length xs
times_most f [] = omega arith
times_most f (x ∷ xs) =
    let a = times_cons f x xs in
    let b = times_most f xs in
    let c = test_most (x == f) in
    omega (arith, a, b, c)
  where
    test_most : (b : Bool) → cond {A = ℕ} b 1 0 ≤ 1
    test_most true = omega arith
    test_most false = omega arith

first_is : (xs : List ℕ) (x : ℕ) → slice_get xs 0 ≡ Some x → xs ≡ x ∷ drop 1 xs
first_is [] x h = absurd (none-some x h)
first_is (y ∷ ys) x h = ap (λ z. z ∷ ys) (ap (λ o. unwrap_or o y) h)

-- The first of a list, and the rest.
pub times_taken : (f : ℕ) (xs ys : List ℕ) (x : ℕ) → slice_get xs 0 ≡ Some x → ys ≡ drop 1 xs
    → times f xs ≡ times f (x ∷ []) + times f ys
times_taken f xs ys x h rest =
    let a : times f xs ≡ times f (x ∷ drop 1 xs) = ap (times f) (first_is xs x h) in
    let b = times_cons f x (drop 1 xs) in
    let c = times_cons f x [] in
    let none : times f [] ≡ 0 = refl in
    let d : times f ys ≡ times f (drop 1 xs) = ap (times f) rest in
    omega (arith, a, b, c, none, d)

-- A list with no first names nothing.
pub times_none : (f : ℕ) (xs : List ℕ) → slice_get xs 0 ≡ None → times f xs ≡ 0
times_none f [] h = refl
times_none f (x ∷ xs) h = absurd (none-some x (sym h))

-- ---- one count

once_here : (f g : ℕ) → g ≡ f → times f (g ∷ []) ≡ 1
once_here f g e =
    let a = times_cons f g [] in
    let none : times f [] ≡ 0 = refl in
    let one : cond {A = ℕ} (g == f) 1 0 ≡ 1 = ap (λ b. cond b 1 0) (eq-eqb g f e) in
    omega (arith, a, none, one)

once_apart : (f g : ℕ) → g ≢ f → times f (g ∷ []) ≡ 0
once_apart f g ne =
    let a = times_cons f g [] in
    let none : times f [] ≡ 0 = refl in
    let never : cond {A = ℕ} (g == f) 1 0 ≡ 0 = ap (λ b. cond b 1 0) (ne_eqb g f ne) in
    omega (arith, a, none, never)

-- The first of a list is named.
pub once_named : (xs : List ℕ) (x : ℕ) → slice_get xs 0 ≡ Some x → 1 ≤ times x xs
once_named xs x h =
    let a = times_taken x xs (drop 1 xs) x h refl in
    let b = once_here x x refl in
    omega (arith, a, b)

-- A count that is set is as a write says at its own frame, and the others stay.
set_by : (ns : List ℕ) (g v f : ℕ) → g < length ns → ((f ≡ g) × (count_at (set ns g v) f ≡ v)) ⊎ ((f ≢ g) × (count_at (set ns g v) f ≡ count_at ns f))
set_by ns g v f below = elim (cases_eq f g) [
  | inl e ↦ inl (e, get_or-set_at ns g f v 0 e below)
  | inr ne ↦ inr (ne, get_or-set_other ns g f v 0 ne)
]

pub set_up : (ns : List ℕ) (g v f : ℕ) → g < length ns → v ≡ count_at ns g + 1
    → count_at (set ns g v) f ≡ count_at ns f + times f (g ∷ [])
set_up ns g v f below is = elim (set_by ns g v f below) [
  | inl h ↦
      let here = h.1 in
      let once = once_here f g (sym h.0) in
      let same : count_at ns f ≡ count_at ns g = ap (count_at ns) h.0 in
      omega (arith, here, once, same, is)
  | inr h ↦ let apart = h.1 in let never = once_apart f g (λ e. h.0 (sym e)) in omega (arith, apart, never)
]

pub set_down : (ns : List ℕ) (g v f : ℕ) → g < length ns → v + 1 ≡ count_at ns g
    → count_at (set ns g v) f + times f (g ∷ []) ≡ count_at ns f
set_down ns g v f below is = elim (set_by ns g v f below) [
  | inl h ↦
      let here = h.1 in
      let once = once_here f g (sym h.0) in
      let same : count_at ns f ≡ count_at ns g = ap (count_at ns) h.0 in
      omega (arith, here, once, same, is)
  | inr h ↦ let apart = h.1 in let never = once_apart f g (λ e. h.0 (sym e)) in omega (arith, apart, never)
]

pub set_length : (ns : List ℕ) (g v : ℕ) → length (set ns g v) ≡ length ns
set_length ns g v = length-set ns g v

-- A frame past the counts is none that is counted.
pub none_past : (ns : List ℕ) (g f : ℕ) → f < length ns → length ns ≤ g → times f (g ∷ []) ≡ 0
none_past ns g f below past = once_apart f g (λ e. omega arith)

-- ---- most references

place_few : (f : ℕ) (p : state.Place) → times f (place_names p) ≤ 1
place_few f state.Free = omega arith
place_few f (state.Quiescing k) = omega arith
place_few f (state.Holds k) = by_kind k.kind
  where
    by_kind : (d : Kind) → times f (named_by d k.frame) ≤ 1
    by_kind kind.Range = omega arith
    by_kind _ = times_most f (k.frame ∷ [])

number_few : (f : ℕ) (x : state.Liveness) → times f (number_names x) ≤ 1
number_few f state.Unused = omega arith
number_few f (state.Live e g) = times_most f (g ∷ [])
number_few f (state.Dead e) = omega arith

frame_few : (f k : ℕ) (o : Option Frame) → IsSomeAnd o (NamesFew k) → times f (frame_names (frame_or_untyped o)) ≤ 16
frame_few f k None h = absurd h
frame_few f k (Some x) h =
    let few : length (frame_names (frame_of x)) ≤ 16 = h in
    let most = times_most f (frame_names (frame_of x)) in
    omega arith

sum_bound : (h : ℕ → ℕ) (m n : ℕ) → ((i : ℕ) → i < n → h i ≤ m) → sum_below h n ≤ m * n
unfolding sum_below
sum_bound h m zero le = omega arith
sum_bound h m (suc n) le = let a = sum_bound h m n (λ i l. le i (omega arith)) in let b = le n (omega arith) in omega arith

-- All references to a frame are fewer than a count can have.
pub refs_most : (t : Maps) → IsWhole t → (f : ℕ) → refs (state_of t) f < 2 ^ 31
unfolding refs node_refs state_of
refs_most t whole f =
    let s = state_of t in
    let most_frames = whole.fits.most_frames in
    let most_cores = whole.fits.most_cores in
    let a = sum_bound (node_refs s f) 64 t.limits.frames (λ g _. sum_bound (λ i. times f (place_names (s.place g i))) 1 64
    (λ i _. place_few f (s.place g i))) in
    let b = sum_bound (λ g. times f (frame_names (s.frame g))) 16 t.limits.frames
    (λ g below. frame_few f g (at t.frames g) (whole.frames g below)) in
    let c = sum_bound (λ d. times f (core_names (s.core d))) 2 t.limits.cores (λ d _. times_most f (core_names (s.core d))) in
    let d = sum_bound (λ l. times f (number_names (s.number l))) 1 64 (λ l _. number_few f (s.number l)) in
    omega (arith, a, b, c, d, most_frames, most_cores)

-- ---- a change

-- What is released is counted.
pub some_left : (s s' : State) (f : ℕ) (old : List ℕ) → refs s' f + times f old ≡ refs s f + times f [] → times f old ≤ refs s f
some_left s s' f old by = let none : times f [] ≡ 0 = refl in omega (arith, by, none)

-- The counts after what was named is released and what is named is taken.
pub counts_by : (c0 c1 c2 f : ℕ) (s s' : State) (old new : List ℕ) → c0 ≡ refs s f → c1 + times f old ≡ c0 → c2 ≡ c1 + times f new
    → refs s' f + times f old ≡ refs s f + times f new → c2 ≡ refs s' f
counts_by c0 c1 c2 f s s' old new is less more by = omega (arith, is, less, more, by)

-- States that are one for the machine have the counts of the other.
pub counts_kept : (t u : Maps) (s : State) (f : ℕ) → count_at u.counts f ≡ count_at t.counts f
    → count_at t.counts f ≡ refs (state_of t) f → SameState (state_of u) s → refs s f ≡ refs (state_of t) f
    → count_at u.counts f ≡ refs (state_of u) f
counts_kept t u s f same is represents by = same ∙ is ∙ sym by ∙ sym (same_refs (state_of u) s f represents)

-- A core that keeps its thread and temporal capability keeps its references.
pub core_kept : (s : State) (c f : ℕ) (k : state.Core) → c < s.limits.cores → core_names k ≡ core_names (s.core c)
    → refs (with_core s c k) f ≡ refs s f
core_kept s c f k below same =
    let a = core_refs s c k f below in
    let b : times f (core_names k) ≡ times f (core_names (s.core c)) = ap (times f) same in
    omega (arith, a, b)

-- The counts stay right where one core changes but keeps its thread and temporal capability, and grace periods change.
pub core_counts : (t u : Maps) (c : ℕ) (k : state.Core) (g : Thing → Grace) → IsWhole t → c < (state_of t).limits.cores → u.counts ≡ t.counts
    → core_names k ≡ core_names ((state_of t).core c) → SameState (state_of u) (with_grace (with_core (state_of t) c k) g)
    → (f : ℕ) → f < 512 → count_at u.counts f ≡ refs (state_of u) f
core_counts t u c k g whole below same names represents f within =
    counts_kept t u (with_grace (with_core (state_of t) c k) g) f (ap (λ ns. count_at ns f) same) (whole.counts f within) represents
    (grace_refs (with_core (state_of t) c k) g f ∙ core_kept (state_of t) c f k below names)

-- The same where grace periods alone change.
pub grace_counts : (t u : Maps) (g : Thing → Grace) → IsWhole t → u.counts ≡ t.counts
    → SameState (state_of u) (with_grace (state_of t) g)
    → (f : ℕ) → f < 512 → count_at u.counts f ≡ refs (state_of u) f
grace_counts t u g whole same represents f within =
    counts_kept t u (with_grace (state_of t) g) f (ap (λ ns. count_at ns f) same) (whole.counts f within) represents
    (grace_refs (state_of t) g f)
