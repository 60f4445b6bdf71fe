-- Of a frame that was swept: its object is empty, and the references that it names itself are due to be released, once each.
use Rattle.freeze_invariant.specs.step_ways.proofs as low
use low.{is_some, ◌≡◌, ◌≢◌, inl, inr, ℕ, zero, suc, ◌+◌, ◌<◌, ◌≤◌, ◌==◌, ◌&&◌, ◌||◌, length, Bool, true, false, cond, List, [], ◌∷◌, map}
use low.{Option, Some, None, arith, refl, sym, ◌∙◌, ap, false≢true, eq-eqb, ne_eqb, le-leb, Blank, Table, Leaf, Pages, Pleaf, Comp, Thread}
use low.{Tcap, Frame, Untyped, User, Kernel, State, held_in, is_empty, times, frame_value, Acquired, loads_of, Owned, Due, Word, CountAt}
use low.{cases_word, same_word-other, count_of, holds_counts, due_of, IsLookedAt, names_of, if◌then◌else◌, not, All}
use Rattle.std.proofs.lemmas.List.Elements.{All-nil, All-cons, All-head, All-tail}
use Rattle.{freeze_invariant.specs.act_states.specs.released_dues, freeze_invariant.specs.act_states.specs.holds_nothing}
use Rattle.{std.specs.List.list_any, std.specs.List.range_with_len, freeze_invariant.specs.act_states.specs.Untypings.released_one}
use Rattle.{freeze_invariant.specs.core_invariant.specs.Sweeps.HoldsNone, sweep_invariant.proofs.OwnedFrames.Differ}
use Rattle.freeze_invariant.specs.kernel_invariant.proofs.Sums as sums

-- No number of a range passes a test.
none_passes : (p : ℕ → Bool) (a n : ℕ) → ((i : ℕ) → a ≤ i → i < a + n → p i ≡ false) → list_any p (range_with_len a n) ≡ false
none_passes p a zero none = refl
none_passes p a (suc n) none = ap (λ b. b || list_any p (range_with_len (a + 1) n)) (none a (omega arith) (omega arith))
    ∙ none_passes p (a + 1) n (λ i from below. none i (omega (arith, from)) (omega (arith, below)))

node_empty : (s : State) (f : ℕ) → HoldsNone s f 64 → holds_nothing s f ≡ true
unfolding holds_nothing
node_empty s f none = ap not (none_passes (λ i. is_some (held_in (s.place f i))) 0 64
    (λ i from below. ap is_some (none i (omega (arith, below)))))

-- An object that was looked at whole is empty.
pub looked_empty : (s : State) (f n : ℕ) (owned : Owned)
    → loads_of (frame_value (s.frame f)).object ≤ n → IsLookedAt s f (s.frame f) n owned
    → is_empty s f (s.frame f) ≡ true
looked_empty s f n owned whole looked = by (s.frame f) whole looked
  where
    node : 64 ≤ n → HoldsNone s f n → holds_nothing s f ≡ true
    node all none = node_empty s f (λ i below. none i (omega (arith, below, all)))

    by : (x : Frame) → loads_of (frame_value x).object ≤ n → IsLookedAt s f x n owned → is_empty s f x ≡ true
    by (Kernel Table) whole looked = node whole looked
    by (Kernel Leaf) whole looked = node whole looked
    by (Kernel Pages) whole looked = node whole looked
    by (Kernel Pleaf) whole looked = node whole looked
    by (Kernel (Thread k)) whole looked =
        let one = looked.single (omega (arith, whole)) in le-leb (length k.stack) 1 (omega (arith, one))
    by (Kernel (Tcap q)) whole looked = eq-eqb q.budget 0 (looked whole)
    by (Kernel (Comp k)) whole looked = refl
    by (Kernel Blank) whole looked = refl
    by Untyped whole looked = refl
    by User whole looked = refl

-- A frame of which no count is due is not named.
times_other : (g f : ℕ) (fs : List ℕ) → g ≢ f → times g (f ∷ fs) ≡ times g fs
times_other g f fs other =
    let all = sums.times_cons g f fs in
    let zero : ℕ = 0 in
    let none : cond (f == g) 1 0 ≡ zero = ap (λ b. cond b 1 0) (ne_eqb f g (λ same. other (sym same))) in
    omega (arith, all, none)

pub due_none : (g : ℕ) (a b : Option ℕ) → All (λ (d : Due). g ≢ d.frame) (released_dues a b) → times g (names_of a b) ≡ 0
due_none g None None apart = refl
due_none g None (Some i) apart = times_other g i [] (All-head (λ (d : Due). g ≢ d.frame) (released_one i) [] apart)
due_none g (Some i) None apart = times_other g i [] (All-head (λ (d : Due). g ≢ d.frame) (released_one i) [] apart)
due_none g (Some i) (Some j) apart =
    times_other g i (j ∷ []) (All-head (λ (d : Due). g ≢ d.frame) (released_one i) (released_one j ∷ []) apart)
    ∙ times_other g j [] (All-head (λ (d : Due). g ≢ d.frame) (released_one j) []
    (All-tail (λ (d : Due). g ≢ d.frame) (released_one i) (released_one j ∷ []) apart))

-- One of which a count is due is named once.
times_first : (f : ℕ) (fs : List ℕ) → times f (f ∷ fs) ≡ 1 + times f fs
times_first f fs =
    let all = sums.times_cons f f fs in
    let once : ℕ = 1 in
    let one : cond (f == f) 1 0 ≡ once = ap (λ b. cond b 1 0) (eq-eqb f f refl) in
    omega (arith, all, one)

pub due_each : (P : Due → Type 0) (f : ℕ) (a b : Option ℕ) → Differ f (names_of a b)
    → ((g : ℕ) → times g (names_of a b) ≡ 1 → P (released_one g)) → All P (released_dues a b)
due_each P f None None differ each = All-nil P
due_each P f None (Some i) differ each = All-cons P (released_one i) [] (each i (times_first i [])) (All-nil P)
due_each P f (Some i) None differ each = All-cons P (released_one i) [] (each i (times_first i [])) (All-nil P)
due_each P f (Some i) (Some j) differ each =
    let apart : i ≢ j = differ.two i j refl in
    All-cons P (released_one i) (released_one j ∷ [])
    (each i (times_first i (j ∷ []) ∙ ap (λ (n : ℕ). 1 + n) (times_other i j [] apart)))
    (All-cons P (released_one j) [] (each j (times_other j i (j ∷ []) (λ same. apart (sym same)) ∙ times_first j [])) (All-nil P))

-- What holds of the frames of dues holds of the counts that are acquired for them.
pub acquired_all : (P : ℕ → Type 0) (xs : List Acquired)
    → All (λ (d : Due). P d.frame) (map due_of xs) → All (λ (x : Acquired). P x.pin.frame) xs
acquired_all P [] all = All-nil (λ (x : Acquired). P x.pin.frame)
acquired_all P (x ∷ xs) all =
    All-cons (λ (x : Acquired). P x.pin.frame) x xs (All-head (λ (d : Due). P d.frame) (due_of x) (map due_of xs) all)
    (acquired_all P xs (All-tail (λ (d : Due). P d.frame) (due_of x) (map due_of xs) all))

-- No count that is acquired is one of a frame that none names.
pub acquired_away : (fate : Option (Option ℕ)) (f d : ℕ) (xs : List Acquired) → All (λ (x : Acquired). x.pin.frame ≢ f) xs
    → (holds_counts fate xs).marks (CountAt f d) ≡ false
acquired_away fate f d [] all = refl
acquired_away fate f d (x ∷ xs) all =
    ap (λ b. if b && d == x.pin.core then true else (holds_counts fate xs).marks (CountAt f d))
    (ne_eqb f x.pin.frame (λ same. All-head (λ (x : Acquired). x.pin.frame ≢ f) x xs all (sym same)))
    ∙ acquired_away fate f d xs (All-tail (λ (x : Acquired). x.pin.frame ≢ f) x xs all)

-- A word that a call holds by its counts is that of a count.
pub count_word : (xs : List Acquired) (w : Word) → (holds_counts None xs).marks w ≡ true → (f : ℕ) × (d : ℕ) × (w ≡ CountAt f d)
count_word [] w mark = absurd (false≢true mark)
count_word (x ∷ xs) w mark = elim (cases_word w (count_of x)) [
  | inl same ↦ (x.pin.frame, x.pin.core, same)
  | inr other ↦ count_word xs w (sym (ap (λ b. if b then true else (holds_counts None xs).marks w) (same_word-other w (count_of x) other))
      ∙ mark)
]
