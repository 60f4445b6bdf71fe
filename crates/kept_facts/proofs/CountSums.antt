-- How the sum of a frame's counts changes where one count word does, and how references change.
use Rattle.core_invariant.proofs.{◌≡◌, ◌≢◌, inl, inr, ℕ, zero, suc, ℤ, ◌+ℤ◌, ◌+◌, ◌<◌, ◌≤◌, ◌==◌, max, cond, List, [], ◌∷◌, Option, arith}
use Rattle.core_invariant.proofs.{refl, sym, ◌∙◌, ap, eq-eqb, ne_eqb, Capability, residue, CountWord, Holds, Quiescing, Grace, Thing, State}
use Rattle.core_invariant.proofs.{with_place, named_by, place_names, frame_names, sum_below, times, refs, counted, grace_refs, counters}
use Rattle.core_invariant.proofs.{count_in, count_sum, stamp_in, newest_of}
use Rattle.kernel_laws.specs.kernel_rules.specs.{◌-ℤ◌, with_grace, number_names, core_names, node_refs}
use Rattle.{std.proofs.lemmas.Bool.cases_eq, std.proofs.lemmas.Bool.cases_order, std.specs.List.range_with_len, std.proofs.lemmas.Int.ints}
use Rattle.{kernel_laws.specs.kernel_invariant.proofs.Refs.place_refs, core_invariant.proofs.Residues.residue_plus}
use Rattle.{kept_facts.proofs.Calm.IsCalm, kept_facts.proofs.Calm.calm_counted}
use Rattle.thread_laws.specs.kernel_invariant.proofs.Sums as sums
pub use Rattle.thread_laws.specs.kernel_history.proofs.Counters.{counter_all}

-- How often a number occurs in a list whose first it is, or is not.
pub times_here : (d c : ℕ) (cs : List ℕ) → c ≡ d → times d (c ∷ cs) ≡ 1 + times d cs
times_here d c cs here =
    let a = sums.times_cons d c cs in
    let one : ℕ = 1 in
    let b : cond (c == d) 1 0 ≡ one = ap (λ b. cond b 1 0) (eq-eqb c d here) in
    omega (arith, a, b)

pub times_there : (d c : ℕ) (cs : List ℕ) → c ≢ d → times d (c ∷ cs) ≡ times d cs
times_there d c cs there =
    let a = sums.times_cons d c cs in
    let none : ℕ = 0 in
    let b : cond (c == d) 1 0 ≡ none = ap (λ b. cond b 1 0) (ne_eqb c d there) in
    omega (arith, a, b)

-- The counter of each core occurs once among the counters of a machine.
none_before : (d a n : ℕ) → d < a → times d (range_with_len a n) ≡ 0
none_before d a zero before = refl
none_before d a (suc n) before =
    times_there d a (range_with_len (a + 1) n) (λ e. omega (arith, e, before)) ∙ none_before d (a + 1) n (omega (arith, before))

once_within : (d a n : ℕ) → a ≤ d → d < a + n → times d (range_with_len a n) ≡ 1
once_within d a zero least most = absurd (omega (arith, least, most))
once_within d a (suc n) least most = elim (cases_order a d) [
  | inl here ↦
      let first = times_here d a (range_with_len (a + 1) n) here in
      let rest = none_before d (a + 1) n (omega (arith, here)) in
      omega (arith, first, rest)
  | inr (inl before) ↦
      times_there d a (range_with_len (a + 1) n) (λ e. omega (arith, e, before))
      ∙ once_within d (a + 1) n (omega (arith, before)) (omega (arith, most))
  | inr (inr after) ↦ absurd (omega (arith, least, after))
]

pub counter_once : (n core : ℕ) → core < n → times core (counters n) ≡ 1
counter_once n core below = once_within core 0 n (omega arith) (omega (arith, below))

-- Two sums of integers, where the first of one number changes, and where the rest does.
first_changes : (a a' x : ℤ) → (a' +ℤ x) +ℤ a ≡ (a +ℤ x) +ℤ a'
first_changes a a' x = omega (arith, ints)

rest_changes : (a x x' y y' : ℤ) → x' +ℤ y ≡ x +ℤ y' → (a +ℤ x') +ℤ y ≡ (a +ℤ x) +ℤ y'
rest_changes a x x' y y' h = omega (arith, ints)

one_changed : (x x' a a' : ℤ) → x' +ℤ a ≡ x +ℤ a' → x' ≡ (x -ℤ a) +ℤ a'
one_changed x x' a a' h = omega (arith, ints, h)

one_added : (x a y : ℤ) → (x -ℤ a) +ℤ (a +ℤ y) ≡ x +ℤ y
one_added x a y = omega (arith, ints)

module _ (shown shown' : ℕ → Option CountWord) where
  -- Where no count changes, the sum stays.
  pub counts_same : (cs : List ℕ) → ((c : ℕ) → count_in (shown' c) ≡ count_in (shown c)) → count_sum shown' cs ≡ count_sum shown cs
  counts_same [] same = refl
  counts_same (c ∷ cs) same = ap (λ z. z +ℤ count_sum shown' cs) (same c) ∙ ap (λ z. count_in (shown c) +ℤ z) (counts_same cs same)

  pub sum_same : (cs : List ℕ) → ((c : ℕ) → shown' c ≡ shown c) → count_sum shown' cs ≡ count_sum shown cs
  sum_same cs same = counts_same cs (λ c. ap count_in (same c))

  counts_without : (cs : List ℕ) (d : ℕ) → times d cs ≡ 0 → ((c : ℕ) → c ≢ d → count_in (shown' c) ≡ count_in (shown c))
      → count_sum shown' cs ≡ count_sum shown cs
  counts_without [] d none same = refl
  counts_without (c ∷ cs) d none same = elim (cases_eq c d) [
    | inl here ↦ absurd (let a = times_here d c cs here in omega arith)
    | inr there ↦
        ap (λ z. z +ℤ count_sum shown' cs) (same c there)
        ∙ ap (λ z. count_in (shown c) +ℤ z) (counts_without cs d (sym (times_there d c cs there) ∙ none) same)
  ]

  -- Where one count changes that occurs once, the sum changes as it does.
  pub counts_one : (cs : List ℕ) (d : ℕ) → times d cs ≡ 1 → ((c : ℕ) → c ≢ d → count_in (shown' c) ≡ count_in (shown c))
      → count_sum shown' cs +ℤ count_in (shown d) ≡ count_sum shown cs +ℤ count_in (shown' d)
  counts_one [] d once same = absurd (omega arith)
  counts_one (c ∷ cs) d once same = elim (cases_eq c d) [
    | inl here ↦
        let none : times d cs ≡ 0 = (let a = times_here d c cs here in omega arith) in
        ap (λ (i : ℕ). (count_in (shown' i) +ℤ count_sum shown' cs) +ℤ count_in (shown d)) here
        ∙ ap (λ z. (count_in (shown' d) +ℤ z) +ℤ count_in (shown d)) (counts_without cs d none same)
        ∙ first_changes (count_in (shown d)) (count_in (shown' d)) (count_sum shown cs)
        ∙ ap (λ (i : ℕ). (count_in (shown i) +ℤ count_sum shown cs) +ℤ count_in (shown' d)) (sym here)
    | inr there ↦
        ap (λ z. (z +ℤ count_sum shown' cs) +ℤ count_in (shown d)) (same c there)
        ∙ rest_changes (count_in (shown c)) (count_sum shown cs) (count_sum shown' cs) (count_in (shown d)) (count_in (shown' d))
        (counts_one cs d (sym (times_there d c cs there) ∙ once) same)
  ]

  pub sum_one : (cs : List ℕ) (d : ℕ) → times d cs ≡ 1 → ((c : ℕ) → c ≢ d → shown' c ≡ shown c)
      → count_sum shown' cs +ℤ count_in (shown d) ≡ count_sum shown cs +ℤ count_in (shown' d)
  sum_one cs d once same = counts_one cs d once (λ c there. ap count_in (same c there))

  -- Where one count that occurs once changes by y, modulo 2 ^ 16, so does the sum.
  pub sum_by : (cs : List ℕ) (d : ℕ) (y : ℤ) → times d cs ≡ 1 → ((c : ℕ) → c ≢ d → shown' c ≡ shown c)
      → residue (count_in (shown' d)) ≡ residue (count_in (shown d) +ℤ y)
      → residue (count_sum shown' cs) ≡ residue (count_sum shown cs +ℤ y)
  sum_by cs d y once same by =
      ap residue (one_changed (count_sum shown cs) (count_sum shown' cs) (count_in (shown d)) (count_in (shown' d)) (sum_one cs d once same))
      ∙ residue_plus (count_sum shown cs -ℤ count_in (shown d)) (count_in (shown' d)) (count_in (shown d) +ℤ y) by
      ∙ ap residue (one_added (count_sum shown cs) (count_in (shown d)) y)

  -- Where no stamp changes, the newest stays.
  pub newest_same : (cs : List ℕ) → ((c : ℕ) → stamp_in (shown' c) ≡ stamp_in (shown c)) → newest_of shown' cs ≡ newest_of shown cs
  newest_same [] same = refl
  newest_same (c ∷ cs) same = ap (λ (n : ℕ). max n (newest_of shown' cs)) (same c) ∙ ap (max (stamp_in (shown c))) (newest_same cs same)

  newest_without : (cs : List ℕ) (d : ℕ) → times d cs ≡ 0 → ((c : ℕ) → c ≢ d → stamp_in (shown' c) ≡ stamp_in (shown c))
      → newest_of shown' cs ≡ newest_of shown cs
  newest_without [] d none same = refl
  newest_without (c ∷ cs) d none same = elim (cases_eq c d) [
    | inl here ↦ absurd (let a = times_here d c cs here in omega arith)
    | inr there ↦
        ap (λ (n : ℕ). max n (newest_of shown' cs)) (same c there)
        ∙ ap (max (stamp_in (shown c))) (newest_without cs d (sym (times_there d c cs there) ∙ none) same)
  ]

  -- Where one word that occurs once is stored with the later of its stamp and n, the newest is the later of what it was and n.
  pub newest_one : (cs : List ℕ) (d n : ℕ) → times d cs ≡ 1 → ((c : ℕ) → c ≢ d → stamp_in (shown' c) ≡ stamp_in (shown c))
      → stamp_in (shown' d) ≡ max (stamp_in (shown d)) n
      → newest_of shown' cs ≡ max (newest_of shown cs) n
  newest_one [] d n once same raised = absurd (omega arith)
  newest_one (c ∷ cs) d n once same raised = elim (cases_eq c d) [
    | inl here ↦
        let none : times d cs ≡ 0 = (let a = times_here d c cs here in omega arith) in
        let a : newest_of shown' cs ≡ newest_of shown cs = newest_without cs d none same in
        let b : stamp_in (shown' c) ≡ stamp_in (shown' d) = ap (λ (i : ℕ). stamp_in (shown' i)) here in
        let e : stamp_in (shown c) ≡ stamp_in (shown d) = ap (λ (i : ℕ). stamp_in (shown i)) here in
        omega (arith, a, b, e, raised)
    | inr there ↦
        let a = newest_one cs d n (sym (times_there d c cs there) ∙ once) same raised in
        let b = same c there in
        omega (arith, a, b)
  ]

-- A stamp that a word shows is at most the newest.
pub newest_most : (shown : ℕ → Option CountWord) (cs : List ℕ) (d : ℕ) → 1 ≤ times d cs → stamp_in (shown d) ≤ newest_of shown cs
newest_most shown [] d some = absurd (omega arith)
newest_most shown (c ∷ cs) d some = elim (cases_eq c d) [
  | inl here ↦ let e : stamp_in (shown c) ≡ stamp_in (shown d) = ap (λ (i : ℕ). stamp_in (shown i)) here in omega (arith, e)
  | inr there ↦
      let a = times_there d c cs there in
      let b = newest_most shown cs d (omega arith) in
      omega (arith, b)
]

-- The references to f that stand in an object, a core and a liveness number.
abbrev object_refs : ℕ → State → ℕ → ℕ
object_refs f s g = times f (frame_names (s.frame g))

abbrev core_refs : ℕ → State → ℕ → ℕ
core_refs f s c = times f (core_names (s.core c))

abbrev number_refs : ℕ → State → ℕ → ℕ
number_refs f s l = times f (number_names (s.number l))

-- A step that is calm and leaves the places leaves the references.
pub calm_refs : (s s' : State) (c : ℕ) → IsCalm s s' c → ((f i : ℕ) → s'.place f i ≡ s.place f i) → (f : ℕ) → refs s' f ≡ refs s f
unfolding refs node_refs
calm_refs s s' c calm places f =
    let a : sum_below (node_refs s' f) s'.limits.frames ≡ sum_below (node_refs s f) s.limits.frames =
    ap (λ l. sum_below (node_refs s' f) l.frames) calm.limits
    ∙ sums.sum_same (node_refs s f) (node_refs s' f) s.limits.frames (λ g below.
    sums.sum_same (λ i. times f (place_names (s.place g i))) (λ i. times f (place_names (s'.place g i))) 64
    (λ i small. ap (λ p. times f (place_names p)) (places g i))) in
    let b : sum_below (object_refs f s') s'.limits.frames ≡ sum_below (object_refs f s) s.limits.frames =
    ap (λ l. sum_below (object_refs f s') l.frames) calm.limits
    ∙ sums.sum_same (object_refs f s) (object_refs f s') s.limits.frames (λ g below. ap (λ x. times f (frame_names x)) (calm.frame g)) in
    let d : sum_below (core_refs f s') s'.limits.cores ≡ sum_below (core_refs f s) s.limits.cores =
    ap (λ l. sum_below (core_refs f s') l.cores) calm.limits
    ∙ sums.sum_same (core_refs f s) (core_refs f s') s.limits.cores (λ e below. ap (times f) (core_on e)) in
    let g : sum_below (number_refs f s') 64 ≡ sum_below (number_refs f s) 64 =
    sums.sum_same (number_refs f s) (number_refs f s') 64 (λ l small. ap (λ x. times f (number_names x)) (calm.number l)) in
    omega (arith, a, b, d, g)
  where
    core_on : (e : ℕ) → core_names (s'.core e) ≡ core_names (s.core e)
    core_on e = elim (cases_eq e c) [
      | inl own ↦ ap (λ (i : ℕ). core_names (s'.core i)) own ∙ ap core_names calm.own ∙ ap (λ (i : ℕ). core_names (s.core i)) (sym own)
      | inr other ↦ ap core_names (calm.others e other)
    ]

pub counted_refs : (s : State) (c f : ℕ) → refs (counted s c) f ≡ refs s f
counted_refs s c f = calm_refs s (counted s c) c (calm_counted s c) (λ g i. refl) f

-- A place that holds nothing and is filled adds the frame that its capability names.
pub fill_refs : (s : State) (c g i : ℕ) (k : Capability) → g < s.limits.frames → i < 64 → place_names (s.place g i) ≡ []
    → (f : ℕ) → refs (counted (with_place s g i (Holds k)) c) f ≡ refs s f + times f (named_by k.kind k.frame)
fill_refs s c g i k below small free f =
    let a = counted_refs (with_place s g i (Holds k)) c f in
    let b = place_refs s g i (Holds k) f below small in
    let d : times f (place_names (s.place g i)) ≡ 0 = ap (times f) free in
    omega (arith, a, b, d)

-- A place that is removed takes away the frame that its capability names.
pub remove_refs : (s : State) (g i : ℕ) (k : Capability) → g < s.limits.frames → i < 64 → s.place g i ≡ Holds k
    → (f : ℕ) → refs (with_place s g i (Quiescing k)) f + times f (named_by k.kind k.frame) ≡ refs s f
remove_refs s g i k below small holds f =
    let a = place_refs s g i (Quiescing k) f below small in
    let b : times f (place_names (s.place g i)) ≡ times f (place_names (Holds k)) = ap (λ p. times f (place_names p)) holds in
    omega (arith, a, b)

-- So it does with the grace periods that a decision begins, and the call counted.
pub removed_refs : (s : State) (c g i : ℕ) (k : Capability) (graces : Thing → Grace) → g < s.limits.frames → i < 64
    → s.place g i ≡ Holds k
    → (f : ℕ) → refs (counted (with_grace (with_place s g i (Quiescing k)) graces) c) f + times f (named_by k.kind k.frame) ≡ refs s f
removed_refs s c g i k graces below small holds f =
    let a = counted_refs (with_grace (with_place s g i (Quiescing k)) graces) c f in
    let b = grace_refs (with_place s g i (Quiescing k)) graces f in
    let d = remove_refs s g i k below small holds f in
    omega (arith, a, b, d)
