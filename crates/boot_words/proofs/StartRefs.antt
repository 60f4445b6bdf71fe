-- The references to each frame at the start.
use Rattle.kernel_history.specs.kernel_rules.proofs.{◌≡◌, ◌≢◌, inl, inr, ℕ, ◌+◌, ◌-◌, ◌*◌, ◌<◌, ◌≤◌, Bool, true, false, refl, sym, ap, ◌∙◌}
use Rattle.kernel_history.specs.kernel_rules.proofs.{arith, ◌==◌, ltb as nat_lt, [], ◌∷◌, ne_eqb, ltb-true, lt-ltb, Setting, IsSetting}
use Rattle.kernel_history.specs.kernel_rules.proofs.{start, start_place, start_cap, core_cap, start_frame, start_number, place_with}
use Rattle.kernel_history.specs.kernel_rules.proofs.{place_names, frame_names, number_names, core_names, sum_below, times, node_refs, refs}
use Rattle.kernel_history.proofs.Sums.{sum_same, sum_zero, sum_const, sum_both, sum_split, times_append, one_same, one_other, hits, hits_in}
use Rattle.{std.proofs.lemmas.Bool.cases_eq, std.proofs.lemmas.Bool.cases_lt, kernel_history.proofs.Sums.hits_out}

pub not_below : (a b : ℕ) → b ≤ a → nat_lt a b ≡ false
not_below a b h = tested (nat_lt a b) refl where
  tested : (t : Bool) → nat_lt a b ≡ t → t ≡ false
  tested true e = absurd (let p = ltb-true a b e in omega (arith, p, h))
  tested false e = refl

-- Past the first four, the capabilities are the cores'.
cap_core : (setup : Setting) (i : ℕ) → 4 ≤ i → start_cap setup i ≡ core_cap setup i
cap_core setup i h =
    rw (
      ne_eqb i 0 (λ e. omega (arith, h, e)),
      ne_eqb i 1 (λ e. omega (arith, h, e)),
      ne_eqb i 2 (λ e. omega (arith, h, e)),
      ne_eqb i 3 (λ e. omega (arith, h, e)),
    )

-- The references of one entry of the first leaf to f.
abbrev entry_refs : Setting → ℕ → ℕ → ℕ
entry_refs setup f i = times f (place_names (place_with (start_cap setup i)))

module _ (setup : Setting) (lim : IsSetting setup) (f : ℕ) where
  threads : (j : ℕ) → j < setup.cores → entry_refs setup f (4 + j) ≡ times f ((4 + j) ∷ [])
  threads j h =
      rw (cap_core setup (4 + j) (omega arith), not_below (4 + j) 4 (omega arith), lt-ltb (4 + j) (4 + setup.cores) (omega (arith, h)))

  between : (j : ℕ) → j < 8 - setup.cores → entry_refs setup f (4 + setup.cores + j) ≡ 0
  between j h = let n = lim.most_cores in
      rw (
        cap_core setup (4 + setup.cores + j) (omega arith),
        not_below (4 + setup.cores + j) 4 (omega arith),
        not_below (4 + setup.cores + j) (4 + setup.cores) (omega arith),
        lt-ltb (4 + setup.cores + j) 12 (omega (arith, h, n)),
      )

  tcaps : (j : ℕ) → j < setup.cores → entry_refs setup f (12 + j) ≡ times f ((4 + setup.cores + j) ∷ [])
  tcaps j h = let n = lim.most_cores in let e : 12 + j - 12 ≡ j = omega arith in
      rw (
        cap_core setup (12 + j) (omega arith),
        not_below (12 + j) 4 (omega arith),
        not_below (12 + j) (4 + setup.cores)
            (omega (arith, n)),
        not_below (12 + j) 12 (omega arith),
        lt-ltb (12 + j) (12 + setup.cores) (omega (arith, h)),
        e,
      )

  behind : (j : ℕ) → entry_refs setup f (12 + setup.cores + j) ≡ 0
  behind j = let n = lim.most_cores in
      rw (
        cap_core setup (12 + setup.cores + j) (omega arith),
        not_below (12 + setup.cores + j) 4 (omega arith),
        not_below (12 + setup.cores + j) (4 + setup.cores) (omega arith),
        not_below (12 + setup.cores + j) 12 (omega arith),
        not_below (12 + setup.cores + j) (12 + setup.cores) (omega arith),
      )

  first : sum_below (entry_refs setup f) 4 ≡ times f (0 ∷ []) + times f (2 ∷ []) + times f (3 ∷ [])
  unfolding sum_below
  first = omega arith

  leaf : sum_below (entry_refs setup f) 64
      ≡ times f (0 ∷ []) + times f (2 ∷ []) + times f (3 ∷ []) + hits f 4 setup.cores + hits f (4 + setup.cores) setup.cores
  leaf =
      let n = lim.most_cores in
      let g : ℕ → ℕ = entry_refs setup f in
      let a = sum_split g 64 (12 + setup.cores) (52 - setup.cores) (omega (arith, n)) in
      let b = sum_split g (12 + setup.cores) 12 setup.cores refl in
      let c = sum_split g 12 (4 + setup.cores) (8 - setup.cores) (omega (arith, n)) in
      let d = sum_split g (4 + setup.cores) 4 setup.cores refl in
      let p = sum_zero (λ j. g (12 + setup.cores + j)) (52 - setup.cores) (λ j h. behind j) in
      let q = sum_same (λ j. g (12 + j)) (λ j. times f ((4 + setup.cores + j) ∷ [])) setup.cores tcaps in
      let r = sum_zero (λ j. g (4 + setup.cores + j)) (8 - setup.cores) between in
      let s = sum_same (λ j. g (4 + j)) (λ j. times f ((4 + j) ∷ [])) setup.cores threads in
      let t = first in
      omega (arith, a, b, c, d, p, q, r, s, t)

  root_past : (i : ℕ) → times f (place_names (start_place setup 0 (1 + i))) ≡ 0
  root_past i = rw (ne_eqb (1 + i) 0 (λ e. omega (arith, e)))

  root : node_refs (start setup) f 0 ≡ times f (1 ∷ [])
  unfolding node_refs sum_below
  root =
      let g : ℕ → ℕ = λ i. times f (place_names (start_place setup 0 i)) in
      let a = sum_split g 64 1 63 refl in
      let p = sum_zero (λ i. g (1 + i)) 63 (λ i h. root_past i) in
      omega (arith, a, p)

  leaf_node : node_refs (start setup) f 1
      ≡ times f (0 ∷ []) + times f (2 ∷ []) + times f (3 ∷ []) + hits f 4 setup.cores + hits f (4 + setup.cores) setup.cores
  unfolding node_refs
  leaf_node = leaf

  other_node : (g : ℕ) → node_refs (start setup) f (2 + g) ≡ 0
  unfolding node_refs
  other_node g = sum_zero (λ i. times f (place_names (start_place setup (2 + g) i))) 64 (λ i h. free i)
    where
      free : (i : ℕ) → times f (place_names (start_place setup (2 + g) i)) ≡ 0
      free i = rw (ne_eqb (2 + g) 0 (λ e. omega (arith, e)), ne_eqb (2 + g) 1 (λ e. omega (arith, e)))

  nodes : sum_below (node_refs (start setup) f) setup.frames
      ≡ times f (1 ∷ []) + (times f (0 ∷ []) + times f (2 ∷ []) + times f
      (3 ∷ []) + hits f 4 setup.cores + hits f (4 + setup.cores) setup.cores)
  unfolding sum_below
  nodes =
      let n = lim.least_frames in
      let g : ℕ → ℕ = node_refs (start setup) f in
      let a = sum_split g setup.frames 2 (setup.frames - 2) (omega (arith, n)) in
      let p = sum_zero (λ i. g (2 + i)) (setup.frames - 2) (λ i h. other_node i) in
      omega (arith, a, p, root, leaf_node)

  -- The references of the object of one frame.
  object_refs : ℕ → ℕ
  object_refs g = times f (frame_names (start_frame setup g))

  past_three : (g : ℕ) → 4 ≤ g → (g == 0 ≡ false) × (g == 1 ≡ false) × (g == 2 ≡ false) × (g == 3 ≡ false)
  past_three g h = (
    ne_eqb g 0 (λ e. omega (arith, h, e)),
    ne_eqb g 1 (λ e. omega (arith, h, e)),
    ne_eqb g 2 (λ e. omega (arith, h, e)),
    ne_eqb g 3 (λ e. omega (arith, h, e)),
  )

  thread_object : (j : ℕ) → j < setup.cores → object_refs (4 + j) ≡ times f (3 ∷ [])
  unfolding object_refs
  thread_object j h =
      let p = past_three (4 + j) (omega arith) in
      rw (p.0, p.1, p.2, p.3, lt-ltb (4 + j) (4 + setup.cores) (omega (arith, h)))

  tcap_object : (j : ℕ) → j < setup.cores → object_refs (4 + setup.cores + j) ≡ 0
  unfolding object_refs
  tcap_object j h =
      let p = past_three (4 + setup.cores + j) (omega arith) in
      rw (
        p.0,
        p.1,
        p.2,
        p.3,
        not_below (4 + setup.cores + j) (4 + setup.cores) (omega arith),
        lt-ltb (4 + setup.cores + j) (4 + 2 * setup.cores) (omega (arith, h)),
      )

  untyped_object : (j : ℕ) → object_refs (4 + 2 * setup.cores + j) ≡ 0
  unfolding object_refs
  untyped_object j =
      let p = past_three (4 + 2 * setup.cores + j) (omega arith) in
      rw (
        p.0,
        p.1,
        p.2,
        p.3,
        not_below (4 + 2 * setup.cores + j) (4 + setup.cores) (omega arith),
        not_below (4 + 2 * setup.cores + j) (4 + 2 * setup.cores) (omega arith),
      )

  objects_first : sum_below object_refs 4 ≡ times f (0 ∷ (2 ∷ []))
  unfolding sum_below object_refs
  objects_first = omega arith

  objects : sum_below object_refs setup.frames ≡ times f (0 ∷ []) + times f (2 ∷ []) + times f (3 ∷ []) * setup.cores
  objects =
      let n = lim.least_frames in
      let a = sum_split object_refs setup.frames (4 + 2 * setup.cores) (setup.frames - (4 + 2 * setup.cores)) (omega (arith, n)) in
      let b = sum_split object_refs (4 + 2 * setup.cores) (4 + setup.cores) setup.cores (omega arith) in
      let d = sum_split object_refs (4 + setup.cores) 4 setup.cores refl in
      let p = sum_zero (λ j. object_refs (4 + 2 * setup.cores + j)) (setup.frames - (4 + 2 * setup.cores)) (λ j h. untyped_object j) in
      let q = sum_zero (λ j. object_refs (4 + setup.cores + j)) setup.cores tcap_object in
      let r = sum_const (λ j. object_refs (4 + j)) setup.cores (times f (3 ∷ [])) thread_object in
      let s = times_append f (0 ∷ []) (2 ∷ []) in
      omega (arith, a, b, d, p, q, r, s, objects_first)

  cores : sum_below (λ c. times f (core_names ((start setup).core c))) setup.cores
      ≡ hits f 4 setup.cores + hits f (4 + setup.cores) setup.cores
  cores =
      sum_same (λ c. times f (core_names ((start setup).core c)))
      (λ c. times f ((4 + c) ∷ []) + times f ((4 + setup.cores + c) ∷ [])) setup.cores
      (λ c h. times_append f ((4 + c) ∷ []) ((4 + setup.cores + c) ∷ []))
      ∙ sum_both (λ c. times f ((4 + c) ∷ [])) (λ c. times f ((4 + setup.cores + c) ∷ [])) setup.cores

  number_past : (l : ℕ) → times f (number_names (start_number (1 + l))) ≡ 0
  number_past l = rw (ne_eqb (1 + l) 0 (λ e. omega (arith, e)))

  numbers : sum_below (λ l. times f (number_names (start_number l))) 64 ≡ times f (3 ∷ [])
  unfolding sum_below
  numbers =
      let g : ℕ → ℕ = λ l. times f (number_names (start_number l)) in
      let a = sum_split g 64 1 63 refl in
      let p = sum_zero (λ i. g (1 + i)) 63 (λ i h. number_past i) in
      omega (arith, a, p)

  -- The references at the start, by what names the frame.
  all : refs (start setup) f
      ≡ 2 * times f (0 ∷ []) + times f (1 ∷ []) + 2 * times f (2 ∷ []) + 2 * times f (3 ∷ []) + times f (3 ∷ []) * setup.cores
      + 2 * hits f 4 setup.cores + 2 * hits f (4 + setup.cores) setup.cores
  unfolding refs object_refs
  all = omega (arith, nodes, objects, cores, numbers)

  outside : (k : ℕ) → k ≢ f → times f (k ∷ []) ≡ 0
  outside k other = one_other f k other

  pub refs_table : f ≡ 0 → refs (start setup) f ≡ 2
  refs_table is =
      let a = one_same f 0 (sym is) in
      let b = outside 1 (λ e. omega (arith, e, is)) in
      let c = outside 2 (λ e. omega (arith, e, is)) in
      let d = outside 3 (λ e. omega (arith, e, is)) in
      let p = hits_out f 4 setup.cores (λ i h e. omega (arith, e, is)) in
      let q = hits_out f (4 + setup.cores) setup.cores (λ i h e. omega (arith, e, is)) in
      let t = all in
      let zero_times : times f (3 ∷ []) * setup.cores ≡ 0 = ap (λ x. x * setup.cores) d ∙ omega arith in
      omega arith

  pub refs_leaf : f ≡ 1 → refs (start setup) f ≡ 1
  refs_leaf is =
      let a = outside 0 (λ e. omega (arith, e, is)) in
      let b = one_same f 1 (sym is) in
      let c = outside 2 (λ e. omega (arith, e, is)) in
      let d = outside 3 (λ e. omega (arith, e, is)) in
      let p = hits_out f 4 setup.cores (λ i h e. omega (arith, e, is)) in
      let q = hits_out f (4 + setup.cores) setup.cores (λ i h e. omega (arith, e, is)) in
      let t = all in
      let zero_times : times f (3 ∷ []) * setup.cores ≡ 0 = ap (λ x. x * setup.cores) d ∙ omega arith in
      omega arith

  pub refs_pages : f ≡ 2 → refs (start setup) f ≡ 2
  refs_pages is =
      let a = outside 0 (λ e. omega (arith, e, is)) in
      let b = outside 1 (λ e. omega (arith, e, is)) in
      let c = one_same f 2 (sym is) in
      let d = outside 3 (λ e. omega (arith, e, is)) in
      let p = hits_out f 4 setup.cores (λ i h e. omega (arith, e, is)) in
      let q = hits_out f (4 + setup.cores) setup.cores (λ i h e. omega (arith, e, is)) in
      let t = all in
      let zero_times : times f (3 ∷ []) * setup.cores ≡ 0 = ap (λ x. x * setup.cores) d ∙ omega arith in
      omega arith

  pub refs_comp : f ≡ 3 → refs (start setup) f ≡ 2 + setup.cores
  refs_comp is =
      let a = outside 0 (λ e. omega (arith, e, is)) in
      let b = outside 1 (λ e. omega (arith, e, is)) in
      let c = outside 2 (λ e. omega (arith, e, is)) in
      let d = one_same f 3 (sym is) in
      let p = hits_out f 4 setup.cores (λ i h e. omega (arith, e, is)) in
      let q = hits_out f (4 + setup.cores) setup.cores (λ i h e. omega (arith, e, is)) in
      let t = all in
      let each : times f (3 ∷ []) * setup.cores ≡ setup.cores = ap (λ x. x * setup.cores) d ∙ omega arith in
      omega arith

  past : 4 ≤ f → refs (start setup) f ≡ 2 * hits f 4 setup.cores + 2 * hits f (4 + setup.cores) setup.cores
  past low =
      let a = outside 0 (λ e. omega (arith, e, low)) in
      let b = outside 1 (λ e. omega (arith, e, low)) in
      let c = outside 2 (λ e. omega (arith, e, low)) in
      let d = outside 3 (λ e. omega (arith, e, low)) in
      let t = all in
      let zero_times : times f (3 ∷ []) * setup.cores ≡ 0 = ap (λ x. x * setup.cores) d ∙ omega arith in
      omega arith

  pub refs_thread : 4 ≤ f → f < 4 + setup.cores → refs (start setup) f ≡ 2
  refs_thread low high =
      let p = hits_in f 4 setup.cores low high in
      let q = hits_out f (4 + setup.cores) setup.cores (λ i h e. omega (arith, e, high)) in
      let t = past low in
      omega arith

  pub refs_tcap : 4 + setup.cores ≤ f → f < 4 + 2 * setup.cores → refs (start setup) f ≡ 2
  refs_tcap low high =
      let p = hits_out f 4 setup.cores (λ i h e. omega (arith, h, e, low)) in
      let q = hits_in f (4 + setup.cores) setup.cores low (omega (arith, high)) in
      let t = past (omega (arith, low)) in
      omega arith

  pub refs_object : 4 ≤ f → f < 4 + 2 * setup.cores → refs (start setup) f ≡ 2
  refs_object low high = elim (cases_lt f (4 + setup.cores)) [ inl below ↦ refs_thread low below | inr above ↦ refs_tcap above high ]

  pub refs_untyped : 4 + 2 * setup.cores ≤ f → refs (start setup) f ≡ 0
  refs_untyped low =
      let p = hits_out f 4 setup.cores (λ i h e. omega (arith, h, e, low)) in
      let q = hits_out f (4 + setup.cores) setup.cores (λ i h e. omega (arith, h, e, low)) in
      let t = past (omega (arith, low)) in
      omega arith

  -- There are at most 10 references to a frame.
  pub refs_most : refs (start setup) f ≤ 10
  refs_most = elim (cases_lt f 4) [
    | inl low ↦ first_four low
    | inr high ↦ elim (cases_lt f (4 + 2 * setup.cores)) [
      | inl below ↦
          omega (arith, refs_object high below)
      | inr above ↦ omega (arith, refs_untyped above)
    ]
  ]
    where
      first_four : f < 4 → refs (start setup) f ≤ 10
      first_four low = let n = lim.most_cores in elim (cases_eq f 0) [
        | inl is ↦ omega (arith, refs_table is)
        | inr a ↦ elim (cases_eq f 1) [
          | inl is ↦ omega (arith, refs_leaf is)
          | inr b ↦ elim (cases_eq f 2) [
            | inl is ↦ omega (arith, refs_pages is)
            | inr c ↦ omega (arith, refs_comp (omega (arith, low, a, b, c)), n)
          ]
        ]
      ]
