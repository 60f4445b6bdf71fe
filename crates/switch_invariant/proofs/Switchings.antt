-- What a switch leaves of the state: the old thread is idle, the new one runs on the core, and all else of frames and of other cores is as
-- it was. And what it makes of references: each frame is released or taken once, or is none of these.
use Rattle.thread_invariant.specs.act_states.proofs.{◌≡◌, ◌≢◌, ℕ, ℤ, pos, negsuc, ◌+ℤ◌, max, ◌+◌, ◌<◌, ◌≤◌, ◌==◌, ◌||◌, cond, Bool, true}
use Rattle.thread_invariant.specs.act_states.proofs.{false, if◌then◌else◌, List, [], ◌∷◌, Some, None, arith, refl, sym, ◌∙◌, ap, eq-eqb}
use Rattle.thread_invariant.specs.act_states.proofs.{ne_eqb, All, Grace, Kernel, Thing, FrameOf, State, Thread, put, thread_in, thread_of}
use Rattle.thread_invariant.specs.act_states.proofs.{counted, same_thing, times, frames_of, times_cons, put_same, put_other, later}
use Rattle.thread_invariant.specs.act_states.proofs.{stamp_of_change, tcap_dues, Core}
use Rattle.thread_invariant.specs.kernel_history.specs.{running, with_thread}
use Rattle.std.proofs.lemmas.List.Elements.{All-nil, All-cons, All-head, All-tail}
use Rattle.std.proofs.Math.IntN.{pos-+ℤ-pos, +ℤ_assoc, +ℤ_invr, +ℤ_idr}
use Rattle.{std.specs.List.list_any, thread_invariant.specs.act_states.specs.declared.work.Due.Due}
use Rattle.thread_invariant.specs.kernel_rules.specs.State as state

-- The state after the switch of core c to the thread in frame f, with this temporal capability and these grace periods.
abbrev pub switched_to : State → ℕ → ℕ → ℕ → (Thing → Grace) → State
switched_to s c f q graces = counted (state.with_grace (state.with_core (running (running s (s.core c).thread None) f (Some c)) c
    (record (s.core c) { thread = f; tcap = q })) graces) c

module _ (s : State) (c f q : ℕ) (graces : Thing → Grace) (own : s.frame (s.core c).thread ≡ Kernel (Thread (thread_of s c)))
    (new : s.frame f ≡ Kernel (Thread (thread_in (s.frame f)))) (apart : f ≢ (s.core c).thread) where
  abbrev old : ℕ
  old = (s.core c).thread

  abbrev idle : State
  idle = running s (s.core c).thread None

  abbrev s' : State
  s' = switched_to s c f q graces

  pub frame_new : (g : ℕ) → g ≡ f
      → (switched_to s c f q graces).frame g ≡ Kernel (Thread (record (thread_in (s.frame f)) { runs_on = Some c }))
  frame_new g is = put_same idle.frame f (with_thread (idle.frame f) (record (thread_in (idle.frame f)) { runs_on = Some c })) g is
      ∙ ap (λ x. with_thread x (record (thread_in x) { runs_on = Some c }))
      (put_other s.frame old (with_thread (s.frame old) (record (thread_in (s.frame old)) { runs_on = None })) f apart)
      ∙ ap (λ x. with_thread x (record (thread_in (s.frame f)) { runs_on = Some c })) new

  pub frame_old : (g : ℕ) → g ≡ (s.core c).thread
      → (switched_to s c f q graces).frame g ≡ Kernel (Thread (record (thread_of s c) { runs_on = None }))
  frame_old g is = put_other idle.frame f (with_thread (idle.frame f) (record (thread_in (idle.frame f)) { runs_on = Some c })) g
      (λ same. apart (sym same ∙ is))
      ∙ put_same s.frame old (with_thread (s.frame old) (record (thread_in (s.frame old)) { runs_on = None })) g is
      ∙ ap (λ x. with_thread x (record (thread_of s c) { runs_on = None })) own

  pub frame_away : (g : ℕ) → g ≢ f → g ≢ (s.core c).thread → (switched_to s c f q graces).frame g ≡ s.frame g
  frame_away g other another =
      put_other idle.frame f (with_thread (idle.frame f) (record (thread_in (idle.frame f)) { runs_on = Some c })) g other
      ∙ put_other s.frame old (with_thread (s.frame old) (record (thread_in (s.frame old)) { runs_on = None })) g another

  pub core_new : (switched_to s c f q graces).core c ≡ record (s.core c) { thread = f; tcap = q; counted = (s.core c).counted + 1 }
  core_new =
      let k : Core = record (s.core c) { thread = f; tcap = q } in
      put_same (put s.core c k) c (record ((put s.core c k) c) { counted = ((put s.core c k) c).counted + 1 }) c refl
      ∙ ap (λ (j : Core). record j { counted = j.counted + 1 }) (put_same s.core c k c refl)

  pub core_away : (d : ℕ) → d ≢ c → (switched_to s c f q graces).core d ≡ s.core d
  core_away d other =
      let k : Core = record (s.core c) { thread = f; tcap = q } in
      put_other (put s.core c k) c (record ((put s.core c k) c) { counted = ((put s.core c k) c).counted + 1 }) d other
      ∙ put_other s.core c k d other

-- A count that rises by one, and one that falls.
one_more : (m n : ℕ) → n ≡ m + 1 → pos n ≡ pos m +ℤ pos 1
one_more m n is = ap (λ (k : ℕ). pos k) is ∙ sym (pos-+ℤ-pos m 1)

one_less : (m n : ℕ) → n + 1 ≡ m → pos n ≡ pos m +ℤ negsuc 0
one_less m n is = sym (ap (λ (k : ℕ). pos k +ℤ negsuc 0) (sym is) ∙ ap (λ z. z +ℤ negsuc 0) (sym (pos-+ℤ-pos n 1)) ∙ +ℤ_assoc (pos n)
    (pos 1) (negsuc 0) ∙ ap (λ z. pos n +ℤ z) (+ℤ_invr (pos 1)) ∙ +ℤ_idr (pos n))

counts_here : (g x : ℕ) (xs : List ℕ) → g ≡ x → times g (x ∷ xs) ≡ 1 + times g xs
counts_here g x xs same = times_cons g x xs ∙ ap (λ b. cond b 1 0 + times g xs) (eq-eqb x g (sym same))

counts_away : (g x : ℕ) (xs : List ℕ) → g ≢ x → times g (x ∷ xs) ≡ times g xs
counts_away g x xs other =
    let all = times_cons g x xs in
    let none = none_here in
    omega (arith, all, none)
  where
    none_here : cond {A = ℕ} (x == g) 1 0 ≡ 0
    none_here = ap (λ (b : Bool). cond {A = ℕ} b 1 0) (ne_eqb x g (λ same. other (sym same)))

-- The frames that a switch takes, and those that it releases.
abbrev pub takes : Bool → ℕ → ℕ → List ℕ
takes same f q = f ∷ (if same then [] else q ∷ [])

abbrev pub releases : Bool → ℕ → ℕ → List ℕ
releases same old p = old ∷ (if same then [] else p ∷ [])

abbrev pub all_dues : Bool → ℕ → ℕ → ℕ → ℕ → List Due
all_dues same f old q p = record { frame = f; change = pos 1 } ∷ record { frame = old; change = negsuc 0 } ∷ tcap_dues same q p

-- The threads and the temporal capabilities are apart.
pub record AreApart (f old q p : ℕ) : Type 0 where
  pub new_old : f ≢ old
  pub new_to : f ≢ q
  pub new_from : f ≢ p
  pub old_to : old ≢ q
  pub old_from : old ≢ p

-- Of the references before and after, and the stamps.
module _ (before after stamp stamp' : ℕ → ℕ) (x now_at f old q p : ℕ) (apart : AreApart f old q p) (drawn_is : now_at ≡ x)
    (past : (g : ℕ) → stamp g < x) (same : Bool) (test : (q == p) ≡ same)
    (moves : (g : ℕ) → after g + times g (releases same old p) ≡ before g + times g (takes same f q))
    (begins : (g : ℕ) → list_any (same_thing (FrameOf g)) (frames_of (releases same old p)) ≡ true → stamp' g ≡ x)
    (stays : (g : ℕ) → list_any (same_thing (FrameOf g)) (frames_of (releases same old p)) ≡ false → stamp' g ≡ stamp g) where
  abbrev Kept : ℕ → Type 0
  Kept g = (after g ≡ before g) × (stamp' g ≡ stamp g)

  abbrev Changes : Due → Type 0
  Changes d = (pos (after d.frame) ≡ pos (before d.frame) +ℤ d.change)
      × (stamp' d.frame ≡ max (stamp d.frame) (later 0 (stamp_of_change d.change (Some now_at))))

  -- a frame that is none of them
  kept_by : (b : Bool) → ((g : ℕ) → after g + times g (releases b old p) ≡ before g + times g (takes b f q))
      → ((g : ℕ) → list_any (same_thing (FrameOf g)) (frames_of (releases b old p)) ≡ false → stamp' g ≡ stamp g)
      → (g : ℕ) → All (λ d. g ≢ d.frame) (all_dues b f old q p) → Kept g
  kept_by true moved stay g others =
      let f_away = All-head (λ (d : Due). g ≢ d.frame) (record { frame = f; change = pos 1 })
      (record { frame = old; change = negsuc 0 } ∷ []) others in
      let old_away = All-head (λ (d : Due). g ≢ d.frame) (record { frame = old; change = negsuc 0 }) []
      (All-tail (λ (d : Due). g ≢ d.frame) (record { frame = f; change = pos 1 })
      (record { frame = old; change = negsuc 0 } ∷ []) others) in (
        (let all = moved g in let a = counts_away g old [] old_away in let b = counts_away g f [] f_away in omega (arith, all, a, b)),
        stay g (ap (λ b. b || false) (ne_eqb g old old_away)),
      )
  kept_by false moved stay g others =
      let rest = All-tail (λ (d : Due). g ≢ d.frame) (record { frame = f; change = pos 1 }) (record { frame = old; change = negsuc 0 }
      ∷ record { frame = q; change = pos 1 } ∷ record { frame = p; change = negsuc 0 } ∷ []) others in
      let more = All-tail (λ (d : Due). g ≢ d.frame) (record { frame = old; change = negsuc 0 })
      (record { frame = q; change = pos 1 } ∷ record { frame = p; change = negsuc 0 } ∷ []) rest in
      let last = All-tail (λ (d : Due). g ≢ d.frame) (record { frame = q; change = pos 1 })
      (record { frame = p; change = negsuc 0 } ∷ []) more in
      let f_away = All-head (λ (d : Due). g ≢ d.frame) (record { frame = f; change = pos 1 }) (record { frame = old; change = negsuc 0 }
      ∷ record { frame = q; change = pos 1 } ∷ record { frame = p; change = negsuc 0 } ∷ []) others in
      let old_away = All-head (λ (d : Due). g ≢ d.frame) (record { frame = old; change = negsuc 0 })
      (record { frame = q; change = pos 1 } ∷ record { frame = p; change = negsuc 0 } ∷ []) rest in
      let q_away = All-head (λ (d : Due). g ≢ d.frame) (record { frame = q; change = pos 1 })
      (record { frame = p; change = negsuc 0 } ∷ []) more in
      let p_away = All-head (λ (d : Due). g ≢ d.frame) (record { frame = p; change = negsuc 0 }) [] last in (
        (let all = moved g in let a = counts_away g old (p ∷ []) old_away in let b = counts_away g p [] p_away in
            let d = counts_away g f (q ∷ []) f_away in let e = counts_away g q [] q_away in omega (arith, all, a, b, d, e)),
        stay g (ap (λ b. b || (g == p || false)) (ne_eqb g old old_away) ∙ ap (λ b. b || false) (ne_eqb g p p_away)),
      )

  pub frames_kept : (g : ℕ) → All (λ d. g ≢ d.frame) (all_dues same f old q p) → (after g ≡ before g) × (stamp' g ≡ stamp g)
  frames_kept = kept_by same moves stays

  -- a frame that is taken, where it is not released
  taken : (b : Bool) (g : ℕ) → after g + 0 ≡ before g + 1 → list_any (same_thing (FrameOf g)) (frames_of (releases b old p)) ≡ false
      → (list_any (same_thing (FrameOf g)) (frames_of (releases b old p)) ≡ false → stamp' g ≡ stamp g)
      → (pos (after g) ≡ pos (before g) +ℤ pos 1) × (stamp' g ≡ max (stamp g) 0)
  taken b g more not stay = (
    one_more (before g) (after g) (omega (arith, more)),
    (let is = stay not in omega (arith, is)),
  )

  -- and one that is released
  fallen : (b : Bool) (g : ℕ) → after g + 1 ≡ before g + 0 → list_any (same_thing (FrameOf g)) (frames_of (releases b old p)) ≡ true
      → (list_any (same_thing (FrameOf g)) (frames_of (releases b old p)) ≡ true → stamp' g ≡ x)
      → (pos (after g) ≡ pos (before g) +ℤ negsuc 0) × (stamp' g ≡ max (stamp g) (max 0 now_at))
  fallen b g less is begin = (
    one_less (before g) (after g) (omega (arith, less)),
    (let now = begin is in let low = past g in let drawn = drawn_is in omega (arith, now, low, drawn)),
  )

  changes_by : (b : Bool) → (q == p) ≡ b → ((g : ℕ) → after g + times g (releases b old p) ≡ before g + times g (takes b f q))
      → ((g : ℕ) → list_any (same_thing (FrameOf g)) (frames_of (releases b old p)) ≡ true → stamp' g ≡ x)
      → ((g : ℕ) → list_any (same_thing (FrameOf g)) (frames_of (releases b old p)) ≡ false → stamp' g ≡ stamp g)
      → All Changes (all_dues b f old q p)
  changes_by true is moved begin stay =
      All-cons Changes (record { frame = f; change = pos 1 }) (record { frame = old; change = negsuc 0 } ∷ [])
      (taken true f
      (let all = moved f in let a = counts_away f old [] apart.new_old in let b = counts_here f f [] refl in omega (arith, all, a, b))
      (ap (λ b. b || false) (ne_eqb f old apart.new_old)) (stay f))
      (All-cons Changes (record { frame = old; change = negsuc 0 }) []
      (fallen true old
      (let all = moved old in let a = counts_here old old [] refl in let b = counts_away old f [] (λ h. apart.new_old (sym h)) in
      omega (arith, all, a, b))
      (ap (λ b. b || false) (eq-eqb old old refl)) (begin old)) (All-nil Changes))
  changes_by false is moved begin stay =
      let to_from : q ≢ p = differ is in
      All-cons Changes (record { frame = f; change = pos 1 }) (record { frame = old; change = negsuc 0 }
      ∷ record { frame = q; change = pos 1 } ∷ record { frame = p; change = negsuc 0 } ∷ [])
      (taken false f
      (let all = moved f in let a = counts_away f old (p ∷ []) apart.new_old in let b = counts_away f p [] apart.new_from in
      let d = counts_here f f (q ∷ []) refl in let e = counts_away f q [] apart.new_to in omega (arith, all, a, b, d, e))
      (ap (λ b. b || (f == p || false)) (ne_eqb f old apart.new_old) ∙ ap (λ b. b || false) (ne_eqb f p apart.new_from)) (stay f))
      (All-cons Changes (record { frame = old; change = negsuc 0 })
      (record { frame = q; change = pos 1 } ∷ record { frame = p; change = negsuc 0 } ∷ [])
      (fallen false old
      (let all = moved old in let a = counts_here old old (p ∷ []) refl in let b = counts_away old p [] apart.old_from in
      let d = counts_away old f (q ∷ []) (λ h. apart.new_old (sym h)) in let e = counts_away old q [] apart.old_to in
      omega (arith, all, a, b, d, e))
      (ap (λ b. b || (old == p || false)) (eq-eqb old old refl)) (begin old))
      (All-cons Changes (record { frame = q; change = pos 1 }) (record { frame = p; change = negsuc 0 } ∷ [])
      (taken false q
      (let all = moved q in let a = counts_away q old (p ∷ []) (λ h. apart.old_to (sym h)) in let b = counts_away q p [] to_from in
      let d = counts_away q f (q ∷ []) (λ h. apart.new_to (sym h)) in let e = counts_here q q [] refl in omega (arith, all, a, b, d, e))
      (ap (λ b. b || (q == p || false)) (ne_eqb q old (λ h. apart.old_to (sym h))) ∙ ap (λ b. b || false) (ne_eqb q p to_from)) (stay q))
      (All-cons Changes (record { frame = p; change = negsuc 0 }) []
      (fallen false p
      (let all = moved p in let a = counts_away p old (p ∷ []) (λ h. apart.old_from (sym h)) in let b = counts_here p p [] refl in
      let d = counts_away p f (q ∷ []) (λ h. apart.new_from (sym h)) in let e = counts_away p q [] (λ h. to_from (sym h)) in
      omega (arith, all, a, b, d, e))
      (ap (λ b. b || (p == p || false)) (ne_eqb p old (λ h. apart.old_from (sym h))) ∙ ap (λ b. b || false) (eq-eqb p p refl)) (begin p))
      (All-nil Changes))))
    where
      differ : (q == p) ≡ false → q ≢ p
      differ h same_is = false_true (sym h ∙ eq-eqb q p same_is)
        where
          false_true : false ≡ true → ⊥
          false_true h = cc

  pub frames_changed : All Changes (all_dues same f old q p)
  frames_changed = changes_by same test moves begins stays
