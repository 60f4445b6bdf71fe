-- What a decision makes of the counts of a call that acquires those of what one capability names, each for the same change.
use Rattle.step_ways.proofs.{◌≡◌, ◌≢◌, ℕ, ℤ, pos, ◌+ℤ◌, ◌+◌, ◌^◌, ◌<◌, ◌≤◌, max, map, length, true, if◌then◌else◌, List, [], ◌∷◌, Option}
use Rattle.step_ways.proofs.{Some, None, arith, refl, sym, ◌∙◌, ap, eq-eqb, ne_eqb, All, Setting, IsSetting, Reply, Word, CountAt, Move}
use Rattle.step_ways.proofs.{word_of, left_of, FrameOf, State, put, times, refs, mark_of, marked_by, stamp, Step, Trace, state_after}
use Rattle.step_ways.proofs.{last_left, later, stamp_of_change, Due, ActiveCall, Core, holds_counts, WordIs, due_of, holds, held_by}
use Rattle.step_ways.proofs.{times_of, SumIs, Invariant, ReadsAlike, inner}
use Rattle.std.proofs.lemmas.List.Elements.{All-nil, All-cons, All-head}
use Rattle.count_invariant.proofs.CountChanges.{dues_sum, dues_commit}
use Rattle.plan_ways.specs.kernel_invariant.proofs.Sums as sums

-- What a capability has due, by what it names.
abbrev pub dues_of : ℤ → List ℕ → List Due
dues_of z fs = map (λ f. record { frame = f; change = z }) fs

two_named : (z : ℤ) (f g : ℕ) (fs : List ℕ) → length (dues_of z (f ∷ g ∷ fs)) ≤ 1 → ⊥
two_named z f g fs few = omega arith

-- The call has drawn this stamp or none, each count that its act changes is changed by z, and the frames of these are fs.
module _ (setup : Setting) (setting : IsSetting setup) (cores : ℕ → Core) (t : Trace) (stands : Invariant setup cores t) (c : ℕ)
    (here : c < setup.cores)
    (a : ActiveCall) (active : (cores c).active ≡ Some a) (z : ℤ) (drawn : Option ℕ)
    (drawn_small : later 0 drawn < 2 ^ 43)
    (fs : List ℕ) (few : length (dues_of z fs) ≤ 1) (all : dues_of z fs ≡ map due_of a.counts)
    (move : Move) (r : Reply) (after : Core) (still : (w : Word) → (holds after).marks w ≡ (holds (cores c)).marks w)
    (before_count : (f d : ℕ) → ((holds (cores c)).marks (CountAt f d) ≡ (holds_counts None a.counts).marks (CountAt f d))
    × ((holds (cores c)).stands (CountAt f d) ≡ (holds_counts None a.counts).stands (CountAt f d)))
    (after_count : (f d : ℕ) → (holds after).stands (CountAt f d) ≡ (holds_counts (Some drawn) a.counts).stands (CountAt f d))
    (alike : ReadsAlike setup t (inner setup setting cores t stands c here a active move (Some r) None))
    (was : marked_by setup t (word_of move) ≡ None) (now : mark_of (state_after setup t) (word_of move)
    (left_of move (last_left setup t (word_of move))) ≡ None)
    (no_count : (f d : ℕ) → CountAt f d ≢ word_of move) where
  abbrev e : Step
  e = inner setup setting cores t stands c here a active move (Some r) None

  abbrev s : State
  s = state_after setup t

  abbrev s' : State
  s' = state_after setup (e ∷ t)

  -- the references change by z exactly where the frame is named, and its last release is then the stamp drawn
  module _ (cores_same : s'.limits.cores ≡ s.limits.cores) (kept : (f : ℕ) → times f fs ≡ 0 → (refs s' f ≡ refs s f) ×
      (stamp setup (e ∷ t) (FrameOf f) ≡ stamp setup t (FrameOf f)))
      (changes : (f : ℕ) → times f fs ≡ 1 → (pos (refs s' f) ≡ pos (refs s f) +ℤ z)
      × (stamp setup (e ∷ t) (FrameOf f) ≡ max (stamp setup t (FrameOf f)) (later 0 (stamp_of_change z drawn)))) where
    abbrev Changes : Due → Type 0
    Changes d = (pos (refs s' d.frame) ≡ pos (refs s d.frame) +ℤ d.change)
        × (stamp setup (e ∷ t) (FrameOf d.frame) ≡ max (stamp setup t (FrameOf d.frame)) (later 0 (stamp_of_change d.change drawn)))

    named_not : (f : ℕ) (gs : List ℕ) → length (dues_of z gs) ≤ 1 → All (λ d. f ≢ d.frame) (dues_of z gs) → times f gs ≡ 0
    named_not f [] one apart = refl
    named_not f (g ∷ []) one apart = sums.times_cons f g [] ∙ ap (λ b. (if b then 1 else 0) + 0)
        (ne_eqb g f (λ h. All-head (λ d. f ≢ d.frame) (record { frame = g; change = z }) [] apart (sym h)))
    named_not f (g ∷ h ∷ gs) one apart = absurd (two_named z g h gs one)

    named_once : (gs : List ℕ) → length (dues_of z gs) ≤ 1 → ((f : ℕ) → times f gs ≡ 1 → Changes (record { frame = f; change = z }))
        → All Changes (dues_of z gs)
    named_once [] one each = All-nil Changes
    named_once (g ∷ []) one each = All-cons Changes (record { frame = g; change = z }) []
        (each g (sums.times_cons g g [] ∙ ap (λ b. (if b then 1 else 0) + 0) (eq-eqb g g refl))) (All-nil Changes)
    named_once (g ∷ h ∷ gs) one each = absurd (two_named z g h gs one)

    pub counts_sum : (f : ℕ) → SumIs setup (held_by (put cores c after)) (e ∷ t) f
    counts_sum = dues_sum setup setting cores t stands c here a active drawn drawn_small (dues_of z fs) all move r after still
        before_count after_count alike was now no_count cores_same (λ f apart. kept f (named_not f fs few apart))
        (named_once fs few changes)

  -- each count that the call holds says then what its commit will store
  pub counts_commit : (w : Word) → (holds_counts None a.counts).marks w ≡ true
      → WordIs s' (times_of setup (e ∷ t)) w ((holds_counts (Some drawn) a.counts).stands w)
  counts_commit = dues_commit setup setting cores t stands c here a active drawn drawn_small (dues_of z fs) all move r after still
      before_count after_count alike was now no_count
