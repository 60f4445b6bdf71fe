-- What count words tell while calls hold them: what a word will show, by the phase of the call that holds it, is what it settles to. So
-- what the count words of a frame will show sums to the references to it.
use Rattle.time_laws.specs.kept_facts.proofs as low
use low.{◌≡◌, ◌≢◌, inl, inr, ℕ, ℤ, pos, ◌+ℤ◌, ◌<◌, ◌&&◌, Bool, true, false, if◌then◌else◌, List, [], ◌∷◌, Option, Some, None, refl, sym}
use low.{◌∙◌, ap, subst, is_some, false≢true, eq-eqb, ne_eqb, Setting, IsSetting, Call, Reply, count_of_word, residue, CountWord, Hold}
use low.{Pinned, Closed, Word, CountAt, State, refs, put_other, counters, count_in, count_sum, MayDecide, marked_by, count_mark, hold_mark}
use low.{Step, Trace, Phase, Open, phase, after_enter, after_decide, state_after, state_before, last_left, phase-other, acquired, unheld}
use low.{committed, settled_by, Invariant, holds, holds_in, held_by, limits_of, refs_residue}
use Rattle.time_laws.specs.flight.specs.{core_after, cores_after, stepping_core, IsMade}
use Rattle.std.proofs.lemmas.Bool.{cases_eq, cases_lt}
use Rattle.time_laws.specs.history_laws.specs.{is_carried_out, CountsTell}
use Rattle.time_laws.specs.kernel_history.specs.{◌-ℤ◌, Unheld}
use Rattle.time_laws.specs.history_laws.specs.Counts.{changed_by, count_then, sum_then, will_show}
use Rattle.flight_laws.proofs.CountHolds.{before_is, entered_is, frozen_say, held_before, kept, phase_is, raw_other}
use Rattle.flight_laws.proofs.AcquiredCounts.{count_stays, decides_told, entry, has_count, settles_to, told}
use Rattle.flight_laws.proofs.SettledCounts.{cleared_is, closed_shows, count_changes, free_shows, not_ok, pinned_shows, settled_shows}
use Rattle.{time_laws.specs.frame_words.specs.Residue.wrapped, time_laws.specs.flight.proofs.Made.made_stands}
use Rattle.{flight_laws.proofs.FrozenCounts.cleared_if, flight_laws.proofs.SettledCounts.shows}

same_some : {A : Type 0} (x y : A) → Some x ≡ Some y → x ≡ y
same_some x y h = cc

-- A core that holds a word is one of the machine.
pub holder_below : (setup : Setting) (setting : IsSetting setup) (t : Trace) → IsMade setup t → (w : Word) (d : ℕ)
    → marked_by setup t w ≡ Some d → d < setup.cores
holder_below setup setting t made w d mark = elim (cases_lt d setup.cores) [
  | inl here ↦ here
  | inr past ↦ absurd (false≢true (sym (ap (λ o. (holds_in o).marks w) (stands.away d past).idle) ∙ (stands.marks w d).owned mark))
]
  where
    stands : Invariant setup (cores_after setup t) t
    stands = made_stands setup setting t made

module _ (setup : Setting) (setting : IsSetting setup) (f k d : ℕ) (v : CountWord) (pinned : v.hold ≡ Pinned d) where
  abbrev pub ShowsIt : Trace → Type 0
  ShowsIt t = shows setup setting f t k ≡ Some v

  abbrev pub settled_then : Trace → Option CountWord
  settled_then t = settled_shows setup setting f t k

  pub marked_it : (t : Trace) → ShowsIt t → marked_by setup t (CountAt f k) ≡ Some d
  marked_it t is = ap count_mark is ∙ ap hold_mark pinned

  -- a step of another core
  module _ (t : Trace) (e : Step) (made : IsMade setup (e ∷ t)) (is : ShowsIt (e ∷ t)) (other : d ≢ e.core) where
    pub showed : ShowsIt t
    showed = ap count_of_word (sym (raw_other setup setting f k t e made d other (marked_it (e ∷ t) is))) ∙ is

    pub settled_other : settled_then (e ∷ t) ≡ settled_then t
    settled_other =
        ap (λ o. count_of_word (settled_by o (held_by (cores_after setup (e ∷ t))) (CountAt f k) (last_left setup (e ∷ t) (CountAt f k))))
        (marked_it (e ∷ t) is)
        ∙ ap (λ core. count_of_word ((holds core).stands (CountAt f k)))
        (put_other (cores_after setup t) e.core (core_after (stepping_core setup t e) e.found) d other)
        ∙ sym (ap (λ o. count_of_word (settled_by o (held_by (cores_after setup t)) (CountAt f k) (last_left setup t (CountAt f k))))
        (held_before setup setting f k t e made d other (marked_it (e ∷ t) is)))

-- A step of the core that holds the word after it.
module _ (setup : Setting) (setting : IsSetting setup) (f k : ℕ) (t : Trace) (e : Step) (made : IsMade setup (e ∷ t)) (v : CountWord)
    (pinned : v.hold ≡ Pinned e.core) (is : shows setup setting f (e ∷ t) k ≡ Some v) where
  pub mark_now : marked_by setup (e ∷ t) (CountAt f k) ≡ Some e.core
  mark_now = ap count_mark is ∙ ap hold_mark pinned

  abbrev p : Phase
  p = phase t e.core

  pub phase_now : phase (e ∷ t) e.core ≡ after_decide e.decides p
  phase_now = phase_is setup setting f k t e made mark_now

  -- where it decides nothing, and the call was carried out before
  module _ (none : e.decides ≡ None) (carried : is_carried_out p ≡ true) where
    pub showed_own : shows setup setting f t k ≡ Some v
    showed_own = elim (kept setup setting f k t e made mark_now) [
      | inl same ↦ ap count_of_word (sym same) ∙ is
      | inr takes ↦ absurd (false≢true (sym (ap is_carried_out takes.is_open) ∙ carried))
    ]

    pub settled_own : settled_shows setup setting f (e ∷ t) k ≡ settled_shows setup setting f t k
    settled_own =
        let has = has_count setup setting f k e.core v pinned t made.0 showed_own in
        let now = count_stays setup setting f k t e made mark_now has.a has.active has.x has.among has.word in
        let still = now.done (not_ok (told setup setting t e made (entry setup setting f k t e made mark_now) has.a has.active)
        (sym (decides_told setup setting t e made (entry setup setting f k t e made mark_now) has.a has.active) ∙ none)) in
        ap count_of_word (settles_to setup setting (e ∷ t) made f k e.core v is pinned now.a now.active has.x now.among has.word
        ∙ ap (λ o. committed o has.x) still
        ∙ sym (settles_to setup setting t made.0 f k e.core v showed_own pinned has.a has.active has.x has.among has.word))

  -- where the call is open before it, the word settles to what it shows
  pub settled_open : (call : Call) → p ≡ Open call → settled_shows setup setting f t k ≡ Some (unheld v.count v.stamp)
  settled_open call is_open = elim (kept setup setting f k t e made mark_now) [
    | inl same ↦
        pinned_shows setup setting f t made.0 k e.core v (ap count_of_word (sym same) ∙ is) pinned
        made.1.is_core (ap is_carried_out is_open)
    | inr takes ↦
        free_shows setup setting f t k (ap count_mark takes.found) ∙ takes.found
        ∙ elim takes.left [
          | inl left ↦ ap (λ (w : CountWord). Some (unheld w.count w.stamp))
              (same_some (acquired e.core takes.count takes.stamp) v (sym left.0 ∙ is))
          | inr left ↦ absurd (not_pinned takes.count takes.stamp (sym left.0 ∙ is))
        ]
  ]
    where
      not_pinned : (count : ℤ) (stamp : ℕ)
          → Some (Rattle.time_laws.specs.stage_sweep.specs.Freeze.frozen e.core count stamp) ≡ Some v → ⊥
      not_pinned count stamp h = apart (ap (λ (w : CountWord). w.hold) (same_some _ v h) ∙ pinned)
        where
          apart : Closed e.core ≡ Pinned e.core → ⊥
          apart h = cc

  abbrev refs_then : ℕ
  refs_then = refs (state_after setup t) f

  abbrev refs_now : ℕ
  refs_now = refs (state_after setup (e ∷ t)) f

  abbrev change : Option Reply → ℤ
  change o = if is_some o then pos refs_now -ℤ pos refs_then else changed_by setup t e.core f

  changed_is : changed_by setup (e ∷ t) e.core f ≡ change e.decides
  changed_is =
      ap (λ b. if b && is_some e.decides then pos refs_now -ℤ pos (refs (state_before setup t e) f) else changed_by setup t e.core f)
      (eq-eqb e.core e.core refl)
      ∙ ap (λ (s : State). if is_some e.decides then pos refs_now -ℤ pos (refs s f) else changed_by setup t e.core f)
      (before_is setup setting f k t e made mark_now)

  abbrev Told : Trace → Type 0
  Told u = count_in (settled_shows setup setting f u k) ≡ wrapped (v.count +ℤ changed_by setup u e.core f)

  pub told_own : ((shows setup setting f t k ≡ Some v) → is_carried_out p ≡ true → Told t)
      → is_carried_out (phase (e ∷ t) e.core) ≡ true → Told (e ∷ t)
  told_own rest carried = by e.decides refl (made_stands setup setting (e ∷ t) made).legal.1.decides
    where
      by : (o : Option Reply) → e.decides ≡ o → MayDecide setup t e o (after_enter e.enters p) → Told (e ∷ t)
      by None none may =
          let before : is_carried_out p ≡ true = sym (ap is_carried_out (phase_now ∙ ap (λ o. after_decide o p) none)) ∙ carried in
          ap count_in (settled_own none before) ∙ rest (showed_own none before) before
          ∙ ap (λ z. wrapped (v.count +ℤ z)) (sym (changed_is ∙ ap change none))
      by (Some r) decides may =
          count_changes setup setting f k t e made v is pinned
          ∙ ap (λ o. wrapped (count_in o +ℤ (pos refs_now -ℤ pos refs_then)))
          (settled_open may.call (sym (entered_is setup setting f k t e made mark_now) ∙ may.is_open))
          ∙ ap (λ z. wrapped (v.count +ℤ z)) (sym (changed_is ∙ ap change decides))

-- The count that a carried out call has acquired settles to what is owed.
pub told_along : (setup : Setting) (setting : IsSetting setup) (f k d : ℕ) (v : CountWord) → v.hold ≡ Pinned d → (t : Trace)
    → IsMade setup t → shows setup setting f t k ≡ Some v → is_carried_out (phase t d) ≡ true
    → count_in (settled_shows setup setting f t k) ≡ wrapped (v.count +ℤ changed_by setup t d f)
told_along setup setting f k d v pinned [] made is carried = absurd (false≢true carried)
told_along setup setting f k d v pinned (e ∷ t) made is carried = elim (cases_eq d e.core) [
  | inl own ↦ subst (λ (c : ℕ). count_in (settled_shows setup setting f (e ∷ t) k) ≡ wrapped (v.count +ℤ changed_by setup (e ∷ t) c f)) (sym own)
      (told_own setup setting f k t e made v (pinned ∙ ap Pinned own) is
      (λ before was. subst (λ (c : ℕ). count_in (settled_shows setup setting f t k) ≡ wrapped (v.count +ℤ changed_by setup t c f)) own
      (told_along setup setting f k d v pinned t made.0 before (ap (λ (c : ℕ). is_carried_out (phase t c)) own ∙ was)))
      (sym (ap (λ (c : ℕ). is_carried_out (phase (e ∷ t) c)) own) ∙ carried))
  | inr other ↦
      ap count_in (settled_other setup setting f k d v pinned t e made is other)
      ∙ told_along setup setting f k d v pinned t made.0 (showed setup setting f k d v pinned t e made is other)
      (sym (ap is_carried_out (phase-other d e t other)) ∙ carried)
      ∙ ap (λ z. wrapped (v.count +ℤ z)) (sym (ap (λ b. if b && is_some e.decides then
      pos (refs (state_after setup (e ∷ t)) f) -ℤ pos (refs (state_before setup t e) f) else changed_by setup t d f)
      (ne_eqb d e.core other)))
]

-- What a word will show is what it settles to.
module _ (setup : Setting) (setting : IsSetting setup) (t : Trace) (made : IsMade setup t) (f : ℕ) where
  abbrev Tells : ℕ → Option CountWord → Type 0
  Tells k o = will_show setup t f o ≡ count_in (settled_shows setup setting f t k)

  by_word : (k : ℕ) (o : Option CountWord) → shows setup setting f t k ≡ o → Tells k o
  by_word k None is = sym (ap count_in (free_shows setup setting f t k (ap count_mark is) ∙ is))
  by_word k (Some v) is = by v.hold refl
    where
      carried_by : (d : ℕ) → v.hold ≡ Pinned d → (b : Bool) → is_carried_out (phase t d) ≡ b
          → (if b then wrapped (v.count +ℤ changed_by setup t d f) else v.count) ≡ count_in (settled_shows setup setting f t k)
      carried_by d hold true carried = sym (told_along setup setting f k d v hold t made is carried)
      carried_by d hold false carried = sym (ap count_in (pinned_shows setup setting f t made k d v is hold
          (holder_below setup setting t made (CountAt f k) d (ap count_mark is ∙ ap hold_mark hold)) carried))

      cleared_by : (d : ℕ) → v.hold ≡ Closed d → (b : Bool) → is_carried_out (phase t d) ≡ b
          → (if b then pos 0 else v.count) ≡ count_in (settled_shows setup setting f t k)
      cleared_by d hold b carried = by_cleared b ∙ sym (ap count_in (closed_shows setup setting f t made k d v is hold
          ∙ ap (λ c. Some (cleared_if c v)) carried))
        where
          by_cleared : (c : Bool) → (if c then pos 0 else v.count) ≡ count_in (Some (cleared_if c v))
          by_cleared true = refl
          by_cleared false = refl

      by : (h : Hold) → v.hold ≡ h → count_then setup t f h v.count ≡ count_in (settled_shows setup setting f t k)
      by Unheld hold = sym (ap count_in (free_shows setup setting f t k (ap count_mark is ∙ ap hold_mark hold) ∙ is))
      by (Pinned d) hold = carried_by d hold (is_carried_out (phase t d)) refl
      by (Closed d) hold =
          ap (λ b. if b then pos 0 else v.count) (cleared_is f (phase t d) (frozen_say setup setting t made f k d v is hold))
          ∙ cleared_by d hold (is_carried_out (phase t d)) refl

  sums_tell : (ks : List ℕ) → sum_then setup t f ks ≡ count_sum (settled_shows setup setting f t) ks
  sums_tell [] = refl
  sums_tell (k ∷ ks) = ap (λ z. z +ℤ sum_then setup t f ks) (by_word k (shows setup setting f t k) refl)
      ∙ ap (λ z. count_in (settled_shows setup setting f t k) +ℤ z) (sums_tell ks)

pub counts_tell : (setup : Setting) → IsSetting setup → (t : Trace) → IsMade setup t → CountsTell setup t
counts_tell setup setting t made f = ap residue (sums_tell setup setting t made f (counters setup.cores)
    ∙ ap (λ l. count_sum (settled_shows setup setting f t) (counters l.cores)) (sym (limits_of setup t)))
    ∙ ((made_stands setup setting t made).sums f).sum
    ∙ refs_residue setup setting t (made_stands setup setting t made).legal f
