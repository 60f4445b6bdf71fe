-- A decision after which its core keeps words of its thread without a mark, which it has still to store: the state has changed at once, and
-- each of these words settles to what will be stored there.
use Rattle.kept_facts.proofs.{◌≡◌, ◌≢◌, inl, inr, ℕ, ◌<◌, ◌∷◌, Option, Some, None, arith, refl, sym, ◌∙◌, ap, subst, Setting, IsSetting}
use Rattle.kept_facts.proofs.{Word, EntryAt, FrameAt, CountAt, CoreAt, FlushAt, LiveAt, ClockAt, word_of, left_of, put, thread_in, put_same}
use Rattle.kept_facts.proofs.{put_other, mark_of, marked_by, Step, Trace, state_after, last_left, cases_word, last_left-here}
use Rattle.kept_facts.proofs.{last_left-there, Core, settled_by, settled, WordIs, holds, held_by, times_of, Invariant, runs_on_own}
use Rattle.kept_facts.proofs.{ReadsAlike, StaysSaid, others_settled, own_settled, exclusive_thread}
use Rattle.kept_facts.specs.core_invariant.proofs.{own_kept, same_value, core_bare, free_value}
use Rattle.{std.proofs.lemmas.Bool.cases_eq, kept_facts.specs.core_invariant.specs.Holding.bare_value}
use Rattle.{kept_facts.proofs.Exclusive.runs_no_tcap}

none_some : (v : ℕ) → None ≡ Some v → ⊥
none_some v h = cc

same_number : (x y : ℕ) → Some x ≡ Some y → x ≡ y
same_number x y h = cc

module _ (setup : Setting) (setting : IsSetting setup) (cores : ℕ → Core) (t : Trace) (stands : Invariant setup cores t) (e : Step)
    (after : Core) (below : e.core < setup.cores)
    (still : (w : Word) → (holds after).marks w ≡ (holds (cores e.core)).marks w)
    (alike : ReadsAlike setup t e)
    (apart : (f i : ℕ) → word_of e.move ≢ EntryAt f i)
    (was : marked_by setup t (word_of e.move) ≡ None)
    (now : mark_of (state_after setup t) (word_of e.move) (left_of e.move e.found) ≡ None)
    (none : (f i : ℕ) → (holds (cores e.core)).bare f i ≡ None)
    (own_thread : (f i v : ℕ) → (holds after).bare f i ≡ Some v
    → (((state_after setup t).core e.core).thread ≡ f) × (marked_by setup t (EntryAt f i) ≡ None)) where
  -- no other core keeps a word of the thread
  others_none : (f i v b : ℕ) → (holds after).bare f i ≡ Some v → b ≢ e.core → (held_by cores b).bare f i ≡ None
  others_none f i v b is other = by ((held_by cores b).bare f i) refl
    where
      by : (o : Option ℕ) → (held_by cores b).bare f i ≡ o → (held_by cores b).bare f i ≡ None
      by None free = free
      by (Some u) kept =
          let l = stands.exclusive b f i u kept in
          let runs : (thread_in ((state_after setup t).frame f)).runs_on ≡ Some e.core =
          ap (λ (g : ℕ). (thread_in ((state_after setup t).frame g)).runs_on) (sym (own_thread f i v is).0)
          ∙ runs_on_own setup setting cores t stands e.core below in
          let w = exclusive_thread setup t b f i l (runs_no_tcap ((state_after setup t).frame f) e.core runs) in
          absurd (other (same_number b e.core
          (sym (runs_on_own setup setting cores t stands b l.core)
          ∙ ap (λ (g : ℕ). (thread_in ((state_after setup t).frame g)).runs_on) w.thread
          ∙ runs)))

  -- what is kept settles to its value
  kept_settled : (f i v : ℕ) → (holds after).bare f i ≡ Some v → settled setup (held_by (put cores e.core after)) (e ∷ t) (EntryAt f i) ≡ v
  kept_settled f i v is =
      ap (λ o. settled_by o (held_by (put cores e.core after)) (EntryAt f i) (last_left setup (e ∷ t) (EntryAt f i)))
      (alike (EntryAt f i) ∙ ap (mark_of (state_after setup t) (EntryAt f i))
      (last_left-there setup (EntryAt f i) e t (λ h. apart f i (sym h))) ∙ (own_thread f i v is).1)
      ∙ own_kept 8 (held_by (put cores e.core after)) f i (last_left setup (e ∷ t) (EntryAt f i)) v e.core
      (let most = setting.most_cores in omega (arith, below, most))
      (ap (λ k. (holds k).bare f i) (put_same cores e.core after e.core refl) ∙ is)
      (λ b other. ap (λ k. (holds k).bare f i) (put_other cores e.core after b other) ∙ others_none f i v b is other)

  module _ (same : (w : Word) → w ≢ word_of e.move → marked_by setup t w ≢ Some e.core
      → ((f i : ℕ) → w ≡ EntryAt f i → (holds after).bare f i ≡ None) → StaysSaid setup cores t e w)
      (new : WordIs (state_after setup (e ∷ t)) (times_of setup (e ∷ t)) (word_of e.move) (left_of e.move e.found))
      (own : (w : Word) → marked_by setup t w ≡ Some e.core
      → WordIs (state_after setup (e ∷ t)) (times_of setup (e ∷ t)) w ((holds after).stands w))
      (keeps : (f i v : ℕ) → (holds after).bare f i ≡ Some v
      → WordIs (state_after setup (e ∷ t)) (times_of setup (e ∷ t)) (EntryAt f i) v) where
    abbrev Said : Word → Type 0
    Said w = WordIs (state_after setup (e ∷ t)) (times_of setup (e ∷ t)) w (settled setup (held_by (put cores e.core after)) (e ∷ t) w)

    -- the word of the step
    here_said : (w : Word) → w ≡ word_of e.move → Said w
    here_said w here = subst (WordIs (state_after setup (e ∷ t)) (times_of setup (e ∷ t)) w)
        (sym (ap (λ o. settled_by o (held_by (put cores e.core after)) w (last_left setup (e ∷ t) w))
        (alike w ∙ ap (mark_of (state_after setup t) w) (last_left-here setup w e t here)
        ∙ ap (λ v. mark_of (state_after setup t) v (left_of e.move e.found)) here ∙ now)
        ∙ free_value (held_by (put cores e.core after)) w (last_left setup (e ∷ t) w) (λ f i at d. absurd (apart f i (sym here ∙ at)))
        ∙ last_left-here setup w e t here))
        (subst (λ v. WordIs (state_after setup (e ∷ t)) (times_of setup (e ∷ t)) v (left_of e.move e.found)) (sym here) new)

    -- a word that the core does not keep after the step
    there_said : (w : Word) → w ≢ word_of e.move → ((f i : ℕ) → w ≡ EntryAt f i → (holds after).bare f i ≡ None) → Said w
    there_said w there free = by (marked_by setup t w) refl
      where
        alike_value : (x : ℕ) → bare_value (held_by (put cores e.core after)) w x ≡ bare_value (held_by cores) w x
        alike_value x = same_value (held_by cores) (held_by (put cores e.core after)) w x
            (λ f i at d. core_bare cores e.core after f i (free f i at ∙ sym (none f i)) d)

        stays : marked_by setup t w ≢ Some e.core → Said w
        stays other = subst (WordIs (state_after setup (e ∷ t)) (times_of setup (e ∷ t)) w)
            (sym (others_settled setup cores t e after still alike was now w there other (alike_value (last_left setup t w))))
            (same w there other free (stands.words w))

        by : (o : Option ℕ) → marked_by setup t w ≡ o → Said w
        by None is = stays (λ h. none_some e.core (sym is ∙ h))
        by (Some d) is = elim (cases_eq d e.core) [
          | inl core ↦ subst (WordIs (state_after setup (e ∷ t)) (times_of setup (e ∷ t)) w)
              (sym (own_settled setup cores t e after still alike was now w there (is ∙ ap (λ (b : ℕ). Some b) core)))
              (own w (is ∙ ap (λ (b : ℕ). Some b) core))
          | inr other ↦ stays (λ h. other (same_number d e.core (sym is ∙ h)))
        ]

    -- an entry may be kept
    entry_said : (f i : ℕ) → EntryAt f i ≢ word_of e.move → Said (EntryAt f i)
    entry_said f i there = by ((holds after).bare f i) refl
      where
        same_bare : (g j : ℕ) → EntryAt f i ≡ EntryAt g j → (holds after).bare f i ≡ None → (holds after).bare g j ≡ None
        same_bare g j at free = subst (λ (n : ℕ). (holds after).bare n j ≡ None) (frame_of g j at)
            (subst (λ (n : ℕ). (holds after).bare f n ≡ None) (index_of g j at) free)
          where
            frame_of : (g j : ℕ) → EntryAt f i ≡ EntryAt g j → f ≡ g
            frame_of g j h = cc

            index_of : (g j : ℕ) → EntryAt f i ≡ EntryAt g j → i ≡ j
            index_of g j h = cc

        by : (o : Option ℕ) → (holds after).bare f i ≡ o → Said (EntryAt f i)
        by None free = there_said (EntryAt f i) there (λ g j at. same_bare g j at free)
        by (Some v) is = subst (WordIs (state_after setup (e ∷ t)) (times_of setup (e ∷ t)) (EntryAt f i)) (sym (kept_settled f i v is))
            (keeps f i v is)

    by_kind : (w : Word) → w ≢ word_of e.move → Said w
    by_kind (EntryAt f i) there = entry_said f i there
    by_kind (FrameAt f) there = there_said (FrameAt f) there (λ g j h. absurd (cc))
    by_kind (CountAt f d) there = there_said (CountAt f d) there (λ g j h. absurd (cc))
    by_kind (CoreAt d) there = there_said (CoreAt d) there (λ g j h. absurd (cc))
    by_kind (FlushAt d) there = there_said (FlushAt d) there (λ g j h. absurd (cc))
    by_kind (LiveAt l) there = there_said (LiveAt l) there (λ g j h. absurd (cc))
    by_kind ClockAt there = there_said ClockAt there (λ g j h. absurd (cc))

    pub keeping_words : (w : Word) → Said w
    keeping_words w = elim (cases_word w (word_of e.move)) [
      | inl here ↦ here_said w here
      | inr there ↦ by_kind w there
    ]
