-- A decision that marks its word, after which its core keeps other words without a mark: the state has changed at once, and each of these
-- words settles to what will be stored there.
use Rattle.pair_invariant.specs.step_ways.proofs.{◌≡◌, ◌≢◌, inl, inr, ℕ, ◌<◌, true, ◌∷◌, Option, Some, None, arith, refl, sym, ◌∙◌, ap}
use Rattle.pair_invariant.specs.step_ways.proofs.{subst, Setting, IsSetting, Word, EntryAt, FrameAt, CountAt, CoreAt, FlushAt, LiveAt}
use Rattle.pair_invariant.specs.step_ways.proofs.{ClockAt, word_of, left_of, put, put_same, put_other, mark_of, marked_by, Step, Trace}
use Rattle.pair_invariant.specs.step_ways.proofs.{state_after, last_left, cases_word, last_left-here, last_left-there, Core, Holding}
use Rattle.pair_invariant.specs.step_ways.proofs.{settled_by, settled, WordIs, holds, held_by, times_of, Invariant, ReadsAlike, StaysSaid}
use Rattle.pair_invariant.specs.core_invariant.proofs.{MarkIs, own_kept, same_value, core_bare}
use Rattle.std.proofs.lemmas.Bool.{cases_eq}

none_some : (v : ℕ) → None ≡ Some v → ⊥
none_some v h = cc

same_number : (x y : ℕ) → Some x ≡ Some y → x ≡ y
same_number x y h = cc

-- What a core keeps without a mark after such a step: another word, which carried no mark and which no core kept.
pub record IsTaken (setup : Setting) (cores : ℕ → Core) (t : Trace) (w : Word) (f i : ℕ) : Type 0 where
  pub apart : EntryAt f i ≢ w
  pub bare : marked_by setup t (EntryAt f i) ≡ None
  pub free : (d : ℕ) → (held_by cores d).bare f i ≡ None

module _ (setup : Setting) (setting : IsSetting setup) (cores : ℕ → Core) (t : Trace) (stands : Invariant setup cores t) (e : Step)
    (after : Core) (below : e.core < setup.cores) (alike : ReadsAlike setup t e)
    (elsewhere : (w : Word) → w ≢ word_of e.move → (holds after).marks w ≡ (holds (cores e.core)).marks w)
    (was : marked_by setup t (word_of e.move) ≡ None)
    (now : mark_of (state_after setup t) (word_of e.move) (left_of e.move e.found) ≡ Some e.core)
    (marks : (holds after).marks (word_of e.move) ≡ true) where
  abbrev held : ℕ → Holding
  held = held_by (put cores e.core after)

  there_marked : (w : Word) → w ≢ word_of e.move → marked_by setup (e ∷ t) w ≡ marked_by setup t w
  there_marked w there = alike w ∙ ap (mark_of (state_after setup t) w) (last_left-there setup w e t there)

  here_marked : (w : Word) → w ≡ word_of e.move → marked_by setup (e ∷ t) w ≡ Some e.core
  here_marked w here =
      alike w ∙ ap (mark_of (state_after setup t) w) (last_left-here setup w e t here)
      ∙ ap (λ v. mark_of (state_after setup t) v (left_of e.move e.found)) here ∙ now

  held_own : (d : ℕ) → d ≡ e.core → held d ≡ holds after
  held_own d own = ap holds (put_same cores e.core after d own)

  held_other : (d : ℕ) → d ≢ e.core → held d ≡ held_by cores d
  held_other d other = ap holds (put_other cores e.core after d other)

  -- it carries the core's mark, and each other word the mark that it carried
  pub turned_marks : (w : Word) (d : ℕ) → MarkIs setup held (e ∷ t) w d
  turned_marks w d = elim (cases_word w (word_of e.move)) [
    | inl here ↦ record {
      owned = λ h. let own : d ≡ e.core = sym (same_number e.core d (sym (here_marked w here) ∙ h)) in
          ap (λ k. k.marks w) (held_own d own) ∙ ap (holds after).marks here ∙ marks;
      kept = λ h. elim (cases_eq d e.core) [
        | inl own ↦ here_marked w here ∙ ap (λ (b : ℕ). Some b) (sym own)
        | inr other ↦ absurd (none_some d (sym was ∙ ap (marked_by setup t) (sym here)
            ∙ (stands.marks w d).kept (sym (ap (λ k. k.marks w) (held_other d other)) ∙ h)))
      ];
    }
    | inr there ↦ record {
      owned = λ h. same_held w d there ∙ (stands.marks w d).owned (sym (there_marked w there) ∙ h);
      kept = λ h. there_marked w there ∙ (stands.marks w d).kept (sym (same_held w d there) ∙ h);
    }
  ]
    where
      same_held : (w : Word) (d : ℕ) → w ≢ word_of e.move → (held d).marks w ≡ (held_by cores d).marks w
      same_held w d there = elim (cases_eq d e.core) [
        | inl own ↦ ap (λ k. k.marks w) (held_own d own) ∙ elsewhere w there ∙ ap (λ (b : ℕ). (held_by cores b).marks w) (sym own)
        | inr other ↦ ap (λ k. k.marks w) (held_other d other)
      ]

  -- What it keeps it has newly taken, and nothing was kept before.
  module _ (none : (f i : ℕ) → (holds (cores e.core)).bare f i ≡ None)
      (taken : (f i v : ℕ) → (holds after).bare f i ≡ Some v → IsTaken setup cores t (word_of e.move) f i) where
    -- a word that carried another core's mark, or none and is not taken, settles to what it did
    pub there_settled : (w : Word) → w ≢ word_of e.move → marked_by setup t w ≢ Some e.core
        → ((f i : ℕ) → w ≡ EntryAt f i → (holds after).bare f i ≡ None)
        → settled setup held (e ∷ t) w ≡ settled setup (held_by cores) t w
    there_settled w there other free =
        ap (λ o. settled_by o held w (last_left setup (e ∷ t) w)) (there_marked w there)
        ∙ ap (settled_by (marked_by setup t w) held w) (last_left-there setup w e t there)
        ∙ by (marked_by setup t w) refl
      where
        by : (o : Option ℕ) → marked_by setup t w ≡ o
            → settled_by o held w (last_left setup t w) ≡ settled_by o (held_by cores) w (last_left setup t w)
        by None is = same_value (held_by cores) held w (last_left setup t w)
            (λ f i at d. core_bare cores e.core after f i (free f i at ∙ sym (none f i)) d)
        by (Some d) is = elim (cases_eq d e.core) [
          | inl own ↦ absurd (other (is ∙ ap (λ (b : ℕ). Some b) own))
          | inr away ↦ ap (λ h. h.stands w) (held_other d away)
        ]

    own_settled : (w : Word) → marked_by setup (e ∷ t) w ≡ Some e.core → settled setup held (e ∷ t) w ≡ (holds after).stands w
    own_settled w mark = ap (λ o. settled_by o held w (last_left setup (e ∷ t) w)) mark ∙ ap (λ h. h.stands w) (held_own e.core refl)

    kept_settled : (f i v : ℕ) → (holds after).bare f i ≡ Some v → settled setup held (e ∷ t) (EntryAt f i) ≡ v
    kept_settled f i v is =
        ap (λ o. settled_by o held (EntryAt f i) (last_left setup (e ∷ t) (EntryAt f i)))
        (there_marked (EntryAt f i) (taken f i v is).apart ∙ (taken f i v is).bare)
        ∙ own_kept 8 held f i (last_left setup (e ∷ t) (EntryAt f i)) v e.core
        (let most = setting.most_cores in omega (arith, below, most))
        (ap (λ h. h.bare f i) (held_own e.core refl) ∙ is)
        (λ b other. ap (λ h. h.bare f i) (held_other b other) ∙ (taken f i v is).free b)

    module _ (same : (w : Word) → w ≢ word_of e.move → marked_by setup t w ≢ Some e.core
        → ((f i : ℕ) → w ≡ EntryAt f i → (holds after).bare f i ≡ None) → StaysSaid setup cores t e w)
        (own : (w : Word) → marked_by setup (e ∷ t) w ≡ Some e.core
        → WordIs (state_after setup (e ∷ t)) (times_of setup (e ∷ t)) w ((holds after).stands w))
        (keeps : (f i v : ℕ) → (holds after).bare f i ≡ Some v
        → WordIs (state_after setup (e ∷ t)) (times_of setup (e ∷ t)) (EntryAt f i) v) where
      abbrev Said : Word → Type 0
      Said w = WordIs (state_after setup (e ∷ t)) (times_of setup (e ∷ t)) w (settled setup held (e ∷ t) w)

      own_said : (w : Word) → marked_by setup (e ∷ t) w ≡ Some e.core → Said w
      own_said w mark = subst (WordIs (state_after setup (e ∷ t)) (times_of setup (e ∷ t)) w) (sym (own_settled w mark)) (own w mark)

      -- a word that the core does not keep after the step
      there_said : (w : Word) → w ≢ word_of e.move → ((f i : ℕ) → w ≡ EntryAt f i → (holds after).bare f i ≡ None) → Said w
      there_said w there free = by (marked_by setup t w) refl
        where
          stays : marked_by setup t w ≢ Some e.core → Said w
          stays other = subst (WordIs (state_after setup (e ∷ t)) (times_of setup (e ∷ t)) w) (sym (there_settled w there other free))
              (same w there other free (stands.words w))

          by : (o : Option ℕ) → marked_by setup t w ≡ o → Said w
          by None is = stays (λ h. none_some e.core (sym is ∙ h))
          by (Some d) is = elim (cases_eq d e.core) [
            | inl core ↦ own_said w (there_marked w there ∙ is ∙ ap (λ (b : ℕ). Some b) core)
            | inr other ↦ stays (λ h. other (same_number d e.core (sym is ∙ h)))
          ]

      -- an entry may be kept
      entry_said : (f i : ℕ) → EntryAt f i ≢ word_of e.move → Said (EntryAt f i)
      entry_said f i there = by ((holds after).bare f i) refl
        where
          same_bare : (g j : ℕ) → EntryAt f i ≡ EntryAt g j → (holds after).bare f i ≡ None → (holds after).bare g j ≡ None
          same_bare g j at free = subst (λ (n : ℕ). (holds after).bare n j ≡ None) (frame_of g j at)
              (subst (λ (n : ℕ). (holds after).bare f n ≡ None) (index_of g j at) free)
            where
              frame_of : (g j : ℕ) → EntryAt f i ≡ EntryAt g j → f ≡ g
              frame_of g j h = cc

              index_of : (g j : ℕ) → EntryAt f i ≡ EntryAt g j → i ≡ j
              index_of g j h = cc

          by : (o : Option ℕ) → (holds after).bare f i ≡ o → Said (EntryAt f i)
          by None free = there_said (EntryAt f i) there (λ g j at. same_bare g j at free)
          by (Some v) is = subst (WordIs (state_after setup (e ∷ t)) (times_of setup (e ∷ t)) (EntryAt f i)) (sym (kept_settled f i v is))
              (keeps f i v is)

      by_kind : (w : Word) → w ≢ word_of e.move → Said w
      by_kind (EntryAt f i) there = entry_said f i there
      by_kind (FrameAt f) there = there_said (FrameAt f) there (λ g j h. absurd (cc))
      by_kind (CountAt f d) there = there_said (CountAt f d) there (λ g j h. absurd (cc))
      by_kind (CoreAt d) there = there_said (CoreAt d) there (λ g j h. absurd (cc))
      by_kind (FlushAt d) there = there_said (FlushAt d) there (λ g j h. absurd (cc))
      by_kind (LiveAt l) there = there_said (LiveAt l) there (λ g j h. absurd (cc))
      by_kind ClockAt there = there_said ClockAt there (λ g j h. absurd (cc))

      pub turned_words : (w : Word) → Said w
      turned_words w = elim (cases_word w (word_of e.move)) [
        | inl here ↦ own_said w (here_marked w here)
        | inr there ↦ by_kind w there
      ]
