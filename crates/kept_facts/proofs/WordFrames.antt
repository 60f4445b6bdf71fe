-- What is said of a word stays where the step leaves the word, and what is said of it, as they were; of every kind of word at once.
use Rattle.core_invariant.proofs.{◌≡◌, ◌≢◌, inl, inr, ℕ, Bool, true, false, if◌then◌else◌, ◌∷◌, Option, Some, None, refl, sym, ◌∙◌, ap}
use Rattle.core_invariant.proofs.{subst, Setting, Word, EntryAt, FrameAt, CountAt, CoreAt, FlushAt, LiveAt, ClockAt, word_of, left_of}
use Rattle.core_invariant.proofs.{Place, Frame, Liveness, PlaceOf, NumberOf, State, put, put_same, put_other, live_of_word, frame_value}
use Rattle.core_invariant.proofs.{mark_of, mark_in_frame, Step, Trace, state_after, last_left, last_left-here, last_left-there, cases_word}
use Rattle.core_invariant.proofs.{Core, marked_by, settled_by, settled, MarkIs, IsFrameWord, NumberIs, WordIs, same_value, core_bare}
use Rattle.core_invariant.proofs.{AsBefore, holds, held_by, times_of}
use Rattle.core_invariant.specs.{Holding.Holding, Holding.bare_value, Words.Times}
use Rattle.{std.proofs.lemmas.Bool.cases_eq, thread_laws.specs.kernel_history.specs.Discipline.MarksOwn}

-- What is said of a word is as before, kind by kind.
pub record SameEntry (s s' : State) (m m' : Times) (f i : ℕ) : Type 0 where
  pub frames : s'.limits.frames ≡ s.limits.frames
  pub frame : s'.frame f ≡ s.frame f
  pub place : s'.place f i ≡ s.place f i
  pub stamp : m'.stamp (PlaceOf f i) ≡ m.stamp (PlaceOf f i)

pub record SameCore (s s' : State) (m m' : Times) (c : ℕ) : Type 0 where
  pub inside : (s'.core c).inside ≡ (s.core c).inside
  pub exit : m'.exit c ≡ m.exit c

pub record SameNumber (s s' : State) (m m' : Times) (l : ℕ) : Type 0 where
  pub number : s'.number l ≡ s.number l
  pub stamp : m'.stamp (NumberOf l) ≡ m.stamp (NumberOf l)

abbrev pub SameFor : State → State → Times → Times → Word → Type 0
SameFor s s' m m' (EntryAt f i) = SameEntry s s' m m' f i
SameFor s s' m m' (FrameAt f) = s'.frame f ≡ s.frame f
SameFor s s' m m' (CountAt f c) = Unit {0}
SameFor s s' m m' (CoreAt c) = SameCore s s' m m' c
SameFor s s' m m' (FlushAt c) = m'.flush c ≡ m.flush c
SameFor s s' m m' (LiveAt l) = SameNumber s s' m m' l
SameFor s s' m m' ClockAt = Unit {0}

entry_same : {n n' : ℕ} {a a' : Frame} {p p' : Place} {r r' : ℕ} (i x : ℕ) → n' ≡ n → a' ≡ a → p' ≡ p → r' ≡ r
    → IsFrameWord n a p r i x
    → IsFrameWord n' a' p' r' i x
entry_same {n} {n'} {a} {a'} {p} {p'} {r} {r'} i x ns fs ps rs h =
    subst (λ y. IsFrameWord n' a' p' y i x) (sym rs)
    (subst (λ y. IsFrameWord n' a' y r i x) (sym ps)
    (subst (λ y. IsFrameWord n' y p r i x) (sym fs)
    (subst (λ y. IsFrameWord y a p r i x) (sym ns) h)))

number_same : {a a' : Liveness} {r r' : ℕ} (x : ℕ) → a' ≡ a → r' ≡ r → NumberIs a r (live_of_word x) → NumberIs a' r' (live_of_word x)
number_same {a} {a'} {r} {r'} x ns rs h =
    subst (λ y. NumberIs a' y (live_of_word x)) (sym rs) (subst (λ y. NumberIs y r (live_of_word x)) (sym ns) h)

pub word_stays : (s s' : State) (m m' : Times) (w : Word) (x : ℕ) → SameFor s s' m m' w → WordIs s m w x → WordIs s' m' w x
word_stays s s' m m' (EntryAt f i) x same h = entry_same i x same.frames same.frame same.place same.stamp h
word_stays s s' m m' (FrameAt f) x same h = h ∙ ap (λ y. Some (frame_value y)) (sym same)
word_stays s s' m m' (CountAt f c) x same h = h
word_stays s s' m m' (CoreAt c) x same h =
    h ∙ ap (λ y. Some (record { inside = y; stamp = m.exit c })) (sym same.inside) ∙ ap
    (λ (y : ℕ). Some (record { inside = (s'.core c).inside; stamp = y })) (sym same.exit)
word_stays s s' m m' (FlushAt c) x same h = h ∙ ap (λ (y : ℕ). Some (record { stamp = y })) (sym same)
word_stays s s' m m' (LiveAt l) x same h = number_same x same.number same.stamp h
word_stays s s' m m' ClockAt x same h = tt

-- A mark is read by what the frame holds.
pub mark_same : (s s' : State) (w : Word) (x : ℕ) → ((f : ℕ) → s'.frame f ≡ s.frame f) → mark_of s' w x ≡ mark_of s w x
mark_same s s' (EntryAt f i) x frames = ap (λ y. mark_in_frame y i x) (frames f)
mark_same s s' _ x frames = refl

-- A step leaves the marks of all words readable as they were: where it changes what a frame holds, the words of the frame carry no mark
-- before and none after.
abbrev pub ReadsAlike : Setting → Trace → Step → Type 0
ReadsAlike setup t e =
    (w : Word) → mark_of (state_after setup (e ∷ t)) w (last_left setup (e ∷ t) w) ≡ mark_of (state_after setup t) w
    (last_left setup (e ∷ t) w)

pub reads_alike : (setup : Setting) (t : Trace) (e : Step)
    → ((f : ℕ) → (state_after setup (e ∷ t)).frame f ≡ (state_after setup t).frame f) → ReadsAlike setup t e
reads_alike setup t e frames w = mark_same (state_after setup t) (state_after setup (e ∷ t)) w (last_left setup (e ∷ t) w) frames

-- What is said of a word is said of it after the step.
abbrev pub StaysSaid : Setting → (ℕ → Core) → Trace → Step → Word → Type 0
StaysSaid setup cores t e w =
    WordIs (state_after setup t) (times_of setup t) w (settled setup (held_by cores) t w)
    → WordIs (state_after setup (e ∷ t)) (times_of setup (e ∷ t)) w (settled setup (held_by cores) t w)

-- A word gets the mark of a core by that core's own step on it: a core newly holds none but the word of its step.
pub marks_own : (setup : Setting) (cores : ℕ → Core) (t : Trace) (e : Step) (after : Core)
    → ((w : Word) → w ≢ word_of e.move → (holds after).marks w ≡ (holds (cores e.core)).marks w)
    → ((w : Word) (d : ℕ) → MarkIs setup (held_by cores) t w d)
    → ((w : Word) (d : ℕ) → MarkIs setup (held_by (put cores e.core after)) (e ∷ t) w d)
    → MarksOwn setup t e
marks_own setup cores t e after elsewhere before now w d is = elim (cases_eq d e.core) [
  | inr other ↦ inl ((before w d).kept (ap (λ k. (holds k).marks w) (sym (put_other cores e.core after d other)) ∙ (now w d).owned is))
  | inl own ↦ elim (cases_word w (word_of e.move)) [
    | inl here ↦ inr (sym own, sym here)
    | inr there ↦ inl ((before w d).kept (
        ap (λ (c : ℕ). (held_by cores c).marks w) own ∙ sym (elsewhere w there)
        ∙ ap (λ k. (holds k).marks w) (sym (put_same cores e.core after d own)) ∙ (now w d).owned is))
  ]
]

-- A step after which its core holds what it held, and that leaves the frames.
module _ (setup : Setting) (cores : ℕ → Core) (t : Trace) (e : Step) (after : Core) (still : holds after ≡ holds (cores e.core))
    (frames : (f : ℕ) → (state_after setup (e ∷ t)).frame f ≡ (state_after setup t).frame f) where
  abbrev pub held : ℕ → Holding
  held = held_by (put cores e.core after)

  held_on : (d : ℕ) → held d ≡ held_by cores d
  held_on d = elim (cases_eq d e.core) [
    | inl own ↦ ap holds (put_same cores e.core after d own) ∙ still ∙ ap (held_by cores) (sym own)
    | inr other ↦ ap holds (put_other cores e.core after d other)
  ]

  marked_on : (w : Word) → last_left setup (e ∷ t) w ≡ last_left setup t w → marked_by setup (e ∷ t) w ≡ marked_by setup t w
  marked_on w same = mark_same (state_after setup t) (state_after setup (e ∷ t)) w (last_left setup (e ∷ t) w) frames ∙ ap
      (mark_of (state_after setup t) w) same

  settled_held : (o : Option ℕ) (w : Word) (x : ℕ) → settled_by o held w x ≡ settled_by o (held_by cores) w x
  settled_held None w x = same_value (held_by cores) held w x (λ f i at d. ap (λ h. h.bare f i) (held_on d))
  settled_held (Some d) w x = ap (λ h. h.stands w) (held_on d)

  pub settled_on : (w : Word) → last_left setup (e ∷ t) w ≡ last_left setup t w
      → settled setup held (e ∷ t) w ≡ settled setup (held_by cores) t w
  settled_on w same =
      ap (λ o. settled_by o held w (last_left setup (e ∷ t) w)) (marked_on w same)
      ∙ ap (settled_by (marked_by setup t w) held w) same
      ∙ settled_held (marked_by setup t w) w (last_left setup t w)

  mark_by : (w : Word) (d : ℕ) → marked_by setup (e ∷ t) w ≡ marked_by setup t w → MarkIs setup (held_by cores) t w d
      → MarkIs setup held (e ∷ t) w d
  mark_by w d same is = record {
    owned = λ h. ap (λ k. k.marks w) (held_on d) ∙ is.owned (sym same ∙ h);
    kept = λ h. same ∙ is.kept (sym (ap (λ k. k.marks w) (held_on d)) ∙ h);
  }

  -- it leaves its word
  module _ (load : (left_of e.move e.found) ≡ last_left setup t (word_of e.move)) where
    pub load_keeps : (w : Word) → last_left setup (e ∷ t) w ≡ last_left setup t w
    load_keeps w = elim (cases_word w (word_of e.move)) [
      | inl here ↦ last_left-here setup w e t here ∙ load ∙ ap (last_left setup t) (sym here)
      | inr there ↦ last_left-there setup w e t there
    ]

    pub load_marks : ((w : Word) (d : ℕ) → MarkIs setup (held_by cores) t w d) → (w : Word) (d : ℕ) → MarkIs setup held (e ∷ t) w d
    load_marks marks w d = mark_by w d (marked_on w (load_keeps w)) (marks w d)

    pub load_words : ((w : Word)
        → SameFor (state_after setup t) (state_after setup (e ∷ t)) (times_of setup t) (times_of setup (e ∷ t)) w)
        → ((w : Word) → WordIs (state_after setup t) (times_of setup t) w (settled setup (held_by cores) t w))
        → (w : Word) → WordIs (state_after setup (e ∷ t)) (times_of setup (e ∷ t)) w (settled setup held (e ∷ t) w)
    load_words same words w =
        subst (WordIs (state_after setup (e ∷ t)) (times_of setup (e ∷ t)) w) (sym (settled_on w (load_keeps w)))
        (word_stays (state_after setup t) (state_after setup (e ∷ t)) (times_of setup t) (times_of setup (e ∷ t)) w
        (settled setup (held_by cores) t w) (same w) (words w))

  -- it writes its word, which carried no mark and carries none
  module _ (was : marked_by setup t (word_of e.move) ≡ None) (now : mark_of (state_after setup t) (word_of e.move)
      (left_of e.move e.found) ≡ None) where
    here_mark : (w : Word) → w ≡ word_of e.move → marked_by setup (e ∷ t) w ≡ None
    here_mark w here =
        mark_same (state_after setup t) (state_after setup (e ∷ t)) w (last_left setup (e ∷ t) w) frames
        ∙ ap (mark_of (state_after setup t) w) (last_left-here setup w e t here) ∙ ap
        (λ v. mark_of (state_after setup t) v (left_of e.move e.found)) here ∙ now

    pub write_marks : ((w : Word) (d : ℕ) → MarkIs setup (held_by cores) t w d) → (w : Word) (d : ℕ) → MarkIs setup held (e ∷ t) w d
    write_marks marks w d = elim (cases_word w (word_of e.move)) [
      | inl here ↦ mark_by w d (here_mark w here ∙ sym (ap (marked_by setup t) here ∙ was)) (marks w d)
      | inr there ↦ mark_by w d (marked_on w (last_left-there setup w e t there)) (marks w d)
    ]

    pub write_words : ((x : ℕ) → bare_value (held_by cores) (word_of e.move) x ≡ x)
        → ((w : Word) → w ≢ word_of e.move
        → SameFor (state_after setup t) (state_after setup (e ∷ t)) (times_of setup t) (times_of setup (e ∷ t)) w)
        → WordIs (state_after setup (e ∷ t)) (times_of setup (e ∷ t)) (word_of e.move) (left_of e.move e.found)
        → ((w : Word) → WordIs (state_after setup t) (times_of setup t) w (settled setup (held_by cores) t w))
        → (w : Word) → WordIs (state_after setup (e ∷ t)) (times_of setup (e ∷ t)) w (settled setup held (e ∷ t) w)
    write_words free same new words w = elim (cases_word w (word_of e.move)) [
      | inl here ↦ subst (WordIs (state_after setup (e ∷ t)) (times_of setup (e ∷ t)) w)
          (sym (ap (λ o. settled_by o held w (last_left setup (e ∷ t) w)) (here_mark w here)
          ∙ settled_held None w (last_left setup (e ∷ t) w)
          ∙ ap (λ v. bare_value (held_by cores) v (last_left setup (e ∷ t) w)) here ∙ free (last_left setup (e ∷ t) w)
          ∙ last_left-here setup w e t here))
          (subst (λ v. WordIs (state_after setup (e ∷ t)) (times_of setup (e ∷ t)) v (left_of e.move e.found)) (sym here) new)
      | inr there ↦ subst (WordIs (state_after setup (e ∷ t)) (times_of setup (e ∷ t)) w)
          (sym (settled_on w (last_left-there setup w e t there)))
          (word_stays (state_after setup t) (state_after setup (e ∷ t)) (times_of setup t) (times_of setup (e ∷ t)) w
          (settled setup (held_by cores) t w) (same w there) (words w))
    ]

-- A step by which its core marks its word, or gives it back: the settled word stays, and the frames.
module _ (setup : Setting) (cores : ℕ → Core) (t : Trace) (e : Step) (after : Core)
    (frames : (f : ℕ) → (state_after setup (e ∷ t)).frame f ≡ (state_after setup t).frame f)
    (elsewhere : (w : Word) → w ≢ word_of e.move → ((holds after).marks w ≡ (holds (cores e.core)).marks w) ×
    ((holds after).stands w ≡ (holds (cores e.core)).stands w))
    (bares : AsBefore (holds (cores e.core)) (holds after) (word_of e.move))
    (now : mark_of (state_after setup t) (word_of e.move) (left_of e.move e.found) ≡
    (if (holds after).marks (word_of e.move) then Some e.core else None))
    (unowned : (d : ℕ) → d ≢ e.core → marked_by setup t (word_of e.move) ≡ Some d → ⊥)
    (settles : settled_by (if (holds after).marks (word_of e.move) then Some e.core else None) (held_by (put cores e.core after))
    (word_of e.move) (left_of e.move e.found)
    ≡ settled setup (held_by cores) t (word_of e.move)) where
  abbrev pub holding : ℕ → Holding
  holding = held_by (put cores e.core after)

  holding_own : (d : ℕ) → d ≡ e.core → holding d ≡ holds after
  holding_own d own = ap holds (put_same cores e.core after d own)

  holding_other : (d : ℕ) → d ≢ e.core → holding d ≡ held_by cores d
  holding_other d other = ap holds (put_other cores e.core after d other)

  there_marked : (w : Word) → w ≢ word_of e.move → marked_by setup (e ∷ t) w ≡ marked_by setup t w
  there_marked w there =
      mark_same (state_after setup t) (state_after setup (e ∷ t)) w (last_left setup (e ∷ t) w) frames
      ∙ ap (mark_of (state_after setup t) w) (last_left-there setup w e t there)

  here_marked : (w : Word) → w ≡ word_of e.move
      → marked_by setup (e ∷ t) w ≡ (if (holds after).marks (word_of e.move) then Some e.core else None)
  here_marked w here =
      mark_same (state_after setup t) (state_after setup (e ∷ t)) w (last_left setup (e ∷ t) w) frames
      ∙ ap (mark_of (state_after setup t) w) (last_left-here setup w e t here) ∙ ap
      (λ v. mark_of (state_after setup t) v (left_of e.move e.found)) here ∙ now

  there_held : (w : Word) (d : ℕ) → w ≢ word_of e.move → (holding d).marks w ≡ (held_by cores d).marks w
  there_held w d there = elim (cases_eq d e.core) [
    | inl own ↦ ap (λ h. h.marks w) (holding_own d own) ∙ (elsewhere w there).0 ∙ ap (λ (c : ℕ). (held_by cores c).marks w) (sym own)
    | inr other ↦ ap (λ h. h.marks w) (holding_other d other)
  ]

  there_stands : (o : Option ℕ) (w : Word) (x : ℕ) → w ≢ word_of e.move → settled_by o holding w x ≡ settled_by o (held_by cores) w x
  there_stands None w x there =
      same_value (held_by cores) holding w x (λ f i at d. core_bare cores e.core after f i (bares.there f i (λ h. there (at ∙ h))) d)
  there_stands (Some d) w x there = elim (cases_eq d e.core) [
    | inl own ↦ ap (λ h. h.stands w) (holding_own d own) ∙ (elsewhere w there).1 ∙ ap (λ (c : ℕ). (held_by cores c).stands w) (sym own)
    | inr other ↦ ap (λ h. h.stands w) (holding_other d other)
  ]

  some_inj : (x y : ℕ) → Some x ≡ Some y → x ≡ y
  some_inj x y h = cc

  none_some : (x : ℕ) → None ≡ Some x → ⊥
  none_some x h = cc

  owner : (d : ℕ) (b : Bool) → (holds after).marks (word_of e.move) ≡ b → (if b then Some e.core else None) ≡ Some d
      → (holding d).marks (word_of e.move) ≡ true
  owner d true is h = ap (λ k. k.marks (word_of e.move)) (holding_own d (sym (some_inj e.core d h))) ∙ is
  owner d false is h = absurd (none_some d h)

  here_is : (d : ℕ) → MarkIs setup (held_by cores) t (word_of e.move) d → MarkIs setup holding (e ∷ t) (word_of e.move) d
  here_is d is = record {
    owned = λ h. owner d ((holds after).marks (word_of e.move)) refl (sym (here_marked (word_of e.move) refl) ∙ h);
    kept = λ h. elim (cases_eq d e.core) [
      | inl own ↦ here_marked (word_of e.move) refl
          ∙ ap (λ b. if b then Some e.core else None) (ap (λ k. k.marks (word_of e.move)) (sym (holding_own d own)) ∙ h) ∙ ap
          (λ (c : ℕ). Some c) (sym own)
      | inr other ↦ absurd (unowned d other (is.kept (ap (λ k. k.marks (word_of e.move)) (sym (holding_other d other)) ∙ h)))
    ];
  }

  pub hold_marks : ((w : Word) (d : ℕ) → MarkIs setup (held_by cores) t w d) → (w : Word) (d : ℕ) → MarkIs setup holding (e ∷ t) w d
  hold_marks marks w d = elim (cases_word w (word_of e.move)) [
    | inl here ↦ subst (λ v. MarkIs setup holding (e ∷ t) v d) (sym here) (here_is d (marks (word_of e.move) d))
    | inr there ↦ record {
      owned = λ h. there_held w d there ∙ (marks w d).owned (sym (there_marked w there) ∙ h);
      kept = λ h. there_marked w there ∙ (marks w d).kept (sym (there_held w d there) ∙ h);
    }
  ]

  pub settled_stays : (w : Word) → settled setup holding (e ∷ t) w ≡ settled setup (held_by cores) t w
  settled_stays w = elim (cases_word w (word_of e.move)) [
    | inl here ↦ subst (λ v. settled setup holding (e ∷ t) v ≡ settled setup (held_by cores) t v) (sym here)
        (ap (λ o. settled_by o holding (word_of e.move) (last_left setup (e ∷ t) (word_of e.move))) (here_marked (word_of e.move) refl)
        ∙ ap (settled_by (if (holds after).marks (word_of e.move) then Some e.core else None) holding (word_of e.move))
        (last_left-here setup (word_of e.move) e t refl) ∙ settles)
    | inr there ↦
        ap (λ o. settled_by o holding w (last_left setup (e ∷ t) w)) (there_marked w there)
        ∙ ap (settled_by (marked_by setup t w) holding w) (last_left-there setup w e t there)
        ∙ there_stands (marked_by setup t w) w (last_left setup t w) there
  ]

  pub hold_words : ((w : Word) → SameFor (state_after setup t) (state_after setup (e ∷ t)) (times_of setup t) (times_of setup (e ∷ t)) w)
      → ((w : Word) → WordIs (state_after setup t) (times_of setup t) w (settled setup (held_by cores) t w))
      → (w : Word) → WordIs (state_after setup (e ∷ t)) (times_of setup (e ∷ t)) w (settled setup holding (e ∷ t) w)
  hold_words same words w =
      subst (WordIs (state_after setup (e ∷ t)) (times_of setup (e ∷ t)) w) (sym (settled_stays w))
      (word_stays (state_after setup t) (state_after setup (e ∷ t)) (times_of setup t) (times_of setup (e ∷ t)) w
      (settled setup (held_by cores) t w) (same w) (words w))

-- A step that writes its word, which carried no mark and carries none, after which its core holds the words that it held; what these
-- stand for may be another word than before.
module _ (setup : Setting) (cores : ℕ → Core) (t : Trace) (e : Step) (after : Core)
    (still : (w : Word) → (holds after).marks w ≡ (holds (cores e.core)).marks w)
    (alike : ReadsAlike setup t e)
    (was : marked_by setup t (word_of e.move) ≡ None) (now : mark_of (state_after setup t) (word_of e.move) (left_of e.move e.found) ≡
    None) where
  abbrev pub carried : ℕ → Holding
  carried = held_by (put cores e.core after)

  carried_marks : (d : ℕ) (w : Word) → (carried d).marks w ≡ (held_by cores d).marks w
  carried_marks d w = elim (cases_eq d e.core) [
    | inl own ↦ ap (λ k. (holds k).marks w) (put_same cores e.core after d own) ∙ still w ∙ ap (λ (c : ℕ). (held_by cores c).marks w)
        (sym own)
    | inr other ↦ ap (λ k. (holds k).marks w) (put_other cores e.core after d other)
  ]

  away_mark : (w : Word) → w ≢ word_of e.move → marked_by setup (e ∷ t) w ≡ marked_by setup t w
  away_mark w there =
      alike w ∙ ap (mark_of (state_after setup t) w) (last_left-there setup w e t there)

  bare_here : (w : Word) → w ≡ word_of e.move → marked_by setup (e ∷ t) w ≡ None
  bare_here w here =
      alike w ∙ ap (mark_of (state_after setup t) w) (last_left-here setup w e t here) ∙ ap
      (λ v. mark_of (state_after setup t) v (left_of e.move e.found)) here ∙ now

  same_mark : (w : Word) → marked_by setup (e ∷ t) w ≡ marked_by setup t w
  same_mark w = elim (cases_word w (word_of e.move)) [
    | inl here ↦ bare_here w here ∙ sym (ap (marked_by setup t) here ∙ was)
    | inr there ↦ away_mark w there
  ]

  pub carry_marks : ((w : Word) (d : ℕ) → MarkIs setup (held_by cores) t w d) → (w : Word) (d : ℕ) → MarkIs setup carried (e ∷ t) w d
  carry_marks marks w d = record {
    owned = λ h. carried_marks d w ∙ (marks w d).owned (sym (same_mark w) ∙ h);
    kept = λ h. same_mark w ∙ (marks w d).kept (sym (carried_marks d w) ∙ h);
  }

  -- a word that the core does not hold stands for what it did, and one that it holds for what the core will store
  pub others_settled : (w : Word) → w ≢ word_of e.move → marked_by setup t w ≢ Some e.core
      → bare_value carried w (last_left setup t w) ≡ bare_value (held_by cores) w (last_left setup t w)
      → settled setup carried (e ∷ t) w ≡ settled setup (held_by cores) t w
  others_settled w there free bares =
      ap (λ o. settled_by o carried w (last_left setup (e ∷ t) w)) (away_mark w there)
      ∙ ap (settled_by (marked_by setup t w) carried w) (last_left-there setup w e t there) ∙ by (marked_by setup t w) refl
    where
      by : (o : Option ℕ) → marked_by setup t w ≡ o
          → settled_by o carried w (last_left setup t w) ≡ settled_by o (held_by cores) w (last_left setup t w)
      by None is = bares
      by (Some d) is = elim (cases_eq d e.core) [
        | inl own ↦ absurd (free (is ∙ ap (λ (c : ℕ). Some c) own))
        | inr other ↦ ap (λ k. (holds k).stands w) (put_other cores e.core after d other)
      ]

  pub own_settled : (w : Word) → w ≢ word_of e.move → marked_by setup t w ≡ Some e.core
      → settled setup carried (e ∷ t) w ≡ (holds after).stands w
  own_settled w there own =
      ap (λ o. settled_by o carried w (last_left setup (e ∷ t) w)) (away_mark w there ∙ own) ∙ ap (λ k. (holds k).stands w)
      (put_same cores e.core after e.core refl)

  pub carry_words : ((f i : ℕ) → (holds after).bare f i ≡ (holds (cores e.core)).bare f i)
      → ((x : ℕ) → bare_value (held_by cores) (word_of e.move) x ≡ x)
      → ((w : Word) → w ≢ word_of e.move → marked_by setup t w ≢ Some e.core → StaysSaid setup cores t e w)
      → WordIs (state_after setup (e ∷ t)) (times_of setup (e ∷ t)) (word_of e.move) (left_of e.move e.found)
      → ((w : Word) → marked_by setup t w ≡ Some e.core
      → WordIs (state_after setup (e ∷ t)) (times_of setup (e ∷ t)) w ((holds after).stands w))
      → ((w : Word) → WordIs (state_after setup t) (times_of setup t) w (settled setup (held_by cores) t w))
      → (w : Word) → WordIs (state_after setup (e ∷ t)) (times_of setup (e ∷ t)) w (settled setup carried (e ∷ t) w)
  carry_words bares not_exclusive same new own words w = elim (cases_word w (word_of e.move)) [
    | inl here ↦ subst (WordIs (state_after setup (e ∷ t)) (times_of setup (e ∷ t)) w)
        (sym (ap (λ o. settled_by o carried w (last_left setup (e ∷ t) w)) (bare_here w here) ∙ kept_value w (last_left setup (e ∷ t) w)
        ∙ ap (λ v. bare_value (held_by cores) v (last_left setup (e ∷ t) w)) here ∙ not_exclusive (last_left setup (e ∷ t) w)
        ∙ last_left-here setup w e t here))
        (subst (λ v. WordIs (state_after setup (e ∷ t)) (times_of setup (e ∷ t)) v (left_of e.move e.found)) (sym here) new)
    | inr there ↦ by there (marked_by setup t w) refl
  ]
    where
      kept_value : (v : Word) (x : ℕ) → bare_value carried v x ≡ bare_value (held_by cores) v x
      kept_value v x = same_value (held_by cores) carried v x (λ f i at d. core_bare cores e.core after f i (bares f i) d)

      stays : w ≢ word_of e.move → marked_by setup t w ≢ Some e.core
          → WordIs (state_after setup (e ∷ t)) (times_of setup (e ∷ t)) w (settled setup carried (e ∷ t) w)
      stays there free = subst (WordIs (state_after setup (e ∷ t)) (times_of setup (e ∷ t)) w) (sym (others_settled w there free
          (kept_value w (last_left setup t w))))
          (same w there free (words w))

      by : w ≢ word_of e.move → (o : Option ℕ) → marked_by setup t w ≡ o
          → WordIs (state_after setup (e ∷ t)) (times_of setup (e ∷ t)) w (settled setup carried (e ∷ t) w)
      by there None is = stays there (λ h. none_is e.core (sym is ∙ h))
        where
          none_is : (d : ℕ) → None ≡ Some d → ⊥
          none_is d h = cc
      by there (Some d) is = elim (cases_eq d e.core) [
        | inl core ↦ subst (WordIs (state_after setup (e ∷ t)) (times_of setup (e ∷ t)) w)
            (sym (own_settled w there (is ∙ ap (λ (c : ℕ). Some c) core)))
            (own w (is ∙ ap (λ (c : ℕ). Some c) core))
        | inr other ↦ stays there (λ h. other (same_number d e.core (sym is ∙ h)))
      ]
        where
          same_number : (x y : ℕ) → Some x ≡ Some y → x ≡ y
          same_number x y h = cc
