-- What a step of another core leaves of threads: one that a core in a call guards stays a thread that it guards, and one that it has
-- claimed is idle before the step and after it, so it is as it was.
use Rattle.core_invariant.proofs.{◌≡◌, ◌≢◌, ℕ, ◌∷◌, true, Option, Some, None, IsTrue, arith, refl, ◌∙◌, ap, subst, false≢true, Setting}
use Rattle.core_invariant.proofs.{IsSetting, word_of_thread, thread_of_word, Idle, Running, Word, EntryAt, Frame, Kernel, Thread, PlaceOf}
use Rattle.core_invariant.proofs.{State, put, thread_in, fits, put_other, MayFollow, marked_by, thread_value, is_in, Step, Trace, phase}
use Rattle.core_invariant.proofs.{state_after, last_left, Core, MarkIs, settled, settled_by, IsFrameWord, WordIs, holds, held_by, times_of}
use Rattle.core_invariant.proofs.{HasThread, IsIdleIn, Kind}
use Rattle.{thread_laws.specs.trace_laws.proofs.Stays.stays_in_other, thread_laws.proofs.Steps.thread_stays}
use Rattle.{thread_laws.proofs.Steps.idle_stays, core_invariant.specs.Words.Times, core_invariant.specs.Invariant.Invariant}
use Rattle.thread_laws.specs.tcap_words.proofs.ThreadLemmas as words

-- A word of an idle thread says that a thread runs nowhere.
unlike : (depth d n : ℕ) → word_of_thread (Running d n) ≡ word_of_thread (Idle depth) → ⊥
unfolding word_of_thread
unlike depth d n same = omega (arith, same)

says_idle : (depth : ℕ) (r : Option ℕ) (n : ℕ) → thread_of_word (word_of_thread (Idle depth)) ≡ Some (thread_value r n) → r ≡ None
says_idle depth None n says = refl
says_idle depth (Some d) n says =
    absurd (unlike depth d n (words.spelling.spells (word_of_thread (Idle depth)) (Running d n) says).1)

module _ (setup : Setting) (setting : IsSetting setup) (cores : ℕ → Core) (t : Trace) (stands : Invariant setup cores t) (e : Step)
    (follows : MayFollow setup t e) (c : ℕ) (other : c ≢ e.core) (inside : is_in (phase t c) ≡ true) where
  abbrev s : State
  s = state_after setup t

  abbrev s' : State
  s' = state_after setup (e ∷ t)

  pub guarded_thread : (f : ℕ) → HasThread s c f → HasThread s' c f
  guarded_thread f has = record {
    thread = thread_stays setup setting t stands.legal e follows c other inside f has.guarded has.thread;
    guarded = (stays_in_other setup setting t stands.legal e follows c other inside).guarded f has.guarded;
  }

  module _ (after : Core) (marks : (w : Word) (d : ℕ) → MarkIs setup (held_by (put cores e.core after)) (e ∷ t) w d)
      (words_are : (w : Word) → WordIs s' (times_of setup (e ∷ t)) w (settled setup (held_by (put cores e.core after)) (e ∷ t) w))
      (f : ℕ) (has : HasThread s c f) (idle : IsIdleIn (holds (cores c)) f) where
    abbrev word : ℕ
    word = word_of_thread (Idle idle.depth)

    -- a thread whose first word is this
    rests_in : (u : State) (times : Times) (x : Frame) → u.frame f ≡ x → IsTrue (fits Kind.Thread x) → WordIs u times (EntryAt f 0) word
        → (thread_in x).runs_on ≡ None
    rests_in u times (Kernel (Thread k)) is fit says = says_idle idle.depth k.runs_on _
        (subst (λ y. IsFrameWord u.limits.frames y (u.place f 0) (times.stamp (PlaceOf f 0)) 0 word) is says)
    rests_in u times x is fit says = absurd (false≢true fit)

    before : (thread_in (s.frame f)).runs_on ≡ None
    before = rests_in s (times_of setup t) (s.frame f) refl has.thread
        (subst (WordIs s (times_of setup t) (EntryAt f 0))
        (ap (λ o. settled_by o (held_by cores) (EntryAt f 0) (last_left setup t (EntryAt f 0)))
        ((stands.marks (EntryAt f 0) c).kept idle.marks) ∙ idle.stands) (stands.words (EntryAt f 0)))

    same_core : put cores e.core after c ≡ cores c
    same_core = put_other cores e.core after c other

    marked_after : marked_by setup (e ∷ t) (EntryAt f 0) ≡ Some c
    marked_after = (marks (EntryAt f 0) c).kept (ap (λ k. (holds k).marks (EntryAt f 0)) same_core ∙ idle.marks)

    after_is : (thread_in (s'.frame f)).runs_on ≡ None
    after_is = rests_in s' (times_of setup (e ∷ t)) (s'.frame f) refl (guarded_thread f has).thread
        (subst (WordIs s' (times_of setup (e ∷ t)) (EntryAt f 0))
        (ap (λ o. settled_by o (held_by (put cores e.core after)) (EntryAt f 0) (last_left setup (e ∷ t) (EntryAt f 0))) marked_after
        ∙ ap (λ k. (holds k).stands (EntryAt f 0)) same_core ∙ idle.stands) (words_are (EntryAt f 0)))

    pub claimed_rests : s'.frame f ≡ s.frame f
    claimed_rests = idle_stays setup setting t stands.legal e follows c other inside f has.guarded has.thread before after_is
