-- A decision by which a core's thread has another stack, of which one place has changed: what is said of words then, and what the core
-- keeps.
use Rattle.live_invariant.specs.step_ways.proofs.{◌≡◌, ◌≢◌, ◌⊎◌, inl, inr, ◌<◌, ◌≤◌, ◌+◌, ◌*◌, ℕ, zero, suc, false, List, [], ◌∷◌, length}
use Rattle.live_invariant.specs.step_ways.proofs.{Option, Some, None, arith, refl, sym, ◌∙◌, ap, subst, Setting, IsSetting, Reply}
use Rattle.live_invariant.specs.step_ways.proofs.{stack_of_word, thread_of_word, Running, Word, EntryAt, FrameAt, CountAt, CoreAt, FlushAt}
use Rattle.live_invariant.specs.step_ways.proofs.{LiveAt, ClockAt, Move, word_of, left_of, Grace, Thing, PlaceOf, NumberOf, Kernel, Thread}
use Rattle.live_invariant.specs.step_ways.proofs.{State, thread_of, put, times, refs, sum_one, mark_of, mark_in_frame, marked_by, at_height}
use Rattle.live_invariant.specs.step_ways.proofs.{thread_value, stamp, flush_stored, Step, Trace, phase, state_after, last_left}
use Rattle.live_invariant.specs.step_ways.proofs.{decided-inside, last_left-there, ActiveCall, Core, settled, IsFrameWord, IsThreadWord}
use Rattle.live_invariant.specs.step_ways.proofs.{WordIs, holds, held_by, times_of, counted_in, Invariant, plain_exit, runs_on_own}
use Rattle.live_invariant.specs.step_ways.proofs.{limits_of, ReadsAlike, SameFor, StaysSaid, word_stays, frame_value, inner}
use Rattle.live_invariant.specs.core_invariant.specs.{sum_below, IsExclusive, SaysRunning}
use Rattle.thread_invariant.proofs.{EntryMarks.thread_unmarked, OwnStack.own_thread, OwnStack.thread_below}
use Rattle.thread_invariant.proofs.{OwnWords.thread_says as own_says, Stacked.stacked, Stacked.frame_here, Stacked.frame_there}
use Rattle.thread_invariant.proofs.{Stacked.core_own, Stacked.core_other, Stacked.thread_now, Stacked.stack_refs}
use Rattle.{std.proofs.lemmas.Bool.cases_eq, live_invariant.specs.step_ways.proofs.Keeping.keeping_words}

-- After the step e the thread of its core has this stack, which differs from the one before at one height alone; the core keeps the words
-- of the thread and of that place, each with the value that is still to be stored there.
pub record IsRestack (setup : Setting) (t : Trace) (e : Step) (c : ℕ) (after : Core) (fs : List ℕ) (height : ℕ) (graces : Thing → Grace) :
    Type 0 where
  pub now : state_after setup (e ∷ t) ≡ stacked (state_after setup t) c fs graces
  pub some : 1 ≤ length fs
  pub heights : (h : ℕ) → h ≢ height → at_height fs h ≡ at_height (thread_of (state_after setup t) c).stack h
  pub thread_word : ℕ
  pub place_word : ℕ
  pub kept_thread : (holds after).bare ((state_after setup t).core c).thread 0 ≡ Some thread_word
  pub kept_place : (holds after).bare ((state_after setup t).core c).thread (suc height) ≡ Some place_word
  pub only : (g i v : ℕ) → (holds after).bare g i ≡ Some v
      → (g ≡ ((state_after setup t).core c).thread) × (((i ≡ 0) × (v ≡ thread_word)) ⊎ ((i ≡ suc height) × (v ≡ place_word)))
  pub says_thread : thread_of_word thread_word ≡ Some (Running c (length fs))
  pub says_place : stack_of_word place_word ≡ Some (record { 0 = at_height fs height })
  -- it begins no grace period of a place or of a number, and stores no flush
  pub places : (g i : ℕ) → stamp setup (e ∷ t) (PlaceOf g i) ≡ stamp setup t (PlaceOf g i)
  pub numbers : (l : ℕ) → stamp setup (e ∷ t) (NumberOf l) ≡ stamp setup t (NumberOf l)
  pub flushes : (d : ℕ) → flush_stored (e ∷ t) d ≡ flush_stored t d

none_some : (v : ℕ) → None ≡ Some v → ⊥
none_some v h = cc

module _ (setup : Setting) (setting : IsSetting setup) (cores : ℕ → Core) (t : Trace) (stands : Invariant setup cores t) (c : ℕ)
    (here : c < setup.cores)
    (a : ActiveCall) (active : (cores c).active ≡ Some a) (move : Move) (reply : Reply) (after : Core) (fs : List ℕ) (height : ℕ)
    (graces : Thing → Grace)
    (r : IsRestack setup t (inner setup setting cores t stands c here a active move (Some reply) None) c after fs height graces) where
  abbrev e : Step
  e = inner setup setting cores t stands c here a active move (Some reply) None

  abbrev s : State
  s = state_after setup t

  abbrev s' : State
  s' = state_after setup (e ∷ t)

  abbrev thread : ℕ
  thread = (s.core c).thread

  own : s.frame (s.core c).thread ≡ Kernel (Thread (thread_of s c))
  own = own_thread setup setting t stands.legal c here

  pub frame_now : (g : ℕ) → g ≡ (s.core c).thread → s'.frame g ≡ Kernel (Thread (record (thread_of s c) { stack = fs }))
  frame_now g is = ap (λ x. x.frame g) r.now ∙ frame_here s c fs graces own g is

  pub frame_away : (g : ℕ) → g ≢ (s.core c).thread → s'.frame g ≡ s.frame g
  frame_away g other = ap (λ x. x.frame g) r.now ∙ frame_there s c fs graces own g other

  pub core_now : s'.core c ≡ record (s.core c) { counted = (s.core c).counted + 1 }
  core_now = ap (λ x. x.core c) r.now ∙ core_own s c fs graces own

  core_away : (d : ℕ) → d ≢ c → s'.core d ≡ s.core d
  core_away d other = ap (λ x. x.core d) r.now ∙ core_other s c fs graces own d other

  pub limits : s'.limits ≡ s.limits
  limits = ap (λ x. x.limits) r.now

  pub whose : thread_of s' c ≡ record (thread_of s c) { stack = fs }
  whose = ap (λ x. thread_of x c) r.now ∙ thread_now s c fs graces own

  pub refs_now : (g : ℕ) → refs s' g + times g (thread_of s c).stack ≡ refs s g + times g fs
  refs_now g = ap (λ x. refs x g + times g (thread_of s c).stack) r.now
      ∙ stack_refs s c fs graces own (thread_below setup setting t stands.legal c here) g

  pub grows : counted_in setup s + 1 ≤ counted_in setup s'
  grows =
      let sum = sum_one (λ d. (s.core d).counted) (λ d. (s'.core d).counted) setup.cores c here
      (λ d other. ap (λ k. k.counted) (core_away d other)) in
      let more : (s'.core c).counted ≡ (s.core c).counted + 1 = ap (λ k. k.counted) core_now in
      omega (arith, sum, more)

  pub alike : ReadsAlike setup t e
  alike (EntryAt g i) = elim (cases_eq g (s.core c).thread) [
    | inl same ↦ ap (λ x. mark_in_frame x i (last_left setup (e ∷ t) (EntryAt g i))) (frame_now g same)
        ∙ sym (ap (λ x. mark_in_frame x i (last_left setup (e ∷ t) (EntryAt g i))) (ap s.frame same ∙ own))
    | inr other ↦ ap (λ x. mark_in_frame x i (last_left setup (e ∷ t) (EntryAt g i))) (frame_away g other)
  ]
  alike (FrameAt g) = refl
  alike (CountAt g d) = refl
  alike (CoreAt d) = refl
  alike (FlushAt d) = refl
  alike (LiveAt l) = refl
  alike ClockAt = refl

  -- what is said of each word that the core does not keep
  said : (w : Word) → SameFor s s' (times_of setup t) (times_of setup (e ∷ t)) w → StaysSaid setup cores t e w
  said w same = word_stays s s' (times_of setup t) (times_of setup (e ∷ t)) w (settled setup (held_by cores) t w) same

  thread_says : (i : ℕ) → i ≢ 0 → i ≢ suc height → (x : ℕ) → IsThreadWord (thread_of s c) i x
      → IsThreadWord (record (thread_of s c) { stack = fs }) i x
  thread_says zero first place x says = absurd (first refl)
  thread_says (suc h) first place x says = λ low. says low
      ∙ ap (λ (o : Option ℕ). Some (record { 0 = o })) (sym (r.heights h (λ same. place (ap (λ (n : ℕ). suc n) same))))

  frame_word : (g i : ℕ) → g ≢ (s.core c).thread → StaysSaid setup cores t e (EntryAt g i)
  frame_word g i other = said (EntryAt g i) (record {
    frames = ap (λ l. l.frames) limits;
    frame = frame_away g other;
    place = ap (λ x. x.place g i) r.now;
    stamp = r.places g i;
  })

  own_word : (g i : ℕ) → g ≡ (s.core c).thread → (holds after).bare g i ≡ None → StaysSaid setup cores t e (EntryAt g i)
  own_word g i same unkept before =
      subst (λ x. IsFrameWord s'.limits.frames x (s'.place g i) (stamp setup (e ∷ t) (PlaceOf g i)) i
      (settled setup (held_by cores) t (EntryAt g i))) (sym (frame_now g same))
      (thread_says i first place (settled setup (held_by cores) t (EntryAt g i))
      (subst (λ x. IsFrameWord s.limits.frames x (s.place g i) (stamp setup t (PlaceOf g i)) i
      (settled setup (held_by cores) t (EntryAt g i))) (ap s.frame same ∙ own) before))
    where
      at_thread : (holds after).bare g i ≡ (holds after).bare (s.core c).thread i
      at_thread = ap (λ (n : ℕ). (holds after).bare n i) same

      first : i ≢ 0
      first zero_at = none_some r.thread_word
          (sym (sym at_thread ∙ unkept) ∙ ap (λ (n : ℕ). (holds after).bare (s.core c).thread n) zero_at ∙ r.kept_thread)

      place : i ≢ suc height
      place at = none_some r.place_word
          (sym (sym at_thread ∙ unkept) ∙ ap (λ (n : ℕ). (holds after).bare (s.core c).thread n) at ∙ r.kept_place)

  stays : (w : Word) → w ≢ word_of move → marked_by setup t w ≢ Some c
      → ((f i : ℕ) → w ≡ EntryAt f i → (holds after).bare f i ≡ None) → StaysSaid setup cores t e w
  stays (EntryAt g i) there free unkept = elim (cases_eq g (s.core c).thread) [
    | inl same ↦ own_word g i same (unkept g i refl)
    | inr other ↦ frame_word g i other
  ]
  stays (FrameAt g) there free unkept = elim (cases_eq g (s.core c).thread) [
    | inl same ↦ λ before. before ∙ ap (λ x. Some (frame_value x)) (ap s.frame same ∙ own)
        ∙ ap (λ x. Some (frame_value x)) (sym (frame_now g same))
    | inr other ↦ said (FrameAt g) (frame_away g other)
  ]
  stays (CountAt g d) there free unkept = said (CountAt g d) tt
  stays (CoreAt d) there free unkept = said (CoreAt d) (record {
    inside = decided-inside (Some reply) (phase t c) s c d;
    exit = plain_exit t e refl d;
  })
  stays (FlushAt d) there free unkept = said (FlushAt d) (r.flushes d)
  stays (LiveAt l) there free unkept = said (LiveAt l) (record { number = ap (λ x. x.number l) r.now; stamp = r.numbers l })
  stays ClockAt there free unkept = λ before. tt

  -- what is said of those that it keeps
  abbrev Said : ℕ → ℕ → ℕ → Type 0
  Said g i v = WordIs s' (times_of setup (e ∷ t)) (EntryAt g i) v

  keeps_thread : Said (s.core c).thread 0 r.thread_word
  keeps_thread =
      subst (λ x. IsFrameWord s'.limits.frames x (s'.place (s.core c).thread 0)
      (stamp setup (e ∷ t) (PlaceOf (s.core c).thread 0)) 0
      r.thread_word) (sym (frame_now (s.core c).thread refl))
      (r.says_thread ∙ ap (λ o. Some (thread_value o (length fs))) (sym (runs_on_own setup setting cores t stands c here)))

  keeps_place : Said (s.core c).thread (suc height) r.place_word
  keeps_place =
      subst (λ x. IsFrameWord s'.limits.frames x (s'.place (s.core c).thread (suc height))
      (stamp setup (e ∷ t) (PlaceOf (s.core c).thread (suc height))) (suc height)
      r.place_word) (sym (frame_now (s.core c).thread refl)) (λ low. r.says_place)

  keeps : (g i v : ℕ) → (holds after).bare g i ≡ Some v → Said g i v
  keeps g i v is = by (r.only g i v is)
    where
      moved : (j x : ℕ) → g ≡ (s.core c).thread → i ≡ j → v ≡ x → Said (s.core c).thread j x → Said g i v
      moved j x frame index value said_there =
          subst (λ (n : ℕ). Said n i v) (sym frame)
          (subst (λ (n : ℕ). Said (s.core c).thread n v) (sym index)
          (subst (λ (n : ℕ). Said (s.core c).thread j n) (sym value) said_there))

      by : (g ≡ (s.core c).thread) × (((i ≡ 0) × (v ≡ r.thread_word)) ⊎ ((i ≡ suc height) × (v ≡ r.place_word))) → Said g i v
      by (frame, inl at) = moved 0 r.thread_word frame at.0 at.1 keeps_thread
      by (frame, inr at) = moved (suc height) r.place_word frame at.0 at.1 keeps_place

  module _ (still : (w : Word) → (holds after).marks w ≡ (holds (cores c)).marks w) (none : (f i : ℕ) → (holds (cores c)).bare f i ≡ None)
      (mine : (f i : ℕ) → (holds (cores c)).marks (EntryAt f i) ≡ false) (apart : (f i : ℕ) → word_of move ≢ EntryAt f i)
      (was : marked_by setup t (word_of move) ≡ None)
      (unmarked : mark_of s (word_of move) (left_of move (last_left setup t (word_of move))) ≡ None) where
    own_kept : (g i v : ℕ) → (holds after).bare g i ≡ Some v → ((s.core c).thread ≡ g) × (marked_by setup t (EntryAt g i) ≡ None)
    own_kept g i v is = (
      sym (r.only g i v is).0,
      subst (λ (n : ℕ). marked_by setup t (EntryAt n i) ≡ None) (sym (r.only g i v is).0)
          (thread_unmarked setup setting cores t stands c here i (mine (s.core c).thread i)),
    )

    says : SaysRunning c (last_left setup t (EntryAt (s.core c).thread 0))
    says = record {
      depth = length (thread_of s c).stack;
      says = own_says setup setting cores t stands c here none mine 0
          ∙ ap (λ o. Some (thread_value o (length (thread_of s c).stack))) (runs_on_own setup setting cores t stands c here);
    }

    pub restack_words : WordIs s' (times_of setup (e ∷ t)) (word_of move) (left_of move (last_left setup t (word_of move)))
        → ((w : Word) → marked_by setup t w ≡ Some c → WordIs s' (times_of setup (e ∷ t)) w ((holds after).stands w))
        → (w : Word) → WordIs s' (times_of setup (e ∷ t)) w (settled setup (held_by (put cores c after)) (e ∷ t) w)
    restack_words new held =
        keeping_words setup setting cores t stands e after here still alike apart was unmarked none own_kept stays new held keeps

    pub restack_exclusive : (f i v : ℕ) → (holds after).bare f i ≡ Some v → IsExclusive setup (e ∷ t) c f i
    restack_exclusive f i v is = record {
      core = here;
      unmarked = alike (EntryAt f i) ∙ ap (mark_of s (EntryAt f i)) (last_left-there setup (EntryAt f i) e t (λ h. apart f i (sym h)))
          ∙ (own_kept f i v is).1;
      word = inl (record {
        thread = ap (λ k. k.thread) core_now ∙ (own_kept f i v is).0;
        stack = subst (λ k. 1 ≤ length k.stack) (sym whose) r.some;
        says = λ first. subst (SaysRunning c)
            (sym (last_left-there setup (EntryAt f i) e t (λ h. apart f i (sym h))
            ∙ ap (λ (n : ℕ). last_left setup t (EntryAt n i)) (r.only f i v is).0
            ∙ ap (λ (n : ℕ). last_left setup t (EntryAt (s.core c).thread n)) first))
            says;
      });
    }
