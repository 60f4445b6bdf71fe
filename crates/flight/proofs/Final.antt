-- At each moment the words say what the state is; and where all cores are between calls, they represent it with the cores' ends.
use Rattle.work_invariant.specs.step_ways.proofs as low
use low.{◌≡◌, ◌≢◌, ◌⊎◌, inl, inr, ℕ, suc, ◌+◌, ◌<◌, true, false, List, [], ◌∷◌, slice_get, Option, Some, None, arith, refl, sym, ◌∙◌, ap}
use low.{subst, IsTrue, false≢true, All, Setting, IsSetting, Capability, Translation, Entry, entry_of_word, quality_of_word, stack_of_word}
use low.{LiveWord, count_of_word, CountWord, Word, EntryAt, FrameAt, CountAt, CoreAt, LiveAt, Place, Free, Holds, Quiescing, Blank, Table}
use low.{Leaf, Pages, Pleaf, Comp, Thread, Tcap, Frame, Untyped, User, Kernel, Liveness, Unused, Live, Dead, PlaceOf, NumberOf, State}
use low.{held_in, counters, holds_node, at_height, Trace, Phase, Out, phase, state_after, last_left, is_in, stamp, exit_of, sound_of}
use low.{Core, marked_by, settled_by, settled, PlaceIs, IsFrameWord, SaysCount, NumberIs, WordIs, CallIs, WorksIn, holds_in, held_by}
use low.{times_of, count_shown, Invariant, limits_of, marker_inside, true≢false, CoreEnd, residue, is_node as is_sound_node, count_at}
use low.{RepresentCounts, Represent, inside_is, end_of, IsMarked, IsUnmarked, place_reads}
use Rattle.work_invariant.specs.boot_words.specs.kernel_history.specs.{start, IsUnheld, SaysPlace, AreFrame, SaysNumber, end_of as end_in}
use Rattle.std.proofs.{lemmas.Bool.cases_lt, lemmas.List.Elements.All-nil, lemmas.List.Elements.All-cons}
use Rattle.work_invariant.specs.boot_words.specs.kernel_history.specs.Moments.{EntrySays, CoreSays}
use Rattle.work_invariant.specs.kept_facts.proofs.{CountSums.sum_same, Few.refs_residue}
use Rattle.flight.specs.Theorems.{SaysWords, AreBetween, Represents, RepresentsCounts}
use Rattle.{work_invariant.specs.core_invariant.proofs.Bare.none_value}

sound_node : (x : Frame) → IsTrue (holds_node x) → IsTrue (is_sound_node x)
sound_node (Kernel Table) h = refl
sound_node (Kernel Leaf) h = refl
sound_node (Kernel Pages) h = refl
sound_node (Kernel Pleaf) h = refl
sound_node _ h = absurd (false≢true h)

node_sound : (x : Frame) → IsTrue (is_sound_node x) → holds_node x ≡ false → ⊥
node_sound (Kernel Table) h none = true≢false none
node_sound (Kernel Leaf) h none = true≢false none
node_sound (Kernel Pages) h none = true≢false none
node_sound (Kernel Pleaf) h none = true≢false none
node_sound _ h none = false≢true h

says_place : (n : ℕ) (p : Place) (r : ℕ) (o : Option Entry) → PlaceIs n p r o → SaysPlace p o
says_place n Free r o h = h
says_place n (Holds k) r o h = h.0
says_place n (Quiescing k) r o h = record { stamp = r; says = h.says }

says_number : (l : Liveness) (r : ℕ) (o : Option LiveWord) → NumberIs l r o → SaysNumber l o
says_number Unused r o h = h
says_number (Live epoch f) r o h = h
says_number (Dead epoch) r o h = record { stamp = r; says = h.says }

inside_phase : (p : Phase) → is_in p ≡ true → p ≢ Out
inside_phase Out h = absurd (false≢true h)
inside_phase _ h = λ q. cc

phase_inside : (p : Phase) → p ≢ Out → is_in p ≡ true
phase_inside Out h = absurd (h refl)
phase_inside _ h = refl

pub says_words : SaysWords
says_words setup setting cores t stands = record { entries = entries; cores = core_says }
  where
    entries : (f i : ℕ) → f < setup.frames → i < 64 → IsTrue (holds_node ((state_after setup t).frame f)) → EntrySays setup t f i
    entries f i here below node = by_read (place_reads setup cores t stands f i (sound_node ((state_after setup t).frame f) node) below)
      where
        by_read : IsMarked setup t f i ⊎ IsUnmarked setup t f i → EntrySays setup t f i
        by_read (inl m) = inr (record {
          by = m.by;
          says = m.says;
          in_call = inside_phase (phase t m.by) (sym (inside_is setup t m.by) ∙ marker_inside setup cores t stands (EntryAt f i) m.by
              m.mark);
        })
        by_read (inr p) = inl (says_place setup.frames ((state_after setup t).place f i) (stamp setup t (PlaceOf f i))
            (entry_of_word (last_left setup t (EntryAt f i))) p.says)

    core_says : (c : ℕ) → c < setup.cores → CoreSays setup t c
    core_says c here = record {
      value = record { inside = ((state_after setup t).core c).inside; stamp = exit_of t c };
      says = stands.words (CoreAt c);
      inside = (
        (λ h. inside_phase (phase t c) (sym (inside_is setup t c) ∙ h)),
        (λ h. inside_is setup t c ∙ phase_inside (phase t c) h),
      );
    }

next : (i : ℕ) → suc i ≡ 1 + i
next i = omega arith

-- The words of a frame, as those of its object.
frame_parts : (n : ℕ) (x : Frame) (p : ℕ → Place) (r word : ℕ → ℕ) → ((i : ℕ) → IsFrameWord n x (p i) (r i) i (word i))
    → AreFrame x p word
frame_parts n Untyped p r word h = tt
frame_parts n User p r word h = tt
frame_parts n (Kernel Blank) p r word h = tt
frame_parts n (Kernel (Comp k)) p r word h = record { table = h 0; pages = h 1; live = h 2 }
frame_parts n (Kernel (Thread t)) p r word h = record {
  runs = h 0;
  stack = λ i below. subst (λ (j : ℕ). stack_of_word (word j) ≡ Some (record { 0 = at_height t.stack i })) (next i) (h (suc i) below);
}
frame_parts n (Kernel (Tcap q)) p r word h = let head = h 0 in record {
  version = head.version;
  head = head.says;
  list = λ i below. subst (λ (j : ℕ). quality_of_word (word j) ≡ Some (record { 0 = slice_get q.qualities i })) (next i)
      (h (suc i) below);
  most = head.most;
}
frame_parts n _ p r word h = λ i below. says_place n (p i) (r i) (entry_of_word (word i)) (h i below)

-- Places of frames that are no nodes hold nothing.
none_held : (p : Place) → ((k : Capability) → p ≡ Holds k → ⊥) → held_in p ≡ None
none_held (Holds k) h = absurd (h k refl)
none_held _ h = refl

end_with : ℕ → ℕ → ℕ → ℕ → ℕ → ℕ → List Translation → CoreEnd
end_with thread tcap comp spent back owed cached =
    record { thread = thread; tcap = tcap; comp = comp; spent = spent; back = back; owed = owed; cached = cached }

pub ends_are : (core : Core) (s : State) (c : ℕ) → WorksIn core.own s c → end_of core ≡ end_in s c
unfolding end_with
ends_are core s c is =
    ap (λ (x : ℕ). end_with x core.own.tcap core.own.comp core.own.spent core.own.back core.own.owed core.own.cached) is.thread
    ∙ ap (λ (x : ℕ). end_with (s.core c).thread x core.own.comp core.own.spent core.own.back core.own.owed core.own.cached) is.tcap
    ∙ ap (λ (x : ℕ). end_with (s.core c).thread (s.core c).tcap x core.own.spent core.own.back core.own.owed core.own.cached) is.comp
    ∙ ap (λ (x : ℕ). end_with (s.core c).thread (s.core c).tcap (end_in s c).comp x core.own.back core.own.owed core.own.cached) is.spent
    ∙ ap (λ (x : ℕ). end_with (s.core c).thread (s.core c).tcap (end_in s c).comp (s.core c).spent x core.own.owed core.own.cached) is.back
    ∙ ap (λ (x : ℕ). end_with (s.core c).thread (s.core c).tcap (end_in s c).comp (s.core c).spent (s.core c).back x core.own.cached)
    is.owed
    ∙ ap (λ x. end_with (s.core c).thread (s.core c).tcap (end_in s c).comp (s.core c).spent (s.core c).back (s.core c).owed x) is.cached

module _ (setup : Setting) (setting : IsSetting setup) (cores : ℕ → Core) (t : Trace) (stands : Invariant setup cores t)
    (between : AreBetween setup cores) where
  limits : (state_after setup t).limits ≡ (start setup).limits
  limits = limits_of setup t

  works : (c : ℕ) → c < (state_after setup t).limits.cores → WorksIn (cores c).own (state_after setup t) c
  works c here = (stands.each c (subst (λ (n : ℕ). c < n) (ap (λ l. l.cores) limits) here)).works

  out : (c : ℕ) → phase t c ≡ Out
  out c = elim (cases_lt c setup.cores) [
    | inl here ↦ subst (CallIs setup t c (cores c).own.table) (between c here) (stands.each c here).active
    | inr past ↦ (stands.away c past).out
  ]

  outside : (c : ℕ) → ((state_after setup t).core c).inside ≡ false
  outside c = inside_is setup t c ∙ ap is_in (out c)

  unmarked : (w : Word) (o : Option ℕ) → marked_by setup t w ≡ o → marked_by setup t w ≡ None
  unmarked w None is = is
  unmarked w (Some d) is = absurd (true≢false (sym (marker_inside setup cores t stands w d is) ∙ outside d))

  -- each word stands for itself
  settled_is : (w : Word) → settled setup (held_by cores) t w ≡ last_left setup t w
  settled_is w = ap (λ o. settled_by o (held_by cores) w (last_left setup t w)) (unmarked w (marked_by setup t w) refl)
      ∙ none_value (held_by cores) w (last_left setup t w) (λ f i d. ap (λ o. (holds_in o).bare f i) (idle d))
    where
      idle : (d : ℕ) → (cores d).active ≡ None
      idle d = elim (cases_lt d setup.cores) [
        | inl below ↦ between d below
        | inr past ↦ (stands.away d past).idle
      ]

  word_is : (w : Word) → WordIs (state_after setup t) (times_of setup t) w (last_left setup t w)
  word_is w = subst (WordIs (state_after setup t) (times_of setup t) w) (settled_is w) (stands.words w)

  words_represent : Represent (last_left setup t) (λ c. end_of (cores c)) (state_after setup t)
  words_represent = record {
    objects = λ f here. frame_parts (state_after setup t).limits.frames
        ((state_after setup t).frame f) ((state_after setup t).place f)
        (λ i. stamp setup t (PlaceOf f i)) (λ i. last_left setup t (EntryAt f i))
        (λ i. word_is (EntryAt f i));
    bare = λ f here none i below. none_held ((state_after setup t).place f i)
        (λ k h. node_sound ((state_after setup t).frame f) ((sound_of setup setting t stands.legal).bare f i k h).0 none);
    kinds = λ f here. word_is (FrameAt f);
    numbers = λ l here. says_number ((state_after setup t).number l) (stamp setup t (NumberOf l)) _ (word_is (LiveAt l));
    cores = λ c here. record {
      stamp = exit_of t c;
      says = stands.words (CoreAt c) ∙ ap
          (λ b. Some (record { inside = b; stamp = exit_of t c })) (outside c);
    };
    ends = λ c here. ends_are (cores c) (state_after setup t) c (works c here);
  }

  unheld_is : (o : Option CountWord) → SaysCount o → IsUnheld o
  unheld_is o says = subst IsUnheld (sym says.says) refl

  every : (f : ℕ) (ds : List ℕ) → All (λ d. IsUnheld (count_at (last_left setup t) f d)) ds
  every f [] = All-nil (λ d. IsUnheld (count_at (last_left setup t) f d))
  every f (d ∷ ds) = All-cons (λ d. IsUnheld (count_at (last_left setup t) f d)) d ds
      (unheld_is (count_at (last_left setup t) f d) (word_is (CountAt f d))) (every f ds)

  counts_represent : RepresentCounts (last_left setup t) (state_after setup t)
  counts_represent f here = record {
    unheld = every f (counters (state_after setup t).limits.cores);
    sum = ap residue (sum_same (count_shown setup (held_by cores) t f) (count_at (last_left setup t) f)
        (counters (state_after setup t).limits.cores) (λ d. sym (ap count_of_word (settled_is (CountAt f d)))))
        ∙ (stands.sums f).sum ∙ refs_residue setup setting t stands.legal f;
  }

pub represents : Represents
represents setup setting cores t stands between = words_represent setup setting cores t stands between

pub represents_counts : RepresentsCounts
represents_counts setup setting cores t stands between = counts_represent setup setting cores t stands between
