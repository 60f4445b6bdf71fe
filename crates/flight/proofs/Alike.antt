-- What is closed represents what was left, where its words and ends are the same; and so do its counts.
use Rattle.work_invariant.specs.boot_words.specs.kernel_history.proofs.{◌≡◌, ℕ, ◌+ℤ◌, ◌+◌, ◌<◌, List, [], ◌∷◌, length, arith, refl, sym}
use Rattle.work_invariant.specs.boot_words.specs.kernel_history.proofs.{◌∙◌, ap, subst, zero, suc, Setting, IsSetting, Word, EntryAt}
use Rattle.work_invariant.specs.boot_words.specs.kernel_history.proofs.{FrameAt, CountAt, CoreAt, LiveAt, IsIn, entry_of_word, comp_of_word}
use Rattle.work_invariant.specs.boot_words.specs.kernel_history.proofs.{count_of_word, frame_of_word, live_of_word, core_of_word}
use Rattle.work_invariant.specs.boot_words.specs.kernel_history.proofs.{thread_of_word, stack_of_word, head_of_word, quality_of_word, Place}
use Rattle.work_invariant.specs.boot_words.specs.kernel_history.proofs.{Object, Blank, Comp, Thread, Tcap, Frame, Kernel, State, shape_of}
use Rattle.work_invariant.specs.boot_words.specs.kernel_history.proofs.{counters, count_in, count_sum, get_or, CoreEnd, residue, count_at}
use Rattle.work_invariant.specs.boot_words.specs.kernel_history.proofs.{RepresentCounts, Represent, AreFrame, SaysPlace}
use Rattle.work_invariant.specs.boot_words.specs.kernel_history.specs.{IsUnheld, AreEntries, SaysNumber}
use Rattle.std.proofs.lemmas.List.FromFn.{length-range_with_len, get_or-range_with_len}
use Rattle.work_invariant.specs.boot_words.specs.kernel_history.specs.FinalWords.{AreObject, SaysOut}

-- words that are alike say alike
module _ (word word' : ℕ → ℕ) (alike : (i : ℕ) → i < 64 → word i ≡ word' i) where
  like_entries : (place : ℕ → Place) → AreEntries place word → AreEntries place word'
  like_entries place are i h = subst (λ (w : ℕ). SaysPlace (place i) (entry_of_word w)) (alike i h) (are i h)

  like_object : (object : Object) (place : ℕ → Place) → AreObject object place word → AreObject object place word'
  like_object Blank place are = tt
  like_object (Comp k) place are = record {
    table = sym (alike 0 (omega arith)) ∙ are.table;
    pages = sym (alike 1 (omega arith)) ∙ are.pages;
    live = ap (λ (w : ℕ). comp_of_word w) (sym (alike 2 (omega arith))) ∙ are.live;
  }
  like_object (Thread t) place are = record {
    runs = ap (λ (w : ℕ). thread_of_word w) (sym (alike 0 (omega arith))) ∙ are.runs;
    stack = λ h low. ap (λ (w : ℕ). stack_of_word w) (sym (alike (1 + h) (omega arith))) ∙ are.stack h low;
  }
  like_object (Tcap q) place are = record {
    version = are.version;
    head = ap (λ (w : ℕ). head_of_word w) (sym (alike 0 (omega arith))) ∙ are.head;
    list = λ j low. ap (λ (w : ℕ). quality_of_word w) (sym (alike (1 + j) (omega arith))) ∙ are.list j low;
    most = are.most;
  }
  like_object _ place are = like_entries place are

  like_frame : (frame : Frame) (place : ℕ → Place) → AreFrame frame place word → AreFrame frame place word'
  like_frame (Kernel object) place are = like_object object place are
  like_frame _ place are = tt

-- the words of a machine of a setup, and the ends of its cores
pub like : (setup : Setting) (s : State) (word word' : Word → ℕ) (end end' : ℕ → CoreEnd) → s.limits.frames ≡ setup.frames
    → s.limits.cores ≡ setup.cores →
    ((w : Word) → IsIn (shape_of setup) w → word w ≡ word' w) → ((c : ℕ) → c < setup.cores → end c ≡ end' c) → Represent
    word end s → Represent word' end' s
like setup s word word' end end' frames cores alike ends is = record {
  objects = λ f h. like_frame (λ i. word (EntryAt f i)) (λ i. word' (EntryAt f i)) (λ i low. alike (EntryAt f i) (omega arith, low))
      (s.frame f) (s.place f) (is.objects f h);
  bare = is.bare;
  kinds = λ f h. ap (λ (w : ℕ). frame_of_word w) (sym (alike (FrameAt f) (omega arith))) ∙ is.kinds f h;
  numbers = λ l h. subst (λ (w : ℕ). SaysNumber (s.number l) (live_of_word w)) (alike (LiveAt l) h) (is.numbers l h);
  cores = λ c h. subst (λ (w : ℕ). SaysOut (core_of_word w)) (alike (CoreAt c) (omega arith)) (is.cores c h);
  ends = λ c h. sym (ends c (omega arith)) ∙ is.ends c h;
}

-- a frame's count words are those of its cores
counter_at : (n k d : ℕ) → k < length (counters n) → get_or (counters n) k d < n
counter_at n k d low =
    let long = length-range_with_len 0 n in
    let at = get_or-range_with_len 0 n k d (omega (arith, low, long)) in
    omega (arith, low, long, at)

-- count words that are alike sum alike
like_sum : (word word' : Word → ℕ) (f : ℕ) (cs : List ℕ)
    → ((k d : ℕ) → k < length cs → word (CountAt f (get_or cs k d)) ≡ word' (CountAt f (get_or cs k d)))
    → count_sum (count_at word f) cs ≡ count_sum (count_at word' f) cs
like_sum word word' f [] alike = refl
like_sum word word' f (c ∷ cs) alike =
    ap (λ (w : ℕ). count_in (count_of_word w) +ℤ count_sum (count_at word f) cs) (alike zero zero (omega arith))
    ∙ ap (λ z. count_in (count_at word' f c) +ℤ z) (like_sum word word' f cs (λ k d h. alike (suc k) d (omega arith)))

-- the count words of a machine of a setup
module _ (setup : Setting) (setting : IsSetting setup) (s : State) (word word' : Word → ℕ)
    (frames : s.limits.frames ≡ setup.frames) (cores : s.limits.cores ≡ setup.cores)
    (alike : (w : Word) → IsIn (shape_of setup) w → word w ≡ word' w) where
  abbrev cs : List ℕ
  cs = counters s.limits.cores

  like_count : (f k d : ℕ) → f < s.limits.frames → k < length cs → word (CountAt f (get_or cs k d)) ≡ word' (CountAt f (get_or cs k d))
  like_count f k d h low =
      let below = counter_at s.limits.cores k d low in
      alike (CountAt f (get_or cs k d)) (omega arith, omega arith)

  pub like_counts : RepresentCounts word s → RepresentCounts word' s
  like_counts is f h = record {
    unheld = λ k d low. subst (λ (w : ℕ). IsUnheld (count_of_word w)) (like_count f k d h low) ((is f h).unheld k d low);
    sum = ap residue (sym (like_sum word word' f cs (λ k d low. like_count f k d h low))) ∙ (is f h).sum;
  }

-- an element that is there needs no default
pub same_default : {X : Type 0} (xs : List X) (k : ℕ) (d e : X) → k < length xs → get_or xs k d ≡ get_or xs k e
same_default [] k d e h = absurd (omega arith)
same_default (x ∷ xs) zero d e h = refl
same_default (x ∷ xs) (suc k) d e h = same_default xs k d e (omega arith)
