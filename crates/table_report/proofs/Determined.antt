-- The words and the ends determine the tables of the state that they represent.
use Rattle.table_lines.specs.kernel_history.specs as low
use low.{◌≡◌, ℕ, ◌<◌, ◌++◌, List, [], true, Option, refl, length, CoreEnd, Entry, entry_of_word, live_of_word, residue, LiveWord, LiveAt}
use low.{Shape, Place, Free, Holds, Quiescing, Object, Blank, Table, Leaf, Pages, Pleaf, Frame, outstanding}
use low.{Kernel, Liveness, Unused, Live, Dead, State, first_of_stack, thread_of, tcap_in, sum_below, refs, ticks, holds_node}
use low.{SaysPlace, AreEntries, AreFrame, SaysNumber, Represent, word_in, end_in, counters, count_at, count_sum, RepresentCounts}
use low.{lines_below, entry_line, frame_lines, number_line, core_lines, total_line, tables_of}
use Rattle.std.proofs.Common.{sym, ap, ◌∙◌, arith, append_assoc, true≢false}
use Rattle.table_report.specs.{words_of, frame_at, core_shown_at}
use low.{ObjectWords.is_node_object, Tables.frame_line, Tables.object_word, Tables.object_lines}
use Rattle.table_report.specs.Shown.{place_shown, place_in, number_shown, frame_shown, place_at, number_at, counted_at, shown, frames_text}
use Rattle.table_report.specs.Shown.{numbers_text, cores_text, tables_shown}
use Rattle.table_report.proofs.ShownObjects.{told, frame_is}
use Rattle.{table_lines.specs.kernel_history.proofs.Sums.sum_same, table_lines.specs.Ends.core_shown, table_lines.proofs.Lines.lines_same}

-- What the tables say of a frame does not hang on where its thread runs.
told_node : (x : Frame) → holds_node (told x) ≡ holds_node x
told_node (Kernel Blank) = refl
told_node _ = refl

told_lines : (f : ℕ) (x : Frame) (place : ℕ → Place) (k : ℕ) → frame_lines f (told x) place k ≡ frame_lines f x place k
told_lines f (Kernel Blank) place k = refl
told_lines f _ place k = refl

told_budget : (x : Frame) → (tcap_in (told x)).budget ≡ (tcap_in x).budget
told_budget (Kernel Blank) = refl
told_budget _ = refl

-- The words of a node are its entries.
entries_of : (x : Frame) (place : ℕ → Place) (word : ℕ → ℕ) → holds_node x ≡ true → AreFrame x place word → AreEntries place word
entries_of (Kernel Table) place word node h = h
entries_of (Kernel Leaf) place word node h = h
entries_of (Kernel Pages) place word node h = h
entries_of (Kernel Pleaf) place word node h = h
entries_of _ place word node h = absurd (true≢false (sym node))

-- The line of an entry is that of what it shows.
says_line : (i : ℕ) (p : Place) (shown : Option Entry) → SaysPlace p shown → entry_line i (place_shown shown) ≡ entry_line i p
says_line i Free shown h = ap (λ o. entry_line i (place_shown o)) h
says_line i (Holds k) shown h = ap (λ o. entry_line i (place_shown o)) h
says_line i (Quiescing k) shown h = ap (λ o. entry_line i (place_shown o)) h.says

-- The lines of an object hang on the lines of its entries alone, and only where it is a node.
object_lines_same : (object : Object) (p q : ℕ → Place)
    → (is_node_object object ≡ true → (i : ℕ) → i < 64 → entry_line i (p i) ≡ entry_line i (q i))
    → object_lines object p ≡ object_lines object q
object_lines_same Table p q same = lines_same (λ i. entry_line i (p i)) (λ i. entry_line i (q i)) 64 (same refl)
object_lines_same Leaf p q same = lines_same (λ i. entry_line i (p i)) (λ i. entry_line i (q i)) 64 (same refl)
object_lines_same Pages p q same = lines_same (λ i. entry_line i (p i)) (λ i. entry_line i (q i)) 64 (same refl)
object_lines_same Pleaf p q same = lines_same (λ i. entry_line i (p i)) (λ i. entry_line i (q i)) 64 (same refl)
object_lines_same _ p q same = refl

frame_lines_same : (f : ℕ) (x : Frame) (p q : ℕ → Place) (k : ℕ)
    → (holds_node x ≡ true → (i : ℕ) → i < 64 → entry_line i (p i) ≡ entry_line i (q i))
    → frame_lines f x p k ≡ frame_lines f x q k
frame_lines_same f (Kernel object) p q k same = ap (λ ls. frame_line f (object_word object) k ++ ls) (object_lines_same object p q same)
frame_lines_same f _ p q k same = refl

says_number : (x : Liveness) (shown : Option LiveWord) → SaysNumber x shown → number_shown shown ≡ x
says_number Unused shown h = ap number_shown h
says_number (Live epoch f) shown h = ap number_shown h
says_number (Dead epoch) shown h = ap number_shown h.says

module _ (shape : Shape) (words : List ℕ) (ends : List CoreEnd) (s : State)
    (cores : s.limits.cores ≡ shape.cores) (frames : s.limits.frames ≡ shape.frames)
    (h : Represent (word_in shape words) (end_in ends) s) where
  within : (f : ℕ) → f < shape.frames → f < s.limits.frames
  within f below = omega (arith, below, frames)

  frame_told : (f : ℕ) → f < shape.frames → frame_at shape words f ≡ told (s.frame f)
  frame_told f below =
      ap (λ o. frame_shown o (words_of shape words f)) (h.kinds f (within f below))
      ∙ frame_is (s.frame f) (s.place f) (words_of shape words f) (h.objects f (within f below))

  node_told : (f : ℕ) → f < shape.frames → holds_node (frame_at shape words f) ≡ holds_node (s.frame f)
  node_told f below = ap holds_node (frame_told f below) ∙ told_node (s.frame f)

  node_place : (f i : ℕ) → f < shape.frames → holds_node (s.frame f) ≡ true
      → place_at shape words f i ≡ place_shown (entry_of_word (words_of shape words f i))
  node_place f i below node = ap (λ b. place_in b (words_of shape words f i)) (node_told f below ∙ node)

  says : (f i : ℕ) → f < shape.frames → i < 64 → holds_node (s.frame f) ≡ true
      → SaysPlace (s.place f i) (entry_of_word (words_of shape words f i))
  says f i below small node = entries_of (s.frame f) (s.place f) (words_of shape words f) node (h.objects f (within f below)) i small

  lines_told : (f k n : ℕ) → f < shape.frames → k ≡ n
      → frame_lines f (frame_at shape words f) (place_at shape words f) k ≡ frame_lines f (s.frame f) (s.place f) n
  lines_told f k n below same =
      ap (λ x. frame_lines f x (place_at shape words f) k) (frame_told f below)
      ∙ told_lines f (s.frame f) (place_at shape words f) k
      ∙ frame_lines_same f (s.frame f) (place_at shape words f) (s.place f) k
      (λ node i small. ap (entry_line i) (node_place f i below node)
      ∙ says_line i (s.place f i) (entry_of_word (words_of shape words f i)) (says f i below small node))
      ∙ ap (frame_lines f (s.frame f) (s.place f)) same

  pub ticks_told : ticks (shown shape words ends) ≡ ticks s
  ticks_told =
      let a = sum_same (λ f. (tcap_in (frame_at shape words f)).budget) (λ f. (tcap_in (s.frame f)).budget) shape.frames
      (λ f below. ap (λ x. (tcap_in x).budget) (frame_told f below) ∙ told_budget (s.frame f)) in
      let b = sum_same (λ c. outstanding (core_shown_at ends c)) (λ c. outstanding (s.core c)) shape.cores
      (λ c below. ap (λ e. outstanding (core_shown e)) (h.ends c (omega (arith, below, cores)))) in
      let fa = ap (sum_below (λ f. (tcap_in (s.frame f)).budget)) frames in
      let fb = ap (sum_below (λ c. outstanding (s.core c))) cores in
      omega (arith, a, b, fa, fb)

  numbers_told : numbers_text shape words 64 ≡ lines_below (λ l. number_line l (s.number l)) 64
  numbers_told = lines_same (λ l. number_line l (number_at shape words l)) (λ l. number_line l (s.number l)) 64
      (λ l small. ap (number_line l) (says_number (s.number l) (live_of_word (word_in shape words (LiveAt l))) (h.numbers l small)))

  cores_told : cores_text ends shape.cores
      ≡ lines_below (λ c. core_lines c (s.core c) (first_of_stack (thread_of s c).stack)) s.limits.cores
  cores_told =
      lines_same (λ c. core_lines c (core_shown_at ends c) (end_in ends c).comp)
      (λ c. core_lines c (s.core c) (first_of_stack (thread_of s c).stack)) shape.cores
      (λ c below. ap (λ e. core_lines c (core_shown e) e.comp) (h.ends c (omega (arith, below, cores))))
      ∙ ap (lines_below (λ c. core_lines c (s.core c) (first_of_stack (thread_of s c).stack))) (sym cores)

  module _ (represented : RepresentCounts (word_in shape words) s) where
    refs_told : (f : ℕ) → f < shape.frames → counted_at shape words f ≡ refs s f
    refs_told f below =
        ap (λ n. residue (count_sum (count_at (word_in shape words) f) (counters n))) (sym cores)
        ∙ (represented f (within f below)).sum

    frames_told : frames_text shape words shape.frames ≡ lines_below (λ f. frame_lines f (s.frame f) (s.place f) (refs s f)) s.limits.frames
    frames_told =
        lines_same (λ f. frame_lines f (frame_at shape words f) (place_at shape words f) (counted_at shape words f))
        (λ f. frame_lines f (s.frame f) (s.place f) (refs s f)) shape.frames
        (λ f below. lines_told f (counted_at shape words f) (refs s f) below (refs_told f below))
        ∙ ap (lines_below (λ f. frame_lines f (s.frame f) (s.place f) (refs s f))) (sym frames)

    pub determined : tables_shown shape words ends ≡ tables_of s
    determined = λ i. frames_told i ++ (numbers_told i ++ (cores_told i ++ total_line (ticks_told i)))

-- The text that the pieces make, one after the other.
pub whole_text : (shape : Shape) (words : List ℕ) (ends : List CoreEnd) (begun a b d e : List ℕ) (total : ℕ)
    → length ends ≡ shape.cores → total ≡ ticks (shown shape words ends)
    → begun ≡ []
    → a ≡ begun ++ frames_text shape words shape.frames
    → b ≡ a ++ numbers_text shape words 64
    → d ≡ b ++ cores_text ends (length ends)
    → e ≡ d ++ total_line total
    → e ≡ tables_shown shape words ends
whole_text shape words ends begun a b d e total cores ticked none pa pb pd pe =
    let f : List ℕ = frames_text shape words shape.frames in
    let n : List ℕ = numbers_text shape words 64 in
    let c : List ℕ = cores_text ends shape.cores in
    let l : List ℕ = total_line (ticks (shown shape words ends)) in
    let first : a ≡ f = pa ∙ ap (λ x. x ++ f) none in
    let second : b ≡ f ++ n = pb ∙ ap (λ x. x ++ n) first in
    let third : d ≡ (f ++ n) ++ c = pd ∙ (λ i. second i ++ cores_text ends (cores i)) in
    pe ∙ (λ i. third i ++ total_line (ticked i)) ∙ append_assoc (f ++ n) c l ∙ append_assoc f n (c ++ l)
