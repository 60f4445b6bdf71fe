-- The tables from their parts, and in states that are one for the machine.
use Rattle.table_lines.specs.kernel_history.proofs.{◌≡◌, ℕ, ◌+◌, ◌<◌, ◌++◌, List, [], refl, sym, ap, ◌∙◌, subst, arith, append_assoc}
use Rattle.table_lines.specs.kernel_history.proofs.{slice_index, Frame, Liveness, Core, Limits, State, tcap_in, thread_in, first_of_stack}
use Rattle.table_lines.specs.kernel_history.proofs.{thread_of, outstanding, sum_below, times, place_names, frame_names, core_names}
use Rattle.table_lines.specs.kernel_history.proofs.{number_names, node_refs, refs, ticks, lines_below, tables_of}
use Rattle.plain_tables.proofs.Common.{frame_lines, number_line, core_lines, entry_line, Adds}
use Rattle.table_lines.specs.kernel_history.specs.Tables.{object_lines, total_line, node_lines, frame_line, object_word}
use Rattle.{seq_lookups.specs.seq_state.proofs.SameState, seq_lookups.specs.seq_state.proofs.same_refs}
use Rattle.{seq_lookups.specs.seq_state.specs.kernel_invariant.proofs.Sums.sum_same}
use Rattle.{table_lines.specs.Counting.AreCounts, table_lines.proofs.Lines.lines_same, plain_tables.specs.Within.ThreadsWithin}
use Rattle.seq_lookups.specs.seq_state.specs.kernel_rules.specs.State as state

-- The names of places, objects, cores and liveness numbers are the references.
pub all_adds : (s : State) (a b c d e : List ℕ)
    → Adds a b (λ f. sum_below (λ g. sum_below (λ i. times f (place_names (s.place g i))) 64) s.limits.frames)
    → Adds b c (λ f. sum_below (λ g. times f (frame_names (s.frame g))) s.limits.frames)
    → Adds c d (λ f. sum_below (λ k. times f (core_names (s.core k))) s.limits.cores)
    → Adds d e (λ f. sum_below (λ l. times f (number_names (s.number l))) 64)
    → Adds a e (refs s)
unfolding refs node_refs
all_adds s a b c d e p q r t = record {
  counts = λ f. let x = p.counts f in let y = q.counts f in let z = r.counts f in let w = t.counts f in omega (arith, x, y, z, w);
}

-- The lines of frames by a list of counts.
abbrev pub lines_by : State → (ℕ → ℕ) → ℕ → List ℕ
lines_by s counts n = lines_below (λ f. frame_lines f (s.frame f) (s.place f) (counts f)) n

-- The tables, from the texts of their parts.
pub whole_text : (s : State) (counts none frames numbers cores new : List ℕ) (total : ℕ) → AreCounts counts (refs s) s.limits.frames
    → total ≡ ticks s
    → none ≡ []
    → frames ≡ none ++ lines_by s (slice_index counts) s.limits.frames
    → numbers ≡ frames ++ lines_below (λ l. number_line l (s.number l)) 64
    → cores ≡ numbers ++ lines_below (λ c. core_lines c (s.core c) (first_of_stack (thread_of s c).stack)) s.limits.cores
    → new ≡ cores ++ total_line total → new ≡ tables_of s
whole_text s counts none frames numbers cores new total counted sum empty of_frames of_numbers of_cores of_total =
    let first : frames ≡ lines_by s (refs s) s.limits.frames =
    of_frames ∙ ap (λ t. t ++ lines_by s (slice_index counts) s.limits.frames) empty
    ∙ lines_same (λ f. frame_lines f (s.frame f) (s.place f) (slice_index counts f))
    (λ f. frame_lines f (s.frame f) (s.place f) (refs s f)) s.limits.frames
    (λ f below. ap (frame_lines f (s.frame f) (s.place f)) (counted f below)) in
    let a = lines_by s (refs s) s.limits.frames in
    let b = lines_below (λ l. number_line l (s.number l)) 64 in
    let d = lines_below (λ c. core_lines c (s.core c) (first_of_stack (thread_of s c).stack)) s.limits.cores in
    of_total ∙ ap (λ t. t ++ total_line total) (of_cores ∙ ap (λ t. t ++ d) (of_numbers ∙ ap (λ t. t ++ b) first))
    ∙ append_assoc (a ++ b) d (total_line total) ∙ append_assoc a b (d ++ total_line total)
    ∙ ap (λ n. a ++ (b ++ (d ++ total_line n))) sum

-- ---- states that are one for the machine

same_node : (p q : ℕ → state.Place) → ((i : ℕ) → i < 64 → p i ≡ q i) → node_lines p ≡ node_lines q
same_node p q same = lines_same (λ i. entry_line i (p i)) (λ i. entry_line i (q i)) 64 (λ i below. ap (entry_line i) (same i below))

same_object : (x : state.Object) (p q : ℕ → state.Place) → ((i : ℕ) → i < 64 → p i ≡ q i) → object_lines x p ≡ object_lines x q
same_object state.Blank p q same = refl
same_object state.Table p q same = same_node p q same
same_object state.Leaf p q same = same_node p q same
same_object state.Pages p q same = same_node p q same
same_object state.Pleaf p q same = same_node p q same
same_object (state.Comp k) p q same = refl
same_object (state.Thread t) p q same = refl
same_object (state.Tcap t) p q same = refl

same_frame : (f n : ℕ) (x : Frame) (p q : ℕ → state.Place) → ((i : ℕ) → i < 64 → p i ≡ q i) → frame_lines f x p n ≡ frame_lines f x q n
same_frame f n state.Untyped p q same = refl
same_frame f n state.User p q same = refl
same_frame f n (state.Kernel x) p q same = ap (λ t. frame_line f (object_word x) n ++ t) (same_object x p q same)

pub same_tables : (t s : State) → ThreadsWithin s → SameState t s → tables_of t ≡ tables_of s
same_tables t s within same =
    λ i. frames i ++ (numbers i ++ (cores i ++ total_line (all i)))
  where
    few : t.limits.frames ≡ s.limits.frames
    few = ap (λ (l : Limits). l.frames) same.limits

    many : t.limits.cores ≡ s.limits.cores
    many = ap (λ (l : Limits). l.cores) same.limits

    of_frame : (r : State) → ℕ → List ℕ
    of_frame r = λ f. frame_lines f (r.frame f) (r.place f) (refs r f)

    frames : lines_below (of_frame t) t.limits.frames ≡ lines_below (of_frame s) s.limits.frames
    frames = ap (lines_below (of_frame t)) few ∙ lines_same (of_frame t) (of_frame s) s.limits.frames (λ f below.
        ap (λ x. frame_lines f x (t.place f) (refs t f)) (same.frame f below)
        ∙ same_frame f (refs t f) (s.frame f) (t.place f) (s.place f) (λ i small. same.place f i below small)
        ∙ ap (frame_lines f (s.frame f) (s.place f)) (same_refs t s f same))

    numbers : lines_below (λ l. number_line l (t.number l)) 64 ≡ lines_below (λ l. number_line l (s.number l)) 64
    numbers = lines_same (λ l. number_line l (t.number l)) (λ l. number_line l (s.number l)) 64
        (λ l below. ap (number_line l) (same.number l below))

    of_core : (r : State) → ℕ → List ℕ
    of_core r = λ c. core_lines c (r.core c) (first_of_stack (thread_of r c).stack)

    cores : lines_below (of_core t) t.limits.cores ≡ lines_below (of_core s) s.limits.cores
    cores = ap (lines_below (of_core t)) many ∙ lines_same (of_core t) (of_core s) s.limits.cores (λ c below.
        ap (λ (k : Core). core_lines c k (first_of_stack (thread_in (t.frame k.thread)).stack)) (same.core c below)
        ∙ ap (λ x. core_lines c (s.core c) (first_of_stack (thread_in x).stack)) (same.frame (s.core c).thread (within c below)))

    budget : (r : State) → ℕ → ℕ
    budget r = λ f. (tcap_in (r.frame f)).budget

    spent : (r : State) → ℕ → ℕ
    spent r = λ c. outstanding (r.core c)

    all : ticks t ≡ ticks s
    all =
        let a = ap (sum_below (budget t)) few
        ∙ sum_same (budget s) (budget t) s.limits.frames (λ f below. ap (λ x. (tcap_in x).budget) (same.frame f below)) in
        let b = ap (sum_below (spent t)) many
        ∙ sum_same (spent s) (spent t) s.limits.cores (λ c below. ap (λ (k : Core). outstanding k) (same.core c below)) in
        λ i. a i + b i
