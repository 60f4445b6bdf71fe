-- The lines by numbers are those by a history.
use Rattle.std.proofs.Common.{◌≡◌, ℕ, zero, suc, ◌+◌, ◌-◌, ◌<◌, List, [], ◌∷◌, ◌++◌, length, take, get_or, append_assoc, append-nil, refl}
use Rattle.std.proofs.Common.{sym, ◌∙◌, ap, arith, slice_index, length-take-le}
use Rattle.async_ends.specs.{Event, sent_to, taken_at, untaken}
use Rattle.{ends_text.specs.done_lines, ends_text.specs.count_lines, ends_text.specs.end_lines, std.proofs.lemmas.List.take_more}
use Rattle.{async_ends.specs.declared.asks.EndDone.EndDone, ends_text.specs.Lines.done_line, ends_text.specs.Lines.end_line}

-- one line more
done_lines-push : (core index : ℕ) (ds : List EndDone) (d : EndDone)
    → done_lines core index (ds ++ d ∷ []) ≡ done_lines core index ds ++ done_line core (index + length ds) d
done_lines-push core index [] d =
    let same : index ≡ index + 0 = omega arith in append-nil (done_line core index d) ∙ ap (λ (n : ℕ). done_line core n d) same
done_lines-push core index (e ∷ ds) d =
    let same : (index + 1) + length ds ≡ index + length (e ∷ ds) = omega arith in
    ap (λ (l : List ℕ). done_line core index e ++ l) (done_lines-push core (index + 1) ds d
    ∙ ap (λ (n : ℕ). done_lines core (index + 1) ds ++ done_line core n d) same)
    ∙ sym (append_assoc (done_line core index e) (done_lines core (index + 1) ds) (done_line core (index + length (e ∷ ds)) d))

pub done_more : (core n i : ℕ) (ds : List EndDone) (d : EndDone) (old all new : List ℕ) → all ≡ old ++ done_lines core 1 (take n ds)
    → new ≡ all ++ done_line core i d → n < length ds → i ≡ n + 1 → d ≡ get_or ds n d
    → new ≡ old ++ done_lines core 1 (take (n + 1) ds)
done_more core n i ds d old all new before push low index at =
    let count : length (take n ds) ≡ n = length-take-le n ds (omega arith) in
    let place : i ≡ 1 + length (take n ds) = omega arith in
    push ∙ ap (λ (l : List ℕ). l ++ done_line core i d) before
    ∙ append_assoc old (done_lines core 1 (take n ds)) (done_line core i d)
    ∙ ap (λ (k : ℕ). old ++ (done_lines core 1 (take n ds) ++ done_line core k d)) place
    ∙ ap (λ (l : List ℕ). old ++ l) (sym (done_lines-push core 1 (take n ds) d)
    ∙ ap (done_lines core 1) (ap (λ x. take n ds ++ x ∷ []) at ∙ sym (take_more ds n d low)))

-- the numbers are those of the history, so the lines are
pub counted : (events : List Event) (sent left : List ℕ) (n : ℕ) → ((f : ℕ) → slice_index sent f ≡ sent_to events f)
    → ((f : ℕ) → slice_index left f ≡ untaken events f) → ((f : ℕ) → slice_index left f + taken_at events f ≡ sent_to events f)
    → count_lines sent left n ≡ end_lines events n
counted events sent left zero s l b = refl
counted events sent left (suc n) s l b =
    let here = s n in
    let balance = b n in
    let taken : slice_index sent n - slice_index left n ≡ taken_at events n = omega arith in
    λ i. counted events sent left n s l b i ++ end_line n (s n i) (taken i) (l n i)

-- the line of one frame more
pub count_more : (sent left : List ℕ) (n taken : ℕ) (old all new : List ℕ) → all ≡ old ++ count_lines sent left n
    → new ≡ all ++ end_line n (slice_index sent n) taken (slice_index left n) → taken ≡ slice_index sent n - slice_index left n
    → new ≡ old ++ count_lines sent left (n + 1)
count_more sent left n taken old all new before push is =
    let line : ℕ → List ℕ = λ t. end_line n (slice_index sent n) t (slice_index left n) in
    let next : suc n ≡ n + 1 = omega arith in
    push ∙ ap (λ (x : List ℕ). x ++ line taken) before ∙ append_assoc old (count_lines sent left n) (line taken)
    ∙ ap (λ (t : ℕ). old ++ (count_lines sent left n ++ line t)) is
    ∙ ap (λ (k : ℕ). old ++ count_lines sent left k) next
