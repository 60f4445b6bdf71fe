-- The pass over the bytes, as it goes on.
use Rattle.std.proofs.Common.{◌≡◌, ℕ, zero, suc, ◌+◌, ◌<◌, ◌≤◌, Bool, true, false, cond, eqb, ltb, List, [], ◌∷◌, ◌++◌, length, get_or}
use Rattle.std.proofs.Common.{take, drop, map, All, IfSome, Option, Some, None, refl, sym, ap, subst, ◌∙◌, append_assoc, arith, inl, inr}
use Rattle.std.proofs.Common.{count_by, filter, slice_get, slice_range, nat_le, not, ◌&&◌, ◌||◌, eqb-true, eq-eqb, ne_eqb, ltb-true}
use Rattle.std.proofs.Common.{ltb-false, le-ltb, lt-ltb, leb-true, le-leb, append-nil, length-append, take_all}
use Rattle.script_tokens.specs.{is_feed, is_hash, is_word_byte, is_allowed, Span, joined, spans, spans_of, first_fault, line_count}
use Rattle.script_tokens.specs.{ending_from, ending_of, before_fault, word_at, words_of, views}
use Rattle.std.proofs.lemmas.Bool.{cases_Bool, false≢true, or_parts, not-true, not-false, eqb-false, and_parts}
use Rattle.std.proofs.lemmas.List.{drop_more, drop_all, take-append-le, length-map}
use Rattle.std.proofs.lemmas.List.Sums.{sum_by-cons}
use Rattle.std.proofs.lemmas.List.Elements.{filter-append, All-head, All-tail}
use Rattle.script_tokens.specs.{declared.scanning.Place.Place, declared.scanning.Place.TheVariants.Between}
use Rattle.script_tokens.specs.{declared.scanning.Place.TheVariants.Word, declared.scanning.Place.TheVariants.Comment, Bytes.feed_next}
use Rattle.script_tokens.specs.{declared.scanning.Ending.Ending, declared.scanning.Ending.TheVariants.Whole}
use Rattle.script_tokens.specs.{declared.scanning.Ending.TheVariants.Fault, declared.token.Token.Token, Words.line_of_fault, Words.Ascend}
use Rattle.script_tokens.specs.{Scanning.span_of, Scanning.IsSlice, Scanning.after_in, Scanning.place_after, Scanning.within_word}
use Rattle.script_tokens.specs.{Scanning.after_blank, Scanning.word_before, Scanning.last_word, Scanning.ended, Scanning.line_after}
use Rattle.script_tokens.specs.{Scanning.whole_after, Scanning.fault_at, Scanning.is_fault}

-- the words of the bytes that follow, where the byte before stands at that place
abbrev pub behind : Place → ℕ → ℕ → List ℕ → List Span
behind Between line here bs = spans line here false bs
behind (Word start) line here bs = joined line start here (spans line here false bs)
behind Comment line here bs = spans line here true bs

-- ---- words ascend

-- each word begins at or after the place, has a byte, and the next begins after its end
abbrev pub RisesFrom : ℕ → List Span → Type 0
RisesFrom here [] = Unit {0}
RisesFrom here (w ∷ ws) = (here ≤ w.start) × (w.start < w.end) × RisesFrom (w.end + 1) ws

pub RisesFrom-weaker : (a b : ℕ) (ws : List Span) → a ≤ b → RisesFrom b ws → RisesFrom a ws
RisesFrom-weaker a b [] le h = tt
RisesFrom-weaker a b (w ∷ ws) le h = let first : b ≤ w.start = h.0 in (omega arith, h.1, h.2)

joined_rises : (line start here : ℕ) (ws : List Span) → start < here → RisesFrom here ws → RisesFrom start (joined line start here ws)
joined_rises line start here [] lt h = (omega arith, lt, tt)
joined_rises line start here (w ∷ ws) lt h =
    let begins : here ≤ w.start = h.0 in
    let whole : w.start < w.end = h.1 in
    elim (cases_Bool (eqb w.start here)) [
      | inl e ↦ rw e (omega arith, omega arith, h.2)
      | inr e ↦ let apart : ¬ (w.start ≡ here) = eqb-false w.start here e in rw e (omega arith, lt, (omega arith, h.1, h.2))
    ]

pub spans_rise : (line here : ℕ) (comment : Bool) (bs : List ℕ) → RisesFrom here (spans line here comment bs)
spans_rise line here comment [] = tt
spans_rise line here comment (b ∷ bs) =
    elim (cases_Bool (is_feed b)) [
      | inl e ↦ rw e (RisesFrom-weaker here (here + 1) _ (omega arith) (spans_rise (line + 1) (here + 1) false bs))
      | inr e ↦ elim (cases_Bool (comment || is_hash b)) [
        | inl k ↦ rw (e, k) (RisesFrom-weaker here (here + 1) _ (omega arith) (spans_rise line (here + 1) true bs))
        | inr k ↦ elim (cases_Bool (is_word_byte b)) [
          | inl w ↦ rw (e, k, w) (joined_rises line here (here + 1) _ (omega arith) (spans_rise line (here + 1) false bs))
          | inr w ↦ rw (e, k, w) (RisesFrom-weaker here (here + 1) _ (omega arith) (spans_rise line (here + 1) false bs))
        ]
      ]
    ]

pub filter_rises : (test : Span → Bool) (here : ℕ) (ws : List Span) → RisesFrom here ws → RisesFrom here (filter test ws)
filter_rises test here [] h = tt
filter_rises test here (w ∷ ws) h =
    let begins : here ≤ w.start = h.0 in
    let whole : w.start < w.end = h.1 in
    elim (cases_Bool (test w)) [
      | inl e ↦ rw e (h.0, h.1, filter_rises test (w.end + 1) ws h.2)
      | inr e ↦ rw e (RisesFrom-weaker here (w.end + 1) _ (omega arith) (filter_rises test (w.end + 1) ws h.2))
    ]

-- ---- one byte

-- a word that goes on
joined_on : (line start here : ℕ) (ws : List Span)
    → joined line start here (joined line here (here + 1) ws) ≡ joined line start (here + 1) ws
joined_on line start here [] = rw (eq-eqb here here refl) refl
joined_on line start here (w ∷ ws) =
    elim (cases_Bool (eqb w.start (here + 1))) [
      | inl e ↦ rw (e, eq-eqb here here refl) refl
      | inr e ↦ rw (e, eq-eqb here here refl) refl
    ]

-- a word that ends
joined_ends : (line start here : ℕ) (ws : List Span) → RisesFrom (here + 1) ws
    → joined line start here ws ≡ record { line = line; start = start; end = here } ∷ ws
joined_ends line start here [] h = refl
joined_ends line start here (w ∷ ws) h =
    let begins : here + 1 ≤ w.start = h.0 in
    rw (ne_eqb w.start here (λ e. omega arith)) refl

feed_no_word : (b : ℕ) → is_feed b ≡ true → is_word_byte b ≡ false
feed_no_word b e = rw (eqb-true b 10 e) refl

hash_no_word : (b : ℕ) → is_hash b ≡ true → is_word_byte b ≡ false
hash_no_word b e = rw (eqb-true b 35 e) refl

behind_step : (p : Place) (line here b : ℕ) (bs : List ℕ)
    → behind p line here (b ∷ bs) ≡ ended (word_before p b) line here ++ behind (place_after p b here) (line_after line b) (here + 1) bs
behind_step Between line here b bs =
    elim (cases_Bool (is_feed b)) [
      | inl e ↦ rw e refl
      | inr e ↦ elim (cases_Bool (is_hash b)) [
        | inl k ↦ rw (e, k) refl
        | inr k ↦ elim (cases_Bool (is_word_byte b)) [ inl w ↦ rw (w, e, k) refl | inr w ↦ rw (w, e, k) refl ]
      ]
    ]
behind_step Comment line here b bs = elim (cases_Bool (is_feed b)) [ inl e ↦ rw e refl | inr e ↦ rw e refl ]
behind_step (Word start) line here b bs =
    elim (cases_Bool (is_feed b)) [
      | inl e ↦ rw (feed_no_word b e, e) (joined_ends line start here _ (spans_rise (line + 1) (here + 1) false bs))
      | inr e ↦ elim (cases_Bool (is_hash b)) [
        | inl k ↦ rw (hash_no_word b k, e, k) (joined_ends line start here _ (spans_rise line (here + 1) true bs))
        | inr k ↦ elim (cases_Bool (is_word_byte b)) [
          | inl w ↦ rw (w, e, k) (joined_on line start here (spans line (here + 1) false bs))
          | inr w ↦ rw (w, e, k) (joined_ends line start here _ (spans_rise line (here + 1) false bs))
        ]
      ]
    ]

behind_end : (p : Place) (line here : ℕ) → behind p line here [] ≡ ended (last_word p) line here
behind_end Between line here = refl
behind_end (Word start) line here = refl
behind_end Comment line here = refl

-- ---- lines

-- no word stands in a later line
abbrev pub Low : ℕ → List Span → Type 0
Low line [] = Unit {0}
Low line (w ∷ ws) = (w.line ≤ line) × Low line ws

-- no word stands in an earlier line
abbrev pub High : ℕ → List Span → Type 0
High line [] = Unit {0}
High line (w ∷ ws) = (line ≤ w.line) × High line ws

High-weaker : (a b : ℕ) (ws : List Span) → a ≤ b → High b ws → High a ws
High-weaker a b [] le h = tt
High-weaker a b (w ∷ ws) le h = let first : b ≤ w.line = h.0 in (omega arith, High-weaker a b ws le h.1)

joined_high : (line start here : ℕ) (ws : List Span) → High line ws → High line (joined line start here ws)
joined_high line start here [] h = (omega arith, tt)
joined_high line start here (w ∷ ws) h =
    elim (cases_Bool (eqb w.start here)) [ inl e ↦ rw e (h.0, h.1) | inr e ↦ rw e (omega arith, (h.0, h.1)) ]

spans_high : (line here : ℕ) (comment : Bool) (bs : List ℕ) → High line (spans line here comment bs)
spans_high line here comment [] = tt
spans_high line here comment (b ∷ bs) =
    elim (cases_Bool (is_feed b)) [
      | inl e ↦ rw e (High-weaker line (line + 1) _ (omega arith) (spans_high (line + 1) (here + 1) false bs))
      | inr e ↦ elim (cases_Bool (comment || is_hash b)) [
        | inl k ↦ rw (e, k) (spans_high line (here + 1) true bs)
        | inr k ↦ elim (cases_Bool (is_word_byte b)) [
          | inl w ↦ rw (e, k, w) (joined_high line here (here + 1) _ (spans_high line (here + 1) false bs))
          | inr w ↦ rw (e, k, w) (spans_high line (here + 1) false bs)
        ]
      ]
    ]

behind_high : (p : Place) (line here : ℕ) (bs : List ℕ) → High line (behind p line here bs)
behind_high Between line here bs = spans_high line here false bs
behind_high (Word start) line here bs = joined_high line start here _ (spans_high line here false bs)
behind_high Comment line here bs = spans_high line here true bs

Low-weaker : (a b : ℕ) (ws : List Span) → a ≤ b → Low a ws → Low b ws
Low-weaker a b [] le h = tt
Low-weaker a b (w ∷ ws) le h = let first : w.line ≤ a = h.0 in (omega arith, Low-weaker a b ws le h.1)

Low-append : (line : ℕ) (ws vs : List Span) → Low line ws → Low line vs → Low line (ws ++ vs)
Low-append line [] vs h k = k
Low-append line (w ∷ ws) vs h k = (h.0, Low-append line ws vs h.1 k)

low_ended : (o : Option ℕ) (line here : ℕ) → Low line (ended o line here)
low_ended None line here = tt
low_ended (Some start) line here = (omega arith, tt)

high_ended : (o : Option ℕ) (line here : ℕ) → High line (ended o line here)
high_ended None line here = tt
high_ended (Some start) line here = (omega arith, tt)

-- the words before a line
abbrev pub before : ℕ → List Span → List Span
before line ws = filter (λ (w : Span). ltb w.line line) ws

before_high : (line : ℕ) (ws : List Span) → High line ws → before line ws ≡ []
before_high line [] h = refl
before_high line (w ∷ ws) h = rw (le-ltb w.line line h.0) (before_high line ws h.1)

before_low : (line : ℕ) (ws : List Span) → Low line ws → before (line + 1) ws ≡ ws
before_low line [] h = refl
before_low line (w ∷ ws) h = let first : w.line ≤ line = h.0 in
    rw (lt-ltb w.line (line + 1) (omega arith)) (ap (λ (vs : List Span). w ∷ vs) (before_low line ws h.1))

-- ---- the pass

-- what the pass keeps: the words so far, and what the bytes that follow still give
pub record Holds (source : List ℕ) (at : ℕ) (place : Place) (line whole : ℕ) (done : List Span) : Type 0 where
  pub words : done ++ behind place line at (drop at source) ≡ spans 1 0 false source
  pub fault : first_fault line (drop at source) ≡ first_fault 1 source
  pub lines : line + count_by is_feed (drop at source) ≡ 1 + count_by is_feed source
  pub few : line ≤ 20001
  pub low : Low line done
  pub cut : before line done ≡ take whole done
  pub within : whole ≤ length done

pub starts : (source : List ℕ) → Holds source 0 Between 1 0 []
starts source = record { words = refl; fault = refl; lines = refl; few = omega arith; low = tt; cut = refl; within = omega arith }

-- a word that began has begun
abbrev pub Began : Place → ℕ → Type 0
Began Between at = Unit {0}
Began (Word start) at = start < at
Began Comment at = Unit {0}

slice_get_rest : (xs : List ℕ) (n : ℕ) → slice_get (drop n xs) 0 ≡ slice_get xs n
slice_get_rest xs zero = refl
slice_get_rest [] (suc n) = refl
slice_get_rest (x ∷ xs) (suc n) = slice_get_rest xs n

fault_step : (line b : ℕ) (bs : List ℕ) → line ≤ 20000 → is_allowed b (slice_get bs 0) ≡ true
    → first_fault line (b ∷ bs) ≡ first_fault (line_after line b) bs
fault_step line b bs le ok = rw (le-ltb 20000 line le, ok) refl

lines_step : (line b : ℕ) (bs : List ℕ) → line_after line b + count_by is_feed bs ≡ line + count_by is_feed (b ∷ bs)
lines_step line b bs =
    let one : count_by is_feed (b ∷ bs) ≡ cond (is_feed b) 1 0 + count_by is_feed bs = sum_by-cons (λ x. cond (is_feed x) 1 0) b bs in
    let step : line_after line b ≡ line + cond (is_feed b) 1 0 =
    elim (cases_Bool (is_feed b)) [ inl e ↦ rw e refl | inr e ↦ rw e (omega arith) ] in
    omega arith

line_few : (line b : ℕ) → line ≤ 20000 → line_after line b ≤ 20001
line_few line b le = elim (cases_Bool (is_feed b)) [ inl e ↦ rw e (omega arith) | inr e ↦ rw e (omega arith) ]

low_step : (line b : ℕ) (ws : List Span) → Low line ws → Low (line_after line b) ws
low_step line b ws h = elim (cases_Bool (is_feed b)) [ inl e ↦ rw e (Low-weaker line (line + 1) ws (omega arith) h) | inr e ↦ rw e h ]

cut_step : (line whole b : ℕ) (done last : List Span) → Low line (done ++ last) → High line last → before line done ≡ take whole done
    → whole ≤ length done
    → before (line_after line b) (done ++ last) ≡ take (whole_after whole b (length (done ++ last))) (done ++ last)
cut_step line whole b done last low high cut within =
    elim (cases_Bool (is_feed b)) [
      | inl e ↦ rw e (before_low line (done ++ last) low ∙ sym (take_all (length (done ++ last)) (done ++ last) (omega arith)))
      | inr e ↦ rw e (filter-append _ done last ∙ ap (λ (x : List Span). before line done ++ x) (before_high line last high)
          ∙ append-nil (before line done) ∙ cut ∙ sym (take-append-le whole done last within))
    ]

within_step : (whole b : ℕ) (done last : List Span) → whole ≤ length done
    → whole_after whole b (length (done ++ last)) ≤ length (done ++ last)
within_step whole b done last within =
    elim (cases_Bool (is_feed b)) [ inl e ↦ rw e (omega arith) | inr e ↦ rw e (omega (arith, length-append done last)) ]

pub goes_on : (source : List ℕ) (at : ℕ) (place : Place) (line whole : ℕ) (done : List Span) (b : ℕ) → Holds source at place line whole done
    → at < length source → b ≡ get_or source at 0 → is_fault line b (slice_get source (at + 1)) ≡ false
    → Holds source (at + 1) (place_after place b at) (line_after line b)
    (whole_after whole b (length (done ++ ended (word_before place b) line at))) (done ++ ended (word_before place b) line at)
goes_on source at place line whole done b h lt is fine =
    let rest = drop (at + 1) source in
    let last = ended (word_before place b) line at in
    let cut : drop at source ≡ b ∷ rest = drop_more source at 0 lt ∙ ap (λ (x : ℕ). x ∷ rest) (sym is) in
    let parts = or_parts (ltb 20000 line) (not (is_allowed b (slice_get rest 0)))
    (ap (is_fault line b) (slice_get_rest source (at + 1)) ∙ fine) in
    let le : line ≤ 20000 = ltb-false 20000 line parts.0 in
    let next : is_allowed b (slice_get rest 0) ≡ true = not-false _ parts.1 in
    let low : Low line (done ++ last) = Low-append line done last h.low (low_ended (word_before place b) line at) in
    record {
      words = append_assoc done last _ ∙ ap (λ (x : List Span). done ++ x) (sym (behind_step place line at b rest))
          ∙ ap (λ (x : List ℕ). done ++ behind place line at x) (sym cut) ∙ h.words;
      fault = sym (fault_step line b rest le next) ∙ ap (first_fault line) (sym cut) ∙ h.fault;
      lines = lines_step line b rest ∙ ap (λ (x : List ℕ). line + count_by is_feed x) (sym cut) ∙ h.lines;
      few = line_few line b le;
      low = low_step line b (done ++ last) low;
      cut = cut_step line whole b done last low (high_ended (word_before place b) line at) h.cut h.within;
      within = within_step whole b done last h.within;
    }

-- the fault that ends the pass
fault_here : (line b : ℕ) (bs : List ℕ) → is_fault line b (slice_get bs 0) ≡ true → first_fault line (b ∷ bs) ≡ Some (fault_at line)
fault_here line b bs bad =
    elim (cases_Bool (ltb 20000 line)) [
      | inl e ↦ rw e refl
      | inr e ↦ let no_byte : is_allowed b (slice_get bs 0) ≡ false = not-true _ (rw e at bad) in rw (e, no_byte) refl
    ]

fault_line : (line : ℕ) → line ≤ 20001 → line_of_fault (fault_at line) ≡ line
fault_line line le = elim (cases_Bool (ltb 20000 line))
    [ inl e ↦ let lt : 20000 < line = ltb-true 20000 line e in rw e (omega arith) | inr e ↦ rw e refl ]

pub record Stopped (source : List ℕ) (line whole : ℕ) (done : List Span) : Type 0 where
  pub ending : ending_of source ≡ Fault (fault_at line)
  pub words : take whole done ≡ spans_of source

pub stops : (source : List ℕ) (at : ℕ) (place : Place) (line whole : ℕ) (done : List Span) (b : ℕ) → Holds source at place line whole done
    → at < length source → b ≡ get_or source at 0 → is_fault line b (slice_get source (at + 1)) ≡ true
    → Stopped source line whole done
stops source at place line whole done b h lt is bad =
    let rest = drop (at + 1) source in
    let cut : drop at source ≡ b ∷ rest = drop_more source at 0 lt ∙ ap (λ (x : ℕ). x ∷ rest) (sym is) in
    let wrong : is_fault line b (slice_get rest 0) ≡ true = ap (is_fault line b) (slice_get_rest source (at + 1)) ∙ bad in
    let fault : first_fault 1 source ≡ Some (fault_at line) = sym h.fault ∙ ap (first_fault line) cut ∙ fault_here line b rest wrong in
    let ending : ending_of source ≡ Fault (fault_at line) = ap (λ f. ending_from f (line_count source)) fault in
    let kept : before_fault (ending_of source) (spans 1 0 false source) ≡ before line (spans 1 0 false source) =
    ap (λ e. before_fault e (spans 1 0 false source)) ending ∙ ap (λ l. before l (spans 1 0 false source)) (fault_line line h.few) in
    record {
      ending = ending;
      words = sym (kept ∙ ap (before line) (sym h.words) ∙ filter-append _ done (behind place line at (drop at source))
          ∙ ap (λ (x : List Span). before line done ++ x) (before_high line _ (behind_high place line at (drop at source)))
          ∙ append-nil (before line done) ∙ h.cut);
    }

pub record Ended (source : List ℕ) (last : ℕ) (done : List Span) : Type 0 where
  pub ending : ending_of source ≡ Whole (line_count source)
  pub words : done ≡ spans_of source
  pub line : last ≡ 1 + count_by is_feed source

pub ends : (source : List ℕ) (at : ℕ) (place : Place) (line whole : ℕ) (done : List Span) → Holds source at place line whole done
    → length source ≤ at → Ended source line (done ++ ended (last_word place) line at)
ends source at place line whole done h le =
    let none : drop at source ≡ [] = drop_all at source le in
    let ending : ending_of source ≡ Whole (line_count source) =
    ap (λ f. ending_from f (line_count source)) (sym h.fault ∙ ap (first_fault line) none) in
    record {
      ending = ending;
      words = ap (λ (x : List Span). done ++ x) (sym (behind_end place line at))
          ∙ ap (λ (x : List ℕ). done ++ behind place line at x) (sym none) ∙ h.words
          ∙ sym (ap (λ e. before_fault e (spans 1 0 false source)) ending);
      line = omega (arith, ap (λ (x : List ℕ). line + count_by is_feed x) (sym none) ∙ h.lines);
    }

-- ---- the tokens

pub views_are : (source : List ℕ) (ts : List Token) → All (IsSlice source) ts → views ts ≡ map (word_at source) (map span_of ts)
views_are source [] h = refl
views_are source (t ∷ ts) h = let text : t.text.now ≡ slice_range source t.start t.end = All-head (IsSlice source) t ts h in
    rw (text, views_are source ts (All-tail (IsSlice source) t ts h)) refl

pub ascend : (here : ℕ) (ts : List Token) → RisesFrom here (map span_of ts) → Ascend (views ts)
ascend here [] h = tt
ascend here (t ∷ []) h = h.1
ascend here (t ∷ u ∷ ts) h = let next : t.end + 1 ≤ u.start = h.2.0 in (h.1, omega arith, ascend (t.end + 1) (u ∷ ts) h.2)

before_rises : (e : Ending) (source : List ℕ) → RisesFrom 0 (before_fault e (spans 1 0 false source))
before_rises (Whole lines) source = spans_rise 1 0 false source
before_rises (Fault fault) source = filter_rises _ 0 _ (spans_rise 1 0 false source)

pub rises : (source : List ℕ) (ts : List Token) → map span_of ts ≡ spans_of source → Ascend (views ts)
rises source ts e = ascend 0 ts (subst (RisesFrom 0) (sym e) (before_rises (ending_of source) source))

-- what the code needs of one byte, and of the ends
pub record Turned (source : List ℕ) (at : ℕ) (place : Place) (line whole : ℕ) (ts : List Token) : Type 0 where
  pub holds : Holds source at place line whole (map span_of ts)
  pub texts : All (IsSlice source) ts
  pub began : Began place at

began_in : (place : Place) (b at : ℕ) → Began place at → Began (after_in place b at) (at + 1)
began_in Comment b at h = tt
began_in Between b at h =
    elim (cases_Bool (is_hash b)) [
      | inl k ↦ rw k tt
      | inr k ↦ elim (cases_Bool (is_word_byte b)) [ inl w ↦ rw (w, k) (omega arith) | inr w ↦ rw (w, k) tt ]
    ]
began_in (Word start) b at h =
    elim (cases_Bool (is_hash b)) [
      | inl k ↦ rw k tt
      | inr k ↦ elim (cases_Bool (is_word_byte b)) [ inl w ↦ rw (w, k) (omega arith) | inr w ↦ rw (w, k) tt ]
    ]

pub began_next : (place : Place) (b at : ℕ) → Began place at → Began (place_after place b at) (at + 1)
began_next place b at h = elim (cases_Bool (is_feed b)) [ inl e ↦ rw e tt | inr e ↦ rw e (began_in place b at h) ]

pub before_begins : (place : Place) (b at : ℕ) → Began place at → IfSome (word_before place b) (λ s. s ≤ at)
before_begins Between b at h = tt
before_begins Comment b at h = tt
before_begins (Word start) b at h = elim (cases_Bool (is_word_byte b)) [ inl w ↦ rw w tt | inr w ↦ rw w (omega arith) ]

-- what the tokens tell
pub told : (source : List ℕ) (ts : List Token) → map span_of ts ≡ spans_of source → All (IsSlice source) ts → views ts ≡ words_of source
told source ts same texts = views_are source ts texts ∙ ap (map (word_at source)) same

-- one turn of the pass
pub turns : (source : List ℕ) (at : ℕ) (place : Place) (line whole b : ℕ) (ts us : List Token) → Turned source at place line whole ts
    → at < length source → b ≡ get_or source at 0 → is_fault line b (slice_get source (at + 1)) ≡ false
    → map span_of us ≡ map span_of ts ++ ended (word_before place b) line at → All (IsSlice source) us
    → Turned source (at + 1) (place_after place b at) (line_after line b) (whole_after whole b (length us)) us
turns source at place line whole b ts us t lt is fine new texts =
    let more = goes_on source at place line whole (map span_of ts) b t.holds lt is fine in
    let long : length (map span_of ts ++ ended (word_before place b) line at) ≡ length us = ap length (sym new) ∙ length-map us span_of in
    let family : List Span → Type 0 = λ ws. Holds source (at + 1) (place_after place b at) (line_after line b)
    (whole_after whole b (length us)) ws in
    record {
      holds = subst family (sym new) (subst
          (λ n. Holds source (at + 1) (place_after place b at) (line_after line b) (whole_after whole b n)
          (map span_of ts ++ ended (word_before place b) line at)) long more);
      texts = texts;
      began = began_next place b at t.began;
    }

-- ---- bytes of words, and blanks

word_no_feed : (b : ℕ) → is_word_byte b ≡ true → is_feed b ≡ false
word_no_feed b w = elim (cases_Bool (is_feed b)) [ inl e ↦ absurd (false≢true (sym (feed_no_word b e) ∙ w)) | inr e ↦ e ]

word_no_hash : (b : ℕ) → is_word_byte b ≡ true → is_hash b ≡ false
word_no_hash b w = elim (cases_Bool (is_hash b)) [ inl e ↦ absurd (false≢true (sym (hash_no_word b e) ∙ w)) | inr e ↦ e ]

one_of : (x y z : Bool) → (x || (y || (z || true))) ≡ true
one_of true y z = refl
one_of false true z = refl
one_of false false true = refl
one_of false false false = refl

word_allowed : (b : ℕ) (next : Option ℕ) → is_word_byte b ≡ true → is_allowed b next ≡ true
word_allowed b next w =
    let p = and_parts (nat_le 33 b) (nat_le b 126 && not (is_hash b)) w in
    let q = and_parts (nat_le b 126) (not (is_hash b)) p.1 in
    let low : 33 ≤ b = leb-true 33 b p.0 in
    let high : nat_le b 126 ≡ true = q.0 in
    let from : nat_le 32 b ≡ true = le-leb 32 b (omega arith) in
    rw (from, high) (one_of (eqb b 9) (is_feed b) (eqb b 13 && feed_next next))

-- a byte of a word is no fault of a line that may be
word_fine : (line b : ℕ) (next : Option ℕ) → line ≤ 20000 → is_word_byte b ≡ true → is_fault line b next ≡ false
word_fine line b next le w = rw (le-ltb 20000 line le, word_allowed b next w) refl

word_in : (place : Place) (b at : ℕ) → is_word_byte b ≡ true → place_after place b at ≡ within_word place at
word_in Between b at w = rw (w, word_no_feed b w, word_no_hash b w) refl
word_in (Word start) b at w = rw (w, word_no_feed b w, word_no_hash b w) refl
word_in Comment b at w = rw (word_no_feed b w) refl

ends_none : (place : Place) (b : ℕ) → is_word_byte b ≡ true → word_before place b ≡ None
ends_none Between b w = refl
ends_none (Word start) b w = rw w refl
ends_none Comment b w = refl

blank_in : (place : Place) (at : ℕ) → place_after place 32 at ≡ after_blank place
blank_in Between at = refl
blank_in (Word start) at = refl
blank_in Comment at = refl

blank_ends : (place : Place) → word_before place 32 ≡ last_word place
blank_ends Between = refl
blank_ends (Word start) = refl
blank_ends Comment = refl

-- one turn of the pass at a byte of a word
pub word_turns : (source : List ℕ) (at : ℕ) (place : Place) (line whole b : ℕ) (ts : List Token) → Turned source at place line whole ts
    → at < length source → b ≡ get_or source at 0 → line ≤ 20000 → is_word_byte b ≡ true
    → Turned source (at + 1) (within_word place at) line whole ts
word_turns source at place line whole b ts t lt is le w =
    let none : map span_of ts ≡ map span_of ts ++ ended (word_before place b) line at =
    rw (ends_none place b w) (sym (append-nil (map span_of ts))) in
    let turned = turns source at place line whole b ts ts t lt is (word_fine line b (slice_get source (at + 1)) le w) none t.texts in
    let no_feed = word_no_feed b w in
    let same_line : line_after line b ≡ line = rw no_feed refl in
    let same_whole : whole_after whole b (length ts) ≡ whole = rw no_feed refl in
    subst (λ p. Turned source (at + 1) p line whole ts) (word_in place b at w)
    (subst (λ (l : ℕ). Turned source (at + 1) (place_after place b at) l whole ts) same_line
    (subst (λ (n : ℕ). Turned source (at + 1) (place_after place b at) (line_after line b) n ts) same_whole turned))

-- one turn of the pass at a blank
pub blank_turns : (source : List ℕ) (at : ℕ) (place : Place) (line whole : ℕ) (ts us : List Token) → Turned source at place line whole ts
    → at < length source → 32 ≡ get_or source at 0 → line ≤ 20000
    → map span_of us ≡ map span_of ts ++ ended (last_word place) line at → All (IsSlice source) us
    → Turned source (at + 1) (after_blank place) line whole us
blank_turns source at place line whole ts us t lt is le new texts =
    let fine : is_fault line 32 (slice_get source (at + 1)) ≡ false = rw (le-ltb 20000 line le) refl in
    let ends : map span_of us ≡ map span_of ts ++ ended (word_before place 32) line at =
    new ∙ ap (λ o. map span_of ts ++ ended o line at) (sym (blank_ends place)) in
    subst (λ p. Turned source (at + 1) p line whole us) (blank_in place at)
    (turns source at place line whole 32 ts us t lt is fine ends texts)
