-- The words of lines: each word stands where it was written, whatever ends its line.
use Rattle.std.proofs.Common.{◌≡◌, ℕ, suc, ◌+◌, ◌-◌, ◌≤◌, Bool, true, false, cond, eqb, leb, List, [], ◌∷◌, ◌++◌, length, take, drop, map}
use Rattle.std.proofs.Common.{Option, None, refl, sym, ap, subst, ◌∙◌, arith, ◌&&◌, not, count_by, slice_get, slice_range}
use Rattle.std.proofs.Common.{eq-eqb, ne_eqb, le-ltb, leb-true, le-leb, drop-drop}
use Rattle.script_reader.specs.script_tokens.specs.{is_feed, is_hash, is_word_byte, is_allowed, Span, Word, joined, spans, first_fault}
use Rattle.script_reader.specs.script_tokens.specs.{word_at, words_of, line_count, ending_from, ending_of, before_fault}
use Rattle.script_reader.specs.script_tokens.specs.declared.scanning.Ending.TheVariants.{Whole}
use Rattle.script_reader.specs.line_reader.specs.{Row, with_word, rows_of}
use Rattle.script_reader.specs.call_reader.proofs.Judgements.{both_left, both_right}
use Rattle.std.proofs.lemmas.List.{length-map}
use mathlib.Core.Bool.{false≢true}
use Rattle.std.proofs.{lemmas.List.Sums.sum_by-cons, Math.Seq.take-append_seam, Math.Seq.drop-append_seam}
use Rattle.script_reader.specs.script_tokens.proofs.Steps.{RisesFrom, RisesFrom-weaker, spans_rise}

-- each byte is one of a word
abbrev pub are_word_bytes : List ℕ → Bool
are_word_bytes [] = true
are_word_bytes (b ∷ bs) = is_word_byte b && are_word_bytes bs

-- one or more bytes of a word
abbrev pub is_text : List ℕ → Bool
is_text [] = false
is_text (b ∷ bs) = is_word_byte b && are_word_bytes bs

-- words, with a space between each two, before the bytes after them
abbrev pub words_onto : List (List ℕ) → List ℕ → List ℕ
words_onto [] tail = tail
words_onto (w ∷ []) tail = w ++ tail
words_onto (w ∷ v ∷ ws) tail = w ++ 32 ∷ words_onto (v ∷ ws) tail

-- a line of words, before the bytes after it
abbrev pub line_onto : List (List ℕ) → List ℕ → List ℕ
line_onto ws rest = words_onto ws (10 ∷ rest)

-- lines of words, before the bytes after them
abbrev pub lines_onto : List (List (List ℕ)) → List ℕ → List ℕ
lines_onto [] rest = rest
lines_onto (ws ∷ lines) rest = line_onto ws (lines_onto lines rest)

-- each is the text of a word
abbrev pub are_texts : List (List ℕ) → Bool
are_texts [] = true
are_texts (w ∷ ws) = is_text w && are_texts ws

-- a line has words
abbrev pub is_line : List (List ℕ) → Bool
is_line [] = false
is_line (w ∷ ws) = is_text w && are_texts ws

-- each line has words
abbrev pub are_lines : List (List (List ℕ)) → Bool
are_lines [] = true
are_lines (ws ∷ lines) = is_line ws && are_lines lines

-- the lines, numbered from there on
abbrev pub rows_from : ℕ → List (List (List ℕ)) → List Row
rows_from number [] = []
rows_from number (ws ∷ lines) = record { number = number; words = ws } ∷ rows_from (number + 1) lines

-- a printed character, or a space
abbrev pub is_printed : ℕ → Bool
is_printed b = leb 32 b && leb b 126

-- each byte is one
abbrev pub are_printed : List ℕ → Bool
are_printed [] = true
are_printed (b ∷ bs) = is_printed b && are_printed bs

-- a line: its words, and the bytes that end it
pub record Ended : Type 0 where
  pub words : List (List ℕ)
  pub ending : List ℕ

-- the bytes of lines
abbrev pub ended_onto : List Ended → List ℕ
ended_onto [] = []
ended_onto (l ∷ lines) = words_onto l.words (l.ending ++ ended_onto lines)

-- the words of lines
abbrev pub words_in : List Ended → List (List (List ℕ))
words_in lines = map (λ (l : Ended). l.words) lines

-- ---- bytes of words and of comments

-- a byte of a kind is not one that is none of it
is_not : (is : ℕ → Bool) (b x : ℕ) → is x ≡ false → is b ≡ true → eqb b x ≡ false
is_not is b x none h = ne_eqb b x (λ e. let bad : is x ≡ true = subst (λ n. is n ≡ true) e h in absurd (false≢true (sym none ∙ bad)))

word_no_feed : (b : ℕ) → is_word_byte b ≡ true → is_feed b ≡ false
word_no_feed b h = is_not is_word_byte b 10 refl h

word_no_hash : (b : ℕ) → is_word_byte b ≡ true → is_hash b ≡ false
word_no_hash b h = is_not is_word_byte b 35 refl h

pub printed_no_feed : (b : ℕ) → is_printed b ≡ true → is_feed b ≡ false
printed_no_feed b h = is_not is_printed b 10 refl h

printed_allowed : (b : ℕ) (next : Option ℕ) → is_printed b ≡ true → is_allowed b next ≡ true
printed_allowed b next h =
    let low : 32 ≤ b = leb-true 32 b (both_left (leb 32 b) _ h) in
    let high : b ≤ 126 = leb-true b 126 (both_right (leb 32 b) _ h) in
    rw (
      ne_eqb b 9 (λ e. omega arith),
      ne_eqb b 10 (λ e. omega arith),
      ne_eqb b 13 (λ e. omega arith),
      le-leb 32 b low,
      le-leb b 126 high,
    ) refl

word_is_printed : (b : ℕ) → is_word_byte b ≡ true → is_printed b ≡ true
word_is_printed b h =
    let low : 33 ≤ b = leb-true 33 b (both_left (leb 33 b) _ h) in
    let high : b ≤ 126 = leb-true b 126 (both_left (leb b 126) (not (is_hash b)) (both_right (leb 33 b) _ h)) in
    rw (le-leb 32 b (omega arith), le-leb b 126 high) refl

bytes_printed : (w : List ℕ) → are_word_bytes w ≡ true → are_printed w ≡ true
bytes_printed [] h = refl
bytes_printed (b ∷ bs) h = rw (word_is_printed b (both_left _ _ h)) (bytes_printed bs (both_right _ _ h))

text_printed : (w : List ℕ) → is_text w ≡ true → are_printed w ≡ true
text_printed [] h = refl
text_printed (b ∷ bs) h = bytes_printed (b ∷ bs) h

-- ---- where words stand

joined_ends : (line start here : ℕ) (ws : List Span) → RisesFrom (here + 1) ws
    → joined line start here ws ≡ record { line = line; start = start; end = here } ∷ ws
joined_ends line start here [] h = refl
joined_ends line start here (w ∷ ws) h =
    let begins : here + 1 ≤ w.start = h.0 in
    rw (ne_eqb w.start here (λ e. omega arith)) refl

one_byte : (line here x : ℕ) (bs : List ℕ) → is_word_byte x ≡ true
    → spans line here false (x ∷ bs) ≡ joined line here (here + 1) (spans line (here + 1) false bs)
one_byte line here x bs h = rw (h, word_no_feed x h, word_no_hash x h) refl

-- a word, and what is after it
word_spans : (line here x : ℕ) (xs tail : List ℕ) (after : List Span) → is_word_byte x ≡ true → are_word_bytes xs ≡ true
    → spans line (here + suc (length xs)) false tail ≡ after → RisesFrom (here + suc (length xs) + 1) after
    → spans line here false (x ∷ xs ++ tail) ≡ record { line = line; start = here; end = here + suc (length xs) } ∷ after
word_spans line here x [] tail after hx hxs e rises =
    one_byte line here x tail hx ∙ ap (joined line here (here + 1)) e ∙ joined_ends line here (here + 1) after rises
word_spans line here x (y ∷ ys) tail after hx hxs e rises =
    let n : here + 1 + suc (length ys) ≡ here + suc (suc (length ys)) = omega arith in
    let hy : is_word_byte y ≡ true = both_left _ _ hxs in
    let hys : are_word_bytes ys ≡ true = both_right _ _ hxs in
    let behind : spans line (here + 1) false (y ∷ ys ++ tail)
    ≡ record { line = line; start = here + 1; end = here + 1 + suc (length ys) } ∷ after =
    word_spans line (here + 1) y ys tail after hy hys (ap (λ k. spans line k false tail) n ∙ e)
    (subst (λ k. RisesFrom (k + 1) after) (sym n) rises) in
    one_byte line here x (y ∷ ys ++ tail) hx ∙ ap (joined line here (here + 1)) behind
    ∙ rw (eq-eqb (here + 1) (here + 1) refl) (ap (λ k. record { line = line; start = here; end = k } ∷ after) n)

-- the text of a word that stands there
word_there : (source : List ℕ) (line here : ℕ) (w tail : List ℕ) → drop here source ≡ w ++ tail
    → word_at source (record { line = line; start = here; end = here + length w })
    ≡ record { text = w; line = line; start = here; end = here + length w }
word_there source line here w tail e =
    let n : here + length w - here ≡ length w = omega arith in
    let text : slice_range source here (here + length w) ≡ w =
    ap (λ k. take k (drop here source)) n ∙ ap (take (length w)) e ∙ take-append_seam w tail in
    ap (λ (t : List ℕ). record { text = t; line = line; start = here; end = here + length w }) text

-- the bytes after others
behind_there : (source : List ℕ) (here : ℕ) (bs rest : List ℕ) → drop here source ≡ bs ++ rest → drop (here + length bs) source ≡ rest
behind_there source here bs rest e = sym (drop-drop (length bs) here source) ∙ ap (drop (length bs)) e ∙ drop-append_seam bs rest

-- ---- lines

-- the first line is another
abbrev Later : ℕ → List Row → Type 0
Later line [] = Unit {0}
Later line (row ∷ rows) = eqb line row.number ≡ false

-- the lines that have words of the bytes from a place on
abbrev rows_at : List ℕ → ℕ → ℕ → List ℕ → List Row
rows_at source line here bs = rows_of (map (word_at source) (spans line here false bs))

-- one word before bytes of which the first is none of a word
word_first : (source : List ℕ) (line here : ℕ) (w tail : List ℕ) (after : List Span) → is_text w ≡ true → drop here source ≡ w ++ tail
    → spans line (here + length w) false tail ≡ after → RisesFrom (here + length w + 1) after
    → rows_at source line here (w ++ tail)
    ≡ with_word (record { text = w; line = line; start = here; end = here + length w }) (rows_of (map (word_at source) after))
word_first source line here [] tail after h e next rises = absurd cc
word_first source line here (x ∷ xs) tail after h e next rises =
    ap (λ ss. rows_of (map (word_at source) ss)) (word_spans line here x xs tail after (both_left _ _ h) (both_right _ _ h) next rises)
    ∙ ap (λ (w : Word). with_word w (rows_of (map (word_at source) after))) (word_there source line here (x ∷ xs) tail e)

with_first : (w : Word) (rows : List Row) → Later w.line rows → with_word w rows ≡ record { number = w.line; words = w.text ∷ [] } ∷ rows
with_first w [] h = refl
with_first w (row ∷ rows) h = rw h refl

with_more : (w : Word) (ws : List (List ℕ)) (rows : List Row)
    → with_word w (record { number = w.line; words = ws } ∷ rows) ≡ record { number = w.line; words = w.text ∷ ws } ∷ rows
with_more w ws rows = rw (eq-eqb w.line w.line refl) refl

count_one : (b : ℕ) (bs : List ℕ) → count_by is_feed (b ∷ bs) ≡ cond (is_feed b) 1 0 + count_by is_feed bs
count_one b bs = sum_by-cons (λ x. cond (is_feed x) 1 0) b bs

pub printed_count : (bs rest : List ℕ) → are_printed bs ≡ true → count_by is_feed (bs ++ rest) ≡ count_by is_feed rest
printed_count [] rest h = refl
printed_count (b ∷ bs) rest h =
    let one : count_by is_feed (b ∷ bs ++ rest) ≡ 0 + count_by is_feed (bs ++ rest) =
    count_one b (bs ++ rest) ∙ ap (λ v. cond {A = ℕ} v 1 0 + count_by is_feed (bs ++ rest)) (printed_no_feed b (both_left _ _ h)) in
    omega (arith, one, printed_count bs rest (both_right _ _ h))

-- ---- what ends a line

-- bytes with no word, of which one is a line feed, the last
pub record IsEnd (end : List ℕ) : Type 0 where
  pub some : 1 ≤ length end
  pub no_word : (line here : ℕ) (rest : List ℕ) → spans line here false (end ++ rest) ≡ spans (line + 1) (here + length end) false rest
  pub no_fault : (line : ℕ) (rest : List ℕ) → line ≤ 20000 → first_fault line (end ++ rest) ≡ first_fault (line + 1) rest
  pub one_feed : (rest : List ℕ) → count_by is_feed (end ++ rest) ≡ 1 + count_by is_feed rest

-- a line feed alone does so
pub feed_ends : IsEnd (10 ∷ [])
feed_ends = record {
  some = omega arith;
  no_word = λ line here rest. refl;
  no_fault = λ line rest le. rw (le-ltb 20000 line le) refl;
  one_feed = λ rest. count_one 10 rest;
}

-- each line has words, and ends
abbrev pub AreEnded : List Ended → Type 0
AreEnded [] = Unit {0}
AreEnded (l ∷ lines) = (is_line l.words ≡ true) × IsEnd l.ending × AreEnded lines

module _ (source : List ℕ) (line : ℕ) (end rest : List ℕ) (rows : List Row) (is : IsEnd end) (later : Later line rows)
    (behind : (there : ℕ) → drop there source ≡ rest → rows_at source (line + 1) there rest ≡ rows) where
  last_word : (here : ℕ) (w : List ℕ) → is_text w ≡ true → drop here source ≡ w ++ (end ++ rest)
      → rows_at source line here (w ++ (end ++ rest)) ≡ record { number = line; words = w ∷ [] } ∷ rows
  last_word here w h e =
      let tail = end ++ rest in
      let there = here + length w + length end in
      let after = spans (line + 1) there false rest in
      let rises : RisesFrom (here + length w + 1) after =
      RisesFrom-weaker (here + length w + 1) there after (omega (arith, is.some)) (spans_rise (line + 1) there false rest) in
      word_first source line here w tail after h e (is.no_word line (here + length w) rest) rises
      ∙ ap (with_word (record { text = w; line = line; start = here; end = here + length w }))
      (behind there (behind_there source (here + length w) end rest (behind_there source here w tail e)))
      ∙ with_first (record { text = w; line = line; start = here; end = here + length w }) rows later

  one_line : (here : ℕ) (w : List ℕ) (ws : List (List ℕ)) → is_text w ≡ true → are_texts ws ≡ true
      → drop here source ≡ words_onto (w ∷ ws) (end ++ rest)
      → rows_at source line here (words_onto (w ∷ ws) (end ++ rest)) ≡ record { number = line; words = w ∷ ws } ∷ rows
  one_line here w [] h hs e = last_word here w h e
  one_line here w (v ∷ ws) h hs e =
      let tail = words_onto (v ∷ ws) (end ++ rest) in
      let next : drop (here + length w + 1) source ≡ tail =
      behind_there source (here + length w) (32 ∷ []) tail (behind_there source here w (32 ∷ tail) e) in
      word_first source line here w (32 ∷ tail) (spans line (here + length w + 1) false tail) h e refl
      (spans_rise line (here + length w + 1) false tail)
      ∙ ap (with_word (record { text = w; line = line; start = here; end = here + length w }))
      (one_line (here + length w + 1) v ws (both_left _ _ hs) (both_right _ _ hs) next)
      ∙ with_more (record { text = w; line = line; start = here; end = here + length w }) (v ∷ ws) rows

later_from : (line : ℕ) (lines : List (List (List ℕ))) → Later line (rows_from (line + 1) lines)
later_from line [] = tt
later_from line (ws ∷ lines) = ne_eqb line (line + 1) (λ e. omega arith)

first_row : (source : List ℕ) (line here : ℕ) (ws : List (List ℕ)) (end rest : List ℕ) (rows : List Row) → is_line ws ≡ true
    → IsEnd end → Later line rows → ((there : ℕ) → drop there source ≡ rest → rows_at source (line + 1) there rest ≡ rows)
    → drop here source ≡ words_onto ws (end ++ rest)
    → rows_at source line here (words_onto ws (end ++ rest)) ≡ record { number = line; words = ws } ∷ rows
first_row source line here [] end rest rows h is later behind e = absurd cc
first_row source line here (w ∷ ws) end rest rows h is later behind e =
    one_line source line end rest rows is later behind here w ws (both_left _ _ h) (both_right _ _ h) e

-- the rows of the bytes are the words of the lines
ended_rows : (source : List ℕ) (line here : ℕ) (lines : List Ended) → AreEnded lines
    → drop here source ≡ ended_onto lines → rows_at source line here (ended_onto lines) ≡ rows_from line (words_in lines)
ended_rows source line here [] are e = refl
ended_rows source line here (l ∷ lines) are e =
    first_row source line here l.words l.ending (ended_onto lines) (rows_from (line + 1) (words_in lines)) are.0 are.1
    (later_from line (words_in lines)) (λ there is. ended_rows source (line + 1) there lines are.2 is) e

-- ---- no fault, and the number of lines

pub printed_fault : (line : ℕ) (bs rest : List ℕ) → line ≤ 20000 → are_printed bs ≡ true
    → first_fault line (bs ++ rest) ≡ first_fault line rest
printed_fault line [] rest le h = refl
printed_fault line (b ∷ bs) rest le h =
    let hb : is_printed b ≡ true = both_left _ _ h in
    rw (
      le-ltb 20000 line le,
      printed_allowed b (slice_get (bs ++ rest) 0) hb,
      printed_no_feed b hb,
    ) (printed_fault line bs rest le (both_right _ _ h))

words_fault : (line : ℕ) (ws : List (List ℕ)) (tail : List ℕ) → line ≤ 20000 → are_texts ws ≡ true
    → first_fault line (words_onto ws tail) ≡ first_fault line tail
words_fault line [] tail le h = refl
words_fault line (w ∷ []) tail le h = printed_fault line w tail le (text_printed w (both_left _ _ h))
words_fault line (w ∷ v ∷ ws) tail le h =
    printed_fault line w (32 ∷ words_onto (v ∷ ws) tail) le (text_printed w (both_left _ _ h))
    ∙ printed_fault line (32 ∷ []) (words_onto (v ∷ ws) tail) le refl
    ∙ words_fault line (v ∷ ws) tail le (both_right _ _ h)

pub line_texts : (ws : List (List ℕ)) → is_line ws ≡ true → are_texts ws ≡ true
line_texts [] h = refl
line_texts (w ∷ ws) h = h

ended_fault : (line : ℕ) (lines : List Ended) → AreEnded lines → line + length lines ≤ 20001
    → first_fault line (ended_onto lines) ≡ None
ended_fault line [] are le = refl
ended_fault line (l ∷ lines) are le =
    words_fault line l.words (l.ending ++ ended_onto lines) (omega arith) (line_texts l.words are.0)
    ∙ are.1.no_fault line (ended_onto lines) (omega arith) ∙ ended_fault (line + 1) lines are.2 (omega arith)

words_count : (ws : List (List ℕ)) (tail : List ℕ) → are_texts ws ≡ true → count_by is_feed (words_onto ws tail) ≡ count_by is_feed tail
words_count [] tail h = refl
words_count (w ∷ []) tail h = printed_count w tail (text_printed w (both_left _ _ h))
words_count (w ∷ v ∷ ws) tail h =
    printed_count w (32 ∷ words_onto (v ∷ ws) tail) (text_printed w (both_left _ _ h))
    ∙ printed_count (32 ∷ []) (words_onto (v ∷ ws) tail) refl
    ∙ words_count (v ∷ ws) tail (both_right _ _ h)

ended_count : (lines : List Ended) → AreEnded lines → count_by is_feed (ended_onto lines) ≡ length lines
ended_count [] are = refl
ended_count (l ∷ lines) are =
    omega (
      arith,
      words_count l.words (l.ending ++ ended_onto lines) (line_texts l.words are.0),
      are.1.one_feed (ended_onto lines),
      ended_count lines are.2,
    )

-- ---- the whole

-- what is read of the text of lines: their words, line by line, and a whole end
pub record IsScanned (source : List ℕ) (lines : List (List (List ℕ))) : Type 0 where
  pub rows : rows_of (words_of source) ≡ rows_from 1 lines
  pub ending : ending_of source ≡ Whole (line_count source)

pub ended_few : (lines : List Ended) → AreEnded lines → line_count (ended_onto lines) ≤ 20000 → length lines ≤ 20000
ended_few lines are few = omega (arith, few, ended_count lines are)

pub ended_scanned : (lines : List Ended) → AreEnded lines → length lines ≤ 20000 → IsScanned (ended_onto lines) (words_in lines)
ended_scanned lines are few =
    let source = ended_onto lines in
    let fault : first_fault 1 source ≡ None = ended_fault 1 lines are (omega arith) in
    let whole : ending_of source ≡ Whole (line_count source) = ap (λ o. ending_from o (line_count source)) fault in
    record {
      rows = ap (λ e. rows_of (map (word_at source) (before_fault e (spans 1 0 false source)))) whole
          ∙ ended_rows source 1 0 lines are refl;
      ending = whole;
    }

-- ---- lines that line feeds alone end

abbrev pub plain : List (List (List ℕ)) → List Ended
plain lines = map (λ ws. record { words = ws; ending = 10 ∷ [] }) lines

pub plain_onto : (lines : List (List (List ℕ))) → lines_onto lines [] ≡ ended_onto (plain lines)
plain_onto [] = refl
plain_onto (ws ∷ lines) = ap (line_onto ws) (plain_onto lines)

pub plain_words : (lines : List (List (List ℕ))) → words_in (plain lines) ≡ lines
plain_words [] = refl
plain_words (ws ∷ lines) = ap (λ (ls : List (List (List ℕ))). ws ∷ ls) (plain_words lines)

pub plain_ended : (lines : List (List (List ℕ))) → are_lines lines ≡ true → AreEnded (plain lines)
plain_ended [] h = tt
plain_ended (ws ∷ lines) h = (both_left _ _ h, feed_ends, plain_ended lines (both_right _ _ h))

-- each line ends with a line feed
pub lines_count : (lines : List (List (List ℕ))) → are_lines lines ≡ true → count_by is_feed (lines_onto lines []) ≡ length lines
lines_count lines h =
    ap (count_by is_feed) (plain_onto lines) ∙ ended_count (plain lines) (plain_ended lines h) ∙ length-map lines _

pub lines_scanned : (lines : List (List (List ℕ))) → are_lines lines ≡ true → length lines ≤ 20000 → IsScanned (lines_onto lines []) lines
lines_scanned lines h few =
    let count : length (plain lines) ≡ length lines = length-map lines _ in
    rw (plain_onto lines) (subst (IsScanned (ended_onto (plain lines))) (plain_words lines)
    (ended_scanned (plain lines) (plain_ended lines h) (omega arith)))
