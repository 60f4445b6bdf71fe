-- The items of an order as words: ten a line, and each is read as it was printed.
use Rattle.std.proofs.Common.{◌≡◌, ℕ, zero, suc, ◌+◌, ◌%◌, ◌<◌, ◌≤◌, Bool, true, false, cond, List, [], ◌∷◌, ◌++◌, All, Some, Ok, refl, sym}
use Rattle.std.proofs.Common.{ap, ◌∙◌, arith, append_assoc, inl, inr, codes, decimal, ◌==◌, lt-ltb, append-nil}
use Rattle.std.proofs.{lemmas.Bool.cases_Bool, lemmas.List.Elements.All-head, lemmas.List.Elements.All-tail, lemmas.Fmt.decimal_digit}
use Rattle.spk_nums.specs.{declared.steps.How.How, declared.steps.How.TheVariants.One, declared.steps.Item.Item}
use Rattle.script_reader.specs.line_reader.specs.Numerals.{value_of}
use Rattle.script_reader.specs.Orders.{parts_of, item_of}
use Rattle.script_printer.specs.Printing.{how_text, item_text, before_item, items_text, order_lines}
use Rattle.script_printer.proofs.Spans.{is_text, are_lines, lines_onto}

-- a word in front of the first line
abbrev pub in_front : List ℕ → List (List (List ℕ)) → List (List (List ℕ))
in_front w [] = (w ∷ []) ∷ []
in_front w (ws ∷ lines) = (w ∷ ws) ∷ lines

-- the lines of items, the first of which stands at that place of the order
abbrev pub item_rows : ℕ → Item → List Item → List (List (List ℕ))
item_rows at i [] = (item_text i ∷ []) ∷ []
item_rows at i (j ∷ js) =
    cond ((at + 1) % 10 == 0) ((item_text i ∷ []) ∷ item_rows (at + 1) j js) (in_front (item_text i) (item_rows (at + 1) j js))

-- the lines of an order
abbrev pub order_rows : List Item → List (List (List ℕ))
order_rows [] = []
order_rows (i ∷ is) = (codes "order" ∷ []) ∷ item_rows 0 i is

-- ---- the lines are the printed ones

-- the first line has a word
abbrev starts : List (List (List ℕ)) → Bool
starts [] = false
starts ([] ∷ lines) = false
starts ((w ∷ ws) ∷ lines) = true

front_starts : (w : List ℕ) (lines : List (List (List ℕ))) → starts (in_front w lines) ≡ true
front_starts w [] = refl
front_starts w (ws ∷ lines) = refl

rows_start : (at : ℕ) (i : Item) (is : List Item) → starts (item_rows at i is) ≡ true
rows_start at i [] = refl
rows_start at i (j ∷ js) =
    elim (cases_Bool ((at + 1) % 10 == 0)) [
      | inl e ↦ rw e refl
      | inr e ↦ rw e (front_starts (item_text i) (item_rows (at + 1) j js))
    ]

front_onto : (w : List ℕ) (lines : List (List (List ℕ))) → starts lines ≡ true
    → lines_onto (in_front w lines) [] ≡ w ++ 32 ∷ lines_onto lines []
front_onto w [] h = absurd cc
front_onto w ([] ∷ lines) h = absurd cc
front_onto w ((v ∷ vs) ∷ lines) h = refl

pub items_onto : (at : ℕ) (i : Item) (is : List Item)
    → items_text at (i ∷ is) ++ 10 ∷ [] ≡ before_item at ++ lines_onto (item_rows at i is) []
items_onto at i [] = ap (λ t. t ++ 10 ∷ []) (append-nil (before_item at ++ item_text i))
    ∙ append_assoc (before_item at) (item_text i) (10 ∷ [])
items_onto at i (j ∷ js) =
    let here = before_item at in
    let more : items_text (at + 1) (j ∷ js) ++ 10 ∷ [] ≡ before_item (at + 1) ++ lines_onto (item_rows (at + 1) j js) [] =
    items_onto (at + 1) j js in
    append_assoc (here ++ item_text i) (items_text (at + 1) (j ∷ js)) (10 ∷ [])
    ∙ ap (λ t. (here ++ item_text i) ++ t) more
    ∙ append_assoc here (item_text i) (before_item (at + 1) ++ lines_onto (item_rows (at + 1) j js) [])
    ∙ ap (λ t. here ++ t) (split at i (item_rows (at + 1) j js) (rows_start (at + 1) j js))
  where
    split : (at : ℕ) (i : Item) (rows : List (List (List ℕ))) → starts rows ≡ true → item_text i
        ++ (before_item (at + 1) ++ lines_onto rows [])
        ≡ lines_onto (cond ((at + 1) % 10 == 0) ((item_text i ∷ []) ∷ rows) (in_front (item_text i) rows)) []
    split at i rows h =
        elim (cases_Bool ((at + 1) % 10 == 0)) [
          | inl e ↦ rw e refl
          | inr e ↦ rw e (sym (front_onto (item_text i) rows h))
        ]

pub order_onto : (items : List Item) → order_lines items ≡ lines_onto (order_rows items) []
order_onto [] = refl
order_onto (i ∷ is) = append_assoc (codes "order") (items_text 0 (i ∷ is)) (10 ∷ []) ∙ ap (λ t. codes "order" ++ t) (items_onto 0 i is)

-- ---- items are words

-- an item of one digit
abbrev digit_item : ℕ → How → List ℕ
digit_item core how = (48 + core) ∷ how_text how

item_digit : (core : ℕ) (how : How) → core < 8 → decimal core ++ how_text how ≡ digit_item core how
item_digit core how h = ap (λ ds. ds ++ how_text how) (decimal_digit core (omega arith))

-- it is a word, and has these parts
record IsItem (core : ℕ) (how : How) : Type 0 where
  text : is_text (digit_item core how) ≡ true
  parts : parts_of (digit_item core how) ≡ Some (record { digits = (48 + core) ∷ []; how = how })

is_item : (how : How) (core : ℕ) → core < 8 → IsItem core how
unfolding parts_of
is_item One zero h = record { text = refl; parts = refl }
is_item _ (suc (suc (suc (suc (suc (suc (suc (suc n)))))))) h = absurd (omega arith)
is_item _ _ h = record { text = refl; parts = refl }

pub item_is_text : (i : Item) → i.core < 8 → is_text (item_text i) ≡ true
item_is_text i h = ap is_text (item_digit i.core i.how h) ∙ (is_item i.how i.core h).text

digit_read : (version cores core : ℕ) (how : How) → core < cores → core < 8
    → item_of version cores (digit_item core how) ≡ Ok (record { core = core; how = how })
unfolding item_of
digit_read version cores core how below h =
    let value : value_of ((48 + core) ∷ []) ≡ core = omega arith in
    rw ((is_item how core h).parts, value, lt-ltb core cores below) refl

-- an item is read as it was printed
pub item_read : (version cores : ℕ) (i : Item) → i.core < cores → cores ≤ 8 → item_of version cores (item_text i) ≡ Ok i
item_read version cores i below fits = ap (item_of version cores) (item_digit i.core i.how (omega arith))
    ∙ digit_read version cores i.core i.how below (omega arith)

front_lines : (w : List ℕ) (lines : List (List (List ℕ))) → is_text w ≡ true → are_lines lines ≡ true → are_lines (in_front w lines) ≡ true
front_lines w [] h hs = rw h refl
front_lines w ([] ∷ lines) h hs = absurd cc
front_lines w ((v ∷ vs) ∷ lines) h hs = rw h hs

first_line : (w : List ℕ) (lines : List (List (List ℕ))) → is_text w ≡ true → are_lines lines ≡ true → are_lines ((w ∷ []) ∷ lines) ≡ true
first_line w lines h hs = rw h hs

pub rows_lines : (at : ℕ) (i : Item) (is : List Item) → i.core < 8
    → All (λ (j : Item). j.core < 8) is → are_lines (item_rows at i is) ≡ true
rows_lines at i [] h hs = rw (item_is_text i h) refl
rows_lines at i (j ∷ js) h hs =
    let more : are_lines (item_rows (at + 1) j js) ≡ true =
    rows_lines (at + 1) j js (All-head (λ (j : Item). j.core < 8) j js hs) (All-tail (λ (j : Item). j.core < 8) j js hs) in
    elim (cases_Bool ((at + 1) % 10 == 0)) [
      | inl e ↦ rw e (first_line (item_text i) (item_rows (at + 1) j js) (item_is_text i h) more)
      | inr e ↦ rw e (front_lines (item_text i) (item_rows (at + 1) j js) (item_is_text i h) more)
    ]
