-- The items of an order of steps.
use Rattle.std.specs.Prelude.{ℕ, List, [], ◌∷◌, ◌++◌, Option, Some, None, Result, Ok, Err, length, take, slice_get, ◌-◌, ◌==◌, nat_lt}
use Rattle.std.specs.Prelude.{is_some, if◌then◌else◌, option_and_then}
use Rattle.line_reader.specs.{◌>>=◌, is_digits, value_of}
use Rattle.spk_nums.specs.{declared.steps.How.How, declared.steps.How.TheVariants.One, declared.steps.How.TheVariants.Ready}
use Rattle.spk_nums.specs.{declared.steps.How.TheVariants.Decide, declared.steps.How.TheVariants.Return, declared.steps.Item.Item}
use Rattle.line_reader.specs.declared.cause.Cause.TheVariants.{S2, S6, S7, S9}
use Rattle.{line_reader.specs.declared.cause.Cause.Cause, call_reader.specs.FirstWords.first_word}

-- the suffixes `<`, `!` and `.`
abbrev pub how_of : ℕ → Option How
how_of b = if b == 60 then Some Ready else (if b == 33 then Some Decide else (if b == 46 then Some Return else None))

-- digits and a way of going on
pub record Parts : Type 0 where
  pub digits : List ℕ
  pub how : How

abbrev pub with_digits : List ℕ → How → Option Parts
with_digits digits how = if is_digits digits then Some (record { digits = digits; how = how }) else None

-- what was lent, as parts
abbrev pub lent_parts : {B : Type 0} → (B → Parts) → Option B → Option Parts
lent_parts parts None = None
lent_parts parts (Some p) = Some (parts p)

-- digits with a suffix directly after
abbrev pub suffixed : List ℕ → Option Parts
suffixed word = option_and_then (λ last. option_and_then (with_digits (take (length word - 1) word)) (how_of last))
    (slice_get word (length word - 1))

-- the digits of an item, and its suffix if it has one
unfoldable pub parts_of : List ℕ → Option Parts
parts_of word = if is_digits word then Some (record { digits = word; how = One }) else suffixed word

-- a core below their number; else S6
abbrev pub core_below : ℕ → ℕ → Result ℕ Cause
core_below n cores = if nat_lt n cores then Ok n else Err S6

abbrev pub item_at : ℕ → Parts → Result Item Cause
item_at cores p = core_below (value_of p.digits) cores >>= λ core. Ok (record { core = core; how = p.how })

-- a word that is no item: S7 if it is a known first word in a script of this version, else S2
abbrev pub no_item : ℕ → List ℕ → Cause
no_item version word = if is_some (first_word version word) then S7 else S2

abbrev pub judged : ℕ → ℕ → List ℕ → Option Parts → Result Item Cause
judged version cores word None = Err (no_item version word)
judged version cores word (Some p) = item_at cores p

-- the item that a word is: S2 or S7, then S6
unfoldable pub item_of : ℕ → ℕ → List ℕ → Result Item Cause
item_of version cores word = judged version cores word (parts_of word)

-- the order with one more item, which may be the 200,000th; else S9
abbrev pub with_item : List Item → Item → Result (List Item) Cause
with_item order item = if nat_lt (length order) 200000 then Ok (order ++ item ∷ []) else Err S9

-- the order after the items of a line, judged from left to right
abbrev pub items_of : ℕ → ℕ → List Item → List (List ℕ) → Result (List Item) Cause
items_of version cores order [] = Ok order
items_of version cores order (word ∷ words) =
    item_of version cores word >>= λ item. with_item order item >>= λ more. items_of version cores more words
