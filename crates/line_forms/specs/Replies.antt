-- What may stand at each place of a reply. Places are counted from its name on, and the words are those of the line from there on.
use Rattle.std.specs.Prelude.{ℕ, ◌==◌, ◌||◌, not, nat_le, List, length, Bool, Option, Some, None, slice_get, codes, if◌then◌else◌}
use Rattle.line_reader.specs.{Numerals.is_digits, Arguments.is_word}
use Rattle.line_forms.specs.{declared.slots.Slot.Slot, declared.slots.Slot.TheVariants.Number, declared.slots.Slot.TheVariants.ReplyName}
use Rattle.line_forms.specs.{declared.slots.Slot.TheVariants.Value, declared.slots.Slot.TheVariants.Rights}
use Rattle.line_forms.specs.{declared.slots.Slot.TheVariants.End, Slots.core_then, Slots.number_then, Calls.is_at}

-- a reply that names a core
unfoldable pub is_held : List ℕ → Bool
is_held word = is_word word (codes "quiescing") || (is_word word (codes "unflushed")
    || (is_word word (codes "running") || is_word word (codes "busy")))

-- a reply that has a number
unfoldable pub is_counted : List ℕ → Bool
is_counted word = is_word word (codes "referenced") || is_word word (codes "short")

unfoldable pub is_early_name : List ℕ → Bool
is_early_name word = is_word word (codes "no-slot") || (is_word word (codes "empty") || (is_word word (codes "wrong-cap")
    || (is_word word (codes "occupied") || (is_word word (codes "frame-kind") || is_word word (codes "out-of-range")))))

unfoldable pub is_late_name : List ℕ → Bool
is_late_name word = is_word word (codes "not-empty") || (is_word word (codes "dead") || (is_word word (codes "deep")
    || (is_word word (codes "bottom") || (is_word word (codes "unlike") || is_word word (codes "too-many")))))

unfoldable pub is_last_name : List ℕ → Bool
is_last_name word = is_word word (codes "same") || (is_word word (codes "raced") || is_word word (codes "fault"))

unfoldable pub is_spent_name : List ℕ → Bool
is_spent_name word = is_word word (codes "epochs-spent") || (is_word word (codes "calls-spent") || is_word word (codes "no-right"))

-- a reply that is its name alone
abbrev pub is_plain_name : List ℕ → Bool
is_plain_name word = is_early_name word || (is_late_name word || (is_last_name word || is_spent_name word))

-- the name of a reply
unfoldable pub is_reply_name : List ℕ → Bool
is_reply_name word = is_word word (codes "ok") || (is_held word || (is_counted word || is_plain_name word))

-- a kind of capability that has a number
unfoldable pub is_numbered_kind : List ℕ → Bool
is_numbered_kind word = is_word word (codes "range") || (is_word word (codes "gate") || is_word word (codes "page"))

-- a kind of capability that has none
unfoldable pub is_object_kind : List ℕ → Bool
is_object_kind word = is_word word (codes "table") || (is_word word (codes "leaf") || (is_word word (codes "pages")
    || (is_word word (codes "pleaf") || (is_word word (codes "comp") || (is_word word (codes "thread")
    || (is_word word (codes "tcap") || is_word word (codes "link")))))))

abbrev pub is_kind : List ℕ → Bool
is_kind word = is_numbered_kind word || is_object_kind word

-- a word after `ok` that is none of digits: a kind of capability, `preempts` or `stays`
abbrev pub is_value : List ℕ → Bool
is_value word = is_kind word || (is_word word (codes "preempts") || is_word word (codes "stays"))

-- the number of a capability of such a kind
unfoldable pub arg_slot : List ℕ → Slot
arg_slot kind =
    if is_word kind (codes "range") then Number 0 16777215
    else (if is_word kind (codes "gate") then Number 1 65535
    else Number 0 3)

-- from the place on at which `rights` may stand; the number after it is not that of both
abbrev pub rights_slot : List (List ℕ) → ℕ → ℕ → ℕ → Slot
rights_slot words at after place =
    if place == at then Rights
    else (if is_at words at (codes "rights") then number_then place after 0 2
    else End)

-- after `ok` and a number: an amount, or a page's frame and its flags
abbrev pub numbers_slot : List (List ℕ) → ℕ → Slot
numbers_slot words place =
    if nat_le (length words) 2 then number_then place 1 0 4294967295
    else (if place == 1 then Number 0 511
    else number_then place 2 0 3)

-- after `ok` and a kind
abbrev pub cap_slot : List (List ℕ) → List ℕ → ℕ → Slot
cap_slot words kind place =
    if place == 2 then Number 0 511
    else (if not (is_numbered_kind kind) then rights_slot words 3 4 place
    else (if place == 3 then arg_slot kind
    else rights_slot words 4 5 place))

-- after `ok` and a word, by that word
abbrev pub named_slot : List (List ℕ) → List ℕ → ℕ → Slot
named_slot words word place =
    if is_digits word then numbers_slot words place
    else (if place == 1 then Value
    else (if is_kind word then cap_slot words word place
    else End))

abbrev pub value_by : List (List ℕ) → Option (List ℕ) → ℕ → Slot
value_by words None place = Value
value_by words (Some word) place = named_slot words word place

-- after `ok`
abbrev pub value_slot : List (List ℕ) → ℕ → Slot
value_slot words place = value_by words (slice_get words 1) place

-- after the name of a reply
abbrev pub after_name : List (List ℕ) → List ℕ → ℕ → ℕ → Slot
after_name words name cores place =
    if is_word name (codes "ok") then value_slot words place
    else (if is_held name then core_then place 1 cores
    else (if is_counted name then number_then place 1 0 4294967295
    else End))

abbrev pub reply_by : List (List ℕ) → Option (List ℕ) → ℕ → ℕ → Slot
reply_by words None cores place = End
reply_by words (Some name) cores place = after_name words name cores place

-- what may stand at a place of a reply
abbrev pub reply_slot : List (List ℕ) → ℕ → ℕ → Slot
reply_slot words cores place = if place == 0 then ReplyName else reply_by words (slice_get words 0) cores place
