-- What may stand at each place of a line.
use Rattle.std.specs.Prelude.{ℕ, ◌+◌, ◌*◌, ◌-◌, ◌==◌, ◌&&◌, not, nat_le, nat_lt, List, [], ◌∷◌, length, drop, Bool, true, false, Option}
use Rattle.std.specs.Prelude.{Some, None, codes, if◌then◌else◌}
use Rattle.line_reader.specs.Arguments.{is_word}
use Rattle.call_reader.specs.{declared.first_words.FirstWord.FirstWord, Versions.most_calls}
use Rattle.line_forms.specs.{declared.context.Reading.Reading, declared.context.Stage.Stage, declared.context.Context.Context}
use Rattle.line_forms.specs.{declared.starts.Start.Start, declared.slots.Slot.Slot, declared.slots.Slot.TheVariants.First}
use Rattle.line_forms.specs.{declared.slots.Slot.TheVariants.Number, declared.slots.Slot.TheVariants.MayNumber}
use Rattle.line_forms.specs.{declared.slots.Slot.TheVariants.Core, declared.slots.Slot.TheVariants.Item}
use Rattle.line_forms.specs.{declared.slots.Slot.TheVariants.Equals, declared.slots.Slot.TheVariants.End, Slots.name, Slots.names}
use Rattle.line_forms.specs.{Slots.number_then, Slots.core_then, Slots.fits_end, Starts.start_of, Calls.call_slot, Replies.reply_slot}

-- `sched S U`
abbrev pub sched_slot : ℕ → Slot
sched_slot place = if place == 1 then Number 0 63 else number_then place 2 1 1000000

-- what may stand behind the work of a task: from version 3 on its period
abbrev pub period_slot : ℕ → ℕ → Slot
period_slot version place = if nat_le 3 version && place == 5 then MayNumber 1 1000000 else End

-- `task H Q A N`, and from version 3 on also `task H Q A N P`
abbrev pub task_slot : ℕ → ℕ → Slot
task_slot version place =
    if nat_le place 2 then name
    else (if place == 3 then Number 0 1000000
    else (if place == 4 then Number 1 10000
    else period_slot version place))

-- `grant B S W`
abbrev pub grant_slot : ℕ → Slot
grant_slot place =
    if place == 1 then Number 0 500000000
    else (if place == 2 then Number 0 63
    else number_then place 3 1 16777215)

-- the most cores of a script; that one with tasks has one core is judged last, after a word too many
abbrev pub cores_most : Reading → List (List ℕ) → ℕ
cores_most Reading.Sched words = if nat_le (length words) 2 then 1 else 8
cores_most _ words = 8

-- the least frames of a script
abbrev pub least_frames : ℕ → ℕ
least_frames cores = 4 + 2 * cores

-- a line of a script, from place 1 on
abbrev pub head_slot : Context → FirstWord → List (List ℕ) → ℕ → Slot
head_slot context FirstWord.Speck words place = number_then place 1 1 3
head_slot context FirstWord.Cores words place = number_then place 1 1 (cores_most context.reading words)
head_slot context FirstWord.Frames words place = number_then place 1 (least_frames context.cores) 512
head_slot context FirstWord.Grant words place = grant_slot place
head_slot context FirstWord.Calls words place = number_then place 1 0 (most_calls context.version)
head_slot context FirstWord.Epochs words place = number_then place 1 1 65535
head_slot context FirstWord.Core words place = core_then place 1 context.cores
head_slot context FirstWord.Order words place = End
head_slot context (FirstWord.Call v) words place = call_slot context.version words place

-- how many words stand before the first `=`
abbrev pub before_equals : List (List ℕ) → ℕ
before_equals [] = 0
before_equals (w ∷ ws) = if is_word w (codes "=") then 0 else before_equals ws + 1

-- where the call of a line ends: `=`, unless the call wants a word more
abbrev pub close_slot : Slot → Slot
close_slot slot = if fits_end slot then Equals else slot

-- `C.I CALL = REPLY`, where `equals` words stand before the `=`; from place 1 on
abbrev pub whole_slot : Context → List (List ℕ) → ℕ → ℕ → Slot
whole_slot context words equals place =
    if nat_lt place equals then call_slot context.version (drop 1 words) (place - 1)
    else (if place == equals then close_slot (call_slot context.version (drop 1 words) (place - 1))
    else reply_slot (drop 1 (drop equals words)) context.cores (place - equals - 1))

-- `enter C CALL`
abbrev pub enter_slot : Context → List (List ℕ) → ℕ → Slot
enter_slot context words place =
    if place == 1 then Core context.cores else call_slot context.version (drop 2 words) (place - 2)

-- `decide C REPLY`
abbrev pub decide_slot : Context → List (List ℕ) → ℕ → Slot
decide_slot context words place =
    if place == 1 then Core context.cores else reply_slot (drop 2 words) context.cores (place - 2)

-- a line that begins so, from place 1 on
abbrev pub slot_after : Context → Start → List (List ℕ) → ℕ → Slot
slot_after context (Start.Head f) words place = head_slot context f words place
slot_after context Start.Ends words place = End
slot_after context Start.Send words place = names place 1
slot_after context Start.Recv words place = names place 1
slot_after context Start.Sched words place = sched_slot place
slot_after context Start.Task words place = task_slot context.version place
slot_after context Start.Enter words place = enter_slot context words place
slot_after context Start.Decide words place = decide_slot context words place
slot_after context Start.Return words place = core_then place 1 context.cores
slot_after context Start.Whole words place = whole_slot context words (before_equals words) place

-- a line that ends the order items begins so
abbrev pub ends_order : Option Start → Bool
ends_order (Some Start.Ends) = true
ends_order (Some Start.Sched) = true
ends_order _ = false

-- the line is one of order items
abbrev pub is_items : Stage → Option Start → Bool
is_items Stage.Order s = not (ends_order s)
is_items _ s = false

abbrev pub slot_by : Context → Option Start → List (List ℕ) → ℕ → Slot
slot_by context None words place = End
slot_by context (Some s) words place = slot_after context s words place

abbrev pub slot_in : Context → Option Start → List (List ℕ) → ℕ → Slot
slot_in context s words place =
    if is_items context.stage s then Item context.cores
    else (if place == 0 then First
    else slot_by context s words place)

-- what may stand at a place of a line
abbrev pub slot_at : Context → List (List ℕ) → ℕ → Slot
slot_at context words place = slot_in context (start_of context.version context.reading context.stage words) words place
