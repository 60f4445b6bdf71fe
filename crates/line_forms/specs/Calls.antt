-- What may stand at each place of a call. Places are counted from its word on, and the words are those of the line from there on.
use Rattle.std.specs.Prelude.{ℕ, ◌+◌, ◌-◌, ◌==◌, nat_le, List, [], ◌∷◌, Bool, false, Option, Some, None, slice_get}
use Rattle.std.specs.Prelude.{option_and_then, unwrap_or, if◌then◌else◌}
use Rattle.call_reader.specs.{declared.first_words.FirstWord.FirstWord, declared.first_words.FirstWord.TheVariants.Call}
use Rattle.call_reader.specs.FirstWords.{first_word}
use Rattle.call_reader.specs.CallLines.{Form, form_of, frame_kind_of, object_of}
use Rattle.call_reader.specs.spk_nums.specs.{Rights.both, declared.kinds.FrameKind.FrameKind}
use Rattle.call_reader.specs.spk_nums.specs.{declared.verbs.Verb.Verb, declared.verbs.Object.Object}
use Rattle.{line_reader.specs.Arguments.is_word, line_reader.specs.Numerals.number_of, line_forms.specs.declared.slots.Slot.Slot}

abbrev pub is_name : List ℕ → Option (List ℕ) → Bool
is_name text None = false
is_name text (Some word) = is_word word text

-- the word at a place is this one
abbrev pub is_at : List (List ℕ) → ℕ → List ℕ → Bool
is_at words place text = is_name text (slice_get words place)

abbrev pub verb_in : Option FirstWord → Option Verb
verb_in (Some (Call v)) = Some v
verb_in _ = None

-- the word of a call that a word is in a script of this version
abbrev pub verb_of : ℕ → List ℕ → Option Verb
verb_of version word = verb_in (first_word version word)

-- the number, the kind of frame and the object that the word at a place is; the first of them where it is none
abbrev pub number_in : List (List ℕ) → ℕ → ℕ
number_in words place = unwrap_or (option_and_then number_of (slice_get words place)) 0

abbrev pub kind_in : List (List ℕ) → ℕ → FrameKind
kind_in words place = unwrap_or (option_and_then frame_kind_of (slice_get words place)) FrameKind.Untyped

abbrev pub object_in : List (List ℕ) → ℕ → Object
object_in words place = unwrap_or (option_and_then object_of (slice_get words place)) Object.Table

-- what may stand at the places from one on, which are to be of this form, as far as it goes; it goes on by the words that stand there. A
-- number may be left out from version 2 on, and before it there is none
abbrev pub slots_of : ℕ → List (List ℕ) → ℕ → Form → List Slot
slots_of version words place (Form.Says c) = []
slots_of version words place (Form.Number letter least most next) =
    Slot.Number least most ∷ slots_of version words (place + 1) (next (number_in words place))
slots_of version words place (Form.MayNumber letter next) =
    if nat_le 2 version then Slot.MayNumber 0 3 ∷ slots_of version words (place + 1) (next (number_in words place))
    else slots_of version words place (next both)
slots_of version words place (Form.Kind letter next) = Slot.FrameKind ∷ slots_of version words (place + 1) (next (kind_in words place))
slots_of version words place (Form.Made letter next) = Slot.Object ∷ slots_of version words (place + 1) (next (object_in words place))

-- the one of them at an index, and nothing more after them
abbrev pub slot_in : List Slot → ℕ → Slot
slot_in slots index = unwrap_or (slice_get slots index) Slot.End

-- the arguments of a call, from place 1 on
abbrev pub verb_slot : ℕ → Verb → List (List ℕ) → ℕ → Slot
verb_slot version v words place = slot_in (slots_of version words 1 (form_of v)) (place - 1)

abbrev pub slot_by : ℕ → Option Verb → List (List ℕ) → ℕ → Slot
slot_by version None words place = Slot.End
slot_by version (Some v) words place = verb_slot version v words place

abbrev pub slot_of_word : ℕ → Option (List ℕ) → List (List ℕ) → ℕ → Slot
slot_of_word version None words place = Slot.End
slot_of_word version (Some word) words place = slot_by version (verb_of version word) words place

-- what may stand at a place of a call
abbrev pub call_slot : ℕ → List (List ℕ) → ℕ → Slot
call_slot version words place =
    if place == 0 then Slot.Verb else slot_of_word version (slice_get words 0) words place
