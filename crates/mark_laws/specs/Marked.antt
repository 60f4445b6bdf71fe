-- That a call is refused at the word under the mark.
use Rattle.fault_texts.specs as low
use Rattle.std.specs.Prelude.{◌≡◌, ℕ, List, ◌∷◌, length, true, Option, Some, None, Result, Ok, Err, slice_get}
use low.line_reader.specs.declared.cause.Cause.TheVariants.{S1, S2, S3, S4, S5}
use low.call_reader.specs.{FirstWords.first_word, declared.first_words.FirstWord.FirstWord}
use low.line_forms.specs.{declared.context.Context.Context, declared.slots.Slot.Slot, Contexts.at_stage, Starts.start_of, Lines.slot_at}
use low.line_forms.specs.{Fitting.fits, declared.context.Stage.Stage, declared.starts.Start.Start}
use low.{line_reader.specs.declared.cause.Cause.Cause, line_reader.specs.Numerals.number_of, Places.first_misfit}
use low.spk_nums.specs.declared.verbs.Verb.{Verb}

-- for which cause a word is no number of a range: it is no number, or out of range
abbrev pub number_cause : Option ℕ → Cause
number_cause None = S1
number_cause (Some n) = S5

-- for which cause a word does not fit that place of a call
abbrev pub word_cause : Slot → List ℕ → Cause
word_cause (Slot.Number least most) word = number_cause (number_of word)
word_cause (Slot.MayNumber least most) word = number_cause (number_of word)
word_cause Slot.End word = S4
word_cause _ word = S2

-- and for which cause the line may not end there
abbrev pub cause_by : Slot → Option (List ℕ) → Cause
cause_by s None = S3
cause_by s (Some word) = word_cause s word

-- for which cause what stands at a place of a line does not fit there
abbrev pub cause_at : Context → List (List ℕ) → ℕ → Cause
cause_at context words place = cause_by (slot_at context words place) (slice_get words place)

-- A line is refused at its first word that does not fit, or at its end, for the cause for which that does not fit there; or it is taken,
-- and each word fits, and so does the end.
abbrev pub GoesByMark : {B : Type 0} → Context → List (List ℕ) → Result B Cause → Type 0
GoesByMark context words (Ok x) = (first_misfit context words ≡ length words) × (fits context words (length words) ≡ true)
GoesByMark context words (Err cause) = cause_at context words (first_misfit context words) ≡ cause

-- where calls may stand
abbrev pub in_list : Context → Context
in_list context = at_stage context Stage.List

-- the line of a call: its first word is that call's
pub record IsCallLine (context : Context) (word : List ℕ) (rest : List (List ℕ)) (verb : Verb) : Type 0 where
  pub is_verb : first_word context.version word ≡ Some (FirstWord.Call verb)
  pub begins : start_of context.version context.reading Stage.List (word ∷ rest) ≡ Some (Start.Head (FirstWord.Call verb))
