-- Where in its line a fault stands.
use Rattle.std.specs.Prelude.{ℕ, ◌+◌, ◌==◌, length, List, [], ◌∷◌, if◌then◌else◌}
use Rattle.line_reader.specs.{declared.cause.Cause.Cause, declared.cause.Cause.TheVariants.S7, declared.cause.Cause.TheVariants.S9}
use Rattle.line_forms.specs.{declared.context.Stage.Stage, declared.context.Context.Context, declared.slots.Slot.Slot}
use Rattle.line_forms.specs.{declared.slots.Slot.TheVariants.End, Lines.slot_at, Fitting.fits}

-- the first place, from `at` on, whose word does not fit; the words that are left are those from there on
abbrev pub misfit_from : Context → List (List ℕ) → ℕ → List (List ℕ) → ℕ
misfit_from context words at [] = at
misfit_from context words at (w ∷ ws) = if fits context words at then misfit_from context words (at + 1) ws else at

-- the place of the first word that does not fit; the line's end where each word fits
abbrev pub first_misfit : Context → List (List ℕ) → ℕ
first_misfit context words = misfit_from context words 0 words

abbrev pub too_many_in : Stage → ℕ → ℕ
too_many_in Stage.Order items = items
too_many_in _ items = 0

-- the place of the first item that is one too many, and else that of the line's first word
abbrev pub too_many_at : Context → ℕ
too_many_at context = too_many_in context.stage context.items

abbrev pub unless_end : List (List ℕ) → ℕ → ℕ
unless_end words at = if at == length words then 0 else at

-- the place of a word that is out of place; where each word fits, the line itself is so
abbrev pub misplaced_at : Context → List (List ℕ) → ℕ
misplaced_at context words = unless_end words (first_misfit context words)

-- the place of a fault in its line
abbrev pub place_of : Context → List (List ℕ) → Cause → ℕ
place_of context words S9 = too_many_at context
place_of context words S7 = misplaced_at context words
place_of context words cause = first_misfit context words

-- what may stand at a place that has this fault
abbrev pub slot_of : Context → List (List ℕ) → ℕ → Cause → Slot
slot_of context words place S9 = End
slot_of context words place cause = slot_at context words place
