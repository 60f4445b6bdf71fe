-- What may stand at a place.
use Rattle.std.specs.Prelude.{ℕ, List, Bool, true, false, Option, Some, None, ◌&&◌, ◌==◌, nat_le, nat_lt, if◌then◌else◌}
use Rattle.line_forms.specs.declared.slots.Slot.TheVariants.{Number, MayNumber, Core, Value, Rights, End}
use Rattle.{line_reader.specs.Numerals.number_of, line_forms.specs.declared.slots.Slot.Slot}

-- the number of a capability, a page, a root entry or a frame
abbrev pub name : Slot
name = Number 0 65535

-- such numbers up to a place, and nothing after them
abbrev pub names : ℕ → ℕ → Slot
names place last = if nat_le place last then name else End

-- a number at one place, and nothing at another
abbrev pub number_then : ℕ → ℕ → ℕ → ℕ → Slot
number_then place at least most = if place == at then Number least most else End

-- a core at one place, and nothing at another
abbrev pub core_then : ℕ → ℕ → ℕ → Slot
core_then place at cores = if place == at then Core cores else End

abbrev pub is_number_between : Option ℕ → ℕ → ℕ → Bool
is_number_between None least most = false
is_number_between (Some n) least most = nat_le least n && nat_le n most

-- the word is a number in this range
abbrev pub is_between : List ℕ → ℕ → ℕ → Bool
is_between word least most = is_number_between (number_of word) least most

abbrev pub is_number_below : Option ℕ → ℕ → Bool
is_number_below None cores = false
is_number_below (Some n) cores = nat_lt n cores

-- the word is a number below this one
abbrev pub is_below : List ℕ → ℕ → Bool
is_below word cores = is_number_below (number_of word) cores

-- the line may end there
abbrev pub fits_end : Slot → Bool
fits_end (MayNumber least most) = true
fits_end Value = true
fits_end Rights = true
fits_end End = true
fits_end _ = false
