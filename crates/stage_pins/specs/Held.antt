-- The counts that a call has acquired, the earliest first, and the commit of each.
use Rattle.std.specs.Prelude.{ℕ, ℤ, pos, negsuc, Bool, true, false, nat_lt, Option, Some, None, List, [], ◌∷◌, ◌++◌, length, All}
use Rattle.stage_pins.specs.{Acquire.PinnedFits, declared.held.Acquired.Acquired, declared.settle.Settle.Settle}
use Rattle.{std.specs.Prelude.if◌then◌else◌, word_map.specs.Places.Shape}

-- the counts after one more is acquired; four stay as they are
abbrev pub pushed : List Acquired → Acquired → List Acquired
pushed xs x = if nat_lt (length xs) 4 then xs ++ x ∷ [] else xs

-- the earliest count, if there is one
abbrev pub first_of : List Acquired → Option Acquired
first_of [] = None
first_of (x ∷ xs) = Some x

-- the counts but the earliest
abbrev pub rest_of : List Acquired → List Acquired
rest_of [] = []
rest_of (x ∷ xs) = xs

-- whether there is no count
abbrev pub has_none : List Acquired → Bool
has_none [] = true
has_none (x ∷ xs) = false

-- the change that a commit brings, where the call is or is not carried out: a refused call changes no reference
abbrev pub change_if : Bool → ℤ → ℤ
change_if true change = change
change_if false change = pos 0

-- the stamp that it brings: the drawn one, where its change releases a reference
abbrev pub stamp_of_change : ℤ → Option ℕ → Option ℕ
stamp_of_change (pos n) drawn = None
stamp_of_change (negsuc n) drawn = drawn

-- the commit of a count, where the call is or is not carried out and has drawn a stamp or none
abbrev pub commit_of : Bool → Option ℕ → Acquired → Settle
commit_of carried_out drawn x =
    record { pin = x.pin; change = change_if carried_out x.change; stamp = stamp_of_change (change_if carried_out x.change) drawn }

-- an acquired count is that of a frame and a core of the machine, and within its range
abbrev pub AcquiredFits : Shape → Acquired → Type 0
AcquiredFits s x = PinnedFits s x.pin

-- and so is each of these
abbrev pub AllFit : Shape → List Acquired → Type 0
AllFit s xs = All (AcquiredFits s) xs
