-- The counts that a call has acquired stay counts of the machine, and so do their commits.
use Rattle.std.proofs.Common.{ℕ, Bool, true, false, Option, List, [], ◌∷◌, ◌++◌, length, nat_lt, IfSome}
use Rattle.stage_pins.specs.{pushed, commit_of, AcquiredFits, AllFit}
use Rattle.std.proofs.lemmas.List.Elements.{All-nil, All-head, All-tail, All-push}
use Rattle.stage_pins.specs.{Commit.SettleFits, Held.first_of, Held.rest_of, declared.held.Acquired.Acquired}
use Rattle.{std.proofs.lemmas.Bool.cond_both, word_map.specs.Places.Shape}

-- none is acquired at first
pub none_fit : (s : Shape) → AllFit s []
none_fit s = All-nil (AcquiredFits s)

-- one more is acquired
pub pushed_fit : (s : Shape) (xs : List Acquired) (x : Acquired) → AllFit s xs → AcquiredFits s x → AllFit s (pushed xs x)
pushed_fit s xs x h k =
    cond_both (nat_lt (length xs) 4) (xs ++ x ∷ []) xs (AllFit s) (λ e. All-push (AcquiredFits s) xs x h k) (λ e. h)

-- the earliest is one of the machine
pub first_fits : (s : Shape) (xs : List Acquired) → AllFit s xs → IfSome (first_of xs) (AcquiredFits s)
first_fits s [] h = tt
first_fits s (x ∷ xs) h = All-head (AcquiredFits s) x xs h

-- and so are those after it
pub rest_fit : (s : Shape) (xs : List Acquired) → AllFit s xs → AllFit s (rest_of xs)
rest_fit s [] h = All-nil (AcquiredFits s)
rest_fit s (x ∷ xs) h = All-tail (AcquiredFits s) x xs h

-- the commit of a count is on a word of the machine
pub commit_fits : (s : Shape) (carried_out : Bool) (drawn : Option ℕ) (x : Acquired) → AcquiredFits s x
    → SettleFits s (commit_of carried_out drawn x)
commit_fits s carried_out drawn x h = h
