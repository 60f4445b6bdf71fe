-- What a lost race and a held word rest on.
use Rattle.std.specs.Prelude.{◌≡◌, ◌≢◌, ℕ, Option, Some, None}
use Rattle.stop_causes.specs.declared.CallAt.{CallAt}

-- A race is lost at a word that the call has stepped on before, where it finds another value than it had left there.
abbrev pub IsLost : Option ℕ → ℕ → Type 0
IsLost None found = ⊥
IsLost (Some left) found = left ≢ found

-- A word is held by the call that last changed it.
abbrev pub IsHeld : Option CallAt → CallAt → Type 0
IsHeld None by = ⊥
IsHeld (Some call) by = call ≡ by
