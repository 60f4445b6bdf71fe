-- What a read takes, a write appends and a failure leaves, and when a count of faults has risen.
use Rattle.std.specs.Prelude.{◌≡◌, ◌⊎◌, ℕ, ◌-◌, ◌^◌, ◌<◌, ◌≤◌, List, [], ◌++◌, length, take, drop, Option, Some, None}

-- The count has risen, or it stands at its last value.
abbrev pub HasRisen : ℕ → ℕ → Type 0
HasRisen before now = (before < now) ⊎ (2 ^ 64 - 1 ≤ now)

-- The first k bytes of what was left are moved to the front of the buffer. None are moved only at the end.
pub record Moves (k : ℕ) (left : List ℕ) (left' : Option (List ℕ)) (buf buf' : List ℕ) : Type 0 where
  pub there : k ≤ length left
  pub front : take k buf' ≡ take k left
  pub rest : left' ≡ Some (drop k left)
  pub at_end : k ≡ 0 → 0 < length buf → left ≡ []

-- What a read of k bytes moves, where the source tells what it has left.
abbrev pub Takes : ℕ → Option (List ℕ) → Option (List ℕ) → List ℕ → List ℕ → Type 0
Takes k None left' buf buf' = Unit {0}
Takes k (Some left) left' buf buf' = Moves k left left' buf buf'

-- What was told is told still.
abbrev pub Stays : Option (List ℕ) → Option (List ℕ) → Type 0
Stays None after = Unit {0}
Stays (Some bytes) after = after ≡ Some bytes

-- The piece stands after what was held, where the sink tells what it holds.
abbrev pub Adds : List ℕ → Option (List ℕ) → Option (List ℕ) → Type 0
Adds piece None held' = Unit {0}
Adds piece (Some held) held' = held' ≡ Some (held ++ piece)
