-- How much of an input has been given, and how much of a text has been taken, where the source and the sink tell it.
use Rattle.std.specs.Prelude.{◌≡◌, ℕ, ◌≤◌, List, [], ◌++◌, length, take, drop, Option, Some, None}

-- The source has given its first n bytes, and there were as many.
pub record GivesFirst (n : ℕ) (left : List ℕ) (left' : Option (List ℕ)) : Type 0 where
  pub there : n ≤ length left
  pub rest : left' ≡ Some (drop n left)

abbrev pub Gives : ℕ → Option (List ℕ) → Option (List ℕ) → Type 0
Gives n None left' = Unit {0}
Gives n (Some left) left' = GivesFirst n left left'

-- The source has given at most n bytes.
pub record GivesAtMost (n : ℕ) (left left' : Option (List ℕ)) : Type 0 where
  pub given : ℕ
  pub most : given ≤ n
  pub gives : Gives given left left'

-- The bytes are all that was left, and nothing is left now.
pub record GivesWhole (bytes left : List ℕ) (left' : Option (List ℕ)) : Type 0 where
  pub all : bytes ≡ left
  pub end : left' ≡ Some []

abbrev pub GivesAll : List ℕ → Option (List ℕ) → Option (List ℕ) → Type 0
GivesAll bytes None left' = Unit {0}
GivesAll bytes (Some left) left' = GivesWhole bytes left left'

-- The first n bytes of the text stand after what was held.
abbrev pub AddsFirst : ℕ → List ℕ → Option (List ℕ) → Option (List ℕ) → Type 0
AddsFirst n text None held' = Unit {0}
AddsFirst n text (Some held) held' = held' ≡ Some (held ++ take n text)

-- A prefix of the text stands after what was held.
pub record AddsFront (text : List ℕ) (held held' : Option (List ℕ)) : Type 0 where
  pub count : ℕ
  pub within : count ≤ length text
  pub adds : AddsFirst count text held held'
