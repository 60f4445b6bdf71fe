-- Which steps are met by the newest change of their word.
use Rattle.std.specs.Prelude.{◌≡◌, ◌≢◌, true, false, Some}
use Rattle.page_layers.specs.{Seen.Seen, Layers.is_blamed, declared.lanes.Change.Change}
use Rattle.page_touches.specs.{declared.touches.Touch.Touch, Touches.is_clock, Touches.tail_of}

-- A step that decides with a reply by which another is in the way, as `raced`, is met by the newest change of its word: of any word but
-- the clock, where the change is another core's.
abbrev pub BlamedAreMet : Type 0
BlamedAreMet = (t : Touch) (s : Seen) (c : Change) → is_blamed s.decides ≡ true → is_clock s.word ≡ false → t.change ≡ Some c
    → c.core ≢ s.core → tail_of t s ≡ Some c
