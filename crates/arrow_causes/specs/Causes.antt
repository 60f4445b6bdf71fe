-- Which call the arrow of a reply comes from that says what is in the way.
use Rattle.std.specs.Prelude.{◌≡◌, ◌≢◌, ◌≤◌, ◌∷◌}
use Rattle.flight_laws.specs.core_invariant.specs.{ℕ, true, length, Some, Setting, IsSetting, Step, Trace, Out, phase}
use Rattle.flight_laws.specs.core_invariant.specs.{calls_of, Reply}
use Rattle.arrow_laws.specs.Arrows.{HasTaken, arrow_to, is_line, entered_at}
use Rattle.{flight_laws.specs.Histories.IsHistory, arrow_laws.specs.page_layers.specs.declared.lanes.Change.Change}

-- The arrow to e, after t, is a line from a step of core d, in the call that d has entered last and is in progress.
pub record IsLineFrom (page : ℕ) (setup : Setting) (t : Trace) (e : Step) (d : ℕ) : Type 0 where
  pub change : Change
  pub arrow : arrow_to page setup t e ≡ Some change
  pub line : is_line page setup t e change ≡ true
  pub core : change.core ≡ d
  pub call : change.index ≡ length (calls_of t d)
  pub since : entered_at t d ≤ change.step
  pub in_progress : phase t d ≢ Out

-- `busy d` has a line from core d, from the call in progress that has marked the word.
abbrev pub BusyAreLines : Type 0
BusyAreLines = (page : ℕ) (setup : Setting) (t : Trace) (e : Step) (d : ℕ) → IsSetting setup → IsHistory setup (e ∷ t)
    → HasTaken page setup t → e.decides ≡ Some (Reply.Busy d) → IsLineFrom page setup t e d

-- `quiescing d` has a line from the entry of the call in which core d is.
pub record IsEntryLine (page : ℕ) (setup : Setting) (t : Trace) (e : Step) (d : ℕ) : Type 0 where
  pub line : IsLineFrom page setup t e d
  pub entry : line.change.step ≡ entered_at t d

abbrev pub WaitsAreLines : Type 0
WaitsAreLines = (page : ℕ) (setup : Setting) (t : Trace) (e : Step) (d : ℕ) → IsSetting setup → IsHistory setup (e ∷ t)
    → HasTaken page setup t → e.decides ≡ Some (Reply.Quiescing d) → IsEntryLine page setup t e d
