-- The marks that words carry after a trace, and whose step has put a mark there.
use Rattle.std.specs.Prelude.{◌≡◌, ◌≢◌, ◌⊎◌, ◌==◌, ◌&&◌, ◌∷◌}
use Rattle.kernel_rules.specs.{ℕ, [], Option, Some, is_some, Setting}
use Rattle.word_map.specs.{Word.Word, Moves.word_of}
use Rattle.kernel_history.specs.{Marks.mark_of, Trace.Step, Trace.Trace, Trace.state_after, Trace.last_left, Trace.IfNot}

-- The core whose mark a word carries after the trace.
abbrev pub marked_by : Setting → Trace → Word → Option ℕ
marked_by setup t w = mark_of (state_after setup t) w (last_left setup t w)

-- The step e, of core d on this word, puts d's mark there.
pub record PutsMark (setup : Setting) (t : Trace) (e : Step) (w : Word) (d : ℕ) : Type 0 where
  pub own : e.core ≡ d
  pub here : word_of e.move ≡ w
  pub before : marked_by setup t w ≢ Some d
  pub after : marked_by setup (e ∷ t) w ≡ Some d

-- In the call that core d entered last, a step of d has put d's mark in the word.
abbrev pub HasMarked : Setting → Trace → Word → ℕ → Type 0
HasMarked setup [] w d = ⊥
HasMarked setup (e ∷ t) w d = PutsMark setup t e w d ⊎ IfNot (d == e.core && is_some e.enters) (HasMarked setup t w d)
