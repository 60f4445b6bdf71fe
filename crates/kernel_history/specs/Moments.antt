-- What the words say at each moment of a trace.
use Rattle.std.specs.Prelude.{◌≡◌, ◌≢◌, ◌<◌, ◌⊎◌, ◌↔◌, ◌∷◌}
use Rattle.kernel_rules.specs.{ℕ, [], Some, IsTrue, Setting}
use Rattle.kernel_history.specs.{ObjectWords.holds_node, FinalWords.SaysPlace, Trace.Trace, Trace.Out, Trace.phase, Trace.state_after}
use Rattle.{word_map.specs.EntryAt, word_map.specs.CoreAt, entry_words.specs.EntryWord.entry_of_word}
use Rattle.{entry_words.specs.declared.entry.Entry.Entry, frame_words.specs.Core.core_of_word}
use Rattle.{frame_words.specs.declared.core_word.CoreWord.CoreWord, kernel_history.specs.Trace.last_left}

-- The word of a place is being closed by core d, which is in a call.
pub record IsClosedBySome (setup : Setting) (t : Trace) (f i : ℕ) : Type 0 where
  pub by : ℕ
  pub says : entry_of_word (last_left setup t (EntryAt f i)) ≡ Some (Entry.Closing by)
  pub in_call : phase t by ≢ Out

-- The word of a place of a node says what the place is, or is being closed.
abbrev pub EntrySays : Setting → Trace → ℕ → ℕ → Type 0
EntrySays setup t f i =
    SaysPlace ((state_after setup t).place f i) (entry_of_word (last_left setup t (EntryAt f i))) ⊎ IsClosedBySome setup t f i

-- The word of a core says that it is inside exactly where the core is in a call.
pub record CoreSays (setup : Setting) (t : Trace) (c : ℕ) : Type 0 where
  pub value : CoreWord
  pub says : core_of_word (last_left setup t (CoreAt c)) ≡ Some value
  pub inside : IsTrue value.inside ↔ (phase t c ≢ Out)

-- What the words say after the trace.
pub record WordsSay (setup : Setting) (t : Trace) : Type 0 where
  pub entries : (f i : ℕ) → f < setup.frames → i < 64 → IsTrue (holds_node ((state_after setup t).frame f)) → EntrySays setup t f i
  pub cores : (c : ℕ) → c < setup.cores → CoreSays setup t c

-- What the words say after each of the trace's steps, and before the first.
abbrev pub WordsSayAlong : Setting → Trace → Type 0
WordsSayAlong setup [] = WordsSay setup []
WordsSayAlong setup (e ∷ t) = WordsSayAlong setup t × WordsSay setup (e ∷ t)
