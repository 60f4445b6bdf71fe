-- Laws of legal traces, each the contract of a function of this crate.
use Rattle.std.specs.Prelude.{◌≡◌, ◌≢◌, ◌⊎◌, ◌||◌, ◌+◌, ◌==◌, ◌&&◌, ◌++◌, if◌then◌else◌, ◌∷◌}
use Rattle.kernel_rules.specs.{ℕ, [], length, Option, Some, None, is_some}
use Rattle.kernel_rules.specs.{Reply, Setting, after, IsRun}
use Rattle.kernel_history.specs.{Trace.Step, Trace.Trace, Trace.phase, Trace.state_after, Trace.calls_of, Trace.IfNot, Stamps.is_in}
use Rattle.{word_map.specs.same_word, word_map.specs.word_of, word_map.specs.left_of, word_map.specs.Word.Word}
use Rattle.{kernel_history.specs.Events.events_of, kernel_history.specs.Legal.IsLegal, kernel_history.specs.Alone.IsAlone}

-- The events of the trace are a run of the sequential kernel, and the trace leaves the state that they leave.
pub record IsRunOfEvents (setup : Setting) (t : Trace) : Type 0 where
  pub run : IsRun setup (events_of t)
  pub state : state_after setup t ≡ after setup (events_of t)

-- A legal trace is a run of its events.
abbrev pub LegalRuns : Type 0
LegalRuns = (setup : Setting) (t : Trace) → IsLegal setup t → IsRunOfEvents setup t

-- Two traces leave the same state, and each core between calls, in the same open call, or in the same call decided with the same reply.
pub record LeaveAlike (setup : Setting) (t u : Trace) : Type 0 where
  pub state : state_after setup t ≡ state_after setup u
  pub phases : (c : ℕ) → phase t c ≡ phase u c

-- What a trace leaves is determined by its events.
abbrev pub EventsDetermine : Type 0
EventsDetermine = (setup : Setting) (t u : Trace) → events_of t ≡ events_of u → LeaveAlike setup t u

-- A legal trace is legal up to each of its steps.
abbrev pub LegalUpTo : Type 0
LegalUpTo = (setup : Setting) (u t : Trace) → IsLegal setup (u ++ t) → IsLegal setup t

-- How many calls of the core have returned.
abbrev pub returned_calls : Trace → ℕ → ℕ
returned_calls [] c = 0
returned_calls (e ∷ t) c = if c == e.core && is_some e.returns then returned_calls t c + 1 else returned_calls t c

-- In a legal trace a core has entered the calls that have returned, and one more exactly where it is in a call.
abbrev pub OneCallAtATime : Type 0
OneCallAtATime = (setup : Setting) (t : Trace) → IsLegal setup t → (c : ℕ)
    → length (calls_of t c) ≡ returned_calls t c + (if is_in (phase t c) then 1 else 0)

-- The step decides none of `raced`, `busy` and `quiescing`.
abbrev pub IsNotHeldUp : Option Reply → Type 0
IsNotHeldUp None = Unit {0}
IsNotHeldUp (Some Reply.Raced) = ⊥
IsNotHeldUp (Some (Reply.Busy d)) = ⊥
IsNotHeldUp (Some (Reply.Quiescing d)) = ⊥
IsNotHeldUp (Some r) = Unit {0}

-- A call that is alone loses no race, is held up by no core and waits for none.
abbrev pub AloneGoesOn : Type 0
AloneGoesOn = (setup : Setting) (t : Trace) (e : Step) → IsLegal setup (e ∷ t) → IsAlone t e → IsNotHeldUp e.decides

-- The step e, of another core than c on this word, has changed the word.
pub record ChangesWord (c : ℕ) (e : Step) (w : Word) : Type 0 where
  pub other : e.core ≢ c
  pub here : word_of e.move ≡ w
  pub changed : left_of e.move e.found ≢ e.found

-- Since core c's last step on the word, in the call that it entered last, another core has changed the word.
abbrev pub WasChanged : Trace → ℕ → Word → Type 0
WasChanged [] c w = ⊥
WasChanged (e ∷ t) c w = ChangesWord c e w ⊎ IfNot (c == e.core && (same_word w (word_of e.move) || is_some e.enters)) (WasChanged t c w)

-- A call is answered `raced` only where another core has changed the word that it read, since it read it.
abbrev pub RacedByAnother : Type 0
RacedByAnother = (setup : Setting) (t : Trace) (e : Step) → IsLegal setup (e ∷ t)
    → e.decides ≡ Some Reply.Raced → WasChanged t e.core (word_of e.move)
