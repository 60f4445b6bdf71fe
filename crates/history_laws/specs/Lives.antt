-- Liveness numbers and components that were killed.
use Rattle.std.specs.Prelude.{◌≡◌, ◌<◌, ◌∷◌, ◌++◌}
use Rattle.kernel_history.specs.{ℕ, [], false, Some, Setting, Call, Value, live_of_word, LiveAt, CompFields, Dead}
use Rattle.kernel_history.specs.{comp_of, asks_life, Step, Out, phase, after_enter, state_before, state_after, last_left, LiveWord}
use Rattle.state_laws.specs.spk_nums.specs.declared.replies.Reply.TheVariants.{Ok}
use Rattle.kernel_history.specs.Trace.{Open, Trace}

-- Where a number is dead after an epoch, its word shows it live later in higher epochs alone, whatever steps come then.
abbrev pub DeadForGood : Setting → Trace → Trace → Type 0
DeadForGood setup u t = (l e d f : ℕ) → (state_after setup t).number l ≡ Dead e
    → live_of_word (last_left setup (u ++ t) (LiveAt l)) ≡ Some (LiveWord.Live d f) → e < d

-- The step decides this call of its core, which is carried out.
pub record CarriesOut (t : Trace) (e : Step) (call : Call) : Type 0 where
  pub value : Value
  pub is_open : after_enter e.enters (phase t e.core) ≡ Open call
  pub decides : e.decides ≡ Some (Ok value)

-- The component was killed: its liveness number was dead in its epoch after the trace, when core c was between calls.
pub record WasKilled (setup : Setting) (t : Trace) (c : ℕ) (comp : CompFields) : Type 0 where
  pub out : phase t c ≡ Out
  pub dead : (state_after setup t).number comp.number ≡ Dead comp.epoch

-- A component that was killed and whose core has left its call makes no further `ok` but `ret`, `flush` and `tick`: where a core works
-- in a component that was killed at an earlier moment, at which the core was between calls, no other call of it is carried out.
abbrev pub KilledStop : Setting → Trace → Trace → Type 0
KilledStop setup [] t = Unit {0}
KilledStop setup (e ∷ u) t = (call : Call) → CarriesOut (u ++ t) e call
    → WasKilled setup t e.core (comp_of (state_before setup (u ++ t) e) e.core) → asks_life call ≡ false
