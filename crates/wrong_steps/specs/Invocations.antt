-- A wrong call through a gate looks at its component's liveness before it acquires a count, and not after.
use Rattle.kernel_history.specs as low
use low.{[], Option, Some, None, cap_of, Gate, Kill, Nothing as nothing, word_of_entry, Held, comp_of_word, CompWord, EntryAt, LiveAt}
use low.{ClockAt, LoadOf, CompareOf, AddOf, IsLegal, two_cores, enters, goes, decides, loads, returns, done, Kind}
use Rattle.act_states.specs.{declared.refusals.Refusal.TheVariants.Raced, declared.work.Tail.TheVariants.Nothing}
use Rattle.{act_states.specs.pin_move, act_states.specs.AtLoad, act_states.specs.refuse, act_states.specs.declared.work.WorkStep.WorkStep}
use Rattle.{act_states.specs.declared.work.WorkStep.TheVariants.Answers, wrong_steps.specs.Acts.acts}
use low.{spk_nums.specs.declared.calls.Call.TheVariants.Call, Trace.Trace}

-- Core 0 has a gate to the component of frame 3 in place 20.
unfoldable pub gated : Trace
gated =
    decides 0 (CompareOf (EntryAt 1 20) 0 (word_of_entry (Held (cap_of Kind.Gate 3 1)))) done
    (loads 0 1 20 (loads 0 3 2 (loads 0 1 1 (loads 0 1 3 (loads 0 0 0 (enters 0 (Gate 3 1 20) []))))))

-- It calls the gate, finds its liveness number live, and goes on to its count of the frame.
unfoldable pub calling : Trace
calling =
    goes 0 (pin_move (AtLoad 3 0)) (goes 0 (LoadOf (LiveAt 0))
    (loads 0 1 20 (loads 0 0 0 (enters 0 (Call 20) (returns 0 done gated)))))

-- Core 1 kills the component.
unfoldable pub killed : Trace
killed = decides 1 (AddOf ClockAt 1) done (loads 1 1 3 (loads 1 0 0 (enters 1 (Kill 3) calling)))

-- Wrong: core 0 enters the component as soon as it has read its word, since its number was live.
abbrev pub enters_by : Option CompWord → WorkStep
enters_by None = refuse Raced
enters_by (Some life) = Answers nothing None Nothing

unfoldable pub entered_dead : Trace
entered_dead = acts 0 (LoadOf (EntryAt 3 2)) (λ found. enters_by (comp_of_word found)) killed

pub record CallsLookBefore : Type 0 where
  pub legal : IsLegal two_cores killed
  pub refused : IsLegal two_cores entered_dead → ⊥
