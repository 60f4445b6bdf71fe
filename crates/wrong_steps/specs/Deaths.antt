-- A wrong kill puts the dead number in place of its mark, before it draws its stamp.
use Rattle.kernel_history.specs.{ℕ, Option, Some, None, Kill, word_of_live, live_of_word, LiveWord, LiveAt, LoadOf, CompareOf, IsLegal}
use Rattle.kernel_history.specs.{two_cores, enters, goes, loads, returns, done}
use Rattle.kernel_history.specs.frame_words.specs.declared.live_word.LiveWord.TheVariants.{Free, Live, Closing, Dead}
use Rattle.act_states.specs.{declared.refusals.Refusal.TheVariants.Raced, declared.refusals.Refusal.TheVariants.Busy}
use Rattle.act_states.specs.{declared.refusals.Refusal.TheVariants.Dead as dead, declared.work.WorkStep.WorkStep, WorkSteps.refuse}
use Rattle.wrong_steps.specs.{Acts.acts, Invocations.gated}
use Rattle.{kernel_history.specs.spk_nums.specs.declared.calls.Call.TheVariants.Call, kernel_history.specs.Trace.Trace}

-- Wrong: where it should mark the number, it is dead at once, with the stamp that will be drawn.
abbrev pub closed_word : ℕ
closed_word = word_of_live (Dead 1 1)

-- Core 0 has a gate to the component of frame 3. It kills the component, and has not drawn its stamp.
unfoldable pub killing : Trace
killing =
    goes 0 (CompareOf (LiveAt 0) (word_of_live (Live 1 3)) closed_word) (goes 0 (LoadOf (LiveAt 0))
    (loads 0 3 2 (loads 0 1 3 (loads 0 0 0 (enters 0 (Kill 3) (returns 0 done gated))))))

-- Core 1 calls the gate, and has loaded the component's word.
unfoldable pub calling : Trace
calling = loads 1 3 2 (loads 1 1 20 (loads 1 0 0 (enters 1 (Call 20) killing)))

-- What a call takes from the number: it is refused, unless the number lives.
abbrev pub took_number : Option LiveWord → WorkStep
took_number None = refuse Raced
took_number (Some Free) = refuse dead
took_number (Some (Live epoch frame)) = refuse Raced
took_number (Some (Closing epoch by)) = refuse (Busy by)
took_number (Some (Dead epoch stamp)) = refuse dead

unfoldable pub refused_dead : Trace
refused_dead = acts 1 (LoadOf (LiveAt 0)) (λ found. took_number (live_of_word found)) calling

pub record KillsShow : Type 0 where
  pub legal : IsLegal two_cores calling
  pub refused : IsLegal two_cores refused_dead → ⊥
