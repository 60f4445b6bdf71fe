-- A wrong switch stores the thread that it leaves with the depth of the one with which it goes on.
use Rattle.kernel_history.specs as low
use Rattle.std.specs.Prelude.{◌≡◌}
use low.{ℕ, Some, cap_of, Retype, Switch, Make as make_call, CoreEnd, word_of_frame, word_of_stack, word_of_thread, Idle, Claimed}
use low.{EntryAt, FrameAt, LiveAt, ClockAt, LoadOf, CompareOf, StoreOf, AddOf, Represent, IsLegal, Out, phase, state_after, last_left}
use low.{two_cores, enters, goes, decides, loads, returns, done, FrameKind, Kind}
use Rattle.act_states.specs.{drawn_stamp, making_at, made, running_move, idle_move, typed}
use Rattle.act_states.specs.{declared.fills.Fill.Fill, declared.makings.MakingAt.TheVariants.Load}
use Rattle.act_states.specs.{declared.makings.MakingAt.TheVariants.Mark, declared.makings.MakingAt.TheVariants.Store}
use Rattle.act_states.specs.{declared.makings.MakingAt.TheVariants.Fill as fill_at, declared.objects.NewObject.NewObject}
use Rattle.act_states.specs.{declared.objects.NewObject.TheVariants.Thread, declared.own.OwnChange.TheVariants.Switches}
use Rattle.act_states.specs.{declared.work.Tail.Tail, declared.work.Tail.TheVariants.StoreRunning, declared.work.WorkStep.WorkStep}
use low.{spk_nums.specs.declared.calls.Call.TheVariants.Call, spk_nums.specs.declared.calls.Make.Make, Trace.Trace}
use Rattle.{act_states.specs.declared.work.WorkStep.TheVariants.Changes, wrong_steps.specs.Acts.acts, wrong_steps.specs.Invocations.gated}

-- Core 0, whose thread is that of frame 4, calls the gate that it has in place 20: its thread has depth 2 then.
unfoldable pub called : Trace
called =
    goes 0 (running_move 4 0 2) (goes 0 (StoreOf (EntryAt 4 2) (word_of_stack (record { 0 = Some 3 })))
    (decides 0 (LoadOf (LiveAt 0)) done (loads 0 1 20 (loads 0 0 0 (enters 0 (Call 20) (returns 0 done gated))))))

-- It makes frame 8 a kernel frame,
abbrev pub blank_word : ℕ
blank_word = word_of_frame (typed FrameKind.Kernel)

unfoldable pub blank : Trace
blank =
    decides 0 (CompareOf (FrameAt 8) 0 blank_word) done
    (loads 0 1 0 (loads 0 0 0 (enters 0 (Retype 0 8 FrameKind.Kernel) (returns 0 done called))))

-- and a thread of it, at depth 1 in the component of frame 3, in place 21. The words above in its stack are 0 before, as they are to be.
abbrev pub new_thread : NewObject
new_thread = Thread 3

abbrev pub place : Fill
place = record { node = 1; entry = 21; word = 0; cap = cap_of Kind.Thread 8 0 }

unfoldable pub marked : Trace
marked =
    goes 0 (making_at 8 new_thread 0 place (Store blank_word 1)) (goes 0 (making_at 8 new_thread 0 place (Store blank_word 0))
    (goes 0 (making_at 8 new_thread 0 place (Mark blank_word)) (goes 0 (making_at 8 new_thread 0 place Load)
    (loads 0 1 21 (loads 0 1 3 (loads 0 1 1 (loads 0 1 0 (loads 0 0 0
    (enters 0 (make_call (Make.Thread 3) 0 8 1 21) (returns 0 done blank))))))))))

unfoldable pub made_thread : Trace
made_thread =
    goes 0 (StoreOf (FrameAt 8) (word_of_frame (made new_thread)))
    (decides 0 (making_at 8 new_thread 0 place (fill_at blank_word)) done marked)

-- It switches to that thread, and keeps its temporal capability: it claims the thread, loads its component's words, and stores its own
-- thread as claimed.
unfoldable pub claimed : Trace
claimed =
    goes 0 (StoreOf (EntryAt 4 0) (word_of_thread (Claimed 0 2))) (loads 0 3 1 (loads 0 3 0 (loads 0 8 1
    (goes 0 (CompareOf (EntryAt 8 0) (word_of_thread (Idle 1)) (word_of_thread (Claimed 0 1))) (loads 0 8 0
    (loads 0 1 12 (loads 0 1 21 (loads 0 0 0 (enters 0 (Switch 21 12) (returns 0 done made_thread))))))))))

-- Wrong: both threads are stored with the depth of the new one, and not the old one with its own.
abbrev pub leaves : ℕ → ℕ → Tail
leaves depth old_depth = StoreRunning 8 0 depth 4 depth

-- The new thread has depth 1, and the old one 2.
abbrev pub switches : ℕ → WorkStep
switches found = Changes done (Switches 8 1 3 0 2 6) (Some (drawn_stamp found)) (leaves 1 2)

-- It stores both threads.
abbrev pub stores : Tail → Trace → Trace
stores (StoreRunning f core depth old old_depth) t = goes 0 (idle_move old old_depth) (goes 0 (running_move f core depth) t)
stores _ t = t

unfoldable pub mixed : Trace
mixed = returns 0 done (stores (leaves 1 2) (acts 0 (AddOf ClockAt 1) switches claimed))

pub record SwitchesMixDepths : Type 0 where
  pub legal : IsLegal two_cores mixed
  pub out : (phase mixed 0 ≡ Out) × (phase mixed 1 ≡ Out)
  pub refused : (end : ℕ → CoreEnd) → Represent (last_left two_cores mixed) end (state_after two_cores mixed) → ⊥
