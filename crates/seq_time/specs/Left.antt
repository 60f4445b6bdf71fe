-- What becomes of threads as a core goes on as another, and what it leaves.
use Rattle.std.specs.Prelude.{◌==◌, if◌then◌else◌, ◌∷◌}
use Rattle.seq_lookups.specs.seq_state.specs.kernel_rules.specs.{ℕ, List, [], Option, Some, None, Frame, Thing, thread_in}
use Rattle.seq_lookups.specs.seq_state.specs.kernel_rules.specs.{with_thread, frames_of, Named, Cause, When}
use Rattle.seq_lookups.specs.spk_nums.specs.declared.replies.Reply.TheVariants.{Running}

-- The old thread, and the old temporal capability unless it stays: the things whose grace periods begin.
abbrev pub left_by : ℕ → ℕ → ℕ → List Thing
left_by thread tcap next = frames_of (thread ∷ (if next == tcap then [] else tcap ∷ []))

-- A frame whose thread runs on a core, or is idle.
abbrev pub run_by : Frame → Option ℕ → Frame
run_by x core = with_thread x (record (thread_in x) { runs_on = core })

-- The causes against going on as a thread, which runs on a core or is idle.
abbrev pub running_by : Named → Option ℕ → List Cause
running_by h None = []
running_by h (Some e) = When h.found (Running e) ∷ []
