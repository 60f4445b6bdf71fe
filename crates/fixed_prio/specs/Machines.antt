-- A machine of one core, and the plain kernel beside it.
use Rattle.std.specs.Prelude.{◌≡◌, ◌∷◌, ◌++◌}
use Rattle.plain_kernel.specs.kernel_rules.specs.{List, [], Setting, IsSetting, Call, Reply, start, plain_steps}
use Rattle.{plain_kernel.specs.kernel_rules.specs.State.State, plain_kernel.specs.seq_state.specs.Maps.Maps}
use Rattle.{plain_kernel.specs.Step.IsReached, sched_rules.specs.Schedule.reply_to}

-- The state after calls that core 0 makes alone, one after another, from the start.
unfoldable pub after_calls : Setting → List Call → State
after_calls setting calls = plain_steps (start setting) 0 calls

-- The machine has one core, and the plain kernel beside it has reached the state after its calls.
pub record Beside (setup : Setting) (calls : List Call) (k : Maps) : Type 0 where
  pub setting : IsSetting setup
  pub one_core : setup.cores ≡ 1
  pub reached : IsReached setup k (after_calls setup calls)

-- After its calls so far the machine has made this one and was answered r, and the plain kernel has gone along.
pub record MakesBoth (setup : Setting) (before : List Call) (call : Call) (r : Reply) (after : List Call) (k : Maps) : Type 0 where
  pub made : after ≡ before ++ call ∷ []
  pub reply : r ≡ reply_to (after_calls setup before) call
  pub beside : Beside setup after k
