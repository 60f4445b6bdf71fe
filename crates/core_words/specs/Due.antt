-- The next step of a core, where it is in a call.
use Rattle.std.specs.Prelude.{ℕ, Option, Some, None}
use Rattle.call_stages.specs.spk_nums.specs.declared.steps.WordOp.{WordOp}
use Rattle.call_stages.specs.word_map.specs.Moves.{op_of}
use Rattle.call_stages.specs.act_states.specs.declared.own.Own.{Own}
use Rattle.call_stages.specs.View.{Core}
use Rattle.call_stages.specs.Steps.{stage_move}
use Rattle.call_stages.specs.declared.stages.ActiveCall.{ActiveCall}

-- the next step of a core's call; none where it is in no call
abbrev pub due_in : Own → Option ActiveCall → Option WordOp
due_in own None = None
due_in own (Some a) = Some (op_of own.layout (stage_move own a.counts a.stage))

abbrev pub due_of : Core → Option WordOp
due_of c = due_in c.own c.active
