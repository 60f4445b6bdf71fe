-- The program of an endpoint call.
use Rattle.std.specs.Prelude.{ℕ, ◌+◌, ◌-◌, ◌^◌, ◌<◌, ◌==◌, ◌≡◌, if◌then◌else◌, Option, Some, None, Ok}
use Rattle.spk_nums.specs.declared.steps.WordOp.TheVariants.{Load, Compare, Add}
use Rattle.async_ends.specs.{declared.endpoint.EndOp.EndOp, declared.endpoint.EndOp.TheVariants.Send}
use Rattle.async_ends.specs.{declared.endpoint.EndOp.TheVariants.Recv, declared.endpoint.EndCall.EndCall, declared.endpoint.EndAct.EndAct}
use Rattle.async_ends.specs.{declared.endpoint.EndAct.TheVariants.Sent, declared.endpoint.EndAct.TheVariants.Taken}
use Rattle.async_ends.specs.{declared.endpoint.EndAct.TheVariants.Raced, declared.endpoint.EndReply.EndReply}
use Rattle.async_ends.specs.{declared.run.EndStage.EndStage, declared.run.EndStage.TheVariants.Idle, declared.run.EndStage.TheVariants.Adds}
use Rattle.async_ends.specs.{declared.run.EndStage.TheVariants.Loads, declared.run.EndStage.TheVariants.Takes, Looks.reached}
use Rattle.{spk_nums.specs.declared.steps.WordOp.WordOp, turn_rule.specs.Steps.Steps}

-- What a call is answered that has done so.
abbrev pub reply_of : EndAct → EndReply
reply_of Sent = EndReply.Sent
reply_of (Taken k) = EndReply.Taken k
reply_of Raced = EndReply.Raced

-- A core as contracts see it: where its call stands, the number of frames, how many calls it has begun, and what the last one did.
pub record EndCore : Type 0 where
  pub stage : EndStage
  pub frames : ℕ
  pub begun : ℕ
  pub last : EndAct

abbrev pub end_core : EndStage → ℕ → ℕ → EndAct → EndCore
end_core stage frames begun last = record { stage = stage; frames = frames; begun = begun; last = last }

-- A core that has begun no call.
abbrev pub unused : ℕ → EndCore
unused frames = end_core Idle frames 0 Raced

-- The stage's frame is one of the table's, and what it loaded is not 0.
abbrev pub StageFits : ℕ → EndStage → Type 0
StageFits frames Idle = Unit {0}
StageFits frames (Adds f) = f < frames
StageFits frames (Loads f) = f < frames
StageFits frames (Takes f n) = (f < frames) × (0 < n)

-- How often a core may call.
abbrev pub most_calls : ℕ
most_calls = 2 ^ 40 - 1

abbrev pub next_at : EndStage → Option WordOp
next_at Idle = None
next_at (Adds f) = Some (Add f 1)
next_at (Loads f) = Some (Load f)
next_at (Takes f n) = Some (Compare f n 0)

-- What a step makes of the stage, and what it did.
abbrev pub stage_after : EndStage → ℕ → EndStage
stage_after Idle n = Idle
stage_after (Adds f) n = Idle
stage_after (Loads f) n = if n == 0 then Idle else Takes f n
stage_after (Takes f seen) n = Idle

abbrev pub did_after : EndStage → EndAct → ℕ → EndAct
did_after Idle last n = last
did_after (Adds f) last n = Sent
did_after (Loads f) last n = if n == 0 then Taken 0 else last
did_after (Takes f seen) last n = if n == seen then Taken seen else Raced

abbrev pub first_stage : EndOp → ℕ → EndStage
first_stage Send f = Adds f
first_stage Recv f = Loads f

abbrev pub steps_left : EndStage → ℕ
steps_left Idle = 0
steps_left (Adds f) = 1
steps_left (Loads f) = 2
steps_left (Takes f n) = 1

-- The call's frame is one of the table's, and the one to which its look has led; and the core has begun fewer calls than it may.
pub record MayCall (p : EndCore) (call : EndCall) : Type 0 where
  pub frame : call.frame < p.frames
  pub few : p.begun < most_calls
  pub leads : reached call.op call.look.reply ≡ Ok call.frame

abbrev pub end_steps : Steps EndCore EndCall
end_steps = record {
  next = λ p. next_at p.stage;
  after = λ p n. end_core (stage_after p.stage n) p.frames p.begun (did_after p.stage p.last n);
  fit = MayCall;
  begun = λ p call. end_core (first_stage call.op call.frame) p.frames (p.begun + 1) p.last;
  size = λ p. p.frames;
  left = λ p. steps_left p.stage;
}
