-- Endpoint calls that were made: what each has done, and whether its answer is the one due.
use Rattle.std.specs.Prelude.{◌≡◌, ◌≢◌, ℕ, ◌<◌, ◌==◌, List, [], ◌∷◌, ◌++◌, if◌then◌else◌, Result, Ok, Err, flat_map}
use Rattle.async_ends.specs.{declared.endpoint.EndOp.EndOp, declared.endpoint.EndOp.TheVariants.Send}
use Rattle.async_ends.specs.{declared.endpoint.EndOp.TheVariants.Recv, declared.endpoint.EndReply.EndReply}
use Rattle.async_ends.specs.{declared.endpoint.EndReply.TheVariants.Sent, declared.endpoint.EndReply.TheVariants.Taken}
use Rattle.async_ends.specs.{declared.endpoint.EndReply.TheVariants.Raced, declared.endpoint.EndReply.TheVariants.Refused}
use Rattle.async_ends.specs.{declared.asks.Look.Look, declared.asks.EndDone.EndDone, Looks.look, Looks.reached, Events.Added, Events.Loaded}
use Rattle.async_ends.specs.{Events.Took, Events.Missed, Events.Event, Events.event, Calls.Comes, Tables.EndSeatValue}
use Rattle.{std.specs.List.AllZip, spk_nums.specs.declared.replies.Reply.Reply}

-- The events of a receive that took k: a load, and a compare where k is not 0.
abbrev pub taken_by : ℕ → ℕ → Look → ℕ → List Event
taken_by c f l k = event c f (Loaded l k) ∷ (if k == 0 then [] else event c f (Took k) ∷ [])

-- The events of a receive that was raced: a load of some, and a compare that found another count.
pub record AreRaced (c f : ℕ) (l : Look) (steps : List Event) : Type 0 where
  pub seen : ℕ
  pub some : 0 < seen
  pub found : ℕ
  pub another : found ≢ seen
  pub are : steps ≡ event c f (Loaded l seen) ∷ event c f (Missed found) ∷ []

-- These are the events of core c's call with this look, in order, by where the look led and what the call was answered.
abbrev pub AreStepsBy : EndOp → ℕ → Look → Result ℕ Reply → EndReply → List Event → Type 0
AreStepsBy op c l (Err refusal) answer steps = (answer ≡ Refused refusal) × (steps ≡ [])
AreStepsBy op c l (Ok f) Sent steps = (op ≡ Send) × (steps ≡ event c f (Added l) ∷ [])
AreStepsBy op c l (Ok f) (Taken k) steps = (op ≡ Recv) × (steps ≡ taken_by c f l k)
AreStepsBy op c l (Ok f) Raced steps = (op ≡ Recv) × AreRaced c f l steps
AreStepsBy op c l (Ok f) (Refused r) steps = ⊥

-- The look of a call that was made.
abbrev pub look_in : EndDone → Look
look_in d = look d.ask.number d.looked

-- These are the events of core c's call, in order. The first of them has the call's own look. A send that reached a frame is answered
-- `Sent`, a receive there what it took or that it was raced; a call that reached none has its refusal.
abbrev pub AreStepsOf : ℕ → EndDone → List Event → Type 0
AreStepsOf c d steps = AreStepsBy d.ask.op c (look_in d) (reached d.ask.op d.looked) d.answer steps

-- These are the events of core c's calls, in order, call by call.
pub record AreStepsOfAll (c : ℕ) (done : List EndDone) (events : List Event) : Type 0 where
  pub steps : List (List Event)
  pub each : AllZip (AreStepsOf c) done steps
  pub whole : events ≡ flat_map (λ s. s) steps

-- The seat's core has made this call. Its authority's looks have grown by the call's own.
pub record MakesDone (looks now : List Look) (seat : EndSeatValue) (d : EndDone) (made : EndSeatValue) : Type 0 where
  pub asks : now ≡ looks ++ look_in d ∷ []
  pub comes : Comes d.ask.op (look_in d) d.answer seat made
