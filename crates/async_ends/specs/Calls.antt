-- What calls at endpoints answer, and the steps by which they extend what a seat has seen.
use Rattle.std.specs.Prelude.{◌≡◌, ℕ, ◌+◌, ◌<◌, ◌==◌, ◌⊎◌, List, [], ◌∷◌, ◌++◌, if◌then◌else◌, Some, None, Result, Ok, Err}
use Rattle.turn_rule.specs.{entry, AreOfOthers}
use Rattle.spk_nums.specs.declared.steps.WordOp.TheVariants.{Load, Compare, Add}
use Rattle.async_ends.specs.{declared.asks.Look.Look, declared.endpoint.EndOp.EndOp, declared.endpoint.EndOp.TheVariants.Send}
use Rattle.async_ends.specs.{declared.endpoint.EndOp.TheVariants.Recv, declared.endpoint.EndCall.EndCall}
use Rattle.async_ends.specs.{declared.endpoint.EndReply.EndReply, declared.endpoint.EndReply.TheVariants.Sent}
use Rattle.async_ends.specs.{declared.endpoint.EndReply.TheVariants.Taken, declared.endpoint.EndReply.TheVariants.Raced}
use Rattle.async_ends.specs.{declared.endpoint.EndReply.TheVariants.Refused, Looks.look, Looks.reached, Events.Event, Events.Moves}
use Rattle.async_ends.specs.{Events.IsLegal, Seen.history_of, Tables.EndSeatValue}
use Rattle.{spk_nums.specs.declared.replies.Reply.Reply, turn_rule.specs.declared.view.Entry.Entry}

abbrev pub call_of : EndOp → ℕ → Look → EndCall
call_of op f l = record { op = op; frame = f; look = l }

-- The call at frame f was one step: it added one.
pub record AddsOne (c f : ℕ) (l : Look) (before after : List (Entry EndCall)) : Type 0 where
  pub found : ℕ
  pub others : List (Entry EndCall)
  pub apart : AreOfOthers c others
  pub whole : after ≡ entry c (Add f 1) found (Some (call_of Send f l)) ∷ (others ++ before)

-- The call at frame f was one step: it loaded 0.
pub record FindsNone (c f : ℕ) (l : Look) (before after : List (Entry EndCall)) : Type 0 where
  pub others : List (Entry EndCall)
  pub apart : AreOfOthers c others
  pub whole : after ≡ entry c (Load f) 0 (Some (call_of Recv f l)) ∷ (others ++ before)

-- Some step of these sent to frame f, or took some there.
pub record IsMoved (h : List Event) (f : ℕ) : Type 0 where
  pub since : List Event
  pub by : Event
  pub older : List Event
  pub whole : h ≡ since ++ by ∷ older
  pub there : by.frame ≡ f
  pub moves : Moves by.step

-- What a receive is answered that has loaded a count other than 0, by what its compare found.
abbrev pub compared : ℕ → ℕ → EndReply
compared seen found = if found == seen then Taken seen else Raced

-- The call at frame f was two steps: it loaded a count other than 0, and put 0 in its place by one compare. Where that found another
-- count, other cores had sent to the frame or taken some there between the two.
pub record ComparesIt (c f : ℕ) (l : Look) (r : EndReply) (before after : List (Entry EndCall)) : Type 0 where
  pub seen : ℕ
  pub some : 0 < seen
  pub found : ℕ
  pub is : r ≡ compared seen found
  pub others : List (Entry EndCall)
  pub apart : AreOfOthers c others
  pub between : List (Entry EndCall)
  pub between_apart : AreOfOthers c between
  pub whole : after ≡ entry c (Compare f seen 0) found None
      ∷ (between ++ entry c (Load f) seen (Some (call_of Recv f l)) ∷ (others ++ before))
  pub crossed : r ≡ Raced → IsMoved (history_of between) f

-- The call's own steps at frame f, with those of other cores between them, and its answer. A receive is raced exactly where its compare
-- found another count than its load.
abbrev pub Does : EndOp → ℕ → ℕ → Look → EndReply → List (Entry EndCall) → List (Entry EndCall) → Type 0
Does Send c f l r before after = AddsOne c f l before after × (r ≡ Sent)
Does Recv c f l r before after = (FindsNone c f l before after × (r ≡ Taken 0)) ⊎ ComparesIt c f l r before after

-- What becomes of a call that reached a frame, or was refused.
abbrev pub ComesTo : EndOp → ℕ → Look → Result ℕ Reply → EndReply → List (Entry EndCall) → List (Entry EndCall) → Type 0
ComesTo op c l (Err refusal) r before after = (r ≡ Refused refusal) × (after ≡ before)
ComesTo op c l (Ok f) r before after = Does op c f l r before after

-- The seat's core has made this call at frame f, to which its look has led, and was answered r.
pub record Acts (op : EndOp) (f : ℕ) (l : Look) (r : EndReply) (seat made : EndSeatValue) : Type 0 where
  pub does : Does op seat.core f l r seat.seen made.seen
  pub legal : IsLegal (history_of made.seen)
  pub counted : made.made ≡ seat.made + 1
  pub core : made.core ≡ seat.core
  pub table : made.table ≡ seat.table

-- The seat's core has made a call with this look, and was answered r. What the seat has seen, which is a legal history, has grown by the
-- call's steps, or is the same where the call was refused.
pub record Comes (op : EndOp) (l : Look) (r : EndReply) (seat made : EndSeatValue) : Type 0 where
  pub comes : ComesTo op seat.core l (reached op l.reply) r seat.seen made.seen
  pub legal : IsLegal (history_of made.seen)
  pub counted : made.made ≡ seat.made + 1
  pub core : made.core ≡ seat.core
  pub table : made.table ≡ seat.table

-- The seat's core has made this call with the capability of this number, and was answered r. Its authority's looks have grown by the
-- call's own, and the authority is what that look has made of it.
pub record MakesEndCall (op : EndOp) (number : ℕ) (looks now : List Look) (goes : Look → Type 0) (seat : EndSeatValue) (r : EndReply)
    (made : EndSeatValue) : Type 0 where
  pub looked : Reply
  pub asks : now ≡ looks ++ look number looked ∷ []
  pub led : goes (look number looked)
  pub comes : Comes op (look number looked) r seat made
