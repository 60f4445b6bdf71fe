-- What is known of a core's calls, and of the newest change of a word.
use Rattle.std.specs.Prelude.{◌+◌, ◌==◌, if◌then◌else◌}
use Rattle.word_texts.specs.step_views.specs.kernel_history.specs.{ℕ, ltb as nat_lt, leb as nat_le, Bool, List, replicate}
use Rattle.word_texts.specs.step_views.specs.kernel_history.specs.{get_or as slice_index_or, Option, Some, None, Call, Reply}
use Rattle.picture_shapes.specs.declared.lines.Outcome.{Outcome}
use Rattle.picture_shapes.specs.declared.lines.Outcome.TheVariants.{Done, Refused, InTheWay}
use Rattle.page_layers.specs.{declared.lanes.Lane.Lane, declared.lanes.Change.Change}

-- A core that has entered no call.
abbrev pub no_call : Lane
no_call = record {
  index = 0;
  call = None;
  entered = 0;
  reply = None;
  decided = 0;
  returned = 0;
  others = replicate 8 0;
  top = 0;
}

-- A core's calls after its step n, with its events one after another: at an entry it is also kept which step was the last return of
-- each core, and how high the entry is.
abbrev pub lane_entered : Option Call → ℕ → List ℕ → Lane → Lane
lane_entered None n others l = l
lane_entered (Some call) n others l = record {
  index = l.index + 1;
  call = Some call;
  entered = n;
  reply = None;
  decided = 0;
  returned = l.returned;
  others = others;
  top = l.top;
}

abbrev pub lane_decided : Option Reply → ℕ → Lane → Lane
lane_decided None n l = l
lane_decided (Some r) n l = record l { reply = Some r; decided = n }

abbrev pub lane_topped : Option Call → ℕ → Lane → Lane
lane_topped None y l = l
lane_topped (Some call) y l = record l { top = y }

abbrev pub lane_returned : Option Reply → ℕ → Lane → Lane
lane_returned None n l = l
lane_returned (Some r) n l = record l { call = None; returned = n }

-- The change was made in a call that had not returned when this call was entered: the two overlap.
abbrev pub overlaps : Lane → Change → Bool
overlaps l c = nat_lt (slice_index_or l.others c.core 0) c.step

-- How a call ends by its reply. Another is in the way where the core has lost a race, or waits for another's mark, grace period, flush,
-- thread or references.
abbrev pub outcome : Reply → Outcome
outcome (Reply.Ok v) = Done
outcome Reply.Raced = InTheWay
outcome (Reply.Busy d) = InTheWay
outcome (Reply.Quiescing e) = InTheWay
outcome (Reply.Unflushed e) = InTheWay
outcome (Reply.Running e) = InTheWay
outcome (Reply.Referenced k) = InTheWay
outcome r = Refused

-- The height at which the bar of a call begins, that of its name, and that of a change, where so many steps lie before the page.
abbrev pub top_y : ℕ → Lane → ℕ
top_y first l = if nat_le l.entered first then 142 else l.top

abbrev pub name_y : ℕ → Lane → ℕ
name_y first l =
    if nat_le l.entered first then 164
    else if l.decided == l.entered then l.top + 19
    else l.top + 11

abbrev pub change_y : ℕ → Change → ℕ
change_y first c = if nat_le c.step first then 145 else c.y
