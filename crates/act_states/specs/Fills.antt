-- The act that fills a place.
use Rattle.std.specs.Prelude.{◌==◌, ◌<◌, if◌then◌else◌}
use Rattle.stage_tcap.specs.{ℕ, None, Bool, Nothing as nothing, EntryAt, Shape, Move, CompareOf}
use Rattle.stage_sweep.specs.entry_words.specs.{EntryWord.word_of_entry, declared.entry.Entry.TheVariants.Held}
use Rattle.act_states.specs.{declared.refusals.Refusal.TheVariants.Raced, declared.fills.Fill.Fill, declared.work.Tail.TheVariants.Nothing}
use Rattle.act_states.specs.{declared.work.WorkStep.WorkStep, declared.work.WorkStep.TheVariants.Refuses}
use Rattle.{stage_sweep.specs.stage_look.specs.Shown.CapNames, act_states.specs.declared.work.WorkStep.TheVariants.Answers}

-- it names frames of the machine
pub record FillFits (s : Shape) (fill : Fill) : Type 0 where
  pub node : fill.node < s.frames
  pub entry : fill.entry < 64
  pub cap : CapNames s.frames fill.cap

-- the place's word is compared with the one found
abbrev pub fill_move : Fill → Move
fill_move fill = CompareOf (EntryAt fill.node fill.entry) fill.word (word_of_entry (Held fill.cap))

-- the compare is won or lost
abbrev pub filled_if : Bool → WorkStep
filled_if equal = if equal then Answers nothing None Nothing else Refuses Raced Nothing

abbrev pub took_fill : Fill → ℕ → WorkStep
took_fill fill found = filled_if (found == fill.word)
