-- The steps by which a core notes that it has flushed.
use Rattle.word_map.specs.{FlushAt, ClockAt, Shape, Move, LoadOf, StoreOf}
use Rattle.std.specs.Prelude.{ℕ, ◌<◌}
use Rattle.word_map.specs.spk_nums.specs.{declared.steps.StageEnd.StageEnd, declared.steps.StageEnd.TheVariants.Decided}
use Rattle.word_map.specs.spk_nums.specs.{declared.steps.StageEnd.TheVariants.Done, declared.replies.Reply.Reply}
use Rattle.word_map.specs.spk_nums.specs.{declared.replies.Value.Value}
use Rattle.frame_words.specs.Flush.{word_of_flush}
use Rattle.stage_quiet.specs.{Clocks.stamp_of_clock, declared.flush_mark.FlushMark.FlushMark}
use Rattle.stage_quiet.specs.{declared.flush_mark.FlushMark.TheVariants.AtLoad, declared.flush_mark.FlushMark.TheVariants.AtStore}

-- the core is one of the machine
abbrev pub FlushMarkFits : Shape → FlushMark → Type 0
FlushMarkFits s (AtLoad core) = core < s.cores
FlushMarkFits s (AtStore core stamp) = core < s.cores

-- the next step loads the clock, then stores the core's flush word with its stamp
abbrev pub flush_move : FlushMark → Move
flush_move (AtLoad core) = LoadOf ClockAt
flush_move (AtStore core stamp) = StoreOf (FlushAt core) (word_of_flush (record { stamp = stamp }))

-- what a step leads to: the load decides the flush
abbrev pub flush_end : FlushMark → StageEnd (Unit {0})
flush_end (AtLoad core) = Decided (Reply.Ok Value.Nothing)
flush_end (AtStore core stamp) = Done tt

-- where it stands after a step that finds this word
abbrev pub flush_after : FlushMark → ℕ → FlushMark
flush_after (AtLoad core) found = AtStore core (stamp_of_clock found)
flush_after (AtStore core stamp) found = AtStore core stamp
