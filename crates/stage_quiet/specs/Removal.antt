-- The steps of a removal, from the compare of the entry to the store of the quiescing one.
use Rattle.word_map.specs.{EntryAt, ClockAt, Shape, Move, CompareOf, StoreOf, AddOf}
use Rattle.std.specs.Prelude.{ℕ, ◌<◌, ◌≤◌, ◌==◌, Bool, if◌then◌else◌}
use Rattle.word_map.specs.spk_nums.specs.{declared.steps.StageEnd.StageEnd, declared.steps.StageEnd.TheVariants.Going}
use Rattle.word_map.specs.spk_nums.specs.{declared.steps.StageEnd.TheVariants.Decided, declared.steps.StageEnd.TheVariants.Done}
use Rattle.word_map.specs.spk_nums.specs.{declared.steps.StageEnd.TheVariants.Refuse, declared.replies.Reply.Reply}
use Rattle.word_map.specs.spk_nums.specs.{declared.replies.Value.Value}
use Rattle.entry_words.specs.{EntryWord.word_of_entry, declared.entry.Entry.TheVariants.Closing, declared.entry.Entry.TheVariants.Quiescing}
use Rattle.stage_quiet.specs.{Clocks.drawn_stamp, declared.close.Close.Close, declared.close.Close.TheVariants.AtCompare}
use Rattle.stage_quiet.specs.{declared.close.Close.TheVariants.AtDraw, declared.close.Close.TheVariants.AtStore}

-- the entry is that of a node of the machine, and a stamp that was drawn is at least 1
abbrev pub CloseFits : Shape → Close → Type 0
CloseFits s (AtCompare node entry word core) = (node < s.frames) × (entry < 64)
CloseFits s (AtDraw node entry) = (node < s.frames) × (entry < 64)
CloseFits s (AtStore node entry stamp) = (node < s.frames) × (entry < 64) × (1 ≤ stamp)

-- the next step puts the core's mark in the place of the entry, then draws a stamp, then stores the entry that quiesces since that stamp
abbrev pub close_move : Close → Move
close_move (AtCompare node entry word core) = CompareOf (EntryAt node entry) word (word_of_entry (Closing core))
close_move (AtDraw node entry) = AddOf ClockAt 1
close_move (AtStore node entry stamp) = StoreOf (EntryAt node entry) (word_of_entry (Quiescing stamp))

-- what the compare leads to, where it did or did not find the entry
abbrev pub close_compared : Bool → StageEnd ℕ
close_compared same = if same then Going else Refuse Reply.Raced

-- what a step leads to that finds this word: the draw decides the removal
abbrev pub close_end : Close → ℕ → StageEnd ℕ
close_end (AtCompare node entry word core) found = close_compared (found == word)
close_end (AtDraw node entry) found = Decided (Reply.Ok Value.Nothing)
close_end (AtStore node entry stamp) found = Done stamp

-- where it stands after the compare, which did or did not find the entry
abbrev pub close_at : Bool → ℕ → ℕ → ℕ → ℕ → Close
close_at same node entry word core = if same then AtDraw node entry else AtCompare node entry word core

-- where it stands after a step that finds this word
abbrev pub close_after : Close → ℕ → Close
close_after (AtCompare node entry word core) found = close_at (found == word) node entry word core
close_after (AtDraw node entry) found = AtStore node entry (drawn_stamp found)
close_after (AtStore node entry stamp) found = AtStore node entry stamp
