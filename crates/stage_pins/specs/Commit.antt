-- The step that commits an acquired count.
use Rattle.word_map.specs.{CountAt, Shape, Move, StoreOf}
use Rattle.frame_words.specs.{Count.word_of_count, declared.count_word.CountWord.CountWord}
use Rattle.stage_pins.specs.{Counts.unheld, Counts.changed, Counts.later, Acquire.PinnedFits, declared.settle.Settle.Settle}

-- the count to be committed is that of a frame and a core of the machine, and within its range
abbrev pub SettleFits : Shape → Settle → Type 0
SettleFits s c = PinnedFits s c.pin

-- the word that is committed: held by no core, with the changed count and the later stamp
abbrev pub settled_word : Settle → CountWord
settled_word c = unheld (changed c.pin.word.count c.change) (later c.pin.word.stamp c.stamp)

-- the step stores the word in the place of the acquired one
abbrev pub settle_move : Settle → Move
settle_move c = StoreOf (CountAt c.pin.frame c.pin.core) (word_of_count (settled_word c))
