-- The steps by which a core acquires its count of a frame, and what each takes from the word that it finds.
use Rattle.std.specs.Prelude.{ℕ, ℤ, ◌<◌, ◌==◌, Bool, Option, Some, None, if◌then◌else◌}
use Rattle.word_map.specs.{CountAt, Shape, Move, LoadOf, CompareOf, StoreOf, AddOf}
use Rattle.frame_words.specs.{NumberFits, word_of_count, count_of_word}
use Rattle.word_map.specs.spk_nums.specs.declared.steps.StageEnd.TheVariants.{Going, Decided, Done, Refuse}
use Rattle.frame_words.specs.{declared.count_word.CountWord.CountWord, declared.count_word.Hold.Hold}
use Rattle.stage_pins.specs.{Counts.unheld, Counts.acquired, declared.pin.Pin.Pin, declared.pin.Pin.TheVariants.AtLoad}
use Rattle.stage_pins.specs.{declared.pin.Pin.TheVariants.AtCompare, declared.pin.Pinned.Pinned}
use Rattle.{word_map.specs.spk_nums.specs.declared.steps.StageEnd.StageEnd, word_map.specs.spk_nums.specs.declared.replies.Reply.Reply}

-- a count that was found is within its range
abbrev pub PinCounts : Pin → Type 0
PinCounts (AtLoad frame core) = Unit {0}
PinCounts (AtCompare frame core count stamp) = NumberFits count

-- the count is that of a frame and a core of the machine, and a count that was found is within its range
abbrev pub PinFits : Shape → Pin → Type 0
PinFits s (AtLoad frame core) = (frame < s.frames) × (core < s.cores)
PinFits s (AtCompare frame core count stamp) = (frame < s.frames) × (core < s.cores) × NumberFits count

-- the next step loads the core's count word, then puts the word that the core has acquired in the place of the one that was found
abbrev pub pin_move : Pin → Move
pin_move (AtLoad frame core) = LoadOf (CountAt frame core)
pin_move (AtCompare frame core count stamp) =
    CompareOf (CountAt frame core) (word_of_count (unheld count stamp)) (word_of_count (acquired core count stamp))

-- the word that a step expects, if it is a compare
abbrev pub expected_by : Move → Option ℕ
expected_by (LoadOf w) = None
expected_by (CompareOf w expected new) = Some expected
expected_by (StoreOf w new) = None
expected_by (AddOf w by) = None

-- a word that a core holds is busy
abbrev pub end_by_hold : Hold → StageEnd Pinned
end_by_hold Hold.Unheld = Going
end_by_hold (Hold.Pinned by) = Refuse (Reply.Busy by)
end_by_hold (Hold.Closed by) = Refuse (Reply.Busy by)

-- what the loaded word leads to
abbrev pub load_end : Option CountWord → StageEnd Pinned
load_end None = Refuse Reply.Raced
load_end (Some v) = end_by_hold v.hold

-- the count that a core has acquired: the word as it was found, held by no core
abbrev pub pinned_at : ℕ → ℕ → ℤ → ℕ → Pinned
pinned_at frame core count stamp = record { frame = frame; core = core; word = unheld count stamp }

-- what the compare leads to, where it did or did not find the word that was loaded
abbrev pub compare_end : Bool → Pinned → StageEnd Pinned
compare_end same pin = if same then Done pin else Refuse Reply.Raced

-- what a step leads to that finds this word
abbrev pub pin_end : Pin → ℕ → StageEnd Pinned
pin_end (AtLoad frame core) found = load_end (count_of_word found)
pin_end (AtCompare frame core count stamp) found =
    compare_end (found == word_of_count (unheld count stamp)) (pinned_at frame core count stamp)

-- where it stands after a load of a word that is held thus
abbrev pub after_hold : ℕ → ℕ → ℤ → ℕ → Hold → Pin
after_hold frame core count stamp Hold.Unheld = AtCompare frame core count stamp
after_hold frame core count stamp (Hold.Pinned by) = AtLoad frame core
after_hold frame core count stamp (Hold.Closed by) = AtLoad frame core

-- where it stands after a load of this word
abbrev pub after_load : ℕ → ℕ → Option CountWord → Pin
after_load frame core None = AtLoad frame core
after_load frame core (Some v) = after_hold frame core v.count v.stamp v.hold

-- where it stands after a step that finds this word
abbrev pub pin_after : Pin → ℕ → Pin
pin_after (AtLoad frame core) found = after_load frame core (count_of_word found)
pin_after (AtCompare frame core count stamp) found = AtCompare frame core count stamp

-- an acquired count is that of a frame and a core of the machine, and within its range
pub record PinnedFits (s : Shape) (pin : Pinned) : Type 0 where
  pub frame : pin.frame < s.frames
  pub core : pin.core < s.cores
  pub count : NumberFits pin.word.count

-- what a step led to has such a count, if it has one
abbrev pub EndFits : Shape → StageEnd Pinned → Type 0
EndFits s Going = Unit {0}
EndFits s (Decided r) = Unit {0}
EndFits s (Done pin) = PinnedFits s pin
EndFits s (Refuse r) = Unit {0}
