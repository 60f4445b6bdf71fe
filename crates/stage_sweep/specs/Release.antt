-- The steps that release the frozen counters of a frame again, one store each.
use Rattle.std.specs.Prelude.{ℕ, pos, ◌+◌, ◌<◌, ◌≤◌, ◌==◌, nat_lt, Bool, false, true, Option, Some, None, length, slice_get, if◌then◌else◌}
use Rattle.stage_look.specs.word_map.specs.{CountAt, Shape, Move, StoreOf}
use Rattle.stage_look.specs.spk_nums.specs.declared.steps.StageEnd.TheVariants.{Going, Done}
use Rattle.stage_pins.specs.frame_words.specs.{Count.word_of_count, declared.count_word.CountWord.CountWord}
use Rattle.stage_sweep.specs.{Counters.counters_of, declared.sweep.Swept.Swept, declared.thaw.Thaw.Thaw}
use Rattle.{stage_look.specs.spk_nums.specs.declared.steps.StageEnd.StageEnd, stage_pins.specs.Counts.unheld}

-- the counter that is stored next is one of the frozen ones
pub record ThawFits (s : Shape) (t : Thaw) : Type 0 where
  pub frame : t.frame < s.frames
  pub at : t.at < length t.words
  pub words : length t.words ≤ counters_of s

-- a counter is released as it was found, or with no count and no stamp where the frame is cleared
abbrev pub released : Bool → Option CountWord → CountWord
released true v = unheld (pos 0) 0
released false None = unheld (pos 0) 0
released false (Some v) = unheld v.count v.stamp

-- the next step stores the counter, held by no core
abbrev pub thaw_move : Thaw → Move
thaw_move t = StoreOf (CountAt t.frame t.at) (word_of_count (released t.clear (slice_get t.words t.at)))

abbrev pub more_end : Bool → StageEnd (Unit {0})
more_end more = if more then Going else Done tt

-- the last store is done
abbrev pub thaw_end : Thaw → StageEnd (Unit {0})
thaw_end t = more_end (nat_lt (t.at + 1) (length t.words))

abbrev pub at_next : Bool → ℕ → ℕ
at_next more at = if more then at + 1 else at

abbrev pub thaw_after : Thaw → Thaw
thaw_after t = record { frame = t.frame; words = t.words; clear = t.clear; at = at_next (nat_lt (t.at + 1) (length t.words)) t.at }

-- the release of a sweep's counters from the first on, where one was frozen
abbrev pub thaw_of : Swept → Bool → Option Thaw
thaw_of w clear = if length w.words == 0 then None else Some (record { frame = w.frame; words = w.words; clear = clear; at = 0 })
