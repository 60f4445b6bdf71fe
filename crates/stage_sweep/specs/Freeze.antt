-- The steps of a sweep: it freezes the counters of a frame in order, judges their sum, scans for the latest of their stamps, and looks
-- whether the object is empty.
use Rattle.std.specs.Prelude.{ℕ, ℤ, ◌+◌, ◌<◌, ◌==◌, nat_lt, Bool, Option, Some, None, List, [], ◌∷◌, ◌++◌, length, if◌then◌else◌}
use Rattle.stage_look.specs.word_map.specs.{CountAt, EntryAt, Shape, Move, LoadOf, CompareOf}
use Rattle.stage_quiet.specs.{QuietFits, quiet_move, quiet_scan, quiet_end, quiet_after}
use Rattle.stage_pins.specs.frame_words.specs.{NumberFits, word_of_count, count_of_word, residue}
use Rattle.stage_look.specs.spk_nums.specs.{declared.kinds.Obj.Obj, declared.replies.Reply.Reply, declared.steps.StageEnd.StageEnd}
use Rattle.stage_look.specs.spk_nums.specs.{declared.steps.StageEnd.TheVariants.Going, declared.steps.StageEnd.TheVariants.Decided}
use Rattle.stage_look.specs.spk_nums.specs.{declared.steps.StageEnd.TheVariants.Done, declared.steps.StageEnd.TheVariants.Refuse}
use Rattle.stage_pins.specs.frame_words.specs.{declared.count_word.CountWord.CountWord, declared.count_word.Hold.Hold}
use Rattle.stage_pins.specs.frame_words.specs.{declared.count_word.Hold.TheVariants.Unheld, declared.count_word.Hold.TheVariants.Pinned}
use Rattle.stage_pins.specs.frame_words.specs.{declared.count_word.Hold.TheVariants.Closed, declared.frame_word.FrameWord.FrameWord}
use Rattle.stage_sweep.specs.{Counters.counters_of, Counters.sum_of_counts, Counters.latest_stamp, Emptiness.loads_of}
use Rattle.stage_sweep.specs.{Emptiness.may_be_cached, Emptiness.empty_refuses, Emptiness.owned_after, declared.empty.Owned.Owned}
use Rattle.stage_sweep.specs.{declared.sweep.Sweep.Sweep, declared.sweep.SweepAt.SweepAt, declared.sweep.SweepAt.TheVariants.Load}
use Rattle.stage_sweep.specs.{declared.sweep.SweepAt.TheVariants.Compare, declared.sweep.SweepAt.TheVariants.Scan}
use Rattle.stage_sweep.specs.{declared.sweep.SweepAt.TheVariants.Empty, declared.sweep.Swept.Swept}
use Rattle.{stage_pins.specs.Counts.unheld, stage_quiet.specs.declared.quiet.Quiet.Quiet}

-- a count word that a core has frozen
abbrev pub frozen : ℕ → ℤ → ℕ → CountWord
frozen core count stamp = record { hold = Closed core; count = count; stamp = stamp }

-- the counter, the core or the entry that is looked at next is one of the machine, and a count that was found is within its range
abbrev pub AtFits : Shape → List CountWord → SweepAt → Type 0
AtFits s kept Load = length kept < counters_of s
AtFits s kept (Compare count stamp) = (length kept < counters_of s) × NumberFits count
AtFits s kept (Scan q) = QuietFits s q
AtFits s kept (Empty entry) = entry < 64

-- the frame is one of the machine, and so is the core that sweeps it
pub record SweepFits (s : Shape) (w : Sweep) : Type 0 where
  pub frame : w.frame < s.frames
  pub core : w.core < s.cores
  pub at : AtFits s w.kept w.at

-- the next step loads the first counter that is not frozen, or freezes it, or scans, or loads a word of the object
abbrev pub move_at : ℕ → ℕ → ℕ → SweepAt → Move
move_at frame core counter Load = LoadOf (CountAt frame counter)
move_at frame core counter (Compare count stamp) =
    CompareOf (CountAt frame counter) (word_of_count (unheld count stamp)) (word_of_count (frozen core count stamp))
move_at frame core counter (Scan q) = quiet_move q
move_at frame core counter (Empty entry) = LoadOf (EntryAt frame entry)

abbrev pub sweep_move : Sweep → Move
sweep_move w = move_at w.frame w.core (length w.kept) w.at

-- the counter that a step which finds this word has frozen, if it has one, as it was found
abbrev pub frozen_if : Bool → CountWord → Option CountWord
frozen_if same v = if same then Some v else None

abbrev pub frozen_at : SweepAt → ℕ → Option CountWord
frozen_at Load found = None
frozen_at (Compare count stamp) found = frozen_if (found == word_of_count (unheld count stamp)) (unheld count stamp)
frozen_at (Scan q) found = None
frozen_at (Empty entry) found = None

-- it is kept after the others
abbrev pub kept_with : List CountWord → Option CountWord → List CountWord
kept_with kept None = kept
kept_with kept (Some v) = kept ++ v ∷ []

-- a counter that a core holds is busy
abbrev pub hold_refuses : Hold → Option Reply
hold_refuses Unheld = None
hold_refuses (Pinned by) = Some (Reply.Busy by)
hold_refuses (Closed by) = Some (Reply.Busy by)

abbrev pub load_refuses : Option CountWord → Option Reply
load_refuses None = Some Reply.Raced
load_refuses (Some v) = hold_refuses v.hold

-- a sum that is not 0, modulo 2 ^ 16, is the number of references that stand
abbrev pub some_referenced : Bool → ℕ → Option Reply
some_referenced none n = if none then None else Some (Reply.Referenced n)

abbrev pub sum_refuses : ℤ → Option Reply
sum_refuses sum = some_referenced (residue sum == 0) (residue sum)

-- a compare is lost, or the last counter is frozen and references stand
abbrev pub compare_refuses : Bool → Bool → ℤ → Option Reply
compare_refuses same more sum = if same then (if more then None else sum_refuses sum) else Some Reply.Raced

-- the refusal of a scan
abbrev pub refusal_of : StageEnd (Unit {0}) → Option Reply
refusal_of Going = None
refusal_of (Decided r) = None
refusal_of (Done u) = None
refusal_of (Refuse r) = Some r

-- what a compare expects is a count within its range
abbrev pub StepFits : SweepAt → Type 0
StepFits Load = Unit {0}
StepFits (Compare count stamp) = NumberFits count
StepFits (Scan q) = Unit {0}
StepFits (Empty entry) = Unit {0}

-- and there is room for the counter that it freezes
abbrev pub KeepFits : List CountWord → SweepAt → Type 0
KeepFits kept Load = Unit {0}
KeepFits kept (Compare count stamp) = (length kept < 8) × NumberFits count
KeepFits kept (Scan q) = Unit {0}
KeepFits kept (Empty entry) = Unit {0}

-- what a scan or the object's next load is on is a word of the machine
abbrev pub TookFits : Shape → SweepAt → Type 0
TookFits s Load = Unit {0}
TookFits s (Compare count stamp) = NumberFits count
TookFits s (Scan q) = QuietFits s q
TookFits s (Empty entry) = entry < 64

-- the refusal to which a step leads that finds this word, if it does to one; `kept` are the counters kept after it
abbrev pub refuses_at : Shape → Obj → List CountWord → SweepAt → ℕ → Option Reply
refuses_at s object kept Load found = load_refuses (count_of_word found)
refuses_at s object kept (Compare count stamp) found =
    compare_refuses (found == word_of_count (unheld count stamp)) (nat_lt (length kept) (counters_of s)) (sum_of_counts kept)
refuses_at s object kept (Scan q) found = refusal_of (quiet_end s.cores q found)
refuses_at s object kept (Empty entry) found = empty_refuses s.frames object entry found

-- after a load the counter is compared
abbrev pub load_next : Option CountWord → Option SweepAt
load_next None = None
load_next (Some v) = Some (Compare v.count v.stamp)

-- after the scans the object is looked at, where it has words to look at
abbrev pub empty_next : Obj → Option SweepAt
empty_next object = if loads_of object == 0 then None else Some (Empty 0)

abbrev pub scan_next : Obj → Option Quiet → Option SweepAt
scan_next object None = empty_next object
scan_next object (Some q) = Some (Scan q)

-- after a counter the next one is loaded, and after the last the scan begins
abbrev pub compare_next : Bool → Obj → Option Quiet → Option SweepAt
compare_next more object scan = if more then Some Load else scan_next object scan

abbrev pub scan_goes : Obj → StageEnd (Unit {0}) → Quiet → Option SweepAt
scan_goes object Going q = Some (Scan q)
scan_goes object (Decided r) q = None
scan_goes object (Done u) q = empty_next object
scan_goes object (Refuse r) q = None

-- where a sweep stands after a step that finds this word, where it goes on; `kept` are the counters kept after it
abbrev pub next_at : Shape → FrameWord → ℕ → List CountWord → SweepAt → ℕ → Option SweepAt
next_at s word core kept Load found = load_next (count_of_word found)
next_at s word core kept (Compare count stamp) found = compare_next (nat_lt (length kept) (counters_of s))
    word.object (quiet_scan (latest_stamp kept) core s.cores (may_be_cached word.kind word.object))
next_at s word core kept (Scan q) found = scan_goes word.object (quiet_end s.cores q found) (quiet_after s.cores q found)
next_at s word core kept (Empty entry) found = if nat_lt (entry + 1) (loads_of word.object) then Some (Empty (entry + 1)) else None

-- the frames known to be named by the object after a step that finds this word
abbrev pub owned_at : Shape → Obj → SweepAt → ℕ → Owned → Owned
owned_at s object Load found o = o
owned_at s object (Compare count stamp) found o = o
owned_at s object (Scan q) found o = o
owned_at s object (Empty entry) found o = owned_after s.frames object entry found o

-- what a step that finds this word leads to
abbrev pub sweep_kept : Sweep → ℕ → List CountWord
sweep_kept w found = kept_with w.kept (frozen_at w.at found)

abbrev pub sweep_refuses : Shape → Sweep → ℕ → Option Reply
sweep_refuses s w found = refuses_at s w.word.object (sweep_kept w found) w.at found

abbrev pub sweep_next : Shape → Sweep → ℕ → Option SweepAt
sweep_next s w found = next_at s w.word w.core (sweep_kept w found) w.at found

-- a sweep with what the step has frozen
abbrev pub kept_by : Sweep → ℕ → Sweep
kept_by w found = record { frame = w.frame; word = w.word; core = w.core; kept = sweep_kept w found; owned = w.owned; at = w.at }

-- it stays where it is at its end
abbrev pub at_after : SweepAt → Option Reply → Option SweepAt → SweepAt
at_after at (Some r) next = at
at_after at None None = at
at_after at None (Some next) = next

-- where a sweep stands after a step that finds this word
abbrev pub sweep_after : Shape → Sweep → ℕ → Sweep
sweep_after s w found = record {
  frame = w.frame;
  word = w.word;
  core = w.core;
  kept = sweep_kept w found;
  owned = owned_at s w.word.object w.at found w.owned;
  at = at_after w.at (sweep_refuses s w found) (sweep_next s w found);
}

-- what a sweep has found so far
abbrev pub swept_of : Sweep → Swept
swept_of w = record { frame = w.frame; sum = sum_of_counts w.kept; stamp = latest_stamp w.kept; words = w.kept; owned = w.owned }

abbrev pub end_by : Option Reply → Option SweepAt → Swept → StageEnd Swept
end_by (Some r) next swept = Refuse r
end_by None (Some at) swept = Going
end_by None None swept = Done swept

-- what a step leads to that finds this word
abbrev pub sweep_end : Shape → Sweep → ℕ → StageEnd Swept
sweep_end s w found = end_by (sweep_refuses s w found) (sweep_next s w found) (swept_of (sweep_after s w found))
