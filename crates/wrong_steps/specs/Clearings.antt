-- A wrong retype to untyped leaves the counters of its frame.
use Rattle.std.specs.Prelude.{◌≡◌, ◌∷◌}
use Rattle.kernel_history.specs.{ℕ, true, [], pos, Some, None, Retype, Nothing as nothing, word_of_count, word_of_frame, Hold}
use Rattle.kernel_history.specs.{Unheld, Closed, FrameAt, CountAt, ClockAt, LoadOf, CompareOf, AddOf, RepresentCounts, IsLegal, Out, phase}
use Rattle.kernel_history.specs.{state_after, last_left, two_cores, enters, goes, decides, loads, returns, done, FrameKind}
use Rattle.act_states.specs.{unheld, drawn_stamp, typed, release_of, release_after}
use Rattle.act_states.specs.{Untypings.held_by, Untypings.release_move, declared.untypings.Release.Release, declared.work.Tail.Tail}
use Rattle.act_states.specs.{declared.work.Tail.TheVariants.Release as release_tail, declared.work.WorkStep.WorkStep}
use Rattle.{kernel_history.specs.spk_nums.specs.declared.kinds.Obj.TheVariants.Blank, kernel_history.specs.Trace.Trace}
use Rattle.{act_states.specs.declared.work.WorkStep.TheVariants.Answers, wrong_steps.specs.Acts.acts}

-- The word of frame 8 as a user frame, and its count words of no reference, held thus.
abbrev pub user_word : ℕ
user_word = word_of_frame (typed FrameKind.User)

abbrev pub no_reference : Hold → ℕ
no_reference hold = word_of_count (record { hold = hold; count = pos 0; stamp = 0 })

-- Core 0 makes frame 8 a user frame.
unfoldable pub made_user : Trace
made_user =
    decides 0 (CompareOf (FrameAt 8) 0 user_word) done (loads 0 1 0 (loads 0 0 0 (enters 0 (Retype 0 8 FrameKind.User) [])))

-- Core 0 freezes one of the frame's count words.
abbrev pub freezes : ℕ → Trace → Trace
freezes d t = goes 0 (CompareOf (CountAt 8 d) (no_reference Unheld) (no_reference (Closed 0))) (goes 0 (LoadOf (CountAt 8 d)) t)

-- It makes frame 8 untyped again: it marks it, and freezes both its count words.
unfoldable pub counts_frozen : Trace
counts_frozen =
    freezes 1 (freezes 0 (goes 0 (CompareOf (FrameAt 8) user_word (word_of_frame (held_by 0 FrameKind.User Blank)))
    (goes 0 (LoadOf (FrameAt 8))
    (loads 0 1 0 (loads 0 0 0 (enters 0 (Retype 0 8 FrameKind.Untyped) (returns 0 done made_user)))))))

-- What a right step then leaves to be stored: the count words, cleared, and after them the frame's word.
abbrev pub clears : Release
clears = release_of 8 (word_of_frame (typed FrameKind.Untyped)) (record {
  frame = 8;
  sum = pos 0;
  stamp = 0;
  words = unheld (pos 0) 0 ∷ unheld (pos 0) 0 ∷ [];
  owned = record { first = None; second = None };
}) true

-- Wrong: the frame's word alone is left to be stored.
abbrev pub leaves : Release
leaves = record clears { thaw = None }

abbrev pub draws : ℕ → WorkStep
draws found = Answers nothing (Some (drawn_stamp found)) (release_tail leaves)

-- What is stored after the first store, if something is left.
abbrev pub stores : Tail → Trace → Trace
stores (release_tail release) t = goes 0 (release_move release) t
stores _ t = t

-- It draws, is carried out, stores what it has left, and returns.
unfoldable pub left_frozen : Trace
left_frozen = returns 0 done (stores (release_after leaves) (goes 0 (release_move leaves) (acts 0 (AddOf ClockAt 1) draws counts_frozen)))

pub record RetypesLeaveCounts : Type 0 where
  pub legal : IsLegal two_cores left_frozen
  pub out : (phase left_frozen 0 ≡ Out) × (phase left_frozen 1 ≡ Out)
  pub refused : RepresentCounts (last_left two_cores left_frozen) (state_after two_cores left_frozen) → ⊥
