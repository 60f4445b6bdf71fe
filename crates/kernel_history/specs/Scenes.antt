-- Worked traces of two cores, built step by step: what the definitions of a legal history, of its discipline, its footprints, its
-- bounds, its order and its words are seen to refuse.
use Rattle.std.specs.Prelude.{◌∷◌}
use Rattle.kernel_rules.specs.{ℕ, Bool, leb as nat_le, [], List, Some, None, whole_copy, cap_of, Setting, FrameKind, Call, Nothing}
use Rattle.kernel_rules.specs.{Cap, Reply, Kind}
use Rattle.word_map.specs.{EntryAt, FrameAt, CoreAt, ClockAt, Move, LoadOf, CompareOf, StoreOf, AddOf, word_of}
use Rattle.kernel_history.specs.Trace.{Trace, steps_in_call, last_left}
use Rattle.{entry_words.specs.EntryWord.word_of_entry, entry_words.specs.declared.entry.Entry.Entry, word_map.specs.Word.Word}

-- Frames 0 and 1 have the table of capabilities and its leaf, whose places 0 to 3 name the range of the frames 8 to 31, the table,
-- the pages and the component of frame 3; 4 and 5 are the cores' threads, and 6 and 7 their temporal capabilities.
unfoldable pub two_cores : Setting
two_cores = record {
  cores = 2;
  frames = 32;
  grants = record { budget = 100; sched = 0; quality = 1 } ∷ record { budget = 100; sched = 0; quality = 1 } ∷ [];
  calls = 4194304;
  epochs = 65535;
}

-- What a step on a word finds there: what was left.
abbrev pub there : Trace → Word → ℕ
there t w = last_left two_cores t w

-- One more step of core c: it enters a call, as its word says from then on; it makes an operation; it decides its call at one; it
-- returns.
abbrev pub enters : ℕ → Call → Trace → Trace
enters c k t =
    record { core = c; move = StoreOf (CoreAt c) 1; found = there t (CoreAt c); enters = Some k; decides = None; returns = None } ∷ t

abbrev pub goes : ℕ → Move → Trace → Trace
goes c m t = record { core = c; move = m; found = there t (word_of m); enters = None; decides = None; returns = None } ∷ t

abbrev pub decides : ℕ → Move → Reply → Trace → Trace
decides c m r t = record { core = c; move = m; found = there t (word_of m); enters = None; decides = Some r; returns = None } ∷ t

abbrev pub returns : ℕ → Reply → Trace → Trace
returns c r t =
    record { core = c; move = StoreOf (CoreAt c) 2; found = there t (CoreAt c); enters = None; decides = None; returns = Some r } ∷ t

-- Core c loads the entry of a place.
abbrev pub loads : ℕ → ℕ → ℕ → Trace → Trace
loads c f i t = goes c (LoadOf (EntryAt f i)) t

-- Core 0 enters a call, and makes one operation.
abbrev pub one_step : Call → Move → Trace
one_step k m = goes 0 m (enters 0 k [])

-- The word of a place that holds the range.
unfoldable pub range_word : ℕ
range_word = word_of_entry (Entry.Held (cap_of Kind.Range 8 24))

-- The mark of core c in the entry of a place.
unfoldable pub mark_word : ℕ → ℕ
mark_word c = word_of_entry (Entry.Closing c)

abbrev pub done : Reply
done = Reply.Ok Nothing

abbrev pub range_found : Reply
range_found = Reply.Ok (Cap (cap_of Kind.Range 8 24))

-- Core 0 retypes frame 8, which it finds untyped, and has not returned.
unfoldable pub retyped : FrameKind → ℕ → Trace
retyped k word = decides 0 (CompareOf (FrameAt 8) 0 word) done (loads 0 1 0 (loads 0 0 0 (enters 0 (Call.Retype 0 8 k) [])))

-- A copy of the range to place 20 that has read its names, both in leaf 1.
unfoldable pub named : Trace
named = loads 0 1 1 (loads 0 1 0 (loads 0 0 0 (enters 0 (whole_copy 0 1 20) [])))

-- A copy that has read the table's name, and not the range's.
unfoldable pub half_named : Trace
half_named = loads 0 1 1 (loads 0 0 0 (enters 0 (whole_copy 0 1 20) []))

-- Core 0 has read its names for a copy to place 20; core 1 is copying to place 21, and has put its mark there.
unfoldable pub marked_beside : Trace
marked_beside = goes 1 (CompareOf (EntryAt 1 21) 0 (mark_word 1)) (enters 1 (whole_copy 0 1 21) named)

-- Core 0 has read its names; core 1 removes the first of them.
unfoldable pub name_removed : Trace
name_removed = goes 1 (CompareOf (EntryAt 1 0) range_word (mark_word 1)) (enters 1 (Call.Remove 1 0) named)

-- Core 0 has read the word of core 1, which then enters a call.
unfoldable pub other_enters : Trace
other_enters = enters 1 (Call.Look 0) (goes 0 (LoadOf (CoreAt 1)) named)

-- Core 0 has read the clock, which core 1 then raises.
unfoldable pub clock_raised : Trace
clock_raised = goes 1 (AddOf ClockAt 1) (enters 1 (Call.Remove 1 0) (goes 0 (LoadOf ClockAt) named))

-- Core 1 copies to place 20, which it has read.
unfoldable pub target_read : Trace
target_read = loads 1 1 20 (loads 1 1 1 (loads 1 1 0 (loads 1 0 0 (enters 1 (whole_copy 0 1 20) []))))

-- Core 0 removes what place 13 holds.
unfoldable pub removed : Trace
removed = decides 0 (AddOf ClockAt 1) done (loads 0 1 13 (loads 0 1 1 (loads 0 0 0 (enters 0 (Call.Remove 1 13) []))))

-- It then fills the place again,
unfoldable pub filled : Trace
filled =
    decides 0 (StoreOf (EntryAt 1 13) range_word) done
    (loads 0 1 1 (loads 0 1 0 (loads 0 0 0 (enters 0 (whole_copy 0 1 13) (returns 0 done removed)))))

-- and would fill it once more, while core 1 is in a call that began later.
unfoldable pub fills_again : Trace
fills_again = loads 0 1 13 (enters 0 (whole_copy 0 1 13) (enters 1 (Call.Look 0) (returns 0 done filled)))

-- A look goes on to its decision, and to its return.
abbrev pub decided_look : ℕ → Trace → Trace
decided_look c t = decides c (LoadOf (EntryAt 1 0)) range_found (loads c 0 0 t)

abbrev pub looks_up : ℕ → Trace → Trace
looks_up c t = returns c range_found (decided_look c t)

-- Both cores have entered a look, core 0 first; core 1 returns from its own before core 0 goes on.
abbrev pub both_in : Trace
both_in = enters 1 (Call.Look 0) (enters 0 (Call.Look 0) [])

unfoldable pub between : Trace
between = looks_up 0 (looks_up 1 both_in)

-- The two lists of calls of that trace.
abbrev pub both_look : List (List Call)
both_look = (Call.Look 0 ∷ []) ∷ (Call.Look 0 ∷ []) ∷ []

-- Which cores are ready to decide a look: those that have loaded the root's entry.
abbrev pub ready_to_look : Trace → ℕ → Bool
ready_to_look t c = nat_le 2 (steps_in_call t c)
