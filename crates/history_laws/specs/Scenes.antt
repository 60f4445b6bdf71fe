-- Worked traces and states of two cores, at least one for each law of a history: what the laws are seen to refuse.
use Rattle.std.specs.Prelude.{◌∷◌}
use Rattle.kernel_history.specs.{ℕ, pos, false, Bool, [], Option, Some, None, whole_copy, PageFlags, Translation, Call, Nothing, start}
use Rattle.kernel_history.specs.{State, with_core, with_budget, word_of_count, Hold, Unheld, Pinned, Closed, word_of_head, word_of_thread}
use Rattle.kernel_history.specs.{Idle, EntryAt, CountAt, CoreAt, ClockAt, LoadOf, StoreOf, AddOf, two_cores, enters, goes, decides, returns}
use Rattle.kernel_history.specs.{loads, range_word, done, FrameKind, Reply}
use Rattle.state_laws.specs.kernel_rules.specs.{Page, Make}
use Rattle.kernel_history.specs.{Trace.Trace, Scenes.one_step, Scenes.range_found}

-- The word of a count that is held so, with this count and this stamp.
unfoldable pub count_word : Hold → ℕ → ℕ → ℕ
count_word hold count at = word_of_count (record { hold = hold; count = pos count; stamp = at })

-- The word of a head with this mark and this budget.
unfoldable pub head_word : Option ℕ → ℕ → ℕ
head_word mark budget = word_of_head (record { budget = budget; mark = mark; version = 0 })

-- Core 0 carries a call out from entry to return, at its last load, though it may not have reached its places.
abbrev pub carries_out : Call → Trace → Trace
carries_out k t = returns 0 done (decides 0 (LoadOf ClockAt) done (enters 0 k t))

-- calls decided

-- A look that has read both entries of its way makes its last step, and decides nothing.
unfoldable pub looks_on : Trace
looks_on = loads 0 1 0 (loads 0 0 0 (enters 0 (Call.Look 0) []))

-- A look is carried out at that step.
unfoldable pub looked : Trace
looked = decides 0 (LoadOf (EntryAt 1 0)) range_found (loads 0 0 0 (enters 0 (Call.Look 0) []))

-- No core is ready.
abbrev pub none_ready : Trace → ℕ → Bool
none_ready t c = false

-- places

-- Core 1 fills place 20 by a store without a decision, and core 0 reads there what was stored.
unfoldable pub reads_stray : Trace
reads_stray =
    loads 0 1 20 (loads 0 0 0 (enters 0 (Call.Look 20) (goes 1 (StoreOf (EntryAt 1 20) range_word) (enters 1 (whole_copy 0 1 20) []))))

-- Core 0 removes what place 13 holds, while core 1 is in a look.
unfoldable pub removed_beside : Trace
removed_beside =
    decides 0 (AddOf ClockAt 1) done
    (loads 0 1 13 (loads 0 1 1 (loads 0 0 0 (enters 0 (Call.Remove 1 13) (enters 1 (Call.Look 0) [])))))

-- Core 1 stores that it is out, though it is in its call, and core 0 reads this.
unfoldable pub scans_stray : Trace
scans_stray = goes 0 (LoadOf (CoreAt 1)) (goes 1 (StoreOf (CoreAt 1) 0) removed_beside)

-- frames

-- Core 0 makes frame 8 a kernel frame, and a leaf in it, and removes the capability to that; it then enters a retype of the frame, which
-- reads an entry of the leaf.
unfoldable pub leaf_made : Trace
leaf_made =
    returns 0 done (decides 0 (LoadOf (EntryAt 1 20)) done
    (loads 0 1 1 (loads 0 1 0 (loads 0 0 0 (enters 0 (Call.Make Make.Leaf 0 8 1 20)
    (returns 0 done (decides 0 (LoadOf (EntryAt 1 0)) done (loads 0 0 0 (enters 0 (Call.Retype 0 8 FrameKind.Kernel) [])))))))))

unfoldable pub leaf_read : Trace
leaf_read =
    loads 0 8 0 (enters 0 (Call.Retype 0 8 FrameKind.User)
    (returns 0 done (decides 0 (LoadOf (EntryAt 1 20)) done (loads 0 1 1 (loads 0 0 0 (enters 0 (Call.Remove 1 20) leaf_made))))))

-- Core 1 makes frame 8 untyped.
abbrev pub untypes_eight : Trace → Trace
untypes_eight t =
    decides 1 (LoadOf (EntryAt 1 0)) done (loads 1 0 0 (enters 1 (Call.Retype 0 8 FrameKind.Untyped) t))

unfoldable pub leaf_untyped : Trace
leaf_untyped = untypes_eight leaf_read

-- Core 0 makes frame 8 a user frame, and enters a further retype of it, which acquires its count of the frame; core 1 makes the frame
-- untyped.
unfoldable pub count_acquired : Trace
count_acquired =
    goes 0 (StoreOf (CountAt 8 0) (count_word (Pinned 0) 0 0)) (enters 0 (Call.Retype 0 8 FrameKind.Kernel)
    (returns 0 done (decides 0 (LoadOf (EntryAt 1 0)) done (loads 0 0 0 (enters 0 (Call.Retype 0 8 FrameKind.User) [])))))

unfoldable pub counted_untyped : Trace
counted_untyped = untypes_eight count_acquired

-- Core 0 would make frame 1 untyped, to which the table's link is a reference.
unfoldable pub leaf_one_untyped : Trace
leaf_one_untyped = decides 0 (LoadOf ClockAt) done (enters 0 (Call.Retype 0 1 FrameKind.Untyped) [])

-- counts: there are two references to frame 0, and none to frame 8

-- A copy stores that there are five references to frame 0,
unfoldable pub counts_five : Trace
counts_five = one_step (whole_copy 1 1 20) (StoreOf (CountAt 0 0) (count_word Unheld 5 0))

-- and one stores a stamp that no clock has shown.
unfoldable pub dates_early : Trace
dates_early = one_step (whole_copy 1 1 20) (StoreOf (CountAt 0 0) (count_word Unheld 2 5))

-- A copy that holds the count is carried out, and its word shows already what it has still to add.
unfoldable pub counts_twice : Trace
counts_twice =
    decides 0 (LoadOf (EntryAt 1 20)) done
    (goes 0 (StoreOf (CountAt 0 0) (count_word (Pinned 0) 3 0)) (loads 0 1 1 (loads 0 0 0 (enters 0 (whole_copy 1 1 20) []))))

-- A retype to untyped freezes the counts of frame 8, of which the first shows a reference,
unfoldable pub freezes_one : Trace
freezes_one = one_step (Call.Retype 0 8 FrameKind.Untyped) (StoreOf (CountAt 8 0) (count_word (Closed 0) 1 0))

unfoldable pub freezes_both : Trace
freezes_both = goes 0 (StoreOf (CountAt 8 1) (count_word (Closed 0) 0 0)) freezes_one

-- and a copy freezes that of frame 0.
unfoldable pub copy_freezes : Trace
copy_freezes = one_step (whole_copy 1 1 20) (StoreOf (CountAt 0 0) (count_word (Closed 0) 2 0))

-- A removal of the capability to frame 7 holds its count of the frame as it is carried out; it is to store there the stamp that it draws.
unfoldable pub draws_held : Trace
draws_held =
    decides 0 (AddOf ClockAt 1) done
    (goes 0 (StoreOf (CountAt 7 0) (count_word (Pinned 0) 2 0)) (loads 0 1 13 (loads 0 1 1 (loads 0 0 0 (enters 0 (Call.Remove 1 13) [])))))

-- translations

abbrev pub no_flags : PageFlags
no_flags = record { 0 = 0 }

-- A translation of page 0 to frame 8, which is untyped at the start; and the start, but that core 0 has cached it.
abbrev pub to_eight : Translation
to_eight = record { pages = 2; page = 0; frame = 8; flags = no_flags }

unfoldable pub cached_eight : State
cached_eight = with_core (start two_cores) 0 (record ((start two_cores).core 0) { cached = to_eight ∷ [] })

-- A touch answers frame 9, which is untyped.
unfoldable pub touches_nine : Trace
touches_nine = decides 0 (LoadOf ClockAt) (Reply.Ok (Page 9 no_flags)) (enters 0 (Call.Touch 0) [])

-- components

-- Core 0 kills component 3, whose word says still that it lives.
unfoldable pub killed : Trace
killed = decides 0 (LoadOf (EntryAt 1 3)) done (loads 0 0 0 (enters 0 (Call.Kill 3) []))

-- Core 0 makes a gate to component 3, and kills the component; it would then go through the gate, or look.
unfoldable pub gate_killed : Trace
gate_killed = carries_out (Call.Kill 3) (carries_out (Call.Gate 3 1 20) [])

unfoldable pub goes_through : Trace
goes_through = decides 0 (LoadOf ClockAt) done (enters 0 (Call.Call 20) gate_killed)

unfoldable pub looks_dead : Trace
looks_dead = decides 0 (LoadOf ClockAt) range_found (enters 0 (Call.Look 0) gate_killed)

-- threads

-- The start, but that core 1 runs the thread of core 0.
unfoldable pub both_run : State
both_run = with_core (start two_cores) 1 (record ((start two_cores).core 1) { thread = 4 })

-- A return stores that the thread of its core is idle.
unfoldable pub runs_idle : Trace
runs_idle = one_step Call.Ret (StoreOf (EntryAt 4 0) (word_of_thread (Idle 1)))

-- time: each core has 100 ticks, core 0 in frame 6 and core 1 in frame 7

-- The start, but that core 0 has half its ticks.
unfoldable pub ticks_lost : State
ticks_lost = with_budget (start two_cores) 6 50

-- A tick would be refused with `no-right`, which leaves its ticks uncounted.
unfoldable pub tick_refused : Trace
tick_refused = decides 0 (LoadOf ClockAt) Reply.NoRight (enters 0 (Call.Tick 1) [])

-- A replenishment would be carried out of a core that has spent nothing, which gives nothing back and counts as given.
unfoldable pub replenish_unspent : Trace
replenish_unspent = decides 0 (LoadOf ClockAt) (Reply.Ok Nothing) (enters 0 (Call.Replenish 12 1) [])

-- A tick stores a budget of five, without a mark and with its own, and a list of another quality.
unfoldable pub budget_lost : Trace
budget_lost = one_step (Call.Tick 1) (StoreOf (EntryAt 6 0) (head_word None 5))

unfoldable pub marked_lost : Trace
marked_lost = one_step (Call.Tick 1) (StoreOf (EntryAt 6 0) (head_word (Some 0) 5))

unfoldable pub list_changed : Trace
list_changed = one_step (Call.Tick 1) (StoreOf (EntryAt 6 1) 2)

-- A transfer of ten ticks is carried out, and the head from which it takes them shows already that they are gone.
unfoldable pub taken_early : Trace
taken_early =
    decides 0 (LoadOf (EntryAt 1 13)) done
    (goes 0 (StoreOf (EntryAt 6 0) (head_word (Some 0) 90)) (loads 0 1 12 (loads 0 0 0 (enters 0 (Call.Transfer 12 13 10) []))))

-- A delegation of ten ticks is carried out, and the head to which it adds them shows twice as many more than before.
unfoldable pub added_twice : Trace
added_twice =
    decides 0 (LoadOf (EntryAt 1 13)) done
    (goes 0 (StoreOf (EntryAt 7 0) (head_word (Some 0) 120)) (loads 0 1 12 (loads 0 0 0 (enters 0 (Call.Delegate 12 13 10) []))))

-- A test is answered with nothing.
unfoldable pub tests_nothing : Trace
tests_nothing = decides 0 (LoadOf ClockAt) done (enters 0 (Call.Test 12 13) [])
